-- The outputs of each owner, by the bytes of its address.
use Rattle.std.specs.Prelude.{◌≡◌, ℕ, Bool, List, nat_eq, Option, Some, None, unwrap_or, if◌then◌else◌, bytes_eq}
use Rattle.std.specs.FinMap as finite
use Rattle.std.specs.Ordering.{nat_cmp, eq_by_cmp}
use Rattle.std.specs.declared.cmp.Ordering.{Ordering}
use Rattle.std.specs.Cmp.Lexicographic.{slice_cmp}
use Rattle.model.specs.Transaction.{Input, Output, address_bytes}
use Rattle.model.specs.Utxo.{Utxo, output_at}

-- owners are ordered by the bytes of their addresses
abbrev pub owner_cmp : List ℕ → List ℕ → Ordering
owner_cmp = slice_cmp nat_cmp

-- what each owner has that has something
abbrev pub Owned : Type 0
Owned = finite.FinMap owner_cmp Utxo

-- what an owner has
abbrev pub owned_at : Owned → (owner : List ℕ) → Utxo
owned_at owned owner = unwrap_or (finite.get owned owner) finite.empty

-- an owner has these outputs now, and each other one what it had
abbrev pub IsGiven : (old : Owned) → (owner : List ℕ) → Utxo → (new : Owned) → Type 0
IsGiven old owner outputs new =
    (other : List ℕ) → owned_at new other ≡ (if eq_by_cmp owner_cmp other owner then outputs else owned_at old other)

-- the output, if it passes the test
abbrev pub only_if : (Output → Bool) → Option Output → Option Output
only_if test None = None
only_if test (Some o) = if test o then Some o else None

-- the output, if it is of this owner
abbrev pub only_of : (owner : List ℕ) → Option Output → Option Output
only_of owner output = only_if (λ o. bytes_eq (address_bytes o.address) owner) output

-- each owner has just those of all outputs that are of its address
abbrev pub AreOwned : Owned → (all : Utxo) → Type 0
AreOwned owned all =
    (owner : List ℕ) (input : Input) → output_at (owned_at owned owner) input ≡ only_of owner (output_at all input)

-- with these outputs of an owner; an owner that has nothing isn't kept
abbrev pub with_owned : Owned → (owner : List ℕ) → Utxo → Owned
with_owned owned owner outputs =
    if nat_eq (finite.len outputs) 0 then finite.remove owned owner else finite.insert owned owner outputs
