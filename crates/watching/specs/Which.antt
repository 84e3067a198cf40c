-- Which outputs an index keeps.
use Rattle.std.specs.Prelude.{◌≡◌, ◌≢◌, ◌↔◌, ◌⊎◌, ℕ, pos, Bool, true, false, IsTrue, List, filter, refl}
use mathlib.Core.Logic.{inl, inr}
use base.Stored.{coded_unit}
use Rattle.std.specs.Coded.{Coded, code_by, coded⊎}
use Rattle.std.specs.List.{list_any}
use Rattle.std.specs.FinMap as finite
use Rattle.std.specs.FinSet as set
use Rattle.model.specs.Value.{Named, amount_of, IsValue}
use Rattle.model.specs.Transaction.{Input, Output, address_bytes}
use Rattle.model.specs.Utxo.{Utxo, output_at}
use Rattle.model.specs.Codes.{coded_bytes}
use Rattle.watching.specs.Owned.{owner_cmp, only_if}

-- byte strings, none of them twice
abbrev pub ByteStrings : Type 0
ByteStrings = set.FinSet owner_cmp

-- all outputs; those of these addresses, each by its bytes, which tell its kind and its network too; or those that hold
-- some of what one of these policies has made
pub data Which : Type 0 where
  All : Which
  Addresses : ByteStrings → Which
  Policies : ByteStrings → Which

-- the output is one of them
abbrev pub is_watched : Which → Output → Bool
is_watched All output = true
is_watched (Addresses addresses) output = set.contains addresses (address_bytes output.address)
is_watched (Policies policies) output = list_any (λ p. set.contains policies p.id) output.value.assets

-- it is one of all outputs, it is of one of the addresses, or it holds an amount of an asset of one of the policies
abbrev pub IsWatched : Which → Output → Type 0
IsWatched All output = Unit {0}
IsWatched (Addresses addresses) output = IsTrue (set.contains addresses (address_bytes output.address))
IsWatched (Policies policies) output = (policy : List ℕ) × (name : List ℕ)
    × IsTrue (set.contains policies policy) × (amount_of (Named policy name) output.value ≢ pos 0)

-- WATCHED OUTPUTS
-- Of outputs whose values have a text those are watched that are meant: such a value lists a policy only where it holds
-- some of an asset of it.
abbrev pub WatchedAreMeant : Type 0
WatchedAreMeant = (which : Which) (output : Output) → IsValue output.value
    → IsTrue (is_watched which output) ↔ IsWatched which output

-- those of these outputs that are watched, in their order
abbrev pub watched_outputs : Which → List Output → List Output
watched_outputs which outputs = filter (is_watched which) outputs

-- those of these pairs of which the output is watched, in their order
abbrev pub watched_pairs : Which → List (Input × Output) → List (Input × Output)
watched_pairs which pairs = filter (λ p. is_watched which p.1) pairs

-- the unspent outputs that are watched, each at its input
unfoldable pub watched_among : Which → Utxo → Utxo
watched_among which utxo = finite.from_sorted (watched_pairs which (finite.entries utxo))

-- WATCHED AMONG ALL
-- At each input stands what stands there among all, if that is watched.
abbrev pub WatchedAreLeft : Type 0
WatchedAreLeft = (which : Which) (utxo : Utxo) (input : Input)
    → output_at (watched_among which utxo) input ≡ only_if (is_watched which) (output_at utxo input)

-- all of these are watched
abbrev pub AreWatched : Which → Utxo → Type 0
AreWatched which utxo = watched_among which utxo ≡ utxo

-- all outputs are kept
abbrev pub is_all : Which → Bool
is_all All = true
is_all (Addresses addresses) = false
is_all (Policies policies) = false

-- ALL OUTPUTS
-- Where all outputs are kept, none is left out.
abbrev pub NoneIsLeftOut : Type 0
NoneIsLeftOut =
    ((utxo : Utxo) → watched_among All utxo ≡ utxo) × ((outputs : List Output) → watched_outputs All outputs ≡ outputs)

-- ---- a code

abbrev pub WhichParts : Type 0
WhichParts = Unit {0} ⊎ (ByteStrings ⊎ ByteStrings)

abbrev parts_of : Which → WhichParts
parts_of All = inl tt
parts_of (Addresses addresses) = inr (inl addresses)
parts_of (Policies policies) = inr (inr policies)

abbrev which_from : WhichParts → Which
which_from (inl nothing) = All
which_from (inr (inl addresses)) = Addresses addresses
which_from (inr (inr policies)) = Policies policies

pub which_back : (which : Which) → which_from (parts_of which) ≡ which
which_back All = refl
which_back (Addresses addresses) = refl
which_back (Policies policies) = refl

abbrev pub coded_which : Coded Which
coded_which =
    code_by WhichParts (coded⊎ coded_unit (coded⊎ (set.code coded_bytes) (set.code coded_bytes))) parts_of which_from
    which_back
