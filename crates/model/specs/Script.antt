-- Native scripts (Shelley-MA, multi-signature and time locks).
use Rattle.std.specs.Prelude.{◌≡◌, ℕ, ◌+◌, nat_le, Bool, true, false, ◌&&◌, ◌||◌, if◌then◌else◌, IsTrue, List, []}
use Rattle.std.specs.Prelude.{◌∷◌, length, Option, Some, None, bytes_eq}
use Rattle.std.specs.List.{list_any}
use Rattle.sha2.specs.Sha256.{sha256}
use Rattle.model.specs.Limits.{hash_size}
use Rattle.model.specs.Cbor.{Item, Items, Unsigned, Bytes, Array, NoItems, NextItem, array_of, text_of, Spells}

mutual
  -- what a transaction must show to satisfy the script: a signature by the key of this hash, all, one or
  -- at least a given number of these scripts, or an interval of validity that starts at the slot or later, or
  -- that ends at it or before
  pub data Script : Type 0 where
    RequireSignature : List ℕ → Script
    RequireAllOf : Scripts → Script
    RequireAnyOf : Scripts → Script
    RequireMOf : ℕ → Scripts → Script
    RequireTimeStart : ℕ → Script
    RequireTimeExpire : ℕ → Script

  pub data Scripts : Type 0 where
    NoScripts : Scripts
    NextScript : Script → Scripts → Scripts

-- the item of a script: an array of its kind, 0 to 5, and what the kind has
abbrev mutual
  pub item_of_script : Script → Item
  item_of_script (RequireSignature hash) = array_of (Unsigned 0 ∷ Bytes hash ∷ [])
  item_of_script (RequireAllOf ss) = array_of (Unsigned 1 ∷ Array (items_of_scripts ss) ∷ [])
  item_of_script (RequireAnyOf ss) = array_of (Unsigned 2 ∷ Array (items_of_scripts ss) ∷ [])
  item_of_script (RequireMOf n ss) = array_of (Unsigned 3 ∷ Unsigned n ∷ Array (items_of_scripts ss) ∷ [])
  item_of_script (RequireTimeStart slot) = array_of (Unsigned 4 ∷ Unsigned slot ∷ [])
  item_of_script (RequireTimeExpire slot) = array_of (Unsigned 5 ∷ Unsigned slot ∷ [])

  pub items_of_scripts : Scripts → Items
  items_of_scripts NoScripts = NoItems
  items_of_scripts (NextScript s ss) = NextItem (item_of_script s) (items_of_scripts ss)

-- each key hash has 32 bytes
abbrev mutual
  pub IsScript : Script → Type 0
  IsScript (RequireSignature hash) = length hash ≡ hash_size
  IsScript (RequireAllOf ss) = AreScripts ss
  IsScript (RequireAnyOf ss) = AreScripts ss
  IsScript (RequireMOf n ss) = AreScripts ss
  IsScript (RequireTimeStart slot) = Unit {0}
  IsScript (RequireTimeExpire slot) = Unit {0}

  pub AreScripts : Scripts → Type 0
  AreScripts NoScripts = Unit {0}
  AreScripts (NextScript s ss) = IsScript s × AreScripts ss

-- the bytes are the one text of the script
pub record SpellsScript (script : Script) (bytes : List ℕ) : Type 0 where
  pub shape : IsScript script
  pub text : Spells (item_of_script script) bytes

-- the hash of a script, which is also the policy that it governs: SHA-256 (FIPS 180-4) of a byte 0 and
-- the script's text
unfoldable pub script_hash_of : Script → List ℕ
script_hash_of script = sha256 (0 ∷ text_of (item_of_script script))

-- ---- when a script holds (Allegra's and Mary's multi-signature and time locks)

-- from which slot on a transaction holds, and before which one, each where it is given
pub record Interval : Type 0 where
  pub start : Option ℕ
  pub end : Option ℕ

-- a slot is given, and passes the test
abbrev pub is_given : Option ℕ → (ℕ → Bool) → Bool
is_given None passes = false
is_given (Some slot) passes = passes slot

-- Whether a script holds for a transaction of this interval that the keys of these hashes signed. The slot of the block
-- that the transaction stands in is not asked: it lies in the interval.
abbrev mutual
  pub holds : List (List ℕ) → Interval → Script → Bool
  holds keys interval (RequireSignature hash) = list_any (λ key. bytes_eq key hash) keys
  holds keys interval (RequireAllOf ss) = all_hold keys interval ss
  holds keys interval (RequireAnyOf ss) = one_holds keys interval ss
  holds keys interval (RequireMOf n ss) = nat_le n (how_many_hold keys interval ss)
  holds keys interval (RequireTimeStart slot) = is_given interval.start (λ start. nat_le slot start)
  holds keys interval (RequireTimeExpire slot) = is_given interval.end (λ end. nat_le end slot)

  -- each of the scripts holds
  pub all_hold : List (List ℕ) → Interval → Scripts → Bool
  all_hold keys interval NoScripts = true
  all_hold keys interval (NextScript s ss) = holds keys interval s && all_hold keys interval ss

  -- one of the scripts holds, at least
  pub one_holds : List (List ℕ) → Interval → Scripts → Bool
  one_holds keys interval NoScripts = false
  one_holds keys interval (NextScript s ss) = holds keys interval s || one_holds keys interval ss

  -- how many of the scripts hold, each counted as often as it stands there
  pub how_many_hold : List (List ℕ) → Interval → Scripts → ℕ
  how_many_hold keys interval NoScripts = 0
  how_many_hold keys interval (NextScript s ss) =
      (if holds keys interval s then 1 else 0) + how_many_hold keys interval ss

-- the script holds
abbrev pub Holds : Script → List (List ℕ) → Interval → Type 0
Holds script keys interval = IsTrue (holds keys interval script)
