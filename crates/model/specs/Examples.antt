-- Items, scripts and blocks that serve as worked examples.
use Rattle.std.specs.Prelude.{ℕ, zero, suc, List, [], ◌∷◌, Option, None, Some}
use Rattle.model.specs.Cbor.{Item, Unsigned, map_of, Array, NoItems, NextItem}
use Rattle.model.specs.Script.{Script, RequireAllOf, NoScripts, NextScript, Interval}
use Rattle.model.specs.Block.{Header}

-- a map of two entries, the numbers k to v and l to w
abbrev pub small_map : (k v l w : ℕ) → Item
small_map k v l w = map_of ((Unsigned k, Unsigned v) ∷ (Unsigned l, Unsigned w) ∷ [])

-- an empty array inside n arrays of one member each
unfoldable pub nested : ℕ → Item
nested zero = Array NoItems
nested (suc n) = Array (NextItem (nested n) NoItems)

-- a script that requires all of no scripts, inside n that require all of one
unfoldable pub nested_script : ℕ → Script
nested_script zero = RequireAllOf NoScripts
nested_script (suc n) = RequireAllOf (NextScript (nested_script n) NoScripts)

-- its text: 82 01 81 n times, and 82 01 80
unfoldable pub nested_script_text : ℕ → List ℕ
nested_script_text zero = 0x82 ∷ 0x01 ∷ 0x80 ∷ []
nested_script_text (suc n) = 0x82 ∷ 0x01 ∷ 0x81 ∷ nested_script_text n

-- the interval from a slot on and before another, each where it is given
abbrev pub between : Option ℕ → Option ℕ → Interval
between start end = record { start = start; end = end }

-- the header of a first block, in slot 1
abbrev pub first_header : List ℕ → Header
first_header body_hash = record { number = 1; slot = 1; previous = None; body_hash = body_hash }

-- a header that names a block before it
abbrev pub later_header : ℕ → ℕ → List ℕ → List ℕ → Header
later_header number slot previous body_hash =
    record { number = number; slot = slot; previous = Some previous; body_hash = body_hash }
