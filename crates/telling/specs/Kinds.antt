-- The names of what a text may be of.
use Rattle.std.specs.Prelude.{ℕ, Bool, true, false, List, Option, Some, None, codes, bytes_eq, if◌then◌else◌}
use Rattle.telling.specs.declared.kind.Kind.{Kind}
use Rattle.telling.specs.declared.kind.Kind.TheVariants.{Transaction, Block, Script, Value}

abbrev pub kind_named : List ℕ → Option Kind
kind_named name =
    if bytes_eq name (codes "transaction") then Some Transaction
    else if bytes_eq name (codes "block") then Some Block
    else if bytes_eq name (codes "script") then Some Script
    else if bytes_eq name (codes "value") then Some Value
    else None

-- a text of this kind has an identifier
abbrev pub has_identifier : Kind → Bool
has_identifier Transaction = true
has_identifier Block = true
has_identifier Script = true
has_identifier Value = false
