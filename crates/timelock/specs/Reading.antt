-- Reading a script: what stands first and the bytes after it, or None where no script stands there.
use Rattle.std.specs.Prelude.{ℕ, zero, suc, ◌/◌, min, ◌==◌, if◌then◌else◌, List, [], ◌∷◌, None}
use Rattle.cbor.specs.Reading.{◌>>=◌, guard, head_at, fixed_at}
use Rattle.cbor.specs.Shapes.{Reading, as_at, both_at, list_array_at}
use Rattle.model.specs.Limits.{hash_size}
use Rattle.model.specs.Script.{Script, Scripts, RequireSignature, RequireAllOf, RequireAnyOf, RequireMOf}
use Rattle.model.specs.Script.{RequireTimeStart, RequireTimeExpire, NoScripts, NextScript}

-- a list of scripts, as it stands in another script
abbrev pub scripts_of : List Script → Scripts
scripts_of [] = NoScripts
scripts_of (s ∷ ss) = NextScript s (scripts_of ss)

-- an array of scripts
unfoldable pub scripts_at : Reading Script → Reading Scripts
scripts_at read bytes = as_at scripts_of (list_array_at read) bytes

-- at least a given number of these
abbrev pub m_of : ℕ × Scripts → Script
m_of parts = RequireMOf parts.0 parts.1

-- how many members the array of a script of this kind has
abbrev pub members_of_kind : ℕ → ℕ
members_of_kind kind = if kind == 3 then 3 else 2

-- what stands after the kind of a script, whose own scripts are read so
unfoldable pub of_kind_at : Reading Script → ℕ → Reading Script
of_kind_at read kind bytes =
    if kind == 0 then as_at RequireSignature (fixed_at hash_size) bytes
    else if kind == 1 then as_at RequireAllOf (scripts_at read) bytes
    else if kind == 2 then as_at RequireAnyOf (scripts_at read) bytes
    else if kind == 3 then as_at m_of (both_at (head_at 0) (scripts_at read)) bytes
    else if kind == 4 then as_at RequireTimeStart (head_at 0) bytes
    else if kind == 5 then as_at RequireTimeExpire (head_at 0) bytes
    else None

-- a script, whose own scripts are read so
unfoldable pub script_with : Reading Script → Reading Script
script_with read bytes = do
  count ← head_at 4 bytes
  kind ← head_at 0 count.1
  right ← guard (count.0 == members_of_kind kind.0)
  of_kind_at read kind.0 kind.1

-- a script, of which at most `depth` stand in one another
unfoldable pub script_at : ℕ → Reading Script
script_at zero bytes = None
script_at (suc depth) bytes = script_with (script_at depth) bytes

-- a script that nests at most so deep, and at most as deep as any item: each script nests two deeper than its own
unfoldable pub nested_script_at : ℕ → Reading Script
nested_script_at depth bytes = script_at (min (depth / 2) 32) bytes
