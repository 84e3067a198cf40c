-- Entries that are still to come, after a key.
use Rattle.std.specs.Prelude.{Bool, true, List, [], ◌∷◌}
use Rattle.std.specs.declared.cmp.Ordering.{Ordering}
use Rattle.std.specs.declared.option.Option.{Option}
use Rattle.std.specs.declared.option.Option.TheVariants.{None, Some}
use Rattle.std.specs.Ordering.{is_lt}
use Rattle.std.specs.FinMap.Entries.{where_key}
use Rattle.persistent_map.specs.declared.node.Node.{Node}

-- the key comes after the last one; each does where there is no last one
abbrev pub is_after : {K : Type 0} → (K → K → Ordering) → Option K → K → Bool
is_after R None k = true
is_after R (Some last) k = is_lt (R last k)

-- the entries whose keys come after the last one
abbrev pub after : {K V : Type 0} → (K → K → Ordering) → Option K → List (K × V) → List (K × V)
after R last es = where_key R (is_after R last) es

-- the first of a list, where it has one
abbrev pub first_of : {A : Type 0} → List A → Option A
first_of [] = None
first_of (x ∷ xs) = Some x

abbrev pub entry_of : {K V : Type 0} → Node K V → K × V
entry_of n = (n.key, n.value.value)
