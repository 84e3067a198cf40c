-- Maps whose keys are read as bytes.
use Rattle.std.specs.Prelude.{ℕ, List, Option}
use Rattle.std.specs.Ordering.{is_eq, nat_cmp}
use Rattle.std.specs.Cmp.Lexicographic.{slice_cmp}
use Rattle.std.specs.Map.{lookup}
use Rattle.std.specs.BTreeMap.{BTreeMap}

-- the value of a map at the key with these bytes
abbrev pub at_bytes : {K X : Type 0} → (K → List ℕ) → List ℕ → BTreeMap K X → Option X
at_bytes bytes_of bytes m = lookup (λ k. is_eq (slice_cmp nat_cmp bytes (bytes_of k))) m.entries
