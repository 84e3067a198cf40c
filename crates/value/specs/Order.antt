-- The order of assets in a text (RFC 8949, 4.2.1, at keys that are byte strings of one length, or of at most 255
-- bytes): by policy, and of one policy by name.
use Rattle.std.specs.Prelude.{ℕ, List, length}
use Rattle.std.specs.Ordering.{nat_cmp, ordering_then}
use Rattle.std.specs.declared.cmp.Ordering.{Ordering}
use Rattle.std.specs.Cmp.Lexicographic.{slice_cmp}
use Rattle.value.specs.Parts.{AssetQuantity}

-- shorter names first, then by their bytes
abbrev pub name_cmp : List ℕ → List ℕ → Ordering
name_cmp a b = ordering_then (nat_cmp (length a) (length b)) (slice_cmp nat_cmp a b)

-- by policy, and then by name
abbrev pub asset_cmp : {Q : Type 0} → AssetQuantity Q → AssetQuantity Q → Ordering
asset_cmp a b = ordering_then (slice_cmp nat_cmp a.policy b.policy) (name_cmp a.name b.name)
