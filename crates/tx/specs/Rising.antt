-- Lists whose members rise strictly, as a test.
use Rattle.std.specs.Prelude.{Bool, true, ◌&&◌, List, [], ◌∷◌}
use Rattle.std.specs.Ordering.{is_lt}
use Rattle.std.specs.declared.cmp.Ordering.{Ordering}

-- each member stands before the next
abbrev pub rises_by : {A : Type 0} → (A → A → Ordering) → List A → Bool
rises_by cmp [] = true
rises_by cmp (x ∷ []) = true
rises_by cmp (x ∷ y ∷ ys) = is_lt (cmp x y) && rises_by cmp (y ∷ ys)
