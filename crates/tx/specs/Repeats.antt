-- What stands in a list more than once.
use Rattle.std.specs.Prelude.{◌≡◌, ℕ, ◌<◌, ◌≤◌, Bool, ◌&&◌, ◌==◌, List, bytes_eq}
use Rattle.std.specs.List.{count_by}
use Rattle.std.specs.Ordering.{is_eq}
use Rattle.std.specs.declared.cmp.Ordering.{Ordering}
use Rattle.std.specs.declared.cmp.Ordering.TheVariants.{Less}
use Rattle.model.specs.Transaction.{Input}

-- more than one of these is the same as it
abbrev pub IsRepeated : {K : Type 0} → (K → K → Bool) → List K → K → Type 0
IsRepeated same ks k = 1 < count_by (same k) ks

-- the least of those that stand there more than once
pub record IsFirstRepeated {K : Type 0} (same : K → K → Bool) (cmp : K → K → Ordering) (ks : List K) (k : K)
    : Type 0 where
  pub repeated : IsRepeated same ks k
  pub least : (j : K) → cmp j k ≡ Less → ¬ IsRepeated same ks j

-- whether two inputs are the same
abbrev pub same_input : Input → Input → Bool
same_input a b = bytes_eq a.transaction b.transaction && (a.index == b.index)

-- the same by an order, in which what ties is the same
abbrev pub IsFirstTie : {K : Type 0} → (K → K → Ordering) → List K → K → Type 0
IsFirstTie cmp ks k = IsFirstRepeated (λ a b. is_eq (cmp a b)) cmp ks k
