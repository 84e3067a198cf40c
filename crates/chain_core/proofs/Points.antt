-- The first of some points that is on a chain, found one by one.
use Rattle.std.proofs.Common.{◌≡◌, ℕ, zero, suc, ◌+◌, ◌<◌, ◌≤◌, List, [], ◌∷◌, length, drop, map, Option, Some, None, slice_index_or, refl, sym, ap, subst, inl, inr, arith}
use Rattle.model.specs.Block.{Block}
use Rattle.model.specs.Chain as chain
use Rattle.model.specs.Follower.{IsOn, IsFirstOn}
use Rattle.ident.specs.PointView.{point_of}
use Rattle.ident.specs.declared.point.Point.{Point}

pub first_here : (c : List Block) (ps : List Point) (i : ℕ) (p : Point) → i < length ps → p ≡ slice_index_or ps i p → IsOn c (point_of p) → IsFirstOn c (map point_of (drop i ps)) (Some (point_of p))
first_here c [] i p below is here = absurd (omega arith)
first_here c (q ∷ ps) zero p below is here = let same : point_of p ≡ point_of q = ap point_of is in inl (subst (IsOn c) same here, ap (λ (x : chain.Point). Some x) same)
first_here c (q ∷ ps) (suc i) p below is here = first_here c ps i p (omega arith) is here

later : (c : List Block) (ps : List Point) (i : ℕ) (p : Point) (found : Option chain.Point) → i < length ps → p ≡ slice_index_or ps i p → (IsOn c (point_of p) → ⊥) → IsFirstOn c (map point_of (drop (suc i) ps)) found → IsFirstOn c (map point_of (drop i ps)) found
later c [] i p found below is off first = absurd (omega arith)
later c (q ∷ ps) zero p found below is off first = inr (λ here. off (subst (IsOn c) (sym (ap point_of is)) here), first)
later c (q ∷ ps) (suc i) p found below is off first = later c ps i p found (omega arith) is off first

pub first_later : (c : List Block) (ps : List Point) (i : ℕ) (p : Point) → i < length ps → p ≡ slice_index_or ps i p → (IsOn c (point_of p) → ⊥) → (found : Option chain.Point) → IsFirstOn c (map point_of (drop (i + 1) ps)) found → IsFirstOn c (map point_of (drop i ps)) found
first_later c ps i p below is off found first = later c ps i p found below is off (subst (λ n. IsFirstOn c (map point_of (drop n ps)) found) (let e : i + 1 ≡ suc i = omega arith in e) first)

pub first_nowhere : (c : List Block) (ps : List Point) (i : ℕ) → length ps ≤ i → IsFirstOn c (map point_of (drop i ps)) None
first_nowhere c [] zero past = refl
first_nowhere c [] (suc i) past = refl
first_nowhere c (q ∷ ps) zero past = absurd (omega arith)
first_nowhere c (q ∷ ps) (suc i) past = first_nowhere c ps i (omega arith)
