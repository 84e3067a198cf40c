-- Numbers that are free, and the heap that keeps them.
use Rattle.std.proofs.Common.{◌≡◌, ◌≢◌, ℕ, zero, suc, ◌+◌, ◌<◌, ◌≤◌, List, [], ◌∷◌, ◌++◌, length, map, Option, Some, None, Bool, true, false, Result, Ok, Err, slice_set, refl, sym, ap, subst, ◌∙◌, inl, inr, arith, eq-eqb, ne_eqb}
use Rattle.std.specs.Prelude.{option_map, IsOk, OnOk, is_some, not}
use Rattle.std.specs.List.{AllByRecursion}
use Rattle.std.specs.List.Sorted.{IsPermutation}
use Rattle.std.specs.Ordering.{is_lt, nat_cmp}
use Rattle.std.specs.declared.cmp.Reverse.{Reverse}
use Rattle.std.proofs.lemmas.Bool.Decides.{eqb_tells}
use Rattle.std.proofs.lemmas.List.Sorted.{sum_by_popped, sum_by_pushed, IsPermutation-refl}
use Rattle.std.proofs.lemmas.Map.Keys.{ge_from_not_lt}
use Rattle.model.specs.Follower.{follower_of, free_id}
use Rattle.followers.specs.declared.place.Place.{Place}
use Rattle.followers.specs.Places.{Places, open_count}
use Rattle.followers.specs.Inside.{free_at, frees, one_if, times}

-- ---- places

pub free_once : (ps : Places) (n : ℕ) → free_at ps n ≤ 1
free_once [] n = omega arith
free_once (None ∷ ps) zero = omega arith
free_once (Some p ∷ ps) zero = omega arith
free_once (None ∷ ps) (suc n) = free_once ps n
free_once (Some p ∷ ps) (suc n) = free_once ps n

-- a number is free or a follower has it
pub free_or_open : (ps : Places) → frees ps + open_count ps ≡ length ps
free_or_open [] = refl
free_or_open (None ∷ ps) = let rest = free_or_open ps in omega arith
free_or_open (Some p ∷ ps) = let rest = free_or_open ps in omega arith

pub free_within : (ps : Places) (n : ℕ) → 1 ≤ free_at ps n → n < length ps
free_within [] n free = absurd (omega arith)
free_within (p ∷ ps) zero free = omega arith
free_within (None ∷ ps) (suc n) free = let below = free_within ps n free in omega arith
free_within (Some p ∷ ps) (suc n) free = let below = free_within ps n free in omega arith

pub set_elsewhere : (ps : Places) (i n : ℕ) (x : Option Place) → i ≢ n → free_at (slice_set ps i x) n ≡ free_at ps n
set_elsewhere [] i n x other = refl
set_elsewhere (p ∷ ps) zero zero x other = absurd (other refl)
set_elsewhere (None ∷ ps) zero (suc n) None other = refl
set_elsewhere (None ∷ ps) zero (suc n) (Some x) other = refl
set_elsewhere (Some p ∷ ps) zero (suc n) None other = refl
set_elsewhere (Some p ∷ ps) zero (suc n) (Some x) other = refl
set_elsewhere (None ∷ ps) (suc i) zero x other = refl
set_elsewhere (Some p ∷ ps) (suc i) zero x other = refl
set_elsewhere (None ∷ ps) (suc i) (suc n) x other = set_elsewhere ps i n x (λ e. other (ap suc e))
set_elsewhere (Some p ∷ ps) (suc i) (suc n) x other = set_elsewhere ps i n x (λ e. other (ap suc e))

pub opened_there : (ps : Places) (i : ℕ) (p : Place) → free_at (slice_set ps i (Some p)) i ≡ 0
opened_there [] i p = refl
opened_there (None ∷ ps) zero p = refl
opened_there (Some q ∷ ps) zero p = refl
opened_there (None ∷ ps) (suc i) p = opened_there ps i p
opened_there (Some q ∷ ps) (suc i) p = opened_there ps i p

pub closed_there : (ps : Places) (i : ℕ) → i < length ps → free_at (slice_set ps i None) i ≡ 1
closed_there [] i below = absurd (omega arith)
closed_there (p ∷ ps) zero below = refl
closed_there (None ∷ ps) (suc i) below = closed_there ps i (omega arith)
closed_there (Some p ∷ ps) (suc i) below = closed_there ps i (omega arith)

pub fewer_free : (ps : Places) (i : ℕ) (p : Place) → 1 ≤ free_at ps i → frees (slice_set ps i (Some p)) + 1 ≡ frees ps
fewer_free [] i p free = absurd (omega arith)
fewer_free (None ∷ ps) zero p free = omega arith
fewer_free (Some q ∷ ps) zero p free = absurd (omega arith)
fewer_free (None ∷ ps) (suc i) p free = let rest = fewer_free ps i p free in omega arith
fewer_free (Some q ∷ ps) (suc i) p free = fewer_free ps i p free

-- what is known of a number of which one is open
pub record IsTaken (ps : Places) (i : ℕ) : Type 0 where
  pub within : i < length ps
  pub not_free : free_at ps i ≡ 0
  pub closed : frees (slice_set ps i None) ≡ frees ps + 1
  pub kept : (q : Place) → frees (slice_set ps i (Some q)) ≡ frees ps
  pub fewer : frees ps < length ps

few_free : (ps : Places) → frees ps ≤ length ps
few_free [] = omega arith
few_free (None ∷ ps) = let rest = few_free ps in omega arith
few_free (Some p ∷ ps) = let rest = few_free ps in omega arith

pub taken_at : (ps : Places) (i : ℕ) (p : Place) → follower_of ps i ≡ Some p → IsTaken ps i
taken_at [] zero p is = absurd (let e : None ≡ Some p = is in cc)
taken_at [] (suc i) p is = absurd (let e : None ≡ Some p = is in cc)
taken_at (None ∷ ps) zero p is = absurd (let e : None ≡ Some p = is in cc)
taken_at (Some q ∷ ps) zero p is = record { within = omega arith; not_free = refl; closed = omega arith; kept = λ r. refl; fewer = let few = few_free ps in omega arith }
taken_at (None ∷ ps) (suc i) p is = let rest = taken_at ps i p is in let a = rest.within in let b = rest.closed in let c = rest.fewer in
    record { within = omega arith; not_free = rest.not_free; closed = omega arith; kept = λ r. ap suc (rest.kept r); fewer = omega arith }
taken_at (Some q ∷ ps) (suc i) p is = let rest = taken_at ps i p is in let a = rest.within in let c = rest.fewer in
    record { within = omega arith; not_free = rest.not_free; closed = rest.closed; kept = rest.kept; fewer = omega arith }

-- another open one at the same number
pub set_open : (ps : Places) (i n : ℕ) (p q : Place) → follower_of ps i ≡ Some p → free_at (slice_set ps i (Some q)) n ≡ free_at ps n
set_open ps i n p q is =
    elim (eqb_tells i n) [
      | inl same ↦ subst (λ m. free_at (slice_set ps i (Some q)) m ≡ free_at ps m) same.1 (opened_there ps i q ∙ sym (taken_at ps i p is).not_free)
      | inr other ↦ set_elsewhere ps i n (Some q) other.1
    ]

pub pushed_free : (ps : Places) (p : Place) (n : ℕ) → free_at (ps ++ Some p ∷ []) n ≡ free_at ps n
pushed_free [] p zero = refl
pushed_free [] p (suc n) = refl
pushed_free (None ∷ ps) p zero = refl
pushed_free (Some q ∷ ps) p zero = refl
pushed_free (None ∷ ps) p (suc n) = pushed_free ps p n
pushed_free (Some q ∷ ps) p (suc n) = pushed_free ps p n

pub pushed_frees : (ps : Places) (p : Place) → frees (ps ++ Some p ∷ []) ≡ frees ps
pushed_frees [] p = refl
pushed_frees (None ∷ ps) p = ap suc (pushed_frees ps p)
pushed_frees (Some q ∷ ps) p = pushed_frees ps p

pub mapped_free : (f : Place → Place) (ps : Places) (n : ℕ) → free_at (map (option_map f) ps) n ≡ free_at ps n
mapped_free f [] n = refl
mapped_free f (None ∷ ps) zero = refl
mapped_free f (Some p ∷ ps) zero = refl
mapped_free f (None ∷ ps) (suc n) = mapped_free f ps n
mapped_free f (Some p ∷ ps) (suc n) = mapped_free f ps n

pub mapped_frees : (f : Place → Place) (ps : Places) → frees (map (option_map f) ps) ≡ frees ps
mapped_frees f [] = refl
mapped_frees f (None ∷ ps) = ap suc (mapped_frees f ps)
mapped_frees f (Some p ∷ ps) = mapped_frees f ps

-- the least number that is free, and none
pub least_free : (ps : Places) (x : ℕ) → 1 ≤ free_at ps x → ((n : ℕ) → 1 ≤ free_at ps n → x ≤ n) → free_id ps ≡ x
least_free [] x free least = absurd (omega arith)
least_free (None ∷ ps) x free least = let at = least 0 (omega arith) in omega arith
least_free (Some p ∷ ps) zero free least = absurd (omega arith)
least_free (Some p ∷ ps) (suc x) free least = ap suc (least_free ps x free (λ n at. let le = least (suc n) at in omega arith))

pub none_free : (ps : Places) → frees ps ≡ 0 → free_id ps ≡ length ps
none_free [] none = refl
none_free (None ∷ ps) none = absurd (omega arith)
none_free (Some p ∷ ps) none = ap suc (none_free ps none)

-- ---- the heap

one_itself : (x : Reverse ℕ) (n : ℕ) → x.0 ≡ n → one_if n x ≡ 1
one_itself x n same = rw (eq-eqb x.0 n same) refl

one_other : (x : Reverse ℕ) (n : ℕ) → x.0 ≢ n → one_if n x ≡ 0
one_other x n other = rw (ne_eqb x.0 n other) refl

times_front : (n : ℕ) (y : Reverse ℕ) (ys : List (Reverse ℕ)) → times n (y ∷ ys) ≡ one_if n y + times n ys
times_front n y ys = sum_by_pushed (one_if n) y ys (y ∷ ys) (IsPermutation-refl (y ∷ ys))

there_in : (xs : List (Reverse ℕ)) (x n : ℕ) → AllByRecursion (λ y. is_lt (nat_cmp y.0 x) ≡ false) xs → 1 ≤ times n xs → x ≤ n
there_in [] x n all some = absurd (omega arith)
there_in (y ∷ ys) x n all some =
    elim (eqb_tells y.0 n) [
      | inl same ↦ let le = ge_from_not_lt y.0 x all.0 in let at = same.1 in omega arith
      | inr other ↦ there_in ys x n all.1 (let front = times_front n y ys in let none = one_other y n other.1 in omega arith)
    ]

-- the number on top is the least one that is free
pub top_is_free : (ps : Places) (old new : List (Reverse ℕ)) (x : Reverse ℕ) → ((n : ℕ) → times n old ≡ free_at ps n) → IsPermutation old (x ∷ new) → 1 ≤ free_at ps x.0
top_is_free ps old new x kept popped =
    let total = sum_by_popped (one_if x.0) x old new popped in
    let one = one_itself x x.0 refl in
    let at = kept x.0 in
    omega arith

pub top_is_least : (ps : Places) (old new : List (Reverse ℕ)) (x : Reverse ℕ) → ((n : ℕ) → times n old ≡ free_at ps n) → IsPermutation old (x ∷ new) → AllByRecursion (λ y. is_lt (nat_cmp y.0 x.0) ≡ false) old → free_id ps ≡ x.0
top_is_least ps old new x kept popped greatest =
    least_free ps x.0 (top_is_free ps old new x kept popped) (λ n at. there_in old x.0 n greatest (let same = kept n in omega arith))

-- what is kept once the top was taken out, and opened
pub kept_popped : (ps : Places) (old new : List (Reverse ℕ)) (x : Reverse ℕ) (p : Place) → ((n : ℕ) → times n old ≡ free_at ps n) → IsPermutation old (x ∷ new) → (n : ℕ) → times n new ≡ free_at (slice_set ps x.0 (Some p)) n
kept_popped ps old new x p kept popped n =
    let total = sum_by_popped (one_if n) x old new popped in
    let at = kept n in
    elim (eqb_tells x.0 n) [
      | inl same ↦
          let one = one_itself x n same.1 in
          let once = free_once ps n in
          let gone : free_at (slice_set ps x.0 (Some p)) n ≡ 0 = subst (λ m. free_at (slice_set ps x.0 (Some p)) m ≡ 0) same.1 (opened_there ps x.0 p) in
          omega arith
      | inr other ↦
          let none = one_other x n other.1 in
          let stays = set_elsewhere ps x.0 n (Some p) other.1 in
          omega arith
    ]

-- and once one more was closed, and put in
pub kept_pushed : (ps : Places) (old new : List (Reverse ℕ)) (x : Reverse ℕ) (p : Place) → follower_of ps x.0 ≡ Some p → ((n : ℕ) → times n old ≡ free_at ps n) → IsPermutation (x ∷ old) new → (n : ℕ) → times n new ≡ free_at (slice_set ps x.0 None) n
kept_pushed ps old new x p is kept pushed n =
    let total = sum_by_pushed (one_if n) x old new pushed in
    let at = kept n in
    let taken = taken_at ps x.0 p is in
    elim (eqb_tells x.0 n) [
      | inl same ↦
          let one = one_itself x n same.1 in
          let before : free_at ps n ≡ 0 = subst (λ m. free_at ps m ≡ 0) same.1 taken.not_free in
          let now : free_at (slice_set ps x.0 None) n ≡ 1 = subst (λ m. free_at (slice_set ps x.0 None) m ≡ 1) same.1 (closed_there ps x.0 taken.within) in
          omega arith
      | inr other ↦
          let none = one_other x n other.1 in
          let stays = set_elsewhere ps x.0 n None other.1 in
          omega arith
    ]

pub no_items : {X : Type 0} (xs : List X) → length xs ≡ 0 → xs ≡ []
no_items [] none = refl
no_items (x ∷ xs) none = absurd (omega arith)

-- one that is there, by the test that it isn't none
pub some_place : {X : Type 0} (o : Option X) (answer : Bool) → is_some o ≡ not answer → answer ≡ false → (x : X) × (o ≡ Some x)
some_place None true says is = absurd (let e : true ≡ false = is in cc)
some_place None false says is = absurd (let e : false ≡ true = says in cc)
some_place (Some x) answer says is = (x, refl)

pub on_ok : {X E : Type 0} (result : Result X E) (P : Type 0) → IsOk result → OnOk result P → P
on_ok (Ok x) P ok p = p
on_ok (Err e) P ok p = absurd (let e : false ≡ true = ok in cc)
