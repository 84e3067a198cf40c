-- Parts of a stream make its first bytes.
use Rattle.std.proofs.Common.{◌≡◌, ℕ, suc, ◌+◌, ◌-◌, ◌<◌, ◌≤◌, List, [], ◌∷◌, ◌++◌, Option, None, Some, IfSome, length, take, drop, refl, sym, ap, subst, ◌∙◌, arith, append-nil, length-append, length-take-le}
use Rattle.std.proofs.lemmas.List.{drop_all, take_all}
use Rattle.std.specs.Io.{StartsWith}
use Rattle.std.specs.Io.KnownBytes.{Keeps, Consumes, IsAtEnd}
use Rattle.std.specs.Io.BufRead.{DropsConsumable}
use Rattle.std.proofs.KnownBytes.{Consumes-nil, Consumes-kept, Consumes-trans}
use Rattle.std.proofs.BufReadLemmas.{Consumes_shown}
use Rattle.peering.specs.Streams.{TakesPart, PassesOver, HoldsFirst, DropsFirst}

-- what a reader showed, and took up to a count
module _ (a b c : Option (List ℕ)) (limit : Option ℕ) (shown : List ℕ) (n : ℕ) (within : n ≤ length shown)
    (front : IfSome a (λ xs. StartsWith xs shown)) (end : IfSome a (λ xs. length shown ≡ 0 → xs ≡ [])) (kept : Keeps a b)
    (fits : IfSome a (λ _. IfSome limit (λ k. length shown ≤ k))) (drops : DropsConsumable b c limit n) where
  moved : Consumes a c (take n shown)
  moved = (Consumes_shown a b c limit shown n within front end kept fits drops).0

  pub part_taken : (held now : List ℕ) → now ≡ held ++ take n shown → TakesPart (Some n) a c held now
  part_taken held now is = (take n shown, is, length-take-le n shown within, moved)

  pub part_passed : PassesOver (Some n) a c
  part_passed = (take n shown, length-take-le n shown within, moved)

-- nothing was shown, so nothing is left
pub at_end : (a : Option (List ℕ)) (shown : List ℕ) → IfSome a (λ xs. length shown ≡ 0 → xs ≡ []) → length shown ≡ 0 → IsAtEnd a
at_end None shown end none = tt
at_end (Some x) shown end none = end none

-- nothing came, and it is read again
pub nothing_taken : (a b : Option (List ℕ)) (held : List ℕ) → Keeps a b → TakesPart (Some 0) a b held held
nothing_taken a b held kept = ([], sym (append-nil held), refl, Consumes-kept a a b [] (Consumes-nil a) kept)

pub nothing_passed : (a b : Option (List ℕ)) → Keeps a b → PassesOver (Some 0) a b
nothing_passed a b kept = ([], refl, Consumes-kept a a b [] (Consumes-nil a) kept)

-- ---- as many as were wanted

-- the first of two lists that are one behind the other
pub first_of_two : (xs ys : List ℕ) (n : ℕ) → length xs ≡ n → (take n (xs ++ ys) ≡ xs) × (drop n (xs ++ ys) ≡ ys)
first_of_two [] ys n is = (ap (λ (k : ℕ). take k ys) (sym is), ap (λ (k : ℕ). drop k ys) (sym is))
first_of_two (x ∷ xs) ys n is =
    let more = first_of_two xs ys (length xs) refl in
    let same : n ≡ suc (length xs) = sym is in (
      ap (λ (k : ℕ). take k (x ∷ xs ++ ys)) same ∙ ap (λ (l : List ℕ). x ∷ l) more.0,
      ap (λ (k : ℕ). drop k (x ∷ xs ++ ys)) same ∙ more.1,
    )

pub held_all : (a b : Option (List ℕ)) (held : List ℕ) (count : ℕ) → Consumes a b held → length held ≡ count → HoldsFirst count a b held
held_all None b held count consumed is = tt
held_all (Some x) None held count consumed is = absurd consumed
held_all (Some x) (Some y) held count consumed is =
    let split = first_of_two held y count is in
    (sym split.0 ∙ ap (take count) (sym consumed), ap Some (sym split.1 ∙ ap (drop count) (sym consumed)))

-- the stream ended before
pub held_fewer : (a b c : Option (List ℕ)) (held now : List ℕ) (count : ℕ) → Consumes a b held → length held ≤ count → TakesPart None b c held now → HoldsFirst count a c now
held_fewer None b c held now count consumed few ended = tt
held_fewer (Some x) None c held now count consumed few ended = absurd consumed
held_fewer (Some x) (Some y) None held now count consumed few ended = absurd ended.1
held_fewer (Some x) (Some y) (Some z) held now count consumed few ended =
    let whole : x ≡ held = consumed ∙ ap (λ (l : List ℕ). held ++ l) ended.2 ∙ append-nil held in
    let short : length x ≤ count = subst (λ (l : List ℕ). length l ≤ count) (sym whole) few in
    (ended.0 ∙ sym whole ∙ sym (take_all count x short), ap Some (ended.1 ∙ ended.2 ∙ sym (drop_all count x short)))

-- what was held so far of the first bytes
pub record IsHeld (old new : Option (List ℕ)) (held : List ℕ) (count : ℕ) : Type 0 where
  pub consumed : Consumes old new held
  pub few : length held ≤ count

pub none_held : (a : Option (List ℕ)) (held : List ℕ) (count : ℕ) → held ≡ [] → IsHeld a a held count
none_held a held count none = rw none (record { consumed = Consumes-nil a; few = omega arith })

pub more_held : (a b c : Option (List ℕ)) (held now : List ℕ) (count n : ℕ) → IsHeld a b held count → TakesPart (Some n) b c held now → n ≤ count - length held → IsHeld a c now count
more_held a b c held now count n so_far took most =
    let (part, is, long, consumed) = took in
    let many : length now ≡ length held + length part = ap length is ∙ length-append held part in
    record {
      consumed = subst (Consumes a c) (sym is) (Consumes-trans a b c held part so_far.consumed consumed);
      few = omega (arith, so_far.few);
    }

-- ---- the same of what is passed over

-- what was passed over so far
pub record IsPassed (old new : Option (List ℕ)) (count left : ℕ) : Type 0 where
  pub part : List ℕ
  pub consumed : Consumes old new part
  pub long : length part + left ≡ count

pub none_passed : (a : Option (List ℕ)) (count : ℕ) → IsPassed a a count count
none_passed a count = record { part = []; consumed = Consumes-nil a; long = omega arith }

pub more_passed : (a b c : Option (List ℕ)) (count left n : ℕ) → IsPassed a b count left → PassesOver (Some n) b c → n ≤ left → IsPassed a c count (left - n)
more_passed a b c count left n so_far passed most =
    let (part, long, consumed) = passed in record {
      part = so_far.part ++ part;
      consumed = Consumes-trans a b c so_far.part part so_far.consumed consumed;
      long = omega (arith, so_far.long, length-append so_far.part part);
    }

pub passed_all : (a b : Option (List ℕ)) (count left : ℕ) (WereAll : Type 0) → WereAll → IsPassed a b count left → left ≡ 0 → DropsFirst count WereAll a b
passed_all None b count left all_of all so_far none = tt
passed_all (Some x) None count left all_of all so_far none = absurd so_far.consumed
passed_all (Some x) (Some y) count left all_of all so_far none =
    let many : length so_far.part ≡ count = omega (arith, so_far.long) in
    let split = first_of_two so_far.part y count many in
    let long : length x ≡ length so_far.part + length y = ap length so_far.consumed ∙ length-append so_far.part y in
    ((λ _. omega arith, λ _. all), ap Some (sym split.1 ∙ ap (drop count) (sym so_far.consumed)))

pub passed_fewer : (a b c : Option (List ℕ)) (count left : ℕ) (WereAll : Type 0) → (WereAll → ⊥) → IsPassed a b count left → 0 < left → PassesOver None b c → DropsFirst count WereAll a c
passed_fewer None b c count left all_of not_all so_far some ended = tt
passed_fewer (Some x) None c count left all_of not_all so_far some ended = absurd so_far.consumed
passed_fewer (Some x) (Some y) None count left all_of not_all so_far some ended = absurd ended.0
passed_fewer (Some x) (Some y) (Some z) count left all_of not_all so_far some ended =
    let whole : x ≡ so_far.part = so_far.consumed ∙ ap (λ (l : List ℕ). so_far.part ++ l) ended.1 ∙ append-nil so_far.part in
    let short : length x < count = omega (arith, so_far.long, ap length whole) in
    ((λ all. absurd (not_all all), λ long. absurd (omega arith)), ap Some (ended.0 ∙ ended.1 ∙ sym (drop_all count x (omega arith))))
