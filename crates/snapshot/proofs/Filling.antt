-- Parts that have as many outputs as they have room for: the same outputs fill the same parts.
use Rattle.std.proofs.Common.{◌≡◌, ◌≢◌, ℕ, zero, suc, ◌+◌, ◌≤◌, ◌<◌, List, [], ◌∷◌, ◌++◌, length, refl, sym, ap, subst, ◌∙◌, append_assoc, arith, inl, inr}
use Rattle.std.specs.List.{AllByRecursion}
use Rattle.std.proofs.lemmas.List.{length-append}
use Rattle.std.proofs.lemmas.Bool.{cases_lt}
use Rattle.model.specs.Cbor.{head}
use Rattle.model.specs.Transaction.{Input, Output}
use Rattle.snapshot.specs.Snapshot.{part_limit, pair_text, texts_of, IsPair, HasNoRoom, IsPart, AreParts}
use Rattle.snapshot.specs.Laws.{FitsAPart}

abbrev pub Pairs : Type 0
Pairs = List (Input × Output)

-- each pair has a byte
pub pair_some : (p : Input × Output) → 0 < length (pair_text p)
unfolding pair_text head
pair_some p = omega arith

pub texts-append : (xs ys : Pairs) → texts_of (xs ++ ys) ≡ texts_of xs ++ texts_of ys
texts-append [] ys = refl
texts-append (x ∷ xs) ys = ap (λ (t : List ℕ). pair_text x ++ t) (texts-append xs ys) ∙ sym (append_assoc (pair_text x) (texts_of xs) (texts_of ys))

-- how long the texts of these are
pub texts_size : (x : Input × Output) (xs : Pairs) → length (texts_of (x ∷ xs)) ≡ length (pair_text x) + length (texts_of xs)
texts_size x xs = length-append (pair_text x) (texts_of xs)

fronts_are : (x y : Input × Output) (xs ys : Pairs) → x ∷ xs ≡ y ∷ ys → (x ≡ y) × (xs ≡ ys)
fronts_are x y xs ys e = (cc, cc)

-- two beginnings of the same outputs that both fit, and have no room for the next, are the same
pub same_front : (t : ℕ) (h l k m : Pairs) → h ++ l ≡ k ++ m → t + length (texts_of h) ≤ part_limit → t + length (texts_of k) ≤ part_limit → HasNoRoom (t + length (texts_of h)) l → HasNoRoom (t + length (texts_of k)) m → (h ≡ k) × (l ≡ m)
same_front t [] l [] m e fits also full too = (refl, e)
same_front t [] l (y ∷ k) m e fits also full too =
    let room : HasNoRoom (t + 0) (y ∷ (k ++ m)) = subst (HasNoRoom (t + 0)) e full in
    let size = texts_size y k in
    absurd (omega (arith, room, size, also))
same_front t (x ∷ h) l [] m e fits also full too =
    let room : HasNoRoom (t + 0) (x ∷ (h ++ l)) = subst (HasNoRoom (t + 0)) (sym e) too in
    let size = texts_size x h in
    absurd (omega (arith, room, size, fits))
same_front t (x ∷ h) l (y ∷ k) m e fits also full too =
    let two = fronts_are x y (h ++ l) (k ++ m) e in
    let one = texts_size x h in
    let other = texts_size y k in
    let same : length (pair_text y) ≡ length (pair_text x) = ap (λ (p : Input × Output). length (pair_text p)) (sym two.0) in
    let a : t + length (texts_of (x ∷ h)) ≡ (t + length (pair_text x)) + length (texts_of h) = omega (arith, one) in
    let b : t + length (texts_of (y ∷ k)) ≡ (t + length (pair_text x)) + length (texts_of k) = omega (arith, other, same) in
    let rest = same_front (t + length (pair_text x)) h l k m two.1 (omega (arith, a, fits)) (omega (arith, b, also)) (subst (λ (n : ℕ). HasNoRoom n l) a full) (subst (λ (n : ℕ). HasNoRoom n m) b too) in
    ((λ i. two.0 i ∷ rest.0 i), rest.1)

-- nothing is left to be put into a part
pub nothing_left : (here later : Pairs) → here ≢ [] → [] ≡ here ++ later → ⊥
nothing_left [] later some e = some refl
nothing_left (x ∷ here) later some e = absurd cc

-- two first parts of the same outputs
pub record SameParts (part other : List ℕ) (later after : Pairs) : Type 0 where
  pub part_is : part ≡ other
  pub later_is : later ≡ after

pub one_part : (pairs : Pairs) (part other : List ℕ) (later after : Pairs) → IsPart pairs part later → IsPart pairs other after → SameParts part other later after
one_part pairs part other later after one too =
    let long : length part ≡ length (texts_of one.here) = ap length one.text in
    let long-2 : length other ≡ length (texts_of too.here) = ap length too.text in
    let same = same_front 0 one.here later too.here after (sym one.split ∙ too.split) (omega (arith, long, one.within)) (omega (arith, long-2, too.within))
    (subst (λ (n : ℕ). HasNoRoom n later) (omega (arith, long)) one.full) (subst (λ (n : ℕ). HasNoRoom n after) (omega (arith, long-2)) too.full) in
    record { part_is = one.text ∙ ap texts_of same.0 ∙ sym too.text; later_is = same.1 }

-- the same outputs have one list of parts
pub parts_once : (pairs : Pairs) (a b : List (List ℕ)) → AreParts pairs a → AreParts pairs b → a ≡ b
parts_once pairs [] [] one too = refl
parts_once pairs [] (q ∷ b) one too = absurd (nothing_left too.1.here too.0 too.1.some (sym one ∙ too.1.split))
parts_once pairs (p ∷ a) [] one too = absurd (nothing_left one.1.here one.0 one.1.some (sym too ∙ one.1.split))
parts_once pairs (p ∷ a) (q ∷ b) one too =
    let same = one_part pairs p q one.0 too.0 one.1 too.1 in
    let others = parts_once one.0 a b one.2 (subst (λ (ps : Pairs). AreParts ps b) (sym same.later_is) too.2) in
    λ i. same.part_is i ∷ others i

-- ---- each list of outputs that fit has parts

-- as many as there is room for, where this many bytes stand there already
record Filled (t : ℕ) (pairs : Pairs) : Type 0 where
  here : Pairs
  later : Pairs
  split : pairs ≡ here ++ later
  each : AllByRecursion IsPair here
  rest : AllByRecursion FitsAPart later
  within : t + length (texts_of here) ≤ part_limit
  full : HasNoRoom (t + length (texts_of here)) later

filled : (t : ℕ) (pairs : Pairs) → t ≤ part_limit → AllByRecursion FitsAPart pairs → Filled t pairs
filled t [] le fit = record { here = []; later = []; split = refl; each = tt; rest = tt; within = omega (arith, le); full = tt }
filled t (p ∷ pairs) le fit =
    elim (cases_lt part_limit (t + length (pair_text p))) [
      | inl lt ↦ record { here = []; later = p ∷ pairs; split = refl; each = tt; rest = fit; within = omega (arith, le); full = omega (arith, lt) }
      | inr room ↦
          let more = filled (t + length (pair_text p)) pairs room fit.1 in
          let size = texts_size p more.here in
          let long : (t + length (pair_text p)) + length (texts_of more.here) ≡ t + length (texts_of (p ∷ more.here)) = omega (arith, size) in
          record {
            here = p ∷ more.here;
            later = more.later;
            split = ap (λ (ps : Pairs). p ∷ ps) more.split;
            each = (fit.0.is_pair, more.each);
            rest = more.rest;
            within = omega (arith, long, more.within);
            full = subst (λ (n : ℕ). HasNoRoom n more.later) long more.full;
          }
    ]

pub some_parts : (n : ℕ) (pairs : Pairs) → length pairs ≤ n → AllByRecursion FitsAPart pairs → (parts : List (List ℕ)) × AreParts pairs parts
some_parts n [] le fit = ([], refl)
some_parts zero (p ∷ pairs) le fit = absurd (omega (arith, le))
some_parts (suc n) (p ∷ pairs) le fit =
    let first = fit.0 in
    let more = filled (length (pair_text p)) pairs first.within fit.1 in
    let counted = ap length more.split ∙ length-append more.here more.later in
    let later = some_parts n more.later (omega (arith, le, counted)) more.rest in
    let size = texts_size p more.here in
    let part : IsPart (p ∷ pairs) (texts_of (p ∷ more.here)) more.later = record {
      here = p ∷ more.here;
      some = λ same. absurd cc;
      split = ap (λ (ps : Pairs). p ∷ ps) more.split;
      each = (first.is_pair, more.each);
      text = refl;
      within = omega (arith, size, more.within);
      full = subst (λ (n : ℕ). HasNoRoom n more.later) (sym size) more.full;
    } in
    (texts_of (p ∷ more.here) ∷ later.0, (more.later, part, later.1))
