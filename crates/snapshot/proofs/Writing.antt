-- Parts that are written: each is the next one.
use Rattle.std.proofs.Common.{◌≡◌, ◌≢◌, ℕ, ◌+◌, ◌≤◌, ◌<◌, List, [], ◌∷◌, ◌++◌, length, Option, Some, None, refl, sym, ap, subst, ◌∙◌, append_assoc, append-nil, arith, Bool, true, false, Bor}
use Rattle.model.specs.Cbor.{Spells}
use Rattle.model.specs.Transaction.{Input, Output}
use Rattle.model.proofs.Lists.{all_push}
use Rattle.snapshot.specs.Snapshot.{Front, part_limit, item_of_front, pair_text, texts_of, IsPair, HasNoRoom, IsPart, AreParts, AreWhole}
use Rattle.snapshot.specs.ToWrite.{ToWrite, AreLeftOf, AreLeft, IsNext, IsFilled, NextIsTooLong}
use Rattle.std.specs.Iterator.{YieldsFirstBy}
use Rattle.std.specs.Bool.{OnTrue, OnFalse}
use Rattle.tx.specs.declared.input.Input.{Input as CodeInput}
use Rattle.tx.specs.declared.output.Output.{Output as CodeOutput}
use Rattle.utxo_rules.specs.Entries.{pair_of}
use Rattle.snapshot.specs.WriterView.{from_next}
use Rattle.snapshot.specs.FaultView.{IfTooLong}
use Rattle.snapshot.specs.declared.fault.WriteFault.{WriteFault}
use Rattle.snapshot.specs.declared.fault.WriteFault.TheVariants as write
use Rattle.snapshot.proofs.Filling.{Pairs, texts-append, texts_size, nothing_left, one_part, pair_some}

-- ---- the first part

-- it is written, and the outputs are left
pub front_next : (old new : ToWrite) (h : Front) (part : List ℕ) → old.front ≡ Some h → new.front ≡ None → new.pairs ≡ old.pairs → Spells (item_of_front h) part → IsNext old new part
front_next old new h part was none pairs spells = record {
  goes_on = λ parts left.
      let others : AreParts new.pairs parts = subst (λ (o : Option Front). AreLeftOf o new.pairs parts) none left in
      subst (λ (o : Option Front). AreLeftOf o old.pairs (part ∷ parts)) (sym was) (spells, subst (λ (ps : Pairs). AreParts ps parts) pairs others);
  only = λ parts left. split parts (subst (λ (o : Option Front). AreLeftOf o old.pairs parts) was left);
}
  where
    split : (parts : List (List ℕ)) → AreWhole h old.pairs parts → (more : List (List ℕ)) × (parts ≡ part ∷ more) × AreLeft new more
    split [] whole = absurd whole
    split (first ∷ others) whole =
        let same : first ≡ part = whole.0.spelled ∙ sym spells.spelled in (
          others,
          (λ i. same i ∷ others),
          subst (λ (o : Option Front). AreLeftOf o new.pairs others) (sym none) (subst (λ (ps : Pairs). AreParts ps others) (sym pairs) whole.1),
        )

-- ---- the others

-- none yet
pub none_filled : (pairs : Pairs) (part : List ℕ) → part ≡ [] → IsFilled pairs pairs part
none_filled pairs part none =
    let size = ap length none in
    record { here = []; split = refl; text = none; each = tt; within = omega (arith, size) }

-- one more
pub one_filled : (before now new : Pairs) (part longer : List ℕ) (p : Input × Output) → now ≡ p ∷ new → longer ≡ part ++ pair_text p → length longer ≤ part_limit → IsPair p → IsFilled before now part → IsFilled before new longer
one_filled before now new part longer p next text within is f = record {
  here = f.here ++ p ∷ [];
  split = f.split ∙ ap (λ (ps : Pairs). f.here ++ ps) next ∙ sym (append_assoc f.here (p ∷ []) new);
  text = text ∙ ap (λ (t : List ℕ). t ++ pair_text p) f.text ∙ ap (λ (t : List ℕ). texts_of f.here ++ t) (sym (append-nil (pair_text p))) ∙ sym (texts-append f.here (p ∷ []));
  each = all_push IsPair f.here p f.each is;
  within = within;
}

-- one that has no room
pub no_more : (now : Pairs) (new : Pairs) (part : List ℕ) (p : Input × Output) → now ≡ p ∷ new → part_limit < length part + length (pair_text p) → HasNoRoom (length part) now
no_more now new part p next full = subst (HasNoRoom (length part)) (sym next) full

pub none_left : (now : Pairs) (n : ℕ) → now ≡ [] → HasNoRoom n now
none_left now n none = subst (HasNoRoom n) (sym none) tt

some_here : (before now : Pairs) (part : List ℕ) (f : IsFilled before now part) → part ≢ [] → f.here ≢ []
some_here before now part f some none = some (f.text ∙ ap texts_of none)

-- a part with outputs that is full is the next one
pub part_next : (old new : ToWrite) (part : List ℕ) → old.front ≡ None → new.front ≡ None → IsFilled old.pairs new.pairs part → HasNoRoom (length part) new.pairs → part ≢ [] → IsNext old new part
part_next old new part was none f full some =
    let is : IsPart old.pairs part new.pairs = record { here = f.here; some = some_here old.pairs new.pairs part f some; split = f.split; each = f.each; text = f.text; within = f.within; full = full } in
    record {
      goes_on = λ parts left.
          let others : AreParts new.pairs parts = subst (λ (o : Option Front). AreLeftOf o new.pairs parts) none left in
          subst (λ (o : Option Front). AreLeftOf o old.pairs (part ∷ parts)) (sym was) (new.pairs, is, others);
      only = λ parts left. only is parts (subst (λ (o : Option Front). AreLeftOf o old.pairs parts) was left);
    }
  where
    only : IsPart old.pairs part new.pairs → (parts : List (List ℕ)) → AreParts old.pairs parts → (more : List (List ℕ)) × (parts ≡ part ∷ more) × AreLeft new more
    only is [] left = absurd (nothing_left is.here new.pairs is.some (sym left ∙ is.split))
    only is (first ∷ others) left =
        let same = one_part old.pairs first part left.0 new.pairs left.1 is in (
          others,
          (λ i. same.part_is i ∷ others),
          subst (λ (o : Option Front). AreLeftOf o new.pairs others) (sym none) (subst (λ (ps : Pairs). AreParts ps others) same.later_is left.2),
        )

-- ---- the end, and outputs that are too long

-- with no output left no part is
pub all_written : (w : ToWrite) → w.front ≡ None → w.pairs ≡ [] → AreLeft w []
all_written w none ended = subst (λ (o : Option Front). AreLeftOf o w.pairs []) (sym none) ended

fits : (p : Input × Output) (pairs here later : Pairs) (part : List ℕ) → part_limit < length (pair_text p) → here ≢ [] → p ∷ pairs ≡ here ++ later → part ≡ texts_of here → length part ≤ part_limit → ⊥
fits p pairs [] later part long some split text within = some refl
fits p pairs (q ∷ here) later part long some split text within =
    let same : length (pair_text p) ≡ length (pair_text q) = ap (λ (x : Input × Output). length (pair_text x)) (first p q pairs (here ++ later) split) in
    let size = texts_size q here in
    let is = ap length text in
    omega (arith, same, size, is, long, within)
  where
    first : (x y : Input × Output) (xs ys : Pairs) → x ∷ xs ≡ y ∷ ys → x ≡ y
    first x y xs ys e = cc

-- an output that is too long is in no part
pub too_long : (w : ToWrite) (p : Input × Output) (pairs : Pairs) → w.front ≡ None → w.pairs ≡ p ∷ pairs → part_limit < length (pair_text p) → (parts : List (List ℕ)) → AreLeft w parts → ⊥
too_long w p pairs none is long parts left = never parts (subst (λ (ps : Pairs). AreParts ps parts) is (subst (λ (o : Option Front). AreLeftOf o w.pairs parts) none left))
  where
    never : (parts : List (List ℕ)) → AreParts (p ∷ pairs) parts → ⊥
    never [] left = absurd cc
    never (part ∷ parts) left = let is = left.1 in fits p pairs is.here left.0 part long is.some is.split is.text is.within

no_texts : (here : Pairs) → [] ≡ texts_of here → here ≡ []
no_texts [] e = refl
no_texts (p ∷ here) e =
    let some = pair_some p in
    let size = texts_size p here in
    let none = ap length e in
    absurd (omega (arith, some, size, none))

-- an empty part has none of the outputs
pub nothing_filled : (old new : ToWrite) (part : List ℕ) → new.front ≡ old.front → IsFilled old.pairs new.pairs part → part ≡ [] → new ≡ old
nothing_filled old new part front f none =
    let here = no_texts f.here (sym none ∙ f.text) in
    let pairs : new.pairs ≡ old.pairs = sym (f.split ∙ ap (λ (ps : Pairs). ps ++ new.pairs) here) in
    λ i. record { front = front i; pairs = pairs i }

-- ---- as the code goes

-- what was to come is the next one and those after it
pub next_taken : (rest new : Pairs) (r : Option (CodeInput × Bor CodeOutput)) → YieldsFirstBy pair_of (λ (entries : Pairs). entries) rest r new → rest ≡ from_next r new
next_taken rest new None steps = steps.0
next_taken rest new (Some entry) steps = steps

pub on_true : (b : Bool) (P : Type 0) → OnTrue b P → b ≡ true → P
on_true true P p is = p
on_true false P p is = absurd cc

pub on_false : (b : Bool) (P : Type 0) → OnFalse b P → b ≡ false → P
on_false true P p is = absurd cc
on_false false P p is = p

stuck : (w : ToWrite) (pairs : Pairs) → w.front ≡ None → w.pairs ≡ pairs → pairs ≢ [] → HasNoRoom 0 pairs → (parts : List (List ℕ)) → AreLeft w parts → ⊥
stuck w [] none is some full = absurd (some refl)
stuck w (p ∷ pairs) none is some full = too_long w p pairs none is (omega (arith, full))

-- an empty part, where an output is left
pub stuck_after : (old new : ToWrite) (part : List ℕ) → old.front ≡ None → new.front ≡ old.front → IsFilled old.pairs new.pairs part → part ≡ [] → HasNoRoom (length part) new.pairs → old.pairs ≢ [] → (parts : List (List ℕ)) → AreLeft old parts → ⊥
stuck_after old new part was front f none full some =
    let same = nothing_filled old new part front f none in
    let size : length part ≡ 0 = ap length none in
    let pairs : new.pairs ≡ old.pairs = ap (λ (w : ToWrite). w.pairs) same in
    stuck old new.pairs was (sym pairs) (λ gone. some (sym pairs ∙ gone)) (subst (λ (n : ℕ). HasNoRoom n new.pairs) size full)

next_too_long : (pairs : Pairs) → pairs ≢ [] → HasNoRoom 0 pairs → NextIsTooLong pairs
next_too_long [] some full = some refl
next_too_long (p ∷ pairs) some full = omega (arith, full)

-- which is too long
pub too_long_after : (old new : ToWrite) (part : List ℕ) → new.front ≡ old.front → IsFilled old.pairs new.pairs part → part ≡ [] → HasNoRoom (length part) new.pairs → old.pairs ≢ [] → NextIsTooLong old.pairs
too_long_after old new part front f none full some =
    let same = nothing_filled old new part front f none in
    let size : length part ≡ 0 = ap length none in
    next_too_long old.pairs some (subst (λ (w : ToWrite). HasNoRoom 0 w.pairs) same (subst (λ (n : ℕ). HasNoRoom n new.pairs) size full))

-- where an output is left not all is written
pub more_left : (w : ToWrite) → w.front ≡ None → w.pairs ≢ [] → AreLeft w [] → ⊥
more_left w none some left = some (subst (λ (o : Option Front). AreLeftOf o w.pairs []) none left)

-- nor where the first part is
pub front_left : (w : ToWrite) (h : Front) → w.front ≡ Some h → AreLeft w [] → ⊥
front_left w h is left = subst (λ (o : Option Front). AreLeftOf o w.pairs []) is left

pub never_too_long : (fault : WriteFault) (P : Type 0) → IfTooLong fault ⊥ → IfTooLong fault P
never_too_long write.TooLong P is = absurd is
never_too_long write.OutOfMemory P is = tt
