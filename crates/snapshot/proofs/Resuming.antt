-- Parts after parts: where those that were read end, and how the next one goes on.
use Rattle.std.proofs.Common.{◌≡◌, ◌≢◌, ℕ, ◌+◌, ◌≤◌, List, [], ◌∷◌, ◌++◌, length, Option, Some, None, refl, sym, ap, ap₂, subst, ◌∙◌, append_assoc, append-nil, arith}
use Rattle.std.specs.List.{AllByRecursion}
use Rattle.std.specs.FinMap as finite
use Rattle.snapshot.specs.Snapshot.{Front, part_limit, texts_of, IsPair, HasNoRoom, IsPart, AreParts}
use Rattle.snapshot.specs.Begun.{Begun, coin_in, last_size, HasRead}
use Rattle.snapshot.proofs.Filling.{Pairs, pair_some, nothing_left}
use Rattle.snapshot.specs.Steps.{IsRead}
use Rattle.snapshot.specs.Faults.{SaysFront}
use Rattle.snapshot.proofs.Apart.{texts_apart}

-- nothing has room after as many bytes as a part may have
full_part : (pairs : Pairs) → HasNoRoom part_limit pairs
full_part [] = tt
full_part (p ∷ pairs) = let some = pair_some p in omega (arith, some)

-- where parts with these outputs are followed by another part
pub record Resumes (es read : Pairs) (others : List (List ℕ)) (part : List ℕ) : Type 0 where
  pub mine : Pairs
  pub later : Pairs
  pub split : es ≡ read ++ mine
  pub here : IsPart mine part later
  pub no_room : HasNoRoom (last_size others) mine

same_here : (es read l m : Pairs) (o : List ℕ) → IsPart es o l → IsPart read o m → (mine : Pairs) → l ≡ m ++ mine → es ≡ read ++ mine
same_here es read l m o one too mine e =
    let here = texts_apart one.here too.here one.each too.each (sym one.text ∙ too.text) in
    one.split ∙ ap₂ ◌++◌ here e ∙ sym (append_assoc too.here m mine) ∙ ap (λ (ps : Pairs). ps ++ mine) (sym too.split)

pub resumes : (others : List (List ℕ)) (es read : Pairs) (part : List ℕ) (more : List (List ℕ)) → AreParts es (others ++ part ∷ more) → AreParts read others → Resumes es read others part
resumes [] es read part more all none = record {
  mine = es;
  later = all.0;
  split = ap (λ (ps : Pairs). ps ++ es) (sym none);
  here = all.1;
  no_room = full_part es;
}
resumes (o ∷ []) es read part more all one =
    let nothing : one.0 ≡ [] = one.2 in
    record {
      mine = all.0;
      later = all.2.0;
      split = same_here es read all.0 one.0 o all.1 one.1 all.0 (ap (λ (ps : Pairs). ps ++ all.0) (sym nothing));
      here = all.2.1;
      no_room = all.1.full;
    }
resumes (o ∷ q ∷ others) es read part more all one =
    let r = resumes (q ∷ others) all.0 one.0 part more all.2 one.2 in
    record {
      mine = r.mine;
      later = r.later;
      split = same_here es read all.0 one.0 o all.1 one.1 r.mine r.split;
      here = r.here;
      no_room = r.no_room;
    }

still_no_room : (n : ℕ) (m here : Pairs) → m ≢ [] → HasNoRoom n m → HasNoRoom n (m ++ here)
still_no_room n [] here some full = absurd (some refl)
still_no_room n (p ∷ m) here some full = full

-- parts with one more after them
pub appended : (others : List (List ℕ)) (read here : Pairs) (part : List ℕ) → AreParts read others → here ≢ [] → AllByRecursion IsPair here → part ≡ texts_of here → length part ≤ part_limit → HasNoRoom (last_size others) here → AreParts (read ++ here) (others ++ part ∷ [])
appended [] read here part none some each text within full =
    let is : IsPart (read ++ here) part [] = record {
      here = here;
      some = some;
      split = ap (λ (ps : Pairs). ps ++ here) none ∙ sym (append-nil here);
      each = each;
      text = text;
      within = within;
      full = tt;
    } in
    ([], is, refl)
appended (o ∷ []) read here part one some each text within full =
    let nothing : one.0 ≡ [] = one.2 in
    let first = one.1 in
    let is : IsPart (read ++ here) o here = record {
      here = first.here;
      some = first.some;
      split = ap (λ (ps : Pairs). ps ++ here) (first.split ∙ ap (λ (ps : Pairs). first.here ++ ps) nothing ∙ append-nil first.here);
      each = first.each;
      text = first.text;
      within = first.within;
      full = full;
    } in
    let last : IsPart here part [] = record { here = here; some = some; split = sym (append-nil here); each = each; text = text; within = within; full = tt } in
    (here, is, ([], last, refl))
appended (o ∷ q ∷ others) read here part one some each text within full =
    let first = one.1 in
    let next = one.2.1 in
    let more : one.0 ≢ [] = λ none. nothing_left next.here one.2.0 next.some (sym none ∙ next.split) in
    let is : IsPart (read ++ here) o (one.0 ++ here) = record {
      here = first.here;
      some = first.some;
      split = ap (λ (ps : Pairs). ps ++ here) first.split ∙ append_assoc first.here one.0 here;
      each = first.each;
      text = first.text;
      within = first.within;
      full = still_no_room (length o) one.0 here more first.full;
    } in
    (one.0 ++ here, is, appended (q ∷ others) one.0 here part one.2 some each text within full)

-- how long the last one is then
pub last_is : (others : List (List ℕ)) (part : List ℕ) → last_size (others ++ part ∷ []) ≡ length part
last_is [] part = refl
last_is (o ∷ []) part = refl
last_is (o ∷ q ∷ others) part = last_is (q ∷ others) part

-- the lovelace of outputs and others
pub coins_of_both : (xs ys : Pairs) → coin_in (xs ++ ys) ≡ coin_in xs + coin_in ys
coins_of_both [] ys = omega arith
coins_of_both (x ∷ xs) ys = let rest = coins_of_both xs ys in omega (arith, rest)

pub no_some : (h : Front) → (let A : Type 0 = Option Front in let x : A = None in let y : A = Some h in x ≡ y) → ⊥
no_some h e = absurd cc

pub same_some : (h g : Front) → (let A : Type 0 = Option Front in let x : A = Some h in let y : A = Some g in x ≡ y) → h ≡ g
same_some h g e = cc

some_texts : (here : Pairs) (part : List ℕ) → part ≢ [] → part ≡ texts_of here → here ≢ []
some_texts here part some text none = some (text ∙ ap texts_of none)

-- a part with outputs was read
pub with_part : (old new : Begun) (h : Front) (part : List ℕ) → old.front ≡ Some h → new.front ≡ old.front → new.supply ≡ old.supply → new.digest ≡ old.digest → new.size ≡ length part → part ≢ [] → length part ≤ part_limit
    → (r : IsRead h old.supply (finite.entries old.utxo) (finite.entries new.utxo) part []) → HasNoRoom old.size r.here → (read : List (List ℕ)) → HasRead old read → HasRead new (read ++ part ∷ [])
with_part old new h part is same supply digest size some within r full [] none = absurd (no_some h (sym none.front ∙ is))
with_part old new h part is same supply digest size some within r full (first ∷ others) (g, have) =
    let front : g ≡ h = same_some g h (sym have.front ∙ is) in
    let text = r.text ∙ append-nil (texts_of r.here) in
    let room = subst (λ (n : ℕ). HasNoRoom n r.here) have.size full in
    let parts = appended others (finite.entries old.utxo) r.here part have.outputs (some_texts r.here part some text) r.each text within room in
    let there = some_texts r.here part some text in
    let counted = r.counted there in
    let coins = r.within there in
    let count-is = ap (λ (k : Front). k.count) front in
    let fees-is = ap (λ (k : Front). k.fees) front in (
      g,
      record {
        front = same ∙ have.front;
        is_front = have.is_front;
        digest = have.digest ∙ sym digest;
        spelled = have.spelled;
        outputs = subst (λ (ps : Pairs). AreParts ps (others ++ part ∷ [])) (sym r.now_is) parts;
        size = size ∙ sym (last_is others part);
        counted = omega (arith, counted, count-is);
        within = omega (arith, coins, fees-is, supply);
      },
    )

-- the first part was read
pub with_front : (old new : Begun) (h : Front) (part : List ℕ) → old.front ≡ None → new.front ≡ Some h → new.utxo ≡ old.utxo → new.supply ≡ old.supply → new.digest ≡ old.digest → new.size ≡ old.size → SaysFront part h → h.digest ≡ old.digest → h.fees ≤ old.supply → (read : List (List ℕ)) → HasRead old read → HasRead new (read ++ part ∷ [])
with_front old new h part was is utxo supply digest size says mine fees (first ∷ others) (g, have) = absurd (no_some g (sym was ∙ have.front))
with_front old new h part was is utxo supply digest size says mine fees [] none =
    let nothing : finite.entries new.utxo ≡ [] = ap finite.entries utxo ∙ none.outputs in
    let counted : length (finite.entries new.utxo) ≡ 0 = ap length nothing in
    let coins : coin_in (finite.entries new.utxo) ≡ 0 = ap coin_in nothing in (
      h,
      record {
        front = is;
        is_front = says.is_front;
        digest = mine ∙ sym digest;
        spelled = says.spelled;
        outputs = nothing;
        size = size ∙ none.size;
        counted = omega (arith, counted);
        within = omega (arith, coins, fees, supply);
      },
    )
