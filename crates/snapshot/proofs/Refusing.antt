-- A part with a fault begins no state's text after those that were read.
use Rattle.std.proofs.Common.{◌≡◌, ◌≢◌, ℕ, ◌+◌, ◌≤◌, ◌<◌, List, [], ◌∷◌, ◌++◌, length, Option, Some, None, refl, sym, ap, subst, ◌∙◌, append_assoc, arith, inl, inr}
use Rattle.std.specs.Prelude.{Result, Ok, Err, IfErr}
use Rattle.std.specs.List.{AllByRecursion}
use Rattle.std.specs.FinMap as finite
use Rattle.std.proofs.lemmas.List.{length-append}
use Rattle.model.specs.Transaction.{Input, Output}
use Rattle.snapshot.specs.Snapshot.{Snapshot, Front, front_of, pair_text, texts_of, IsPair, HasNoRoom, IsPart, SpellsSnapshot}
use Rattle.snapshot.specs.Begun.{Begun, coin_in, IsReadTo, HasRead}
use Rattle.snapshot.specs.Rising.{IsNotAfter}
use Rattle.snapshot.specs.Faults.{IsFirstFault, IsNoPart, Reaches, HadRoom, ComesTo, IsLaterFault, IsFaultAfter, IsPartFault, UnlessOutOfMemory, BeginsNoText, IsOfNetwork}
use Rattle.snapshot.specs.declared.fault.SnapshotFault.{SnapshotFault}
use Rattle.snapshot.specs.declared.fault.SnapshotFault.TheVariants as faults
use Rattle.snapshot.proofs.Filling.{Pairs, pair_some}
use Rattle.snapshot.proofs.Apart.{pairs_apart, texts_begin}
use Rattle.snapshot.proofs.SnapshotTexts.{one_front}
use Rattle.snapshot.proofs.RisingLemmas.{comes_after}
use Rattle.snapshot.proofs.Resuming.{resumes, coins_of_both, no_some}

-- ---- the first part

first_refuses : (b : Begun) (part : List ℕ) (fault : SnapshotFault) → IsFirstFault b.supply b.digest part fault → (s : Snapshot) (more : List (List ℕ)) → SpellsSnapshot s (part ∷ more) → IsOfNetwork b s → UnlessOutOfMemory fault ⊥
first_refuses b part faults.NotAPart is s more spells holds = is (front_of s) (record { is_front = spells.shape; spelled = spells.text.0 })
first_refuses b part faults.CoinsOverSupply is s more spells holds =
    let same = ap (λ (h : Front). h.fees) (one_front is.front (front_of s) part is.says.spelled spells.text.0) in
    let over = is.over in
    let coins : coin_in (finite.entries s.utxo) + s.fees ≡ b.supply = holds.supply in
    absurd (omega (arith, same, over, coins))
first_refuses b part faults.OtherNetwork is s more spells holds =
    absurd (is.other (ap (λ (h : Front). h.digest) (one_front is.front (front_of s) part is.says.spelled spells.text.0) ∙ holds.digest))
first_refuses b part faults.RoomLeft is s more spells holds = is
first_refuses b part faults.WrongOrder is s more spells holds = is
first_refuses b part faults.TooMany is s more spells holds = is
first_refuses b part faults.Unfinished is s more spells holds = is
first_refuses b part faults.CoinsMissing is s more spells holds = is
first_refuses b part faults.OutOfMemory is s more spells holds = tt

-- ---- the others

-- what follows the outputs that were read, in a state whose text goes on with a part
record GoesOn (b : Begun) (h : Front) (part : List ℕ) (s : Snapshot) : Type 0 where
  front_is : h ≡ front_of s
  mine : Pairs
  later : Pairs
  split : finite.entries s.utxo ≡ finite.entries b.utxo ++ mine
  here : IsPart mine part later
  no_room : HasNoRoom b.size mine

goes_on : (b : Begun) (h : Front) (first : List ℕ) (others : List (List ℕ)) (part : List ℕ) (more : List (List ℕ)) (s : Snapshot) → IsReadTo b h first others → SpellsSnapshot s (first ∷ (others ++ part ∷ more)) → GoesOn b h part s
goes_on b h first others part more s have spells =
    let r = resumes others (finite.entries s.utxo) (finite.entries b.utxo) part more spells.text.1 have.outputs in
    record {
      front_is = one_front h (front_of s) first have.spelled spells.text.0;
      mine = r.mine;
      later = r.later;
      split = r.split;
      here = r.here;
      no_room = subst (λ (n : ℕ). HasNoRoom n r.mine) (sym have.size) r.no_room;
    }

none_here : (here : Pairs) → here ≢ [] → [] ≡ texts_of here → ⊥
none_here [] some e = some refl
none_here (p ∷ here) some e =
    let some-of = pair_some p in
    let long = length-append (pair_text p) (texts_of here) in
    let size = ap length e in
    omega (arith, some-of, long, size)

no_stray : (rest : List ℕ) (more : Pairs) → rest ≢ [] → rest ≡ texts_of more → AllByRecursion IsPair more → ((p : Input × Output) (after : List ℕ) → IsPair p → rest ≡ pair_text p ++ after → ⊥) → ⊥
no_stray rest [] some e each none = some e
no_stray rest (p ∷ more) some e each none = none p (texts_of more) each.0 e

-- a part that comes to a pair has it after the others
record Reached (mine here : Pairs) (next : Input × Output) : Type 0 where
  after : Pairs
  split : mine ≡ here ++ next ∷ after

next_is : (next : Input × Output) (rest : List ℕ) (more : Pairs) → IsPair next → AllByRecursion IsPair more → pair_text next ++ rest ≡ texts_of more → (after : Pairs) × (more ≡ next ∷ after)
next_is next rest [] is each e =
    let some = pair_some next in
    let long = length-append (pair_text next) rest in
    let size = ap length e in
    absurd (omega (arith, some, long, size))
next_is next rest (p ∷ more) is each e =
    let two = pairs_apart next p rest (texts_of more) is each.0 e in
    (more, λ i. sym two.0 i ∷ more)

reached : (mine later here : Pairs) (next : Input × Output) (part : List ℕ) → IsPart mine part later → Reaches part here next → Reached mine here next
reached mine later here next part is to =
    let begins = texts_begin here is.here (pair_text next ++ to.rest) to.each is.each (sym to.text ∙ is.text) in
    let one = next_is next to.rest begins.more to.is_pair begins.each begins.rest_is in
    record {
      after = one.0 ++ later;
      split = is.split ∙ ap (λ (ps : Pairs). ps ++ later) (begins.split ∙ ap (λ (ps : Pairs). here ++ ps) one.1) ∙ append_assoc here (next ∷ one.0) later;
    }

-- the same among all outputs of the state
all_of : (b : Begun) (h : Front) (part : List ℕ) (s : Snapshot) (here : Pairs) (next : Input × Output) → GoesOn b h part s → Reaches part here next → Reached (finite.entries s.utxo) (finite.entries b.utxo ++ here) next
all_of b h part s here next on to =
    let one = reached on.mine on.later here next part on.here to in
    record {
      after = one.after;
      split = on.split ∙ ap (λ (ps : Pairs). finite.entries b.utxo ++ ps) one.split ∙ sym (append_assoc (finite.entries b.utxo) here (next ∷ one.after));
    }

no_part : (b : Begun) (h : Front) (part : List ℕ) (s : Snapshot) → GoesOn b h part s → IsNoPart part → ⊥
no_part b h part s on (inl empty) = none_here on.here.here on.here.some (sym empty ∙ on.here.text)
no_part b h part s on (inr (inl long)) = let within = on.here.within in omega (arith, long, within)
no_part b h part s on (inr (inr stray)) =
    let begins = texts_begin stray.here on.here.here stray.rest stray.each on.here.each (sym stray.text ∙ on.here.text) in
    no_stray stray.rest begins.more stray.stray begins.rest_is begins.each stray.none

had_room : (b : Begun) (h : Front) (part : List ℕ) (s : Snapshot) → GoesOn b h part s → HadRoom b.size part → ⊥
had_room b h part s on room =
    let one = reached on.mine on.later [] room.first part on.here room.reaches in
    let full : HasNoRoom b.size (room.first ∷ one.after) = subst (HasNoRoom b.size) one.split on.no_room in
    let fits = room.room in
    omega (arith, full, fits)

in_order : (b : Begun) (h : Front) (part : List ℕ) (s : Snapshot) → GoesOn b h part s → ComesTo part (λ here next. IsNotAfter (finite.entries b.utxo ++ here) next.0) → ⊥
in_order b h part s on comes =
    let one = all_of b h part s comes.here comes.next on comes.reaches in
    let ends = comes.holds.ends in
    let last : Input × Output = (comes.holds.last, ends.output) in
    let split : finite.entries s.utxo ≡ ends.before ++ last ∷ comes.next ∷ one.after = one.split ∙ ap (λ (ps : Pairs). ps ++ comes.next ∷ one.after) ends.split ∙ append_assoc ends.before (last ∷ []) (comes.next ∷ one.after) in
    comes.holds.not_after (comes_after s.utxo ends.before last comes.next one.after split)

not_too_many : (b : Begun) (h : Front) (part : List ℕ) (s : Snapshot) → GoesOn b h part s → ComesTo part (λ here next. h.count ≤ length (finite.entries b.utxo ++ here)) → ⊥
not_too_many b h part s on comes =
    let one = all_of b h part s comes.here comes.next on comes.reaches in
    let before = finite.entries b.utxo ++ comes.here in
    let counted = ap length one.split ∙ length-append before (comes.next ∷ one.after) in
    let announced = ap (λ (k : Front). k.count) on.front_is ∙ finite.len-entries s.utxo in
    let over = comes.holds in
    omega (arith, counted, announced, over)

not_over : (b : Begun) (h : Front) (part : List ℕ) (s : Snapshot) → GoesOn b h part s → IsOfNetwork b s → ComesTo part (λ here next. b.supply < coin_in ((finite.entries b.utxo ++ here) ++ next ∷ []) + h.fees) → ⊥
not_over b h part s on holds comes =
    let one = all_of b h part s comes.here comes.next on comes.reaches in
    let before = finite.entries b.utxo ++ comes.here in
    let coins : coin_in (finite.entries s.utxo) ≡ coin_in before + coin_in (comes.next ∷ one.after) = ap coin_in one.split ∙ coins_of_both before (comes.next ∷ one.after) in
    let some : coin_in (before ++ comes.next ∷ []) ≡ coin_in before + coin_in (comes.next ∷ []) = coins_of_both before (comes.next ∷ []) in
    let fees = ap (λ (k : Front). k.fees) on.front_is in
    let over = comes.holds in
    let all : coin_in (finite.entries s.utxo) + s.fees ≡ b.supply = holds.supply in
    omega (arith, coins, some, fees, over, all)

later_refuses : (b : Begun) (h : Front) (part : List ℕ) (s : Snapshot) (fault : SnapshotFault) → IsLaterFault b.supply b.size h (finite.entries b.utxo) part fault → GoesOn b h part s → IsOfNetwork b s → UnlessOutOfMemory fault ⊥
later_refuses b h part s faults.NotAPart is on holds = no_part b h part s on is
later_refuses b h part s faults.OtherNetwork is on holds = is
later_refuses b h part s faults.RoomLeft is on holds = had_room b h part s on is
later_refuses b h part s faults.WrongOrder is on holds = in_order b h part s on is
later_refuses b h part s faults.TooMany is on holds = not_too_many b h part s on is
later_refuses b h part s faults.CoinsOverSupply is on holds = not_over b h part s on holds is
later_refuses b h part s faults.Unfinished is on holds = is
later_refuses b h part s faults.CoinsMissing is on holds = is
later_refuses b h part s faults.OutOfMemory is on holds = tt

-- ---- both

after_refuses : (b : Begun) (front : Option Front) (part : List ℕ) (fault : SnapshotFault) → b.front ≡ front → IsFaultAfter front b part fault → (read more : List (List ℕ)) (s : Snapshot) → HasRead b read → SpellsSnapshot s (read ++ part ∷ more) → IsOfNetwork b s → UnlessOutOfMemory fault ⊥
after_refuses b None part fault was is [] more s have spells holds = first_refuses b part fault is s more spells holds
after_refuses b None part fault was is (first ∷ others) more s (h, have) spells holds = absurd (no_some h (sym was ∙ have.front))
after_refuses b (Some h) part fault was is [] more s have spells holds = absurd (no_some h (sym have.front ∙ was))
after_refuses b (Some h) part fault was is (first ∷ others) more s (g, have) spells holds =
    let same : h ≡ g = some_is h g (sym was ∙ have.front) in
    later_refuses b g part s fault (subst (λ (k : Front). IsLaterFault b.supply b.size k (finite.entries b.utxo) part fault) same is) (goes_on b g first others part more s have spells) holds
  where
    some_is : (h g : Front) → (let A : Type 0 = Option Front in let x : A = Some h in let y : A = Some g in x ≡ y) → h ≡ g
    some_is h g e = cc

lifted : (fault : SnapshotFault) {A : Type 0} (P : A → Type 0) → ((a : A) → P a → UnlessOutOfMemory fault ⊥) → UnlessOutOfMemory fault ((a : A) → P a → ⊥)
lifted faults.NotAPart P h = h
lifted faults.OtherNetwork P h = h
lifted faults.RoomLeft P h = h
lifted faults.WrongOrder P h = h
lifted faults.TooMany P h = h
lifted faults.CoinsOverSupply P h = h
lifted faults.Unfinished P h = h
lifted faults.CoinsMissing P h = h
lifted faults.OutOfMemory P h = tt

-- a text that goes on with the part, of a state of the network
record Text (b : Begun) (part : List ℕ) (x : List (List ℕ) × (List (List ℕ) × Snapshot)) : Type 0 where
  have : HasRead b x.0
  spells : SpellsSnapshot x.1.1 (x.0 ++ part ∷ x.1.0)
  holds : IsOfNetwork b x.1.1

unlifted : (fault : SnapshotFault) (b : Begun) (part : List ℕ) → UnlessOutOfMemory fault ((x : List (List ℕ) × (List (List ℕ) × Snapshot)) → Text b part x → ⊥) → UnlessOutOfMemory fault (BeginsNoText b part)
unlifted faults.NotAPart b part h = λ read more s have spells holds. h (read, (more, s)) (record { have = have; spells = spells; holds = holds })
unlifted faults.OtherNetwork b part h = λ read more s have spells holds. h (read, (more, s)) (record { have = have; spells = spells; holds = holds })
unlifted faults.RoomLeft b part h = λ read more s have spells holds. h (read, (more, s)) (record { have = have; spells = spells; holds = holds })
unlifted faults.WrongOrder b part h = λ read more s have spells holds. h (read, (more, s)) (record { have = have; spells = spells; holds = holds })
unlifted faults.TooMany b part h = λ read more s have spells holds. h (read, (more, s)) (record { have = have; spells = spells; holds = holds })
unlifted faults.CoinsOverSupply b part h = λ read more s have spells holds. h (read, (more, s)) (record { have = have; spells = spells; holds = holds })
unlifted faults.Unfinished b part h = λ read more s have spells holds. h (read, (more, s)) (record { have = have; spells = spells; holds = holds })
unlifted faults.CoinsMissing b part h = λ read more s have spells holds. h (read, (more, s)) (record { have = have; spells = spells; holds = holds })
unlifted faults.OutOfMemory b part h = tt

-- PARTS WITH FAULTS BEGIN NO STATE'S TEXT
pub fault_refuses : (b : Begun) (part : List ℕ) (fault : SnapshotFault) → IsPartFault b part fault → UnlessOutOfMemory fault (BeginsNoText b part)
fault_refuses b part fault is =
    unlifted fault b part (lifted fault (Text b part) (λ x t. after_refuses b b.front part fault refl is x.0 x.1.0 x.1.1 t.have t.spells t.holds))

-- ---- as the code goes

-- a fault after what was read is told of the part
pub told : {A : Type 0} (r : Result A SnapshotFault) (b : Begun) (part : List ℕ) (front : Option Front) → b.front ≡ front → IfErr r (IsFaultAfter front b part) → IfErr r (IsPartFault b part)
told r b part front is fault = subst (λ (o : Option Front). IfErr r (IsFaultAfter o b part)) (sym is) fault

pub refused : {A : Type 0} (r : Result A SnapshotFault) (b : Begun) (part : List ℕ) → IfErr r (IsPartFault b part) → IfErr r (λ fault. UnlessOutOfMemory fault (BeginsNoText b part))
refused (Ok x) b part fault = tt
refused (Err f) b part fault = fault_refuses b part f fault
