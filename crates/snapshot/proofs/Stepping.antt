-- Reading a part with outputs step by step, as a loop does.
use Rattle.std.proofs.Common.{◌≡◌, ◌≢◌, ℕ, ◌+◌, ◌-◌, ◌≤◌, ◌<◌, List, [], ◌∷◌, ◌++◌, length, refl, sym, ap, subst, ◌∙◌, append_assoc, append-nil, arith, inl, inr, Bool, true, false, eqb, Option, Some}
use Rattle.std.specs.List.{AllByRecursion}
use Rattle.std.specs.FinMap as finite
use Rattle.std.proofs.lemmas.Bool.{cases_lt, eqb-true}
use Rattle.std.proofs.lemmas.List.{length-append}
use Rattle.model.specs.Transaction.{Input, Output}
use Rattle.model.proofs.Lists.{all_push}
use Rattle.snapshot.specs.Snapshot.{Front, part_limit, pair_text, texts_of, IsPair, HasNoRoom}
use Rattle.model.specs.Utxo.{Utxo}
use Rattle.snapshot.specs.Begun.{Begun, coin_in, HasRead}
use Rattle.snapshot.specs.Rising.{IsNotAfter}
use Rattle.snapshot.specs.Faults.{HadRoom, ComesTo, IsLaterFault}
use Rattle.snapshot.specs.Steps.{BeginsWithSuch, HasFirstSize, IsNoPair, IsOneRead, IsOneFault, IsRead, IsOutputsFault}
use Rattle.snapshot.specs.declared.fault.SnapshotFault.{SnapshotFault}
use Rattle.snapshot.specs.declared.fault.SnapshotFault.TheVariants as faults
use Rattle.snapshot.proofs.Filling.{Pairs, pair_some, texts-append}
use Rattle.snapshot.proofs.Apart.{pairs_apart}
use Rattle.snapshot.proofs.Resuming.{with_part}

-- nothing yet
pub none_read : (h : Front) (supply : ℕ) (before : Pairs) (part : List ℕ) → IsRead h supply before before part part
none_read h supply before part = record {
  here = [];
  now_is = sym (append-nil before);
  text = refl;
  each = tt;
  counted = λ some. absurd (some refl);
  within = λ some. absurd (some refl);
}

-- one more
pub one_read : (h : Front) (supply : ℕ) (before now new : Pairs) (part rest after : List ℕ) → IsOneRead h supply now new rest after → IsRead h supply before now part rest → IsRead h supply before new part after
one_read h supply before now new part rest after one r =
    let p = one.pair in record {
      here = r.here ++ p ∷ [];
      now_is = one.now_is ∙ ap (λ (ps : Pairs). ps ++ p ∷ []) r.now_is ∙ append_assoc before r.here (p ∷ []);
      text = r.text ∙ ap (λ (t : List ℕ). texts_of r.here ++ t) one.begins.text ∙ sym (append_assoc (texts_of r.here) (pair_text p) after)
          ∙ ap (λ (t : List ℕ). (texts_of r.here ++ t) ++ after) (sym (append-nil (pair_text p))) ∙ ap (λ (t : List ℕ). t ++ after) (sym (texts-append r.here (p ∷ [])));
      each = all_push IsPair r.here p r.each one.begins.is_pair;
      counted = λ some. one.counted;
      within = λ some. one.within;
    }

-- each step leaves fewer bytes
pub rest_falls : (h : Front) (supply : ℕ) (now new : Pairs) (rest after : List ℕ) → IsOneRead h supply now new rest after → length after < length rest
rest_falls h supply now new rest after one =
    let some = pair_some one.pair in
    let size = ap length one.begins.text in
    let long = length-append (pair_text one.pair) after in
    omega (arith, some, size, long)

comes_to : (h : Front) (supply : ℕ) (before now : Pairs) (part rest : List ℕ) (P : Pairs → Input × Output → Type 0) → IsRead h supply before now part rest → BeginsWithSuch rest (λ pair. P now pair) → ComesTo part (λ here next. P (before ++ here) next)
comes_to h supply before now part rest P r such = record {
  here = r.here;
  next = such.pair;
  reaches = record { rest = such.rest; text = r.text ∙ ap (λ (t : List ℕ). texts_of r.here ++ t) such.begins.text; each = r.each; is_pair = such.begins.is_pair };
  holds = subst (λ (ps : Pairs). P ps such.pair) r.now_is such.holds;
}

-- a fault of a step is one of the part
pub step_fault : (h : Front) (supply : ℕ) (before now : Pairs) (part rest : List ℕ) (fault : SnapshotFault) → IsRead h supply before now part rest → rest ≢ [] → IsOneFault h supply now rest fault → IsOutputsFault h supply before part fault
step_fault h supply before now part rest faults.NotAPart r some is = record { here = r.here; rest = rest; text = r.text; each = r.each; stray = some; none = is }
step_fault h supply before now part rest faults.WrongOrder r some is = comes_to h supply before now part rest (λ ps pair. IsNotAfter ps pair.0) r is
step_fault h supply before now part rest faults.TooMany r some is = comes_to h supply before now part rest (λ ps pair. h.count ≤ length ps) r is
step_fault h supply before now part rest faults.CoinsOverSupply r some is = comes_to h supply before now part rest (λ ps pair. supply < coin_in (ps ++ pair ∷ []) + h.fees) r is
step_fault h supply before now part rest faults.OutOfMemory r some is = tt
step_fault h supply before now part rest faults.OtherNetwork r some is = is
step_fault h supply before now part rest faults.RoomLeft r some is = is
step_fault h supply before now part rest faults.Unfinished r some is = is
step_fault h supply before now part rest faults.CoinsMissing r some is = is

-- so it is told of the part
pub outputs_fault : (h : Front) (supply size : ℕ) (before : Pairs) (part : List ℕ) (fault : SnapshotFault) → IsOutputsFault h supply before part fault → IsLaterFault supply size h before part fault
outputs_fault h supply size before part faults.NotAPart is = inr (inr is)
outputs_fault h supply size before part faults.WrongOrder is = is
outputs_fault h supply size before part faults.TooMany is = is
outputs_fault h supply size before part faults.CoinsOverSupply is = is
outputs_fault h supply size before part faults.OutOfMemory is = tt
outputs_fault h supply size before part faults.OtherNetwork is = absurd is
outputs_fault h supply size before part faults.RoomLeft is = absurd is
outputs_fault h supply size before part faults.Unfinished is = is
outputs_fault h supply size before part faults.CoinsMissing is = is

-- ---- the first output

-- where no pair stands first
pub no_first : (h : Front) (supply size : ℕ) (before : Pairs) (part : List ℕ) (fault : SnapshotFault) → IsNoPair part fault → IsLaterFault supply size h before part fault
no_first h supply size before [] faults.NotAPart is = inl refl
no_first h supply size before (b ∷ part) faults.NotAPart is = inr (inr (record { here = []; rest = b ∷ part; text = refl; each = tt; stray = λ none. absurd cc; none = is }))
no_first h supply size before part faults.OutOfMemory is = tt
no_first h supply size before part faults.OtherNetwork is = absurd is
no_first h supply size before part faults.RoomLeft is = absurd is
no_first h supply size before part faults.WrongOrder is = absurd is
no_first h supply size before part faults.TooMany is = absurd is
no_first h supply size before part faults.CoinsOverSupply is = absurd is
no_first h supply size before part faults.Unfinished is = is
no_first h supply size before part faults.CoinsMissing is = is

-- some bytes are left where it stands
first_some : (part : List ℕ) (size : ℕ) → HasFirstSize part size → 0 < size
first_some part size first = let some = pair_some first.pair in let is = first.holds in omega (arith, some, is)

-- the part before had room for it
pub had_room : (part : List ℕ) (first size : ℕ) → HasFirstSize part first → first ≤ part_limit - size → HadRoom size part
had_room part first size f le =
    let some = first_some part first f in
    let is = f.holds in
    record { first = f.pair; reaches = record { rest = f.rest; text = f.begins.text; each = tt; is_pair = f.begins.is_pair }; room = omega (arith, some, is, le) }

same_pair_size : (p q : Input × Output) → p ≡ q → length (pair_text p) ≡ length (pair_text q)
same_pair_size p q e = ap (λ (x : Input × Output). length (pair_text x)) e

-- it had none
pub no_room : (part : List ℕ) (first size : ℕ) (here : Pairs) → HasFirstSize part first → part_limit - size < first → AllByRecursion IsPair here → part ≡ texts_of here ++ [] → HasNoRoom size here
no_room part first size [] f lt each text = tt
no_room part first size (p ∷ here) f lt each text =
    let same = pairs_apart f.pair p f.rest (texts_of here ++ []) f.begins.is_pair each.0 (sym f.begins.text ∙ text ∙ append_assoc (pair_text p) (texts_of here) []) in
    let sizes = same_pair_size f.pair p same.0 in
    let is = f.holds in
    omega (arith, is, sizes, lt)

-- a part with an output has a byte
pub some_part : (part : List ℕ) (first : ℕ) → HasFirstSize part first → part ≢ []
some_part part first f none =
    let some = pair_some f.pair in
    let size = ap length (sym none ∙ f.begins.text) in
    let long = length-append (pair_text f.pair) f.rest in
    omega (arith, some, size, long)

-- what isn't at most is more
pub not_within : (a b : ℕ) → (a ≤ b → ⊥) → b < a
not_within a b over = elim (cases_lt b a) [ inl lt ↦ lt | inr le ↦ absurd (over le) ]

-- ---- the whole part

-- a part was read, where this is what was read before it
pub part_read : (old : Begun) (supply : ℕ) (digest : List ℕ) (front : Option Front) (utxo clone now : Utxo) (size : ℕ) (h : Front) (part : List ℕ) (first : ℕ)
    → (let was : Begun = record { supply = supply; digest = digest; front = front; utxo = utxo; size = size } in was ≡ old) → old.front ≡ Some h → clone ≡ utxo → IsRead h supply (finite.entries clone) (finite.entries now) part [] → length part ≤ part_limit
    → HasFirstSize part first → part_limit - size < first → (read : List (List ℕ)) → HasRead old read → HasRead (record { supply = supply; digest = digest; front = front; utxo = now; size = length part }) (read ++ part ∷ [])
part_read old supply digest front utxo clone now size h part first same is cloned r within f lt =
    let was : Begun = record { supply = supply; digest = digest; front = front; utxo = utxo; size = size } in
    let new : Begun = record { supply = supply; digest = digest; front = front; utxo = now; size = length part } in
    let have : IsRead h supply (finite.entries utxo) (finite.entries now) part [] = subst (λ (u : Utxo). IsRead h supply (finite.entries u) (finite.entries now) part []) cloned r in
    let P : Begun → Type 0 = λ b. b.front ≡ Some h → (read : List (List ℕ)) → HasRead b read → HasRead new (read ++ part ∷ []) in
    subst P same (λ first_said. with_part was new h part first_said refl refl refl refl (some_part part first f) within have (no_room part first size have.here f lt have.each have.text)) is

-- tests of numbers that the code makes
pub not_zero : (b : Bool) (n : ℕ) → b ≡ eqb n 0 → b ≡ false → n ≡ 0 → ⊥
not_zero b n is fails zero-is =
    let same : true ≡ false = ap (λ (k : ℕ). eqb k 0) (sym zero-is) ∙ sym is ∙ fails in
    absurd cc

pub is_zero : (b : Bool) (n : ℕ) → b ≡ eqb n 0 → b ≡ true → n ≡ 0
is_zero b n is holds = eqb-true n 0 (sym is ∙ holds)
