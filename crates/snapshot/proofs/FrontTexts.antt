-- The two laws of reading the first part, and what is found and refused by them.
use Rattle.std.proofs.Common.{◌≡◌, ℕ, ◌≤◌, ◌<◌, ◌^◌, Bool, true, false, eqb, List, [], ◌++◌, length, Option, Some, None, option_map, refl, sym, ap, subst, ◌∙◌, append-nil, arith}
use Rattle.std.specs.Prelude.{◌↔◌, IsTrue, IfSome, IfNone, Result, Ok, Err, OnOk}
use Rattle.std.proofs.lemmas.Bool.{eqb-true}
use Rattle.std.proofs.lemmas.List.{nil_from_length}
use Rattle.model.specs.Limits.{hash_size}
use Rattle.model.specs.Cbor.{text_of, nesting, IsInRange, HasRisingKeys, HasText}
use Rattle.ident.specs.Kinds.{BlockHash}
use Rattle.block.specs.View.{bytes_of}
use Rattle.snapshot.specs.declared.front.Front.{Front as CodeFront}
use Rattle.snapshot.specs.View.{front_view}
use Rattle.model.specs.Block.{item_of_previous}
use Rattle.cbor.proofs.ForCallers.{IsBytes, ReadsItem, as_reads, fixed_reads, unsigned_reads, optional_reads, last_reads, both_reads, array_reads, has_text, text_fits, some_is, AllByRecursion-bytes}
use Rattle.snapshot.specs.Snapshot.{Front, item_of_tip, item_of_front, IsReached, IsFront}
use Rattle.snapshot.specs.Reading.{hash_at, tip_with, tip_at, front_with, front_at}
use Rattle.snapshot.specs.Faults.{SaysFront}

abbrev pub IsSized : Option (List ℕ) → Type 0
IsSized hash = IfSome hash (λ h. length h ≡ hash_size)

hash_reads : ReadsItem item_of_previous IsSized 1 hash_at
unfolding hash_at
hash_reads = optional_reads item_of_previous refl (λ hash. refl) (λ hash len same. absurd (omega (arith, same))) (fixed_reads 0 hash_size (omega arith))

tip_reads : ReadsItem item_of_tip (λ t. IsSized t.hash) 2 tip_at
unfolding tip_at
tip_reads =
    as_reads tip_with item_of_tip (λ t. IsSized t.hash) (λ x p. (refl, p.1.1)) (λ t p. ((t.number, (t.slot, t.hash)), (tt, (tt, p)), refl))
    (array_reads 3 (omega arith) (λ x. refl) (both_reads (unsigned_reads 0) (both_reads (unsigned_reads 0) (last_reads hash_reads))))

record HasSizes (h : Front) : Type 0 where
  hash : IsSized h.tip.hash
  digest : length h.digest ≡ hash_size

front_reads : ReadsItem item_of_front HasSizes 3 front_at
unfolding front_at
front_reads =
    as_reads front_with item_of_front HasSizes (λ x p. (refl, record { hash = p.0; digest = p.1.1.0 }))
    (λ h p. ((h.tip, (h.fees, (h.digest, h.count))), (p.hash, (tt, (p.digest, tt))), refl))
    (array_reads 4 (omega arith) (λ x. refl) (both_reads tip_reads (both_reads (unsigned_reads 1) (both_reads (fixed_reads 1 hash_size (omega arith)) (last_reads (unsigned_reads 1))))))

sized : (number slot fees : ℕ) (hash : Option (List ℕ)) → IsReached number slot fees hash → IsSized hash
sized number slot fees None r = tt
sized number slot fees (Some hash) r = r.3

-- what a part says is read from it
front_again : (part : List ℕ) (h : Front) → SaysFront part h → front_at part ≡ Some (h, [])
front_again part h says =
    let fits = text_fits says.spelled.has_text in
    let sizes : HasSizes h = record { hash = sized h.tip.number h.tip.slot h.fees h.tip.hash says.is_front.reached; digest = says.is_front.digest } in
    ap front_at (says.spelled.spelled ∙ sym (append-nil (text_of (item_of_front h)))) ∙ front_reads.again h [] fits sizes

-- what was read is said, where nothing follows it and a chain can end there
pub front_found : (part rest : List ℕ) (h : Front) → IsBytes part → front_at part ≡ Some (h, rest) → rest ≡ [] → IsFront h → SaysFront part h
front_found part rest h fits e none is =
    let t = front_reads.takes part h rest fits e in
    let text = text_of (item_of_front h) in
    record {
      is_front = is;
      spelled = record { has_text = has_text (omega arith) t.0; spelled = t.0.takes.parts ∙ ap (λ (r : List ℕ). text ++ r) none ∙ append-nil text };
    }

some_pair : (h g : Front) (r s : List ℕ) → (let A : Type 0 = Option (Front × List ℕ) in let x : A = Some (h, r) in let y : A = Some (g, s) in x ≡ y) → (h ≡ g) × (r ≡ s)
some_pair h g r s e =
    let same = some_is (h, r) (g, s) e in
    (ap (λ (x : Front × List ℕ). x.0) same, ap (λ (x : Front × List ℕ). x.1) same)

-- where nothing was read nothing is said
pub no_front : (part : List ℕ) → front_at part ≡ None → (h : Front) → SaysFront part h → ⊥
no_front part none h says = let again = front_again part h says in absurd cc

-- nor where something follows what was read
pub front_followed : (part rest : List ℕ) (h : Front) → front_at part ≡ Some (h, rest) → (rest ≡ [] → ⊥) → (g : Front) → SaysFront part g → ⊥
front_followed part rest h e some g says =
    let same = some_pair h g rest [] (sym e ∙ front_again part g says) in
    some same.1

-- nor where no chain can end there
pub front_not_reached : (part rest : List ℕ) (h : Front) → front_at part ≡ Some (h, rest) → (IsFront h → ⊥) → (g : Front) → SaysFront part g → ⊥
front_not_reached part rest h e none g says =
    let same = some_pair h g rest [] (sym e ∙ front_again part g says) in
    none (subst IsFront (sym same.0) says.is_front)

pub if_none : {A : Type 0} (o : Option A) (P : Type 0) → P → IfNone o P
if_none (Some x) P p = tt
if_none None P p = p

pub not_empty : (rest : List ℕ) (b : Bool) → b ≡ eqb (length rest) 0 → b ≡ false → rest ≡ [] → ⊥
not_empty rest b is not_true none =
    let same : true ≡ false = ap (λ (r : List ℕ). eqb (length r) 0) (sym none) ∙ sym is ∙ not_true in
    absurd cc

pub empty : (rest : List ℕ) (b : Bool) → b ≡ eqb (length rest) 0 → b ≡ true → rest ≡ []
empty rest b is holds = nil_from_length rest (eqb-true (length rest) 0 (sym is ∙ holds))

-- what a test says where it holds, and where it fails
pub holds_if : (b : Bool) (P : Type 0) → IsTrue b ↔ P → b ≡ true → P
holds_if b P says is = says.0 is

pub fails_if : (b : Bool) (P : Type 0) → IsTrue b ↔ P → b ≡ false → P → ⊥
fails_if b P says is p = let t : b ≡ true = says.1 p in absurd cc

-- hashes are bytes
hash_in_range : (hash : Option BlockHash) → IsInRange (item_of_previous (option_map bytes_of hash))
hash_in_range None = tt
hash_in_range (Some hash) = (omega (arith, hash.sized), AllByRecursion-bytes hash.bytes hash.fits)

hash_rises : (hash : Option BlockHash) → HasRisingKeys (item_of_previous (option_map bytes_of hash))
hash_rises None = tt
hash_rises (Some hash) = tt

hash_nests : (hash : Option BlockHash) → nesting (item_of_previous (option_map bytes_of hash)) ≤ 1
hash_nests None = omega arith
hash_nests (Some hash) = omega arith

-- the first part that is written has a text
pub front_has_text : (h : CodeFront) → h.tip.number < 2 ^ 64 → h.tip.slot < 2 ^ 64 → h.fees < 2 ^ 64 → h.count < 2 ^ 64 → HasText (item_of_front (front_view h))
front_has_text h number slot fees count =
    let deep = hash_nests h.tip.hash in
    let len = h.digest.sized in
    record {
      in_range = (omega arith, ((omega arith, (omega (arith, number), (omega (arith, slot), (hash_in_range h.tip.hash, tt)))), (omega (arith, fees), ((omega (arith, len), AllByRecursion-bytes h.digest.bytes h.digest.fits), (omega (arith, count), tt)))));
      rising = ((tt, (tt, (hash_rises h.tip.hash, tt))), (tt, (tt, (tt, tt))));
      nests = omega (arith, deep);
    }

pub on_ok_any : {A E : Type 0} (r : Result A E) (P : Type 0) → P → OnOk r P
on_ok_any (Ok x) P p = p
on_ok_any (Err e) P p = tt
