-- The two laws of reading a transaction, and what its public calls promise by them.
use Rattle.std.proofs.Common.{◌≡◌, ℕ, suc, ◌+◌, ◌-◌, ◌≤◌, min, List, [], ◌∷◌, ◌++◌, length, take, map, Some, refl, sym, ap, subst, ◌∙◌, append-nil, arith, Bor, Bool, true, false, eqb}
use Rattle.std.specs.Prelude.{Result, Ok, Err, IfOk, IfErr}
use Rattle.std.specs.List.{AllByRecursion}
use Rattle.std.proofs.lemmas.Bool.{eqb-true}
use Rattle.std.proofs.lemmas.List.{take_at, length-append, nil_from_length}
use Rattle.sha2.specs.Sha256.{sha256}
use Rattle.model.specs.Cbor.{Array, Null, NoItems, NextItem, text_of, items_of, nesting, items_nesting, map_of, HasText}
use Rattle.model.specs.Script.{Script, item_of_script, IsScript}
use Rattle.model.specs.Transaction.{Transaction, KeyWitness, item_of_body, item_of_transaction, IsTransaction, SpellsTransaction, transaction_id_of, size_of}
use Rattle.model.proofs.TransactionTexts.{transactions_apart}
use Rattle.cbor.specs.Reading.{null_at}
use Rattle.cbor.specs.Gives.{Gives, GivesNo, Refuses, IfMalformed, IfWant}
use Rattle.cbor.specs.Shapes.{as_at, array_at, both_at, members_at}
use Rattle.cbor.specs.Texts.{BeginsWithText}
use Rattle.cbor.specs.declared.fault.CborFault.{CborFault}
use Rattle.cbor.specs.declared.fault.CborFault.TheVariants as faults
use Rattle.cbor.proofs.ForCallers.{IsBytes, Fits, bind_some, some_is, null_takes, null_again, TakesItem, ReadsItem, deeper_reads, as_reads, last_reads, both_reads, array_reads, members_takes, has_text, text_fits, reads_found, reads_refused, want_map}
use Rattle.timelock.proofs.ForCallers.{IsWithin}
use Rattle.tx.specs.Bare.{IsBare}
use Rattle.tx.specs.Body.{Body, body_item, IsBody, transaction_with}
use Rattle.tx.specs.BodyReading.{body_at}
use Rattle.tx.specs.TransactionReading.{witnesses_at, nothing_more_at, transaction_of, transaction_at, nested_transaction_at}
use Rattle.tx.specs.WitnessesView.{witness_entries}
use Rattle.tx.proofs.BodyTexts.{body_reads}
use Rattle.tx.proofs.WitnessTexts.{AreWitnesses, AreScripts, witnesses_reads}

-- ---- the parts

-- null
nothing_more_reads : (depth : ℕ) → ReadsItem (λ x. Null) (λ x. Unit {0}) (suc depth) nothing_more_at
unfolding nothing_more_at
nothing_more_reads depth = record {
  takes = λ bytes x rest fits e.
      let n = bind_some (null_at bytes) _ (x, rest) e in
      let taken : TakesItem (suc depth) Null bytes n.0 = record { takes = null_takes bytes n.0 fits n.1; fits = record { in_range = tt; rising = tt }; nests = omega arith } in
      subst (λ (y : Unit {0} × List ℕ). TakesItem (suc depth) Null bytes y.1 × Unit {0}) (some_is (tt, n.0) (x, rest) n.2) (taken, tt);
  again = λ x rest fits p. rw (null_again rest) refl;
}

-- a body with its parts as the transaction has them
body_of : Transaction → Body
body_of t = record { inputs = t.inputs; outputs = t.outputs; fee = t.fee; end = t.end; start = t.start; mint = t.mint }

shapes : (depth : ℕ) (ss : List Script) → AllByRecursion (IsWithin depth) ss → AllByRecursion IsScript ss
shapes depth [] all = tt
shapes depth (s ∷ ss) all = let first = all.0 in (first.shape, shapes depth ss all.1)

-- what is asked of a transaction that is read, whose scripts nest at most so deep
pub record IsTransactionWithin (depth : ℕ) (t : Transaction) : Type 0 where
  pub is_transaction : IsTransaction t
  pub scripts : AllByRecursion (IsWithin depth) t.scripts

-- ---- the whole

pub transaction_reads : (deep depth : ℕ) → 5 ≤ deep → depth ≤ deep → depth ≤ 64 → ReadsItem item_of_transaction (IsTransactionWithin depth) (suc (suc (suc deep))) (transaction_at depth)
unfolding transaction_at body_of
transaction_reads deep depth some le limit =
    as_reads transaction_of item_of_transaction (IsTransactionWithin depth) onto back
    (array_reads 3 (omega arith) (λ x. refl) (both_reads (deeper_reads (suc (suc deep)) (omega (arith, some)) body_reads) (both_reads (witnesses_reads deep depth (omega (arith, some)) le limit) (last_reads (nothing_more_reads (suc deep))))))
  where
    onto : (x : Body × ((List KeyWitness × List Script) × Unit {0})) → IsBody x.0 × ((AreWitnesses x.1.0.0 × AreScripts depth x.1.0.1) × Unit {0}) → (item_of_transaction (transaction_of x) ≡ Array (NextItem (body_item x.0) (NextItem (map_of (witness_entries x.1.0)) (NextItem Null NoItems)))) × IsTransactionWithin depth (transaction_of x)
    onto x p =
        let b = p.0 in
        let w = p.1.0 in
        let is : IsTransaction (transaction_of x) =
        record { inputs = b.inputs; inputs_rise = b.inputs_rise; outputs = b.outputs; outputs_count = b.outputs_count; mint = b.mint; signatures = w.0.0; signatures_rise = w.0.1; scripts = shapes depth x.1.0.1 w.1.0; scripts_rise = w.1.1 } in
        (refl, record { is_transaction = is; scripts = w.1.0 })

    back : (t : Transaction) → IsTransactionWithin depth t → (x : Body × ((List KeyWitness × List Script) × Unit {0})) × (IsBody x.0 × ((AreWitnesses x.1.0.0 × AreScripts depth x.1.0.1) × Unit {0})) × (transaction_of x ≡ t)
    back t p =
        let is = p.is_transaction in (
          (body_of t, ((t.signatures, t.scripts), tt)),
          (record { inputs = is.inputs; inputs_rise = is.inputs_rise; outputs = is.outputs; outputs_count = is.outputs_count; mint = is.mint }, (((is.signatures, is.signatures_rise), (p.scripts, is.scripts_rise)), tt)),
          refl,
        )

-- ---- how deep scripts stand in a transaction

within : (depth : ℕ) (ss : List Script) → AllByRecursion IsScript ss → items_nesting (items_of (map item_of_script ss)) ≤ depth → AllByRecursion (IsWithin depth) ss
within depth [] all le = tt
within depth (s ∷ ss) all le = (record { shape = all.0; nests = omega (arith, le) }, within depth ss all.1 (omega (arith, le)))

scripts_nest : (signatures : List KeyWitness) (ss : List Script) (depth : ℕ) → nesting (map_of (witness_entries (signatures, ss))) ≤ suc (suc depth) → items_nesting (items_of (map item_of_script ss)) ≤ depth
scripts_nest signatures [] depth le = omega arith
scripts_nest [] (s ∷ ss) depth le = omega (arith, le)
scripts_nest (w ∷ ws) (s ∷ ss) depth le = omega (arith, le)

-- the scripts of a transaction that nests at most so deep nest three less
pub is_within : (t : Transaction) (depth : ℕ) → IsTransaction t → nesting (item_of_transaction t) ≤ suc (suc (suc depth)) → IsTransactionWithin depth t
is_within t depth is le =
    let nest : items_nesting (items_of (map item_of_script t.scripts)) ≤ depth = scripts_nest t.signatures t.scripts depth (omega (arith, le)) in
    record { is_transaction = is; scripts = within depth t.scripts is.scripts nest }

-- ---- reading

-- a transaction that was read stands first
pub transaction_found : (bytes : List ℕ) (t : Transaction) (rest : List ℕ) → IsBytes bytes → transaction_at 61 bytes ≡ Some (t, rest) → BeginsWithText (SpellsTransaction t) bytes rest
transaction_found = reads_found (transaction_reads 61 61 (omega arith) (omega arith) (omega arith)) SpellsTransaction (omega arith) (λ t p h. record { shape = p.is_transaction; text = record { has_text = h; spelled = refl } })

-- what a transaction's text has
spelled : (t : Transaction) (text : List ℕ) → SpellsTransaction t text → IsTransactionWithin 61 t × Fits (item_of_transaction t) × (text ≡ text_of (item_of_transaction t))
spelled t text spells =
    let s = spells.text in
    let has = s.has_text in
    (is_within t 61 spells.shape has.nests, text_fits has, s.spelled)

-- where none is read none stands first
pub transaction_refused : (fault : CborFault) (bytes : List ℕ) → Refuses fault (transaction_at 61 bytes) → IfMalformed fault ((t : Transaction) (rest : List ℕ) → BeginsWithText (SpellsTransaction t) bytes rest → ⊥)
transaction_refused = reads_refused (transaction_reads 61 61 (omega arith) (omega arith) (omega arith)) SpellsTransaction spelled

-- a transaction, where one was found
pub first_found : (bytes : List ℕ) → IsBytes bytes → (r : Result (Transaction × Bor (List ℕ)) CborFault) → Gives (λ x. (x.0, x.1.now)) r (transaction_at 61 bytes) → IfOk r (λ x. BeginsWithText (SpellsTransaction x.0) bytes x.1.now)
first_found bytes fits (Ok x) e = transaction_found bytes x.0 x.1.now fits e
first_found bytes fits (Err fault) e = tt

-- that there is none, where none was
pub first_refused : (bytes : List ℕ) (r : Result (Transaction × Bor (List ℕ)) CborFault) → Gives (λ x. (x.0, x.1.now)) r (transaction_at 61 bytes) → IfErr r (λ fault. IfMalformed fault ((t : Transaction) (rest : List ℕ) → BeginsWithText (SpellsTransaction t) bytes rest → ⊥))
first_refused bytes (Ok x) e = tt
first_refused bytes (Err fault) e = transaction_refused fault bytes e

-- bytes that begin with no transaction's text are none
pub whole_refused : (fault : CborFault) (bytes : List ℕ) → IfMalformed fault ((t : Transaction) (rest : List ℕ) → BeginsWithText (SpellsTransaction t) bytes rest → ⊥) → IfMalformed fault ((t : Transaction) → SpellsTransaction t bytes → ⊥)
whole_refused faults.Malformed bytes h = λ t p. h t [] (record { text = bytes; spelled = p; parts = sym (append-nil bytes) })
whole_refused faults.OutOfMemory bytes h = tt

-- where nothing that is read was bare, no bytes that begin with a bare transaction's text were read
first_bare : (bytes : List ℕ) → GivesNo (λ x. IsBare x.0) (transaction_at 61 bytes) → (t : Transaction) (rest : List ℕ) → BeginsWithText (SpellsTransaction t) bytes rest → IsBare t → ⊥
first_bare bytes none t rest b bare =
    let laws = transaction_reads 61 61 (omega arith) (omega arith) (omega arith) in
    let s = spelled t b.text b.spelled in
    none (t, rest) (ap (transaction_at 61) (b.parts ∙ ap (λ (text : List ℕ). text ++ rest) s.2) ∙ laws.again t rest s.1 s.0) bare

pub first_wants : {X : Type 0} (r : Result X CborFault) (bytes : List ℕ) → IfErr r (λ fault. IfWant fault (GivesNo (λ x. IsBare x.0) (transaction_at 61 bytes)))
    → IfErr r (λ fault. IfWant fault ((t : Transaction) (rest : List ℕ) → BeginsWithText (SpellsTransaction t) bytes rest → IsBare t → ⊥))
first_wants (Ok x) bytes w = tt
first_wants (Err fault) bytes w = want_map fault (first_bare bytes) w

-- the same of a transaction that is all of the bytes
pub whole_wants : (fault : CborFault) (bytes : List ℕ) → IfWant fault ((t : Transaction) (rest : List ℕ) → BeginsWithText (SpellsTransaction t) bytes rest → IsBare t → ⊥) → IfWant fault ((t : Transaction) → SpellsTransaction t bytes → IsBare t → ⊥)
whole_wants fault bytes = want_map fault (λ none t p. none t [] (record { text = bytes; spelled = p; parts = sym (append-nil bytes) }))

-- where nothing follows the front is the whole
pub whole_found : (t : Transaction) (bytes rest : List ℕ) (b : Bool) → b ≡ eqb (length rest) 0 → b ≡ true → BeginsWithText (SpellsTransaction t) bytes rest → SpellsTransaction t bytes
whole_found t bytes rest b is empty found =
    let none : rest ≡ [] = nil_from_length rest (eqb-true (length rest) 0 (sym is ∙ empty)) in
    subst (SpellsTransaction t) (sym (append-nil found.text) ∙ ap (λ (r : List ℕ). found.text ++ r) (sym none) ∙ sym found.parts) found.spelled

-- bytes of which only the front is a transaction's text are none
pub more_follows : (bytes : List ℕ) (found : Transaction) (rest : List ℕ) → (rest ≡ [] → ⊥) → BeginsWithText (SpellsTransaction found) bytes rest → (t : Transaction) → SpellsTransaction t bytes → ⊥
more_follows bytes found rest some b t p = some (sym (transactions_apart t found bytes b.text [] rest p b.spelled (append-nil bytes ∙ b.parts)).1)

-- bytes that are not none
pub not_empty : (rest : List ℕ) (b : Bool) → b ≡ eqb (length rest) 0 → b ≡ false → rest ≡ [] → ⊥
not_empty rest b is not_true none =
    let same : true ≡ false = ap (λ (r : List ℕ). eqb (length r) 0) (sym none) ∙ sym is ∙ not_true in
    absurd cc

-- ---- what a transaction keeps

-- it has a text, and the identifier and the size of it
pub record IsKept (t : Transaction) (bytes : List ℕ) (count : ℕ) : Type 0 where
  pub is_transaction : IsTransaction t
  pub has_text : HasText (item_of_transaction t)
  pub id : bytes ≡ transaction_id_of t
  pub size : count ≡ size_of t

-- the text in front of bytes of which these are left
pub front_text : (bytes text rest : List ℕ) → bytes ≡ text ++ rest → (length bytes - length rest ≡ length text) × (take (length bytes - length rest) bytes ≡ text) × (length rest ≤ length bytes)
front_text bytes text rest parts =
    let long : length bytes - length rest ≡ length text = omega (arith, ap length parts ∙ length-append text rest) in
    (long, (λ i. take (long i) (parts i)) ∙ take_at text rest (length text) refl, omega (arith, ap length parts ∙ length-append text rest))

-- a body's text stands before what follows it
pub body_front : (bytes : List ℕ) (body : Body) (rest : List ℕ) → IsBytes bytes → body_at bytes ≡ Some (body, rest) → bytes ≡ text_of (body_item body) ++ rest
body_front bytes body rest fits e = let t = body_reads.takes bytes body rest fits e in let taken = t.0.takes in taken.parts

-- a transaction's text stands before what follows it
pub transaction_front : (depth : ℕ) → depth ≤ 61 → (bytes : List ℕ) (t : Transaction) (rest : List ℕ) → IsBytes bytes → transaction_at depth bytes ≡ Some (t, rest) → bytes ≡ text_of (item_of_transaction t) ++ rest
transaction_front depth le bytes t rest fits e =
    let r = (transaction_reads 61 depth (omega arith) le (omega (arith, le))).takes bytes t rest fits e in
    let taken = r.0.takes in
    taken.parts

pub read_is_kept : (depth : ℕ) → depth ≤ 61 → (bytes : List ℕ) (t : Transaction) (rest : List ℕ) → IsBytes bytes → transaction_at depth bytes ≡ Some (t, rest) → (body hash : List ℕ) (count : ℕ) → body ≡ text_of (item_of_body t) → hash ≡ sha256 body → count ≡ length bytes - length rest → IsKept t hash count
unfolding transaction_id_of size_of
read_is_kept depth le bytes t rest fits e body hash count is hashed counted =
    let r = (transaction_reads 61 depth (omega arith) le (omega (arith, le))).takes bytes t rest fits e in
    let taken = r.0.takes in
    let within = r.1 in
    record {
      is_transaction = within.is_transaction;
      has_text = has_text (omega arith) r.0;
      id = hashed ∙ ap sha256 is;
      size = counted ∙ (front_text bytes (text_of (item_of_transaction t)) rest taken.parts).0;
    }

-- a transaction whose parts were read one after the other
pub transaction_opened : (depth : ℕ) (bytes members : List ℕ) (body : Body) (after_body : List ℕ) (w : List KeyWitness × List Script) (after_witnesses rest : List ℕ) → members_at 3 bytes ≡ Some members → body_at members ≡ Some (body, after_body) → witnesses_at depth after_body ≡ Some (w, after_witnesses) → null_at after_witnesses ≡ Some rest
    → transaction_at depth bytes ≡ Some (transaction_with body w.0 w.1, rest)
unfolding transaction_at as_at array_at both_at nothing_more_at
transaction_opened depth bytes members body after_body w after_witnesses rest m b ws n = rw (m, b, ws, n) refl

-- the members of the array are bytes
pub members_are_bytes : (bytes members : List ℕ) → IsBytes bytes → members_at 3 bytes ≡ Some members → IsBytes members
members_are_bytes bytes members fits e = let t = members_takes 3 bytes members fits e in t.rest_fits

-- ---- for what transactions stand in

-- what is asked of a transaction that nests at most so deep
pub record NestsWithin (depth : ℕ) (t : Transaction) : Type 0 where
  pub is_transaction : IsTransaction t
  pub nests : nesting (item_of_transaction t) ≤ depth

-- a transaction that nests at most so deep, where that is no deeper than any item, and deep enough for a body
pub nested_transaction_reads : (depth : ℕ) → 8 ≤ depth → depth ≤ 64 → ReadsItem item_of_transaction (NestsWithin depth) depth (nested_transaction_at depth)
unfolding nested_transaction_at
nested_transaction_reads depth some le = record {
  takes = λ bytes t rest fits e.
      let r = (transaction_reads (depth - 3) (min depth 64 - 3) (omega (arith, some)) (omega (arith, le)) (omega (arith, le))).takes bytes t rest fits e in
      let item = r.0 in
      let is = r.1 in
      let nests : nesting (item_of_transaction t) ≤ depth = omega (arith, item.nests, some) in
      (record { takes = item.takes; fits = item.fits; nests = nests }, record { is_transaction = is.is_transaction; nests = nests });
  again = λ t rest fits p.
      let same : min depth 64 - 3 ≡ depth - 3 = omega (arith, le) in
      let is = is_within t (min depth 64 - 3) p.is_transaction (omega (arith, p.nests, same, some)) in
      (transaction_reads (depth - 3) (min depth 64 - 3) (omega (arith, some)) (omega (arith, le)) (omega (arith, le))).again t rest fits is;
}
