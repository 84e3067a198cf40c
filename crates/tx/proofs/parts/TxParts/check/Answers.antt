use Rattle.std.proofs.Common.{map, ap, subst, sym, ◌∙◌, arith}
use Rattle.std.specs.Cmp.Lexicographic.{slice_cmp}
use Rattle.std.specs.List.Sorted.{IsStrictlySortedBy}
use Rattle.std.specs.Ordering.{nat_cmp}
use Rattle.std.proofs.lemmas.List.{length-map}
use Rattle.model.specs.Script.{script_hash_of}
use Rattle.model.specs.Transaction.{input_cmp}
use Rattle.tx.specs.Making.{parts_of}
use Rattle.tx.specs.Parts.{keys_of}
use Rattle.tx.specs.Repeats.{IsFirstTie}
use Rattle.tx.specs.View.{input_of, output_of}
use Rattle.tx.proofs.Faults.{input_repeated, no_input_repeated, bytes_repeated, no_bytes_repeated, keys_seen, keys_rise}
use Rattle.tx.proofs.parts.TxParts.check.Goals as goal

pub returns-in-Some-clause-fault : goal.returns-in-Some-clause-fault
returns-in-Some-clause-fault c = input_repeated _ _ (subst (λ is. IsFirstTie input_cmp (map input_of is) (input_of c.in-Some.input.now)) c.deref.ensures.value c.in-Some.ensures.some)

pub returns-then-len-gt-MAX_OUTPUTS-clause-fault : goal.returns-then-len-gt-MAX_OUTPUTS-clause-fault
returns-then-len-gt-MAX_OUTPUTS-clause-fault c =
    let outputs = c.args.self.now.outputs in
    let same = length-map outputs.items output_of in (
      no_input_repeated _ (subst (λ is. IsStrictlySortedBy input_cmp (map input_of is)) c.deref.ensures.value c.in_default.ensures.none),
      omega (arith, same, outputs.ok.0, c.len.ensures, c.if-len-gt-MAX_OUTPUTS.true),
      omega (arith, same, outputs.ok.0, c.len-then-len-gt-MAX_OUTPUTS.ensures),
    )

pub returns-in-Some-first_repeated-clause-fault : goal.returns-in-Some-first_repeated-clause-fault
returns-in-Some-first_repeated-clause-fault c =
    let outputs = c.args.self.now.outputs in
    let same = length-map outputs.items output_of in (
      record {
        inputs = no_input_repeated _ (subst (λ is. IsStrictlySortedBy input_cmp (map input_of is)) c.deref.ensures.value c.in_default.ensures.none);
        outputs = λ many. absurd (omega (arith, many, same, outputs.ok.0, c.len.ensures, c.if-len-gt-MAX_OUTPUTS.false));
      },
      bytes_repeated _ _ (keys_seen c.args.self.now.signatures.items c.in-Some-first_repeated.signature.now.key (subst (λ ws. IsFirstTie (slice_cmp nat_cmp) (map (λ w. w.key) ws) c.in-Some-first_repeated.signature.now.key) c.deref-2.ensures.value c.in-Some-first_repeated.ensures.some)),
    )

pub returns-in-Some-first_repeated-2-clause-fault : goal.returns-in-Some-first_repeated-2-clause-fault
returns-in-Some-first_repeated-2-clause-fault c =
    let outputs = c.args.self.now.outputs in
    let same = length-map outputs.items output_of in (
      record {
        inputs = no_input_repeated _ (subst (λ is. IsStrictlySortedBy input_cmp (map input_of is)) c.deref.ensures.value c.in_default.ensures.none);
        outputs = λ many. absurd (omega (arith, many, same, outputs.ok.0, c.len.ensures, c.if-len-gt-MAX_OUTPUTS.false));
      },
      no_bytes_repeated _ (keys_rise c.args.self.now.signatures.items (subst (λ ws. IsStrictlySortedBy (slice_cmp nat_cmp) (map (λ w. w.key) ws)) c.deref-2.ensures.value c.in_default-first_repeated.ensures.none)),
      bytes_repeated _ _ (subst (λ hash. IsFirstTie (slice_cmp nat_cmp) (map script_hash_of c.args.self.now.scripts.items) hash) (sym c.hash.ensures) (subst (λ ss. IsFirstTie (slice_cmp nat_cmp) (map script_hash_of ss) (script_hash_of c.in-Some-first_repeated-2.script.now)) c.deref-3.ensures.value c.in-Some-first_repeated-2.ensures.some)),
    )

pub returns-then-nests_too_deep-clause-fault : goal.returns-then-nests_too_deep-clause-fault
returns-then-nests_too_deep-clause-fault c =
    let outputs = c.args.self.now.outputs in
    let same = length-map outputs.items output_of in (
      record {
        inputs = no_input_repeated _ (subst (λ is. IsStrictlySortedBy input_cmp (map input_of is)) c.deref.ensures.value c.in_default.ensures.none);
        outputs = λ many. absurd (omega (arith, many, same, outputs.ok.0, c.len.ensures, c.if-len-gt-MAX_OUTPUTS.false));
      },
      no_bytes_repeated _ (keys_rise c.args.self.now.signatures.items (subst (λ ws. IsStrictlySortedBy (slice_cmp nat_cmp) (map (λ w. w.key) ws)) c.deref-2.ensures.value c.in_default-first_repeated.ensures.none)),
      no_bytes_repeated _ (subst (λ ss. IsStrictlySortedBy (slice_cmp nat_cmp) (map script_hash_of ss)) c.deref-3.ensures.value c.in_default-first_repeated-2.ensures.none),
      c.if-nests_too_deep.ensures.deep,
    )

pub returns-clause-sound : goal.returns-clause-sound
returns-clause-sound c =
    let outputs = c.args.self.now.outputs in
    let same = length-map outputs.items output_of in
    record {
      inputs_rise = subst (λ is. IsStrictlySortedBy input_cmp (map input_of is)) c.deref.ensures.value c.in_default.ensures.none;
      outputs_count = omega (arith, same, outputs.ok.0, c.len.ensures, c.if-len-gt-MAX_OUTPUTS.false);
      keys_rise = keys_rise c.args.self.now.signatures.items (subst (λ ws. IsStrictlySortedBy (slice_cmp nat_cmp) (map (λ w. w.key) ws)) c.deref-2.ensures.value c.in_default-first_repeated.ensures.none);
      hashes_rise = subst (λ ss. IsStrictlySortedBy (slice_cmp nat_cmp) (map script_hash_of ss)) c.deref-3.ensures.value c.in_default-first_repeated-2.ensures.none;
      said = c.if-nests_too_deep.ensures.sound;
    }
