use Rattle.std.proofs.Common.{◌≡◌, List, true, false, map, refl, rules}
use Rattle.std.specs.List.{list_all}
use Rattle.tx.specs.View.{witness_of}
use Rattle.tx.specs.declared.key_witness.KeyWitness.{KeyWitness}
use Rattle.witness_pool.specs.Verdicts.{is_good}
use Rattle.witness_pool.proofs.Loops.{goes_on, stops, ends}
use Rattle.witness_pool.proofs.verdicts.all_good.Goals as goal

pub loop-witness-init : goal.loop-witness-init
loop-witness-init g c = refl

pub returns-then-not-verify : goal.returns-then-not-verify
returns-then-not-verify g c =
    let good = is_good g.S.SigScheme.verifies c.args.message.now in
    let bad : good (witness_of c.witness-item.result) ≡ false = search (rules, c.verify.ensures, c.if-not-verify.true) in
    stops (λ (xs : List KeyWitness). list_all good (map witness_of xs)) (λ (x : KeyWitness). good (witness_of x)) (λ x xs. refl) c.args.signatures.now c.loop-witness.witness-index c.witness-item.result c.loop-witness-test.true c.witness-item.is bad c.loop-witness.invariant

pub loop-witness-preserved : goal.loop-witness-preserved
loop-witness-preserved g c =
    let good = is_good g.S.SigScheme.verifies c.args.message.now in
    let here : good (witness_of c.witness-item.result) ≡ true = search (rules, c.verify.ensures, c.if-not-verify.false) in
    goes_on (λ (xs : List KeyWitness). list_all good (map witness_of xs)) (λ (x : KeyWitness). good (witness_of x)) (λ x xs. refl) c.args.signatures.now c.loop-witness.witness-index c.witness-item.result c.loop-witness-test.true c.witness-item.is here c.loop-witness.invariant

pub returns : goal.returns
returns g c =
    let good = is_good g.S.SigScheme.verifies c.args.message.now in
    ends (λ (xs : List KeyWitness). list_all good (map witness_of xs)) (λ (x : KeyWitness). good (witness_of x)) (λ x xs. refl) c.args.signatures.now c.loop-witness.witness-index refl c.loop-witness-test.false c.loop-witness.invariant
