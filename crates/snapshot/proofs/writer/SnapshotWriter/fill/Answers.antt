use Rattle.std.proofs.Common.{◌≡◌, ◌∷◌, List, Option, ap, ◌∙◌, arith, Bor}
use Rattle.model.specs.Transaction.{Input, Output}
use Rattle.tx.specs.declared.input.Input.{Input as CodeInput}
use Rattle.tx.specs.declared.output.Output.{Output as CodeOutput}
use Rattle.utxo_rules.specs.Entries.{pair_of}
use Rattle.snapshot.specs.WriterView.{from_next}
use Rattle.snapshot.proofs.Writing.{one_filled, none_left, next_taken, on_true}
use Rattle.snapshot.proofs.writer.SnapshotWriter.fill.Goals as goal

pub loop-self-preserved : goal.loop-self-preserved
loop-self-preserved c =
    let entry : CodeInput × Bor CodeOutput = (c.in-Some.input, c.in-Some.output) in
    let rest = c.loop-self.self-inside.rest in
    let now = from_next c.loop-self.self-inside.next rest in
    let new = from_next c.next-self-inside.result c.next-self-inside.new.self in
    let taken = next_taken rest c.next-self-inside.new.self c.next-self-inside.result c.next-self-inside.ensures.steps in
    let split : now ≡ pair_of entry ∷ new = ap (λ (n : Option (CodeInput × Bor CodeOutput)). from_next n rest) c.in-Some.is ∙ ap (λ (ps : List (Input × Output)). pair_of entry ∷ ps) taken in (
      one_filled c.args.self.now.pairs now new c.loop-self.part.items c.put_pair.new.part.items (pair_of entry) split
          (on_true c.put_pair.result _ c.put_pair.ensures.room c.if-not-put_pair.false) (on_true c.put_pair.result _ c.put_pair.ensures.within c.if-not-put_pair.false) c.put_pair.ensures.pair c.loop-self.invariant.0,
      c.loop-self.invariant.1,
      omega (arith, c.loop-self.invariant.2, c.put_pair.ensures.capacity),
    )

pub returns-clause-full : goal.returns-clause-full
returns-clause-full c = none_left (from_next c.loop-self.self-inside.next c.loop-self.self-inside.rest) _ (ap (λ (n : Option (CodeInput × Bor CodeOutput)). from_next n c.loop-self.self-inside.rest) c.in_default.is)
