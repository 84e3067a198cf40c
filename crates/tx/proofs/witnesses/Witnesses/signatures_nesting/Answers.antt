use Rattle.std.proofs.Common.{arith}
use Rattle.tx.specs.View.{witness_of}
use Rattle.value.proofs.ForCallers.{some_seen}
use Rattle.tx.proofs.Depths.{signatures_nest}
use Rattle.tx.proofs.witnesses.Witnesses.signatures_nesting.Goals as goal

pub returns-clause-deep : goal.returns-clause-deep
returns-clause-deep c =
    let signatures = c.args.self.now.signatures in
    signatures_nest _ (some_seen witness_of signatures.items _ (omega (arith, signatures.ok.0)) (c.if-is_empty.ensures {u = tt}))
