use Rattle.std.proofs.Common.{◌+◌, ap, ◌∙◌}
use Rattle.tx.specs.WitnessesView.{witnesses_of}
use Rattle.tx.proofs.Depths.{witnesses_nest}
use Rattle.tx.proofs.witnesses.Witnesses.nesting.Goals as goal

pub returns-clause-deep : goal.returns-clause-deep
returns-clause-deep c =
    let w = witnesses_of c.args.self.now in
    ap (λ n. 1 + n) c.max.ensures ∙ witnesses_nest w.0 w.1 c.signatures_nesting.result c.scripts_nesting.result c.signatures_nesting.ensures.deep c.scripts_nesting.ensures.deep
