use Rattle.std.proofs.Common.{refl}
use Rattle.mempool.specs.View.{evaluation_of}
use Rattle.chain_core.specs.Held.{Stands, network_held}
use Rattle.telling.proofs.Told.{no_transaction, verdict_printed, told_outside}
use Rattle.telling.proofs.verdict.print_verdict.Goals as goal

pub returns-in-Malformed-clause-fault : goal.returns-in-Malformed-clause-fault
returns-in-Malformed-clause-fault g c = λ s stands. (refl, no_transaction (network_held c.args.core.now g.S.SigScheme.verifies) s c.args.slot c.args.bytes.now c.in-Ok.evaluation c.in-Malformed.is (c.in-Ok.ensures.told s stands), c.misreading_of.ensures)

pub returns : goal.returns
returns g c =
    let core = c.args.core.now in
    let old = g.W.Write.contents c.args.out.now in
    let new = g.W.Write.contents c.print_evaluation.new.out in
    record {
      told = verdict_printed {Stand = Stands core} (network_held core g.S.SigScheme.verifies) c.args.slot c.args.bytes.now old new (evaluation_of c.in-Ok.evaluation) c.print_evaluation.result c.in-Ok.ensures.told c.print_evaluation.ensures.printed;
      fault = told_outside (Stands core) c.args.bytes.now c.print_evaluation.result c.print_evaluation.ensures.outside;
      quiet = c.print_evaluation.ensures.quiet;
    }
