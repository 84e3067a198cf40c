use Rattle.model.specs.Ledger.{network_of}
use Rattle.model.proofs.LegalHistories.{opens_nothing}
use Rattle.commands.specs.Ending.{options_by}
use Rattle.commands.specs.Schemes.{verifies_by}
use Rattle.commands.proofs.NotBegun.{not_begun}
use Rattle.commands.proofs.runs.run_reader.Goals as goal

pub returns-in_default-clause-fault : goal.returns-in_default-clause-fault
returns-in_default-clause-fault g c =
    let verifies = verifies_by c.args.document.scheme in
    not_begun (options_by c.args.document.scheme c.args.explain) (network_of c.args.document.genesis verifies) (opens_nothing c.args.document.genesis verifies) (g.R.Read.remaining c.args.reader.now) (g.W.Write.contents c.args.out.now)
