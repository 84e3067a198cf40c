use Rattle.std.proofs.Common.{◌∙◌, ap, ◌++◌}
use Rattle.scenario.specs.ForgeView.{code_answer_text}
use Rattle.scenario.specs.Print.{forging_text}
use Rattle.chain_core.specs.Held.{network_held}
use Rattle.scenario.proofs.SubmissionLines.{forging_acted}
use Rattle.scenario.proofs.session.Session.forge.Goals as goal

pub returns-in-Ok-print_forging-clause-obeyed : goal.returns-in-Ok-print_forging-clause-obeyed
returns-in-Ok-print_forging-clause-obeyed g c = λ s holds free.
    forging_acted (network_held c.args.self.now.core g.S.SigScheme.verifies) s c.args.name.text.now c.args.slot c.in-Ok.answer c.print_forging.new.line.items _
    (c.in-Ok.ensures s holds.stands holds.names free) holds.indexes holds.stands
    (c.in-Ok-print_forging.ensures ∙ ap (λ bs. bs ++ forging_text c.args.name.text.now (code_answer_text c.in-Ok.answer)) c.in_ok-line.ensures.empty)
