use Rattle.std.proofs.Common.{sym, subst}
use Rattle.model.specs.Transaction.{Transaction, SpellsTransaction}
use Rattle.script.specs.Names.{bound_to}
use Rattle.chain_core.specs.Views.{submit_reply_of}
use Rattle.chain_core.specs.Held.{network_held}
use Rattle.scenario.proofs.SubmissionLines.{submitted_text, one_named}
use Rattle.scenario.proofs.session.submit.Goals as goal

pub returns-clause-step : goal.returns-clause-step
returns-clause-step g c = λ all named tx is s stands.
    let same = one_named c.in-Some.tx.now tx (bound_to c.args.name.now all.of_txs) (c.in-Some.ensures all named) is in
    let spelled = subst (λ (t : Transaction). SpellsTransaction t c.deref.result.now) same (subst (SpellsTransaction c.in-Some.tx.now) (sym c.deref.ensures.value) c.in_ok-bytes.ensures) in
    submitted_text (network_held c.args.core.now g.S.SigScheme.verifies) s tx c.deref.result.now (submit_reply_of c.submit.result) c.submit.new.self spelled (c.submit.ensures.step s stands)
