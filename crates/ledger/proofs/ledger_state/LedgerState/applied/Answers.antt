use Rattle.std.proofs.Common.{◌≡◌, None, ap, subst, ◌∙◌}
use Rattle.model.specs.Ledger.{reason_in}
use Rattle.model.specs.Rules.{reason_against, reasons, passes, OutputExists}
use Rattle.model.specs.Applying.{LedgerState}
use Rattle.model.specs.Utxo.{utxo_after}
use Rattle.utxo_rules.specs.Diffs.{diff_of}
use Rattle.utxo_rules.specs.View.{params_of}
use Rattle.model.proofs.Reasons.{listed, each_holds}
use Rattle.model.proofs.Results.{if_err}
use Rattle.utxo_rules.specs.Check.{IsCheckFault}
use Rattle.utxo_rules.specs.declared.check_fault.CheckFault.TheVariants.{OutOfMemory}
use Rattle.utxo_rules.proofs.ForCallers.{undone_same}
use Rattle.ledger.proofs.ledger_state.LedgerState.applied.Goals as goal

pub returns-in_err-utxo-clause-refused : goal.returns-in_err-utxo-clause-refused
unfolding reason_against
returns-in_err-utxo-clause-refused g c =
    let verifies = g.S.SigScheme.verifies in
    let before = c.args.self in
    let test = passes verifies before.params before.ledger.utxo c.args.slot c.args.tx.now in
    let none = subst (λ (s : LedgerState). reason_in verifies s.params c.args.slot s.ledger c.args.tx.now ≡ None) c.self.view_is c.in_ok-check.ensures.accepted in
    if_err c.from_residual-in_err-utxo.result OutOfMemory (IsCheckFault verifies before.params before.ledger.utxo c.args.slot c.args.tx.now) c.from_residual-in_err-utxo.ensures.1
    (λ r early. each_holds test reasons r none (listed r))

pub returns-clause-back : goal.returns-clause-back
unfolding reason_against
returns-clause-back g c =
    let utxo = c.self.inside.utxo in
    let t = c.args.tx.now in
    let none = c.in_ok-check.ensures.accepted in
    let free = each_holds (passes g.S.SigScheme.verifies (params_of c.self.inside.params) utxo c.args.slot t) reasons OutputExists none (listed OutputExists) in
    undone_same c.in_ok-utxo.utxo utxo c.in_ok-utxo.diff t (c.in_ok-utxo.ensures.diff ∙ ap (diff_of utxo) c.tx.ensures) (c.in_ok-utxo.ensures.after ∙ ap (utxo_after utxo) c.tx.ensures) free
    ∙ ap (λ (s : LedgerState). s.ledger.utxo) c.self.view_is
