use Rattle.std.proofs.Common.{◌≡◌, sym, ap, subst, ◌∙◌}
use Rattle.std.specs.Prelude.{MatchOption}
use Rattle.model.specs.Applying.{LedgerState, IsFirstFault}
use Rattle.utxo_rules.specs.View.{params_of}
use Rattle.ledger.specs.View.{tip_of, fault_of}
use Rattle.ledger.specs.Judgement.{Fits, state_with}
use Rattle.ledger.proofs.applying.misfit_before.Goals as goal

pub returns : goal.returns
returns g c = λ before params tip.
    let p : params_of c.state.inside.params ≡ before.params = ap (λ (s : LedgerState). s.params) c.state.view_is ∙ sym params in
    let t : tip_of c.ended.result ≡ before.tip = c.ended.ensures ∙ sym tip in
    let same : state_with (params_of c.state.inside.params) before.ledger (tip_of c.ended.result) ≡ before = λ i. record { params = p i; ledger = before.ledger; tip = t i } in
    subst (λ (s : LedgerState). MatchOption c.misfit.result (Fits s c.args.block.now) (λ fault. IsFirstFault g.S.SigScheme.verifies s c.args.block.now (fault_of fault))) same (c.misfit.ensures before.ledger)
