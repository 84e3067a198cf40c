use Rattle.std.specs.Prelude.{Option, Some, None, MatchOption}
use Rattle.std.proofs.Common.{subst}
use Rattle.model.specs.Signature.{Verifies}
use Rattle.model.specs.Explaining.{IsDetail}
use Rattle.utxo_rules.specs.View.{params_of}
use Rattle.utxo_rules.specs.Check.{PassesEarly}
use Rattle.utxo_rules.specs.DetailView.{detail_of}
use Rattle.utxo_rules.specs.declared.detail.Detail.{Detail}
use Rattle.mempool.specs.Contents.{Waiting}
use Rattle.mempool.proofs.waiting.Waiting.explain_early.Goals as goal

-- under one scheme what holds under all
under : (P : Verifies → Type 0) (Q : Detail → Verifies → Type 0) (verifies : Verifies) (found : Option Detail)
    → MatchOption found ((v : Verifies) → P v) (λ detail. (v : Verifies) → Q detail v) → MatchOption found (P verifies) (λ detail. Q detail verifies)
under P Q verifies None is = is verifies
under P Q verifies (Some detail) is = is verifies

pub returns : goal.returns
returns g c =
    let v = g.S.SigScheme.verifies in
    let params = params_of c.args.params.now in
    let slot = c.args.slot in
    let t = c.args.tx.now in
    subst (λ (w : Waiting). MatchOption c.explain_early.result (PassesEarly v params w.unspent slot t) (λ detail. IsDetail v params w.unspent slot t (detail_of detail))) c.self.view_is
    (under (λ v. PassesEarly v params c.self.inside.unspent slot t) (λ detail v. IsDetail v params c.self.inside.unspent slot t (detail_of detail)) v c.explain_early.result c.explain_early.ensures)
