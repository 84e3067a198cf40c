use Rattle.std.proofs.Common.{ℕ, List, map, Contains, refl, sym, subst}
use Rattle.std.proofs.lemmas.Result.{IfOk-weaker}
use Rattle.model.specs.Transaction.{Transaction, SpellsTransaction, transaction_id_of}
use Rattle.model.specs.Rules.{Params}
use Rattle.model.specs.Explaining.{IsDetail}
use Rattle.model.specs.Evaluating.{Evaluates}
use Rattle.model.proofs.Results.{on_err}
use Rattle.utxo_rules.specs.View.{params_of}
use Rattle.utxo_rules.specs.Check.{PassesEarly}
use Rattle.utxo_rules.specs.DetailView.{detail_of}
use Rattle.mempool.specs.Contents.{Mempool}
use Rattle.mempool.specs.Calls.{IsNew, IsWantAtSubmission}
use Rattle.mempool.specs.View.{evaluation_of}
use Rattle.mempool.proofs.Submissions.{is_new, begins_like, new_spends, evaluated_known, evaluated_refused}
use Rattle.mempool.proofs.mempool.Mempool.evaluate.Goals as goal

pub returns-then-has-clause-told : goal.returns-then-has-clause-told
returns-then-has-clause-told g c =
    let inside : Mempool = record { capacity = c.self.inside.capacity; waiting = c.self.inside.waiting } in
    let there : Contains (map transaction_id_of inside.waiting.txs) c.id.result.bytes = c.if-has.ensures.0 refl in
    evaluated_known g.S.SigScheme.verifies (params_of c.args.params.now) c.args.slot c.args.self.now c.args.bytes.now c.in-Ok.tx c.in-Ok.ensures.found c.id.result.bytes c.id.ensures.is
    (subst (λ (p : Mempool). Contains (map transaction_id_of p.waiting.txs) c.id.result.bytes) c.self.view_is there)

pub returns-in-Some-clause-told : goal.returns-in-Some-clause-told
returns-in-Some-clause-told g c =
    let v = g.S.SigScheme.verifies in
    let params = params_of c.args.params.now in
    let t = c.in-Ok.tx in
    let inside : Mempool = record { capacity = c.self.inside.capacity; waiting = c.self.inside.waiting } in
    let fresh = is_new inside c.args.self.now t c.id.result.bytes c.has.result c.self.view_is c.id.ensures.is c.has.ensures.1 c.if-has.false in
    evaluated_refused v params c.args.slot c.args.self.now c.args.bytes.now t c.in-Ok.ensures.found (detail_of c.in-Some.detail) fresh
    (subst (λ (p : Mempool). IsDetail v params p.waiting.unspent c.args.slot t (detail_of c.in-Some.detail)) c.self.view_is c.in-Some.ensures)

pub returns-in_err-plain-clause-memory : goal.returns-in_err-plain-clause-memory
returns-in_err-plain-clause-memory g c =
    let v = g.S.SigScheme.verifies in
    let params = params_of c.args.params.now in
    let t = c.in-Ok.tx in
    let inside : Mempool = record { capacity = c.self.inside.capacity; waiting = c.self.inside.waiting } in
    let new : IsNew v params c.args.slot c.args.self.now t = record {
      unknown = is_new inside c.args.self.now t c.id.result.bytes c.has.result c.self.view_is c.id.ensures.is c.has.ensures.1 c.if-has.false;
      early = subst (λ (p : Mempool). PassesEarly v params p.waiting.unspent c.args.slot t) c.self.view_is c.in_default.ensures;
    } in
    on_err c.from_residual.result (IsWantAtSubmission c.args.bytes.now) (begins_like t c.args.bytes.now c.in-Ok.ensures.found, new_spends v params c.args.slot c.args.self.now t new c.args.bytes.now c.in-Ok.ensures.found)

pub returns-clause-told : goal.returns-clause-told
returns-clause-told g c =
    let v = g.S.SigScheme.verifies in
    let params = params_of c.args.params.now in
    let now = c.args.self.now in
    let t = c.in-Ok.tx in
    let checked = c.in_ok-plain.field-0 in
    let inside : Mempool = record { capacity = c.self.inside.capacity; waiting = c.self.inside.waiting } in
    let new : IsNew v params c.args.slot now t = record {
      unknown = is_new inside now t c.id.result.bytes c.has.result c.self.view_is c.id.ensures.is c.has.ensures.1 c.if-has.false;
      early = subst (λ (p : Mempool). PassesEarly v params p.waiting.unspent c.args.slot t) c.self.view_is c.in_default.ensures;
    } in
    let here = subst (IsNew v params c.args.slot now) (sym c.in_ok-plain.ensures) new in
    let spelled = subst (λ (x : Transaction). SpellsTransaction x c.args.bytes.now) (sym c.in_ok-plain.ensures) c.in-Ok.ensures.found in
    IfOk-weaker c.evaluate_late-2.result (λ told. (params : Params) (slot : ℕ) (bytes : List ℕ) → IsNew v params slot now checked → SpellsTransaction checked bytes
    → Evaluates v params slot now.waiting.unspent now.capacity now.waiting.txs bytes (evaluation_of told))
    (λ told. Evaluates v params c.args.slot now.waiting.unspent now.capacity now.waiting.txs c.args.bytes.now (evaluation_of told)) (λ told p. p params c.args.slot c.args.bytes.now here spelled) c.evaluate_late-2.ensures

pub returns-clause-memory : goal.returns-clause-memory
returns-clause-memory g c =
    let v = g.S.SigScheme.verifies in
    let params = params_of c.args.params.now in
    let t = c.in-Ok.tx in
    let inside : Mempool = record { capacity = c.self.inside.capacity; waiting = c.self.inside.waiting } in
    let new : IsNew v params c.args.slot c.args.self.now t = record {
      unknown = is_new inside c.args.self.now t c.id.result.bytes c.has.result c.self.view_is c.id.ensures.is c.has.ensures.1 c.if-has.false;
      early = subst (λ (p : Mempool). PassesEarly v params p.waiting.unspent c.args.slot t) c.self.view_is c.in_default.ensures;
    } in
    on_err c.evaluate_late-2.result (IsWantAtSubmission c.args.bytes.now) (begins_like t c.args.bytes.now c.in-Ok.ensures.found, new_spends v params c.args.slot c.args.self.now t new c.args.bytes.now c.in-Ok.ensures.found)
