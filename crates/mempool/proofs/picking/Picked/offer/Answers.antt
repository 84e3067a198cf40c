use Rattle.std.proofs.Common.{◌≡◌, ◌∙◌, [], ◌∷◌, ◌++◌, ap, sym, subst, true, rules, Some, None}
use Rattle.std.specs.Arc.{arc_value}
use Rattle.utxo_rules.specs.View.{params_of, reason_of}
use Rattle.utxo_rules.specs.Check.{IsCheckFault}
use Rattle.model.specs.Rules.{reason_against}
use Rattle.model.specs.Mempool.{fits_in_a_block}
use Rattle.mempool.specs.Contents.{Waiting}
use Rattle.mempool.specs.Calls.{with_tx}
use Rattle.mempool.specs.Picking.{offered}
use Rattle.mempool.proofs.Offers.{on_ok, offer_taken, offer_refused}
use Rattle.mempool.proofs.picking.Picked.offer.Goals as goal

pub returns-in_ok-try_clone-in-Ok : goal.returns-in_ok-try_clone-in-Ok
returns-in_ok-try_clone-in-Ok g c =
    let v = g.S.SigScheme.verifies in
    let params = params_of c.args.params.now in
    let w = c.args.self.now in
    let t = arc_value c.args.tx.now in
    let is : c.tx.result.now ≡ t = c.tx.ensures ∙ c.deref.ensures in
    let true_room : c.has_room.result ≡ true = search (rules, c.if-not-has_room.false) in
    let room : fits_in_a_block params (w.txs ++ t ∷ []) ≡ true = ap (λ x. fits_in_a_block params (w.txs ++ x ∷ [])) (sym is) ∙ (sym c.has_room.ensures.exact ∙ true_room) in
    let judged : reason_against v params w.unspent c.args.slot t ≡ None = search (rules, c.in-Ok.ensures.accepted, c.deref-2.ensures, ap (λ (x : Waiting). x.unspent) c.self.view_is) in
    on_ok c.take.result (c.take.new.self ≡ with_tx w (arc_value c.in_ok-try_clone-in-Ok.field-0)) (c.take.new.self ≡ offered v params c.args.slot w t) c.take.ensures
    (λ e. e ∙ (ap (with_tx w) c.in_ok-try_clone-in-Ok.ensures ∙ sym (offer_taken v params c.args.slot w t judged room)))

pub returns-in-Err-Refused : goal.returns-in-Err-Refused
returns-in-Err-Refused g c =
    let v = g.S.SigScheme.verifies in
    let params = params_of c.args.params.now in
    let w = c.args.self.now in
    let t = arc_value c.args.tx.now in
    let told = subst (λ f. IsCheckFault v params c.self.inside.unspent c.args.slot c.deref-2.result.now f) c.in-Err-Refused.field-0-is c.in-Err-Refused.ensures.refused in
    let judged : reason_against v params w.unspent c.args.slot t ≡ Some (reason_of c.in-Err-Refused.field-0-0) = search (rules, told, c.deref-2.ensures, ap (λ (x : Waiting). x.unspent) c.self.view_is) in
    sym (offer_refused v params c.args.slot (reason_of c.in-Err-Refused.field-0-0) w t judged)
