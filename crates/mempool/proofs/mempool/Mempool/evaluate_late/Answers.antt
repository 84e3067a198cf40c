use Rattle.std.proofs.Common.{arith, subst}
use Rattle.std.specs.Option.{option_map}
use Rattle.model.specs.Explaining.{Explains}
use Rattle.model.specs.Evaluating.{Evaluates, Refused, Full, Acceptable}
use Rattle.utxo_rules.specs.DetailView.{detail_of}
use Rattle.mempool.specs.Contents.{Mempool}
use Rattle.mempool.specs.Calls.{IsNew}
use Rattle.mempool.proofs.Submissions.{evaluated_refused, evaluated_full, evaluated_acceptable}
use Rattle.mempool.proofs.mempool.Mempool.evaluate_late.Goals as goal

pub returns-in-Some : goal.returns-in-Some
returns-in-Some g c = λ params slot bytes new spelled.
    let v = g.S.SigScheme.verifies in
    let t = c.args.tx.now in
    let d = detail_of c.in-Some.detail in
    let inside : Mempool = record { capacity = c.self.inside.capacity; waiting = c.self.inside.waiting } in
    subst (λ (p : Mempool). IsNew v params slot p t → Evaluates v params slot p.waiting.unspent p.capacity p.waiting.txs bytes (Refused d)) c.self.view_is
    (λ is. evaluated_refused v params slot inside bytes t spelled d is.unknown
    (subst (λ o. Explains v params inside.waiting.unspent slot t (option_map detail_of o)) c.in-Some.is (c.in_ok-detail.ensures params slot is.early))) new

pub returns-then-len-self : goal.returns-then-len-self
returns-then-len-self g c = λ params slot bytes new spelled.
    let v = g.S.SigScheme.verifies in
    let t = c.args.tx.now in
    let inside : Mempool = record { capacity = c.self.inside.capacity; waiting = c.self.inside.waiting } in
    let full = c.if-len-self.true in
    let count = c.len.ensures in
    subst (λ (p : Mempool). IsNew v params slot p t → Evaluates v params slot p.waiting.unspent p.capacity p.waiting.txs bytes Full) c.self.view_is
    (λ is. evaluated_full v params slot inside bytes t spelled is.unknown
    (subst (λ o. Explains v params inside.waiting.unspent slot t (option_map detail_of o)) c.in_default.is (c.in_ok-detail.ensures params slot is.early)) (omega (arith, full, count))) new

pub returns : goal.returns
returns g c = λ params slot bytes new spelled.
    let v = g.S.SigScheme.verifies in
    let t = c.args.tx.now in
    let inside : Mempool = record { capacity = c.self.inside.capacity; waiting = c.self.inside.waiting } in
    let room = c.if-len-self.false in
    let count = c.len.ensures in
    subst (λ (p : Mempool). IsNew v params slot p t → Evaluates v params slot p.waiting.unspent p.capacity p.waiting.txs bytes Acceptable) c.self.view_is
    (λ is. evaluated_acceptable v params slot inside bytes t spelled is.unknown
    (subst (λ o. Explains v params inside.waiting.unspent slot t (option_map detail_of o)) c.in_default.is (c.in_ok-detail.ensures params slot is.early)) (omega (arith, room, count))) new
