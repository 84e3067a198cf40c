use Rattle.std.proofs.Common.{◌≡◌, ◌∙◌, map, refl, ap}
use Rattle.std.proofs.lemmas.List.{map-append}
use Rattle.std.proofs.lemmas.Result.{err_from_is_err_and}
use Rattle.script.specs.Sending.{MeansSending}
use Rattle.scenario.specs.SendView.{sent_of}
use Rattle.scenario.proofs.SendRuns.{bytes_there, lacks, made, not_sent, sent, was_made, was_sent}
use Rattle.scenario.proofs.send_lines.obey.Goals as goal

pub returns-in_err-asked-clause-sends : goal.returns-in_err-asked-clause-sends
returns-in_err-asked-clause-sends c =
    let p = err_from_is_err_and c.from_residual.result c.from_residual.ensures.1 in
    rw (p.1, p.2) (λ known named.
    not_sent c.args.at.number c.args.at.before c.args.peers known c.args.line.now c.in_err-asked.field-0.0 (map sent_of c.args.sends.now.items) (map sent_of c.args.sends.now.items) c.obey_sending.new.self
    (c.in_err-asked.ensures.asks known named))

pub returns-in_default-clause-sends : goal.returns-in_default-clause-sends
returns-in_default-clause-sends c = λ known named.
    made c.args.at.number c.args.at.before c.args.peers known c.args.line.now (map sent_of c.args.sends.now.items) (map sent_of c.args.sends.now.items) c.obey_sending.new.self
    (was_made known (MeansSending c.args.at.number c.args.at.before known c.args.peers c.args.line.now) c.obey_sending.new.self _ c.in_default.not-Some (c.in_ok-asked.ensures.asks known named)) refl

pub returns-in_err-bytes-clause-sends : goal.returns-in_err-bytes-clause-sends
returns-in_err-bytes-clause-sends c =
    let p = err_from_is_err_and c.from_residual-in_err-bytes.result c.from_residual-in_err-bytes.ensures.1 in
    rw (p.1, p.2) (λ known named.
    let is = was_sent known (MeansSending c.args.at.number c.args.at.before known c.args.peers c.args.line.now) c.obey_sending.new.self _ c.in-Some.asked c.in-Some.is (c.in_ok-asked.ensures.asks known named) in
    lacks c.args.at.number c.args.at.before c.args.peers known c.args.line.now c.in-Some.asked.peer c.in-Some.asked.name.text.now is.bound.bytes is.is_meant)

pub returns-in_err-push-clause-sends : goal.returns-in_err-push-clause-sends
returns-in_err-push-clause-sends c =
    let p = err_from_is_err_and c.from_residual-in_err-push.result c.from_residual-in_err-push.ensures.1 in
    rw (p.1, p.2) (λ known named.
    let is = was_sent known (MeansSending c.args.at.number c.args.at.before known c.args.peers c.args.line.now) c.obey_sending.new.self _ c.in-Some.asked c.in-Some.is (c.in_ok-asked.ensures.asks known named) in
    lacks c.args.at.number c.args.at.before c.args.peers known c.args.line.now c.in-Some.asked.peer c.in-Some.asked.name.text.now is.bound.bytes is.is_meant)

pub returns-clause-sends : goal.returns-clause-sends
returns-clause-sends c = λ known named.
    let is = was_sent known (MeansSending c.args.at.number c.args.at.before known c.args.peers c.args.line.now) c.obey_sending.new.self _ c.in-Some.asked c.in-Some.is (c.in_ok-asked.ensures.asks known named) in
    let bytes : c.in_ok-bytes.bytes.items ≡ is.bound.bytes =
    c.in_ok-bytes.ensures.items ∙ ap (λ b. b.now) c.unwrap_or-bytes.ensures ∙ bytes_there (λ b. b.now) c.bytes_of.result _ _ is.bound (c.bytes_of.ensures known is.named) is.is_bound in
    sent c.args.at.number c.args.at.before c.args.peers known c.args.line.now (map sent_of c.args.sends.now.items) (map sent_of c.push.new.self.items) c.obey_sending.new.self c.in-Some.asked c.in_ok-bytes.bytes.items is bytes
    (ap (map sent_of) c.in_ok-push.ensures.items ∙ map-append sent_of c.args.sends.now.items _)
