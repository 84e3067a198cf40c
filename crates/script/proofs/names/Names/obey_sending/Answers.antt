use Rattle.std.proofs.Common.{◌≡◌, ◌∙◌, Some, None, Ok, Err, option_map, sym, ap}
use Rattle.std.proofs.lemmas.Result.{err_from_is_err_and}
use Rattle.script.specs.Line.{parse_line}
use Rattle.script.specs.Sending.{parse_send, parse_sending, said_either}
use Rattle.script.specs.SendingView.{send_line_of}
use Rattle.script.proofs.Sends.{defines_within, made_sending, made_so, made_stop, none_past, refused, sends_within, sent_so, sent_stop}
use Rattle.script.proofs.names.Names.obey_sending.Goals as goal

pub returns-then-not-is_within-clause-asks : goal.returns-then-not-is_within-clause-asks
returns-then-not-is_within-clause-asks c = λ names named.
    refused c.args.at.number names (parse_sending c.args.at.before c.args.peers c.args.line.now) c.args.self.now (none_past c.args.at.before c.args.peers c.args.line.now (sym c.is_within.ensures ∙ c.if-not-is_within.true)) named

pub returns-in_err-ask_sending-in-Some-clause-asks : goal.returns-in_err-ask_sending-in-Some-clause-asks
returns-in_err-ask_sending-in-Some-clause-asks c =
    let p = err_from_is_err_and c.from_residual.result c.from_residual.ensures.1 in
    rw (p.1, p.2) (λ names named.
    let sent : parse_send c.args.peers c.args.line.now ≡ Some (send_line_of c.in-Some.sends) = sym c.send_line.ensures.says ∙ ap (option_map send_line_of) c.in-Some.is in
    let is = sends_within c.args.at.before c.args.peers c.args.line.now (send_line_of c.in-Some.sends) (sym c.is_within.ensures ∙ c.if-not-is_within.false) sent in
    sent_stop c.args.at.number names (parse_sending c.args.at.before c.args.peers c.args.line.now) (send_line_of c.in-Some.sends) c.in_err-ask_sending-in-Some.field-0.0 c.args.self.now is (c.in_err-ask_sending-in-Some.ensures.asks names named))

pub returns-in_ok-ask_sending-in-Some-clause-asks : goal.returns-in_ok-ask_sending-in-Some-clause-asks
returns-in_ok-ask_sending-in-Some-clause-asks c = λ names named.
    let sent : parse_send c.args.peers c.args.line.now ≡ Some (send_line_of c.in-Some.sends) = sym c.send_line.ensures.says ∙ ap (option_map send_line_of) c.in-Some.is in
    let is = sends_within c.args.at.before c.args.peers c.args.line.now (send_line_of c.in-Some.sends) (sym c.is_within.ensures ∙ c.if-not-is_within.false) sent in
    sent_so c.args.at.number names (parse_sending c.args.at.before c.args.peers c.args.line.now) (send_line_of c.in-Some.sends) _ c.args.self.now is (c.in_ok-ask_sending-in-Some.ensures.asks names named)

pub returns-in_err-define-in-None-clause-asks : goal.returns-in_err-define-in-None-clause-asks
returns-in_err-define-in-None-clause-asks c =
    let p = err_from_is_err_and c.from_residual-in_err-define-in-None.result c.from_residual-in_err-define-in-None.ensures.1 in
    rw (p.1, p.2) (λ names named.
    let none : parse_send c.args.peers c.args.line.now ≡ None = sym c.send_line.ensures.says ∙ ap (option_map send_line_of) c.in-None.is in
    let is = defines_within c.args.at.before c.args.peers c.args.line.now (sym c.is_within.ensures ∙ c.if-not-is_within.false) none in
    made_stop c.args.at.number names (parse_sending c.args.at.before c.args.peers c.args.line.now) c.in_err-define-in-None.field-0.0 c.define.new.self
    (made_so c.args.at.number names (parse_sending c.args.at.before c.args.peers c.args.line.now) (said_either None (parse_line c.args.line.now)) (Err c.in_err-define-in-None.field-0.0) c.define.new.self is (c.in_err-define-in-None.ensures names named)))

pub returns-in_ok-define-in-None-clause-asks : goal.returns-in_ok-define-in-None-clause-asks
returns-in_ok-define-in-None-clause-asks c = λ names named.
    let none : parse_send c.args.peers c.args.line.now ≡ None = sym c.send_line.ensures.says ∙ ap (option_map send_line_of) c.in-None.is in
    let is = defines_within c.args.at.before c.args.peers c.args.line.now (sym c.is_within.ensures ∙ c.if-not-is_within.false) none in
    made_sending c.args.at.number names (parse_sending c.args.at.before c.args.peers c.args.line.now) c.define.new.self
    (made_so c.args.at.number names (parse_sending c.args.at.before c.args.peers c.args.line.now) (said_either None (parse_line c.args.line.now)) (Ok tt) c.define.new.self is (c.in_ok-define-in-None.ensures names named))
