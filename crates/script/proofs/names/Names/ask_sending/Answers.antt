use Rattle.std.proofs.Common.{◌∙◌, sym}
use Rattle.script.specs.SendingView.{send_line_of}
use Rattle.script.proofs.Definitions.{is_making}
use Rattle.script.proofs.Sends.{is_sent, no_making, not_inside, not_known}
use Rattle.script.proofs.names.Names.ask_sending.Goals as goal

pub returns-then-is_some-clause-asks : goal.returns-then-is_some-clause-asks
returns-then-is_some-clause-asks c = λ names named.
    let making = is_making c.args.self.now.making names.making named.making (sym c.is_some.ensures ∙ c.if-is_some.true) in
    (not_inside names making.0 (send_line_of c.args.sends) making.1, named)

pub returns-then-has_bytes-clause-asks : goal.returns-then-has_bytes-clause-asks
returns-then-has_bytes-clause-asks c = λ names named.
    let none = no_making c.args.self.now.making names.making named.making (sym c.is_some.ensures ∙ c.if-is_some.false) in
    is_sent names c.args.self.now c.args.sends named none (sym c.if-has_bytes.true ∙ c.has_bytes.ensures names named)

pub returns-else-has_bytes-clause-asks : goal.returns-else-has_bytes-clause-asks
returns-else-has_bytes-clause-asks c = λ names named.
    let none = no_making c.args.self.now.making names.making named.making (sym c.is_some.ensures ∙ c.if-is_some.false) in
    (not_known names c.args.sends none (sym c.if-has_bytes.false ∙ c.has_bytes.ensures names named), named)
