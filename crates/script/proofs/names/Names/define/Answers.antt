use Rattle.std.proofs.Common.{◌≡◌, ◌∙◌, Some, None, Ok, Err, option_map, true, false, sym, ap}
use Rattle.std.proofs.lemmas.Result.{err_from_is_err_and}
use Rattle.script.specs.Line.{parse_line}
use Rattle.script.specs.LineView.{line_of}
use Rattle.script.specs.Sending.{Defining, is_definition, said_either}
use Rattle.script.proofs.Sends.{is_line, is_made, made_so, no_line, not_made, refused}
use Rattle.script.proofs.names.Names.define.Goals as goal

pub returns-in_err-obey_line-in-Some : goal.returns-in_err-obey_line-in-Some
returns-in_err-obey_line-in-Some c =
    let p = err_from_is_err_and c.from_residual.result c.from_residual.ensures.1 in
    rw (p.1, p.2) (λ names named.
    let line = line_of c.in-Some.line in
    let so : is_definition line ≡ true = sym c.is_definition.ensures ∙ c.if-is_definition.true in
    let said : parse_line c.args.line.now ≡ Some line = sym c.parse_line.ensures ∙ ap (option_map line_of) c.in-Some.is in
    made_so c.args.number names (said_either None (parse_line c.args.line.now)) (Some (Defining line)) (Err c.in_err-obey_line-in-Some.field-0.0) c.obey_line.new.self (ap (said_either None) said ∙ is_line line so)
    (not_made c.args.number names line c.in_err-obey_line-in-Some.field-0.0 c.obey_line.new.self (c.in_err-obey_line-in-Some.ensures names named)))

pub returns-in_ok-obey_line-in-Some : goal.returns-in_ok-obey_line-in-Some
returns-in_ok-obey_line-in-Some c = λ names named.
    let line = line_of c.in-Some.line in
    let so : is_definition line ≡ true = sym c.is_definition.ensures ∙ c.if-is_definition.true in
    let said : parse_line c.args.line.now ≡ Some line = sym c.parse_line.ensures ∙ ap (option_map line_of) c.in-Some.is in
    made_so c.args.number names (said_either None (parse_line c.args.line.now)) (Some (Defining line)) (Ok tt) c.obey_line.new.self (ap (said_either None) said ∙ is_line line so)
    (is_made c.args.number names line _ c.obey_line.new.self so (c.in_ok-obey_line-in-Some.ensures names named))

pub returns-in_default : goal.returns-in_default
returns-in_default c = λ names named.
    let line = line_of c.in-Some.line in
    let so : is_definition line ≡ false = sym c.is_definition.ensures ∙ c.if-is_definition.false in
    let said : parse_line c.args.line.now ≡ Some line = sym c.parse_line.ensures ∙ ap (option_map line_of) c.in-Some.is in
    refused c.args.number names (said_either None (parse_line c.args.line.now)) c.args.self.now (ap (said_either None) said ∙ no_line line so) named

pub returns-in_default-2 : goal.returns-in_default-2
returns-in_default-2 c = λ names named.
    let said : parse_line c.args.line.now ≡ None = sym c.parse_line.ensures ∙ ap (option_map line_of) c.in_default.is in
    refused c.args.number names (said_either None (parse_line c.args.line.now)) c.args.self.now (ap (said_either None) said) named
