use Rattle.std.proofs.Common.{◌≡◌, Some, None, List, Vec, Global, Bor, map, ap, ◌∙◌}
use Rattle.clap.specs.Words.{Text, found_of, rows_of, all_of}
use Rattle.clap.proofs.WalkLemmas.{raw_values-rows}
use Rattle.commands.specs.ServeLine.{given_texts}
use Rattle.commands.proofs.Found.{ok_weaker}
use Rattle.commands.proofs.serve_command.texts_of.Goals as goal

pub returns-in-Some : goal.returns-in-Some
returns-in-Some c =
    let found = found_of c.args.found.now in
    let all : Some (map {B = Text} (λ (text : Bor Text). text.now) c.in-Some.given.now) ≡ all_of c.args.id.now (rows_of found) = c.in-Some.ensures ∙ raw_values-rows found c.args.id.now in
    ok_weaker (λ (texts : Vec (Bor Text) Global). texts.items ≡ c.in-Some.given.now)
    (λ (texts : Vec (Bor Text) Global). map {B = Text} (λ (text : Bor Text). text.now) texts.items ≡ given_texts (all_of c.args.id.now (rows_of found)))
    c.from_slice.result (λ texts is. ap (map {B = Text} (λ (text : Bor Text). text.now)) is ∙ ap given_texts all) c.from_slice.ensures.items

pub returns-in-None : goal.returns-in-None
returns-in-None c =
    let found = found_of c.args.found.now in
    let none : None ≡ all_of c.args.id.now (rows_of found) = c.in-None.ensures ∙ raw_values-rows found c.args.id.now in
    ap (map {B = Text} (λ (text : Bor Text). text.now)) c.new.ensures.items ∙ ap given_texts none
