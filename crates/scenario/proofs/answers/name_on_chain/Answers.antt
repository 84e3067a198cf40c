use Rattle.std.proofs.Common.{◌∙◌, ap, sym}
use Rattle.script.specs.Names.{printed_name}
use Rattle.scenario.specs.Answers.{name_of_block}
use Rattle.scenario.proofs.AnswerLines.{numbered_some, numbered_none}
use Rattle.scenario.proofs.answers.name_on_chain.Goals as goal

pub returns-in-Some : goal.returns-in-Some
returns-in-Some g c = λ all named.
    let found = numbered_some c.args.core.now.chain c.args.number c.in-Some.block.now _ c.if-number-eq0.false (sym c.blocks-2.ensures ∙ c.in-Some.ensures.steps) in
    c.printed_name.ensures all named ∙ ap (λ hash. printed_name hash all.of_bytes) c.hash.ensures ∙ ap (name_of_block all.of_bytes) (sym found)

pub returns-in-None : goal.returns-in-None
returns-in-None g c = λ all named.
    let none = numbered_none c.args.core.now.chain c.args.number _ c.if-number-eq0.false c.blocks-2.ensures c.in-None.ensures.steps.0 in
    c.as_slice-in-None.ensures ∙ ap (name_of_block all.of_bytes) (sym none)
