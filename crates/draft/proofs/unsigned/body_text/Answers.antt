use Rattle.std.proofs.Common.{◌≡◌, ◌∙◌, ◌+◌, ◌-◌, ℕ, List, length, take, remove, ap, arith}
use Rattle.model.specs.Cbor.{text_of}
use Rattle.model.specs.Transaction.{item_of_body}
use Rattle.draft.proofs.Bodies.{spells_own}
use Rattle.draft.proofs.BodyTexts.{bare_long, body_left}
use Rattle.draft.proofs.unsigned.body_text.Goals as goal

pub remove-requires : goal.remove-requires
remove-requires c =
    let whole = ap length c.in_ok-text.ensures.text.spelled in
    let three = bare_long c.args.tx.now c.requires in
    omega (arith, whole, three, c.in_ok-text.text.ok, c.len.ensures, c.truncate.ensures.len)

pub returns-clause-text : goal.returns-clause-text
returns-clause-text c =
    let whole = ap length c.in_ok-text.ensures.text.spelled in
    let three = bare_long c.args.tx.now c.requires in
    let n : ℕ = c.len.result - 2 in
    let kept : n ≡ length (text_of (item_of_body c.args.tx.now)) + 1 = omega (arith, whole, three, c.in_ok-text.text.ok, c.len.ensures) in
    c.remove.ensures.items ∙ ap (λ (t : List ℕ). remove t 0) c.truncate.ensures.items ∙ ap (λ (t : List ℕ). remove (take n t) 0) c.in_ok-text.ensures.text.spelled ∙ body_left c.args.tx.now n c.requires kept

pub returns-clause-spelled : goal.returns-clause-spelled
returns-clause-spelled c = spells_own c.args.tx.now c.in_ok-text.text.items c.in_ok-text.ensures
