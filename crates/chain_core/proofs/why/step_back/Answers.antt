use Rattle.std.proofs.Common.{◌≤◌, List, length, take, option_map, sym, ap, subst, ◌∙◌}
use Rattle.block.specs.View.{bytes_of}
use Rattle.std.proofs.lemmas.Option.{none-some, same_Some}
use Rattle.model.specs.Block.{Block}
use Rattle.model.specs.Chain.{genesis_tip, tip_after, Follows}
use Rattle.chain_core.proofs.WaysBack.{beside, misfits}
use Rattle.chain_core.proofs.why.step_back.Goals as goal

pub returns-in-Some-clause-before : goal.returns-in-Some-clause-before
returns-in-Some-clause-before g c = λ network s whole has. record {
  within = subst (λ (bs : List Block). c.in-Some.keep ≤ length bs) has.chain c.in-Some.ensures.0;
  follows = subst (λ (bs : List Block). Follows (tip_after genesis_tip (take c.in-Some.keep bs)) c.args.block.now) has.chain
      c.in-Some.ensures.1;
}

pub returns-in-Some-live_before-clause-before : goal.returns-in-Some-live_before-clause-before
returns-in-Some-live_before-clause-before g c = λ network s whole has.
    beside network c.args.chain_db.now s whole has c.args.block.now
    (c.in_default.ensures whole.gone)
    c.in-Some-live_before.before.now c.in-Some-live_before.ensures.0 c.in-Some-live_before.ensures.1

pub returns-in_default-previous-clause-before : goal.returns-in_default-previous-clause-before
returns-in_default-previous-clause-before g c = λ network s whole has.
    misfits network c.args.chain_db.now s whole has c.args.block.now
    (c.in_default.ensures whole.gone)
    c.in_default-live_before.ensures
    (λ hash names. absurd (none-some hash (ap (option_map bytes_of) (sym c.in_default-previous.is) ∙ (c.previous.ensures ∙ names))))

pub returns-in-Some-block_with-clause-before : goal.returns-in-Some-block_with-clause-before
returns-in-Some-block_with-clause-before g c = λ network s whole has.
    misfits network c.args.chain_db.now s whole has c.args.block.now
    (c.in_default.ensures whole.gone)
    c.in_default-live_before.ensures
    (λ hash names.
    let found = c.in-Some-block_with.ensures network s whole has in
    record {
      block = c.in-Some-block_with.field-0.now;
      member = found.0;
      hash_is = found.1 ∙ same_Some c.in-Some-previous.hash.bytes hash (ap (option_map bytes_of) (sym c.in-Some-previous.is) ∙ (c.previous.ensures ∙ names));
    })

pub returns-in-None-clause-before : goal.returns-in-None-clause-before
returns-in-None-clause-before g c = λ network s whole has.
    let none = c.in-None.ensures network s whole has in
    record {
      names = sym c.previous.ensures ∙ ap (option_map bytes_of) c.in-Some-previous.is;
      chain = none.0;
      live = none.1;
    }
