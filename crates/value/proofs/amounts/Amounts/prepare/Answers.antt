use Rattle.std.proofs.Common.{List, map, rules}
use Rattle.model.specs.Value.{Token}
use Rattle.value.specs.View.{token_of}
use Rattle.value.proofs.Lists.{rest_here, rest_none}
use Rattle.value.proofs.Preparing.{Prepared, prepared_more}
use Rattle.value.proofs.Touching.{TouchedNames, touched_more}
use Rattle.value.proofs.amounts.Amounts.prepare.Goals as goal

pub loop-token-preserved : goal.loop-token-preserved
loop-token-preserved g c =
    let all = map token_of c.args.tokens.now in
    let here = rest_here token_of (λ (rest : List (Token g.row.Q.Denot)). Prepared c.args.self.now c.loop-token.self all rest) c.args.tokens.now c.loop-token.token-index c.token-item.result c.loop-token-test.true c.token-item.is c.loop-token.invariant in
    prepared_more c.args.self.now c.loop-token.self c.prepare_name.new.self all _ (token_of c.token-item.result) here c.in_ok-prepare_name.ensures.same c.in_ok-prepare_name.ensures.kept (search (rules, c.deref.ensures.value, c.in_ok-prepare_name.ensures.present)) (λ q. rw c.deref.ensures.value at (c.in_ok-prepare_name.ensures.others q))

pub returns-clause-present : goal.returns-clause-present
returns-clause-present g c =
    let all = map token_of c.args.tokens.now in
    let done = rest_none token_of (λ (rest : List (Token g.row.Q.Denot)). Prepared c.args.self.now c.loop-token.self all rest) c.args.tokens.now c.loop-token.token-index c.loop-token-test.false c.loop-token.invariant in
    done.present c.loop-token.self (λ name h. h) tt

pub returns-in_err-prepare_name-clause-others : goal.returns-in_err-prepare_name-clause-others
returns-in_err-prepare_name-clause-others g c =
    let all = map token_of c.args.tokens.now in
    let here = rest_here token_of (λ (rest : List (Token g.row.Q.Denot)). TouchedNames c.args.self.now c.loop-token.self all rest) c.args.tokens.now c.loop-token.token-index c.token-item.result c.loop-token-test.true c.token-item.is c.loop-token.invariant.touched in
    (touched_more c.args.self.now c.loop-token.self c.prepare_name.new.self all _ (token_of c.token-item.result) here (λ q. rw c.deref.ensures.value at (c.in_err-prepare_name.ensures.others q))).others

pub returns-clause-others : goal.returns-clause-others
returns-clause-others g c = c.loop-token.invariant.touched.others
