use Rattle.std.proofs.Common.{◌≢◌, ℕ, pos, List, Some, map, subst}
use Rattle.model.specs.Value.{Token}
use Rattle.value.specs.View.{token_of}
use Rattle.value.specs.Sums.{sum_under}
use Rattle.value.proofs.Lists.{rest_here, rest_none}
use Rattle.value.proofs.Tidying.{Tidied, tidied_none, tidied_more}
use Rattle.value.proofs.amounts.Amounts.tidy.Goals as goal

pub loop-token-init : goal.loop-token-init
loop-token-init g c = tidied_none c.args.self.now (map token_of c.args.tokens.now)

pub loop-token-preserved : goal.loop-token-preserved
loop-token-preserved g c =
    let all = map token_of c.args.tokens.now in
    let here = rest_here token_of (λ (rest : List (Token g.row.Q.Denot)). Tidied c.args.self.now c.loop-token.self all rest) c.args.tokens.now c.loop-token.token-index c.token-item.result c.loop-token-test.true c.token-item.is c.loop-token.invariant in
    tidied_more c.args.self.now c.loop-token.self c.tidy_name.new.self all _ (token_of c.token-item.result) here c.tidy_name.ensures.same
    (λ q. rw c.deref.ensures.value at (c.tidy_name.ensures.others q))
    (subst (λ (n : List ℕ). sum_under c.tidy_name.new.self n ≢ Some (pos 0)) c.deref.ensures.value c.tidy_name.ensures.left)

pub returns : goal.returns
returns g c =
    let all = map token_of c.args.tokens.now in
    let done = rest_none token_of (λ (rest : List (Token g.row.Q.Denot)). Tidied c.args.self.now c.loop-token.self all rest) c.args.tokens.now c.loop-token.token-index c.loop-token-test.false c.loop-token.invariant in
    record { same = done.same; others = done.touched.others; left = λ name zero. done.left name zero tt }
