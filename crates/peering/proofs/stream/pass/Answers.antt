use Rattle.std.proofs.Common.{◌≤◌, IfSome, subst}
use Rattle.peering.specs.Streams.{PassesOver}
use Rattle.peering.proofs.StreamLaws.{more_passed}
use Rattle.peering.proofs.stream.pass.Goals as goal

pub loop-preserved : goal.loop-preserved
loop-preserved g c =
    let mid = g.R.Read.remaining c.loop.reader in
    let rest = g.R.Read.remaining c.pass_part.new.reader in
    let passed = subst (λ n. PassesOver n mid rest) c.in-Some.is c.in_ok-passed.ensures.passed in
    let few = subst (λ n. IfSome n (λ k. k ≤ c.loop.left)) c.in-Some.is c.in_ok-passed.ensures.few in
    more_passed (g.R.Read.remaining c.args.reader.now) mid rest c.args.count c.loop.left c.in-Some.passed c.loop.invariant passed few
