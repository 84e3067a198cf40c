use Rattle.std.proofs.Common.{arith}
use Rattle.timelock.proofs.Members.{member_depth, member_nesting}
use Rattle.timelock.proofs.nesting.+nesting.Goals as goal

pub deepest-nesting_of-requires : goal.deepest-nesting_of-requires
deepest-nesting_of-requires t c =
    let members = c.args.members.now in
    let k = c.loop-member.member-index in
    let member = c.member-item.result in
    let n = member_depth members k member c.loop-member-test.true c.member-item.is in
    let m = member_nesting members k member c.loop-member-test.true c.member-item.is in
    (omega (arith, n, c.decreases), omega (arith, m, c.requires))
