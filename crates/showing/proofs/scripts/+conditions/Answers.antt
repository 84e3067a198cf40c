use Rattle.std.proofs.Common.{arith}
use Rattle.showing.proofs.Members.{member_depth}
use Rattle.showing.proofs.scripts.+conditions.Goals as goal

pub put_members-put_timelock-requires : goal.put_members-put_timelock-requires
put_members-put_timelock-requires t c =
    let n = member_depth c.args.members.now c.loop-member.member-index c.member-item.result c.loop-member-test.true c.member-item.is in
    (omega (arith, n), tt)
