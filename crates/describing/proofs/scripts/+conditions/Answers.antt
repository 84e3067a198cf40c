use Rattle.std.proofs.Common.{arith}
use Rattle.describing.proofs.Members.{member_depth}
use Rattle.describing.proofs.scripts.+conditions.Goals as goal

pub members_json-condition_json-requires : goal.members_json-condition_json-requires
members_json-condition_json-requires t c =
    let n = member_depth c.args.members.now c.loop-member.member-index c.member-item.result c.loop-member-test.true c.member-item.is in
    (omega (arith, n), tt)
