use Rattle.std.proofs.Common.{◌∙◌, arith}
use Rattle.timelock.proofs.Members.{member_depth, among_keys}
use Rattle.timelock.proofs.holding.+holding.Goals as goal

pub all-is_met-requires : goal.all-is_met-requires
all-is_met-requires t c =
    let n = member_depth c.args.members.now c.loop-member.member-index c.member-item.result c.loop-member-test.true c.member-item.is in
    (omega (arith, n, c.decreases), tt)

pub any-is_met-requires : goal.any-is_met-requires
any-is_met-requires t c =
    let n = member_depth c.args.members.now c.loop-member.member-index c.member-item.result c.loop-member-test.true c.member-item.is in
    (omega (arith, n, c.decreases), tt)

pub how_many-is_met-requires : goal.how_many-is_met-requires
how_many-is_met-requires t c =
    let n = member_depth c.args.members.now c.loop-member.member-index c.member-item.result c.loop-member-test.true c.member-item.is in
    (omega (arith, n, c.decreases), tt)

pub is_met-returns-in-RequireSignature : goal.is_met-returns-in-RequireSignature
is_met-returns-in-RequireSignature t c = rw c.in-RequireSignature.is (c.contains.ensures.value ∙ among_keys c.in-RequireSignature.hash c.args.keys.now)
