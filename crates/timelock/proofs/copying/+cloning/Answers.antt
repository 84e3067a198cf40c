use Rattle.std.proofs.Common.{◌∙◌, arith}
use Rattle.timelock.proofs.Members.{member_depth, copies_are}
use Rattle.timelock.proofs.copying.+cloning.Goals as goal

pub clone_members-clone_timelock-requires : goal.clone_members-clone_timelock-requires
clone_members-clone_timelock-requires t c =
    let n = member_depth c.args.members.now c.loop-member.member-index c.member-item.result c.loop-member-test.true c.member-item.is in
    (omega (arith, n, c.decreases), tt)

pub clone_members-returns : goal.clone_members-returns
clone_members-returns t c = c.from_vec.ensures ∙ copies_are c.loop-member.copies.items c.args.members.now c.loop-member.member-index c.loop-member-test.false c.loop-member.invariant
