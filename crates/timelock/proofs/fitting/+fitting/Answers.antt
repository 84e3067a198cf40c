use Rattle.std.proofs.Common.{arith}
use Rattle.timelock.proofs.Members.{member_depth}
use Rattle.timelock.proofs.Fits.{all_fits, any_fits, m_fits}
use Rattle.timelock.proofs.fitting.+fitting.Goals as goal

pub all_fit-returns-then-not-fits-clause-deep : goal.all_fit-returns-then-not-fits-clause-deep
all_fit-returns-then-not-fits-clause-deep t c = λ e.
    let n = member_depth c.args.members.now c.loop-member.member-index c.member-item.result c.loop-member-test.true c.member-item.is in
    omega (arith, n, c.fits.ensures.deep c.if-not-fits.true)

pub fits-returns-in-RequireAllOf-clause-fit : goal.fits-returns-in-RequireAllOf-clause-fit
fits-returns-in-RequireAllOf-clause-fit t c = λ yes. rw c.in-RequireAllOf.is (all_fits c.args.depth c.as_slice.result.now c.in-RequireAllOf.members c.as_slice.ensures c.if-depth-eq0.false (c.all_fit.ensures.fit yes) (c.all_fit.ensures.counted yes))

pub fits-returns-in-RequireAnyOf-clause-fit : goal.fits-returns-in-RequireAnyOf-clause-fit
fits-returns-in-RequireAnyOf-clause-fit t c = λ yes. rw c.in-RequireAnyOf.is (any_fits c.args.depth c.as_slice-in-RequireAnyOf.result.now c.in-RequireAnyOf.members c.as_slice-in-RequireAnyOf.ensures c.if-depth-eq0.false (c.all_fit-in-RequireAnyOf.ensures.fit yes) (c.all_fit-in-RequireAnyOf.ensures.counted yes))

pub fits-returns-then-has_text-clause-fit : goal.fits-returns-then-has_text-clause-fit
fits-returns-then-has_text-clause-fit t c = λ yes.
    let ts = c.as_slice-then-has_text.result.now in
    rw c.in-RequireMOf.is (m_fits c.args.depth ts c.in-RequireMOf.members c.as_slice-then-has_text.ensures c.if-depth-eq0.false (c.all_fit-then-has_text.ensures.fit yes) (c.all_fit-then-has_text.ensures.counted yes) c.in-RequireMOf.least c.has_text.ensures.in_range)
