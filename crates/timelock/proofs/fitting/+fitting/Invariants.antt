-- Where what the loop has still to look at fits, the whole does. The measures go down with the depth that is allowed.
use Rattle.std.proofs.Common.{◌+◌, ◌*◌, drop}
use Rattle.timelock.specs.View.{timelocks_of}
use Rattle.timelock.specs.Fitting.{AllFitIn}
use Rattle.timelock.proofs.fitting.+fitting.Given as goal

abbrev pub decreases-fits : goal.decreases-fits
decreases-fits l = 2 * l.depth

abbrev pub decreases-all_fit : goal.decreases-all_fit
decreases-all_fit l = 2 * l.depth + 1

abbrev pub invariant-all_fit-loop-member : goal.invariant-all_fit-loop-member
invariant-all_fit-loop-member l = AllFitIn l.depth (timelocks_of (drop l.member-index l.members)) → AllFitIn l.depth (timelocks_of l.members)
