use Rattle.std.proofs.Common.{length, refl, arith}
use Rattle.conversing.proofs.PieceLaws.{too_much_at_hand}
use Rattle.conversing.proofs.lane_line.take_piece.Goals as goal

pub returns-then-part-limit-clause-taken : goal.returns-then-part-limit-clause-taken
returns-then-part-limit-clause-taken g c = (
  refl,
  c.fill_buf.follows.holds-at-none.0,
  too_much_at_hand c.args.limit _ c.in-Ok.available.now c.part_of-part.result.count (length c.args.line.now.items) c.in-Ok.ensures.front c.part_of-part.ensures.within c.part_of-part.ensures.before (omega (arith, c.len.ensures, c.if-part-limit.true, c.requires.held)),
)
