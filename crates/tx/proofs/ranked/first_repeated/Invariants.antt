-- What is left decides, with the one before it.
use Rattle.std.proofs.Common.{map, drop}
use Rattle.tx.proofs.Ties.{DecidesFrom}
use Rattle.tx.proofs.ranked.first_repeated.Given as goal

abbrev pub invariant-loop-part : goal.invariant-loop-part
invariant-loop-part g l =
    let t = g.T.Ranked in
    DecidesFrom t.cmp (map t.key l.fn.parts) (t.key l.last) (map t.key (drop l.part-index l.others))
