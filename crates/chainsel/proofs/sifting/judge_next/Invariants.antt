use Rattle.chainsel.specs.Judged.{StaysSifted, GainsFound}
use Rattle.chainsel.proofs.sifting.judge_next.Given as goal

-- of the successors so far those are judged that were fit
abbrev pub invariant-loop-stored : goal.invariant-loop-stored
invariant-loop-stored g l = record {
  gains : GainsFound l.store l.fn.found.hashes.items l.found.hashes.items;
  sifted : StaysSifted g.S.SigScheme.verifies l.store l.before.block.now l.before.state l.fn.found.hashes.items l.found.hashes.items l.fn.waiting.items l.waiting.items;
}
