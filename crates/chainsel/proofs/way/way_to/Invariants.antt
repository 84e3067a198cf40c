use Rattle.std.proofs.Common.{◌≡◌, map, reverse}
use Rattle.std.specs.List.{AllByRecursion}
use Rattle.chain.specs.Chained.{chain_of}
use Rattle.chainsel.specs.Paths.{IsOnPath}
use Rattle.chainsel.proofs.Walks.{IsWalk}
use Rattle.chainsel.proofs.way.way_to.Given as goal

-- the way back has come to this block, whose number is that of the next turn's blocks and one; what is left of what was
-- walked is what paths are made of
abbrev pub invariant-loop-keep : goal.invariant-loop-keep
invariant-loop-keep g l = record {
  walk : IsWalk l.store l.found.hashes.items (chain_of l.chain) l.immutable l.new l.fn.best.end.now l.first (reverse l.way.items);
  number : l.first.header.number ≡ l.keep;
  walked : AllByRecursion (IsOnPath l.store l.found.hashes.items l.new) (map (λ x. x.now) l.walked.items);
}
