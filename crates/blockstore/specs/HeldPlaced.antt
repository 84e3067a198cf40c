-- What a placed block of the code stands for.
use Rattle.blockstore.specs.declared.placed_block.PlacedBlock.TheInside.{Inside}
use Rattle.blockstore.specs.Placed.{Placed}

abbrev pub placed_of : {S : Type 0} → Inside S → Placed
placed_of p = record { stored = p.stored; reached = p.reached }
