-- What a stored block of the code stands for.
use Rattle.blockstore.specs.declared.stored_block.StoredBlock.TheInside.{Inside}
use Rattle.blockstore.specs.Stored.{Stored}

abbrev pub stored_of : {S : Type 0} → Inside S → Stored
stored_of s = record { block = s.block; invalid = s.invalid }
