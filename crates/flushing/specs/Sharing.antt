-- Texts on a log beside a core that threads share.
use Rattle.std.specs.Prelude.{ℕ, List}
use Rattle.model.specs.Ledger.{Network}
use Rattle.model.specs.Journal.{Journal}
use Rattle.shared.specs.Copies.{AreImmutableAfter}
use Rattle.flushing.specs.Texts.{Begins}

-- the journal is legal, and these texts begin those of the blocks that are never rolled back after it
pub record BeginAfter (network : Network) (journal : Journal) (first : List (List ℕ)) : Type 0 where
  pub texts : List (List ℕ)
  pub are : AreImmutableAfter network journal texts
  pub begins : Begins first texts
