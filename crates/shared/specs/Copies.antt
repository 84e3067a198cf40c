-- The blocks of a shared core that are never rolled back.
use Rattle.std.specs.Prelude.{◌≡◌, ℕ, List, drop}
use Rattle.model.specs.Ledger.{Network}
use Rattle.model.specs.Chain.{immutable_part}
use Rattle.model.specs.Journal.{Journal, IsLegalJournal}
use Rattle.chain_core.specs.Immutable.{texts_of}

-- the journal is legal, and these are the texts of the blocks that are never rolled back after it
pub record AreImmutableAfter (network : Network) (journal : Journal) (texts : List (List ℕ)) : Type 0 where
  pub legal : IsLegalJournal network journal
  pub texts_are : texts ≡ texts_of (immutable_part network legal.state.chain)

-- the journal is legal, and these are the texts of the blocks that are never rolled back after it, except the first
-- `from`
pub record AreCopiesAfter (network : Network) (journal : Journal) (from : ℕ) (copies : List (List ℕ)) : Type 0 where
  pub texts : List (List ℕ)
  pub are : AreImmutableAfter network journal texts
  pub rest : copies ≡ drop from texts
