-- An index beside the ledger of its chain, and beside what a follower is told.
use Rattle.std.specs.Prelude.{◌≡◌, List, [], ◌∷◌, ◌++◌, Some}
use Rattle.model.specs.Utxo.{Utxo}
use Rattle.model.specs.Block.{Block, SpellsBlock}
use Rattle.model.specs.Chain.{Follows}
use Rattle.model.specs.Follower.{Instruction, Stay, AddBlock, RollBack, AreReplayed}
use Rattle.model.specs.Genesis.{opening_utxo}
use Rattle.model.specs.Ledger.{Network, Ledger, ledger_of}
use Rattle.watching.specs.Which.{watched_among}
use Rattle.watching.specs.Chains.{unspent_of, Watched, with_block, IsRolledBack, IsIndexOf}

-- OUTPUTS OF A VALID CHAIN
-- What the blocks of a chain leave of the genesis outputs is the UTXO of its ledger, where the rules let each of its
-- transactions through.
abbrev pub OutputsAreTheLedgers : Type 0
OutputsAreTheLedgers = (network : Network) (chain : List Block) (ledger : Ledger)
    → ledger_of network chain ≡ Some ledger → ledger.utxo ≡ unspent_of (opening_utxo network.genesis) chain

-- the outputs of an index are the watched ones of what its chain leaves, of the blocks before it began and of those
-- since
abbrev pub OutputsAreTheChains : Type 0
OutputsAreTheChains = (granted : Utxo) (past since : List Block) (w : Watched)
    → IsIndexOf granted past since w
    → w.last.tables.outputs ≡ watched_among w.which (unspent_of granted (past ++ since))

-- ---- a follower's instructions

-- the index has taken the instruction
abbrev pub IsTaken : Watched → Instruction → Watched → Type 0
IsTaken old Stay new = new ≡ old
IsTaken old (AddBlock bytes) new =
    (b : Block) × SpellsBlock b bytes × Follows old.last.tip b × (new ≡ with_block old b)
IsTaken old (RollBack point) new = IsRolledBack old point new

-- these instructions, one after the other
abbrev pub AreTaken : Watched → List Instruction → Watched → Type 0
AreTaken old [] new = new ≡ old
AreTaken old (first ∷ others) new = (between : Watched) × IsTaken old first between × AreTaken between others new

-- WHAT IS WATCHED
-- Whatever instructions an index takes, it watches what it watched before.
abbrev pub WhichStays : Type 0
WhichStays = (instructions : List Instruction) (old new : Watched) → AreTaken old instructions new
    → new.which ≡ old.which

-- the index is one of this chain, which goes on from the blocks before it began
pub record IsIndexOfTold (granted : Utxo) (past told : List Block) (w : Watched) : Type 0 where
  pub since : List Block
  pub goes_on : told ≡ past ++ since
  pub index : IsIndexOf granted past since w

-- INDEX BESIDE A FOLLOWER
-- An index that takes each instruction of a follower is that of the chain that the follower was told.
abbrev pub FollowsTheTold : Type 0
FollowsTheTold = (granted : Utxo) (past since told : List Block) (instructions : List Instruction) (old new : Watched)
    → IsIndexOf granted past since old → AreTaken old instructions new → AreReplayed (past ++ since) instructions told
    → IsIndexOfTold granted past told new

-- LEDGER OF THE TOLD
-- So its outputs are the watched ones of the UTXO of that chain's ledger, where the chain has one, and genesis granted
-- those with which the index began.
abbrev pub OutputsAreTheTolds : Type 0
OutputsAreTheTolds = (network : Network) (past since told : List Block) (instructions : List Instruction)
    (old new : Watched) (ledger : Ledger) → IsIndexOf (opening_utxo network.genesis) past since old
    → AreTaken old instructions new → AreReplayed (past ++ since) instructions told
    → ledger_of network told ≡ Some ledger → new.last.tables.outputs ≡ watched_among old.which ledger.utxo
