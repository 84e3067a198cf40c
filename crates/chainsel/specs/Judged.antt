-- What a search knows of the blocks that go on from the one that came: the states after those that are applied, and
-- those that are dead.
use Rattle.std.specs.Prelude.{◌≡◌, ◌≤◌, List, [], ◌∷◌, ◌++◌, length, Contains, Bool, true, false}
use Rattle.std.specs.List.{AllByRecursion}
use Rattle.model.specs.Block.{Block, block_hash_of}
use Rattle.model.specs.Signature.{Verifies}
use Rattle.model.specs.Genesis.{Genesis}
use Rattle.model.specs.Ledger.{Network, network_on}
use Rattle.model.specs.Chain.{genesis_tip, tip_at, tip_after}
use Rattle.model.specs.Applying.{LedgerState, IsStateOf}
use Rattle.ident.specs.Kinds.{BlockHash}
use Rattle.blockstore.specs.Stored.{Store, blocks_of}
use Rattle.chainsel.specs.Choices.{AreDead}
use Rattle.chainsel.specs.Founds.{AreFound}
use Rattle.chainsel.specs.declared.sifting.Judged.{Judged}

-- the state is that of a chain that ends in the block: of the one that came, live ones and those of the selected chain
pub record IsStateAt (network : Network) (chain : List Block) (store : Store) (new b : Block)
    (s : LedgerState) : Type 0 where
  pub path : List Block
  pub state : IsStateOf network path s
  pub ends : tip_after genesis_tip path ≡ tip_at b
  pub members : AllByRecursion (Contains ((new ∷ blocks_of store) ++ chain)) path

-- the state beside each of these blocks is that of a chain that ends in it
abbrev pub AreJudged : {S : Type 0} → Network → (chain : List Block) → Store → (new : Block) → List (Judged S) → Type 0
AreJudged network chain store new judged =
    AllByRecursion (λ j. IsStateAt network chain store new j.block.now j.state) judged

-- What was found dead is dead, and what waits is judged.
pub record IsSifted {S : Type 0} (network : Network) (chain : List Block) (store : Store) (new : Block)
    (found : List BlockHash) (waiting : List (Judged S)) : Type 0 where
  pub dead : AreDead network chain store new found
  pub judged : AreJudged network chain store new waiting

-- That stays so in every network, where this state is that of a chain that ends in this block.
abbrev pub StaysSifted : {S : Type 0} → Verifies → Store → Block → LedgerState → (found more : List BlockHash)
    → (waiting after : List (Judged S)) → Type 0
StaysSifted verifies store b s found more waiting after =
    (genesis : Genesis) (opened : List Block) (chain : List Block) (new : Block)
    → IsStateAt (network_on genesis verifies opened) chain store new b s
    → IsSifted (network_on genesis verifies opened) chain store new found waiting
    → IsSifted (network_on genesis verifies opened) chain store new more after

-- Where each was a live block found once it stays so, and there are no fewer.
pub record GainsFound (store : Store) (found more : List BlockHash) : Type 0 where
  pub stays : AreFound store found → AreFound store more
  pub longer : length found ≤ length more

-- where the block that came isn't found dead, live blocks may be, and else it is, and it alone
abbrev pub FindsDead : Store → (new : Block) → (stays : Bool) → (found more : List BlockHash) → Type 0
FindsDead store new true found more = GainsFound store found more
FindsDead store new false found more =
    (hash : BlockHash) × (hash.bytes ≡ block_hash_of new) × (more ≡ found ++ hash ∷ [])
