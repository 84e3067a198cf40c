-- What the core keeps of a state, and which states of the definitions it stands for.
use Rattle.std.specs.Prelude.{◌≡◌, ◌↔◌, List, [], length, Contains, refl}
use Rattle.std.specs.List.{AllByRecursion}
use Rattle.std.specs.Coded.{Coded, code_by, coded×, coded_list}
use Rattle.model.specs.Genesis.{Genesis}
use Rattle.model.specs.Signature.{Verifies}
use Rattle.model.specs.Ledger.{Network, network_on}
use Rattle.model.specs.Block.{Block}
use Rattle.model.specs.Transaction.{Transaction}
use Rattle.followers.specs.Places.{Places}
use Rattle.followers.specs.PlaceCodes.{coded_places}
use Rattle.followers.specs.Standing.{ArePlacesOf}
use Rattle.model.specs.History.{State, live_of}
use Rattle.model.specs.Codes.{coded_genesis, coded_block, coded_transaction}

-- the genesis, the chain that was opened on, the selected chain, the live blocks, the mempool and where the followers
-- stand: nothing of kept blocks below the immutable tip, and no chain that a follower was told
pub record Held : Type 0 where
  pub genesis : Genesis
  pub opened : List Block
  pub chain : List Block
  pub live : List Block
  pub mempool : List Transaction
  pub followers : Places

abbrev pub coded_held : Coded Held
coded_held =
    code_by (Genesis × (List Block × (List Block × (List Block × (List Transaction × Places)))))
    (coded× coded_genesis (coded× (coded_list coded_block) (coded× (coded_list coded_block)
    (coded× (coded_list coded_block) (coded× (coded_list coded_transaction) coded_places)))))
    (λ h. (h.genesis, (h.opened, (h.chain, (h.live, (h.mempool, h.followers))))))
    (λ p. record {
      genesis = p.0;
      opened = p.1.0;
      chain = p.1.1.0;
      live = p.1.1.1.0;
      mempool = p.1.1.1.1.0;
      followers = p.1.1.1.1.1;
    })
    (λ _. refl)

-- what such a core begins from, under a scheme of signatures
abbrev pub network_held : Held → Verifies → Network
network_held held verifies = network_on held.genesis verifies held.opened

-- The core stands for each state with this chain and this mempool whose followers stand there and whose live blocks are
-- those held, as members and in number. Nothing is said of the other kept blocks.
pub record Stands (held : Held) (s : State) : Type 0 where
  pub chain : held.chain ≡ s.chain
  pub mempool : held.mempool ≡ s.mempool
  pub followers : ArePlacesOf held.chain held.followers s.followers
  pub members : (verifies : Verifies) (b : Block)
      → Contains held.live b ↔ Contains (live_of (network_held held verifies) s) b
  pub count : (verifies : Verifies) → length held.live ≡ length (live_of (network_held held verifies) s)
  pub chain_kept : AllByRecursion (Contains s.kept) s.chain

-- a core before anything came
abbrev pub opening_held : Genesis → List Block → Held
opening_held genesis opened =
    record { genesis = genesis; opened = opened; chain = opened; live = []; mempool = []; followers = [] }

-- what is held of live blocks, a chain, a mempool and followers
abbrev pub held_of : Genesis → (opened live chain : List Block) → List Transaction → Places → Held
held_of genesis opened live chain mempool followers = record {
  genesis = genesis;
  opened = opened;
  chain = chain;
  live = live;
  mempool = mempool;
  followers = followers;
}
