-- What a shared core begins from: a new genesis, or a chain that its blocks were kept of.
use Rattle.std.specs.Prelude.{◌≡◌, ℕ, List, []}
use mathlib.Core.Path.{refl}
use Rattle.std.specs.Coded.{Coded, coded×, coded_list, code_by}
use Rattle.model.specs.Signature.{Verifies}
use Rattle.model.specs.Genesis.{Genesis}
use Rattle.model.specs.Block.{Block}
use Rattle.model.specs.Ledger.{Network, network_of, network_on}
use Rattle.model.specs.Codes.{coded_genesis, coded_block}
use Rattle.chain_core.specs.Held.{Held, opening_held}
use Rattle.chain_core.specs.Reopening.{IsChainOf}

-- the genesis, and the chain that the core was opened on; a new core was opened on no block
pub record Start : Type 0 where
  pub genesis : Genesis
  pub opened : List Block

abbrev pub coded_start : Coded Start
coded_start =
    code_by (Genesis × List Block) (coded× coded_genesis (coded_list coded_block)) (λ s. (s.genesis, s.opened))
    (λ p. record { genesis = p.0; opened = p.1 }) (λ _. refl)

-- what a node begins from there, under a scheme of signatures
abbrev pub network_from : Start → Verifies → Network
network_from start verifies = network_on start.genesis verifies start.opened

-- a new core of the genesis
abbrev pub new_start : Genesis → Start
new_start genesis = record { genesis = genesis; opened = [] }

-- what a core began from
abbrev pub start_of : Held → Start
start_of held = record { genesis = held.genesis; opened = held.opened }

-- Nothing came to the core since it was opened, and the chain that it was opened on is valid, and that of some texts.
pub record IsUntouched (verifies : Verifies) (held : Held) : Type 0 where
  pub new : held ≡ opening_held held.genesis held.opened
  pub texts : List (List ℕ)
  pub chain : IsChainOf (network_of held.genesis verifies) texts held.opened
