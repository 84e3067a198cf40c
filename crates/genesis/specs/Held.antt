-- What a genesis of the program stands for, and what it keeps.
use Rattle.std.specs.Prelude.{◌≡◌, map}
use Rattle.model.specs.Genesis.{Genesis, IsGenesis, supply_of}
use Rattle.genesis.specs.declared.genesis.Genesis.TheInside.{Inside}
use Rattle.genesis.specs.Judgement.{genesis_with}
use Rattle.genesis.specs.View.{settings_view, grant_view}

abbrev pub genesis_view : Inside → Genesis
genesis_view g = genesis_with (settings_view g.settings) (map grant_view g.grants.items)

pub record IsHeldGenesis (g : Inside) : Type 0 where
  pub genesis : IsGenesis (genesis_view g)
  pub supply : g.supply ≡ supply_of (genesis_view g)
