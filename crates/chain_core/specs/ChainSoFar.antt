-- A chain on which a core will be opened, as far as it has come.
use Rattle.std.specs.Prelude.{List, refl}
use Rattle.std.specs.Coded.{Coded, code_by, coded×, coded_list}
use Rattle.model.specs.Genesis.{Genesis}
use Rattle.model.specs.Block.{Block}
use Rattle.model.specs.Codes.{coded_genesis, coded_block}

-- the genesis, and the blocks that came, the first one first
pub record ChainSoFar : Type 0 where
  pub genesis : Genesis
  pub chain : List Block

abbrev pub coded_so_far : Coded ChainSoFar
coded_so_far =
    code_by (Genesis × List Block) (coded× coded_genesis (coded_list coded_block)) (λ c. (c.genesis, c.chain))
    (λ p. record { genesis = p.0; chain = p.1 }) (λ _. refl)
