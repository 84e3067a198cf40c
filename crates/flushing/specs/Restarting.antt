-- What a node that restarts makes a core of: its genesis, and the blocks that it was given.
use Rattle.std.specs.Prelude.{◌≡◌, ℕ, List, refl}
use Rattle.std.specs.Coded.{Coded, code_by, coded×, coded_ℕ, coded_list}
use Rattle.model.specs.Genesis.{Genesis}
use Rattle.model.specs.Codes.{coded_genesis}

pub record Restarting : Type 0 where
  pub genesis : Genesis
  pub blocks : List (List ℕ)

abbrev pub coded_restarting : Coded Restarting
coded_restarting =
    code_by (Genesis × List (List ℕ)) (coded× coded_genesis (coded_list (coded_list coded_ℕ)))
    (λ r. (r.genesis, r.blocks))
    (λ p. record { genesis = p.0; blocks = p.1 })
    (λ _. refl)
