-- What a log is to its caller: its disk, the blocks that are durable, and whether it is broken.
use Rattle.std.specs.Prelude.{◌≡◌, ℕ, List, ◌++◌, Bool, refl}
use Rattle.std.specs.Coded.{Coded, code_by, coded×, coded_ℕ, coded_list, coded_bool}

pub record OpenLog (D : Type 0) : Type 0 where
  pub disk : D
  pub blocks : List (List ℕ)
  pub broken : Bool

abbrev pub open_log_code : {D : Type 0} → Coded D → Coded (OpenLog D)
open_log_code {D} code =
    code_by (D × (List (List ℕ) × Bool)) (coded× code (coded× (coded_list (coded_list coded_ℕ)) coded_bool))
    (λ log. (log.disk, (log.blocks, log.broken)))
    (λ p. record { disk = p.0; blocks = p.1.0; broken = p.1.1 })
    (λ _. refl)

-- the blocks are those before, and a beginning of the new ones
pub record GoesOn (old : List (List ℕ)) (new : List (List ℕ)) (blocks : List (List ℕ)) : Type 0 where
  pub first : List (List ℕ)
  pub next : List (List ℕ)
  pub are : blocks ≡ old ++ first
  pub begins : new ≡ first ++ next
