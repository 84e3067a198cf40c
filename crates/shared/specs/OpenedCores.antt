-- A shared core that has no name yet.
use Rattle.std.specs.Prelude.{◌≡◌, ℕ, []}
use mathlib.Core.Path.{refl}
use Rattle.std.specs.Coded.{Coded, coded_ℕ, coded×, code_by}
use Rattle.atomic_table.specs.Seated.{TableId, table_id_coded}
use Rattle.model.specs.Signature.{Verifies}
use Rattle.model.specs.Chain.{IsOpening}
use Rattle.shared.specs.Starts.{Start, coded_start, network_from, start_of}
use Rattle.chain_core.specs.Held.{opening_held}
use Rattle.shared.specs.Heights.{first_view}
use Rattle.shared.specs.Opening.{AreCallers}
use Rattle.shared.specs.declared.opened.Opened.TheInside.{Inside}

-- the name that its word has, what it begins from, and for how many callers it is
pub record OpenedCore : Type 0 where
  pub table : TableId
  pub start : Start
  pub callers : ℕ

abbrev pub coded_opened : Coded OpenedCore
coded_opened =
    code_by (TableId × (Start × ℕ)) (coded× table_id_coded (coded× coded_start coded_ℕ))
    (λ o. (o.table, (o.start, o.callers))) (λ p. record { table = p.0; start = p.1.0; callers = p.1.1 }) (λ _. refl)

abbrev pub opened_view : {S : Type 0} → Inside S → OpenedCore
opened_view a = record { table = a.heights.shared.table_id; start = start_of a.core; callers = a.callers }

-- nothing came to the core, and the first seat of its word deals and writes
pub record IsOpenedInside {S : Type 0} (verifies : Verifies) (a : Inside S) : Type 0 where
  pub count : AreCallers a.callers
  pub new : a.core ≡ opening_held a.core.genesis a.core.opened
  pub opens : IsOpening (network_from (start_of a.core) verifies)
  pub words : a.heights.shared.table_id.words ≡ 1
  pub key : start_of a.heights.shared.key ≡ start_of a.core
  pub seat : a.seat.table_id ≡ a.heights.shared.table_id
  pub first : a.seat.me ≡ (first_view (start_of a.core), [])
