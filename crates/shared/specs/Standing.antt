-- What the lock keeps of the journal: the core is its state, and the seat with the right to write has seen all of it;
-- and the word beside the lock.
use Rattle.std.specs.Prelude.{◌≡◌, ℕ, [], true}
use mathlib.Core.HLevel.{×₃_prop}
use Rattle.std.specs.Coded.{Coded-set, coded_ℕ}
use Rattle.std.specs.List.{AllByRecursion}
use Rattle.std.specs.Global.{Global}
use Rattle.atomic_table.specs.Seated.{TableId, table_id_coded}
use Rattle.atomic_table.specs.declared.shared.Seat.{Seat}
use Rattle.atomic_table.specs.declared.owned.Table.{Table}
use Rattle.model.specs.Signature.{Verifies}
use Rattle.shared.specs.Starts.{Start, coded_start, network_from, start_of}
use Rattle.model.specs.Chain.{IsOpening}
use Rattle.model.specs.History.{State, IsLegal}
use Rattle.model.specs.Journal.{Journal, history_of, NamesItsPeer}
use Rattle.chain_core.specs.Held.{Held, Stands}
use Rattle.shared.specs.Heights.{Deals, SeatView}

-- the word of this name, for what this core begins from
abbrev pub IsHeightOf : {S P : Type 0} → TableId → Start → Table S SeatView Held P Global → Type 0
IsHeightOf name start t =
    (t.shared.table_id ≡ name) × (t.shared.table_id.words ≡ 1) × (start_of t.shared.key ≡ start)

-- there is one proof of it at most
pub height_is_fact : {S P : Type 0} (name : TableId) (start : Start) (t : Table S SeatView Held P Global)
    → IsProp (IsHeightOf name start t)
height_is_fact name start t =
    ×₃_prop (Coded-set table_id_coded _ _) (Coded-set coded_ℕ _ _) (Coded-set coded_start _ _)

-- the journal is legal, each arrival names its peer, one from 1 to 8, and the core is the journal's state
pub record IsCoreOf (verifies : Verifies) (start : Start) (journal : Journal) (held : Held) : Type 0 where
  pub start_is : start_of held ≡ start
  pub opens : IsOpening (network_from start verifies)
  pub state : State
  pub legal : IsLegal (network_from start verifies) (history_of journal) state
  pub named : AllByRecursion NamesItsPeer journal
  pub stands : Stands held state

-- the seat is one of this word, and has the right to write
pub record IsWriterOf {S : Type 0} (name : TableId) (seat : Seat S SeatView) : Type 0 where
  pub name_is : seat.table_id ≡ name
  pub slots : seat.me.1 ≡ []
  pub right : seat.me.0.writes ≡ true
  pub next : ℕ
  pub role : seat.me.0.role ≡ Deals next
