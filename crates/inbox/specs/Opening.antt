-- How an inbox is opened.
use Rattle.std.specs.Prelude.{◌≡◌, ℕ, zero, suc, ◌≤◌, List, [], ◌∷◌, ◌++◌}
use mathlib.Core.Path.{refl}
use Rattle.std.specs.Coded.{Coded, coded_ℕ, coded×, code_by}
use Rattle.std.specs.Arc.{arc_value}
use Rattle.atomic_table.specs.Seated.{TableId, table_id_coded}
use Rattle.crossbeam_queue.specs.Passes.{view, IsPassOf, ruled_capacity}
use Rattle.inbox.specs.Arrivals.{SentBy}
use Rattle.inbox.specs.Rule.{first_view}
use Rattle.inbox.specs.declared.faults.InboxFault.{InboxFault}
use Rattle.inbox.specs.declared.faults.InboxFault.TheVariants.{BadCapacity, OutOfMemory}
use Rattle.inbox.specs.declared.opened.Opened.TheInside.{Inside}

-- how many places an inbox may have
abbrev pub IsCapacity : ℕ → Type 0
IsCapacity n = (1 ≤ n) × (n ≤ 4096)

-- when each fault comes: the capacity is too small or too large; or it isn't, and memory ran out
abbrev pub IsInboxFault : ℕ → InboxFault → Type 0
IsInboxFault capacity BadCapacity = IsCapacity capacity → ⊥
IsInboxFault capacity OutOfMemory = IsCapacity capacity

-- so many peers that have sent nothing, with the numbers from 1 on
abbrev pub new_peers : ℕ → List SentBy
new_peers zero = []
new_peers (suc n) = new_peers n ++ record { peer = suc n; sent = [] } ∷ []

-- the name of no queue
abbrev pub no_table : TableId
no_table = record { words = 0; slots = 0; views_name = 0; atom = 0; block = 0; offset = 0; slot_names = [] }

-- an inbox that has no name yet: the name that its queue has, and how many places
pub record OpenedInbox : Type 0 where
  pub table : TableId
  pub capacity : ℕ

abbrev pub coded_opened : Coded OpenedInbox
coded_opened =
    code_by (TableId × ℕ) (coded× table_id_coded coded_ℕ) (λ o. (o.table, o.capacity))
    (λ p. record { table = p.0; capacity = p.1 }) (λ _. refl)

abbrev pub opened_view : Inside → OpenedInbox
opened_view a =
    record { table = (arc_value a.queue).table.shared.table_id; capacity = ruled_capacity (arc_value a.queue) }

-- the first pass of its queue, with which nothing was done
pub record IsOpenedInside (a : Inside) : Type 0 where
  pub pass : IsPassOf (arc_value a.queue) a.pass
  pub first : view a.pass ≡ first_view
