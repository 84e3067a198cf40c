-- What the ends of the code stand for.
use Rattle.std.specs.Prelude.{◌≡◌, ℕ, suc, ◌<◌, Option, length, slice_index}
use Rattle.std.specs.Global.{Global}
use Rattle.std.specs.Arc.{arc_value}
use Rattle.atomic_table.specs.Seated.{TableId}
use Rattle.crossbeam_queue.specs.Passes.{view, IsPassOf, ruled_capacity}
use Rattle.crossbeam_queue.specs.declared.array_queue.Doing.{Doing}
use Rattle.crossbeam_queue.specs.declared.array_queue.Slotted.{Slotted}
use Rattle.inbox.specs.Arrivals.{Arrival, SentBy, Intake, peers, IsPeer, came_of, IsCountOf}
use Rattle.inbox.specs.Rule.{PassView, Takes, Sends}
use Rattle.inbox.specs.declared.arrival.Arrival.TheInside as code_arrival
use Rattle.inbox.specs.declared.peer_end.PeerEnd.TheInside as code_peer
use Rattle.inbox.specs.declared.adder_end.AdderEnd.TheInside as code_adder

abbrev pub arrival_view : code_arrival.Inside → Arrival
arrival_view a = record { peer = a.peer; bytes = a.bytes.items }

-- it is the queue of this name, with so many places
abbrev pub IsQueueOf : {Q : Type 0} → TableId → ℕ → Slotted (Option Arrival) (Doing Arrival PassView) Q Global → Type 0
IsQueueOf table capacity q = (q.table.shared.table_id ≡ table) × (ruled_capacity q ≡ capacity)

-- ---- a peer's end

abbrev pub peer_view : {B : Type 0} → code_peer.Inside B → SentBy
peer_view a = record { peer = a.number; sent = (view a.pass).sent }

-- its pass is one of the queue of this name, sends for the end's number, and knows as many as were counted
pub record IsPeerEndOf {B : Type 0} (table : TableId) (capacity : ℕ) (a : code_peer.Inside B) : Type 0 where
  pub queue : IsQueueOf table capacity (arc_value a.queue)
  pub pass : IsPassOf (arc_value a.queue) a.pass
  pub peer : IsPeer a.number
  pub role : (view a.pass).role ≡ Sends a.number
  pub count : IsCountOf a.count (length (view a.pass).sent)

-- ---- the adder's end

abbrev pub adder_view : {B : Type 0} → code_adder.Inside B → Intake
adder_view a = record { taken = (view a.pass).taken; told = (view a.pass).told }

-- its pass is one of the queue of this name, takes, has given all numbers, and knows of each peer as many as were
-- counted
pub record IsAdderEndOf {B : Type 0} (table : TableId) (capacity : ℕ) (a : code_adder.Inside B) : Type 0 where
  pub queue : IsQueueOf table capacity (arc_value a.queue)
  pub pass : IsPassOf (arc_value a.queue) a.pass
  pub role : (view a.pass).role ≡ Takes (suc peers)
  pub many : length a.counts ≡ peers
  pub counts : (k : ℕ) → k < peers → IsCountOf (slice_index a.counts k) (length (came_of (suc k) (view a.pass).taken))
