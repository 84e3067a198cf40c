-- A shared core may be used by several threads, and a caller or an adder may go to another one, whatever the scheme of
-- signatures and whatever the names of core and inbox. A type whole, as it has its parts, since a `search` that goes down through them runs out of
-- steps.
use denote.RattleType.{RattleType}
use denote.Builtin.{unit}
use denote.Param.Send.{IsSend, IsSync, struct_send, struct_sync, sendable}
use denote.Struct.Declared.{shape}
use Rattle.std.proofs.Crossing.{crosses}
use Rattle.std.proofs.Crossing as heap
use Rattle.std.proofs.sync.Mutex.TheSendSync as mutex
use Rattle.std.specs.contracts.alloc.Global as Global
use Rattle.std.specs.contracts.impls.GlobalAllocator.TheImpl as allocator
use Rattle.atomic_table.proofs.shared.Seat.TheSendSync as seat
use Rattle.atomic_table.proofs.owned.Table.TheSendSync as table
use Rattle.chain_core.specs.contracts.node_core.Core as Core
use Rattle.witness_pool.specs.declared.scheme.SigScheme as scheme
use Rattle.block.proofs.ForCallers.{Seen-send}
use Rattle.chain_core.proofs.ForCallers.{Core-send}
use Rattle.shared.specs.declared.room.Room as room
use Rattle.shared.specs.contracts.caller.Caller as Caller
use Rattle.shared.specs.contracts.heights.View as View
use Rattle.shared.specs.contracts.heights.HeightRule as HeightRule
use Rattle.shared.specs.contracts.heights.HeightRuleTableRuleUnitViewCore.TheImpl as rule
use Rattle.shared.specs.contracts.journal.Journal as Journal
use Rattle.shared.specs.contracts.desk.Desk as Desk
use Rattle.shared.specs.contracts.shared.Shared as Shared
use Rattle.inbox.specs.declared.mailroom.Mailroom as mailroom
use Rattle.shared.specs.contracts.adder.Adder as Adder
use Rattle.shared.specs.contracts.held.Held as Held
use Rattle.shared.proofs.caller.Caller.TheSendSync as caller
use Rattle.shared.proofs.caller_seat.CallerSeat.TheSendSync as caller_seat
use Rattle.inbox.proofs.adder_end.AdderEnd.TheSendSync as adder_end

unit_send : IsSend unit
unit_send = search sendable

pub Caller-send : (B : RattleType) (b : room.Ghosts B.Denot) → IsSend (Caller.the_field B b).row
Caller-send = caller.the_send

module _ (S : RattleType) (s : scheme.Ghosts S.Denot) where
  held_send : IsSend (Held.the_field S s).row
  held_send = let seen = Seen-send S s in search (crosses, sendable) depth 20

  -- an adder whose gate may
  pub Adder-send : (G B M : RattleType) (b : room.Ghosts B.Denot) (m : mailroom.Ghosts M.Denot) → IsSend G → IsSend (Adder.the_field S G B M s b m).row
  Adder-send G B M b m gate =
      let held = held_send in
      let caller = caller_seat.the_send B b in
      let end = adder_end.the_send M m in
      search (crosses, sendable) depth 20

  module _ (B : RattleType) (b : room.Ghosts B.Denot) where
    journal_send : IsSend (Journal.the_field B b).row
    journal_send = search (seat.the_send, crosses, sendable) depth 20

    desk_send : IsSend (Desk.the_field S B s b).row
    desk_send = let c = Core-send S s in let j = journal_send in search (crosses, sendable) depth 20

    -- the word, and the lock with what lies under it
    pub Shared-sync : IsSync (Shared.the_field S B b s).row
    Shared-sync =
        struct_sync (shape (Shared.the_type S B b s)) (
          table.the_field_sync unit View.the_row (Core.the_row S s) (HeightRule.the_row S) Global.the_row
              (rule.ghosts S s rule.no_dict) allocator.ghosts unit_send heap.send heap.sync heap.frees,
          (mutex.the_sync (Desk.the_row S B s b) desk_send, tt),
        )

    pub Shared-send : IsSend (Shared.the_field S B b s).row
    Shared-send =
        struct_send (shape (Shared.the_type S B b s)) (
          table.the_field_send unit View.the_row (Core.the_row S s) (HeightRule.the_row S) Global.the_row
              (rule.ghosts S s rule.no_dict) allocator.ghosts unit_send heap.send heap.frees,
          (mutex.the_send (Desk.the_row S B s b) desk_send, tt),
        )
