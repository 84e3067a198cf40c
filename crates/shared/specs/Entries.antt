-- What the entries of the code's journal stand for, and what a caller's own call and an arrival are in it.
use Rattle.std.specs.Prelude.{ℕ, List, Option, Some, None, Ok, map}
use Rattle.model.specs.History as history
use Rattle.model.specs.History.{Event, Reply}
use Rattle.model.specs.Journal.{JournalEntry}
use Rattle.ident.specs.PointView.{point_of}
use Rattle.chain_core.specs.Views.{arrive_reply_of, submit_reply_of, open_reply_of, next_reply_of}
use Rattle.chain_core.specs.Views.{forward_reply_of, close_reply_of, discard_reply_of}
use Rattle.shared.specs.declared.call.Call.{Call}
use Rattle.shared.specs.declared.call.Call.TheVariants.{Arrive, Submit, Open, Next, Forward, Close, Discard}
use Rattle.shared.specs.declared.journal_entry.JournalEntry.TheInside.{Inside}

-- the peer that an arrival came from
abbrev pub peer_of : {S : Type 0} → Call S → Option ℕ
peer_of (Arrive peer bytes reply) = Some peer
peer_of (Submit bytes reply) = None
peer_of (Open reply) = None
peer_of (Next id reply) = None
peer_of (Forward id points reply) = None
peer_of (Close id reply) = None
peer_of (Discard hash reply) = None

abbrev pub asked : {S : Type 0} → Call S → Event
asked (Arrive peer bytes reply) = history.Arrive bytes.now
asked (Submit bytes reply) = history.Submit bytes.now
asked (Open reply) = history.Open
asked (Next id reply) = history.Next id.number
asked (Forward id points reply) = history.Forward id.number (map point_of points.now)
asked (Close id reply) = history.Close id.number
asked (Discard hash reply) = history.Discard hash.bytes

abbrev pub answered : {S : Type 0} → Call S → Reply
answered (Arrive peer bytes reply) = arrive_reply_of (Ok reply.now)
answered (Submit bytes reply) = submit_reply_of (Ok reply.now)
answered (Open reply) = open_reply_of reply.now
answered (Next id reply) = next_reply_of reply.now
answered (Forward id points reply) = forward_reply_of reply.now
answered (Close id reply) = close_reply_of reply.now
answered (Discard hash reply) = discard_reply_of reply.now

-- the caller made this call
abbrev pub entry_of : {S : Type 0} → ℕ → Call S → JournalEntry
entry_of caller call =
    record { caller = caller; peer = peer_of call; entry = record { event = asked call; reply = answered call } }

abbrev pub entry_view : {S : Type 0} → Inside S → JournalEntry
entry_view a = entry_of a.caller a.call

-- a caller brings the event itself, and this is answered
abbrev pub call_by : ℕ → Event → Reply → JournalEntry
call_by caller event reply =
    record { caller = caller; peer = None; entry = record { event = event; reply = reply } }

-- a caller brings bytes of a block that a peer sent, and this is answered
abbrev pub arrival_by : (caller peer : ℕ) → List ℕ → Reply → JournalEntry
arrival_by caller peer bytes reply =
    record { caller = caller; peer = Some peer; entry = record { event = history.Arrive bytes; reply = reply } }
