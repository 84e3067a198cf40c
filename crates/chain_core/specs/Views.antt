-- What the plain types of the code stand for: refusals, events and replies.
use Rattle.std.specs.Prelude.{List, [], ◌∷◌, Option, Some, None, Result, Ok, Err, map, option_map}
use Rattle.std.specs.declared.alloc.AllocError.{AllocError}
use Rattle.model.specs.Block.{block_text}
use Rattle.model.specs.Follower as follower
use Rattle.model.specs.History as history
use Rattle.ident.specs.PointView.{point_of}
use Rattle.ident.specs.declared.point.Point.{Point}
use Rattle.mempool.specs.View.{reply_of as answer_of}
use Rattle.block.specs.declared.fault.BadBytes.{BadBytes}
use Rattle.block.specs.declared.fault.BadBytes.TheVariants as bad
use Rattle.mempool.specs.declared.reply.SubmitReply.{SubmitReply}
use Rattle.chain_core.specs.declared.refusal.Refusal.{Refusal}
use Rattle.chain_core.specs.declared.refusal.Refusal.TheVariants.{TooLarge, Malformed, BodyHashMismatch, TooOld, Known}
use Rattle.chain_core.specs.declared.refusal.Refusal.TheVariants.{Clash, VolatileFull}
use Rattle.chain_core.specs.declared.arrival.ArriveReply.{ArriveReply}
use Rattle.chain_core.specs.declared.arrival.ArriveReply.TheVariants.{Kept, Refused}
use Rattle.followers.specs.declared.follower_id.FollowerId.{FollowerId}
use Rattle.followers.specs.declared.fault.OpenFollowerFault.{OpenFollowerFault}
use Rattle.followers.specs.declared.fault.OpenFollowerFault.TheVariants as open'
use Rattle.followers.specs.declared.fault.UnknownFollower.{UnknownFollower}
use Rattle.chain_core.specs.declared.discarding.NotBeside.{NotBeside}
use Rattle.chain_core.specs.declared.follower.Instruction.{Instruction}
use Rattle.chain_core.specs.declared.follower.Instruction.TheVariants as instruction
use Rattle.chain_core.specs.declared.follower.NextFault.{NextFault}
use Rattle.chain_core.specs.declared.follower.NextFault.TheVariants as next
use Rattle.chain_core.specs.declared.event.RawEvent.{RawEvent}
use Rattle.chain_core.specs.declared.event.RawEvent.TheVariants as event
use Rattle.chain_core.specs.declared.event.Reply.{Reply}
use Rattle.chain_core.specs.declared.event.Reply.TheVariants as reply

-- ---- arrivals

abbrev pub refusal_of : Refusal → history.Refusal
refusal_of TooLarge = history.TooLarge
refusal_of Malformed = history.Malformed
refusal_of BodyHashMismatch = history.BodyHashMismatch
refusal_of TooOld = history.TooOld
refusal_of Known = history.Known
refusal_of Clash = history.Clash
refusal_of VolatileFull = history.VolatileFull

-- the refusal of bytes that are no block
abbrev pub bad_refusal : BadBytes → Refusal
bad_refusal bad.TooLarge = TooLarge
bad_refusal bad.Malformed = Malformed
bad_refusal bad.BodyHashMismatch = BodyHashMismatch

abbrev pub arrive_reply_of : Result ArriveReply AllocError → history.Reply
arrive_reply_of (Ok (Kept back added)) = history.Kept back added
arrive_reply_of (Ok (Refused refusal)) = history.Refused (refusal_of refusal)
arrive_reply_of (Err want) = history.OutOfMemory

-- ---- submissions

abbrev pub submit_reply_of : Result SubmitReply AllocError → history.Reply
submit_reply_of (Ok reply) = history.Submitted (answer_of reply)
submit_reply_of (Err want) = history.OutOfMemory

-- ---- followers

-- a block to put on is told by its bytes, as they arrived
abbrev pub instruction_of : {S : Type 0} → Option (Instruction S) → follower.Instruction
instruction_of None = follower.Stay
instruction_of (Some (instruction.AddBlock block)) = follower.AddBlock (block_text block)
instruction_of (Some (instruction.RollBack point)) = follower.RollBack (point_of point)

abbrev pub open_reply_of : Result FollowerId OpenFollowerFault → history.Reply
open_reply_of (Ok id) = history.Opened id.number
open_reply_of (Err open'.TooManyFollowers) = history.TooManyFollowers
open_reply_of (Err open'.OutOfMemory) = history.OutOfMemory

abbrev pub next_reply_of : {S : Type 0} → Result (Option (Instruction S)) NextFault → history.Reply
next_reply_of (Ok instruction) = history.Instructed (instruction_of instruction)
next_reply_of (Err next.UnknownFollower) = history.UnknownFollower
next_reply_of (Err next.OutOfMemory) = history.OutOfMemory

abbrev pub forward_reply_of : Result (Option Point) UnknownFollower → history.Reply
forward_reply_of (Ok found) = history.Forwarded (option_map point_of found)
forward_reply_of (Err unknown) = history.UnknownFollower

abbrev pub close_reply_of : Result (Unit {0}) UnknownFollower → history.Reply
close_reply_of (Ok done) = history.Closed
close_reply_of (Err unknown) = history.UnknownFollower

abbrev pub discard_reply_of : Result (Unit {0}) NotBeside → history.Reply
discard_reply_of (Ok done) = history.Discarded
discard_reply_of (Err none) = history.NotBeside

-- ---- events and replies

abbrev pub event_of : RawEvent → history.Event
event_of (event.Arrive bytes) = history.Arrive bytes.items
event_of (event.Submit bytes) = history.Submit bytes.items
event_of event.Open = history.Open
event_of (event.Next id) = history.Next id.number
event_of (event.Forward id points) = history.Forward id.number (map point_of points.items)
event_of (event.Close id) = history.Close id.number
event_of (event.Discard hash) = history.Discard hash.bytes

abbrev pub reply_of : {S : Type 0} → Reply S → history.Reply
reply_of (reply.Arrive answer) = arrive_reply_of answer
reply_of (reply.Submit answer) = submit_reply_of answer
reply_of (reply.Open answer) = open_reply_of answer
reply_of (reply.Next answer) = next_reply_of answer
reply_of (reply.Forward answer) = forward_reply_of answer
reply_of (reply.Close answer) = close_reply_of answer
reply_of (reply.Discard answer) = discard_reply_of answer

-- the reply is of the event's kind
abbrev pub IsReplyTo : {S : Type 0} → RawEvent → Reply S → Type 0
IsReplyTo (event.Arrive bytes) (reply.Arrive answer) = Unit {0}
IsReplyTo (event.Submit bytes) (reply.Submit answer) = Unit {0}
IsReplyTo event.Open (reply.Open answer) = Unit {0}
IsReplyTo (event.Next id) (reply.Next answer) = Unit {0}
IsReplyTo (event.Forward id points) (reply.Forward answer) = Unit {0}
IsReplyTo (event.Close id) (reply.Close answer) = Unit {0}
IsReplyTo (event.Discard hash) (reply.Discard answer) = Unit {0}
IsReplyTo e r = ⊥

-- each event has a reply of its kind
abbrev pub AreRepliesTo : {S : Type 0} → List RawEvent → List (Reply S) → Type 0
AreRepliesTo [] [] = Unit {0}
AreRepliesTo (e ∷ es) (r ∷ rs) = IsReplyTo e r × AreRepliesTo es rs
AreRepliesTo es rs = ⊥

-- each event with its reply, as far as there are both
abbrev pub history_of : {S : Type 0} → List RawEvent → List (Reply S) → List history.Entry
history_of [] replies = []
history_of (e ∷ es) [] = []
history_of (e ∷ es) (r ∷ rs) = record { event = event_of e; reply = reply_of r } ∷ history_of es rs
