-- What the calls of the core promise of events and their replies, one after the other.
use Rattle.std.specs.Prelude.{◌≡◌, ℕ, ◌≤◌, List, [], ◌∷◌, length, IfErr, OnErr}
use Rattle.model.specs.Limits.{block_size_limit}
use Rattle.model.specs.Signature.{Verifies}
use Rattle.model.specs.Block.{Block, SpellsBlock}
use Rattle.model.specs.History.{State, Refusal, Applies}
use Rattle.block.specs.Read.{BeginsLikeBlock}
use Rattle.mempool.specs.Calls.{IsWantAtSubmission}
use Rattle.chain_core.specs.declared.event.RawEvent.{RawEvent}
use Rattle.chain_core.specs.declared.event.RawEvent.TheVariants as event
use Rattle.chain_core.specs.declared.event.Reply.{Reply}
use Rattle.chain_core.specs.declared.event.Reply.TheVariants as reply
use Rattle.chain_core.specs.Held.{Held, Stands, network_held}
use Rattle.chain_core.specs.Steps.{Steps, KeepsStart}
use Rattle.chain_core.specs.FollowerCalls.{IsWantAtOpen, IsWantAtNext}
use Rattle.chain_core.specs.Views.{event_of, reply_of, IsReplyTo}

-- memory is asked for only where the bytes begin as a block does, and, where they are the text of one without
-- transactions, where no refusal applies
abbrev pub IsWantAtArrival : Verifies → Held → List ℕ → Type 0
IsWantAtArrival verifies held bytes = BeginsLikeBlock bytes × ((b : Block) → SpellsBlock b bytes → b.transactions ≡ []
    → (s : State) → Stands held s → (refusal : Refusal) → Applies (network_held held verifies) s bytes refusal → ⊥)

-- where memory ran out, what the event's call promises of that
abbrev pub IsWantAt : {S : Type 0} → Verifies → Held → RawEvent → Reply S → Type 0
IsWantAt verifies held (event.Arrive bytes) (reply.Arrive answer) =
    OnErr answer (IsWantAtArrival verifies held bytes.items) × OnErr answer (length bytes.items ≤ block_size_limit)
IsWantAt verifies held (event.Submit bytes) (reply.Submit answer) = OnErr answer (IsWantAtSubmission bytes.items)
IsWantAt verifies held event.Open (reply.Open answer) = IfErr answer (IsWantAtOpen held)
IsWantAt verifies held (event.Next id) (reply.Next answer) = IfErr answer (IsWantAtNext held id.number)
IsWantAt verifies held e r = Unit {0}

-- an error of a call leaves the core as it was
abbrev pub IsLeftAt : {S : Type 0} → Held → Reply S → Held → Type 0
IsLeftAt old (reply.Arrive answer) new = OnErr answer (new ≡ old)
IsLeftAt old (reply.Submit answer) new = OnErr answer (new ≡ old)
IsLeftAt old (reply.Open answer) new = OnErr answer (new ≡ old)
IsLeftAt old (reply.Next answer) new = OnErr answer (new ≡ old)
IsLeftAt old (reply.Forward answer) new = OnErr answer (new ≡ old)
IsLeftAt old (reply.Close answer) new = OnErr answer (new ≡ old)
IsLeftAt old (reply.Discard answer) new = OnErr answer (new ≡ old)

-- what the call of an event promises of its reply, and of the core before and after it
pub record IsCall {S : Type 0} (verifies : Verifies) (old : Held) (event : RawEvent) (reply : Reply S) (new : Held)
    : Type 0 where
  pub kind : IsReplyTo event reply
  pub step : Steps verifies old (event_of event) (reply_of reply) new
  pub want : IsWantAt verifies old event reply
  pub start : KeepsStart old new
  pub left : IsLeftAt old reply new

-- each event has a reply, by its call on what the calls before it left
abbrev pub AreCalls : {S : Type 0} → Verifies → Held → List RawEvent → List (Reply S) → Held → Type 0
AreCalls verifies old [] [] new = new ≡ old
AreCalls verifies old (e ∷ es) (r ∷ rs) new =
    (mid : Held) × IsCall verifies old e r mid × AreCalls verifies mid es rs new
AreCalls verifies old es rs new = ⊥
