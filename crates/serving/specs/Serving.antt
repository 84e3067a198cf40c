-- WHAT A LINE LEADS TO.
use Rattle.std.specs.Prelude.{◌≡◌, ℕ, List, Option}
use Rattle.model.specs.Ledger.{Network}
use Rattle.conversing.specs.declared.outcome.Outcome.{Outcome}
use Rattle.conversing.specs.declared.outcome.Outcome.TheVariants.{Flushed, NotFlushed, Stopping}
use Rattle.conversing.specs.declared.request_fault.RequestFault.{RequestFault}
use Rattle.conversing.specs.Requests.{Asked, FindsIntersection, AsksNextBlock, Submits, Evaluates, AsksTip, AsksHeight}
use Rattle.conversing.specs.Requests.{AsksOutputsAt, AsksOutputsOf, AsksBlockAt, AsksBlockOf, AsksTransaction}
use Rattle.conversing.specs.Requests.{AsksMempool, AsksWhy, Forges, Flushes, Stops, AskedRequest}
use Rattle.conversing.specs.RequestView.{Asks, IsFaultOf}
use Rattle.conversing.specs.Replies.{fault_text}
use Rattle.serving.specs.Lanes.{Lane, OnlyLearnt, HasLooked}
use Rattle.serving.specs.Replies.{Replies}
use Rattle.serving.specs.ChainTelling.{TellsTip, TellsHeight}
use Rattle.serving.specs.BlockTelling.{TellsBlockAt, TellsBlockOf, TellsStanding, TellsMempool, TellsWhy}
use Rattle.serving.specs.UtxoTelling.{TellsOutputsAt, TellsOutputsOf}
use Rattle.serving.specs.Submitting.{TellsSubmission, WasSubmitted, TellsEvaluation, WasEvaluated, TellsForging}
use Rattle.serving.specs.Following.{HasFollowed, TellsIntersection, TellsNext}

-- `flush`: so many blocks are durable then; or it failed
pub data TellsFlush {H : Type 0} (flushes : H → ℕ → H → Type 0) (fails : H → H → Type 0) (before after : H)
    (outcome : Outcome) : Type 0 where
  Done : (durable : ℕ) → flushes before durable after → outcome ≡ Flushed durable
      → TellsFlush flushes fails before after outcome
  Failed : fails before after → outcome ≡ NotFlushed → TellsFlush flushes fails before after outcome

-- it was carried out or it failed, and that isn't told
pub record WasFlushed {H : Type 0} (flushes : H → ℕ → H → Type 0) (fails : H → H → Type 0) (before after : H)
    : Type 0 where
  pub untold : Outcome
  pub was : TellsFlush flushes fails before after untold

-- What a program does that a lane asks for: it makes blocks durable, so many then, or fails to; and it is told to end.
-- And when it ends, so that nobody is to wait any more.
module _ {H : Type 0} (flushes : H → ℕ → H → Type 0) (fails stops : H → H → Type 0) (ends : H → Type 0)
    (network : Network) where
  -- WHAT A REQUEST WITH THIS ID LEADS TO
  abbrev pub IsCarriedOut : Lane H → Asked → (id : Option (List ℕ)) → Lane H → (reply : List ℕ) → Type 0
  IsCarriedOut before AsksTip id after reply = OnlyLearnt before after
      × Replies id (TellsTip network before.knows after.knows) (HasLooked network before.knows after.knows) reply
  IsCarriedOut before AsksHeight id after reply = OnlyLearnt before after
      × Replies id (TellsHeight network before.knows after.knows) (HasLooked network before.knows after.knows) reply
  IsCarriedOut before (AsksBlockAt number) id after reply = OnlyLearnt before after
      × Replies id (TellsBlockAt network number before.knows after.knows) (HasLooked network before.knows after.knows)
      reply
  IsCarriedOut before (AsksBlockOf hash) id after reply = OnlyLearnt before after
      × Replies id (TellsBlockOf network hash before.knows after.knows) (HasLooked network before.knows after.knows)
      reply
  IsCarriedOut before (AsksTransaction tx) id after reply = OnlyLearnt before after
      × Replies id (TellsStanding network tx before.knows after.knows) (HasLooked network before.knows after.knows)
      reply
  IsCarriedOut before AsksMempool id after reply = OnlyLearnt before after
      × Replies id (TellsMempool network before.knows after.knows) (HasLooked network before.knows after.knows) reply
  IsCarriedOut before (AsksWhy hash) id after reply = OnlyLearnt before after
      × Replies id (TellsWhy network hash before.knows after.knows) (HasLooked network before.knows after.knows) reply
  IsCarriedOut before (AsksOutputsAt places) id after reply = OnlyLearnt before after
      × Replies id (TellsOutputsAt network places before.knows after.knows)
      (HasLooked network before.knows after.knows) reply
  IsCarriedOut before (AsksOutputsOf addresses) id after reply = OnlyLearnt before after
      × Replies id (TellsOutputsOf network addresses before.knows after.knows)
      (HasLooked network before.knows after.knows) reply
  IsCarriedOut before (Submits bytes) id after reply = OnlyLearnt before after
      × Replies id (TellsSubmission network bytes before.knows after.knows)
      (WasSubmitted network bytes before.knows after.knows) reply
  IsCarriedOut before (Evaluates bytes) id after reply = OnlyLearnt before after
      × Replies id (TellsEvaluation network bytes before.knows after.knows)
      (WasEvaluated network before.knows after.knows) reply
  IsCarriedOut before (Forges slot) id after reply = OnlyLearnt before after
      × Replies id (TellsForging network slot before.knows after.knows) (HasLooked network before.knows after.knows)
      reply
  IsCarriedOut before (FindsIntersection points) id after reply = (after.host ≡ before.host)
      × Replies id (TellsIntersection network points before.knows before.follower after.knows after.follower)
      (HasFollowed network before.knows before.follower after.knows after.follower) reply
  IsCarriedOut before AsksNextBlock id after reply = (after.host ≡ before.host)
      × Replies id (TellsNext network (ends before.host) before.knows before.follower after.knows after.follower)
      (HasFollowed network before.knows before.follower after.knows after.follower) reply
  IsCarriedOut before Flushes id after reply = (after ≡ record before { host = after.host })
      × Replies id (TellsFlush flushes fails before.host after.host)
      (WasFlushed flushes fails before.host after.host) reply
  IsCarriedOut before Stops id after reply = (after ≡ record before { host = after.host })
      × stops before.host after.host × Replies id (λ outcome. outcome ≡ Stopping) (Unit {0}) reply

  -- WHAT A LINE LEADS TO: what the request does that it is; or nothing, and the fault is told for which it is none
  pub data IsAnsweredLine (before : Lane H) (line : List ℕ) (after : Lane H) (reply : List ℕ) : Type 0 where
    Carried : (asked : AskedRequest) → Asks line asked → IsCarriedOut before asked.asked asked.id after reply
        → IsAnsweredLine before line after reply
    Faulty : (fault : RequestFault) → IsFaultOf line fault → after ≡ before → reply ≡ fault_text fault
        → IsAnsweredLine before line after reply
