-- Replies to calls.
use Rattle.std.specs.Prelude.{◌≡◌, ◌⊎◌, ℕ, List, Option}
use Rattle.conversing.specs.declared.outcome.Outcome.{Outcome}
use Rattle.conversing.specs.Replies.{lost_text, reply_text}

-- the reply tells the outcome, or there was no memory for it, and it is the internal error
abbrev pub Tells : Option (List ℕ) → Outcome → List ℕ → Type 0
Tells id outcome reply = (reply ≡ reply_text id outcome) ⊎ (reply ≡ lost_text id)

-- THE REPLY TO A CALL
-- It tells an outcome that the call may have; or none, but the internal error, and then this is so.
pub data Replies (id : Option (List ℕ)) (may : Outcome → Type 0) (lost : Type 0) (reply : List ℕ) : Type 0 where
  Told : (outcome : Outcome) → may outcome → reply ≡ reply_text id outcome → Replies id may lost reply
  Lost : lost → reply ≡ lost_text id → Replies id may lost reply
