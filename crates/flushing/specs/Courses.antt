-- Events that come to a core, and flushes of a log beside it.
use Rattle.std.specs.Prelude.{◌≡◌, ℕ, List, [], ◌∷◌}
use Rattle.model.specs.Signature.{Verifies}
use Rattle.model.specs.History.{Event, Reply}
use Rattle.chain_core.specs.Held.{Held}
use Rattle.chain_core.specs.Immutable.{immutable_texts}
use Rattle.chain_core.specs.Steps.{Steps, KeepsStart}
use Rattle.flushing.specs.Texts.{Begins}

-- an event with its reply, or a flush with the texts that the log has after it
pub data Act : Type 0 where
  Came : Event → Reply → Act
  Flushed : List (List ℕ) → Act

-- These acts lead a core and the texts of a log beside it to others. An event is a step of the core, which keeps what
-- it began from. A flush of a log with the first of the core's texts that are never rolled back leaves it with the
-- first of these, all, some or none more, those that it had among them.
abbrev pub IsCourse : Verifies → Held → List (List ℕ) → List Act → Held → List (List ℕ) → Type 0
IsCourse verifies held log [] end left = (end ≡ held) × (left ≡ log)
IsCourse verifies held log (Came event reply ∷ acts) end left = (next : Held)
    × Steps verifies held event reply next
    × KeepsStart held next
    × IsCourse verifies next log acts end left
IsCourse verifies held log (Flushed texts ∷ acts) end left =
    (Begins log (immutable_texts verifies held) → Begins log texts × Begins texts (immutable_texts verifies held))
    × IsCourse verifies held texts acts end left
