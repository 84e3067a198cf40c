-- What a line of the code that sends stands for, and what is answered to a line in a script of a simulation.
use Rattle.std.specs.Prelude.{◌≡◌, ℕ, Bool, false, List, Option, Some, None, Result, Ok, Err}
use Rattle.script.specs.declared.fault.LineFault.{LineFault}
use Rattle.script.specs.declared.stop.Stop.{Stop}
use Rattle.script.specs.declared.stop.Stop.TheVariants.{Fault, OutOfMemory}
use Rattle.script.specs.declared.names.Names.{Names}
use Rattle.script.specs.declared.sending.SendRequest.{SendRequest}
use Rattle.script.specs.Names.{AllNames, Bound, bound_to}
use Rattle.script.specs.Meaning.{Definition}
use Rattle.script.specs.RequestView.{AreNamed, IsDefined, Lacks}
use Rattle.script.specs.Sending.{SendLine, SendMeaning, Sends, Makes}

abbrev pub send_line_of : SendRequest → SendLine
send_line_of sends = record { peer = sends.peer; name = sends.name.text.now }

-- a line means that this peer sends the bytes of this name, and the names stay
pub record IsSent (names : AllNames) (means : Result SendMeaning LineFault → Type 0) (sends : SendRequest) (new : Names)
    : Type 0 where
  pub bound : Bound
  pub is_bound : bound_to sends.name.text.now names.of_bytes ≡ Some bound
  pub is_meant : means (Ok (Sends sends.peer sends.name.text.now bound.bytes))
  pub named : AreNamed new names

-- a line means a definition, which is made
pub record IsMade (names : AllNames) (means : Result SendMeaning LineFault → Type 0) (new : Names) : Type 0 where
  pub definition : Definition
  pub is_meant : means (Ok (Makes definition))
  pub defined : IsDefined names new definition

-- a line that means this sends nothing
abbrev pub SendsNothing : (Result SendMeaning LineFault → Type 0) → Type 0
SendsNothing means = (peer : ℕ) (name bytes : List ℕ) → means (Ok (Sends peer name bytes)) → ⊥

-- What is answered to a line that means this: something that `Fits` it; its fault, which leaves the names; or that
-- memory ran out, which says that it sends nothing and has no other fault than one that only memory tells.
abbrev pub AnswersLine : {X : Type 0} → AllNames → (Result SendMeaning LineFault → Type 0) → (late : Bool)
    → (Fits : X → Names → Type 0) → Result X Stop → Names → Type 0
AnswersLine names means late Fits (Ok x) new = Fits x new
AnswersLine names means late Fits (Err (Fault fault)) new = means (Err fault) × AreNamed new names
AnswersLine names means late Fits (Err OutOfMemory) new = Lacks means late × SendsNothing means

-- a definition is made
abbrev pub AsksToMake : AllNames → (Result SendMeaning LineFault → Type 0) → (late : Bool) → Result Unit Stop → Names
    → Type 0
AsksToMake names means late result new = AnswersLine names means late (λ made code. IsMade names means code) result new

-- what a line sends is answered, whose meaning is a function
abbrev pub AsksToSend : AllNames → Result SendMeaning LineFault → Result SendRequest Stop → Names → Type 0
AsksToSend names meaning result new =
    AnswersLine names (λ m. meaning ≡ m) false (IsSent names (λ m. meaning ≡ m)) result new

-- something is sent, where the line sends, or a definition is made
abbrev pub IsSentOrMade : AllNames → (Result SendMeaning LineFault → Type 0) → Option SendRequest → Names → Type 0
IsSentOrMade names means (Some sends) new = IsSent names means sends new
IsSentOrMade names means None new = IsMade names means new

abbrev pub AsksSending : AllNames → (Result SendMeaning LineFault → Type 0) → (late : Bool)
    → Result (Option SendRequest) Stop → Names → Type 0
AsksSending names means late result new = AnswersLine names means late (IsSentOrMade names means) result new
