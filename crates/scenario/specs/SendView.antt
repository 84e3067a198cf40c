-- What of the code stands for what a script sends, and what comes of one of its lines.
use Rattle.std.specs.Prelude.{◌≡◌, ℕ, List, ◌++◌, Result, Ok, Err}
use Rattle.script.specs.declared.stop.Stop.{Stop}
use Rattle.script.specs.declared.stop.Stop.TheVariants.{Fault, OutOfMemory}
use Rattle.script.specs.declared.names.Names.{Names}
use Rattle.script.specs.Names.{AllNames}
use Rattle.script.specs.RequestView.{AreNamed, Lacks}
use Rattle.script.specs.Sending.{MeansSending, is_late_sending, parse_sending}
use Rattle.scenario.specs.declared.sending.Sending.{Sending}
use Rattle.scenario.specs.SendRun.{Sent, LineSends}

abbrev pub sent_of : Sending → Sent
sent_of sending = record { peer = sending.peer; bytes = sending.bytes.items }

-- a line sends something behind what was sent before it, and the names of the code stand for those that it leaves
pub record GoesBehind (number before peers : ℕ) (names : AllNames) (line : List ℕ) (old new : List Sent)
    (code : Names) : Type 0 where
  pub sent : List Sent
  pub mid : AllNames
  pub sends : LineSends number before peers names line sent mid
  pub behind : new ≡ old ++ sent
  pub named : AreNamed code mid

-- What comes of a line: it sends; it has a fault; or memory ran out, and it has no fault but one that only memory
-- tells.
abbrev pub IsSendingOf : (number before peers : ℕ) → AllNames → (line : List ℕ) → Result Unit Stop
    → (old new : List Sent) → Names → Type 0
IsSendingOf number before peers names line (Ok done) old new code =
    GoesBehind number before peers names line old new code
IsSendingOf number before peers names line (Err (Fault fault)) old new code =
    MeansSending number before names peers line (Err fault)
IsSendingOf number before peers names line (Err OutOfMemory) old new code =
    Lacks (MeansSending number before names peers line) (is_late_sending (parse_sending before peers line))
