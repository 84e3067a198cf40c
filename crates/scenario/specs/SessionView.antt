-- Which scenes of the definitions a session stands for, and what it answers to a line.
use Rattle.std.specs.Prelude.{◌≡◌, ℕ, Bool, List, ◌++◌, Result, Ok, Err}
use Rattle.std.specs.Global.{Vec}
use Rattle.model.specs.Ledger.{Network}
use Rattle.model.specs.History.{State, Entry}
use Rattle.chain_core.specs.Held.{Held, Stands}
use Rattle.script.specs.declared.fault.LineFault.{LineFault}
use Rattle.script.specs.declared.stop.Stop.{Stop}
use Rattle.script.specs.declared.stop.Stop.TheVariants.{Fault, OutOfMemory}
use Rattle.scenario.specs.declared.session.Session.{Session}
use Rattle.script.specs.RequestView.{AreNamed, Lacks}
use Rattle.script.specs.declared.names.Names.{Names}
use Rattle.script.specs.Meaning.{Meaning}
use Rattle.chain_core.specs.declared.forging.ForgeFault.{ForgeFault}
use Rattle.scenario.specs.Print.{ForgeAnswer, forge_answer_text}
use Rattle.scenario.specs.ForgeView.{code_answer_text}
use Rattle.scenario.specs.Notes.{IsNote}
use Rattle.scenario.specs.IndexView.{AreIndexes}
use Rattle.scenario.specs.Run.{Scene, IsForgeAnswer, names_forged, Acts, IsLeftBy}

-- the core stands for the state, the names for the names, and the indexes for the indexes
pub record Holds {S : Type 0} (session : Session S) (s : Scene) : Type 0 where
  pub stands : Stands session.core s.state
  pub names : AreNamed session.names s.names
  pub indexes : AreIndexes session.indexes s.indexes

-- forging is answered so by the code, and the block has its name
pub record Forges (network : Network) (s : Scene) (name : List ℕ) (slot : ℕ) (answer : Result ℕ ForgeFault)
    (names : Names) : Type 0 where
  pub is : ForgeAnswer
  pub is_answer : IsForgeAnswer network s.state slot is
  pub text : code_answer_text answer ≡ forge_answer_text is
  pub named : AreNamed names (record s.names { of_bytes = names_forged s.names.of_bytes name is })

-- what is meant was done, and printed so
pub record Done {S : Type 0} (network : Network) (s : Scene) (meaning : Meaning) (out : List ℕ) (new : Session S)
    : Type 0 where
  pub entries : List Entry
  pub scene : Scene
  pub acts : Acts network s meaning out entries scene
  pub holds : Holds new scene

-- memory ran out in a line that means this: the core stands for the state before it, or for the one after its event
pub record IsShort (network : Network) (s : State) (means : Result Meaning LineFault → Type 0) (core : Held)
    : Type 0 where
  pub state : State
  pub left : IsLeftBy network s means state
  pub stands : Stands core state

-- what came of a request that means this: it was done, or memory ran out
abbrev pub IsDone : {S : Type 0} → Network → Scene → Meaning → Result (Vec ℕ) Stop → Session S → Type 0
IsDone network s meaning (Ok out) new = Done network s meaning out.items new
IsDone network s meaning (Err (Fault fault)) new = ⊥
IsDone network s meaning (Err OutOfMemory) new = IsShort network s.state (λ m. m ≡ Ok meaning) new.core

-- what is meant was done, and printed so, with the note on its event behind it, if it is explained
pub record Told {S : Type 0} (network : Network) (explain : Bool) (s : Scene) (meaning : Meaning) (out : List ℕ)
    (new : Session S) : Type 0 where
  pub text : List ℕ
  pub done : Done network s meaning text new
  pub note : List ℕ
  pub is_note : IsNote network explain done.scene.names.of_bytes s.state done.entries done.scene.state note
  pub printed : out ≡ text ++ note

-- the same of a request of which more may be told
abbrev pub IsTold : {S : Type 0} → Network → (explain : Bool) → Scene → Meaning → Result (Vec ℕ) Stop → Session S
    → Type 0
IsTold network explain s meaning (Ok out) new = Told network explain s meaning out.items new
IsTold network explain s meaning (Err (Fault fault)) new = ⊥
IsTold network explain s meaning (Err OutOfMemory) new = IsShort network s.state (λ m. m ≡ Ok meaning) new.core

-- a line was obeyed as it means
pub record Acted {S : Type 0} (network : Network) (explain : Bool) (s : Scene)
    (means : Result Meaning LineFault → Type 0) (out : List ℕ) (new : Session S) : Type 0 where
  pub meaning : Meaning
  pub is_meant : means (Ok meaning)
  pub told : Told network explain s meaning out new

-- What was answered to a line that means this: what it prints; its fault, where nothing happened to the core; or that
-- memory ran out, which says that it has no fault but one that only memory tells.
abbrev pub IsObeyed : {S : Type 0} → Network → (explain : Bool) → Scene → (Result Meaning LineFault → Type 0)
    → (late : Bool) → Result (Vec ℕ) Stop → Session S → Type 0
IsObeyed network explain s means late (Ok out) new = Acted network explain s means out.items new
IsObeyed network explain s means late (Err (Fault fault)) new = means (Err fault) × Stands new.core s.state
IsObeyed network explain s means late (Err OutOfMemory) new = Lacks means late × IsShort network s.state means new.core
