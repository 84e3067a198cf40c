-- A line in which bytes arrive.
use Rattle.std.proofs.Common.{◌≡◌, ℕ, Bool, List, [], ◌++◌, refl, ap, ◌∙◌}
use Rattle.model.specs.Ledger.{Network}
use Rattle.model.specs.History.{State, Arrive, Reply, Step}
use Rattle.chain_core.specs.Held.{Stands}
use Rattle.script.specs.declared.line.Form.{Form}
use Rattle.scenario.specs.declared.session.Session.{Session}
use Rattle.script.specs.RequestView.{AreNamed}
use Rattle.script.specs.Meaning.{Arrives, formed}
use Rattle.scenario.specs.Print.{arrival_text}
use Rattle.scenario.specs.IndexView.{AreIndexes}
use Rattle.scenario.specs.Run.{Scene, entry}
use Rattle.scenario.specs.Notes.{IsNote}
use Rattle.scenario.specs.NoteView.{AppendsNote}
use Rattle.scenario.specs.SessionView.{Told}

pub arrival_told : {S : Type 0} (network : Network) (explain : Bool) (s : Scene) (form : Form) (name bytes : List ℕ) (reply : Reply) (old out : List ℕ) (new : Session S) → old ≡ [] → AreNamed new.names s.names → AreIndexes new.indexes s.indexes
    → (step : (t : State) × Step network s.state (Arrive (formed form bytes)) reply t × Stands new.core t)
    → AppendsNote (old ++ arrival_text form name reply) out (IsNote network explain s.names.of_bytes s.state (entry (Arrive (formed form bytes)) reply) step.0)
    → Told network explain s (Arrives form name bytes) out new
arrival_told network explain s form name bytes reply old out new empty names indexes (t, step, stands) noted = record {
  text = arrival_text form name reply;
  done = record {
    entries = entry (Arrive (formed form bytes)) reply;
    scene = record { state = t; names = s.names; indexes = s.indexes };
    acts = (reply, record { step = step; names = refl; indexes = refl }, refl, refl);
    holds = record { stands = stands; names = names; indexes = indexes };
  };
  note = noted.note;
  is_note = noted.is_note;
  printed = noted.behind ∙ ap (λ (bs : List ℕ). (bs ++ arrival_text form name reply) ++ noted.note) empty;
}
