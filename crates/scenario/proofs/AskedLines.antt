-- A line is obeyed once what it asks for is done.
use Rattle.std.proofs.Common.{◌≡◌, inl, inr, ℕ, Bool, List, [], Result, Ok, Err, refl, sym, ◌∙◌, subst}
use Rattle.std.specs.Global.{Vec}
use Rattle.model.specs.Ledger.{Network}
use Rattle.model.specs.History.{State}
use Rattle.chain_core.specs.Held.{Stands}
use Rattle.script.specs.declared.fault.LineFault.{LineFault}
use Rattle.script.specs.declared.stop.Stop.{Stop}
use Rattle.script.specs.declared.stop.Stop.TheVariants as stop
use Rattle.script.specs.declared.names.Names.{Names}
use Rattle.script.specs.Meaning.{Meaning, Defines, Definition}
use Rattle.script.specs.RequestView.{Asks, IsDefined}
use Rattle.scenario.specs.declared.session.Session.{Session}
use Rattle.scenario.specs.IndexView.{AreIndexes}
use Rattle.scenario.specs.Run.{Scene, IsLeftBy}
use Rattle.scenario.specs.SessionView.{Acted, IsDone, Told, IsTold, IsObeyed}
use Rattle.scenario.proofs.NoteLines.{IsQuiet, nothing_more}

one_meaning : (a b : Meaning) → ◌≡◌ {A = Result Meaning LineFault} (Ok a) (Ok b) → a ≡ b
one_meaning a b e = cc

-- the event of what was meant is the line's
left_so : (network : Network) (s : State) (means : Result Meaning LineFault → Type 0) (m meaning : Meaning) (t : State) → means (Ok m) → m ≡ meaning → IsLeftBy network s (λ x. x ≡ Ok meaning) t → IsLeftBy network s means t
left_so network s means m meaning t is same (inl still) = inl still
left_so network s means m meaning t is same (inr (n, meant, happened)) = inr (n, subst (λ (x : Meaning). means (Ok x)) (same ∙ sym (one_meaning n meaning meant)) is, happened)

-- what was told is what was meant
pub told_so : {S : Type 0} (network : Network) (explain : Bool) (s : Scene) (means : Result Meaning LineFault → Type 0) (late : Bool) (m meaning : Meaning) (result : Result (Vec ℕ) Stop) (new : Session S) → means (Ok m) → m ≡ meaning → ((fault : LineFault) → means (Err fault) → ⊥) → IsTold network explain s meaning result new → IsObeyed network explain s means late result new
told_so network explain s means late m meaning (Ok out) new is same never told = record { meaning = m; is_meant = is; told = subst (λ (x : Meaning). Told network explain s x out.items new) (sym same) told }
told_so network explain s means late m meaning (Err (stop.Fault fault)) new is same never told = absurd told
told_so network explain s means late m meaning (Err stop.OutOfMemory) new is same never told =
    (λ fault wrong. absurd (never fault wrong), record { state = told.state; left = left_so network s.state means m meaning told.state is same told.left; stands = told.stands })

-- what is done of which no more is told
done_told : {S : Type 0} (network : Network) (explain : Bool) (s : Scene) (meaning : Meaning) (result : Result (Vec ℕ) Stop) (new : Session S) → IsQuiet meaning → IsDone network s meaning result new → IsTold network explain s meaning result new
done_told network explain s meaning (Ok out) new quiet done = nothing_more network explain s meaning out.items new quiet done
done_told network explain s meaning (Err (stop.Fault fault)) new quiet done = done
done_told network explain s meaning (Err stop.OutOfMemory) new quiet done = done

-- what was done is what was meant
pub done_so : {S : Type 0} (network : Network) (explain : Bool) (s : Scene) (means : Result Meaning LineFault → Type 0) (late : Bool) (m meaning : Meaning) (result : Result (Vec ℕ) Stop) (new : Session S) → IsQuiet meaning → means (Ok m) → m ≡ meaning → ((fault : LineFault) → means (Err fault) → ⊥) → IsDone network s meaning result new → IsObeyed network explain s means late result new
done_so network explain s means late m meaning result new quiet is same never done =
    told_so network explain s means late m meaning result new is same never (done_told network explain s meaning result new quiet done)

-- a definition
pub defined : {S : Type 0} (network : Network) (explain : Bool) (s : Scene) (means : Result Meaning LineFault → Type 0) (m : Meaning) (definition : Definition) (out : List ℕ) (new : Session S) → means (Ok m) → m ≡ Defines definition → IsDefined s.names new.names definition → AreIndexes new.indexes s.indexes → Stands new.core s.state
    → out ≡ [] → Acted network explain s means out new
defined network explain s means m what out new is same made indexes stands empty = record {
  meaning = m;
  is_meant = is;
  told = subst (λ (x : Meaning). Told network explain s x out new) (sym same) (nothing_more network explain s (Defines what) out new tt (record {
    entries = [];
    scene = record { state = s.state; names = made.new; indexes = s.indexes };
    acts = (empty, refl, refl, made.after, refl);
    holds = record { stands = stands; names = made.named; indexes = indexes };
  }));
}

-- a line that is not run
pub not_run : {S : Type 0} (network : Network) (explain : Bool) (s : Scene) (means : Result Meaning LineFault → Type 0) (late : Bool) (why : Stop) (names : Names) (new : Session S) → Asks s.names means late (Err why) names → Stands new.core s.state → IsObeyed network explain s means late (Err why) new
not_run network explain s means late (stop.Fault fault) names new asks stands = (asks.0, stands)
not_run network explain s means late stop.OutOfMemory names new asks stands = (asks, record { state = s.state; left = inl refl; stands = stands })
