-- Lines that were obeyed are a legal history, of which the chain theorem holds, and each index follows it.
use Rattle.std.proofs.Common.{◌≡◌, ℕ, Bool, ◌+◌, List, [], ◌∷◌, ◌++◌, length, refl, sym, ap, subst, ◌∙◌, append_assoc, append-nil}
use Rattle.model.specs.Ledger.{Network}
use Rattle.model.specs.History.{State, opening, Event, Reply, Entry, Step, IsRun, IsLegal}
use Rattle.model.specs.Chain.{IsOpening}
use Rattle.model.proofs.LegalHistories.{legal_sound}
use Rattle.model.proofs.ToldChains.{theorem_of_legal}
use Rattle.scenario.specs.declared.options.Options.{Options}
use Rattle.script.specs.Meaning.{Meaning, Defines, Arrives, SubmitsTx, ForgesBlock, OpensFollower, WatchesKeys, TellsFollower, ForwardsFollower, ClosesFollower, DiscardsBlock, PrintsTip, PrintsMempool, PrintsUtxo, PrintsWhy, PrintsWhere, PrintsBalance}
use Rattle.scenario.specs.Indexes.{Indexes, no_indexes, with_index, indexes_opened, indexes_forwarded, indexes_closed}
use Rattle.scenario.proofs.ToldIndexes.{AreSound, none_put, sound_step, sound_opened, sound_told, sound_forwarded, sound_closed}
use Rattle.scenario.specs.Run.{Scene, first_scene, Acts, Prints, AreObeyed, entry}

-- a run, and another from where it ended
pub runs_both : (network : Network) (s : State) (es : List Entry) (m : State) (fs : List Entry) (t : State) → IsRun network s es m → IsRun network m fs t → IsRun network s (es ++ fs) t
runs_both network s [] m fs t run more = subst (λ (u : State). IsRun network u fs t) run more
runs_both network s (e ∷ es) m fs t run more = (run.0, run.1, runs_both network run.0 es m fs t run.2 more)

-- no event
still : (network : Network) (s t : State) (entries : List Entry) → entries ≡ [] → t ≡ s → IsRun network s entries t
still network s t entries none same = subst (λ (es : List Entry). IsRun network s es t) (sym none) same

-- one event
once : (network : Network) (s t : State) (event : Event) (reply : Reply) (entries : List Entry) → Step network s event reply t → entries ≡ entry event reply → IsRun network s entries t
once network s t event reply entries step is = subst (λ (es : List Entry). IsRun network s es t) (sym is) (t, step, refl)

pub acts_run : (network : Network) (s : Scene) (meaning : Meaning) (out : List ℕ) (entries : List Entry) (t : Scene) → Acts network s meaning out entries t → IsRun network s.state entries t.state
acts_run network s (Defines what) out entries t (printed, none, same, named, stays) = still network s.state t.state entries none same
acts_run network s (Arrives form name bytes) out entries t (reply, arrived, printed, is) = once network s.state t.state _ reply entries arrived.step is
acts_run network s (SubmitsTx name tx) out entries t (reply, submitted, printed, is) = once network s.state t.state _ reply entries submitted.step is
acts_run network s (ForgesBlock name slot) out entries t (answer, forged, printed, none) = still network s.state t.state entries none forged.state
acts_run network s (OpensFollower name) out entries t (reply, opened, printed, is) = once network s.state t.state _ reply entries opened.step is
acts_run network s (WatchesKeys name keys) out entries t (reply, opened, printed, is) = once network s.state t.state _ reply entries opened.step is
acts_run network s (TellsFollower name id) out entries t (reply, told, line, is_line, more, is_more, printed, is) = once network s.state t.state _ reply entries told.step is
acts_run network s (ForwardsFollower name id points) out entries t (reply, forwarded, printed, is) = once network s.state t.state _ reply entries forwarded.step is
acts_run network s (ClosesFollower name id) out entries t (reply, closed, printed, is) = once network s.state t.state _ reply entries closed.step is
acts_run network s (DiscardsBlock name hash) out entries t (reply, discarded, printed, is) = once network s.state t.state _ reply entries discarded.step is
acts_run network s PrintsTip out entries t (printed, none, same) = still network s.state t.state entries none (ap (λ (x : Scene). x.state) same)
acts_run network s PrintsMempool out entries t (printed, none, same) = still network s.state t.state entries none (ap (λ (x : Scene). x.state) same)
acts_run network s PrintsUtxo out entries t (ledger, folded, printed, none, same) = still network s.state t.state entries none (ap (λ (x : Scene). x.state) same)
acts_run network s (PrintsWhy name hash) out entries t (why, is_why, printed, none, same) = still network s.state t.state entries none (ap (λ (x : Scene). x.state) same)
acts_run network s (PrintsWhere name id) out entries t (place, is_place, printed, none, same) = still network s.state t.state entries none (ap (λ (x : Scene). x.state) same)
acts_run network s (PrintsBalance owner address) out entries t (ledger, folded, printed, none, same) = still network s.state t.state entries none (ap (λ (x : Scene). x.state) same)

pub prints_run : (network : Network) (explain : Bool) (number before : ℕ) (s : Scene) (lines : List (List ℕ)) (out : List ℕ) (history : List Entry) (t : Scene) → Prints network explain number before s lines out history t → IsRun network s.state history t.state
prints_run network explain number before s [] out history t (printed, none, same) = still network s.state t.state history none (ap (λ (x : Scene). x.state) same)
prints_run network explain number before s (line ∷ lines) out history t (first, rest, entries, later, mid, obeys, prints, printed, is) =
    subst (λ (es : List Entry). IsRun network s.state es t.state) (sym is)
    (runs_both network s.state entries mid.state later t.state (acts_run network s obeys.meaning obeys.text entries mid obeys.acts) (prints_run network explain (number + 1) (before + length line) mid lines rest later t prints))

-- ---- indexes

no_event : (network : Network) (past : List Entry) (s t : Scene) (entries : List Entry) → entries ≡ [] → t.state ≡ s.state → t.indexes ≡ s.indexes → AreSound network past s.state s.indexes → AreSound network (past ++ entries) t.state t.indexes
no_event network past s t entries none state indexes sound =
    subst (λ (es : List Entry). AreSound network es t.state t.indexes) (sym (append-nil past) ∙ ap (λ (es : List Entry). past ++ es) (sym none))
    (subst (λ (u : State). AreSound network past u t.indexes) (sym state) (subst (AreSound network past s.state) (sym indexes) sound))

one_event : (network : Network) (past : List Entry) (s t : Scene) (event : Event) (reply : Reply) (entries : List Entry) (indexes : Indexes) → entries ≡ entry event reply → t.indexes ≡ indexes → AreSound network (past ++ entry event reply) t.state indexes → AreSound network (past ++ entries) t.state t.indexes
one_event network past s t event reply entries indexes is same sound =
    subst (λ (es : List Entry). AreSound network (past ++ es) t.state t.indexes) (sym is) (subst (AreSound network (past ++ entry event reply) t.state) (sym same) sound)

same_scene : (network : Network) (past : List Entry) (s t : Scene) (entries : List Entry) → entries ≡ [] → t ≡ s → AreSound network past s.state s.indexes → AreSound network (past ++ entries) t.state t.indexes
same_scene network past s t entries none same sound = no_event network past s t entries none (ap (λ (x : Scene). x.state) same) (ap (λ (x : Scene). x.indexes) same) sound

pub acts_sound : (network : Network) (past : List Entry) (s : Scene) (meaning : Meaning) (out : List ℕ) (entries : List Entry) (t : Scene) → IsOpening network → IsLegal network past s.state → Acts network s meaning out entries t → AreSound network past s.state s.indexes → AreSound network (past ++ entries) t.state t.indexes
acts_sound network past s (Defines what) out entries t opens legal (printed, none, same, named, stays) sound = no_event network past s t entries none same stays sound
acts_sound network past s (Arrives form name bytes) out entries t opens legal (reply, arrived, printed, is) sound =
    one_event network past s t _ reply entries s.indexes is arrived.indexes (sound_step network past s.state t.state _ reply s.indexes arrived.step (λ id at found own. own) sound)
acts_sound network past s (SubmitsTx name tx) out entries t opens legal (reply, submitted, printed, is) sound =
    one_event network past s t _ reply entries s.indexes is submitted.indexes (sound_step network past s.state t.state _ reply s.indexes submitted.step (λ id at found own. own) sound)
acts_sound network past s (ForgesBlock name slot) out entries t opens legal (answer, forged, printed, none) sound = no_event network past s t entries none forged.state forged.indexes sound
acts_sound network past s (OpensFollower name) out entries t opens legal (reply, opened, printed, is) sound =
    one_event network past s t _ reply entries s.indexes is opened.is_indexes (sound_step network past s.state t.state _ reply s.indexes opened.step (λ id at found own. own) sound)
acts_sound network past s (WatchesKeys name keys) out entries t opens legal (reply, opened, printed, is) sound =
    one_event network past s t _ reply entries (indexes_opened keys s.indexes reply) is opened.is_indexes (sound_opened network past s.state t.state keys reply s.indexes legal opened.step sound)
acts_sound network past s (TellsFollower name id) out entries t opens legal (reply, told, line, is_line, more, is_more, printed, is) sound =
    one_event network past s t _ reply entries (with_index id told.index s.indexes) is told.indexes
    (sound_told network past s.state t.state id reply s.indexes told.index (legal_sound network past s.state opens legal) told.step told.is_after sound)
acts_sound network past s (ForwardsFollower name id points) out entries t opens legal (reply, forwarded, printed, is) sound =
    one_event network past s t _ reply entries (indexes_forwarded id s.indexes reply) is forwarded.indexes (sound_forwarded network past s.state t.state id points reply s.indexes forwarded.step sound)
acts_sound network past s (ClosesFollower name id) out entries t opens legal (reply, closed, printed, is) sound =
    one_event network past s t _ reply entries (indexes_closed id s.indexes reply) is closed.indexes (sound_closed network past s.state t.state id reply s.indexes closed.step sound)
acts_sound network past s (DiscardsBlock name hash) out entries t opens legal (reply, discarded, printed, is) sound =
    one_event network past s t _ reply entries s.indexes is discarded.indexes (sound_step network past s.state t.state _ reply s.indexes discarded.step (λ id at found own. own) sound)
acts_sound network past s PrintsTip out entries t opens legal (printed, none, same) sound = same_scene network past s t entries none same sound
acts_sound network past s PrintsMempool out entries t opens legal (printed, none, same) sound = same_scene network past s t entries none same sound
acts_sound network past s PrintsUtxo out entries t opens legal (ledger, folded, printed, none, same) sound = same_scene network past s t entries none same sound
acts_sound network past s (PrintsWhy name hash) out entries t opens legal (why, is_why, printed, none, same) sound = same_scene network past s t entries none same sound
acts_sound network past s (PrintsWhere name id) out entries t opens legal (place, is_place, printed, none, same) sound = same_scene network past s t entries none same sound
acts_sound network past s (PrintsBalance owner address) out entries t opens legal (ledger, folded, printed, none, same) sound = same_scene network past s t entries none same sound

pub prints_sound : (network : Network) (explain : Bool) (number before : ℕ) (past : List Entry) (s : Scene) (lines : List (List ℕ)) (out : List ℕ) (history : List Entry) (t : Scene) → IsOpening network → IsLegal network past s.state → Prints network explain number before s lines out history t
    → AreSound network past s.state s.indexes → AreSound network (past ++ history) t.state t.indexes
prints_sound network explain number before past s [] out history t opens legal (printed, none, same) sound = same_scene network past s t history none same sound
prints_sound network explain number before past s (line ∷ lines) out history t opens legal (first, rest, entries, later, mid, obeys, prints, printed, is) sound =
    let run = acts_run network s obeys.meaning obeys.text entries mid obeys.acts in
    let there : IsLegal network (past ++ entries) mid.state = runs_both network (opening network) past s.state entries mid.state legal run in
    let more = prints_sound network explain (number + 1) (before + length line) (past ++ entries) mid lines rest later t opens there prints (acts_sound network past s obeys.meaning obeys.text entries mid opens legal obeys.acts sound) in
    subst (λ (es : List Entry). AreSound network es t.state t.indexes) (append_assoc past entries later ∙ ap (λ (es : List Entry). past ++ es) (sym is)) more

-- no follower has an index at the beginning
pub none_beside : (network : Network) (past : List Entry) (state : State) → AreSound network past state (no_indexes network.genesis)
none_beside network past state = record { genesis = refl; beside = λ id at is. absurd (none_put at is) }

-- the chain theorem of a script
abbrev pub obeyed : (options : Options) (network : Network) (start : State) (lines : List (List ℕ)) (out : List ℕ) (history : List Entry) (scene : Scene) → Prints network options.explain 1 0 (first_scene options.scheme network start) lines out history scene → AreObeyed options network start lines out
obeyed options network start lines out history scene prints = record {
  scene = scene;
  history = history;
  prints = prints;
  run = prints_run network options.explain 1 0 (first_scene options.scheme network start) lines out history scene prints;
  theorem = λ opens past legal. theorem_of_legal network (past ++ history) scene.state opens
      (runs_both network (opening network) past start history scene.state legal (prints_run network options.explain 1 0 (first_scene options.scheme network start) lines out history scene prints));
  indexes = λ opens past legal. (prints_sound network options.explain 1 0 past (first_scene options.scheme network start) lines out history scene opens legal prints (none_beside network past start)).beside;
}
