-- The run of a script, between two lines and at its end.
use Rattle.std.proofs.Common.{◌≡◌, ◌≢◌, inl, inr, ℕ, Bool, ◌+◌, ◌≤◌, ◌<◌, List, [], ◌∷◌, ◌++◌, length, Option, Some, None, option_map, Result, Ok, refl, sym, ◌∙◌, ap, subst, append_assoc, append-nil, length-append, Err, nat_eq, true, false, arith}
use Rattle.std.specs.Prelude.{IfSome, OnOk, IfErr}
use Rattle.std.specs.Global.{Vec}
use Rattle.std.specs.List.{concat}
use Rattle.std.specs.Io.BufRead.{take_through, drop_through, DropsThrough}
use Rattle.std.specs.Io.KnownBytes.{Appends, Consumes}
use Rattle.std.specs.Io.{appended_bytes}
use Rattle.std.proofs.lemmas.Bool.Decides.{nat_tests}
use Rattle.std.proofs.lemmas.List.Folds.{concat-append}
use Rattle.std.proofs.lemmas.Option.{same_Some}
use Rattle.model.specs.Signature.{Verifies}
use Rattle.model.specs.Ledger.{Network}
use Rattle.model.specs.Chain.{IsOpening}
use Rattle.model.specs.History.{State, opening, Entry, IsRun}
use Rattle.chain_core.specs.Held.{Held, Stands, network_held}
use Rattle.scenario.specs.declared.options.Options.{Options}
use Rattle.scenario.specs.Pieces.{IsPiece, IsNextLine, IsReadFault, IsNoLine}
use Rattle.scenario.specs.declared.session.Session.{Session}
use Rattle.script.specs.declared.stop.Stop.{Stop}
use Rattle.script.specs.declared.stop.Stop.TheVariants as stop
use Rattle.scenario.specs.declared.fault.ScenarioFault.{ScenarioFault}
use Rattle.scenario.specs.declared.fault.ScenarioFault.TheVariants as fault
use Rattle.script.specs.Text.{lines_of}
use Rattle.script.specs.declared.fault.LineFault.{LineFault}
use Rattle.script.specs.declared.fault.LineFault.TheVariants.{BadLine}
use Rattle.script.specs.Names.{OpenTx, no_names}
use Rattle.script.specs.RequestView.{AreNamed}
use Rattle.script.specs.Meaning.{Meaning, Means, HasNoFault, is_late_line, parse_within}
use Rattle.scenario.specs.Run.{Scene, first_scene, Obeys, Prints, AreObeyed, IsLeftBy, BreaksOff, EndsWellFrom, EndsByFrom, EndsWell, EndsBy}
use Rattle.scenario.specs.Run.{fault_of, entry}
use Rattle.scenario.specs.Indexes.{no_indexes}
use Rattle.scenario.specs.IndexView.{AreIndexes}
use Rattle.scenario.specs.SessionView.{Holds, Acted, IsShort, IsObeyed}
use Rattle.scenario.specs.Handed.{RunsWell, RunsInto, HasRun}
use Rattle.scenario.specs.Print.{AppendsPart}
use Rattle.scenario.proofs.Lines.{first_line, no_line, line_and_rest, line_stops, prints_more}
use Rattle.scenario.proofs.Histories.{runs_both, acts_run, prints_run, obeyed}
use Rattle.scenario.proofs.WrittenParts.{appends_both}

-- of the text that a reader had these lines are read, and what it has is the rest
abbrev pub HasRead : Option (List ℕ) → Option (List ℕ) → List (List ℕ) → Type 0
HasRead old new done = IfSome old (λ text. (rest : List ℕ) × (new ≡ Some rest) × (lines_of text ≡ done ++ lines_of rest) × (text ≡ concat done ++ rest))

-- and one line more, which is empty at the end of the text
abbrev pub HasLine : Option (List ℕ) → Option (List ℕ) → List (List ℕ) → List ℕ → Type 0
HasLine old new done line = IfSome old (λ text. (rest : List ℕ) × (new ≡ Some (drop_through 10 rest)) × (line ≡ take_through 10 rest) × (lines_of text ≡ done ++ lines_of rest) × (text ≡ concat done ++ rest))

-- from this state on these lines were obeyed, what they print is written, and the session is where they lead
pub record Goes {S : Type 0} (options : Options) (network : Network) (start : State) (session : Session S) (done : List (List ℕ)) (old_out out : Option (List ℕ)) : Type 0 where
  pub scene : Scene
  pub history : List Entry
  pub printed : List ℕ
  pub prints : Prints network options.explain 1 0 (first_scene options.scheme network start) done printed history scene
  pub holds : Holds session scene
  pub written : Appends old_out out printed

-- before the line of this number: these lines were read, and obeyed from each state on that the core stood for at first
pub record Running {S : Type 0} (options : Options) (verifies : Verifies) (network : Network) (first : Held) (session : Session S) (before number : ℕ) (old_text text old_out out : Option (List ℕ)) : Type 0 where
  pub done : List (List ℕ)
  pub same_network : network_held session.core verifies ≡ network
  pub size : before ≡ length (concat done)
  pub limit : before ≤ 4194304
  pub counted : length done + 1 ≡ number
  pub bytes : length done ≤ before
  pub read : HasRead old_text text done
  pub goes : (start : State) → Stands first start → Goes options network start session done old_out out

-- ---- reading

-- nothing is read yet
pub none_read : (text : Option (List ℕ)) → HasRead text text []
none_read None = tt
none_read (Some text) = (text, refl, refl, refl)

-- the next line was read into a buffer that was empty
pub line_into : (old new : Option (List ℕ)) (start buf : List ℕ) → start ≡ [] → IfSome old (λ xs. buf ≡ start ++ take_through 10 xs) → DropsThrough old new 10 → IsNextLine old new buf
line_into None new start buf empty is rest = tt
line_into (Some xs) new start buf empty is rest = (is ∙ ap (λ (l : List ℕ). l ++ take_through 10 xs) empty, rest)

-- a piece of the next line was read into a buffer that was empty, and then reading stopped
pub part_into : (start buf line : List ℕ) (why : ScenarioFault) → start ≡ [] → line ≡ buf → IsReadFault line why → IsReadFault (appended_bytes start buf) why
part_into start buf line why empty same is =
    let whole : line ≡ appended_bytes start buf = same ∙ ap (λ (l : List ℕ). appended_bytes l buf) (sym empty) in
    subst (λ (l : List ℕ). IsReadFault l why) whole is

no_zero : (n : ℕ) → n ≡ 0 → nat_eq n 0 ≡ false → ⊥
no_zero n is test = let bad : nat_eq 0 0 ≡ false = subst (λ (k : ℕ). nat_eq k 0 ≡ false) is test in cc

-- a line of some length isn't empty
pub not_empty : (line : List ℕ) (n : ℕ) → length line ≡ n → nat_eq n 0 ≡ false → line ≢ []
not_empty [] n is test = λ e. let zero_long : n ≡ 0 = omega arith in absurd (no_zero n zero_long test)
not_empty (x ∷ xs) n is test = λ e. cc

next_there : (new : Option (List ℕ)) (whole line rest : List ℕ) → line ≡ whole → IsNextLine (Some rest) new whole → (new ≡ Some (drop_through 10 rest)) × (line ≡ take_through 10 rest)
next_there new whole line rest same next = (next.1, same ∙ next.0)

-- the next line behind those that were read
pub next_of : (old mid new : Option (List ℕ)) (done : List (List ℕ)) (whole line : List ℕ) → HasRead old mid done → line ≡ whole → IsNextLine mid new whole → HasLine old new done line
next_of None mid new done whole line read same next = tt
next_of (Some text) mid new done whole line (rest, remains, lines, all) same next =
    let there = next_there new whole line rest same (subst (λ (m : Option (List ℕ)). IsNextLine m new whole) remains next) in
    (rest, there.0, there.1, lines, all)

-- a text behind a line that isn't empty isn't
filled : (line rest : List ℕ) → line ≡ take_through 10 rest → line ≢ [] → rest ≢ []
filled line rest is some none = some (is ∙ ap (take_through 10) none)

pub one_line_more : (text rest line : List ℕ) (done : List (List ℕ)) → lines_of text ≡ done ++ lines_of rest → line ≡ take_through 10 rest → line ≢ [] → lines_of text ≡ done ++ line ∷ lines_of (drop_through 10 rest)
one_line_more text rest line done lines is some =
    lines ∙ ap (λ (l : List (List ℕ)). done ++ l) (first_line rest (filled line rest is some) ∙ ap (λ (l : List ℕ). l ∷ lines_of (drop_through 10 rest)) (sym is))

pub concat_more : (done : List (List ℕ)) (line : List ℕ) → concat (done ++ line ∷ []) ≡ concat done ++ line
concat_more done line = concat-append done (line ∷ []) ∙ ap (λ (l : List ℕ). concat done ++ l) (append-nil line)

-- a line that isn't empty is one of the lines
pub next_read : (old new : Option (List ℕ)) (done : List (List ℕ)) (line : List ℕ) → line ≢ [] → HasLine old new done line → HasRead old new (done ++ line ∷ [])
next_read None new done line some read = tt
next_read (Some text) new done line some (rest, remains, is, lines, all) = (
  drop_through 10 rest,
  remains,
  one_line_more text rest line done lines is some ∙ sym (append_assoc done (line ∷ []) (lines_of (drop_through 10 rest))),
  (all ∙ ap (λ (l : List ℕ). concat done ++ l) (line_and_rest rest ∙ ap (λ (l : List ℕ). l ++ drop_through 10 rest) (sym is))
      ∙ sym (append_assoc (concat done) line (drop_through 10 rest)) ∙ ap (λ (l : List ℕ). l ++ drop_through 10 rest) (sym (concat_more done line))),
)

-- ---- steps

pub has_bytes : (line : List ℕ) → line ≢ [] → 0 < length line
has_bytes [] some = absurd (some refl)
has_bytes (x ∷ xs) some = omega arith

-- before the first line
pub opened : {S : Type 0} (options : Options) (verifies : Verifies) (network : Network) (session : Session S) (text out : Option (List ℕ)) → AreNamed session.names (no_names options.scheme network.genesis.params.network) → AreIndexes session.indexes (no_indexes network.genesis) → network_held session.core verifies ≡ network → Appends out out [] → Running options verifies network session.core session 0 1 text text out out
opened options verifies network session text out named indexes is_network none = record {
  done = [];
  same_network = is_network;
  size = refl;
  limit = omega arith;
  counted = refl;
  bytes = omega arith;
  read = none_read text;
  goes = λ start stands. record {
    scene = first_scene options.scheme network start;
    history = [];
    printed = [];
    prints = (refl, refl, refl);
    holds = record { stands = stands; names = named; indexes = indexes };
    written = none;
  };
}

obeyed_so : {S : Type 0} (network : Network) (explain : Bool) (number before : ℕ) (s : Scene) (line out : List ℕ) (new : Session S) (done : List (List ℕ)) (acted : Acted network explain s (Means number before s.names line) out new) → length done + 1 ≡ number → before ≡ length (concat done)
    → Obeys network explain (1 + length done) (0 + length (concat done)) s line out acted.told.done.entries acted.told.done.scene
obeyed_so network explain number before s line out new done acted counted size =
    let here : Obeys network explain number before s line out acted.told.done.entries acted.told.done.scene =
    record { meaning = acted.meaning; is_meant = acted.is_meant; text = acted.told.text; acts = acted.told.done.acts; note = acted.told.note; is_note = acted.told.is_note; printed = acted.told.printed } in
    let there : Obeys network explain (1 + length done) before s line out acted.told.done.entries acted.told.done.scene = subst (λ (n : ℕ). Obeys network explain n before s line out acted.told.done.entries acted.told.done.scene) (omega (arith, counted)) here in
    subst (λ (n : ℕ). Obeys network explain (1 + length done) n s line out acted.told.done.entries acted.told.done.scene) (omega (arith, size)) there

-- what a session answers to a line, whatever the scene that it holds
abbrev pub AnswersTo : {S : Type 0} (verifies : Verifies) (explain : Bool) (old new : Session S) (before number : ℕ) (line : List ℕ) → Result (Vec ℕ) Stop → Type 0
AnswersTo verifies explain old new before number line answer = (s : Scene) → Holds old s → IsObeyed (network_held old.core verifies) explain s (Means number before s.names line) (is_late_line (parse_within before line)) answer new

-- one line more from a state on
goes_on : {S : Type 0} (options : Options) (network : Network) (start : State) (old new : Session S) (before number : ℕ) (done : List (List ℕ)) (old_out mid_out out : Option (List ℕ)) (line printed : List ℕ) (so_far : Goes options network start old done old_out mid_out) → length done + 1 ≡ number → before ≡ length (concat done)
    → Acted network options.explain so_far.scene (Means number before so_far.scene.names line) printed new → Appends mid_out out printed → Goes options network start new (done ++ line ∷ []) old_out out
goes_on options network start old new before number done old_out mid_out out line printed so_far counted size acted written = record {
  scene = acted.told.done.scene;
  history = so_far.history ++ acted.told.done.entries;
  printed = so_far.printed ++ printed;
  prints = prints_more network options.explain 1 0 (first_scene options.scheme network start) done so_far.printed so_far.history so_far.scene line printed acted.told.done.entries acted.told.done.scene so_far.prints
      (obeyed_so network options.explain number before so_far.scene line printed new done acted counted size);
  holds = acted.told.done.holds;
  written = appends_both old_out mid_out out so_far.printed printed so_far.written written;
}

-- a line was obeyed from a state on
acted_from : {S : Type 0} (verifies : Verifies) (network : Network) (explain : Bool) (old new : Session S) (before number : ℕ) (line : List ℕ) (out : Vec ℕ) (s : Scene) → network_held old.core verifies ≡ network → AnswersTo verifies explain old new before number line (Ok out) → Holds old s → Acted network explain s (Means number before s.names line) out.items new
acted_from verifies network explain old new before number line out s same said holds =
    subst (λ (n : Network). Acted n explain s (Means number before s.names line) out.items new) same (said s holds)

-- a line was read, obeyed and written
pub stepped : {S : Type 0} (options : Options) (verifies : Verifies) (network : Network) (first : Held) (old new : Session S) (before number : ℕ) (old_text mid_text text old_out mid_out out : Option (List ℕ)) (line : List ℕ) (printed : Vec ℕ) (so_far : Running options verifies network first old before number old_text mid_text old_out mid_out)
    → HasLine old_text text so_far.done line → line ≢ [] → AnswersTo verifies options.explain old new before number line (Ok printed) → network_held new.core verifies ≡ network_held old.core verifies
    → before + length line ≤ 4194304 → Appends mid_out out printed.items → Running options verifies network first new (before + length line) (number + 1) old_text text old_out out
stepped options verifies network first old new before number old_text mid_text text old_out mid_out out line printed so_far read some said same limit written =
    let more : length (concat (so_far.done ++ line ∷ [])) ≡ length (concat so_far.done) + length line = ap length (concat_more so_far.done line) ∙ length-append (concat so_far.done) line in
    let count : length (so_far.done ++ line ∷ []) ≡ length so_far.done + 1 = length-append so_far.done (line ∷ []) in
    let filled_line : 0 < length line = has_bytes line some in
    record {
      done = so_far.done ++ line ∷ [];
      same_network = same ∙ so_far.same_network;
      size = omega (arith, more, so_far.size);
      limit = limit;
      counted = omega (arith, count, so_far.counted);
      bytes = omega (arith, count, so_far.bytes);
      read = next_read old_text text so_far.done line some read;
      goes = λ start stands.
          let goes = so_far.goes start stands in
          goes_on options network start old new before number so_far.done old_out mid_out out line printed.items goes so_far.counted so_far.size
          (acted_from verifies network options.explain old new before number line printed goes.scene so_far.same_network said goes.holds) written;
    }

-- ---- what happened to the core

-- the lines that were obeyed
pub ran : {S : Type 0} (options : Options) (verifies : Verifies) (first : Held) (session : Session S) (before number : ℕ) (old_text text old_out out : Option (List ℕ)) → Running options verifies (network_held first verifies) first session before number old_text text old_out out → HasRun verifies first session.core
ran options verifies first session before number old_text text old_out out so_far = λ start stands.
    let goes = so_far.goes start stands in
    (goes.history, goes.scene.state, prints_run (network_held first verifies) options.explain 1 0 (first_scene options.scheme (network_held first verifies) start) so_far.done goes.printed goes.history goes.scene goes.prints, goes.holds.stands)

-- and one more
pub ran_on : {S : Type 0} (options : Options) (verifies : Verifies) (first : Held) (old new : Session S) (before number : ℕ) (old_text text old_out out : Option (List ℕ)) (line : List ℕ) (printed : Vec ℕ) → Running options verifies (network_held first verifies) first old before number old_text text old_out out
    → AnswersTo verifies options.explain old new before number line (Ok printed) → HasRun verifies first new.core
ran_on options verifies first old new before number old_text text old_out out line printed so_far said = λ start stands.
    let goes = so_far.goes start stands in
    let acted = acted_from verifies (network_held first verifies) options.explain old new before number line printed goes.scene so_far.same_network said goes.holds in (
      goes.history ++ acted.told.done.entries,
      acted.told.done.scene.state,
      runs_both (network_held first verifies) start goes.history goes.scene.state acted.told.done.entries acted.told.done.scene.state
          (prints_run (network_held first verifies) options.explain 1 0 (first_scene options.scheme (network_held first verifies) start) so_far.done goes.printed goes.history goes.scene goes.prints)
          (acts_run (network_held first verifies) goes.scene acted.meaning acted.told.text acted.told.done.entries acted.told.done.scene acted.told.done.acts),
      acted.told.done.holds.stands,
    )

-- and one more, in which memory ran out
left_run : (network : Network) (s t u : State) (history : List Entry) (means : Result Meaning LineFault → Type 0) → IsRun network s history t → IsLeftBy network t means u → (more : List Entry) × IsRun network s more u
left_run network s t u history means run (inl still) = (history, subst (IsRun network s history) (sym still) run)
left_run network s t u history means run (inr (meaning, meant, happened)) = (
  history ++ entry happened.event happened.reply,
  runs_both network s history t (entry happened.event happened.reply) u run (u, happened.step, refl),
)

ran_short : (network : Network) (first new : Held) (start s : State) (history : List Entry) (means : Result Meaning LineFault → Type 0) → IsRun network start history s → IsShort network s means new → (more : List Entry) × (t : State) × IsRun network start more t × Stands new t
ran_short network first new start s history means run short =
    let on = left_run network start s short.state history means run short.left in
    (on.0, short.state, on.1, short.stands)

pub ran_stopped : {S : Type 0} (options : Options) (verifies : Verifies) (first : Held) (old new : Session S) (before number : ℕ) (old_text text old_out out : Option (List ℕ)) (line : List ℕ) (why : Stop) → Running options verifies (network_held first verifies) first old before number old_text text old_out out
    → AnswersTo verifies options.explain old new before number line (Err why) → HasRun verifies first new.core
ran_stopped options verifies first old new before number old_text text old_out out line (stop.Fault why) so_far said = λ start stands.
    let goes = so_far.goes start stands in
    (goes.history, goes.scene.state, prints_run (network_held first verifies) options.explain 1 0 (first_scene options.scheme (network_held first verifies) start) so_far.done goes.printed goes.history goes.scene goes.prints, (said goes.scene goes.holds).1)
ran_stopped options verifies first old new before number old_text text old_out out line stop.OutOfMemory so_far said = λ start stands.
    let goes = so_far.goes start stands in
    let means = Means number before goes.scene.names line in
    ran_short (network_held first verifies) first new.core start goes.scene.state goes.history means
    (prints_run (network_held first verifies) options.explain 1 0 (first_scene options.scheme (network_held first verifies) start) so_far.done goes.printed goes.history goes.scene goes.prints)
    (subst (λ (n : Network). IsShort n goes.scene.state means new.core) so_far.same_network (said goes.scene goes.holds).1)

-- ---- ends

-- a text whose next line is empty is at its end
pub at_end : (text rest line : List ℕ) (done : List (List ℕ)) → lines_of text ≡ done ++ lines_of rest → line ≡ take_through 10 rest → line ≡ [] → lines_of text ≡ done
at_end text rest line done lines is none =
    let empty : rest ≡ [] = no_line rest (sym is ∙ none) in
    lines ∙ ap (λ (l : List ℕ). done ++ lines_of l) empty ∙ append-nil done

-- all lines of a text that is at its end were obeyed
abbrev all_obeyed : {S : Type 0} (options : Options) (network : Network) (start : State) (session : Session S) (done : List (List ℕ)) (old_out out : Option (List ℕ)) (so_far : Goes options network start session done old_out out) (lines : List (List ℕ)) → lines ≡ done → AreObeyed options network start lines so_far.printed
all_obeyed options network start session done old_out out so_far lines same =
    obeyed options network start lines so_far.printed so_far.history so_far.scene (subst (λ (ls : List (List ℕ)). Prints network options.explain 1 0 (first_scene options.scheme network start) ls so_far.printed so_far.history so_far.scene) (sym same) so_far.prints)

pub no_making : (making : Option OpenTx) → None ≡ option_map (λ (made : OpenTx). made.line) making → making ≡ None
no_making None is = refl
no_making (Some made) is = cc

pub some_making : (making : Option OpenTx) (number : ℕ) → Some number ≡ option_map (λ (made : OpenTx). made.line) making → (made : OpenTx) × (making ≡ Some made) × (made.line ≡ number)
some_making None number is = cc
some_making (Some made) number is = (made, refl, same_Some made.line number (sym is))

-- where no line is told there is none
pub no_line_told : (told line : Option ℕ) → told ≡ line → ((number : ℕ) → told ≡ Some number → ⊥) → None ≡ line
no_line_told None line is none = is
no_line_told (Some number) line is none = absurd (none number refl)

pub nothing_left : (rest line : List ℕ) → line ≡ take_through 10 rest → line ≡ [] → drop_through 10 rest ≡ []
nothing_left rest line is none = ap (drop_through 10) (no_line rest (sym is ∙ none))

-- which line began the transaction that is open, whatever the scene that a session holds
abbrev pub IsOpenLine : {S : Type 0} → Session S → Option ℕ → Type 0
IsOpenLine session told = (s : Scene) → Holds session s → told ≡ option_map (λ (made : OpenTx). made.line) s.names.making

-- the run ended well
pub ended : {S : Type 0} (options : Options) (verifies : Verifies) (first : Held) (session : Session S) (before number : ℕ) (old_text mid_text text old_out out : Option (List ℕ)) (line : List ℕ) (told : Option ℕ) (so_far : Running options verifies (network_held first verifies) first session before number old_text mid_text old_out out)
    → HasLine old_text text so_far.done line → line ≡ [] → IsOpenLine session told → ((number : ℕ) → told ≡ Some number → ⊥) → IfSome old_text (λ t. RunsWell options verifies first session.core t old_out out)
ended options verifies first session before number None mid_text text old_out out line told so_far read none is_told open_none = tt
ended options verifies first session before number (Some t) mid_text text old_out out line told so_far (rest, remains, is, lines, all) none is_told open_none = λ start stands.
    let goes = so_far.goes start stands in (
      goes.scene.state,
      record {
        out = goes.printed;
        written = goes.written;
        obeyed = all_obeyed options (network_held first verifies) start session so_far.done old_out out goes (lines_of t) (at_end t rest line so_far.done lines is none);
        ended = no_making goes.scene.names.making (no_line_told told (option_map (λ (made : OpenTx). made.line) goes.scene.names.making) (is_told goes.scene goes.holds) open_none);
        is_end = refl;
      },
      goes.holds.stands,
    )

-- and nothing is left of the text
pub nothing_remains : (old_text text : Option (List ℕ)) (done : List (List ℕ)) (line : List ℕ) → HasLine old_text text done line → line ≡ [] → IfSome old_text (λ _. text ≡ Some [])
nothing_remains None text done line read none = tt
nothing_remains (Some t) text done line (rest, remains, is, lines, all) none = remains ∙ ap Some (nothing_left rest line is none)

-- the run ended within a transaction, whose line has this number
pub unended : {S : Type 0} (options : Options) (verifies : Verifies) (first : Held) (session : Session S) (before number : ℕ) (old_text mid_text text old_out out : Option (List ℕ)) (line : List ℕ) (begun : ℕ) (so_far : Running options verifies (network_held first verifies) first session before number old_text mid_text old_out out)
    → HasLine old_text text so_far.done line → line ≡ [] → IsOpenLine session (Some begun) → IfSome old_text (λ t. RunsInto options verifies first session.core t text old_out out (fault.Line begun BadLine))
unended options verifies first session before number None mid_text text old_out out line begun so_far read none is_told = tt
unended options verifies first session before number (Some t) mid_text text old_out out line begun so_far (rest, remains, is, lines, all) none is_told = λ start stands.
    let goes = so_far.goes start stands in
    let making = some_making goes.scene.names.making begun (is_told goes.scene goes.holds) in (
      goes.scene.state,
      record {
        left = drop_through 10 rest;
        remains = remains;
        out = goes.printed;
        written = goes.written;
        is_fault = inr (
          refl,
          nothing_left rest line is none,
          record {
            obeyed = all_obeyed options (network_held first verifies) start session so_far.done old_out out goes (lines_of t) (at_end t rest line so_far.done lines is none);
            made = making.0;
            is_made = making.1;
            line = making.2;
            is_end = refl;
          },
        );
      },
      goes.holds.stands,
    )

-- the text behind a line that was read
pub text_behind : (text rest line : List ℕ) (done : List (List ℕ)) → text ≡ concat done ++ rest → line ≡ take_through 10 rest → text ≡ concat done ++ (line ++ drop_through 10 rest)
text_behind text rest line done all is = all ∙ ap (λ (l : List ℕ). concat done ++ l) (line_and_rest rest ∙ ap (λ (l : List ℕ). l ++ drop_through 10 rest) (sym is))

-- nothing of a line is printed
abbrev breaks_off_before : (options : Options) (network : Network) (start : State) (text rest left more : List ℕ) (done : List (List ℕ)) (printed : List ℕ) (history : List Entry) (scene : Scene) → Prints network options.explain 1 0 (first_scene options.scheme network start) done printed history scene → lines_of text ≡ done ++ lines_of rest → text ≡ concat done ++ (more ++ left)
    → IsPiece more → BreaksOff options network start text left printed
breaks_off_before options network start text rest left more done printed history scene prints lines all piece = record {
  lines = done;
  after = lines_of rest;
  begins = lines;
  more = more;
  piece = piece;
  read = all;
  obeyed = obeyed options network start done printed history scene prints;
}

-- the same line, by its place among those that were read
means_there : (number before : ℕ) (done : List (List ℕ)) (s : Scene) (line : List ℕ) (P : (Result Meaning LineFault → Type 0) → Type 0) → length done + 1 ≡ number → before ≡ length (concat done) → P (Means number before s.names line) → P (Means (length done + 1) (length (concat done)) s.names line)
means_there number before done s line P counted size holds =
    subst (λ (n : ℕ). P (Means n (length (concat done)) s.names line)) (sym counted) (subst (λ (n : ℕ). P (Means number n s.names line)) size holds)

-- a line was not run
pub stopped : {S : Type 0} (options : Options) (verifies : Verifies) (first : Held) (session new : Session S) (before number : ℕ) (old_text mid_text text old_out out : Option (List ℕ)) (line : List ℕ) (why : Stop) (so_far : Running options verifies (network_held first verifies) first session before number old_text mid_text old_out out)
    → HasLine old_text text so_far.done line → line ≢ [] → AnswersTo verifies options.explain session new before number line (Err why)
    → IfSome old_text (λ t. RunsInto options verifies first new.core t text old_out out (fault_of number why))
stopped options verifies first session new before number None mid_text text old_out out line why so_far read some said = tt
stopped options verifies first session new before number (Some t) mid_text text old_out out line (stop.Fault why) so_far (rest, remains, is, lines, all) some said = λ start stands.
    let network = network_held first verifies in
    let goes = so_far.goes start stands in
    let told = said goes.scene goes.holds in (
      goes.scene.state,
      record {
        left = drop_through 10 rest;
        remains = remains;
        out = goes.printed;
        written = goes.written;
        is_fault = inl (record {
          before = so_far.done;
          line = line;
          after = lines_of (drop_through 10 rest);
          lines = one_line_more t rest line so_far.done lines is some;
          read = text_behind t rest line so_far.done all is;
          counted = so_far.counted;
          obeyed = obeyed options network start so_far.done goes.printed goes.history goes.scene goes.prints;
          is_fault = subst (λ (n : ℕ). Means number n goes.scene.names line (Err why)) so_far.size told.0;
          is_end = refl;
        });
      },
      told.1,
    )
stopped options verifies first session new before number (Some t) mid_text text old_out out line stop.OutOfMemory so_far (rest, remains, is, lines, all) some said = λ start stands.
    let network = network_held first verifies in
    let goes = so_far.goes start stands in
    let told = said goes.scene goes.holds in
    let short = subst (λ (n : Network). IsShort n goes.scene.state (Means number before goes.scene.names line) new.core) so_far.same_network told.1 in (
      short.state,
      record {
        left = drop_through 10 rest;
        remains = remains;
        out = goes.printed;
        written = goes.written;
        is_fault = record {
          broken = breaks_off_before options network start t rest (drop_through 10 rest) line so_far.done goes.printed goes.history goes.scene goes.prints lines (text_behind t rest line so_far.done all is) (subst (λ (l : List ℕ). IsPiece l) (sym is) (line_stops rest));
          has_no_fault = λ content whole. subst (λ (n : ℕ). HasNoFault n (length (concat so_far.done)) goes.scene.names line) (sym so_far.counted) (subst (λ (n : ℕ). HasNoFault number n goes.scene.names line) so_far.size told.0);
          is_end = means_there number before so_far.done goes.scene line (λ means. IsLeftBy network goes.scene.state means short.state) so_far.counted so_far.size short.left;
        };
      },
      short.stands,
    )

-- of what a line prints a part was written
pub not_written : {S : Type 0} (options : Options) (verifies : Verifies) (first : Held) (old new : Session S) (before number : ℕ) (old_text mid_text text old_out mid_out out : Option (List ℕ)) (line : List ℕ) (printed : Vec ℕ) (so_far : Running options verifies (network_held first verifies) first old before number old_text mid_text old_out mid_out)
    → HasLine old_text text so_far.done line → line ≢ [] → AnswersTo verifies options.explain old new before number line (Ok printed)
    → AppendsPart mid_out out printed.items → IfSome old_text (λ t. RunsInto options verifies first new.core t text old_out out fault.WriteFailed)
not_written options verifies first old new before number None mid_text text old_out mid_out out line printed so_far read some said written = tt
not_written options verifies first old new before number (Some t) mid_text text old_out mid_out out line printed so_far (rest, remains, is, lines, all) some said (unwritten, not_all, some_written) = λ start stands.
    let network = network_held first verifies in
    let goes = so_far.goes start stands in
    let acted = acted_from verifies network options.explain old new before number line printed goes.scene so_far.same_network said goes.holds in
    let obeys = obeyed_so network options.explain number before goes.scene line printed.items new so_far.done acted so_far.counted so_far.size in (
      acted.told.done.scene.state,
      record {
        left = drop_through 10 rest;
        remains = remains;
        out = goes.printed ++ some_written.part;
        written = appends_both old_out mid_out out goes.printed some_written.part goes.written some_written.written;
        is_fault = record {
          lines = so_far.done;
          line = line;
          after = lines_of (drop_through 10 rest);
          begins = one_line_more t rest line so_far.done lines is some;
          read = text_behind t rest line so_far.done all is;
          before = goes.printed;
          printed = printed.items;
          obeyed_before = obeyed options network start so_far.done goes.printed goes.history goes.scene goes.prints;
          obeyed = obeyed options network start (so_far.done ++ line ∷ []) (goes.printed ++ printed.items) (goes.history ++ acted.told.done.entries) acted.told.done.scene
              (prints_more network options.explain 1 0 (first_scene options.scheme network start) so_far.done goes.printed goes.history goes.scene line printed.items acted.told.done.entries acted.told.done.scene goes.prints obeys);
          part = some_written.part;
          unwritten = unwritten;
          parts = some_written.begins;
          not_all = not_all;
          written = refl;
          is_end = refl;
        };
      },
      acted.told.done.holds.stands,
    )

-- what is left where a read failed
pub still_left : (rest part : List ℕ) (mid new : Option (List ℕ)) → mid ≡ Some rest → Consumes mid new part → (left : List ℕ) × (new ≡ Some left) × (rest ≡ part ++ left)
still_left rest part None new is taken = cc
still_left rest part (Some xs) None is taken = elim taken [ ]
still_left rest part (Some xs) (Some ys) is taken = let same : xs ≡ rest = cc in (ys, refl, sym same ∙ taken)

-- no line was read
breaks_at : (options : Options) (network : Network) (start : State) (t : List ℕ) (text old_out out : Option (List ℕ)) (rest left part : List ℕ) (done : List (List ℕ)) (printed : List ℕ) (history : List Entry) (scene : Scene) → Prints network options.explain 1 0 (first_scene options.scheme network start) done printed history scene → Appends old_out out printed
    → lines_of t ≡ done ++ lines_of rest → t ≡ concat done ++ rest → text ≡ Some left → rest ≡ part ++ left → IsPiece part → (why : ScenarioFault) → IsReadFault part why → EndsByFrom options network start t text old_out out why scene.state
breaks_at options network start t text old_out out rest left part done printed history scene prints written lines all remains parts piece why is =
    let broken : BreaksOff options network start t left printed = breaks_off_before options network start t rest left part done printed history scene prints lines (all ∙ ap (λ (l : List ℕ). concat done ++ l) parts) piece in
    elim is [
      | inl e ↦ subst (λ (w : ScenarioFault). EndsByFrom options network start t text old_out out w scene.state) (sym e) (record { left = left; remains = remains; out = printed; written = written; is_fault = record { broken = broken; is_end = refl } })
      | inr e ↦ subst (λ (w : ScenarioFault). EndsByFrom options network start t text old_out out w scene.state) (sym e.0)
          (record { left = left; remains = remains; out = printed; written = written; is_fault = record { broken = broken; has_no_fault = λ content whole. absurd (e.1 content whole); is_end = inl refl } })
    ]

not_read_at : {S : Type 0} (options : Options) (verifies : Verifies) (first : Held) (session : Session S) (before number : ℕ) (old_text mid_text text old_out out : Option (List ℕ)) (part : List ℕ) (so_far : Running options verifies (network_held first verifies) first session before number old_text mid_text old_out out)
    → HasRead old_text mid_text so_far.done → Consumes mid_text text part → IsPiece part → (why : ScenarioFault) → IsReadFault part why → IfSome old_text (λ t. RunsInto options verifies first session.core t text old_out out why)
not_read_at options verifies first session before number None mid_text text old_out out part so_far read taken piece why is = tt
not_read_at options verifies first session before number (Some t) mid_text text old_out out part so_far (rest, remains, lines, all) taken piece why is = λ start stands.
    let goes = so_far.goes start stands in
    let left = still_left rest part mid_text text remains taken in (
      goes.scene.state,
      breaks_at options (network_held first verifies) start t text old_out out rest left.0 part so_far.done goes.printed goes.history goes.scene goes.prints goes.written lines all left.1 left.2 piece why is,
      goes.holds.stands,
    )

pub not_read : {S : Type 0} (options : Options) (verifies : Verifies) (first : Held) (session : Session S) (before number : ℕ) (old_text mid_text text old_out out : Option (List ℕ)) (why : ScenarioFault) → Running options verifies (network_held first verifies) first session before number old_text mid_text old_out out
    → IsNoLine mid_text text why → IfSome old_text (λ t. RunsInto options verifies first session.core t text old_out out why)
not_read options verifies first session before number old_text mid_text text old_out out why so_far none =
    not_read_at options verifies first session before number old_text mid_text text old_out out none.piece so_far so_far.read none.read none.is_piece why none.fault

-- a buffer without length is empty
pub is_nil : (line : List ℕ) (n : ℕ) → length line ≡ n → nat_eq n 0 ≡ true → line ≡ []
is_nil [] n is test = refl
is_nil (x ∷ xs) n is test = let zero_long : n ≡ 0 = grind (arith, nat_tests) in absurd (omega arith)

-- ---- a new core

pub new_well : (options : Options) (verifies : Verifies) (network : Network) → IsOpening network → (old new : Held) → network_held old verifies ≡ network → Stands old (opening network) → (text before after : Option (List ℕ)) (result : Result (Unit {0}) ScenarioFault)
    → OnOk result (IfSome text (λ t. RunsWell options verifies old new t before after)) → OnOk result (IfSome text (λ t. EndsWell options network t before after))
new_well options verifies network opens old new is stands None before after (Ok done) well = tt
new_well options verifies network opens old new is stands (Some t) before after (Ok done) well =
    let from = well (opening network) stands in
    record { opens = opens; end = from.0; ends = subst (λ (n : Network). EndsWellFrom options n (opening network) t before after from.0) is from.1 }
new_well options verifies network opens old new is stands text before after (Err why) well = tt

pub new_into : (options : Options) (verifies : Verifies) (network : Network) → IsOpening network → (old new : Held) → network_held old verifies ≡ network → Stands old (opening network) → (text remaining before after : Option (List ℕ)) (result : Result (Unit {0}) ScenarioFault)
    → IfErr result (λ why. IfSome text (λ t. RunsInto options verifies old new t remaining before after why)) → IfErr result (λ why. IfSome text (λ t. EndsBy options network t remaining before after why))
new_into options verifies network opens old new is stands text remaining before after (Ok done) into = tt
new_into options verifies network opens old new is stands None remaining before after (Err why) into = tt
new_into options verifies network opens old new is stands (Some t) remaining before after (Err why) into =
    let from = into (opening network) stands in
    record { opens = opens; end = from.0; ends = subst (λ (n : Network). EndsByFrom options n (opening network) t remaining before after why from.0) is from.1 }

-- ---- a core that is handed in and given back

pub handed_well : (options : Options) (verifies : Verifies) (held old new given : Held) → old ≡ held → given ≡ new → (text before after : Option (List ℕ)) (result : Result (Unit {0}) ScenarioFault)
    → OnOk result (IfSome text (λ t. RunsWell options verifies old new t before after)) → OnOk result (IfSome text (λ t. RunsWell options verifies held given t before after))
handed_well options verifies held old new given is same text before after result well =
    subst (λ (h : Held). OnOk result (IfSome text (λ t. RunsWell options verifies h given t before after))) is (subst (λ (h : Held). OnOk result (IfSome text (λ t. RunsWell options verifies old h t before after))) (sym same) well)

pub handed_into : (options : Options) (verifies : Verifies) (held old new given : Held) → old ≡ held → given ≡ new → (text remaining before after : Option (List ℕ)) (result : Result (Unit {0}) ScenarioFault)
    → IfErr result (λ why. IfSome text (λ t. RunsInto options verifies old new t remaining before after why)) → IfErr result (λ why. IfSome text (λ t. RunsInto options verifies held given t remaining before after why))
handed_into options verifies held old new given is same text remaining before after result into =
    subst (λ (h : Held). IfErr result (λ why. IfSome text (λ t. RunsInto options verifies h given t remaining before after why))) is
    (subst (λ (h : Held). IfErr result (λ why. IfSome text (λ t. RunsInto options verifies old h t remaining before after why))) (sym same) into)

pub handed_run : (verifies : Verifies) (held old new given : Held) → old ≡ held → given ≡ new → HasRun verifies old new → HasRun verifies held given
handed_run verifies held old new given is same run = subst (λ (h : Held). HasRun verifies h given) is (subst (λ (h : Held). HasRun verifies old h) (sym same) run)
