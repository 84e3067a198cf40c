-- What a script sends, between two lines and at its end.
use Rattle.std.proofs.Common.{◌≡◌, ◌≢◌, inl, inr, ℕ, ◌+◌, List, [], ◌∷◌, ◌++◌, length, Option, Some, None, option_map, Result, Ok, Err, refl, sym, ◌∙◌, ap, subst, append_assoc, append-nil, length-append, arith}
use Rattle.std.specs.Prelude.{IfSome, unwrap_or}
use Rattle.std.specs.List.{concat}
use Rattle.std.specs.Io.BufRead.{drop_through}
use Rattle.std.specs.Io.KnownBytes.{Consumes}
use Rattle.std.proofs.lemmas.Option.{same_Some}
use Rattle.script.specs.declared.stop.Stop.{Stop}
use Rattle.script.specs.declared.stop.Stop.TheVariants as stop
use Rattle.script.specs.declared.names.Names.{Names}
use Rattle.script.specs.declared.sending.SendRequest.{SendRequest}
use Rattle.script.specs.declared.fault.LineFault.{LineFault}
use Rattle.script.specs.declared.fault.LineFault.TheVariants.{BadLine}
use Rattle.script.specs.Text.{lines_of}
use Rattle.script.specs.Names.{OpenTx, AllNames, Bound}
use Rattle.script.specs.RequestView.{AreNamed, Lacks}
use Rattle.script.specs.Sending.{SendMeaning, Sends, Makes, SimulationLine, Sending, Defining, MeansSending, MeansSimulation, is_late_sending, parse_sending}
use Rattle.script.specs.SendingView.{AsksSending, IsSent, IsMade, IsSentOrMade}
use Rattle.scenario.specs.Pieces.{IsPiece, IsReadFault, IsNoLine}
use Rattle.scenario.specs.declared.fault.ScenarioFault.{ScenarioFault}
use Rattle.scenario.specs.declared.fault.ScenarioFault.TheVariants as fault
use Rattle.scenario.specs.Run.{fault_of}
use Rattle.scenario.specs.SendRun.{Sent, LineSends, LinesSend, SendsAll, SendsBy, ReadsUpTo}
use Rattle.scenario.specs.SendView.{GoesBehind, IsSendingOf}
use Rattle.scenario.proofs.Lines.{line_stops}
use Rattle.scenario.proofs.Runs.{HasRead, HasLine, none_read, next_read, one_line_more, concat_more, at_end, no_making, some_making, no_line_told, nothing_left, text_behind, still_left}

-- ---- a line

-- a line that sends has no fault
no_fault : (number : ℕ) (names : AllNames) (making : Option OpenTx) (said : Option SimulationLine) (peer : ℕ) (name bytes : List ℕ) (why : LineFault)
    → MeansSimulation number names making said (Ok (Sends peer name bytes)) → MeansSimulation number names making said (Err why) → ⊥
no_fault number names making None peer name bytes why is other = cc
no_fault number names making (Some (Sending sends)) peer name bytes why is other = let same : Ok (Sends peer name bytes) ≡ Err why = sym is ∙ other in cc
no_fault number names making (Some (Defining line)) peer name bytes why is other = absurd is

pub lacks : (number before peers : ℕ) (names : AllNames) (line : List ℕ) (peer : ℕ) (name bytes : List ℕ) → MeansSending number before names peers line (Ok (Sends peer name bytes))
    → Lacks (MeansSending number before names peers line) (is_late_sending (parse_sending before peers line))
lacks number before peers names line peer name bytes is = λ why other. absurd (no_fault number names names.making (parse_sending before peers line) peer name bytes why is other)

-- why a line doesn't send
pub not_sent : (number before peers : ℕ) (names : AllNames) (line : List ℕ) (why : Stop) (old new : List Sent) (code : Names)
    → AsksSending names (MeansSending number before names peers line) (is_late_sending (parse_sending before peers line)) (Err why) code
    → IsSendingOf number before peers names line (Err why) old new code
not_sent number before peers names line (stop.Fault why) old new code is = is.0
not_sent number before peers names line stop.OutOfMemory old new code is = is.0

-- which of the two was answered
pub was_sent : (names : AllNames) (means : Result SendMeaning LineFault → Type 0) (code : Names) (o : Option SendRequest) (asked : SendRequest) → o ≡ Some asked → IsSentOrMade names means o code → IsSent names means asked code
was_sent names means code o asked is answered = subst (λ (x : Option SendRequest). IsSentOrMade names means x code) is answered

pub was_made : (names : AllNames) (means : Result SendMeaning LineFault → Type 0) (code : Names) (o : Option SendRequest) → ((asked : SendRequest) → o ≡ Some asked → ⊥) → IsSentOrMade names means o code → IsMade names means code
was_made names means code None none answered = answered
was_made names means code (Some asked) none answered = absurd (none asked refl)

-- the bytes that a name is bound to
at_some : {X : Type 0} (f : X → List ℕ) (o : Option X) (d : X) (bytes : List ℕ) → option_map f o ≡ Some bytes → f (unwrap_or o d) ≡ bytes
at_some f None d bytes is = cc
at_some f (Some x) d bytes is = same_Some (f x) bytes is

pub bytes_there : {X : Type 0} (f : X → List ℕ) (o : Option X) (d : X) (found : Option Bound) (bound : Bound) → option_map f o ≡ option_map (λ (b : Bound). b.bytes) found → found ≡ Some bound → f (unwrap_or o d) ≡ bound.bytes
bytes_there f o d found bound is there = at_some f o d bound.bytes (is ∙ ap (option_map (λ (b : Bound). b.bytes)) there)

-- a definition is made
pub made : (number before peers : ℕ) (names : AllNames) (line : List ℕ) (old new : List Sent) (code : Names) → IsMade names (MeansSending number before names peers line) code → new ≡ old
    → GoesBehind number before peers names line old new code
made number before peers names line old new code is same = record {
  sent = [];
  mid = is.defined.new;
  sends = record { meaning = Makes is.definition; is_meant = is.is_meant; is_sent = refl; left = is.defined.after };
  behind = same ∙ sym (append-nil old);
  named = is.defined.named;
}

-- the bytes of a name are sent
pub sent : (number before peers : ℕ) (names : AllNames) (line : List ℕ) (old new : List Sent) (code : Names) (asked : SendRequest) (bytes : List ℕ) (is : IsSent names (MeansSending number before names peers line) asked code)
    → bytes ≡ is.bound.bytes → new ≡ old ++ record { peer = asked.peer; bytes = bytes } ∷ [] → GoesBehind number before peers names line old new code
sent number before peers names line old new code asked bytes is same behind = record {
  sent = record { peer = asked.peer; bytes = is.bound.bytes } ∷ [];
  mid = names;
  sends = record { meaning = Sends asked.peer asked.name.text.now is.bound.bytes; is_meant = is.is_meant; is_sent = refl; left = refl };
  behind = behind ∙ ap (λ (b : List ℕ). old ++ record { peer = asked.peer; bytes = b } ∷ []) same;
  named = is.named;
}

-- ---- one line more

lines_more : (number before peers : ℕ) (names : AllNames) (lines : List (List ℕ)) (all : List Sent) (mid : AllNames) (line : List ℕ) (more : List Sent) (new : AllNames) → LinesSend number before peers names lines all mid
    → LineSends (number + length lines) (before + length (concat lines)) peers mid line more new → LinesSend number before peers names (lines ++ line ∷ []) (all ++ more) new
lines_more number before peers names [] all mid line more new (none, same) sends = (
  more,
  [],
  new,
  (let here : LineSends number before peers mid line more new = subst (λ (n : ℕ). LineSends n before peers mid line more new) (omega arith) (subst (λ (n : ℕ). LineSends (number + 0) n peers mid line more new) (omega arith) sends) in
      subst (λ (ns : AllNames). LineSends number before peers ns line more new) same here),
  (refl, refl),
  ap (λ (l : List Sent). l ++ more) none ∙ sym (append-nil more),
)
lines_more number before peers names (l ∷ lines) all mid line more new (first, rest, then_names, one, many, is) sends =
    let long : length (concat (l ∷ lines)) ≡ length l + length (concat lines) = length-append l (concat lines) in
    let here : LineSends ((number + 1) + length lines) ((before + length l) + length (concat lines)) peers mid line more new =
    subst (λ (n : ℕ). LineSends n ((before + length l) + length (concat lines)) peers mid line more new) (omega arith) (subst (λ (n : ℕ). LineSends (number + length (l ∷ lines)) n peers mid line more new) (omega (arith, long)) sends) in (
      first,
      rest ++ more,
      then_names,
      one,
      lines_more (number + 1) (before + length l) peers then_names lines rest mid line more new many here,
      ap (λ (s : List Sent). s ++ more) is ∙ append_assoc first rest more,
    )

-- the lines that were read, from these names on
pub record Goes (peers : ℕ) (names : AllNames) (code : Names) (done : List (List ℕ)) (all : List Sent) : Type 0 where
  pub mid : AllNames
  pub sends : LinesSend 1 0 peers names done all mid
  pub named : AreNamed code mid

-- Before the line of this number: these lines were read, and whatever the names that those of the code stood for at first, the lines send this.
pub record Reads (peers : ℕ) (first code : Names) (all : List Sent) (before number : ℕ) (old_text text : Option (List ℕ)) : Type 0 where
  pub done : List (List ℕ)
  pub size : before ≡ length (concat done)
  pub counted : length done + 1 ≡ number
  pub read : HasRead old_text text done
  pub goes : (names : AllNames) → AreNamed first names → Goes peers names code done all

-- before the first line
pub begun : (peers : ℕ) (code : Names) (text : Option (List ℕ)) → Reads peers code code [] 0 1 text text
begun peers code text = record {
  done = [];
  size = refl;
  counted = refl;
  read = none_read text;
  goes = λ names named. record { mid = names; sends = (refl, refl); named = named };
}

line_here : (number before peers : ℕ) (names : AllNames) (line : List ℕ) (sent : List Sent) (new : AllNames) (done : List (List ℕ)) → LineSends number before peers names line sent new → length done + 1 ≡ number → before ≡ length (concat done)
    → LineSends (1 + length done) (0 + length (concat done)) peers names line sent new
line_here number before peers names line sent new done sends counted size =
    let there : LineSends (1 + length done) before peers names line sent new = subst (λ (n : ℕ). LineSends n before peers names line sent new) (omega (arith, counted)) sends in
    subst (λ (n : ℕ). LineSends (1 + length done) n peers names line sent new) (omega (arith, size)) there

-- what comes of a line, whatever the names that those of the code stand for
abbrev pub AnswersTo : (peers : ℕ) (old new : Names) (before number : ℕ) (line : List ℕ) → Result Unit Stop → (all more : List Sent) → Type 0
AnswersTo peers old new before number line answer all more = (names : AllNames) → AreNamed old names → IsSendingOf number before peers names line answer all more new

-- a line was read and sends
pub stepped : (peers : ℕ) (first old new : Names) (all more : List Sent) (before number : ℕ) (old_text mid_text text : Option (List ℕ)) (line : List ℕ) (done : Unit) (so_far : Reads peers first old all before number old_text mid_text)
    → HasLine old_text text so_far.done line → line ≢ [] → AnswersTo peers old new before number line (Ok done) all more → Reads peers first new more (before + length line) (number + 1) old_text text
stepped peers first old new all more before number old_text mid_text text line done so_far read some said =
    let longer : length (concat (so_far.done ++ line ∷ [])) ≡ length (concat so_far.done) + length line = ap length (concat_more so_far.done line) ∙ length-append (concat so_far.done) line in
    let count : length (so_far.done ++ line ∷ []) ≡ length so_far.done + 1 = length-append so_far.done (line ∷ []) in
    record {
      done = so_far.done ++ line ∷ [];
      size = omega (arith, longer, so_far.size);
      counted = omega (arith, count, so_far.counted);
      read = next_read old_text text so_far.done line some read;
      goes = λ names named.
          let goes = so_far.goes names named in
          let behind = said goes.mid goes.named in
          let here = line_here number before peers goes.mid line behind.sent behind.mid so_far.done behind.sends so_far.counted so_far.size in
          record {
            mid = behind.mid;
            sends = subst (λ (s : List Sent). LinesSend 1 0 peers names (so_far.done ++ line ∷ []) s behind.mid) (sym behind.behind) (lines_more 1 0 peers names so_far.done all goes.mid line behind.sent behind.mid goes.sends here);
            named = behind.named;
          };
    }

-- ---- ends

-- all lines were read
pub ended : (peers : ℕ) (first code : Names) (all : List Sent) (before number : ℕ) (old_text mid_text text : Option (List ℕ)) (line : List ℕ) (told : Option ℕ) (so_far : Reads peers first code all before number old_text mid_text)
    → HasLine old_text text so_far.done line → line ≡ [] → ((names : AllNames) → AreNamed code names → told ≡ option_map (λ (made : OpenTx). made.line) names.making) → ((number : ℕ) → told ≡ Some number → ⊥)
    → (names : AllNames) → AreNamed first names → IfSome old_text (λ t. SendsAll peers names t all)
ended peers first code all before number None mid_text text line told so_far read none is_told open_none = λ names named. tt
ended peers first code all before number (Some t) mid_text text line told so_far (rest, remains, is, lines, whole) none is_told open_none = λ names named.
    let goes = so_far.goes names named in
    record {
      new = goes.mid;
      lines = subst (λ (ls : List (List ℕ)). LinesSend 1 0 peers names ls all goes.mid) (sym (at_end t rest line so_far.done lines is none)) goes.sends;
      ended = no_making goes.mid.making (no_line_told told (option_map (λ (made : OpenTx). made.line) goes.mid.making) (is_told goes.mid goes.named) open_none);
    }

-- all lines were read, and a transaction has no end
pub unended : (peers : ℕ) (first code : Names) (all : List Sent) (before number : ℕ) (old_text mid_text text : Option (List ℕ)) (line : List ℕ) (begun : ℕ) (so_far : Reads peers first code all before number old_text mid_text)
    → HasLine old_text text so_far.done line → line ≡ [] → ((names : AllNames) → AreNamed code names → Some begun ≡ option_map (λ (made : OpenTx). made.line) names.making)
    → (names : AllNames) → AreNamed first names → IfSome old_text (λ t. SendsBy peers names t text (fault.Line begun BadLine))
unended peers first code all before number None mid_text text line begun so_far read none is_told = λ names named. tt
unended peers first code all before number (Some t) mid_text text line begun so_far (rest, remains, is, lines, whole) none is_told = λ names named.
    let goes = so_far.goes names named in
    let making = some_making goes.mid.making begun (is_told goes.mid goes.named) in
    record {
      left = drop_through 10 rest;
      remains = remains;
      is_fault = inr (
        refl,
        nothing_left rest line is none,
        record {
          sent = all;
          new = goes.mid;
          sends = subst (λ (ls : List (List ℕ)). LinesSend 1 0 peers names ls all goes.mid) (sym (at_end t rest line so_far.done lines is none)) goes.sends;
          made = making.0;
          is_made = making.1;
          line = making.2;
        },
      );
    }

-- a line has a fault, or memory ran out in it
pub stopped : (peers : ℕ) (first old new : Names) (all more : List Sent) (before number : ℕ) (old_text mid_text text : Option (List ℕ)) (line : List ℕ) (why : Stop) (so_far : Reads peers first old all before number old_text mid_text)
    → HasLine old_text text so_far.done line → line ≢ [] → AnswersTo peers old new before number line (Err why) all more
    → (names : AllNames) → AreNamed first names → IfSome old_text (λ t. SendsBy peers names t text (fault_of number why))
stopped peers first old new all more before number None mid_text text line why so_far read some said = λ names named. tt
stopped peers first old new all more before number (Some t) mid_text text line (stop.Fault why) so_far (rest, remains, is, lines, whole) some said = λ names named.
    let goes = so_far.goes names named in
    record {
      left = drop_through 10 rest;
      remains = remains;
      is_fault = inl (record {
        before = so_far.done;
        line = line;
        after = lines_of (drop_through 10 rest);
        lines = one_line_more t rest line so_far.done lines is some;
        read = text_behind t rest line so_far.done whole is;
        counted = so_far.counted;
        sent = all;
        mid = goes.mid;
        sends = goes.sends;
        is_fault = subst (λ (n : ℕ). MeansSending number n goes.mid peers line (Err why)) so_far.size (said goes.mid goes.named);
      });
    }
stopped peers first old new all more before number (Some t) mid_text text line stop.OutOfMemory so_far (rest, remains, is, lines, whole) some said = λ names named.
    let goes = so_far.goes names named in
    let Short : ℕ → ℕ → Type 0 = λ n b. Lacks (MeansSending n b goes.mid peers line) (is_late_sending (parse_sending b peers line)) in
    record {
      left = drop_through 10 rest;
      remains = remains;
      is_fault = record {
        reads = record { lines = so_far.done; after = lines_of rest; begins = lines; more = line; piece = subst (λ (l : List ℕ). IsPiece l) (sym is) (line_stops rest); read = text_behind t rest line so_far.done whole is; sent = all; mid = goes.mid; sends = goes.sends };
        has_no_fault = λ content ends. subst (λ (n : ℕ). Short n (length (concat so_far.done))) (sym so_far.counted) (subst (Short number) so_far.size (said goes.mid goes.named));
      };
    }

-- nothing is written
fault_not_written : (part : List ℕ) (why : ScenarioFault) → IsReadFault part why → why ≢ fault.WriteFailed
fault_not_written part why (inl e) = λ w. let bad : fault.ReadFailed ≡ fault.WriteFailed = sym e ∙ w in cc
fault_not_written part why (inr e) = λ w. let bad : fault.OutOfMemory ≡ fault.WriteFailed = sym e.0 ∙ w in cc

pub read_not_written : (old new : Option (List ℕ)) (why : ScenarioFault) → IsNoLine old new why → why ≢ fault.WriteFailed
read_not_written old new why none = fault_not_written none.piece why none.fault

pub stop_not_written : (number : ℕ) (why : Stop) → fault_of number why ≢ fault.WriteFailed
stop_not_written number (stop.Fault why) = λ w. cc
stop_not_written number stop.OutOfMemory = λ w. cc

-- a line wasn't read
abbrev read_up_to : (peers : ℕ) (names : AllNames) (text rest left more : List ℕ) (done : List (List ℕ)) (all : List Sent) (mid : AllNames) → LinesSend 1 0 peers names done all mid → lines_of text ≡ done ++ lines_of rest → text ≡ concat done ++ (more ++ left) → IsPiece more → ReadsUpTo peers names text left
read_up_to peers names text rest left more done all mid sends lines whole piece = record { lines = done; after = lines_of rest; begins = lines; more = more; piece = piece; read = whole; sent = all; mid = mid; sends = sends }

short_of_line : (peers : ℕ) (names : AllNames) (t : List ℕ) (text : Option (List ℕ)) (left : List ℕ) (reads : ReadsUpTo peers names t left) → text ≡ Some left → (why : ScenarioFault) → IsReadFault reads.more why → SendsBy peers names t text why
short_of_line peers names t text left reads remains why is =
    elim is [
      | inl e ↦ subst (λ (w : ScenarioFault). SendsBy peers names t text w) (sym e) (record { left = left; remains = remains; is_fault = reads })
      | inr e ↦ subst (λ (w : ScenarioFault). SendsBy peers names t text w) (sym e.0)
          (record { left = left; remains = remains; is_fault = record { reads = reads; has_no_fault = λ content whole. absurd (e.1 content whole) } })
    ]

not_read_at : (peers : ℕ) (first code : Names) (all : List Sent) (before number : ℕ) (old_text mid_text text : Option (List ℕ)) (part : List ℕ) (so_far : Reads peers first code all before number old_text mid_text) → HasRead old_text mid_text so_far.done → Consumes mid_text text part → IsPiece part
    → (why : ScenarioFault) → IsReadFault part why → (names : AllNames) → AreNamed first names → IfSome old_text (λ t. SendsBy peers names t text why)
not_read_at peers first code all before number None mid_text text part so_far read taken piece why is = λ names named. tt
not_read_at peers first code all before number (Some t) mid_text text part so_far (rest, remains, lines, whole) taken piece why is = λ names named.
    let goes = so_far.goes names named in
    let left = still_left rest part mid_text text remains taken in
    short_of_line peers names t text left.0 (read_up_to peers names t rest left.0 part so_far.done all goes.mid goes.sends lines (whole ∙ ap (λ (l : List ℕ). concat so_far.done ++ l) left.2) piece) left.1 why is

pub not_read : (peers : ℕ) (first code : Names) (all : List Sent) (before number : ℕ) (old_text mid_text text : Option (List ℕ)) (why : ScenarioFault) → Reads peers first code all before number old_text mid_text → IsNoLine mid_text text why
    → (names : AllNames) → AreNamed first names → IfSome old_text (λ t. SendsBy peers names t text why)
not_read peers first code all before number old_text mid_text text why so_far none =
    not_read_at peers first code all before number old_text mid_text text none.piece so_far so_far.read none.read none.is_piece why none.fault
