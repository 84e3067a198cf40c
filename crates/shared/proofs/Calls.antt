-- What the steps of a caller's seat say of what its caller knows.
use Rattle.std.proofs.Common.{◌≡◌, ◌≢◌, List, [], ◌∷◌, ◌++◌, length, refl, sym, ap, ◌∙◌, subst, ℕ, Option, Result, Ok, Err}
use Rattle.std.proofs.lemmas.List.{map-append}
use Rattle.model.specs.Signature.{Verifies}
use Rattle.model.specs.Ledger.{Network}
use Rattle.shared.specs.Starts.{Start, network_from, start_of}
use Rattle.model.specs.Chain.{IsOpening}
use Rattle.model.specs.History.{State, Event, Reply, OutOfMemory, Entry, opening, Step, IsLegal}
use Rattle.model.specs.Journal.{JournalEntry, Journal, history_of, calls_of, Knowledge, NamesItsPeer, IsLegalJournal, IsCalled, IsLook}
use Rattle.std.specs.List.{AllByRecursion}
use Rattle.model.proofs.Lists.{all_push}
use Rattle.model.proofs.LegalHistories.{run_length}
use Rattle.model.proofs.ToldChains.{run_on}
use Rattle.chain_core.specs.Held.{Held, Stands, opening_held}
use Rattle.chain_core.specs.Steps.{Steps, KeepsStart}
use Rattle.chain_core.specs.Views.{next_reply_of}
use Rattle.chain_core.specs.declared.follower.Instruction.{Instruction}
use Rattle.chain_core.specs.declared.follower.NextFault.{NextFault}
use Rattle.chain_core.specs.declared.follower.NextFault.TheVariants as fault
use Rattle.chain_core.proofs.ForCallers.{opening_stands as new_stands}
use Rattle.shared.specs.Heights.{Role, Calls, Spent, SeatView, height_after, KnowsCalls, IsLooked, knowledge_of}
use Rattle.shared.specs.Sealing.{IsSealed}
use Rattle.shared.specs.Entries.{call_by}
use Rattle.shared.specs.Answers.{IsAnswered, IsJournaled}
use Rattle.shared.specs.Standing.{IsCoreOf}

-- a journal without entries
pub nothing_legal : (network : Network) → IsLegalJournal network []
nothing_legal network = record { state = opening network; legal = refl; named = tt }

-- a core to which nothing came stands for the opening state
pub opening_stands : (verifies : Verifies) (held : Held) → held ≡ opening_held held.genesis held.opened → IsOpening (network_from (start_of held) verifies) → Stands held (opening (network_from (start_of held) verifies))
opening_stands verifies held new opens =
    let network = network_from (start_of held) verifies in
    subst (λ (h : Held). Stands h (opening network)) (sym new) (new_stands network opens)

-- one more entry, which is a step from where the journal ends
pub legal_on : (network : Network) (journal : Journal) (s : State) (e : JournalEntry) (t : State) → IsLegal network (history_of journal) s → Step network s e.entry.event e.entry.reply t
    → IsLegal network (history_of (journal ++ e ∷ [])) t
legal_on network journal s e t legal step =
    subst (λ (es : List Entry). IsLegal network es t) (sym (map-append (λ (x : JournalEntry). x.entry) journal (e ∷ [])))
    (run_on network (opening network) (history_of journal) s e.entry t legal step)

-- the height is the length of the chain
pub height_of_legal : (start : Start) (verifies : Verifies) (journal : Journal) (s : State) → IsLegal (network_from start verifies) (history_of journal) s → height_after start journal ≡ length s.chain
height_of_legal start verifies journal s legal = let network = network_from start verifies in sym (run_length network (opening network) (history_of journal) s legal)

-- ---- a look

pub serves_calls : (number : ℕ) (role : Role) → role ≡ Calls number → role ≡ Spent → ⊥
serves_calls number role calls spent = let e : Calls number ≡ Spent = sym calls ∙ spent in absurd (cc)

pub look_of : (verifies : Verifies) (start : Start) (number : ℕ) (v : SeatView) (found : ℕ) (w : SeatView) → v.start ≡ start → v.role ≡ Calls number → IsLooked verifies v found w
    → IsLook (network_from start verifies) (knowledge_of number v) found (knowledge_of number w)
look_of verifies start number v found w is role looked =
    let legal : IsLegalJournal (network_from start verifies) w.seen = subst (λ (g : Start). IsLegalJournal (network_from g verifies) w.seen) is looked.legal in
    let calls : v.calls ≡ w.calls = sym (ap (λ (u : SeatView). u.calls) looked.same) in
    record {
      seen = looked.seen;
      legal = legal;
      height_is = looked.height_is ∙ (ap (λ (x : Start). height_after x w.seen) is ∙ height_of_legal start verifies w.seen legal.state legal.legal);
      loads = ap (λ (u : SeatView). u.loads) looked.same;
      last = ap (λ (u : SeatView). u.last) looked.same;
      caller = refl;
      calls = sym calls;
      each_once = subst (λ (r : Role). KnowsCalls r w.seen v.calls) role looked.calls ∙ calls;
    }

-- ---- a call

pub call_of : (verifies : Verifies) (start : Start) (number : ℕ) (writer : SeatView) (e : JournalEntry) (v w : SeatView) → v.start ≡ start → e.caller ≡ number → IsLegalJournal (network_from start verifies) (writer.seen ++ e ∷ []) → IsSealed writer e v w
    → IsCalled (network_from start verifies) (knowledge_of number v) e (knowledge_of number w)
call_of verifies start number writer e v w here own legal sealed =
    let seen : w.seen ≡ writer.seen ++ e ∷ [] = ap (λ (u : SeatView). u.seen) sealed.same in
    record {
      own = own;
      between = sealed.begins.0;
      seen = seen ∙ ap (λ (j : Journal). j ++ e ∷ []) sealed.begins.1;
      legal = subst (IsLegalJournal (network_from start verifies)) (sym seen) legal;
      calls = ap (λ (u : SeatView). u.calls) sealed.same;
      each_once = subst (λ (c : ℕ). calls_of c w.seen ≡ w.calls) own sealed.calls;
      caller = refl;
      loads = ap (λ (u : SeatView). u.loads) sealed.same;
      last = ap (λ (u : SeatView). u.last) sealed.same ∙ (λ i. height_after (here i) (sealed.begins.1 i));
    }

-- ---- the core under the lock

-- a step of the core, and the journal with one more call
pub core_after : (verifies : Verifies) (start : Start) (journal now : Journal) (held new : Held) (made e : JournalEntry) → IsCoreOf verifies start journal held → now ≡ journal → Steps verifies held made.entry.event made.entry.reply new → KeepsStart held new → NamesItsPeer made → e ≡ made
    → IsCoreOf verifies start (now ++ e ∷ []) new
core_after verifies start journal now held new made e core same steps keeps names is =
    let step = steps core.state core.stands in
    let network = network_from start verifies in
    let legal = legal_on network journal core.state made step.0 core.legal (subst (λ (n : Network). Step n core.state made.entry.event made.entry.reply step.0) (λ i. network_from (core.start_is i) verifies) step.1) in
    record {
      start_is = (λ i. record { genesis = keeps.genesis i; opened = keeps.opened i }) ∙ core.start_is;
      opens = core.opens;
      state = step.0;
      legal = subst (λ (x : Journal × JournalEntry). IsLegal network (history_of (x.0 ++ x.1 ∷ [])) step.0) (λ i. (sym same i, sym is i)) legal;
      named = subst (λ (x : Journal × JournalEntry). AllByRecursion NamesItsPeer (x.0 ++ x.1 ∷ [])) (λ i. (sym same i, sym is i)) (all_push NamesItsPeer journal made core.named names);
      stands = step.2;
    }

-- what a seat that has seen all but the last call may store
pub legal_of : (verifies : Verifies) (key start : Start) (journal seen : Journal) (e : JournalEntry) (held : Held) → IsCoreOf verifies start (journal ++ e ∷ []) held → key ≡ start → seen ≡ journal → IsLegalJournal (network_from key verifies) (seen ++ e ∷ [])
legal_of verifies key start journal seen e held core is same =
    subst (λ (x : Start × Journal). IsLegalJournal (network_from x.0 verifies) (x.1 ++ e ∷ [])) (λ i. (sym is i, sym same i)) (record { state = core.state; legal = core.legal; named = core.named })

pub height_of_core : (verifies : Verifies) (start : Start) (journal seen : Journal) (e : JournalEntry) (held : Held) (height : ℕ) → IsCoreOf verifies start (journal ++ e ∷ []) held → height ≡ length held.chain → seen ≡ journal → height ≡ height_after start (seen ++ e ∷ [])
height_of_core verifies start journal seen e held height core is same =
    is ∙ ap length core.stands.chain ∙ sym (height_of_legal start verifies (journal ++ e ∷ []) core.state core.legal) ∙ ap (λ (j : Journal). height_after start (j ++ e ∷ [])) (sym same)

-- ---- what a call leaves, by an answer that isn't OutOfMemory

pub answered_as : (network : Network) (before : Knowledge) (event : Event) (reply written : Reply) (e : JournalEntry) (after : Knowledge) → reply ≢ OutOfMemory → reply ≡ written → e ≡ call_by before.caller event written → IsCalled network before e after → IsAnswered network before event reply after
answered_as network before event reply written e after enough same is called =
    told reply enough (subst (λ (x : JournalEntry). IsCalled network before x after) (is ∙ ap (call_by before.caller event) (sym same)) called)
  where
    told : (r : Reply) → r ≢ OutOfMemory → IsCalled network before (call_by before.caller event r) after → IsAnswered network before event r after
    told OutOfMemory some made = absurd (some refl)
    told r some made = made

pub journaled_as : (old now : Journal) (caller : ℕ) (event : Event) (reply written : Reply) (e : JournalEntry) (new : Journal) → reply ≢ OutOfMemory → reply ≡ written → e ≡ call_by caller event written → now ≡ old → new ≡ now ++ e ∷ [] → IsJournaled old caller event reply new
journaled_as old now caller event reply written e new enough same is still pushed =
    told reply enough (pushed ∙ (λ i. still i ++ (is ∙ ap (call_by caller event) (sym same)) i ∷ []))
  where
    told : (r : Reply) → r ≢ OutOfMemory → new ≡ old ++ call_by caller event r ∷ [] → IsJournaled old caller event r new
    told OutOfMemory some made = absurd (some refl)
    told r some made = made

-- what a follower is told is OutOfMemory only where it is that fault
pub want_is : {S : Type 0} (answer : Result (Option (Instruction S)) NextFault) → next_reply_of answer ≡ OutOfMemory → answer ≡ Err fault.OutOfMemory
want_is (Ok told) e = absurd (cc)
want_is (Err fault.UnknownFollower) e = absurd (cc)
want_is (Err fault.OutOfMemory) e = refl
