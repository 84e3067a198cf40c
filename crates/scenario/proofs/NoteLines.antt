-- Lines behind which a note may stand.
use Rattle.std.proofs.Common.{◌≡◌, ℕ, Bool, true, false, List, [], ◌∷◌, ◌++◌, Option, Some, None, Result, Ok, Err, refl, sym, ap, subst, ◌∙◌, append_assoc, append-nil}
use Rattle.model.specs.Block.{Block, SpellsBlock, block_hash_of}
use Rattle.model.specs.Transaction.{Transaction}
use Rattle.model.specs.Ledger.{Network}
use Rattle.model.specs.Rules.{Reason}
use Rattle.model.specs.Mempool as mempool
use Rattle.model.specs.Explaining.{Detail}
use Rattle.model.specs.Asked.{Why, IsWhyOf, ExplainsSubmission}
use Rattle.model.specs.History.{State, Event, Arrive, Submit, Reply, Kept, Submitted, Step, Takes, Keeps, TooLarge, BodyHashMismatch, Entry}
use Rattle.std.specs.Prelude.{IfErr}
use Rattle.std.specs.declared.alloc.AllocError.{AllocError}
use Rattle.block.specs.Read.{IsBadBytes}
use Rattle.block.specs.declared.fault.BadBytes.{BadBytes}
use Rattle.block.specs.declared.fault.BadBytes.TheVariants as bad
use Rattle.utxo_rules.specs.View.{reason_of}
use Rattle.utxo_rules.specs.declared.reason.Reason.{Reason as CodeReason}
use Rattle.mempool.specs.declared.reply.SubmitReply.{SubmitReply as CodeReply}
use Rattle.mempool.specs.declared.reply.SubmitReply.TheVariants as submit
use Rattle.chain_core.specs.declared.arrival.ArriveReply.{ArriveReply as CodeArrival}
use Rattle.chain_core.specs.declared.arrival.ArriveReply.TheVariants as arrive
use Rattle.chain_core.specs.Views.{arrive_reply_of, submit_reply_of}
use Rattle.script.specs.Names.{Binding}
use Rattle.script.specs.Meaning.{Meaning, Defines, Arrives, SubmitsTx, ForgesBlock, OpensFollower, WatchesKeys, TellsFollower, ForwardsFollower, ClosesFollower, DiscardsBlock, PrintsTip, PrintsMempool, PrintsUtxo, PrintsWhy, PrintsWhere, PrintsBalance}
use Rattle.scenario.specs.declared.session.Session.{Session}
use Rattle.scenario.specs.Answers.{why_answer_text}
use Rattle.scenario.specs.Notes.{note_text, told_text, IsNoteOf, IsNote}
use Rattle.scenario.specs.NoteView.{AppendsNote}
use Rattle.scenario.specs.Run.{Scene, Acts, entry}
use Rattle.scenario.specs.SessionView.{Done, Told}

-- ---- lines without one

-- no note is asked for
pub unasked : (network : Network) (names : List Binding) (s : State) (entries : List Entry) (t : State) → IsNote network false names s entries t []
unasked network names s entries t = refl

-- a line that has no event, or one on which there is no note
abbrev pub IsQuiet : Meaning → Type 0
IsQuiet (Arrives form name bytes) = ⊥
IsQuiet (SubmitsTx name tx) = ⊥
IsQuiet meaning = Unit {0}

no_entry : (network : Network) (names : List Binding) (s : State) (entries : List Entry) (t : State) → entries ≡ [] → IsNote network true names s entries t []
no_entry network names s entries t none = subst (λ (es : List Entry). IsNote network true names s es t []) (sym none) refl

one_entry : (network : Network) (names : List Binding) (s : State) (entries es : List Entry) (t : State) → entries ≡ es → IsNote network true names s es t [] → IsNote network true names s entries t []
one_entry network names s entries es t is none = subst (λ (xs : List Entry). IsNote network true names s xs t []) (sym is) none

quiet_line : (network : Network) (s : Scene) (meaning : Meaning) (out : List ℕ) (entries : List Entry) (t : Scene) → IsQuiet meaning → Acts network s meaning out entries t → IsNote network true t.names.of_bytes s.state entries t.state []
quiet_line network s (Defines what) out entries t quiet (printed, none, same, named, stays) = no_entry network t.names.of_bytes s.state entries t.state none
quiet_line network s (Arrives form name bytes) out entries t quiet acts = absurd quiet
quiet_line network s (SubmitsTx name tx) out entries t quiet acts = absurd quiet
quiet_line network s (ForgesBlock name slot) out entries t quiet (answer, forged, printed, none) = no_entry network t.names.of_bytes s.state entries t.state none
quiet_line network s (OpensFollower name) out entries t quiet (reply, opened, printed, is) = one_entry network t.names.of_bytes s.state entries _ t.state is refl
quiet_line network s (WatchesKeys name keys) out entries t quiet (reply, opened, printed, is) = one_entry network t.names.of_bytes s.state entries _ t.state is refl
quiet_line network s (TellsFollower name id) out entries t quiet (reply, told, line, is_line, more, is_more, printed, is) = one_entry network t.names.of_bytes s.state entries _ t.state is refl
quiet_line network s (ForwardsFollower name id points) out entries t quiet (reply, forwarded, printed, is) = one_entry network t.names.of_bytes s.state entries _ t.state is refl
quiet_line network s (ClosesFollower name id) out entries t quiet (reply, closed, printed, is) = one_entry network t.names.of_bytes s.state entries _ t.state is refl
quiet_line network s (DiscardsBlock name hash) out entries t quiet (reply, discarded, printed, is) = one_entry network t.names.of_bytes s.state entries _ t.state is refl
quiet_line network s PrintsTip out entries t quiet (printed, none, same) = no_entry network t.names.of_bytes s.state entries t.state none
quiet_line network s PrintsMempool out entries t quiet (printed, none, same) = no_entry network t.names.of_bytes s.state entries t.state none
quiet_line network s PrintsUtxo out entries t quiet (ledger, folded, printed, none, same) = no_entry network t.names.of_bytes s.state entries t.state none
quiet_line network s (PrintsWhy name hash) out entries t quiet (why, is_why, printed, none, same) = no_entry network t.names.of_bytes s.state entries t.state none
quiet_line network s (PrintsWhere name id) out entries t quiet (place, is_place, printed, none, same) = no_entry network t.names.of_bytes s.state entries t.state none
quiet_line network s (PrintsBalance owner address) out entries t quiet (ledger, folded, printed, none, same) = no_entry network t.names.of_bytes s.state entries t.state none

no_note : (network : Network) (explain : Bool) (s : Scene) (meaning : Meaning) (out : List ℕ) (entries : List Entry) (t : Scene) → IsQuiet meaning → Acts network s meaning out entries t → IsNote network explain t.names.of_bytes s.state entries t.state []
no_note network false s meaning out entries t quiet acts = unasked network t.names.of_bytes s.state entries t.state
no_note network true s meaning out entries t quiet acts = quiet_line network s meaning out entries t quiet acts

-- nothing more is told of what was done
pub nothing_more : {S : Type 0} (network : Network) (explain : Bool) (s : Scene) (meaning : Meaning) (out : List ℕ) (new : Session S) → IsQuiet meaning → Done network s meaning out new → Told network explain s meaning out new
nothing_more network explain s meaning out new quiet done = record {
  text = out;
  done = done;
  note = [];
  is_note = no_note network explain s meaning out done.entries done.scene quiet done.acts;
  printed = sym (append-nil out);
}

-- a note on the event of a line stands behind its text
pub noted : (network : Network) (explain : Bool) (names : List Binding) (s t : State) (event : Event) (reply : Reply) (mid text new : List ℕ) → explain ≡ true → mid ≡ text → AppendsNote mid new (IsNoteOf network names s event reply t) → AppendsNote text new (IsNote network explain names s (entry event reply) t)
noted network explain names s t event reply mid text new asked same note = record {
  note = note.note;
  is_note = subst (λ (b : Bool). IsNote network b names s (entry event reply) t note.note) (sym asked) note.is_note;
  behind = note.behind ∙ ap (λ (xs : List ℕ). xs ++ note.note) same;
}

-- or nothing does, where no note is asked for
pub not_noted : (network : Network) (explain : Bool) (names : List Binding) (s t : State) (entries : List Entry) (text new : List ℕ) → explain ≡ false → new ≡ text → AppendsNote text new (IsNote network explain names s entries t)
not_noted network explain names s t entries text new unwanted same = record {
  note = [];
  is_note = subst (λ (b : Bool). IsNote network b names s entries t []) (sym unwanted) (unasked network names s entries t);
  behind = same ∙ sym (append-nil text);
}

-- ---- notes on submissions

-- a refusal leaves the state as it was
still_refused : (network : Network) (s t : State) (bytes : List ℕ) (reason : Reason) → Takes network s bytes (mempool.Refused reason) t → t ≡ s
still_refused network s t bytes reason takes = takes.after ∙ ap (λ (txs : List Transaction). record s { mempool = txs }) takes.submits.mempool

-- what would be said against a transaction that was refused is said
pub refused_so : (network : Network) (names : List Binding) (s t : State) (bytes old new : List ℕ) (reason : Reason) (told : Option Detail) → Takes network s bytes (mempool.Refused reason) t → ExplainsSubmission network t bytes told → new ≡ old ++ told_text told
    → AppendsNote old new (IsNoteOf network names s (Submit bytes) (Submitted (mempool.Refused reason)) t)
refused_so network names s t bytes old new reason (Some detail) takes explains is =
    let same = still_refused network s t bytes reason takes in
    record { note = told_text (Some detail); is_note = (detail, subst (λ (u : State). ExplainsSubmission network u bytes (Some detail)) same explains, refl); behind = is }
refused_so network names s t bytes old new reason None takes explains is =
    let same = still_refused network s t bytes reason takes in
    absurd (subst (λ (u : State). ExplainsSubmission network u bytes None) same explains reason takes.mempool takes.submits)

-- ---- notes on arrivals

-- nothing was put on, and why is said
pub kept_so : (network : Network) (names : List Binding) (s t : State) (bytes old new : List ℕ) (back : ℕ)
    → (b : Block) × SpellsBlock b bytes × ((why : Why) × IsWhyOf network t (block_hash_of b) why × (new ≡ old ++ note_text (why_answer_text names why)))
    → AppendsNote old new (IsNoteOf network names s (Arrive bytes) (Kept back 0) t)
kept_so network names s t bytes old new back (b, spells, (why, is_why, is)) = record { note = note_text (why_answer_text names why); is_note = (b, spells, (why, is_why, refl)); behind = is }

-- bytes that were kept are no bad ones
pub never_bad : (network : Network) (s t : State) (bytes : List ℕ) (back added : ℕ) (why : BadBytes) → IsBadBytes bytes why → Keeps network s bytes back added t → ⊥
never_bad network s t bytes back added bad.TooLarge is kept = kept.not_refused TooLarge is
never_bad network s t bytes back added bad.Malformed is kept = is.no_block kept.block kept.read
never_bad network s t bytes back added bad.BodyHashMismatch is kept = kept.not_refused BodyHashMismatch (is.block, is.read, is.body)

-- where bytes are no block they were not kept
pub never_default : {B : Type 0} (network : Network) (s t : State) (bytes : List ℕ) (back added : ℕ) (found : Result B BadBytes) → ((b : B) → found ≡ Ok b → ⊥) → IfErr found (λ why. IsBadBytes bytes why) → Keeps network s bytes back added t → ⊥
never_default network s t bytes back added (Ok b) other is kept = other b refl
never_default network s t bytes back added (Err why) other is kept = never_bad network s t bytes back added why is kept

-- ---- what is appended

-- the bytes of a note, in three parts
pub note_behind : (old begun told_so_far new told : List ℕ) → begun ≡ old ++ 35 ∷ 32 ∷ [] → told_so_far ≡ begun ++ told → new ≡ told_so_far ++ 10 ∷ [] → new ≡ old ++ note_text told
note_behind old begun told_so_far new told is_begun is_told is_new =
    is_new ∙ ap (λ (xs : List ℕ). xs ++ 10 ∷ []) (is_told ∙ ap (λ (xs : List ℕ). xs ++ told) is_begun)
    ∙ append_assoc (old ++ 35 ∷ 32 ∷ []) told (10 ∷ []) ∙ append_assoc old (35 ∷ 32 ∷ []) (told ++ 10 ∷ [])

-- a submission was refused for a reason
pub submission_noted : (network : Network) (names : List Binding) (s t : State) (bytes old new : List ℕ) (reply : Result CodeReply AllocError) (inner : CodeReply) (reason : CodeReason) (told : Option Detail) → reply ≡ Ok inner → inner ≡ submit.Refused reason
    → Step network s (Submit bytes) (submit_reply_of reply) t → ExplainsSubmission network t bytes told → new ≡ old ++ told_text told → AppendsNote old new (IsNoteOf network names s (Submit bytes) (submit_reply_of reply) t)
submission_noted network names s t bytes old new reply inner reason told is inner_is step explains behind =
    let whole : reply ≡ Ok (submit.Refused reason) = is ∙ ap Ok inner_is in
    subst (λ (r : Result CodeReply AllocError). AppendsNote old new (IsNoteOf network names s (Submit bytes) (submit_reply_of r) t)) (sym whole)
    (refused_so network names s t bytes old new (reason_of reason) told (subst (λ (r : Result CodeReply AllocError). Step network s (Submit bytes) (submit_reply_of r) t) whole step) explains behind)

-- if bytes were kept, it is told why their block isn't selected
abbrev pub TellsWhy : Network → List Binding → (s t : State) → (bytes old new : List ℕ) → Type 0
TellsWhy network names s t bytes old new = (back added : ℕ) → Step network s (Arrive bytes) (Kept back added) t → (b : Block) × SpellsBlock b bytes
    × ((why : Why) × IsWhyOf network t (block_hash_of b) why × (new ≡ old ++ note_text (why_answer_text names why)))

-- bytes were kept, and nothing was put on
pub arrival_noted : (network : Network) (names : List Binding) (s t : State) (bytes old new : List ℕ) (reply : Result CodeArrival AllocError) (inner : CodeArrival) (back added : ℕ) → reply ≡ Ok inner → inner ≡ arrive.Kept back added → added ≡ 0
    → Step network s (Arrive bytes) (arrive_reply_of reply) t → TellsWhy network names s t bytes old new → AppendsNote old new (IsNoteOf network names s (Arrive bytes) (arrive_reply_of reply) t)
arrival_noted network names s t bytes old new reply inner back added is inner_is none step said =
    let whole : reply ≡ Ok (arrive.Kept back 0) = is ∙ ap Ok (inner_is ∙ ap (λ (n : ℕ). arrive.Kept back n) none) in
    subst (λ (r : Result CodeArrival AllocError). AppendsNote old new (IsNoteOf network names s (Arrive bytes) (arrive_reply_of r) t)) (sym whole)
    (kept_so network names s t bytes old new back (said back 0 (subst (λ (r : Result CodeArrival AllocError). Step network s (Arrive bytes) (arrive_reply_of r) t) whole step)))
