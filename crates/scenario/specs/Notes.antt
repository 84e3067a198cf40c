-- What is told behind a line that refuses a transaction or puts no block on the chain, where that is asked for.
use Rattle.std.specs.Prelude.{◌≡◌, ℕ, zero, Bool, true, false, List, [], ◌∷◌, ◌++◌, Option, Some, None, codes}
use Rattle.model.specs.Block.{block_hash_of}
use Rattle.model.specs.Ledger.{Network}
use Rattle.model.specs.Mempool as mempool
use Rattle.model.specs.History.{State, Event, Arrive, Submit, Reply, Kept, Submitted, Entry, IsBlockWith}
use Rattle.model.specs.Explaining.{Detail}
use Rattle.model.specs.Asked.{Why, IsWhyOf, ExplainsSubmission}
use Rattle.utxo_rules.specs.Sentences.{detail_text}
use Rattle.script.specs.Names.{Binding}
use Rattle.scenario.specs.Answers.{why_answer_text}

-- a line that tells this
abbrev pub note_text : List ℕ → List ℕ
note_text told = codes "# " ++ (told ++ 10 ∷ [])

-- a line that tells this detail, if there is one
abbrev pub told_text : Option Detail → List ℕ
told_text None = []
told_text (Some detail) = note_text (detail_text detail)

-- NOTE ON AN EVENT (this project's own)
-- Of a transaction that was refused for a reason: what the reason is about, at the state before. Of a block that was
-- kept where nothing was put on the chain: why it isn't selected, at the state after, with these names of blocks.
abbrev pub IsNoteOf : Network → List Binding → (before : State) → Event → Reply → (after : State) → (note : List ℕ)
    → Type 0
IsNoteOf network names s (Submit bytes) (Submitted (mempool.Refused reason)) t note =
    (detail : Detail) × ExplainsSubmission network s bytes (Some detail) × (note ≡ note_text (detail_text detail))
IsNoteOf network names s (Arrive bytes) (Kept back zero) t note =
    IsBlockWith bytes (λ b. (why : Why) × IsWhyOf network t (block_hash_of b) why
    × (note ≡ note_text (why_answer_text names why)))
-- there is none on any other
IsNoteOf network names s event reply t note = note ≡ []

-- The note behind a line with these events, of which a line has at most one; there is none where none is asked for.
abbrev pub IsNote : Network → (explain : Bool) → List Binding → (before : State) → List Entry → (after : State)
    → (note : List ℕ) → Type 0
IsNote network false names s entries t note = note ≡ []
IsNote network true names s (e ∷ []) t note = IsNoteOf network names s e.event e.reply t note
IsNote network true names s entries t note = note ≡ []
