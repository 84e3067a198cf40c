-- What lies under the lock.
use Rattle.atomic_table.specs.Seated.{TableId}
use Rattle.model.specs.Signature.{Verifies}
use Rattle.shared.specs.Starts.{Start}
use Rattle.model.specs.Journal.{Journal}
use Rattle.shared.specs.Standing.{IsCoreOf, IsWriterOf}
use Rattle.shared.specs.declared.journal.Journal.TheInside as code_journal
use Rattle.shared.specs.declared.desk.Desk.TheInside.{Inside}

-- the journal is what the seat with the right to write has seen
abbrev pub journal_view : {B : Type 0} → code_journal.Inside B → Journal
journal_view a = a.writer.me.0.seen

abbrev pub IsJournalOf : {B : Type 0} → TableId → code_journal.Inside B → Type 0
IsJournalOf name a = IsWriterOf name a.writer

abbrev pub desk_view : {S B : Type 0} → Inside S B → Journal
desk_view a = a.journal

-- THE LOCK KEEPS: the journal is legal, and the core is its state; and the seat that has the right to write has seen
-- the whole journal.
abbrev pub IsDeskOf : {S B : Type 0} → Verifies → Start → Inside S B → Type 0
IsDeskOf verifies start a = IsCoreOf verifies start a.journal a.core
