-- What arrivals stand in journals.
use Rattle.std.proofs.Common.{◌≡◌, ℕ, List, [], ◌∷◌, ◌++◌, Result, Ok, Err, refl, ap, ◌∙◌, append-nil}
use Rattle.std.specs.Prelude.{IfOk, OnOk, OnErr}
use Rattle.std.proofs.lemmas.Grind.{flat_map-append}
use Rattle.model.specs.Ledger.{Network}
use Rattle.model.specs.History.{Event, Reply, OutOfMemory}
use Rattle.model.specs.Journal.{JournalEntry, Journal, Knowledge, IsCalled, IsLook}
use Rattle.inbox.specs.Arrivals.{Arrival}
use Rattle.shared.specs.Arrivals.{arrival_in, arrivals_in}
use Rattle.shared.specs.Entries.{call_by}
use Rattle.shared.specs.Answers.{IsAnswered}

pub arrivals_push : (journal : Journal) (e : JournalEntry) → arrivals_in (journal ++ e ∷ []) ≡ arrivals_in journal ++ arrival_in e
arrivals_push journal e = flat_map-append arrival_in journal (e ∷ []) ∙ ap (λ (l : List Arrival). arrivals_in journal ++ l) (append-nil (arrival_in e))

-- ---- a caller of whose calls none is an arrival

pub quiet_called : (network : Network) (before after : Knowledge) (e : JournalEntry) → IsCalled network before e after → arrival_in e ≡ [] → arrivals_in before.calls ≡ [] → arrivals_in after.calls ≡ []
quiet_called network before after e is none quiet =
    ap arrivals_in is.calls ∙ (arrivals_push before.calls e ∙ (λ i. quiet i ++ none i))

pub quiet_answered : (network : Network) (before : Knowledge) (event : Event) (reply : Reply) (after : Knowledge) → IsAnswered network before event reply after → arrivals_in before.calls ≡ [] → arrivals_in after.calls ≡ []
quiet_answered network before event OutOfMemory after is quiet = ap (λ (k : Knowledge). arrivals_in k.calls) is ∙ quiet
quiet_answered network before event reply after is quiet = quiet_called network before after (call_by before.caller event reply) is refl quiet

pub quiet_looked : {T E : Type 0} (network : Network) (before after : Knowledge) (height : ℕ) (result : Result T E) → OnOk result (IsLook network before height after) → OnErr result (after ≡ before) → arrivals_in before.calls ≡ [] → arrivals_in after.calls ≡ []
quiet_looked network before after height (Ok r) look same quiet = ap arrivals_in look.calls ∙ quiet
quiet_looked network before after height (Err e) look same quiet = ap (λ (k : Knowledge). arrivals_in k.calls) same ∙ quiet

pub quiet_if : {T E : Type 0} (network : Network) (before after : Knowledge) (event : Event) (reply : T → Reply) (result : Result T E) → IfOk result (λ r. IsCalled network before (call_by before.caller event (reply r)) after) → OnErr result (after ≡ before)
    → arrivals_in before.calls ≡ [] → arrivals_in after.calls ≡ []
quiet_if network before after event reply (Ok r) is same quiet = quiet_called network before after (call_by before.caller event (reply r)) is refl quiet
quiet_if network before after event reply (Err e) is same quiet = ap (λ (k : Knowledge). arrivals_in k.calls) same ∙ quiet
