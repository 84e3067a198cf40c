-- What a caller knows after what: calls, looks and questions, one after the other.
use Rattle.std.proofs.Common.{◌≡◌, ℕ, subst, sym}
use Rattle.model.specs.Ledger.{Network}
use Rattle.model.specs.Follower.{Stay}
use Rattle.model.specs.History.{State, Event, Next, Reply, Kept, Refused, Submitted, Opened, TooManyFollowers, Instructed, Forwarded, Closed, UnknownFollower, Discarded, NotBeside, OutOfMemory}
use Rattle.model.specs.Journal.{Knowledge, IsLook}
use Rattle.shared.specs.Asking.{IsAsked}
use Rattle.shared.specs.Answers.{IsAnswered}
use Rattle.shared.specs.Entries.{call_by}
use Rattle.shared.specs.Later.{IsLater, Same, Called, Looked}
use Rattle.serving.specs.Following.{HasIdled, NotYet, Again}

-- where nothing changed
pub same_later : (network : Network) (a b c : Knowledge) → IsLater network a b → c ≡ b → IsLater network a c
same_later network a b c before e = subst (λ (k : Knowledge). IsLater network a k) (sym e) before

-- after a question
pub asked_later : (network : Network) (a b c : Knowledge) (says : State → Type 0) → IsLater network a b → IsAsked network b c says → IsLater network a c
asked_later network a b c says before step = Looked a b c step.height before step.look

-- after a call, whatever was answered
pub answered_later : (network : Network) (a b c : Knowledge) (event : Event) (reply : Reply) → IsLater network a b → IsAnswered network b event reply c → IsLater network a c
answered_later network a b c event OutOfMemory before step = same_later network a b c before step
answered_later network a b c event (Kept back added) before step = Called a b c (call_by b.caller event (Kept back added)) before step
answered_later network a b c event (Refused refusal) before step = Called a b c (call_by b.caller event (Refused refusal)) before step
answered_later network a b c event (Submitted answer) before step = Called a b c (call_by b.caller event (Submitted answer)) before step
answered_later network a b c event (Opened id) before step = Called a b c (call_by b.caller event (Opened id)) before step
answered_later network a b c event TooManyFollowers before step = Called a b c (call_by b.caller event TooManyFollowers) before step
answered_later network a b c event (Instructed instruction) before step = Called a b c (call_by b.caller event (Instructed instruction)) before step
answered_later network a b c event (Forwarded found) before step = Called a b c (call_by b.caller event (Forwarded found)) before step
answered_later network a b c event Closed before step = Called a b c (call_by b.caller event Closed) before step
answered_later network a b c event UnknownFollower before step = Called a b c (call_by b.caller event UnknownFollower) before step
answered_later network a b c event Discarded before step = Called a b c (call_by b.caller event Discarded) before step
answered_later network a b c event NotBeside before step = Called a b c (call_by b.caller event NotBeside) before step

-- after a while in which nothing was due
pub idled_later : (network : Network) (id : ℕ) (a b : Knowledge) → HasIdled network id a b → IsLater network a b
idled_later network id _ _ (NotYet a) = Same a
idled_later network id _ _ (Again a b c d height before look call) =
    Called a c d (call_by c.caller (Next id) (Instructed Stay)) (Looked a b c height (idled_later network id a b before) look) call

-- when it looked once more and asked
pub due_later : (network : Network) (id : ℕ) (a b c d : Knowledge) (height : ℕ) (reply : Reply) → HasIdled network id a b → IsLook network b height c → IsAnswered network c (Next id) reply d → IsLater network a d
due_later network id a b c d height reply idle look answered =
    answered_later network a c d (Next id) reply (Looked a b c height (idled_later network id a b idle) look) answered
