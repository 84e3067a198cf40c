-- THIS FILE MAY BE SKIPPED: as `Codes`, of events, replies and the journal.
use Rattle.std.specs.Prelude.{◌≡◌, ℕ, zero, suc, ◌-◌, List, [], get_or, Option, None}
use mathlib.Core.Path.{refl}
use Rattle.std.specs.Coded.{Coded, coded_ℕ, coded_list, coded×, coded_option, code_by}
use Rattle.model.specs.Rules.{Reason, reason_number, reasons, OutsideInterval, NoInputs, TooBig, FeeTooSmall}
use Rattle.model.specs.Rules.{MissingInput, OutputTooSmall, WrongNetwork, NotBalanced, OutputExists, BadSignature}
use Rattle.model.specs.Rules.{MissingKeyWitness, MissingScript, ExtraScript, ScriptFails}
use Rattle.model.specs.Mempool.{SubmitReply, Added}
use Rattle.model.specs.Mempool as submission
use Rattle.model.specs.Chain.{Point}
use Rattle.model.specs.Follower.{Instruction, Stay, AddBlock, RollBack}
use Rattle.model.specs.History.{Refusal, TooLarge, Event, Arrive, Submit, Open, Next, Forward, Close, Discard, Reply}
use Rattle.model.specs.History.{Kept, Refused, Submitted, Opened, TooManyFollowers, Instructed, Forwarded, Closed}
use Rattle.model.specs.History.{UnknownFollower, Discarded, NotBeside, OutOfMemory, Entry}
use Rattle.model.specs.Journal.{JournalEntry, Journal, Knowledge}
use Rattle.model.specs.Codes.{coded_bytes, coded_refusal}

-- a place on a chain
abbrev pub coded_point : Coded Point
coded_point =
    code_by (ℕ × List ℕ) (coded× coded_ℕ coded_bytes) (λ p. (p.number, p.hash))
    (λ p. record { number = p.0; hash = p.1 }) (λ _. refl)

-- an event as a number, bytes, an id and points, and back
abbrev pub EventFields : Type 0
EventFields = ℕ × (List ℕ × (ℕ × List Point))

abbrev pub fields_of_event : Event → EventFields
fields_of_event (Arrive bytes) = (0, (bytes, (0, [])))
fields_of_event Open = (1, ([], (0, [])))
fields_of_event (Next id) = (2, ([], (id, [])))
fields_of_event (Submit bytes) = (3, (bytes, (0, [])))
fields_of_event (Forward id points) = (4, ([], (id, points)))
fields_of_event (Close id) = (5, ([], (id, [])))
fields_of_event (Discard hash) = (6, (hash, (0, [])))

abbrev pub event_at : ℕ → List ℕ → ℕ → List Point → Event
event_at zero bytes id points = Arrive bytes
event_at (suc zero) bytes id points = Open
event_at (suc (suc zero)) bytes id points = Next id
event_at (suc (suc (suc zero))) bytes id points = Submit bytes
event_at (suc (suc (suc (suc zero)))) bytes id points = Forward id points
event_at (suc (suc (suc (suc (suc zero))))) bytes id points = Close id
event_at (suc (suc (suc (suc (suc (suc n)))))) bytes id points = Discard bytes

abbrev pub event_from : EventFields → Event
event_from p = event_at p.0 p.1.0 p.1.1.0 p.1.1.1

pub event_back : (e : Event) → event_from (fields_of_event e) ≡ e
event_back (Arrive bytes) = refl
event_back Open = refl
event_back (Next id) = refl
event_back (Submit bytes) = refl
event_back (Forward id points) = refl
event_back (Close id) = refl
event_back (Discard hash) = refl

-- what comes to the node
abbrev pub coded_event : Coded Event
coded_event =
    code_by EventFields (coded× coded_ℕ (coded× coded_bytes (coded× coded_ℕ (coded_list coded_point)))) fields_of_event
    event_from event_back

-- an instruction as numbers and bytes, and back
abbrev pub fields_of_instruction : Instruction → ℕ × (List ℕ × ℕ)
fields_of_instruction Stay = (0, ([], 0))
fields_of_instruction (AddBlock bytes) = (1, (bytes, 0))
fields_of_instruction (RollBack point) = (2, (point.hash, point.number))

abbrev pub instruction_at : ℕ → List ℕ → ℕ → Instruction
instruction_at zero bytes number = Stay
instruction_at (suc zero) bytes number = AddBlock bytes
instruction_at (suc (suc n)) bytes number = RollBack record { number = number; hash = bytes }

pub instruction_back : (i : Instruction)
    → instruction_at (fields_of_instruction i).0 (fields_of_instruction i).1.0 (fields_of_instruction i).1.1 ≡ i
instruction_back Stay = refl
instruction_back (AddBlock bytes) = refl
instruction_back (RollBack point) = refl

-- what a follower is told
abbrev pub coded_instruction : Coded Instruction
coded_instruction =
    code_by (ℕ × (List ℕ × ℕ)) (coded× coded_ℕ (coded× coded_bytes coded_ℕ)) fields_of_instruction
    (λ p. instruction_at p.0 p.1.0 p.1.1) instruction_back

-- the reason of a number
abbrev pub reason_at : ℕ → Reason
reason_at n = get_or reasons (n - 1) OutsideInterval

-- a reason comes back from its number
pub reason_back : (r : Reason) → reason_at (reason_number r) ≡ r
reason_back OutsideInterval = refl
reason_back NoInputs = refl
reason_back TooBig = refl
reason_back FeeTooSmall = refl
reason_back MissingInput = refl
reason_back OutputTooSmall = refl
reason_back WrongNetwork = refl
reason_back NotBalanced = refl
reason_back OutputExists = refl
reason_back BadSignature = refl
reason_back MissingKeyWitness = refl
reason_back MissingScript = refl
reason_back ExtraScript = refl
reason_back ScriptFails = refl

-- why a transaction is refused
abbrev pub coded_reason : Coded Reason
coded_reason = code_by ℕ coded_ℕ reason_number reason_at reason_back

-- the answer to a submission as a number and a reason, and back
abbrev pub fields_of_submit_reply : SubmitReply → ℕ × Reason
fields_of_submit_reply submission.Malformed = (0, OutsideInterval)
fields_of_submit_reply submission.Known = (1, OutsideInterval)
fields_of_submit_reply (submission.Refused reason) = (2, reason)
fields_of_submit_reply submission.Full = (3, OutsideInterval)
fields_of_submit_reply Added = (4, OutsideInterval)

abbrev pub submit_reply_at : ℕ → Reason → SubmitReply
submit_reply_at zero reason = submission.Malformed
submit_reply_at (suc zero) reason = submission.Known
submit_reply_at (suc (suc zero)) reason = submission.Refused reason
submit_reply_at (suc (suc (suc zero))) reason = submission.Full
submit_reply_at (suc (suc (suc (suc n)))) reason = Added

pub submit_reply_back : (r : SubmitReply)
    → submit_reply_at (fields_of_submit_reply r).0 (fields_of_submit_reply r).1 ≡ r
submit_reply_back submission.Malformed = refl
submit_reply_back submission.Known = refl
submit_reply_back (submission.Refused reason) = refl
submit_reply_back submission.Full = refl
submit_reply_back Added = refl

-- what is answered to a submission
abbrev pub coded_submit_reply : Coded SubmitReply
coded_submit_reply =
    code_by (ℕ × Reason) (coded× coded_ℕ coded_reason) fields_of_submit_reply (λ p. submit_reply_at p.0 p.1)
    submit_reply_back

-- a reply as three numbers, a refusal, an instruction, an answer to a submission and a point, and back
abbrev pub ReplyFields : Type 0
ReplyFields = ℕ × (ℕ × (ℕ × (Refusal × (Instruction × (SubmitReply × Option Point)))))

-- a reply that has only its number
abbrev pub plain_reply : ℕ → ReplyFields
plain_reply kind = (kind, (0, (0, (TooLarge, (Stay, (Added, None))))))

abbrev pub fields_of_reply : Reply → ReplyFields
fields_of_reply (Kept back added) = (0, (back, (added, (TooLarge, (Stay, (Added, None))))))
fields_of_reply (Refused refusal) = (1, (0, (0, (refusal, (Stay, (Added, None))))))
fields_of_reply (Opened id) = (2, (id, (0, (TooLarge, (Stay, (Added, None))))))
fields_of_reply TooManyFollowers = plain_reply 3
fields_of_reply (Instructed instruction) = (4, (0, (0, (TooLarge, (instruction, (Added, None))))))
fields_of_reply UnknownFollower = plain_reply 5
fields_of_reply (Submitted answer) = (6, (0, (0, (TooLarge, (Stay, (answer, None))))))
fields_of_reply (Forwarded found) = (7, (0, (0, (TooLarge, (Stay, (Added, found))))))
fields_of_reply Closed = plain_reply 8
fields_of_reply Discarded = plain_reply 9
fields_of_reply NotBeside = plain_reply 10
fields_of_reply OutOfMemory = plain_reply 11

abbrev pub reply_at : ℕ → ℕ → ℕ → Refusal → Instruction → SubmitReply → Option Point → Reply
reply_at zero m n refusal instruction answer found = Kept m n
reply_at (suc zero) m n refusal instruction answer found = Refused refusal
reply_at (suc (suc zero)) m n refusal instruction answer found = Opened m
reply_at (suc (suc (suc zero))) m n refusal instruction answer found = TooManyFollowers
reply_at (suc (suc (suc (suc zero)))) m n refusal instruction answer found = Instructed instruction
reply_at (suc (suc (suc (suc (suc zero))))) m n refusal instruction answer found = UnknownFollower
reply_at (suc (suc (suc (suc (suc (suc zero)))))) m n refusal instruction answer found = Submitted answer
reply_at (suc (suc (suc (suc (suc (suc (suc zero))))))) m n refusal instruction answer found = Forwarded found
reply_at (suc (suc (suc (suc (suc (suc (suc (suc zero)))))))) m n refusal instruction answer found = Closed
reply_at (suc (suc (suc (suc (suc (suc (suc (suc (suc zero))))))))) m n refusal instruction answer found = Discarded
reply_at (suc (suc (suc (suc (suc (suc (suc (suc (suc (suc zero)))))))))) m n refusal instruction answer found =
    NotBeside
reply_at (suc (suc (suc (suc (suc (suc (suc (suc (suc (suc (suc k))))))))))) m n refusal instruction answer found =
    OutOfMemory

abbrev pub reply_from : ReplyFields → Reply
reply_from p = reply_at p.0 p.1.0 p.1.1.0 p.1.1.1.0 p.1.1.1.1.0 p.1.1.1.1.1.0 p.1.1.1.1.1.1

pub reply_back : (r : Reply) → reply_from (fields_of_reply r) ≡ r
reply_back (Kept back added) = refl
reply_back (Refused refusal) = refl
reply_back (Opened id) = refl
reply_back TooManyFollowers = refl
reply_back (Instructed instruction) = refl
reply_back UnknownFollower = refl
reply_back (Submitted answer) = refl
reply_back (Forwarded found) = refl
reply_back Closed = refl
reply_back Discarded = refl
reply_back NotBeside = refl
reply_back OutOfMemory = refl

-- what it answers
abbrev pub coded_reply : Coded Reply
coded_reply =
    code_by ReplyFields
    (coded× coded_ℕ (coded× coded_ℕ (coded× coded_ℕ (coded× coded_refusal
    (coded× coded_instruction (coded× coded_submit_reply (coded_option coded_point)))))))
    fields_of_reply reply_from reply_back

-- an event with its reply
abbrev pub coded_entry : Coded Entry
coded_entry =
    code_by (Event × Reply) (coded× coded_event coded_reply) (λ e. (e.event, e.reply))
    (λ p. record { event = p.0; reply = p.1 }) (λ _. refl)

-- that of a caller
abbrev pub coded_journal_entry : Coded JournalEntry
coded_journal_entry =
    code_by (ℕ × (Option ℕ × Entry)) (coded× coded_ℕ (coded× (coded_option coded_ℕ) coded_entry))
    (λ e. (e.caller, (e.peer, e.entry))) (λ p. record { caller = p.0; peer = p.1.0; entry = p.1.1 }) (λ _. refl)

-- all of them
abbrev pub coded_journal : Coded Journal
coded_journal = coded_list coded_journal_entry

-- what a caller knows
abbrev pub coded_knowledge : Coded Knowledge
coded_knowledge =
    code_by (ℕ × (Journal × (Journal × (ℕ × ℕ))))
    (coded× coded_ℕ (coded× coded_journal (coded× coded_journal (coded× coded_ℕ coded_ℕ))))
    (λ k. (k.caller, (k.seen, (k.calls, (k.loads, k.last)))))
    (λ p. record { caller = p.0; seen = p.1.0; calls = p.1.1.0; loads = p.1.1.1.0; last = p.1.1.1.1 }) (λ _. refl)
