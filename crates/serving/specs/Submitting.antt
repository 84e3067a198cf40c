-- What is told of transactions that are handed in, and of blocks that are forged.
use Rattle.std.specs.Prelude.{◌≡◌, ◌⊎◌, ℕ, List, Option, Some, None, codes}
use Rattle.ident.specs.declared.point.Point as ident
use Rattle.model.specs.Transaction.{Transaction, SpellsTransaction, transaction_id_of}
use Rattle.model.specs.Rules.{reason_number}
use Rattle.model.specs.Explaining.{Detail, reason_of_detail}
use Rattle.model.specs.Ledger.{Network}
use Rattle.model.specs.Mempool.{SubmitReply, Malformed, Known, Refused, Full, Added}
use Rattle.model.specs.Forging as forging
use Rattle.model.specs.History.{Submit, Submitted}
use Rattle.model.specs.Asked.{ExplainsSubmission}
use Rattle.model.specs.Journal.{Knowledge, IsCalled}
use Rattle.utxo_rules.specs.Texts.{reason_name}
use Rattle.utxo_rules.specs.Sentences.{detail_text}
use Rattle.shared.specs.Asking.{IsAsked}
use Rattle.shared.specs.Entries.{call_by}
use Rattle.shared.specs.Forging.{IsForgedOf}
use Rattle.conversing.specs.declared.told.ToldBlock.{ToldBlock}
use Rattle.conversing.specs.declared.outcome.Reason.{Reason}
use Rattle.conversing.specs.declared.found.Found.TheVariants.{Acceptable, Unacceptable}
use Rattle.conversing.specs.declared.outcome.Outcome.{Outcome}
use Rattle.conversing.specs.declared.outcome.Outcome.TheVariants.{Accepted, NotAccepted, Forged, NotForged, Answered}
use Rattle.serving.specs.Lanes.{HasLooked}
use Rattle.serving.specs.Reasons.{Words, words, words_of, reason_words}

-- ---- submissions

-- the bytes are the text of no transaction
abbrev pub IsNoTransaction : List ℕ → Type 0
IsNoTransaction bytes = (t : Transaction) → SpellsTransaction t bytes → ⊥

-- they are that of one of this identifier
abbrev pub HasId : List ℕ → (id : List ℕ) → Type 0
HasId bytes id = (t : Transaction) × SpellsTransaction t bytes × (transaction_id_of t ≡ id)

abbrev pub malformed_words : Words
malformed_words = words 101 (codes "Malformed") (codes "the bytes are no transaction")

abbrev pub known_words : Words
known_words = words 102 (codes "Known") (codes "the transaction waits already")

abbrev pub full_words : Words
full_words = words 103 (codes "Full") (codes "as many transactions wait as may")

-- an answer to a submission, as it is told: the identifier of the transaction that waits, or why it doesn't
abbrev pub IsAnswerTold : (bytes : List ℕ) → SubmitReply → Outcome → Type 0
IsAnswerTold bytes Added outcome = (id : List ℕ) × (outcome ≡ Accepted id) × HasId bytes id
IsAnswerTold bytes Malformed outcome =
    (reason : Reason) × (outcome ≡ NotAccepted reason) × (words_of reason ≡ malformed_words)
IsAnswerTold bytes Known outcome =
    (reason : Reason) × (outcome ≡ NotAccepted reason) × (words_of reason ≡ known_words)
IsAnswerTold bytes (Refused why) outcome =
    (reason : Reason) × (outcome ≡ NotAccepted reason) × (words_of reason ≡ reason_words why)
IsAnswerTold bytes Full outcome =
    (reason : Reason) × (outcome ≡ NotAccepted reason) × (words_of reason ≡ full_words)

-- `submitTransaction`: the bytes are submitted by a locked call, and its answer is told; or they are the text of no
-- transaction, which is told without a call
pub data TellsSubmission (network : Network) (bytes : List ℕ) (before after : Knowledge) (outcome : Outcome)
    : Type 0 where
  Made : (answer : SubmitReply)
      → IsCalled network before (call_by before.caller (Submit bytes) (Submitted answer)) after
      → IsAnswerTold bytes answer outcome → TellsSubmission network bytes before after outcome
  Spared : IsNoTransaction bytes → after ≡ before → IsAnswerTold bytes Malformed outcome
      → TellsSubmission network bytes before after outcome

-- it was submitted or spared, and what that led to isn't told
pub record WasSubmitted (network : Network) (bytes : List ℕ) (before after : Knowledge) : Type 0 where
  pub untold : Outcome
  pub was : TellsSubmission network bytes before after untold

-- ---- what a submission would be answered

-- what a reason is about, in its words
abbrev pub detail_words : Detail → Words
detail_words detail =
    words (reason_number (reason_of_detail detail)) (reason_name (reason_of_detail detail)) (detail_text detail)

abbrev pub IsDetailTold : Option Detail → Outcome → Type 0
IsDetailTold None outcome = outcome ≡ Answered Acceptable
IsDetailTold (Some detail) outcome =
    (reason : Reason) × (outcome ≡ Answered (Unacceptable reason)) × (words_of reason ≡ detail_words detail)

-- `evaluate`: what the bytes would be refused for, if they were submitted; or they are the text of no transaction
pub data TellsEvaluation (network : Network) (bytes : List ℕ) (before after : Knowledge) (outcome : Outcome)
    : Type 0 where
  Judged : (detail : Option Detail)
      → IsAsked network before after (λ s. ExplainsSubmission network s bytes detail)
      → IsDetailTold detail outcome → TellsEvaluation network bytes before after outcome
  NoneSuch : IsNoTransaction bytes → after ≡ before
      → (reason : Reason) → outcome ≡ Answered (Unacceptable reason) → words_of reason ≡ malformed_words
      → TellsEvaluation network bytes before after outcome

-- nothing changed, or the caller looked at the height
abbrev pub WasEvaluated : Network → (before after : Knowledge) → Type 0
WasEvaluated network before after = (after ≡ before) ⊎ HasLooked network before after

-- ---- blocks that are forged

abbrev pub forge_words : forging.ForgeFault → Words
forge_words forging.SlotNotAfterTip = words 1 (codes "SlotNotAfterTip") (codes "the slot isn't after the tip's")
forge_words forging.OutOfRange = words 2 (codes "OutOfRange") (codes "the slot or the block's number is 2^63 or more")

-- the block that is told has this number, hash and slot
pub record IsForgedTold (slot : ℕ) (point : ident.Point) (told : ToldBlock) : Type 0 where
  pub number : told.number ≡ point.number
  pub hash : told.hash ≡ point.hash.bytes
  pub slot_is : told.slot ≡ slot

-- `forge`: the block that comes next in this slot on the chain that is selected after all that the caller has then
-- seen; or the first reason why there is none
pub data TellsForging (network : Network) (slot : ℕ) (before after : Knowledge) (outcome : Outcome) : Type 0 where
  Made : (told : ToldBlock) → (point : ident.Point) → outcome ≡ Forged told → IsForgedTold slot point told
      → IsAsked network before after (λ s. IsForgedOf network s slot told.bytes.now point)
      → TellsForging network slot before after outcome
  NotMade : (fault : forging.ForgeFault) → (reason : Reason) → outcome ≡ NotForged reason
      → words_of reason ≡ forge_words fault
      → IsAsked network before after (λ s. forging.IsNotForged network s.chain slot fault)
      → TellsForging network slot before after outcome
