-- What is told of a transaction: what a submission of it would be answered, and what a reason against it is about.
use Rattle.std.specs.Prelude.{◌≡◌, ℕ, List, [], ◌∷◌, ◌++◌, Option, codes, decimal}
use Rattle.std.specs.Io.KnownBytes.{Appends}
use Rattle.model.specs.Ledger.{Network}
use Rattle.model.specs.Rules.{Reason, reason_number}
use Rattle.model.specs.History.{State}
use Rattle.model.specs.Explaining.{Detail, reason_of_detail}
use Rattle.model.specs.Evaluating.{Evaluation, Malformed, Known, Refused, Full, Acceptable, IsEvaluation}
use Rattle.utxo_rules.specs.Texts.{reason_name}
use Rattle.utxo_rules.specs.Sentences.{detail_text}
use Rattle.telling.specs.declared.verdict.Verdict.{Verdict}
use Rattle.telling.specs.declared.verdict.Verdict.TheVariants.{Valid, NotValid}

-- the transaction is valid where it would be taken
abbrev pub verdict_of : Evaluation → Verdict
verdict_of Acceptable = Valid
verdict_of evaluation = NotValid

-- the number and the name of a reason, on a line
abbrev pub reason_line : Reason → List ℕ
reason_line reason = decimal (reason_number reason) ++ (codes " " ++ (reason_name reason ++ 10 ∷ []))

-- what it is about, on a line that begins as those that explain a script do
abbrev pub detail_line : Detail → List ℕ
detail_line detail = codes "# " ++ (detail_text detail ++ 10 ∷ [])

-- TEXT OF AN EVALUATION (this project's own)
abbrev pub evaluation_text : Evaluation → List ℕ
evaluation_text Malformed = codes "malformed\n"
evaluation_text Known = codes "known\n"
evaluation_text (Refused detail) = reason_line (reason_of_detail detail) ++ detail_line detail
evaluation_text Full = codes "full\n"
evaluation_text Acceptable = codes "valid\n"

-- the text of an evaluation is printed, and the verdict is its
pub record PrintsEvaluation (evaluation : Evaluation) (old new : Option (List ℕ)) (verdict : Verdict) : Type 0 where
  pub printed : Appends old new (evaluation_text evaluation)
  pub verdict_is : verdict ≡ verdict_of evaluation

-- the same of what a submission of these bytes would be answered in this state, judged at this slot
pub record PrintsVerdict (network : Network) (s : State) (slot : ℕ) (bytes : List ℕ) (old new : Option (List ℕ))
    (verdict : Verdict) : Type 0 where
  pub evaluation : Evaluation
  pub evaluates : IsEvaluation network s slot bytes evaluation
  pub prints : PrintsEvaluation evaluation old new verdict
