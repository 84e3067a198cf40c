-- What is told, from what was found.
use Rattle.std.proofs.Common.{◌≡◌, ℕ, List, Option, Result, Ok, Err, subst, ◌∙◌}
use Rattle.std.specs.Prelude.{IfOk, IfErr}
use Rattle.std.specs.Io.KnownBytes.{Appends}
use Rattle.model.specs.Transaction as model
use Rattle.model.specs.Transaction.{SpellsTransaction}
use Rattle.model.specs.Ledger.{Network}
use Rattle.model.specs.History.{State}
use Rattle.model.specs.Evaluating.{Evaluation, IsEvaluation}
use Rattle.mempool.specs.View.{evaluation_of}
use Rattle.mempool.specs.declared.evaluation.Evaluation.{Evaluation as CodeEvaluation}
use Rattle.mempool.specs.declared.evaluation.Evaluation.TheVariants.{Malformed}
use Rattle.telling.specs.declared.fault.TellFault.{TellFault}
use Rattle.telling.specs.declared.kind.Kind.{Kind}
use Rattle.telling.specs.declared.kind.Kind.TheVariants.{Transaction}
use Rattle.telling.specs.declared.verdict.Verdict.{Verdict}
use Rattle.telling.specs.Faults.{IsUntold, IsOutside}
use Rattle.telling.specs.Identifiers.{IsIdLine, PrintsId}
use Rattle.telling.specs.Verdicts.{PrintsEvaluation, PrintsVerdict}

-- a line that was written is what is printed
pub id_printed : (kind : Kind) (bytes line written : List ℕ) (old new : Option (List ℕ)) → IsIdLine kind bytes line → written ≡ line → Appends old new written → PrintsId kind bytes old new
id_printed kind bytes line written old new is same appended = record {
  id = is.id;
  is_id = is.is_id;
  printed = subst (Appends old new) (same ∙ is.text) appended;
}

-- bytes that are evaluated so are no transaction
pub no_transaction : (network : Network) (s : State) (slot : ℕ) (bytes : List ℕ) (e : CodeEvaluation) → e ≡ Malformed → IsEvaluation network s slot bytes (evaluation_of e) → (t : model.Transaction) → SpellsTransaction t bytes → ⊥
no_transaction network s slot bytes e is evaluated = (subst (λ (x : CodeEvaluation). IsEvaluation network s slot bytes (evaluation_of x)) is evaluated).2

-- the text of an evaluation that was printed tells the verdict in each state in which that is the evaluation
pub verdict_printed : {E : Type 0} {Stand : State → Type 0} (network : Network) (slot : ℕ) (bytes : List ℕ) (old new : Option (List ℕ)) (e : Evaluation) (end : Result Verdict E) → ((s : State) → Stand s → IsEvaluation network s slot bytes e)
    → IfOk end (PrintsEvaluation e old new) → IfOk end (λ verdict. (s : State) → Stand s → PrintsVerdict network s slot bytes old new verdict)
verdict_printed network slot bytes old new e (Ok verdict) evaluated printed = λ s stands. record { evaluation = e; evaluates = evaluated s stands; prints = printed }
verdict_printed network slot bytes old new e (Err fault) evaluated printed = tt

-- a fault that isn't what the bytes are is one of any
pub told_outside : {T : Type 0} (Stand : State → Type 0) (bytes : List ℕ) (end : Result T TellFault) → IfErr end IsOutside → IfErr end (λ fault. (s : State) → Stand s → IsUntold Transaction bytes fault)
told_outside Stand bytes (Ok v) outside = tt
told_outside Stand bytes (Err fault) outside = λ s stands. outside Transaction bytes
