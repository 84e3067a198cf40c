-- The copies that were made and what is still to copy are the whole.
use Rattle.value.proofs.ForCallers.{IsPartCopied}
use Rattle.tx.proofs.copying.clone_scripts.Given as goal

abbrev pub invariant-loop-script : goal.invariant-loop-script
invariant-loop-script l = IsPartCopied (λ s. s) l.copies.items l.scripts l.script-index
