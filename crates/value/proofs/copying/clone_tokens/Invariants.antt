-- The copies that were made and what is still to copy are the whole.
use Rattle.value.specs.View.{token_of}
use Rattle.value.proofs.Copies.{IsPartCopied}
use Rattle.value.proofs.copying.clone_tokens.Given as goal

abbrev pub invariant-loop-token : goal.invariant-loop-token
invariant-loop-token g l = IsPartCopied token_of l.copies.items l.tokens l.token-index
