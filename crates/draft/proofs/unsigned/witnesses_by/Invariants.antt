-- What was made of the first signers.
use Rattle.std.proofs.Common.{◌≡◌, map, take}
use Rattle.tx.specs.View.{witness_of}
use Rattle.draft.specs.Draft.{witness_by}
use Rattle.draft.proofs.unsigned.witnesses_by.Given as goal

abbrev pub invariant-loop-signer : goal.invariant-loop-signer
invariant-loop-signer g l = map witness_of l.made.items ≡ map (λ s. witness_by l.id (g.K.Signer.signer s)) (take l.signer-index l.signers)
