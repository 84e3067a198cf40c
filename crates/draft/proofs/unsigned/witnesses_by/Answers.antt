use Rattle.std.proofs.Common.{◌∙◌, ap}
use Rattle.draft.proofs.Copying.{one_made, all_made, two_steps}
use Rattle.tx.specs.View.{witness_of}
use Rattle.draft.specs.Draft.{witness_by}
use Rattle.draft.proofs.unsigned.witnesses_by.Goals as goal

pub loop-signer-preserved : goal.loop-signer-preserved
loop-signer-preserved g c =
    one_made witness_of (λ s. witness_by c.args.id.now (g.K.Signer.signer s)) c.loop-signer.made.items c.push.new.self.items c.args.signers.now c.loop-signer.signer-index c.signer-item.result
    c.witness.result c.loop-signer-test.true (c.witness.ensures ∙ ap (λ s. witness_by c.args.id.now (g.K.Signer.signer s)) c.signer-item.is) c.in_ok-push.ensures.items c.loop-signer.invariant

pub returns : goal.returns
returns g c =
    all_made witness_of (λ s. witness_by c.args.id.now (g.K.Signer.signer s)) c.loop-signer.made.items c.args.signers.now c.loop-signer.signer-index c.loop-signer-test.false c.loop-signer.invariant
    ∙ two_steps (witness_by c.args.id.now) g.K.Signer.signer c.args.signers.now
