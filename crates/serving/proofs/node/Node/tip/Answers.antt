use Rattle.std.proofs.Common.{ap}
use Rattle.model.specs.Chain.{Point}
use Rattle.serving.proofs.Telling.{asked_so}
use Rattle.serving.proofs.node.Node.tip.Goals as goal

pub returns : goal.returns
returns g c =
    asked_so c.chain_tip-end.ensures (λ s h. record {
      number = ap (λ (p : Point). p.number) h.0;
      hash = ap (λ (p : Point). p.hash) h.0;
      slot = h.1;
    })
