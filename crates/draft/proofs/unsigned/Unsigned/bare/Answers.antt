use Rattle.std.proofs.Common.{ap, map, subst}
use Rattle.tx.specs.Parts.{Parts, IsTxOf}
use Rattle.tx.specs.View.{witness_of}
use Rattle.draft.specs.UnsignedView.{parts_of_unsigned}
use Rattle.draft.proofs.Finishing.{ok_as}
use Rattle.draft.proofs.BodyTexts.{no_witnesses}
use Rattle.draft.proofs.unsigned.Unsigned.bare.Goals as goal

pub returns-clause-tx : goal.returns-clause-tx
returns-clause-tx c =
    ok_as _ _ c.tx_of.result (λ tx of. subst (λ (p : Parts). IsTxOf tx p) (λ i. parts_of_unsigned c.args.self (ap (map witness_of) c.new.ensures.items i) (c.new-2.ensures.items i)) of) c.tx_of.ensures

pub returns-clause-bare : goal.returns-clause-bare
returns-clause-bare c = ok_as _ _ c.tx_of.result (λ tx of. no_witnesses tx _ (ap (map witness_of) c.new.ensures.items) c.new-2.ensures.items of) c.tx_of.ensures
