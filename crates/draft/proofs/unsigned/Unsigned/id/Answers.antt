use Rattle.std.proofs.Common.{◌∙◌, sym}
use Rattle.draft.specs.UnsignedView.{parts_of_unsigned}
use Rattle.draft.proofs.Identity.{one_id}
use Rattle.draft.proofs.unsigned.Unsigned.id.Goals as goal

pub returns : goal.returns
returns c = λ tx text signatures scripts spells of.
    let same = c.in_ok-try_clone.ensures in
    one_id tx c.in_ok-tx.tx text _ (parts_of_unsigned c.args.self.now signatures scripts) _ spells c.id.ensures.spelled of c.in_ok-tx.ensures.tx
    (record {
      inputs = λ i. (sym same i).inputs;
      outputs = λ i. (sym same i).outputs;
      fee = λ i. (sym same i).fee;
      interval = λ i. (sym same i).interval;
      mint = λ i. (sym same i).mint;
    })
    ∙ sym c.id.ensures.is
