use Rattle.std.proofs.Common.{◌∙◌, ap, map, []}
use Rattle.tx.specs.View.{input_of, output_of}
use Rattle.timelock.specs.View.{interval_of}
use Rattle.draft.proofs.unsigned.Unsigned.try_clone.Goals as goal

pub returns : goal.returns
returns c = λ i. record {
  inputs = ap (map input_of) (c.in_ok-from_slice.ensures.items ∙ c.deref.ensures.value) i;
  outputs = (c.in_ok-clone_outputs.ensures ∙ ap (map output_of) c.deref-2.ensures.value) i;
  fee = c.args.self.now.fee;
  interval = interval_of c.args.self.now.interval;
  mint = c.in_ok-try_clone.ensures i;
  signatures = [];
  scripts = [];
}
