use Rattle.std.proofs.Common.{◌∙◌, map}
use Rattle.value.specs.View.{policy_of}
use Rattle.value.proofs.Touching.{both_keep}
use Rattle.value.proofs.amounts.AllAmounts.prepare.Goals as goal

pub returns-in-Err : goal.returns-in-Err
returns-in-Err g c = record {
  same = λ policy name. c.tidy.ensures.same policy name ∙ c.make_entries.ensures.same policy name;
  present = tt;
  others = both_keep c.args.self.now c.make_entries.new.self c.tidy.new.self (map policy_of c.args.policies.now) c.make_entries.ensures.others c.tidy.ensures.others;
  tidy = c.tidy.ensures.tidy;
}
