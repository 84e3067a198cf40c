use Rattle.std.proofs.Common.{ap, ◌∙◌}
use Rattle.model.specs.Rules.{are_among}
use Rattle.utxo_rules.proofs.Searches.{same_among}
use Rattle.utxo_rules.proofs.witnesses.are_supplied.Goals as goal

pub returns : goal.returns
returns c = c.contain_all.ensures ∙ same_among c.args.needed.now c.of-sought.result.sorted.items c.in_ok-hashes.hashes.items c.of-sought.ensures ∙ ap (are_among c.args.needed.now) c.in_ok-hashes.ensures
