use Rattle.utxo_rules.proofs.Searches.{same_hashes}
use Rattle.utxo_rules.proofs.hashes.Hashes.of.Goals as goal

pub returns : goal.returns
returns c = λ hash. same_hashes c.args.hashes.items c.sort_unstable.new.self.items hash c.sort_unstable.ensures.permutation
