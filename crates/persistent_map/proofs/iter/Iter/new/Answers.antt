use Rattle.persistent_map.proofs.After.{all_after}
use Rattle.persistent_map.proofs.iter.Iter.new.Goals as goal

pub returns : goal.returns
returns g c = all_after g.K.Ord.cmp c.args.tree.now
