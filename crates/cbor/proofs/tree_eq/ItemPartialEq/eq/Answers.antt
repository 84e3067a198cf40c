use Rattle.std.proofs.lemmas.Bool.Decides.{Decides-at}
use Rattle.cbor.specs.Tree.{item_of}
use Rattle.cbor.specs.Same.{same_item}
use Rattle.cbor.specs.SameLaws.{item_decides}
use Rattle.cbor.proofs.tree_eq.ItemPartialEq.eq.Goals as goal

pub returns-clause-same : goal.returns-clause-same
returns-clause-same c =
    Decides-at c.same_item.result (same_item c.args.self.now c.args.other.now) c.same_item.ensures (item_decides (item_of c.args.self.now) (item_of c.args.other.now))
