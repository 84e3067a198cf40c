use Rattle.std.proofs.lemmas.Bool.Decides.{Decides-at, Decides-and}
use Rattle.cbor.specs.Tree.{item_of}
use Rattle.cbor.specs.Same.{same_item, same_entry}
use Rattle.cbor.specs.SameLaws.{item_decides}
use Rattle.cbor.proofs.tree_eq.EntryPartialEq.eq.Goals as goal

pub returns-clause-same : goal.returns-clause-same
returns-clause-same c =
    let key = item_decides (item_of c.args.self.now.key) (item_of c.args.other.now.key) in
    let value = item_decides (item_of c.args.self.now.value) (item_of c.args.other.now.value) in
    Decides-at c.same_entry.result (same_entry c.args.self.now c.args.other.now) c.same_entry.ensures (Decides-and (same_item c.args.self.now.key c.args.other.now.key) (same_item c.args.self.now.value c.args.other.now.value) key value)
