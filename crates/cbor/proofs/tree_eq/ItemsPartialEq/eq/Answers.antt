use Rattle.std.proofs.Common.{◌∙◌}
use Rattle.std.proofs.lemmas.Bool.Decides.{Decides-at}
use Rattle.cbor.specs.Same.{items_eq}
use Rattle.cbor.specs.SameLaws.{items_decide}
use Rattle.cbor.proofs.tree_eq.ItemsPartialEq.eq.Goals as goal

pub returns-clause-same : goal.returns-clause-same
returns-clause-same c =
    Decides-at c.same_members.result (items_eq c.args.self.now c.args.other.now) (c.same_members.ensures ∙ (λ d. items_eq (c.as_slice.ensures d) (c.as_slice-2.ensures d))) (items_decide c.args.self.now c.args.other.now)
