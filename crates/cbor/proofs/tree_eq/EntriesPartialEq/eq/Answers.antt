use Rattle.std.proofs.Common.{◌∙◌}
use Rattle.std.proofs.lemmas.Bool.Decides.{Decides-at}
use Rattle.cbor.specs.Same.{pairs_eq}
use Rattle.cbor.specs.SameLaws.{pairs_decide}
use Rattle.cbor.proofs.tree_eq.EntriesPartialEq.eq.Goals as goal

pub returns-clause-same : goal.returns-clause-same
returns-clause-same c =
    Decides-at c.same_entries.result (pairs_eq c.args.self.now c.args.other.now) (c.same_entries.ensures ∙ (λ d. pairs_eq (c.as_slice.ensures d) (c.as_slice-2.ensures d))) (pairs_decide c.args.self.now c.args.other.now)
