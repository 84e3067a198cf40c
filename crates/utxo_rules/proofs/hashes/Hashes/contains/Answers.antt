use Rattle.std.proofs.Common.{ℕ, List, ap, ◌∙◌}
use Rattle.std.specs.Ordering.{nat_cmp}
use Rattle.std.specs.List.Sorted.{IsSorted}
use Rattle.std.specs.Cmp.Lexicographic.{slice_cmp}
use Rattle.model.specs.Rules.{is_among}
use Rattle.utxo_rules.proofs.Searches.{found}
use Rattle.utxo_rules.proofs.hashes.Hashes.contains.Goals as goal

pub returns : goal.returns
returns c =
    let hashes = c.deref.result.now in
    let rise : IsSorted (slice_cmp nat_cmp) hashes = rw c.deref.ensures.value c.args.self.now.rise in
    c.is_ok.ensures.value ∙ found hashes c.args.hash.now c.binary_search.result rise c.binary_search.ensures.bound c.binary_search.ensures.position
    ∙ ap (λ (hs : List (List ℕ)). is_among hs c.args.hash.now) c.deref.ensures.value
