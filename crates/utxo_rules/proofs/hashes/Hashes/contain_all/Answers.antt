use Rattle.std.proofs.Common.{ℕ, List, ap, ◌∙◌}
use Rattle.std.specs.List.{list_all}
use Rattle.std.proofs.lemmas.List.{map-id}
use Rattle.model.specs.Rules.{is_among}
use Rattle.utxo_rules.proofs.Asks.{all_pass}
use Rattle.utxo_rules.proofs.hashes.Hashes.contain_all.Goals as goal

pub returns : goal.returns
returns c =
    let test = is_among c.args.self.now.sorted.items in
    all_pass (λ (hash : List ℕ). hash) test c.args.hashes.now c.loop-hash.hash-index c.loop-hash-test.false c.loop-hash.invariant ∙ ap (list_all test) (map-id c.args.hashes.now)
