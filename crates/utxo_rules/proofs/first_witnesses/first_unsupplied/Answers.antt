use Rattle.std.proofs.Common.{ℕ, List, map, ap, ◌∙◌}
use Rattle.model.specs.Script.{script_hash_of}
use Rattle.model.specs.Rules.{is_among}
use Rattle.utxo_rules.proofs.Finding.{finds_same}
use Rattle.utxo_rules.proofs.first_witnesses.first_unsupplied.Goals as goal

pub returns : goal.returns
returns c =
    finds_same (is_among c.of-sought.result.sorted.items) (is_among (map script_hash_of c.args.scripts.now))
    (λ hash. c.of-sought.ensures hash ∙ ap (λ (hs : List (List ℕ)). is_among hs hash) c.in_ok-hashes.ensures) c.args.needed.now c.first_missing.result c.first_missing.ensures
