-- The places that were seen are free.
use Rattle.std.proofs.Common.{◌≡◌, true, map}
use Rattle.std.specs.Prelude.{is_some, not, take}
use Rattle.std.specs.List.{list_all}
use Rattle.model.specs.Utxo.{output_at, pairs_from}
use Rattle.tx.specs.View.{output_of}
use Rattle.utxo_rules.proofs.firsts.taken_place.Given as goal

abbrev pub invariant-loop-index : goal.invariant-loop-index
invariant-loop-index l =
    list_all (λ p. not (is_some (output_at l.utxo p.0))) (take l.index (pairs_from l.id.bytes 0 (map output_of l.outputs))) ≡ true
