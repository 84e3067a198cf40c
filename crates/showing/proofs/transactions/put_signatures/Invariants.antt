-- What was appended, and the lines of the signatures that are still to come, are the whole.
use Rattle.std.proofs.Common.{◌≡◌, ◌++◌, drop, map}
use Rattle.std.specs.Prelude.{flat_map, string_bytes}
use Rattle.tx.specs.View.{witness_of}
use Rattle.showing.specs.Transactions.{signature_line}
use Rattle.showing.proofs.transactions.put_signatures.Given as goal

abbrev pub invariant-loop-witness : goal.invariant-loop-witness
invariant-loop-witness g l =
    string_bytes l.out ++ flat_map (signature_line g.S.SigScheme.verifies l.margin l.message) (map witness_of (drop l.witness-index l.signatures))
    ≡ string_bytes l.initial.out ++ flat_map (signature_line g.S.SigScheme.verifies l.margin l.message) (map witness_of l.signatures)
