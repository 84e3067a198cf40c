use Rattle.std.proofs.Common.{rules}
use Rattle.model.specs.Transaction.{key_hash_of}
use Rattle.timelock.specs.View.{key_bytes}
use Rattle.tx.specs.View.{witness_of}
use Rattle.witness_pool.proofs.Loops.{none_made, one_made, all_made}
use Rattle.witness_pool.proofs.verdicts.key_hashes.Goals as goal

pub loop-witness-init : goal.loop-witness-init
loop-witness-init c = none_made key_bytes witness_of (λ w. key_hash_of w.key) c.in_ok-hashes.hashes.items c.args.signatures.now (search rules)

pub loop-witness-preserved : goal.loop-witness-preserved
loop-witness-preserved c =
    one_made key_bytes witness_of (λ w. key_hash_of w.key) c.loop-witness.hashes.items c.push.new.self.items c.args.signatures.now c.loop-witness.witness-index c.witness-item.result c.key_hash.result c.loop-witness-test.true c.witness-item.is c.key_hash.ensures c.in_ok-push.ensures.items c.loop-witness.invariant

pub returns : goal.returns
returns c = all_made key_bytes witness_of (λ w. key_hash_of w.key) c.loop-witness.hashes.items c.args.signatures.now c.loop-witness.witness-index c.loop-witness-test.false c.loop-witness.invariant
