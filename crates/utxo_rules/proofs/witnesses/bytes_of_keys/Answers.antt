use Rattle.std.specs.Prelude.{[]}
use Rattle.timelock.specs.View.{key_bytes}
use Rattle.utxo_rules.proofs.Gathered.{one_gathered, all_gathered}
use Rattle.utxo_rules.proofs.witnesses.bytes_of_keys.Goals as goal

pub loop-key-preserved : goal.loop-key-preserved
loop-key-preserved c =
    one_gathered key_bytes [] c.loop-key.hashes.items c.push.new.self.items c.args.keys.now c.loop-key.key-index c.key-item.result c.as_bytes.result.now c.loop-key-test.true c.key-item.is c.as_bytes.ensures c.in_ok-push.ensures.items c.loop-key.invariant

pub returns : goal.returns
returns c = all_gathered key_bytes [] c.loop-key.hashes.items c.args.keys.now c.loop-key.key-index c.loop-key-test.false c.loop-key.invariant
