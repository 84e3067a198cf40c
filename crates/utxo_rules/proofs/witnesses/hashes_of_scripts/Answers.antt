use Rattle.std.proofs.Common.{[], ◌∙◌}
use Rattle.model.specs.Script.{script_hash_of}
use Rattle.utxo_rules.proofs.Gathered.{one_gathered, all_gathered}
use Rattle.utxo_rules.proofs.witnesses.hashes_of_scripts.Goals as goal

pub loop-script-preserved : goal.loop-script-preserved
loop-script-preserved c =
    one_gathered script_hash_of [] c.loop-script.hashes.items c.push.new.self.items c.args.scripts.now c.loop-script.script-index c.script-item.result c.as_bytes.result.now c.loop-script-test.true c.script-item.is (c.as_bytes.ensures ∙ c.hash.ensures) c.in_ok-push.ensures.items c.loop-script.invariant

pub returns : goal.returns
returns c = all_gathered script_hash_of [] c.loop-script.hashes.items c.args.scripts.now c.loop-script.script-index c.loop-script-test.false c.loop-script.invariant
