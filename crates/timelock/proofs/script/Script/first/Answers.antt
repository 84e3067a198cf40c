use Rattle.std.proofs.Common.{arith}
use Rattle.timelock.specs.View.{timelock_of}
use Rattle.timelock.proofs.ScriptClauses.{rest_is_shorter, read_is_kept}
use Rattle.timelock.proofs.script.Script.first.Goals as goal

pub overflow_sub-bytes : goal.overflow_sub-bytes
overflow_sub-bytes c = rest_is_shorter c.args.depth c.args.bytes.now (timelock_of c.in_ok-timelock.timelock) c.in_ok-timelock.rest.now (λ i. omega (arith, c.type_inv.bytes i)) c.in_ok-timelock.ensures.exact

pub invariant_of-script : goal.invariant_of-script
invariant_of-script c =
    let kept = read_is_kept c.args.depth c.requires c.args.bytes.now (timelock_of c.in_ok-timelock.timelock) c.in_ok-timelock.rest.now c.split_at.result.0.now c.of_script-hash.result.bytes (λ i. omega (arith, c.type_inv.bytes i)) c.in_ok-timelock.ensures.exact c.split_at.ensures.front c.of_script-hash.ensures in
    record { shape = kept.shape; has_text = kept.has_text; hash = kept.hash }
