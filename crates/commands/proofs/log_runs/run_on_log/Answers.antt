use Rattle.std.proofs.Common.{◌≡◌, false, true, Result, Ok, Err, ap, ◌∙◌}
use Rattle.std.specs.Prelude.{IsOk, OnOk}
use Rattle.chain_core.specs.Immutable.{texts_of}
use Rattle.flushing.proofs.ForCallers.{begins_on_opened}
use Rattle.commands.proofs.log_runs.run_on_log.Goals as goal

pub flush-flushed-requires : goal.flush-flushed-requires
flush-flushed-requires g c =
    let after = c.run_from-core.result.0 in
    begins_on_opened g.S.SigScheme.verifies after c.args.log.now.blocks (ap texts_of c.run_from-core.ensures.start.opened ∙ c.requires.blocks) c.immutable-immutable.ensures.opened

-- where the end is Ok the flush was, and what it then ensures holds
both_ok : {T E U F P Q : Type 0} (end : Result T E) (flushed : Result U F) → OnOk end (IsOk flushed) → OnOk flushed P → (P → Q) → OnOk end Q
both_ok (Err e) flushed ok holds weaker = tt
both_ok (Ok v) (Ok u) ok holds weaker = weaker holds
both_ok (Ok v) (Err e) ok holds weaker = let bad : false ≡ true = ok in cc

pub returns-clause-flushed : goal.returns-clause-flushed
returns-clause-flushed g c = both_ok c.ended.result c.flush-flushed.result c.ended.ensures c.flush-flushed.ensures.all (λ all. (c.run_from-core.result.0, c.run_from-core.ensures.run, all))
