use Rattle.std.proofs.Common.{◌≡◌, List, [], map, replicate, ap, ◌∙◌, arith}
use Rattle.std.specs.Global.{Vec}
use Rattle.model.specs.Transaction.{Transaction}
use Rattle.witness_pool.specs.Dealing.{all_dealt}
use Rattle.witness_pool.specs.Jobs.{txs_of}
use Rattle.witness_pool.specs.declared.pool.Job.{Job}
use Rattle.witness_pool.proofs.Turns.{map_dealt, none_seen, some_replicated, seen_twice}
use Rattle.witness_pool.proofs.pool.Pool.check.Goals as goal

pub returns-clause-verdicts : goal.returns-clause-verdicts
returns-clause-verdicts g c =
    let none : List (List Transaction) = replicate c.max-busy.result [] in
    let view : Job → Transaction = λ job. job.tx in
    let seen = seen_twice (map view) (λ (share : Vec Job). share.items) c.in_ok-shares.shares.items in
    let shares : map txs_of (map (λ (share : Vec Job). share.items) c.in_ok-shares.shares.items) ≡ all_dealt c.args.txs.items none =
    ap (map (map view)) c.in_ok-shares.ensures ∙ map_dealt view c.in_ok-jobs.jobs.items (replicate c.max-busy.result []) ∙ ap (all_dealt (map view c.in_ok-jobs.jobs.items)) (none_seen view c.max-busy.result) ∙ ap (λ (l : List Transaction). all_dealt l none) c.in_ok-jobs.ensures.txs in
    c.in_ok-gather.ensures c.args.txs.items none (some_replicated c.max-busy.result (omega (arith, c.max-busy.ensures))) (omega (arith, c.len-count.ensures, c.args.txs.ok)) (c.in_ok-checked.ensures ∙ seen ∙ shares)
