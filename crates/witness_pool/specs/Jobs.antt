-- The transactions and the numbers of jobs.
use Rattle.std.specs.Prelude.{ℕ, List, map}
use Rattle.std.specs.Global.{Vec}
use Rattle.model.specs.Transaction.{Transaction}
use Rattle.witness_pool.specs.declared.pool.Job.{Job}

-- the transactions of jobs, in their order
abbrev pub txs_of : List Job → List Transaction
txs_of jobs = map (λ job. job.tx) jobs

-- the numbers of jobs, in their order
abbrev pub numbers_of : List Job → List ℕ
numbers_of jobs = map (λ job. job.number) jobs

-- the transactions of the jobs of each share
abbrev pub shares_of : List (Vec Job) → List (List Transaction)
shares_of shares = map (λ share. txs_of share.items) shares
