-- What a node tells of itself, metric by metric.
use Rattle.std.specs.Prelude.{ℕ, ◌+◌, List, [], ◌∷◌, ◌++◌, Option, Some, None, codes, decimal, flat_map, sum}
use Rattle.std.specs.Prelude.{slice_index}
use Rattle.metrics.specs.declared.figures.Figures.{Figures}
use Rattle.metrics.specs.Format.{Sample, Metric, sample, gauge, counter, counters, metric_lines}

-- its selected chain, and what it has of blocks
abbrev pub chain : Figures → List Metric
chain f =
    gauge (codes "chaindb_chain_height") (codes "Blocks of the selected chain.") f.height
    ∷ gauge (codes "chaindb_chain_slot") (codes "Slot of the selected chain's last block.") f.slot
    ∷ gauge (codes "chaindb_immutable_blocks") (codes "Blocks that no rollback reaches.") f.immutable
    ∷ gauge (codes "chaindb_durable_blocks") (codes "Blocks that are durable on the log.") f.durable
    ∷ gauge (codes "chaindb_kept_blocks") (codes "Blocks that are kept, immutable or live.") f.kept_blocks
    ∷ gauge (codes "chaindb_live_blocks")
    (codes "Blocks that may still come into a selected chain or be rolled back.") f.live
    ∷ []

-- its mempool, and what can be spent
abbrev pub mempool : Figures → List Metric
mempool f =
    gauge (codes "chaindb_mempool_transactions") (codes "Transactions that wait in the mempool.") f.transactions
    ∷ gauge (codes "chaindb_mempool_bytes") (codes "Bytes of the transactions that wait.") f.transaction_bytes
    ∷ gauge (codes "chaindb_unspent_outputs") (codes "Unspent outputs of the selected chain.") f.outputs
    ∷ []

-- whom it serves
abbrev pub clients : Figures → List Metric
clients f =
    gauge (codes "chaindb_followers") (codes "Followers that are open.") f.followers
    ∷ gauge (codes "chaindb_lanes") (codes "Lanes of clients that haven't ended.") f.lanes
    ∷ gauge (codes "chaindb_waiting_lanes") (codes "Clients that wait for a block.") f.waiting_lanes
    ∷ gauge (codes "chaindb_peers") (codes "Streams of peers that haven't ended.") f.peers
    ∷ []

-- all that arrived, kept or refused
abbrev pub arrived : Figures → ℕ
arrived f = f.kept + sum f.refused

-- how many arrivals were refused by the reason of this number
abbrev pub refusal : (number : ℕ) → (reason : List ℕ) → (count : ℕ) → Sample
refusal number reason count =
    sample (codes "{number=\"" ++ (decimal number ++ (codes "\",reason=\"" ++ (reason ++ codes "\"}")))) count

-- the same of each reason: their numbers count from 1 on, and the places of `refused` from 0 on
abbrev pub refusals : Figures → List Sample
refusals f =
    refusal 1 (codes "TooLarge") (slice_index f.refused 0)
    ∷ refusal 2 (codes "Malformed") (slice_index f.refused 1)
    ∷ refusal 3 (codes "BodyHashMismatch") (slice_index f.refused 2)
    ∷ refusal 4 (codes "TooOld") (slice_index f.refused 3)
    ∷ refusal 5 (codes "Known") (slice_index f.refused 4)
    ∷ refusal 6 (codes "Clash") (slice_index f.refused 5)
    ∷ refusal 7 (codes "VolatileFull") (slice_index f.refused 6)
    ∷ []

abbrev pub refused : Figures → Metric
refused f =
    counters (codes "chaindb_arrivals_refused_total") (codes "Arrivals that were refused, by the reason.") (refusals f)

-- what came of what peers sent
abbrev pub arrivals : Figures → List Metric
arrivals f =
    counter (codes "chaindb_arrivals_total") (codes "Arrivals from peers.") (arrived f)
    ∷ counter (codes "chaindb_arrivals_kept_total") (codes "Arrivals that were kept.") f.kept
    ∷ refused f
    ∷ counter (codes "chaindb_discarded_total") (codes "Blocks that were discarded to make places free.") f.discarded
    ∷ []

-- how writing onto the log went, and asking for memory
abbrev pub flushes : Figures → List Metric
flushes f =
    counter (codes "chaindb_flushes_total") (codes "Flushes onto the log that succeeded.") f.flushes
    ∷ counter (codes "chaindb_failed_flushes_total") (codes "Flushes onto the log that failed.") f.failed_flushes
    ∷ counter (codes "chaindb_flush_microseconds_total")
    (codes "Time that flushes took together, in microseconds.") f.flush_microseconds
    ∷ gauge (codes "chaindb_last_flush_microseconds")
    (codes "Time that the last flush took, in microseconds.") f.last_flush_microseconds
    ∷ counter (codes "chaindb_memory_refusals_total") (codes "Times that the node went without memory that it asked for.") f.memory_refusals
    ∷ []

-- the memory that the process has, where the system tells
abbrev pub resident : Option ℕ → List Metric
resident None = []
resident (Some bytes) =
    gauge (codes "chaindb_resident_memory_bytes") (codes "Resident memory of the process, in bytes.") bytes ∷ []

-- the metrics of a node, in the order in which they are told
abbrev pub metrics_of : Figures → List Metric
metrics_of f =
    chain f ++ (mempool f ++ (clients f ++ (arrivals f ++ (flushes f ++ resident f.resident_bytes))))

-- THE TEXT OF A NODE'S FIGURES: the lines of its metrics, one behind the other
abbrev pub text_of_figures : Figures → List ℕ
text_of_figures f = flat_map metric_lines (metrics_of f)
