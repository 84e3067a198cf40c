use Rattle.flushing.proofs.Growing.{grows_through}
use Rattle.flushing.proofs.OnLogs.{opens_to_more}
use Rattle.chain_core.specs.Immutable.{immutable_texts}
use Rattle.flushing.proofs.laws.immutable_blocks_grow.Goals as goal

pub returns-clause-grow : goal.returns-clause-grow
returns-clause-grow c = grows_through

pub returns-clause-crash : goal.returns-clause-crash
returns-clause-crash c verifies before after state acts log left least bytes stands course opens =
    opens_to_more least (immutable_texts verifies before) (immutable_texts verifies after) bytes (grows_through verifies before after state acts log left stands course) opens
