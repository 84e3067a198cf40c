use Rattle.std.proofs.Common.{◌∙◌}
use Rattle.chain_core.proofs.InMemory.{all_behind}
use Rattle.chain_core.proofs.chain_db.ChainDb.in_memory.Goals as goal

pub returns-clause-all : goal.returns-clause-all
returns-clause-all g c = λ none. c.resident_after.ensures ∙ all_behind c.args.self.now.chain c.gone_len.result c.gone_len.ensures.gone none
