use Rattle.std.proofs.Common.{List, ap, sym, ◌∙◌}
use Rattle.model.specs.Block.{Block}
use Rattle.model.specs.Chain.{immutable_part}
use Rattle.model.specs.Journal.{history_of}
use Rattle.chain_core.specs.Held.{network_held}
use Rattle.chain_core.specs.Immutable.{texts_of}
use Rattle.flushing.proofs.laws.flushed_blocks_open_again.Goals as goal

pub returns-clause-core : goal.returns-clause-core
returns-clause-core c = λ verifies core history state log read legal stands begins. record {
  opened = core.opened;
  read = read;
  history = history;
  state = state;
  legal = legal;
  later = begins.later;
  are = ap (λ (c : List Block). texts_of (immutable_part (network_held core verifies) c)) (sym stands.chain) ∙ begins.are;
}

pub returns-clause-shared : goal.returns-clause-shared
returns-clause-shared c = λ verifies start journal log read begin. record {
  opened = start.opened;
  read = read;
  history = history_of journal;
  state = begin.are.legal.state;
  legal = begin.are.legal.legal;
  later = begin.begins.later;
  are = sym begin.are.texts_are ∙ begin.begins.are;
}
