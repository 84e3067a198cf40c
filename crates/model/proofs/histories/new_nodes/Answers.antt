use Rattle.std.proofs.Common.{inl, inr, arith}
use Rattle.model.specs.Ledger.{network_of}
use Rattle.model.proofs.Lists.{nothing_contained}
use Rattle.model.proofs.LegalHistories.{opens_nothing, kept_by_history}
use Rattle.model.proofs.histories.new_nodes.Goals as goal

pub returns-clause-opening : goal.returns-clause-opening
returns-clause-opening c = opens_nothing

pub returns-clause-immutable : goal.returns-clause-immutable
returns-clause-immutable c = λ genesis verifies chain. omega arith

pub returns-clause-kept : goal.returns-clause-kept
returns-clause-kept c = λ genesis verifies history s b legal.
    let is = kept_by_history (network_of genesis verifies) history s b legal in
    (λ member. elim (is.0 member) [ inl nothing ↦ absurd (nothing_contained b nothing) | inr by_history ↦ by_history ], λ by_history. is.1 (inr by_history))
