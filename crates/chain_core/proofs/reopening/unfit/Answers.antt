use Rattle.std.proofs.Common.{refl, subst}
use Rattle.ledger.specs.Judgement.{IsApplyFault}
use Rattle.ledger.specs.declared.block_fault.ApplyFault.{ApplyFault}
use Rattle.chain_core.proofs.OpenedOn.{never_fits}
use Rattle.chain_core.proofs.reopening.unfit.Goals as goal

pub returns-in-Refused : goal.returns-in-Refused
returns-in-Refused c = λ verifies s b bytes read of. (refl, never_fits verifies s bytes b c.in-Refused.field-0 read (subst (λ (e : ApplyFault). IsApplyFault verifies s b e) c.in-Refused.is of))
