use Rattle.std.proofs.Common.{arith}
use Rattle.chain_core.specs.Held.{network_held}
use Rattle.scenario.proofs.SubmissionLines.{forged_named, none_forged}
use Rattle.scenario.proofs.session.forge.Goals as goal

pub returns-in_ok-bind_block-in-Ok : goal.returns-in_ok-bind_block-in-Ok
returns-in_ok-bind_block-in-Ok g c = λ s stands named free.
    forged_named (network_held c.args.core.now g.S.SigScheme.verifies) s c.args.core.now c.args.name.now c.args.slot c.in-Ok.forged.bytes.items _ c.in-Ok.forged.point c.bind_block.new.self stands c.in-Ok.ensures.forged (omega arith) (c.in_ok-bind_block-in-Ok.ensures s.names named free)

pub returns-in-Err : goal.returns-in-Err
returns-in-Err g c = λ s stands named free.
    none_forged (network_held c.args.core.now g.S.SigScheme.verifies) s c.args.core.now c.args.name.now c.args.slot c.in-Err.fault c.args.names.now stands c.in-Err.ensures.fault named
