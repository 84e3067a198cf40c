use Rattle.std.proofs.Common.{◌≡◌, ◌∷◌, sym, subst, ap, ◌∙◌}
use Rattle.std.specs.List.{AllByRecursion}
use Rattle.model.specs.Block.{block_hash_of}
use Rattle.model.specs.Ledger.{network_on}
use Rattle.model.proofs.Lists.{all_push}
use Rattle.blockstore.specs.Stored.{blocks_of}
use Rattle.ledger.specs.View.{fault_of}
use Rattle.ledger.specs.declared.block_fault.ApplyFault.TheVariants.{Refused, OutOfMemory}
use Rattle.ledger.specs.Judgement.{IsApplyFault}
use Rattle.chainsel.specs.Choices.{IsFoundDead}
use Rattle.chainsel.proofs.Sides.{applied_on, dead_on}
use Rattle.chainsel.proofs.sifting.judge_on.Goals as goal

pub returns-in_ok-judge_behind-in-Ok-clause-dead : goal.returns-in_ok-judge_behind-in-Ok-clause-dead
returns-in_ok-judge_behind-in-Ok-clause-dead g c = λ genesis opened chain side dead.
    let new = c.args.new.now in
    c.in_ok-judge_behind-in-Ok.ensures.dead genesis opened chain new
    (applied_on (network_on genesis g.S.SigScheme.verifies opened) chain c.args.store.now new c.args.state.now c.in-Ok.after side c.in-Ok.ensures.applied) dead

pub returns-in_ok-push-in-Err-Refused-clause-dead : goal.returns-in_ok-push-in-Err-Refused-clause-dead
returns-in_ok-push-in-Err-Refused-clause-dead g c = λ genesis opened chain side dead.
    let network = network_on genesis g.S.SigScheme.verifies opened in
    let store = c.args.store.now in
    let new = c.args.new.now in
    let state = c.args.state.now in
    let refused = subst (IsApplyFault network.verifies state new) c.in-Err-Refused.field-0-is (c.in-Err-Refused.ensures.refused (λ same. let e : Refused c.in-Err-Refused.field-0-0 ≡ OutOfMemory = sym c.in-Err-Refused.field-0-is ∙ same in cc)) in
    let one = dead_on network chain store new state (fault_of c.in-Err-Refused.field-0-0) c.hash.result side c.requires refused.applies (c.hash.ensures ∙ ap block_hash_of c.block.ensures) in
    subst (AllByRecursion (IsFoundDead network chain (new ∷ blocks_of store))) (sym c.in_ok-push-in-Err-Refused.ensures)
    (all_push (IsFoundDead network chain (new ∷ blocks_of store)) c.args.found.now.hashes.items c.hash.result dead one)

pub returns-in_ok-push-in-Err-Refused-clause-found : goal.returns-in_ok-push-in-Err-Refused-clause-found
returns-in_ok-push-in-Err-Refused-clause-found g c = (c.hash.result, c.hash.ensures ∙ ap block_hash_of c.block.ensures, c.in_ok-push-in-Err-Refused.ensures)
