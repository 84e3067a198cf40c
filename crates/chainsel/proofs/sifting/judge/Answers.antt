use Rattle.std.proofs.Common.{◌≡◌, List, sym, subst, ap, ◌∙◌}
use Rattle.model.specs.Block.{block_hash_of}
use Rattle.model.specs.Ledger.{network_on}
use Rattle.ident.specs.Kinds.{BlockHash}
use Rattle.ledger.specs.View.{fault_of}
use Rattle.ledger.specs.declared.block_fault.ApplyFault.TheVariants.{Refused, OutOfMemory}
use Rattle.ledger.specs.Judgement.{IsApplyFault}
use Rattle.chainsel.specs.Judged.{IsSifted, GainsFound}
use Rattle.chainsel.proofs.Founds.{gains_one}
use Rattle.chainsel.proofs.Through.{fit_is_live}
use Rattle.chainsel.proofs.Sifted.{state_next, dead_next, sifted_waiting, sifted_dead}
use Rattle.chainsel.proofs.sifting.judge.Goals as goal

pub returns-in_ok-push-in-Ok-clause-sifted : goal.returns-in_ok-push-in-Ok-clause-sifted
returns-in_ok-push-in-Ok-clause-sifted g c = λ genesis opened chain new at sifted.
    let network = network_on genesis g.S.SigScheme.verifies opened in
    let store = c.args.store.now in
    let found = c.args.found.now.hashes.items in
    let b = c.args.block.now in
    let live = fit_is_live store found b c.requires.fit in
    let next = state_next network chain store new c.args.before.now.block.now b c.args.before.now.state c.in-Ok.state at c.in-Ok.ensures.applied live in
    subst (IsSifted network chain store new found) (sym c.in_ok-push-in-Ok.ensures.items)
    (sifted_waiting network chain store new found c.args.waiting.now.items (record { block = c.args.block; state = c.in-Ok.state }) sifted next)

pub returns-in_ok-push-in-Err-Refused-clause-found : goal.returns-in_ok-push-in-Err-Refused-clause-found
returns-in_ok-push-in-Err-Refused-clause-found g c =
    let store = c.args.store.now in
    let found = c.args.found.now.hashes.items in
    subst (GainsFound store found) (sym c.in_ok-push-in-Err-Refused.ensures) (gains_one store found c.args.block.now c.hash.result c.requires.fit (c.hash.ensures ∙ ap block_hash_of c.block.ensures))

pub returns-in_ok-push-in-Err-Refused-clause-sifted : goal.returns-in_ok-push-in-Err-Refused-clause-sifted
returns-in_ok-push-in-Err-Refused-clause-sifted g c = λ genesis opened chain new at sifted.
    let network = network_on genesis g.S.SigScheme.verifies opened in
    let store = c.args.store.now in
    let found = c.args.found.now.hashes.items in
    let b = c.args.block.now in
    let refused = subst (IsApplyFault network.verifies c.args.before.now.state b) c.in-Err-Refused.field-0-is (c.in-Err-Refused.ensures.refused (λ same. let e : Refused c.in-Err-Refused.field-0-0 ≡ OutOfMemory = sym c.in-Err-Refused.field-0-is ∙ same in cc)) in
    let dead = dead_next network chain store new c.args.before.now.block.now b c.args.before.now.state (fault_of c.in-Err-Refused.field-0-0) c.hash.result at c.requires.follows refused.applies
    (fit_is_live store found b c.requires.fit) (c.hash.ensures ∙ ap block_hash_of c.block.ensures) in
    subst (λ (hashes : List BlockHash). IsSifted network chain store new hashes c.args.waiting.now.items) (sym c.in_ok-push-in-Err-Refused.ensures)
    (sifted_dead network chain store new found c.args.waiting.now.items c.hash.result sifted dead)
