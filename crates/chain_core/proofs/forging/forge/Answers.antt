use Rattle.std.proofs.Common.{◌≡◌, ◌+◌, ◌≤◌, ◌^◌, List, [], length, option_map, ◌⊎◌, inl, inr, ap, subst, ◌∙◌, arith}
use Rattle.std.specs.List.{AllByRecursion}
use Rattle.utxo_rules.specs.View.{params_of}
use Rattle.model.specs.Cbor.{text_of}
use Rattle.model.specs.Transaction.{Transaction}
use Rattle.model.specs.Block.{Block, item_of_transactions, block_hash_of, SpellsBlock}
use Rattle.model.specs.Genesis.{Genesis}
use Rattle.model.specs.Ledger.{network_on}
use Rattle.model.specs.Chain.{Tip}
use Rattle.model.specs.Mempool.{picked}
use Rattle.model.proofs.Results.{if_err}
use Rattle.mempool.specs.Picking.{IsSpelled}
use Rattle.block.specs.View.{bytes_of}
use Rattle.block.specs.Written.{full_block}
use Rattle.chain.specs.Chained.{chain_of}
use Rattle.chain_core.specs.ChainDbs.{IsWhole}
use Rattle.chain_core.specs.ForgedBlocks.{IsForgeFault}
use Rattle.chain_core.specs.declared.forging.ForgeFault.TheVariants as fault
use Rattle.chain_core.proofs.ForgedTexts.{not_after, out_of_range, no_fault, body_text, taken, forged_as}
use Rattle.chain_core.proofs.forging.forge.Goals as goal
use Rattle.chain_core.proofs.forging.forge.Goals.{then-slot-ge-NUMBER_LIMIT-via-then-slot-ge-NUMBER_LIMIT, then-slot-ge-NUMBER_LIMIT-via-else-slot-ge-NUMBER_LIMIT+then-number-ge-NUMBER_LIMIT}

pub returns-then-slot-clause-fault : goal.returns-then-slot-clause-fault
returns-then-slot-clause-fault g c = λ genesis opened whole.
    let network = network_on genesis g.S.SigScheme.verifies opened in
    not_after network (chain_of c.args.chain_db.now.chain) c.state-state.result.now (c.state-state.ensures network whole) c.args.chain_db.now.mempool.waiting.txs c.args.slot (omega arith)

pub returns-then-slot-ge-NUMBER_LIMIT-clause-fault : goal.returns-then-slot-ge-NUMBER_LIMIT-clause-fault
returns-then-slot-ge-NUMBER_LIMIT-clause-fault g c = λ genesis opened whole.
    let network = network_on genesis g.S.SigScheme.verifies opened in
    let which : (2 ^ 63 ≤ c.args.slot) ⊎ (2 ^ 63 ≤ length (chain_of c.args.chain_db.now.chain) + 1) = elim c.then-slot-ge-NUMBER_LIMIT.branch [
      | then-slot-ge-NUMBER_LIMIT-via-then-slot-ge-NUMBER_LIMIT w ↦ inl (omega arith)
      | then-slot-ge-NUMBER_LIMIT-via-else-slot-ge-NUMBER_LIMIT+then-number-ge-NUMBER_LIMIT w ↦ inr (omega arith)
    ] in
    out_of_range network (chain_of c.args.chain_db.now.chain) c.state-state.result.now (c.state-state.ensures network whole) c.args.chain_db.now.mempool.waiting.txs c.args.slot (omega arith) which

pub returns-in_err-body-clause-fault : goal.returns-in_err-body-clause-fault
returns-in_err-body-clause-fault g c =
    if_err c.from_residual.result fault.OutOfMemory (λ e. (genesis : Genesis) (opened : List Block) → IsWhole (network_on genesis g.S.SigScheme.verifies opened) c.args.chain_db.now → IsForgeFault (network_on genesis g.S.SigScheme.verifies opened) (chain_of c.args.chain_db.now.chain) c.args.slot e) c.from_residual.ensures.1
    (λ genesis opened whole.
    let network = network_on genesis g.S.SigScheme.verifies opened in
    no_fault network (chain_of c.args.chain_db.now.chain) c.state-state.result.now (c.state-state.ensures network whole) c.args.chain_db.now.mempool.waiting.txs c.args.slot (omega arith) (omega arith) (omega arith))

pub returns-in_default-clause-fault : goal.returns-in_default-clause-fault
returns-in_default-clause-fault g c = λ genesis opened whole.
    let network = network_on genesis g.S.SigScheme.verifies opened in
    no_fault network (chain_of c.args.chain_db.now.chain) c.state-state.result.now (c.state-state.ensures network whole) c.args.chain_db.now.mempool.waiting.txs c.args.slot (omega arith) (omega arith) (omega arith)

pub returns-clause-forged : goal.returns-clause-forged
returns-clause-forged g c = λ genesis opened is_genesis whole.
    let v = g.S.SigScheme.verifies in
    let network = network_on genesis v opened in
    let a = c.args.chain_db.now in
    let state = c.state-state.result.now in
    let is = c.state-state.ensures network whole in
    let waiting = a.mempool.waiting.txs in
    let txs = taken network (chain_of a.chain) state is waiting c.args.slot in
    let same : picked v (params_of c.params.result.now) c.args.slot c.utxo.result.now [] waiting ≡ txs = λ i. picked v (c.params.ensures i) c.args.slot (c.utxo.ensures i) [] waiting in
    let text = c.deref.ensures.value ∙ (c.in_ok-body.ensures.text ∙ ap (λ (ts : List Transaction). text_of (item_of_transactions ts)) same) in
    let spelled = subst (AllByRecursion IsSpelled) same c.in_ok-body.ensures.spelled in
    let body = body_text network (chain_of a.chain) state is waiting c.args.slot is_genesis c.deref.result.now text spelled in
    let previous = ap (λ (t : Tip). t.hash) c.tip-previous.ensures in
    let count : c.saturating_add-number.result ≡ length (chain_of a.chain) + 1 = omega arith in
    forged_as network (chain_of a.chain) state is waiting c.args.slot c.in-Ok.bytes.items (record { number = c.saturating_add-number.result; hash = c.in-Ok.hash }) (option_map bytes_of c.tip-previous.result.hash) (omega arith) (omega arith) (omega arith) previous
    (subst (λ n. SpellsBlock (full_block n c.args.slot (option_map bytes_of c.tip-previous.result.hash) txs) c.in-Ok.bytes.items) count (c.in-Ok.ensures.ok txs body))
    count
    (c.in-Ok.ensures.hash txs body ∙ ap (λ n. block_hash_of (full_block n c.args.slot (option_map bytes_of c.tip-previous.result.hash) txs)) count)
