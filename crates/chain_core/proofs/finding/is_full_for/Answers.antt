use Rattle.std.proofs.Common.{ℕ, length, subst, ◌↔◌}
use Rattle.std.specs.Prelude.{replicate, IsTrue}
use Rattle.std.proofs.lemmas.List.{length-replicate}
use Rattle.model.specs.History.{IsFullFor}
use Rattle.blockstore.specs.Insertion.{IsFull}
use Rattle.blockstore.proofs.ForCallers.{full_over}
use Rattle.chain_core.proofs.finding.is_full_for.Goals as goal

pub returns : goal.returns
returns g c = λ network s whole has.
    let store = c.args.chain_db.now.store in
    let over = full_over network s store (replicate c.args.size 0) (record { live = has.live; capacity = whole.capacity; distinct = whole.settled.distinct }) in
    let same : IsFull store c.args.size ↔ IsFullFor network s c.args.size = subst (λ (n : ℕ). IsFull store n ↔ IsFullFor network s n) (length-replicate c.args.size 0) over in
    ((λ is. same.0 (c.is_full_for.ensures.0 is)), (λ full. c.is_full_for.ensures.1 (same.1 full)))
