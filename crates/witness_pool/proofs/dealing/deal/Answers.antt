use Rattle.std.proofs.Common.{[], replicate, sym, ap, ◌∙◌}
use Rattle.witness_pool.specs.Dealing.{dealt}
use Rattle.witness_pool.proofs.Turns.{dealt_last}
use Rattle.witness_pool.proofs.dealing.deal.Goals as goal

pub loop-item-preserved : goal.loop-item-preserved
loop-item-preserved g c = c.in_ok-deal_one.ensures ∙ ap (dealt c.in-Some.item) c.loop-item.invariant ∙ sym (dealt_last c.loop-item.yielded c.in-Some.item (replicate c.args.count []))
