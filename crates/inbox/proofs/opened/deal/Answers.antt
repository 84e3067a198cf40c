use Rattle.inbox.proofs.Moves.{deals}
use Rattle.inbox.proofs.opened.deal.Goals as goal

pub another-pass-requires-clause-rule : goal.another-pass-requires-clause-rule
another-pass-requires-clause-rule g c = deals _ _ c.args.number c.requires.deals
