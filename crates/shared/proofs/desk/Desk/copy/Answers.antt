use Rattle.std.proofs.Common.{◌≡◌, ◌∙◌, sym}
use Rattle.chain_core.specs.Reopening.{texts_in}
use Rattle.shared.proofs.Copies.{copies_of}
use Rattle.shared.proofs.desk.Desk.copy.Goals as goal

pub returns-clause-copies : goal.returns-clause-copies
returns-clause-copies g c =
    let seen : c.tell.new.caller.seen ≡ c.self.inside.journal = c.tell.ensures.informed.seen ∙ (c.tell.ensures.journal ∙ sym c.self.view_is) in
    copies_of g.S.SigScheme.verifies g.B.Room.start c.self.inside.journal c.tell.new.caller.seen c.self.inside.core c.args.from (texts_in c.in_ok-texts.texts.items) c.self.invariant seen c.in_ok-texts.ensures.texts
