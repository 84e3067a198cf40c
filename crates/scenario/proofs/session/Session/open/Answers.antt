use Rattle.std.proofs.Common.{ℕ, List, Ok, Err, ◌∙◌, subst, refl}
use Rattle.std.specs.Prelude.{codes}
use Rattle.script.specs.Names.{Named}
use Rattle.script.specs.RequestView.{AreNamed}
use Rattle.chain_core.specs.Held.{network_held}
use Rattle.scenario.proofs.OpenLines.{none_opened, open_printed, open_acted}
use Rattle.model.specs.History.{Open}
use Rattle.chain_core.specs.Views.{open_reply_of}
use Rattle.script.specs.Meaning.{OpensFollower}
use Rattle.scenario.proofs.ShortLines.{it_happened}
use Rattle.scenario.proofs.session.Session.open.Goals as goal
use Rattle.scenario.proofs.session.Session.open.Goals.{in-Ok, in_default}

pub returns-in-Ok-print_opening-clause-obeyed : goal.returns-in-Ok-print_opening-clause-obeyed
returns-in-Ok-print_opening-clause-obeyed g c = λ room s holds free.
    elim c.match-reply.branch [
      | in-Ok w ↦ rw w.self-is (
          open_acted (network_held c.args.self.now.core g.S.SigScheme.verifies) s c.args.name.text.now (Ok w.in-Ok.id) c.print_opening.new.line.items c.args.self.now.core _
          (open_printed c.print_opening.new.line.items c.in_ok-line.line.items (codes "open") c.args.name.text.now c.match-reply.reply (Ok w.in-Ok.id) c.in-Ok-print_opening.ensures c.in_ok-line.ensures.empty w.reply-is) holds.stands tt
          (w.bind_follower.ensures.bound room s.names holds.names free) holds.indexes (rw w.in-Ok.is at (c.open-reply.ensures.step s.state holds.stands))
          )
      | in_default w ↦ rw w.self-is (
          open_acted (network_held c.args.self.now.core g.S.SigScheme.verifies) s c.args.name.text.now (Err w.in_default.field-0) c.print_opening.new.line.items c.args.self.now.core _
          (open_printed c.print_opening.new.line.items c.in_ok-line.line.items (codes "open") c.args.name.text.now c.match-reply.reply (Err w.in_default.field-0) c.in-Ok-print_opening.ensures c.in_ok-line.ensures.empty (w.reply-is ∙ w.in_default.is)) holds.stands (rw w.in_default.is at c.open-reply.ensures.memory)
          (subst (λ (names : List (Named ℕ)). AreNamed c.args.self.now.names (record s.names { of_followers = names })) (none_opened s.names.of_followers c.args.name.text.now w.in_default.field-0) holds.names) holds.indexes
          (rw w.in_default.is at (c.open-reply.ensures.step s.state holds.stands))
          )
    ]

pub returns-in-Err-clause-obeyed : goal.returns-in-Err-clause-obeyed
returns-in-Err-clause-obeyed g c = λ room s holds free.
    elim c.match-reply.branch [
      | in-Ok w ↦ rw w.self-is (it_happened (network_held c.args.self.now.core g.S.SigScheme.verifies) s (OpensFollower c.args.name.text.now) Open (open_reply_of c.open-reply.result) c.open-reply.new.self refl (c.open-reply.ensures.step s.state holds.stands))
      | in_default w ↦ rw w.self-is (it_happened (network_held c.args.self.now.core g.S.SigScheme.verifies) s (OpensFollower c.args.name.text.now) Open (open_reply_of c.open-reply.result) c.open-reply.new.self refl (c.open-reply.ensures.step s.state holds.stands))
    ]
