use Rattle.std.proofs.Common.{[], ◌∷◌, ◌++◌, refl, sym, ap, ◌∙◌, subst}
use Rattle.shared.specs.Starts.{Start, network_from, start_of}
use Rattle.model.specs.Journal.{Knowledge, IsCalled}
use Rattle.shared.specs.Heights.{height_after, knowledge_of}
use Rattle.shared.proofs.Calls.{legal_of, height_of_core, call_of}
use Rattle.shared.proofs.journal.Journal.write.Goals as goal

pub seal-requires-clause-legal : goal.seal-requires-clause-legal
seal-requires-clause-legal g c =
    legal_of g.S.SigScheme.verifies (start_of c.args.heights.now.shared.key) g.B.Room.start c.args.self.now c.self.inside.writer.me.0.seen c.args.entry.now c.args.core.now c.requires.core c.requires.heights.2 c.self.view_is

pub seal-requires-clause-height : goal.seal-requires-clause-height
seal-requires-clause-height g c =
    height_of_core g.S.SigScheme.verifies g.B.Room.start c.args.self.now c.self.inside.writer.me.0.seen c.args.entry.now c.args.core.now c.height-height.result c.requires.core c.height-height.ensures c.self.view_is
    ∙ ap (λ (x : Start). height_after x (c.self.inside.writer.me.0.seen ++ c.args.entry.now ∷ [])) (sym c.requires.heights.2)

pub returns-clause-called : goal.returns-clause-called
returns-clause-called g c =
    let legal = legal_of g.S.SigScheme.verifies g.B.Room.start g.B.Room.start c.args.self.now c.self.inside.writer.me.0.seen c.args.entry.now c.args.core.now c.requires.core refl c.self.view_is in
    subst (λ (k : Knowledge). IsCalled (network_from g.B.Room.start g.S.SigScheme.verifies) k c.args.entry.now (knowledge_of c.caller.inside.number c.seal.new.seat.me.0)) c.caller.view_is
    (call_of g.S.SigScheme.verifies g.B.Room.start c.caller.inside.number c.self.inside.writer.me.0 c.args.entry.now c.caller.inside.seat.me.0 c.seal.new.seat.me.0 c.caller.invariant.start_is (c.requires.own ∙ sym (ap (λ (k : Knowledge). k.caller) c.caller.view_is)) legal c.seal.ensures.sealed)
