use Rattle.std.proofs.Common.{◌≡◌, Some, None, option_map, sym, ap, ◌∙◌}
use Rattle.snapshot.specs.Begun.{Begun}
use Rattle.snapshot.specs.View.{front_view}
use Rattle.snapshot.proofs.Refusing.{told, refused}
use Rattle.snapshot.proofs.reader.SnapshotReader.push.Goals as goal

pub returns-in_default-clause-refused : goal.returns-in_default-clause-refused
returns-in_default-clause-refused c =
    let none : c.args.self.now.front ≡ None = ap (λ (b : Begun). b.front) (sym c.self.view_is) ∙ ap (option_map front_view) c.in_default.is in
    refused c.push_front.result c.args.self.now c.args.part.now (told c.push_front.result c.args.self.now c.args.part.now None none c.push_front.ensures.fault)

pub returns-clause-refused : goal.returns-clause-refused
returns-clause-refused c =
    let front = front_view c.in-Some.front in
    let some : c.args.self.now.front ≡ Some front = ap (λ (b : Begun). b.front) (sym c.self.view_is) ∙ ap (option_map front_view) c.in-Some.is in
    refused c.push_outputs.result c.args.self.now c.args.part.now (told c.push_outputs.result c.args.self.now c.args.part.now (Some front) some c.push_outputs.ensures.fault)
