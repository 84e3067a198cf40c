use Rattle.std.proofs.Common.{◌≡◌, true, false, refl, ap, ◌∙◌}
use Rattle.std.specs.FinMap as finite
use Rattle.persistent_map.proofs.ForCallers.{insert_of, remove_of}
use Rattle.std.specs.Arc.{arc_value}
use Rattle.watching.specs.Owned.{owner_cmp, Owned}
use Rattle.watching.proofs.Owning.{owners_total, owners_same, set_none, set_some}
use Rattle.watching.proofs.owners.Owners.set.Goals as goal
use Rattle.watching.proofs.owners.Owners.set.Goals.{in-Fork-2, in-Leaf-2, in-Some-2, in-None-2}

pub returns-in_ok-remove : goal.returns-in_ok-remove
returns-in_ok-remove c =
    let call = c.in_ok-remove.ensures in
    let is =
    ap (finite.from_sorted {R = owner_cmp}) call.ok
    ∙ remove_of owner_cmp owners_total owners_same c.self.inside.map c.args.owner call.rose
    ∙ ap (λ (m : Owned). finite.remove m c.args.owner) c.self.view_is
    ∙ set_none c.args.self.now c.args.owner c.args.outputs (c.if-is_empty.ensures.0 refl) in
    elim c.match-outputs-2.branch [
      | in-Fork-2 w ↦ w.self-is ∙ is
      | in-Leaf-2 w ↦ w.self-is ∙ is
    ]

pub returns-in_ok-insert : goal.returns-in_ok-insert
returns-in_ok-insert c =
    let call = c.in_ok-insert.ensures in
    let put = arc_value c.in_ok-outputs.outputs in
    let is =
    ap (finite.from_sorted {R = owner_cmp}) call.ok
    ∙ insert_of owner_cmp owners_total c.self.inside.map c.args.owner put call.rose
    ∙ ap (λ (m : Owned). finite.insert m c.args.owner put) c.self.view_is
    ∙ ap (finite.insert c.args.self.now c.args.owner) c.in_ok-outputs.ensures.ok
    ∙ set_some c.args.self.now c.args.owner c.args.outputs (λ none. let no : false ≡ true = c.if-is_empty.ensures.1 none in cc) in
    elim c.match-branch-5.branch [
      | in-Some-2 w ↦ w.self-is ∙ is
      | in-None-2 w ↦ w.self-is ∙ is
    ]
