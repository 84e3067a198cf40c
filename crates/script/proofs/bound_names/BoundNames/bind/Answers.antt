use Rattle.std.proofs.Common.{◌≡◌, refl, ◌∙◌, ap}
use Rattle.script.specs.declared.bound_names.BoundNames.{BoundNames}
use Rattle.script.specs.NamesView.{bound_of}
use Rattle.script.proofs.Bindings.{after_insert, bound_after, map_none, or_none}
use Rattle.script.proofs.bound_names.BoundNames.bind.Goals as goal
use Rattle.script.proofs.bound_names.BoundNames.bind.Goals.{in-Some+in_ok-name_block, in_default}

pub returns : goal.returns
returns c = λ names bound free.
    let same : c.match-bound.self.by_name ≡ c.args.self.now.by_name = elim c.match-bound.branch [ in-Some+in_ok-name_block w ↦ ap (λ (n : BoundNames). n.by_name) w.self-is ∙ w.name_block.ensures.by_name | in_default w ↦ ap (λ (n : BoundNames). n.by_name) w.self-is ] in
    bound_after c.args.self.now _ names (record { name = c.args.name.now; bound = bound_of c.args.bound }) bound
    (λ q. rw (c.in_ok-insert.ensures.entries, same)
    (after_insert (λ k. k.items) bound_of q c.args.name.now c.args.self.now.by_name.entries c.in_ok-key.key c.args.bound (bound_of c.args.bound) c.in_ok-key.ensures.items refl
    (map_none bound_of _ (bound.by_name c.args.name.now ∙ free))))
    (λ q. elim c.match-bound.branch [ in-Some+in_ok-name_block w ↦ rw (w.self-is, w.in-Some.is) (w.in_ok-name_block.ensures.by_hash q) | in_default w ↦ rw (w.self-is, w.in_default.is) (or_none _) ])
