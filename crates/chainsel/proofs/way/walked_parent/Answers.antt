use Rattle.std.proofs.Common.{◌≡◌, ◌++◌, List, [], ◌∷◌, map, sym, ap, ◌∙◌, append-nil, append_assoc}
use Rattle.std.proofs.lemmas.List.{map_push}
use Rattle.chainsel.proofs.way.walked_parent.Goals as goal

-- with the last of what is left taken out, it stands before the rest
popped : {X Y : Type 0} (f : X → Y) (all old new : List X) (x : X) (rest : List Y) → map f all ≡ map f old ++ rest → old ≡ new ++ x ∷ [] → map f all ≡ map f new ++ f x ∷ rest
popped f all old new x rest is pushed =
    is ∙ (ap (λ zs. map f zs ++ rest) pushed ∙ (ap (λ zs. zs ++ rest) (map_push f new x) ∙ append_assoc (map f new) (f x ∷ []) rest))

pub loop-before-init : goal.loop-before-init
loop-before-init g c = ([], sym (append-nil (map (λ x. x.now) c.args.walked.now.items)))

pub loop-before-preserved : goal.loop-before-preserved
loop-before-preserved g c =
    let left = c.loop-before.invariant in
    (c.in-Some.before.now ∷ left.0, popped (λ x. x.now) c.args.walked.now.items c.loop-before.walked.items c.pop.new.self.items c.in-Some.before left.0 left.1 c.in-Some.ensures.items)
