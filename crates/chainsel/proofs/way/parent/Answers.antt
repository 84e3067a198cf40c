use Rattle.std.proofs.Common.{◌≡◌, ◌++◌, List, map, subst}
use Rattle.std.specs.List.{AllByRecursion}
use Rattle.model.specs.Block.{Block}
use Rattle.chainsel.specs.Paths.{IsOnPath}
use Rattle.chainsel.proofs.Lists.{all_front}
use Rattle.chainsel.proofs.way.parent.Goals as goal

-- what is left of the blocks is what paths are made of
left : (P : Block → Type 0) (old new : List Block) → AllByRecursion P old → (rest : List Block) × (old ≡ new ++ rest) → AllByRecursion P new
left P old new all front = all_front P new front.0 (subst (AllByRecursion P) front.1 all)

pub returns-in-Some-clause-walked : goal.returns-in-Some-clause-walked
returns-in-Some-clause-walked g c =
    left (IsOnPath c.args.store.now c.args.found.now.hashes.items c.args.new.now) (map (λ x. x.now) c.args.walked.now.items) (map (λ x. x.now) c.walked_parent.new.walked.items) c.requires c.walked_parent.ensures.front

pub returns-then-follows-clause-walked : goal.returns-then-follows-clause-walked
returns-then-follows-clause-walked g c =
    left (IsOnPath c.args.store.now c.args.found.now.hashes.items c.args.new.now) (map (λ x. x.now) c.args.walked.now.items) (map (λ x. x.now) c.walked_parent.new.walked.items) c.requires c.walked_parent.ensures.front

pub returns-clause-walked : goal.returns-clause-walked
returns-clause-walked g c =
    left (IsOnPath c.args.store.now c.args.found.now.hashes.items c.args.new.now) (map (λ x. x.now) c.args.walked.now.items) (map (λ x. x.now) c.walked_parent.new.walked.items) c.requires c.walked_parent.ensures.front
