use Rattle.std.proofs.Common.{◌≡◌, Option, Some, None, ap, ◌∙◌}
use Rattle.std.specs.Prelude.{unwrap_or}
use Rattle.std.specs.FinMap as finite
use Rattle.persistent_map.proofs.ForCallers.{get_of}
use Rattle.watching.specs.Owned.{owner_cmp}
use Rattle.watching.specs.Histories.{History, Histories}
use Rattle.watching.proofs.histories.Histories.of.Goals as goal

pub returns-in-Some-clause-history : goal.returns-in-Some-clause-history
returns-in-Some-clause-history c =
    let owner = c.args.owner.now in
    let found : Some c.in-Some.history.now ≡ finite.get c.args.self.now owner =
    c.in-Some.ensures.value ∙ get_of owner_cmp c.self.inside.map owner c.get.ensures.rise ∙ ap (λ (m : Histories). finite.get m owner) c.self.view_is in
    ap (λ (o : Option History). unwrap_or o finite.empty) found

pub returns-in-None-clause-history : goal.returns-in-None-clause-history
returns-in-None-clause-history c =
    let owner = c.args.owner.now in
    let found : None ≡ finite.get c.args.self.now owner =
    c.in-None.ensures.value ∙ get_of owner_cmp c.self.inside.map owner c.get.ensures.rise ∙ ap (λ (m : Histories). finite.get m owner) c.self.view_is in
    c.self.invariant.2 ∙ ap (λ (o : Option History). unwrap_or o finite.empty) found
