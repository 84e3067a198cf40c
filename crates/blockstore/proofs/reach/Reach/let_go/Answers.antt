use Rattle.std.proofs.Common.{rules, ◌≡◌, ◌∙◌, ◌++◌, ◌∷◌, [], refl, sym, inl, inr}
use Rattle.block.specs.View.{tip_of}
use Rattle.blockstore.proofs.reach.Reach.let_go.Goals as goal

pub returns-then-eq-clause-gone : goal.returns-then-eq-clause-gone
returns-then-eq-clause-gone g c =
    let x = c.in-Some.ensures.place in
    let is : tip_of c.in-Some.place ≡ tip_of c.args.root.now = search rules in
    inr (x.0, x.1, x.2, x.3, inl (x.4 ∙ is, refl, refl))

pub returns-clause-gone : goal.returns-clause-gone
returns-clause-gone g c =
    let x = c.in-Some.ensures.place in
    let pushed : c.push.new.self.items ≡ c.args.self.now.waiting.items ++ c.in-Some.place ∷ [] = c.push.ensures.items ∙ rw (c.push.ensures.succeeds c.requires.room) refl in
    inr (x.0, x.1, x.2, x.3, inr (refl, (c.in-Some.place, sym x.4, pushed)))
