use Rattle.std.proofs.Common.{Bool, List, [], ◌∷◌, Contains, inl, inr, sym, subst, ◌∙◌}
use Rattle.std.specs.Prelude.{IfSome, MatchOption}
use Rattle.std.specs.List.{AllByRecursion}
use Rattle.model.specs.Block.{Block}
use Rattle.model.specs.Chain.{Follows}
use Rattle.std.proofs.lemmas.List.Elements.{Contains-append_right}
use Rattle.model.specs.Ledger.{network_on}
use Rattle.model.proofs.Lists.{contains_first}
use Rattle.ident.specs.Kinds.{BlockHash}
use Rattle.chain.specs.Chained.{chain_of}
use Rattle.chainsel.specs.Choices.{AreDead, AreDeadInAll, IsSideInAll}
use Rattle.chainsel.specs.Judged.{FindsDead}
use Rattle.chainsel.proofs.Answering.{kept_apart, kept_short, kept_by_death}
use Rattle.chainsel.proofs.Sides.{beside_ready}
use Rattle.chainsel.proofs.selecting.select.Given as given
use Rattle.chainsel.proofs.selecting.select.Goals as goal
use Rattle.chainsel.proofs.selecting.select.Goals.{In_ok-sift}

pub returns-then-branch : goal.returns-then-branch
returns-then-branch g c =
    let verifies = g.S.SigScheme.verifies in
    let chain = chain_of c.args.chain.now in
    let store = c.args.store.now in
    let db = c.args.db.now in
    let new = c.args.new.now in
    let dead : AreDeadInAll verifies chain store db new [] = λ genesis opened ready. tt in
    let beside = subst (λ o. IfSome o (IsSideInAll verifies chain store db new)) (sym c.keep.ensures.side) tt in
    let tells = c.keep.ensures.invalid ∙ c.new-found.ensures in
    elim (c.in_ok-stays_by_links.ensures c.if-branch.true) [
      | inl apart ↦ kept_apart verifies chain store db new c.keep.result [] c.keep.ensures.choice tells dead beside apart
      | inr short ↦ kept_short verifies chain store db new c.keep.result [] c.keep.ensures.choice tells dead beside short.1 short.0
    ]

-- what was found dead beside the chain is so
dead_now : (g : given.Over) (c : In_ok-sift g) → AreDeadInAll g.S.SigScheme.verifies (chain_of c.args.chain.now) c.args.store.now c.args.db.now c.args.new.now c.sift.new.found.hashes.items
dead_now g c genesis opened ready =
    let network = network_on genesis g.S.SigScheme.verifies opened in
    let chain = chain_of c.args.chain.now in
    let store = c.args.store.now in
    let new = c.args.new.now in
    c.in_ok-sift.ensures.dead genesis opened chain (beside_ready network chain store c.args.db.now new ready c.side_before.result _ (subst (λ (b : Block). MatchOption c.side_before.result (AllByRecursion (λ s. Follows s.tip b → ⊥) c.args.db.now.sides) (λ s. Contains c.args.db.now.sides s.now × Follows s.now.tip b)) c.block.ensures c.side_before.ensures))
    (subst (AreDead network chain store new) (sym c.new-found.ensures) tt)

pub returns-then-not-branch : goal.returns-then-not-branch
returns-then-not-branch g c =
    let verifies = g.S.SigScheme.verifies in
    let chain = chain_of c.args.chain.now in
    let store = c.args.store.now in
    let db = c.args.db.now in
    let new = c.args.new.now in
    let old = c.new-found.result.hashes.items in
    let more = c.sift.new.found.hashes.items in
    let noted = subst (λ (stays : Bool). FindsDead store new stays old more) c.if-not-branch.true c.in_ok-sift.ensures.found in
    let among : Contains more noted.0 = subst (λ (hashes : List BlockHash). Contains hashes noted.0) (sym noted.2) (Contains-append_right old (noted.0 ∷ []) noted.0 (contains_first noted.0 [])) in
    let beside = subst (λ o. IfSome o (IsSideInAll verifies chain store db new)) (sym c.keep-then-not-branch.ensures.side) tt in
    kept_by_death verifies chain store db new c.keep-then-not-branch.result more c.keep-then-not-branch.ensures.choice c.keep-then-not-branch.ensures.invalid
    (dead_now g (goal.at.returns-then-not-branch g c).In_ok-sift) beside noted.0 among noted.1

pub search-requires-clause-dead : goal.search-requires-clause-dead
search-requires-clause-dead g c = dead_now g (goal.at.search-requires-clause-dead g c).In_ok-sift
