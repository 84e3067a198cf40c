use Rattle.std.proofs.Common.{subst, IfOk, OnErr, map, option_map}
use Rattle.block.specs.View.{bytes_of}
use Rattle.block.specs.View.{tip_of}
use Rattle.blockstore.specs.Stored.{Store}
use Rattle.blockstore.specs.Answers.{AreSuccessors, HasSuccessor}
use Rattle.blockstore.proofs.Sames.{successors_answer}
use Rattle.blockstore.proofs.store.BlockStore.successors.Goals as goal

pub returns-clause-found : goal.returns-clause-found
returns-clause-found g c =
    let old : Store = record { capacity = c.self.inside.capacity; root = tip_of c.self.inside.root; blocks = c.self.inside.blocks.blocks } in
    subst (λ (s : Store). IfOk c.after.result (λ found. AreSuccessors s (option_map bytes_of c.args.previous) (map (λ x. x.now) found.items))) c.self.view_is
    (successors_answer old (option_map bytes_of c.args.previous) c.after.result c.after.ensures.found)

pub returns-clause-some : goal.returns-clause-some
returns-clause-some g c =
    let old : Store = record { capacity = c.self.inside.capacity; root = tip_of c.self.inside.root; blocks = c.self.inside.blocks.blocks } in
    subst (λ (s : Store). OnErr c.after.result (HasSuccessor s (option_map bytes_of c.args.previous))) c.self.view_is c.after.ensures.some
