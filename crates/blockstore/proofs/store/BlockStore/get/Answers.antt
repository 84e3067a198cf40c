use Rattle.std.proofs.Common.{subst, MatchOption}
use Rattle.block.specs.View.{tip_of}
use Rattle.blockstore.specs.Stored.{Store, IsSet}
use Rattle.blockstore.specs.Answers.{HasNoneAt, IsAt}
use Rattle.blockstore.proofs.Stores.{AreRead, known_is_live}
use Rattle.blockstore.proofs.Sames.{get_answer}
use Rattle.blockstore.proofs.store.BlockStore.get.Goals as goal

pub returns-clause-found : goal.returns-clause-found
returns-clause-found g c =
    let old : Store = record { capacity = c.self.inside.capacity; root = tip_of c.self.inside.root; blocks = c.self.inside.blocks.blocks } in
    subst (λ (s : Store). MatchOption c.with_hash.result (HasNoneAt s c.args.hash.bytes) (λ found. IsAt s c.args.hash.bytes found.now)) c.self.view_is
    (get_answer old c.args.hash.bytes c.with_hash.result c.with_hash.ensures)

pub returns-clause-one : goal.returns-clause-one
returns-clause-one g c = λ b read.
    known_is_live c.args.self.now b (subst (λ (s : Store). AreRead s.blocks) c.self.view_is c.self.invariant.read) read

pub returns-clause-set : goal.returns-clause-set
returns-clause-set g c = subst IsSet c.self.view_is c.self.invariant.is_set
