use Rattle.std.proofs.Common.{sym, ap, subst, ◌∙◌, inl, inr, Contains}
use Rattle.model.specs.Block.{block_hash_of}
use Rattle.model.specs.History.{live_of}
use Rattle.chain_core.proofs.BlocksByHash.{found_live, live_there, chain_there, on_chain, none_live}
use Rattle.chain_core.proofs.finding.block_with.Goals as goal

pub returns-in-Some : goal.returns-in-Some
returns-in-Some g c = λ network s whole has. (
  inl (subst (Contains s.chain) (sym c.block.ensures) (chain_there network c.args.chain_db.now s has c.in-Some.block.now c.in-Some.ensures.0)),
  ap block_hash_of c.block.ensures ∙ c.in-Some.ensures.1,
)

pub returns-in-Some-get : goal.returns-in-Some-get
returns-in-Some-get g c = λ network s whole has.
    let at = c.in-Some-get.ensures.found in
    (inr (subst (Contains (live_of network s)) (sym c.block-in-Some-get.ensures) (live_there network c.args.chain_db.now s has c.in-Some-get.stored.now.block (found_live c.args.chain_db.now.store c.args.hash.bytes c.in-Some-get.stored.now at))), ap block_hash_of c.block-in-Some-get.ensures ∙ at.same)

pub returns-in-None : goal.returns-in-None
returns-in-None g c = λ network s whole has. (
  on_chain network c.args.chain_db.now s has c.args.hash.bytes (c.in_default.ensures network whole),
  none_live network c.args.chain_db.now s has c.args.hash.bytes c.in-None.ensures.found,
)
