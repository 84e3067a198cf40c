use Rattle.std.proofs.Common.{sym, ap, ◌∙◌}
use Rattle.model.specs.Block.{Block}
use Rattle.chain_core.proofs.BlocksByHash.{found_live, live_there, chain_there, on_chain, none_live}
use Rattle.chain_core.proofs.finding.place_in.Goals as goal

pub returns-in-Some : goal.returns-in-Some
returns-in-Some g c = λ network s whole has. record {
  block = c.in-Some.block.now;
  member = chain_there network c.args.chain_db.now s has c.in-Some.block.now c.in-Some.ensures.0;
  hash_is = c.in-Some.ensures.1;
  number_is = sym c.number.ensures;
}

pub returns-in-Some-get : goal.returns-in-Some-get
returns-in-Some-get g c = λ network s whole has.
    let at = c.in-Some-get.ensures.found in (
      on_chain network c.args.chain_db.now s has c.args.hash.bytes (c.in_default.ensures network whole),
      record {
        block = c.in-Some-get.stored.now.block;
        member = live_there network c.args.chain_db.now s has c.in-Some-get.stored.now.block (found_live c.args.chain_db.now.store c.args.hash.bytes c.in-Some-get.stored.now at);
        hash_is = at.same;
        number_is = sym (c.number-in-Some-get.ensures ∙ ap (λ (b : Block). b.header.number) c.block.ensures);
      },
    )

pub returns-in-None : goal.returns-in-None
returns-in-None g c = λ network s whole has. (
  on_chain network c.args.chain_db.now s has c.args.hash.bytes (c.in_default.ensures network whole),
  none_live network c.args.chain_db.now s has c.args.hash.bytes c.in-None.ensures.found,
)
