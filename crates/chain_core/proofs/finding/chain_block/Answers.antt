use Rattle.std.proofs.Common.{◌≡◌, None, false, true, refl, sym, ap, ◌∙◌}
use Rattle.std.proofs.lemmas.Option.{same_Some, none-some}
use Rattle.model.specs.Block.{Block, block_hash_of}
use Rattle.chain.specs.Chained.{chain_of}
use Rattle.chain_core.specs.Numbers.{block_numbered}
use Rattle.chain_core.proofs.InMemory.{numbered_all}
use Rattle.chain_core.proofs.PastHashes.{none_on_chain, numbered_in, got_past}
use Rattle.chain_core.proofs.BlocksByHash.{found_one}
use Rattle.chain_core.proofs.finding.chain_block.Goals as goal

pub returns-in-Some : goal.returns-in-Some
returns-in-Some g c = got_past c.args.chain_db.now c.get.result (λ b. b.now) c.in-Some.number c.args.hash.bytes c.get.ensures.there c.get.ensures.block c.in-Some.ensures.1

pub returns-in_default-get : goal.returns-in_default-get
returns-in_default-get g c = λ network whole.
    none_on_chain network c.args.chain_db.now whole c.args.hash.bytes
    c.in_default.ensures
    (λ b live same at. c.in_default-get.ensures.found b live same)

pub returns-in_default-get-2 : goal.returns-in_default-get-2
returns-in_default-get-2 g c = λ network whole.
    none_on_chain network c.args.chain_db.now whole c.args.hash.bytes
    c.in_default.ensures
    (λ b live same at.
    let one = found_one c.args.chain_db.now.store c.args.hash.bytes c.in-Some-get.stored.now c.get-2.ensures.set c.in-Some-get.ensures.found b live same in
    let number : c.number.result ≡ b.header.number = c.number.ensures ∙ (ap (λ (x : Block). x.header.number) c.block.ensures ∙ ap (λ (x : Block). x.header.number) one) in
    none-some b (numbered_all c.args.chain_db.now.chain c.number.result None whole.gone c.in_default-get-2.ensures.there (λ le. refl) ∙ (ap (block_numbered (chain_of c.args.chain_db.now.chain)) number ∙ at)))

pub returns-then-has_hash : goal.returns-then-has_hash
returns-then-has_hash g c = (
  numbered_in (chain_of c.args.chain_db.now.chain) c.number.result c.in-Some-get-2.block.now c.in-Some-get-2.ensures.block.1,
  c.if-has_hash.ensures.0 refl,
)

pub returns-else-has_hash : goal.returns-else-has_hash
returns-else-has_hash g c = λ network whole.
    none_on_chain network c.args.chain_db.now whole c.args.hash.bytes
    c.in_default.ensures
    (λ b live same at.
    let one = found_one c.args.chain_db.now.store c.args.hash.bytes c.in-Some-get.stored.now c.get-2.ensures.set c.in-Some-get.ensures.found b live same in
    let number : c.number.result ≡ b.header.number = c.number.ensures ∙ (ap (λ (x : Block). x.header.number) c.block.ensures ∙ ap (λ (x : Block). x.header.number) one) in
    let is : c.in-Some-get-2.block.now ≡ b = same_Some c.in-Some-get-2.block.now b (sym c.in-Some-get-2.ensures.block.1 ∙ (ap (block_numbered (chain_of c.args.chain_db.now.chain)) number ∙ at)) in
    let e : false ≡ true = c.if-has_hash.ensures.1 (ap block_hash_of is ∙ same) in cc)
