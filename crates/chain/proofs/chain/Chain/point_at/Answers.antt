use Rattle.std.proofs.Common.{◌≡◌, ◌<◌, ◌∙◌, ℕ, min, length, take, sym, ap, arith, Bor}
use Rattle.std.specs.Prelude.{option_map, None}
use Rattle.std.proofs.lemmas.List.{take_min}
use Rattle.model.specs.Block.{Block, block_hash_of}
use Rattle.model.specs.Chain.{Point, tip_point}
use Rattle.ident.specs.PointView.{point_of}
use Rattle.chain.specs.Chained.{chain_of, block_numbered}
use Rattle.chain.proofs.Places.{point_of_least, within_where_none}
use Rattle.chain.proofs.chain.Chain.point_at.Goals as goal

pub returns-in-Some : goal.returns-in-Some
returns-in-Some g c =
    let b = c.in-Some.block.now in
    let least : c.min-number.result ≡ min c.args.length (length (chain_of c.args.self.now)) = c.min-number.ensures ∙ ap (min c.args.length) c.len.ensures in
    let point : Point = record { number = b.header.number; hash = block_hash_of b } in
    let told : point_of c.point.result ≡ point = λ i. record { number = c.point.ensures.number i; hash = c.point.ensures.hash i } in
    told ∙ point_of_least (chain_of c.args.self.now) c.args.length c.min-number.result b least c.in-Some.ensures.block.1

pub gone_point-requires : goal.gone_point-requires
gone_point-requires g c =
    let now = c.args.self.now in
    let n = c.min-number.result in
    let none : length now.gone < n → block_numbered (chain_of now) n ≡ None = λ behind. sym (c.get.ensures.there behind) ∙ ap (option_map (λ (b : Bor Block). b.now)) c.in-None.is in
    let least = c.min-number.ensures in
    let long = c.len.ensures in
    within_where_none now.gone now.resident n (omega arith) none

pub returns-in-None : goal.returns-in-None
returns-in-None g c =
    let chain = chain_of c.args.self.now in
    let least : c.min-number.result ≡ min c.args.length (length chain) = c.min-number.ensures ∙ ap (min c.args.length) c.len.ensures in
    c.gone_point.ensures ∙ ap tip_point (ap (λ (n : ℕ). take n chain) least ∙ take_min c.args.length chain)
