use Rattle.std.proofs.Common.{◌≡◌, ◌-◌, ◌<◌, ◌∙◌, length, take, refl, ap, Some, arith}
use Rattle.std.specs.Prelude.{slice_get}
use Rattle.std.proofs.lemmas.Option.{slice_get_read}
use Rattle.model.specs.Block.{block_hash_of}
use Rattle.model.specs.Chain.{tip_point}
use Rattle.block.specs.View.{bytes_of}
use Rattle.chain.specs.Chained.{Chained, chain_of}
use Rattle.chain.specs.Noted.{noted}
use Rattle.chain.proofs.Lists.{same_sizes}
use Rattle.chain.proofs.Places.{point_of_gone}
use Rattle.chain.proofs.chain.Chain.gone_point.Goals as goal

pub returns : goal.returns
returns g c =
    let n = c.args.number in
    let gone = noted c.self.inside.gone.items in
    let hashes = c.self.inside.hashes.items in
    let size : length hashes ≡ length gone = same_sizes bytes_of block_hash_of hashes gone c.self.invariant.hashes in
    let counted : length gone ≡ length c.args.self.now.gone = ap (λ (x : Chained). length x.gone) c.self.view_is in
    let some : 0 < n = omega (arith, c.if-number-eq0.false) in
    let read : slice_get hashes (n - 1) ≡ Some c.index.result.now = slice_get_read hashes (length hashes) (n - 1) c.index.result.now refl (omega (arith, c.requires)) c.index.ensures in
    point_of_gone gone c.self.inside.resident.items hashes n c.index.result.now c.self.invariant.hashes c.self.invariant.linked some (omega (arith, c.requires)) read
    ∙ ap (λ (x : Chained). tip_point (take n (chain_of x))) c.self.view_is
