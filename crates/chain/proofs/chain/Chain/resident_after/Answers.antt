use Rattle.std.proofs.Common.{◌≡◌, ◌-◌, ◌∙◌, ℕ, min, length, drop, take, ap, List, arith}
use Rattle.model.specs.Block.{Block, block_hash_of}
use Rattle.chain.specs.Chained.{Chained, chain_of}
use Rattle.chain.specs.Noted.{noted}
use Rattle.chain.proofs.Lists.{slice_behind, same_sizes}
use Rattle.block.specs.View.{bytes_of}
use Rattle.chain.proofs.chain.Chain.resident_after.Goals as goal

pub returns : goal.returns
returns g c =
    let gone = noted c.self.inside.gone.items in
    let resident = c.self.inside.resident.items in
    let size : length c.self.inside.hashes.items ≡ length gone = same_sizes bytes_of block_hash_of c.self.inside.hashes.items gone c.self.invariant.hashes in
    let counted : length gone ≡ length c.args.self.now.gone = ap (λ (x : Chained). length x.gone) c.self.view_is in
    let k = c.min-skipped.result in
    let skipped : k ≡ min (c.args.keep - length gone) (length resident) = c.min-skipped.ensures ∙ ap (λ (n : ℕ). min (c.args.keep - n) c.len-2.result) (c.len.ensures ∙ c.self.inside.hashes.ok.0 ∙ size)
    ∙ ap (λ (n : ℕ). min (c.args.keep - length gone) n) (c.len-2.ensures ∙ c.self.inside.resident.ok.0) in
    ap (λ (l : List Block). take (length l - k) (drop k l)) c.deref.ensures.value
    ∙ slice_behind gone resident c.args.keep k (omega (arith, c.requires)) skipped
    ∙ ap (λ (x : Chained). drop c.args.keep (chain_of x)) c.self.view_is
