use Rattle.std.proofs.Common.{◌≡◌, ◌-◌, ◌++◌, ◌∙◌, ℕ, List, length, take, sym, ap, arith}
use Rattle.model.specs.Block.{Block, block_hash_of}
use Rattle.block.specs.View.{bytes_of}
use Rattle.chain.specs.Chained.{Chained, chain_of}
use Rattle.chain.specs.Noted.{noted}
use Rattle.chain.proofs.Lists.{take_behind, same_sizes}
use Rattle.chain.proofs.chain.Chain.truncate.Goals as goal

pub returns-clause-chain : goal.returns-clause-chain
returns-clause-chain g c =
    let gone = noted c.self.inside.gone.items in
    let resident = c.self.inside.resident.items in
    let hashes = c.self.inside.hashes.items in
    let size : length hashes ≡ length gone = same_sizes bytes_of block_hash_of hashes gone c.self.invariant.hashes in
    let counted : length gone ≡ length c.args.self.now.gone = ap (λ (x : Chained). length x.gone) c.self.view_is in
    let cut : c.len.result ≡ length gone = ◌∙◌ {A = ℕ} (◌∙◌ {A = ℕ} c.len.ensures c.self.inside.hashes.ok.0) size in
    ap (λ (l : List Block). gone ++ l) (◌∙◌ {A = List Block} c.truncate.ensures.items (ap (λ (n : ℕ). take (c.args.len - n) resident) cut))
    ∙ sym (take_behind gone resident c.args.len (omega (arith, c.requires)))
    ∙ ap (λ (x : Chained). take c.args.len (chain_of x)) c.self.view_is
