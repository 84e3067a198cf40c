use Rattle.std.proofs.Common.{◌≡◌, ◌-◌, ◌<◌, ◌++◌, ◌∙◌, length, sym, ap, subst, arith, Bor}
use Rattle.std.specs.Prelude.{slice_get, option_map, None}
use Rattle.model.specs.Block.{Block, block_hash_of}
use Rattle.block.specs.View.{bytes_of}
use Rattle.chain.specs.Chained.{Chained, chain_of, block_numbered}
use Rattle.chain.specs.Noted.{noted}
use Rattle.chain.proofs.Places.{hash_at_place}
use Rattle.chain.proofs.chain.Chain.hash_of.Goals as goal

pub returns : goal.returns
returns g c =
    let n = c.args.number in
    let gone = noted c.self.inside.gone.items in
    let resident = c.self.inside.resident.items in
    let none : length gone < n → block_numbered (gone ++ resident) n ≡ None = subst (λ (x : Chained). length x.gone < n → block_numbered (chain_of x) n ≡ None) (sym c.self.view_is)
    (λ behind. sym (c.get.ensures.there behind) ∙ ap (option_map (λ (b : Bor Block). b.now)) c.in_default.is) in
    ap (option_map bytes_of) (c.hash_at.ensures ∙ ap (λ l. slice_get l (n - 1)) c.deref.ensures.value)
    ∙ hash_at_place gone resident c.self.inside.hashes.items n c.self.invariant.hashes (omega (arith, c.if-number-eq0.false)) none
    ∙ ap (λ (x : Chained). option_map block_hash_of (block_numbered (chain_of x) n)) c.self.view_is
