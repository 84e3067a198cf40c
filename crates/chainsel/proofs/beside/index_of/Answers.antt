use Rattle.std.proofs.Common.{length, refl, sym, ◌∙◌}
use Rattle.std.proofs.lemmas.Option.{slice_get_read}
use Rattle.std.proofs.lemmas.Slice.Eq.{bytes_eq-Decides}
use Rattle.chainsel.proofs.beside.index_of.Goals as goal

pub returns-then-eq : goal.returns-then-eq
returns-then-eq g c =
    let b = c.index-blocks-place.result in (
      b,
      slice_get_read c.args.blocks.now (length c.args.blocks.now) c.loop-place.place b refl c.loop-place-test.true c.index-blocks-place.is,
      sym c.hash.ensures ∙ (bytes_eq-Decides c.hash.result.bytes c.args.hash.bytes).0 (sym c.if-eq.ensures),
    )
