-- That sameness of texts is an equivalence of blocks.
use Rattle.std.specs.Prelude.{bytes_eq}
use Rattle.std.specs.Cmp.{IsPartialEquivalence, on_per, partial_equiv_from_equiv}
use Rattle.std.proofs.lemmas.Cmp.{nat_list_eq_equiv}
use Rattle.model.specs.Block.{Block, block_text}

pub same_texts_laws : IsPartialEquivalence (λ (a b : Block). bytes_eq (block_text a) (block_text b))
same_texts_laws = on_per block_text (partial_equiv_from_equiv nat_list_eq_equiv)
