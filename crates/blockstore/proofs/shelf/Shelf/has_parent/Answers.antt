use Rattle.std.proofs.Common.{◌≡◌, ◌∙◌, sym, ap, subst, option_map}
use Rattle.std.proofs.lemmas.Option.{same_Some}
use Rattle.model.specs.Block.{Header, block_hash_of}
use Rattle.model.specs.Chain.{Tip, tip_at, Follows}
use Rattle.block.specs.View.{tip_of, bytes_of as hash_bytes}
use Rattle.blockstore.specs.Stored.{Stored}
use Rattle.blockstore.specs.Placed.{is_noted}
use Rattle.blockstore.proofs.shelf.Shelf.has_parent.Goals as goal

pub returns-then-is_reached : goal.returns-then-is_reached
returns-then-is_reached g c b is =
    let x : Stored = c.in-Some-at.parent.now.stored in
    let tip : tip_of c.at-then-is_reached.result ≡ tip_at x.block = c.at-then-is_reached.ensures ∙ ap tip_at c.block.ensures in
    let here = c.in-Some-at.ensures.found in (
      (λ precedes. record {
        parent = x;
        member = here.0;
        noted = ap (is_noted c.args.self.now.notes) here.1 ∙ (here.2 ∙ sym c.if-is_reached.ensures);
        follows = subst (λ (t : Tip). Follows t b) tip ((c.precedes_header.ensures b is).0 precedes);
      }),
      (λ has.
          let same : c.in-Some.previous.bytes ≡ block_hash_of has.parent.block = same_Some c.in-Some.previous.bytes (block_hash_of has.parent.block) (sym (ap (option_map hash_bytes) c.in-Some.is) ∙ (sym (ap (λ (h : Header). h.previous) is) ∙ has.follows.previous)) in
          let one : has.parent ≡ x = c.at.ensures.apart has.parent x has.member here.0 (sym same ∙ (sym c.of.ensures ∙ sym here.1)) in
          (c.precedes_header.ensures b is).1 (subst (λ (t : Tip). Follows t b) (sym tip) (subst (λ (s : Stored). Follows (tip_at s.block) b) one has.follows))),
    )
