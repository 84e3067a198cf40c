use Rattle.std.proofs.Common.{◌≡◌, ◌∙◌, false, true, inl, inr, sym}
use Rattle.blockstore.proofs.shelf.Shelf.connects.Goals as goal

pub returns-then-precedes_header : goal.returns-then-precedes_header
returns-then-precedes_header g c b is = ((λ holds. inl ((c.precedes_header.ensures b is).0 holds)), (λ step. c.if-precedes_header.true))

pub returns-else-precedes_header : goal.returns-else-precedes_header
returns-else-precedes_header g c b is = (
  (λ holds. inr ((c.has_parent.ensures b is).0 holds)),
  (λ step. elim step [
    | inl follows ↦ let e : false ≡ true = sym c.if-precedes_header.false ∙ (c.precedes_header.ensures b is).1 follows in absurd cc
    | inr parent ↦ (c.has_parent.ensures b is).1 parent
  ]),
)
