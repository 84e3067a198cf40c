use Rattle.std.proofs.Common.{◌≡◌, ◌∙◌, Some, length, sym, ap, arith, Bor}
use Rattle.std.proofs.lemmas.Bool.{eqb-true}
use Rattle.std.proofs.lemmas.List.{length-map}
use Rattle.model.specs.Block.{Block, block_hash_of}
use Rattle.blockstore.specs.Stored.{Stored}
use Rattle.chainsel.proofs.selecting.goes_no_further.Goals as goal

pub returns : goal.returns
returns g c = λ ends. (
  (let short = c.if-number-len.false in let is = ap (λ (b : Block). b.header.number) c.block-new.ensures in let long = c.len.ensures in omega (arith, short, is, long)),
  (λ x member names.
      let found = c.in_ok-successors.field-0.items in
      let there = (c.in_ok-successors.ensures.found.members x).1 (member, names ∙ ap Some (sym (c.hash.ensures ∙ ap block_hash_of c.block-new.ensures))) in
      let none : length found ≡ 0 = sym c.in_ok-successors.field-0.ok.0 ∙ eqb-true c.in_ok-successors.field-0.len 0 (sym c.is_empty.ensures ∙ ends) in
      omega (arith, there.1, none, length-map found (λ (y : Bor Stored). y.now))),
)
