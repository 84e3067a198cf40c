use Rattle.std.proofs.Common.{◌∷◌, length, ap, sym, ◌∙◌, arith}
use Rattle.std.specs.Prelude.{option_copied}
use Rattle.model.specs.Block.{Block}
use Rattle.blockstore.specs.OffWays.{unnoted_at}
use Rattle.blockstore.proofs.OffWays.{passed, given, none_at_hash, noted_at_hash}
use Rattle.blockstore.proofs.Shelves.{none_found}
use Rattle.blockstore.proofs.unconnected.UnconnectedIterator.next.Goals as goal

pub loop-age-preserved-in_default-get : goal.loop-age-preserved-in_default-get
loop-age-preserved-in_default-get g c =
    let none = sym c.get.ensures.value ∙ ap option_copied (none_found c.get.result c.in_default-get.not-Some) in
    passed c.loop-age.self-inside.blocks.now c.loop-age.self-inside.ages c.next_back.new.self c.in-Some.age.now _ c.in-Some.ensures.steps (none_at_hash _ none) c.loop-age.invariant

pub returns-then-not-is_reached-clause-steps : goal.returns-then-not-is_reached-clause-steps
returns-then-not-is_reached-clause-steps g c =
    let there = sym c.get.ensures.value ∙ ap option_copied c.in-Some-get.is in
    given c.loop-age.self-inside.blocks.now c.loop-age.self-inside.ages c.next_back.new.self c.in-Some.age.now c.in-Some-get.placed.now _ c.in-Some.ensures.steps there (sym c.is_reached.ensures ∙ c.if-not-is_reached.true) c.loop-age.invariant
    ∙ ap (λ (b : Block). b ∷ unnoted_at c.loop-age.self-inside.blocks.now c.next_back.new.self) (sym c.block.ensures)

pub returns-then-not-is_reached-clause-goes : goal.returns-then-not-is_reached-clause-goes
returns-then-not-is_reached-clause-goes g c =
    let longer = ap length (returns-then-not-is_reached-clause-steps g c) in
    record { on = λ finite. (tt, tt, omega (arith, longer)); keeps = tt; rests = λ finite. tt }

pub loop-age-preserved : goal.loop-age-preserved
loop-age-preserved g c =
    let there = sym c.get.ensures.value ∙ ap option_copied c.in-Some-get.is in
    passed c.loop-age.self-inside.blocks.now c.loop-age.self-inside.ages c.next_back.new.self c.in-Some.age.now _ c.in-Some.ensures.steps
    (noted_at_hash _ c.in-Some-get.placed.now there (sym c.is_reached.ensures ∙ c.if-not-is_reached.false)) c.loop-age.invariant
