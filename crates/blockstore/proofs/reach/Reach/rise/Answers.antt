use Rattle.std.proofs.Common.{rules, ◌≡◌, ◌⊎◌, ◌∙◌, ◌<◌, true, false, Contains, None, sym, arith, inl, inr}
use Rattle.std.proofs.lemmas.Bool.{ltb-true}
use Rattle.model.proofs.MappedLists.{filter_member}
use Rattle.block.specs.View.{tip_of}
use Rattle.blockstore.specs.Stored.{Stored}
use Rattle.blockstore.specs.Tests.{is_past}
use Rattle.blockstore.proofs.Rising.{few_turn, risen_on, risen_off, root_stands}
use Rattle.blockstore.proofs.reach.Reach.rise.Goals as goal
use Rattle.blockstore.proofs.reach.Reach.rise.Goals.{then-leads, else-leads}

pub settle-requires-clause-room : goal.settle-requires-clause-room
settle-requires-clause-room g c = let room = c.drop_up_to-leads.ensures.room in omega (arith, room, few_turn c.drop_up_to-leads.new.blocks.blocks false c.drop_up_to-leads.new.blocks.notes)

pub settle-requires-clause-turning : goal.settle-requires-clause-turning
settle-requires-clause-turning g c =
    let old = c.args.blocks.now in
    let new = c.drop_up_to-leads.new.blocks in
    let past : (y : Stored) → Contains new.blocks y → c.args.root.now.number < y.block.header.number =
    λ y member. let left = filter_member (is_past c.args.root.now.number) old.blocks y ((c.drop_up_to-leads.ensures.blocks.members y).0 member) in ltb-true c.args.root.now.number y.block.header.number left.1 in
    let lead : (tip_of c.args.root.now ≡ tip_of c.args.old_root.now) ⊎ (c.drop_up_to-leads.result ≡ true) =
    elim c.if-leads.branch [
      | then-leads w ↦ inr w.if-leads.true
      | else-leads w ↦ let is : w.eq.result ≡ true = sym w.value-is ∙ c.if-eq.true in inl (search rules)
    ] in
    risen_on (tip_of c.args.old_root.now) (tip_of c.args.root.now) old new c.drop_up_to-leads.result c.drop_up_to-leads.new.self.waiting.items c.requires.notes c.drop_up_to-leads.ensures.dropped lead past

pub begin_anew-requires-clause-all_stand : goal.begin_anew-requires-clause-all_stand
begin_anew-requires-clause-all_stand g c =
    let old = c.args.blocks.now in
    let new = c.drop_up_to-leads.new.blocks in
    root_stands c.args.old_root.now None old new (tip_of c.args.root.now) c.drop_up_to-leads.result c.drop_up_to-leads.new.self.waiting.items c.requires.notes c.drop_up_to-leads.ensures.dropped

pub begin_anew-requires-clause-turning : goal.begin_anew-requires-clause-turning
begin_anew-requires-clause-turning g c =
    let old = c.args.blocks.now in
    let new = c.drop_up_to-leads.new.blocks in
    let none : c.drop_up_to-leads.result ≡ false =
    elim c.if-leads.branch [
      | then-leads w ↦ sym w.value-is ∙ c.if-eq.false
      | else-leads w ↦ w.if-leads.false
    ] in
    risen_off c.args.old_root.now (tip_of c.args.root.now) old new c.drop_up_to-leads.result c.drop_up_to-leads.new.self.waiting.items c.requires.notes c.drop_up_to-leads.ensures.dropped none
