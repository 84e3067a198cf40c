use Rattle.std.proofs.Common.{◌≡◌, ◌∙◌, ap, Some}
use Rattle.model.specs.Block.{block_hash_of}
use Rattle.block.specs.View.{tip_of}
use Rattle.blockstore.proofs.Leaving.{none_goes, one_goes, notes_left}
use Rattle.blockstore.proofs.reach.Reach.discard.Goals as goal

pub returns-in-Some-clause-blocks : goal.returns-in-Some-clause-blocks
returns-in-Some-clause-blocks g c =
    let of_age : c.of-age.result.hash ≡ c.args.hash.bytes = c.of-age.ensures.1 ∙ (ap block_hash_of c.block.ensures ∙ c.in-Some.ensures.1) in
    one_goes c.args.blocks.now.blocks c.mark.new.blocks.blocks c.args.hash.bytes c.mark.ensures.blocks c.remove.new.self.blocks c.of-age.result c.in-Some.stored.now c.in-Some.ensures.0 c.in-Some.ensures.1 of_age
    c.remove.ensures.blocks c.requires.distinct

pub returns-in-Some-clause-notes : goal.returns-in-Some-clause-notes
returns-in-Some-clause-notes g c =
    let of_age : c.of-age.result.hash ≡ c.args.hash.bytes = c.of-age.ensures.1 ∙ (ap block_hash_of c.block.ensures ∙ c.in-Some.ensures.1) in
    notes_left c.args.blocks.now.blocks c.mark.new.blocks.blocks c.args.hash.bytes c.mark.ensures.blocks c.remove.new.self.blocks c.of-age.result c.in-Some.stored.now c.in-Some.ensures.0 c.in-Some.ensures.1 of_age
    c.remove.ensures.blocks (Some (tip_of c.args.root)) c.mark.new.blocks.notes c.remove.new.self.notes c.mark.ensures.notes c.remove.ensures.notes

pub returns-in_default-clause-blocks : goal.returns-in_default-clause-blocks
returns-in_default-clause-blocks g c = none_goes c.args.blocks.now.blocks c.mark.new.blocks.blocks c.args.hash.bytes c.mark.ensures.blocks c.in_default.ensures
