use Rattle.std.proofs.Common.{◌≡◌, true, false, subst, refl, map, List}
use Rattle.block.specs.View.{tip_of}
use Rattle.blockstore.specs.Stored.{Stored, Store}
use Rattle.blockstore.specs.Tests.{marked_at}
use Rattle.blockstore.specs.Answers.{IsMarkSet}
use Rattle.blockstore.specs.Live.{KeepsLive}
use Rattle.blockstore.proofs.Stores.{with_blocks, mark_set, set_marked, read_marked, live_marked}
use Rattle.blockstore.proofs.Sames.{set_same, read_same, keeps_same, mark_same}
use Rattle.blockstore.proofs.store.BlockStore.mark_invalid.Goals as goal

pub invariant_of-self : goal.invariant_of-self
invariant_of-self g c =
    let old : Store = record { capacity = c.self.inside.capacity; root = tip_of c.self.inside.root; blocks = c.self.inside.blocks.blocks } in
    let hash = c.args.hash.bytes in
    let more : List Stored = map (marked_at hash) c.self.inside.blocks.blocks in
    record {
      is_set = set_same old c.mark.new.blocks.blocks more c.mark.ensures.blocks (set_marked old hash more refl c.self.invariant.is_set);
      read = read_same old c.mark.new.blocks.blocks more c.mark.ensures.blocks (read_marked old hash more refl c.self.invariant.read);
      notes = c.mark.ensures.notes;
      none_waits = c.mark.ensures.waiting;
      room = c.mark.ensures.room;
      marks = λ none. absurd (let e : true ≡ false = none in cc);
    }

pub returns-clause-marks : goal.returns-clause-marks
returns-clause-marks g c =
    let old : Store = record { capacity = c.self.inside.capacity; root = tip_of c.self.inside.root; blocks = c.self.inside.blocks.blocks } in
    let hash = c.args.hash.bytes in
    let more : List Stored = map (marked_at hash) c.self.inside.blocks.blocks in
    subst (λ (s : Store). IsMarkSet s hash (with_blocks old c.mark.new.blocks.blocks)) c.self.view_is
    (mark_same old c.mark.new.blocks.blocks more c.mark.ensures.blocks hash (mark_set old hash more refl))

pub returns-clause-set : goal.returns-clause-set
returns-clause-set g c =
    let old : Store = record { capacity = c.self.inside.capacity; root = tip_of c.self.inside.root; blocks = c.self.inside.blocks.blocks } in
    let hash = c.args.hash.bytes in
    let more : List Stored = map (marked_at hash) c.self.inside.blocks.blocks in
    set_same old c.mark.new.blocks.blocks more c.mark.ensures.blocks (set_marked old hash more refl c.self.invariant.is_set)

pub returns-clause-live : goal.returns-clause-live
returns-clause-live g c =
    let old : Store = record { capacity = c.self.inside.capacity; root = tip_of c.self.inside.root; blocks = c.self.inside.blocks.blocks } in
    let hash = c.args.hash.bytes in
    let more : List Stored = map (marked_at hash) c.self.inside.blocks.blocks in
    subst (λ (s : Store). KeepsLive s (with_blocks old c.mark.new.blocks.blocks)) c.self.view_is
    (keeps_same old c.mark.new.blocks.blocks more c.mark.ensures.blocks (live_marked old hash more refl))
