use Rattle.std.proofs.Common.{subst, sym, ap, List, Contains}
use Rattle.std.specs.List.{filter}
use Rattle.model.proofs.MappedLists.{contains_before, filter_member}
use Rattle.block.specs.View.{tip_of}
use Rattle.blockstore.specs.Stored.{Stored, Store, IsSet}
use Rattle.blockstore.specs.Tests.{lacks_hash}
use Rattle.blockstore.specs.Answers.{IsRid}
use Rattle.blockstore.specs.Live.{LosesLive}
use Rattle.blockstore.proofs.Clearing.{bare_of}
use Rattle.blockstore.proofs.Stores.{AreRead, with_blocks, rid_of, rid_bare, set_left, set_bare, read_left, read_bare, live_without, live_bare}
use Rattle.blockstore.proofs.Sames.{set_same, read_same, loses_same}
use Rattle.blockstore.proofs.store.BlockStore.discard.Goals as goal

pub invariant_of-self : goal.invariant_of-self
invariant_of-self g c =
    let old : Store = record { capacity = c.self.inside.capacity; root = tip_of c.self.inside.root; blocks = c.self.inside.blocks.blocks } in
    let hash = c.args.hash.bytes in
    let left : List Stored = filter (lacks_hash hash) c.self.inside.blocks.blocks in
    let xs = c.discard.new.blocks.blocks in
    let same = c.discard.ensures.blocks in
    let is = c.unmark_all.ensures.blocks in
    record {
      is_set = subst (λ (zs : List Stored). IsSet (with_blocks old zs)) (sym is) (set_bare old xs (set_same old xs left same (set_left old hash c.self.invariant.is_set)));
      read = subst AreRead (sym is) (read_bare xs (read_same old xs left same (read_left old hash c.self.invariant.read)));
      notes = c.unmark_all.ensures.notes;
      none_waits = c.unmark_all.ensures.waiting;
      room = c.unmark_all.ensures.room;
      marks = λ none x member. let y = contains_before bare_of xs x (subst (λ (zs : List Stored). Contains zs x) is member) in ap (λ (s : Stored). s.invalid) (sym y.2);
    }

pub invariant_of-self-else-self : goal.invariant_of-self-else-self
invariant_of-self-else-self g c =
    let old : Store = record { capacity = c.self.inside.capacity; root = tip_of c.self.inside.root; blocks = c.self.inside.blocks.blocks } in
    let hash = c.args.hash.bytes in
    let left : List Stored = filter (lacks_hash hash) c.self.inside.blocks.blocks in
    let xs = c.discard.new.blocks.blocks in
    let same = c.discard.ensures.blocks in
    record {
      is_set = set_same old xs left same (set_left old hash c.self.invariant.is_set);
      read = read_same old xs left same (read_left old hash c.self.invariant.read);
      notes = c.discard.ensures.notes;
      none_waits = c.discard.ensures.waiting;
      room = c.discard.ensures.room;
      marks = λ none x member. c.self.invariant.marks none x (filter_member (lacks_hash hash) old.blocks x ((same.members x).0 member)).0;
    }

pub returns-then-self-clause-rid : goal.returns-then-self-clause-rid
returns-then-self-clause-rid g c =
    let old : Store = record { capacity = c.self.inside.capacity; root = tip_of c.self.inside.root; blocks = c.self.inside.blocks.blocks } in
    let hash = c.args.hash.bytes in
    let xs = c.discard.new.blocks.blocks in
    subst (λ (s : Store). IsRid s hash (with_blocks old c.unmark_all.new.blocks.blocks)) c.self.view_is
    (subst (λ (zs : List Stored). IsRid old hash (with_blocks old zs)) (sym c.unmark_all.ensures.blocks) (rid_bare old hash xs c.discard.ensures.blocks))

pub returns-then-self-clause-set : goal.returns-then-self-clause-set
returns-then-self-clause-set g c =
    let old : Store = record { capacity = c.self.inside.capacity; root = tip_of c.self.inside.root; blocks = c.self.inside.blocks.blocks } in
    let hash = c.args.hash.bytes in
    let left : List Stored = filter (lacks_hash hash) c.self.inside.blocks.blocks in
    let xs = c.discard.new.blocks.blocks in
    subst (λ (zs : List Stored). IsSet (with_blocks old zs)) (sym c.unmark_all.ensures.blocks) (set_bare old xs (set_same old xs left c.discard.ensures.blocks (set_left old hash c.self.invariant.is_set)))

pub returns-then-self-clause-live : goal.returns-then-self-clause-live
returns-then-self-clause-live g c =
    let old : Store = record { capacity = c.self.inside.capacity; root = tip_of c.self.inside.root; blocks = c.self.inside.blocks.blocks } in
    let hash = c.args.hash.bytes in
    let left : List Stored = filter (lacks_hash hash) c.self.inside.blocks.blocks in
    let xs = c.discard.new.blocks.blocks in
    subst (λ (s : Store). LosesLive s hash (with_blocks old c.unmark_all.new.blocks.blocks)) c.self.view_is
    (subst (λ (zs : List Stored). LosesLive old hash (with_blocks old zs)) (sym c.unmark_all.ensures.blocks)
    (live_bare old hash xs (loses_same old xs left c.discard.ensures.blocks hash (live_without old hash c.self.invariant.is_set))))

pub returns-else-self-clause-rid : goal.returns-else-self-clause-rid
returns-else-self-clause-rid g c =
    let old : Store = record { capacity = c.self.inside.capacity; root = tip_of c.self.inside.root; blocks = c.self.inside.blocks.blocks } in
    let hash = c.args.hash.bytes in
    let xs = c.discard.new.blocks.blocks in
    let same = c.discard.ensures.blocks in
    subst (λ (s : Store). IsRid s hash (with_blocks old xs)) c.self.view_is
    (rid_of old hash xs same (λ x member. c.self.invariant.marks c.if-self.false x (filter_member (lacks_hash hash) old.blocks x ((same.members x).0 member)).0))

pub returns-else-self-clause-set : goal.returns-else-self-clause-set
returns-else-self-clause-set g c =
    let old : Store = record { capacity = c.self.inside.capacity; root = tip_of c.self.inside.root; blocks = c.self.inside.blocks.blocks } in
    let hash = c.args.hash.bytes in
    let left : List Stored = filter (lacks_hash hash) c.self.inside.blocks.blocks in
    set_same old c.discard.new.blocks.blocks left c.discard.ensures.blocks (set_left old hash c.self.invariant.is_set)

pub returns-else-self-clause-live : goal.returns-else-self-clause-live
returns-else-self-clause-live g c =
    let old : Store = record { capacity = c.self.inside.capacity; root = tip_of c.self.inside.root; blocks = c.self.inside.blocks.blocks } in
    let hash = c.args.hash.bytes in
    let left : List Stored = filter (lacks_hash hash) c.self.inside.blocks.blocks in
    subst (λ (s : Store). LosesLive s hash (with_blocks old c.discard.new.blocks.blocks)) c.self.view_is
    (loses_same old c.discard.new.blocks.blocks left c.discard.ensures.blocks hash (live_without old hash c.self.invariant.is_set))
