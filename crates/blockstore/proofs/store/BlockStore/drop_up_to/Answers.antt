use Rattle.std.proofs.Common.{subst, refl, List}
use Rattle.std.specs.List.{filter}
use Rattle.block.specs.View.{tip_of}
use Rattle.blockstore.specs.Stored.{Stored, Store}
use Rattle.blockstore.specs.Tests.{is_past}
use Rattle.blockstore.specs.Answers.{IsCutTo}
use Rattle.blockstore.specs.Live.{FollowsChain}
use Rattle.blockstore.proofs.Stores.{cut_to, set_cut, read_cut, live_cut}
use Rattle.model.proofs.MappedLists.{filter_member}
use Rattle.blockstore.proofs.Sames.{set_same, read_same, follows_same, cut_same}
use Rattle.blockstore.proofs.store.BlockStore.drop_up_to.Goals as goal

pub invariant_of-self : goal.invariant_of-self
invariant_of-self g c =
    let old : Store = record { capacity = c.self.inside.capacity; root = tip_of c.self.inside.root; blocks = c.self.inside.blocks.blocks } in
    let left : List Stored = filter (is_past c.args.root.number) c.self.inside.blocks.blocks in
    let set = set_same old c.rise.new.blocks.blocks left c.rise.ensures.blocks (set_cut old c.args.root.number left refl c.self.invariant.is_set) in
    record {
      is_set = record { distinct = set.distinct; few = set.few };
      read = read_same old c.rise.new.blocks.blocks left c.rise.ensures.blocks (read_cut old c.args.root.number left refl c.self.invariant.read);
      notes = c.rise.ensures.notes;
      none_waits = c.rise.ensures.waiting;
      room = c.rise.ensures.room;
      marks = λ none x member. c.self.invariant.marks none x (filter_member (is_past c.args.root.number) c.self.inside.blocks.blocks x ((c.rise.ensures.blocks.members x).0 member)).0;
    }

pub returns-clause-cut : goal.returns-clause-cut
returns-clause-cut g c =
    let old : Store = record { capacity = c.self.inside.capacity; root = tip_of c.self.inside.root; blocks = c.self.inside.blocks.blocks } in
    let left : List Stored = filter (is_past c.args.root.number) c.self.inside.blocks.blocks in
    let cut = cut_same old c.rise.new.blocks.blocks left c.rise.ensures.blocks c.args.root.number (cut_to old c.args.root.number left refl) in
    subst (λ (s : Store). IsCutTo s c.args.root.number (record { capacity = c.self.inside.capacity; root = tip_of c.args.root; blocks = c.rise.new.blocks.blocks })) c.self.view_is
    (record { capacity = cut.capacity; members = cut.members; count = cut.count })

pub returns-clause-set : goal.returns-clause-set
returns-clause-set g c =
    let old : Store = record { capacity = c.self.inside.capacity; root = tip_of c.self.inside.root; blocks = c.self.inside.blocks.blocks } in
    let left : List Stored = filter (is_past c.args.root.number) c.self.inside.blocks.blocks in
    let set = set_same old c.rise.new.blocks.blocks left c.rise.ensures.blocks (set_cut old c.args.root.number left refl c.self.invariant.is_set) in
    record { distinct = set.distinct; few = set.few }

pub returns-clause-live : goal.returns-clause-live
returns-clause-live g c =
    let old : Store = record { capacity = c.self.inside.capacity; root = tip_of c.self.inside.root; blocks = c.self.inside.blocks.blocks } in
    let left : List Stored = filter (is_past c.args.root.number) c.self.inside.blocks.blocks in
    subst (λ (s : Store). FollowsChain s c.args.root.number (record { capacity = c.self.inside.capacity; root = tip_of c.args.root; blocks = c.rise.new.blocks.blocks })) c.self.view_is
    (λ network kept old_chain new_chain live grows at.
    let holds = follows_same old c.rise.new.blocks.blocks left c.rise.ensures.blocks c.args.root.number (live_cut old c.args.root.number left refl c.self.invariant.is_set) network kept old_chain new_chain live grows at in
    record { members = holds.members; count = holds.count })
