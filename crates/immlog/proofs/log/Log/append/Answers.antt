use Rattle.std.proofs.Common.{◌≡◌, ◌++◌, ℕ, List, length, sym, subst, false}
use Rattle.model.specs.Disk.{Leaves, LeavesSince}
use Rattle.model.specs.Log.{OpensToBeginning, IsLogOf}
use Rattle.immlog.specs.Index.{blocks_in}
use Rattle.immlog.specs.Views.{lists_of}
use Rattle.immlog.specs.OpenLog.{OpenLog}
use Rattle.immlog.proofs.Moments.{since_now}
use Rattle.immlog.proofs.Appending.{opens_weaker, opens_since, resting_leaves}
use Rattle.immlog.proofs.log.Log.append.Goals as goal

-- there was no memory

pub returns-then-is_err-clause-crash : goal.returns-then-is_err-clause-crash
returns-then-is_err-clause-crash g c =
    let a = c.self.inside in
    let blocks = lists_of c.args.blocks.now in
    let done = blocks_in a.index in
    let resting = c.self.invariant.resting c.if-self.false in
    let leaves = resting_leaves done blocks (g.D.Disk.moment a.disk) (g.D.Disk.reads a.disk) c.self.invariant.sizes c.requires resting.sure resting.rest in
    subst (λ (log : OpenLog g.row.D.Denot). log.broken ≡ false → LeavesSince (g.D.Disk.past log.disk) (g.D.Disk.past a.disk) (g.D.Disk.moment a.disk) (OpensToBeginning (length log.blocks) (log.blocks ++ blocks))) c.self.view_is
    (λ whole. opens_since (length done) (done ++ blocks) _ _ _ (since_now (Leaves (IsLogOf (length done) (done ++ blocks))) _ _ leaves))

pub returns-then-is_err-clause-crash_now : goal.returns-then-is_err-clause-crash_now
returns-then-is_err-clause-crash_now g c =
    let a = c.self.inside in
    let blocks = lists_of c.args.blocks.now in
    let done = blocks_in a.index in
    let resting = c.self.invariant.resting c.if-self.false in
    let leaves = resting_leaves done blocks (g.D.Disk.moment a.disk) (g.D.Disk.reads a.disk) c.self.invariant.sizes c.requires resting.sure resting.rest in
    let now = opens_weaker (length done) (done ++ blocks) (g.D.Disk.moment a.disk) leaves in
    let over = subst (λ (known : List (List ℕ)). Leaves (OpensToBeginning (length known) (done ++ blocks)) (g.D.Disk.moment a.disk)) (sym c.make_room.ensures.blocks) now in
    subst (λ (log : OpenLog g.row.D.Denot). log.broken ≡ false → Leaves (OpensToBeginning (length (blocks_in c.make_room.new.index)) (log.blocks ++ blocks)) (g.D.Disk.moment a.disk)) c.self.view_is (λ whole. over)

pub returns-then-is_err-clause-kept : goal.returns-then-is_err-clause-kept
returns-then-is_err-clause-kept g c =
    let a = c.self.inside in
    let blocks = lists_of c.args.blocks.now in
    let done = blocks_in a.index in
    let resting = c.self.invariant.resting c.if-self.false in
    let leaves = resting_leaves done blocks (g.D.Disk.moment a.disk) (g.D.Disk.reads a.disk) c.self.invariant.sizes c.requires resting.sure resting.rest in
    subst (λ (log : OpenLog g.row.D.Denot). log.broken ≡ false → LeavesSince (g.D.Disk.past log.disk) (g.D.Disk.past a.disk) (g.D.Disk.moment a.disk) (IsLogOf (length log.blocks) (log.blocks ++ blocks))) c.self.view_is
    (λ whole. since_now (Leaves (IsLogOf (length done) (done ++ blocks))) _ _ leaves)

-- the disk failed

pub returns-then-is_err-2-clause-crash : goal.returns-then-is_err-2-clause-crash
returns-then-is_err-2-clause-crash g c =
    let a = c.self.inside in
    let blocks = lists_of c.args.blocks.now in
    let done = blocks_in a.index in
    let crash = subst (λ (known : List (List ℕ)). LeavesSince (g.D.Disk.past a.disk) (g.D.Disk.past c.put_all.new.disk) (g.D.Disk.moment c.put_all.new.disk) (IsLogOf (length known) (known ++ blocks))) c.make_room.ensures.blocks c.put_all.ensures.crash in
    subst (λ (log : OpenLog g.row.D.Denot). log.broken ≡ false → LeavesSince (g.D.Disk.past log.disk) (g.D.Disk.past c.put_all.new.disk) (g.D.Disk.moment c.put_all.new.disk) (OpensToBeginning (length log.blocks) (log.blocks ++ blocks))) c.self.view_is
    (λ whole. opens_since (length done) (done ++ blocks) _ _ _ crash)

pub returns-then-is_err-2-clause-crash_now : goal.returns-then-is_err-2-clause-crash_now
returns-then-is_err-2-clause-crash_now g c =
    let a = c.self.inside in
    let blocks = lists_of c.args.blocks.now in
    let done = blocks_in a.index in
    let many = length (blocks_in c.put_all.new.index) in
    let sure = subst (λ (known : List (List ℕ)). Leaves (IsLogOf many (known ++ blocks)) (g.D.Disk.moment c.put_all.new.disk)) c.make_room.ensures.blocks c.put_all.ensures.sure in
    subst (λ (log : OpenLog g.row.D.Denot). log.broken ≡ false → Leaves (OpensToBeginning many (log.blocks ++ blocks)) (g.D.Disk.moment c.put_all.new.disk)) c.self.view_is
    (λ whole. opens_weaker many (done ++ blocks) (g.D.Disk.moment c.put_all.new.disk) sure)

-- nothing did

pub returns-clause-crash : goal.returns-clause-crash
returns-clause-crash g c =
    let a = c.self.inside in
    let blocks = lists_of c.args.blocks.now in
    let done = blocks_in a.index in
    let crash = subst (λ (known : List (List ℕ)). LeavesSince (g.D.Disk.past a.disk) (g.D.Disk.past c.put_all.new.disk) (g.D.Disk.moment c.put_all.new.disk) (IsLogOf (length known) (known ++ blocks))) c.make_room.ensures.blocks c.put_all.ensures.crash in
    subst (λ (log : OpenLog g.row.D.Denot). log.broken ≡ false → LeavesSince (g.D.Disk.past log.disk) (g.D.Disk.past c.put_all.new.disk) (g.D.Disk.moment c.put_all.new.disk) (OpensToBeginning (length log.blocks) (log.blocks ++ blocks))) c.self.view_is
    (λ whole. opens_since (length done) (done ++ blocks) _ _ _ crash)

pub returns-clause-crash_now : goal.returns-clause-crash_now
returns-clause-crash_now g c =
    let a = c.self.inside in
    let blocks = lists_of c.args.blocks.now in
    let done = blocks_in a.index in
    let many = length (blocks_in c.put_all.new.index) in
    let sure = subst (λ (known : List (List ℕ)). Leaves (IsLogOf many (known ++ blocks)) (g.D.Disk.moment c.put_all.new.disk)) c.make_room.ensures.blocks c.put_all.ensures.sure in
    subst (λ (log : OpenLog g.row.D.Denot). log.broken ≡ false → Leaves (OpensToBeginning many (log.blocks ++ blocks)) (g.D.Disk.moment c.put_all.new.disk)) c.self.view_is
    (λ whole. opens_weaker many (done ++ blocks) (g.D.Disk.moment c.put_all.new.disk) sure)
