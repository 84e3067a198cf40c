use Rattle.std.proofs.Common.{◌≡◌, ◌∙◌, ap, subst, length, false, arith}
use Rattle.model.specs.Disk.{Leaves}
use Rattle.model.specs.Log.{IsLogOf}
use Rattle.immlog.specs.Index.{blocks_in}
use Rattle.immlog.specs.OpenLog.{OpenLog}
use Rattle.immlog.proofs.Indexed.{entries_count}
use Rattle.immlog.proofs.Rows.{rest_leaves}
use Rattle.immlog.proofs.log.Log.durable.Goals as goal

pub returns-clause-count : goal.returns-clause-count
returns-clause-count g c =
    let a = c.self.inside in
    let many = entries_count 0 (blocks_in a.index) a.index.entries.items c.self.invariant.entries in
    c.len.ensures ∙ (a.index.entries.ok.0 ∙ (many ∙ ap (λ (log : OpenLog g.row.D.Denot). length log.blocks) c.self.view_is))

pub returns-clause-left : goal.returns-clause-left
returns-clause-left g c =
    let a = c.self.inside in
    let done = blocks_in a.index in
    subst (λ (log : OpenLog g.row.D.Denot). log.broken ≡ false → Leaves (IsLogOf (length log.blocks) log.blocks) (g.D.Disk.moment log.disk)) c.self.view_is
    (λ whole.
    let resting = c.self.invariant.resting whole in
    rest_leaves done (length done) (g.D.Disk.moment a.disk) (g.D.Disk.reads a.disk) c.self.invariant.sizes resting.sure resting.rest (omega arith))
