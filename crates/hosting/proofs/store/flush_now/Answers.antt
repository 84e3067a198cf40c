-- What one flush does to the log.
use Rattle.std.proofs.Common.{ap}
use Rattle.shared.specs.Starts.{network_from}
use Rattle.immlog.specs.OpenLog.{OpenLog}
use Rattle.hosting.proofs.Keeping.{kept_by_flush}
use Rattle.hosting.proofs.store.flush_now.Goals as goal

pub returns-clause-keeps : goal.returns-clause-keeps
returns-clause-keeps g c = λ first known left.
    let log = c.args.log.now in
    let new = c.flush_shared-flushed.new.log in
    let is = c.flush_shared-flushed.ensures in
    kept_by_flush (network_from g.B.Room.start g.S.SigScheme.verifies) c.requires.opens c.flush_shared-flushed.new.caller.seen log.blocks new.blocks first
    (g.D.Disk.past log.disk) (g.D.Disk.past new.disk) (g.D.Disk.moment log.disk) (g.D.Disk.moment new.disk) log.broken
    (λ broken.
    let same = (is.untouched (is.broken.1 broken)).0 in
    (ap (λ (l : OpenLog g.row.D.Denot). l.blocks) same, ap (λ (l : OpenLog g.row.D.Denot). g.D.Disk.moment l.disk) same, ap (λ (l : OpenLog g.row.D.Denot). g.D.Disk.past l.disk) same))
    is.crash is.crash_now is.begins is.stay known left
