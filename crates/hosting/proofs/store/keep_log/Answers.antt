-- The last flush goes on from those before.
use Rattle.shared.specs.Starts.{network_from}
use Rattle.hosting.proofs.Keeping.{kept_on}
use Rattle.hosting.proofs.store.keep_log.Goals as goal

pub returns-clause-keeps : goal.returns-clause-keeps
returns-clause-keeps g c = λ left.
    let is = c.flush_now-flushed.ensures in
    let had = c.args.log.now in
    let log = c.flush_in_turn.new.log in
    let new = c.flush_now-flushed.new.log in
    kept_on (network_from g.B.Room.start g.S.SigScheme.verifies) c.requires.opens c.flush_in_turn.new.caller.seen c.flush_now-flushed.new.caller.seen is.seen had.blocks log.blocks new.blocks
    (g.D.Disk.past had.disk) (g.D.Disk.past log.disk) (g.D.Disk.past new.disk) (g.D.Disk.moment log.disk) (g.D.Disk.moment new.disk) is.begins (c.flush_in_turn.ensures.keeps left) is.keeps
