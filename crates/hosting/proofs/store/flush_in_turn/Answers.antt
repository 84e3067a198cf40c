-- Each flush goes on from those before.
use Rattle.shared.specs.Starts.{network_from}
use Rattle.flushing.proofs.ForCallers.{begins_itself, begins_further}
use Rattle.hosting.proofs.Keeping.{kept_at_first, kept_on}
use Rattle.hosting.proofs.store.flush_in_turn.Goals as goal

pub flushes-init : goal.flushes-init
flushes-init g c =
    let log = c.args.log.now in
    record {
      begins = c.requires.begins;
      stay = begins_itself log.blocks;
      keeps = kept_at_first (network_from g.B.Room.start g.S.SigScheme.verifies) c.args.caller.now.seen log.blocks (g.D.Disk.past log.disk) (g.D.Disk.moment log.disk) c.requires.begins;
    }

pub flushes-preserved-then-is_lost : goal.flushes-preserved-then-is_lost
flushes-preserved-then-is_lost g c =
    let is = c.flush_now-flushed.ensures in
    let log = c.flushes.log in
    let new = c.flush_now-flushed.new.log in
    let had = c.args.log.now in
    record {
      begins = is.begins;
      stay = begins_further had.blocks log.blocks new.blocks c.flushes.invariant.stay is.stay;
      keeps = λ left.
          kept_on (network_from g.B.Room.start g.S.SigScheme.verifies) c.requires.opens c.flushes.caller.seen c.flush_now-flushed.new.caller.seen is.seen had.blocks log.blocks new.blocks
          (g.D.Disk.past had.disk) (g.D.Disk.past log.disk) (g.D.Disk.past new.disk) (g.D.Disk.moment log.disk) (g.D.Disk.moment new.disk) is.begins (c.flushes.invariant.keeps left) is.keeps;
    }

pub flushes-preserved : goal.flushes-preserved
flushes-preserved g c =
    let is = c.flush_now-flushed.ensures in
    let log = c.flushes.log in
    let new = c.flush_now-flushed.new.log in
    let had = c.args.log.now in
    record {
      begins = is.begins;
      stay = begins_further had.blocks log.blocks new.blocks c.flushes.invariant.stay is.stay;
      keeps = λ left.
          kept_on (network_from g.B.Room.start g.S.SigScheme.verifies) c.requires.opens c.flushes.caller.seen c.flush_now-flushed.new.caller.seen is.seen had.blocks log.blocks new.blocks
          (g.D.Disk.past had.disk) (g.D.Disk.past log.disk) (g.D.Disk.past new.disk) (g.D.Disk.moment log.disk) (g.D.Disk.moment new.disk) is.begins (c.flushes.invariant.keeps left) is.keeps;
    }
