-- What the log has when the node begins are the blocks that its core was opened on.
use Rattle.std.proofs.Common.{inr, subst, sym}
use Rattle.shared.specs.Starts.{Start, network_from}
use Rattle.shared.specs.Copies.{AreImmutableAfter}
use Rattle.flushing.proofs.ForCallers.{opened_begins}
use Rattle.hosting.specs.Keeping.{IsKept}
use Rattle.hosting.proofs.Ends.{end_well}
use Rattle.hosting.proofs.Keeping.{left_at_rest}
use Rattle.hosting.proofs.hosting.run_on_log.Goals as goal

pub start-requires-send-S : goal.start-requires-send-S
start-requires-send-S g c κs within = c.type_bounds.send-S

pub start-requires-send-B : goal.start-requires-send-B
start-requires-send-B g c κs within = c.type_bounds.send-B

pub start-requires-send-M : goal.start-requires-send-M
start-requires-send-M g c κs within = c.type_bounds.send-M

pub start-requires-send-R : goal.start-requires-send-R
start-requires-send-R g c κs within = c.type_bounds.send-R

pub start-requires-sync-S : goal.start-requires-sync-S
start-requires-sync-S g c κs within = c.type_bounds.sync-S

pub start-requires-sync-B : goal.start-requires-sync-B
start-requires-sync-B g c κs within = c.type_bounds.sync-B

pub start-requires-sync-M : goal.start-requires-sync-M
start-requires-sync-M g c κs within = c.type_bounds.sync-M

pub start-requires-sync-R : goal.start-requires-sync-R
start-requires-sync-R g c κs within = c.type_bounds.sync-R

pub keep_log-flushed-requires-clause-begins : goal.keep_log-flushed-requires-clause-begins
keep_log-flushed-requires-clause-begins g c =
    opened_begins (network_from g.B.Room.start g.S.SigScheme.verifies) c.in_ok-floor.field-0.flushing.seen c.args.log.now.blocks c.in_ok-shared.ensures.opens c.in_ok-floor.ensures.2.legal c.requires.on_log

pub returns-clause-all : goal.returns-clause-all
returns-clause-all g c =
    let seen = c.keep_log-flushed.new.caller.seen in
    let blocks = c.keep_log-flushed.new.log.blocks in
    end_well c.keep_log-flushed.result c.ended.result c.ended.ensures.well
    (λ are. (seen, subst (λ (s : Start). AreImmutableAfter (network_from s g.S.SigScheme.verifies) seen blocks) (sym c.requires.start) are)) c.keep_log-flushed.ensures.all

pub returns-clause-sound : goal.returns-clause-sound
returns-clause-sound g c = end_well c.keep_log-flushed.result c.ended.result c.ended.ensures.well (λ sound. sound) c.keep_log-flushed.ensures.sound

pub returns-clause-keeps : goal.returns-clause-keeps
returns-clause-keeps g c = λ sound.
    let log = c.args.log.now in
    let new = c.keep_log-flushed.new.log in
    let seen = c.keep_log-flushed.new.caller.seen in
    let kept = c.keep_log-flushed.ensures.keeps (left_at_rest log.blocks (g.D.Disk.moment log.disk) (c.durable-durable.ensures.left sound)) in
    inr (seen, subst (λ (s : Start). IsKept (network_from s g.S.SigScheme.verifies) seen log.blocks new.blocks (g.D.Disk.past log.disk) (g.D.Disk.past new.disk) (g.D.Disk.moment new.disk)) (sym c.requires.start) kept)
