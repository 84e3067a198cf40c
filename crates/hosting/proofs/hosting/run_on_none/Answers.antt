-- What its threads take with them may cross.
use Rattle.hosting.proofs.hosting.run_on_none.Goals as goal

pub start-requires-send-S : goal.start-requires-send-S
start-requires-send-S g c κs within = c.type_bounds.send-S

pub start-requires-send-B : goal.start-requires-send-B
start-requires-send-B g c κs within = c.type_bounds.send-B

pub start-requires-send-M : goal.start-requires-send-M
start-requires-send-M g c κs within = c.type_bounds.send-M

pub start-requires-send-R : goal.start-requires-send-R
start-requires-send-R g c κs within = c.type_bounds.send-R

pub start-requires-sync-S : goal.start-requires-sync-S
start-requires-sync-S g c κs within = c.type_bounds.sync-S

pub start-requires-sync-B : goal.start-requires-sync-B
start-requires-sync-B g c κs within = c.type_bounds.sync-B

pub start-requires-sync-M : goal.start-requires-sync-M
start-requires-sync-M g c κs within = c.type_bounds.sync-M

pub start-requires-sync-R : goal.start-requires-sync-R
start-requires-sync-R g c κs within = c.type_bounds.sync-R
