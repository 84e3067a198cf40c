-- What its threads take with them may cross.
use Rattle.hosting.proofs.hosting.start.Goals as goal

pub start_all-requires-send-S : goal.start_all-requires-send-S
start_all-requires-send-S g c κs within = c.type_bounds.send-S

pub start_all-requires-send-B : goal.start_all-requires-send-B
start_all-requires-send-B g c κs within = c.type_bounds.send-B

pub start_all-requires-send-M : goal.start_all-requires-send-M
start_all-requires-send-M g c κs within = c.type_bounds.send-M

pub start_all-requires-send-R : goal.start_all-requires-send-R
start_all-requires-send-R g c κs within = c.type_bounds.send-R

pub start_all-requires-sync-S : goal.start_all-requires-sync-S
start_all-requires-sync-S g c κs within = c.type_bounds.sync-S

pub start_all-requires-sync-B : goal.start_all-requires-sync-B
start_all-requires-sync-B g c κs within = c.type_bounds.sync-B

pub start_all-requires-sync-M : goal.start_all-requires-sync-M
start_all-requires-sync-M g c κs within = c.type_bounds.sync-M

pub start_all-requires-sync-R : goal.start_all-requires-sync-R
start_all-requires-sync-R g c κs within = c.type_bounds.sync-R
