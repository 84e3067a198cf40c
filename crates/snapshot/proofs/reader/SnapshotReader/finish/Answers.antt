use Rattle.snapshot.proofs.Ending.{end_refuses}
use Rattle.snapshot.proofs.reader.SnapshotReader.finish.Goals as goal

pub returns-in-Err-clause-refused : goal.returns-in-Err-clause-refused
returns-in-Err-clause-refused c = end_refuses c.args.self c.in-Err.fault c.in-Err.ensures.fault
