use Rattle.snapshot.proofs.SnapshotTexts.{each_is_one_snapshot}
use Rattle.snapshot.proofs.laws.each_is_one_snapshot.Goals as goal

pub returns : goal.returns
returns c = each_is_one_snapshot
