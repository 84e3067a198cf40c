use Rattle.snapshot.proofs.SnapshotTexts.{each_has_a_text}
use Rattle.snapshot.proofs.laws.each_has_a_text.Goals as goal

pub returns : goal.returns
returns c = each_has_a_text
