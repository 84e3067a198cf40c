use Rattle.std.proofs.Common.{arith}
use Rattle.snapshot.proofs.FrontTexts.{front_has_text, on_ok_any}
use Rattle.snapshot.proofs.front.Front.write.Goals as goal

pub returns-clause-has_text : goal.returns-clause-has_text
returns-clause-has_text c = on_ok_any _ _ (front_has_text c.args.self.now (omega arith) (omega arith) (omega arith) (omega arith))
