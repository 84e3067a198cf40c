use Rattle.std.proofs.Common.{◌∙◌}
use Rattle.script.proofs.HexDigits.{key_said}
use Rattle.script.proofs.digits.Digits.key.Goals as goal

pub returns : goal.returns
returns c = c.ok.ensures.value ∙ rw (c.from_hex.ensures) (key_said c.args.self.now.text.now c.args.self.now.says)
