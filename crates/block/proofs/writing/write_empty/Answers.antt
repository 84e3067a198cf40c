use Rattle.std.proofs.Common.{arith}
use Rattle.block.proofs.Texts.{is_written, text_size}
use Rattle.block.proofs.writing.write_empty.Goals as goal

pub returns-clause-ok : goal.returns-clause-ok
returns-clause-ok c = is_written c.args.header.now c.in_ok-text.text.items (omega arith) (omega arith) c.in_ok-text.ensures

pub returns-clause-size : goal.returns-clause-size
returns-clause-size c = text_size c.args.header.now c.in_ok-text.text.items c.in_ok-text.ensures
