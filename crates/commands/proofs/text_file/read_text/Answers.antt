use Rattle.commands.proofs.TextsRead.{of_reader, small_of}
use Rattle.commands.proofs.text_file.read_text.Goals as goal

pub returns-clause-read : goal.returns-clause-read
returns-clause-read g c = of_reader (λ b. b.items) c.args.text.is_binary (g.R.Read.remaining c.args.reader.now) c.in_ok-read.read.items c.bytes_in.result c.in_ok-read.ensures.read c.bytes_in.ensures

pub returns-clause-small : goal.returns-clause-small
returns-clause-small g c = small_of 16777216 (g.R.Read.remaining c.args.reader.now) c.in_ok-read.read.items c.bytes_in.result c.in_ok-read.ensures.read c.in_ok-read.ensures.small
