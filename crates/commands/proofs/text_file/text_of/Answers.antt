use Rattle.std.proofs.Common.{ap}
use Rattle.commands.proofs.TextsRead.{of_limited}
use Rattle.commands.proofs.text_file.text_of.Goals as goal

pub returns-in-Input : goal.returns-in-Input
returns-in-Input g c = λ is.
    of_limited (λ b. b.items) c.args.text.is_binary 16777216 c.take.result.limit (g.I.Read.remaining c.args.input.now) (g.I.Read.remaining c.take.result.inner.now) c.read_text.result
    c.take.ensures.limit (ap (λ b. g.I.Read.remaining b.now) c.take.ensures.inner) c.read_text.ensures.read c.read_text.ensures.small
