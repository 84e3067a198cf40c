use Rattle.std.proofs.Common.{◌<◌, ◌≤◌, length, subst, rules}
use Rattle.conversing.specs.Lines.{TakesPiece}
use Rattle.conversing.proofs.PieceLaws.{line_whole, reads_whole, reads_cut}
use Rattle.conversing.proofs.lane_line.read_line.Goals as goal

pub returns-else-is_empty-clause-read : goal.returns-else-is_empty-clause-read
returns-else-is_empty-clause-read g c =
    let unread = g.R.Read.remaining c.args.reader.now in
    let mid = g.R.Read.remaining c.loop.reader in
    let rest = g.R.Read.remaining c.take_piece.new.reader in
    let line = c.take_piece.new.line.items in
    let took = subst (λ p. TakesPiece c.args.limit p mid rest c.loop.line.items line) c.in-End.is c.in_ok-take_piece.ensures.taken in
    let whole = line_whole unread mid rest c.loop.line.items line c.loop.invariant.begun took in
    let some : 0 < length line = search rules in
    let few : length line ≤ c.args.limit = search rules in
    reads_whole c.args.limit unread rest line whole.0 whole.1 some few

pub returns-in-TooMuch-clause-read : goal.returns-in-TooMuch-clause-read
returns-in-TooMuch-clause-read g c =
    let mid = g.R.Read.remaining c.loop.reader in
    let rest = g.R.Read.remaining c.take_piece.new.reader in
    let line = c.take_piece.new.line.items in
    let took = subst (λ p. TakesPiece c.args.limit p mid rest c.loop.line.items line) c.in-TooMuch.is c.in_ok-take_piece.ensures.taken in
    reads_cut c.args.limit (g.R.Read.remaining c.args.reader.now) mid rest (g.R.Read.remaining c.skip_until.new.self) c.loop.line.items line c.loop.invariant.begun took c.in-Ok.ensures.rest
