use Rattle.peering.proofs.SentLaws.{result_back}
use Rattle.peering.proofs.sent.next_sent.Goals as goal

pub returns-in-Lines-clause-read_back : goal.returns-in-Lines-clause-read_back
returns-in-Lines-clause-read_back g c =
    result_back c.args.framing c.next_in_line.result (g.R.Read.remaining c.args.reader.now) (g.R.Read.remaining c.next_in_line.new.reader) (rw c.in-Lines.is c.next_in_line.ensures)
