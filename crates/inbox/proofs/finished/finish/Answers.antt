use Rattle.std.proofs.Common.{◌≡◌, List, sym, subst, Some}
use Rattle.std.specs.Prelude.{slice_get, slice_index}
use Rattle.inbox.specs.Arrivals.{SentBy, Intake}
use Rattle.inbox.specs.Telling.{BeginsWhatWasSent, IsCountedOf}
use Rattle.inbox.proofs.Counting.{all_at}
use Rattle.inbox.proofs.finished.finish.Goals as goal

pub returns : goal.returns
returns g c place peer at =
    record {
      begins = all_at (BeginsWhatWasSent c.args.adder.taken) c.args.peers place peer c.compare_all.ensures.begins at;
      counted = subst (λ (l : Intake). IsCountedOf l.taken peer (slice_index c.tally.result.sent place) (slice_index c.tally.result.taken place))
          c.compare_all.ensures.adder
          (c.tally.ensures place peer (subst (λ (l : List SentBy). slice_get l place ≡ Some peer) (sym c.compare_all.ensures.peers) at));
    }
