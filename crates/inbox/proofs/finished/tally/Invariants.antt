use Rattle.std.proofs.Common.{◌≡◌, ℕ, Some, slice_get, slice_index, ◌<◌, length}
use Rattle.inbox.specs.Arrivals.{SentBy, peers}
use Rattle.inbox.specs.Telling.{IsCountedOf}
use Rattle.inbox.proofs.finished.tally.Given as goal

abbrev pub invariant-loop-place : goal.invariant-loop-place
invariant-loop-place g l =
    (length l.sent ≡ peers) × (length l.taken ≡ peers)
    × ((place : ℕ) (peer : SentBy) → place < l.place → slice_get l.peers place ≡ Some peer
    → IsCountedOf l.adder.taken peer (slice_index l.sent place) (slice_index l.taken place))
