use Rattle.std.proofs.Common.{sym}
use Rattle.script.specs.WordsView.{words_left}
use Rattle.script.proofs.Gathering.{next_tx_known, one_gathered, some_before}
use Rattle.script.proofs.known.Known.gather_txs.Goals as goal

pub loop-name-preserved : goal.loop-name-preserved
loop-name-preserved c = (
  λ all known.
      let bound = sym (c.in-Some-get.ensures all.of_txs known.of_txs) in
      let more = next_tx_known all (words_left c.loop-name.left.words) c.in-Some.name.text.now c.in-Some-get.tx.now (sym c.in-Some.ensures.name) bound in
      (rw (c.next_name.ensures.rest, c.in_ok-push.ensures.items, c.in_ok-try_clone.ensures) (one_gathered c.loop-name.gathered.items c.in-Some-get.tx.now _ _ _ (c.loop-name.invariant.0 all known) more)),
  λ some. c.loop-name.invariant.1 (some_before (words_left c.loop-name.left.words) c.in-Some.name.text.now (sym c.in-Some.ensures.name)),
)
