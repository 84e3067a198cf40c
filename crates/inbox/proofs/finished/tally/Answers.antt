use Rattle.std.proofs.Common.{ℕ, length, get_or, ap, ◌∙◌, subst, arith}
use Rattle.std.proofs.lemmas.List.{length-set}
use Rattle.inbox.specs.Arrivals.{SentBy, IsCountOf, came_of}
use Rattle.inbox.proofs.Counting.{below, counted_more}
use Rattle.inbox.proofs.finished.tally.Goals as goal

pub loop-place-preserved : goal.loop-place-preserved
loop-place-preserved g c =
    let i = c.loop-place.invariant in
    let lt = c.loop-place-test.true in
    let place = c.loop-place.place in
    let peer : SentBy = get_or c.args.peers.now place c.index-peers-place.result in (
      length-set c.loop-place.sent place c.count.result ∙ i.0,
      length-set c.loop-place.taken place c.count_of.result ∙ i.1,
      counted_more c.args.adder.now.taken c.args.peers.now c.loop-place.sent c.loop-place.taken place peer c.count.result c.count_of.result
          (let m = i.0 in omega arith) (let m = i.1 in omega arith) (ap (get_or c.args.peers.now place) c.index-peers-place.is)
          record {
            sent = c.count.ensures;
            came = subst (λ (n : ℕ). IsCountOf c.count_of.result (length (came_of n c.args.adder.now.taken))) {x = c.number.result} {y = peer.peer} c.number.ensures.number c.count_of.ensures;
          }
          i.2,
    )

pub returns : goal.returns
returns g c place peer at =
    c.loop-place.invariant.2 place peer
    (let n = below c.args.peers.now place peer at in let m = c.type_inv.peers in let t = c.loop-place-test.false in omega arith) at
