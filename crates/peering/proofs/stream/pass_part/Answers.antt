use Rattle.std.proofs.Common.{◌≤◌, length, IfOk, IfSome, subst, rules}
use Rattle.peering.proofs.StreamLaws.{part_passed}
use Rattle.peering.proofs.stream.pass_part.Goals as goal

pub returns-clause-passed : goal.returns-clause-passed
returns-clause-passed g c =
    let old = g.R.Read.remaining c.args.reader.now in
    let limit = g.R.BufRead.consumable_len c.fill_buf.follows.lender-at-none in
    let within : c.min-count.result ≤ length c.in-Ok.available.now = search rules in
    let fits = subst (λ r. IfSome old (λ _. IfOk r (λ s. IfSome limit (λ k. length s.now ≤ k)))) c.in-Ok.is c.fill_buf.follows.holds-at-none.1 in
    part_passed old _ _ limit c.in-Ok.available.now c.min-count.result within c.in-Ok.ensures.front c.in-Ok.ensures.end c.fill_buf.follows.holds-at-none.0 fits c.consume.ensures.bytes
