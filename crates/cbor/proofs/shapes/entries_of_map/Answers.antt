use Rattle.std.proofs.Common.{◌≡◌, Some, arith, rules}
use Rattle.cbor.specs.Reading.{head_at}
use Rattle.cbor.proofs.Reading.{head_takes}
use Rattle.cbor.proofs.Bare.{some_wants}
use Rattle.cbor.proofs.shapes.entries_of_map.Goals as goal

pub returns-clause-begins : goal.returns-clause-begins
returns-clause-begins g c =
    let h : head_at 5 c.args.bytes.now ≡ Some (c.in_ok-count.count, c.in_ok-count.rest.now) = search rules in
    let taken = head_takes 5 c.args.bytes.now c.in_ok-count.count c.in_ok-count.rest.now (λ i. omega (arith, c.type_inv.bytes i)) h in
    let heads = taken.0 in
    some_wants c.entries.result 5 c.in_ok-count.count c.args.bytes.now c.in_ok-count.rest.now taken.1 c.entries.ensures.some heads.parts
