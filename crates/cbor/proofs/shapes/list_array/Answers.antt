use Rattle.std.proofs.Common.{◌≡◌, Some, arith, rules}
use Rattle.cbor.specs.Reading.{head_at}
use Rattle.cbor.proofs.ListLoops.{none_in_array, some_in_array}
use Rattle.cbor.proofs.Reading.{head_takes}
use Rattle.cbor.proofs.Bare.{some_wants}
use Rattle.cbor.proofs.ShapeWrites.{whatever_err}
use Rattle.cbor.proofs.shapes.list_array.Goals as goal

pub returns-then-count-eq0-clause-exact : goal.returns-then-count-eq0-clause-exact
returns-then-count-eq0-clause-exact g c =
    let h : head_at 4 c.args.bytes.now ≡ Some (c.in_ok-count.count, c.in_ok-count.rest.now) = search rules in
    rw c.new.ensures.items (none_in_array (g.T.Decode.decoded_at c.args.depth) c.args.bytes.now c.in_ok-count.count c.in_ok-count.rest.now h c.if-count-eq0.true)

pub returns-clause-some : goal.returns-clause-some
returns-clause-some g c =
    let h : head_at 4 c.args.bytes.now ≡ Some (c.in_ok-count.count, c.in_ok-count.rest.now) = search rules in
    whatever_err c.list.result _ (λ rest e. some_in_array (g.T.Decode.decoded_at c.args.depth) c.args.bytes.now c.in_ok-count.count c.in_ok-count.rest.now h rest c.if-count-eq0.false e)

pub returns-clause-begins : goal.returns-clause-begins
returns-clause-begins g c =
    let h : head_at 4 c.args.bytes.now ≡ Some (c.in_ok-count.count, c.in_ok-count.rest.now) = search rules in
    let taken = head_takes 4 c.args.bytes.now c.in_ok-count.count c.in_ok-count.rest.now (λ i. omega (arith, c.type_inv.bytes i)) h in
    let heads = taken.0 in
    some_wants c.list.result 4 c.in_ok-count.count c.args.bytes.now c.in_ok-count.rest.now taken.1 c.list.ensures.some heads.parts
