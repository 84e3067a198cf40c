use Rattle.std.proofs.Common.{◌≡◌, Some, arith, rules}
use Rattle.cbor.specs.Shapes.{members_at}
use Rattle.cbor.specs.Bare.{BeginsWithHead}
use Rattle.cbor.proofs.ForCallers.{members_takes, wants_anyway}
use Rattle.value.proofs.reader.coin_and_assets.Goals as goal

pub returns-in_err-assets-clause-begins : goal.returns-in_err-assets-clause-begins
returns-in_err-assets-clause-begins c =
    let members = c.in_ok-members.members.now in
    let m : members_at 2 c.args.bytes.now ≡ Some members = search rules in
    let taken = members_takes 2 c.args.bytes.now members (λ i. omega (arith, c.type_inv.bytes i)) m in
    wants_anyway c.from_residual-in_err-assets.result (BeginsWithHead 4 2 c.args.bytes.now) (record { rest = members; parts = taken.parts })
