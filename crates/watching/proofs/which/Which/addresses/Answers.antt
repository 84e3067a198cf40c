use Rattle.std.proofs.Common.{ℕ, List, map, ap, ◌∙◌}
use Rattle.model.specs.Transaction.{address_bytes}
use Rattle.tx.specs.View.{address_of}
use Rattle.watching.specs.Which.{ByteStrings, Addresses}
use Rattle.watching.proofs.Choosing.{one_held, all_held, map_has, set_has, same_choice}
use Rattle.watching.proofs.which.Which.addresses.Goals as goal

pub loop-address-preserved : goal.loop-address-preserved
loop-address-preserved c =
    one_held (λ (o : List ℕ). o) (λ a. address_bytes (address_of a)) c.args.addresses.now c.loop-address.owners.keys c.insert.new.self.keys c.loop-address.address-index c.of.result c.address-item.result
    c.loop-address-test.true c.address-item.is c.of.ensures c.in_ok-insert.ensures.keys c.loop-address.invariant

pub returns : goal.returns
returns c =
    let all = all_held (λ (o : List ℕ). o) (λ a. address_bytes (address_of a)) c.args.addresses.now c.loop-address.owners.keys c.loop-address.address-index c.loop-address-test.false c.loop-address.invariant in
    ap (λ (s : ByteStrings). Addresses s)
    (same_choice c.loop-address.owners.keys (map (λ a. address_bytes (address_of a)) c.args.addresses.now)
    (λ q. all q ∙ map_has (λ a. address_bytes (address_of a)) c.args.addresses.now q ∙ set_has (map (λ a. address_bytes (address_of a)) c.args.addresses.now) q))
