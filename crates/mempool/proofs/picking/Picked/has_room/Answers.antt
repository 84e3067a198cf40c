use Rattle.std.proofs.Common.{◌≡◌, ◌≤◌, ◌+◌, ◌^◌, ◌<◌, ◌∷◌, [], ◌++◌, ap, subst, ◌∙◌, arith, length, map, refl}
use Rattle.std.proofs.lemmas.Bool.{leb-true}
use Rattle.std.proofs.lemmas.List.{length-map}
use Rattle.utxo_rules.specs.View.{params_of}
use Rattle.model.specs.Cbor.{head, nesting}
use Rattle.model.specs.Transaction.{item_of_transaction}
use Rattle.model.specs.Mempool.{fits_in_a_block}
use Rattle.mempool.specs.Contents.{Waiting}
use Rattle.mempool.specs.Taking.{taken_tx}
use Rattle.mempool.specs.Picking.{IsRoomFor}
use Rattle.mempool.proofs.Offers.{has_room, no_room, room_for, le_false}
use Rattle.mempool.proofs.picking.Picked.has_room.Goals as goal

pub returns-then-size-into-clause-exact : goal.returns-then-size-into-clause-exact
returns-then-size-into-clause-exact g c =
    let txs = map taken_tx c.self.inside.txs.items in
    let view = ap (λ (w : Waiting). w.txs) c.self.view_is in
    let count : length txs + 1 ≡ c.len.result + 1 = omega (arith, length-map c.self.inside.txs.items taken_tx) in
    let head_is : length (head 4 (length txs + 1)) ≡ c.head_size-head.result = ap (λ n. length (head 4 n)) count ∙ c.head_size-head.ensures 4 in
    let within : c.head_size-head.result + (c.self.inside.size + c.size.result) ≤ c.args.params.now.max_body_size = omega arith in
    let room = has_room txs c.self.inside.size c.self.invariant c.args.tx.now c.head_size-head.result c.size.result c.nesting.result head_is c.size.ensures c.nesting.ensures.deep (params_of c.args.params.now) within in
    room ∙ ap (λ ts. fits_in_a_block (params_of c.args.params.now) (ts ++ c.args.tx.now ∷ [])) view

pub returns-then-size-into-clause-room : goal.returns-then-size-into-clause-room
returns-then-size-into-clause-room g c = λ within.
    let txs = map taken_tx c.self.inside.txs.items in
    let view = ap (λ (w : Waiting). w.txs) c.self.view_is in
    let count : length txs + 1 ≡ c.len.result + 1 = omega (arith, length-map c.self.inside.txs.items taken_tx) in
    let head_is : length (head 4 (length txs + 1)) ≡ c.head_size-head.result = ap (λ n. length (head 4 n)) count ∙ c.head_size-head.ensures 4 in
    let few : c.head_size-head.result + (c.self.inside.size + c.size.result) < 2 ^ 64 = omega arith in
    subst (λ ts. IsRoomFor ts c.args.tx.now) view
    (room_for txs c.self.inside.size c.self.invariant c.args.tx.now c.head_size-head.result c.size.result c.nesting.result head_is c.size.ensures c.nesting.ensures.deep c.nesting.ensures.spelled few (leb-true c.nesting.result 62 within))

pub returns-else-size-into-clause-exact : goal.returns-else-size-into-clause-exact
returns-else-size-into-clause-exact g c =
    let txs = map taken_tx c.self.inside.txs.items in
    let view = ap (λ (w : Waiting). w.txs) c.self.view_is in
    let count : length txs + 1 ≡ c.len.result + 1 = omega (arith, length-map c.self.inside.txs.items taken_tx) in
    let head_is : length (head 4 (length txs + 1)) ≡ c.head_size-head.result = ap (λ n. length (head 4 n)) count ∙ c.head_size-head.ensures 4 in
    let above : c.args.params.now.max_body_size < c.head_size-head.result + (c.self.inside.size + c.size.result) = omega arith in
    let none = no_room txs c.self.inside.size c.self.invariant c.args.tx.now c.head_size-head.result c.size.result (nesting (item_of_transaction c.args.tx.now)) head_is c.size.ensures refl (params_of c.args.params.now) above in
    le_false c.saturating_add-size.result c.into.result c.if-size-into.false ∙ (none ∙ ap (λ ts. fits_in_a_block (params_of c.args.params.now) (ts ++ c.args.tx.now ∷ [])) view)
