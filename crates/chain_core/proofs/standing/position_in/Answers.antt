use Rattle.std.proofs.Common.{◌≡◌, ◌≢◌, List, [], ◌∷◌, ◌++◌, length, map, true, false, refl, sym, ap, subst, ◌∙◌, arith, append_assoc, append-nil}
use Rattle.std.specs.Arc.{arc_value}
use Rattle.std.proofs.lemmas.List.{length-append}
use Rattle.model.specs.Transaction.{Transaction, transaction_id_of}
use Rattle.model.proofs.Lists.{all_push}
use Rattle.model.specs.Asked.{NoTxHas}
use Rattle.chain_core.proofs.TxPlaces.{first_behind}
use Rattle.chain_core.proofs.standing.position_in.Goals as goal

pub loop-tx-init : goal.loop-tx-init
loop-tx-init g c = ([], sym c.iter-tx-items.ensures ∙ ap (map arc_value) (sym c.into_iter-tx-iterator.ensures.into_iter_gives), refl, tt)

pub returns-then-has_id : goal.returns-then-has_id
returns-then-has_id g c =
    let is = c.loop-tx.invariant in
    let t : Transaction = arc_value c.in-Some.tx.now in
    first_behind c.args.mempool.now.waiting.txs is.0 t (map arc_value c.next.new.self) c.args.id.bytes c.loop-tx.position
    (is.1 ∙ ap (λ xs. is.0 ++ map arc_value xs) c.in-Some.ensures.steps) is.2 is.3 (subst (λ (x : Transaction). transaction_id_of x ≡ c.args.id.bytes) c.deref.ensures (c.if-has_id.ensures.0 refl))

pub overflow_add-position : goal.overflow_add-position
overflow_add-position g c =
    let is = c.loop-tx.invariant in
    let t : Transaction = arc_value c.in-Some.tx.now in
    let long = ap length (is.1 ∙ ap (λ xs. is.0 ++ map arc_value xs) c.in-Some.ensures.steps) in
    let most = c.len-most.ensures in
    let at = is.2 in
    omega (arith, long, length-append is.0 (t ∷ map arc_value c.next.new.self))

pub loop-tx-preserved : goal.loop-tx-preserved
loop-tx-preserved g c =
    let is = c.loop-tx.invariant in
    let t : Transaction = arc_value c.in-Some.tx.now in
    let rest : List Transaction = map arc_value c.next.new.self in (
      is.0 ++ t ∷ [],
      is.1 ∙ (ap (λ xs. is.0 ++ map arc_value xs) c.in-Some.ensures.steps ∙ sym (append_assoc is.0 (t ∷ []) rest)),
      (let at = is.2 in omega (arith, length-append is.0 (t ∷ []))),
      all_push (λ (x : Transaction). transaction_id_of x ≢ c.args.id.bytes) is.0 t is.3 (λ same. let e : false ≡ true = c.if-has_id.ensures.1 (subst (λ (x : Transaction). transaction_id_of x ≡ c.args.id.bytes) (sym c.deref.ensures) same) in cc),
    )

pub returns : goal.returns
returns g c =
    let is = c.loop-tx.invariant in
    let all : c.args.mempool.now.waiting.txs ≡ is.0 = is.1 ∙ (ap (λ xs. is.0 ++ map arc_value xs) c.in-None.ensures.steps.0 ∙ append-nil is.0) in
    subst (λ (ts : List Transaction). NoTxHas ts c.args.id.bytes) (sym all) is.3
