use Rattle.std.proofs.Common.{◌≡◌, ◌≢◌, ◌+◌, List, [], ◌∷◌, ◌++◌, length, take, true, false, refl, sym, ap, subst, ◌∙◌, arith}
use Rattle.std.proofs.lemmas.List.{take_more, take_all}
use Rattle.std.proofs.lemmas.Option.{slice_get_read}
use Rattle.model.specs.Transaction.{Transaction, transaction_id_of}
use Rattle.model.proofs.Lists.{all_push}
use Rattle.model.specs.Asked.{NoTxHas}
use Rattle.chain_core.proofs.standing.index_in.Goals as goal

pub returns-then-has_id : goal.returns-then-has_id
returns-then-has_id g c = record {
  tx = c.index-transactions-index.result;
  here = slice_get_read c.args.transactions.now (length c.args.transactions.now) c.loop-index.index c.index-transactions-index.result refl c.loop-index-test.true c.index-transactions-index.is;
  same = c.if-has_id.ensures.0 refl;
  none_before = c.loop-index.invariant.none;
}

pub loop-index-preserved : goal.loop-index-preserved
loop-index-preserved g c =
    let txs = c.args.transactions.now in
    let index = c.loop-index.index in
    let t = c.index-transactions-index.result in
    let more : take (index + 1) txs ≡ take index txs ++ t ∷ [] = take_more txs index t c.loop-index-test.true ∙ ap (λ (x : Transaction). take index txs ++ x ∷ []) (sym c.index-transactions-index.is) in
    record {
      within = let test = c.loop-index-test.true in omega arith;
      none = subst (λ (ts : List Transaction). NoTxHas ts c.args.id.bytes) (sym more) (all_push (λ (x : Transaction). transaction_id_of x ≢ c.args.id.bytes) (take index txs) t c.loop-index.invariant.none (λ same. let e : false ≡ true = c.if-has_id.ensures.1 same in cc));
    }

pub returns : goal.returns
returns g c =
    let test = c.loop-index-test.false in
    subst (λ (ts : List Transaction). NoTxHas ts c.args.id.bytes) (take_all c.loop-index.index c.args.transactions.now (omega arith)) c.loop-index.invariant.none
