-- How much lovelace pairs hold together when one is put in or taken out.
use Rattle.std.proofs.Common.{◌≡◌, ℕ, ◌+◌, ◌-◌, ◌≤◌, true, false, cond, not, List, [], ◌∷◌, Option, Some, None, refl, sym, ap, subst, ◌∙◌, arith}
use Rattle.std.specs.Prelude.{T}
use Rattle.std.specs.FinMap.{find, put, is_sorted}
use Rattle.std.specs.FinMap.Entries.{where_key, below_all, by_order}
use Rattle.std.specs.Ordering.{eq_by_cmp, is_eq, is_lt}
use Rattle.std.specs.declared.cmp.Ordering.{Ordering}
use Rattle.std.specs.declared.cmp.Ordering.TheVariants.{Less, Equal, Greater}
use Rattle.model.specs.Transaction.{Input, Output, input_cmp}
use Rattle.model.proofs.Unspent.{same_from, inputs_total}
use Rattle.model.proofs.UtxoSums.{first, second, less, below_none}
use Rattle.std.specs.Cmp.{IsTotalOrder}
use Rattle.persistent_map.specs.Order.{Rise, without}
use Rattle.utxo_rules.specs.Inside.{coin_in, coin_at}

-- an input below the first of a list that rises is below all
below_more : (q : Input) (e : Input × Output) (es : List (Input × Output)) → input_cmp q e.0 ≡ Less → T (below_all input_cmp e.0 es) → find input_cmp q es ≡ None
below_more q e [] lt h = refl
below_more q e (f ∷ fs) lt h =
    let after : input_cmp q f.0 ≡ Less = IsTotalOrder.trans inputs_total q e.0 f.0 lt (less (input_cmp e.0 f.0) (first (is_lt (input_cmp e.0 f.0)) (below_all input_cmp e.0 fs) h)) in
    ap (λ (r : Ordering). cond (is_eq r) (Some f.1) (find input_cmp q fs)) after
    ∙ below_more q e fs lt (second (is_lt (input_cmp e.0 f.0)) (below_all input_cmp e.0 fs) h)

put_in : (k : Input) (o : Output) (es : List (Input × Output)) → T (is_sorted input_cmp es) → coin_in (put input_cmp k o es) + coin_at (find input_cmp k es) ≡ coin_in es + o.value.coin
put_in k o [] h = omega arith
put_in k o (e ∷ es) h =
    elim (input_cmp k e.0) as (λ r. input_cmp k e.0 ≡ r →
    coin_in (by_order r ((k, o) ∷ e ∷ es) ((e.0, o) ∷ es) (e ∷ put input_cmp k o es)) + coin_at (cond (is_eq r) (Some e.1) (find input_cmp k es)) ≡ coin_in (e ∷ es) + o.value.coin) [
      | Less ↦ λ p.
          let none : coin_at (find input_cmp k es) ≡ 0 = ap coin_at (below_more k e es p (first (below_all input_cmp e.0 es) (is_sorted input_cmp es) h)) in
          omega (arith, none)
      | Equal ↦ λ p. omega arith
      | Greater ↦ λ p. let rest = put_in k o es (second (below_all input_cmp e.0 es) (is_sorted input_cmp es) h) in omega (arith, rest)
    ] refl

taken_out : (k : Input) (es : List (Input × Output)) → T (is_sorted input_cmp es) → coin_in (where_key input_cmp (λ x. not (eq_by_cmp input_cmp k x)) es) + coin_at (find input_cmp k es) ≡ coin_in es
taken_out k [] h = refl
taken_out k (e ∷ es) h =
    let left : List (Input × Output) = where_key input_cmp (λ x. not (eq_by_cmp input_cmp k x)) es in
    let rest : coin_in left + coin_at (find input_cmp k es) ≡ coin_in es = taken_out k es (second (below_all input_cmp e.0 es) (is_sorted input_cmp es) h) in
    elim (eq_by_cmp input_cmp k e.0) as (λ b. eq_by_cmp input_cmp k e.0 ≡ b → coin_in (cond (not b) (e ∷ left) left) + coin_at (cond b (Some e.1) (find input_cmp k es)) ≡ coin_in (e ∷ es)) [
      | true ↦ λ p.
          let below : T (below_all input_cmp k es) = subst (λ (x : Input). T (below_all input_cmp x es)) (sym (same_from k e.0 p)) (first (below_all input_cmp e.0 es) (is_sorted input_cmp es) h) in
          let none : coin_at (find input_cmp k es) ≡ 0 = ap coin_at (below_none k es below) in
          omega (arith, none, rest)
      | false ↦ λ p. omega (arith, rest)
    ] refl

-- what is held once a pair is put in
pub put_counted : (k : Input) (o : Output) (es new : List (Input × Output)) (coin amount more old : ℕ) (found : Option Output) → Rise input_cmp es → coin ≡ coin_in es → amount ≡ o.value.coin → more ≡ coin + amount
    → old ≡ coin_at found → found ≡ find input_cmp k es → new ≡ put input_cmp k o es → (old ≤ more) × (more - old ≡ coin_in new)
put_counted k o es new coin amount more old found rise is holds sum at same put_is =
    let whole = put_in k o es rise.rises in
    let there : coin_at found ≡ coin_at (find input_cmp k es) = ap coin_at same in
    let left : coin_in new ≡ coin_in (put input_cmp k o es) = ap coin_in put_is in
    (omega (arith, is, holds, sum, at, there, whole), omega (arith, is, holds, sum, at, there, whole, left))

-- what is held once a pair is taken out
pub taken_counted : (k : Input) (es new : List (Input × Output)) (coin old : ℕ) (found : Option Output) → Rise input_cmp es → coin ≡ coin_in es → old ≡ coin_at found → found ≡ find input_cmp k es → new ≡ without input_cmp k es
    → (old ≤ coin) × (coin - old ≡ coin_in new)
taken_counted k es new coin old found rise is at same left_is =
    let whole = taken_out k es rise.rises in
    let there : coin_at found ≡ coin_at (find input_cmp k es) = ap coin_at same in
    let left : coin_in new ≡ coin_in (without input_cmp k es) = ap coin_in left_is in
    (omega (arith, is, at, there, whole), omega (arith, is, at, there, whole, left))
