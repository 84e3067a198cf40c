-- Where a transaction stands: the first of those with an identifier, and the last block that has one.
use Rattle.std.proofs.Common.{◌≡◌, ℕ, zero, suc, ◌+◌, ◌-◌, ◌<◌, ◌≤◌, List, [], ◌∷◌, ◌++◌, length, take, drop, Some, refl, sym, ap, subst, ◌∙◌, arith}
use Rattle.std.specs.Prelude.{slice_get}
use Rattle.std.specs.List.{AllByRecursion}
use Rattle.std.proofs.lemmas.List.{length-take, length-drop}
use Rattle.std.proofs.lemmas.Option.{same_Some, none-some}
use Rattle.model.specs.Transaction.{Transaction, transaction_id_of}
use Rattle.model.specs.Block.{Block}
use Rattle.model.specs.Asked.{NoTxHas, IsFirstAt, IsLastWith, NoLateBlockHas}

-- a list around its element at a place
parts_at : {X : Type 0} (xs : List X) (place : ℕ) (x : X) → slice_get xs place ≡ Some x → xs ≡ take place xs ++ x ∷ drop (suc place) xs
parts_at [] place x is = absurd (none-some x is)
parts_at (y ∷ ys) zero x is = ap (λ z. z ∷ ys) (same_Some y x is)
parts_at (y ∷ ys) (suc place) x is = ap (λ zs. y ∷ zs) (parts_at ys place x is)

-- what holds of all from some place on holds of one behind it
all_from : (P : Block → Type 0) (n : ℕ) (before : List Block) (b : Block) (later : List Block) → n ≤ length before → AllByRecursion P (drop n (before ++ b ∷ later)) → P b
all_from P zero [] b later le all = all.0
all_from P zero (x ∷ xs) b later le all = all_from P zero xs b later (omega arith) all.1
all_from P (suc n) [] b later le all = absurd (omega (arith, le))
all_from P (suc n) (x ∷ xs) b later le all = all_from P n xs b later (omega (arith, le)) all

-- the last block that has it, which was found going back
pub last_found : (depth : ℕ) (chain : List Block) (id : List ℕ) (place : ℕ) (b : Block) (number index : ℕ) → slice_get chain place ≡ Some b → place < length chain → length chain - depth ≤ place → number ≡ place + 1 → IsFirstAt b.transactions id index
    → AllByRecursion (λ c. NoTxHas c.transactions id) (drop (place + 1) chain) → IsLastWith depth chain id number index
last_found depth chain id place b number index is within late number_is at none = record {
  before = take place chain;
  block = b;
  later = drop (suc place) chain;
  parts = parts_at chain place b is;
  number_is = omega (arith, number_is, within, length-take place chain);
  few_later = omega (arith, within, late, length-drop (suc place) chain);
  at = at;
  none_later = subst (λ (n : ℕ). AllByRecursion (λ c. NoTxHas c.transactions id) (drop n chain)) (let e : place + 1 ≡ suc place = omega arith in e) none;
}

-- none of the last blocks has it
pub none_late : (depth : ℕ) (chain : List Block) (id : List ℕ) (place : ℕ) → place ≤ length chain - depth → AllByRecursion (λ c. NoTxHas c.transactions id) (drop place chain) → NoLateBlockHas depth chain id
none_late depth chain id place early none before b later parts few =
    let long : length chain ≡ length before + suc (length later) = ap length parts ∙ length_around before in
    all_from (λ (c : Block). NoTxHas c.transactions id) place before b later (omega (arith, early, long, few))
    (subst (λ (bs : List Block). AllByRecursion (λ c. NoTxHas c.transactions id) (drop place bs)) parts none)
  where
    length_around : (xs : List Block) → length (xs ++ b ∷ later) ≡ length xs + suc (length later)
    length_around [] = omega arith
    length_around (x ∷ xs) = let e = length_around xs in omega (arith, e)

-- what holds of one and of all behind it holds from it on
pub all_from_here : (P : Block → Type 0) (xs : List Block) (n : ℕ) (x : Block) → slice_get xs n ≡ Some x → P x → AllByRecursion P (drop (suc n) xs) → AllByRecursion P (drop n xs)
all_from_here P [] n x is one all = absurd (none-some x is)
all_from_here P (y ∷ ys) zero x is one all = (subst P (sym (same_Some y x is)) one, all)
all_from_here P (y ∷ ys) (suc n) x is one all = all_from_here P ys n x is one all

-- nothing is behind the end
pub all_past_end : (P : Block → Type 0) (xs : List Block) (n : ℕ) → length xs ≤ n → AllByRecursion P (drop n xs)
all_past_end P [] zero le = tt
all_past_end P [] (suc n) le = tt
all_past_end P (x ∷ xs) zero le = absurd (omega (arith, le))
all_past_end P (x ∷ xs) (suc n) le = all_past_end P xs n (omega (arith, le))

got_behind : (before : List Transaction) (t : Transaction) (rest : List Transaction) → slice_get (before ++ t ∷ rest) (length before) ≡ Some t
got_behind [] t rest = refl
got_behind (x ∷ xs) t rest = got_behind xs t rest

taken_before : (before rest : List Transaction) → take (length before) (before ++ rest) ≡ before
taken_before [] rest = refl
taken_before (x ∷ xs) rest = ap (λ (ts : List Transaction). x ∷ ts) (taken_before xs rest)

-- the first with the identifier, behind those that don't have it
pub first_behind : (txs before : List Transaction) (t : Transaction) (rest : List Transaction) (id : List ℕ) (place : ℕ) → txs ≡ before ++ t ∷ rest → place ≡ length before → NoTxHas before id → transaction_id_of t ≡ id → IsFirstAt txs id place
first_behind txs before t rest id place parts at none same = record {
  tx = t;
  here = ap (λ (ts : List Transaction). slice_get ts place) parts ∙ (ap (slice_get (before ++ t ∷ rest)) at ∙ got_behind before t rest);
  same = same;
  none_before = subst (λ (ts : List Transaction). NoTxHas ts id) (sym (ap (λ (ts : List Transaction). take place ts) parts ∙ (ap (λ (n : ℕ). take n (before ++ t ∷ rest)) at ∙ taken_before before (t ∷ rest)))) none;
}
