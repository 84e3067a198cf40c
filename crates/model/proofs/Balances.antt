-- The test of a transaction's balance says that value is preserved: of assets that it names nowhere there is nothing.
use Rattle.std.proofs.Common.{◌≡◌, ℕ, ℤ, pos, ◌+ℤ◌, Bool, true, false, ◌⊎◌, inl, inr, List, [], ◌∷◌, ◌++◌, map, refl, sym, subst, ◌∙◌, arith}
use Rattle.std.specs.List.{list_all}
use Rattle.std.specs.Prelude.{bytes_eq, if◌then◌else◌}
use Rattle.std.specs.Ordering.{int_eq}
use Rattle.std.specs.Cmp.{signed_Decides}
use Rattle.std.proofs.lemmas.Bool.{and_parts}
use Rattle.std.proofs.lemmas.Int.{ints}
use Rattle.std.proofs.lemmas.List.Folds.{list_all-append}
use Rattle.std.proofs.lemmas.Slice.Eq.{bytes_eq-Decides}
use Rattle.model.specs.Value.{Token, Policy, Asset, Ada, Named, named_amount, policy_amount, amount_of, minted_amount}
use Rattle.model.specs.Transaction.{Output, Transaction}
use Rattle.model.specs.Utxo.{Utxo, spent_outputs, sum_of}
use Rattle.model.specs.Balance.{consumed, produced, PreservesValue, assets_under, assets_held, assets_moved, is_balanced}

split_all : (q : Asset → Bool) (xs ys : List Asset) → list_all q (xs ++ ys) ≡ true → (list_all q xs ≡ true) × (list_all q ys ≡ true)
split_all q xs ys h = and_parts (list_all q xs) (list_all q ys) (sym (list_all-append q xs ys) ∙ h)

pub all_from : {X : Type 0} (q : X → Bool) (xs : List X) → ((x : X) → q x ≡ true) → list_all q xs ≡ true
all_from q [] each = refl
all_from q (x ∷ xs) each = rw (each x) (all_from q xs each)

-- of two parts of a sum both are 0
both_none : {P : Type 0} (a b : ℤ) → P ⊎ (a ≡ pos 0) → P ⊎ (b ≡ pos 0) → P ⊎ (a +ℤ b ≡ pos 0)
both_none a b (inl p) second = inl p
both_none a b (inr none) (inl p) = inl p
both_none a b (inr none) (inr nor) = inr (omega (arith, ints))

module _ (q : Asset → Bool) (policy name : List ℕ) where
  -- the test passes of the asset, or there is nothing of it
  abbrev PassesOr : ℤ → Type 0
  PassesOr amount = (q (Named policy name) ≡ true) ⊎ (amount ≡ pos 0)

  token_or : (b : Bool) (id other : List ℕ) (z : ℤ) → bytes_eq name other ≡ b → policy ≡ id → q (Named id other) ≡ true → PassesOr (if b then z else pos 0)
  token_or true id other z is same h = inl (subst (λ (n : List ℕ). q (Named policy n) ≡ true) (sym ((bytes_eq-Decides name other).0 is)) (subst (λ (p : List ℕ). q (Named p other) ≡ true) (sym same) h))
  token_or false id other z is same h = inr refl

  tokens_or : {Q : Type 0} (whole : Q → ℤ) (id : List ℕ) (ts : List (Token Q)) → policy ≡ id → list_all q (map (λ token. Named id token.name) ts) ≡ true → PassesOr (named_amount whole name ts)
  tokens_or whole id [] same h = inr refl
  tokens_or whole id (t ∷ ts) same h =
      let parts = and_parts (q (Named id t.name)) (list_all q (map (λ token. Named id token.name) ts)) h in
      both_none (if bytes_eq name t.name then whole t.quantity else pos 0) (named_amount whole name ts)
      (token_or (bytes_eq name t.name) id t.name (whole t.quantity) refl same parts.0) (tokens_or whole id ts same parts.1)

  policy_or : (b : Bool) (id : List ℕ) (z : ℤ) → bytes_eq policy id ≡ b → (policy ≡ id → PassesOr z) → PassesOr (if b then z else pos 0)
  policy_or true id z is h = h ((bytes_eq-Decides policy id).0 is)
  policy_or false id z is h = inr refl

  policies_or : {Q : Type 0} (whole : Q → ℤ) (ps : List (Policy Q)) → list_all q (assets_under ps) ≡ true → PassesOr (policy_amount whole policy name ps)
  policies_or whole [] h = inr refl
  policies_or whole (p ∷ ps) h =
      let parts = split_all q (map (λ token. Named p.id token.name) p.tokens) (assets_under ps) h in
      both_none (if bytes_eq policy p.id then named_amount whole name p.tokens else pos 0) (policy_amount whole policy name ps)
      (policy_or (bytes_eq policy p.id) p.id (named_amount whole name p.tokens) refl (λ same. tokens_or whole p.id p.tokens same parts.0)) (policies_or whole ps parts.1)

  outputs_or : (os : List Output) → list_all q (assets_held os) ≡ true → PassesOr (sum_of (Named policy name) os)
  outputs_or [] h = inr refl
  outputs_or (o ∷ os) h =
      let parts = split_all q (assets_under o.value.assets) (assets_held os) h in
      both_none (amount_of (Named policy name) o.value) (sum_of (Named policy name) os) (policies_or pos o.value.assets parts.0) (outputs_or os parts.1)

module _ (utxo : Utxo) (t : Transaction) where
  -- as much of an asset is consumed as is produced
  abbrev test : Asset → Bool
  test asset = int_eq (consumed utxo t asset) (produced t asset)

  same_amounts : (asset : Asset) → test asset ≡ true → consumed utxo t asset ≡ produced t asset
  same_amounts asset h = (signed_Decides (consumed utxo t asset) (produced t asset)).0 h

  pub balanced_preserves : is_balanced utxo t ≡ true → PreservesValue utxo t
  balanced_preserves h Ada = same_amounts Ada (and_parts (test Ada) (list_all test (assets_held (spent_outputs utxo t) ++ (assets_under t.mint ++ assets_held t.outputs))) h).0
  balanced_preserves h (Named policy name) =
      let named = (and_parts (test Ada) (list_all test (assets_held (spent_outputs utxo t) ++ (assets_under t.mint ++ assets_held t.outputs))) h).1 in
      let spent = split_all test (assets_held (spent_outputs utxo t)) (assets_under t.mint ++ assets_held t.outputs) named in
      let others = split_all test (assets_under t.mint) (assets_held t.outputs) spent.1 in
      let used = both_none (sum_of (Named policy name) (spent_outputs utxo t)) (minted_amount (Named policy name) t.mint)
      (outputs_or test policy name (spent_outputs utxo t) spent.0) (policies_or test policy name (λ quantity. quantity) t.mint others.0) in
      let made = both_none (sum_of (Named policy name) t.outputs) (pos 0) (outputs_or test policy name t.outputs others.1) (inr refl) in
      elim used [
        | inl passes ↦ same_amounts (Named policy name) passes
        | inr none ↦ elim made [ inl passes ↦ same_amounts (Named policy name) passes | inr nor ↦ none ∙ sym nor ]
      ]

  pub preserves_balanced : PreservesValue utxo t → is_balanced utxo t ≡ true
  preserves_balanced same = all_from test (assets_moved utxo t) (λ asset. (signed_Decides (consumed utxo t asset) (produced t asset)).1 (same asset))
