-- How deep values and mints nest.
use Rattle.std.proofs.Common.{◌≡◌, ◌≢◌, ℕ, ℤ, pos, negsuc, true, false, eqb, List, [], ◌∷◌, map, length, refl, ap, ◌∙◌, arith}
use Rattle.std.specs.List.{AllByRecursion}
use Rattle.model.specs.Cbor.{Item, Unsigned, nesting, pairs_of, pairs_nesting}
use Rattle.model.specs.Value.{Token, Policy, Mint, IsPolicy, IsMint, IsMintedQuantity, entry_of_token, entry_of_policy, item_of_assets, item_of_number, coin_with}

module _ {Q : Type 0} (IsQuantity : Q → Type 0) (item_of : Q → Item) (alone : (q : Q) → nesting (item_of q) ≡ 1) where
  tokens_nest : (ts : List (Token Q)) → ts ≢ [] → pairs_nesting (pairs_of (map (entry_of_token item_of) ts)) ≡ 1
  tokens_nest [] some = absurd (some refl)
  tokens_nest (t ∷ []) some = omega (arith, alone t.quantity)
  tokens_nest (t ∷ u ∷ us) some = omega (arith, alone t.quantity, tokens_nest (u ∷ us) (λ e. absurd cc))

  policies_nest : (ps : List (Policy Q)) → ps ≢ [] → AllByRecursion (IsPolicy IsQuantity) ps → pairs_nesting (pairs_of (map (entry_of_policy item_of) ps)) ≡ 2
  policies_nest [] some all = absurd (some refl)
  policies_nest (p ∷ []) some all = omega (arith, tokens_nest p.tokens all.0.not_empty)
  policies_nest (p ∷ q ∷ qs) some all = omega (arith, tokens_nest p.tokens all.0.not_empty, policies_nest (q ∷ qs) (λ e. absurd cc) all.1)

-- with assets four deep: in an array the map of the policies, in it those of the names, and in these the quantities
pub value_nests : (coin : ℕ) (ps : List (Policy ℕ)) → ps ≢ [] → AllByRecursion (IsPolicy (λ q. q ≢ 0)) ps → nesting (coin_with coin ps) ≡ 4
value_nests coin [] some all = absurd (some refl)
value_nests coin (p ∷ ps) some all = omega (arith, policies_nest (λ q. q ≢ 0) Unsigned (λ q. refl) (p ∷ ps) some all)

number_nests : (q : ℤ) → nesting (item_of_number q) ≡ 1
number_nests (pos n) = refl
number_nests (negsuc n) = refl

-- what is minted stands in no array
pub mint_nests : (ps : Mint) → ps ≢ [] → IsMint ps → nesting (item_of_assets item_of_number ps) ≡ 3
mint_nests ps some all = omega (arith, policies_nest IsMintedQuantity item_of_number number_nests ps some all)

-- where something is there it stands for something
pub some_seen : {A B : Type 0} (f : A → B) (xs : List A) (count : ℕ) → count ≡ length xs → false ≡ eqb count 0 → map f xs ≢ []
some_seen f [] count is some = λ none. let never : false ≡ true = some ∙ ap (λ (n : ℕ). eqb n 0) is in absurd cc
some_seen f (x ∷ xs) count is some = λ none. absurd cc
