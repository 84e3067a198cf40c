-- What it means that `==` holds of assets, of values and of what is minted.
use Rattle.std.proofs.Common.{◌≡◌, ◌≢◌, ℕ, Bool, true, false, ◌&&◌, List, [], ◌∷◌, map, ℤ, refl, sym, ap, subst, ◌∙◌, nat_eq}
use Rattle.std.specs.Prelude.{◌↔◌, IsTrue, bytes_eq}
use Rattle.std.specs.Bool.{Decides}
use Rattle.std.specs.Ordering.{int_eq}
use Rattle.std.specs.Cmp.Lexicographic.{pointwise}
use Rattle.std.proofs.lemmas.Bool.{eqb-true, eq-eqb}
use Rattle.std.proofs.lemmas.Bool.Decides.{Decides-eqb, Decides-int_eq}
use Rattle.std.proofs.lemmas.Slice.Eq.{bytes_eq-Decides}
use Rattle.model.specs.Cbor.{Item, text_of, HasText}
use Rattle.model.specs.Value.{Token, Policy, Value, Mint, item_of_value, item_of_number, item_of_assets}
use Rattle.model.proofs.ItemTexts.{one_item}
use Rattle.model.proofs.ValueItems.{same_value, same_mint}
use Rattle.value.specs.declared.assets.Token.{Token as CodeToken}
use Rattle.value.specs.declared.assets.Policy.{Policy as CodePolicy}
use Rattle.value.specs.View.{token_of, policy_of, value_with}

both : (a b : Bool) → a && b ≡ true → (a ≡ true) × (b ≡ true)
both true b h = (refl, h)
both false b h = absurd cc

and_true : (a b : Bool) → a ≡ true → b ≡ true → a && b ≡ true
and_true a b p q = rw p q

head_is : {E : Type 0} (x y : E) (xs ys : List E) → x ∷ xs ≡ y ∷ ys → (x ≡ y) × (xs ≡ ys)
head_is x y xs ys e = (cc, cc)

-- where a test says of two members whether they stand for the same, so it says of two lists
list_decides : {X E : Type 0} (f : X → E) (test : X → X → Bool) → ((x y : X) → Decides (test x y) (f x ≡ f y)) → (xs ys : List X) → Decides (pointwise test xs ys) (map f xs ≡ map f ys)
list_decides f test decides [] [] = (λ t. refl, λ e. refl)
list_decides f test decides [] (y ∷ ys) = (λ t. absurd cc, λ e. absurd cc)
list_decides f test decides (x ∷ xs) [] = (λ t. absurd cc, λ e. absurd cc)
list_decides f test decides (x ∷ xs) (y ∷ ys) = (
  λ t.
      let two = both (test x y) (pointwise test xs ys) t in
      let first = (decides x y).0 two.0 in
      let others = (list_decides f test decides xs ys).0 two.1 in
      λ i. first i ∷ others i,
  λ e.
      let two = head_is (f x) (f y) (map f xs) (map f ys) e in
      and_true (test x y) (pointwise test xs ys) ((decides x y).1 two.0) ((list_decides f test decides xs ys).1 two.1),
)

module _ {Q : Type 0} (same : Q → Q → Bool) (decides : (x y : Q) → Decides (same x y) (x ≡ y)) where
  abbrev same_token : CodeToken Q → CodeToken Q → Bool
  same_token t u = pointwise nat_eq t.name.items u.name.items && same t.quantity u.quantity

  token_decides : (t u : CodeToken Q) → Decides (same_token t u) (token_of t ≡ token_of u)
  token_decides t u = (
    λ h.
        let two = both (pointwise nat_eq t.name.items u.name.items) (same t.quantity u.quantity) h in
        let name = (bytes_eq-Decides t.name.items u.name.items).0 two.0 in
        let quantity = (decides t.quantity u.quantity).0 two.1 in
        λ i. record { name = name i; quantity = quantity i },
    λ e. and_true (pointwise nat_eq t.name.items u.name.items) (same t.quantity u.quantity) ((bytes_eq-Decides t.name.items u.name.items).1 (ap (λ (x : Token Q). x.name) e)) ((decides t.quantity u.quantity).1 (ap (λ (x : Token Q). x.quantity) e)),
  )

  abbrev pub same_policy : CodePolicy Q → CodePolicy Q → Bool
  same_policy p q = pointwise nat_eq p.id.bytes q.id.bytes && pointwise same_token p.tokens.items q.tokens.items

  policy_decides : (p q : CodePolicy Q) → Decides (same_policy p q) (policy_of p ≡ policy_of q)
  policy_decides p q =
      let tokens = list_decides token_of same_token token_decides p.tokens.items q.tokens.items in (
        λ h.
            let two = both (pointwise nat_eq p.id.bytes q.id.bytes) (pointwise same_token p.tokens.items q.tokens.items) h in
            let id = (bytes_eq-Decides p.id.bytes q.id.bytes).0 two.0 in
            let all = tokens.0 two.1 in
            λ i. record { id = id i; tokens = all i },
        λ e. and_true (pointwise nat_eq p.id.bytes q.id.bytes) (pointwise same_token p.tokens.items q.tokens.items) ((bytes_eq-Decides p.id.bytes q.id.bytes).1 (ap (λ (x : Policy Q). x.id) e)) (tokens.1 (ap (λ (x : Policy Q). x.tokens) e)),
      )

  policies_decide : (ps qs : List (CodePolicy Q)) → Decides (pointwise same_policy ps qs) (map policy_of ps ≡ map policy_of qs)
  policies_decide = list_decides policy_of same_policy policy_decides

-- two answers of one question
same_answer : (a b : Bool) (P : Type 0) → Decides a P → Decides b P → a ≡ b
same_answer true b P p q = sym (q.1 (p.0 refl))
same_answer false true P p q = p.1 (q.0 refl)
same_answer false false P p q = refl

-- where a test says whether two things are the same, it says whether their texts are
texts_decide : {A : Type 0} (item_of : A → Item) (one : (a b : A) → item_of a ≡ item_of b → a ≡ b) (a b : A) → HasText (item_of a) → HasText (item_of b) → Decides (bytes_eq (text_of (item_of a)) (text_of (item_of b))) (a ≡ b)
texts_decide {A} item_of one a b p q =
    let decides = bytes_eq-Decides (text_of (item_of a)) (text_of (item_of b)) in
    (λ h. one a b (one_item (item_of a) (item_of b) (text_of (item_of a)) (record { has_text = p; spelled = refl }) (record { has_text = q; spelled = decides.0 h })), λ e. decides.1 (ap (λ (x : A). text_of (item_of x)) e))

-- what is promised of `==`
abbrev pub IsSameness : {A : Type 0} → (A → Item) → Bool → A → A → Type 0
IsSameness item_of r a b = (r ≡ bytes_eq (text_of (item_of a)) (text_of (item_of b))) × (IsTrue r ↔ (a ≡ b))

is_sameness : {A : Type 0} (item_of : A → Item) (one : (a b : A) → item_of a ≡ item_of b → a ≡ b) (r : Bool) (a b : A) → HasText (item_of a) → HasText (item_of b) → Decides r (a ≡ b) → IsSameness item_of r a b
is_sameness item_of one r a b p q decides = (same_answer r (bytes_eq (text_of (item_of a)) (text_of (item_of b))) (a ≡ b) decides (texts_decide item_of one a b p q), decides)

-- of what is minted
pub mint_sameness : (a b : Mint) (r : Bool) (ps qs : List (CodePolicy ℤ)) → map policy_of ps ≡ a → map policy_of qs ≡ b → HasText (item_of_assets item_of_number (map policy_of ps)) → HasText (item_of_assets item_of_number (map policy_of qs))
    → r ≡ pointwise (same_policy int_eq Decides-int_eq) ps qs → IsSameness (item_of_assets item_of_number) r a b
mint_sameness a b r ps qs view other p q e =
    subst (λ (x : Mint × Mint). IsSameness (item_of_assets item_of_number) r x.0 x.1) {x = (map policy_of ps, map policy_of qs)} {y = (a, b)} (λ i. (view i, other i))
    (is_sameness (item_of_assets item_of_number) same_mint r (map policy_of ps) (map policy_of qs) p q (subst (λ (b : Bool). Decides b (map policy_of ps ≡ map policy_of qs)) (sym e) (policies_decide int_eq Decides-int_eq ps qs)))

value_decides : (m n : ℕ) (ps qs : List (CodePolicy ℕ)) (r : Bool) → r ≡ (nat_eq m n && pointwise (same_policy nat_eq Decides-eqb) ps qs) → Decides r (value_with m ps ≡ value_with n qs)
value_decides m n ps qs r e =
    let assets = policies_decide nat_eq Decides-eqb ps qs in
    let coin = Decides-eqb m n in (
      λ h.
          let two = both (nat_eq m n) (pointwise (same_policy nat_eq Decides-eqb) ps qs) (sym e ∙ h) in
          let c = coin.0 two.0 in
          let a = assets.0 two.1 in
          λ i. record { coin = c i; assets = a i },
      λ same. e ∙ and_true (nat_eq m n) (pointwise (same_policy nat_eq Decides-eqb) ps qs) (coin.1 (ap (λ (v : Value). v.coin) same)) (assets.1 (ap (λ (v : Value). v.assets) same)),
    )

-- where coins are the same, assets decide
pub same_coin : (m n : ℕ) (r all : Bool) → m ≡ n → r ≡ all → r ≡ (nat_eq m n && all)
same_coin m n r all same e = rw (eq-eqb m n same) e

-- and where not, nothing else does
pub other_coin : (m n : ℕ) (all : Bool) → m ≢ n → nat_eq m n ≡ (nat_eq m n && all)
other_coin m n all other = stays (nat_eq m n) all (λ t. other (eqb-true m n t))
  where
    stays : (b all : Bool) → (b ≡ true → ⊥) → b ≡ (b && all)
    stays true all h = absurd (h refl)
    stays false all h = refl

-- of values
pub value_sameness : (a b : Value) (m n : ℕ) (ps qs : List (CodePolicy ℕ)) (r : Bool) → value_with m ps ≡ a → value_with n qs ≡ b → HasText (item_of_value (value_with m ps)) → HasText (item_of_value (value_with n qs))
    → r ≡ (nat_eq m n && pointwise (same_policy nat_eq Decides-eqb) ps qs) → IsSameness item_of_value r a b
value_sameness a b m n ps qs r view other p q e =
    subst (λ (x : Value × Value). IsSameness item_of_value r x.0 x.1) {x = (value_with m ps, value_with n qs)} {y = (a, b)} (λ i. (view i, other i))
    (is_sameness item_of_value same_value r (value_with m ps) (value_with n qs) p q (value_decides m n ps qs r e))
