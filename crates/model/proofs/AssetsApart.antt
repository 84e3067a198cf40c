-- No asset stands twice in a value that has a text.
use Rattle.std.proofs.Common.{◌≡◌, ◌≢◌, ℕ, zero, suc, List, [], ◌∷◌, ◌++◌, map, Some, refl, sym, ap, ◌∙◌}
use Rattle.std.specs.Prelude.{slice_get}
use Rattle.std.specs.List.{AllByRecursion}
use Rattle.std.specs.Ordering.{nat_cmp}
use Rattle.std.specs.declared.cmp.Ordering.TheVariants.{Less}
use Rattle.std.specs.Cmp.Lexicographic.{slice_cmp}
use Rattle.std.proofs.lemmas.Option.{same_Some, none-some}
use Rattle.model.specs.Cbor.{Unsigned, Bytes, text_of, pairs_of, PairsHaveRisingKeys, HasText}
use Rattle.model.specs.Value.{Token, Policy, Value, Asset, Named, entry_of_token, entry_of_policy, item_of_value}
use Rattle.model.specs.Balance.{assets_under}
use Rattle.model.proofs.Lists.{all_append}
use Rattle.model.proofs.RisingKeys.{keys_differ, before_all}

-- the text of one key stands before that of another
abbrev IsBefore : List ℕ → List ℕ → Type 0
IsBefore a b = slice_cmp nat_cmp (text_of (Bytes a)) (text_of (Bytes b)) ≡ Less

-- each of the assets is another one
abbrev AreOthers : Asset → List Asset → Type 0
AreOthers a rest = AllByRecursion (λ b. b ≢ a) rest

-- none of the list stands in it again
abbrev AreApart : List Asset → Type 0
AreApart [] = Unit {0}
AreApart (a ∷ rest) = AreOthers a rest × AreApart rest

same_policy : (p q a b : List ℕ) → Named p a ≡ Named q b → p ≡ q
same_policy p q a b e = cc

same_name : (p q a b : List ℕ) → Named p a ≡ Named q b → a ≡ b
same_name p q a b e = cc

-- the assets of one policy
abbrev named : List ℕ → List (Token ℕ) → List Asset
named id tokens = map (λ t. Named id t.name) tokens

other_names : (id name : List ℕ) (ts : List (Token ℕ)) → AllByRecursion (λ t. IsBefore name t.name) ts → AreOthers (Named id name) (named id ts)
other_names id name [] all = tt
other_names id name (t ∷ ts) all = (λ e. keys_differ name t.name all.0 (same_name id id t.name name e), other_names id name ts all.1)

names_apart : (id : List ℕ) (ts : List (Token ℕ)) → PairsHaveRisingKeys (pairs_of (map (entry_of_token Unsigned) ts)) → AreApart (named id ts)
names_apart id [] rising = tt
names_apart id (t ∷ ts) rising = (other_names id t.name ts (before_all (entry_of_token Unsigned) (Bytes t.name) ts rising.2 rising.3), names_apart id ts rising.3)

other_policy : (id name other : List ℕ) (ts : List (Token ℕ)) → other ≢ id → AreOthers (Named id name) (named other ts)
other_policy id name other [] apart = tt
other_policy id name other (t ∷ ts) apart = (λ e. apart (same_policy other id t.name name e), other_policy id name other ts apart)

other_policies : (id name : List ℕ) (ps : List (Policy ℕ)) → AllByRecursion (λ p. IsBefore id p.id) ps → AreOthers (Named id name) (assets_under ps)
other_policies id name [] all = tt
other_policies id name (p ∷ ps) all =
    all_append (λ b. b ≢ Named id name) (named p.id p.tokens) (assets_under ps) (other_policy id name p.id p.tokens (keys_differ id p.id all.0)) (other_policies id name ps all.1)

-- one policy's assets before others that are of other policies
apart_joined : (id : List ℕ) (ts : List (Token ℕ)) (later : List Asset) → AreApart (named id ts) → AreApart later → ((name : List ℕ) → AreOthers (Named id name) later) → AreApart (named id ts ++ later)
apart_joined id [] later first second others = second
apart_joined id (t ∷ ts) later first second others =
    (all_append (λ b. b ≢ Named id t.name) (named id ts) later first.0 (others t.name), apart_joined id ts later first.1 second others)

assets_apart : (ps : List (Policy ℕ)) → PairsHaveRisingKeys (pairs_of (map (entry_of_policy Unsigned) ps)) → AreApart (assets_under ps)
assets_apart [] rising = tt
assets_apart (p ∷ ps) rising =
    apart_joined p.id p.tokens (assets_under ps) (names_apart p.id p.tokens rising.1) (assets_apart ps rising.3)
    (λ name. other_policies p.id name ps (before_all (entry_of_policy Unsigned) (Bytes p.id) ps rising.2 rising.3))

parts_apart : (coin : ℕ) (ps : List (Policy ℕ)) → HasText (item_of_value (record { coin = coin; assets = ps })) → AreApart (assets_under ps)
parts_apart coin [] has = tt
parts_apart coin (p ∷ ps) has = assets_apart (p ∷ ps) has.rising.1.0

-- what stands at a place of a list of others is another one
other_there : (a : Asset) (xs : List Asset) (i : ℕ) → AreOthers a xs → slice_get xs i ≡ Some a → ⊥
other_there a [] i others there = none-some a there
other_there a (x ∷ xs) zero others there = others.0 (same_Some x a there)
other_there a (x ∷ xs) (suc i) others there = other_there a xs i others.1 there

one_place : (xs : List Asset) (a : Asset) (i j : ℕ) → AreApart xs → slice_get xs i ≡ Some a → slice_get xs j ≡ Some a → i ≡ j
one_place [] a i j apart here there = absurd (none-some a here)
one_place (x ∷ xs) a zero zero apart here there = refl
one_place (x ∷ xs) a zero (suc j) apart here there = absurd (other_there x xs j apart.0 (there ∙ ap (λ (b : Asset). Some b) (sym (same_Some x a here))))
one_place (x ∷ xs) a (suc i) zero apart here there = absurd (other_there x xs i apart.0 (here ∙ ap (λ (b : Asset). Some b) (sym (same_Some x a there))))
one_place (x ∷ xs) a (suc i) (suc j) apart here there = ap (λ (n : ℕ). suc n) (one_place xs a i j apart.1 here there)

pub one_place_of_each : (value : Value) (a : Asset) (i j : ℕ) → HasText (item_of_value value) → slice_get (assets_under value.assets) i ≡ Some a → slice_get (assets_under value.assets) j ≡ Some a → i ≡ j
one_place_of_each value a i j has = one_place (assets_under value.assets) a i j (parts_apart value.coin value.assets has)
