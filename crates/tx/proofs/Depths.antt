-- How deep the parts of a transaction nest, and the whole.
use Rattle.std.proofs.Common.{◌≡◌, ◌≢◌, ℕ, zero, suc, ◌+◌, ◌<◌, ◌≤◌, max, true, false, eqb, Option, Some, None, List, [], ◌∷◌, ◌++◌, map, length, drop, get_or, refl, sym, ap, subst, ◌∙◌, add-one, drop-cons, arith}
use Rattle.std.specs.List.{AllByRecursion}
use Rattle.std.proofs.lemmas.List.{drop_all}
use Rattle.model.specs.Cbor.{Item, Unsigned, Negative, Bytes, Array, Map, Null, nesting, items_nesting, items_of, pairs_of, pairs_nesting, map_of, array_of, HasText}
use Rattle.model.specs.Script.{Script, item_of_script}
use Rattle.model.specs.Value.{Mint, item_of_assets, item_of_number}
use Rattle.model.specs.Transaction.{Input, KeyWitness, item_of_input, item_of_output, item_of_witness, optional_entry, unless_empty}
use Rattle.cbor.proofs.ForCallers.{Field}
use Rattle.tx.specs.Body.{Body, body_item, optional_entries}
use Rattle.tx.specs.WitnessesView.{signatures_item, scripts_item, witness_entries}

-- the deepest of those that a walk has seen, where these are left, and that all have texts where these do
pub record IsPartSeen {A : Type 0} (item_of : A → Item) (IsSaid : A → Type 0) (all left : List A) (deepest : ℕ) : Type 0 where
  pub deep : max deepest (items_nesting (items_of (map item_of left))) ≡ items_nesting (items_of (map item_of all))
  pub said : AllByRecursion IsSaid left → AllByRecursion IsSaid all

module _ {A : Type 0} (item_of : A → Item) (IsSaid : A → Type 0) where
  -- one more is seen
  pub one_seen : (all left : List A) (x : A) (more : List A) (deepest depth next : ℕ) → left ≡ x ∷ more → IsSaid x → depth ≡ nesting (item_of x) → next ≡ max deepest depth → IsPartSeen item_of IsSaid all left deepest → IsPartSeen item_of IsSaid all more next
  one_seen all left x more deepest depth next here said is deeper seen =
      let s : IsPartSeen item_of IsSaid all (x ∷ more) deepest = subst (λ (l : List A). IsPartSeen item_of IsSaid all l deepest) here seen in
      record { deep = omega (arith, s.deep, is, deeper); said = λ h. s.said (said, h) }

  -- all are seen
  pub all_seen : (all left : List A) (deepest : ℕ) → left ≡ [] → IsPartSeen item_of IsSaid all left deepest → IsPartSeen item_of IsSaid all [] deepest
  all_seen all left deepest none seen = subst (λ (l : List A). IsPartSeen item_of IsSaid all l deepest) none seen

-- each item nests
pub some_nesting : (item : Item) → 1 ≤ nesting item
some_nesting (Unsigned n) = omega arith
some_nesting (Negative n) = omega arith
some_nesting (Bytes bs) = omega arith
some_nesting (Array is) = omega arith
some_nesting (Map ps) = omega arith
some_nesting Null = omega arith

-- items of two levels, where there are some
pub flat_nest : {A : Type 0} (item_of : A → Item) → ((a : A) → nesting (item_of a) ≡ 2) → (xs : List A) → xs ≢ [] → items_nesting (items_of (map item_of xs)) ≡ 2
flat_nest item_of flat [] some = absurd (some refl)
flat_nest item_of flat (x ∷ []) some = omega (arith, flat x)
flat_nest item_of flat (x ∷ y ∷ ys) some = omega (arith, flat x, flat_nest item_of flat (y ∷ ys) (λ e. absurd cc))

-- ---- entries

-- entries beside one another
pub beside : (fs gs : List Field) → pairs_nesting (pairs_of (fs ++ gs)) ≡ max (pairs_nesting (pairs_of fs)) (pairs_nesting (pairs_of gs))
beside [] gs = omega arith
beside (f ∷ fs) gs = omega (arith, beside fs gs)

number_nests : (key : ℕ) (number : Option ℕ) → pairs_nesting (pairs_of (optional_entry key number)) ≤ 1
number_nests key None = omega arith
number_nests key (Some n) = omega arith

-- an entry that is left out where its list is empty
entry_nests : {X : Type 0} (key : ℕ) (item_of : List X → Item) (xs : List X) → xs ≢ [] → pairs_nesting (pairs_of (unless_empty key item_of xs)) ≡ nesting (item_of xs)
entry_nests key item_of [] some = absurd (some refl)
entry_nests key item_of (x ∷ xs) some = omega (arith, some_nesting (item_of (x ∷ xs)))

-- something is there
pub some_there : {A : Type 0} (xs : List A) (count : ℕ) → count ≡ length xs → false ≡ eqb count 0 → xs ≢ []
some_there [] count is some = λ none. let never : false ≡ true = some ∙ ap (λ (n : ℕ). eqb n 0) is in absurd cc
some_there (x ∷ xs) count is some = λ none. absurd cc

pub signatures_nest : (ws : List KeyWitness) → ws ≢ [] → 3 ≡ pairs_nesting (pairs_of (unless_empty 0 signatures_item ws))
signatures_nest ws some = omega (arith, entry_nests 0 signatures_item ws some, flat_nest item_of_witness (λ w. refl) ws some)

pub scripts_nest : (ss : List Script) (depth : ℕ) → ss ≢ [] → depth ≡ items_nesting (items_of (map item_of_script ss)) → 1 + depth ≡ pairs_nesting (pairs_of (unless_empty 1 scripts_item ss))
scripts_nest ss depth some is = omega (arith, is, entry_nests 1 scripts_item ss some)

pub witnesses_nest : (ws : List KeyWitness) (ss : List Script) (signatures scripts : ℕ) → signatures ≡ pairs_nesting (pairs_of (unless_empty 0 signatures_item ws)) → scripts ≡ pairs_nesting (pairs_of (unless_empty 1 scripts_item ss))
    → 1 + max signatures scripts ≡ nesting (map_of (witness_entries (ws, ss)))
witnesses_nest ws ss signatures scripts is are = omega (arith, is, are, beside (unless_empty 0 signatures_item ws) (unless_empty 1 scripts_item ss))

pub inputs_nest : (is : List Input) → is ≢ [] → 2 ≡ items_nesting (items_of (map item_of_input is))
inputs_nest is some = sym (flat_nest item_of_input (λ i. refl) is some)

mint_entry_nests : (mint : Mint) → pairs_nesting (pairs_of (unless_empty 9 (item_of_assets item_of_number) mint)) ≤ nesting (item_of_assets item_of_number mint)
mint_entry_nests [] = omega arith
mint_entry_nests (p ∷ ps) = omega arith

mint_entry_deep : (mint : Mint) → nesting (item_of_assets item_of_number mint) ≤ max 1 (pairs_nesting (pairs_of (unless_empty 9 (item_of_assets item_of_number) mint)))
mint_entry_deep [] = omega arith
mint_entry_deep (p ∷ ps) = omega arith

pub body_nests : (b : Body) (inputs outputs mint : ℕ) → inputs ≡ items_nesting (items_of (map item_of_input b.inputs)) → outputs ≡ items_nesting (items_of (map item_of_output b.outputs)) → mint ≡ nesting (item_of_assets item_of_number b.mint)
    → 1 + max mint (1 + max inputs outputs) ≡ nesting (body_item b)
body_nests b inputs outputs mint are those is =
    let tail = beside (optional_entry 8 b.start) (unless_empty 9 (item_of_assets item_of_number) b.mint) in
    let all = beside (optional_entry 3 b.end) (optional_entry 8 b.start ++ unless_empty 9 (item_of_assets item_of_number) b.mint) in
    let low = mint_entry_nests b.mint in
    let high = mint_entry_deep b.mint in
    let optional : max 1 (pairs_nesting (pairs_of (optional_entries b))) ≡ mint = omega (arith, is, tail, all, low, high, number_nests 3 b.end, number_nests 8 b.start, some_nesting (item_of_assets item_of_number b.mint)) in
    omega (arith, are, those, optional)
