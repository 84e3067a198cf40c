-- The two laws of reading values and what is minted, from those of the shapes that they are made of, and what the
-- public readers promise by them.
use Rattle.std.proofs.Common.{◌≡◌, ◌≢◌, ℕ, ◌≤◌, List, [], ◌∷◌, ◌++◌, length, Some, None, refl, sym, ap, subst, ◌∙◌, arith, inl, inr}
use Rattle.std.specs.Prelude.{◌⊎◌}
use Rattle.std.specs.List.{AllByRecursion}
use Rattle.model.specs.Limits.{hash_size, name_size_limit}
use Rattle.model.specs.Cbor.{Item, Unsigned, head, text_of, array_of}
use Rattle.model.specs.Value.{Token, Policy, Value, Mint, item_of_number, entry_of_token, entry_of_policy, item_of_assets, coin_with, item_of_value, IsPolicy, IsValue, IsMint, IsMintedQuantity, SpellsValue, SpellsMint}
use Rattle.cbor.specs.Reading.{head_at}
use Rattle.cbor.specs.Gives.{Refuses, IfMalformed, IfWant}
use Rattle.cbor.specs.Bare.{BeginsWithHead}
use Rattle.cbor.specs.Shapes.{Reading, as_at}
use Rattle.cbor.specs.Texts.{BeginsWithText}
use Rattle.cbor.specs.declared.fault.CborFault.{CborFault}
use Rattle.cbor.proofs.ForCallers.{IsBytes, Fits, ReadsItem, ReadsEntry, unsigned_reads, fixed_reads, short_reads, as_reads, same_reads, either_reads, nonempty_reads, last_reads, both_reads, array_reads, entry_reads, same_entries_read, map_reads, major_of, other_major, text_fits, reads_found, reads_refused, want_map, one_head}
use Rattle.value.specs.Quantities.{held_at, minted_at}
use Rattle.value.specs.Reading.{token_with, token_at, policy_with, policy_at, assets_at, coin_alone, coin_and, coin_and_at, value_at, mint_at}
use Rattle.value.proofs.QuantityTexts.{held_reads, minted_reads}

-- ---- assets

module _ {Q : Type 0} (item_of : Q → Item) (IsQuantity : Q → Type 0) (read : Reading Q) (laws : ReadsItem item_of IsQuantity 1 read) where
  -- what is asked of a token
  abbrev IsToken : Token Q → Type 0
  IsToken token = (length token.name ≤ name_size_limit) × IsQuantity token.quantity

  token_reads : ReadsEntry (entry_of_token item_of) IsToken 1 (token_at read)
  unfolding token_at
  token_reads = entry_reads token_with (λ t. t.name) (λ t. t.quantity) (λ n q. refl) (λ n q. refl) (λ t. refl) (short_reads 0 name_size_limit) laws

  policy_reads : ReadsEntry (entry_of_policy item_of) (IsPolicy IsQuantity) 2 (policy_at read)
  unfolding policy_at
  policy_reads =
      same_entries_read (IsPolicy IsQuantity) (λ p h. record { id = h.0; not_empty = h.1.1; tokens = h.1.0 }) (λ p h. (h.id, (h.tokens, h.not_empty)))
      (entry_reads policy_with (λ p. p.id) (λ p. p.tokens) (λ i t. refl) (λ i t. refl) (λ p. refl) (fixed_reads 1 hash_size (omega arith)) (nonempty_reads (map_reads token_reads)))

  -- assets, of one policy at least
  pub assets_reads : ReadsItem (item_of_assets item_of) (λ policies. AllByRecursion (IsPolicy IsQuantity) policies × (policies ≢ [])) 3 (assets_at read)
  assets_reads = nonempty_reads (map_reads policy_reads)

-- ---- values

-- the item of a value that has assets
with_assets : (coin : ℕ) (ps : List (Policy ℕ)) → ps ≢ [] → coin_with coin ps ≡ array_of (Unsigned coin ∷ item_of_assets Unsigned ps ∷ [])
with_assets coin [] some = absurd (some refl)
with_assets coin (p ∷ ps) some = refl

-- a value of coin alone
abbrev IsAlone : Value → Type 0
IsAlone value = value.assets ≡ []

alone_reads : ReadsItem item_of_value IsAlone 4 (as_at coin_alone (head_at 0))
alone_reads = as_reads coin_alone item_of_value IsAlone (λ n p. (refl, refl)) (λ v none. (v.coin, tt, λ i. record { coin = v.coin; assets = sym none i })) (unsigned_reads 3)

-- a value with assets
abbrev HasAssets : Value → Type 0
HasAssets value = IsValue value × (value.assets ≢ [])

coin_and_reads : ReadsItem item_of_value HasAssets 4 coin_and_at
unfolding coin_and_at
coin_and_reads =
    as_reads coin_and item_of_value HasAssets (λ x p. (with_assets x.0 x.1 p.1.1, p.1)) (λ v p. ((v.coin, v.assets), (tt, p), refl))
    (array_reads 2 (omega arith) (λ x. refl) (both_reads (unsigned_reads 2) (last_reads (assets_reads Unsigned (λ q. q ≢ 0) held_at held_reads))))

-- a value with assets is not read as coin alone
not_alone : (value : Value) (rest : List ℕ) → Fits (item_of_value value) → HasAssets value → as_at coin_alone (head_at 0) (text_of (item_of_value value) ++ rest) ≡ None
unfolding as_at
not_alone value rest fits p =
    let item = with_assets value.coin value.assets p.1 in
    let other : major_of (item_of_value value) ≢ 0 = λ same. absurd (let no : 4 ≡ 0 = sym (ap major_of item) ∙ same in omega (arith, no)) in
    rw (other_major (item_of_value value) 0 rest fits other) refl

-- alone or with assets
pub value_reads : ReadsItem item_of_value IsValue 4 value_at
unfolding value_at
value_reads = same_reads IsValue one_of (λ v. which v.coin v.assets) (either_reads not_alone alone_reads coin_and_reads)
  where
    one_of : (value : Value) → IsAlone value ⊎ HasAssets value → IsValue value
    one_of value p = elim p [ inl none ↦ subst (AllByRecursion (IsPolicy (λ q. q ≢ 0))) (sym none) tt | inr some ↦ some.0 ]

    which : (coin : ℕ) (ps : List (Policy ℕ)) → IsValue (record { coin = coin; assets = ps }) → IsAlone (record { coin = coin; assets = ps }) ⊎ HasAssets (record { coin = coin; assets = ps })
    which coin [] p = inl refl
    which coin (q ∷ qs) p = inr (p, λ e. absurd cc)

-- what is minted
pub mint_reads : ReadsItem (item_of_assets item_of_number) (λ mint. IsMint mint × (mint ≢ [])) 3 mint_at
mint_reads = assets_reads item_of_number IsMintedQuantity minted_at minted_reads

-- ---- what the readers promise

-- a value that was read stands first
pub value_found : (bytes : List ℕ) (value : Value) (rest : List ℕ) → IsBytes bytes → value_at bytes ≡ Some (value, rest) → BeginsWithText (SpellsValue value) bytes rest
value_found = reads_found value_reads SpellsValue (omega arith) (λ v p t. record { is_value = p; spelled = record { has_text = t; spelled = refl } })

-- where none is read none stands first
pub value_refused : (fault : CborFault) (bytes : List ℕ) → Refuses fault (value_at bytes) → IfMalformed fault ((value : Value) (rest : List ℕ) → BeginsWithText (SpellsValue value) bytes rest → ⊥)
value_refused = reads_refused value_reads SpellsValue (λ v text s. (s.is_value, text_fits s.spelled.has_text, s.spelled.spelled))

-- what is minted that was read stands first
pub mint_found : (bytes : List ℕ) (mint : Mint) (rest : List ℕ) → IsBytes bytes → mint_at bytes ≡ Some (mint, rest) → BeginsWithText (SpellsMint mint) bytes rest
mint_found = reads_found mint_reads SpellsMint (omega arith) (λ m p t. record { is_mint = p.0; not_empty = p.1; spelled = record { has_text = t; spelled = refl } })

-- where nothing is read nothing stands first
pub mint_refused : (fault : CborFault) (bytes : List ℕ) → Refuses fault (mint_at bytes) → IfMalformed fault ((mint : Mint) (rest : List ℕ) → BeginsWithText (SpellsMint mint) bytes rest → ⊥)
mint_refused = reads_refused mint_reads SpellsMint (λ m text s. ((s.is_mint, s.not_empty), text_fits s.spelled.has_text, s.spelled.spelled))

-- ---- where memory is wanting

-- bytes that begin with the head of an array begin with no value of coin alone
no_coin : (bytes : List ℕ) → BeginsWithHead 4 2 bytes → (value : Value) (rest : List ℕ) → BeginsWithText (SpellsValue value) bytes rest → value.assets ≡ [] → ⊥
no_coin bytes begins value rest b none =
    let spells = b.spelled in
    let text : b.text ≡ head 0 value.coin = spells.spelled.spelled ∙ ap (λ (ps : List (Policy ℕ)). text_of (coin_with value.coin ps)) none in
    let one = one_head 0 value.coin 4 2 rest begins.rest (ap (λ (t : List ℕ). t ++ rest) (sym text) ∙ sym b.parts ∙ begins.parts) in
    let same = one.0 in
    omega (arith, same)

pub value_wants : (fault : CborFault) (bytes : List ℕ) → IfWant fault (BeginsWithHead 4 2 bytes) → IfWant fault ((value : Value) (rest : List ℕ) → BeginsWithText (SpellsValue value) bytes rest → value.assets ≡ [] → ⊥)
value_wants fault bytes = want_map fault (no_coin bytes)
