-- What is left where all marks are taken off, and no note is left.
use Rattle.std.proofs.Common.{◌≡◌, ◌≤◌, ℕ, false, true, List, [], ◌∷◌, map, Option, Some, None, refl, sym, ap, subst, ◌∙◌, inl, inr}
use Rattle.std.specs.Prelude.{Bool, option_map, unwrap_or}
use Rattle.std.specs.BTreeMap.{BTreeMap, get, values, is_at}
use Rattle.std.specs.Map.{lookup}
use Rattle.std.proofs.lemmas.Map.Made.{lookup-map_values}
use Rattle.std.proofs.lemmas.Option.{same_Some}
use Rattle.model.specs.Block.{Block, block_hash_of}
use Rattle.model.specs.Chain.{Tip}
use Rattle.block.specs.declared.tip.Tip.{Tip as Place}
use Rattle.blockstore.specs.Stored.{Stored, unmarked}
use Rattle.blockstore.specs.Placed.{Placed, Notes, cleared, is_noted, stored_at, blocks_in, notes_in, IsKeyed}
use Rattle.blockstore.specs.Keys.{hash_cmp, AreKeysOf}
use Rattle.blockstore.specs.Ways.{Agrees, IsReached, AreNotes}
use Rattle.model.specs.Block.{bytes_in}
use Rattle.model.specs.Limits.{block_size_limit}
use Rattle.model.proofs.MappedLists.{contains_before}
use Rattle.blockstore.proofs.Lists.{map_same}
use Rattle.blockstore.proofs.Sizes.{size_of, bytes_of, AreSized}
use Rattle.blockstore.proofs.Shelves.{noted_none, noted_some}

abbrev pub bare_of : Stored → Stored
bare_of s = unmarked s.block

-- the map is this one with each block cleared
abbrev pub AreCleared : BTreeMap (List ℕ) Placed → BTreeMap (List ℕ) Placed → Type 0
AreCleared m p = p.entries ≡ map (λ (e : List ℕ × Placed). (e.0, cleared e.1)) m.entries

blocks_mapped : (es : List (List ℕ × Placed)) → map (λ (q : Placed). q.stored) (map (λ (e : List ℕ × Placed). e.1) (map (λ (e : List ℕ × Placed). (e.0, cleared e.1)) es))
    ≡ map bare_of (map (λ (q : Placed). q.stored) (map (λ (e : List ℕ × Placed). e.1) es))
blocks_mapped [] = refl
blocks_mapped (e ∷ es) = ap (λ (xs : List Stored). bare_of e.1.stored ∷ xs) (blocks_mapped es)

some_before : {X Y : Type 0} (f : X → Y) (o : Option X) (y : Y) → option_map f o ≡ Some y → (x : X) × (o ≡ Some x) × (f x ≡ y)
some_before f None y is = absurd (let e : None ≡ Some y = is in cc)
some_before f (Some x) y is = (x, refl, same_Some (f x) y is)

stored_of_cleared : (o : Option Placed) → option_map (λ (p : Placed). p.stored) (option_map cleared o) ≡ option_map bare_of (option_map (λ (p : Placed). p.stored) o)
stored_of_cleared None = refl
stored_of_cleared (Some p) = refl

module _ (m p : BTreeMap (List ℕ) Placed) (are : AreCleared m p) where
  pub blocks_cleared : blocks_in p ≡ map bare_of (blocks_in m)
  blocks_cleared = ap (λ (es : List (List ℕ × Placed)). map (λ (q : Placed). q.stored) (map (λ (e : List ℕ × Placed). e.1) es)) are ∙ blocks_mapped m.entries

  got : (hash : List ℕ) → get hash_cmp p hash ≡ option_map cleared (get hash_cmp m hash)
  got hash = ap (λ (es : List (List ℕ × Placed)). lookup (is_at (hash_cmp hash)) es) are ∙ lookup-map_values cleared (is_at (hash_cmp hash)) m.entries

  pub stored_cleared : (hash : List ℕ) → stored_at p hash ≡ option_map bare_of (stored_at m hash)
  stored_cleared hash = ap (option_map (λ (q : Placed). q.stored)) (got hash) ∙ stored_of_cleared (get hash_cmp m hash)

  pub keyed_cleared : IsKeyed m → IsKeyed p
  keyed_cleared keyed hash x there =
      let was = some_before bare_of (stored_at m hash) x (sym (stored_cleared hash) ∙ there) in
      ap (λ (s : Stored). block_hash_of s.block) (sym was.2) ∙ keyed hash was.0 was.1

  pub keys_cleared : {K : Type 0} (IsKey : Block → K → Type 0) (has : K → Bool) → AreKeysOf IsKey has (stored_at m) → AreKeysOf IsKey has (stored_at p)
  keys_cleared IsKey has keys = record {
    kept = λ hash x there.
        let was = some_before bare_of (stored_at m hash) x (sym (stored_cleared hash) ∙ there) in
        let key = keys.kept hash was.0 was.1 in
        (key.0, key.1, subst (λ (b : Block). IsKey b key.0) (ap (λ (s : Stored). s.block) was.2) key.2);
    named = λ k h.
        let was = keys.named k h in
        (was.0, bare_of was.1, stored_cleared was.0 ∙ ap (option_map bare_of) was.2, was.3);
  }

  pub none_noted : (hash : List ℕ) → is_noted (notes_in p) hash ≡ false
  none_noted hash = one (get hash_cmp m hash) refl
    where
      one : (o : Option Placed) → get hash_cmp m hash ≡ o → is_noted (notes_in p) hash ≡ false
      one None is = noted_none p hash (got hash ∙ ap (option_map cleared) is)
      one (Some q) is = noted_some p hash (cleared q) (got hash ∙ ap (option_map cleared) is)

-- they have as many bytes as before
pub bytes_bare : (xs : List Stored) → bytes_of (map bare_of xs) ≡ bytes_of xs
bytes_bare xs = ap bytes_in (map_same (λ (s : Stored). s.block) bare_of xs (λ s. refl))

pub sized_bare : (xs : List Stored) → AreSized xs → AreSized (map bare_of xs)
sized_bare xs sized x member =
    let y = contains_before bare_of xs x member in
    subst (λ (s : Stored). size_of s ≤ block_size_limit) y.2 (sized y.0 y.1)

-- where nothing is noted, the notes are right where ways have no beginning
pub notes_of_none : (live : List Stored) (notes : Notes) → ((hash : List ℕ) → is_noted notes hash ≡ false) → AreNotes None live notes
notes_of_none live notes none = record {
  named = λ hash is. absurd (let e : false ≡ true = sym (none hash) ∙ is in cc);
  right = λ t x member is. one t x (sym (none (block_hash_of x.block)) ∙ is);
}
  where
    one : (t : Bool) (x : Stored) → false ≡ t → Agrees t (IsReached None live notes x)
    one true x is = absurd (let e : false ≡ true = is in cc)
    one false x is = λ reached. elim reached.step [
      | inl root ↦ root
      | inr after ↦ let e : false ≡ true = sym (none (block_hash_of after.parent.block)) ∙ after.noted in absurd {A = ⊥} cc
    ]
