-- Searches for hashes: they find one thing or end, and what is found once is found when later blocks are noted.
use Rattle.std.proofs.Common.{◌≡◌, ◌⊎◌, ℕ, suc, zero, ◌+◌, ◌-◌, ◌<◌, ◌≤◌, Bool, true, false, List, [], ◌∷◌, ◌++◌, length, get_or, set, take, map, refl, sym, ap, subst, ◌∙◌, inl, inr, arith}
use Rattle.std.specs.Prelude.{slice_get, Option, Some, None, option_map}
use Rattle.std.proofs.lemmas.Bool.{cases_lt}
use Rattle.std.proofs.lemmas.List.{length-append, length-set, get_or-set_same, get_or-set_other, map_more}
use Rattle.std.proofs.lemmas.Option.{same_Some, none-some, slice_get_within, slice_get-map, get_or_from_slice_get}
use Rattle.model.specs.Block.{Block, block_hash_of}
use Rattle.model.specs.Chain.{NoneHas}
use Rattle.chain.specs.Chained.{block_numbered}
use Rattle.chain.specs.Indexed.{first_hashes}
use Rattle.chain.specs.Searches.{bit_of, child_by, child_at, with_child_by, leaf, IsHashAt, IsFoundBy, EndsBy, IsRising, AreFound, IsHung}
use Rattle.chain.specs.declared.index.Node.{Node}
use Rattle.chain.proofs.Lists.{at_left, at_right}
use Rattle.chain.proofs.Places.{numbered}

-- ---- hashes by their places

at_take : {X : Type 0} (k i : ℕ) (xs : List X) → i < k → slice_get (take k xs) i ≡ slice_get xs i
at_take zero i xs below = absurd (omega arith)
at_take (suc k) i [] below = refl
at_take (suc k) zero (x ∷ xs) below = refl
at_take (suc k) (suc i) (x ∷ xs) below = at_take k i xs (omega arith)

-- the hash at a place is that of the block of that number
pub hash_there : (chain : List Block) (k n : ℕ) → 0 < n → n ≤ k → slice_get (first_hashes k chain) (n - 1) ≡ option_map block_hash_of (block_numbered chain n)
hash_there chain k n some within =
    slice_get-map block_hash_of (take k chain) (n - 1) ∙ ap (option_map block_hash_of) (at_take k (n - 1) chain (omega arith) ∙ sym (numbered chain n some))

-- ---- where a search ends

-- one that finds doesn't end
pub not_both : (nodes : List Node) (hashes : List (List ℕ)) (hash : List ℕ) (steps all n d found last : ℕ) (bit : Bool)
    → IsFoundBy nodes hashes hash steps n d found → EndsBy nodes hashes hash all n d last bit → ⊥
not_both nodes hashes hash zero zero n d found last bit is ends = ends.0 is.1
not_both nodes hashes hash zero (suc all) n d found last bit is ends = ends.0 is.1
not_both nodes hashes hash (suc steps) zero n d found last bit is ends =
    let none : child_at nodes n (bit_of hash d) ≡ 0 = ap (child_at nodes n) ends.2 ∙ ends.3 in
    let some = is.1 in
    omega (arith, none, some)
not_both nodes hashes hash (suc steps) (suc all) n d found last bit is ends = not_both nodes hashes hash steps all (child_at nodes n (bit_of hash d)) (suc d) found last bit is.2 ends.2

module _ (nodes now : List Node) (hashes hashes_now : List (List ℕ)) (rising : IsRising nodes)
    (same : (n : ℕ) (b : Bool) → 0 < child_at nodes n b → child_at now n b ≡ child_at nodes n b)
    (kept : (n : ℕ) → 0 < n → n ≤ length nodes → slice_get hashes_now (n - 1) ≡ slice_get hashes (n - 1)) where
  -- what is found is found still
  pub found_still : (hash : List ℕ) (steps n d found : ℕ) → 0 < n → n ≤ length nodes → IsFoundBy nodes hashes hash steps n d found → IsFoundBy now hashes_now hash steps n d found
  found_still hash zero n d found some within is = (is.0, kept n some within ∙ is.1)
  found_still hash (suc steps) n d found some within is =
      let next = child_at nodes n (bit_of hash d) in
      let e : child_at now n (bit_of hash d) ≡ next = same n (bit_of hash d) is.1 in
      let up = rising n (bit_of hash d) is.1 in (
        (λ here. is.0 (sym (kept n some within) ∙ here)),
        subst (λ (m : ℕ). 0 < m) (sym e) is.1,
        subst (λ (m : ℕ). IsFoundBy now hashes_now hash steps m (suc d) found) (sym e) (found_still hash steps next (suc d) found is.1 up.1 is.2),
      )

  -- where a search ended it goes on to what comes next there now
  pub found_next : (hash : List ℕ) (last : ℕ) (bit : Bool) (number : ℕ) → 0 < number → child_at now last bit ≡ number → IsHashAt hashes_now number hash
      → (steps n d : ℕ) → 0 < n → n ≤ length nodes → EndsBy nodes hashes hash steps n d last bit → IsFoundBy now hashes_now hash (suc steps) n d number
  found_next hash last bit number positive on here zero n d some within ends =
      let e : child_at now n (bit_of hash d) ≡ number = ap (λ (m : ℕ). child_at now m (bit_of hash d)) ends.1 ∙ ap (child_at now last) ends.2 ∙ on in (
        (λ there. ends.0 (sym (kept n some within) ∙ there)),
        subst (λ (m : ℕ). 0 < m) (sym e) positive,
        (e, here' e),
      )
    where
      here' : child_at now n (bit_of hash d) ≡ number → IsHashAt hashes_now (child_at now n (bit_of hash d)) hash
      here' e = subst (λ (m : ℕ). IsHashAt hashes_now m hash) (sym e) here
  found_next hash last bit number positive on here (suc steps) n d some within ends =
      let next = child_at nodes n (bit_of hash d) in
      let e : child_at now n (bit_of hash d) ≡ next = same n (bit_of hash d) ends.1 in
      let up = rising n (bit_of hash d) ends.1 in (
        (λ there. ends.0 (sym (kept n some within) ∙ there)),
        subst (λ (m : ℕ). 0 < m) (sym e) ends.1,
        subst (λ (m : ℕ). IsFoundBy now hashes_now hash (suc steps) m (suc d) number) (sym e)
            (found_next hash last bit number positive on here steps next (suc d) ends.1 up.1 ends.2),
      )

-- ---- one block more

-- a leaf behind changes no block that comes next
pub next_before : (nodes : List Node) (n : ℕ) (b : Bool) → child_at (nodes ++ leaf ∷ []) n b ≡ child_at nodes n b
next_before nodes n b = ap (λ (node : Node). child_by node b) (same nodes (n - 1))
  where
    same : (ns : List Node) (i : ℕ) → get_or (ns ++ leaf ∷ []) i leaf ≡ get_or ns i leaf
    same [] zero = refl
    same [] (suc i) = refl
    same (x ∷ xs) zero = refl
    same (x ∷ xs) (suc i) = same xs i

-- the next block by one bit alone is another
by_other : (node : Node) (bit b : Bool) (number : ℕ) → (child_by (with_child_by node bit number) b ≡ child_by node b) ⊎ ((b ≡ bit) × (child_by (with_child_by node bit number) b ≡ number))
by_other node true true number = inr (refl, refl)
by_other node true false number = inl refl
by_other node false true number = inl refl
by_other node false false number = inr (refl, refl)

-- by this bit, after this block comes the one of the number
abbrev pub hung : (nodes : List Node) (last : ℕ) (bit : Bool) (number : ℕ) → List Node
hung nodes last bit number = set nodes (last - 1) (with_child_by (get_or nodes (last - 1) leaf) bit number)

module _ (nodes : List Node) (last : ℕ) (bit : Bool) (number : ℕ) (within : last ≤ length nodes) (some : 0 < last) where
  -- only at one block by one bit another comes next
  pub next_led : (n : ℕ) (b : Bool) → (child_at (hung nodes last bit number) n b ≡ child_at nodes n b) ⊎ ((n - 1 ≡ last - 1) × (b ≡ bit) × (child_at (hung nodes last bit number) n b ≡ number))
  next_led n b =
      elim (cases_lt (n - 1) (last - 1)) [
        | inl less ↦ inl (other (λ e. omega (arith, e, less)))
        | inr least ↦ elim (cases_lt (last - 1) (n - 1)) [
          | inl more ↦ inl (other (λ e. omega (arith, e, more)))
          | inr most ↦ here (omega (arith, least, most)) (by_other (get_or nodes (last - 1) leaf) bit b number)
        ]
      ]
    where
      other : (n - 1 ≡ last - 1 → ⊥) → child_at (hung nodes last bit number) n b ≡ child_at nodes n b
      other apart = ap (λ (node : Node). child_by node b) (get_or-set_other nodes (last - 1) (n - 1) (with_child_by (get_or nodes (last - 1) leaf) bit number) leaf apart)

      there : n - 1 ≡ last - 1 → child_at (hung nodes last bit number) n b ≡ child_by (with_child_by (get_or nodes (last - 1) leaf) bit number) b
      there e = ap (λ (i : ℕ). child_by (get_or (hung nodes last bit number) i leaf) b) e
          ∙ ap (λ (node : Node). child_by node b) (get_or-set_same nodes (last - 1) (with_child_by (get_or nodes (last - 1) leaf) bit number) leaf (omega (arith, within, some)))

      here : n - 1 ≡ last - 1 → (child_by (with_child_by (get_or nodes (last - 1) leaf) bit number) b ≡ child_by (get_or nodes (last - 1) leaf) b)
          ⊎ ((b ≡ bit) × (child_by (with_child_by (get_or nodes (last - 1) leaf) bit number) b ≡ number))
          → (child_at (hung nodes last bit number) n b ≡ child_at nodes n b) ⊎ ((n - 1 ≡ last - 1) × (b ≡ bit) × (child_at (hung nodes last bit number) n b ≡ number))
      here e (inl same) = inl (there e ∙ same ∙ ap (λ (i : ℕ). child_by (get_or nodes i leaf) b) (sym e))
      here e (inr new) = inr (e, new.0, there e ∙ new.1)

-- ---- what is answered

-- a hash at a place is that of a block
pub hashed_block : (o : Option Block) (hash : List ℕ) → option_map block_hash_of o ≡ Some hash → (b : Block) × (o ≡ Some b) × (block_hash_of b ≡ hash)
hashed_block None hash is = absurd (none-some hash is)
hashed_block (Some b) hash is = (b, refl, same_Some (block_hash_of b) hash is)

-- where no place has it, no block does
pub none_has : (bs : List Block) (hash : List ℕ) → ((place : ℕ) → slice_get (map block_hash_of bs) place ≡ Some hash → ⊥) → NoneHas bs hash
none_has [] hash none = tt
none_has (b ∷ bs) hash none = (λ is. none 0 (ap Some is), none_has bs hash (λ place. none (suc place)))

-- ---- what is noted next

ends_at_none : (nodes : List Node) (hashes : List (List ℕ)) (hash : List ℕ) (steps n d last : ℕ) (bit : Bool) → EndsBy nodes hashes hash steps n d last bit → child_at nodes last bit ≡ 0
ends_at_none nodes hashes hash zero n d last bit ends = ap (λ (m : ℕ). child_at nodes m bit) (sym ends.1) ∙ ends.3
ends_at_none nodes hashes hash (suc steps) n d last bit ends = ends_at_none nodes hashes hash steps (child_at nodes n (bit_of hash d)) (suc d) last bit ends.2

by_same : (node : Node) (bit : Bool) (number : ℕ) → child_by (with_child_by node bit number) bit ≡ number
by_same node true number = refl
by_same node false number = refl

-- where the same blocks come next, they are later ones still
rising_same : (nodes now : List Node) → IsRising nodes → length nodes ≤ length now → ((n : ℕ) (b : Bool) → child_at now n b ≡ child_at nodes n b) → IsRising now
rising_same nodes now rising longer same n b some =
    let e = same n b in
    let up = rising n b (subst (λ (m : ℕ). 0 < m) e some) in
    let high : child_at nodes n b ≤ length now = let within = up.1 in omega (arith, within, longer) in
    (subst (λ (m : ℕ). n < m) (sym e) up.0, subst (λ (m : ℕ). m ≤ length now) (sym e) high)

module _ (nodes : List Node) (hashes : List (List ℕ)) (hash : List ℕ) (size : length nodes ≡ length hashes) (rising : IsRising nodes) (found : AreFound nodes hashes) where
  kept_before : (n : ℕ) → 0 < n → n ≤ length nodes → slice_get (hashes ++ hash ∷ []) (n - 1) ≡ slice_get hashes (n - 1)
  kept_before n some within = at_left hashes (hash ∷ []) (n - 1) (omega arith)

  last_hash : (place : ℕ) → place ≡ length hashes → slice_get (hashes ++ hash ∷ []) place ≡ Some hash
  last_hash place is = ap (slice_get (hashes ++ hash ∷ [])) (let e : place ≡ length hashes + 0 = omega arith in e) ∙ at_right hashes (hash ∷ []) 0

  module _ (now : List Node) (same : (n : ℕ) (b : Bool) → 0 < child_at nodes n b → child_at now n b ≡ child_at nodes n b) where
    -- where the new hash is found, all are
    found_more : (steps at : ℕ) → IsFoundBy now (hashes ++ hash ∷ []) hash steps 1 0 at → AreFound now (hashes ++ hash ∷ [])
    found_more steps at new place h is =
        elim (cases_lt place (length hashes)) [
          | inl below ↦
              let old = found place h (sym (at_left hashes (hash ∷ []) place below) ∙ is) in
              (old.0, old.1, found_still nodes now hashes (hashes ++ hash ∷ []) rising same kept_before h old.0 1 0 old.1 (omega arith) (omega arith) old.2)
          | inr past ↦
              let within : place < length (hashes ++ hash ∷ []) = slice_get_within (hashes ++ hash ∷ []) place h is in
              let long : length (hashes ++ hash ∷ []) ≡ length hashes + 1 = length-append hashes (hash ∷ []) in
              let it : hash ≡ h = same_Some hash h (sym (last_hash place (omega (arith, within, long, past))) ∙ is) in
              (steps, at, subst (λ (x : List ℕ). IsFoundBy now (hashes ++ hash ∷ []) x steps 1 0 at) it new)
        ]

    -- one that was found before is found
    found_again : (place : ℕ) → slice_get hashes place ≡ Some hash → AreFound now (hashes ++ hash ∷ [])
    found_again place is =
        let old = found place hash is in
        let below : place < length hashes = slice_get_within hashes place hash is in
        found_more old.0 old.1 (found_still nodes now hashes (hashes ++ hash ∷ []) rising same kept_before hash old.0 1 0 old.1 (omega arith) (omega arith) old.2)

  -- a leaf behind the nodes
  pub grown_same : (length nodes ≡ 0) ⊎ ((place : ℕ) × (slice_get hashes place ≡ Some hash)) → IsRising (nodes ++ leaf ∷ []) × AreFound (nodes ++ leaf ∷ []) (hashes ++ hash ∷ [])
  grown_same why =
      let same : (n : ℕ) (b : Bool) → child_at (nodes ++ leaf ∷ []) n b ≡ child_at nodes n b = next_before nodes in (
        rising_same nodes (nodes ++ leaf ∷ []) rising (omega (arith, length-append nodes (leaf ∷ []))) same,
        elim why [
          | inl none ↦ found_more (nodes ++ leaf ∷ []) (λ n b some. same n b) 0 1 (refl, last_hash 0 (omega (arith, none, size)))
          | inr there ↦ found_again (nodes ++ leaf ∷ []) (λ n b some. same n b) there.0 there.1
        ],
      )

  -- where the search ended at a block, the next one hangs on that
  pub grown_led : (last : ℕ) (bit : Bool) (steps : ℕ) → 0 < last → last ≤ length nodes → EndsBy nodes hashes hash steps 1 0 last bit
      → IsRising (hung nodes last bit (length nodes + 1) ++ leaf ∷ []) × AreFound (hung nodes last bit (length nodes + 1) ++ leaf ∷ []) (hashes ++ hash ∷ [])
  grown_led last bit steps some within ends =
      let number : ℕ = length nodes + 1 in
      let linked = hung nodes last bit number in
      let now = linked ++ leaf ∷ [] in
      let none = ends_at_none nodes hashes hash steps 1 0 last bit ends in
      let same : (n : ℕ) (b : Bool) → 0 < child_at nodes n b → child_at now n b ≡ child_at nodes n b = λ n b positive.
      next_before linked n b ∙ unchanged n b positive none (next_led nodes last bit number within some n b) in
      let on : child_at now last bit ≡ number = next_before linked last bit ∙ here in (
        up,
        found_more now same (suc steps) number
            (found_next nodes now hashes (hashes ++ hash ∷ []) rising same kept_before hash last bit number (omega arith) on (last_hash (number - 1) (omega (arith, size))) steps 1 0 (omega arith) (omega (arith, some, within)) ends),
      )
    where
      unchanged : (n : ℕ) (b : Bool) → 0 < child_at nodes n b → child_at nodes last bit ≡ 0
          → (child_at (hung nodes last bit (length nodes + 1)) n b ≡ child_at nodes n b) ⊎ ((n - 1 ≡ last - 1) × (b ≡ bit) × (child_at (hung nodes last bit (length nodes + 1)) n b ≡ length nodes + 1))
          → child_at (hung nodes last bit (length nodes + 1)) n b ≡ child_at nodes n b
      unchanged n b positive none (inl is) = is
      unchanged n b positive none (inr new) =
          let zero_there : child_at nodes n b ≡ 0 = ap (λ (i : ℕ). child_by (get_or nodes i leaf) b) new.0 ∙ ap (child_at nodes last) new.1 ∙ none in
          absurd (omega (arith, positive, zero_there))

      here : child_at (hung nodes last bit (length nodes + 1)) last bit ≡ length nodes + 1
      here = ap (λ (node : Node). child_by node bit) (get_or-set_same nodes (last - 1) (with_child_by (get_or nodes (last - 1) leaf) bit (length nodes + 1)) leaf (omega (arith, within, some)))
          ∙ by_same (get_or nodes (last - 1) leaf) bit (length nodes + 1)

      long : length (hung nodes last bit (length nodes + 1) ++ leaf ∷ []) ≡ length nodes + 1
      long = length-append (hung nodes last bit (length nodes + 1)) (leaf ∷ []) ∙ ap (λ (k : ℕ). k + 1) (length-set nodes (last - 1) (with_child_by (get_or nodes (last - 1) leaf) bit (length nodes + 1)))

      later : (n : ℕ) (b : Bool) → 0 < child_at (hung nodes last bit (length nodes + 1)) n b
          → (child_at (hung nodes last bit (length nodes + 1)) n b ≡ child_at nodes n b) ⊎ ((n - 1 ≡ last - 1) × (b ≡ bit) × (child_at (hung nodes last bit (length nodes + 1)) n b ≡ length nodes + 1))
          → (n < child_at (hung nodes last bit (length nodes + 1)) n b) × (child_at (hung nodes last bit (length nodes + 1)) n b ≤ length nodes + 1)
      later n b positive (inl is) =
          let old = rising n b (subst (λ (m : ℕ). 0 < m) is positive) in
          let high : child_at nodes n b ≤ length nodes + 1 = let most = old.1 in omega (arith, most) in
          (subst (λ (m : ℕ). n < m) (sym is) old.0, subst (λ (m : ℕ). m ≤ length nodes + 1) (sym is) high)
      later n b positive (inr new) =
          let place = new.0 in
          let low : n < length nodes + 1 = omega (arith, place, within, some) in
          (subst (λ (m : ℕ). n < m) (sym new.2) low, subst (λ (m : ℕ). m ≤ length nodes + 1) (sym new.2) (omega arith))

      up : IsRising (hung nodes last bit (length nodes + 1) ++ leaf ∷ [])
      up n b positive =
          let e = next_before (hung nodes last bit (length nodes + 1)) n b in
          let old = later n b (subst (λ (m : ℕ). 0 < m) e positive) (next_led nodes last bit (length nodes + 1) within some n b) in
          (subst (λ (m : ℕ). n < m) (sym e) old.0, subst (λ (k : ℕ). child_at (hung nodes last bit (length nodes + 1) ++ leaf ∷ []) n b ≤ k) (sym long) (subst (λ (m : ℕ). m ≤ length nodes + 1) (sym e) old.1))

  pub long_led : (last : ℕ) (bit : Bool) (number : ℕ) → length (hung nodes last bit number ++ leaf ∷ []) ≡ length nodes + 1
  long_led last bit number = length-append (hung nodes last bit number) (leaf ∷ []) ∙ ap (λ (k : ℕ). k + 1) (length-set nodes (last - 1) (with_child_by (get_or nodes (last - 1) leaf) bit number))

  -- with one hash more all is as it was
  pub grown : (now : List Node) → IsHung nodes hashes hash now → IsRising (now ++ leaf ∷ []) × AreFound (now ++ leaf ∷ []) (hashes ++ hash ∷ []) × (length (now ++ leaf ∷ []) ≡ length nodes + 1)
  grown now (inl is) =
      let P : List Node → Type 0 = λ ns. IsRising (ns ++ leaf ∷ []) × AreFound (ns ++ leaf ∷ []) (hashes ++ hash ∷ []) × (length (ns ++ leaf ∷ []) ≡ length nodes + 1) in
      let more = grown_same is.1 in
      subst P (sym is.0) (more.0, more.1, length-append nodes (leaf ∷ []))
  grown now (inr is) =
      let P : List Node → Type 0 = λ ns. IsRising (ns ++ leaf ∷ []) × AreFound (ns ++ leaf ∷ []) (hashes ++ hash ∷ []) × (length (ns ++ leaf ∷ []) ≡ length nodes + 1) in
      let more = grown_led is.0 is.1 is.2 is.3 is.4 is.5 in
      subst P (sym is.6) (more.0, more.1, long_led is.0 is.1 (length nodes + 1))

-- the hashes of one block more
pub hashes_more : (chain : List Block) (k : ℕ) (hash : List ℕ) → k < length chain → option_map block_hash_of (block_numbered chain (k + 1)) ≡ Some hash → first_hashes (k + 1) chain ≡ first_hashes k chain ++ hash ∷ []
hashes_more chain k hash within is =
    let b = hashed_block (block_numbered chain (k + 1)) hash is in
    let there : slice_get chain k ≡ Some b.0 = ap (slice_get chain) (let e : k ≡ k + 1 - 1 = omega arith in e) ∙ sym (numbered chain (k + 1) (omega arith)) ∙ b.1 in
    map_more block_hash_of chain k b.0 within ∙ ap (λ (h : List ℕ). first_hashes k chain ++ h ∷ []) (ap block_hash_of (get_or_from_slice_get chain k b.0 b.0 there) ∙ b.2)
