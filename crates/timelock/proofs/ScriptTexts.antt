-- The two laws of reading scripts: what is read is spelled so, and what is spelled so is read, whatever follows it.
use Rattle.std.proofs.Common.{◌≡◌, ℕ, zero, suc, ◌≤◌, Bool, true, false, eqb, List, [], ◌∷◌, ◌++◌, length, map, Option, Some, None, refl, sym, ap, subst, ◌∙◌, append_assoc, arith, inl, inr}
use Rattle.std.specs.Prelude.{◌⊎◌, if◌then◌else◌}
use Rattle.std.specs.List.{AllByRecursion}
use Rattle.std.proofs.lemmas.Bool.{eqb-true, eq-eqb}
use Rattle.model.specs.Limits.{hash_size}
use Rattle.model.specs.Cbor.{Item, Items, Unsigned, Bytes, Array, NoItems, NextItem, head, text_of, items_count, items_text, items_of, nesting, items_nesting}
use Rattle.model.specs.Script.{Script, Scripts, RequireSignature, RequireAllOf, RequireAnyOf, RequireMOf, RequireTimeStart, RequireTimeExpire, NoScripts, NextScript, item_of_script, items_of_scripts, IsScript, AreScripts}
use Rattle.cbor.specs.Reading.{head_at, fixed_at}
use Rattle.cbor.specs.Shapes.{Reading, as_at, both_at}
use Rattle.cbor.proofs.ForCallers.{IsBytes, bind_some, guard-true, Takes, Takes-then, head_takes, head_again, Fits, AllFit, TakesItem, TakesItems, ReadsItem, ReadsItems, unsigned_reads, fixed_reads, as_reads, last_reads, both_reads, as_members_read, array_item, list_array_reads}
use Rattle.timelock.specs.Reading.{scripts_of, scripts_at, m_of, members_of_kind, of_kind_at, script_with, script_at}

-- ---- scripts as a list

abbrev list_of : Scripts → List Script
list_of NoScripts = []
list_of (NextScript s ss) = s ∷ list_of ss

there_and_back : (ss : Scripts) → scripts_of (list_of ss) ≡ ss
there_and_back NoScripts = refl
there_and_back (NextScript s ss) = ap (NextScript s) (there_and_back ss)

same_items : (ss : List Script) → items_of_scripts (scripts_of ss) ≡ items_of (map item_of_script ss)
same_items [] = refl
same_items (s ∷ ss) = ap (NextItem (item_of_script s)) (same_items ss)

-- ---- how deep

-- what is asked of a script that is read: a hash is as long as hashes are, and no more than `levels` levels of items
pub record IsWithin (levels : ℕ) (script : Script) : Type 0 where
  pub shape : IsScript script
  pub nests : nesting (item_of_script script) ≤ levels

-- the same of scripts inside another
record AreWithin (levels : ℕ) (ss : Scripts) : Type 0 where
  shapes : AreScripts ss
  nest : items_nesting (items_of_scripts ss) ≤ levels

gathered : (levels : ℕ) (ss : List Script) → AllByRecursion (IsWithin levels) ss → AreWithin levels (scripts_of ss)
gathered levels [] all = record { shapes = tt; nest = omega arith }
gathered levels (s ∷ ss) all =
    let first = all.0 in
    let others = gathered levels ss all.1 in
    record { shapes = (first.shape, others.shapes); nest = omega (arith, first.nests, others.nest) }

apart : (levels : ℕ) (ss : Scripts) → AreWithin levels ss → AllByRecursion (IsWithin levels) (list_of ss)
apart levels NoScripts all = tt
apart levels (NextScript s ss) all =
    let shapes = all.shapes in
    (record { shape = shapes.0; nests = omega (arith, all.nest) }, apart levels ss (record { shapes = shapes.1; nest = omega (arith, all.nest) }))

-- ---- the parts of a script

-- the number of a script's kind
abbrev kind_of : Script → ℕ
kind_of (RequireSignature hash) = 0
kind_of (RequireAllOf ss) = 1
kind_of (RequireAnyOf ss) = 2
kind_of (RequireMOf n ss) = 3
kind_of (RequireTimeStart slot) = 4
kind_of (RequireTimeExpire slot) = 5

-- what stands after it
abbrev parts_of : Script → Items
parts_of (RequireSignature hash) = NextItem (Bytes hash) NoItems
parts_of (RequireAllOf ss) = NextItem (Array (items_of_scripts ss)) NoItems
parts_of (RequireAnyOf ss) = NextItem (Array (items_of_scripts ss)) NoItems
parts_of (RequireMOf n ss) = NextItem (Unsigned n) (NextItem (Array (items_of_scripts ss)) NoItems)
parts_of (RequireTimeStart slot) = NextItem (Unsigned slot) NoItems
parts_of (RequireTimeExpire slot) = NextItem (Unsigned slot) NoItems

whole_item : (s : Script) → Array (NextItem (Unsigned (kind_of s)) (parts_of s)) ≡ item_of_script s
whole_item (RequireSignature hash) = refl
whole_item (RequireAllOf ss) = refl
whole_item (RequireAnyOf ss) = refl
whole_item (RequireMOf n ss) = refl
whole_item (RequireTimeStart slot) = refl
whole_item (RequireTimeExpire slot) = refl

parts_count : (s : Script) → suc (items_count (parts_of s)) ≡ members_of_kind (kind_of s)
parts_count (RequireSignature hash) = refl
parts_count (RequireAllOf ss) = refl
parts_count (RequireAnyOf ss) = refl
parts_count (RequireMOf n ss) = refl
parts_count (RequireTimeStart slot) = refl
parts_count (RequireTimeExpire slot) = refl

-- ---- one level

module _ (levels : ℕ) (read : Reading Script) (laws : ReadsItem item_of_script (IsWithin levels) levels read) where
  scripts_reads : ReadsItem (λ ss. Array (items_of_scripts ss)) (AreWithin levels) (suc levels) (scripts_at read)
  unfolding scripts_at
  scripts_reads = as_reads scripts_of (λ ss. Array (items_of_scripts ss)) (AreWithin levels) (λ ss all. (ap Array (same_items ss), gathered levels ss all)) (λ ss all. (list_of ss, apart levels ss all, there_and_back ss)) (list_array_reads laws)

  -- a script of this kind, within a level more
  abbrev IsOfKind : ℕ → Script → Type 0
  IsOfKind kind s = (kind_of s ≡ kind) × IsWithin (suc (suc levels)) s

  signature_back : (s : Script) → IsOfKind 0 s → (hash : List ℕ) × (length hash ≡ hash_size) × (RequireSignature hash ≡ s)
  signature_back (RequireSignature hash) p = let w = p.1 in (hash, w.shape, refl)
  signature_back (RequireAllOf ss) p = absurd (omega (arith, p.0))
  signature_back (RequireAnyOf ss) p = absurd (omega (arith, p.0))
  signature_back (RequireMOf n ss) p = absurd (omega (arith, p.0))
  signature_back (RequireTimeStart slot) p = absurd (omega (arith, p.0))
  signature_back (RequireTimeExpire slot) p = absurd (omega (arith, p.0))

  signature_reads : ReadsItems parts_of (IsOfKind 0) (suc levels) (as_at RequireSignature (fixed_at hash_size))
  signature_reads = as_members_read RequireSignature parts_of (IsOfKind 0) (λ hash p. (refl, (refl, record { shape = p; nests = omega arith }))) signature_back (last_reads (fixed_reads levels hash_size (omega arith)))

  all_back : (s : Script) → IsOfKind 1 s → (ss : Scripts) × AreWithin levels ss × (RequireAllOf ss ≡ s)
  all_back (RequireAllOf ss) p = let w = p.1 in (ss, record { shapes = w.shape; nest = omega (arith, w.nests) }, refl)
  all_back (RequireSignature hash) p = absurd (omega (arith, p.0))
  all_back (RequireAnyOf ss) p = absurd (omega (arith, p.0))
  all_back (RequireMOf n ss) p = absurd (omega (arith, p.0))
  all_back (RequireTimeStart slot) p = absurd (omega (arith, p.0))
  all_back (RequireTimeExpire slot) p = absurd (omega (arith, p.0))

  all_reads : ReadsItems parts_of (IsOfKind 1) (suc levels) (as_at RequireAllOf (scripts_at read))
  all_reads = as_members_read RequireAllOf parts_of (IsOfKind 1) (λ ss p. (refl, (refl, record { shape = p.shapes; nests = omega (arith, p.nest) }))) all_back (last_reads scripts_reads)

  any_back : (s : Script) → IsOfKind 2 s → (ss : Scripts) × AreWithin levels ss × (RequireAnyOf ss ≡ s)
  any_back (RequireAnyOf ss) p = let w = p.1 in (ss, record { shapes = w.shape; nest = omega (arith, w.nests) }, refl)
  any_back (RequireSignature hash) p = absurd (omega (arith, p.0))
  any_back (RequireAllOf ss) p = absurd (omega (arith, p.0))
  any_back (RequireMOf n ss) p = absurd (omega (arith, p.0))
  any_back (RequireTimeStart slot) p = absurd (omega (arith, p.0))
  any_back (RequireTimeExpire slot) p = absurd (omega (arith, p.0))

  any_reads : ReadsItems parts_of (IsOfKind 2) (suc levels) (as_at RequireAnyOf (scripts_at read))
  any_reads = as_members_read RequireAnyOf parts_of (IsOfKind 2) (λ ss p. (refl, (refl, record { shape = p.shapes; nests = omega (arith, p.nest) }))) any_back (last_reads scripts_reads)

  m_back : (s : Script) → IsOfKind 3 s → (x : ℕ × Scripts) × (Unit {0} × AreWithin levels x.1) × (m_of x ≡ s)
  m_back (RequireMOf n ss) p = let w = p.1 in ((n, ss), (tt, record { shapes = w.shape; nest = omega (arith, w.nests) }), refl)
  m_back (RequireSignature hash) p = absurd (omega (arith, p.0))
  m_back (RequireAllOf ss) p = absurd (omega (arith, p.0))
  m_back (RequireAnyOf ss) p = absurd (omega (arith, p.0))
  m_back (RequireTimeStart slot) p = absurd (omega (arith, p.0))
  m_back (RequireTimeExpire slot) p = absurd (omega (arith, p.0))

  m_reads : ReadsItems parts_of (IsOfKind 3) (suc levels) (as_at m_of (both_at (head_at 0) (scripts_at read)))
  m_reads = as_members_read m_of parts_of (IsOfKind 3) (λ x p. let w = p.1 in (refl, (refl, record { shape = w.shapes; nests = omega (arith, w.nest) }))) m_back (both_reads (unsigned_reads levels) (last_reads scripts_reads))

  start_back : (s : Script) → IsOfKind 4 s → (slot : ℕ) × Unit {0} × (RequireTimeStart slot ≡ s)
  start_back (RequireTimeStart slot) p = (slot, tt, refl)
  start_back (RequireSignature hash) p = absurd (omega (arith, p.0))
  start_back (RequireAllOf ss) p = absurd (omega (arith, p.0))
  start_back (RequireAnyOf ss) p = absurd (omega (arith, p.0))
  start_back (RequireMOf n ss) p = absurd (omega (arith, p.0))
  start_back (RequireTimeExpire slot) p = absurd (omega (arith, p.0))

  start_reads : ReadsItems parts_of (IsOfKind 4) (suc levels) (as_at RequireTimeStart (head_at 0))
  start_reads = as_members_read RequireTimeStart parts_of (IsOfKind 4) (λ slot p. (refl, (refl, record { shape = tt; nests = omega arith }))) start_back (last_reads (unsigned_reads levels))

  expire_back : (s : Script) → IsOfKind 5 s → (slot : ℕ) × Unit {0} × (RequireTimeExpire slot ≡ s)
  expire_back (RequireTimeExpire slot) p = (slot, tt, refl)
  expire_back (RequireSignature hash) p = absurd (omega (arith, p.0))
  expire_back (RequireAllOf ss) p = absurd (omega (arith, p.0))
  expire_back (RequireAnyOf ss) p = absurd (omega (arith, p.0))
  expire_back (RequireMOf n ss) p = absurd (omega (arith, p.0))
  expire_back (RequireTimeStart slot) p = absurd (omega (arith, p.0))

  expire_reads : ReadsItems parts_of (IsOfKind 5) (suc levels) (as_at RequireTimeExpire (head_at 0))
  expire_reads = as_members_read RequireTimeExpire parts_of (IsOfKind 5) (λ slot p. (refl, (refl, record { shape = tt; nests = omega arith }))) expire_back (last_reads (unsigned_reads levels))

  -- what the laws of a kind say of what was read
  abbrev Read : ℕ → List ℕ → Script → List ℕ → Type 0
  Read kind bytes s rest = TakesItems (suc levels) (parts_of s) bytes rest × IsOfKind kind s

  which : {A : Type 0} (test : Bool) (x y : Option A) (z : A) → (if test then x else y) ≡ Some z → ((test ≡ true) × (x ≡ Some z)) ⊎ (y ≡ Some z)
  which true x y z e = inl (refl, e)
  which false x y z e = inr e

  of_kind_takes : (kind : ℕ) (bytes : List ℕ) (s : Script) (rest : List ℕ) → IsBytes bytes → of_kind_at read kind bytes ≡ Some (s, rest) → Read kind bytes s rest
  unfolding of_kind_at
  of_kind_takes kind bytes s rest fits e =
      elim (which (eqb kind 0) (as_at RequireSignature (fixed_at hash_size) bytes) _ (s, rest) e) [
        | inl p ↦ at 0 p.0 (signature_reads.takes bytes s rest fits p.1)
        | inr e1 ↦ elim (which (eqb kind 1) (as_at RequireAllOf (scripts_at read) bytes) _ (s, rest) e1) [
          | inl p ↦ at 1 p.0 (all_reads.takes bytes s rest fits p.1)
          | inr e2 ↦ elim (which (eqb kind 2) (as_at RequireAnyOf (scripts_at read) bytes) _ (s, rest) e2) [
            | inl p ↦ at 2 p.0 (any_reads.takes bytes s rest fits p.1)
            | inr e3 ↦ elim (which (eqb kind 3) (as_at m_of (both_at (head_at 0) (scripts_at read)) bytes) _ (s, rest) e3) [
              | inl p ↦ at 3 p.0 (m_reads.takes bytes s rest fits p.1)
              | inr e4 ↦ elim (which (eqb kind 4) (as_at RequireTimeStart (head_at 0) bytes) _ (s, rest) e4) [
                | inl p ↦ at 4 p.0 (start_reads.takes bytes s rest fits p.1)
                | inr e5 ↦ elim (which (eqb kind 5) (as_at RequireTimeExpire (head_at 0) bytes) None (s, rest) e5) [
                  | inl p ↦ at 5 p.0 (expire_reads.takes bytes s rest fits p.1)
                  | inr none ↦ absurd cc
                ]
              ]
            ]
          ]
        ]
      ]
    where
      at : (number : ℕ) → eqb kind number ≡ true → Read number bytes s rest → Read kind bytes s rest
      at number same found = subst (λ (k : ℕ). Read k bytes s rest) (sym (eqb-true _ _ same)) found

  of_kind_again : (s : Script) (rest : List ℕ) → AllFit (parts_of s) → IsWithin (suc (suc levels)) s → of_kind_at read (kind_of s) (items_text (parts_of s) ++ rest) ≡ Some (s, rest)
  unfolding of_kind_at
  of_kind_again (RequireSignature hash) rest fits p = signature_reads.again (RequireSignature hash) rest fits (refl, p)
  of_kind_again (RequireAllOf ss) rest fits p = all_reads.again (RequireAllOf ss) rest fits (refl, p)
  of_kind_again (RequireAnyOf ss) rest fits p = any_reads.again (RequireAnyOf ss) rest fits (refl, p)
  of_kind_again (RequireMOf n ss) rest fits p = m_reads.again (RequireMOf n ss) rest fits (refl, p)
  of_kind_again (RequireTimeStart slot) rest fits p = start_reads.again (RequireTimeStart slot) rest fits (refl, p)
  of_kind_again (RequireTimeExpire slot) rest fits p = expire_reads.again (RequireTimeExpire slot) rest fits (refl, p)

  with_takes : (bytes : List ℕ) (s : Script) (rest : List ℕ) → IsBytes bytes → script_with read bytes ≡ Some (s, rest) → TakesItem (suc (suc levels)) (item_of_script s) bytes rest × IsWithin (suc (suc levels)) s
  unfolding script_with
  with_takes bytes s rest fits e =
      let a = bind_some (head_at 4 bytes) _ (s, rest) e in
      let k = bind_some (head_at 0 a.0.1) _ (s, rest) a.2 in
      let g = guard-true (eqb a.0.0 (members_of_kind k.0.0)) _ (s, rest) k.2 in
      let h = head_takes 4 bytes a.0.0 a.0.1 fits a.1 in
      let kind = head_takes 0 a.0.1 k.0.0 k.0.1 h.0.rest_fits k.1 in
      let t = of_kind_takes k.0.0 k.0.1 s rest kind.0.rest_fits g.1 in
      let parts = t.0 in
      let fit = parts.fits in
      let is_kind : kind_of s ≡ k.0.0 = t.1.0 in
      let within = t.1.1 in
      let members : TakesItems (suc levels) (NextItem (Unsigned (kind_of s)) (parts_of s)) a.0.1 rest =
      record {
        takes = Takes-then a.0.1 (head 0 (kind_of s)) k.0.1 (items_text (parts_of s)) rest (subst (λ (n : ℕ). Takes a.0.1 (head 0 n) k.0.1) (sym is_kind) kind.0) parts.takes;
        fits = record { in_range = (omega (arith, is_kind, kind.1), fit.in_range); rising = (tt, fit.rising) };
        nest = omega (arith, parts.nest);
      } in
      let count : a.0.0 ≡ suc (items_count (parts_of s)) = eqb-true _ _ g.0 ∙ ap members_of_kind (sym is_kind) ∙ sym (parts_count s) in
      let whole = array_item (omega (arith, count, h.1)) (subst (λ (n : ℕ). Takes bytes (head 4 n) a.0.1) count h.0) members in
      (subst (λ (i : Item). TakesItem (suc (suc levels)) i bytes rest) (whole_item s) whole, within)

  with_again : (s : Script) (rest : List ℕ) → Fits (item_of_script s) → IsWithin (suc (suc levels)) s → script_with read (text_of (item_of_script s) ++ rest) ≡ Some (s, rest)
  unfolding script_with
  with_again s rest fits p =
      let parts = items_text (parts_of s) in
      let fit : Fits (Array (NextItem (Unsigned (kind_of s)) (parts_of s))) = subst Fits (sym (whole_item s)) fits in
      let n = suc (items_count (parts_of s)) in
      let h = head_again 4 n ((head 0 (kind_of s) ++ parts) ++ rest) fit.in_range.0 in
      let k = ap (head_at 0) (append_assoc (head 0 (kind_of s)) parts rest) ∙ head_again 0 (kind_of s) (parts ++ rest) fit.in_range.1.0 in
      let t = of_kind_again s rest (record { in_range = fit.in_range.1.1; rising = fit.rising.1 }) p in
      ap (λ (i : Item). script_with read (text_of i ++ rest)) (sym (whole_item s))
      ∙ ap (script_with read) (append_assoc (head 4 n) (head 0 (kind_of s) ++ parts) rest) ∙ rw (h, k, eq-eqb n (members_of_kind (kind_of s)) (parts_count s), t) refl

  -- a script, whose own scripts are read so
  pub with_reads : ReadsItem item_of_script (IsWithin (suc (suc levels))) (suc (suc levels)) (script_with read)
  with_reads = record { takes = with_takes; again = with_again }

-- ---- all levels

too_deep : (s : Script) → nesting (item_of_script s) ≤ 0 → ⊥
too_deep (RequireSignature hash) le = omega (arith, le)
too_deep (RequireAllOf ss) le = omega (arith, le)
too_deep (RequireAnyOf ss) le = omega (arith, le)
too_deep (RequireMOf n ss) le = omega (arith, le)
too_deep (RequireTimeStart slot) le = omega (arith, le)
too_deep (RequireTimeExpire slot) le = omega (arith, le)

-- how many levels of items this many levels of scripts have: twice as many
abbrev pub levels_of : ℕ → ℕ
levels_of zero = 0
levels_of (suc depth) = suc (suc (levels_of depth))

nothing_there : (bytes : List ℕ) (s : Script) (rest : List ℕ) → script_at 0 bytes ≡ Some (s, rest) → TakesItem 0 (item_of_script s) bytes rest × IsWithin 0 s
unfolding script_at
nothing_there bytes s rest e = absurd cc

one_more : (depth : ℕ) → ReadsItem item_of_script (IsWithin (suc (suc (levels_of depth)))) (suc (suc (levels_of depth))) (script_with (script_at depth)) → ReadsItem item_of_script (IsWithin (levels_of (suc depth))) (levels_of (suc depth)) (script_at (suc depth))
unfolding script_at
one_more depth laws = laws

-- a script, of which at most `depth` stand in one another
pub script_reads : (depth : ℕ) → ReadsItem item_of_script (IsWithin (levels_of depth)) (levels_of depth) (script_at depth)
script_reads zero = record { takes = λ bytes s rest fits e. nothing_there bytes s rest e; again = λ s rest fits p. absurd (too_deep s p.nests) }
script_reads (suc depth) = one_more depth (with_reads (levels_of depth) (script_at depth) (script_reads depth))
