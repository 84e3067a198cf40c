-- Maps whose keys are read as bytes, after an insertion and after a write.
use Rattle.std.proofs.Common.{◌≡◌, ℕ, Bool, true, false, cond, List, [], ◌∷◌, Option, Some, None, refl, sym, ◌∙◌, ap, subst, rules, is_some}
use Rattle.std.specs.Prelude.{bytes_eq, IsSome}
use Rattle.std.specs.Ordering.{is_eq, nat_cmp, match_ordering}
use Rattle.std.specs.declared.cmp.Ordering.{Ordering}
use Rattle.std.specs.declared.cmp.Ordering.TheVariants.{Less, Equal, Greater}
use Rattle.std.specs.Cmp.Lexicographic.{slice_cmp}
use Rattle.std.specs.Map.{lookup, set_value}
use Rattle.std.specs.BTreeMap.{insert_entry}
use Rattle.std.proofs.lemmas.Map.Lookups.{exact_bytes}
use Rattle.std.proofs.lemmas.Map.Text.{is_eq-slice_cmp}
use Rattle.std.specs.Cmp.{Equal-is}
use Rattle.std.proofs.lemmas.Bool.{false_from_ne_true}
use Rattle.std.proofs.lemmas.Slice.Eq.{bytes_eq-Decides}

-- the order finds the same bytes equal, and no others
pub same_from : (a b : List ℕ) → is_eq (slice_cmp nat_cmp a b) ≡ true → a ≡ b
same_from a b h = exact_bytes a b (search (rules, Equal-is (slice_cmp nat_cmp a b), h))

pub same_to : (a b : List ℕ) → a ≡ b → is_eq (slice_cmp nat_cmp a b) ≡ true
same_to a b h = rw is_eq-slice_cmp (search (rules, bytes_eq-Decides a b, h))

-- bytes that a test finds equal are the same
pub bytes_from : (a b : List ℕ) → bytes_eq a b ≡ true → a ≡ b
bytes_from a b h = same_from a b (is_eq-slice_cmp a b ∙ h)

pub bytes_self : (a : List ℕ) → bytes_eq a a ≡ true
bytes_self a = search (rules, bytes_eq-Decides a a)

pub bytes_apart : (a b : List ℕ) → (a ≡ b → ⊥) → bytes_eq a b ≡ false
bytes_apart a b apart = false_from_ne_true (bytes_eq a b) (λ h. apart (bytes_from a b h))

-- two tests that don't both hold may be made in either order
pub swapped : {X : Type 0} (a b : Bool) (x y : X) (l : X) → (a ≡ true → b ≡ true → ⊥) → cond b x (cond a y l) ≡ cond a y (cond b x l)
swapped true true x y l apart = absurd (apart refl refl)
swapped true false x y l apart = refl
swapped false true x y l apart = refl
swapped false false x y l apart = refl

-- an old value that is covered
pub covered : {X : Type 0} (a : Bool) (x y : X) (l : X) → cond a x l ≡ cond a x (cond a y l)
covered true x y l = refl
covered false x y l = refl

pub none_if : {X : Type 0} (m : Option X) → is_some m ≡ false → m ≡ None
none_if None h = refl
none_if (Some x) h = cc

-- what is found under either test is found
pub some_either : {X : Type 0} (b : Bool) (v : X) (old : Option X) → IsSome old → IsSome (cond b (Some v) old)
some_either true v old h = refl
some_either false v old h = h

module _ {K : Type 0} (f : K → List ℕ) where
  -- whether a key has these bytes
  abbrev pub has_bytes : List ℕ → K → Bool
  has_bytes bytes k = is_eq (slice_cmp nat_cmp bytes (f k))

  -- keys in the order of their bytes
  abbrev pub by_bytes : K → K → Ordering
  by_bytes a b = slice_cmp nat_cmp (f a) (f b)

-- a key can't have bytes that two keys apart both have
not_both : (q a b : List ℕ) → Greater ≡ slice_cmp nat_cmp a b → is_eq (slice_cmp nat_cmp q a) ≡ true → is_eq (slice_cmp nat_cmp q b) ≡ true → ⊥
not_both q a b apart here there =
    let same : is_eq (slice_cmp nat_cmp a b) ≡ true = same_to a b (sym (same_from q a here) ∙ same_from q b there) in
    let no : is_eq Greater ≡ true = subst (λ (o : Ordering). is_eq o ≡ true) (sym apart) same in
    cc

module _ {K X : Type 0} (f : K → List ℕ) where
  insert_step : (q : List ℕ) (k : K) (v : X) (e : K × X) (es rest : List (K × X)) (o : Ordering) → o ≡ by_bytes f k e.0
      → lookup (has_bytes f q) rest ≡ cond (has_bytes f q k) (Some v) (lookup (has_bytes f q) es)
      → lookup (has_bytes f q) (match_ordering o ((k, v) ∷ e ∷ es) ((e.0, v) ∷ es) (e ∷ rest)) ≡ cond (has_bytes f q k) (Some v) (lookup (has_bytes f q) (e ∷ es))
  insert_step q k v e es rest Less is onward = refl
  insert_step q k v e es rest Equal is onward =
      let same : f k ≡ f e.0 = exact_bytes (f k) (f e.0) (sym is) in
      let tests : has_bytes f q k ≡ has_bytes f q e.0 = ap (λ (b : List ℕ). is_eq (slice_cmp nat_cmp q b)) same in
      rw tests (covered (has_bytes f q e.0) (Some v) (Some e.1) (lookup (has_bytes f q) es))
  insert_step q k v e es rest Greater is onward =
      rw onward (swapped (has_bytes f q k) (has_bytes f q e.0) (Some e.1) (Some v) (lookup (has_bytes f q) es) (not_both q (f k) (f e.0) is))

  -- what a map has at some bytes after an insertion
  pub lookup_insert : (q : List ℕ) (es : List (K × X)) (k : K) (v : X) → lookup (has_bytes f q) (insert_entry (by_bytes f) es k v) ≡ cond (has_bytes f q k) (Some v) (lookup (has_bytes f q) es)
  lookup_insert q [] k v = refl
  lookup_insert q (e ∷ es) k v = insert_step q k v e es (insert_entry (by_bytes f) es k v) (by_bytes f k e.0) refl (lookup_insert q es k v)

  unseen_bit : {Y : Type 0} (view : Option X → Y) (v : X) (old : Option X) (b : Bool) → (b ≡ true → old ≡ None) → view (Some v) ≡ view None → view (cond b (Some v) old) ≡ view old
  unseen_bit view v old true free same = same ∙ ap view (sym (free refl))
  unseen_bit view v old false free same = refl

  -- an insertion at bytes that were free isn't seen by who sees no difference between its value and none
  pub insert_unseen : {Y : Type 0} (view : Option X → Y) (q bytes : List ℕ) (es : List (K × X)) (k : K) (v : X) → f k ≡ bytes → lookup (has_bytes f bytes) es ≡ None → view (Some v) ≡ view None
      → view (lookup (has_bytes f q) (insert_entry (by_bytes f) es k v)) ≡ view (lookup (has_bytes f q) es)
  insert_unseen view q bytes es k v key free same =
      let there : has_bytes f q k ≡ true → lookup (has_bytes f q) es ≡ None =
      λ h. subst (λ (b : List ℕ). lookup (has_bytes f b) es ≡ None) (sym (same_from q (f k) h ∙ key)) free in
      rw (lookup_insert q es k v) (unseen_bit view v (lookup (has_bytes f q) es) (has_bytes f q k) there same)

  -- after an insertion a map has what it had
  pub insert_keeps : (q : List ℕ) (es : List (K × X)) (k : K) (v : X) → IsSome (lookup (has_bytes f q) es) → IsSome (lookup (has_bytes f q) (insert_entry (by_bytes f) es k v))
  insert_keeps q es k v h = rw (lookup_insert q es k v) (some_either (has_bytes f q k) v (lookup (has_bytes f q) es) h)

  -- and what was inserted
  pub insert_found : (q : List ℕ) (es : List (K × X)) (k : K) (v : X) → f k ≡ q → lookup (has_bytes f q) (insert_entry (by_bytes f) es k v) ≡ Some v
  insert_found q es k v key =
      let here : has_bytes f q k ≡ true = same_to q (f k) (sym key) in
      rw (lookup_insert q es k v, here) refl

  set_step : (q bytes : List ℕ) (e : K × X) (es rest : List (K × X)) (w : X) (b : Bool) → b ≡ has_bytes f bytes e.0
      → IsSome (cond b (Some e.1) (lookup (has_bytes f bytes) es))
      → (IsSome (lookup (has_bytes f bytes) es) → lookup (has_bytes f q) rest ≡ cond (bytes_eq q bytes) (Some w) (lookup (has_bytes f q) es))
      → lookup (has_bytes f q) (cond b ((e.0, w) ∷ es) (e ∷ rest)) ≡ cond (bytes_eq q bytes) (Some w) (lookup (has_bytes f q) (e ∷ es))
  set_step q bytes e es rest w true is found onward =
      let same : f e.0 ≡ bytes = sym (same_from bytes (f e.0) (sym is)) in
      let tests : has_bytes f q e.0 ≡ bytes_eq q bytes = is_eq-slice_cmp q (f e.0) ∙ ap (bytes_eq q) same in
      rw tests (covered (bytes_eq q bytes) (Some w) (Some e.1) (lookup (has_bytes f q) es))
  set_step q bytes e es rest w false is found onward =
      let apart : bytes_eq q bytes ≡ true → has_bytes f q e.0 ≡ true → ⊥ =
      λ here there. let yes : has_bytes f bytes e.0 ≡ true = subst (λ (b : List ℕ). has_bytes f b e.0 ≡ true) (bytes_from q bytes here) there in cc in
      rw (onward found) (swapped (bytes_eq q bytes) (has_bytes f q e.0) (Some e.1) (Some w) (lookup (has_bytes f q) es) apart)

  -- what a map has at some bytes after a write at bytes that it has
  pub lookup_set : (q bytes : List ℕ) (es : List (K × X)) (w : X) → IsSome (lookup (has_bytes f bytes) es)
      → lookup (has_bytes f q) (set_value (has_bytes f bytes) es w) ≡ cond (bytes_eq q bytes) (Some w) (lookup (has_bytes f q) es)
  lookup_set q bytes [] w found = cc
  lookup_set q bytes (e ∷ es) w found = set_step q bytes e es (set_value (has_bytes f bytes) es w) w (has_bytes f bytes e.0) refl found (lookup_set q bytes es w)

  keep_bit : (P : Option X → Type 0) (b : Bool) (w old : X) (there : Option X) → (b ≡ true → there ≡ Some old) → (P (Some old) → P (Some w)) → P there → P (cond b (Some w) there)
  keep_bit P true w old there is kept h = kept (subst P (is refl) h)
  keep_bit P false w old there is kept h = h

  -- what a map keeps at some bytes through a write that keeps it
  pub set_keeps : (P : Option X → Type 0) (q bytes : List ℕ) (es : List (K × X)) (w old : X) → lookup (has_bytes f bytes) es ≡ Some old → (P (Some old) → P (Some w))
      → P (lookup (has_bytes f q) es) → P (lookup (has_bytes f q) (set_value (has_bytes f bytes) es w))
  set_keeps P q bytes es w old found kept h =
      let here : bytes_eq q bytes ≡ true → lookup (has_bytes f q) es ≡ Some old =
      λ e. subst (λ (b : List ℕ). lookup (has_bytes f b) es ≡ Some old) (sym (bytes_from q bytes e)) found in
      subst P (sym (lookup_set q bytes es w (ap is_some found))) (keep_bit P (bytes_eq q bytes) w old (lookup (has_bytes f q) es) here kept h)

  -- other bytes have what they had
  pub set_apart : (q bytes : List ℕ) (es : List (K × X)) (w : X) → IsSome (lookup (has_bytes f bytes) es) → bytes_eq q bytes ≡ false
      → lookup (has_bytes f q) (set_value (has_bytes f bytes) es w) ≡ lookup (has_bytes f q) es
  set_apart q bytes es w found apart = lookup_set q bytes es w found ∙ rw apart refl
