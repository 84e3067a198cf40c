-- The keys of the blocks of a map, beside the map: after a block came, after one went, and after a mark.
use Rattle.std.proofs.Common.{◌≡◌, ◌≢◌, ◌⊎◌, ℕ, Bool, true, false, cond, List, Contains, Option, Some, None, refl, sym, ap, subst, ◌∙◌, inl, inr}
use Rattle.std.specs.Ordering.{is_eq, nat_cmp, ordering_then}
use Rattle.std.specs.Option.{option_cmp}
use Rattle.std.specs.Cmp.Lexicographic.{slice_cmp}
use Rattle.std.specs.declared.cmp.Ordering.{Ordering}
use Rattle.std.specs.declared.cmp.Ordering.TheVariants.{Less, Equal, Greater}
use Rattle.std.specs.Prelude.{Result, Ok, Err, IfOk, OnOk, OnErr, option_map}
use Rattle.std.specs.Result.{is_err}
use Rattle.std.specs.BTreeMap.{BTreeMap, get}
use Rattle.std.specs.BTreeMap as tree
use Rattle.std.specs.BTreeSet.{BTreeSet, contains}
use Rattle.std.specs.BTreeSet as sorted
use Rattle.std.specs.Cmp.{tied_itself}
use Rattle.std.proofs.lemmas.Cmp.{nat_list_cmp_total}
use Rattle.std.proofs.lemmas.Map.Lookups.{exact_bytes, exact_unsigned}
use Rattle.std.proofs.lemmas.Map.Views.{Contains-from_any}
use Rattle.std.proofs.lemmas.Option.{same_Some}
use Rattle.model.specs.Block.{Block, block_hash_of}
use Rattle.blockstore.specs.Stored.{Stored}
use Rattle.blockstore.specs.Placed.{Placed, stored_at}
use Rattle.blockstore.specs.Keys.{hash_cmp, link_cmp, age_cmp, IsLinkOf, IsAgeOf, AreKeysOf}
use Rattle.blockstore.specs.declared.keys.Link.{Link}
use Rattle.blockstore.specs.declared.keys.Age.{Age}

-- ---- orders

pub eq_from : (o : Ordering) → is_eq o ≡ true → o ≡ Equal
eq_from Less h = absurd (let e : false ≡ true = h in cc)
eq_from Equal h = refl
eq_from Greater h = absurd (let e : false ≡ true = h in cc)

pub both_equal : (o p : Ordering) → ordering_then o p ≡ Equal → (o ≡ Equal) × (p ≡ Equal)
both_equal Less p h = absurd cc
both_equal Equal p h = (refl, h)
both_equal Greater p h = absurd cc

pub exact_hashes : (a b : Option (List ℕ)) → option_cmp (slice_cmp nat_cmp) a b ≡ Equal → a ≡ b
exact_hashes None None h = refl
exact_hashes None (Some b) h = absurd (let e : Less ≡ Equal = h in cc)
exact_hashes (Some a) None h = absurd (let e : Greater ≡ Equal = h in cc)
exact_hashes (Some a) (Some b) h = ap Some (exact_bytes a b h)

pub tied_hashes : (a : Option (List ℕ)) → option_cmp (slice_cmp nat_cmp) a a ≡ Equal
tied_hashes None = refl
tied_hashes (Some a) = tied_itself nat_list_cmp_total a

pub exact_link : (a b : Link) → link_cmp a b ≡ Equal → a ≡ b
exact_link a b h =
    let both = both_equal (option_cmp (slice_cmp nat_cmp) a.previous b.previous) (slice_cmp nat_cmp a.hash b.hash) h in
    λ i. record { previous = exact_hashes a.previous b.previous both.0 i; hash = exact_bytes a.hash b.hash both.1 i }

pub tied_link : (a : Link) → link_cmp a a ≡ Equal
tied_link a = rw (tied_hashes a.previous) (tied_itself nat_list_cmp_total a.hash)

pub exact_age : (a b : Age) → age_cmp a b ≡ Equal → a ≡ b
exact_age a b h =
    let both = both_equal (nat_cmp a.number b.number) (slice_cmp nat_cmp a.hash b.hash) h in
    λ i. record { number = exact_unsigned a.number b.number both.0 i; hash = exact_bytes a.hash b.hash both.1 i }

-- ---- what a map has at a hash

-- after a change at a hash a map has elsewhere what it had
pub at_others : {X : Type 0} (m n : BTreeMap (List ℕ) X) (hash : List ℕ) (w : Option X) → tree.UpdatesBy hash_cmp (hash_cmp hash) m n w
    → (q : List ℕ) → q ≢ hash → get hash_cmp n q ≡ get hash_cmp m q
at_others m n hash w updates q other = updates.2 q (one (is_eq (hash_cmp hash q)) refl)
  where
    one : (t : Bool) → is_eq (hash_cmp hash q) ≡ t → is_eq (hash_cmp hash q) ≡ false
    one true is = absurd (other (sym (exact_bytes hash q (eq_from (hash_cmp hash q) is))))
    one false is = is

-- a hash is this one or another
pub is_hash : (hash q : List ℕ) → (q ≡ hash) ⊎ (q ≢ hash)
is_hash hash q = one (is_eq (hash_cmp hash q)) refl
  where
    one : (t : Bool) → is_eq (hash_cmp hash q) ≡ t → (q ≡ hash) ⊎ (q ≢ hash)
    one true is = inl (sym (exact_bytes hash q (eq_from (hash_cmp hash q) is)))
    one false is = inr (λ same. let e : true ≡ false = sym (ap is_eq (tied_itself nat_list_cmp_total hash)) ∙ (ap (λ (b : List ℕ). is_eq (hash_cmp hash b)) (sym same) ∙ is) in cc)

pub none_some : {X : Type 0} (x : X) → None ≡ Some x → ⊥
none_some x same = cc

-- After a change at a hash this stands there, and elsewhere what stood there.
pub record BecomesAt (old new : List ℕ → Option Stored) (hash : List ℕ) (w : Option Stored) : Type 0 where
  pub here : new hash ≡ w
  pub others : (q : List ℕ) → q ≢ hash → new q ≡ old q

pub becomes : (m n : BTreeMap (List ℕ) Placed) (hash : List ℕ) (w : Option Placed) → tree.UpdatesBy hash_cmp (hash_cmp hash) m n w
    → BecomesAt (stored_at m) (stored_at n) hash (option_map (λ p. p.stored) w)
becomes m n hash w updates = record {
  here = ap (option_map (λ (p : Placed). p.stored)) updates.1;
  others = λ q other. ap (option_map (λ (p : Placed). p.stored)) (at_others m n hash w updates q other);
}

-- what stands at a hash is what stood there
pub keys_same : {K : Type 0} (IsKey : Block → K → Type 0) (has : K → Bool) (m p : List ℕ → Option Stored) → ((q : List ℕ) → p q ≡ m q) → AreKeysOf IsKey has m → AreKeysOf IsKey has p
keys_same IsKey has m p same keys = record {
  kept = λ q x there. keys.kept q x (sym (same q) ∙ there);
  named = λ k h. let was = keys.named k h in (was.0, was.1, same was.0 ∙ was.2, was.3);
}

-- ---- what an insertion came to

pub on_ok : {A E : Type 0} (P : Type 0) (r : Result A E) → false ≡ is_err r → OnOk r P → P
on_ok P (Ok x) is h = h
on_ok P (Err e) is h = absurd cc

pub on_err : {A E : Type 0} (P : Type 0) (r : Result A E) → true ≡ is_err r → OnErr r P → P
on_err P (Ok x) is h = absurd cc
on_err P (Err e) is h = h

pub new_len : {V E : Type 0} (f : Option V → ℕ) (q : Option V) (n : ℕ) (r : Result (Option V) E) → false ≡ is_err r → IfOk r (λ old. old ≡ q) → IfOk r (λ old. n ≡ f old) → q ≡ None → n ≡ f None
new_len f q n (Ok old) is one len none = len ∙ ap f (one ∙ none)
new_len f q n (Err e) is one len none = absurd cc

-- ---- keys of one kind

module _ {K : Type 0} (R : K → K → Ordering) (exact : (a b : K) → R a b ≡ Equal → a ≡ b) where
  one_key : (k q : K) (t : Bool) → is_eq (R k q) ≡ t → (q ≡ k) ⊎ (is_eq (R k q) ≡ false)
  one_key k q true is = inl (sym (exact k q (eq_from (R k q) is)))
  one_key k q false is = inr is

  -- a key that a set has is among its keys
  pub has_member : (s : BTreeSet K) (q : K) → contains R s q ≡ true → Contains s.keys q
  has_member s q h = Contains-from_any (λ (x y : K) (is : is_eq (R x y) ≡ true). exact x y (eq_from (R x y) is)) q s.keys h

  module _ (IsKey : Block → K → Type 0) (hash_in : K → List ℕ) (names : (b : Block) (k : K) → IsKey b k → hash_in k ≡ block_hash_of b)
      (one : (b : Block) (k j : K) → IsKey b k → IsKey b j → k ≡ j) where
    -- a block came, and its key
    pub keys_put : (s n : BTreeSet K) (m p : List ℕ → Option Stored) (k : K) (hash : List ℕ) (x : Stored) → AreKeysOf IsKey (contains R s) m → sorted.Updates R s n k true
        → BecomesAt m p hash (Some x) → m hash ≡ None → IsKey x.block k → AreKeysOf IsKey (contains R n) p
    keys_put s n m p k hash x keys came put free is = record { kept = kept; named = named }
      where
        stays : (q : K) (t : Bool) → contains R s q ≡ true → cond t true (contains R s q) ≡ true
        stays q true has = refl
        stays q false has = has

        kept : (q : List ℕ) (y : Stored) → p q ≡ Some y → (j : K) × (contains R n j ≡ true) × IsKey y.block j
        kept q y there = elim (is_hash hash q) [
          | inl same ↦ (k, came.1, subst (λ (z : Stored). IsKey z.block k) (same_Some x y (sym put.here ∙ (ap p (sym same) ∙ there))) is)
          | inr other ↦
              let was = keys.kept q y (sym (put.others q other) ∙ there) in
              (was.0, came.0 was.0 ∙ stays was.0 (is_eq (R k was.0)) was.1, was.2)
        ]

        named : (j : K) → contains R n j ≡ true → (q : List ℕ) × (y : Stored) × (p q ≡ Some y) × IsKey y.block j
        named j has = elim (one_key k j (is_eq (R k j)) refl) [
          | inl same ↦ (hash, x, put.here, subst (IsKey x.block) (sym same) is)
          | inr other ↦
              let was = keys.named j (sym (came.2 j other) ∙ has) in
              let apart : was.0 ≢ hash = λ same. none_some was.1 (sym free ∙ (ap m (sym same) ∙ was.2)) in
              (was.0, was.1, put.others was.0 apart ∙ was.2, was.3)
        ]

    -- a block went, and its key
    pub keys_take : (s n : BTreeSet K) (m p : List ℕ → Option Stored) (k : K) (hash : List ℕ) (x : Stored) → AreKeysOf IsKey (contains R s) m → sorted.Updates R s n k false
        → BecomesAt m p hash None → m hash ≡ Some x → IsKey x.block k → hash_in k ≡ hash
        → ((q : List ℕ) (y : Stored) → m q ≡ Some y → block_hash_of y.block ≡ q) → AreKeysOf IsKey (contains R n) p
    keys_take s n m p k hash x keys went took there is at keyed = record { kept = kept; named = named }
      where
        gone : (y : Stored) → p hash ≡ Some y → ⊥
        gone y h = none_some y (sym took.here ∙ h)

        kept : (q : List ℕ) (y : Stored) → p q ≡ Some y → (j : K) × (contains R n j ≡ true) × IsKey y.block j
        kept q y here = elim (is_hash hash q) [
          | inl same ↦ absurd (gone y (ap p (sym same) ∙ here))
          | inr other ↦
              let before : m q ≡ Some y = sym (took.others q other) ∙ here in
              let was = keys.kept q y before in
              elim (one_key k was.0 (is_eq (R k was.0)) refl) [
                | inl same ↦ absurd (other (sym (keyed q y before) ∙ (sym (names y.block was.0 was.2) ∙ (ap hash_in same ∙ at))))
                | inr apart ↦ (was.0, went.2 was.0 apart ∙ was.1, was.2)
              ]
        ]

        named : (j : K) → contains R n j ≡ true → (q : List ℕ) × (y : Stored) × (p q ≡ Some y) × IsKey y.block j
        named j has = elim (one_key k j (is_eq (R k j)) refl) [
          | inl same ↦ absurd (let e : false ≡ true = sym went.1 ∙ (ap (contains R n) (sym same) ∙ has) in cc)
          | inr apart ↦
              let was = keys.named j (sym (went.2 j apart) ∙ has) in
              let other : was.0 ≢ hash =
              λ same. let y : x ≡ was.1 = same_Some x was.1 (sym there ∙ (ap m (sym same) ∙ was.2)) in
              let key : j ≡ k = one x.block j k (subst (λ (z : Stored). IsKey z.block j) (sym y) was.3) is in
              let e : false ≡ true = sym went.1 ∙ (ap (contains R n) (sym key) ∙ has) in cc in
              (was.0, was.1, took.others was.0 other ∙ was.2, was.3)
        ]

    -- a key came and went again
    pub keys_undone : (s n e : BTreeSet K) (m : List ℕ → Option Stored) (k : K) → AreKeysOf IsKey (contains R s) m → sorted.Updates R s n k true → sorted.Updates R n e k false
        → (contains R s k ≡ true → ⊥) → AreKeysOf IsKey (contains R e) m
    keys_undone s n e m k keys came went free = record {
      kept = λ q y there.
          let was = keys.kept q y there in
          elim (one_key k was.0 (is_eq (R k was.0)) refl) [
            | inl same ↦ absurd (free (ap (contains R s) (sym same) ∙ was.1))
            | inr apart ↦ (was.0, went.2 was.0 apart ∙ (came.2 was.0 apart ∙ was.1), was.2)
          ];
      named = λ j has. elim (one_key k j (is_eq (R k j)) refl) [
        | inl same ↦ absurd (let e : false ≡ true = sym went.1 ∙ (ap (contains R e) (sym same) ∙ has) in cc)
        | inr apart ↦ keys.named j (sym (came.2 j apart) ∙ (sym (went.2 j apart) ∙ has))
      ];
    }

    -- a key of a block that isn't there is free
    pub key_is_free : (s : BTreeSet K) (m : List ℕ → Option Stored) (k : K) (b : Block) → AreKeysOf IsKey (contains R s) m → IsKey b k → m (block_hash_of b) ≡ None
        → ((q : List ℕ) (y : Stored) → m q ≡ Some y → block_hash_of y.block ≡ q) → contains R s k ≡ true → ⊥
    key_is_free s m k b keys is none keyed has =
        let was = keys.named k has in
        let same : was.0 ≡ block_hash_of b = sym (keyed was.0 was.1 was.2) ∙ (sym (names was.1.block k was.3) ∙ names b k is) in
        none_some was.1 (sym none ∙ (ap m (sym same) ∙ was.2))

    -- a mark changes no key
    pub keys_marked : (s : BTreeSet K) (m p : List ℕ → Option Stored) (hash : List ℕ) (x y : Stored) → AreKeysOf IsKey (contains R s) m
        → BecomesAt m p hash (Some y) → m hash ≡ Some x → y.block ≡ x.block → AreKeysOf IsKey (contains R s) p
    keys_marked s m p hash x y keys wrote there same = record {
      kept = λ q z here. elim (is_hash hash q) [
        | inl at ↦
            let was = keys.kept hash x there in
            let is : y ≡ z = same_Some y z (sym wrote.here ∙ (ap p (sym at) ∙ here)) in
            (was.0, was.1, subst (λ (b : Block). IsKey b was.0) (sym same ∙ ap (λ (v : Stored). v.block) is) was.2)
        | inr other ↦ keys.kept q z (sym (wrote.others q other) ∙ here)
      ];
      named = λ j has.
          let was = keys.named j has in
          elim (is_hash hash was.0) [
            | inl at ↦
                let is : x ≡ was.1 = same_Some x was.1 (sym there ∙ (ap m (sym at) ∙ was.2)) in
                (hash, y, wrote.here, subst (λ (b : Block). IsKey b j) (sym (same ∙ ap (λ (v : Stored). v.block) is)) was.3)
            | inr other ↦ (was.0, was.1, wrote.others was.0 other ∙ was.2, was.3)
          ];
    }

-- ---- of the two kinds

pub link_names : (b : Block) (l : Link) → IsLinkOf b l → l.hash ≡ block_hash_of b
link_names b l is = is.1

pub one_link : (b : Block) (l j : Link) → IsLinkOf b l → IsLinkOf b j → l ≡ j
one_link b l j is too = λ i. record { previous = (is.0 ∙ sym too.0) i; hash = (is.1 ∙ sym too.1) i }

pub age_names : (b : Block) (a : Age) → IsAgeOf b a → a.hash ≡ block_hash_of b
age_names b a is = is.1

pub one_age : (b : Block) (a j : Age) → IsAgeOf b a → IsAgeOf b j → a ≡ j
one_age b a j is too = λ i. record { number = (is.0 ∙ sym too.0) i; hash = (is.1 ∙ sym too.1) i }
