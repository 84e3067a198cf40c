-- Blocks found dead: the set of their hashes; that they are live ones, each found once, so that there are no more of them
-- than live blocks.
use Rattle.std.proofs.Common.{◌≡◌, ◌≢◌, ℕ, ◌≤◌, Bool, true, false, cond, List, [], ◌∷◌, ◌++◌, length, Contains, refl, sym, ap, subst, ◌∙◌, arith, inl, inr}
use Rattle.std.specs.Ordering.{is_eq, nat_cmp}
use Rattle.std.specs.declared.cmp.Ordering.{Ordering}
use Rattle.std.specs.declared.cmp.Ordering.TheVariants.{Less, Equal, Greater}
use Rattle.std.specs.Cmp.Lexicographic.{slice_cmp}
use Rattle.std.specs.Cmp.{tied_itself}
use Rattle.std.specs.List.{list_any}
use Rattle.std.specs.Prelude.{bytes_eq, ◌||◌, Result, Ok, Err, OnOk}
use Rattle.std.specs.Result.{is_err}
use Rattle.std.proofs.lemmas.Slice.Eq.{bytes_eq-Decides}
use Rattle.std.specs.BTreeMap.{is_at}
use Rattle.std.specs.BTreeSet.{BTreeSet, contains, Updates}
use Rattle.std.proofs.lemmas.Cmp.{nat_list_cmp_total}
use Rattle.std.proofs.lemmas.Map.Lookups.{exact_bytes}
use Rattle.std.specs.List.{AllByRecursion}
use Rattle.std.proofs.lemmas.List.{length-append, length-map}
use Rattle.std.proofs.lemmas.List.Elements.{Contains-append_left, Contains-append_right}
use Rattle.model.specs.Block.{Block, block_hash_of}
use Rattle.model.proofs.Lists.{all_of_member, all_from_members, all_append, contains_first, contains_cases, nothing_contained}
use Rattle.model.proofs.Sets.{no_more_than}
use Rattle.ident.specs.Kinds.{BlockHash}
use Rattle.blockstore.specs.Stored.{Stored, Store, blocks_of}
use Rattle.chainsel.specs.Founds.{is_among, AreHashesOf, AreFound}
use Rattle.chainsel.specs.Judged.{GainsFound}
use Rattle.chainsel.specs.Paths.{IsFitLive, IsOnPath, IsWay, Descends}
use Rattle.chainsel.proofs.Through.{fit_is_live}
use Rattle.chainsel.proofs.Keeping.{end_is_step}

-- ---- the set of their hashes

pub on_ok : {A E : Type 0} (P : Type 0) (r : Result A E) → false ≡ is_err r → OnOk r P → P
on_ok P (Ok x) is h = h
on_ok P (Err e) is h = absurd cc

pub ok_weaker : {A E : Type 0} (P Q : Type 0) (r : Result A E) → (P → Q) → OnOk r P → OnOk r Q
ok_weaker P Q (Ok x) so h = so h
ok_weaker P Q (Err e) so h = h

eq_from : (o : Ordering) → is_eq o ≡ true → o ≡ Equal
eq_from Less h = absurd (let e : false ≡ true = h in cc)
eq_from Equal h = refl
eq_from Greater h = absurd (let e : false ≡ true = h in cc)

pub none_known : (known : BTreeSet (List ℕ)) → known.keys ≡ [] → AreHashesOf known []
none_known known none bytes = ap (list_any (is_at (slice_cmp nat_cmp bytes))) none

or_true : (t : Bool) → (t || true) ≡ true
or_true true = refl
or_true false = refl

among_last : (found : List BlockHash) (hash : BlockHash) (bytes : List ℕ) → bytes_eq hash.bytes bytes ≡ true → is_among bytes (found ++ hash ∷ []) ≡ true
among_last [] hash bytes is = ap (λ t. t || false) is
among_last (h ∷ hs) hash bytes is = ap (λ t. bytes_eq h.bytes bytes || t) (among_last hs hash bytes is) ∙ or_true (bytes_eq h.bytes bytes)

among_others : (found : List BlockHash) (hash : BlockHash) (bytes : List ℕ) → bytes_eq hash.bytes bytes ≡ false → is_among bytes (found ++ hash ∷ []) ≡ is_among bytes found
among_others [] hash bytes is = ap (λ t. t || false) is
among_others (h ∷ hs) hash bytes is = ap (λ t. bytes_eq h.bytes bytes || t) (among_others hs hash bytes is)

-- one more hash is known
pub one_known : (known after : BTreeSet (List ℕ)) (found : List BlockHash) (hash : BlockHash) → AreHashesOf known found → Updates (slice_cmp nat_cmp) known after hash.bytes true → AreHashesOf after (found ++ hash ∷ [])
one_known known after found hash are came bytes = one (is_eq (slice_cmp nat_cmp hash.bytes bytes)) (bytes_eq hash.bytes bytes) refl refl
  where
    one : (t u : Bool) → is_eq (slice_cmp nat_cmp hash.bytes bytes) ≡ t → bytes_eq hash.bytes bytes ≡ u → contains (slice_cmp nat_cmp) after bytes ≡ is_among bytes (found ++ hash ∷ [])
    one true true is same = came.0 bytes ∙ (ap (λ (t : Bool). cond t true (contains (slice_cmp nat_cmp) known bytes)) is ∙ sym (among_last found hash bytes same))
    one false false is same = came.0 bytes ∙ (ap (λ (t : Bool). cond t true (contains (slice_cmp nat_cmp) known bytes)) is ∙ (are bytes ∙ sym (among_others found hash bytes same)))
    one true false is same = absurd (let e : false ≡ true = sym same ∙ (bytes_eq-Decides hash.bytes bytes).1 (exact_bytes hash.bytes bytes (eq_from (slice_cmp nat_cmp hash.bytes bytes) is)) in cc)
    one false true is same = absurd (let e : true ≡ false = sym (ap is_eq (tied_itself nat_list_cmp_total hash.bytes)) ∙ (ap (λ (b : List ℕ). is_eq (slice_cmp nat_cmp hash.bytes b)) ((bytes_eq-Decides hash.bytes bytes).0 same) ∙ is) in cc)

-- ---- how many

pub none_found : (store : Store) → AreFound store []
none_found store = record { blocks = []; distinct = tt; members = λ b member. absurd (nothing_contained b member); named = λ b member. absurd (nothing_contained b member); count = refl }

-- one more, against which nothing was known
pub one_found : (store : Store) (invalid : List BlockHash) (b : Block) (hash : BlockHash) → AreFound store invalid → IsFitLive store invalid b → hash.bytes ≡ block_hash_of b → AreFound store (invalid ++ hash ∷ [])
one_found store invalid b hash found fit same = record {
  blocks = b ∷ found.blocks;
  distinct = (
    all_from_members (λ c. block_hash_of c ≢ block_hash_of b) found.blocks
        (λ c member as_b.
        let is = found.named c member in
        all_of_member (λ h. h.bytes ≢ block_hash_of fit.stored.block) invalid is.0 fit.fit.unfound is.1 (is.2 ∙ (as_b ∙ sym (ap block_hash_of fit.block)))),
    found.distinct,
  );
  members = λ c member. elim (contains_cases b found.blocks c member) [
    | inl is ↦ subst (Contains (blocks_of store)) is (fit_is_live store invalid b fit)
    | inr among ↦ found.members c among
  ];
  named = λ c member. elim (contains_cases b found.blocks c member) [
    | inl is ↦ (hash, Contains-append_right invalid (hash ∷ []) hash (contains_first hash []), same ∙ ap block_hash_of is)
    | inr among ↦ let named = found.named c among in (named.0, Contains-append_left invalid (hash ∷ []) named.0 named.1, named.2)
  ];
  count = let e = found.count in omega (arith, e, length-append invalid (hash ∷ []));
}

pub found_fewer : (store : Store) (invalid : List BlockHash) → AreFound store invalid → length invalid ≤ length store.blocks
found_fewer store invalid found =
    let e = found.count in omega (arith, e, no_more_than found.blocks (blocks_of store) found.distinct found.members, length-map store.blocks (λ (s : Stored). s.block))

-- a block of a way that isn't the one that came is fit
pub way_fit : (store : Store) (invalid : List BlockHash) (chain : List Block) (immutable : ℕ) (new end : Block) (keep : ℕ) (blocks : List Block) → IsWay store invalid chain immutable new end keep blocks → Descends store invalid new end
    → (b : Block) → Contains blocks b → block_hash_of b ≢ block_hash_of new → IsFitLive store invalid b
way_fit store invalid chain immutable new end keep blocks way descends b member other =
    elim (all_of_member (IsOnPath store invalid new) blocks b
    (subst (AllByRecursion (IsOnPath store invalid new)) (sym way.ends) (all_append (IsOnPath store invalid new) way.before (end ∷ []) way.members (end_is_step store invalid new end descends, tt))) member) [
      | inl is ↦ absurd (other (ap block_hash_of is))
      | inr fit ↦ fit
    ]

-- one more found, or none
pub gains_one : (store : Store) (found : List BlockHash) (b : Block) (hash : BlockHash) → IsFitLive store found b → hash.bytes ≡ block_hash_of b → GainsFound store found (found ++ hash ∷ [])
gains_one store found b hash fit same = record {
  stays = λ are. one_found store found b hash are fit same;
  longer = omega (arith, length-append found (hash ∷ []));
}

pub gains_none : (store : Store) (found : List BlockHash) → GainsFound store found found
gains_none store found = record { stays = λ are. are; longer = omega arith }

pub gains_both : (store : Store) (found more most : List BlockHash) → GainsFound store found more → GainsFound store more most → GainsFound store found most
gains_both store found more most first second = record {
  stays = λ are. second.stays (first.stays are);
  longer = let a = first.longer in let b = second.longer in omega arith;
}
