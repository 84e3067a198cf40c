-- What becomes of the store when a block is kept.
use Rattle.std.proofs.Common.{◌≡◌, ◌≢◌, ◌↔◌, ◌⊎◌, ℕ, Bool, true, false, List, [], ◌∷◌, ◌++◌, Contains, refl, sym, ap, subst, ◌∙◌, inl, inr}
use Rattle.std.specs.Prelude.{bytes_eq}
use Rattle.std.proofs.lemmas.Slice.Eq.{bytes_eq-Decides}
use Rattle.std.proofs.lemmas.List.Elements.{Contains-append_left, Contains-append_right}
use Rattle.model.specs.Block.{block_hash_of}
use Rattle.model.proofs.Lists.{contains_first}
use Rattle.model.proofs.MappedLists.{contains_map, contains_before}
use Rattle.ident.specs.Kinds.{BlockHash}
use Rattle.blockstore.specs.Stored.{Stored, Store, HasBlock}
use Rattle.blockstore.specs.Answers.{IsMarkedAt, IsMarkSet}
use Rattle.blockstore.specs.Live.{KeepsLive}
use Rattle.chain_core.specs.ChainDbs.{AreMarked}

-- ---- marks

pub none_marked : (store : Store) → AreMarked store [] store
none_marked store = record {
  capacity = refl;
  root = refl;
  blocks = λ b. ((λ has. has), (λ has. has));
  marks = λ s member marked. inl (s, member, refl, marked);
  live = λ genesis kept chain holds. holds;
}

-- the stored block as a mark of this hash leaves it
left_by : (hash : List ℕ) (y : Stored) → (x : Stored) × IsMarkedAt hash y x
left_by hash y = by (bytes_eq (block_hash_of y.block) hash) refl
  where
    by : (t : Bool) → bytes_eq (block_hash_of y.block) hash ≡ t → (x : Stored) × IsMarkedAt hash y x
    by true passes = (record { block = y.block; invalid = true }, record { block = refl; this = λ same. refl; others = λ other. absurd (other ((bytes_eq-Decides (block_hash_of y.block) hash).0 passes)) })
    by false fails = (y, record { block = refl; this = λ same. absurd (let e : false ≡ true = sym fails ∙ (bytes_eq-Decides (block_hash_of y.block) hash).1 same in cc); others = λ other. refl })

-- one mark more
pub one_marked : (old now next : Store) (hashes : List BlockHash) (hash : BlockHash) → AreMarked old hashes now → IsMarkSet now hash.bytes next → KeepsLive now next → AreMarked old (hashes ++ hash ∷ []) next
one_marked old now next hashes hash are set keeps = record {
  capacity = set.capacity ∙ are.capacity;
  root = set.root ∙ are.root;
  blocks = λ b. (
    (λ has.
        let x = contains_before (λ (s : Stored). s.block) next.blocks b has in
        let y = (set.members x.0).0 x.1 in
        (are.blocks b).0 (subst (HasBlock now) (sym (y.2.block) ∙ x.2) (contains_map (λ (s : Stored). s.block) now.blocks y.0 y.1))),
    (λ has.
        let y = contains_before (λ (s : Stored). s.block) now.blocks b ((are.blocks b).1 has) in
        let x = left_by hash.bytes y.0 in
        subst (HasBlock next) (x.1.block ∙ y.2) (contains_map (λ (s : Stored). s.block) next.blocks x.0 ((set.members x.0).1 (y.0, y.1, x.1)))),
  );
  marks = λ s member marked. by set.members s member marked;
  live = λ genesis kept chain holds. keeps genesis kept chain (are.live genesis kept chain holds);
}
  where
    before : (s y : Stored) → s.block ≡ y.block → ((t : Stored) × Contains old.blocks t × (t.block ≡ y.block) × (t.invalid ≡ true)) ⊎ ((h : BlockHash) × Contains hashes h × (block_hash_of y.block ≡ h.bytes))
        → ((t : Stored) × Contains old.blocks t × (t.block ≡ s.block) × (t.invalid ≡ true)) ⊎ ((h : BlockHash) × Contains (hashes ++ hash ∷ []) h × (block_hash_of s.block ≡ h.bytes))
    before s y same (inl was) = inl (was.0, was.1, was.2 ∙ sym same, was.3)
    before s y same (inr named) = inr (named.0, Contains-append_left hashes (hash ∷ []) named.0 named.1, ap block_hash_of same ∙ named.2)

    by : ((x : Stored) → Contains next.blocks x ↔ ((y : Stored) × Contains now.blocks y × IsMarkedAt hash.bytes y x)) → (s : Stored) → Contains next.blocks s → s.invalid ≡ true
        → ((t : Stored) × Contains old.blocks t × (t.block ≡ s.block) × (t.invalid ≡ true)) ⊎ ((h : BlockHash) × Contains (hashes ++ hash ∷ []) h × (block_hash_of s.block ≡ h.bytes))
    by members s member marked =
        let y = (members s).0 member in
        one (bytes_eq (block_hash_of y.0.block) hash.bytes) y.0 refl y.1 y.2
      where
        one : (t : Bool) → (y : Stored) → bytes_eq (block_hash_of y.block) hash.bytes ≡ t → Contains now.blocks y → IsMarkedAt hash.bytes y s
            → ((t : Stored) × Contains old.blocks t × (t.block ≡ s.block) × (t.invalid ≡ true)) ⊎ ((h : BlockHash) × Contains (hashes ++ hash ∷ []) h × (block_hash_of s.block ≡ h.bytes))
        one true y passes there at = inr (hash, Contains-append_right hashes (hash ∷ []) hash (contains_first hash []), ap block_hash_of at.block ∙ (bytes_eq-Decides (block_hash_of y.block) hash.bytes).0 passes)
        one false y fails there at =
            let other : block_hash_of y.block ≢ hash.bytes = λ same. let e : false ≡ true = sym fails ∙ (bytes_eq-Decides (block_hash_of y.block) hash.bytes).1 same in cc in
            before s y at.block (are.marks y there (sym (at.others other) ∙ marked))
