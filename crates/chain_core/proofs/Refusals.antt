-- From what is found among the blocks to the first refusal that applies.
use Rattle.std.proofs.Common.{◌≡◌, ℕ, ◌<◌, ◌≤◌, ◌↔◌, ◌^◌, List, [], ◌∷◌, ◌++◌, length, Contains, refl, sym, ap, subst, ◌∙◌, arith, inl, inr, ◌⊎◌, lit<, append_assoc}
use Rattle.std.specs.Prelude.{Any, Some, None}
use Rattle.block.specs.declared.fault.BadBytes.{BadBytes}
use Rattle.block.specs.declared.fault.BadBytes.TheVariants as bad
use Rattle.block.specs.Read.{IsRead, IsBadBytes}
use Rattle.model.specs.Limits.{block_size_limit}
use Rattle.model.specs.Block.{Block, SpellsBlock, block_hash_of, block_text, body_hash_of, item_of_previous, item_of_transactions}
use Rattle.model.specs.Cbor.{Unsigned, Bytes, head, items_of, items_text}
use Rattle.model.specs.Ledger.{Network}
use Rattle.model.specs.Chain.{immutable_length, immutable_part}
use Rattle.model.specs.History.{State, Refusal, TooLarge, Malformed, BodyHashMismatch, TooOld, Known, Clash, VolatileFull, refusal_number, Applies, IsRefused}
use Rattle.model.proofs.First.{NoneBelow, none_below_next, none_at_all, one_number}
use Rattle.model.proofs.BlockTexts.{one_block, block_text_is}
use Rattle.model.proofs.HeadLemmas.{same_heads}
use Rattle.model.proofs.Chains.{one_with_hash}
use Rattle.model.proofs.MappedLists.{contains_map}
use Rattle.blockstore.specs.Stored.{Stored, Store, HasBlock, IsSet, blocks_of}
use Rattle.blockstore.specs.Insertion.{IsKnown, IsClash, IsFull}
use Rattle.blockstore.specs.Answers.{HasNoneAt, IsAt}
use Rattle.blockstore.proofs.ForCallers.{HoldsState, IsChainClash, known_over, clash_over, full_over}
use Rattle.chain.specs.Chained.{chain_of}
use Rattle.chain_core.specs.declared.chain_db.ChainDb.{ChainDb}
use Rattle.chain_core.specs.ChainDbs.{IsWhole, HasState}
use Rattle.chain_core.specs.Views.{refusal_of, bad_refusal}
use Rattle.chain_core.specs.Judgements.{IsFirstRefusal}
use Rattle.chain_core.proofs.PastHashes.{past_number, past_on_chain, past_without_live}

pub refused_by : (network : Network) (s : State) (bytes : List ℕ) (r : Refusal) → NoneBelow refusal_number (Applies network s bytes) (refusal_number r) → Applies network s bytes r → IsRefused network s bytes r
refused_by network s bytes r below applies = record { applies = applies; first = below }

at_most_7 : (r : Refusal) → refusal_number r < 8
at_most_7 TooLarge = lit< tt
at_most_7 Malformed = lit< tt
at_most_7 BodyHashMismatch = lit< tt
at_most_7 TooOld = lit< tt
at_most_7 Known = lit< tt
at_most_7 Clash = lit< tt
at_most_7 VolatileFull = lit< tt

-- ---- of bytes, whether or not they are read as a block

-- no refusal stands before the first
none_before : (network : Network) (s : State) (bytes : List ℕ) → NoneBelow refusal_number (Applies network s bytes) 1
none_before network s bytes TooLarge lower applies = omega arith
none_before network s bytes Malformed lower applies = omega arith
none_before network s bytes BodyHashMismatch lower applies = omega arith
none_before network s bytes TooOld lower applies = omega arith
none_before network s bytes Known lower applies = omega arith
none_before network s bytes Clash lower applies = omega arith
none_before network s bytes VolatileFull lower applies = omega arith

-- of bytes that are not too many the first doesn't apply
not_large : (network : Network) (s : State) (bytes : List ℕ) → length bytes ≤ block_size_limit → NoneBelow refusal_number (Applies network s bytes) 2
not_large network s bytes size =
    none_below_next refusal_number (Applies network s bytes) one_number TooLarge (none_before network s bytes) (λ (large : block_size_limit < length bytes). omega (arith, size, large))

-- nor the second, where they spell a block
not_malformed : (network : Network) (s : State) (bytes : List ℕ) (b : Block) → length bytes ≤ block_size_limit → SpellsBlock b bytes → NoneBelow refusal_number (Applies network s bytes) 3
not_malformed network s bytes b size spells =
    none_below_next refusal_number (Applies network s bytes) one_number Malformed (not_large network s bytes size) (λ none. none b spells)

-- bad bytes are refused for what is bad
pub bad_refused : (network : Network) (s : State) (bytes : List ℕ) (why : BadBytes) → IsBadBytes bytes why → IsRefused network s bytes (refusal_of (bad_refusal why))
bad_refused network s bytes bad.TooLarge large = refused_by network s bytes TooLarge (none_before network s bytes) large
bad_refused network s bytes bad.Malformed is = refused_by network s bytes Malformed (not_large network s bytes is.size) is.no_block
bad_refused network s bytes bad.BodyHashMismatch is =
    refused_by network s bytes BodyHashMismatch (not_malformed network s bytes is.block is.size is.read) (is.block, is.read, is.body)

-- ---- of bytes that were read as a block

pub none_of_reading : (network : Network) (s : State) (b : Block) (bytes : List ℕ) → IsRead b bytes → NoneBelow refusal_number (Applies network s bytes) 4
none_of_reading network s b bytes read =
    none_below_next refusal_number (Applies network s bytes) one_number BodyHashMismatch (not_malformed network s bytes b read.size read.read)
    (λ applies. applies.2 (subst (λ (c : Block). c.header.body_hash ≡ body_hash_of c.transactions) (one_block b applies.0 bytes read.read applies.1) read.body))

old_applies : (network : Network) (s : State) (b : Block) (bytes : List ℕ) → IsRead b bytes → Applies network s bytes TooOld ↔ (b.header.number ≤ immutable_length network s.chain)
old_applies network s b bytes read = (
  (λ applies. subst (λ (c : Block). c.header.number ≤ immutable_length network s.chain) (one_block applies.0 b bytes applies.1 read.read) applies.2),
  (λ le. (b, read.read, le)),
)

-- ---- the judgement, as the code comes to it, for each state with the chain and the live blocks

module _ {S : Type 0} (network : Network) (a : ChainDb S) (s : State) (whole : IsWhole network a) (has : HasState network a s) (b : Block) where
  -- the number is past the immutable part
  abbrev IsYoung : Type 0
  IsYoung = immutable_length network (chain_of a.chain) < b.header.number

  -- the state's live blocks are held, as many as may be
  holds : HoldsState network s a.store
  holds = record { live = has.live; capacity = whole.capacity; distinct = whole.settled.distinct }

  at_chain : (n : ℕ) → n ≡ immutable_length network (chain_of a.chain) → n ≡ immutable_length network s.chain
  at_chain n is = is ∙ ap (immutable_length network) has.chain

  pub judged_old : (n : ℕ) → n ≡ immutable_length network (chain_of a.chain) → b.header.number ≤ n → IsFirstRefusal network s b (Some TooOld)
  judged_old n is old bytes read =
      refused_by network s bytes TooOld (none_of_reading network s b bytes read) ((old_applies network s b bytes read).1 (let e = at_chain n is in omega (arith, e, old)))

  below_known : IsYoung → (bytes : List ℕ) → IsRead b bytes → NoneBelow refusal_number (Applies network s bytes) 5
  below_known young bytes read =
      none_below_next refusal_number (Applies network s bytes) one_number TooOld (none_of_reading network s b bytes read)
      (λ applies. let le = (old_applies network s b bytes read).0 applies in let e = at_chain (immutable_length network (chain_of a.chain)) refl in omega (arith, le, e, young))

  pub judged_known : IsYoung → IsKnown a.store b → IsFirstRefusal network s b (Some Known)
  judged_known young known bytes read =
      refused_by network s bytes Known (below_known young bytes read) ((known_over network s a.store b bytes holds read.read).0 known)

  below_clash : IsYoung → (IsKnown a.store b → ⊥) → (bytes : List ℕ) → IsRead b bytes → NoneBelow refusal_number (Applies network s bytes) 6
  below_clash young unknown bytes read =
      none_below_next refusal_number (Applies network s bytes) one_number Known (below_known young bytes read) (λ applies. unknown ((known_over network s a.store b bytes holds read.read).1 applies))

  pub judged_clash : IsYoung → (IsKnown a.store b → ⊥) → IsClash a.store b ⊎ IsChainClash s b → IsFirstRefusal network s b (Some Clash)
  judged_clash young unknown clash bytes read =
      refused_by network s bytes Clash (below_clash young unknown bytes read) ((clash_over network s a.store b bytes holds read.read).0 clash)

  below_full : IsYoung → (IsKnown a.store b → ⊥) → (IsClash a.store b → ⊥) → (IsChainClash s b → ⊥) → (bytes : List ℕ) → IsRead b bytes → NoneBelow refusal_number (Applies network s bytes) 7
  below_full young unknown alone no_clash bytes read =
      none_below_next refusal_number (Applies network s bytes) one_number Clash (below_clash young unknown bytes read)
      (λ applies. elim ((clash_over network s a.store b bytes holds read.read).1 applies) [ inl live ↦ alone live | inr there ↦ no_clash there ])

  pub judged_full : IsYoung → (IsKnown a.store b → ⊥) → (IsClash a.store b → ⊥) → (IsChainClash s b → ⊥) → IsFull a.store (length (block_text b)) → IsFirstRefusal network s b (Some VolatileFull)
  judged_full young unknown alone no_clash full bytes read =
      refused_by network s bytes VolatileFull (below_full young unknown alone no_clash bytes read) ((full_over network s a.store bytes holds).0 (subst (IsFull a.store) (ap length (block_text_is b bytes read.read)) full))

  pub judged_none : IsYoung → (IsKnown a.store b → ⊥) → (IsClash a.store b → ⊥) → (IsChainClash s b → ⊥) → (IsFull a.store (length (block_text b)) → ⊥) → IsFirstRefusal network s b None
  judged_none young unknown alone no_clash room bytes read =
      none_at_all refusal_number (Applies network s bytes) 8 at_most_7
      (none_below_next refusal_number (Applies network s bytes) one_number VolatileFull (below_full young unknown alone no_clash bytes read) (λ applies. room (subst (IsFull a.store) (ap length (sym (block_text_is b bytes read.read))) ((full_over network s a.store bytes holds).1 applies))))

-- ---- what is found by a hash

-- what was read from some bytes is what is read from its text
pub read_again : (b : Block) (bytes : List ℕ) → IsRead b bytes → IsRead b (block_text b)
read_again b bytes read = subst (IsRead b) (sym (block_text_is b bytes read.read)) read

-- a stored block has the text
pub known_at : (store : Store) (b : Block) (found : Stored) (hash : List ℕ) → IsAt store hash found → block_text found.block ≡ block_text b → IsKnown store b
known_at store b found hash at same = (found.block, contains_map (λ (x : Stored). x.block) store.blocks found at.member, same)

-- a stored block has the hash and another text
pub other_at : (store : Store) (b : Block) (found : Stored) (hash : List ℕ) → IsSet store → IsKnown store b ↔ HasBlock store b → IsAt store hash found → hash ≡ block_hash_of b → (block_text found.block ≡ block_text b → ⊥)
    → (IsKnown store b → ⊥) × IsClash store b
other_at store b found hash is_set one at is other =
    let live = contains_map (λ (x : Stored). x.block) store.blocks found at.member in (
      (λ known. other (ap block_text (one_with_hash (blocks_of store) found.block b is_set.distinct live (one.0 known) (at.same ∙ is)))),
      (found.block, live, at.same ∙ is, other),
    )

-- none has the hash
pub none_at : (store : Store) (b : Block) (hash : List ℕ) → IsKnown store b ↔ HasBlock store b → HasNoneAt store hash → hash ≡ block_hash_of b → (IsKnown store b → ⊥) × (IsClash store b → ⊥)
none_at store b hash one none is = ((λ known. none b (one.0 known) (sym is)), (λ clash. none clash.0 clash.1 (clash.2 ∙ sym is)))

-- ---- blocks with equal texts have one number

same_numbers : (n k : ℕ) (m1 m2 r1 r2 : List ℕ) → n < 2 ^ 64 → k < 2 ^ 64 → head 4 2 ++ ((head 4 4 ++ (head 0 n ++ m1)) ++ r1) ≡ head 4 2 ++ ((head 4 4 ++ (head 0 k ++ m2)) ++ r2) → n ≡ k
same_numbers n k m1 m2 r1 r2 ln lk e =
    let two = same_heads 4 4 2 2 ((head 4 4 ++ (head 0 n ++ m1)) ++ r1) ((head 4 4 ++ (head 0 k ++ m2)) ++ r2) (lit< tt) (lit< tt) e in
    let four = same_heads 4 4 4 4 ((head 0 n ++ m1) ++ r1) ((head 0 k ++ m2) ++ r2) (lit< tt) (lit< tt) (sym (append_assoc (head 4 4) (head 0 n ++ m1) r1) ∙ two.rest ∙ append_assoc (head 4 4) (head 0 k ++ m2) r2) in
    let number = same_heads 0 0 n k (m1 ++ r1) (m2 ++ r2) ln lk (sym (append_assoc (head 0 n) m1 r1) ∙ four.rest ∙ append_assoc (head 0 k) m2 r2) in
    number.argument

-- what follows the number in the text of a header
abbrev after_number : Block → List ℕ
after_number c = items_text (items_of (Unsigned c.header.slot ∷ item_of_previous c.header.previous ∷ Bytes c.header.body_hash ∷ []))

text_number : (c b : Block) → c.header.number < 2 ^ 64 → b.header.number < 2 ^ 64 → block_text c ≡ block_text b → c.header.number ≡ b.header.number
unfolding block_text
text_number c b lc lb e =
    same_numbers c.header.number b.header.number (after_number c) (after_number b) (items_text (items_of (item_of_transactions c.transactions ∷ []))) (items_text (items_of (item_of_transactions b.transactions ∷ []))) lc lb e

-- A block that is never rolled back, which has the hash of one past it, has another text, since it has another number.
-- Where no live block has the hash, no other block of the chain has it.
pub clash_past : {S : Type 0} (network : Network) (a : ChainDb S) (s : State) → IsWhole network a → HasState network a s → (b : Block) → immutable_length network (chain_of a.chain) < b.header.number → (hash bytes : List ℕ) → IsRead b bytes → hash ≡ block_hash_of b → HasNoneAt a.store hash
    → Any (λ c. block_hash_of c ≡ hash) (immutable_part network (chain_of a.chain)) ↔ IsChainClash s b
clash_past network a s whole has b young hash bytes read is none = (to, back)
  where
    to : Any (λ c. block_hash_of c ≡ hash) (immutable_part network (chain_of a.chain)) → IsChainClash s b
    to any =
        let c : Block = any.1 in
        let first : Contains (immutable_part network (chain_of a.chain)) c = (any.0, any.2, any.3) in
        let low = past_number network a whole c first in
        let limit = read.read.shape.header.number in (
          c,
          subst (λ (bs : List Block). Contains bs c) has.chain (past_on_chain network a c first),
          any.4 ∙ is,
          λ texts.
              let same = text_number c b (omega (arith, low, young, limit)) (omega (arith, limit)) texts in
              omega (arith, same, low, young),
        )

    back : IsChainClash s b → Any (λ c. block_hash_of c ≡ hash) (immutable_part network (chain_of a.chain))
    back clash =
        let there : Contains (chain_of a.chain) clash.0 = subst (λ (bs : List Block). Contains bs clash.0) (sym has.chain) clash.1 in
        let first = past_without_live network a whole hash none clash.0 there (clash.2 ∙ sym is) in
        (first.0, clash.0, first.1, first.2, clash.2 ∙ sym is)
