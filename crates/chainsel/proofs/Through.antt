-- Candidates that have the block that came, and those that don't.
use Rattle.std.proofs.Common.{◌≡◌, ℕ, ◌<◌, ◌≤◌, ◌⊎◌, List, [], ◌∷◌, ◌++◌, length, drop, Contains, refl, sym, ap, subst, ◌∙◌, arith, inl, inr, append_assoc}
use Rattle.std.specs.Prelude.{unwrap_or}
use Rattle.std.specs.List.{AllByRecursion}
use Rattle.std.proofs.lemmas.List.Elements.{Contains-append_left, Contains-append_right}
use Rattle.model.specs.Block.{Block, block_hash_of}
use Rattle.model.specs.Ledger.{Network}
use Rattle.model.specs.Chain.{Tip, genesis_tip, tip_at, tip_after, tip_hash, IsLinked, IsCandidate, immutable_length, immutable_part}
use Rattle.model.proofs.Lists.{all_weaker, all_both, all_append, all_take, contains_first, contains_later}
use Rattle.model.proofs.MappedLists.{contains_map}
use Rattle.model.proofs.Chains.{tip_after-append, tip_number, linked_rest, numbers_past}
use Rattle.model.proofs.Candidates.{candidate_front}
use Rattle.ident.specs.Kinds.{BlockHash}
use Rattle.blockstore.specs.Stored.{Stored, Store, blocks_of}
use Rattle.ledgerdb.specs.Values.{Database}
use Rattle.chainsel.specs.Ready.{IsReady}
use Rattle.chainsel.specs.Choices.{IsFoundDead}
use Rattle.chainsel.specs.Paths.{IsFitLive, IsOnPath, Descends, last_block}
use Rattle.chainsel.proofs.AtHand.{at_hand, candidate_steps}

-- ---- steps, with the block that came among them or not

pub record HasNew (store : Store) (invalid : List BlockHash) (new : Block) (steps : List Block) : Type 0 where
  pub before : List Block
  pub after : List Block
  pub parts : steps ≡ before ++ new ∷ after
  pub fit : AllByRecursion (IsFitLive store invalid) before
  pub rest : AllByRecursion (IsOnPath store invalid new) after

pub first_new : (store : Store) (invalid : List BlockHash) (new : Block) (steps : List Block) → AllByRecursion (IsOnPath store invalid new) steps → HasNew store invalid new steps ⊎ AllByRecursion (IsFitLive store invalid) steps
first_new store invalid new [] all = inr tt
first_new store invalid new (x ∷ xs) all =
    elim all.0 [
      | inl is ↦ inl (record { before = []; after = xs; parts = ap (λ (b : Block). b ∷ xs) is; fit = tt; rest = all.1 })
      | inr fit ↦ elim (first_new store invalid new xs all.1) [
        | inl has ↦ inl (record { before = x ∷ has.before; after = has.after; parts = ap (λ (bs : List Block). x ∷ bs) has.parts; fit = (fit, has.fit); rest = has.rest })
        | inr none ↦ inr (fit, none)
      ]
    ]

-- past the block that came all are fit
pub fit_after : (store : Store) (invalid : List BlockHash) (new : Block) (after : List Block) → IsLinked (tip_at new) after → AllByRecursion (IsOnPath store invalid new) after → AllByRecursion (IsFitLive store invalid) after
fit_after store invalid new after linked steps =
    all_weaker (λ b. (new.header.number < b.header.number) × IsOnPath store invalid new b) (IsFitLive store invalid) after one
    (all_both (λ b. new.header.number < b.header.number) (IsOnPath store invalid new) after (numbers_past (tip_at new) after linked) steps)
  where
    one : (b : Block) → (new.header.number < b.header.number) × IsOnPath store invalid new b → IsFitLive store invalid b
    one b (past, inl is) = absurd (let e : b.header.number ≡ new.header.number = ap (λ (c : Block). c.header.number) is in omega (arith, past, e))
    one b (past, inr fit) = fit

pub fit_is_live : (store : Store) (invalid : List BlockHash) (b : Block) → IsFitLive store invalid b → Contains (blocks_of store) b
fit_is_live store invalid b fit = subst (Contains (blocks_of store)) fit.block (contains_map (λ (s : Stored). s.block) store.blocks fit.stored fit.member)

pub step_is_there : (store : Store) (invalid : List BlockHash) (new b : Block) → IsOnPath store invalid new b → Contains (new ∷ blocks_of store) b
step_is_there store invalid new b (inl is) = subst (Contains (new ∷ blocks_of store)) (sym is) (contains_first new (blocks_of store))
step_is_there store invalid new b (inr fit) = contains_later new (blocks_of store) b (fit_is_live store invalid b fit)

-- ---- where lists end

pub tip_of_last : (new : Block) (path : List Block) → tip_after (tip_at new) path ≡ tip_at (last_block new path)
tip_of_last new [] = refl
tip_of_last new (x ∷ xs) = tip_of_last x xs

-- a chain that ends in a block is as long as the block's number
pub length_by_number : (chain : List Block) (b : Block) → IsLinked genesis_tip chain → tip_after genesis_tip chain ≡ tip_at b → length chain ≡ b.header.number
length_by_number chain b linked ends = let e = tip_number genesis_tip chain linked in let n = ap (λ (t : Tip). t.number) ends in omega (arith, e, n)

pub hash_by_end : (chain : List Block) (b : Block) → tip_after genesis_tip chain ≡ tip_at b → tip_hash chain ≡ block_hash_of b
hash_by_end chain b ends = ap (λ (t : Tip). unwrap_or t.hash []) ends

-- ---- candidates

module _ (network : Network) (chain : List Block) (store : Store) (db : Database) (new : Block) (ready : IsReady network chain store db new) (invalid : List BlockHash)
    (found : AllByRecursion (IsFoundDead network chain (new ∷ blocks_of store)) invalid) where
  abbrev is_candidate : List Block → Type 0
  is_candidate c = IsCandidate network (at_hand chain store new) chain c

  -- it comes to the block, and goes on from there
  pub record GoesThrough (c : List Block) : Type 0 where
    pub before : List Block
    pub after : List Block
    pub parts : c ≡ (immutable_part network chain ++ before) ++ new ∷ after
    pub fit : AllByRecursion (IsFitLive store invalid) before
    pub linked : IsLinked (tip_after genesis_tip (immutable_part network chain)) (before ++ new ∷ after)
    pub descends : Descends store invalid new (last_block new after)
    pub ends : tip_after genesis_tip c ≡ tip_at (last_block new after)

  -- or is no longer than the selected chain
  pub candidate_cases : (c : List Block) → is_candidate c → GoesThrough c ⊎ (length c ≤ length chain)
  candidate_cases c candidate =
      elim (first_new store invalid new (drop m c) (candidate_steps network chain store db new ready invalid found c candidate)) [
        | inl has ↦ inl (through has)
        | inr none ↦ inr (ready.settled.longest c (record { valid = candidate.valid; members = without none; begins = candidate.begins }))
      ]
    where
      m : ℕ
      m = immutable_length network chain

      imm : List Block
      imm = immutable_part network chain

      splits : c ≡ imm ++ drop m c
      splits = candidate_front network (at_hand chain store new) chain c candidate

      without : AllByRecursion (IsFitLive store invalid) (drop m c) → AllByRecursion (Contains (blocks_of store ++ chain)) c
      without none =
          subst (AllByRecursion (Contains (blocks_of store ++ chain))) (sym splits)
          (all_append (Contains (blocks_of store ++ chain)) imm (drop m c)
          (all_take (Contains (blocks_of store ++ chain)) m chain (chain_there chain (λ b member. Contains-append_right (blocks_of store) chain b member)))
          (all_weaker (IsFitLive store invalid) (Contains (blocks_of store ++ chain)) (drop m c) (λ b fit. Contains-append_left (blocks_of store) chain b (fit_is_live store invalid b fit)) none))
        where
          chain_there : (xs : List Block) → ((b : Block) → Contains xs b → Contains (blocks_of store ++ chain) b) → AllByRecursion (Contains (blocks_of store ++ chain)) xs
          chain_there [] each = tt
          chain_there (x ∷ xs) each = (each x (contains_first x xs), chain_there xs (λ b member. each b (contains_later x xs b member)))

      through : HasNew store invalid new (drop m c) → GoesThrough c
      through has =
          let whole : c ≡ imm ++ (has.before ++ new ∷ has.after) = splits ∙ ap (λ (bs : List Block). imm ++ bs) has.parts in
          let linked : IsLinked genesis_tip (imm ++ (has.before ++ new ∷ has.after)) = subst (IsLinked genesis_tip) whole candidate.valid.linked in
          let from = linked_rest genesis_tip imm (has.before ++ new ∷ has.after) linked in
          let at_new : IsLinked (tip_after (tip_after genesis_tip imm) has.before) (new ∷ has.after) = linked_rest (tip_after genesis_tip imm) has.before (new ∷ has.after) from in
          record {
            before = has.before;
            after = has.after;
            parts = whole ∙ sym (append_assoc imm has.before (new ∷ has.after));
            fit = has.fit;
            linked = from;
            descends = record { path = has.after; linked = at_new.1; members = fit_after store invalid new has.after at_new.1 has.rest; last = refl };
            ends =
                ap (tip_after genesis_tip) whole
                ∙ (tip_after-append genesis_tip imm (has.before ++ new ∷ has.after)
                ∙ (tip_after-append (tip_after genesis_tip imm) has.before (new ∷ has.after) ∙ tip_of_last new has.after));
          }

  -- as long as the number of its end
  pub through_length : (c : List Block) → is_candidate c → (is : GoesThrough c) → length c ≡ (last_block new is.after).header.number
  through_length c candidate is = length_by_number c (last_block new is.after) candidate.valid.linked is.ends

  pub has_new : (c : List Block) → GoesThrough c → Contains c new
  has_new c is =
      subst (λ (bs : List Block). Contains bs new) (sym is.parts)
      (Contains-append_right (immutable_part network chain ++ is.before) (new ∷ is.after) new (contains_first new is.after))
