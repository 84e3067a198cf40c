-- The blocks at hand, the one that came, the live ones and those of the chain: each in its place, and which of them valid
-- chains are made of.
use Rattle.std.proofs.Common.{◌≡◌, ◌≢◌, ◌<◌, ◌≤◌, Bool, true, false, List, [], ◌∷◌, ◌++◌, length, drop, Contains, refl, sym, ap, subst, ◌∙◌, arith, inl, inr}
use Rattle.std.specs.List.{AllByRecursion}
use Rattle.std.proofs.lemmas.Bool.{cases_lt}
use Rattle.std.proofs.lemmas.List.{length-append}
use Rattle.std.proofs.lemmas.List.Elements.{Contains-append_right, Contains-append_cases}
use Rattle.model.specs.Block.{Block, block_hash_of}
use Rattle.model.specs.Ledger.{Network}
use Rattle.model.specs.Chain.{genesis_tip, IsValidChain, IsCandidate, immutable_length, immutable_part, live_blocks}
use Rattle.model.proofs.Lists.{all_of_member, all_from_members, contains_later, contains_cases}
use Rattle.model.proofs.MappedLists.{contains_before}
use Rattle.model.proofs.Chains.{length_immutable, one_with_hash}
use Rattle.model.proofs.Selections.{live_rest}
use Rattle.model.proofs.Candidates.{live_is_kept, live_number, candidate_front}
use Rattle.ident.specs.Kinds.{BlockHash}
use Rattle.blockstore.specs.Stored.{Stored, Store, HasBlock, blocks_of}
use Rattle.ledgerdb.specs.Values.{Database}
use Rattle.ledgerdb.proofs.ForCallers.{database_valid}
use Rattle.chainsel.specs.Dead.{HaveOnePlace, IsUnused, IsDead}
use Rattle.chainsel.specs.Ready.{IsReady}
use Rattle.chainsel.specs.Choices.{IsFoundDead}
use Rattle.chainsel.specs.Paths.{IsOnPath}
use Rattle.chainsel.proofs.Places.{distinct_placed, one_number}

-- the one that came, the live ones and those of the chain
abbrev pub at_hand : List Block → Store → Block → List Block
at_hand chain store new = (new ∷ blocks_of store) ++ chain

module _ (network : Network) (chain : List Block) (store : Store) (db : Database) (new : Block) (ready : IsReady network chain store db new) where
  pub chain_valid : IsValidChain network chain
  chain_valid = database_valid network chain db ready.settled.database

  -- what is at hand past the immutable part is live or the one that came
  pub is_past : (b : Block) → Contains (at_hand chain store new) b → immutable_length network chain < b.header.number → Contains (new ∷ blocks_of store) b
  is_past b member past =
      elim (Contains-append_cases (new ∷ blocks_of store) chain b member) [
        | inl there ↦ there
        | inr on_chain ↦ contains_later new (blocks_of store) b (all_of_member (λ c. immutable_length network chain < c.header.number → HasBlock store c) chain b ready.settled.live on_chain past)
      ]

  -- and the rest is of the chain
  is_before : (b : Block) → Contains (at_hand chain store new) b → b.header.number ≤ immutable_length network chain → Contains chain b
  is_before b member before =
      elim (Contains-append_cases (new ∷ blocks_of store) chain b member) [
        | inl there ↦ absurd (let past = all_of_member (λ c. immutable_length network chain < c.header.number) (new ∷ blocks_of store) b (ready.past, ready.settled.past) there in omega (arith, past, before))
        | inr on_chain ↦ on_chain
      ]

  -- each has its place
  pub at_hand_placed : HaveOnePlace (at_hand chain store new)
  at_hand_placed a b has_a has_b hash number =
      let m = immutable_length network chain in
      elim (cases_lt m a.header.number) [
        | inl past ↦ distinct_placed (new ∷ blocks_of store) (ready.alone, ready.settled.distinct) a b (is_past a has_a past) (is_past b has_b (omega (arith, past, number))) hash number
        | inr before ↦ one_number genesis_tip chain a b chain_valid.linked (is_before a has_a (omega (arith, before))) (is_before b has_b (omega (arith, before, number))) number
      ]

  -- no valid chain of them has a marked block
  marked_unused : (s : Stored) → Contains store.blocks s → s.invalid ≡ true → IsUnused network (at_hand chain store new) s.block
  marked_unused s member marked =
      let dead = all_of_member (λ x. x.invalid ≡ true → IsDead network chain (blocks_of store) x.block) store.blocks s ready.settled.marks member marked in
      dead (new ∷ []) (ready.past, tt) at_hand_placed

  -- nor one that was found dead
  pub found_unused : (b : Block) → IsDead network chain (new ∷ blocks_of store) b → IsUnused network (at_hand chain store new) b
  found_unused b dead = dead [] tt at_hand_placed

  unmarked_of : (t : Bool) → (t ≡ true → ⊥) → t ≡ false
  unmarked_of true none = absurd (none refl)
  unmarked_of false none = refl

  -- so what a valid chain has past the immutable part is the one that came, or fit
  step_of : (invalid : List BlockHash) → AllByRecursion (IsFoundDead network chain (new ∷ blocks_of store)) invalid → (b : Block) → Contains (new ∷ blocks_of store) b
      → (IsUnused network (at_hand chain store new) b → ⊥) → IsOnPath store invalid new b
  step_of invalid found b member used =
      elim (contains_cases new (blocks_of store) b member) [
        | inl is ↦ inl (sym is)
        | inr live ↦
            let stored = contains_before (λ (s : Stored). s.block) store.blocks b live in
            inr (record {
              stored = stored.0;
              member = stored.1;
              block = stored.2;
              fit = record {
                unmarked = unmarked_of stored.0.invalid (λ marked. used (subst (IsUnused network (at_hand chain store new)) stored.2 (marked_unused stored.0 stored.1 marked)));
                unfound = all_from_members (λ hash. hash.bytes ≢ block_hash_of stored.0.block) invalid
                    (λ hash among same.
                    let is = all_of_member (IsFoundDead network chain (new ∷ blocks_of store)) invalid hash found among in
                    let one : is.block ≡ b = one_with_hash (new ∷ blocks_of store) is.block b (ready.alone, ready.settled.distinct) is.member member (is.same ∙ (same ∙ ap block_hash_of stored.2)) in
                    used (subst (IsUnused network (at_hand chain store new)) one (found_unused is.block is.dead)));
              };
            })
      ]

  -- the blocks of a candidate past the immutable part
  pub candidate_steps : (invalid : List BlockHash) → AllByRecursion (IsFoundDead network chain (new ∷ blocks_of store)) invalid → (c : List Block) → IsCandidate network (at_hand chain store new) chain c
      → AllByRecursion (IsOnPath store invalid new) (drop (immutable_length network chain) c)
  candidate_steps invalid found c candidate =
      let m = immutable_length network chain in
      let splits = candidate_front network (at_hand chain store new) chain c candidate in
      let long : m ≤ length c = omega (arith, ap length splits, length-append (immutable_part network chain) (drop m c), length_immutable network chain) in
      let live = live_rest network (at_hand chain store new) chain c candidate long in
      all_from_members (IsOnPath store invalid new) (drop m c)
      (λ b member.
      let is_live = all_of_member (Contains (live_blocks network (at_hand chain store new) chain)) (drop m c) b live member in
      let past = live_number network (at_hand chain store new) chain b is_live in
      let there = is_past b (live_is_kept network (at_hand chain store new) chain b is_live) past in
      step_of invalid found b there (λ unused. unused c candidate.valid candidate.members (subst (λ (xs : List Block). Contains xs b) (sym splits) (Contains-append_right (immutable_part network chain) (drop m c) b member))))
