-- When the selected chain stays, and that the answer doesn't depend on what else was kept.
use Rattle.std.proofs.Common.{◌≡◌, ◌≤◌, List, [], ◌∷◌, ◌++◌, length, Contains, refl, sym, ap, subst, ◌∙◌, arith, inl, inr, append_assoc}
use Rattle.std.specs.Prelude.{nat_lt}
use Rattle.std.specs.List.{AllByRecursion}
use Rattle.std.proofs.lemmas.Bool.{lt-ltb}
use Rattle.std.proofs.lemmas.List.Elements.{Contains-append_left, Contains-append_right, Contains-append_cases}
use Rattle.model.specs.Block.{Block, block_hash_of}
use Rattle.model.specs.Ledger.{Network}
use Rattle.model.specs.Chain.{Tip, genesis_tip, tip_at, tip_after, IsLinked, NoneLonger, IsSelection, immutable_length, immutable_part, live_blocks}
use Rattle.model.proofs.Lists.{all_of_member, all_from_members, all_weaker, all_append, contains_first, contains_later, contains_cases, contains_filter}
use Rattle.model.proofs.Chains.{linked_front, linked_rest, one_with_hash}
use Rattle.model.proofs.Candidates.{live_is_kept, live_number, selection_over}
use Rattle.ident.specs.Kinds.{BlockHash}
use Rattle.blockstore.specs.Stored.{Store, blocks_of}
use Rattle.ledgerdb.specs.Values.{Database}
use Rattle.chainsel.specs.Ready.{IsReady}
use Rattle.chainsel.specs.Choices.{IsSelected, IsFoundDead}
use Rattle.chainsel.specs.Paths.{IsFitLive, IsOnPath, Descends, IsBest, HasNoWay, last_block}
use Rattle.chainsel.proofs.AtHand.{at_hand, found_unused}
use Rattle.chainsel.proofs.Deaths.{all_in_front}
use Rattle.chainsel.proofs.Through.{GoesThrough, candidate_cases, through_length, has_new}

-- ---- lists

pub linked_join : (tip : Tip) (xs ys : List Block) → IsLinked tip xs → IsLinked (tip_after tip xs) ys → IsLinked tip (xs ++ ys)
linked_join tip [] ys first second = second
linked_join tip (x ∷ xs) ys first second = (first.0, linked_join (tip_at x) xs ys first.1 second)

-- a list ends in its last block
pub ends_in : (x : Block) (xs : List Block) → (front : List Block) × (x ∷ xs ≡ front ++ last_block x xs ∷ [])
ends_in x [] = ([], refl)
ends_in x (y ∷ ys) = let rest = ends_in y ys in (x ∷ rest.0, ap (λ (bs : List Block). x ∷ bs) rest.1)

pub last_has : (P : Block → Type 0) (x : Block) (xs : List Block) → AllByRecursion P (x ∷ xs) → P (last_block x xs)
last_has P x [] all = all.0
last_has P x (y ∷ ys) all = last_has P y ys all.1

-- what goes on from the block that came is a step
pub end_is_step : (store : Store) (invalid : List BlockHash) (new b : Block) → Descends store invalid new b → IsOnPath store invalid new b
end_is_step store invalid new b is =
    subst (IsOnPath store invalid new) is.last
    (last_has (IsOnPath store invalid new) new is.path (inl refl, all_weaker (IsFitLive store invalid) (IsOnPath store invalid new) is.path (λ c fit. inr fit) is.members))

module _ (network : Network) (chain : List Block) (store : Store) (db : Database) (new : Block) (ready : IsReady network chain store db new) where
  -- the selection among the blocks at hand is that among all that were kept
  pub selected_over : (selected : List Block) → IsSelection network (at_hand chain store new) chain selected → IsSelected network store chain new selected
  selected_over selected is kept live has_chain = selection_over network (at_hand chain store new) (new ∷ kept) chain selected to back has_all has_kept is
    where
      to : (b : Block) → Contains (live_blocks network (at_hand chain store new) chain) b → Contains (new ∷ kept) b
      to b member =
          elim (Contains-append_cases (new ∷ blocks_of store) chain b (live_is_kept network (at_hand chain store new) chain b member)) [
            | inl there ↦ elim (contains_cases new (blocks_of store) b there) [
              | inl same ↦ subst (Contains (new ∷ kept)) same (contains_first new kept)
              | inr among ↦ contains_later new kept b (live_is_kept network kept chain b ((live.members b).0 among))
            ]
            | inr on_chain ↦ contains_later new kept b (all_of_member (Contains kept) chain b has_chain on_chain)
          ]

      back : (b : Block) → Contains (live_blocks network (new ∷ kept) chain) b → Contains (at_hand chain store new) b
      back b member =
          let past = live_number network (new ∷ kept) chain b member in
          Contains-append_left (new ∷ blocks_of store) chain b
          (elim (contains_cases new kept b (live_is_kept network (new ∷ kept) chain b member)) [
            | inl same ↦ subst (Contains (new ∷ blocks_of store)) same (contains_first new (blocks_of store))
            | inr among ↦ contains_later new (blocks_of store) b ((live.members b).1
                (contains_filter (λ d. nat_lt (immutable_length network chain) d.header.number) kept b among (lt-ltb (immutable_length network chain) b.header.number past)))
          ])

      has_all : AllByRecursion (Contains (at_hand chain store new)) chain
      has_all = all_from_members (Contains (at_hand chain store new)) chain (λ b member. Contains-append_right (new ∷ blocks_of store) chain b member)

      has_kept : AllByRecursion (Contains (new ∷ kept)) chain
      has_kept = all_weaker (Contains kept) (Contains (new ∷ kept)) chain (λ b member. contains_later new kept b member) has_chain

  module _ (invalid : List BlockHash) (found : AllByRecursion (IsFoundDead network chain (new ∷ blocks_of store)) invalid) where
    -- where nothing goes on past the chain, none is longer
    pub none_by_number : (best : Block) → IsBest store invalid new best → best.header.number ≤ length chain → NoneLonger network (at_hand chain store new) chain
    none_by_number best is within c candidate =
        elim (candidate_cases network chain store db new ready invalid found c candidate) [
          | inl through ↦
              let long = through_length network chain store db new ready invalid found c candidate through in
              let far = is.furthest (last_block new through.after) through.descends in
              omega (arith, long, far, within)
          | inr short ↦ short
        ]

    -- where no way leads to what goes on from it
    pub none_by_way : (b : Block) → Descends store invalid new b → HasNoWay store invalid chain (immutable_length network chain) new b → NoneLonger network (at_hand chain store new) chain
    none_by_way b is no_way c candidate =
        elim (candidate_cases network chain store db new ready invalid found c candidate) [
          | inl through ↦ absurd (leads through)
          | inr short ↦ short
        ]
      where
        tip : Tip
        tip = tip_after genesis_tip (immutable_part network chain)

        steps : AllByRecursion (IsOnPath store invalid new) (new ∷ is.path)
        steps = (inl refl, all_weaker (IsFitLive store invalid) (IsOnPath store invalid new) is.path (λ d fit. inr fit) is.members)

        leads : GoesThrough network chain store db new ready invalid found c → ⊥
        leads through =
            let front = ends_in new is.path in
            let whole : new ∷ is.path ≡ front.0 ++ b ∷ [] = front.1 ∙ ap (λ (d : Block). front.0 ++ d ∷ []) is.last in
            let before = linked_front tip through.before (new ∷ through.after) through.linked in
            let at_new = linked_rest tip through.before (new ∷ through.after) through.linked in
            let linked : IsLinked tip (through.before ++ new ∷ is.path) = linked_join tip through.before (new ∷ is.path) before (at_new.0, is.linked) in
            let to_it : through.before ++ new ∷ is.path ≡ (through.before ++ front.0) ++ b ∷ [] = ap (λ (bs : List Block). through.before ++ bs) whole ∙ sym (append_assoc through.before front.0 (b ∷ [])) in
            let are : AllByRecursion (IsOnPath store invalid new) (through.before ++ front.0) = all_append (IsOnPath store invalid new) through.before front.0
            (all_weaker (IsFitLive store invalid) (IsOnPath store invalid new) through.before (λ d fit. inr fit) through.fit)
            (all_in_front (IsOnPath store invalid new) front.0 (b ∷ []) (subst (AllByRecursion (IsOnPath store invalid new)) whole steps)) in
            no_way (through.before ++ front.0) are (subst (IsLinked tip) to_it linked)

    -- where the block that came is dead
    pub none_by_death : (hash : BlockHash) → Contains invalid hash → hash.bytes ≡ block_hash_of new → NoneLonger network (at_hand chain store new) chain
    none_by_death hash among same c candidate =
        elim (candidate_cases network chain store db new ready invalid found c candidate) [
          | inl through ↦
              let is = all_of_member (IsFoundDead network chain (new ∷ blocks_of store)) invalid hash found among in
              let one : is.block ≡ new = one_with_hash (new ∷ blocks_of store) is.block new (ready.alone, ready.settled.distinct) is.member (contains_first new (blocks_of store)) (is.same ∙ same) in
              absurd (found_unused network chain store db new ready is.block is.dead c candidate.valid candidate.members
              (subst (Contains c) (sym one) (has_new network chain store db new ready invalid found c through)))
          | inr short ↦ short
        ]
