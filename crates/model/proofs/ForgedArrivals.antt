-- Where a forged block arrives next it is put on the chain on which it was forged.
use Rattle.std.proofs.Common.{◌≡◌, ◌≢◌, ℕ, suc, ◌+◌, ◌≤◌, ◌<◌, List, [], ◌∷◌, ◌++◌, length, take, Contains, Some, inl, inr, ◌⊎◌, refl, sym, ap, subst, ◌∙◌, arith, append_assoc}
use Rattle.std.specs.Prelude.{unwrap_or}
use Rattle.std.specs.List.{AllByRecursion}
use Rattle.std.proofs.lemmas.List.{length-append, take-append-le, take_all}
use Rattle.model.specs.Transaction.{Transaction}
use Rattle.model.specs.Genesis.{IsGenesis}
use Rattle.model.specs.Block.{Block, SpellsBlock, block_text, block_hash_of, body_hash_of}
use Rattle.model.specs.Ledger.{Network}
use Rattle.model.specs.Chain.{Tip, genesis_tip, tip_after, tip_hash, Follows, IsValidChain, IsCandidate, NoneLonger, IsSelection, Stays, Changes, HaveDistinctHashes, immutable_length, immutable_part, live_blocks, BeginsWith}
use Rattle.model.specs.History.{State, live_of, TooLarge, Malformed, BodyHashMismatch, TooOld, Known, Clash, VolatileFull, Kept, Refused, OutOfMemory, Keeps}
use Rattle.model.specs.Forging.{IsForged, IsUnfollowed, IsPutOn, ArrivesNext}
use Rattle.model.proofs.Lists.{all_of_member, all_weaker, all_append, contains_first, contains_later, contains_cases}
use Rattle.model.proofs.Chains.{tip_after-append, linked_rest, linked_front, tip_number, length_immutable}
use Rattle.model.proofs.Selections.{same_candidates}
use Rattle.model.proofs.Candidates.{state_of_valid, valid_of_state, live_is_kept}
use Rattle.model.proofs.StatesAlong.{front_state}
use Rattle.model.proofs.BlockTexts.{one_block}
use Rattle.model.proofs.LegalHistories.{HasItsText, IsSoundState, distinct_with}
use Rattle.model.proofs.ForgedBlocks.{forged_follows, forged_length, forged_valid}

-- what a forged block needs of a state
pub record IsReadyForOne (network : Network) (s : State) : Type 0 where
  pub valid : IsValidChain network s.chain
  pub longest : NoneLonger network s.kept s.chain
  pub distinct : HaveDistinctHashes (live_of network s)
  pub members : AllByRecursion (Contains s.kept) s.chain
  pub spelled : (b : Block) → Contains (live_of network s) b → HasItsText b

pub sound_is_ready : (network : Network) (s : State) → IsSoundState network s → IsReadyForOne network s
sound_is_ready network s sound = record {
  valid = sound.valid;
  longest = sound.longest;
  distinct = sound.distinct;
  members = sound.members;
  spelled = λ b live. all_of_member HasItsText s.kept b sound.spelled (live_is_kept network s.kept s.chain b live);
}

-- ---- a list of kept blocks and one more

-- the list is what stands before a block, the block, and what stands behind
record IsSplitAt (b : Block) (xs : List Block) : Type 0 where
  front : List Block
  rest : List Block
  is : xs ≡ front ++ b ∷ rest

-- the block is among them, or all are of the others
found_or_not : (b : Block) (kept xs : List Block) → AllByRecursion (Contains (b ∷ kept)) xs → IsSplitAt b xs ⊎ AllByRecursion (Contains kept) xs
found_or_not b kept [] members = inr tt
found_or_not b kept (x ∷ xs) members =
    elim (contains_cases b kept x members.0) [
      | inl is ↦ inl (record { front = []; rest = xs; is = ap (λ (y : Block). y ∷ xs) (sym is) })
      | inr later ↦ elim (found_or_not b kept xs members.1) [
        | inl split ↦ inl (record { front = x ∷ split.front; rest = split.rest; is = ap (λ (ys : List Block). x ∷ ys) split.is })
        | inr all ↦ inr (later, all)
      ]
    ]

-- the front of a valid chain is valid
front_valid : (network : Network) (xs ys : List Block) → IsValidChain network (xs ++ ys) → IsValidChain network xs
front_valid network xs ys valid =
    let whole = state_of_valid network (xs ++ ys) valid in
    let front = front_state network xs ys whole.0 whole.1 in
    valid_of_state network xs front.0 front.1

in_front : (P : Block → Type 0) (xs ys : List Block) → AllByRecursion P (xs ++ ys) → AllByRecursion P xs
in_front P [] ys all = tt
in_front P (x ∷ xs) ys all = (all.0, in_front P xs ys all.1)

in_rest : (P : Block → Type 0) (xs ys : List Block) → AllByRecursion P (xs ++ ys) → AllByRecursion P ys
in_rest P [] ys all = all
in_rest P (x ∷ xs) ys all = in_rest P xs ys all.1

-- a chain ends in the hash of its last block
ends_in : (xs : List Block) (b : Block) → tip_hash (xs ++ b ∷ []) ≡ block_hash_of b
ends_in xs b = ap (λ (t : Tip). unwrap_or t.hash []) (tip_after-append genesis_tip xs (b ∷ []))

module _ (network : Network) (s : State) (waiting : List Transaction) (slot : ℕ) (b : Block) (bytes : List ℕ) (genesis : IsGenesis network.genesis) (ready : IsReadyForOne network s) (forged : IsForged network s.chain waiting slot b) (spelled : SpellsBlock b bytes) where
  abbrev extended : List Block
  extended = s.chain ++ b ∷ []

  valid_with : IsValidChain network extended
  valid_with = forged_valid network s.chain waiting slot b genesis ready.valid forged

  follows : Follows (tip_after genesis_tip s.chain) b
  follows = forged_follows network s.chain waiting slot b genesis ready.valid forged

  number_is : b.header.number ≡ length s.chain + 1
  number_is = let tip = tip_number genesis_tip s.chain ready.valid.linked in let next = follows.number in omega arith

  longer : length extended ≡ length s.chain + 1
  longer = omega (arith, length-append s.chain (b ∷ []))

  begins_so : BeginsWith extended (immutable_part network s.chain)
  begins_so =
      let m = immutable_length network s.chain in
      let within : m ≤ length s.chain = omega arith in
      ap (λ (n : ℕ). take n extended) (length_immutable network s.chain) ∙ take-append-le m s.chain (b ∷ []) within

  -- with the block the chain is a candidate over kept blocks that have it
  candidate : (kept : List Block) → AllByRecursion (Contains kept) s.chain → Contains kept b → IsCandidate network kept s.chain extended
  candidate kept members has = record {
    valid = valid_with;
    members = all_append (Contains kept) s.chain (b ∷ []) members (has, tt);
    begins = begins_so;
  }

  -- ---- refusals

  not_too_old : (c : Block) → SpellsBlock c bytes → c.header.number ≤ immutable_length network s.chain → ⊥
  not_too_old c read old = let same = ap (λ (d : Block). d.header.number) (one_block c b bytes read spelled) in omega (arith, number_is)

  not_known : (c : Block) → Contains (live_of network s) c → block_text c ≡ bytes → ⊥
  not_known c live text =
      let same = one_block c b bytes (subst (SpellsBlock c) text (ready.spelled c live)) spelled in
      let kept = subst (Contains s.kept) same (live_is_kept network s.kept s.chain c live) in
      let most = ready.longest extended (candidate s.kept ready.members kept) in
      omega (arith, longer)

  body_is : b.header.body_hash ≡ body_hash_of b.transactions
  body_is = subst (λ (c : Block). c.header.body_hash ≡ body_hash_of c.transactions) (sym forged.next) refl

  -- ---- the chain that is selected with it

  module _ (t : State) (back added : ℕ) (keeps : Keeps network s bytes back added t) where
    block_is : keeps.block ≡ b
    block_is = one_block keeps.block b bytes keeps.read spelled

    kept_is : t.kept ≡ b ∷ s.kept
    kept_is = keeps.kept ∙ ap (λ (c : Block). c ∷ s.kept) block_is

    chain_kept : AllByRecursion (Contains t.kept) s.chain
    chain_kept = all_weaker (Contains s.kept) (Contains t.kept) s.chain (λ c member. subst (λ (bs : List Block). Contains bs c) (sym kept_is) (contains_later b s.kept c member)) ready.members

    with_it : IsCandidate network t.kept s.chain extended
    with_it = candidate t.kept chain_kept (subst (λ (bs : List Block). Contains bs b) (sym kept_is) (contains_first b s.kept))

    distinct : HaveDistinctHashes (live_blocks network t.kept s.chain)
    distinct = subst (λ (bs : List Block). HaveDistinctHashes (live_blocks network bs s.chain)) (sym keeps.kept) (distinct_with network s bytes keeps.block ready.distinct keeps.read keeps.not_refused)

    -- a longer candidate goes on from the block
    goes_on : (c : List Block) → IsCandidate network t.kept s.chain c → length s.chain < length c → (rest : List Block) × (c ≡ extended ++ rest)
    goes_on c is more =
        elim (found_or_not b s.kept c (subst (λ (bs : List Block). AllByRecursion (Contains bs) c) kept_is is.members)) [
          | inr all ↦ absurd (let most = ready.longest c (record { valid = is.valid; members = all; begins = is.begins }) in omega arith)
          | inl split ↦
              let at : c ≡ (split.front ++ b ∷ []) ++ split.rest = split.is ∙ sym (append_assoc split.front (b ∷ []) split.rest) in
              let front : List Block = split.front ++ b ∷ [] in
              let whole = subst (IsValidChain network) at is.valid in
              let valid = front_valid network front split.rest whole in
              let number = (linked_rest genesis_tip split.front (b ∷ []) valid.linked).0.number in
              let tip = tip_number genesis_tip split.front (linked_front genesis_tip split.front (b ∷ []) valid.linked) in
              let long : length front ≡ length s.chain + 1 = omega (arith, length-append split.front (b ∷ []), number_is) in
              let m = immutable_length network s.chain in
              let cut : take m c ≡ take m front = ap (take m) at ∙ take-append-le m front split.rest (omega arith) in
              let begins : BeginsWith front (immutable_part network s.chain) =
              ap (λ (n : ℕ). take n front) (length_immutable network s.chain) ∙ (sym cut ∙ (ap (λ (n : ℕ). take n c) (sym (length_immutable network s.chain)) ∙ is.begins)) in
              let other : IsCandidate network t.kept s.chain front = record { valid = valid; members = in_front (Contains t.kept) front split.rest (subst (AllByRecursion (Contains t.kept)) at is.members); begins = begins } in
              let same : front ≡ extended =
              same_candidates network t.kept s.chain front extended distinct other with_it (omega (arith, long)) (omega (arith, long, longer)) (ends_in split.front b ∙ sym (ends_in s.chain b)) in
              (split.rest, at ∙ ap (λ (bs : List Block). bs ++ split.rest) same)
        ]

    -- where none names it nothing goes on from it
    alone : (rest : List Block) → IsCandidate network t.kept s.chain (extended ++ rest) → IsUnfollowed s.kept b → rest ≡ []
    alone [] is unfollowed = refl
    alone (c ∷ cs) is unfollowed =
        let next = (linked_rest genesis_tip extended (c ∷ cs) is.valid.linked).0 in
        let tip = tip_after-append genesis_tip s.chain (b ∷ []) in
        let number : c.header.number ≡ b.header.number + 1 = next.number ∙ ap (λ (u : Tip). u.number + 1) tip in
        let previous : c.header.previous ≡ Some (block_hash_of b) = next.previous ∙ ap (λ (u : Tip). u.hash) tip in
        let member = (in_rest (Contains t.kept) extended (c ∷ cs) is.members).0 in
        absurd (elim (contains_cases b s.kept c (subst (λ (bs : List Block). Contains bs c) kept_is member)) [
          | inl same ↦ let e = ap (λ (d : Block). d.header.number) same in omega arith
          | inr kept ↦ all_of_member (λ (d : Block). d.header.previous ≢ Some (block_hash_of b)) s.kept c unfollowed kept previous
        ])

    -- the selected chain goes on from it too
    selected : (new : List Block) → IsSelection network t.kept s.chain new → (rest : List Block) × (new ≡ extended ++ rest) × IsCandidate network t.kept s.chain (extended ++ rest)
    selected new (Stays none) = absurd (let most = none extended with_it in omega (arith, longer))
    selected new (Changes chosen is) =
        let on = goes_on chosen is.candidate is.longer in
        (on.0, on.1, subst (IsCandidate network t.kept s.chain) on.1 is.candidate)

    pub put_on : IsPutOn s.kept b (Kept back added)
    put_on =
        let on = selected t.chain keeps.selection in
        let new : t.chain ≡ s.chain ++ (b ∷ on.0) = on.1 ∙ append_assoc s.chain (b ∷ []) on.0 in
        let change = keeps.change in
        let n = length s.chain in
        let long : length t.chain ≡ n + suc (length on.0) = ap length new ∙ length-append s.chain (b ∷ on.0) in
        let common : take n s.chain ≡ take n t.chain = take_all n s.chain (omega arith) ∙ sym (ap (take n) new ∙ (take-append-le n s.chain (b ∷ on.0) (omega arith) ∙ take_all n s.chain (omega arith))) in
        let most = change.is_common.longest n (omega arith) (omega arith) common in
        let left = change.left in
        let put = change.put_on in (
          omega arith,
          omega arith,
          λ unfollowed. let none = ap length (alone on.0 on.2 unfollowed) in omega arith,
        )

  -- whatever is answered
  pub arrives_next : ArrivesNext network s b bytes
  arrives_next (Kept back added) t step = put_on t back added step
  arrives_next (Refused TooLarge) t step = let most = forged_length network s.chain waiting slot b genesis ready.valid forged bytes spelled in let large = step.0.applies in omega arith
  arrives_next (Refused Malformed) t step = step.0.applies b spelled
  arrives_next (Refused BodyHashMismatch) t step =
      let c = step.0.applies in
      c.2 (subst (λ (d : Block). d.header.body_hash ≡ body_hash_of d.transactions) (sym (one_block c.0 b bytes c.1 spelled)) body_is)
  arrives_next (Refused TooOld) t step = let c = step.0.applies in not_too_old c.0 c.1 c.2
  arrives_next (Refused Known) t step = let c = step.0.applies in not_known c.0 c.1 c.2
  arrives_next (Refused Clash) t step = tt
  arrives_next (Refused VolatileFull) t step = tt
  arrives_next OutOfMemory t step = tt
  arrives_next reply t step = absurd step
