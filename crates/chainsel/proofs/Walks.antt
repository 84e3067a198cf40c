-- The way back from a block to the selected chain, a block at a time.
use Rattle.std.proofs.Common.{◌≡◌, ◌≢◌, ◌⊎◌, ℕ, suc, ◌+◌, ◌<◌, ◌≤◌, List, [], ◌∷◌, ◌++◌, length, take, Some, refl, sym, ap, subst, ◌∙◌, arith, inl, inr, append_assoc}
use Rattle.std.specs.Prelude.{slice_get}
use Rattle.std.specs.List.{AllByRecursion}
use Rattle.std.proofs.lemmas.List.{length-take}
use Rattle.std.proofs.lemmas.Option.{slice_get_within}
use Rattle.model.specs.Block.{Block}
use Rattle.model.specs.Chain.{Tip, genesis_tip, tip_at, tip_after, Follows, IsLinked, HaveDistinctHashes}
use Rattle.model.proofs.Chains.{linked_rest, linked_front, tip_number}
use Rattle.ident.specs.Kinds.{BlockHash}
use Rattle.blockstore.specs.Stored.{Store, blocks_of}
use Rattle.chainsel.specs.Paths.{IsOnPath, IsWay}
use Rattle.chainsel.proofs.Lists.{last_cases, before_last}
use Rattle.chainsel.proofs.Tips.{tip_of_place, tip_of_pushed, linked_take}
use Rattle.chainsel.proofs.Parents.{one_before}

-- the paths to an end that the search is for
pub record IsPath (store : Store) (invalid : List BlockHash) (chain : List Block) (immutable : ℕ) (new end : Block) (steps : List Block) : Type 0 where
  pub distinct : HaveDistinctHashes (new ∷ blocks_of store)
  pub chain_linked : IsLinked genesis_tip chain
  pub within : immutable ≤ length chain
  pub members : AllByRecursion (IsOnPath store invalid new) steps
  pub linked : IsLinked (tip_after genesis_tip (take immutable chain)) (steps ++ end ∷ [])

-- the way back from the end as far as this block, with those that come after it
pub record IsWalk (store : Store) (invalid : List BlockHash) (chain : List Block) (immutable : ℕ) (new end first : Block) (rest : List Block) : Type 0 where
  pub before : List Block
  pub ends : first ∷ rest ≡ before ++ end ∷ []
  pub members : AllByRecursion (IsOnPath store invalid new) before
  pub linked : IsLinked (tip_at first) rest
  pub only : (steps : List Block) → IsPath store invalid chain immutable new end steps → (front : List Block) × (steps ++ end ∷ [] ≡ front ++ first ∷ rest)
  pub apart : length chain < end.header.number → (place : ℕ) → place + 1 ≡ first.header.number → slice_get chain place ≢ Some first

module _ (store : Store) (invalid : List BlockHash) (chain : List Block) (immutable : ℕ) (new end : Block) where
  -- the end itself
  pub walk_start : IsWalk store invalid chain immutable new end end []
  walk_start = record {
    before = [];
    ends = refl;
    members = tt;
    linked = tt;
    only = λ steps path. (steps, refl);
    apart = λ past place is at. let within = slice_get_within chain place end at in omega arith;
  }

  -- where the immutable part ends
  tip_of_immutable : (steps : List Block) → IsPath store invalid chain immutable new end steps → (tip_after genesis_tip (take immutable chain)).number ≡ immutable
  tip_of_immutable steps path =
      let within = path.within in
      let number = tip_number genesis_tip (take immutable chain) (linked_take genesis_tip immutable chain path.chain_linked) in
      omega (arith, length-take immutable chain)

  -- of a path, what goes before a block: nothing, so that it follows the immutable part, or a step
  pub goes_before : (first : Block) (rest steps : List Block) → IsPath store invalid chain immutable new end steps → (front : List Block) → steps ++ end ∷ [] ≡ front ++ first ∷ rest
      → ((first.header.number ≡ immutable + 1) × Follows (tip_after genesis_tip (take immutable chain)) first) ⊎ ((more : List Block) × (b : Block) × (front ≡ more ++ b ∷ []) × IsOnPath store invalid new b × Follows (tip_at b) first)
  goes_before first rest steps path front is =
      let tip : Tip = tip_after genesis_tip (take immutable chain) in
      let linked : IsLinked tip (front ++ first ∷ rest) = subst (IsLinked tip) is path.linked in
      elim (last_cases front) [
        | inl none ↦
            let begun : IsLinked tip (first ∷ rest) = subst (λ (bs : List Block). IsLinked tip (bs ++ first ∷ rest)) none linked in
            inl (begun.0.number ∙ ap (λ n. n + 1) (tip_of_immutable steps path), begun.0)
        | inr some ↦
            let parts : (some.0 ++ some.1 ∷ []) ++ first ∷ rest ≡ some.0 ++ some.1 ∷ first ∷ rest = append_assoc some.0 (some.1 ∷ []) (first ∷ rest) in
            let split : front ++ first ∷ rest ≡ some.0 ++ some.1 ∷ first ∷ rest = ap (λ bs. bs ++ first ∷ rest) some.2 ∙ parts in
            let step : IsOnPath store invalid new some.1 = before_last (IsOnPath store invalid new) steps some.0 rest end some.1 first path.members (is ∙ split) in
            let on : IsLinked (tip_after tip (some.0 ++ some.1 ∷ [])) (first ∷ rest) = linked_rest tip (some.0 ++ some.1 ∷ []) (first ∷ rest) (subst (λ (bs : List Block). IsLinked tip (bs ++ first ∷ rest)) some.2 linked) in
            inr (some.0, some.1, some.2, step, subst (λ (t : Tip). Follows t first) (tip_of_pushed tip some.0 some.1) on.0)
      ]

  -- where a block doesn't follow the first blocks of the chain, nor a step, no path to the end goes through it
  pub no_way_further : (first : Block) (rest : List Block) (keep : ℕ) → IsWalk store invalid chain immutable new end first rest → keep + 1 ≡ first.header.number
      → (keep ≤ length chain → Follows (tip_after genesis_tip (take keep chain)) first → ⊥)
      → (HaveDistinctHashes (new ∷ blocks_of store) → (b : Block) → IsOnPath store invalid new b → Follows (tip_at b) first → ⊥)
      → (steps : List Block) → IsPath store invalid chain immutable new end steps → ⊥
  no_way_further first rest keep walk number refused none steps path =
      let through = walk.only steps path in
      elim (goes_before first rest steps path through.0 through.1) [
        | inl begins ↦
            let here : immutable ≡ keep = let n = begins.0 in omega arith in
            let within : keep ≤ length chain = let w = path.within in omega arith in
            refused within (subst (λ (n : ℕ). Follows (tip_after genesis_tip (take n chain)) first) here begins.1)
        | inr some ↦ none path.distinct some.1 some.3 some.4
      ]

  -- no path to the end goes through a block of the immutable part
  pub no_way_lower : (first : Block) (rest : List Block) → IsWalk store invalid chain immutable new end first rest → first.header.number ≤ immutable
      → (steps : List Block) → IsPath store invalid chain immutable new end steps → ⊥
  no_way_lower first rest walk low steps path =
      let through = walk.only steps path in
      let tip : Tip = tip_after genesis_tip (take immutable chain) in
      let linked : IsLinked tip (through.0 ++ first ∷ rest) = subst (IsLinked tip) through.1 path.linked in
      let at : IsLinked (tip_after tip through.0) (first ∷ rest) = linked_rest tip through.0 (first ∷ rest) linked in
      let a = at.0.number in
      let b = tip_number tip through.0 (linked_front tip through.0 (first ∷ rest) linked) in
      let c = tip_of_immutable steps path in
      omega arith

  -- one step back
  pub walk_step : (first found : Block) (rest : List Block) (keep : ℕ) → IsWalk store invalid chain immutable new end first rest → keep + 1 ≡ first.header.number
      → (keep ≤ length chain → Follows (tip_after genesis_tip (take keep chain)) first → ⊥)
      → IsOnPath store invalid new found → Follows (tip_at found) first → IsWalk store invalid chain immutable new end found (first ∷ rest)
  walk_step first found rest keep walk number refused step follows = record {
    before = found ∷ walk.before;
    ends = ap (λ bs. found ∷ bs) walk.ends;
    members = (step, walk.members);
    linked = (follows, walk.linked);
    only = λ steps path.
        let through = walk.only steps path in
        elim (goes_before first rest steps path through.0 through.1) [
          | inl begins ↦
              let here : immutable ≡ keep = let n = begins.0 in omega arith in
              let within : keep ≤ length chain = let w = path.within in omega arith in
              absurd (refused within (subst (λ (n : ℕ). Follows (tip_after genesis_tip (take n chain)) first) here begins.1))
          | inr some ↦
              let one : some.1 ≡ found = one_before store invalid new some.1 found first path.distinct some.3 step some.4 follows in
              (some.0, through.1 ∙ (ap (λ bs. bs ++ first ∷ rest) some.2 ∙ (append_assoc some.0 (some.1 ∷ []) (first ∷ rest) ∙ ap (λ b. some.0 ++ b ∷ first ∷ rest) one)))
        ];
    apart = λ past place is at.
        let next = follows.number in
        let within : place < length chain = slice_get_within chain place found at in
        let here : suc place ≡ keep = omega arith in
        let reached : tip_after genesis_tip (take keep chain) ≡ tip_at found = ap (λ n. tip_after genesis_tip (take n chain)) (sym here) ∙ tip_of_place genesis_tip chain place found at in
        refused (omega arith) (subst (λ (t : Tip). Follows t first) (sym reached) follows);
  }

  -- the way, where the first block follows the first blocks of the chain
  pub way_found : (first : Block) (rest : List Block) (keep : ℕ) → IsWalk store invalid chain immutable new end first rest → keep + 1 ≡ first.header.number → immutable ≤ keep → keep ≤ length chain
      → Follows (tip_after genesis_tip (take keep chain)) first → IsWay store invalid chain immutable new end keep (first ∷ rest)
  way_found first rest keep walk number low high follows = record {
    low = low;
    high = high;
    linked = (follows, walk.linked);
    before = walk.before;
    ends = walk.ends;
    members = walk.members;
    apart = λ past b is at. walk.apart past keep number (at ∙ sym is);
  }
