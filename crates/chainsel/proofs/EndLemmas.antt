-- Where the paths of each length end, from those that are one block shorter.
use Rattle.std.proofs.Common.{◌≡◌, ◌≢◌, ℕ, ◌+◌, ◌<◌, ◌≤◌, List, [], ◌∷◌, ◌++◌, length, take, Contains, refl, sym, ap, subst, ◌∙◌, arith, inl, inr}
use Rattle.std.specs.List.{AllByRecursion}
use Rattle.std.specs.Ordering.{nat_cmp}
use Rattle.std.specs.declared.cmp.Ordering.TheVariants.{Equal, Greater}
use Rattle.std.specs.Cmp.Lexicographic.{slice_cmp}
use Rattle.std.specs.Cmp.{tied_itself}
use Rattle.std.proofs.lemmas.Cmp.{nat_list_cmp_total}
use Rattle.std.proofs.lemmas.Bool.{cases_lt}
use Rattle.std.proofs.lemmas.List.{length-append, length-take-le, nil_from_length}
use Rattle.model.specs.Block.{Block, block_hash_of}
use Rattle.model.specs.Chain.{Tip, tip_at, tip_after, Follows, IsLinked}
use Rattle.model.proofs.Lists.{all_of_member, all_take, all_push, contains_first, contains_cases, nothing_contained}
use Rattle.model.proofs.Chains.{linked_rest, linked_front}
use Rattle.ident.specs.Kinds.{BlockHash}
use Rattle.blockstore.specs.Stored.{Store}
use Rattle.blockstore.specs.Shelves.{HasPast}
use Rattle.chainsel.specs.Paths.{IsFitLive, last_block, Descends, IsBest}
use Rattle.chainsel.specs.Ends.{DescendsBy, AreEnds, IsNext, AreNext, AreFurthest, HasLeastHash}
use Rattle.chainsel.proofs.Lists.{last_cases, all_front, all_rest}
use Rattle.chainsel.proofs.Tips.{tip_of_path, last_of_pushed, number_of_last, linked_push, linked_take}

module _ (store : Store) (invalid : List BlockHash) (new : Block) where
  -- the block itself is where the path ends that has no block
  pub ends_start : AreEnds store invalid new 0 (new ∷ [])
  ends_start b = (
    (λ member. elim (contains_cases new [] b member) [
      | inl is ↦ record { descends = record { path = []; linked = tt; members = tt; last = is }; count = refl }
      | inr nowhere ↦ absurd (nothing_contained b nowhere)
    ]),
    (λ by. let none : by.descends.path ≡ [] = nil_from_length by.descends.path by.count in
        let is : new ≡ b = sym (ap (last_block new) none) ∙ by.descends.last in
        subst (Contains (new ∷ [])) is (contains_first new [])),
  )

  -- a path with one block more
  one_more : (n : ℕ) (ends : List Block) (b : Block) → AreEnds store invalid new n ends → IsNext store invalid ends b → DescendsBy store invalid new (n + 1) b
  one_more n ends b are next =
      let by = (are next.end).0 next.member in
      let path = by.descends.path in
      let tip : tip_after (tip_at new) path ≡ tip_at next.end = tip_of_path new path ∙ ap tip_at by.descends.last in
      record {
        descends = record {
          path = path ++ b ∷ [];
          linked = linked_push (tip_at new) path b by.descends.linked (subst (λ (t : Tip). Follows t b) (sym tip) next.follows);
          members = all_push (IsFitLive store invalid) path b by.descends.members next.live;
          last = last_of_pushed new path b;
        };
        count = length-append path (b ∷ []) ∙ ap (λ m. m + 1) by.count;
      }

  -- a path without its last block
  one_less : (n : ℕ) (ends : List Block) (b : Block) → AreEnds store invalid new n ends → DescendsBy store invalid new (n + 1) b → IsNext store invalid ends b
  one_less n ends b are by =
      let path = by.descends.path in
      elim (last_cases path) [
        | inl none ↦ absurd (let long = by.count in let empty : length path ≡ 0 = ap length none in omega arith)
        | inr some ↦
            let front = some.0 in
            let is : some.1 ≡ b = sym (last_of_pushed new front some.1) ∙ (sym (ap (last_block new) some.2) ∙ by.descends.last) in
            let linked : IsLinked (tip_at new) (front ++ some.1 ∷ []) = subst (IsLinked (tip_at new)) some.2 by.descends.linked in
            let members : AllByRecursion (IsFitLive store invalid) (front ++ some.1 ∷ []) = subst (AllByRecursion (IsFitLive store invalid)) some.2 by.descends.members in
            let last = linked_rest (tip_at new) front (some.1 ∷ []) linked in
            let count : length front ≡ n = let long = by.count in let both = ap length some.2 ∙ length-append front (some.1 ∷ []) in omega arith in
            let live = (all_rest (IsFitLive store invalid) front (some.1 ∷ []) members).0 in
            record {
              live = subst (IsFitLive store invalid) is live;
              end = last_block new front;
              member = (are (last_block new front)).1 (record {
                descends = record {
                  path = front;
                  linked = linked_front (tip_at new) front (some.1 ∷ []) linked;
                  members = all_front (IsFitLive store invalid) front (some.1 ∷ []) members;
                  last = refl;
                };
                count = count;
              });
              follows = subst (Follows (tip_at (last_block new front))) is (subst (λ (t : Tip). Follows t some.1) (tip_of_path new front) last.0);
            }
      ]

  -- what follows the ends of paths is the ends of those with one block more
  pub ends_more : (n : ℕ) (ends next : List Block) → AreEnds store invalid new n ends → AreNext store invalid ends next → AreEnds store invalid new (n + 1) next
  ends_more n ends next are after b = (
    (λ member. one_more n ends b are ((after b).0 member)),
    (λ by. (after b).1 (one_less n ends b are by)),
  )

  -- where no path has `n + 1` blocks, none has as many or more
  none_longer : (n m : ℕ) (b : Block) → AreEnds store invalid new (n + 1) [] → DescendsBy store invalid new m b → m ≤ n
  none_longer n m b none by =
      elim (cases_lt n m) [
        | inl longer ↦
            let path = by.descends.path in
            let count = by.count in
            let front : DescendsBy store invalid new (n + 1) (last_block new (take (n + 1) path)) = record {
              descends = record {
                path = take (n + 1) path;
                linked = linked_take (tip_at new) (n + 1) path by.descends.linked;
                members = all_take (IsFitLive store invalid) (n + 1) path by.descends.members;
                last = refl;
              };
              count = length-take-le (n + 1) path (omega arith);
            } in
            absurd (nothing_contained (last_block new (take (n + 1) path)) ((none (last_block new (take (n + 1) path))).1 front))
        | inr within ↦ within
      ]

  -- nothing follows the ends
  pub ends_furthest : (n : ℕ) (ends : List Block) → AreEnds store invalid new n ends → ends ≢ [] → AreNext store invalid ends [] → AreFurthest store invalid new ends
  ends_furthest n ends are some none = record {
    n = n;
    all = are;
    some = some;
    none_further = λ b m by. none_longer n m b (ends_more n ends [] are none) by;
  }

  -- the number at the end of a path
  pub end_number : (n : ℕ) (b : Block) → DescendsBy store invalid new n b → b.header.number ≡ new.header.number + n
  end_number n b by =
      sym (ap (λ (c : Block). c.header.number) by.descends.last) ∙ (number_of_last new by.descends.path by.descends.linked ∙ ap (λ m. new.header.number + m) by.count)

  -- numbers have a limit, so that paths do
  pub ends_within : (n limit : ℕ) (ends : List Block) → AreEnds store invalid new n ends → ends ≢ [] → AllByRecursion (λ b. b.header.number < limit) ends → 0 < new.header.number → limit ≤ n + 1 → ⊥
  ends_within n limit [] are some all positive far = some refl
  ends_within n limit (b ∷ bs) are some all positive far =
      let number = end_number n b ((are b).0 (contains_first b bs)) in
      let within = all.0 in
      omega arith

  -- of the furthest ends the one with the least hash is the best
  pub least_is_best : (ends : List Block) (best : Block) → AreFurthest store invalid new ends → Contains ends best → HasLeastHash ends best → IsBest store invalid new best
  least_is_best ends best are member least =
      let by = (are.all best).0 member in
      let number = end_number are.n best by in
      record {
        descends = by.descends;
        furthest = λ b descends.
            let other : DescendsBy store invalid new (length descends.path) b = record { descends = descends; count = refl } in
            let a = end_number (length descends.path) b other in
            let within = are.none_further b (length descends.path) other in
            omega arith;
        least = λ b descends same.
            let other : DescendsBy store invalid new (length descends.path) b = record { descends = descends; count = refl } in
            let a = end_number (length descends.path) b other in
            let long : length descends.path ≡ are.n = omega arith in
            all_of_member _ ends b least ((are.all b).1 (record { descends = descends; count = long }));
      }

  -- where nothing goes on from it, the block is the best of what does
  pub alone_is_best : ((path : List Block) → IsLinked (tip_at new) path → AllByRecursion (IsFitLive store invalid) path → path ≡ []) → IsBest store invalid new new
  alone_is_best none = record {
    descends = record { path = []; linked = tt; members = tt; last = refl };
    furthest = λ b is. let same = itself b is in omega (arith, ap (λ (c : Block). c.header.number) same);
    least = λ b is level. let same = itself b is in
        subst (λ (c : Block). slice_cmp nat_cmp (block_hash_of new) (block_hash_of c) ≢ Greater) same (λ greater. let e : Equal ≡ Greater = sym (tied_itself nat_list_cmp_total (block_hash_of new)) ∙ greater in cc);
  }
    where
      itself : (b : Block) → Descends store invalid new b → new ≡ b
      itself b is = ap (λ (path : List Block). last_block new path) (sym (none is.path is.linked is.members)) ∙ is.last

  -- so where no live block has a greater number
  pub newest_is_best : (HasPast new.header.number store.blocks → ⊥) → IsBest store invalid new new
  newest_is_best none = alone_is_best none_after
    where
      none_after : (path : List Block) → IsLinked (tip_at new) path → AllByRecursion (IsFitLive store invalid) path → path ≡ []
      none_after [] linked fit = refl
      none_after (c ∷ cs) linked fit =
          let stored = fit.0.stored in
          let number_of : stored.block.header.number ≡ c.header.number = ap (λ (d : Block). d.header.number) fit.0.block in
          let next = linked.0.number in
          absurd (none (stored, fit.0.member, omega (arith, number_of, next)))
