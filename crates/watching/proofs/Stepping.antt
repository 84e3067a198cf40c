-- The versions before blocks, by what each changed.
use Rattle.std.proofs.Common.{◌≡◌, ℕ, zero, suc, ◌+◌, ◌-◌, ◌<◌, ◌≤◌, List, [], ◌∷◌, ◌++◌, length, take, drop, refl, sym, ap, subst, ◌∙◌, arith, inl, inr, append_assoc, length-append}
use Rattle.std.proofs.lemmas.List.{take_all}
use Rattle.std.proofs.lemmas.Bool.{cases_lt}
use Rattle.model.specs.Block.{Block}
use Rattle.model.specs.Chain.{Tip, Point, tip_at}
use Rattle.watching.specs.Which.{Which, AreWatched}
use Rattle.watching.specs.View.{AreAllWatched}
use Rattle.watching.specs.Chains.{Tables, tables_after_all, Version, Watched, with_block, rolled_back, back_by, point_at, CanRollBack, IsRolledBack}
use Rattle.watching.specs.Changes.{Change, Difference, all_put_back, before_blocks, versions_before, tip_back}

pub versions_length : (u : Tables) (ss : List Difference) → length (versions_before u ss) ≡ length ss
versions_length u [] = refl
versions_length u (s ∷ ss) = ap suc (versions_length (all_put_back s.changes u) ss)

versions_take : (n : ℕ) (u : Tables) (ss : List Difference) → take n (versions_before u ss) ≡ versions_before u (take n ss)
versions_take zero u ss = refl
versions_take (suc n) u [] = refl
versions_take (suc n) u (s ∷ ss) =
    ap (λ (vs : List Version). record { tip = s.tip; tables = all_put_back s.changes u } ∷ vs) (versions_take n (all_put_back s.changes u) ss)

-- ---- one more block

-- of the steps with one more, at most k are left
pub kept_steps : (k : ℕ) (old new : Tables) (s : Difference) (ss left : List Difference) → all_put_back s.changes new ≡ old → left ≡ take k (s ∷ ss)
    → versions_before new left ≡ take k (record { tip = s.tip; tables = old } ∷ versions_before old ss)
kept_steps k old new s ss left back is =
    ap (versions_before new) is ∙ sym (versions_take k new (s ∷ ss))
    ∙ ap (λ (u : Tables). take k (record { tip = s.tip; tables = u } ∷ versions_before u ss)) back

-- all of them, where they are no more than k
pub all_kept : (k : ℕ) (s : Difference) (ss left : List Difference) → left ≡ s ∷ ss → length left ≤ k → left ≡ take k (s ∷ ss)
all_kept k s ss left is few = is ∙ sym (take_all k (s ∷ ss) (let long = ap length is in omega (arith, few, long)))

-- and all but the oldest, where they are one more
pub oldest_dropped : (k : ℕ) (s : Difference) (ss pushed left : List Difference) → pushed ≡ s ∷ ss → left ≡ take (length pushed - 1) pushed → length ss ≤ k → k < length pushed → left ≡ take k (s ∷ ss)
oldest_dropped k s ss pushed left is dropped few many =
    let one : length pushed ≡ suc (length ss) = ap length is in
    let all : length pushed - 1 ≡ k = omega (arith, one, few, many) in
    dropped ∙ ap (λ (n : ℕ). take n pushed) all ∙ ap (take k) is

pub kept_few : (k : ℕ) (s : Difference) (ss left : List Difference) → left ≡ take k (s ∷ ss) → length left ≤ k
kept_few k s ss left is = let long = ap length is in omega (arith, long, taken k (s ∷ ss))
  where
    taken : (n : ℕ) (xs : List Difference) → length (take n xs) ≤ n
    taken zero xs = omega arith
    taken (suc n) [] = omega arith
    taken (suc n) (x ∷ xs) = let rest = taken n xs in omega (arith, rest)

-- ---- back over blocks

steps_append : (xs ys : List Difference) (u : Tables) → before_blocks (xs ++ ys) u ≡ before_blocks ys (before_blocks xs u)
steps_append [] ys u = refl
steps_append (x ∷ xs) ys u = steps_append xs ys (all_put_back x.changes u)

-- these were undone, and those are left
pub record IsPartBack (all left : List Difference) (old now : Tables) (count : ℕ) : Type 0 where
  pub undone : List Difference
  pub parts : undone ++ left ≡ all
  pub counted : length undone ≡ count
  pub state : now ≡ before_blocks undone old

pub none_undone : (all left : List Difference) (old : Tables) → left ≡ all → IsPartBack all left old old 0
none_undone all left old is = record { undone = []; parts = is; counted = refl; state = refl }

pub one_undone : (all left rest : List Difference) (s : Difference) (old now new : Tables) (count : ℕ) → left ≡ s ∷ rest → new ≡ all_put_back s.changes now → IsPartBack all left old now count → IsPartBack all rest old new (count + 1)
one_undone all left rest s old now new count is back part = record {
  undone = part.undone ++ s ∷ [];
  parts = append_assoc part.undone (s ∷ []) rest ∙ ap (λ (ss : List Difference). part.undone ++ ss) (sym is) ∙ part.parts;
  counted = let n = part.counted in omega (arith, n, length-append part.undone (s ∷ []));
  state = back ∙ ap (all_put_back s.changes) part.state ∙ sym (steps_append part.undone (s ∷ []) old);
}

-- nothing is left only where all are undone
pub not_yet : (all left : List Difference) (old now : Tables) (count back : ℕ) → IsPartBack all left old now count → back ≤ length all → count < back → left ≡ [] → ⊥
not_yet all left old now count back part within lt none =
    let whole : length (part.undone ++ left) ≡ length all = ap length part.parts in
    let long : length left ≡ 0 = ap length none in
    let n = part.counted in
    omega (arith, whole, long, n, within, lt, length-append part.undone left)

taken_first : (xs ys : List Difference) → take (length xs) (xs ++ ys) ≡ xs
taken_first [] ys = refl
taken_first (x ∷ xs) ys = ap (λ (zs : List Difference). x ∷ zs) (taken_first xs ys)

pub all_undone : (all left : List Difference) (old now : Tables) (count back : ℕ) → count ≤ back → back ≤ count → IsPartBack all left old now count → now ≡ before_blocks (take back all) old
all_undone all left old now count back few done part =
    let n = part.counted in
    let at : length part.undone ≡ back = omega (arith, n, few, done) in
    part.state ∙ ap (λ (ss : List Difference). before_blocks ss old)
    (sym (taken_first part.undone left) ∙ ap (λ (ss : List Difference). take (length part.undone) ss) part.parts ∙ ap (λ (m : ℕ). take m all) at)

pub rolled : (back k : ℕ) (which : Which) (tip : Tip) (u : Tables) (ss : List Difference) → back ≤ length ss
    → rolled_back back k which (record { tip = tip; tables = u }) (versions_before u ss)
    ≡ record { k = k; which = which; last = record { tip = tip_back back tip ss; tables = before_blocks (take back ss) u }; older = versions_before (before_blocks (take back ss) u) (drop back ss) }
rolled zero k which tip u ss within = refl
rolled (suc back) k which tip u [] within = absurd (omega (arith, within))
rolled (suc back) k which tip u (s ∷ ss) within = rolled back k which s.tip (all_put_back s.changes u) ss (omega (arith, within))

-- ---- a block more, and blocks less

pub newest_watched : (which : Which) (u : Tables) (ss : List Difference) → AreAllWatched which u ss → AreWatched which u.outputs
newest_watched which u [] are = are
newest_watched which u (s ∷ ss) are = are.0

few_watched : (which : Which) (n : ℕ) (u : Tables) (ss : List Difference) → AreAllWatched which u ss → AreAllWatched which u (take n ss)
few_watched which zero u ss are = newest_watched which u ss are
few_watched which (suc n) u [] are = are
few_watched which (suc n) u (s ∷ ss) are = (are.0, few_watched which n (all_put_back s.changes u) ss are.1)

-- no version has an output that isn't watched: with a block more
pub more_watched : (which : Which) (k : ℕ) (old new : Tables) (s : Difference) (ss left : List Difference) → all_put_back s.changes new ≡ old → left ≡ take k (s ∷ ss)
    → AreWatched which new.outputs → AreAllWatched which old ss → AreAllWatched which new left
more_watched which k old new s ss left back is now before =
    let all : AreAllWatched which new (s ∷ ss) = (now, subst (λ (u : Tables). AreAllWatched which u ss) (sym back) before) in
    subst (AreAllWatched which new) (sym is) (few_watched which k new (s ∷ ss) all)

older_watched : (which : Which) (back : ℕ) (u : Tables) (ss : List Difference) → AreAllWatched which u ss → AreAllWatched which (before_blocks (take back ss) u) (drop back ss)
older_watched which zero u ss are = are
older_watched which (suc back) u [] are = are
older_watched which (suc back) u (s ∷ ss) are = older_watched which back (all_put_back s.changes u) ss are.1

-- and with blocks less
pub less_watched : (which : Which) (back : ℕ) (u new : Tables) (ss left : List Difference) → new ≡ before_blocks (take back ss) u → left ≡ drop back ss → AreAllWatched which u ss → AreAllWatched which new left
less_watched which back u new ss left is dropped are =
    subst (λ (v : Tables). AreAllWatched which v left) (sym is) (subst (AreAllWatched which (before_blocks (take back ss) u)) (sym dropped) (older_watched which back u ss are))

pub block_on : (k : ℕ) (which : Which) (tip at : Tip) (old new : Tables) (changes : List Change) (ss left : List Difference) (b : Block) (w : Watched)
    → record { k = k; which = which; last = record { tip = tip; tables = old }; older = versions_before old ss } ≡ w → at ≡ tip_at b → new ≡ tables_after_all which b.header 0 old b.transactions → all_put_back changes new ≡ old
    → left ≡ take k (record { tip = tip; changes = changes } ∷ ss) → record { k = k; which = which; last = record { tip = at; tables = new }; older = versions_before new left } ≡ with_block w b
block_on k which tip at old new changes ss left b w view ends are back is =
    let before = kept_steps k old new (record { tip = tip; changes = changes }) ss left back is in
    let was : Watched = record { k = k; which = which; last = record { tip = tip; tables = old }; older = versions_before old ss } in
    let whole : record { k = k; which = which; last = record { tip = at; tables = new }; older = versions_before new left } ≡ with_block was b =
    λ i. record { k = k; which = which; last = record { tip = ends i; tables = are i }; older = before i } in
    whole ∙ ap (λ (v : Watched). with_block v b) view

within_versions : (back k : ℕ) (which : Which) (tip : Tip) (u : Tables) (ss : List Difference) (w : Watched) → record { k = k; which = which; last = record { tip = tip; tables = u }; older = versions_before u ss } ≡ w → length w.older ≡ length ss
within_versions back k which tip u ss w view = sym (ap (λ (v : Watched). length v.older) view) ∙ versions_length u ss

rolled_tip : (back k : ℕ) (which : Which) (tip : Tip) (u : Tables) (ss : List Difference) (w : Watched) → record { k = k; which = which; last = record { tip = tip; tables = u }; older = versions_before u ss } ≡ w → back ≤ length ss
    → (back_by back w).last.tip ≡ tip_back back tip ss
rolled_tip back k which tip u ss w view within =
    sym (ap (λ (v : Watched). (back_by back v).last.tip) view) ∙ ap (λ (v : Watched). v.last.tip) (rolled back k which tip u ss within)

-- the point is that of a version
pub kept_there : (back k : ℕ) (which : Which) (tip to : Tip) (u : Tables) (ss : List Difference) (point : Point) (w : Watched) → record { k = k; which = which; last = record { tip = tip; tables = u }; older = versions_before u ss } ≡ w
    → back ≤ length ss → to ≡ tip_back back tip ss → point_at to ≡ point → CanRollBack w point
kept_there back k which tip to u ss point w view within is ends = record {
  back = back;
  within = (let many = within_versions back k which tip u ss w view in omega (arith, many, within));
  ends = ap point_at (rolled_tip back k which tip u ss w view within ∙ sym is) ∙ ends;
}

-- or of none
pub kept_nowhere : (k : ℕ) (which : Which) (tip : Tip) (u : Tables) (ss : List Difference) (point : Point) (w : Watched) → record { k = k; which = which; last = record { tip = tip; tables = u }; older = versions_before u ss } ≡ w
    → ((back : ℕ) → back ≤ length ss → point_at (tip_back back tip ss) ≡ point → ⊥) → CanRollBack w point → ⊥
kept_nowhere k which tip u ss point w view none tables =
    let within : tables.back ≤ length ss = let many = within_versions tables.back k which tip u ss w view in let few = tables.within in omega (arith, many, few) in
    none tables.back within (ap point_at (sym (rolled_tip tables.back k which tip u ss w view within)) ∙ tables.ends)

pub rolled_there : (back k : ℕ) (which : Which) (tip to : Tip) (u new : Tables) (ss left : List Difference) (point : Point) (w : Watched) → record { k = k; which = which; last = record { tip = tip; tables = u }; older = versions_before u ss } ≡ w
    → back ≤ length ss → to ≡ tip_back back tip ss → new ≡ before_blocks (take back ss) u → left ≡ drop back ss → point_at to ≡ point
    → IsRolledBack w point (record { k = k; which = which; last = record { tip = to; tables = new }; older = versions_before new left })
rolled_there back k which tip to u new ss left point w view within is are dropped ends =
    let few : back ≤ length w.older = let many = within_versions back k which tip u ss w view in omega (arith, many, within) in
    let before : versions_before new left ≡ versions_before (before_blocks (take back ss) u) (drop back ss) = λ i. versions_before (are i) (dropped i) in
    let one : Watched = record { k = k; which = which; last = record { tip = to; tables = new }; older = versions_before new left } in
    let other : Watched = record { k = k; which = which; last = record { tip = tip_back back tip ss; tables = before_blocks (take back ss) u }; older = versions_before (before_blocks (take back ss) u) (drop back ss) } in
    let whole : one ≡ other = λ i. record { k = k; which = which; last = record { tip = is i; tables = are i }; older = before i } in
    record { back = back; within = few; is = whole ∙ sym (rolled back k which tip u ss within) ∙ ap (back_by back) view; ends = ends }

-- ---- the step whose chain ended at a point

-- these were looked at, and neither the chain nor that before one of them ends as it is looked for
pub record IsPartSearched (Ends : Tip → Type 0) (tip : Tip) (all left : List Difference) (count : ℕ) : Type 0 where
  pub seen : List Difference
  pub parts : seen ++ left ≡ all
  pub counted : length seen ≡ count
  pub none : (back : ℕ) → back ≤ count → Ends (tip_back back tip all) → ⊥

tip_there : (seen left : List Difference) (s : Difference) (tip : Tip) → tip_back (suc (length seen)) tip (seen ++ s ∷ left) ≡ s.tip
tip_there [] left s tip = refl
tip_there (x ∷ seen) left s tip = tip_there seen left s x.tip

module _ (Ends : Tip → Type 0) (tip : Tip) (all : List Difference) where
  pub none_searched : (left : List Difference) → left ≡ all → (Ends tip → ⊥) → IsPartSearched Ends tip all left 0
  none_searched left is not = record { seen = []; parts = is; counted = refl; none = at_first }
    where
      at_first : (back : ℕ) → back ≤ 0 → Ends (tip_back back tip all) → ⊥
      at_first zero few ends = not ends
      at_first (suc back) few ends = absurd (omega (arith, few))

  here : (left rest : List Difference) (s : Difference) (count : ℕ) → left ≡ s ∷ rest → (part : IsPartSearched Ends tip all left count) → tip_back (count + 1) tip all ≡ s.tip
  here left rest s count is part =
      let whole : part.seen ++ s ∷ rest ≡ all = ap (λ (ss : List Difference). part.seen ++ ss) (sym is) ∙ part.parts in
      let many : count + 1 ≡ suc (length part.seen) = let n = part.counted in omega (arith, n) in
      ap (λ (ss : List Difference). tip_back (count + 1) tip ss) (sym whole) ∙ ap (λ (n : ℕ). tip_back n tip (part.seen ++ s ∷ rest)) many ∙ tip_there part.seen rest s tip

  pub one_searched : (left rest : List Difference) (s : Difference) (count : ℕ) → left ≡ s ∷ rest → (Ends s.tip → ⊥) → IsPartSearched Ends tip all left count → IsPartSearched Ends tip all rest (count + 1)
  one_searched left rest s count is not part =
      let at = here left rest s count is part in
      record {
        seen = part.seen ++ s ∷ [];
        parts = append_assoc part.seen (s ∷ []) rest ∙ ap (λ (ss : List Difference). part.seen ++ ss) (sym is) ∙ part.parts;
        counted = (let n = part.counted in omega (arith, n, length-append part.seen (s ∷ [])));
        none = λ back few ends. elim (cases_lt count back) [
          | inl more ↦ not (subst Ends (ap (λ (n : ℕ). tip_back n tip all) (omega (arith, few, more)) ∙ at) ends)
          | inr within ↦ part.none back within ends
        ];
      }

  pub found_within : (left rest : List Difference) (s : Difference) (count : ℕ) → left ≡ s ∷ rest → IsPartSearched Ends tip all left count → count + 1 ≤ length all
  found_within left rest s count is part =
      let whole : length (part.seen ++ left) ≡ length all = ap length part.parts in
      let long : length left ≡ suc (length rest) = ap length is in
      let n = part.counted in
      omega (arith, whole, long, n, length-append part.seen left)

  pub found_tip : (left rest : List Difference) (s : Difference) (count : ℕ) → left ≡ s ∷ rest → IsPartSearched Ends tip all left count → s.tip ≡ tip_back (count + 1) tip all
  found_tip left rest s count is part = sym (here left rest s count is part)

  pub more_to_search : (left : List Difference) (count : ℕ) → IsPartSearched Ends tip all left count → count < length all → left ≡ [] → ⊥
  more_to_search left count part lt none =
      let whole : length (part.seen ++ left) ≡ length all = ap length part.parts in
      let long : length left ≡ 0 = ap length none in
      let n = part.counted in
      omega (arith, whole, long, n, lt, length-append part.seen left)

  pub all_searched : (left : List Difference) (count : ℕ) → length all ≤ count → IsPartSearched Ends tip all left count → (back : ℕ) → back ≤ length all → Ends (tip_back back tip all) → ⊥
  all_searched left count done part back within ends = part.none back (omega (arith, done, within)) ends
