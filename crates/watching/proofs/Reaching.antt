-- Which instructions an index takes.
use Rattle.std.proofs.Common.{◌≡◌, ℕ, zero, suc, ◌+◌, ◌-◌, ◌≤◌, ◌⊎◌, List, [], ◌∷◌, ◌++◌, length, take, refl, sym, ap, subst, ◌∙◌, arith, inl, inr, length-append}
use Rattle.std.proofs.lemmas.List.{length-take-le}
use Rattle.model.specs.Utxo.{Utxo}
use Rattle.model.specs.Block.{Block}
use Rattle.model.specs.Chain.{Tip, Point, Follows, IsLinked, genesis_tip, tip_after}
use Rattle.model.specs.Follower.{Instruction, Stay, AddBlock, RollBack, IsReplayed, AreReplayed}
use Rattle.model.proofs.Chains.{tip_after-append, tip_number, linked_rest}
use Rattle.watching.specs.Which.{Which}
use Rattle.watching.specs.Chains.{Version, Watched, with_block, first_version, rolled_back, back_by, point_at, IsIndexOf}
use Rattle.watching.specs.Ledgers.{IsTaken}
use Rattle.watching.specs.Due.{NextAreTaken, PointsAreKept, ReachesBack, AreWithin, ReachStays}
use Rattle.watching.proofs.Following.{ends_at, version_tip, blocks_left, taken_front, taken_linked, rolled_to, rolled_since, taken_one, rolled_k}

pub next_taken : NextAreTaken
next_taken granted past since w b of linked =
    let rest = linked_rest genesis_tip (past ++ since) (b ∷ []) linked in
    subst (λ (t : Tip). Follows t b) (sym (ends_at granted past since w of)) rest.0

taken_few : (n : ℕ) (bs : List Block) → length (take n bs) ≤ length bs
taken_few zero bs = omega arith
taken_few (suc n) [] = omega arith
taken_few (suc n) (b ∷ bs) = let rest = taken_few n bs in omega (arith, rest)

pub points_kept : PointsAreKept
points_kept granted past since after w point of replayed within =
    let which = w.which in
    let first = first_version which granted past in
    let chain = past ++ since in
    let linked : IsLinked genesis_tip after = subst (IsLinked genesis_tip) (sym replayed.0) (taken_linked genesis_tip point.number chain of.linked) in
    let counted : (tip_after genesis_tip after).number ≡ 0 + length after = tip_number genesis_tip after linked in
    let named : (tip_after genesis_tip after).number ≡ point.number = ap (λ (p : Point). p.number) replayed.1 in
    let cut : length after ≡ length (take point.number chain) = ap length replayed.0 in
    let few : point.number ≤ length chain = let most = taken_few point.number chain in omega (arith, counted, named, cut, most) in
    let back = length chain - point.number in
    let enough : back ≤ length w.older = omega (arith, within) in
    let left = blocks_left which first since back w.k w.last w.older enough of.last of.versions in
    let n = length since - back in
    let long : back ≤ length since = left.long in
    let whole : length chain ≡ length past + length since = length-append past since in
    let same : length past + n ≡ point.number = omega (arith, few, long, whole) in
    let front : past ++ take n since ≡ after = sym (taken_front past since n) ∙ ap (λ (m : ℕ). take m chain) same ∙ sym replayed.0 in
    let tip : (rolled_back back w.k which w.last w.older).last.tip ≡ tip_after genesis_tip after =
    ap (λ (v : Version). v.tip) left.last ∙ version_tip which first (take n since) ∙ sym (tip_after-append genesis_tip past (take n since)) ∙ ap (tip_after genesis_tip) front in
    record { back = back; within = enough; ends = ap point_at tip ∙ replayed.1 }

-- ---- how far back it reaches

-- as many as are taken, or all
taken_or : {X : Type 0} (k : ℕ) (xs : List X) → (length (take k xs) ≡ k) ⊎ (length (take k xs) ≡ length xs)
taken_or zero xs = inl refl
taken_or (suc k) [] = inr refl
taken_or (suc k) (x ∷ xs) = elim (taken_or k xs) [ inl are ↦ inl (ap suc are) | inr are ↦ inr (ap suc are) ]

left_older : (back k : ℕ) (which : Which) (v : Version) (vs : List Version) → back ≤ length vs → length (rolled_back back k which v vs).older + back ≡ length vs
left_older zero k which v vs within = omega arith
left_older (suc back) k which v [] within = absurd (omega (arith, within))
left_older (suc back) k which v (x ∷ vs) within = let rest = left_older back k which x vs (omega (arith, within)) in omega (arith, rest)

reach_with : (furthest begun height next : ℕ) (w new : Watched) (b : Block) → new ≡ with_block w b → next ≡ height + 1 → next ≤ furthest → ReachesBack furthest begun height w → ReachesBack furthest begun next new
reach_with furthest begun height next w new b is more few reach =
    subst (ReachesBack furthest begun next) (sym is)
    (elim (taken_or w.k (w.last ∷ w.older)) [
      | inl all ↦ inr (omega (arith, all, few))
      | inr all ↦ elim reach [ inl near ↦ inl (omega (arith, all, more, near)) | inr far ↦ inr (omega (arith, all, more, far)) ]
    ])

reach_back : (furthest begun height next back : ℕ) (w new : Watched) → new ≡ back_by back w → back ≤ length w.older → next + back ≡ height → ReachesBack furthest begun height w → ReachesBack furthest begun next new
reach_back furthest begun height next back w new is within less reach =
    let older = left_older back w.k w.which w.last w.older within in
    let k = rolled_k back w.k w.which w.last w.older in
    subst (ReachesBack furthest begun next) (sym is)
    (elim reach [
      | inl near ↦ inl (omega (arith, older, less, near))
      | inr far ↦ inr (omega (arith, older, k, less, far))
    ])

-- one instruction
reach_one : (furthest : ℕ) (granted : Utxo) (past since next : List Block) (i : Instruction) (old new : Watched) → IsIndexOf granted past since old → IsTaken old i new → IsReplayed (past ++ since) i next → length next ≤ furthest
    → ReachesBack furthest (length past) (length (past ++ since)) old → ReachesBack furthest (length past) (length next) new
reach_one furthest granted past since next Stay old new of taken replayed few reach =
    subst (λ (c : List Block). ReachesBack furthest (length past) (length c) new) (sym replayed) (subst (ReachesBack furthest (length past) (length (past ++ since))) (sym taken) reach)
reach_one furthest granted past since next (AddBlock bytes) old new of taken replayed few reach =
    let long : length next ≡ length (past ++ since) + 1 = let are = ap length replayed.2 in omega (arith, are, length-append (past ++ since) (replayed.0 ∷ [])) in
    reach_with furthest (length past) (length (past ++ since)) (length next) old new taken.0 taken.3 long few reach
reach_one furthest granted past since next (RollBack point) old new of taken replayed few reach =
    let left = blocks_left old.which (first_version old.which granted past) since taken.back old.k old.last old.older taken.within of.last of.versions in
    let to = rolled_to granted past since old new point taken of in
    let is : next ≡ past ++ to.since = replayed.0 ∙ to.goes_on in
    let whole : length (past ++ since) ≡ length past + length since = length-append past since in
    let front : length (past ++ to.since) ≡ length past + length to.since = length-append past to.since in
    let cut : length to.since ≡ length since - taken.back =
    ap (λ (c : List Block). length c) (rolled_since granted past since old new point taken of) ∙ length-take-le (length since - taken.back) since (omega arith) in
    let back : taken.back ≤ length since = left.long in
    let long = ap length is in
    reach_back furthest (length past) (length (past ++ since)) (length next) taken.back old new taken.is taken.within (omega (arith, whole, front, cut, back, long)) reach

first_few : (furthest : ℕ) (chain : List Block) (is : List Instruction) → AreWithin furthest chain is → length chain ≤ furthest
first_few furthest chain [] few = few
first_few furthest chain (i ∷ is) few = few.0

pub reach_stays : ReachStays
reach_stays furthest granted past since told [] old new of taken replayed few reach =
    subst (λ (c : List Block). ReachesBack furthest (length past) (length c) new) (sym replayed) (subst (ReachesBack furthest (length past) (length (past ++ since))) (sym taken) reach)
reach_stays furthest granted past since told (i ∷ is) old new of taken replayed few reach =
    let next = replayed.0 in
    let within : AreWithin furthest next is = few.1 next replayed.1 in
    let to = taken_one granted past since next i old taken.0 of taken.1 replayed.1 in
    let one = reach_one furthest granted past since next i old taken.0 of taken.1 replayed.1 (first_few furthest next is within) reach in
    let here : ReachesBack furthest (length past) (length (past ++ to.since)) taken.0 = subst (λ (c : List Block). ReachesBack furthest (length past) (length c) taken.0) to.goes_on one in
    reach_stays furthest granted past to.since told is taken.0 new to.index taken.2
    (subst (λ (c : List Block). AreReplayed c is told) to.goes_on replayed.2) (subst (λ (c : List Block). AreWithin furthest c is) to.goes_on within) here
