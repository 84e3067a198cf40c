-- What the counts of a change say.
use Rattle.std.proofs.Common.{◌≡◌, ◌≢◌, ℕ, zero, suc, ◌-◌, ◌<◌, ◌≤◌, List, [], ◌∷◌, ◌++◌, length, take, Some, None, sym, ap, ◌∙◌, arith, le_antisymm, inl, inr, ◌⊎◌}
use Rattle.std.specs.Prelude.{slice_get}
use Rattle.model.specs.Block.{Block}
use Rattle.model.specs.Ledger.{Network}
use Rattle.model.specs.Chain.{IsSelection, immutable_length}
use Rattle.model.specs.History.{State, Event, Arrive, Kept, Step, IsCommonLength, IsChange}
use Rattle.model.proofs.Chains.{length_immutable}
use Rattle.model.proofs.Selections.{selection_begins, selection_not_shorter, selection_longer}

-- what there is at n goes behind the first n
pub taken_with : (xs : List Block) (n : ℕ) (x : Block) → slice_get xs n ≡ Some x → (n < length xs) × (take (suc n) xs ≡ take n xs ++ x ∷ [])
taken_with [] n x is = absurd (let e : None ≡ Some x = is in cc)
taken_with (y ∷ ys) zero x is = let e : Some y ≡ Some x = is in (omega arith, let same : y ≡ x = cc in λ i. same i ∷ [])
taken_with (y ∷ ys) (suc n) x is = let more = taken_with ys n x is in (omega (arith, more.0), ap (λ zs. y ∷ zs) more.1)

-- the two chains share what is not left, and what is not put on
pub change_shares : (old new : List Block) (back added : ℕ) → IsChange old new back added
    → (back ≤ length old) × (added ≤ length new) × (take (length old - back) old ≡ take (length new - added) new)
change_shares old new back added change =
    let n = change.common in
    let first : length old - back ≡ n = let is = change.left in omega arith in
    let second : length new - added ≡ n = let is = change.put_on in omega arith in (
      let is = change.left in omega arith,
      let is = change.put_on in omega arith,
      ap (λ m. take m old) first ∙ (change.is_common.common ∙ ap (λ m. take m new) (sym second)),
    )

no_more_at : (old new : List Block) (n : ℕ) (b c : Block) → IsCommonLength old new n → slice_get old n ≡ Some b → slice_get new n ≡ Some c → b ≢ c
no_more_at old new n b c common at_old at_new same =
    let first = taken_with old n b at_old in
    let second = taken_with new n c at_new in
    let longer : take (suc n) old ≡ take (suc n) new = first.1 ∙ ((λ i. common.common i ++ same i ∷ []) ∙ sym second.1) in
    let le : suc n ≤ n = common.longest (suc n) (let a = first.0 in omega arith) (let a = second.0 in omega arith) longer in
    omega arith

-- and no more: the blocks behind it differ
pub change_no_more : (old new : List Block) (back added : ℕ) (b c : Block) → IsChange old new back added
    → slice_get old (length old - back) ≡ Some b → slice_get new (length new - added) ≡ Some c → b ≢ c
change_no_more old new back added b c change at_old at_new =
    let n = change.common in
    let first : length old - back ≡ n = let is = change.left in omega arith in
    let second : length new - added ≡ n = let is = change.put_on in omega arith in
    no_more_at old new n b c change.is_common (ap (slice_get old) (sym first) ∙ at_old) (ap (slice_get new) (sym second) ∙ at_new)

-- the counts of a change are its own
pub one_change : (old new : List Block) (back added other_back other_added : ℕ) → IsChange old new back added → IsChange old new other_back other_added
    → (back ≡ other_back) × (added ≡ other_added)
one_change old new back added other_back other_added first second =
    let a = first.is_common in
    let b = second.is_common in
    let same : first.common ≡ second.common = le_antisymm (b.longest first.common a.in_old a.in_new a.common) (a.longest second.common b.in_old b.in_new b.common) in
    let l = first.left in let m = second.left in let p = first.put_on in let q = second.put_on in
    (omega arith, omega arith)

-- no change leaves more than k blocks
pub change_bounded : (network : Network) (kept old new : List Block) (back added : ℕ) → IsSelection network kept old new → IsChange old new back added → back ≤ network.genesis.k
change_bounded network kept old new back added selection change =
    let m = immutable_length network old in
    let begins : take m new ≡ take m old = ap (λ n. take n new) (sym (length_immutable network old)) ∙ selection_begins network kept old new selection in
    let not_shorter = selection_not_shorter network kept old new selection in
    let shared : m ≤ change.common = change.is_common.longest m (omega arith) (omega arith) (sym begins) in
    let is = change.left in omega arith

-- a chain that stays is left by no block, and has none put on
pub change_of_nothing : (old new : List Block) (back added : ℕ) → IsChange old new back added → new ≡ old → (back ≡ 0) × (added ≡ 0)
change_of_nothing old new back added change same =
    let long : length new ≡ length old = ap length same in
    let whole : length old ≤ change.common = change.is_common.longest (length old) (omega arith) (omega arith) (ap (take (length old)) (sym same)) in
    let l = change.left in let p = change.put_on in let n = change.is_common.in_old in
    (omega arith, omega arith)

-- a chain that stays has 0 and 0; one that becomes longer has more put on than left
pub change_told : (network : Network) (kept old new : List Block) (back added : ℕ) → IsSelection network kept old new → IsChange old new back added
    → ((new ≡ old) × (back ≡ 0) × (added ≡ 0)) ⊎ (back < added)
change_told network kept old new back added selection change =
    elim (selection_longer network kept old new selection) [
      | inl same ↦ let zeros = change_of_nothing old new back added change same in inl (same, zeros.0, zeros.1)
      | inr longer ↦ inr (let l = change.left in let p = change.put_on in omega arith)
    ]

-- ---- the same of a step that keeps a block

change_of : (network : Network) (s : State) (event : Event) (back added : ℕ) (t : State) → Step network s event (Kept back added) t
    → (kept : List Block) × IsSelection network kept s.chain t.chain × IsChange s.chain t.chain back added
change_of network s (Arrive bytes) back added t step = (t.kept, step.selection, step.change)
change_of network s event back added t step = absurd step

pub step_shares : (network : Network) (s : State) (event : Event) (back added : ℕ) (t : State) → Step network s event (Kept back added) t
    → (back ≤ length s.chain) × (added ≤ length t.chain) × (take (length s.chain - back) s.chain ≡ take (length t.chain - added) t.chain)
step_shares network s event back added t step = change_shares s.chain t.chain back added (change_of network s event back added t step).2

pub step_no_more : (network : Network) (s : State) (event : Event) (back added : ℕ) (t : State) (b c : Block) → Step network s event (Kept back added) t
    → slice_get s.chain (length s.chain - back) ≡ Some b → slice_get t.chain (length t.chain - added) ≡ Some c → b ≢ c
step_no_more network s event back added t b c step = change_no_more s.chain t.chain back added b c (change_of network s event back added t step).2

pub step_bounded : (network : Network) (s : State) (event : Event) (back added : ℕ) (t : State) → Step network s event (Kept back added) t
    → back ≤ network.genesis.k
step_bounded network s event back added t step =
    let change = change_of network s event back added t step in change_bounded network change.0 s.chain t.chain back added change.1 change.2

pub step_told : (network : Network) (s : State) (event : Event) (back added : ℕ) (t : State) → Step network s event (Kept back added) t
    → ((t.chain ≡ s.chain) × (back ≡ 0) × (added ≡ 0)) ⊎ (back < added)
step_told network s event back added t step =
    let change = change_of network s event back added t step in change_told network change.0 s.chain t.chain back added change.1 change.2
