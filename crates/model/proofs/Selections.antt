-- The selection rule has one answer, and what it leaves.
use Rattle.std.proofs.Common.{◌≡◌, ◌≢◌, ℕ, ◌<◌, ◌≤◌, List, ◌++◌, length, take, drop, Contains, refl, sym, ap, subst, ◌∙◌, arith, inl, inr, ◌⊎◌, le_antisymm}
use Rattle.std.specs.Prelude.{nat_lt}
use Rattle.std.specs.List.{AllByRecursion}
use Rattle.std.specs.Ordering.{nat_cmp, ordering_reverse}
use Rattle.std.specs.declared.cmp.Ordering.{Ordering}
use Rattle.std.specs.declared.cmp.Ordering.TheVariants.{Less, Equal, Greater}
use Rattle.std.specs.Cmp.{IsTotalOrder}
use Rattle.std.specs.Cmp.Lexicographic.{slice_cmp, nat_list_cmp_total}
use Rattle.std.proofs.lemmas.Bool.{lt-ltb}
use Rattle.std.proofs.lemmas.List.{take-append-drop, length-drop, length-take}
use Rattle.std.proofs.lemmas.Map.Lookups.{exact_bytes}
use Rattle.model.specs.Block.{Block}
use Rattle.model.specs.Ledger.{Network}
use Rattle.model.specs.Chain.{Tip, genesis_tip, tip_after, tip_hash, IsLinked, IsValidChain, IsCandidate, NoneLonger, IsSelection, Stays, Changes, HaveDistinctHashes, immutable_length, immutable_part, live_blocks, BeginsWith}
use Rattle.model.proofs.Lists.{all_weaker, all_both, all_drop, contains_filter}
use Rattle.model.proofs.Chains.{tip_after-append, linked_rest, linked_front, tip_number, numbers_past, same_tips, same_blocks, length_immutable, begins_with_itself, older_candidate}

-- ---- the rule has one answer

order_of : (x y : List ℕ) (r : Ordering) → slice_cmp nat_cmp x y ≡ r → (r ≢ Greater) → (ordering_reverse r ≢ Greater) → x ≡ y
order_of x y Less is a b = absurd (b refl)
order_of x y Equal is a b = exact_bytes x y is
order_of x y Greater is a b = absurd (a refl)

-- two texts of which neither is greater are the same
pub neither_greater : (x y : List ℕ) → slice_cmp nat_cmp x y ≢ Greater → slice_cmp nat_cmp y x ≢ Greater → x ≡ y
neither_greater x y a b = order_of x y (slice_cmp nat_cmp x y) refl a (λ e. b (IsTotalOrder.antisymm nat_list_cmp_total y x ∙ e))

-- the blocks past the first n have numbers past n
pub past_numbers : (n : ℕ) (c : List Block) → IsLinked genesis_tip c → n ≤ length c → AllByRecursion (λ b. n < b.header.number) (drop n c)
past_numbers n c linked long =
    let parts : IsLinked genesis_tip (take n c ++ drop n c) = subst (IsLinked genesis_tip) (sym (take-append-drop n c)) linked in
    let front = tip_number genesis_tip (take n c) (linked_front genesis_tip (take n c) (drop n c) parts) in
    let number : (tip_after genesis_tip (take n c)).number ≡ n = omega (arith, length-take n c) in
    subst (λ (m : ℕ). AllByRecursion (λ b. m < b.header.number) (drop n c)) number
    (numbers_past (tip_after genesis_tip (take n c)) (drop n c) (linked_rest genesis_tip (take n c) (drop n c) parts))

-- the blocks of a candidate past the immutable part are live
pub live_rest : (network : Network) (kept selected c : List Block) → IsCandidate network kept selected c → immutable_length network selected ≤ length c
    → AllByRecursion (Contains (live_blocks network kept selected)) (drop (immutable_length network selected) c)
live_rest network kept selected c candidate long =
    let m = immutable_length network selected in
    let past = past_numbers m c candidate.valid.linked long in
    let members = all_drop (Contains kept) m c candidate.members in
    all_weaker (λ b. (m < b.header.number) × Contains kept b) (Contains (live_blocks network kept selected)) (drop m c)
    (λ b both. contains_filter (λ d. nat_lt m d.header.number) kept b both.1 (lt-ltb m b.header.number both.0))
    (all_both (λ b. m < b.header.number) (Contains kept) (drop m c) past members)

-- two candidates of one length that end in one hash are the same
pub same_candidates : (network : Network) (kept selected a b : List Block) → HaveDistinctHashes (live_blocks network kept selected)
    → IsCandidate network kept selected a → IsCandidate network kept selected b
    → length selected < length a → length a ≡ length b → tip_hash a ≡ tip_hash b → a ≡ b
same_candidates network kept selected a b distinct first second longer long same =
    let m = immutable_length network selected in
    let front_of_a : take m a ≡ immutable_part network selected = ap (λ n. take n a) (sym (length_immutable network selected)) ∙ first.begins in
    let front_of_b : take m b ≡ immutable_part network selected = ap (λ n. take n b) (sym (length_immutable network selected)) ∙ second.begins in
    let fronts : take m a ≡ take m b = front_of_a ∙ sym front_of_b in
    let parts_of_a : IsLinked genesis_tip (take m a ++ drop m a) = subst (IsLinked genesis_tip) (sym (take-append-drop m a)) first.valid.linked in
    let parts_of_b : IsLinked genesis_tip (take m b ++ drop m b) = subst (IsLinked genesis_tip) (sym (take-append-drop m b)) second.valid.linked in
    let s = tip_after genesis_tip (take m a) in
    let t = tip_after genesis_tip (take m b) in
    let end_of_a : tip_after genesis_tip a ≡ tip_after s (drop m a) = ap (tip_after genesis_tip) (sym (take-append-drop m a)) ∙ tip_after-append genesis_tip (take m a) (drop m a) in
    let end_of_b : tip_after genesis_tip b ≡ tip_after t (drop m b) = ap (tip_after genesis_tip) (sym (take-append-drop m b)) ∙ tip_after-append genesis_tip (take m b) (drop m b) in
    let ends : (tip_after s (drop m a)).hash ≡ (tip_after t (drop m b)).hash = ap (λ (u : Tip). u.hash) (sym end_of_a) ∙ (same_tips a b (omega arith) (omega arith) same ∙ ap (λ (u : Tip). u.hash) end_of_b) in
    let rests = same_blocks (live_blocks network kept selected) distinct s t (drop m a) (drop m b)
    (linked_rest genesis_tip (take m a) (drop m a) parts_of_a) (linked_rest genesis_tip (take m b) (drop m b) parts_of_b)
    (live_rest network kept selected a first (omega arith)) (live_rest network kept selected b second (omega arith))
    (omega (arith, length-drop m a, length-drop m b)) ends in
    sym (take-append-drop m a) ∙ ((λ i. fronts i ++ rests.0 i) ∙ take-append-drop m b)

-- where no two live blocks have one hash, the rule has one answer at most
pub one_selection : (network : Network) (kept selected a b : List Block) → HaveDistinctHashes (live_blocks network kept selected) → IsSelection network kept selected a → IsSelection network kept selected b → a ≡ b
one_selection network kept selected a b distinct (Stays none) (Stays none_too) = refl
one_selection network kept selected a b distinct (Stays none) (Changes c chosen) = absurd (let le = none c chosen.candidate in let longer = chosen.longer in omega arith)
one_selection network kept selected a b distinct (Changes c chosen) (Stays none) = absurd (let le = none c chosen.candidate in let longer = chosen.longer in omega arith)
one_selection network kept selected a b distinct (Changes c chosen) (Changes d chosen_too) =
    let long : length c ≡ length d = le_antisymm (chosen_too.longest c chosen.candidate) (chosen.longest d chosen_too.candidate) in
    let hashes : tip_hash c ≡ tip_hash d = neither_greater (tip_hash c) (tip_hash d) (chosen.least d chosen_too.candidate (sym long)) (chosen_too.least c chosen.candidate long) in
    same_candidates network kept selected c d distinct chosen.candidate chosen_too.candidate chosen.longer long hashes

-- ---- what the rule leaves

pub selection_valid : (network : Network) (kept old new : List Block) → IsValidChain network old → IsSelection network kept old new → IsValidChain network new
selection_valid network kept old new valid (Stays none) = valid
selection_valid network kept old new valid (Changes c chosen) = chosen.candidate.valid

-- the chain stays or becomes longer
pub selection_longer : (network : Network) (kept old new : List Block) → IsSelection network kept old new → (new ≡ old) ⊎ (length old < length new)
selection_longer network kept old new (Stays none) = inl refl
selection_longer network kept old new (Changes c chosen) = inr chosen.longer

pub selection_not_shorter : (network : Network) (kept old new : List Block) → IsSelection network kept old new → length old ≤ length new
selection_not_shorter network kept old new (Stays none) = omega arith
selection_not_shorter network kept old new (Changes c chosen) = let longer = chosen.longer in omega arith

pub selection_begins : (network : Network) (kept old new : List Block) → IsSelection network kept old new → BeginsWith new (immutable_part network old)
selection_begins network kept old new (Stays none) = begins_with_itself network old
selection_begins network kept old new (Changes c chosen) = chosen.candidate.begins

-- then no candidate is longer
pub selection_longest : (network : Network) (kept old new : List Block) → IsSelection network kept old new → NoneLonger network kept new
selection_longest network kept old new (Stays none) = none
selection_longest network kept old new (Changes c chosen) =
    λ other candidate. chosen.longest other (older_candidate network kept old c other (let longer = chosen.longer in omega arith) chosen.candidate.begins candidate)
