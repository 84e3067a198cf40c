-- The lengths stand for the followers of the definitions.
use Rattle.std.proofs.Common.{◌≡◌, ℕ, zero, suc, ◌+◌, ◌≤◌, List, [], ◌∷◌, ◌++◌, length, take, min, Some, None, Bool, true, false, refl, sym, ap, subst, ◌∙◌, arith}
use Rattle.std.specs.Prelude.{slice_get, slice_set, nat_lt, if◌then◌else◌}
use Rattle.std.proofs.lemmas.Bool.{ltb-true, ltb-false}
use Rattle.std.proofs.lemmas.List.{length-append, length-take, length-take-le, take_all}
use Rattle.model.specs.Block.{Block}
use Rattle.model.specs.Chain.{BeginsWith, tip_point}
use Rattle.model.specs.Follower.{Follower, Followers, follower_of, free_id, with_first_free, with_opened, standing_at, AreMoved, IsMoved, IsNext, Instruction}
use Rattle.model.specs.History.{IsCommonLength}
use Rattle.model.proofs.Chains.{begins_with_whole}
use Rattle.model.proofs.Changes.{taken_with}
use Rattle.model.proofs.FollowerSteps.{begins_take, begins_through, common_of_length, told_is_agreed}
use Rattle.followers.specs.declared.place.Place.{Place}
use Rattle.followers.specs.declared.place.Due.TheVariants as due
use Rattle.followers.specs.Places.{Places, standing, moved_place, moved_places, due_of, place_after}
use Rattle.followers.specs.Standing.{IsPlaceOf, ArePlacesOf, IsDueOf, LengthsStandFor}

free_same : (selected : List Block) (places : Places) (fs : Followers) → ArePlacesOf selected places fs → free_id fs ≡ free_id places
free_same selected [] [] are = refl
free_same selected [] (f ∷ fs) are = absurd are
free_same selected (None ∷ places) [] are = absurd are
free_same selected (None ∷ places) (None ∷ fs) are = refl
free_same selected (None ∷ places) (Some f ∷ fs) are = absurd are
free_same selected (Some place ∷ places) [] are = absurd are
free_same selected (Some place ∷ places) (None ∷ fs) are = absurd are
free_same selected (Some place ∷ places) (Some f ∷ fs) are = ap suc (free_same selected places fs are.1)

open_same : (selected : List Block) (places : Places) (fs : Followers) (id : ℕ) (place : Place) → ArePlacesOf selected places fs → follower_of places id ≡ Some place → (f : Follower) × (follower_of fs id ≡ Some f) × IsPlaceOf selected place f
open_same selected [] fs zero place are is = absurd (let e : None ≡ Some place = is in cc)
open_same selected [] fs (suc id) place are is = absurd (let e : None ≡ Some place = is in cc)
open_same selected (None ∷ places) [] id place are is = absurd are
open_same selected (None ∷ places) (None ∷ fs) zero place are is = absurd (let e : None ≡ Some place = is in cc)
open_same selected (None ∷ places) (None ∷ fs) (suc id) place are is = open_same selected places fs id place are is
open_same selected (None ∷ places) (Some f ∷ fs) id place are is = absurd are
open_same selected (Some p ∷ places) [] id place are is = absurd are
open_same selected (Some p ∷ places) (None ∷ fs) id place are is = absurd are
open_same selected (Some p ∷ places) (Some f ∷ fs) zero place are is = (f, refl, let same : p ≡ place = (let e : Some p ≡ Some place = is in cc) in subst (λ (q : Place). IsPlaceOf selected q f) same are.0)
open_same selected (Some p ∷ places) (Some f ∷ fs) (suc id) place are is = open_same selected places fs id place are.1 is

nobody_same : (selected : List Block) (places : Places) (fs : Followers) (id : ℕ) → ArePlacesOf selected places fs → follower_of places id ≡ None → follower_of fs id ≡ None
nobody_same selected [] [] zero are is = refl
nobody_same selected [] [] (suc id) are is = refl
nobody_same selected [] (f ∷ fs) id are is = absurd are
nobody_same selected (None ∷ places) [] id are is = absurd are
nobody_same selected (None ∷ places) (None ∷ fs) zero are is = refl
nobody_same selected (None ∷ places) (None ∷ fs) (suc id) are is = nobody_same selected places fs id are is
nobody_same selected (None ∷ places) (Some f ∷ fs) id are is = absurd are
nobody_same selected (Some p ∷ places) [] id are is = absurd are
nobody_same selected (Some p ∷ places) (None ∷ fs) id are is = absurd are
nobody_same selected (Some p ∷ places) (Some f ∷ fs) zero are is = absurd (let e : Some p ≡ None = is in cc)
nobody_same selected (Some p ∷ places) (Some f ∷ fs) (suc id) are is = nobody_same selected places fs id are.1 is

stands_at : (selected : List Block) (n : ℕ) → n ≤ length selected → IsPlaceOf selected (standing n) (standing_at (take n selected))
stands_at selected n within = record { within = within; agreed = refl; told = length-take-le n selected within; begins = begins_with_whole (take n selected) }

opened_same : (selected : List Block) (places : Places) (fs : Followers) → ArePlacesOf selected places fs → ArePlacesOf selected (with_first_free (standing 0) places) (with_opened fs)
opened_same selected [] [] are = (stands_at selected 0 (omega arith), tt)
opened_same selected [] (f ∷ fs) are = absurd are
opened_same selected (None ∷ places) [] are = absurd are
opened_same selected (None ∷ places) (None ∷ fs) are = (stands_at selected 0 (omega arith), are)
opened_same selected (None ∷ places) (Some f ∷ fs) are = absurd are
opened_same selected (Some p ∷ places) [] are = absurd are
opened_same selected (Some p ∷ places) (None ∷ fs) are = absurd are
opened_same selected (Some p ∷ places) (Some f ∷ fs) are = (are.0, opened_same selected places fs are.1)

set_same : (selected : List Block) (places : Places) (fs : Followers) (id : ℕ) (place : Place) (f : Follower) → IsPlaceOf selected place f → ArePlacesOf selected places fs → ArePlacesOf selected (slice_set places id (Some place)) (slice_set fs id (Some f))
set_same selected [] [] id place f is are = tt
set_same selected [] (g ∷ fs) id place f is are = absurd are
set_same selected (None ∷ places) [] id place f is are = absurd are
set_same selected (None ∷ places) (None ∷ fs) zero place f is are = (is, are)
set_same selected (None ∷ places) (None ∷ fs) (suc id) place f is are = set_same selected places fs id place f is are
set_same selected (None ∷ places) (Some g ∷ fs) id place f is are = absurd are
set_same selected (Some p ∷ places) [] id place f is are = absurd are
set_same selected (Some p ∷ places) (None ∷ fs) id place f is are = absurd are
set_same selected (Some p ∷ places) (Some g ∷ fs) zero place f is are = (is, are.1)
set_same selected (Some p ∷ places) (Some g ∷ fs) (suc id) place f is are = (are.0, set_same selected places fs id place f is are.1)

closed_same : (selected : List Block) (places : Places) (fs : Followers) (id : ℕ) → ArePlacesOf selected places fs → ArePlacesOf selected (slice_set places id None) (slice_set fs id None)
closed_same selected [] [] id are = tt
closed_same selected [] (g ∷ fs) id are = absurd are
closed_same selected (None ∷ places) [] id are = absurd are
closed_same selected (None ∷ places) (None ∷ fs) zero are = are
closed_same selected (None ∷ places) (None ∷ fs) (suc id) are = closed_same selected places fs id are
closed_same selected (None ∷ places) (Some g ∷ fs) id are = absurd are
closed_same selected (Some p ∷ places) [] id are = absurd are
closed_same selected (Some p ∷ places) (None ∷ fs) id are = absurd are
closed_same selected (Some p ∷ places) (Some g ∷ fs) zero are = are.1
closed_same selected (Some p ∷ places) (Some g ∷ fs) (suc id) are = (are.0, closed_same selected places fs id are.1)

-- ---- what comes next

agreed_length : (selected : List Block) (place : Place) (f : Follower) → IsPlaceOf selected place f → length f.agreed ≡ place.agreed
agreed_length selected place f is = ap length is.agreed ∙ length-take-le place.agreed selected is.within

-- one that is told what comes next, by the two tests
next_by : (selected : List Block) (place : Place) (f : Follower) → IsPlaceOf selected place f → (instruction : Instruction) (back more : Bool) → nat_lt place.agreed place.told ≡ back → nat_lt place.told (length selected) ≡ more
    → IsDueOf selected (if back then Some (due.RollBack place.agreed) else if more then Some (due.Add place.told) else None) instruction
    → (new : Follower) × IsNext selected f instruction new × IsPlaceOf selected (if back then standing place.agreed else if more then standing (place.told + 1) else place) new
next_by selected place f is instruction true more back_is more_is step =
    let size = agreed_length selected place f is in
    let told = is.told in
    let less = ltb-true place.agreed place.told back_is in
    let new : Follower = standing_at f.agreed in (
      new,
      subst (λ (i : Instruction). IsNext selected f i new) (sym step) (omega arith, ap tip_point (sym is.agreed), refl),
      record { within = is.within; agreed = is.agreed; told = size; begins = begins_with_whole f.agreed },
    )
next_by selected place f is instruction false true back_is more_is step =
    let size = agreed_length selected place f is in
    let told = is.told in
    let not_less = ltb-false place.agreed place.told back_is in
    let same : f.agreed ≡ f.told = told_is_agreed f is.begins (omega arith) in
    let sizes : length f.agreed ≡ length f.told = ap length same in
    let new : Follower = record { told = f.told ++ step.0 ∷ []; agreed = f.agreed ++ step.0 ∷ [] } in
    let taken = taken_with selected place.told step.0 step.1 in
    let count : suc place.told ≡ place.told + 1 = omega arith in
    let agreed : new.agreed ≡ take (place.told + 1) selected =
    ap (λ (bs : List Block). bs ++ step.0 ∷ []) (is.agreed ∙ ap (λ n. take n selected) (let e : place.agreed ≡ place.told = omega arith in e)) ∙ (sym taken.1 ∙ ap (λ n. take n selected) count) in
    let past = taken.0 in (
      new,
      subst (λ (i : Instruction). IsNext selected f i new) (sym step.2) (step.0, (omega arith, ap (slice_get selected) told ∙ step.1), refl, refl),
      record {
        within = omega arith;
        agreed = agreed;
        told = length-append f.told (step.0 ∷ []) ∙ (let e : length f.told + 1 ≡ place.told + 1 = omega arith in e);
        begins = subst (λ (bs : List Block). BeginsWith (f.told ++ step.0 ∷ []) (bs ++ step.0 ∷ [])) (sym same) (begins_with_whole (f.told ++ step.0 ∷ []));
      },
    )
next_by selected place f is instruction false false back_is more_is step =
    let size = agreed_length selected place f is in
    let told = is.told in
    let not_less = ltb-false place.agreed place.told back_is in
    let not_more = ltb-false place.told (length selected) more_is in
    let same : f.agreed ≡ f.told = told_is_agreed f is.begins (omega arith) in
    let within = is.within in
    (f, subst (λ (i : Instruction). IsNext selected f i f) (sym step) (omega arith, sym same ∙ (is.agreed ∙ take_all place.agreed selected (omega arith)), refl), is)

next_same : (selected : List Block) (places : Places) (fs : Followers) (id : ℕ) (place : Place) → ArePlacesOf selected places fs → follower_of places id ≡ Some place → (instruction : Instruction) → IsDueOf selected (due_of (length selected) place) instruction
    → (old new : Follower) × (follower_of fs id ≡ Some old) × IsNext selected old instruction new × ArePlacesOf selected (slice_set places id (Some (place_after (length selected) place))) (slice_set fs id (Some new))
next_same selected places fs id place are open_at instruction step =
    let there = open_same selected places fs id place are open_at in
    let next = next_by selected place there.0 there.2 instruction (nat_lt place.agreed place.told) (nat_lt place.told (length selected)) refl refl step in
    (there.0, next.0, there.1, next.1, set_same selected places fs id (place_after (length selected) place) next.0 next.2 are)

-- ---- another chain is selected

moved_one : (old new : List Block) (common : ℕ) (place : Place) (f : Follower) → IsCommonLength old new common → IsPlaceOf old place f → (g : Follower) × IsMoved new f g × IsPlaceOf new (moved_place common place) g
moved_one old new common place f shared is =
    let begins : BeginsWith old f.agreed = subst (BeginsWith old) (sym is.agreed) (begins_take place.agreed old) in
    let moved = common_of_length old new f.agreed common shared begins in
    let size = agreed_length old place f is in
    let cut : length (take common f.agreed) ≡ min place.agreed common = length-take common f.agreed ∙ (let e : min common (length f.agreed) ≡ min place.agreed common = omega arith in e) in
    let in_new = shared.in_new in (
      record { told = f.told; agreed = take common f.agreed },
      record { told = refl; agreed = moved },
      record {
        within = omega arith;
        agreed = sym (ap (λ n. take n new) (sym cut) ∙ moved.of_other);
        told = is.told;
        begins = begins_through f.told f.agreed (take common f.agreed) is.begins (begins_take common f.agreed);
      },
    )

moved_same : (old new : List Block) (common : ℕ) (places : Places) (fs : Followers) → IsCommonLength old new common → ArePlacesOf old places fs → (gs : Followers) × AreMoved new fs gs × ArePlacesOf new (moved_places common places) gs
moved_same old new common [] [] shared are = ([], tt, tt)
moved_same old new common [] (f ∷ fs) shared are = absurd are
moved_same old new common (None ∷ places) [] shared are = absurd are
moved_same old new common (None ∷ places) (None ∷ fs) shared are = let others = moved_same old new common places fs shared are in (None ∷ others.0, others.1, others.2)
moved_same old new common (None ∷ places) (Some f ∷ fs) shared are = absurd are
moved_same old new common (Some p ∷ places) [] shared are = absurd are
moved_same old new common (Some p ∷ places) (None ∷ fs) shared are = absurd are
moved_same old new common (Some p ∷ places) (Some f ∷ fs) shared are =
    let first = moved_one old new common p f shared are.0 in
    let others = moved_same old new common places fs shared are.1 in
    (Some first.0 ∷ others.0, (first.1, others.1), (first.2, others.2))

pub lengths_stand_for : LengthsStandFor
lengths_stand_for = record {
  free = free_same;
  is_open = open_same;
  nobody = nobody_same;
  opened = opened_same;
  forwarded = λ selected places fs id n within are. set_same selected places fs id (standing n) (standing_at (take n selected)) (stands_at selected n within) are;
  closed = closed_same;
  next = next_same;
  moved = moved_same;
}
