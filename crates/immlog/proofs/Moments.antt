-- Moments that go by: steps put together, and beginnings of the disk that stay.
use Rattle.std.proofs.Common.{◌≡◌, ◌⊎◌, inl, inr, ℕ, ◌+◌, ◌<◌, ◌≤◌, List, [], ◌∷◌, ◌++◌, length, refl, sym, ◌∙◌, ap, subst, arith, append_assoc}
use Rattle.std.proofs.lemmas.List.{append-nil}
use Rattle.std.specs.Prelude.{slice_get}
use Rattle.std.specs.List.{AllByRecursion}
use Rattle.model.specs.Disk.{Moment, settled, touched, IsOutside, MayLeave, HoldsSince, IsTouched}
use Rattle.model.proofs.Lists.{all_append, all_weaker}
use Rattle.immlog.specs.Steps.{IsFixed, KeepsFixed, IsGateTorn, IsGateMoment}

-- no moment goes by
pub since_now : (Q : Moment → Type 0) (past : List Moment) (m : Moment) → Q m → HoldsSince past past m Q
since_now Q past m here = record { since = []; goes_on = refl; each = tt; here = here }

-- one moment goes by
pub since_call : (Q : Moment → Type 0) (past new_past : List Moment) (m n : Moment) → new_past ≡ m ∷ past → Q m → Q n → HoldsSince past new_past n Q
since_call Q past new_past m n clock before here = record { since = m ∷ []; goes_on = clock; each = (before, tt); here = here }

-- a step, and then another
pub since_then : (Q : Moment → Type 0) (past middle new_past : List Moment) (m n : Moment) → HoldsSince past middle m Q → HoldsSince middle new_past n Q → HoldsSince past new_past n Q
since_then Q past middle new_past m n one two = record {
  since = two.since ++ one.since;
  goes_on = two.goes_on ∙ (ap (λ (l : List Moment). two.since ++ l) one.goes_on ∙ sym (append_assoc two.since one.since past));
  each = all_append Q two.since one.since two.each one.each;
  here = two.here;
}

-- what follows from Q holds too
pub since_weaker : (Q R : Moment → Type 0) (past new_past : List Moment) (m : Moment) → ((x : Moment) → Q x → R x) → HoldsSince past new_past m Q → HoldsSince past new_past m R
since_weaker Q R past new_past m weaker holds = record {
  since = holds.since;
  goes_on = holds.goes_on;
  each = all_weaker Q R holds.since weaker holds.each;
  here = weaker m holds.here;
}

-- a beginning stays while a range behind it is written or cut
pub fixed_touch : (front : List ℕ) (from until : ℕ) (m : Moment) → IsFixed front m → length front ≤ from → IsFixed front (touched from until m)
fixed_touch front from until m fixed behind = record { more = fixed.more; sure = fixed.sure; behind = (behind, fixed.behind) }

-- all that is sure is fixed
pub fixed_settled : (bytes : List ℕ) → IsFixed bytes (settled bytes)
fixed_settled bytes = record { more = []; sure = sym (append-nil bytes); behind = tt }

-- a write or a cut that may have been made
pub since_touched : (Q : Moment → Type 0) (from until : ℕ) (past new_past : List Moment) (m n : Moment) → IsTouched from until m past n new_past → Q m → Q (touched from until m) → HoldsSince past new_past n Q
since_touched Q from until past new_past m n (inl made) before here = since_call Q past new_past m n made.1 before (subst Q (sym made.0) here)
since_touched Q from until past new_past m n (inr not_made) before here =
    subst (λ (l : List Moment). HoldsSince past l n Q) (sym not_made.1) (since_now Q past n (subst Q (sym not_made.0) before))

-- a sync that failed
pub since_same : (Q : Moment → Type 0) (past new_past : List Moment) (m n : Moment) → n ≡ m → new_past ≡ past → Q m → HoldsSince past new_past n Q
since_same Q past new_past m n same clock here =
    subst (λ (l : List Moment). HoldsSince past l n Q) (sym clock) (since_now Q past n (subst Q (sym same) here))

-- a write or a cut at a place
pub keeps_call : (place until : ℕ) (m new_m : Moment) (past new_past : List Moment) → IsTouched place until m past new_m new_past → KeepsFixed place m past new_m new_past
keeps_call place until m new_m past new_past time front fixed behind =
    since_touched (IsFixed front) place until past new_past m new_m time fixed (fixed_touch front place until m fixed behind)

-- a step, and then another further behind
pub keeps_then : (place next : ℕ) (m n k : Moment) (past middle new_past : List Moment) → KeepsFixed place m past n middle → KeepsFixed next n middle k new_past → place ≤ next → KeepsFixed place m past k new_past
keeps_then place next m n k past middle new_past one two further front fixed behind =
    let first : HoldsSince past middle n (IsFixed front) = one front fixed behind in
    let reaches : length front ≤ next = omega arith in
    since_then (IsFixed front) past middle new_past n k first (two front first.here reaches)

-- what is sure begins with it
pub fixed_longer : (front bytes more : List ℕ) → bytes ≡ front ++ more → IsFixed front (settled bytes)
fixed_longer front bytes more is = record { more = more; sure = is; behind = tt }

-- ---- a gate that was written more than once

pub torn_first : (place : ℕ) (bytes : List ℕ) (m : Moment) → m ≡ settled bytes → IsGateTorn place bytes (touched place (place + 1) m)
torn_first place bytes m is = record { sure = ap (λ (x : Moment). x.sure) is; there = (refl, subst (λ (x : Moment). AllByRecursion (λ range. range ≡ (place, place + 1)) x.touched) (sym is) tt) }

pub torn_more : (place : ℕ) (bytes : List ℕ) (m : Moment) → IsGateTorn place bytes m → IsGateTorn place bytes (touched place (place + 1) m)
torn_more place bytes m torn = record { sure = torn.sure; there = (refl, torn.there) }

-- after a write that may have been made
pub torn_after : (place : ℕ) (bytes : List ℕ) (m n : Moment) (past new_past : List Moment) → IsTouched place (place + 1) m past n new_past → m ≡ settled bytes → IsGateTorn place bytes n
torn_after place bytes m n past new_past (inl made) is = subst (IsGateTorn place bytes) (sym made.0) (torn_first place bytes m is)
torn_after place bytes m n past new_past (inr not_made) is =
    subst (IsGateTorn place bytes) (sym (not_made.0 ∙ is)) (record { sure = refl; there = tt })

outside_all : (place p : ℕ) (ranges : List (ℕ × ℕ)) → AllByRecursion (λ range. range ≡ (place, place + 1)) ranges → (p < place) ⊎ (place + 1 ≤ p) → IsOutside ranges p
outside_all place p [] all outside = tt
outside_all place p (range ∷ ranges) all outside =
    (subst (λ (r : ℕ × ℕ). (p < r.0) ⊎ (r.1 ≤ p)) (sym all.0) outside, outside_all place p ranges all.1 outside)

-- it is left as one that was written once
pub torn_once : (place : ℕ) (bytes left_bytes : List ℕ) (m : Moment) → IsGateTorn place bytes m → MayLeave m left_bytes → MayLeave (touched place (place + 1) (settled bytes)) left_bytes
torn_once place bytes left_bytes m torn left = record {
  stays = λ p below outside.
      subst (λ (l : List ℕ). slice_get left_bytes p ≡ slice_get l p) torn.sure
      (left.stays p (subst (λ (l : List ℕ). p < length l) (sym torn.sure) below) (outside_all place p m.touched torn.there outside.0));
  whole = λ none. absurd cc;
}

-- a gate written, not made sure, and written back
pub gate_put_back : (place gate : ℕ) (bytes : List ℕ) (m n k l : Moment) (past one two new_past : List Moment) → m ≡ settled bytes → IsTouched place (place + 1) m past n one → k ≡ n → two ≡ one → IsTouched place (place + 1) k two l new_past → HoldsSince past new_past l (IsGateMoment place gate bytes)
gate_put_back place gate bytes m n k l past one two new_past is first same clock second =
    let Q : Moment → Type 0 = IsGateMoment place gate bytes in
    let torn : IsGateTorn place bytes n = torn_after place bytes m n past one first is in
    let again : IsGateTorn place bytes k = subst (IsGateTorn place bytes) (sym same) torn in
    let written = since_touched Q place (place + 1) past one m n first (inl is) (inr (inl (torn_first place bytes m is))) in
    let failed = since_same Q one two n k same clock (inr (inl torn)) in
    let back = since_touched Q place (place + 1) two new_past k l second (inr (inl again)) (inr (inl (torn_more place bytes k again))) in
    since_then Q past two new_past k l (since_then Q past one two n k written failed) back
