-- Bytes that agree with others at all but some places.
use Rattle.std.proofs.Common.{◌≡◌, ◌⊎◌, inl, inr, ℕ, zero, suc, ◌+◌, ◌<◌, ◌≤◌, List, [], ◌∷◌, ◌++◌, length, take, drop, refl, sym, ◌∙◌, ap, subst, arith, append_assoc, length-append, Some, None}
use Rattle.std.proofs.lemmas.List.{take-append-drop, length-take-le}
use Rattle.std.specs.Prelude.{slice_get}
use Rattle.std.specs.List.{AllByRecursion}
use Rattle.model.specs.Disk.{Moment, settled, touched, IsOutside, MayLeave}
use Rattle.immlog.specs.Steps.{IsFixed, gate_written}

-- who agrees with a beginning at each of its places begins with it
pub front_stays : (front bytes : List ℕ) → ((place : ℕ) → place < length front → slice_get bytes place ≡ slice_get front place) → (more : List ℕ) × (bytes ≡ front ++ more)
front_stays [] bytes agrees = (bytes, refl)
front_stays (x ∷ front) [] agrees = absurd (let e : None ≡ Some x = agrees 0 (omega arith) in cc)
front_stays (x ∷ front) (b ∷ bytes) agrees =
    let head : Some b ≡ Some x = agrees 0 (omega arith) in
    let rest = front_stays front bytes (λ place below. agrees (suc place) (omega arith)) in
    let same : b ≡ x = cc in
    let tail : bytes ≡ front ++ rest.0 = rest.1 in
    (rest.0, cc)

-- who agrees with it at all places but one has another gate there, where something stands behind it
pub gate_stays : (front behind bytes : List ℕ) (gate : ℕ) → 0 < length behind → ((place : ℕ) → place < length (front ++ gate ∷ behind) → (place < length front) ⊎ (length front + 1 ≤ place) → slice_get bytes place ≡ slice_get (front ++ gate ∷ behind) place) → (other : ℕ) × (more : List ℕ) × (bytes ≡ front ++ other ∷ (behind ++ more))
gate_stays [] [] bytes gate some agrees = absurd (omega arith)
gate_stays [] (x ∷ behind) [] gate some agrees = absurd (let e : None ≡ Some x = agrees 1 (omega arith) (inr (omega arith)) in cc)
gate_stays [] (x ∷ behind) (b ∷ bytes) gate some agrees =
    let rest = front_stays (x ∷ behind) bytes (λ place below. agrees (suc place) (omega arith) (inr (omega arith))) in
    (b, rest.0, ap (λ (l : List ℕ). b ∷ l) rest.1)
gate_stays (y ∷ front) behind [] gate some agrees = absurd (let e : None ≡ Some y = agrees 0 (omega arith) (inl (omega arith)) in cc)
gate_stays (y ∷ front) behind (b ∷ bytes) gate some agrees =
    let head : Some b ≡ Some y = agrees 0 (omega arith) (inl (omega arith)) in
    let same : b ≡ y = cc in
    let rest = gate_stays front behind bytes gate some (λ place below outside. agrees (suc place) (omega arith) (elim outside [ inl before ↦ inl (omega arith) | inr after ↦ inr (omega arith) ])) in
    (rest.0, rest.1, ap (λ (n : ℕ). n ∷ bytes) same ∙ ap (λ (l : List ℕ). y ∷ l) rest.2)

slice_get-front : (front more : List ℕ) (place : ℕ) → place < length front → slice_get (front ++ more) place ≡ slice_get front place
slice_get-front [] more place below = absurd (omega arith)
slice_get-front (x ∷ front) more zero below = refl
slice_get-front (x ∷ front) more (suc place) below = slice_get-front front more place (omega arith)

outside_all : (front : List ℕ) (ranges : List (ℕ × ℕ)) (place : ℕ) → AllByRecursion (λ range. length front ≤ range.0) ranges → place < length front → IsOutside ranges place
outside_all front [] place behind below = tt
outside_all front (range ∷ ranges) place behind below = (inl (omega (arith, behind.0)), outside_all front ranges place behind.1 below)

-- a crash leaves a beginning that is fixed
pub fixed_left : (front : List ℕ) (m : Moment) (bytes : List ℕ) → IsFixed front m → MayLeave m bytes → (more : List ℕ) × (bytes ≡ front ++ more)
fixed_left front m bytes fixed left =
    let long : length m.sure ≡ length front + length fixed.more = ap length fixed.sure ∙ length-append front fixed.more in
    front_stays front bytes (λ place below.
    left.stays place (omega arith) (outside_all front m.touched place fixed.behind below)
    ∙ (ap (λ (l : List ℕ). slice_get l place) fixed.sure ∙ slice_get-front front fixed.more place below))

-- a crash leaves all of it but the gate that is being written
pub gate_left : (front behind bytes : List ℕ) (gate place : ℕ) → place ≡ length front → 0 < length behind → MayLeave (touched place (place + 1) (settled (front ++ gate ∷ behind))) bytes → (other : ℕ) × (more : List ℕ) × (bytes ≡ front ++ other ∷ (behind ++ more))
gate_left front behind bytes gate place at some left =
    gate_stays front behind bytes gate some (λ p below outside. left.stays p below (elim outside [ inl before ↦ inl (omega arith) | inr after ↦ inr (omega arith) ], tt))

take-front : (front more : List ℕ) → take (length front) (front ++ more) ≡ front
take-front [] more = refl
take-front (x ∷ front) more = ap (λ (l : List ℕ). x ∷ l) (take-front front more)

drop-front : (front more : List ℕ) (x : ℕ) → drop (length front + 1) (front ++ x ∷ more) ≡ more
drop-front [] more x = refl
drop-front (y ∷ front) more x =
    let e : suc (length front) + 1 ≡ suc (length front + 1) = omega arith in
    ap (λ (n : ℕ). drop n (y ∷ front ++ x ∷ more)) e ∙ drop-front front more x

-- the bytes once the gate is written
pub gate_written_is : (front behind : List ℕ) (old place gate : ℕ) → place ≡ length front → gate_written place gate (front ++ old ∷ behind) ≡ front ++ gate ∷ behind
gate_written_is front behind old place gate at =
    ap (λ (n : ℕ). gate_written n gate (front ++ old ∷ behind)) at
    ∙ (ap (λ (l : List ℕ). l ++ (gate ∷ []) ++ drop (length front + 1) (front ++ old ∷ behind)) (take-front front (old ∷ behind))
    ∙ (ap (λ (l : List ℕ). front ++ (gate ∷ []) ++ l) (drop-front front behind old) ∙ append_assoc front (gate ∷ []) behind))

-- a beginning of what is sure is fixed, and stays so while the rest is cut
pub cut_fixed : (bytes : List ℕ) (len : ℕ) (m : Moment) → m ≡ settled bytes → IsFixed (take len bytes) m
cut_fixed bytes len m is =
    subst (IsFixed (take len bytes)) (sym is) (record { more = drop len bytes; sure = sym (take-append-drop len bytes); behind = tt })

pub cut_touched : (bytes : List ℕ) (len until : ℕ) (m : Moment) → m ≡ settled bytes → len ≤ length bytes → IsFixed (take len bytes) (touched len until m)
cut_touched bytes len until m is within =
    let long : length (take len bytes) ≡ len = length-take-le len bytes within in
    subst (IsFixed (take len bytes)) (sym (ap (λ (x : Moment). touched len until x) is))
    (record { more = drop len bytes; sure = sym (take-append-drop len bytes); behind = (omega arith, tt) })
