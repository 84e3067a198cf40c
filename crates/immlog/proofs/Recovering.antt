-- What a crash leaves while a log is opened.
use Rattle.std.proofs.Common.{◌≡◌, ◌≢◌, ◌⊎◌, inl, inr, ℕ, zero, suc, ◌+◌, ◌-◌, ◌≤◌, List, [], ◌∷◌, ◌++◌, length, take, drop, refl, sym, ◌∙◌, ap, subst, arith, length-append, Some, None}
use Rattle.std.proofs.lemmas.List.{append-nil, take_all, take-append-le, length-take-le, length-drop}
use Rattle.std.specs.Prelude.{slice_get}
use Rattle.std.specs.List.{AllByRecursion}
use Rattle.model.specs.Disk.{Moment, settled, MayLeave, Leaves, HoldsSince, IsGiven}
use Rattle.model.specs.Log.{IsLogBlock, body_of, records, at_rest, IsShut, IsHalfOpen, IsLogOf}
use Rattle.model.proofs.LogTexts.{same_records, none_closed, gate_is_closed, all_first}
use Rattle.immlog.specs.Steps.{IsFixed, IsFound, IsGateMoment, gate_written, KeepsLogs, IsBeginningOf}
use Rattle.immlog.proofs.Moments.{since_now, since_call, since_same, since_then, since_weaker}
use Rattle.immlog.proofs.Fronts.{gate_written_is}
use Rattle.immlog.proofs.Crashes.{crash_fixed, gate_leaves}
use Rattle.immlog.proofs.Rows.{fewer_sure, settled_leaves}

-- what a read gives is left where all is sure
pub left_settled : (bytes : List ℕ) → MayLeave (settled bytes) bytes
left_settled bytes = record { stays = λ place below outside. refl; whole = λ none. refl }

pub log_settled : (least : ℕ) (blocks : List (List ℕ)) (m : Moment) (bytes : List ℕ) → m ≡ settled bytes → Leaves (IsLogOf least blocks) m → IsLogOf least blocks bytes
log_settled least blocks m bytes is leaves = leaves bytes (subst (λ (x : Moment). MayLeave x bytes) (sym is) (left_settled bytes))

-- the log that a crash leaves is the one that is found
pub log_found : (least : ℕ) (blocks found : List (List ℕ)) (bytes : List ℕ) (place : ℕ) → (log : IsLogOf least blocks bytes) → (is : IsFound bytes place found) → (log.first ≡ found) × (log.rest ≡ is.rest)
log_found least blocks found bytes place log is =
    same_records log.first found log.rest is.rest (all_first log.first log.next (subst (AllByRecursion IsLogBlock) log.begins log.sizes)) is.sizes
    (none_closed log.rest (gate_is_closed log.next log.rest log.gate)) (none_closed is.rest is.closed) (sym log.text ∙ is.text)

pub beginning_found : (least : ℕ) (blocks found : List (List ℕ)) (bytes : List ℕ) (place : ℕ) → IsLogOf least blocks bytes → IsFound bytes place found → IsBeginningOf least blocks found
beginning_found least blocks found bytes place log is =
    let same = log_found least blocks found bytes place log is in
    record {
      next = log.next;
      begins = log.begins ∙ ap (λ (l : List (List ℕ)). l ++ log.next) same.0;
      enough = subst (λ (l : List (List ℕ)). least ≤ length l) same.0 log.enough;
    }

pub slice_get-behind : (front more : List ℕ) → slice_get (front ++ more) (length front) ≡ slice_get more 0
slice_get-behind [] more = refl
slice_get-behind (x ∷ front) more = slice_get-behind front more

-- the gate that stands there
pub gate_found : (bytes : List ℕ) (place : ℕ) (found : List (List ℕ)) (is : IsFound bytes place found) → slice_get bytes place ≡ slice_get is.rest 0
gate_found bytes place found is =
    ap (λ (l : List ℕ). slice_get l place) is.text ∙ (ap (λ (n : ℕ). slice_get (records found ++ is.rest) n) is.place_is ∙ slice_get-behind (records found) is.rest)

-- it is closed as it should be
pub closed_text : (bytes : List ℕ) (place : ℕ) (found : List (List ℕ)) → IsFound bytes place found → slice_get bytes place ≡ Some 0 → (more : List ℕ) × (bytes ≡ records found ++ 0 ∷ more)
closed_text bytes place found is zero_there = with_rest is.rest is.text (sym (gate_found bytes place found is) ∙ zero_there)
  where
    with_rest : (rest : List ℕ) → bytes ≡ records found ++ rest → slice_get rest 0 ≡ Some 0 → (more : List ℕ) × (bytes ≡ records found ++ 0 ∷ more)
    with_rest [] text there = absurd (let e : None ≡ Some 0 = there in cc)
    with_rest (gate ∷ more) text there =
        let e : Some gate ≡ Some 0 = there in
        let same : gate ≡ 0 = cc in
        (more, text ∙ ap (λ (n : ℕ). records found ++ n ∷ more) same)

-- it is written closed
pub written_text : (bytes : List ℕ) (place : ℕ) (found : List (List ℕ)) → IsFound bytes place found → (more : List ℕ) × (gate_written place 0 bytes ≡ records found ++ 0 ∷ more)
written_text bytes place found is = with_rest is.rest is.text
  where
    at_end : (front : List ℕ) → gate_written (length front) 0 front ≡ front ++ 0 ∷ []
    at_end front = ap (λ (l : List ℕ). l ++ (0 ∷ []) ++ drop (length front + 1) front) (take_whole front) ∙ (ap (λ (l : List ℕ). front ++ (0 ∷ []) ++ l) (drop_past front) ∙ append-nil (front ++ 0 ∷ []))
      where
        take_whole : (xs : List ℕ) → take (length xs) xs ≡ xs
        take_whole [] = refl
        take_whole (x ∷ xs) = ap (λ (l : List ℕ). x ∷ l) (take_whole xs)

        drop_past : (xs : List ℕ) → drop (length xs + 1) xs ≡ []
        drop_past [] = refl
        drop_past (x ∷ xs) = let e : suc (length xs) + 1 ≡ suc (length xs + 1) = omega arith in ap (λ (n : ℕ). drop n (x ∷ xs)) e ∙ drop_past xs

    with_rest : (rest : List ℕ) → bytes ≡ records found ++ rest → (more : List ℕ) × (gate_written place 0 bytes ≡ records found ++ 0 ∷ more)
    with_rest [] text = ([], ap (λ (l : List ℕ). gate_written place 0 l) (text ∙ append-nil (records found)) ∙ (ap (λ (n : ℕ). gate_written n 0 (records found)) is.place_is ∙ at_end (records found)))
    with_rest (gate ∷ more) text = (more, ap (λ (l : List ℕ). gate_written place 0 l) text ∙ gate_written_is (records found) more gate place 0 is.place_is)

-- while a gate that isn't closed as it should be is closed
pub closing_keeps : (bytes : List ℕ) (place : ℕ) (found : List (List ℕ)) (m new_m : Moment) (past new_past : List Moment) → IsFound bytes place found → m ≡ settled bytes → slice_get bytes place ≢ Some 0 → HoldsSince past new_past new_m (IsGateMoment place 0 bytes) → KeepsLogs m past new_m new_past
closing_keeps bytes place found m new_m past new_past is sure other holds least blocks leaves =
    let log = log_settled least blocks m bytes sure leaves in
    let same = log_found least blocks found bytes place log is in
    since_weaker (IsGateMoment place 0 bytes) (Leaves (IsLogOf least blocks)) past new_past new_m (by_gate log same.0 same.1 log.gate) holds
  where
    by_gate : (log : IsLogOf least blocks bytes) → log.first ≡ found → log.rest ≡ is.rest → IsShut log.rest ⊎ IsHalfOpen log.next log.rest → (x : Moment) → IsGateMoment place 0 bytes x → (left_bytes : List ℕ) → MayLeave x left_bytes → IsLogOf least blocks left_bytes
    by_gate log first rest (inl shut) x moment left_bytes left =
        let there : slice_get bytes place ≡ Some 0 = gate_found bytes place found is ∙ ap (λ (l : List ℕ). slice_get l 0) (sym rest ∙ shut.text) in
        absurd (other there)
    by_gate log first rest (inr half) x moment left_bytes left =
        let row : blocks ≡ found ++ half.block ∷ half.later = log.begins ∙ (ap (λ (l : List (List ℕ)). l ++ log.next) first ∙ ap (λ (l : List (List ℕ)). found ++ l) half.comes) in
        let text : bytes ≡ records found ++ half.gate ∷ (body_of half.block ++ 0 ∷ half.more) = is.text ∙ ap (λ (l : List ℕ). records found ++ l) (sym rest ∙ half.text) in
        let sizes = subst (AllByRecursion IsLogBlock) row log.sizes in
        let here = gate_leaves found half.later half.block half.more bytes half.gate place 0 sizes is.place_is text x moment left_bytes left in
        fewer_sure (length found) least blocks left_bytes (subst (λ (l : List (List ℕ)). least ≤ length l) first log.enough) (subst (λ (l : List (List ℕ)). IsLogOf (length found) l left_bytes) (sym row) here)

-- nothing was done
pub keeps_still : (m : Moment) (past : List Moment) → KeepsLogs m past m past
keeps_still m past least blocks leaves = since_now (Leaves (IsLogOf least blocks)) past m leaves

pub keeps_logs_then : (m n k : Moment) (past middle new_past : List Moment) → KeepsLogs m past n middle → KeepsLogs n middle k new_past → KeepsLogs m past k new_past
keeps_logs_then m n k past middle new_past one two least blocks leaves =
    let first = one least blocks leaves in
    since_then (Leaves (IsLogOf least blocks)) past middle new_past n k first (two least blocks first.here)

-- while what stands behind the closed gate is cut
pub take_rest : (front more : List ℕ) (place : ℕ) → place ≡ length front → take (place + 1) (front ++ 0 ∷ more) ≡ front ++ 0 ∷ []
take_rest front more place is = ap (λ (n : ℕ). take (n + 1) (front ++ 0 ∷ more)) is ∙ go front
  where
    go : (xs : List ℕ) → take (length xs + 1) (xs ++ 0 ∷ more) ≡ xs ++ 0 ∷ []
    go [] = refl
    go (x ∷ xs) = let e : suc (length xs) + 1 ≡ suc (length xs + 1) = omega arith in ap (λ (n : ℕ). take n (x ∷ xs ++ 0 ∷ more)) e ∙ ap (λ (l : List ℕ). x ∷ l) (go xs)

pub found_closed : (bytes more : List ℕ) (place : ℕ) (found : List (List ℕ)) → AllByRecursion IsLogBlock found → place ≡ length (records found) → bytes ≡ records found ++ 0 ∷ more → IsFound bytes place found
found_closed bytes more place found sizes is text = record { rest = 0 ∷ more; text = text; closed = omega arith; sizes = sizes; place_is = is }

pub cutting_keeps : (bytes more : List ℕ) (place : ℕ) (found : List (List ℕ)) (m new_m : Moment) (past new_past : List Moment) → AllByRecursion IsLogBlock found → place ≡ length (records found) → bytes ≡ records found ++ 0 ∷ more → m ≡ settled bytes → HoldsSince past new_past new_m (IsFixed (take (place + 1) bytes)) → KeepsLogs m past new_m new_past
cutting_keeps bytes more place found m new_m past new_past sizes is text sure holds least blocks leaves =
    let log = log_settled least blocks m bytes sure leaves in
    let begins = beginning_found least blocks found bytes place log (found_closed bytes more place found sizes is text) in
    let kept : take (place + 1) bytes ≡ at_rest found = ap (λ (l : List ℕ). take (place + 1) l) text ∙ take_rest (records found) more place is in
    let all = subst (AllByRecursion IsLogBlock) begins.begins log.sizes in
    since_weaker (IsFixed (take (place + 1) bytes)) (Leaves (IsLogOf least blocks)) past new_past new_m
    (λ x fixed left_bytes left.
    fewer_sure (length found) least blocks left_bytes begins.enough
    (subst (λ (l : List (List ℕ)). IsLogOf (length found) l left_bytes) (sym begins.begins)
    (crash_fixed found begins.next all x (subst (λ (l : List ℕ). IsFixed l x) kept fixed) left_bytes left)))
    holds

-- a sync that failed, and one that succeeded
pub unsettled_keeps : (m n : Moment) (past new_past : List Moment) → n ≡ m → new_past ≡ past → KeepsLogs m past n new_past
unsettled_keeps m n past new_past same clock least blocks leaves =
    since_same (Leaves (IsLogOf least blocks)) past new_past m n same clock leaves

pub settled_keeps : (m n : Moment) (past new_past : List Moment) (bytes : List ℕ) → MayLeave m bytes → n ≡ settled bytes → new_past ≡ m ∷ past → KeepsLogs m past n new_past
settled_keeps m n past new_past bytes may sure clock least blocks leaves =
    let P : List ℕ → Type 0 = IsLogOf least blocks in
    since_call (Leaves P) past new_past m n clock leaves (settled_leaves P n bytes sure (leaves bytes may))

-- reads change nothing
pub keeps_same : (m n k : Moment) (past middle new_past : List Moment) → KeepsLogs m past n middle → k ≡ n → new_past ≡ middle → KeepsLogs m past k new_past
keeps_same m n k past middle new_past keeps still clock =
    subst (λ (l : List Moment). KeepsLogs m past k l) (sym clock) (subst (λ (x : Moment). KeepsLogs m past x middle) (sym still) keeps)

-- ---- reading

take_take : (xs ys : List ℕ) (n : ℕ) → n ≤ length xs → take n (take n xs ++ ys) ≡ take n xs
take_take xs ys n within =
    let long : length (take n xs) ≡ n = length-take-le n xs within in
    take-append-le n (take n xs) ys (omega arith) ∙ take_all n (take n xs) (omega arith)

take_nothing : (m : ℕ) → take {A = ℕ} m [] ≡ []
take_nothing zero = refl
take_nothing (suc m) = refl

take_more_of : (xs : List ℕ) (n k : ℕ) → take (n + k) xs ≡ take n xs ++ take k (drop n xs)
take_more_of xs zero k = let e : 0 + k ≡ k = omega arith in ap (λ (m : ℕ). take m xs) e
take_more_of [] (suc n) k = take_nothing (suc n + k) ∙ sym (take_nothing k)
take_more_of (x ∷ xs) (suc n) k =
    let e : suc n + k ≡ suc (n + k) = omega arith in
    ap (λ (m : ℕ). take m (x ∷ xs)) e ∙ ap (λ (l : List ℕ). x ∷ l) (take_more_of xs n k)

-- one more piece of the disk behind the others
pub piece_read : (reads bytes old new slice now : List ℕ) (count : ℕ) → bytes ≡ take (length bytes) reads → length bytes ≤ length reads → IsGiven reads (length bytes) old new count → slice ≡ take count new → now ≡ bytes ++ slice → now ≡ take (length now) reads
piece_read reads bytes old new slice now count front within given is_slice is_now =
    let rest : length (drop (length bytes) reads) ≡ length reads - length bytes = length-drop (length bytes) reads in
    let few : count ≤ length (drop (length bytes) reads) = omega (arith, given.count_is) in
    let piece : slice ≡ take count (drop (length bytes) reads) = is_slice ∙ (ap (λ (l : List ℕ). take count l) given.given ∙ take_take (drop (length bytes) reads) (drop count old) count few) in
    let long : length slice ≡ count = ap length piece ∙ length-take-le count (drop (length bytes) reads) few in
    let all : length now ≡ length bytes + count = ap length is_now ∙ (length-append bytes slice ∙ ap (λ (n : ℕ). length bytes + n) long) in
    is_now ∙ (ap (λ (l : List ℕ). l ++ slice) front ∙ (ap (λ (l : List ℕ). take (length bytes) reads ++ l) piece
    ∙ (sym (take_more_of reads (length bytes) count) ∙ ap (λ (n : ℕ). take n reads) (sym all))))
