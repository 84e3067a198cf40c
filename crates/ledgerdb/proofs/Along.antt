-- The states along blocks whose differences are known.
use Rattle.std.proofs.Common.{◌≡◌, ℕ, zero, suc, ◌+◌, ◌-◌, ◌<◌, ◌≤◌, List, [], ◌∷◌, ◌++◌, length, take, drop, get_or, refl, sym, ap, subst, ◌∙◌, arith, inl, inr, append_assoc, append-nil, length-append}
use Rattle.std.proofs.lemmas.List.{take_all, drop_all, take-append-drop}
use Rattle.std.specs.Prelude.{Option, Some, IfSome}
use Rattle.std.proofs.lemmas.Bool.{cases_lt}
use Rattle.model.specs.Applying.{LedgerState, last_state}
use Rattle.ledger.specs.BlockDiffs.{BlockDiff, undone_block}
use Rattle.ledgerdb.specs.Inside.{undone_blocks, states_along}

pub undone_append : (xs ys : List BlockDiff) (s : LedgerState) → undone_blocks (xs ++ ys) s ≡ undone_blocks xs (undone_blocks ys s)
undone_append [] ys s = refl
undone_append (x ∷ xs) ys s = ap (undone_block x) (undone_append xs ys s)

pub along_append : (xs ys : List BlockDiff) (s : LedgerState) → states_along (xs ++ ys) s ≡ states_along xs (undone_blocks ys s) ++ states_along ys s
along_append [] ys s = refl
along_append (x ∷ xs) ys s =
    let first = undone_append xs ys s in let rest = along_append xs ys s in
    λ i. first i ∷ rest i

pub along_length : (ds : List BlockDiff) (s : LedgerState) → length (states_along ds s) ≡ length ds
along_length [] s = refl
along_length (d ∷ ds) s = ap suc (along_length ds s)

-- the last state is the one that they end in
pub last_along : (ds : List BlockDiff) (s : LedgerState) → last_state (undone_blocks ds s) (states_along ds s) ≡ s
last_along [] s = refl
last_along (d ∷ ds) s = last_along ds s

-- what is left of two parts
undone_split : (n : ℕ) (ds : List BlockDiff) (s : LedgerState) → undone_blocks (take n ds) (undone_blocks (drop n ds) s) ≡ undone_blocks ds s
undone_split n ds s = sym (undone_append (take n ds) (drop n ds) s) ∙ ap (λ (es : List BlockDiff). undone_blocks es s) (take-append-drop n ds)

pub along_take : (n : ℕ) (ds : List BlockDiff) (s : LedgerState) → take n (states_along ds s) ≡ states_along (take n ds) (undone_blocks (drop n ds) s)
along_take zero ds s = refl
along_take (suc n) [] s = refl
along_take (suc n) (d ∷ ds) s =
    let first = sym (undone_split n ds s) in let rest = along_take n ds s in
    λ i. first i ∷ rest i

pub along_drop : (n : ℕ) (ds : List BlockDiff) (s : LedgerState) → drop n (states_along ds s) ≡ states_along (drop n ds) s
along_drop zero ds s = refl
along_drop (suc n) [] s = refl
along_drop (suc n) (d ∷ ds) s = along_drop n ds s

-- the state after some of them
pub last_taken : (n : ℕ) (ds : List BlockDiff) (s : LedgerState) → last_state (undone_blocks ds s) (take n (states_along ds s)) ≡ undone_blocks (drop n ds) s
last_taken n ds s =
    ap (last_state (undone_blocks ds s)) (along_take n ds s)
    ∙ ap (λ (t : LedgerState). last_state t (states_along (take n ds) (undone_blocks (drop n ds) s))) (sym (undone_split n ds s))
    ∙ last_along (take n ds) (undone_blocks (drop n ds) s)

-- ---- one more block

pub one_along : (ds more : List BlockDiff) (d : BlockDiff) (root now new : LedgerState) → more ≡ ds ++ d ∷ [] → undone_block d new ≡ now → undone_blocks ds now ≡ root
    → (undone_blocks more new ≡ root) × (states_along more new ≡ states_along ds now ++ new ∷ [])
one_along ds more d root now new is back before = (
  ap (λ (es : List BlockDiff). undone_blocks es new) is ∙ undone_append ds (d ∷ []) new ∙ ap (undone_blocks ds) back ∙ before,
  ap (λ (es : List BlockDiff). states_along es new) is ∙ along_append ds (d ∷ []) new ∙ ap (λ (s : LedgerState). states_along ds s ++ new ∷ []) back,
)

-- what is undone has the same parameters
pub undone_params : (ds : List BlockDiff) (s : LedgerState) → (undone_blocks ds s).params ≡ s.params
undone_params [] s = refl
undone_params (d ∷ ds) s = undone_params ds s

-- ---- how a loop undoes the last ones

-- these are undone, and those are left
pub record IsPartBack (all left : List BlockDiff) (old now : LedgerState) (count : ℕ) : Type 0 where
  pub undone : List BlockDiff
  pub parts : left ++ undone ≡ all
  pub counted : length undone ≡ count
  pub state : now ≡ undone_blocks undone old

pub none_back : (all left : List BlockDiff) (old : LedgerState) → left ≡ all → IsPartBack all left old old 0
none_back all left old is = record { undone = []; parts = append-nil left ∙ is; counted = refl; state = refl }

pub one_back : (all left rest : List BlockDiff) (d : BlockDiff) (old now new : LedgerState) (count : ℕ) → left ≡ rest ++ d ∷ [] → new ≡ undone_block d now → IsPartBack all left old now count → IsPartBack all rest old new (count + 1)
one_back all left rest d old now new count is back part = record {
  undone = d ∷ part.undone;
  parts = sym (append_assoc rest (d ∷ []) part.undone) ∙ ap (λ (ds : List BlockDiff). ds ++ part.undone) (sym is) ∙ part.parts;
  counted = let n = part.counted in omega (arith, n);
  state = back ∙ ap (undone_block d) part.state;
}

-- nothing is left only where all are undone
pub not_yet : (all left : List BlockDiff) (old now : LedgerState) (count back : ℕ) → IsPartBack all left old now count → back ≤ length all → count < back → left ≡ [] → ⊥
not_yet all left old now count back part within lt none =
    let whole : length (left ++ part.undone) ≡ length all = ap length part.parts in
    let long : length left ≡ 0 = ap length none in
    let n = part.counted in
    omega (arith, whole, long, n, within, lt, length-append left part.undone)

past : (xs ys : List BlockDiff) → drop (length xs) (xs ++ ys) ≡ ys
past [] ys = refl
past (x ∷ xs) ys = past xs ys

pub all_back : (all left : List BlockDiff) (old now : LedgerState) (count back : ℕ) → back ≤ length all → count ≤ back → back ≤ count → IsPartBack all left old now count → now ≡ undone_blocks (drop (length all - back) all) old
all_back all left old now count back within few done part =
    let whole : length (left ++ part.undone) ≡ length all = ap length part.parts in
    let n = part.counted in
    let at : length left ≡ length all - back = omega (arith, whole, n, few, done, length-append left part.undone) in
    part.state ∙ ap (λ (ds : List BlockDiff). undone_blocks ds old)
    (sym (past left part.undone) ∙ ap (λ (m : ℕ). drop m (left ++ part.undone)) at ∙ ap (drop (length all - back)) part.parts)

-- ---- a commit

-- the differences that are left and those that are put on, once the oldest are dropped
pub record IsJoined (k : ℕ) (kept newer joined : List BlockDiff) : Type 0 where
  pub is : joined ≡ drop (length kept - (k - length newer)) kept ++ drop (length newer - k) newer

pub joined_states : (k : ℕ) (kept newer joined : List BlockDiff) (s : LedgerState) → IsJoined k kept newer joined
    → states_along joined s ≡ drop (length kept - (k - length newer)) (states_along kept (undone_blocks newer s)) ++ drop (length newer - k) (states_along newer s)
joined_states k kept newer joined s join =
    let old = length kept - (k - length newer) in
    let new = length newer - k in
    ap (λ (ds : List BlockDiff). states_along ds s) join.is ∙
    elim (cases_lt k (length newer)) [
      | inl more ↦
          let none : drop old kept ≡ [] = drop_all old kept (omega (arith, more)) in
          let empty : drop old (states_along kept (undone_blocks newer s)) ≡ [] = drop_all old (states_along kept (undone_blocks newer s)) (omega (arith, more, along_length kept (undone_blocks newer s))) in
          ap (λ (ds : List BlockDiff). states_along (ds ++ drop new newer) s) none ∙ sym (along_drop new newer s)
          ∙ ap (λ (ts : List LedgerState). ts ++ drop new (states_along newer s)) (sym empty)
      | inr fits ↦
          let none : new ≡ 0 = omega (arith, fits) in
          ap (λ (n : ℕ). states_along (drop old kept ++ drop n newer) s) none
          ∙ along_append (drop old kept) newer s
          ∙ ap (λ (ts : List LedgerState). ts ++ states_along newer s) (sym (along_drop old kept (undone_blocks newer s)))
          ∙ ap (λ (n : ℕ). drop old (states_along kept (undone_blocks newer s)) ++ drop n (states_along newer s)) (sym none)
    ]

pub joined_anchor : (k : ℕ) (kept newer joined : List BlockDiff) (s : LedgerState) → IsJoined k kept newer joined
    → undone_blocks joined s
    ≡ last_state (last_state (undone_blocks kept (undone_blocks newer s)) (take (length kept - (k - length newer)) (states_along kept (undone_blocks newer s)))) (take (length newer - k) (states_along newer s))
joined_anchor k kept newer joined s join =
    let old = length kept - (k - length newer) in
    let new = length newer - k in
    let root = undone_blocks newer s in
    ap (λ (ds : List BlockDiff). undone_blocks ds s) join.is ∙
    elim (cases_lt k (length newer)) [
      | inl more ↦
          let none : drop old kept ≡ [] = drop_all old kept (omega (arith, more)) in
          ap (λ (ds : List BlockDiff). undone_blocks (ds ++ drop new newer) s) none ∙ sym (last_taken new newer s)
          ∙ ap (λ (t : LedgerState). last_state t (take new (states_along newer s))) (sym (last_taken old kept root ∙ ap (λ (ds : List BlockDiff). undone_blocks ds root) none))
      | inr fits ↦
          let none : new ≡ 0 = omega (arith, fits) in
          ap (λ (n : ℕ). undone_blocks (drop old kept ++ drop n newer) s) none
          ∙ undone_append (drop old kept) newer s
          ∙ sym (last_taken old kept root)
          ∙ ap (λ (n : ℕ). last_state (last_state (undone_blocks kept root) (take old (states_along kept root))) (take n (states_along newer s))) (sym none)
    ]

-- ---- what calls answer

-- the state `back` blocks ago
pub back_is : (ds : List BlockDiff) (s copy t : LedgerState) (back : ℕ) → copy ≡ s → t ≡ undone_blocks (drop (length ds - back) ds) copy
    → t ≡ last_state (undone_blocks ds s) (take (length (states_along ds s) - back) (states_along ds s))
back_is ds s copy t back same is =
    is ∙ ap (undone_blocks (drop (length ds - back) ds)) same
    ∙ ap (λ (n : ℕ). undone_blocks (drop (n - back) ds) s) (sym (along_length ds s))
    ∙ sym (last_taken (length (states_along ds s) - back) ds s)

-- the newest state
pub newest_is : (ds : List BlockDiff) (s : LedgerState) → s ≡ last_state (undone_blocks ds s) (take (length (states_along ds s) - 0) (states_along ds s))
newest_is ds s = sym (ap (last_state (undone_blocks ds s)) (take_all (length (states_along ds s) - 0) (states_along ds s) (omega arith)) ∙ last_along ds s)

-- ---- the tip before the last blocks

drop_first : (ds : List BlockDiff) (i : ℕ) (x : BlockDiff) → i < length ds → x ≡ get_or ds i x → drop i ds ≡ x ∷ drop (suc i) ds
drop_first [] i x lt is = absurd (omega (arith, lt))
drop_first (d ∷ ds) zero x lt is = ap (λ (y : BlockDiff). y ∷ ds) (sym is)
drop_first (d ∷ ds) (suc i) x lt is = drop_first ds i x (omega (arith, lt)) is

pub tip_of_none : (ds : List BlockDiff) (s : LedgerState) (back : ℕ) → back ≡ 0 → s.tip ≡ (undone_blocks (drop (length ds - back) ds) s).tip
tip_of_none ds s back none = ap (λ (es : List BlockDiff). (undone_blocks es s).tip) (sym (drop_all (length ds - back) ds (omega (arith, none))))

pub tip_of_first : (s : LedgerState) (d : BlockDiff) (ds seen : List BlockDiff) (back before count : ℕ) → seen ≡ ds → count ≤ length seen → count ≡ before + 1 → d ≡ get_or seen (length seen - 1 - before) d → back ≡ before + 1
    → d.tip ≡ (undone_blocks (drop (length ds - back) ds) s).tip
tip_of_first s d ds seen back before count same within long is one =
    let at : length seen - 1 - before ≡ length ds - back = omega (arith, ap length same, within, long, one) in
    let lt : length ds - back < length ds = omega (arith, ap length same, within, long, one) in
    let here : d ≡ get_or ds (length ds - back) d = is ∙ ap (λ (es : List BlockDiff). get_or es (length seen - 1 - before) d) same ∙ ap (λ (n : ℕ). get_or ds n d) at in
    sym (ap (λ (es : List BlockDiff). (undone_blocks es s).tip) (drop_first ds (length ds - back) d lt here))

pub if_some : {A : Type 0} (o : Option A) (x : A) (P : A → Type 0) → o ≡ Some x → IfSome o P → P x
if_some o x P is holds = subst (λ p. IfSome p P) is holds

-- ---- what a commit makes

-- the states and the anchor of what is joined, where the blocks that are put on come after those that are left
pub committed_view : (k back room : ℕ) (ds kept newer left late joined : List BlockDiff) (s root new : LedgerState) → kept ≡ take (length ds - back) ds → root ≡ undone_blocks (drop (length ds - back) ds) s → undone_blocks newer new ≡ root
    → room ≡ k - length newer → left ≡ drop (length kept - room) kept → late ≡ drop (length newer - k) newer → joined ≡ left ++ late
    → (let states = take (length (states_along ds s) - back) (states_along ds s) in
    let more = states_along newer new in
    let old = length states - (k - length more) in
    (states_along joined new ≡ drop old states ++ drop (length more - k) more)
    × (undone_blocks joined new ≡ last_state (last_state (undone_blocks ds s) (take old states)) (take (length more - k) more)))
committed_view k back room ds kept newer left late joined s root new kept_is root_is new_is room_is left_is late_is joined_is =
    let long = along_length ds s in
    let states : take (length (states_along ds s) - back) (states_along ds s) ≡ states_along kept (undone_blocks newer new) =
    ap (λ (n : ℕ). take (n - back) (states_along ds s)) long ∙ along_take (length ds - back) ds s
    ∙ ap (states_along (take (length ds - back) ds)) (sym (new_is ∙ root_is)) ∙ ap (λ (es : List BlockDiff). states_along es (undone_blocks newer new)) (sym kept_is) in
    let anchor : undone_blocks ds s ≡ undone_blocks kept (undone_blocks newer new) =
    sym (undone_split (length ds - back) ds s) ∙ ap (undone_blocks (take (length ds - back) ds)) (sym (new_is ∙ root_is)) ∙ ap (λ (es : List BlockDiff). undone_blocks es (undone_blocks newer new)) (sym kept_is) in
    let join : IsJoined k kept newer joined = record {
      is = joined_is ∙ ap (λ (ds : List BlockDiff). ds ++ late) (left_is ∙ ap (λ (n : ℕ). drop (length kept - n) kept) room_is)
          ∙ ap (λ (ds : List BlockDiff). drop (length kept - (k - length newer)) kept ++ ds) late_is;
    } in
    let old : length (take (length (states_along ds s) - back) (states_along ds s)) - (k - length (states_along newer new)) ≡ length kept - (k - length newer) =
    let whole = ap length states in omega (arith, whole, along_length kept (undone_blocks newer new), along_length newer new) in
    let few : length (states_along newer new) - k ≡ length newer - k = omega (arith, along_length newer new) in (
      joined_states k kept newer joined new join
          ∙ ap (λ (n : ℕ). drop n (states_along kept (undone_blocks newer new)) ++ drop (length newer - k) (states_along newer new)) (sym old)
          ∙ ap (λ (n : ℕ). drop (length (take (length (states_along ds s) - back) (states_along ds s)) - (k - length (states_along newer new))) (states_along kept (undone_blocks newer new)) ++ drop n (states_along newer new)) (sym few)
          ∙ ap (λ (ts : List LedgerState). drop (length (take (length (states_along ds s) - back) (states_along ds s)) - (k - length (states_along newer new))) ts ++ drop (length (states_along newer new) - k) (states_along newer new)) (sym states),
      joined_anchor k kept newer joined new join
          ∙ ap (λ (n : ℕ). last_state (last_state (undone_blocks kept (undone_blocks newer new)) (take n (states_along kept (undone_blocks newer new)))) (take (length newer - k) (states_along newer new))) (sym old)
          ∙ ap (λ (n : ℕ). last_state (last_state (undone_blocks kept (undone_blocks newer new)) (take (length (take (length (states_along ds s) - back) (states_along ds s)) - (k - length (states_along newer new))) (states_along kept (undone_blocks newer new)))) (take n (states_along newer new))) (sym few)
          ∙ ap (λ (t : LedgerState). last_state (last_state t (take (length (take (length (states_along ds s) - back) (states_along ds s)) - (k - length (states_along newer new))) (states_along kept (undone_blocks newer new)))) (take (length (states_along newer new) - k) (states_along newer new))) (sym anchor)
          ∙ ap (λ (ts : List LedgerState). last_state (last_state (undone_blocks ds s) (take (length (take (length (states_along ds s) - back) (states_along ds s)) - (k - length (states_along newer new))) ts)) (take (length (states_along newer new) - k) (states_along newer new))) (sym states),
    )
