-- Arrivals: what came of a peer, and what lists begin with.
use Rattle.std.proofs.Common.{◌≡◌, ◌≢◌, ℕ, zero, suc, ◌<◌, ◌==◌, List, [], ◌∷◌, ◌++◌, length, map, cond, Bool, Some, None, refl, sym, ap, ◌∙◌, subst, append_assoc, append-nil, length-append, eq-eqb, ne_eqb, arith}
use Rattle.std.specs.Prelude.{slice_get, filter, Option, IfNone}
use Rattle.std.specs.List.{AllByRecursion}
use Rattle.std.proofs.lemmas.List.{map-append}
use Rattle.std.proofs.lemmas.List.Elements.{filter-append}
use Rattle.std.proofs.lemmas.Option.{same_Some}
use Rattle.inbox.specs.Arrivals.{Arrival, SentBy, Intake, with_told, came_of, BeginsWith, IsToldOf}
use Rattle.inbox.specs.Telling.{BeginsWhatWasSent, IsAllThatWasSent}

-- ---- beginnings

module _ {A : Type 0} where
  pub begins_all : (whole : List A) → BeginsWith whole whole
  begins_all whole = ([], sym (append-nil whole))

  pub begins_nothing : (whole : List A) → BeginsWith whole []
  begins_nothing whole = (whole, refl)

  pub begins_longer : (whole more part : List A) → BeginsWith whole part → BeginsWith (whole ++ more) part
  begins_longer whole more part begins = (begins.0 ++ more, ap (λ (j : List A). j ++ more) begins.1 ∙ append_assoc part begins.0 more)

  pub not_nothing : (front : List A) (x : A) (back : List A) → front ++ x ∷ back ≡ [] → ⊥
  not_nothing [] x back e = cc
  not_nothing (y ∷ ys) x back e = cc

-- ---- what came of a peer

pub came_append : (peer : ℕ) (l m : List Arrival) → came_of peer (l ++ m) ≡ came_of peer l ++ came_of peer m
came_append peer l m =
    ap (map (λ (a : Arrival). a.bytes)) (filter-append (λ (a : Arrival). a.peer == peer) l m)
    ∙ map-append (λ (a : Arrival). a.bytes) (filter (λ (a : Arrival). a.peer == peer) l) (filter (λ (a : Arrival). a.peer == peer) m)

pub came_own : (peer : ℕ) (l : List Arrival) (a : Arrival) → a.peer ≡ peer → came_of peer (l ++ a ∷ []) ≡ came_of peer l ++ a.bytes ∷ []
came_own peer l a own =
    came_append peer l (a ∷ [])
    ∙ ap (λ (b : Bool). came_of peer l ++ map (λ (x : Arrival). x.bytes) (cond b (a ∷ []) [])) (eq-eqb a.peer peer own)

pub came_other : (peer : ℕ) (l : List Arrival) (a : Arrival) → a.peer ≢ peer → came_of peer (l ++ a ∷ []) ≡ came_of peer l
came_other peer l a other =
    came_append peer l (a ∷ [])
    ∙ (ap (λ (b : Bool). came_of peer l ++ map (λ (x : Arrival). x.bytes) (cond b (a ∷ []) [])) (ne_eqb a.peer peer other) ∙ append-nil (came_of peer l))

pub came_first : (peer : ℕ) (a : Arrival) (l : List Arrival) → a.peer ≡ peer → came_of peer (a ∷ l) ≡ a.bytes ∷ came_of peer l
came_first peer a l own =
    ap (λ (b : Bool). map (λ (x : Arrival). x.bytes) (cond b (a ∷ filter (λ (x : Arrival). x.peer == peer) l) (filter (λ (x : Arrival). x.peer == peer) l))) (eq-eqb a.peer peer own)

pub came_begins : (peer : ℕ) (whole part : List Arrival) → BeginsWith whole part → BeginsWith (came_of peer whole) (came_of peer part)
came_begins peer whole part begins = (came_of peer begins.0, ap (came_of peer) begins.1 ∙ came_append peer part begins.0)

-- an arrival is one of its peer's
pub came_of_it : (front : List Arrival) (a : Arrival) (back : List Arrival) → came_of a.peer (front ++ a ∷ back) ≡ [] → ⊥
came_of_it front a back none =
    not_nothing (came_of a.peer front) a.bytes (came_of a.peer back)
    (sym (came_append a.peer front (a ∷ back) ∙ ap (λ (l : List (List ℕ)). came_of a.peer front ++ l) (came_first a.peer a back refl)) ∙ none)

-- ---- what was told

pub told_longer : (log : List Arrival) (more : List Arrival) (told : List SentBy) → AllByRecursion (IsToldOf log) told → AllByRecursion (IsToldOf (log ++ more)) told
told_longer log more [] all = tt
told_longer log more (s ∷ told) all = (
  subst (λ (l : List (List ℕ)). BeginsWith l s.sent) (sym (came_append s.peer log more)) (begins_longer (came_of s.peer log) (came_of s.peer more) s.sent all.0),
  told_longer log more told all.1,
)

pub told_append : (log : List Arrival) (told more : List SentBy) → AllByRecursion (IsToldOf log) told → AllByRecursion (IsToldOf log) more → AllByRecursion (IsToldOf log) (told ++ more)
told_append log [] more all all_more = all_more
told_append log (s ∷ told) more all all_more = (all.0, told_append log told more all.1 all_more)

-- ---- passes by the numbers of their ends

pub end_stays : (ends more : List ℕ) (end by : ℕ) → slice_get ends end ≡ Some by → slice_get (ends ++ more) end ≡ Some by
end_stays [] more end by at = absurd (let e : None ≡ Some by = at in cc)
end_stays (x ∷ xs) more zero by at = at
end_stays (x ∷ xs) more (suc c) by at = end_stays xs more c by at

pub end_last : (ends : List ℕ) (by : ℕ) → slice_get (ends ++ by ∷ []) (length ends) ≡ Some by
end_last [] by = refl
end_last (x ∷ xs) by = end_last xs by

pub end_below : (ends : List ℕ) (end by : ℕ) → slice_get ends end ≡ Some by → end < length ends
end_below [] end by at = absurd (let e : None ≡ Some by = at in cc)
end_below (x ∷ xs) zero by at = omega arith
end_below (x ∷ xs) (suc c) by at = let h = end_below xs c by at in omega arith

pub one_end : (ends : List ℕ) (end a b : ℕ) → slice_get ends end ≡ Some a → slice_get ends end ≡ Some b → a ≡ b
one_end ends end a b at bt = same_Some a b (sym at ∙ bt)

pub positive : (n : ℕ) → (n ≡ 0 → ⊥) → 0 < n
positive zero not = absurd (not refl)
positive (suc n) not = omega arith

-- ---- what two lists are that begin with one another

module _ {A : Type 0} where
  pub no_items : (l : List A) → length l ≡ 0 → l ≡ []
  no_items [] none = refl
  no_items (x ∷ xs) none = absurd (omega arith)

  begins_both : (xs ys : List A) → BeginsWith xs ys → BeginsWith ys xs → xs ≡ ys
  begins_both xs ys a b =
      let rest_is : a.0 ≡ [] = no_items a.0 (
      let m = ap length a.1 in
      let n = ap length b.1 in
      let p = length-append ys a.0 in
      let q = length-append xs b.0 in
      omega arith
      ) in
      a.1 ∙ (ap (λ (l : List A). ys ++ l) rest_is ∙ append-nil ys)

pub told_part : (log : List Arrival) (told more : List SentBy) → AllByRecursion (IsToldOf log) (told ++ more) → AllByRecursion (IsToldOf log) more
told_part log [] more all = all
told_part log (s ∷ told) more all = told_part log told more all.1

-- what was taken of each peer begins with what it sent, and the other way round
pub all_taken : (taken : List Arrival) (peers : List SentBy) → AllByRecursion (IsToldOf taken) peers → AllByRecursion (BeginsWhatWasSent taken) peers → AllByRecursion (IsAllThatWasSent taken) peers
all_taken taken [] told begins = tt
all_taken taken (p ∷ ps) told begins = (begins_both (came_of p.peer taken) p.sent told.0 begins.0, all_taken taken ps told.1 begins.1)

-- a last take: what the peers sent was told, the take found nothing, and what was taken begins what they sent
pub all_at_last : (found : Option Arrival) (before heard taken after : Intake) (peers lent : List SentBy) → heard ≡ with_told before peers → lent ≡ peers → IfNone found (taken ≡ heard)
    → IfNone found (AllByRecursion (IsToldOf heard.taken) heard.told) → after ≡ taken → AllByRecursion (BeginsWhatWasSent taken.taken) lent
    → IfNone found (AllByRecursion (IsAllThatWasSent after.taken) peers)
all_at_last None before heard taken after peers lent heard_is lent_is same empty after_is begins =
    subst (λ (i : Intake). AllByRecursion (IsAllThatWasSent i.taken) peers) (sym (after_is ∙ same))
    (all_taken heard.taken peers
    (told_part heard.taken before.told peers (subst (λ (l : List SentBy). AllByRecursion (IsToldOf heard.taken) l) (ap (λ (i : Intake). i.told) heard_is) empty))
    (subst (λ (i : Intake). AllByRecursion (BeginsWhatWasSent i.taken) peers) same
    (subst (λ (l : List SentBy). AllByRecursion (BeginsWhatWasSent taken.taken) l) lent_is begins)))
all_at_last (Some arrival) before heard taken after peers lent heard_is lent_is same empty after_is begins = tt
