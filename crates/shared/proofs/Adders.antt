-- An adder, one step after the other.
use Rattle.std.proofs.Common.{◌≡◌, ◌≢◌, ◌⊎◌, ℕ, suc, ◌+◌, ◌-◌, ◌<◌, ◌≤◌, ◌^◌, min, Bool, true, false, true≢false, not, is_some, List, [], ◌∷◌, ◌++◌, length, Option, Some, None, refl, sym, ap, ◌∙◌, subst, inl, inr, ⊎_elim, append_assoc, append-nil, arith}
use Rattle.std.specs.Prelude.{slice_index, slice_set, IfNone, IfSome, option_map}
use Rattle.std.specs.List.{AllByRecursion}
use Rattle.std.proofs.lemmas.Bool.Decides.{eqb_tells}
use Rattle.std.proofs.lemmas.List.{length-append, get_or-set_same, get_or-set_other}
use Rattle.model.proofs.Lists.{all_append}
use Rattle.model.specs.Ledger.{Network}
use Rattle.model.specs.Journal.{JournalEntry, Journal, Knowledge}
use Rattle.inbox.specs.Arrivals.{Arrival, SentBy, Intake, peers, came_of, BeginsWith, IsCountOf, IsPeer}
use Rattle.inbox.specs.Telling.{IsAllThatWasSent}
use Rattle.inbox.proofs.ForCallers.{came_own, came_other}
use Rattle.shared.specs.Later.{IsLater, Same, Called, Looked, Met}
use Rattle.shared.specs.Arrivals.{arrivals_in}
use Rattle.shared.specs.Entries.{arrival_by}
use Rattle.shared.specs.declared.held.Held.{Held}
use Rattle.shared.specs.HeldArrivals.{held_arrival}
use Rattle.shared.specs.Adding.{Adding, held_in, IsInStep, IsArrival, IsBrought, HasAdded, HasTaken, IsGrownBy, IsAllBrought, IsBroughtCount}
use Rattle.shared.proofs.Arriving.{arrivals_push}

pub later_on : (network : Network) (a b c : Knowledge) → IsLater network a b → IsLater network b c → IsLater network a c
later_on network a b _ first (Same _) = first
later_on network a b _ first (Called _ m c call later is) = Called a m c call (later_on network a b m first later) is
later_on network a b _ first (Looked _ m c height later is) = Looked a m c height (later_on network a b m first later) is
later_on network a b _ first (Met _ m c other other' later is) = Met a m c other other' (later_on network a b m first later) is

begins_on : (c b a : List Arrival) → BeginsWith c b → BeginsWith b a → BeginsWith c a
begins_on c b a more first = (first.0 ++ more.0, more.1 ∙ (ap (λ (l : List Arrival). l ++ more.0) first.1 ∙ append_assoc a first.0 more.0))

begins_same : (a : List Arrival) → BeginsWith a a
begins_same a = ([], sym (append-nil a))

-- what is held came from a peer
pub held_peer : {S : Type 0} (o : Option (Held S)) (h : Held S) → o ≡ Some h → IfSome o (λ x. IsPeer (held_arrival x).peer) → IsPeer (held_arrival h).peer
held_peer {S} o h is from = subst (λ (x : Option (Held S)). IfSome x (λ y. IsPeer (held_arrival y).peer)) is from

-- whether anything is held
pub held_some : {S : Type 0} (o : Option (Held S)) → is_some (option_map held_arrival o) ≡ is_some o
held_some None = refl
held_some (Some h) = refl

-- ---- what was brought

pub added_none : (network : Network) (a : Adding) → IsInStep a → HasAdded network a a
added_none network a step =
    record { later = Same a.knows; brought = []; calls = sym (append-nil a.knows.calls); arrivals = tt; taken = begins_same a.intake.taken; in_step = step }

pub added_on : (network : Network) (a b c : Adding) → HasAdded network a b → HasAdded network b c → HasAdded network a c
added_on network a b c one two =
    record {
      later = later_on network a.knows b.knows c.knows one.later two.later;
      brought = one.brought ++ two.brought;
      calls = two.calls ∙ (ap (λ (j : Journal). j ++ two.brought) one.calls ∙ append_assoc a.knows.calls one.brought two.brought);
      arrivals = all_append IsArrival one.brought two.brought one.arrivals two.arrivals;
      taken = begins_on c.intake.taken b.intake.taken a.intake.taken two.taken one.taken;
      in_step = two.in_step;
    }

-- it takes where it holds nothing
pub taken_step : (b c : Adding) → IsInStep b → b.held ≡ None → HasTaken b c → IsInStep c
taken_step b c step none taken =
    ap (λ (k : Knowledge). arrivals_in k.calls ++ held_in c.held) taken.knows
    ∙ (ap (λ (l : List Arrival). l ++ held_in c.held) (sym (append-nil (arrivals_in b.knows.calls)) ∙ (ap (λ (o : Option Arrival). arrivals_in b.knows.calls ++ held_in o) (sym none) ∙ step)) ∙ sym taken.taken)

pub taken_on : (network : Network) (a b c : Adding) → HasAdded network a b → b.held ≡ None → HasTaken b c → HasAdded network a c
taken_on network a b c added none taken =
    record {
      later = subst (IsLater network a.knows) (sym taken.knows) added.later;
      brought = added.brought;
      calls = ap (λ (k : Knowledge). k.calls) taken.knows ∙ added.calls;
      arrivals = added.arrivals;
      taken = begins_on c.intake.taken b.intake.taken a.intake.taken (held_in c.held, taken.taken) added.taken;
      in_step = taken_step b c added.in_step none taken;
    }

-- it brings what it holds
pub brought_of : (network : Network) (before : Adding) (knows : Knowledge) (peer : ℕ) (bytes : List ℕ) → IsInStep before → IsPeer peer → before.held ≡ Some (record { peer = peer; bytes = bytes }) → IsBrought network before.knows peer bytes knows
    → HasAdded network before (record before { knows = knows; held = None })
brought_of network before knows peer bytes step from held is =
    let e : JournalEntry = arrival_by before.knows.caller peer bytes is.0 in
    let a : Arrival = record { peer = peer; bytes = bytes } in
    record {
      later = Called before.knows before.knows knows e (Same before.knows) is.1;
      brought = e ∷ [];
      calls = is.1.calls;
      arrivals = ((a, refl, from), tt);
      taken = begins_same before.intake.taken;
      in_step =
          append-nil (arrivals_in knows.calls) ∙ (ap arrivals_in is.1.calls ∙ (arrivals_push before.knows.calls e
          ∙ (ap (λ (o : Option Arrival). arrivals_in before.knows.calls ++ held_in o) (sym held) ∙ step)));
    }

pub one_more_call : (network : Network) (before : Adding) (knows : Knowledge) (peer : ℕ) (bytes : List ℕ) → IsBrought network before.knows peer bytes knows → length knows.calls ≡ length before.knows.calls + 1
one_more_call network before knows peer bytes is =
    let e : JournalEntry = arrival_by before.knows.caller peer bytes is.0 in
    ap length is.1.calls ∙ length-append before.knows.calls (e ∷ [])

-- ---- counts

pub grown_none : (calls : Journal) → IsGrownBy calls calls 0
grown_none calls more is fits = omega arith

pub grown_on : (a b c : Journal) (count many : ℕ) → IsGrownBy a b count → length a ≤ length b → length c ≡ length b + many → IsGrownBy a c (min (count + many) (2 ^ 64 - 1))
grown_on a b c count many grown long is more total fits =
    let here : length b ≡ length a + (length b - length a) = omega arith in
    let so_far : count ≡ length b - length a = grown (length b - length a) here (omega arith) in
    omega arith

pub longer_calls : (network : Network) (a b : Adding) → HasAdded network a b → length a.knows.calls ≤ length b.knows.calls
longer_calls network a b added = let l = ap length added.calls in omega (arith, length-append a.knows.calls added.brought)

-- of what was taken all was brought but what is held
at_place : (place peer : ℕ) → 1 ≤ peer → suc place ≡ peer → peer - 1 ≡ place
at_place place peer some is = omega arith

pub count_none : (a : Adding) (counts : List ℕ) (place : ℕ) → IsInStep a → a.held ≡ None → IsCountOf (slice_index counts place) (length (came_of (suc place) a.intake.taken)) → IsBroughtCount a place (slice_index counts place)
count_none a counts place step none counted fits =
    counted fits ∙ ap (λ (l : List Arrival). length (came_of (suc place) l)) (sym step ∙ (ap (λ (o : Option Arrival). arrivals_in a.knows.calls ++ held_in o) none ∙ append-nil (arrivals_in a.knows.calls)))

pub count_held : (a : Adding) (h : Arrival) (counts : List ℕ) (place : ℕ) → length counts ≡ peers → place < peers → IsPeer h.peer → IsInStep a → a.held ≡ Some h → IsCountOf (slice_index counts place) (length (came_of (suc place) a.intake.taken))
    → IsBroughtCount a place (slice_index (slice_set counts (h.peer - 1) (slice_index counts (h.peer - 1) - 1)) place)
count_held a h counts place many below peer step held counted fits =
    let taken : a.intake.taken ≡ arrivals_in a.knows.calls ++ h ∷ [] = sym step ∙ ap (λ (o : Option Arrival). arrivals_in a.knows.calls ++ held_in o) held in
    let total : slice_index counts place ≡ length (came_of (suc place) (arrivals_in a.knows.calls ++ h ∷ [])) = counted fits ∙ ap (λ (l : List Arrival). length (came_of (suc place) l)) taken in
    let (low, high) = peer in
    ⊎_elim
    (λ (own : h.peer ≡ suc place).
    let here : h.peer - 1 ≡ place = at_place place h.peer low (sym own) in
    let grown = ap length (came_own (suc place) (arrivals_in a.knows.calls) h own) in
    let one = length-append (came_of (suc place) (arrivals_in a.knows.calls)) (h.bytes ∷ []) in
    ap (λ (k : ℕ). slice_index (slice_set counts k (slice_index counts k - 1)) place) here
    ∙ (get_or-set_same counts place (slice_index counts place - 1) 0 (omega arith) ∙ (omega arith)))
    (λ (other : h.peer ≢ suc place).
    let away : place ≢ h.peer - 1 = λ e. other (omega arith) in
    let grown = ap length (came_other (suc place) (arrivals_in a.knows.calls) h other) in
    get_or-set_other counts (h.peer - 1) place (slice_index counts (h.peer - 1) - 1) 0 away ∙ (total ∙ grown))
    (own_or_other h.peer (suc place))
  where
    own_or_other : (m n : ℕ) → (m ≡ n) ⊎ (m ≢ n)
    own_or_other m n = ⊎_elim (λ t. inl t.1) (λ t. inr t.1) (eqb_tells m n)

-- ---- all that was sent

pub all_brought : (a : Adding) (sent : List SentBy) → IsInStep a → a.held ≡ None → AllByRecursion (IsAllThatWasSent a.intake.taken) sent → AllByRecursion (IsAllBrought a.knows.calls) sent
all_brought a [] step none all = tt
all_brought a (p ∷ ps) step none all =
    let same : arrivals_in a.knows.calls ≡ a.intake.taken = sym (append-nil (arrivals_in a.knows.calls)) ∙ (ap (λ (o : Option Arrival). arrivals_in a.knows.calls ++ held_in o) (sym none) ∙ step) in
    (ap (came_of p.peer) same ∙ all.0, all_brought a ps step none all.1)

-- a last take that found nothing
pub last_taken : (a : Adding) (peers : List SentBy) (none : Bool) → is_some a.held ≡ not none → none ≡ true → IfNone a.held (AllByRecursion (IsAllThatWasSent a.intake.taken) peers) → (a.held ≡ None) × AllByRecursion (IsAllThatWasSent a.intake.taken) peers
last_taken a peers none test is all = found a.held (test ∙ ap not is) all
  where
    found : (held : Option Arrival) → is_some held ≡ false → IfNone held (AllByRecursion (IsAllThatWasSent a.intake.taken) peers) → (held ≡ None) × AllByRecursion (IsAllThatWasSent a.intake.taken) peers
    found None is all = (refl, all)
    found (Some arrival) is all = absurd (true≢false is)

-- nothing is held, as it is seen
pub none_held : (held : Option Arrival) (none : Bool) → is_some held ≡ not none → none ≡ true → held ≡ None
none_held None none test is = refl
none_held (Some arrival) none test is = absurd (true≢false (test ∙ ap not is))

-- ---- on the way

-- at most one is held
held_one : (o : Option Arrival) → length (held_in o) ≤ 1
held_one None = omega arith
held_one (Some arrival) = omega arith

-- a take is of at most one
pub takes_one : (now taken : Adding) → HasTaken now taken → length taken.intake.taken ≤ length now.intake.taken + 1
takes_one now taken takes =
    let t = ap length takes.taken in
    let l = length-append now.intake.taken (held_in taken.held) in
    let o = held_one taken.held in
    omega arith

-- it holds nothing, has brought so many since, and has taken at most as many as it had turns
pub record IsRunning (network : Network) (before now : Adding) (count turn : ℕ) : Type 0 where
  pub added : HasAdded network before now
  pub none : now.held ≡ None
  pub many : IsGrownBy before.knows.calls now.knows.calls count
  pub turns : length now.intake.taken ≤ length before.intake.taken + turn

pub grown_of : (a b : Journal) (n : ℕ) → length b ≡ length a + n → IsGrownBy a b n
grown_of a b n long more is fits = omega arith

pub running_on : (network : Network) (before now taken after : Adding) (count many turn : ℕ) → IsRunning network before now count turn → HasTaken now taken → HasAdded network taken after → after.held ≡ None → length after.knows.calls ≡ length taken.knows.calls + many → after.intake ≡ taken.intake
    → IsRunning network before after (min (count + many) (2 ^ 64 - 1)) (turn + 1)
running_on network before now taken after count many turn so_far takes added none long same =
    let before_it = taken_on network before now taken so_far.added so_far.none takes in
    record {
      added = added_on network before taken after before_it added;
      none = none;
      many = grown_on before.knows.calls taken.knows.calls after.knows.calls count many
          (subst (λ (k : Knowledge). IsGrownBy before.knows.calls k.calls count) (sym takes.knows) so_far.many)
          (longer_calls network before taken before_it) long;
      turns =
          let a = ap (λ (i : Intake). length i.taken) same in
          let t = takes_one now taken takes in
          let n = so_far.turns in
          omega arith;
    }
