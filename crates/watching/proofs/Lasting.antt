-- An index takes whatever its follower is told.
use Rattle.std.proofs.Common.{◌≡◌, ℕ, zero, suc, ◌+◌, ◌-◌, ◌<◌, ◌≤◌, min, max, Bool, true, false, List, [], ◌∷◌, ◌++◌, length, take, Option, Some, None, ◌⊎◌, inl, inr, refl, sym, ap, subst, ◌∙◌, append-nil, eq-eqb, eqb-true, arith, length-append}
use Rattle.std.specs.Prelude.{◌==◌, slice_set}
use Rattle.std.specs.List.{AllByRecursion}
use Rattle.std.proofs.lemmas.List.{length-take, take-take}
use Rattle.std.proofs.lemmas.Option.{same_Some}
use Rattle.model.specs.Utxo.{Utxo}
use Rattle.model.specs.Block.{Block, SpellsBlock}
use Rattle.model.specs.Genesis.{opening_utxo}
use Rattle.model.specs.Ledger.{Network}
use Rattle.model.specs.Chain.{Point, genesis_tip, tip_point, IsLinked, IsOpening, BeginsWith, immutable_length}
use Rattle.model.specs.Follower.{Follower, Followers, standing_at, follower_of, free_id, with_opened, IsMoved, AreMoved, Instruction, Stay, AddBlock, RollBack, IsNext, IsReplayed, AreReplayed}
use Rattle.model.specs.History.{State, opening, Event, Arrive, Submit, Open, Next, Forward, Close, Discard, Reply, Kept, Refused, Submitted, Opened, TooManyFollowers, Instructed, Forwarded, Closed, UnknownFollower, Discarded, NotBeside, OutOfMemory, Step, Entry, IsRun, IsLegal, SetsFollower, told_to, instructions_to}
use Rattle.model.proofs.BlockTexts.{one_block}
use Rattle.model.proofs.LegalHistories.{IsSoundState, opening_sound, step_sound, run_sound, run_one, legal_sound, GoesOn, step_goes_on}
use Rattle.model.proofs.FollowerSteps.{IsSoundFollower, begins_not_longer, begins_take, begins_through, begins_less, begins_fewer, next_begins, next_replayed, tip_of_part, moved_at, opened_at, set_at}
use Rattle.model.proofs.ToldChains.{chain_spelled}
use Rattle.watching.specs.Chains.{Watched, with_block, back_by, IsIndexOf}
use Rattle.watching.specs.Ledgers.{IsTaken, AreTaken, IsIndexOfTold}
use Rattle.watching.specs.Due.{AreWithin, ReachesBack}
use Rattle.watching.specs.Settled.{HasFollowed, ToldAreTaken}
use Rattle.watching.proofs.Following.{follows_told, taken_linked}
use Rattle.watching.proofs.Reaching.{next_taken, points_kept, reach_stays}
use Rattle.watching.proofs.ForCallers.{nobody, set_here, opened_here, IsOwn, Stays, same_told, step_stays}

-- ---- the furthest that a follower was told

-- the follower was told no more blocks than this, nor would be told to go back more than k blocks behind
record IsWithin (k furthest : ℕ) (chain : List Block) (f : Follower) : Type 0 where
  told : length f.told ≤ furthest
  selected : furthest ≤ length chain
  agreed : furthest ≤ length f.agreed + k

within_begun : (k : ℕ) (chain part : List Block) → BeginsWith chain part → IsWithin k (length part) chain (standing_at part)
within_begun k chain part begins = record { told = omega arith; selected = begins_not_longer chain part begins; agreed = omega arith }

-- one instruction more
record IsFurther (k furthest : ℕ) (chain : List Block) (f : Follower) : Type 0 where
  most : ℕ
  more : furthest ≤ most
  within : IsWithin k most chain f

within_next : (k furthest : ℕ) (chain : List Block) (f : Follower) (instruction : Instruction) (g : Follower) → IsSoundFollower k chain f → IsNext chain f instruction g → IsWithin k furthest chain f → IsFurther k furthest chain g
within_next k furthest chain f Stay g sound next within = record { most = furthest; more = omega arith; within = subst (IsWithin k furthest chain) (sym next.2) within }
within_next k furthest chain f (RollBack point) g sound next within =
    let told = within.told in
    let selected = within.selected in
    let agreed = within.agreed in
    let less = begins_not_longer f.told f.agreed sound.begins in
    let here : IsWithin k furthest chain (standing_at f.agreed) = record { told = omega (arith, told, less); selected = selected; agreed = agreed } in
    record { most = furthest; more = omega arith; within = subst (IsWithin k furthest chain) (sym next.2) here }
within_next k furthest chain f (AddBlock bytes) g sound next within =
    let told = within.told in
    let selected = within.selected in
    let agreed = within.agreed in
    let b = next.0 in
    let most = max furthest (length f.told + 1) in
    let due = next.1.0 in
    let long : length g.told ≡ length f.told + 1 = ap (λ (h : Follower). length h.told) next.3 ∙ length-append f.told (b ∷ []) in
    let also : length g.agreed ≡ length f.agreed + 1 = ap (λ (h : Follower). length h.agreed) next.3 ∙ length-append f.agreed (b ∷ []) in
    let few = begins_not_longer chain g.told (next_begins k chain f (AddBlock bytes) g sound next) in
    record { most = most; more = omega arith; within = record { told = omega (arith, long); selected = omega (arith, selected, few, long); agreed = omega (arith, agreed, also, due) } }

-- the selected chain changes
within_moved : (network : Network) (furthest : ℕ) (old new : List Block) (f g : Follower) → GoesOn network old new → IsSoundFollower network.genesis.k old f → IsMoved new f g → IsWithin network.genesis.k furthest old f → IsWithin network.genesis.k furthest new g
within_moved network furthest old new f g goes sound moved within =
    let k = network.genesis.k in
    let told = ap length moved.told in
    let n = min (length f.agreed) (length old - k) in
    let part = take n old in
    let size : length part ≡ n = length-take n old ∙ omega arith in
    let begins : BeginsWith new (take (length old - k) old) = begins_fewer old new (length old - k) (immutable_length network old) (omega arith) goes.begins in
    let of_agreed : BeginsWith f.agreed part = begins_less old part f.agreed (begins_take n old) sound.selected (omega (arith, size)) in
    let cut : part ≡ take n (take (length old - k) old) = sym (take-take n (length old - k) old (omega arith)) in
    let of_new : BeginsWith new part = begins_through new (take (length old - k) old) part begins (subst (BeginsWith (take (length old - k) old)) (sym cut) (begins_take n (take (length old - k) old))) in
    let enough : n ≤ length g.agreed = subst (λ (m : ℕ). m ≤ length g.agreed) size (moved.agreed.longest part of_agreed of_new) in
    let w_told = within.told in
    let w_selected = within.selected in
    let w_agreed = within.agreed in
    let longer = goes.not_shorter in
    record { told = omega (arith, told, w_told); selected = omega (arith, w_selected, longer); agreed = omega (arith, enough, w_agreed, w_selected) }

-- ---- the entries that are a follower's own

same_or_not : (a b : ℕ) → ((a ≡ b) → ⊥) ⊎ (a ≡ b)
same_or_not a b = by (a == b) refl
  where
    by : (test : Bool) → (a == b) ≡ test → ((a ≡ b) → ⊥) ⊎ (a ≡ b)
    by true is = inr (eqb-true a b is)
    by false is = inl (λ same. let clash : true ≡ false = sym (eq-eqb a b same) ∙ is in cc)

own_or_not : (id : ℕ) (event : Event) (reply : Reply) → (IsOwn id event reply → ⊥) ⊎ IsOwn id event reply
own_or_not id (Next at) (Instructed instruction) = same_or_not at id
own_or_not id (Forward at points) (Forwarded (Some point)) = same_or_not at id
own_or_not id (Close at) Closed = same_or_not at id
own_or_not id event reply = inl (λ own. own)

-- it is told an instruction
record IsToldNext (s : State) (id : ℕ) (f : Follower) (event : Event) (reply : Reply) (t : State) : Type 0 where
  instruction : Instruction
  follower : Follower
  is_open : follower_of t.followers id ≡ Some follower
  next : IsNext s.chain f instruction follower
  same : t.chain ≡ s.chain
  told : told_to id event reply ≡ instruction ∷ []

abbrev Sets : ℕ → Event → Reply → Type 0
Sets id event reply = (s : State) (chain : List Block) → SetsFollower s id event reply chain → ⊥

abbrev NeverSet : ℕ → List Entry → Type 0
NeverSet id es = AllByRecursion (λ e. (s : State) (chain : List Block) → SetsFollower s id e.event e.reply chain → ⊥) es

absent : (found : Option Follower) → ((f : Follower) → found ≡ Some f → ⊥) → found ≡ None
absent None none = refl
absent (Some f) none = absurd (none f refl)

gone_there : (fs : Followers) (id : ℕ) → follower_of (slice_set fs id None) id ≡ None
gone_there fs id = absent (follower_of (slice_set fs id None) id) (λ f is. elim (set_at fs id id None f is) [
  | inl before ↦ before.0 refl
  | inr now ↦ nobody f now.1
])

-- or closed
own_step : (network : Network) (s : State) (event : Event) (reply : Reply) (t : State) (id : ℕ) (f : Follower) → Step network s event reply t → follower_of s.followers id ≡ Some f → IsOwn id event reply → Sets id event reply → IsToldNext s id f event reply t ⊎ (follower_of t.followers id ≡ None)
own_step network s (Next at) (Instructed instruction) t id f step is own never =
    let here : follower_of s.followers at ≡ Some f = ap (follower_of s.followers) own ∙ is in
    let first : step.old ≡ f = same_Some step.old f (sym step.is_open ∙ here) in
    let there : follower_of t.followers at ≡ Some step.new = ap (λ (u : State). follower_of u.followers at) step.after ∙ set_here s.followers at step.old step.new step.is_open in
    inl (record {
      instruction = instruction;
      follower = step.new;
      is_open = subst (λ (n : ℕ). follower_of t.followers n ≡ Some step.new) own there;
      next = subst (λ (g : Follower). IsNext s.chain g instruction step.new) first step.next;
      same = ap (λ (u : State). u.chain) step.after;
      told = rw (eq-eqb at id own) refl;
    })
own_step network s (Forward at points) (Forwarded (Some point)) t id f step is own never = absurd (never s (take point.number s.chain) (own, refl))
own_step network s (Close at) Closed t id f step is own never =
    inr (subst (λ (n : ℕ). follower_of t.followers n ≡ None) own (ap (λ (u : State). follower_of u.followers at) step.after ∙ gone_there s.followers at))
own_step network s event reply t id f step is own never = absurd own

-- ---- a follower that isn't open stays so until it is opened

same_absent : (s t : State) (id : ℕ) → t.followers ≡ s.followers → follower_of s.followers id ≡ None → follower_of t.followers id ≡ None
same_absent s t id same none = ap (λ (fs : Followers). follower_of fs id) same ∙ none

was_absent : (found : Option Follower) (f : Follower) → found ≡ None → found ≡ Some f → ⊥
was_absent found f none some = nobody f (sym none ∙ some)

set_absent : (s t : State) (at id : ℕ) (now : Option Follower) → t.followers ≡ slice_set s.followers at now → (at ≡ id → now ≡ None) → follower_of s.followers id ≡ None → follower_of t.followers id ≡ None
set_absent s t at id now after closed none = absent (follower_of t.followers id) (λ g is.
    elim (set_at s.followers at id now g (ap (λ (fs : Followers). follower_of fs id) (sym after) ∙ is)) [
      | inl before ↦ was_absent (follower_of s.followers id) g none before.1
      | inr here ↦ was_absent now g (closed here.0) here.1
    ])

step_absent : (network : Network) (s : State) (event : Event) (reply : Reply) (t : State) (id : ℕ) → Step network s event reply t → Sets id event reply → follower_of s.followers id ≡ None → follower_of t.followers id ≡ None
step_absent network s (Arrive bytes) (Kept back added) t id step never none =
    absent (follower_of t.followers id) (λ g is. let was = moved_at t.chain s.followers t.followers id g step.followers is in was_absent (follower_of s.followers id) was.0 none was.1)
step_absent network s (Arrive bytes) (Refused refusal) t id step never none = same_absent s t id (ap (λ (u : State). u.followers) step.1) none
step_absent network s (Submit bytes) (Submitted answer) t id step never none = same_absent s t id (ap (λ (u : State). u.followers) step.after) none
step_absent network s Open (Opened new) t id step never none =
    absent (follower_of t.followers id) (λ g is. elim (opened_at s.followers id g (ap (λ (u : State). follower_of u.followers id) (sym step.after) ∙ is)) [
      | inl before ↦ was_absent (follower_of s.followers id) g none before.1
      | inr here ↦ never s [] (step.is_free ∙ here.0, refl)
    ])
step_absent network s Open TooManyFollowers t id step never none = same_absent s t id (ap (λ (u : State). u.followers) step.1) none
step_absent network s (Next at) (Instructed instruction) t id step never none =
    set_absent s t at id (Some step.new) (ap (λ (u : State). u.followers) step.after) (λ same. absurd (was_absent (follower_of s.followers at) step.old (ap (follower_of s.followers) same ∙ none) step.is_open)) none
step_absent network s (Next at) UnknownFollower t id step never none = same_absent s t id (ap (λ (u : State). u.followers) step.1) none
step_absent network s (Forward at points) (Forwarded None) t id step never none = same_absent s t id (ap (λ (u : State). u.followers) step.after) none
step_absent network s (Forward at points) (Forwarded (Some point)) t id step never none =
    set_absent s t at id (Some (standing_at (take point.number s.chain))) (ap (λ (u : State). u.followers) step.after) (λ same. absurd (never s (take point.number s.chain) (same, refl))) none
step_absent network s (Forward at points) UnknownFollower t id step never none = same_absent s t id (ap (λ (u : State). u.followers) step.1) none
step_absent network s (Close at) Closed t id step never none = set_absent s t at id None (ap (λ (u : State). u.followers) step.after) (λ same. refl) none
step_absent network s (Close at) UnknownFollower t id step never none = same_absent s t id (ap (λ (u : State). u.followers) step.1) none
step_absent network s (Discard hash) Discarded t id step never none = same_absent s t id (ap (λ (u : State). u.followers) step.after) none
step_absent network s (Discard hash) NotBeside t id step never none = same_absent s t id (ap (λ (u : State). u.followers) step.1) none
step_absent network s event OutOfMemory t id step never none = same_absent s t id (ap (λ (u : State). u.followers) step) none
step_absent network s event reply t id step never none = absurd step

run_absent : (network : Network) (s : State) (es : List Entry) (t : State) (id : ℕ) → IsRun network s es t → NeverSet id es → follower_of s.followers id ≡ None → follower_of t.followers id ≡ None
run_absent network s [] t id run never none = ap (λ (u : State). follower_of u.followers id) run ∙ none
run_absent network s (e ∷ es) t id run never none = run_absent network run.0 es t id run.2 never.1 (step_absent network s e.event e.reply run.0 id run.1 never.0 none)

-- ---- over the entries since a follower was set

-- an instruction, carried out, gives one chain
one_replayed : (i : Instruction) (old new other : List Block) → IsReplayed old i new → IsReplayed old i other → new ≡ other
one_replayed Stay old new other first second = first ∙ sym second
one_replayed (AddBlock bytes) old new other first second =
    first.2 ∙ ap (λ (b : Block). old ++ b ∷ []) (one_block first.0 second.0 bytes first.1 second.1) ∙ sym second.2
one_replayed (RollBack point) old new other first second = first.0 ∙ sym second.0

-- how far it was told from here on
record IsToldWithin (k furthest : ℕ) (from : List Block) (instructions : List Instruction) (chain : List Block) (f : Follower) : Type 0 where
  most : ℕ
  more : furthest ≤ most
  are : AreWithin most from instructions
  within : IsWithin k most chain f

-- the same of the entries behind the first one, from each follower that stands there after it
abbrev FromThere : (network : Network) → State → List Entry → State → ℕ → Follower → Type 0
FromThere network mid es t id g = (f : Follower) (furthest : ℕ) → follower_of mid.followers id ≡ Some f → IsWithin network.genesis.k furthest mid.chain f
    → IsToldWithin network.genesis.k furthest f.told (instructions_to id es) t.chain g

-- the first entry isn't the follower's own
after_other : (network : Network) (s : State) (e : Entry) (mid : State) (es : List Entry) (t : State) (id : ℕ) (f g : Follower) (furthest : ℕ) → IsSoundState network s → Step network s e.event e.reply mid → follower_of s.followers id ≡ Some f → IsWithin network.genesis.k furthest s.chain f
    → Stays s id f e.event e.reply mid → FromThere network mid es t id g → IsToldWithin network.genesis.k furthest f.told (told_to id e.event e.reply ++ instructions_to id es) t.chain g
after_other network s e mid es t id f g furthest sound step was within stays later =
    let here : IsWithin network.genesis.k furthest mid.chain stays.follower = elim stays.moved [
      | inl same ↦ subst (λ (h : Follower). IsWithin network.genesis.k furthest mid.chain h) (sym same.0) (subst (λ (c : List Block). IsWithin network.genesis.k furthest c f) (sym same.1) within)
      | inr moves ↦ within_moved network furthest s.chain mid.chain f stays.follower (step_goes_on network s e.event e.reply mid step) (sound.followers id f was) moves within
    ] in
    let rest = later stays.follower furthest stays.is_open here in
    let told : stays.follower.told ≡ f.told = same_told s f mid stays.follower stays.moved in
    record {
      most = rest.most;
      more = rest.more;
      are = subst (λ (is : List Instruction). AreWithin rest.most f.told (is ++ instructions_to id es)) (sym stays.silent) (subst (λ (c : List Block). AreWithin rest.most c (instructions_to id es)) told rest.are);
      within = rest.within;
    }

-- it tells the follower an instruction
after_told : (network : Network) (s : State) (e : Entry) (mid : State) (es : List Entry) (t : State) (id : ℕ) (f g : Follower) (furthest : ℕ) → IsSoundState network s → follower_of s.followers id ≡ Some f → IsWithin network.genesis.k furthest s.chain f
    → IsToldNext s id f e.event e.reply mid → FromThere network mid es t id g → IsToldWithin network.genesis.k furthest f.told (told_to id e.event e.reply ++ instructions_to id es) t.chain g
after_told network s e mid es t id f g furthest sound was within told later =
    let sound_f = sound.followers id f was in
    let further = within_next network.genesis.k furthest s.chain f told.instruction told.follower sound_f told.next within in
    let here : IsWithin network.genesis.k further.most mid.chain told.follower = subst (λ (c : List Block). IsWithin network.genesis.k further.most c told.follower) (sym told.same) further.within in
    let rest = later told.follower further.most told.is_open here in
    let replayed : IsReplayed f.told told.instruction told.follower.told = next_replayed network.genesis.k s.chain f told.instruction told.follower sound.valid.linked (chain_spelled network s sound) sound_f told.next in
    let first = within.told in
    let more = further.more in
    let most = rest.more in
    let whole : AreWithin rest.most f.told (told.instruction ∷ instructions_to id es) =
    (omega (arith, first, more, most), λ next is_next. subst (λ (c : List Block). AreWithin rest.most c (instructions_to id es)) (one_replayed told.instruction f.told told.follower.told next replayed is_next) rest.are) in
    record {
      most = rest.most;
      more = omega (arith, more, most);
      are = subst (λ (is : List Instruction). AreWithin rest.most f.told (is ++ instructions_to id es)) (sym told.told) whole;
      within = rest.within;
    }

run_within : (network : Network) (s : State) (es : List Entry) (t : State) (id : ℕ) (f g : Follower) (furthest : ℕ) → IsSoundState network s → IsRun network s es t → NeverSet id es → follower_of s.followers id ≡ Some f → follower_of t.followers id ≡ Some g → IsWithin network.genesis.k furthest s.chain f
    → IsToldWithin network.genesis.k furthest f.told (instructions_to id es) t.chain g
run_within network s [] t id f g furthest sound run never was is within =
    let same : f ≡ g = same_Some f g (sym was ∙ ap (λ (u : State). follower_of u.followers id) (sym run) ∙ is) in
    record {
      most = furthest;
      more = omega arith;
      are = within.told;
      within = subst (λ (h : Follower). IsWithin network.genesis.k furthest t.chain h) same (subst (λ (u : State). IsWithin network.genesis.k furthest u.chain f) (sym run) within);
    }
run_within network s (e ∷ es) t id f g furthest sound run never was is within =
    let mid = run.0 in
    let good = step_sound network s e.event e.reply mid sound run.1 in
    let later : FromThere network mid es t id g = λ h most there here. run_within network mid es t id h g most good run.2 never.1 there is here in
    elim (own_or_not id e.event e.reply) [
      | inl other ↦ after_other network s e mid es t id f g furthest sound run.1 was within (step_stays network s e.event e.reply mid id f run.1 was other) later
      | inr own ↦ elim (own_step network s e.event e.reply mid id f run.1 was own never.0) [
        | inl told ↦ after_told network s e mid es t id f g furthest sound was within told later
        | inr closed ↦ absurd (was_absent (follower_of t.followers id) g (run_absent network mid es t id run.2 never.1 closed) is)
      ]
    ]

-- ---- from the beginning of the history

-- where a run is two, one after the other
record IsParted (network : Network) (s : State) (es : List Entry) (e : Entry) (fs : List Entry) (t : State) : Type 0 where
  before : State
  first : IsRun network s es before
  after : State
  step : Step network before e.event e.reply after
  rest : IsRun network after fs t

part : (network : Network) (s : State) (es : List Entry) (e : Entry) (fs : List Entry) (t : State) → IsRun network s (es ++ e ∷ fs) t → IsParted network s es e fs t
part network s [] e fs t run = record { before = s; first = refl; after = run.0; step = run.1; rest = run.2 }
part network s (x ∷ es) e fs t run =
    let later = part network run.0 es e fs t run.2 in
    record { before = later.before; first = (run.0, run.1, later.first); after = later.after; step = later.step; rest = later.rest }

-- the follower that an entry sets stands where it is set
set_stands : (network : Network) (s : State) (event : Event) (reply : Reply) (t : State) (id : ℕ) (chain : List Block) → Step network s event reply t → SetsFollower s id event reply chain → (follower_of t.followers id ≡ Some (standing_at chain)) × BeginsWith t.chain chain
set_stands network s Open (Opened new) t id chain step sets =
    let here : follower_of t.followers new ≡ Some (standing_at []) = ap (λ (u : State). follower_of u.followers new) step.after ∙ ap (follower_of (with_opened s.followers)) step.is_free ∙ opened_here s.followers in
    (subst (λ (c : List Block). follower_of t.followers id ≡ Some (standing_at c)) (sym sets.1) (subst (λ (n : ℕ). follower_of t.followers n ≡ Some (standing_at [])) sets.0 here), subst (BeginsWith t.chain) (sym sets.1) refl)
set_stands network s (Forward at points) (Forwarded (Some point)) t id chain step sets =
    let cut = take point.number s.chain in
    let here : follower_of t.followers at ≡ Some (standing_at cut) = ap (λ (u : State). follower_of u.followers at) step.after ∙ set_here s.followers at step.old (standing_at cut) step.is_open in
    let same : t.chain ≡ s.chain = ap (λ (u : State). u.chain) step.after in (
      subst (λ (c : List Block). follower_of t.followers id ≡ Some (standing_at c)) (sym sets.1) (subst (λ (n : ℕ). follower_of t.followers n ≡ Some (standing_at cut)) sets.0 here),
      subst (BeginsWith t.chain) (sym sets.1) (subst (λ (c : List Block). BeginsWith c cut) (sym same) (begins_take point.number s.chain)),
    )
set_stands network s event reply t id chain step sets = absurd sets

-- how far an index that followed it reaches back
reached : (network : Network) (history : List Entry) (state : State) (id : ℕ) (f : Follower) (w : Watched) → IsOpening network → IsLegal network history state → follower_of state.followers id ≡ Some f → (followed : HasFollowed network history id f.told w)
    → (most : ℕ) × IsWithin network.genesis.k most state.chain f × ReachesBack most (length followed.was_told.start) (length f.told) w
reached network history state id f w opens legal is followed =
    let was = followed.was_told in
    let instructions = instructions_to id was.since in
    let parted = part network (opening network) was.past was.set was.since state (subst (λ (es : List Entry). IsRun network (opening network) es state) was.split legal) in
    let begun = opening_sound network opens in
    let same : parted.before ≡ was.state = run_one network (opening network) was.past parted.before was.state begun parted.first was.legal in
    let sets : SetsFollower parted.before id was.set.event was.set.reply was.start = subst (λ (u : State). SetsFollower u id was.set.event was.set.reply was.start) (sym same) was.sets in
    let sound = step_sound network parted.before was.set.event was.set.reply parted.after (run_sound network (opening network) was.past parted.before begun parted.first) parted.step in
    let stands = set_stands network parted.before was.set.event was.set.reply parted.after id was.start parted.step sets in
    let far = run_within network parted.after was.since state id (standing_at was.start) f (length was.start) sound parted.rest was.never_again stands.0 is (within_begun network.genesis.k parted.after.chain was.start stands.1) in
    let none : was.start ++ [] ≡ was.start = append-nil was.start in
    let long : length (was.start ++ []) ≡ length was.start = ap length none in
    let reach = reach_stays far.most (opening_utxo network.genesis) was.start [] f.told instructions followed.began w followed.begins followed.taken
    (subst (λ (c : List Block). AreReplayed c instructions f.told) (sym none) was.replayed)
    (subst (λ (c : List Block). AreWithin far.most c instructions) (sym none) far.are)
    (inl (omega (arith, long))) in
    (far.most, far.within, reach)

pub told_are_taken : ToldAreTaken
told_are_taken network history state id f w opens legal is followed start k Stay next is_next = (w, refl)
told_are_taken network history state id f w opens legal is followed start k (AddBlock bytes) next is_next =
    let was = followed.was_told in
    let granted = opening_utxo network.genesis in
    let none : was.start ++ [] ≡ was.start = append-nil was.start in
    let index = follows_told granted was.start [] f.told (instructions_to id was.since) followed.began w followed.begins followed.taken (subst (λ (c : List Block). AreReplayed c (instructions_to id was.since) f.told) (sym none) was.replayed) in
    let sound = legal_sound network history state opens legal in
    let b = is_next.0 in
    let begins : BeginsWith state.chain next.told = next_begins network.genesis.k state.chain f (AddBlock bytes) next (sound.followers id f is) is_next in
    let linked : IsLinked genesis_tip next.told = subst (IsLinked genesis_tip) begins (taken_linked genesis_tip (length next.told) state.chain sound.valid.linked) in
    let goes : next.told ≡ (was.start ++ index.since) ++ b ∷ [] = ap (λ (h : Follower). h.told) is_next.3 ∙ ap (λ (c : List Block). c ++ b ∷ []) index.goes_on in
    let follows = next_taken granted was.start index.since w b index.index (subst (IsLinked genesis_tip) goes linked) in
    (with_block w b, (b, subst (SpellsBlock b) (sym is_next.2) (chain_spelled network state sound (length f.told) b is_next.1.1), follows, refl))
told_are_taken network history state id f w opens legal is followed start k (RollBack point) next is_next =
    let was = followed.was_told in
    let granted = opening_utxo network.genesis in
    let none : was.start ++ [] ≡ was.start = append-nil was.start in
    let index = follows_told granted was.start [] f.told (instructions_to id was.since) followed.began w followed.begins followed.taken (subst (λ (c : List Block). AreReplayed c (instructions_to id was.since) f.told) (sym none) was.replayed) in
    let sound = legal_sound network history state opens legal in
    let good = sound.followers id f is in
    let replayed = next_replayed network.genesis.k state.chain f (RollBack point) next sound.valid.linked (chain_spelled network state sound) good is_next in
    let number : point.number ≡ length f.agreed = ap (λ (p : Point). p.number) is_next.1 ∙ tip_of_part state.chain f.agreed sound.valid.linked good.selected in
    let (most, within, reach) = reached network history state id f w opens legal is followed in
    let agreed = within.agreed in
    let zero_long : length was.start ≡ 0 = ap length start in
    let whole : length (was.start ++ index.since) ≡ length f.told = ap length (sym index.goes_on) in
    let enough : length (was.start ++ index.since) ≤ point.number + length w.older = elim reach [
      | inl near ↦ omega (arith, near, zero_long, whole)
      | inr far ↦ omega (arith, far, agreed, number, k, whole)
    ] in
    let can = points_kept granted was.start index.since next.told w point index.index (subst (λ (c : List Block). IsReplayed c (RollBack point) next.told) index.goes_on replayed) enough in
    (back_by can.back w, record { back = can.back; within = can.within; is = refl {a = back_by can.back w}; ends = can.ends })
