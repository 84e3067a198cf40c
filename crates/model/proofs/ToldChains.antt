-- What followers were told, replayed, and the chain theorem.
use Rattle.std.proofs.Common.{◌≡◌, ℕ, zero, suc, ◌-◌, ◌≤◌, List, [], ◌∷◌, ◌++◌, length, take, Contains, Some, None, refl, sym, ap, subst, ◌∙◌, inl, inr, append_assoc, append-nil, eq-eqb, ne_eqb, arith}
use Rattle.std.specs.Prelude.{slice_set, slice_get}
use Rattle.std.specs.List.{AllByRecursion}
use Rattle.model.specs.Block.{Block, SpellsBlock, block_text}
use Rattle.model.specs.Ledger.{Network}
use Rattle.model.specs.Chain.{IsOpening, BeginsWith}
use Rattle.model.specs.Follower.{Follower, Followers, standing_at, follower_of, Instruction, IsReplayed, AreReplayed, left_to_tell}
use Rattle.model.specs.History.{State, opening, Event, Arrive, Submit, Open, Next, Forward, Close, Discard, Reply, Kept, Refused, Submitted, Opened, TooManyFollowers, Instructed, Forwarded, Closed, UnknownFollower, Discarded, NotBeside, OutOfMemory, Step, Entry, IsRun, IsLegal, WasSelected, SetsFollower, told_to, instructions_to, AreTold, WasTold, ChainTheorem}
use Rattle.model.proofs.Lists.{all_of_member, all_push}
use Rattle.model.proofs.LegalHistories.{HasItsText, IsSoundState, opening_sound, step_sound, legal_sound}
use Rattle.model.proofs.FollowerSteps.{begins_take, moved_at, opened_at, set_at, next_begins, next_replayed, next_at_end, next_leaves, nothing_left}

-- ---- histories

pub run_on : (network : Network) (s : State) (es : List Entry) (m : State) (e : Entry) (t : State) → IsRun network s es m → Step network m e.event e.reply t → IsRun network s (es ++ e ∷ []) t
run_on network s [] m e t run step = (t, subst (λ (u : State). Step network u e.event e.reply t) run step, refl)
run_on network s (x ∷ xs) m e t run step = (run.0, run.1, run_on network run.0 xs m e t run.2 step)

-- ---- replayed instructions

pub replay_on : (a b c : List Block) (xs ys : List Instruction) → AreReplayed a xs b → AreReplayed b ys c → AreReplayed a (xs ++ ys) c
replay_on a b c [] ys first second = subst (λ (d : List Block). AreReplayed d ys c) first second
replay_on a b c (x ∷ xs) ys first second = (first.0, first.1, replay_on first.0 b c xs ys first.2 second)

pub instructions_push : (id : ℕ) (es : List Entry) (e : Entry) → instructions_to id (es ++ e ∷ []) ≡ instructions_to id es ++ told_to id e.event e.reply
instructions_push id [] e = append-nil (told_to id e.event e.reply)
instructions_push id (x ∷ xs) e =
    ap (λ (is : List Instruction). told_to id x.event x.reply ++ is) (instructions_push id xs e)
    ∙ sym (append_assoc (told_to id x.event x.reply) (instructions_to id xs) (told_to id e.event e.reply))

-- an entry that doesn't set the follower goes on from what it was told
goes_on : (network : Network) (history : List Entry) (id : ℕ) (old new : List Block) (e : Entry) → ((s : State) (chain : List Block) → SetsFollower s id e.event e.reply chain → ⊥) → AreReplayed old (told_to id e.event e.reply) new
    → WasTold network history id old → WasTold network (history ++ e ∷ []) id new
goes_on network history id old new e never replayed was = record {
  past = was.past;
  set = was.set;
  since = was.since ++ e ∷ [];
  split = ap (λ (h : List Entry). h ++ e ∷ []) was.split ∙ append_assoc was.past (was.set ∷ was.since) (e ∷ []);
  state = was.state;
  legal = was.legal;
  start = was.start;
  sets = was.sets;
  never_again = all_push (λ x. (s : State) (chain : List Block) → SetsFollower s id x.event x.reply chain → ⊥) was.since e was.never_again never;
  replayed = subst (λ (is : List Instruction). AreReplayed was.start is new) (sym (instructions_push id was.since e)) (replay_on was.start old new (instructions_to id was.since) (told_to id e.event e.reply) was.replayed replayed);
}

-- an entry that sets the follower
set_now : (network : Network) (history : List Entry) (s : State) (id : ℕ) (e : Entry) (chain : List Block) → IsLegal network history s → SetsFollower s id e.event e.reply chain → WasTold network (history ++ e ∷ []) id chain
set_now network history s id e chain legal sets =
    record { past = history; set = e; since = []; split = refl; state = s; legal = legal; start = chain; sets = sets; never_again = tt; replayed = refl }

-- the chain of now was selected after the whole history
selected_now : (network : Network) (history : List Entry) (s : State) (told : List Block) → IsLegal network history s → BeginsWith s.chain told → WasSelected network history told
selected_now network history s told legal begins = record { past = history; since = []; split = sym (append-nil history); state = s; legal = legal; begins = begins }

longer_past : (network : Network) (history more : List Entry) (told : List Block) → WasSelected network history told → WasSelected network (history ++ more) told
longer_past network history more told was = record {
  past = was.past;
  since = was.since ++ more;
  split = ap (λ (h : List Entry). h ++ more) was.split ∙ append_assoc was.past was.since more;
  state = was.state;
  legal = was.legal;
  begins = was.begins;
}

-- ---- each step

-- what is known of the chain that a follower was told
record IsKnown (network : Network) (history : List Entry) (id : ℕ) (told : List Block) : Type 0 where
  replayed : WasTold network history id told
  selected : WasSelected network history told

abbrev AllKnown : Network → List Entry → State → Type 0
AllKnown network history s = (id : ℕ) (f : Follower) → follower_of s.followers id ≡ Some f → IsKnown network history id f.told

known_on : (network : Network) (history : List Entry) (id : ℕ) (old new : List Block) (e : Entry) → ((s : State) (chain : List Block) → SetsFollower s id e.event e.reply chain → ⊥) → AreReplayed old (told_to id e.event e.reply) new → new ≡ old
    → IsKnown network history id old → IsKnown network (history ++ e ∷ []) id new
known_on network history id old new e never replayed same known =
    record { replayed = goes_on network history id old new e never replayed known.replayed; selected = longer_past network history (e ∷ []) new (subst (WasSelected network history) (sym same) known.selected) }

known_now : (network : Network) (history : List Entry) (s : State) (id : ℕ) (e : Entry) (told : List Block) → IsLegal network history s → WasTold network (history ++ e ∷ []) id told → BeginsWith s.chain told → IsKnown network (history ++ e ∷ []) id told
known_now network history s id e told legal was begins = record { replayed = was; selected = longer_past network history (e ∷ []) told (selected_now network history s told legal begins) }

-- an entry that neither sets nor tells any follower, and leaves the state
all_still : (network : Network) (history : List Entry) (s : State) (e : Entry) (t : State) → ((id : ℕ) (u : State) (chain : List Block) → SetsFollower u id e.event e.reply chain → ⊥) → ((id : ℕ) → told_to id e.event e.reply ≡ []) → t.followers ≡ s.followers → AllKnown network history s → AllKnown network (history ++ e ∷ []) t
all_still network history s e t never silent same known id f is =
    known_on network history id f.told f.told e (never id) (subst (λ (is : List Instruction). AreReplayed f.told is f.told) (sym (silent id)) refl) refl (known id f (ap (λ (fs : Followers). follower_of fs id) (sym same) ∙ is))

-- each block of the chain is the one of its text
pub chain_spelled : (network : Network) (s : State) → IsSoundState network s → (n : ℕ) (b : Block) → slice_get s.chain n ≡ Some b → SpellsBlock b (block_text b)
chain_spelled network s sound n b is = at s.chain n b is sound.members
  where
    at : (chain : List Block) (m : ℕ) (c : Block) → slice_get chain m ≡ Some c → AllByRecursion (Contains s.kept) chain → SpellsBlock c (block_text c)
    at [] zero c there members = absurd (let e : None ≡ Some c = there in cc)
    at [] (suc m) c there members = absurd (let e : None ≡ Some c = there in cc)
    at (x ∷ xs) zero c there members = let same : x ≡ c = (let e : Some x ≡ Some c = there in cc) in subst HasItsText same (all_of_member HasItsText s.kept x sound.spelled members.0)
    at (x ∷ xs) (suc m) c there members = at xs m c there members.1

step_known : (network : Network) (history : List Entry) (s : State) (event : Event) (reply : Reply) (t : State) → IsLegal network history s → IsSoundState network s → AllKnown network history s → Step network s event reply t
    → AllKnown network (history ++ record { event = event; reply = reply } ∷ []) t
step_known network history s (Arrive bytes) (Kept back added) t legal sound known step = λ id g is.
    let was = moved_at t.chain s.followers t.followers id g step.followers is in
    known_on network history id was.0.told g.told (record { event = Arrive bytes; reply = Kept back added }) (λ u chain sets. sets) was.2.told was.2.told (known id was.0 was.1)
step_known network history s (Arrive bytes) (Refused refusal) t legal sound known step =
    all_still network history s (record { event = Arrive bytes; reply = Refused refusal }) t (λ id u chain sets. sets) (λ id. refl) (ap (λ (u : State). u.followers) step.1) known
step_known network history s (Submit bytes) (Submitted answer) t legal sound known step =
    all_still network history s (record { event = Submit bytes; reply = Submitted answer }) t (λ id u chain sets. sets) (λ id. refl) (ap (λ (u : State). u.followers) step.after) known
step_known network history s Open (Opened new) t legal sound known step = λ id f is.
    let e : Entry = record { event = Open; reply = Opened new } in
    elim (opened_at s.followers id f (ap (λ (u : State). follower_of u.followers id) (sym step.after) ∙ is)) [
      | inl before ↦ known_on network history id f.told f.told e (λ u chain sets. before.0 (sym step.is_free ∙ sets.0)) refl refl (known id f before.1)
      | inr opened ↦ subst (λ (g : Follower). IsKnown network (history ++ e ∷ []) id g.told) (sym opened.1)
          (known_now network history s id e [] legal (set_now network history s id e [] legal (step.is_free ∙ opened.0, refl)) refl)
    ]
step_known network history s Open TooManyFollowers t legal sound known step =
    all_still network history s (record { event = Open; reply = TooManyFollowers }) t (λ id u chain sets. sets) (λ id. refl) (ap (λ (u : State). u.followers) step.1) known
step_known network history s (Next at) (Instructed instruction) t legal sound known step = λ id f is.
    let e : Entry = record { event = Next at; reply = Instructed instruction } in
    elim (set_at s.followers at id (Some step.new) f (ap (λ (u : State). follower_of u.followers id) (sym step.after) ∙ is)) [
      | inl before ↦
          let silent : told_to id (Next at) (Instructed instruction) ≡ [] = rw (ne_eqb at id before.0) refl in
          known_on network history id f.told f.told e (λ u chain sets. sets) (subst (λ (is : List Instruction). AreReplayed f.told is f.told) (sym silent) refl) refl (known id f before.1)
      | inr now ↦
          let told : told_to id (Next at) (Instructed instruction) ≡ instruction ∷ [] = rw (eq-eqb at id now.0) refl in
          let same : step.new ≡ f = (let here : Some step.new ≡ Some f = now.1 in cc) in
          let good = sound.followers at step.old step.is_open in
          let was = known at step.old step.is_open in
          let replayed : IsReplayed step.old.told instruction step.new.told = next_replayed network.genesis.k s.chain step.old instruction step.new sound.valid.linked (chain_spelled network s sound) good step.next in
          subst (λ (g : Follower). IsKnown network (history ++ e ∷ []) id g.told) same
          (known_now network history s id e step.new.told legal
          (goes_on network history id step.old.told step.new.told e (λ u chain sets. sets) (subst (λ (is : List Instruction). AreReplayed step.old.told is step.new.told) (sym told) (step.new.told, replayed, refl)) (subst (λ n. WasTold network history n step.old.told) now.0 was.replayed))
          (next_begins network.genesis.k s.chain step.old instruction step.new good step.next))
    ]
step_known network history s (Next at) UnknownFollower t legal sound known step =
    all_still network history s (record { event = Next at; reply = UnknownFollower }) t (λ id u chain sets. sets) (λ id. refl) (ap (λ (u : State). u.followers) step.1) known
step_known network history s (Forward at points) (Forwarded None) t legal sound known step =
    all_still network history s (record { event = Forward at points; reply = Forwarded None }) t (λ id u chain sets. sets) (λ id. refl) (ap (λ (u : State). u.followers) step.after) known
step_known network history s (Forward at points) (Forwarded (Some point)) t legal sound known step = λ id f is.
    let e : Entry = record { event = Forward at points; reply = Forwarded (Some point) } in
    let part = take point.number s.chain in
    elim (set_at s.followers at id (Some (standing_at part)) f (ap (λ (u : State). follower_of u.followers id) (sym step.after) ∙ is)) [
      | inl before ↦ known_on network history id f.told f.told e (λ u chain sets. before.0 sets.0) refl refl (known id f before.1)
      | inr now ↦
          let same : standing_at part ≡ f = (let here : Some (standing_at part) ≡ Some f = now.1 in cc) in
          subst (λ (g : Follower). IsKnown network (history ++ e ∷ []) id g.told) same
          (known_now network history s id e part legal (set_now network history s id e part legal (now.0, refl)) (begins_take point.number s.chain))
    ]
step_known network history s (Forward at points) UnknownFollower t legal sound known step =
    all_still network history s (record { event = Forward at points; reply = UnknownFollower }) t (λ id u chain sets. sets) (λ id. refl) (ap (λ (u : State). u.followers) step.1) known
step_known network history s (Close at) Closed t legal sound known step = λ id f is.
    let e : Entry = record { event = Close at; reply = Closed } in
    elim (set_at s.followers at id None f (ap (λ (u : State). follower_of u.followers id) (sym step.after) ∙ is)) [
      | inl before ↦ known_on network history id f.told f.told e (λ u chain sets. sets) refl refl (known id f before.1)
      | inr now ↦ absurd (let here : None ≡ Some f = now.1 in cc)
    ]
step_known network history s (Close at) UnknownFollower t legal sound known step =
    all_still network history s (record { event = Close at; reply = UnknownFollower }) t (λ id u chain sets. sets) (λ id. refl) (ap (λ (u : State). u.followers) step.1) known
step_known network history s (Discard hash) Discarded t legal sound known step =
    all_still network history s (record { event = Discard hash; reply = Discarded }) t (λ id u chain sets. sets) (λ id. refl) (ap (λ (u : State). u.followers) step.after) known
step_known network history s (Discard hash) NotBeside t legal sound known step =
    all_still network history s (record { event = Discard hash; reply = NotBeside }) t (λ id u chain sets. sets) (λ id. refl) (ap (λ (u : State). u.followers) step.1) known
step_known network history s event OutOfMemory t legal sound known step =
    all_still network history s (record { event = event; reply = OutOfMemory }) t (λ id u chain sets. sets) (λ id. refl) (ap (λ (u : State). u.followers) step) known
step_known network history s event reply t legal sound known step = absurd step

run_known : (network : Network) (history : List Entry) (s : State) (es : List Entry) (t : State) → IsLegal network history s → IsSoundState network s → AllKnown network history s → IsRun network s es t → AllKnown network (history ++ es) t
run_known network history s [] t legal sound known run =
    subst (λ (h : List Entry). AllKnown network h t) (sym (append-nil history)) (subst (AllKnown network history) (sym run) known)
run_known network history s (e ∷ es) t legal sound known run =
    let now = run_on network (opening network) history s e run.0 legal run.1 in
    subst (λ (h : List Entry). AllKnown network h t) (append_assoc history (e ∷ []) es)
    (run_known network (history ++ e ∷ []) run.0 es t now (step_sound network s e.event e.reply run.0 sound run.1) (step_known network history s e.event e.reply run.0 legal sound known run.1) run.2)

no_follower : (id : ℕ) (f : Follower) → follower_of [] id ≡ Some f → ⊥
no_follower zero f is = let e : None ≡ Some f = is in cc
no_follower (suc id) f is = let e : None ≡ Some f = is in cc

all_known : (network : Network) (history : List Entry) (s : State) → IsOpening network → IsLegal network history s → AllKnown network history s
all_known network history s opens legal = run_known network [] (opening network) history s refl (opening_sound network opens) (λ id f is. absurd (no_follower id f is)) legal

-- in a legal history each follower was told the beginning of a chain that was once selected
pub was_selected : (network : Network) (history : List Entry) (s : State) (id : ℕ) (f : Follower) → IsOpening network → IsLegal network history s → follower_of s.followers id ≡ Some f → WasSelected network history f.told
was_selected network history s id f opens legal is = (all_known network history s opens legal id f is).selected

pub theorem_of_legal : (network : Network) (history : List Entry) (s : State) → IsOpening network → IsLegal network history s → ChainTheorem network history s
theorem_of_legal network history s opens legal =
    let sound = legal_sound network history s opens legal in
    record {
      legal = legal;
      valid = sound.valid;
      longest = sound.longest;
      mempool = sound.mempool;
      followers = λ id f is.
          let good = sound.followers id f is in
          record {
            replayed = (all_known network history s opens legal id f is).replayed;
            begins = good.begins;
            bounded = good.bounded;
            at_end = λ instruction new next. next_at_end network.genesis.k s.chain f instruction new good next;
          };
    }

-- ---- a client catches up

-- what is left after some instructions
record IsLeft (chain : List Block) (id n : ℕ) (t : State) : Type 0 where
  follower : Follower
  is_open : follower_of t.followers id ≡ Some follower
  same : t.chain ≡ chain
  left : left_to_tell chain follower ≤ n

there_after_set : (fs : Followers) (id : ℕ) (old new : Follower) → follower_of fs id ≡ Some old → follower_of (slice_set fs id (Some new)) id ≡ Some new
there_after_set [] zero old new is = absurd (let e : None ≡ Some old = is in cc)
there_after_set [] (suc id) old new is = absurd (let e : None ≡ Some old = is in cc)
there_after_set (f ∷ fs) zero old new is = refl
there_after_set (f ∷ fs) (suc id) old new is = there_after_set fs id old new is

instructed : (network : Network) (s : State) (id : ℕ) (f : Follower) (e : Entry) (t : State) → IsSoundState network s → follower_of s.followers id ≡ Some f
    → (instruction : Instruction) × (e.event ≡ Next id) × (e.reply ≡ Instructed instruction) → Step network s e.event e.reply t → IsLeft s.chain id (left_to_tell s.chain f - 1) t
instructed network s id f e t sound is told step =
    let now : Step network s (Next id) (Instructed told.0) t = subst (λ (r : Reply). Step network s (Next id) r t) told.2 (subst (λ (v : Event). Step network s v e.reply t) told.1 step) in
    let same : now.old ≡ f = (let a : Some now.old ≡ Some f = sym now.is_open ∙ is in cc) in
    let leaves = next_leaves network.genesis.k s.chain now.old told.0 now.new (sound.followers id now.old now.is_open) now.next in
    record {
      follower = now.new;
      is_open = ap (λ (u : State). follower_of u.followers id) now.after ∙ there_after_set s.followers id f now.new is;
      same = ap (λ (u : State). u.chain) now.after;
      left = subst (λ (g : Follower). left_to_tell s.chain now.new ≤ left_to_tell s.chain g - 1) same (omega (arith, leaves));
    }

pub caught_up : (network : Network) (s : State) (id : ℕ) (f : Follower) (more : List Entry) (t : State) → IsSoundState network s → follower_of s.followers id ≡ Some f → AreTold id more → IsRun network s more t → left_to_tell s.chain f ≤ length more
    → (t.chain ≡ s.chain) × (g : Follower) × (follower_of t.followers id ≡ Some g) × (g.told ≡ t.chain)
caught_up network s id f [] t sound is told run enough =
    let chain : t.chain ≡ s.chain = ap (λ (u : State). u.chain) run in
    (chain, f, ap (λ (u : State). follower_of u.followers id) run ∙ is, nothing_left network.genesis.k s.chain f (sound.followers id f is) (omega arith) ∙ sym chain)
caught_up network s id f (e ∷ es) t sound is told run enough =
    let left = instructed network s id f e run.0 sound is told.0 run.1 in
    let fewer : left_to_tell run.0.chain left.follower ≤ length es = subst (λ (c : List Block). left_to_tell c left.follower ≤ length es) (sym left.same) (let at = left.left in omega (arith, at, enough)) in
    let rest = caught_up network run.0 id left.follower es t (step_sound network s e.event e.reply run.0 sound run.1) left.is_open told.1 run.2 fewer in
    (rest.0 ∙ left.same, rest.1, rest.2, rest.3)
