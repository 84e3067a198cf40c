-- What callers cite of this crate's proofs: what the entries of a history are to one follower, and to an index that takes
-- what it is told.
use Rattle.std.proofs.Common.{◌≡◌, ◌≢◌, ℕ, zero, suc, List, [], ◌∷◌, ◌++◌, Option, Some, None, ◌⊎◌, inl, inr, refl, sym, ap, subst, ◌∙◌, append_assoc, eq-eqb, ne_eqb, arith}
use Rattle.std.specs.Prelude.{slice_set}
use Rattle.std.proofs.lemmas.Option.{same_Some}
use Rattle.model.specs.Block.{Block}
use Rattle.model.specs.Ledger.{Network}
use Rattle.model.specs.Follower.{Follower, Followers, standing_at, follower_of, free_id, with_opened, IsMoved, AreMoved, Instruction, IsReplayed, AreReplayed}
use Rattle.model.specs.History.{State, Event, Arrive, Submit, Open, Next, Forward, Close, Discard, Reply, Kept, Refused, Submitted, Opened, TooManyFollowers, Instructed, Forwarded, Closed, UnknownFollower, Discarded, NotBeside, OutOfMemory, Step, Entry, SetsFollower, told_to, instructions_to}
use Rattle.model.proofs.Lists.{all_push}
use Rattle.model.proofs.LegalHistories.{IsSoundState}
use Rattle.model.proofs.FollowerSteps.{next_replayed}
use Rattle.model.proofs.ToldChains.{replay_on, instructions_push, chain_spelled}
use Rattle.watching.specs.Chains.{Watched}
use Rattle.watching.specs.Ledgers.{IsTaken, AreTaken}
use Rattle.watching.specs.Settled.{HasFollowed}
use Rattle.watching.proofs.Following.{which_after, k_after}

-- ---- followers by number

pub nobody : (f : Follower) → None ≡ Some f → ⊥
nobody f e = cc

-- where another one is set, or closed
pub set_beside : (fs : Followers) (at id : ℕ) (now : Option Follower) → at ≢ id → follower_of (slice_set fs at now) id ≡ follower_of fs id
set_beside [] zero id now apart = refl
set_beside [] (suc at) id now apart = refl
set_beside (x ∷ fs) zero zero now apart = absurd (apart refl)
set_beside (x ∷ fs) zero (suc id) now apart = refl
set_beside (x ∷ fs) (suc at) zero now apart = refl
set_beside (x ∷ fs) (suc at) (suc id) now apart = set_beside fs at id now (λ e. apart (ap suc e))

-- where this one is set
pub set_here : (fs : Followers) (id : ℕ) (f g : Follower) → follower_of fs id ≡ Some f → follower_of (slice_set fs id (Some g)) id ≡ Some g
set_here [] zero f g is = absurd (nobody f is)
set_here [] (suc id) f g is = absurd (nobody f is)
set_here (x ∷ fs) zero f g is = refl
set_here (x ∷ fs) (suc id) f g is = set_here fs id f g is

-- where another one is opened
opened_beside : (fs : Followers) (id : ℕ) (f : Follower) → follower_of fs id ≡ Some f → (follower_of (with_opened fs) id ≡ Some f) × (free_id fs ≢ id)
opened_beside [] zero f is = absurd (nobody f is)
opened_beside [] (suc id) f is = absurd (nobody f is)
opened_beside (None ∷ fs) zero f is = absurd (nobody f is)
opened_beside (None ∷ fs) (suc id) f is = (is, λ e. absurd (omega (arith, e)))
opened_beside (Some x ∷ fs) zero f is = (is, λ e. absurd (omega (arith, e)))
opened_beside (Some x ∷ fs) (suc id) f is = let more = opened_beside fs id f is in (more.0, λ e. more.1 (omega (arith, e)))

pub opened_here : (fs : Followers) → follower_of (with_opened fs) (free_id fs) ≡ Some (standing_at [])
opened_here [] = refl
opened_here (None ∷ fs) = refl
opened_here (Some x ∷ fs) = opened_here fs

-- where the selected chain changes
moved_to : (selected : List Block) (fs gs : Followers) (id : ℕ) (f : Follower) → AreMoved selected fs gs → follower_of fs id ≡ Some f → (g : Follower) × (follower_of gs id ≡ Some g) × IsMoved selected f g
moved_to selected [] gs zero f moved is = absurd (nobody f is)
moved_to selected [] gs (suc id) f moved is = absurd (nobody f is)
moved_to selected (None ∷ fs) [] id f moved is = absurd moved
moved_to selected (None ∷ fs) (Some h ∷ gs) id f moved is = absurd moved
moved_to selected (None ∷ fs) (None ∷ gs) zero f moved is = absurd (nobody f is)
moved_to selected (None ∷ fs) (None ∷ gs) (suc id) f moved is = moved_to selected fs gs id f moved is
moved_to selected (Some x ∷ fs) [] id f moved is = absurd moved
moved_to selected (Some x ∷ fs) (None ∷ gs) id f moved is = absurd moved
moved_to selected (Some x ∷ fs) (Some h ∷ gs) zero f moved is = (h, refl, subst (λ (y : Follower). IsMoved selected y h) (same_Some x f is) moved.0)
moved_to selected (Some x ∷ fs) (Some h ∷ gs) (suc id) f moved is = moved_to selected fs gs id f moved.1 is

-- ---- steps that are none of a follower's own

-- the entry tells the follower of this number, sets it to a point or closes it
abbrev pub IsOwn : ℕ → Event → Reply → Type 0
IsOwn id (Next at) (Instructed instruction) = at ≡ id
IsOwn id (Forward at points) (Forwarded (Some point)) = at ≡ id
IsOwn id (Close at) Closed = at ≡ id
IsOwn id event reply = ⊥

-- the follower stays beside the chain, or is moved to where it is
abbrev pub StaysOrMoves : (s : State) → (f : Follower) → (t : State) → (g : Follower) → Type 0
StaysOrMoves s f t g = ((g ≡ f) × (t.chain ≡ s.chain)) ⊎ IsMoved t.chain f g

-- it is open still, and was told nothing
pub record Stays (s : State) (id : ℕ) (f : Follower) (event : Event) (reply : Reply) (t : State) : Type 0 where
  pub follower : Follower
  pub is_open : follower_of t.followers id ≡ Some follower
  pub moved : StaysOrMoves s f t follower
  pub silent : told_to id event reply ≡ []
  pub never : (u : State) (chain : List Block) → SetsFollower u id event reply chain → ⊥

pub same_told : (s : State) (f : Follower) (t : State) (g : Follower) → StaysOrMoves s f t g → g.told ≡ f.told
same_told s f t g moved = elim moved [ inl stays ↦ ap (λ (h : Follower). h.told) stays.0 | inr moves ↦ moves.told ]

unmoved : (s t : State) (id : ℕ) (f : Follower) (event : Event) (reply : Reply) → follower_of s.followers id ≡ Some f → t.followers ≡ s.followers → t.chain ≡ s.chain → told_to id event reply ≡ [] → ((u : State) (chain : List Block) → SetsFollower u id event reply chain → ⊥) → Stays s id f event reply t
unmoved s t id f event reply is same chain silent never = record {
  follower = f;
  is_open = ap (λ (fs : Followers). follower_of fs id) same ∙ is;
  moved = inl (refl, chain);
  silent = silent;
  never = never;
}

pub step_stays : (network : Network) (s : State) (event : Event) (reply : Reply) (t : State) (id : ℕ) (f : Follower) → Step network s event reply t → follower_of s.followers id ≡ Some f → (IsOwn id event reply → ⊥) → Stays s id f event reply t
step_stays network s (Arrive bytes) (Kept back added) t id f step is other =
    let now = moved_to t.chain s.followers t.followers id f step.followers is in
    record { follower = now.0; is_open = now.1; moved = inr now.2; silent = refl; never = λ u chain sets. sets }
step_stays network s (Arrive bytes) (Refused refusal) t id f step is other = unmoved s t id f (Arrive bytes) (Refused refusal) is (ap (λ (u : State). u.followers) step.1) (ap (λ (u : State). u.chain) step.1) refl (λ u chain sets. sets)
step_stays network s (Submit bytes) (Submitted answer) t id f step is other = unmoved s t id f (Submit bytes) (Submitted answer) is (ap (λ (u : State). u.followers) step.after) (ap (λ (u : State). u.chain) step.after) refl (λ u chain sets. sets)
step_stays network s Open (Opened new) t id f step is other =
    let here = opened_beside s.followers id f is in
    record {
      follower = f;
      is_open = ap (λ (u : State). follower_of u.followers id) step.after ∙ here.0;
      moved = inl (refl, ap (λ (u : State). u.chain) step.after);
      silent = refl;
      never = λ u chain sets. here.1 (sym step.is_free ∙ sets.0);
    }
step_stays network s Open TooManyFollowers t id f step is other = unmoved s t id f Open TooManyFollowers is (ap (λ (u : State). u.followers) step.1) (ap (λ (u : State). u.chain) step.1) refl (λ u chain sets. sets)
step_stays network s (Next at) (Instructed instruction) t id f step is other = record {
  follower = f;
  is_open = ap (λ (u : State). follower_of u.followers id) step.after ∙ set_beside s.followers at id (Some step.new) other ∙ is;
  moved = inl (refl, ap (λ (u : State). u.chain) step.after);
  silent = rw (ne_eqb at id other) refl;
  never = λ u chain sets. sets;
}
step_stays network s (Next at) UnknownFollower t id f step is other = unmoved s t id f (Next at) UnknownFollower is (ap (λ (u : State). u.followers) step.1) (ap (λ (u : State). u.chain) step.1) refl (λ u chain sets. sets)
step_stays network s (Forward at points) (Forwarded None) t id f step is other = unmoved s t id f (Forward at points) (Forwarded None) is (ap (λ (u : State). u.followers) step.after) (ap (λ (u : State). u.chain) step.after) refl (λ u chain sets. sets)
step_stays network s (Forward at points) (Forwarded (Some point)) t id f step is other = record {
  follower = f;
  is_open = ap (λ (u : State). follower_of u.followers id) step.after ∙ set_beside s.followers at id _ other ∙ is;
  moved = inl (refl, ap (λ (u : State). u.chain) step.after);
  silent = refl;
  never = λ u chain sets. other sets.0;
}
step_stays network s (Forward at points) UnknownFollower t id f step is other = unmoved s t id f (Forward at points) UnknownFollower is (ap (λ (u : State). u.followers) step.1) (ap (λ (u : State). u.chain) step.1) refl (λ u chain sets. sets)
step_stays network s (Close at) Closed t id f step is other = record {
  follower = f;
  is_open = ap (λ (u : State). follower_of u.followers id) step.after ∙ set_beside s.followers at id None other ∙ is;
  moved = inl (refl, ap (λ (u : State). u.chain) step.after);
  silent = refl;
  never = λ u chain sets. sets;
}
step_stays network s (Close at) UnknownFollower t id f step is other = unmoved s t id f (Close at) UnknownFollower is (ap (λ (u : State). u.followers) step.1) (ap (λ (u : State). u.chain) step.1) refl (λ u chain sets. sets)
step_stays network s (Discard hash) Discarded t id f step is other = unmoved s t id f (Discard hash) Discarded is (ap (λ (u : State). u.followers) step.after) (ap (λ (u : State). u.chain) step.after) refl (λ u chain sets. sets)
step_stays network s (Discard hash) NotBeside t id f step is other = unmoved s t id f (Discard hash) NotBeside is (ap (λ (u : State). u.followers) step.1) (ap (λ (u : State). u.chain) step.1) refl (λ u chain sets. sets)
step_stays network s event OutOfMemory t id f step is other = unmoved s t id f event OutOfMemory is (ap (λ (u : State). u.followers) step) (ap (λ (u : State). u.chain) step) refl (λ u chain sets. sets)
step_stays network s event reply t id f step is other = absurd step

-- ---- what an index took, with one entry more

taken_on : (a b c : Watched) (xs ys : List Instruction) → AreTaken a xs b → AreTaken b ys c → AreTaken a (xs ++ ys) c
taken_on a b c [] ys first second = subst (λ (d : Watched). AreTaken d ys c) first second
taken_on a b c (x ∷ xs) ys first second = (first.0, first.1, taken_on first.0 b c xs ys first.2 second)

pub followed_on : (network : Network) (past : List Entry) (id : ℕ) (old new : List Block) (before after : Watched) (e : Entry) → ((u : State) (chain : List Block) → SetsFollower u id e.event e.reply chain → ⊥)
    → AreReplayed old (told_to id e.event e.reply) new → AreTaken before (told_to id e.event e.reply) after → (followed : HasFollowed network past id old before) → (now : HasFollowed network (past ++ e ∷ []) id new after) × (now.was_told.start ≡ followed.was_told.start)
followed_on network past id old new before after e never replayed taken followed = (
  let was = followed.was_told in
      record {
        was_told = record {
          past = was.past;
          set = was.set;
          since = was.since ++ e ∷ [];
          split = ap (λ (h : List Entry). h ++ e ∷ []) was.split ∙ append_assoc was.past (was.set ∷ was.since) (e ∷ []);
          state = was.state;
          legal = was.legal;
          start = was.start;
          sets = was.sets;
          never_again = all_push (λ x. (s : State) (chain : List Block) → SetsFollower s id x.event x.reply chain → ⊥) was.since e was.never_again never;
          replayed = subst (λ (is : List Instruction). AreReplayed was.start is new) (sym (instructions_push id was.since e)) (replay_on was.start old new (instructions_to id was.since) (told_to id e.event e.reply) was.replayed replayed);
        };
        began = followed.began;
        begins = followed.begins;
        taken = subst (λ (is : List Instruction). AreTaken followed.began is after) (sym (instructions_push id was.since e)) (taken_on followed.began before after (instructions_to id was.since) (told_to id e.event e.reply) followed.taken taken);
      },
  refl,
)

-- ---- what an index took, where its follower was told something

-- the follower was told an instruction, which the index took
pub record WasTaken (network : Network) (past : List Entry) (s : State) (id : ℕ) (f : Follower) (instruction : Instruction) (old new : Watched) (followed : HasFollowed network past id f.told old) (t : State) : Type 0 where
  pub follower : Follower
  pub is_open : follower_of t.followers id ≡ Some follower
  pub now : HasFollowed network (past ++ record { event = Next id; reply = Instructed instruction } ∷ []) id follower.told new
  pub start : now.was_told.start ≡ followed.was_told.start
  pub which : new.which ≡ old.which
  pub k : new.k ≡ old.k

pub told_on : (network : Network) (past : List Entry) (s : State) (id : ℕ) (f : Follower) (instruction : Instruction) (old new : Watched) (t : State) → IsSoundState network s → Step network s (Next id) (Instructed instruction) t → follower_of s.followers id ≡ Some f → IsTaken old instruction new
    → (followed : HasFollowed network past id f.told old) → WasTaken network past s id f instruction old new followed t
told_on network past s id f instruction old new t sound step is taken followed =
    let told : told_to id (Next id) (Instructed instruction) ≡ instruction ∷ [] = rw (eq-eqb id id refl) refl in
    let first : step.old ≡ f = same_Some step.old f (sym step.is_open ∙ is) in
    let replayed : IsReplayed step.old.told instruction step.new.told = next_replayed network.genesis.k s.chain step.old instruction step.new sound.valid.linked (chain_spelled network s sound) (sound.followers id step.old step.is_open) step.next in
    let from : IsReplayed f.told instruction step.new.told = subst (λ (g : Follower). IsReplayed g.told instruction step.new.told) first replayed in
    let on = followed_on network past id f.told step.new.told old new (record { event = Next id; reply = Instructed instruction }) (λ u chain sets. sets)
    (subst (λ (is : List Instruction). AreReplayed f.told is step.new.told) (sym told) (step.new.told, from, refl))
    (subst (λ (is : List Instruction). AreTaken old is new) (sym told) (new, taken, refl))
    followed in
    record {
      follower = step.new;
      is_open = ap (λ (u : State). follower_of u.followers id) step.after ∙ set_here s.followers id step.old step.new step.is_open;
      now = on.0;
      start = on.1;
      which = which_after instruction old new taken;
      k = k_after instruction old new taken;
    }
