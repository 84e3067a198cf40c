-- The indexes of a script beside the history of its events: each has followed what its follower was told.
use Rattle.std.proofs.Common.{◌≡◌, ◌≢◌, ℕ, Bool, true, false, cond, List, [], ◌∷◌, ◌++◌, Option, Some, None, ◌⊎◌, inl, inr, refl, sym, ap, subst, ◌∙◌, eq-eqb, eqb-true}
use Rattle.std.specs.Prelude.{◌==◌}
use Rattle.std.proofs.lemmas.Option.{same_Some}
use Rattle.model.specs.Transaction.{Address}
use Rattle.model.specs.Genesis.{Genesis}
use Rattle.model.specs.Ledger.{Network}
use Rattle.model.specs.Chain.{Point}
use Rattle.model.specs.Follower.{standing_at, follower_of, with_opened, Instruction, AreReplayed}
use Rattle.model.specs.History.{State, Event, Open, Next, Forward, Close, Reply, Opened, TooManyFollowers, Instructed, Forwarded, Closed, UnknownFollower, OutOfMemory, Step, Entry, IsLegal}
use Rattle.model.proofs.LegalHistories.{IsSoundState}
use Rattle.watching.specs.Ledgers.{IsTaken, AreTaken}
use Rattle.watching.proofs.ForCallers.{opened_here, IsOwn, same_told, step_stays, followed_on, told_on}
use Rattle.script.specs.Names.{Named}
use Rattle.scenario.specs.Indexes.{KeyIndex, Indexes, outputs_of_keys, with_index, first_index, indexes_opened, IsIndexAfter, indexes_forwarded, indexes_closed, IsBeside, AreBeside}

-- ---- an index beside its follower, with one entry more

-- the entry is none of its follower's own
beside_stays : (network : Network) (past : List Entry) (s : State) (event : Event) (reply : Reply) (t : State) (id : ℕ) (at : KeyIndex) → Step network s event reply t → (IsOwn id event reply → ⊥) → IsBeside network past s id at
    → IsBeside network (past ++ record { event = event; reply = reply } ∷ []) t id at
beside_stays network past s event reply t id at step other beside =
    let stays = step_stays network s event reply t id beside.follower step beside.is_open other in
    let told = same_told s beside.follower t stays.follower stays.moved in
    let on = followed_on network past id beside.follower.told stays.follower.told at.index at.index (record { event = event; reply = reply }) stays.never
    (subst (λ (is : List Instruction). AreReplayed beside.follower.told is stays.follower.told) (sym stays.silent) told)
    (subst (λ (is : List Instruction). AreTaken at.index is at.index) (sym stays.silent) refl)
    beside.followed in
    record { follower = stays.follower; is_open = stays.is_open; followed = on.0; from_genesis = on.1 ∙ beside.from_genesis; k = beside.k; of_keys = beside.of_keys }

-- its follower was told an instruction, which it took
beside_told : (network : Network) (past : List Entry) (s : State) (id : ℕ) (instruction : Instruction) (t : State) (old new : KeyIndex) → IsSoundState network s → Step network s (Next id) (Instructed instruction) t → IsTaken old.index instruction new.index → new.keys ≡ old.keys
    → IsBeside network past s id old → IsBeside network (past ++ record { event = Next id; reply = Instructed instruction } ∷ []) t id new
beside_told network past s id instruction t old new sound step taken keys beside =
    let on = told_on network past s id beside.follower instruction old.index new.index t sound step beside.is_open taken beside.followed in
    record {
      follower = on.follower;
      is_open = on.is_open;
      followed = on.now;
      from_genesis = on.start ∙ beside.from_genesis;
      k = on.k ∙ beside.k;
      of_keys = on.which ∙ beside.of_keys ∙ ap outputs_of_keys (sym keys);
    }

-- it was opened with the index
beside_opened : (network : Network) (past : List Entry) (s : State) (id : ℕ) (t : State) (genesis : Genesis) (keys : List (Named Address)) → genesis ≡ network.genesis → IsLegal network past s → Step network s Open (Opened id) t
    → IsBeside network (past ++ record { event = Open; reply = Opened id } ∷ []) t id (first_index genesis keys)
beside_opened network past s id t genesis keys same legal step =
    subst (λ (g : Genesis). IsBeside network (past ++ record { event = Open; reply = Opened id } ∷ []) t id (first_index g keys)) (sym same)
    (record {
      follower = standing_at [];
      is_open = ap (λ (u : State). follower_of u.followers id) step.after ∙ ap (follower_of (with_opened s.followers)) step.is_free ∙ opened_here s.followers;
      followed = record {
        was_told = record {
          past = past;
          set = record { event = Open; reply = Opened id };
          since = [];
          split = refl;
          state = s;
          legal = legal;
          start = [];
          sets = (refl, refl);
          never_again = tt;
          replayed = refl;
        };
        began = (first_index network.genesis keys).index;
        begins = record { linked = tt; last = refl; versions = tt };
        taken = refl;
      };
      from_genesis = refl;
      k = refl;
      of_keys = refl;
    })

-- ---- indexes of a scene

-- the indexes begin with what the node's genesis grants, and each stands beside its follower
pub record AreSound (network : Network) (past : List Entry) (state : State) (indexes : Indexes) : Type 0 where
  pub genesis : indexes.genesis ≡ network.genesis
  pub beside : AreBeside network past state indexes

found_at : (id other : ℕ) (indexes : Indexes) (new : Option KeyIndex) (at : KeyIndex) (b : Bool) → (other == id) ≡ b → cond b new (indexes.of_follower other) ≡ Some at → ((other ≡ id) × (new ≡ Some at)) ⊎ ((other ≢ id) × (indexes.of_follower other ≡ Some at))
found_at id other indexes new at true is found = inl (eqb-true other id is, found)
found_at id other indexes new at false is found = inr (λ same. (let clash : true ≡ false = sym (eq-eqb other id same) ∙ is in cc), found)

-- an index is the one that was put there, or stood at another number before
put_cases : (id other : ℕ) (indexes : Indexes) (new : Option KeyIndex) (at : KeyIndex) → (with_index id new indexes).of_follower other ≡ Some at → ((other ≡ id) × (new ≡ Some at)) ⊎ ((other ≢ id) × (indexes.of_follower other ≡ Some at))
put_cases id other indexes new at found = found_at id other indexes new at (other == id) refl found

-- no index's follower has this entry as its own
pub sound_step : (network : Network) (past : List Entry) (s t : State) (event : Event) (reply : Reply) (indexes : Indexes) → Step network s event reply t → ((id : ℕ) (at : KeyIndex) → indexes.of_follower id ≡ Some at → IsOwn id event reply → ⊥)
    → AreSound network past s indexes → AreSound network (past ++ record { event = event; reply = reply } ∷ []) t indexes
sound_step network past s t event reply indexes step other sound =
    record { genesis = sound.genesis; beside = λ id at is. beside_stays network past s event reply t id at step (other id at is) (sound.beside id at is) }

-- the index at the number of the entry's own follower is the one that is put there, or there is none
sound_put : (network : Network) (past : List Entry) (s t : State) (event : Event) (reply : Reply) (indexes : Indexes) (id : ℕ) (new : Option KeyIndex) → Step network s event reply t → ((n : ℕ) → IsOwn n event reply → id ≡ n)
    → ((at : KeyIndex) → new ≡ Some at → IsBeside network (past ++ record { event = event; reply = reply } ∷ []) t id at) → AreSound network past s indexes → AreSound network (past ++ record { event = event; reply = reply } ∷ []) t (with_index id new indexes)
sound_put network past s t event reply indexes id new step own put sound = record {
  genesis = sound.genesis;
  beside = λ other at is. elim (put_cases id other indexes new at is) [
    | inl here ↦ subst (λ (n : ℕ). IsBeside network (past ++ record { event = event; reply = reply } ∷ []) t n at) (sym here.0) (put at here.1)
    | inr there ↦ beside_stays network past s event reply t other at step (λ is_own. there.0 (sym (own other is_own))) (sound.beside other at there.1)
  ];
}

pub sound_opened : (network : Network) (past : List Entry) (s t : State) (keys : List (Named Address)) (reply : Reply) (indexes : Indexes) → IsLegal network past s → Step network s Open reply t → AreSound network past s indexes
    → AreSound network (past ++ record { event = Open; reply = reply } ∷ []) t (indexes_opened keys indexes reply)
sound_opened network past s t keys (Opened id) indexes legal step sound =
    sound_put network past s t Open (Opened id) indexes id (Some (first_index indexes.genesis keys)) step (λ n own. absurd own)
    (λ at is. subst (IsBeside network (past ++ record { event = Open; reply = Opened id } ∷ []) t id) (same_Some (first_index indexes.genesis keys) at is) (beside_opened network past s id t indexes.genesis keys sound.genesis legal step))
    sound
sound_opened network past s t keys TooManyFollowers indexes legal step sound = sound_step network past s t Open TooManyFollowers indexes step (λ id at is own. own) sound
sound_opened network past s t keys OutOfMemory indexes legal step sound = sound_step network past s t Open OutOfMemory indexes step (λ id at is own. own) sound
sound_opened network past s t keys reply indexes legal step sound = absurd step

-- the index at the number after an answer at which it stays
same_index : (network : Network) (past : List Entry) (s t : State) (id : ℕ) (reply : Reply) (indexes : Indexes) (new : Option KeyIndex) → Step network s (Next id) reply t → (IsOwn id (Next id) reply → ⊥) → ((n : ℕ) → IsOwn n (Next id) reply → id ≡ n) → new ≡ indexes.of_follower id
    → AreSound network past s indexes → AreSound network (past ++ record { event = Next id; reply = reply } ∷ []) t (with_index id new indexes)
same_index network past s t id reply indexes new step other own same sound =
    sound_put network past s t (Next id) reply indexes id new step own (λ at is. beside_stays network past s (Next id) reply t id at step other (sound.beside id at (sym same ∙ is))) sound

after_told : (network : Network) (past : List Entry) (s t : State) (id : ℕ) (instruction : Instruction) (indexes : Indexes) (old new : Option KeyIndex) → IsSoundState network s → Step network s (Next id) (Instructed instruction) t → indexes.of_follower id ≡ old
    → IsIndexAfter old (Instructed instruction) new → AreSound network past s indexes → AreSound network (past ++ record { event = Next id; reply = Instructed instruction } ∷ []) t (with_index id new indexes)
after_told network past s t id instruction indexes None new state step was after sound =
    sound_put network past s t (Next id) (Instructed instruction) indexes id new step (λ n own. own) (λ at is. absurd (let no : None ≡ Some at = sym after ∙ is in cc)) sound
after_told network past s t id instruction indexes (Some old) None state step was after sound =
    sound_put network past s t (Next id) (Instructed instruction) indexes id None step (λ n own. own) (λ at is. absurd (let no : None ≡ Some at = is in cc)) sound
after_told network past s t id instruction indexes (Some old) (Some new) state step was after sound =
    sound_put network past s t (Next id) (Instructed instruction) indexes id (Some new) step (λ n own. own)
    (λ at is. subst (IsBeside network (past ++ record { event = Next id; reply = Instructed instruction } ∷ []) t id) (same_Some new at is) (beside_told network past s id instruction t old new state step after.0 after.1 (sound.beside id old was)))
    sound

-- at any answer but an instruction the index stays
stays_none : (old : Option KeyIndex) (new : Option KeyIndex) → IsIndexAfter old UnknownFollower new → new ≡ old
stays_none None new after = after
stays_none (Some old) new after = after

stays_short : (old : Option KeyIndex) (new : Option KeyIndex) → IsIndexAfter old OutOfMemory new → new ≡ old
stays_short None new after = after
stays_short (Some old) new after = after

pub sound_told : (network : Network) (past : List Entry) (s t : State) (id : ℕ) (reply : Reply) (indexes : Indexes) (new : Option KeyIndex) → IsSoundState network s → Step network s (Next id) reply t → IsIndexAfter (indexes.of_follower id) reply new → AreSound network past s indexes
    → AreSound network (past ++ record { event = Next id; reply = reply } ∷ []) t (with_index id new indexes)
sound_told network past s t id (Instructed instruction) indexes new state step after sound = after_told network past s t id instruction indexes (indexes.of_follower id) new state step refl after sound
sound_told network past s t id UnknownFollower indexes new state step after sound = same_index network past s t id UnknownFollower indexes new step (λ own. own) (λ n own. absurd own) (stays_none (indexes.of_follower id) new after) sound
sound_told network past s t id OutOfMemory indexes new state step after sound = same_index network past s t id OutOfMemory indexes new step (λ own. own) (λ n own. absurd own) (stays_short (indexes.of_follower id) new after) sound
sound_told network past s t id reply indexes new state step after sound = absurd step

-- no index stands where none is put
pub none_put : (at : KeyIndex) → None ≡ Some at → ⊥
none_put at e = cc

pub sound_forwarded : (network : Network) (past : List Entry) (s t : State) (id : ℕ) (points : List Point) (reply : Reply) (indexes : Indexes) → Step network s (Forward id points) reply t → AreSound network past s indexes
    → AreSound network (past ++ record { event = Forward id points; reply = reply } ∷ []) t (indexes_forwarded id indexes reply)
sound_forwarded network past s t id points (Forwarded (Some point)) indexes step sound = sound_put network past s t (Forward id points) (Forwarded (Some point)) indexes id None step (λ n own. own) (λ at is. absurd (none_put at is)) sound
sound_forwarded network past s t id points (Forwarded None) indexes step sound = sound_step network past s t (Forward id points) (Forwarded None) indexes step (λ n at is own. own) sound
sound_forwarded network past s t id points UnknownFollower indexes step sound = sound_step network past s t (Forward id points) UnknownFollower indexes step (λ n at is own. own) sound
sound_forwarded network past s t id points OutOfMemory indexes step sound = sound_step network past s t (Forward id points) OutOfMemory indexes step (λ n at is own. own) sound
sound_forwarded network past s t id points reply indexes step sound = absurd step

pub sound_closed : (network : Network) (past : List Entry) (s t : State) (id : ℕ) (reply : Reply) (indexes : Indexes) → Step network s (Close id) reply t → AreSound network past s indexes
    → AreSound network (past ++ record { event = Close id; reply = reply } ∷ []) t (indexes_closed id indexes reply)
sound_closed network past s t id Closed indexes step sound = sound_put network past s t (Close id) Closed indexes id None step (λ n own. own) (λ at is. absurd (none_put at is)) sound
sound_closed network past s t id UnknownFollower indexes step sound = sound_step network past s t (Close id) UnknownFollower indexes step (λ n at is own. own) sound
sound_closed network past s t id OutOfMemory indexes step sound = sound_step network past s t (Close id) OutOfMemory indexes step (λ n at is own. own) sound
sound_closed network past s t id reply indexes step sound = absurd step
