-- Lines in which a follower is told what comes next, is set to a point, or is closed, or a block is discarded.
use Rattle.std.proofs.Common.{◌≡◌, ◌≢◌, List, [], ◌++◌, ℕ, Option, Result, Ok, Err, refl, ap, ◌∙◌}
use Rattle.std.specs.Prelude.{IfErr}
use Rattle.model.specs.Ledger.{Network}
use Rattle.model.specs.Chain.{Point}
use Rattle.model.specs.History.{State, Next, Forward, Close, Discard, Reply, OutOfMemory, Step, HasDue}
use Rattle.chain_core.specs.declared.follower.Instruction as code
use Rattle.chain_core.specs.declared.follower.NextFault.{NextFault}
use Rattle.chain_core.specs.declared.follower.NextFault.TheVariants as next
use Rattle.followers.specs.declared.fault.UnknownFollower.{UnknownFollower}
use Rattle.chain_core.specs.declared.discarding.NotBeside.{NotBeside}
use Rattle.ident.specs.declared.point.Point as point
use Rattle.chain_core.specs.Views.{next_reply_of, forward_reply_of, close_reply_of, discard_reply_of}
use Rattle.chain_core.specs.FollowerCalls.{IsWantAtNext}
use Rattle.chain_core.specs.Held.{Held, Stands}
use Rattle.scenario.specs.declared.session.Session.{Session}
use Rattle.script.specs.RequestView.{AreNamed}
use Rattle.script.specs.Meaning.{TellsFollower, ForwardsFollower, ClosesFollower, DiscardsBlock}
use Rattle.scenario.specs.Print.{IsNextText, forwarding_text, closing_text, discarding_text}
use Rattle.scenario.specs.declared.indexes.Indexes as table
use Rattle.scenario.specs.Indexes.{Indexes, KeyIndex, IsIndexAfter, IsIndexText, indexes_closed, indexes_forwarded, with_index}
use Rattle.scenario.specs.IndexView.{AreIndexes}
use Rattle.scenario.specs.Run.{Scene, entry}
use Rattle.scenario.specs.SessionView.{Done}

-- memory runs out only where a block comes next
due_at : {S : Type 0} (held : Held) (s : State) (id : ℕ) (result : Result (Option (code.Instruction S)) NextFault) → Stands held s → IfErr result (IsWantAtNext held id) → next_reply_of result ≡ OutOfMemory → HasDue s id
due_at held s id (Ok i) stands memory is = cc
due_at held s id (Err next.UnknownFollower) stands memory is = cc
due_at held s id (Err next.OutOfMemory) stands memory is = memory refl s stands

-- the index beside a follower took what that was told, and what its keys have is printed
abbrev pub HasTold : (known : Indexes) (name : List ℕ) (id : ℕ) → Reply → (code new : table.Indexes) → (old out : List ℕ) → Type 0
HasTold known name id reply code new old out = AreIndexes code known → (index : Option KeyIndex) × (text : List ℕ) × IsIndexAfter (known.of_follower id) reply index
    × IsIndexText name (known.of_follower id) index text × (out ≡ old ++ text) × AreIndexes new (with_index id index known)

pub telling_acted : {S : Type 0} (network : Network) (s : Scene) (name : List ℕ) (id : ℕ) (result : Result (Option (code.Instruction S)) NextFault) (old mid out : List ℕ) (held : Held) (before : table.Indexes) (new : Session S)
    → old ≡ [] → (text : List ℕ) × IsNextText s.names.of_bytes name (next_reply_of result) text × (mid ≡ old ++ text) → Stands held s.state → IfErr result (IsWantAtNext held id)
    → AreNamed new.names s.names → AreIndexes before s.indexes → HasTold s.indexes name id (next_reply_of result) before new.indexes mid out
    → (t : State) × Step network s.state (Next id) (next_reply_of result) t × Stands new.core t
    → Done network s (TellsFollower name id) out new
telling_acted network s name id result old mid out held before new empty (text, is_text, printed) held_stands memory names known told (t, step, stands) =
    let now = told known in
    record {
      entries = entry (Next id) (next_reply_of result);
      scene = record { state = t; names = s.names; indexes = with_index id now.0 s.indexes };
      acts = (
        next_reply_of result,
        record { step = step; due = due_at held s.state id result held_stands memory; names = refl; index = now.0; is_after = now.2; indexes = refl },
        text,
        is_text,
        now.1,
        now.3,
        now.4 ∙ ap (λ (l : List ℕ). l ++ now.1) (printed ∙ ap (λ (l : List ℕ). l ++ text) empty),
        refl,
      );
      holds = record { stands = stands; names = names; indexes = now.5 };
    }

-- what was put behind nothing
pub behind_nothing : (out old text : List ℕ) → out ≡ old ++ text → old ≡ [] → out ≡ text
behind_nothing out old text is empty = is ∙ ap (λ (l : List ℕ). l ++ text) empty

-- no memory is asked for where a follower is set to a point, or closed, or a block is discarded
pub forward_enough : (result : Result (Option point.Point) UnknownFollower) → forward_reply_of result ≢ OutOfMemory
forward_enough (Ok found) is = cc
forward_enough (Err unknown) is = cc

pub close_enough : (result : Result (Unit {0}) UnknownFollower) → close_reply_of result ≢ OutOfMemory
close_enough (Ok done) is = cc
close_enough (Err unknown) is = cc

pub discard_enough : (result : Result (Unit {0}) NotBeside) → discard_reply_of result ≢ OutOfMemory
discard_enough (Ok done) is = cc
discard_enough (Err none) is = cc

pub forwarding_acted : {S : Type 0} (network : Network) (s : Scene) (name : List ℕ) (id : ℕ) (points : List Point) (reply : Reply) (out : List ℕ) (new : Session S) → out ≡ forwarding_text s.names.of_bytes name reply → reply ≢ OutOfMemory
    → AreNamed new.names s.names → AreIndexes new.indexes (indexes_forwarded id s.indexes reply)
    → (t : State) × Step network s.state (Forward id points) reply t × Stands new.core t
    → Done network s (ForwardsFollower name id points) out new
forwarding_acted network s name id points reply out new printed enough names indexes (t, step, stands) = record {
  entries = entry (Forward id points) reply;
  scene = record { state = t; names = s.names; indexes = indexes_forwarded id s.indexes reply };
  acts = (reply, record { step = step; enough = enough; names = refl; indexes = refl }, printed, refl);
  holds = record { stands = stands; names = names; indexes = indexes };
}

pub closing_acted : {S : Type 0} (network : Network) (s : Scene) (name : List ℕ) (id : ℕ) (reply : Reply) (out : List ℕ) (new : Session S) → out ≡ closing_text name reply → reply ≢ OutOfMemory
    → AreNamed new.names s.names → AreIndexes new.indexes (indexes_closed id s.indexes reply)
    → (t : State) × Step network s.state (Close id) reply t × Stands new.core t
    → Done network s (ClosesFollower name id) out new
closing_acted network s name id reply out new printed enough names indexes (t, step, stands) = record {
  entries = entry (Close id) reply;
  scene = record { state = t; names = s.names; indexes = indexes_closed id s.indexes reply };
  acts = (reply, record { step = step; enough = enough; names = refl; indexes = refl }, printed, refl);
  holds = record { stands = stands; names = names; indexes = indexes };
}

pub discarding_acted : {S : Type 0} (network : Network) (s : Scene) (name hash : List ℕ) (reply : Reply) (out : List ℕ) (new : Session S) → out ≡ discarding_text name reply → reply ≢ OutOfMemory
    → AreNamed new.names s.names → AreIndexes new.indexes s.indexes
    → (t : State) × Step network s.state (Discard hash) reply t × Stands new.core t
    → Done network s (DiscardsBlock name hash) out new
discarding_acted network s name hash reply out new printed enough names indexes (t, step, stands) = record {
  entries = entry (Discard hash) reply;
  scene = record { state = t; names = s.names; indexes = s.indexes };
  acts = (reply, record { step = step; enough = enough; names = refl; indexes = refl }, printed, refl);
  holds = record { stands = stands; names = names; indexes = indexes };
}
