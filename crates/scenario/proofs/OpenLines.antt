-- A line that opens a follower.
use Rattle.std.proofs.Common.{◌≡◌, ◌<◌, List, [], ◌++◌, ℕ, Some, Result, Ok, Err, refl, sym, ap, subst, ◌∙◌}
use Rattle.std.specs.Prelude.{IfErr, OnOk, codes}
use Rattle.std.specs.declared.alloc.AllocError.{AllocError}
use Rattle.model.specs.Limits.{follower_limit}
use Rattle.model.specs.Follower.{free_id}
use Rattle.model.specs.Transaction.{Address}
use Rattle.model.specs.Ledger.{Network}
use Rattle.model.specs.History.{State, Open, OutOfMemory, Reply, Step}
use Rattle.followers.specs.declared.follower_id.FollowerId.{FollowerId}
use Rattle.followers.specs.declared.fault.OpenFollowerFault.{OpenFollowerFault}
use Rattle.followers.specs.declared.fault.OpenFollowerFault.TheVariants as open'
use Rattle.chain_core.specs.Views.{open_reply_of}
use Rattle.followers.proofs.ForCallers.{the_lengths}
use Rattle.chain_core.specs.FollowerCalls.{IsWantAtOpen}
use Rattle.chain_core.specs.Held.{Held, Stands}
use Rattle.scenario.specs.declared.session.Session.{Session}
use Rattle.script.specs.Names.{Named}
use Rattle.script.specs.RequestView.{AreNamed}
use Rattle.script.specs.declared.fault.LineFault.{LineFault}
use Rattle.script.specs.Meaning.{Meaning, OpensFollower, WatchesKeys}
use Rattle.scenario.specs.Print.{opening_text}
use Rattle.scenario.specs.declared.indexes.Indexes as table
use Rattle.scenario.specs.declared.key_index.KeyIndex as code
use Rattle.scenario.specs.Indexes.{Indexes, KeyIndex, first_index, indexes_opened, with_index}
use Rattle.scenario.specs.IndexView.{AreIndexes, key_index_of}
use Rattle.scenario.specs.Run.{Scene, names_opened, entry}
use Rattle.scenario.specs.SessionView.{Done, IsShort}

-- where no follower was opened no name is bound
pub none_opened : (names : List (Named ℕ)) (name : List ℕ) (fault : OpenFollowerFault) → names ≡ names_opened names name (open_reply_of (Err fault))
none_opened names name open'.TooManyFollowers = refl
none_opened names name open'.OutOfMemory = refl

-- what was put behind nothing
pub open_printed : (out old word name : List ℕ) (printed result : Result FollowerId OpenFollowerFault) → out ≡ old ++ opening_text word name (open_reply_of printed) → old ≡ [] → printed ≡ result → out ≡ opening_text word name (open_reply_of result)
open_printed out old word name printed result is empty same =
    is ∙ ap (λ (l : List ℕ). l ++ opening_text word name (open_reply_of printed)) empty ∙ ap (λ (r : Result FollowerId OpenFollowerFault). opening_text word name (open_reply_of r)) same

-- memory runs out only where a number is free
free_at : (held : Held) (s : State) (result : Result FollowerId OpenFollowerFault) → Stands held s → IfErr result (IsWantAtOpen held) → open_reply_of result ≡ OutOfMemory → free_id s.followers < follower_limit
free_at held s (Ok id) stands memory is = cc
free_at held s (Err open'.TooManyFollowers) stands memory is = cc
free_at held s (Err open'.OutOfMemory) stands memory is = subst (λ n. n < follower_limit) (sym (the_lengths.free held.chain held.followers s.followers stands.followers)) (memory refl)

pub open_acted : {S : Type 0} (network : Network) (s : Scene) (name : List ℕ) (result : Result FollowerId OpenFollowerFault) (out : List ℕ) (held : Held) (new : Session S) → out ≡ opening_text (codes "open") name (open_reply_of result)
    → Stands held s.state → IfErr result (IsWantAtOpen held)
    → AreNamed new.names (record s.names { of_followers = names_opened s.names.of_followers name (open_reply_of result) }) → AreIndexes new.indexes s.indexes
    → (t : State) × Step network s.state Open (open_reply_of result) t × Stands new.core t
    → Done network s (OpensFollower name) out new
open_acted network s name result out held new printed held_stands memory names indexes (t, step, stands) = record {
  entries = entry Open (open_reply_of result);
  scene = record { state = t; names = record s.names { of_followers = names_opened s.names.of_followers name (open_reply_of result) }; indexes = s.indexes };
  acts = (open_reply_of result, record { step = step; free = free_at held s.state result held_stands memory; names = refl; is_indexes = refl }, printed, refl);
  holds = record { stands = stands; names = names; indexes = indexes };
}

-- the same where an index is put beside it
pub watch_acted : {S : Type 0} (network : Network) (s : Scene) (name : List ℕ) (keys : List (Named Address)) (result : Result FollowerId OpenFollowerFault) (out : List ℕ) (held : Held) (new : Session S) → out ≡ opening_text (codes "watch") name (open_reply_of result)
    → Stands held s.state → IfErr result (IsWantAtOpen held)
    → AreNamed new.names (record s.names { of_followers = names_opened s.names.of_followers name (open_reply_of result) }) → AreIndexes new.indexes (indexes_opened keys s.indexes (open_reply_of result))
    → (t : State) × Step network s.state Open (open_reply_of result) t × Stands new.core t
    → Done network s (WatchesKeys name keys) out new
watch_acted network s name keys result out held new printed held_stands memory names indexes (t, step, stands) = record {
  entries = entry Open (open_reply_of result);
  scene = record { state = t; names = record s.names { of_followers = names_opened s.names.of_followers name (open_reply_of result) }; indexes = indexes_opened keys s.indexes (open_reply_of result) };
  acts = (open_reply_of result, record { step = step; free = free_at held s.state result held_stands memory; names = refl; is_indexes = refl }, printed, refl);
  holds = record { stands = stands; names = names; indexes = indexes };
}

-- an index is put beside a follower that was opened
pub begun_index : (result : Result (Unit {0}) AllocError) (old new : table.Indexes) (index : code.KeyIndex) (opening : Result FollowerId OpenFollowerFault) (id : FollowerId) → opening ≡ Ok id
    → OnOk result ((known : Indexes) → AreIndexes old known → AreIndexes new (with_index id.number (Some (key_index_of index)) known))
    → OnOk result ((known : Indexes) (keys : List (Named Address)) → AreIndexes old known → key_index_of index ≡ first_index known.genesis keys → AreIndexes new (indexes_opened keys known (open_reply_of opening)))
begun_index (Ok done) old new index opening id is put = λ known keys before first.
    rw is (subst (λ (i : KeyIndex). AreIndexes new (with_index id.number (Some i) known)) first (put known before))
begun_index (Err why) old new index opening id is put = tt

-- the core after an opening, whatever becomes of the rest of a session
pub step_to : (network : Network) (s : State) (reply : Reply) (now core : Held) → now ≡ core → (t : State) × Step network s Open reply t × Stands core t → (t : State) × Step network s Open reply t × Stands now t
step_to network s reply now core same step = subst (λ (h : Held). (t : State) × Step network s Open reply t × Stands h t) (sym same) step

pub short_of : (network : Network) (s : State) (means : Result Meaning LineFault → Type 0) (now core : Held) → now ≡ core → IsShort network s means core → IsShort network s means now
short_of network s means now core same short = subst (λ (h : Held). IsShort network s means h) (sym same) short
