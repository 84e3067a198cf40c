-- What a script prints, and how its run ends.
use Rattle.std.specs.Prelude.{◌≡◌, ◌≢◌, ◌⊎◌, ℕ, Bool, ◌+◌, ◌<◌, List, [], ◌∷◌, ◌++◌, length, Option, Some, None}
use Rattle.std.specs.Prelude.{Result, Ok, Err, codes}
use Rattle.std.specs.List.{concat}
use Rattle.std.specs.Io.KnownBytes.{Appends}
use Rattle.model.specs.Cbor.{text_of}
use Rattle.model.specs.Transaction.{Transaction, item_of_transaction}
use Rattle.model.specs.Ledger.{Network, Ledger, ledger_of}
use Rattle.model.specs.Chain.{Point, tip_point, IsOpening}
use Rattle.model.specs.Follower.{free_id}
use Rattle.model.specs.Limits.{follower_limit}
use Rattle.model.specs.Forging.{ForgeFault, ForgeApplies, IsNotForged, IsForged}
use Rattle.model.specs.History.{State, opening, Event, Arrive, Submit, Open, Next, Forward, Close, Discard, Step}
use Rattle.model.specs.History.{HasDue, Reply, Opened, OutOfMemory}
use Rattle.model.specs.History.{Entry, IsRun, IsLegal, ChainTheorem}
use Rattle.model.specs.Asked.{Why, IsWhyOf, TxPlace, IsTxPlaceOf}
use Rattle.genesis.specs.declared.scheme.Scheme.{Scheme}
use Rattle.script.specs.declared.fault.LineFault.{LineFault}
use Rattle.script.specs.declared.fault.LineFault.TheVariants.{BadLine}
use Rattle.script.specs.declared.stop.Stop.{Stop}
use Rattle.script.specs.declared.stop.Stop.TheVariants as stop
use Rattle.scenario.specs.declared.options.Options.{Options}
use Rattle.scenario.specs.declared.fault.ScenarioFault.{ScenarioFault}
use Rattle.scenario.specs.declared.fault.ScenarioFault.TheVariants as fault
use Rattle.script.specs.Text.{lines_of}
use Rattle.script.specs.Names.{Named, Binding, OpenTx, AllNames, no_names}
use Rattle.script.specs.Meaning.{Meaning, Defines, Arrives, SubmitsTx, ForgesBlock, OpensFollower, WatchesKeys}
use Rattle.script.specs.Meaning.{TellsFollower}
use Rattle.script.specs.Meaning.{ForwardsFollower, ClosesFollower, DiscardsBlock, PrintsTip, PrintsMempool, PrintsUtxo}
use Rattle.script.specs.Meaning.{PrintsWhy, PrintsWhere, PrintsBalance, AreNamesAfter, HasNoFault, Means, formed}
use Rattle.script.specs.Meaning.{bound_block}
use Rattle.scenario.specs.Pieces.{IsPiece}
use Rattle.scenario.specs.Print.{arrival_text, submission_text, ForgeAnswer, ForgedBlock, NoBlock, NoMemory}
use Rattle.scenario.specs.Print.{forge_answer_text, forging_text, mempool_text, opening_text, tip_text, utxo_text}
use Rattle.scenario.specs.Print.{IsNextText, forwarding_text, closing_text, discarding_text}
use Rattle.scenario.specs.Answers.{why_text, where_text}
use Rattle.scenario.specs.Notes.{IsNote}
use Rattle.scenario.specs.Balances.{outputs_of_address, IsBalanceText}
use Rattle.scenario.specs.Indexes.{Indexes, KeyIndex, no_indexes, with_index, indexes_opened, IsIndexAfter}
use Rattle.scenario.specs.Indexes.{indexes_forwarded, indexes_closed, IsIndexText, AreBeside}

-- the node's state with the names that are bound, and the indexes beside followers
pub record Scene : Type 0 where
  pub state : State
  pub names : AllNames
  pub indexes : Indexes

-- A node in this state, where no name is bound and no follower has an index. What a script signs it signs by this
-- scheme.
abbrev pub first_scene : Scheme → Network → State → Scene
first_scene scheme network s =
    record {
      state = s;
      names = no_names scheme network.genesis.params.network;
      indexes = no_indexes network.genesis;
    }

-- nothing has happened either
abbrev pub opening_scene : Scheme → Network → Scene
opening_scene scheme network = first_scene scheme network (opening network)

-- bytes that arrived were answered so, by a step of the definitions
pub record Arrived (network : Network) (s : Scene) (bytes : List ℕ) (reply : Reply) (t : Scene) : Type 0 where
  pub step : Step network s.state (Arrive bytes) reply t.state
  pub names : t.names ≡ s.names
  pub indexes : t.indexes ≡ s.indexes

-- the transaction was submitted and answered so, by a step of the definitions
pub record WasSubmitted (network : Network) (s : Scene) (tx : Transaction) (reply : Reply) (t : Scene) : Type 0 where
  pub step : Step network s.state (Submit (text_of (item_of_transaction tx))) reply t.state
  pub names : t.names ≡ s.names
  pub indexes : t.indexes ≡ s.indexes

-- a block is forged in this slot, or why there is none. Memory runs out only where there is no other reason
abbrev pub IsForgeAnswer : Network → State → (slot : ℕ) → ForgeAnswer → Type 0
IsForgeAnswer network s slot (ForgedBlock b) = IsForged network s.chain s.mempool slot b
IsForgeAnswer network s slot (NoBlock fault) = IsNotForged network s.chain slot fault
IsForgeAnswer network s slot NoMemory = (fault : ForgeFault) → ForgeApplies network s.chain slot fault → ⊥

-- the block that was forged has the name. Where there is none, no name is bound
abbrev pub names_forged : List Binding → List ℕ → ForgeAnswer → List Binding
names_forged names name (ForgedBlock b) = names ++ record { name = name; bound = bound_block b } ∷ []
names_forged names name answer = names

-- forging is answered so, and changes nothing but the names
pub record WasForged (network : Network) (s : Scene) (name : List ℕ) (slot : ℕ) (answer : ForgeAnswer) (t : Scene)
    : Type 0 where
  pub is_answer : IsForgeAnswer network s.state slot answer
  pub state : t.state ≡ s.state
  pub names : t.names ≡ record s.names { of_bytes = names_forged s.names.of_bytes name answer }
  pub indexes : t.indexes ≡ s.indexes

-- once an opening was answered, the new follower has the name. Where none was opened, no name is bound
abbrev pub names_opened : List (Named ℕ) → List ℕ → Reply → List (Named ℕ)
names_opened names name (Opened id) = names ++ record { name = name; bound = id } ∷ []
names_opened names name reply = names

-- the opening of a follower of this name was answered so, by a step of the definitions, and the indexes are these.
-- Memory runs out only where a number is free
pub record WasOpened (network : Network) (s : Scene) (name : List ℕ) (reply : Reply) (indexes : Indexes) (t : Scene)
    : Type 0 where
  pub step : Step network s.state Open reply t.state
  pub free : reply ≡ OutOfMemory → free_id s.state.followers < follower_limit
  pub names : t.names ≡ record s.names { of_followers = names_opened s.names.of_followers name reply }
  pub is_indexes : t.indexes ≡ indexes

-- a follower that asked what comes next was answered so, by a step of the definitions, and the index beside it, if it
-- has one, took that, or was given up because it can't. Memory runs out only where a block comes next
pub record WasInstructed (network : Network) (s : Scene) (id : ℕ) (reply : Reply) (t : Scene) : Type 0 where
  pub step : Step network s.state (Next id) reply t.state
  pub due : reply ≡ OutOfMemory → HasDue s.state id
  pub names : t.names ≡ s.names
  pub index : Option KeyIndex
  pub is_after : IsIndexAfter (s.indexes.of_follower id) reply index
  pub indexes : t.indexes ≡ with_index id index s.indexes

-- a follower that was to be set to one of these points was answered so, by a step of the definitions, for which no
-- memory is asked
pub record WasForwarded (network : Network) (s : Scene) (id : ℕ) (points : List Point) (reply : Reply) (t : Scene)
    : Type 0 where
  pub step : Step network s.state (Forward id points) reply t.state
  pub enough : reply ≢ OutOfMemory
  pub names : t.names ≡ s.names
  pub indexes : t.indexes ≡ indexes_forwarded id s.indexes reply

-- the closing of a follower was answered so, by a step of the definitions, for which no memory is asked
pub record WasClosed (network : Network) (s : Scene) (id : ℕ) (reply : Reply) (t : Scene) : Type 0 where
  pub step : Step network s.state (Close id) reply t.state
  pub enough : reply ≢ OutOfMemory
  pub names : t.names ≡ s.names
  pub indexes : t.indexes ≡ indexes_closed id s.indexes reply

-- the discarding of a block was answered so, by a step of the definitions, for which no memory is asked
pub record WasDiscarded (network : Network) (s : Scene) (hash : List ℕ) (reply : Reply) (t : Scene) : Type 0 where
  pub step : Step network s.state (Discard hash) reply t.state
  pub enough : reply ≢ OutOfMemory
  pub names : t.names ≡ s.names
  pub indexes : t.indexes ≡ s.indexes

-- an event with its reply, as the one entry of a history
abbrev pub entry : Event → Reply → List Entry
entry event reply = record { event = event; reply = reply } ∷ []

-- From one scene a line that means this prints so, and leaves the other; these are its event and the reply that is
-- printed, if it has an event. That memory ran out is a step too, where it may be answered.
abbrev pub Acts : Network → Scene → Meaning → (out : List ℕ) → List Entry → Scene → Type 0
Acts network s (Defines definition) out entries t =
    (out ≡ []) × (entries ≡ []) × (t.state ≡ s.state) × AreNamesAfter s.names definition t.names
    × (t.indexes ≡ s.indexes)
Acts network s (Arrives form name bytes) out entries t = (reply : Reply) × Arrived network s (formed form bytes) reply t
    × (out ≡ arrival_text form name reply) × (entries ≡ entry (Arrive (formed form bytes)) reply)
Acts network s (SubmitsTx name tx) out entries t = (reply : Reply) × WasSubmitted network s tx reply t
    × (out ≡ submission_text name reply) × (entries ≡ entry (Submit (text_of (item_of_transaction tx))) reply)
Acts network s (ForgesBlock name slot) out entries t = (answer : ForgeAnswer) × WasForged network s name slot answer t
    × (out ≡ forging_text name (forge_answer_text answer)) × (entries ≡ [])
Acts network s (OpensFollower name) out entries t = (reply : Reply) × WasOpened network s name reply s.indexes t
    × (out ≡ opening_text (codes "open") name reply) × (entries ≡ entry Open reply)
Acts network s (WatchesKeys name keys) out entries t = (reply : Reply)
    × WasOpened network s name reply (indexes_opened keys s.indexes reply) t
    × (out ≡ opening_text (codes "watch") name reply) × (entries ≡ entry Open reply)
Acts network s (TellsFollower name id) out entries t = (reply : Reply) × (told : WasInstructed network s id reply t)
    × (line : List ℕ) × IsNextText s.names.of_bytes name reply line
    × (more : List ℕ) × IsIndexText name (s.indexes.of_follower id) told.index more × (out ≡ line ++ more)
    × (entries ≡ entry (Next id) reply)
Acts network s (ForwardsFollower name id points) out entries t = (reply : Reply)
    × WasForwarded network s id points reply t
    × (out ≡ forwarding_text s.names.of_bytes name reply) × (entries ≡ entry (Forward id points) reply)
Acts network s (ClosesFollower name id) out entries t = (reply : Reply) × WasClosed network s id reply t
    × (out ≡ closing_text name reply) × (entries ≡ entry (Close id) reply)
Acts network s (DiscardsBlock name hash) out entries t = (reply : Reply) × WasDiscarded network s hash reply t
    × (out ≡ discarding_text name reply) × (entries ≡ entry (Discard hash) reply)
Acts network s PrintsTip out entries t = (out ≡ tip_text s.names.of_bytes (tip_point s.state.chain)) × (entries ≡ [])
    × (t ≡ s)
Acts network s PrintsMempool out entries t = (out ≡ mempool_text s.names.of_txs s.state.mempool) × (entries ≡ [])
    × (t ≡ s)
Acts network s PrintsUtxo out entries t = (ledger : Ledger) × (ledger_of network s.state.chain ≡ Some ledger)
    × (out ≡ utxo_text ledger) × (entries ≡ []) × (t ≡ s)
Acts network s (PrintsWhy name hash) out entries t = (why : Why) × IsWhyOf network s.state hash why
    × (out ≡ why_text s.names.of_bytes name why) × (entries ≡ []) × (t ≡ s)
Acts network s (PrintsWhere name id) out entries t = (place : TxPlace) × IsTxPlaceOf network s.state id place
    × (out ≡ where_text s.names.of_bytes s.state.chain name place) × (entries ≡ []) × (t ≡ s)
Acts network s (PrintsBalance owner address) out entries t = (ledger : Ledger)
    × (ledger_of network s.state.chain ≡ Some ledger)
    × IsBalanceText (outputs_of_address address ledger.utxo) owner out × (entries ≡ []) × (t ≡ s)

-- a line of this number after `before` bytes has no fault, and prints so: its text, and behind it the note on its
-- event, if the script is explained
pub record Obeys (network : Network) (explain : Bool) (number before : ℕ) (s : Scene) (line out : List ℕ)
    (entries : List Entry) (t : Scene) : Type 0 where
  pub meaning : Meaning
  pub is_meant : Means number before s.names line (Ok meaning)
  pub text : List ℕ
  pub acts : Acts network s meaning text entries t
  pub note : List ℕ
  pub is_note : IsNote network explain t.names.of_bytes s.state entries t.state note
  pub printed : out ≡ text ++ note

-- lines from this number on, after `before` bytes, print so, one after the other, and this is the history of their
-- events with the replies that are printed
abbrev pub Prints : Network → (explain : Bool) → (number before : ℕ) → Scene → List (List ℕ) → List ℕ → List Entry
    → Scene → Type 0
Prints network explain number before s [] out history t = (out ≡ []) × (history ≡ []) × (t ≡ s)
Prints network explain number before s (line ∷ lines) out history t =
    (first rest : List ℕ) × (entries later : List Entry) × (mid : Scene)
    × Obeys network explain number before s line first entries mid
    × Prints network explain (number + 1) (before + length line) mid lines rest later t
    × (out ≡ first ++ rest) × (history ≡ entries ++ later)

-- Lines from the beginning of a script, which finds the node in this state, are obeyed and print so. Their events with
-- the replies that are printed are a run from that state to the one whose tip, mempool and followers are printed. Where
-- the node was opened on a valid chain, the chain theorem holds of every legal history that led to the state with these
-- behind it: that is a legal history, the selected chain is valid, and none is longer, the mempool is valid on it, and
-- each follower follows it. Then each index has followed what its follower was told by that history.
pub record AreObeyed (options : Options) (network : Network) (start : State) (lines : List (List ℕ)) (out : List ℕ)
    : Type 0 where
  pub scene : Scene
  pub history : List Entry
  pub prints : Prints network options.explain 1 0 (first_scene options.scheme network start) lines out history scene
  pub run : IsRun network start history scene.state
  pub theorem : IsOpening network → (past : List Entry) → IsLegal network past start
      → ChainTheorem network (past ++ history) scene.state
  pub indexes : IsOpening network → (past : List Entry) → IsLegal network past start
      → AreBeside network (past ++ history) scene.state scene.indexes

-- INDEXES OF A SCRIPT
-- After whatever first lines of a script, on a node that was opened on a valid chain, each index has followed what its
-- follower was told, by whatever legal history led to the state in which the script found the node.
abbrev pub IndexesFollow : Type 0
IndexesFollow = (scheme : Scheme) (network : Network) (start : State) (explain : Bool) (lines : List (List ℕ))
    (out : List ℕ) (past history : List Entry) (scene : Scene) → IsOpening network → IsLegal network past start
    → Prints network explain 1 0 (first_scene scheme network start) lines out history scene
    → AreBeside network (past ++ history) scene.state scene.indexes

-- ---- what a line leaves where memory runs out

-- the event of a line that means this, if it has one
abbrev pub event_meant : Meaning → Option Event
event_meant (Arrives form name bytes) = Some (Arrive (formed form bytes))
event_meant (SubmitsTx name tx) = Some (Submit (text_of (item_of_transaction tx)))
event_meant (OpensFollower name) = Some Open
event_meant (WatchesKeys name keys) = Some Open
event_meant (TellsFollower name id) = Some (Next id)
event_meant (ForwardsFollower name id points) = Some (Forward id points)
event_meant (ClosesFollower name id) = Some (Close id)
event_meant (DiscardsBlock name hash) = Some (Discard hash)
event_meant meaning = None

-- the event of a line that means this was answered so, by a step of the definitions
pub record HasHappened (network : Network) (s : State) (meaning : Meaning) (t : State) : Type 0 where
  pub event : Event
  pub is_event : event_meant meaning ≡ Some event
  pub reply : Reply
  pub step : Step network s event reply t

-- the state is the one before a line that means this, or the one after its event
abbrev pub IsLeftBy : Network → State → (means : Result Meaning LineFault → Type 0) → State → Type 0
IsLeftBy network s means t = (t ≡ s) ⊎ ((meaning : Meaning) × means (Ok meaning) × HasHappened network s meaning t)

-- ---- ends of a script that finds the node in one state, and leaves it in another

-- the line of this number is the first one with a fault, the lines before it print so, and what comes after it is left
pub record StopsAt (options : Options) (network : Network) (start : State) (text left : List ℕ) (number : ℕ)
    (fault : LineFault) (out : List ℕ) (end : State) : Type 0 where
  pub before : List (List ℕ)
  pub line : List ℕ
  pub after : List (List ℕ)
  pub lines : lines_of text ≡ before ++ line ∷ after
  pub read : text ≡ concat before ++ (line ++ left)
  pub counted : length before + 1 ≡ number
  pub obeyed : AreObeyed options network start before out
  pub is_fault : Means number (length (concat before)) obeyed.scene.names line (Err fault)
  pub is_end : end ≡ obeyed.scene.state

-- all lines print so, and they leave a transaction without its end, which was begun in the line of this number
pub record IsUnended (options : Options) (network : Network) (start : State) (text : List ℕ) (number : ℕ) (out : List ℕ)
    (end : State) : Type 0 where
  pub obeyed : AreObeyed options network start (lines_of text) out
  pub made : OpenTx
  pub is_made : obeyed.scene.names.making ≡ Some made
  pub line : made.line ≡ number
  pub is_end : end ≡ obeyed.scene.state

-- Some first lines of the text were read, and then a piece of the next one, or none; `left` is what is left of the
-- text. What was written is exactly what the lines print.
pub record BreaksOff (options : Options) (network : Network) (start : State) (text left out : List ℕ) : Type 0 where
  pub lines : List (List ℕ)
  pub after : List (List ℕ)
  pub begins : lines_of text ≡ lines ++ after
  pub more : List ℕ
  pub piece : IsPiece more
  pub read : text ≡ concat lines ++ (more ++ left)
  pub obeyed : AreObeyed options network start lines out

-- The same where no more was read: the state is the one that the lines leave.
pub record StopsReading (options : Options) (network : Network) (start : State) (text left out : List ℕ) (end : State)
    : Type 0 where
  pub broken : BreaksOff options network start text left out
  pub is_end : end ≡ broken.obeyed.scene.state

-- The same where memory ran out: if the bytes more are a line with its line feed, that line has no fault, except that
-- it may not be built where only memory tells. The state is the one that the lines before it leave, or its event did
-- happen, and nothing that it prints was written.
pub record RunsShort (options : Options) (network : Network) (start : State) (text left out : List ℕ) (end : State)
    : Type 0 where
  pub broken : BreaksOff options network start text left out
  pub has_no_fault : (content : List ℕ) → broken.more ≡ content ++ 10 ∷ []
      → HasNoFault (length broken.lines + 1) (length (concat broken.lines)) broken.obeyed.scene.names broken.more
  pub is_end : IsLeftBy network broken.obeyed.scene.state
      (Means (length broken.lines + 1) (length (concat broken.lines)) broken.obeyed.scene.names broken.more) end

-- of what the last line prints that was read a part was written, and not all; of those before it all
pub record StopsWriting (options : Options) (network : Network) (start : State) (text left out : List ℕ) (end : State)
    : Type 0 where
  pub lines : List (List ℕ)
  pub line : List ℕ
  pub after : List (List ℕ)
  pub begins : lines_of text ≡ lines ++ line ∷ after
  pub read : text ≡ concat lines ++ (line ++ left)
  pub before : List ℕ
  pub printed : List ℕ
  pub obeyed_before : AreObeyed options network start lines before
  pub obeyed : AreObeyed options network start (lines ++ line ∷ []) (before ++ printed)
  pub part : List ℕ
  pub unwritten : List ℕ
  pub parts : printed ≡ part ++ unwritten
  pub not_all : unwritten ≢ []
  pub written : out ≡ before ++ part
  pub is_end : end ≡ obeyed.scene.state

-- the end of a run without fault: what all lines of the text print was written, and no transaction is without its end
pub record EndsWellFrom (options : Options) (network : Network) (start : State) (text : List ℕ)
    (old new : Option (List ℕ)) (end : State) : Type 0 where
  pub out : List ℕ
  pub written : Appends old new out
  pub obeyed : AreObeyed options network start (lines_of text) out
  pub ended : obeyed.scene.names.making ≡ None
  pub is_end : end ≡ obeyed.scene.state

-- what was written at a fault, where this is left of the text
abbrev pub IsFaultOf : Options → Network → State → (text left out : List ℕ) → ScenarioFault → State → Type 0
IsFaultOf options network start text left out (fault.Line number why) end =
    StopsAt options network start text left number why out end
    ⊎ ((why ≡ BadLine) × (left ≡ []) × IsUnended options network start text number out end)
IsFaultOf options network start text left out fault.ReadFailed end =
    StopsReading options network start text left out end
IsFaultOf options network start text left out fault.WriteFailed end =
    StopsWriting options network start text left out end
IsFaultOf options network start text left out fault.OutOfMemory end = RunsShort options network start text left out end

-- the end of a run by a fault
pub record EndsByFrom (options : Options) (network : Network) (start : State) (text : List ℕ)
    (remaining old new : Option (List ℕ)) (why : ScenarioFault) (end : State) : Type 0 where
  pub left : List ℕ
  pub remains : remaining ≡ Some left
  pub out : List ℕ
  pub written : Appends old new out
  pub is_fault : IsFaultOf options network start text left out why end

-- ---- ends of a script that finds a node to which nothing came since it was opened, on a valid chain

-- the end of a run without fault
pub record EndsWell (options : Options) (network : Network) (text : List ℕ) (old new : Option (List ℕ)) : Type 0 where
  pub opens : IsOpening network
  pub end : State
  pub ends : EndsWellFrom options network (opening network) text old new end

-- the end of a run by a fault
pub record EndsBy (options : Options) (network : Network) (text : List ℕ) (remaining old new : Option (List ℕ))
    (why : ScenarioFault) : Type 0 where
  pub opens : IsOpening network
  pub end : State
  pub ends : EndsByFrom options network (opening network) text remaining old new why end

-- why the line of this number was not run
abbrev pub fault_of : ℕ → Stop → ScenarioFault
fault_of number (stop.Fault why) = fault.Line number why
fault_of number stop.OutOfMemory = fault.OutOfMemory
