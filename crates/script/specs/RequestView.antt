-- What all names of the code stand for, and what a line asks for where they are bound.
use Rattle.std.specs.Prelude.{◌≡◌, ℕ, Bool, IsTrue, List, map, Option, Some, None, Result, Ok, Err}
use Rattle.ident.specs.PointView.{point_of}
use Rattle.model.specs.Transaction.{Transaction, Address}
use Rattle.tx.specs.View.{address_of}
use Rattle.draft.specs.View.{IsDraftOf}
use Rattle.script.specs.declared.fault.LineFault.{LineFault}
use Rattle.script.specs.declared.fault.LineFault.TheVariants.{NotBuilt}
use Rattle.script.specs.declared.stop.Stop.{Stop}
use Rattle.script.specs.declared.stop.Stop.TheVariants.{Fault, OutOfMemory}
use Rattle.script.specs.declared.request.KeyAddress.{KeyAddress}
use Rattle.script.specs.declared.request.Request.{Request}
use Rattle.script.specs.declared.request.Request.TheVariants as request
use Rattle.script.specs.declared.names.Names.{Names}
use Rattle.script.specs.declared.open_tx.OpenTx as code
use Rattle.script.specs.Names.{Named, Bound, OpenTx, AllNames, bound_to}
use Rattle.script.specs.NamesView.{AreBound}
use Rattle.script.specs.TxNamesView.{AreTxsNamed}
use Rattle.script.specs.FollowerNamesView.{AreFollowersNamed, HasRoom}
use Rattle.script.specs.KnownView.{AreKnown}
use Rattle.script.specs.SignerView.{key_signer_of}
use Rattle.script.specs.Line.{Line}
use Rattle.script.specs.Meaning.{Meaning, Defines, Definition, Arrives, SubmitsTx, ForgesBlock, OpensFollower, WatchesKeys}
use Rattle.script.specs.Meaning.{TellsFollower, ForwardsFollower, ClosesFollower, DiscardsBlock, PrintsTip}
use Rattle.script.specs.Meaning.{PrintsMempool, PrintsUtxo, PrintsWhy, PrintsWhere, PrintsBalance, AreNamesAfter}
use Rattle.script.specs.Meaning.{MeansLine, is_late}
use Rattle.script.specs.PartView.{owner_of}

-- the code holds this transaction in the making
pub record IsMaking (code : code.OpenTx) (making : OpenTx) : Type 0 where
  pub name : making.name ≡ code.name.items
  pub line : making.line ≡ code.line
  pub stands : IsDraftOf key_signer_of code.draft making.draft

-- the transaction in the making, if there is one
abbrev pub IsOpen : Option code.OpenTx → Option OpenTx → Type 0
IsOpen None making = making ≡ None
IsOpen (Some code) making = (made : OpenTx) × (making ≡ Some made) × IsMaking code made

-- the names of the code stand for these, of each kind, and that of a transaction in the making is free
pub record AreNamed (code : Names) (names : AllNames) : Type 0 where
  pub known : AreKnown code.known names
  pub printed : AreTxsNamed code.printed names.of_txs
  pub of_bytes : AreBound code.bytes names.of_bytes
  pub of_followers : AreFollowersNamed code.followers names.of_followers
  pub making : IsOpen code.making names.making
  pub free : (making : OpenTx) → names.making ≡ Some making → bound_to making.name names.of_txs ≡ None

-- there is room to give the name to a follower
abbrev pub HasFollowerRoom : Names → List ℕ → Type 0
HasFollowerRoom code name = HasRoom code.followers name

-- a definition of these names is made
pub record IsDefined (names : AllNames) (code : Names) (definition : Definition) : Type 0 where
  pub new : AllNames
  pub after : AreNamesAfter names definition new
  pub named : AreNamed code new

-- what a key of the code stands for
abbrev pub key_address_of : KeyAddress → Named Address
key_address_of key = record { name = key.name.items; bound = address_of key.address }

-- Where these names are bound a line that means this asks for this. Its definition is made, or the names of the code
-- have room for it.
abbrev pub IsRequest : AllNames → Names → Request → Meaning → Type 0
IsRequest names code request.Nothing meaning = (definition : Definition) × (meaning ≡ Defines definition)
    × IsDefined names code definition
IsRequest names code (request.Arrive form name) meaning = (bound : Bound)
    × (bound_to name.text.now names.of_bytes ≡ Some bound) × (meaning ≡ Arrives form name.text.now bound.bytes)
    × AreNamed code names
IsRequest names code (request.Submit name) meaning = (tx : Transaction)
    × (bound_to name.text.now names.of_txs ≡ Some tx) × (meaning ≡ SubmitsTx name.text.now tx) × AreNamed code names
IsRequest names code (request.Forge name slot) meaning = (meaning ≡ ForgesBlock name.text.now slot)
    × (bound_to name.text.now names.of_bytes ≡ None) × AreNamed code names
IsRequest names code (request.Open name) meaning = (meaning ≡ OpensFollower name.text.now)
    × (bound_to name.text.now names.of_followers ≡ None) × HasFollowerRoom code name.text.now × AreNamed code names
IsRequest names code (request.Watch name keys) meaning =
    (meaning ≡ WatchesKeys name.text.now (map key_address_of keys.items))
    × (bound_to name.text.now names.of_followers ≡ None) × HasFollowerRoom code name.text.now × AreNamed code names
IsRequest names code (request.Next name id) meaning = (meaning ≡ TellsFollower name.text.now id) × AreNamed code names
IsRequest names code (request.Forward name id points) meaning =
    (meaning ≡ ForwardsFollower name.text.now id (map point_of points.items)) × AreNamed code names
IsRequest names code (request.Close name id) meaning = (meaning ≡ ClosesFollower name.text.now id) × AreNamed code names
IsRequest names code (request.Discard name hash) meaning =
    (meaning ≡ DiscardsBlock name.text.now hash.bytes) × AreNamed code names
IsRequest names code request.Tip meaning = (meaning ≡ PrintsTip) × AreNamed code names
IsRequest names code request.Mempool meaning = (meaning ≡ PrintsMempool) × AreNamed code names
IsRequest names code request.Utxo meaning = (meaning ≡ PrintsUtxo) × AreNamed code names
IsRequest names code (request.Why name hash) meaning =
    (meaning ≡ PrintsWhy name.text.now hash.bytes) × AreNamed code names
IsRequest names code (request.Where name id) meaning =
    (meaning ≡ PrintsWhere name.text.now id.bytes) × AreNamed code names
IsRequest names code (request.Balance owner address) meaning =
    (meaning ≡ PrintsBalance (owner_of owner) (address_of address)) × AreNamed code names

-- a line that has a meaning asks for this
pub record Asked (names : AllNames) (means : Result Meaning LineFault → Type 0) (asks : Request) (new : Names)
    : Type 0 where
  pub meaning : Meaning
  pub is_meant : means (Ok meaning)
  pub is_request : IsRequest names new asks meaning

-- there is no fault but, where it is late, the one that only memory tells
abbrev pub Lacks : {M : Type 0} → (Result M LineFault → Type 0) → (late : Bool) → Type 0
Lacks means late = (fault : LineFault) → means (Err fault) → (fault ≡ NotBuilt) × IsTrue late

-- What is answered to a line that means this: what it asks for; its fault, which leaves the names; or that memory ran
-- out, which says that it has no other fault than one that only memory tells.
abbrev pub Asks : AllNames → (Result Meaning LineFault → Type 0) → (late : Bool) → Result Request Stop → Names → Type 0
Asks names means late (Ok asks) new = Asked names means asks new
Asks names means late (Err (Fault fault)) new = means (Err fault) × AreNamed new names
Asks names means late (Err OutOfMemory) new = Lacks means late

-- the same where what the line means is a function
abbrev pub AsksFor : AllNames → Result Meaning LineFault → (late : Bool) → Result Request Stop → Names → Type 0
AsksFor names meaning late result new = Asks names (λ m. meaning ≡ m) late result new

-- what a line asks for, inside of a transaction that is being made or outside of any
abbrev pub AsksLine : (number : ℕ) → AllNames → Option OpenTx → Line → Result Request Stop → Names → Type 0
AsksLine number names making line result new =
    Asks names (MeansLine number names making (Some line)) (is_late line) result new
