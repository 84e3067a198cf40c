-- Lines of a simulation's script: the words of a line that sends, and lines that define something as in every script.
use Rattle.std.proofs.Common.{◌≡◌, ◌∙◌, ◌+◌, ℕ, Bool, true, false, cond, List, [], ◌∷◌, length, Option, Some, None, is_some, Result, Ok, Err, refl, sym, subst}
use Rattle.std.specs.Prelude.{◌==◌, nat_le}
use Rattle.model.specs.Limits.{hash_size}
use Rattle.draft.specs.Draft.{empty_draft}
use Rattle.model.specs.Script.{Script}
use Rattle.script.specs.declared.fault.LineFault.{LineFault}
use Rattle.script.specs.declared.fault.LineFault.TheVariants.{BadLine, NotBuilt, UnknownName}
use Rattle.script.specs.declared.stop.Stop.{Stop}
use Rattle.script.specs.declared.stop.Stop.TheVariants.{Fault, OutOfMemory}
use Rattle.script.specs.declared.request.Request.{Request}
use Rattle.script.specs.declared.request.Request.TheVariants as request
use Rattle.script.specs.declared.names.Names.{Names}
use Rattle.script.specs.declared.open_tx.OpenTx as code
use Rattle.script.specs.declared.sending.SendRequest.{SendRequest}
use Rattle.script.specs.Line.{Line, NamedPlace, Nothing, DefineKey, DefineSeed, DefineScript, BeginTx, AddPart, EndTx, DefineBlock, DefineRaw, Arrive, SubmitTx, ForgeBlock, OpenFollower, WatchKeys, AskNext, AskForward, CloseFollower, DiscardBlock, AskTip, AskMempool, AskUtxo, AskWhy, AskWhere, AskBalance, parse_line}
use Rattle.script.specs.Names.{AllNames, Bound, OpenTx, Named, bound_to}
use Rattle.script.specs.Text.{script_size_limit}
use Rattle.script.specs.WordsView.{has_no_words}
use Rattle.script.specs.Keys.{Key, key_in, secret_key_in}
use Rattle.script.specs.Meaning.{Meaning, Definition, NoDefinition, BindsKey, BindsScript, Continues, Finishes, BindsBytes, Defines, MeansLine, MeansScript, base_after, begun, binds_bytes, block_meaning, bound_raw, built, built_key, continued, is_late, meaning_by, meaning_inside, meaning_outside, part_meaning, txs_named, where_free, where_known}
use Rattle.script.specs.RequestView.{AreNamed, Asked, AsksLine, IsDefined, IsOpen, IsRequest, Lacks}
use Rattle.script.specs.Sending.{Defining, MeansSimulation, SendLine, Sending, Sends, SimulationLine, is_definition, is_late_sending, parse_send, parse_sending, said_either, said_send, send_meaning}
use Rattle.script.specs.SendingView.{AsksSending, AsksToMake, AsksToSend, IsMade, send_line_of, SendsNothing}

-- ---- words

-- a line with one word more sends nothing
pub too_long : (peers : ℕ) (word peer name : List ℕ) (rest : List (List ℕ)) → has_no_words rest ≡ false → said_send peers (word ∷ peer ∷ name ∷ rest) ≡ None
too_long peers word peer name [] some = cc
too_long peers word peer name (more ∷ rest) some = refl

-- ---- what a line is

pub sends_within : (before peers : ℕ) (line : List ℕ) (s : SendLine) → nat_le (before + length line) script_size_limit ≡ true → parse_send peers line ≡ Some s → parse_sending before peers line ≡ Some (Sending s)
sends_within before peers line s within is = rw (within, is) refl

pub defines_within : (before peers : ℕ) (line : List ℕ) → nat_le (before + length line) script_size_limit ≡ true → parse_send peers line ≡ None → parse_sending before peers line ≡ said_either None (parse_line line)
defines_within before peers line within is = rw (within, is) refl

pub none_past : (before peers : ℕ) (line : List ℕ) → nat_le (before + length line) script_size_limit ≡ false → parse_sending before peers line ≡ None
none_past before peers line past = rw past refl

-- ---- a definition line means a definition

abbrev IsDefining : Result Meaning LineFault → Type 0
IsDefining (Ok m) = (d : Definition) × (m ≡ Defines d)
IsDefining (Err fault) = Unit {0}

free : {A : Type 0} (found : Option A) (made : Result Meaning LineFault) → IsDefining made → IsDefining (where_free found made)
free None made is = is
free (Some taken) made is = tt

known : {A : Type 0} (found : Option A) (make : A → Result Meaning LineFault) → ((a : A) → IsDefining (make a)) → IsDefining (where_known found make)
known None make is = tt
known (Some a) make is = is a

by_part : {X : Type 0} (mean : X → Meaning) (r : Result X LineFault) → ((x : X) → (d : Definition) × (mean x ≡ Defines d)) → IsDefining (meaning_by mean r)
by_part mean (Ok x) is = is x
by_part mean (Err fault) is = tt

key : (name : List ℕ) (said : Option Key) → IsDefining (built_key name said)
key name (Some k) = (BindsKey (record { name = name; bound = k }), refl)
key name None = tt

block : (names : AllNames) (name : List ℕ) (parent : NamedPlace) (slot : ℕ) (txs : List (List ℕ)) → IsDefining (block_meaning names name parent slot txs)
block names name parent slot txs =
    known (base_after names.of_bytes parent) _
    (λ base. known (txs_named names txs) _ (λ all. free (bound_to name names.of_bytes) _ (by_part (binds_bytes name) (built base slot all) (λ bound. (BindsBytes (record { name = name; bound = bound }), refl)))))

meant : (said : Result Meaning LineFault) (m : Meaning) → IsDefining said → said ≡ Ok m → (d : Definition) × (m ≡ Defines d)
meant said m is eq = subst IsDefining eq is

script : (found : Option Script) (name bytes : List ℕ) (m : Meaning) → MeansScript found name bytes (Ok m) → (d : Definition) × (m ≡ Defines d)
script (Some taken) name bytes m is = cc
script None name bytes m is = (BindsScript (record { name = name; bound = is.0 }), is.2)

pub defines : (number : ℕ) (names : AllNames) (making : Option OpenTx) (line : Line) (m : Meaning) → is_definition line ≡ true → MeansLine number names making (Some line) (Ok m) → (d : Definition) × (m ≡ Defines d)
defines number names (Some making) Nothing m so is = meant (Ok (Defines NoDefinition)) m (NoDefinition, refl) is
defines number names (Some making) (AddPart part) m so is = meant (meaning_inside names making (AddPart part)) m (by_part (continued making) (part_meaning names part making.draft) (λ draft. (Continues (record making { draft = draft }), refl))) is
defines number names (Some making) EndTx m so is = meant (Ok (Defines (Finishes making))) m (Finishes making, refl) is
defines number names (Some making) (DefineKey name bytes) m so is = cc
defines number names (Some making) (DefineSeed name bytes) m so is = cc
defines number names (Some making) (DefineScript name bytes) m so is = cc
defines number names (Some making) (BeginTx name) m so is = cc
defines number names (Some making) (DefineBlock name parent slot txs) m so is = cc
defines number names (Some making) (DefineRaw name bytes) m so is = cc
defines number names None Nothing m so is = meant (Ok (Defines NoDefinition)) m (NoDefinition, refl) is
defines number names None (DefineKey name bytes) m so is = meant (meaning_outside number names (DefineKey name bytes)) m (free (bound_to name names.of_keys) (built_key name (key_in bytes)) (key name (key_in bytes))) is
defines number names None (DefineSeed name bytes) m so is = meant (meaning_outside number names (DefineSeed name bytes)) m (free (bound_to name names.of_keys) (built_key name (secret_key_in names.scheme bytes)) (key name (secret_key_in names.scheme bytes))) is
defines number names None (DefineScript name bytes) m so is = script (bound_to name names.of_scripts) name bytes m is
defines number names None (BeginTx name) m so is = meant (meaning_outside number names (BeginTx name)) m (free (bound_to name names.of_txs) (begun number name) (Continues (record { name = name; line = number; draft = empty_draft }), refl)) is
defines number names None (AddPart part) m so is = cc
defines number names None EndTx m so is = cc
defines number names None (DefineBlock name parent slot txs) m so is = meant (meaning_outside number names (DefineBlock name parent slot txs)) m (block names name parent slot txs) is
defines number names None (DefineRaw name bytes) m so is = meant (meaning_outside number names (DefineRaw name bytes)) m (free (bound_to name names.of_bytes) (Ok (binds_bytes name (bound_raw bytes))) (BindsBytes (record { name = name; bound = bound_raw bytes }), refl)) is
defines number names making (Arrive form name) m so is = cc
defines number names making (SubmitTx name) m so is = cc
defines number names making (ForgeBlock name slot) m so is = cc
defines number names making (OpenFollower name) m so is = cc
defines number names making (WatchKeys name keys) m so is = cc
defines number names making (AskNext name) m so is = cc
defines number names making (AskForward name places) m so is = cc
defines number names making (CloseFollower name) m so is = cc
defines number names making (DiscardBlock name) m so is = cc
defines number names making AskTip m so is = cc
defines number names making AskMempool m so is = cc
defines number names making AskUtxo m so is = cc
defines number names making (AskWhy name) m so is = cc
defines number names making (AskWhere name) m so is = cc
defines number names making (AskBalance owner) m so is = cc

-- ---- a definition that is made

same_definition : (a b : Definition) (m : Meaning) → m ≡ Defines a → m ≡ Defines b → a ≡ b
same_definition a b m is also = let same : ◌≡◌ {A = Meaning} (Defines a) (Defines b) = sym is ∙ also in cc

is_defined : (names : AllNames) (c : Names) (asks : Request) (m : Meaning) (d : Definition) → IsRequest names c asks m → m ≡ Defines d → IsDefined names c d
is_defined names c request.Nothing m d (other, is, defined) also = subst (IsDefined names c) (same_definition other d m is also) defined
is_defined names c (request.Arrive form name) m d is also = let no = is.2 in cc
is_defined names c (request.Submit name) m d is also = let no = is.2 in cc
is_defined names c (request.Forge name slot) m d is also = let no = is.0 in cc
is_defined names c (request.Open name) m d is also = let no = is.0 in cc
is_defined names c (request.Watch name keys) m d is also = let no = is.0 in cc
is_defined names c (request.Next name id) m d is also = let no = is.0 in cc
is_defined names c (request.Forward name id points) m d is also = let no = is.0 in cc
is_defined names c (request.Close name id) m d is also = let no = is.0 in cc
is_defined names c (request.Discard name hash) m d is also = let no = is.0 in cc
is_defined names c request.Tip m d is also = let no = is.0 in cc
is_defined names c request.Mempool m d is also = let no = is.0 in cc
is_defined names c request.Utxo m d is also = let no = is.0 in cc
is_defined names c (request.Why name hash) m d is also = let no = is.0 in cc
is_defined names c (request.Where name id) m d is also = let no = is.0 in cc
is_defined names c (request.Balance owner address) m d is also = let no = is.0 in cc

-- a line that defines something is one of a simulation
pub is_line : (line : Line) → is_definition line ≡ true → said_either None (Some line) ≡ Some (Defining line)
is_line line so = rw so refl

pub no_line : (line : Line) → is_definition line ≡ false → said_either None (Some line) ≡ None
no_line line so = rw so refl

-- what it defines is made
pub is_made : (number : ℕ) (names : AllNames) (line : Line) (asks : Request) (new : Names) → is_definition line ≡ true → Asked names (MeansLine number names names.making (Some line)) asks new
    → IsMade names (MeansSimulation number names names.making (Some (Defining line))) new
is_made number names line asks new so asked =
    let d = defines number names names.making line asked.meaning so asked.is_meant in
    record {
      definition = d.0;
      is_meant = subst (λ (m : Meaning). MeansLine number names names.making (Some line) (Ok m)) d.1 asked.is_meant;
      defined = is_defined names new asks asked.meaning d.0 asked.is_request d.1;
    }

-- it is not
pub not_made : (number : ℕ) (names : AllNames) (line : Line) (stop : Stop) (new : Names) → AsksLine number names names.making line (Err stop) new
    → AsksToMake names (MeansSimulation number names names.making (Some (Defining line))) (is_late line) (Err stop) new
not_made number names line (Fault fault) new is = is
not_made number names line OutOfMemory new is = (is, λ peer name bytes sends. sends)

-- ---- what is answered

-- a text that is no line
pub refused : (number : ℕ) (names : AllNames) (said : Option SimulationLine) (new : Names) → said ≡ None → AreNamed new names → MeansSimulation number names names.making said (Err BadLine) × AreNamed new names
refused number names said new none named = (subst (λ (s : Option SimulationLine). MeansSimulation number names names.making s (Err BadLine)) (sym none) refl, named)

-- what is said of one line holds of a text that says it
pub made_so : (number : ℕ) (names : AllNames) (said other : Option SimulationLine) (r : Result Unit Stop) (new : Names) → said ≡ other
    → AsksToMake names (MeansSimulation number names names.making other) (is_late_sending other) r new → AsksToMake names (MeansSimulation number names names.making said) (is_late_sending said) r new
made_so number names said other r new is asks = subst (λ (s : Option SimulationLine). AsksToMake names (MeansSimulation number names names.making s) (is_late_sending s) r new) (sym is) asks

-- a definition is made in place of something that is sent
pub made_sending : (number : ℕ) (names : AllNames) (said : Option SimulationLine) (new : Names) → AsksToMake names (MeansSimulation number names names.making said) (is_late_sending said) (Ok tt) new
    → AsksSending names (MeansSimulation number names names.making said) (is_late_sending said) (Ok None) new
made_sending number names said new made = made

pub made_stop : (number : ℕ) (names : AllNames) (said : Option SimulationLine) (stop : Stop) (new : Names) → AsksToMake names (MeansSimulation number names names.making said) (is_late_sending said) (Err stop) new
    → AsksSending names (MeansSimulation number names names.making said) (is_late_sending said) (Err stop) new
made_stop number names said (Fault fault) new is = is
made_stop number names said OutOfMemory new is = is

-- ---- a line that sends

pub no_making : (codes : Option code.OpenTx) (making : Option OpenTx) → IsOpen codes making → is_some codes ≡ false → making ≡ None
no_making None making is so = is
no_making (Some begun) making is so = cc

pub unknown : (found : Option Bound) (peer : ℕ) (name : List ℕ) → false ≡ is_some found → where_known found (λ b. Ok (Sends peer name b.bytes)) ≡ Err UnknownName
unknown None peer name is = refl
unknown (Some b) peer name is = cc

known_by : (found : Option Bound) → true ≡ is_some found → (b : Bound) × (found ≡ Some b)
known_by None is = cc
known_by (Some b) is = (b, refl)

sends_bytes : (found : Option Bound) (b : Bound) (peer : ℕ) (name : List ℕ) → found ≡ Some b → where_known found (λ b. Ok (Sends peer name b.bytes)) ≡ Ok (Sends peer name b.bytes)
sends_bytes found b peer name is = rw is refl

-- inside of a transaction
pub not_inside : (names : AllNames) (made : OpenTx) (s : SendLine) → names.making ≡ Some made → send_meaning names names.making s ≡ Err BadLine
not_inside names made s is = subst (λ (m : Option OpenTx). send_meaning names m s ≡ Err BadLine) (sym is) refl

-- a name of no bytes
pub not_known : (names : AllNames) (sends : SendRequest) → names.making ≡ None → false ≡ is_some (bound_to sends.name.text.now names.of_bytes) → send_meaning names names.making (send_line_of sends) ≡ Err UnknownName
not_known names sends none is = subst (λ (m : Option OpenTx). send_meaning names m (send_line_of sends) ≡ Err UnknownName) (sym none) (unknown (bound_to sends.name.text.now names.of_bytes) sends.peer sends.name.text.now is)

pub is_sent : (names : AllNames) (c : Names) (sends : SendRequest) → AreNamed c names → names.making ≡ None → true ≡ is_some (bound_to sends.name.text.now names.of_bytes)
    → AsksToSend names (send_meaning names names.making (send_line_of sends)) (Ok sends) c
is_sent names c sends named none is =
    let found = known_by (bound_to sends.name.text.now names.of_bytes) is in
    record {
      bound = found.0;
      is_bound = found.1;
      is_meant = subst (λ (m : Option OpenTx). send_meaning names m (send_line_of sends) ≡ Ok (Sends sends.peer sends.name.text.now found.0.bytes)) (sym none) (sends_bytes (bound_to sends.name.text.now names.of_bytes) found.0 sends.peer sends.name.text.now found.1);
      named = named;
    }

pub sent_so : (number : ℕ) (names : AllNames) (said : Option SimulationLine) (s : SendLine) (sends : SendRequest) (new : Names) → said ≡ Some (Sending s) → AsksToSend names (send_meaning names names.making s) (Ok sends) new
    → AsksSending names (MeansSimulation number names names.making said) (is_late_sending said) (Ok (Some sends)) new
sent_so number names said s sends new is sent = record {
  bound = sent.bound;
  is_bound = sent.is_bound;
  is_meant = subst (λ (x : Option SimulationLine). MeansSimulation number names names.making x (Ok (Sends sends.peer sends.name.text.now sent.bound.bytes))) (sym is) sent.is_meant;
  named = sent.named;
}

pub sent_stop : (number : ℕ) (names : AllNames) (said : Option SimulationLine) (s : SendLine) (stop : Stop) (new : Names) → said ≡ Some (Sending s) → AsksToSend names (send_meaning names names.making s) (Err stop) new
    → AsksSending names (MeansSimulation number names names.making said) (is_late_sending said) (Err stop) new
sent_stop number names said s (Fault fault) new is sent = (subst (λ (x : Option SimulationLine). MeansSimulation number names names.making x (Err fault)) (sym is) sent.0, sent.1)
sent_stop number names said s OutOfMemory new is lacks = subst (λ (x : Option SimulationLine). Lacks (MeansSimulation number names names.making x) (is_late_sending x) × SendsNothing (MeansSimulation number names names.making x)) (sym is) lacks
