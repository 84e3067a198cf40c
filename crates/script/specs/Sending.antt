-- What a line means in a script of a simulation, in which peers send bytes, where some names are bound: what it does,
-- or the first of its faults.
use Rattle.std.specs.Prelude.{◌≡◌, ℕ, ◌+◌, ◌&&◌, Bool, true, false, List, [], ◌∷◌, length, Option, Some, None}
use Rattle.std.specs.Prelude.{Result, Ok, Err, nat_le, if◌then◌else◌, bytes_eq, codes}
use Rattle.std.specs.List.{list_all}
use Rattle.script.specs.declared.fault.LineFault.{LineFault}
use Rattle.script.specs.declared.fault.LineFault.TheVariants.{BadLine}
use Rattle.script.specs.Text.{script_size_limit, content_of, is_name, is_printable, parse_number, words_of}
use Rattle.script.specs.Line.{Line, Nothing, DefineKey, DefineSeed, DefineScript, BeginTx, AddPart, EndTx, DefineBlock}
use Rattle.script.specs.Line.{DefineRaw, parse_line}
use Rattle.script.specs.Names.{OpenTx, AllNames, bound_to}
use Rattle.script.specs.Meaning.{Definition, Meaning, Defines, MeansLine, is_late, where_known}

-- ---- what such a line says

-- a peer of this number sends the bytes of this name
pub record SendLine : Type 0 where
  pub peer : ℕ
  pub name : List ℕ

-- the number is that of one of `peers` peers, who have the numbers from 1 on
abbrev pub is_peer : (peers number : ℕ) → Bool
is_peer peers number = nat_le 1 number && nat_le number peers

-- who sends is a peer, and what it sends has a name
abbrev pub send_of : (peers : ℕ) → Option ℕ → (name : List ℕ) → Option SendLine
send_of peers None name = None
send_of peers (Some peer) name =
    if is_name name && is_peer peers peer then Some (record { peer = peer; name = name }) else None

-- `send` has two words after it: the peer and the name
abbrev pub said_send : (peers : ℕ) → List (List ℕ) → Option SendLine
said_send peers (word ∷ peer ∷ name ∷ []) =
    if bytes_eq word (codes "send") then send_of peers (parse_number peer) name else None
said_send peers words = None

-- what a line sends, if it says that one of `peers` peers does
abbrev pub parse_send : (peers : ℕ) → (line : List ℕ) → Option SendLine
parse_send peers line =
    if list_all is_printable (content_of line) then said_send peers (words_of (content_of line)) else None

-- the lines of every script that define something or say nothing: all but those that ask something of a node
abbrev pub is_definition : Line → Bool
is_definition Nothing = true
is_definition (DefineKey name bytes) = true
is_definition (DefineSeed name bytes) = true
is_definition (DefineScript name bytes) = true
is_definition (BeginTx name) = true
is_definition (AddPart part) = true
is_definition EndTx = true
is_definition (DefineBlock name parent slot txs) = true
is_definition (DefineRaw name bytes) = true
is_definition line = false

-- a line of a simulation's script: it sends, or it defines something as in every script
pub data SimulationLine : Type 0 where
  Sending : SendLine → SimulationLine
  Defining : Line → SimulationLine

-- what a line says that may send, and may be one of every script
abbrev pub said_either : Option SendLine → Option Line → Option SimulationLine
said_either (Some sends) line = Some (Sending sends)
said_either None None = None
said_either None (Some line) = if is_definition line then Some (Defining line) else None

-- what a line says in a simulation with `peers` peers, if it is one and the script isn't too long with it
abbrev pub parse_sending : (before peers : ℕ) → (line : List ℕ) → Option SimulationLine
parse_sending before peers line =
    if nat_le (before + length line) script_size_limit
    then said_either (parse_send peers line) (parse_line line) else None

-- ---- what it means

-- what it does: the peer of a number sends the bytes of a name, or something is defined
pub data SendMeaning : Type 0 where
  Sends : (peer : ℕ) → (name bytes : List ℕ) → SendMeaning
  Makes : Definition → SendMeaning

-- a line that sends stands outside of transactions, and its name is one of bytes
abbrev pub send_meaning : AllNames → Option OpenTx → SendLine → Result SendMeaning LineFault
send_meaning names (Some making) sends = Err BadLine
send_meaning names None sends =
    where_known (bound_to sends.name names.of_bytes) (λ b. Ok (Sends sends.peer sends.name b.bytes))

-- a line that means this in every script means the same here, where it defines something
abbrev pub MeansSame : (Result Meaning LineFault → Type 0) → Result SendMeaning LineFault → Type 0
MeansSame means (Ok (Makes definition)) = means (Ok (Defines definition))
MeansSame means (Ok (Sends peer name bytes)) = ⊥
MeansSame means (Err fault) = means (Err fault)

-- A text is a line or none, and stands inside of a transaction that is being made or outside of any. It means this, or
-- has this as its first fault.
abbrev pub MeansSimulation : (number : ℕ) → AllNames → Option OpenTx → Option SimulationLine
    → Result SendMeaning LineFault → Type 0
MeansSimulation number names making None result = result ≡ Err BadLine
MeansSimulation number names making (Some (Sending sends)) result = send_meaning names making sends ≡ result
MeansSimulation number names making (Some (Defining line)) result =
    MeansSame (MeansLine number names making (Some line)) result

-- WHAT A LINE MEANS WHERE PEERS SEND
-- of this number, that comes after `before` bytes of the script, with `peers` peers
abbrev pub MeansSending : (number before : ℕ) → AllNames → (peers : ℕ) → (line : List ℕ) → Result SendMeaning LineFault
    → Type 0
MeansSending number before names peers line result =
    MeansSimulation number names names.making (parse_sending before peers line) result

-- ---- out of memory

-- lines of which only memory tells whether they are built: of those that define something the same as in every script
abbrev pub is_late_sending : Option SimulationLine → Bool
is_late_sending None = false
is_late_sending (Some (Sending sends)) = false
is_late_sending (Some (Defining line)) = is_late line
