-- The lines that a script prints, and what of them a writer that fails has written.
use Rattle.std.specs.Prelude.{◌≡◌, ◌≢◌, ℕ, List, [], ◌∷◌, ◌++◌, length, Option, Some, None, decimal, codes, ◌==◌}
use Rattle.std.specs.Prelude.{if◌then◌else◌}
use Rattle.std.specs.Io.KnownBytes.{Appends}
use Rattle.model.specs.Transaction.{Transaction, transaction_id_of}
use Rattle.model.specs.Block.{Block, SpellsBlock, block_text, block_hash_of}
use Rattle.std.specs.FinMap as finite
use Rattle.model.specs.Utxo.{outputs_of, coin_of}
use Rattle.model.specs.Ledger.{Ledger}
use Rattle.model.specs.Chain.{Point}
use Rattle.model.specs.Follower.{Instruction, Stay, AddBlock, RollBack}
use Rattle.model.specs.Forging.{ForgeFault, SlotNotAfterTip, OutOfRange}
use Rattle.model.specs.History.{Reply, Submitted, Opened, TooManyFollowers, Instructed, Forwarded, Closed}
use Rattle.model.specs.History.{UnknownFollower, Discarded, NotBeside, OutOfMemory}
use Rattle.mempool.specs.Texts.{submit_reply_text}
use Rattle.chain_core.specs.Texts.{arrive_reply_text}
use Rattle.script.specs.declared.line.Form.{Form}
use Rattle.script.specs.Line.{word_of}
use Rattle.script.specs.Names.{Named, Binding, printed_name, printed_tx}

-- what an arrival prints: the line's first word, the name and the reply
abbrev pub arrival_text : Form → List ℕ → Reply → List ℕ
arrival_text form name reply = word_of form ++ codes " " ++ name ++ codes ": " ++ arrive_reply_text reply ++ 10 ∷ []

-- what a submission is answered
abbrev pub submission_reply_text : Reply → List ℕ
submission_reply_text (Submitted reply) = submit_reply_text reply
submission_reply_text OutOfMemory = codes "out of memory"
-- no submission is answered otherwise
submission_reply_text reply = []

-- what the line `submit` prints
abbrev pub submission_text : List ℕ → Reply → List ℕ
submission_text name reply = codes "submit " ++ name ++ codes ": " ++ submission_reply_text reply ++ 10 ∷ []

-- what the line `forge` is answered: a block, why there is none, or that memory ran out
pub data ForgeAnswer : Type 0 where
  ForgedBlock : Block → ForgeAnswer
  NoBlock : ForgeFault → ForgeAnswer
  NoMemory : ForgeAnswer

-- how many bytes the block has, or the number and the name of the fault
abbrev pub forge_answer_text : ForgeAnswer → List ℕ
forge_answer_text (ForgedBlock b) = decimal (length (block_text b)) ++ codes " bytes"
forge_answer_text (NoBlock SlotNotAfterTip) = codes "refused 1 SlotNotAfterTip"
forge_answer_text (NoBlock OutOfRange) = codes "refused 2 OutOfRange"
forge_answer_text NoMemory = codes "out of memory"

-- what the line `forge` prints, where it is answered so
abbrev pub forging_text : (name answer : List ℕ) → List ℕ
forging_text name answer = codes "forge " ++ name ++ codes ": " ++ answer ++ 10 ∷ []

-- the names of transactions, each after a space
abbrev pub tx_names_text : List (Named Transaction) → List Transaction → List ℕ
tx_names_text names [] = []
tx_names_text names (t ∷ ts) = codes " " ++ (printed_tx (transaction_id_of t) names ++ tx_names_text names ts)

-- what the question `mempool` prints: how many transactions wait, and their names in order
abbrev pub mempool_text : List (Named Transaction) → List Transaction → List ℕ
mempool_text names txs = codes "mempool: " ++ decimal (length txs) ++ tx_names_text names txs ++ 10 ∷ []

-- what the opening of a follower is answered
abbrev pub open_reply_text : Reply → List ℕ
open_reply_text (Opened id) = codes "ok"
open_reply_text TooManyFollowers = codes "refused TooManyFollowers"
open_reply_text OutOfMemory = codes "out of memory"
-- no opening is answered otherwise
open_reply_text reply = []

-- what the lines `open` and `watch` print, by the line's first word
abbrev pub opening_text : (word name : List ℕ) → Reply → List ℕ
opening_text word name reply = word ++ codes " " ++ name ++ codes ": " ++ open_reply_text reply ++ 10 ∷ []

-- the name of a place on a chain
abbrev pub point_name : List Binding → Point → List ℕ
point_name names point = if point.number == 0 then codes "genesis" else printed_name point.hash names

-- what the question `tip` prints
abbrev pub tip_text : List Binding → Point → List ℕ
tip_text names point = codes "tip: " ++ decimal point.number ++ codes " " ++ point_name names point ++ 10 ∷ []

-- what the question `utxo` prints: how many outputs are unspent and how much lovelace they hold together, and the fees
abbrev pub unspent_text : (pairs coin fees : ℕ) → List ℕ
unspent_text pairs coin fees =
    codes "utxo: pairs " ++ (decimal pairs ++ (codes " coin " ++ (decimal coin ++ (codes " fees " ++ (decimal fees
    ++ 10 ∷ [])))))

-- the same of a chain's ledger
abbrev pub utxo_text : Ledger → List ℕ
utxo_text ledger = unspent_text (finite.len ledger.utxo) (coin_of (outputs_of ledger.utxo)) ledger.fees

-- what a follower is told: nothing, the name of the block whose bytes it is to put on, or of the place to go back to
abbrev pub IsInstructionText : List Binding → Instruction → List ℕ → Type 0
IsInstructionText names Stay text = text ≡ codes "none"
IsInstructionText names (AddBlock bytes) text = (b : Block) × SpellsBlock b bytes
    × (text ≡ codes "add " ++ printed_name (block_hash_of b) names)
IsInstructionText names (RollBack point) text = text ≡ codes "rollback " ++ point_name names point

-- what a follower is answered that asks what comes next
abbrev pub IsNextReplyText : List Binding → Reply → List ℕ → Type 0
IsNextReplyText names (Instructed instruction) text = IsInstructionText names instruction text
IsNextReplyText names UnknownFollower text = text ≡ codes "refused UnknownFollower"
IsNextReplyText names OutOfMemory text = text ≡ codes "out of memory"
-- it is answered nothing else
IsNextReplyText names reply text = ⊥

-- what the line `next` prints
pub record IsNextText (names : List Binding) (name : List ℕ) (reply : Reply) (out : List ℕ) : Type 0 where
  pub text : List ℕ
  pub is_reply : IsNextReplyText names reply text
  pub line : out ≡ codes "next " ++ name ++ codes ": " ++ text ++ 10 ∷ []

-- what a follower is answered that was to be set to a point: the point's name, where one is on the chain
abbrev pub forwarding_reply_text : List Binding → Reply → List ℕ
forwarding_reply_text names (Forwarded None) = codes "none"
forwarding_reply_text names (Forwarded (Some point)) = point_name names point
forwarding_reply_text names UnknownFollower = codes "refused UnknownFollower"
-- it is answered nothing else
forwarding_reply_text names reply = []

-- what the line `forward` prints
abbrev pub forwarding_text : List Binding → List ℕ → Reply → List ℕ
forwarding_text names name reply =
    codes "forward " ++ name ++ codes ": " ++ forwarding_reply_text names reply ++ 10 ∷ []

-- what the closing of a follower is answered
abbrev pub closing_reply_text : Reply → List ℕ
closing_reply_text Closed = codes "ok"
closing_reply_text UnknownFollower = codes "refused UnknownFollower"
-- no closing is answered otherwise
closing_reply_text reply = []

-- what the line `close` prints
abbrev pub closing_text : List ℕ → Reply → List ℕ
closing_text name reply = codes "close " ++ name ++ codes ": " ++ closing_reply_text reply ++ 10 ∷ []

-- what the discarding of a block is answered
abbrev pub discarding_reply_text : Reply → List ℕ
discarding_reply_text Discarded = codes "ok"
discarding_reply_text NotBeside = codes "refused NotBeside"
-- no discarding is answered otherwise
discarding_reply_text reply = []

-- what the line `discard` prints
abbrev pub discarding_text : List ℕ → Reply → List ℕ
discarding_text name reply = codes "discard " ++ name ++ codes ": " ++ discarding_reply_text reply ++ 10 ∷ []

-- a beginning of the bytes was written, and these are left
pub record AppendsUpTo (old new : Option (List ℕ)) (bytes unwritten : List ℕ) : Type 0 where
  pub part : List ℕ
  pub begins : bytes ≡ part ++ unwritten
  pub written : Appends old new part

-- a beginning of the bytes was written, and not all of them
abbrev pub AppendsPart : Option (List ℕ) → Option (List ℕ) → List ℕ → Type 0
AppendsPart old new bytes = (unwritten : List ℕ) × (unwritten ≢ []) × AppendsUpTo old new bytes unwritten
