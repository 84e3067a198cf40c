-- What shows a text: lines, or a document.
use Rattle.std.specs.Prelude.{◌≡◌, ℕ, List, [], Option}
use Rattle.std.specs.Io.KnownBytes.{Appends}
use Rattle.model.specs.Signature.{Verifies}
use Rattle.model.specs.Block as model
use Rattle.model.specs.Genesis as genesis
use Rattle.model.specs.Script as script
use Rattle.model.specs.Script.{SpellsScript}
use Rattle.model.specs.Transaction as transaction
use Rattle.model.specs.Transaction.{SpellsTransaction}
use Rattle.model.specs.Value as value
use Rattle.model.specs.Value.{SpellsValue}
use Rattle.block.specs.Read.{IsRead}
use Rattle.showing.specs.Blocks.{lines_of_block}
use Rattle.genesis.specs.declared.scheme.Scheme.{Scheme}
use Rattle.showing.specs.Geneses.{lines_of_genesis}
use Rattle.showing.specs.Records.{AreLinesOfRecord}
use Rattle.showing.specs.Scripts.{lines_of_script}
use Rattle.showing.specs.Transactions.{lines_of_transaction}
use Rattle.showing.specs.Values.{lines_of_value}
use Rattle.describing.specs.Documents.{document_text}
use Rattle.describing.specs.Blocks.{json_of_block}
use Rattle.describing.specs.Geneses.{json_of_genesis}
use Rattle.describing.specs.Records.{IsRecordText}
use Rattle.describing.specs.Scripts.{json_of_script}
use Rattle.describing.specs.Transactions.{json_of_transaction}
use Rattle.describing.specs.Values.{json_of_value}
use Rattle.telling.specs.declared.form.Form.{Form}
use Rattle.telling.specs.declared.form.Form.TheVariants.{Lines, Json}
use Rattle.telling.specs.declared.kind.Kind.{Kind}
use Rattle.telling.specs.declared.kind.Kind.TheVariants.{Transaction, Block, Script, Value}

-- ---- in a form

abbrev pub transaction_in : Form → Verifies → transaction.Transaction → List ℕ
transaction_in Lines verifies t = lines_of_transaction verifies [] t
transaction_in Json verifies t = document_text (json_of_transaction verifies t)

abbrev pub block_in : Form → Verifies → model.Block → List ℕ
block_in Lines verifies b = lines_of_block verifies b
block_in Json verifies b = document_text (json_of_block verifies b)

abbrev pub script_in : Form → script.Script → List ℕ
script_in Lines s = lines_of_script [] s
script_in Json s = document_text (json_of_script s)

abbrev pub value_in : Form → value.Value → List ℕ
value_in Lines v = lines_of_value [] v
value_in Json v = document_text (json_of_value v)

abbrev pub genesis_in : Form → Scheme → genesis.Genesis → List ℕ
genesis_in Lines scheme g = lines_of_genesis scheme g
genesis_in Json scheme g = document_text (json_of_genesis scheme g)

abbrev pub IsRecordIn : Form → (number place : ℕ) → (block text : List ℕ) → Type 0
IsRecordIn Lines number place block text = AreLinesOfRecord number place block text
IsRecordIn Json number place block text = IsRecordText number place block text

-- WHAT SHOWS A TEXT
-- The bytes are the text of a transaction that is shown so, or of a native script or a value that is; or they are read
-- as a block that is.
abbrev pub IsShownAs : Verifies → Form → Kind → (bytes shown : List ℕ) → Type 0
IsShownAs verifies form Transaction bytes shown =
    (t : transaction.Transaction) × SpellsTransaction t bytes × (shown ≡ transaction_in form verifies t)
IsShownAs verifies form Block bytes shown =
    (b : model.Block) × IsRead b bytes × (shown ≡ block_in form verifies b)
IsShownAs verifies form Script bytes shown =
    (s : script.Script) × SpellsScript s bytes × (shown ≡ script_in form s)
IsShownAs verifies form Value bytes shown =
    (v : value.Value) × SpellsValue v bytes × (shown ≡ value_in form v)

-- just this is printed
pub record PrintsShown (verifies : Verifies) (form : Form) (kind : Kind) (bytes : List ℕ) (old new : Option (List ℕ))
    : Type 0 where
  pub shown : List ℕ
  pub is : IsShownAs verifies form kind bytes shown
  pub printed : Appends old new shown
