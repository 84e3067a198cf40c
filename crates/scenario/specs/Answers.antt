-- What is printed of a block that is asked about, and of a transaction.
use Rattle.std.specs.Prelude.{ℕ, List, [], ◌∷◌, ◌++◌, Option, Some, None, decimal, codes}
use Rattle.model.specs.Rules.{reason_number}
use Rattle.model.specs.Block.{Block, block_hash_of}
use Rattle.model.specs.Applying.{BlockFault, WrongNumber, WrongPrev, SlotNotRising, BodyTooBig, TxFault}
use Rattle.model.specs.Asked.{TxPlace, Waiting, InBlock, NotFound}
use Rattle.model.specs.Asked.{Why, Unknown, Selected, Waits, Misfit, Invalid, NotLonger}
use Rattle.utxo_rules.specs.Texts.{reason_name}
use Rattle.chain_core.specs.Numbers.{block_numbered}
use Rattle.script.specs.Names.{Binding, printed_name}

-- ---- why a block isn't selected

-- the number of a block's fault and its name; of a transaction's also where it stands in the block, and the reason
-- against it
abbrev pub fault_text : BlockFault → List ℕ
fault_text WrongNumber = codes "1 WrongNumber"
fault_text WrongPrev = codes "2 WrongPrev"
fault_text SlotNotRising = codes "3 SlotNotRising"
fault_text BodyTooBig = codes "4 BodyTooBig"
fault_text (TxFault index reason) =
    codes "5 TxFault at " ++ (decimal index ++ (codes " " ++ (decimal (reason_number reason) ++ (codes " "
    ++ reason_name reason))))

-- why it isn't, with the name of the block that this is about
abbrev pub why_answer_text : List Binding → Why → List ℕ
why_answer_text names Unknown = codes "unknown"
why_answer_text names Selected = codes "selected"
why_answer_text names (Waits missing) = codes "waits for " ++ printed_name missing names
why_answer_text names (Misfit first) = codes "misfit " ++ printed_name first names
why_answer_text names (Invalid refused fault) =
    codes "invalid " ++ (printed_name refused names ++ (codes " " ++ fault_text fault))
why_answer_text names NotLonger = codes "not longer"

-- what the question `why` prints
abbrev pub why_text : List Binding → (name : List ℕ) → Why → List ℕ
why_text names name why = codes "why " ++ name ++ codes ": " ++ why_answer_text names why ++ 10 ∷ []

-- ---- where a transaction stands

-- the name of a block that may be there
abbrev pub name_of_block : List Binding → Option Block → List ℕ
name_of_block names None = codes "?"
name_of_block names (Some b) = printed_name (block_hash_of b) names

-- where it stands: its position in the mempool; or the number and the name of the block of this chain, and its place in
-- that; or that it isn't found
abbrev pub place_text : List Binding → (chain : List Block) → TxPlace → List ℕ
place_text names chain (Waiting position) = codes "waits " ++ decimal position
place_text names chain (InBlock number index) =
    codes "block " ++ (decimal number ++ (codes " " ++ (name_of_block names (block_numbered chain number)
    ++ (codes " at " ++ decimal index))))
place_text names chain NotFound = codes "unknown"

-- what the question `where` prints
abbrev pub where_text : List Binding → (chain : List Block) → (name : List ℕ) → TxPlace → List ℕ
where_text names chain name place =
    codes "where " ++ name ++ codes ": " ++ place_text names chain place ++ 10 ∷ []
