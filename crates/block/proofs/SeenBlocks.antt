-- The block that is made of what is known of bytes.
use Rattle.std.proofs.Common.{◌≡◌, List, ℕ, Result, Ok, subst}
use Rattle.std.specs.Prelude.{IfOk}
use Rattle.std.proofs.lemmas.Result.{IfOk-at_ok}
use Rattle.model.specs.Block.{Block, block_text}
use Rattle.model.proofs.BlockTexts.{block_text_is}
use Rattle.block.specs.declared.fault.BadBytes.{BadBytes}
use Rattle.block.specs.Read.{IsRead}

-- the block that was found in the bytes that were shown
pub found_read : (found : Result Block BadBytes) (b : Block) (shown bytes : List ℕ) → found ≡ Ok b → IfOk found (λ c. IsRead c shown) → shown ≡ bytes → IsRead b bytes
found_read found b shown bytes is read same = subst (IsRead b) same (IfOk-at_ok (λ c. IsRead c shown) is read)

-- the bytes from which a block is read are its text
pub read_bytes : (b : Block) (bytes : List ℕ) → IsRead b bytes → block_text b ≡ bytes
read_bytes b bytes read = block_text_is b bytes read.read
