-- The block of the parts of a text.
use Rattle.model.specs.Block.{Block}
use Rattle.block.specs.declared.reading.Parts.{Parts}
use Rattle.block.specs.View.{header_of}

abbrev pub parts_block : Parts → Block
parts_block p = record { header = header_of p.header; transactions = p.transactions.items }
