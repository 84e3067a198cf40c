pub mod LogBlocks
