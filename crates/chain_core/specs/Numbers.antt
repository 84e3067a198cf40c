-- The blocks of a chain by their numbers.
pub use Rattle.chain.specs.Chained.{block_numbered}
