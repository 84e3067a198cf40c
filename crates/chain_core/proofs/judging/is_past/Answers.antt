use Rattle.std.proofs.Common.{◌≡◌, ◌↔◌, sym, subst}
use Rattle.std.specs.Prelude.{Any, IsTrue}
use Rattle.model.specs.Block.{block_hash_of}
use Rattle.model.specs.Chain.{immutable_part}
use Rattle.chain.specs.Chained.{chain_of}
use Rattle.chain_core.proofs.PastHashes.{is_past_if}
use Rattle.chain_core.proofs.judging.is_past.Goals as goal

pub returns : goal.returns
returns g c = λ network whole.
    subst (λ b. IsTrue b ↔ Any (λ x. block_hash_of x ≡ c.args.hash.bytes) (immutable_part network (chain_of c.args.chain_db.now.chain))) (sym c.is_some.ensures)
    (is_past_if network c.args.chain_db.now whole c.args.hash.bytes c.number_of.result c.number_of.ensures)
