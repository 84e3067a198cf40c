use Rattle.std.proofs.Common.{◌≡◌, [], ◌∷◌, ◌++◌, inl, inr}
use Rattle.std.specs.Prelude.{Option, Some, Result, Ok, Err, OnOk, OnErr}
use Rattle.model.specs.Applying.{LedgerState}
use Rattle.ledgerdb.specs.Values.{Database, latest}
use Rattle.chain_core.specs.ChainDbs.{IsBeside}
use Rattle.chain_core.proofs.chain_db.ChainDb.keep_side.Goals as goal

-- it is kept, or memory ran out
kept_or_same : {A E : Type 0} (r : Result A E) (old new : Database) (side : Option LedgerState) (s : LedgerState) → side ≡ Some s → OnOk r (new ≡ record old { sides = latest (old.sides ++ s ∷ []) }) → OnErr r (new ≡ old) → IsBeside old side new
kept_or_same (Ok x) old new side s is ok err = inr (s, is, ok)
kept_or_same (Err e) old new side s is ok err = inl err

pub returns-in-Some-clause-sides : goal.returns-in-Some-clause-sides
returns-in-Some-clause-sides g c = kept_or_same c.keep_side.result c.args.self.now.db c.keep_side.new.self c.args.side c.in-Some.state c.in-Some.is c.keep_side.ensures.ok c.keep_side.ensures.err
