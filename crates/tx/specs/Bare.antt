-- Transactions without parts, whose reading asks for no memory, and how those begin whose reading may.
use Rattle.std.specs.Prelude.{◌≡◌, ℕ, List, []}
use Rattle.model.specs.Script.{Script}
use Rattle.model.specs.Transaction.{KeyWitness, Transaction}
use Rattle.cbor.specs.Bare.{BeginsWithHead}
use Rattle.tx.specs.Body.{Body}

-- nothing is spent, made or minted
pub record IsBareBody (body : Body) : Type 0 where
  pub inputs : body.inputs ≡ []
  pub outputs : body.outputs ≡ []
  pub mint : body.mint ≡ []

-- no signature and no script
pub record AreBareWitnesses (w : List KeyWitness × List Script) : Type 0 where
  pub signatures : w.0 ≡ []
  pub scripts : w.1 ≡ []

-- nothing is spent, made or minted, and there is no signature and no script
pub record IsBare (t : Transaction) : Type 0 where
  pub inputs : t.inputs ≡ []
  pub outputs : t.outputs ≡ []
  pub mint : t.mint ≡ []
  pub signatures : t.signatures ≡ []
  pub scripts : t.scripts ≡ []

-- bytes begin as the text of a transaction does: with the head of an array of three
abbrev pub BeginsLikeTransaction : List ℕ → Type 0
BeginsLikeTransaction bytes = BeginsWithHead 4 3 bytes
