-- What is told of the selected chain's end.
use Rattle.std.specs.Prelude.{◌≡◌, ℕ, List}
use Rattle.model.specs.Block.{Block}
use Rattle.model.specs.Ledger.{Network}
use Rattle.model.specs.Chain.{genesis_tip, tip_after, tip_point}
use Rattle.model.specs.Journal.{Knowledge, IsLook}
use Rattle.shared.specs.Asking.{IsAsked}
use Rattle.conversing.specs.declared.told.ChainTip.{ChainTip}
use Rattle.conversing.specs.declared.outcome.Outcome.{Outcome}
use Rattle.conversing.specs.declared.outcome.Outcome.TheVariants.{Tip, Height}

-- where a chain ends, as it is told
pub record IsTipOf (chain : List Block) (tip : ChainTip) : Type 0 where
  pub number : tip.number ≡ (tip_point chain).number
  pub hash : tip.hash ≡ (tip_point chain).hash
  pub slot : tip.slot ≡ (tip_after genesis_tip chain).slot

-- `queryTip`: where the chain ends that is selected after all that the caller has then seen
pub record TellsTip (network : Network) (before after : Knowledge) (outcome : Outcome) : Type 0 where
  pub tip : ChainTip
  pub told : outcome ≡ Tip tip
  pub so : IsAsked network before after (λ s. IsTipOf s.chain tip)

-- `queryHeight`: how many blocks it has
pub record TellsHeight (network : Network) (before after : Knowledge) (outcome : Outcome) : Type 0 where
  pub height : ℕ
  pub told : outcome ≡ Height height
  pub so : IsLook network before height after
