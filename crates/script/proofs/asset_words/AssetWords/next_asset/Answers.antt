use Rattle.std.proofs.Common.{ap, ◌∙◌}
use Rattle.script.specs.Line.{said_assets}
use Rattle.script.specs.WordsView.{words_left}
use Rattle.script.proofs.AssetLists.{first_said, others_said, still_says}
use Rattle.script.proofs.asset_words.AssetWords.next_asset.Goals as goal

pub returns-clause-asset : goal.returns-clause-asset
returns-clause-asset c = c.next_of.ensures.asset ∙ first_said (words_left c.args.self.now.words) c.args.self.now.says

pub returns-clause-rest : goal.returns-clause-rest
returns-clause-rest c =
    ap said_assets c.next_of.ensures.rest ∙ others_said (words_left c.args.self.now.words) c.args.self.now.says

pub invariant_of-self : goal.invariant_of-self
invariant_of-self c =
    record { says = rw c.next_of.ensures.rest (still_says (words_left c.args.self.now.words) c.args.self.now.says) }
