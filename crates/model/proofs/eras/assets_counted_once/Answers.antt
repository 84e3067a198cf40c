use Rattle.model.proofs.AssetsApart.{one_place_of_each}
use Rattle.model.proofs.eras.assets_counted_once.Goals as goal

pub returns : goal.returns
returns c = λ value bytes asset i j spells. one_place_of_each value asset i j spells.spelled.has_text
