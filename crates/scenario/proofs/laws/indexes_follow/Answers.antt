use Rattle.scenario.specs.Run.{first_scene}
use Rattle.scenario.proofs.Histories.{prints_sound, none_beside}
use Rattle.scenario.proofs.laws.indexes_follow.Goals as goal

pub returns : goal.returns
returns c = λ scheme network start explain lines out past history scene opens legal prints.
    (prints_sound network explain 1 0 past (first_scene scheme network start) lines out history scene opens legal prints (none_beside network past start)).beside
