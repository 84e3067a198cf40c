-- What a file holds, and what a crash may leave of it, by what was done to it, the newest first.
use Rattle.std.specs.Prelude.{◌+◌, ℕ, Bool, true, false, List, [], ◌∷◌, ◌++◌, length, take, drop, reverse}
use Rattle.model.specs.Disk.{Moment, settled, touched}
use Rattle.immlog.specs.Views.{noted}
use Rattle.file_disk.specs.declared.step.Step.{Step}
use Rattle.file_disk.specs.declared.step.Step.TheVariants.{Written, Cut, Synced}

abbrev pub bytes_after : List Step → List ℕ
bytes_after [] = []
bytes_after (Written place bytes ∷ steps) =
    take place (bytes_after steps) ++ noted bytes.items ++ drop (place + length (noted bytes.items)) (bytes_after steps)
bytes_after (Cut len ∷ steps) = take len (bytes_after steps)
bytes_after (Synced ∷ steps) = bytes_after steps

abbrev pub moment_of : List Step → Moment
moment_of [] = settled []
moment_of (Written place bytes ∷ steps) = touched place (place + length (noted bytes.items)) (moment_of steps)
moment_of (Cut len ∷ steps) = touched len (length (bytes_after steps)) (moment_of steps)
moment_of (Synced ∷ steps) = settled (bytes_after steps)

abbrev pub past_of : List Step → List Moment
past_of [] = []
past_of (step ∷ steps) = moment_of steps ∷ past_of steps

-- since the file was opened, which is noted as what it gave, nothing was written and nothing was cut
abbrev pub is_as_opened : List Step → Bool
is_as_opened [] = false
is_as_opened (Written place bytes ∷ []) = true
is_as_opened (Written place bytes ∷ step ∷ steps) = false
is_as_opened (Cut len ∷ steps) = false
is_as_opened (Synced ∷ steps) = is_as_opened steps

-- what was done, the newest first, by what was noted
abbrev pub steps_of : {U : Type 0} → List (Step × U) → List Step
steps_of items = reverse (noted items)
