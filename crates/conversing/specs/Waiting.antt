-- Those who wait at places to be told something.
use Rattle.std.specs.Prelude.{◌≡◌, ℕ, ◌<◌, ◌⊎◌, List, [], ◌∷◌, length, Some, Bool, true, false, MatchResult}
use Rattle.std.specs.Prelude.{slice_get, slice_set}
use Rattle.std.specs.List.{AllByRecursion}
use Rattle.conversing.specs.declared.station.Notice.{Notice}
use Rattle.conversing.specs.declared.station.Answer.{Answer}
use Rattle.conversing.specs.declared.station.Answer.TheVariants.{Now, Later}

-- somebody waits at a place
abbrev pub WaitsAt : List Bool → ℕ → Type 0
WaitsAt waits place = slice_get waits place ≡ Some true

-- at none of the first so many places does somebody wait to whom something is to be told
abbrev pub IsQuietBelow : ℕ → (ℕ → Bool) → List Bool → Type 0
IsQuietBelow many has_news waits = (place : ℕ) → place < many → WaitsAt waits place → has_news place ≡ false

-- NOBODY WAITS TO WHOM SOMETHING IS TO BE TOLD
abbrev pub IsQuiet : (ℕ → Bool) → List Bool → Type 0
IsQuiet has_news waits = IsQuietBelow (length waits) has_news waits

-- a notice is for a place
abbrev pub HasNotice : ℕ → List Notice → Type 0
HasNotice place [] = ⊥
HasNotice place (notice ∷ notices) = (notice.place ≡ place) ⊎ HasNotice place notices

-- who waited still waits, or has a notice
abbrev pub NobodyIsForgotten : (before after : List Bool) → List Notice → Type 0
NobodyIsForgotten before after notices =
    (place : ℕ) → WaitsAt before place → WaitsAt after place ⊎ HasNotice place notices

-- only who waited has one
abbrev pub OnlyWhoWaited : List Bool → List Notice → Type 0
OnlyWhoWaited before notices = AllByRecursion (λ notice. WaitsAt before notice.place) notices

-- a notice has the line that is told to the follower of its place; or there is no memory for it, and nothing changes
abbrev pub TellsNotice : {S : Type 0} → (S → ℕ → S → List ℕ → Type 0) → S → Notice → S → Type 0
TellsNotice tells before notice after =
    MatchResult notice.line (λ line. tells before notice.place after line.items) (λ _. after ≡ before)

-- the notices' lines are told, one after the other
abbrev pub Told : {S : Type 0} → (S → ℕ → S → List ℕ → Type 0) → S → List Notice → S → Type 0
Told tells before [] after = after ≡ before
Told {S} tells before (notice ∷ notices) after =
    (mid : S) × TellsNotice tells before notice mid × Told tells mid notices after

-- who asks what comes next is told a line, or waits
abbrev pub AnswersNext : {S : Type 0} → (S → ℕ → S → List ℕ → Type 0)
    → S → List Bool → ℕ → Answer → S → List Bool → Type 0
AnswersNext tells before waits place (Now line) after waits' =
    tells before place after line.items × (waits' ≡ slice_set waits place false)
AnswersNext tells before waits place Later after waits' = (after ≡ before) × (waits' ≡ slice_set waits place true)
