-- What is printed of a log, part by part, for private clauses.
use Rattle.std.specs.Prelude.{◌≡◌, ◌≢◌, ℕ, suc, ◌+◌, List, [], ◌∷◌, ◌++◌, length, codes, nat_lt, if◌then◌else◌}
use Rattle.immlog.specs.declared.part.LogEnd.{LogEnd}
use Rattle.immlog.specs.declared.part.LogEnd.TheVariants.{Foreign}
use Rattle.telling.specs.declared.form.Form.{Form}
use Rattle.telling.specs.declared.form.Form.TheVariants.{Lines, Json}
use Rattle.telling.specs.Shown.{IsRecordIn}
use Rattle.listing.specs.Listings.{end_line, end_name}
use Rattle.listing.specs.declared.list_fault.ListFault.{ListFault}
use Rattle.listing.specs.declared.list_fault.ListFault.TheVariants as faults

-- what a document begins with
abbrev pub front_text : Form → List ℕ
front_text Lines = []
front_text Json = codes "{\"blocks\":["

-- before the first record stands what a document begins with, before each other one a comma
abbrev pub lead_text : Form → (number : ℕ) → List ℕ
lead_text Lines number = []
lead_text Json number = if nat_lt 1 number then codes "," else front_text Json

-- what is printed of one record: that, and its text
abbrev pub IsPartOfLog : Form → (number place : ℕ) → (block part : List ℕ) → Type 0
IsPartOfLog form number place block part =
    (text : List ℕ) × IsRecordIn form number place block text × (part ≡ lead_text form number ++ text)

-- of the records of these blocks, of which the first has this number and begins at this place
abbrev pub ArePartsOfLog : Form → (number place : ℕ) → List (List ℕ) → (parts : List ℕ) → Type 0
ArePartsOfLog form number place [] parts = parts ≡ []
ArePartsOfLog form number place (block ∷ blocks) parts =
    (first rest : List ℕ) × IsPartOfLog form number place block first
    × ArePartsOfLog form (suc number) (place + (37 + length block)) blocks rest × (parts ≡ first ++ rest)

-- behind them
abbrev pub back_text : Form → LogEnd → List ℕ
back_text Lines end = end_line end
back_text Json end = codes "],\"end\":\"" ++ (end_name end ++ codes "\"}\n")

-- behind as many records that the next one would have this number: a document without any begins here
abbrev pub rest_text : Form → (number : ℕ) → LogEnd → List ℕ
rest_text form number end = (if nat_lt 1 number then [] else front_text form) ++ back_text form end

-- the fault where the records end so at this place: that they are no log's where none stands before, else that they are
-- damaged there; or the writer failed, whatever the end
abbrev pub EndsInVain : LogEnd → (place : ℕ) → ListFault → Type 0
EndsInVain end place faults.NoLog = (end ≡ Foreign) × (place ≡ 0)
EndsInVain end place (faults.Damaged at) = (end ≡ Foreign) × ((place ≢ 0) × (at ≡ place))
EndsInVain end place faults.ReadFailed = ⊥
EndsInVain end place faults.WriteFailed = Unit {0}
EndsInVain end place faults.OutOfMemory = ⊥
