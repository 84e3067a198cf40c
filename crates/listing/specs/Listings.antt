-- A log in a form: its lines, or one JSON document.
use Rattle.std.specs.Prelude.{◌≡◌, ◌≢◌, ◌⊎◌, ℕ, suc, ◌+◌, List, [], ◌∷◌, ◌++◌, length, Option, codes}
use Rattle.std.specs.List.{AllByRecursion}
use Rattle.std.specs.Io.KnownBytes.{Appends}
use Rattle.serde_json.specs.Data.{Data, string, array, Items, no_items, item}
use Rattle.model.specs.Log.{IsLogBlock, records, IsClosed, IsDamaged}
use Rattle.immlog.specs.Left.{IsLogEnd, IsEndOf, EndsBadly}
use Rattle.immlog.specs.declared.part.LogEnd.{LogEnd}
use Rattle.immlog.specs.declared.part.LogEnd.TheVariants.{Clean, Torn, Foreign}
use Rattle.showing.specs.Records.{AreLinesOfRecord}
use Rattle.describing.specs.Documents.{document_text, IsReadAs}
use Rattle.describing.specs.Parts.{object_of}
use Rattle.describing.specs.Records.{IsRecordAsJson}
use Rattle.telling.specs.declared.form.Form.{Form}
use Rattle.telling.specs.declared.form.Form.TheVariants.{Lines, Json}
use Rattle.listing.specs.declared.list_fault.ListFault.{ListFault}
use Rattle.listing.specs.declared.list_fault.ListFault.TheVariants as faults

-- how the records end: with the last one, or behind it stands also what a record left that was being written; else they
-- are no log's, and have no name
abbrev pub end_name : LogEnd → List ℕ
end_name Clean = codes "clean"
end_name Torn = codes "torn"
end_name Foreign = []

-- ---- lines

-- the lines of the records of these blocks, of which the first has this number and begins at this place: a record has
-- 37 bytes more than its block
abbrev pub AreLinesOfRecords : (number place : ℕ) → List (List ℕ) → (lines : List ℕ) → Type 0
AreLinesOfRecords number place [] lines = lines ≡ []
AreLinesOfRecords number place (block ∷ blocks) lines =
    (first rest : List ℕ) × AreLinesOfRecord number place block first
    × AreLinesOfRecords (suc number) (place + (37 + length block)) blocks rest × (lines ≡ first ++ rest)

-- how they end
abbrev pub end_line : LogEnd → List ℕ
end_line end = codes "end " ++ (end_name end ++ 10 ∷ [])

-- ---- a document

-- the same records as JSON
abbrev pub AreRecordsAsJson : (number place : ℕ) → List (List ℕ) → Items → Type 0
AreRecordsAsJson number place [] all = all ≡ no_items
AreRecordsAsJson number place (block ∷ blocks) all =
    (first : Data) × (rest : Items) × IsRecordAsJson number place block first
    × AreRecordsAsJson (suc number) (place + (37 + length block)) blocks rest × (all ≡ item first rest)

-- A LOG AS JSON: its records, in their order, and how they end
abbrev pub json_of_log : (all : Items) → LogEnd → Data
json_of_log all end = object_of ((codes "blocks", array all) ∷ (codes "end", string (end_name end)) ∷ [])

-- ---- in a form

-- what is printed of a log with the records of these blocks and this end; a document is read back as that JSON
abbrev pub IsLogIn : Form → List (List ℕ) → LogEnd → (text : List ℕ) → Type 0
IsLogIn Lines blocks end text = (lines : List ℕ) × AreLinesOfRecords 1 0 blocks lines × (text ≡ lines ++ end_line end)
IsLogIn Json blocks end text = (all : Items) × AreRecordsAsJson 1 0 blocks all
    × (text ≡ document_text (json_of_log all end)) × IsReadAs text (json_of_log all end)

-- JUST THE LOG IS PRINTED
-- The bytes are the records of these blocks, and end so, as a log does; and that is printed of them in this form.
pub record PrintsLog (form : Form) (bytes : List ℕ) (old new : Option (List ℕ)) : Type 0 where
  pub blocks : List (List ℕ)
  pub rest : List ℕ
  pub end : LogEnd
  pub text : List ℕ
  pub parts : bytes ≡ records blocks ++ rest
  pub sizes : AllByRecursion IsLogBlock blocks
  pub is_end : IsEndOf rest end
  pub is_left : end ≢ Foreign
  pub is : IsLogIn form blocks end text
  pub printed : Appends old new text

-- whether it is so that a log isn't listed to its end
abbrev pub IsListFault : (bytes : List ℕ) → ListFault → Type 0
IsListFault bytes faults.NoLog = IsClosed bytes × (IsLogEnd bytes → ⊥)
IsListFault bytes (faults.Damaged place) = IsDamaged bytes place ⊎ EndsBadly bytes place
IsListFault bytes faults.ReadFailed = Unit {0}
IsListFault bytes faults.WriteFailed = Unit {0}
IsListFault bytes faults.OutOfMemory = Unit {0}
