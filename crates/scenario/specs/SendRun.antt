-- What a script sends in which peers send bytes, and how its reading ends.
use Rattle.std.specs.Prelude.{◌≡◌, ◌⊎◌, ℕ, ◌+◌, List, [], ◌∷◌, ◌++◌, length, Option, Some, None, Ok, Err}
use Rattle.std.specs.List.{concat}
use Rattle.script.specs.declared.fault.LineFault.{LineFault}
use Rattle.script.specs.declared.fault.LineFault.TheVariants.{BadLine}
use Rattle.script.specs.Text.{lines_of}
use Rattle.script.specs.Names.{OpenTx, AllNames}
use Rattle.script.specs.Meaning.{AreNamesAfter}
use Rattle.script.specs.RequestView.{Lacks}
use Rattle.script.specs.Sending.{SendMeaning, Sends, Makes, MeansSending, is_late_sending, parse_sending}
use Rattle.scenario.specs.Pieces.{IsPiece}
use Rattle.scenario.specs.declared.fault.ScenarioFault.{ScenarioFault}
use Rattle.scenario.specs.declared.fault.ScenarioFault.TheVariants as fault

-- bytes that the peer of a number sends
pub record Sent : Type 0 where
  pub peer : ℕ
  pub bytes : List ℕ

-- what a line that means this sends, if it does
abbrev pub sent_by : SendMeaning → List Sent
sent_by (Sends peer name bytes) = record { peer = peer; bytes = bytes } ∷ []
sent_by (Makes made) = []

-- the names that such a line leaves
abbrev pub AreNamesLeft : AllNames → SendMeaning → AllNames → Type 0
AreNamesLeft names (Sends peer name bytes) new = new ≡ names
AreNamesLeft names (Makes made) new = AreNamesAfter names made new

-- a line of this number after `before` bytes has no fault, sends this, and leaves these names
pub record LineSends (number before peers : ℕ) (names : AllNames) (line : List ℕ) (sent : List Sent) (new : AllNames)
    : Type 0 where
  pub meaning : SendMeaning
  pub is_meant : MeansSending number before names peers line (Ok meaning)
  pub is_sent : sent ≡ sent_by meaning
  pub left : AreNamesLeft names meaning new

-- lines from this number on, after `before` bytes, send this, one after the other, and leave these names
abbrev pub LinesSend : (number before peers : ℕ) → AllNames → List (List ℕ) → List Sent → AllNames → Type 0
LinesSend number before peers names [] sent new = (sent ≡ []) × (new ≡ names)
LinesSend number before peers names (line ∷ lines) sent new = (first rest : List Sent) × (mid : AllNames)
    × LineSends number before peers names line first mid
    × LinesSend (number + 1) (before + length line) peers mid lines rest new
    × (sent ≡ first ++ rest)

-- ---- ends of a script at whose beginning these names are bound

-- all lines send this, and leave no transaction without its end
pub record SendsAll (peers : ℕ) (names : AllNames) (text : List ℕ) (sent : List Sent) : Type 0 where
  pub new : AllNames
  pub lines : LinesSend 1 0 peers names (lines_of text) sent new
  pub ended : new.making ≡ None

-- the line of this number is the first one with a fault, and what comes after it is left
pub record HasFaultAt (peers : ℕ) (names : AllNames) (text left : List ℕ) (number : ℕ) (fault : LineFault) : Type 0
  where
    pub before : List (List ℕ)
    pub line : List ℕ
    pub after : List (List ℕ)
    pub lines : lines_of text ≡ before ++ line ∷ after
    pub read : text ≡ concat before ++ (line ++ left)
    pub counted : length before + 1 ≡ number
    pub sent : List Sent
    pub mid : AllNames
    pub sends : LinesSend 1 0 peers names before sent mid
    pub is_fault : MeansSending number (length (concat before)) mid peers line (Err fault)

-- the lines have no fault, and leave a transaction without its end, which was begun in the line of this number
pub record HasNoEnd (peers : ℕ) (names : AllNames) (text : List ℕ) (number : ℕ) : Type 0 where
  pub sent : List Sent
  pub new : AllNames
  pub sends : LinesSend 1 0 peers names (lines_of text) sent new
  pub made : OpenTx
  pub is_made : new.making ≡ Some made
  pub line : made.line ≡ number

-- Some first lines of the text were read, which have no fault, and then a piece of the next one, or none; `left` is
-- what is left of the text.
pub record ReadsUpTo (peers : ℕ) (names : AllNames) (text left : List ℕ) : Type 0 where
  pub lines : List (List ℕ)
  pub after : List (List ℕ)
  pub begins : lines_of text ≡ lines ++ after
  pub more : List ℕ
  pub piece : IsPiece more
  pub read : text ≡ concat lines ++ (more ++ left)
  pub sent : List Sent
  pub mid : AllNames
  pub sends : LinesSend 1 0 peers names lines sent mid

-- The same where memory ran out: if the bytes more are a line with its line feed, that line has no fault, except that
-- it may not be built where only memory tells.
pub record ReadsShort (peers : ℕ) (names : AllNames) (text left : List ℕ) : Type 0 where
  pub reads : ReadsUpTo peers names text left
  pub has_no_fault : (content : List ℕ) → reads.more ≡ content ++ 10 ∷ []
      → Lacks (MeansSending (length reads.lines + 1) (length (concat reads.lines)) reads.mid peers reads.more)
      (is_late_sending (parse_sending (length (concat reads.lines)) peers reads.more))

-- why a script isn't read to its end, where this is left of the text
abbrev pub IsSendFault : (peers : ℕ) → AllNames → (text left : List ℕ) → ScenarioFault → Type 0
IsSendFault peers names text left (fault.Line number why) = HasFaultAt peers names text left number why
    ⊎ ((why ≡ BadLine) × (left ≡ []) × HasNoEnd peers names text number)
IsSendFault peers names text left fault.ReadFailed = ReadsUpTo peers names text left
IsSendFault peers names text left fault.OutOfMemory = ReadsShort peers names text left
-- nothing is written
IsSendFault peers names text left fault.WriteFailed = ⊥

-- the end of a script by a fault
pub record SendsBy (peers : ℕ) (names : AllNames) (text : List ℕ) (remaining : Option (List ℕ)) (why : ScenarioFault)
    : Type 0 where
  pub left : List ℕ
  pub remains : remaining ≡ Some left
  pub is_fault : IsSendFault peers names text left why
