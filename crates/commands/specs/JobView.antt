-- Which job a command line names.
use Rattle.std.specs.Prelude.{◌≡◌, ◌⊎◌, ℕ, Bool, true, false, List, Option, Some, None, option_map, codes, bytes_eq}
use Rattle.std.specs.Prelude.{if◌then◌else◌}
use Rattle.std.specs.Str.Parse.{IsNumeral, digits_value, without_leading_plus}
use Rattle.clap.specs.Words.{Text, Row, first_of, one_of}
use Rattle.genesis.specs.declared.scheme.Scheme.{Scheme}
use Rattle.genesis.specs.Document.{scheme_of}
use Rattle.telling.specs.declared.kind.Kind.{Kind}
use Rattle.telling.specs.declared.form.Form.{Form}
use Rattle.telling.specs.declared.form.Form.TheVariants.{Lines, Json}
use Rattle.telling.specs.Kinds.{kind_named, has_identifier}
use Rattle.commands.specs.declared.jobs.Job.{Job}
use Rattle.commands.specs.declared.jobs.Job.TheVariants.{Id, Show, ShowLog, Under}
use Rattle.commands.specs.declared.jobs.Source.{Source}
use Rattle.commands.specs.declared.jobs.Source.TheVariants.{File, Input}
use Rattle.commands.specs.declared.jobs.Task.TheVariants.{Run, Sim, Replay, ShowGenesis, Check}
use Rattle.commands.specs.declared.jobs.TextAt.{TextAt}

-- a flag is given
abbrev pub is_given : Option Text → Bool
is_given None = false
is_given (Some text) = bytes_eq text (codes "true")

-- ---- under a genesis

-- the values of the options of `run`
pub record IsRun (rows : List Row) (genesis script : Text) (log : Option Text) (explain : Bool) : Type 0 where
  pub genesis_is : first_of (codes "genesis") rows ≡ Some genesis
  pub script_is : first_of (codes "script") rows ≡ Some script
  pub log_is : first_of (codes "log") rows ≡ log
  pub explain_is : is_given (first_of (codes "explain") rows) ≡ explain

-- the text is a decimal number, before which a plus may stand
abbrev pub IsNumberOf : Text → ℕ → Type 0
IsNumberOf text n = IsNumeral 10 (without_leading_plus text) × (n ≡ digits_value 10 (without_leading_plus text))

-- none where there is no text, and else its number
abbrev pub IsOptionalNumber : Option Text → Option ℕ → Type 0
IsOptionalNumber None n = n ≡ None
IsOptionalNumber (Some text) None = ⊥
IsOptionalNumber (Some text) (Some n) = IsNumberOf text n

-- those of `sim`
pub record IsSim (rows : List Row) (genesis script : Text) (clients : ℕ) (discard : Bool) : Type 0 where
  pub genesis_is : first_of (codes "genesis") rows ≡ Some genesis
  pub script_is : first_of (codes "script") rows ≡ Some script
  pub clients_are : (text : Text) × (one_of (codes "clients") rows ≡ Some text) × IsNumberOf text clients
  pub discard_is : is_given (first_of (codes "discard") rows) ≡ discard

-- those of `replay`
pub record IsReplay (rows : List Row) (genesis log : Text) : Type 0 where
  pub genesis_is : first_of (codes "genesis") rows ≡ Some genesis
  pub log_is : first_of (codes "log") rows ≡ Some log

-- ---- texts

-- the path of a file, or None for standard input, where no path is given or it is a dash
abbrev pub file_in : Option Text → Option Text
file_in None = None
file_in (Some path) = if bytes_eq path (codes "-") then None else Some path

abbrev pub file_of : Source → Option Text
file_of (File path) = Some path.now
file_of Input = None

-- where a text stands, and whether its bytes themselves are there
pub record IsTextAt (rows : List Row) (text : TextAt) : Type 0 where
  pub file_is : file_of text.source ≡ file_in (first_of (codes "file") rows)
  pub binary_is : is_given (first_of (codes "binary") rows) ≡ text.is_binary

-- the values of the options of `id`
pub record IsId (rows : List Row) (kind : Kind) (text : TextAt) : Type 0 where
  pub kind_is : (name : Text) × (first_of (codes "kind") rows ≡ Some name) × (kind_named name ≡ Some kind)
  pub identified : has_identifier kind ≡ true
  pub text_is : IsTextAt rows text

-- a JSON document where that flag is given, and else lines
abbrev pub form_given : Bool → Form
form_given json = if json then Json else Lines

abbrev pub form_in : List Row → Form
form_in rows = form_given (is_given (first_of (codes "json") rows))

-- those of `show`
pub record IsShow (rows : List Row) (kind : Kind) (form : Form) (scheme : Scheme) (text : TextAt) : Type 0 where
  pub kind_is : (name : Text) × (first_of (codes "kind") rows ≡ Some name) × (kind_named name ≡ Some kind)
  pub form_is : form_in rows ≡ form
  pub scheme_is : (name : Text) × (first_of (codes "scheme") rows ≡ Some name) × (scheme_of name ≡ Some scheme)
  pub text_is : IsTextAt rows text

-- the same of a genesis, which has a file
pub record IsGenesisShown (rows : List Row) (genesis : Text) (form : Form) : Type 0 where
  pub kind_is : first_of (codes "kind") rows ≡ Some (codes "genesis")
  pub file_is : first_of (codes "file") rows ≡ Some genesis
  pub form_is : form_in rows ≡ form

-- the same of a log
pub record IsLogShown (rows : List Row) (source : Source) (form : Form) : Type 0 where
  pub kind_is : first_of (codes "kind") rows ≡ Some (codes "log")
  pub form_is : form_in rows ≡ form
  pub file_is : file_of source ≡ file_in (first_of (codes "file") rows)

-- those of `check`
pub record IsCheck (rows : List Row) (genesis : Text) (log script : Option Text) (slot : Option ℕ) (text : TextAt)
    : Type 0 where
  pub genesis_is : first_of (codes "genesis") rows ≡ Some genesis
  pub log_is : first_of (codes "log") rows ≡ log
  pub script_is : first_of (codes "script") rows ≡ script
  pub slot_is : IsOptionalNumber (one_of (codes "slot") rows) slot
  pub text_is : IsTextAt rows text

-- ---- jobs

abbrev pub IsRunJob : List Row → Job → Type 0
IsRunJob rows (Under genesis (Run script log explain)) =
    IsRun rows genesis.now script.now (option_map (λ path. path.now) log) explain
IsRunJob rows job = ⊥

abbrev pub IsSimJob : List Row → Job → Type 0
IsSimJob rows (Under genesis (Sim script clients discard)) =
    IsSim rows genesis.now script.now clients.many discard
IsSimJob rows job = ⊥

abbrev pub IsReplayJob : List Row → Job → Type 0
IsReplayJob rows (Under genesis (Replay log)) = IsReplay rows genesis.now log.now
IsReplayJob rows job = ⊥

abbrev pub IsIdJob : List Row → Job → Type 0
IsIdJob rows (Id kind text) = IsId rows kind text
IsIdJob rows job = ⊥

abbrev pub IsShowJob : List Row → Job → Type 0
IsShowJob rows (Show kind form scheme text) = IsShow rows kind form scheme text
IsShowJob rows (ShowLog source form) = IsLogShown rows source form
IsShowJob rows (Under genesis (ShowGenesis form)) = IsGenesisShown rows genesis.now form
IsShowJob rows job = ⊥

abbrev pub IsCheckJob : List Row → Job → Type 0
IsCheckJob rows (Under genesis (Check base slot text)) = IsCheck rows genesis.now
    (option_map (λ path. path.now) base.log) (option_map (λ path. path.now) base.script) slot text
IsCheckJob rows job = ⊥

-- the job is the subcommand that was found, with its paths, but for `serve`
abbrev pub IsShortJobOf : Option (Text × List Row) → Job → Type 0
IsShortJobOf found job =
    ((rows : List Row) × (found ≡ Some (codes "run", rows)) × IsRunJob rows job)
    ⊎ (((rows : List Row) × (found ≡ Some (codes "sim", rows)) × IsSimJob rows job)
    ⊎ (((rows : List Row) × (found ≡ Some (codes "replay", rows)) × IsReplayJob rows job)
    ⊎ (((rows : List Row) × (found ≡ Some (codes "id", rows)) × IsIdJob rows job)
    ⊎ (((rows : List Row) × (found ≡ Some (codes "check", rows)) × IsCheckJob rows job)
    ⊎ ((rows : List Row) × (found ≡ Some (codes "show", rows)) × IsShowJob rows job)))))
