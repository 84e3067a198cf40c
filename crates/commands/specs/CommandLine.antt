-- The command line of the program, as its parser reads it.
use Rattle.std.specs.Prelude.{true, [], ◌∷◌, Some, codes}
use Rattle.clap.specs.declared.builder.action.ArgAction.TheVariants.{Set, SetTrue}
use Rattle.clap.specs.declared.builder.value_parser.ValueParser.TheVariants.{Unsigned}
use Rattle.clap.specs.Words.{Text, Rule, Shape, App, new_rule, new_app, with_rule, with_subcommand}
use Rattle.simulation.specs.Clients.{clients_limit}

-- an option with one value
abbrev pub option_rule : Text → Rule
option_rule id = record (new_rule id) { long = Some id; action = Some Set; value_names = 1 }

-- one that has to be given
abbrev pub required_rule : Text → Rule
required_rule id = record (option_rule id) { required = true }

-- the option with how many clients there are, of whom there is one where it isn't given
abbrev pub clients_rule : Rule
clients_rule =
    record (option_rule (codes "clients")) { parser = Some (Unsigned 1 clients_limit); defaults = codes "1" ∷ [] }

-- the flag that asks for more to be told: of what is refused or not selected, and of faults
abbrev pub explain_rule : Rule
explain_rule = record (new_rule (codes "explain")) { long = Some (codes "explain"); action = Some SetTrue }

-- the flag that has blocks discarded where others have no place
abbrev pub discard_rule : Rule
discard_rule = record (new_rule (codes "discard")) { long = Some (codes "discard"); action = Some SetTrue }

-- a command of this name with the files of a genesis and of a script
abbrev pub on_script : Text → App
on_script name = with_rule (with_rule (new_app name) (required_rule (codes "genesis"))) (required_rule (codes "script"))

-- the command `run` with its three options that are files, and with the flag
abbrev pub files_app : App
files_app = with_rule (on_script (codes "run")) (option_rule (codes "log"))

abbrev pub run_app : App
run_app = with_rule files_app explain_rule

-- the command `sim` with its three options, and with the flag
abbrev pub clients_app : App
clients_app = with_rule (on_script (codes "sim")) clients_rule

abbrev pub sim_app : App
sim_app = with_rule clients_app discard_rule

-- the command `replay` with its two
abbrev pub replay_app : App
replay_app =
    with_rule (with_rule (new_app (codes "replay")) (required_rule (codes "genesis"))) (required_rule (codes "log"))

-- ---- texts

-- a value that has a place and no name
abbrev pub placed_rule : Text → Rule
placed_rule id = record (new_rule id) { action = Some Set; value_names = 1 }

-- what a text is of, which has to be given
abbrev pub kind_rule : Rule
kind_rule = record (placed_rule (codes "kind")) { required = true }

-- the flag that the bytes of a text themselves are read
abbrev pub binary_rule : Rule
binary_rule = record (new_rule (codes "binary")) { long = Some (codes "binary"); action = Some SetTrue }

-- a command with a text, which has a file, and that flag
abbrev pub with_text : App → App
with_text app = with_rule (with_rule app (placed_rule (codes "file"))) binary_rule

-- the command `id` with its three
abbrev pub id_app : App
id_app = with_text (with_rule (new_app (codes "id")) kind_rule)

-- the option with the scheme by which signatures are judged, that for tests where it isn't given
abbrev pub scheme_rule : Rule
scheme_rule = record (option_rule (codes "scheme")) { defaults = codes "test" ∷ [] }

-- the flag that has a text shown as a JSON document
abbrev pub json_rule : Rule
json_rule = record (new_rule (codes "json")) { long = Some (codes "json"); action = Some SetTrue }

-- the command `show` with its five
abbrev pub form_app : App
form_app = with_rule (with_rule (with_rule (new_app (codes "show")) kind_rule) scheme_rule) json_rule

abbrev pub show_app : App
show_app = with_text form_app

-- the command `check` with its three options that are files, with the slot, and with its text
abbrev pub base_app : App
base_app = with_rule (with_rule (with_rule (new_app (codes "check")) (required_rule (codes "genesis")))
    (option_rule (codes "log"))) (option_rule (codes "script"))

-- the option with the slot in which it is judged
abbrev pub slot_rule : Rule
slot_rule = record (option_rule (codes "slot")) { parser = Some (Unsigned 0 18446744073709551615) }

abbrev pub check_app : App
check_app = with_text (with_rule base_app slot_rule)

-- ---- all of them

-- the command `node`, which has a version, with its subcommands
abbrev pub node_shape : Shape
node_shape = record (new_app (codes "node")).top { has_version = true; subcommand_required = true }

abbrev pub bare_app : App
bare_app = record { top = node_shape; subs = [] }

-- those that run scripts first
abbrev pub script_app : App
script_app = with_subcommand (with_subcommand bare_app run_app.top) sim_app.top

-- then the one that opens a log, and those that tell of a text
abbrev pub log_app : App
log_app = with_subcommand script_app replay_app.top

abbrev pub text_app : App
text_app = with_subcommand (with_subcommand log_app id_app.top) check_app.top

-- all but `serve`, which stays
abbrev pub short_app : App
short_app = with_subcommand text_app show_app.top
