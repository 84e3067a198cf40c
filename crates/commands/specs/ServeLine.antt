-- The command `serve`, as the program's parser reads it, and which job it names; with it the whole program.
use Rattle.std.specs.Prelude.{◌≡◌, ◌⊎◌, ℕ, ◌+◌, ◌≤◌, if◌then◌else◌, List, [], ◌∷◌, length, map, Option, Some, option_map, unwrap_or, codes}
use Rattle.clap.specs.declared.builder.action.ArgAction.TheVariants.{Append, SetTrue}
use Rattle.clap.specs.declared.builder.value_parser.ValueParser.TheVariants.{Unsigned}
use Rattle.clap.specs.Words.{Text, Row, Rule, App, new_rule, new_app, with_rule, with_subcommand, first_of, one_of}
use Rattle.clap.specs.Words.{all_of}
use Rattle.inbox.specs.Arrivals.{peers}
use Rattle.commands.specs.CommandLine.{option_rule, required_rule, short_app}
use Rattle.commands.specs.JobView.{is_given, IsNumberOf, IsShortJobOf}
use Rattle.commands.specs.declared.jobs.Job.{Job}
use Rattle.commands.specs.declared.jobs.Job.TheVariants.{Under}
use Rattle.commands.specs.declared.jobs.Task.TheVariants.{Serve}
use Rattle.commands.specs.declared.jobs.Serving.{Serving}

-- an option that may be given again and again
abbrev pub lanes_rule : Text → Rule
lanes_rule id = record (new_rule id) { long = Some id; action = Some Append; value_names = 1 }

abbrev pub flag_rule : Text → Rule
flag_rule id = record (new_rule id) { long = Some id; action = Some SetTrue }

-- the option with how many workers check a block, of whom there are four where it isn't given
abbrev pub workers_rule : Rule
workers_rule = record (option_rule (codes "workers")) { parser = Some (Unsigned 1 16); defaults = codes "4" ∷ [] }

abbrev pub serve_files_app : App
serve_files_app = with_rule (with_rule (with_rule (new_app (codes "serve")) (required_rule (codes "genesis")))
    (option_rule (codes "log"))) (option_rule (codes "metrics"))

abbrev pub lanes_app : App
lanes_app = with_rule (with_rule serve_files_app (lanes_rule (codes "lane"))) (lanes_rule (codes "peer"))

abbrev pub serve_app : App
serve_app = with_rule (with_rule (with_rule (with_rule lanes_app (flag_rule (codes "binary")))
    (flag_rule (codes "stdio"))) (flag_rule (codes "until-closed"))) workers_rule

-- the most lanes of clients, that of the standard streams among them
abbrev pub lanes_limit : ℕ
lanes_limit = 60

-- the texts that an option was given with, none where it wasn't
abbrev pub given_texts : Option (List Text) → List Text
given_texts given = unwrap_or given []

-- the values of the options of `serve`
pub record IsServe (rows : List Row) (genesis : Text) (serving : Serving) : Type 0 where
  pub genesis_is : first_of (codes "genesis") rows ≡ Some genesis
  pub log_is : first_of (codes "log") rows ≡ option_map (λ path. path.now) serving.log
  pub metrics_is : first_of (codes "metrics") rows ≡ option_map (λ path. path.now) serving.metrics
  pub lanes_are : given_texts (all_of (codes "lane") rows) ≡ map (λ lane. lane.now) serving.lanes.items
  pub peers_are : given_texts (all_of (codes "peer") rows) ≡ map (λ path. path.now) serving.peers.items
  pub binary_is : is_given (first_of (codes "binary") rows) ≡ serving.is_binary
  pub stdio_is : is_given (first_of (codes "stdio") rows) ≡ serving.stdio
  pub until_closed_is : is_given (first_of (codes "until-closed") rows) ≡ serving.until_closed
  pub few_lanes : length serving.lanes.items + (if serving.stdio then 1 else 0) ≤ lanes_limit
  pub few_peers : length serving.peers.items ≤ peers
  pub workers_are : (text : Text) × (one_of (codes "workers") rows ≡ Some text) × IsNumberOf text serving.workers.many

abbrev pub IsServeJob : List Row → Job → Type 0
IsServeJob rows (Under genesis (Serve serving)) = IsServe rows genesis.now serving
IsServeJob rows job = ⊥

-- ---- all of them

-- the command `node` with all its subcommands
abbrev pub node_app : App
node_app = with_subcommand short_app serve_app.top

-- the job is the subcommand that was found, with its paths
abbrev pub IsJobOf : Option (Text × List Row) → Job → Type 0
IsJobOf found job =
    ((rows : List Row) × (found ≡ Some (codes "serve", rows)) × IsServeJob rows job) ⊎ IsShortJobOf found job
