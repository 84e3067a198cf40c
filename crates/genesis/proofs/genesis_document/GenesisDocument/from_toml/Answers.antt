use Rattle.std.proofs.Common.{◌≡◌, Some, Ok, Err, arith}
use Rattle.std.proofs.lemmas.Grind.{common_steps}
use Rattle.toml.specs.Parse.{parse_document}
use Rattle.toml.specs.View.{table_view}
use Rattle.model.specs.Genesis.{Genesis}
use Rattle.genesis.specs.declared.genesis_fault.GenesisFault.TheVariants.{NotToml, BadShape}
use Rattle.genesis.specs.Steps.{Gives, or_fault}
use Rattle.genesis.specs.Document.{written_in}
use Rattle.genesis.specs.Judgement.{judged, genesis_of}
use Rattle.genesis.specs.View.{written_view}
use Rattle.genesis.proofs.Steps.{no_fault, refused_so}
use Rattle.genesis.proofs.Schemes.{names_scheme}
use Rattle.genesis.proofs.Faults.{answer_given}
use Rattle.genesis.proofs.genesis_document.GenesisDocument.from_toml.Goals as goal

pub returns-in_err-table : goal.returns-in_err-table
unfolding genesis_of
returns-in_err-table c =
    let text = c.args.text.now in
    let fault = c.in_err-table.field-0.0 in
    let is : c.from_residual.result ≡ Err fault = grind (arith, common_steps) in
    let told = refused_so table_view (λ (g : Genesis). g) (parse_document text) NotToml fault (λ document. or_fault BadShape (written_in document) judged) c.in_err-table.ensures in
    let exact : Gives (λ (g : Genesis). g) (Err fault) (genesis_of text) = told in
    rw is (record { exact = exact; least = answer_given text (Err fault) exact; scheme = tt })

pub returns-in_err-written : goal.returns-in_err-written
unfolding genesis_of
returns-in_err-written c =
    let text = c.args.text.now in
    let fault = c.in_err-written.field-0.0 in
    let is : c.from_residual-in_err-written.result ≡ Err fault = grind (arith, common_steps) in
    let document = table_view c.in_ok-table.table in
    let parsed : parse_document text ≡ Some document = no_fault (parse_document text) _ document c.in_ok-table.ensures in
    let told = refused_so written_view (λ (g : Genesis). g) (written_in document) BadShape fault judged c.in_err-written.ensures in
    let exact : Gives (λ (g : Genesis). g) (Err fault) (genesis_of text) = rw parsed told in
    rw is (record { exact = exact; least = answer_given text (Err fault) exact; scheme = tt })

pub returns-in_err-genesis : goal.returns-in_err-genesis
unfolding genesis_of
returns-in_err-genesis c =
    let text = c.args.text.now in
    let fault = c.in_err-genesis.field-0.0 in
    let is : c.from_residual-in_err-genesis.result ≡ Err fault = grind (arith, common_steps) in
    let document = table_view c.in_ok-table.table in
    let parsed : parse_document text ≡ Some document = no_fault (parse_document text) _ document c.in_ok-table.ensures in
    let written : written_in document ≡ Some (written_view c.in_ok-written.written) = no_fault (written_in document) _ (written_view c.in_ok-written.written) c.in_ok-written.ensures in
    let exact : Gives (λ (g : Genesis). g) (Err fault) (genesis_of text) = rw (parsed, written) c.in_err-genesis.ensures in
    rw is (record { exact = exact; least = answer_given text (Err fault) exact; scheme = tt })

pub returns : goal.returns
unfolding genesis_of
returns c =
    let text = c.args.text.now in
    let document = table_view c.in_ok-table.table in
    let parsed : parse_document text ≡ Some document = no_fault (parse_document text) _ document c.in_ok-table.ensures in
    let written : written_in document ≡ Some (written_view c.in_ok-written.written) = no_fault (written_in document) _ (written_view c.in_ok-written.written) c.in_ok-written.ensures in
    let exact : Gives (λ (g : Genesis). g) (Ok c.in_ok-genesis.genesis) (genesis_of text) = rw (parsed, written) c.in_ok-genesis.ensures in
    record { exact = exact; least = answer_given text (Ok c.in_ok-genesis.genesis) exact; scheme = names_scheme text document (written_view c.in_ok-written.written) parsed written }
