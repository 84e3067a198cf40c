use Rattle.std.proofs.Common.{◌≡◌, ◌∙◌, Err, None, sym, ap}
use Rattle.std.proofs.lemmas.Result.{err_from_is_err_and}
use Rattle.script.specs.BaseView.{base_of}
use Rattle.script.specs.PlaceView.{place_of}
use Rattle.script.specs.Meaning.{binds_bytes}
use Rattle.script.specs.Names.{bound_to}
use Rattle.script.specs.NamesView.{bound_of}
use Rattle.script.specs.WordsView.{words_left}
use Rattle.script.proofs.Definitions.{txs_refused, block_built, asks_late, unknown_so}
use Rattle.script.proofs.names.Names.define_block.Goals as goal

pub returns-in_err-txs : goal.returns-in_err-txs
returns-in_err-txs c =
    let p = err_from_is_err_and c.from_residual.result c.from_residual.ensures.1 in
    rw (p.1, p.2) (λ names named.
    let free : bound_to c.args.name.text.now names.of_bytes ≡ None = unknown_so _ (sym c.if-has_bytes.false ∙ c.has_bytes.ensures names named) in
    txs_refused names c.args.self.now c.args.name.text.now (place_of c.args.parent) c.args.slot (words_left c.args.transactions.words) (base_of c.in-Some.base) c.in_err-txs.field-0.0 (sym (c.in-Some.ensures names.of_bytes named.of_bytes)) free
    (sym c.if-not-knows_txs.false ∙ c.knows_txs.ensures names named.known) (c.in_err-txs.ensures.gathered names named.known) (λ e. c.in_err-txs.ensures.short (ap Err e)) named)

pub returns : goal.returns
returns c = λ names named.
    let free : bound_to c.args.name.text.now names.of_bytes ≡ None = unknown_so _ (sym c.if-has_bytes.false ∙ c.has_bytes.ensures names named) in
    asks_late names (binds_bytes c.args.name.text.now (bound_of c.in_ok-bound.bound)) _ _ c.bind_bytes.result c.bind_bytes.new.self (c.bind_bytes.ensures names named free)
    (block_built names c.args.name.text.now (place_of c.args.parent) c.args.slot (words_left c.args.transactions.words) (base_of c.in-Some.base) c.in_ok-txs.txs.items (bound_of c.in_ok-bound.bound) (sym (c.in-Some.ensures names.of_bytes named.of_bytes)) free
    (c.in_ok-txs.ensures.gathered names named.known) (rw c.deref.ensures.value at c.in_ok-bound.ensures))
