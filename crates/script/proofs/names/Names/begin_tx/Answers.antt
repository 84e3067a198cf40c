use Rattle.std.proofs.Common.{◌≡◌, ◌∙◌, None, Some, sym, refl}
use Rattle.draft.specs.Draft.{empty_draft}
use Rattle.script.specs.Names.{OpenTx, bound_to}
use Rattle.script.specs.Meaning.{Defines, Continues, begun, where_free}
use Rattle.script.proofs.Asking.{short_for, free_so}
use Rattle.script.proofs.Definitions.{free_name}
use Rattle.script.proofs.names.Names.begin_tx.Goals as goal

pub returns-in_err-from_slice : goal.returns-in_err-from_slice
returns-in_err-from_slice c = λ names named.
    let free : bound_to c.args.name.text.now names.of_txs ≡ None = free_so (λ t. t.now) c.get.result _ (c.get.ensures names.of_txs named.known.of_txs) (sym c.is_some.ensures ∙ c.if-is_some.false) in
    short_for names (where_free (bound_to c.args.name.text.now names.of_txs) (begun c.args.number c.args.name.text.now)) _ c.from_residual.result _ c.from_residual.ensures.1 (rw free refl)

pub returns : goal.returns
returns c = λ names named.
    let free : bound_to c.args.name.text.now names.of_txs ≡ None = free_so (λ t. t.now) c.get.result _ (c.get.ensures names.of_txs named.known.of_txs) (sym c.is_some.ensures ∙ c.if-is_some.false) in
    let made : OpenTx = record { name = c.args.name.text.now; line = c.args.number; draft = empty_draft } in
    record {
      meaning = Defines (Continues made);
      is_meant = rw free refl;
      is_request = (
        Continues made,
        refl,
        record {
          new = record names { making = Some made };
          after = refl;
          named = record {
            known = record { scheme = named.known.scheme; network = named.known.network; of_keys = named.known.of_keys; of_scripts = named.known.of_scripts; of_txs = named.known.of_txs };
            of_bytes = named.of_bytes;
            of_followers = named.of_followers;
            printed = named.printed;
            making = (made, refl, record { name = sym c.in_ok-from_slice.ensures.items; line = refl; stands = c.new.ensures });
            free = free_name names made empty_draft free;
          };
        },
      );
    }
