use Rattle.std.proofs.Common.{◌≡◌, ◌∙◌, ◌∷◌, [], ◌++◌, ℕ, List, None, sym, refl, subst}
use Rattle.model.specs.Cbor.{text_of}
use Rattle.model.specs.Transaction.{item_of_transaction}
use Rattle.script.specs.KnownView.{IsTable}
use Rattle.script.specs.TxNamesView.{AreTxsNamed}
use Rattle.script.specs.Meaning.{Defines, Finishes}
use Rattle.script.specs.Names.{bound_to}
use Rattle.script.proofs.Definitions.{opened}
use Rattle.script.proofs.names.Names.end_tx.Goals as goal

pub returns : goal.returns
returns c = λ names named made is.
    let making = opened c.args.self.now.making names.making c.in-Some.open made named.making (sym c.take.ensures.value ∙ c.in-Some.is) is in
    let tx = c.in_ok-tx.tx in
    let free : bound_to c.in-Some.open.name.items names.of_txs ≡ None = subst (λ (n : List ℕ). bound_to n names.of_txs ≡ None) making.name (named.free made is) in
    let table = c.in_ok-bind.ensures names.of_txs named.known.of_txs free in
    let printed = c.in_ok-name_tx.ensures names.of_txs tx named.printed c.id.ensures.is in
    record {
      meaning = Defines (Finishes made);
      is_meant = refl;
      is_request = (
        Finishes made,
        refl,
        record {
          new = record names { of_txs = names.of_txs ++ record { name = made.name; bound = tx } ∷ []; making = None };
          after = record { tx = tx; text = text_of (item_of_transaction tx); spelled = c.in_ok-tx.ensures.spelled; is_tx = c.in_ok-tx.ensures.tx made.draft making.stands; is_new = refl };
          named = record {
            known = record {
              scheme = named.known.scheme;
              network = named.known.network;
              of_keys = named.known.of_keys;
              of_scripts = named.known.of_scripts;
              of_txs = subst (λ (n : List ℕ). IsTable c.bind.new.self (names.of_txs ++ record { name = n; bound = tx } ∷ [])) (sym making.name) table;
            };
            of_bytes = named.of_bytes;
            of_followers = named.of_followers;
            printed = subst (λ (n : List ℕ). AreTxsNamed c.name_tx.new.self (names.of_txs ++ record { name = n; bound = tx } ∷ [])) (c.deref.ensures.value ∙ sym making.name) printed;
            making = rw c.take.ensures.after refl;
            free = λ other none. cc;
          };
        },
      );
    }
