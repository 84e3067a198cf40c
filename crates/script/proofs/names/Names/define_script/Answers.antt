use Rattle.std.proofs.Common.{◌≡◌, ◌∙◌, ◌∷◌, [], ◌++◌, ℕ, List, None, sym, refl, subst}
use Rattle.model.specs.Script.{SpellsScript}
use Rattle.script.specs.Line.{said_bytes}
use Rattle.script.specs.KnownView.{IsTable}
use Rattle.script.specs.Meaning.{Defines, BindsScript, MeansScript}
use Rattle.script.specs.Names.{bound_to}
use Rattle.script.proofs.Asking.{asks_short, script_lacks, free_so}
use Rattle.script.proofs.Definitions.{means_script}
use Rattle.script.proofs.names.Names.define_script.Goals as goal

pub returns-in_err-bytes : goal.returns-in_err-bytes
returns-in_err-bytes c = λ names named.
    let free : bound_to c.args.name.text.now names.of_scripts ≡ None = free_so (λ s. s.now) c.get.result _ (c.get.ensures names.of_scripts named.known.of_scripts) (sym c.is_some.ensures ∙ c.if-is_some.false) in
    asks_short names (MeansScript (bound_to c.args.name.text.now names.of_scripts) c.args.name.text.now (said_bytes c.args.digits.text.now)) _ c.from_residual.result _ c.from_residual.ensures.1 (script_lacks _ _ _ free)

pub returns-in-Err-OutOfMemory : goal.returns-in-Err-OutOfMemory
returns-in-Err-OutOfMemory c = λ names named.
    let free : bound_to c.args.name.text.now names.of_scripts ≡ None = free_so (λ s. s.now) c.get.result _ (c.get.ensures names.of_scripts named.known.of_scripts) (sym c.is_some.ensures ∙ c.if-is_some.false) in
    script_lacks _ _ _ free

pub returns-in_err-name : goal.returns-in_err-name
returns-in_err-name c = λ names named.
    let free : bound_to c.args.name.text.now names.of_scripts ≡ None = free_so (λ s. s.now) c.get.result _ (c.get.ensures names.of_scripts named.known.of_scripts) (sym c.is_some.ensures ∙ c.if-is_some.false) in
    asks_short names (MeansScript (bound_to c.args.name.text.now names.of_scripts) c.args.name.text.now (said_bytes c.args.digits.text.now)) _ c.from_residual-in_err-name.result _ c.from_residual-in_err-name.ensures.1 (script_lacks _ _ _ free)

pub returns-in_err-bind : goal.returns-in_err-bind
returns-in_err-bind c = λ names named.
    let free : bound_to c.args.name.text.now names.of_scripts ≡ None = free_so (λ s. s.now) c.get.result _ (c.get.ensures names.of_scripts named.known.of_scripts) (sym c.is_some.ensures ∙ c.if-is_some.false) in
    asks_short names (MeansScript (bound_to c.args.name.text.now names.of_scripts) c.args.name.text.now (said_bytes c.args.digits.text.now)) _ c.from_residual-in_err-bind.result _ c.from_residual-in_err-bind.ensures.1 (script_lacks _ _ _ free)

pub returns : goal.returns
returns c = λ names named.
    let free : bound_to c.args.name.text.now names.of_scripts ≡ None = free_so (λ s. s.now) c.get.result _ (c.get.ensures names.of_scripts named.known.of_scripts) (sym c.is_some.ensures ∙ c.if-is_some.false) in
    let spelled = subst (SpellsScript c.in-Ok.script) (c.deref.ensures.value ∙ c.in_ok-bytes.ensures) c.in-Ok.ensures.found in
    let table = c.in_ok-bind.ensures names.of_scripts named.known.of_scripts (rw c.in_ok-name.ensures.items free) in
    record {
      meaning = Defines (BindsScript (record { name = c.args.name.text.now; bound = c.in-Ok.script }));
      is_meant = means_script _ c.args.name.text.now (said_bytes c.args.digits.text.now) c.in-Ok.script free spelled;
      is_request = (
        BindsScript (record { name = c.args.name.text.now; bound = c.in-Ok.script }),
        refl,
        record {
          new = record names { of_scripts = names.of_scripts ++ record { name = c.args.name.text.now; bound = c.in-Ok.script } ∷ [] };
          after = refl;
          named = record {
            known = record {
              scheme = named.known.scheme;
              network = named.known.network;
              of_keys = named.known.of_keys;
              of_scripts = subst (λ (n : List ℕ). IsTable c.bind.new.self (names.of_scripts ++ record { name = n; bound = c.in-Ok.script } ∷ [])) c.in_ok-name.ensures.items table;
              of_txs = named.known.of_txs;
            };
            of_bytes = named.of_bytes;
            of_followers = named.of_followers;
            printed = named.printed;
            making = named.making;
            free = named.free;
          };
        },
      );
    }
