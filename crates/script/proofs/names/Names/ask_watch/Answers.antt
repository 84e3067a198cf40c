use Rattle.std.proofs.Common.{◌≡◌, ◌∙◌, None, true, map, sym, refl, is_some}
use Rattle.std.proofs.lemmas.Result.{err_from_is_err_and}
use Rattle.script.specs.Meaning.{WatchesKeys, key_addresses}
use Rattle.script.specs.Names.{bound_to}
use Rattle.script.specs.RequestView.{key_address_of}
use Rattle.script.specs.WordsView.{words_left}
use Rattle.script.proofs.Asking.{short_for}
use Rattle.script.proofs.Definitions.{keys_refused, unbound, watch_meaning, watch_means, watch_taken, watch_unknown}
use Rattle.script.proofs.names.Names.ask_watch.Goals as goal

pub returns-then-not-knows_keys : goal.returns-then-not-knows_keys
returns-then-not-knows_keys c = λ names named.
    (watch_unknown c.args.name.text.now (bound_to c.args.name.text.now names.of_followers) (key_addresses names (words_left c.args.keys.words)) (sym c.if-not-knows_keys.true ∙ c.knows_keys.ensures names named.known), named)

pub returns-then-is_some : goal.returns-then-is_some
returns-then-is_some c = λ names named.
    let known : true ≡ is_some (key_addresses names (words_left c.args.keys.words)) = sym c.if-not-knows_keys.false ∙ c.knows_keys.ensures names named.known in
    let taken : is_some (bound_to c.args.name.text.now names.of_followers) ≡ true = rw (← c.get.ensures names.of_followers named.of_followers) (sym c.is_some.ensures ∙ c.if-is_some.true) in
    (watch_taken c.args.name.text.now (bound_to c.args.name.text.now names.of_followers) (key_addresses names (words_left c.args.keys.words)) known taken, named)

pub returns-in_err-keys : goal.returns-in_err-keys
returns-in_err-keys c =
    let p = err_from_is_err_and c.from_residual.result c.from_residual.ensures.1 in
    rw (p.1, p.2) (λ names named.
    let known : true ≡ is_some (key_addresses names (words_left c.args.keys.words)) = sym c.if-not-knows_keys.false ∙ c.knows_keys.ensures names named.known in
    let free : bound_to c.args.name.text.now names.of_followers ≡ None = unbound c.get.result _ (c.get.ensures names.of_followers named.of_followers) (sym c.is_some.ensures ∙ c.if-is_some.false) in
    keys_refused names c.args.self.now c.args.name.text.now _ _ c.in_err-keys.field-0.0 free known (c.in_err-keys.ensures names named.known))

pub returns-in_err-take_room : goal.returns-in_err-take_room
returns-in_err-take_room c = λ names named.
    let known : true ≡ is_some (key_addresses names (words_left c.args.keys.words)) = sym c.if-not-knows_keys.false ∙ c.knows_keys.ensures names named.known in
    let free : bound_to c.args.name.text.now names.of_followers ≡ None = unbound c.get.result _ (c.get.ensures names.of_followers named.of_followers) (sym c.is_some.ensures ∙ c.if-is_some.false) in
    short_for names (watch_meaning c.args.name.text.now (bound_to c.args.name.text.now names.of_followers) (key_addresses names (words_left c.args.keys.words))) _ c.from_residual-in_err-take_room.result _ c.from_residual-in_err-take_room.ensures.1
    (watch_means c.args.name.text.now _ _ known free)

pub returns : goal.returns
returns c = λ names named.
    let free : bound_to c.args.name.text.now names.of_followers ≡ None = unbound c.get.result _ (c.get.ensures names.of_followers named.of_followers) (sym c.is_some.ensures ∙ c.if-is_some.false) in
    let known = c.in_ok-keys.ensures names named.known in
    record {
      meaning = WatchesKeys c.args.name.text.now (map key_address_of c.in_ok-keys.keys.items);
      is_meant = rw (known, free) refl;
      is_request = (
        refl,
        free,
        c.in_ok-take_room.ensures.room,
        record {
          known = named.known;
          of_bytes = named.of_bytes;
          of_followers = c.in_ok-take_room.ensures.names names.of_followers named.of_followers;
          printed = named.printed;
          making = named.making;
          free = named.free;
        },
      );
    }
