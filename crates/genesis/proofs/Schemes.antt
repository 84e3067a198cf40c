-- The scheme that is read is the one that the document names.
use Rattle.std.proofs.Common.{◌≡◌, ℕ, Bool, true, false, List, Option, Some, None, refl, sym, ap, subst, ◌∙◌}
use Rattle.std.specs.Prelude.{if◌then◌else◌, codes, bytes_eq}
use Rattle.std.proofs.lemmas.Option.{same_Some, none-some}
use Rattle.std.proofs.lemmas.Slice.Eq.{bytes_eq-Decides}
use Rattle.toml.specs.Data.{Data, Members, get_member, as_str}
use Rattle.toml.specs.Parse.{parse_document}
use Rattle.genesis.specs.declared.scheme.Scheme.{Scheme}
use Rattle.genesis.specs.declared.scheme.Scheme.TheVariants as schemes
use Rattle.genesis.specs.Steps.{guard}
use Rattle.genesis.specs.Document.{has_only, genesis_keys, numbers_in, scheme_of, scheme_at, scheme_in, outputs_in, Written, written_in}
use Rattle.genesis.specs.Meaning.{scheme_name, IsSchemeAt, NamesScheme}
use Rattle.genesis.proofs.Steps.{on_the_way}

-- the name is that of the scheme that it was taken for
name_of_scheme : (name : List ℕ) (scheme : Scheme) → scheme_of name ≡ Some scheme → name ≡ scheme_name scheme
name_of_scheme name scheme some = by_tests (bytes_eq name (codes "test")) (bytes_eq name (codes "ed25519")) refl refl some
  where
    by_tests : (is_test is_ed25519 : Bool) → bytes_eq name (codes "test") ≡ is_test → bytes_eq name (codes "ed25519") ≡ is_ed25519
        → (if is_test then Some schemes.Test else if is_ed25519 then Some schemes.Ed25519 else None) ≡ Some scheme → name ≡ scheme_name scheme
    by_tests true other same _ found = (bytes_eq-Decides name (codes "test")).0 same ∙ ap scheme_name (same_Some _ _ found)
    by_tests false true _ same found = (bytes_eq-Decides name (codes "ed25519")).0 same ∙ ap scheme_name (same_Some _ _ found)
    by_tests false false _ _ found = absurd (none-some scheme found)

-- and it stands there, or nothing does
stands_there : (found : Option Data) (scheme : Scheme) → scheme_at found ≡ Some scheme → IsSchemeAt found scheme
stands_there None scheme is = sym (same_Some _ _ is)
stands_there (Some value) scheme is =
    let (name, here, named) = on_the_way (as_str value) scheme_of scheme is in
    here ∙ ap Some (name_of_scheme name scheme named)

-- what a text writes has the scheme that it names
pub names_scheme : (text : List ℕ) (document : Members) (written : Written) → parse_document text ≡ Some document → written_in document ≡ Some written → NamesScheme text written.scheme
unfolding written_in scheme_in
names_scheme text document written parsed is =
    let known = on_the_way (guard (has_only genesis_keys document)) _ written is in
    let numbers = on_the_way (numbers_in document) _ written known.2 in
    let (scheme, found, after) = on_the_way (scheme_in document) _ written numbers.2 in
    let outputs = on_the_way (outputs_in document) _ written after in
    let same : scheme ≡ written.scheme = ap (λ (w : Written). w.scheme) (same_Some _ _ outputs.2) in
    record {
      document = document;
      parsed = parsed;
      named = subst (IsSchemeAt (get_member (codes "scheme") document)) same (stands_there (get_member (codes "scheme") document) scheme found);
    }
