-- The keys of a table of which one isn't known.
use Rattle.std.proofs.Common.{◌≡◌, ℕ, Bool, ◌||◌, List, [], ◌∷◌, map, String, Global, string_bytes, Bor, Option, Some, None, refl, ap, ◌∙◌}
use Rattle.std.specs.Prelude.{bytes_eq, if◌then◌else◌}
use Rattle.std.specs.List.{list_any}
use Rattle.std.specs.Map.{keys_of}
use Rattle.toml.specs.Data.{Data}
use Rattle.toml.specs.View.{view, items_view, members_view}
use Rattle.toml.specs.declared.value.Value.{Value}
use Rattle.toml.proofs.Views.{Entry}
use Rattle.genesis.specs.Document.{is_known, values_of}
use Rattle.genesis.specs.View.{texts_of}
use Rattle.hints.specs.GenesisSpots.{unknown_in}

-- the first of these keys that isn't known
abbrev pub first_unknown : List (List ℕ) → List (String Global) → Option (List ℕ)
first_unknown known [] = None
first_unknown known (k ∷ ks) = if is_known known (string_bytes k) then first_unknown known ks else Some (string_bytes k)

pub unknown_in-keys : (known : List (List ℕ)) (es : List Entry) → unknown_in known (members_view es) ≡ first_unknown known (keys_of es)
unknown_in-keys known [] = refl
unknown_in-keys known (e ∷ es) = ap (λ (o : Option (List ℕ)). if is_known known (string_bytes e.0) then o else Some (string_bytes e.0)) (unknown_in-keys known es)

-- looking among the texts is looking at each
pub is_known-texts : (known : List (Bor (List ℕ))) (key : List ℕ) → list_any (λ name. bytes_eq name.now key) known ≡ is_known (texts_of known) key
is_known-texts [] key = refl
is_known-texts (k ∷ ks) key = ap (λ (b : Bool). bytes_eq k.now key || b) (is_known-texts ks key)

-- the values of an array
pub values_of-view : (vs : List Value) → values_of (items_view vs) ≡ map view vs
values_of-view [] = refl
values_of-view (v ∷ vs) = ap (λ (ds : List Data). view v ∷ ds) (values_of-view vs)

-- a text that is the key's
pub seen_text : (known : List (Bor (List ℕ))) (text key : List ℕ) (answer : Bool) → text ≡ key → answer ≡ list_any (λ name. bytes_eq name.now text) known → answer ≡ list_any (λ name. bytes_eq name.now key) known
seen_text known text key answer is looked = looked ∙ ap (λ (t : List ℕ). list_any (λ name. bytes_eq name.now t) known) is
