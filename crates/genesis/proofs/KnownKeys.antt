-- The keys of a table against those that are known.
use Rattle.std.proofs.Common.{◌≡◌, ℕ, Bool, true, ◌&&◌, ◌||◌, List, [], ◌∷◌, map, String, Global, string_bytes, Bor, refl, ap, ◌∙◌}
use Rattle.std.specs.Prelude.{bytes_eq}
use Rattle.std.specs.List.{list_any}
use Rattle.std.specs.Map.{keys_of}
use Rattle.toml.specs.Data.{Data}
use Rattle.toml.specs.View.{view, items_view, members_view}
use Rattle.toml.specs.declared.value.Value.{Value}
use Rattle.toml.proofs.Views.{Entry}
use Rattle.genesis.specs.Document.{is_known, has_only, values_of}
use Rattle.genesis.specs.View.{texts_of}

-- each of these keys is known
abbrev pub are_known : List (List ℕ) → List (String Global) → Bool
are_known known [] = true
are_known known (k ∷ ks) = is_known known (string_bytes k) && are_known known ks

pub has_only-keys : (known : List (List ℕ)) (es : List Entry) → has_only known (members_view es) ≡ are_known known (keys_of es)
has_only-keys known [] = refl
has_only-keys known (e ∷ es) = ap (λ (b : Bool). is_known known (string_bytes e.0) && b) (has_only-keys known es)

-- looking among the texts is looking at each
pub is_known-texts : (known : List (Bor (List ℕ))) (key : List ℕ) → list_any (λ name. bytes_eq name.now key) known ≡ is_known (texts_of known) key
is_known-texts [] key = refl
is_known-texts (k ∷ ks) key = ap (λ (b : Bool). bytes_eq k.now key || b) (is_known-texts ks key)

-- the values of an array
pub values_of-view : (vs : List Value) → values_of (items_view vs) ≡ map view vs
values_of-view [] = refl
values_of-view (v ∷ vs) = ap (λ (ds : List Data). view v ∷ ds) (values_of-view vs)

-- a text that is the key's
pub seen_text : (known : List (Bor (List ℕ))) (text key : List ℕ) (answer : Bool) → text ≡ key → answer ≡ list_any (λ name. bytes_eq name.now text) known → answer ≡ list_any (λ name. bytes_eq name.now key) known
seen_text known text key answer is looked = looked ∙ ap (λ (t : List ℕ). list_any (λ name. bytes_eq name.now t) known) is
