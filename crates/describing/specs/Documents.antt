-- Documents: the text of a JSON value (RFC 8259), and a line feed.
use Rattle.std.specs.Prelude.{◌≡◌, ℕ, List, [], ◌∷◌, ◌++◌, Some}
use Rattle.serde_json.specs.Data.{Data}
use Rattle.serde_json.specs.Read.{read}
use Rattle.serde_json.specs.Written.{compact_text}

-- THE TEXT OF A DOCUMENT: no space stands between the parts of the value
abbrev pub document_text : Data → List ℕ
document_text json = compact_text json ++ 10 ∷ []

-- a text that is read as this value, and a line feed behind it
pub record IsReadAs (text : List ℕ) (json : Data) : Type 0 where
  pub value_text : List ℕ
  pub ends : text ≡ value_text ++ 10 ∷ []
  pub reads : read value_text ≡ Some json
