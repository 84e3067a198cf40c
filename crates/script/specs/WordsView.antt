-- Which words a reader of words has before it.
use Rattle.std.specs.Prelude.{ℕ, Bool, true, false, List, [], ◌∷◌, Option, Some, None, option_map}
use Rattle.script.specs.declared.words.Words.{Words}
use Rattle.script.specs.Text.{words_of}

abbrev pub words_in : Option (List ℕ) → List (List ℕ)
words_in None = []
words_in (Some content) = words_of content

abbrev pub words_left : Words → List (List ℕ)
words_left words = words_in (option_map (λ rest. rest.now) words.rest)

-- no word is left
abbrev pub has_no_words : List (List ℕ) → Bool
has_no_words [] = true
has_no_words (word ∷ words) = false
