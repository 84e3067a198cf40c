-- Lines for people (this project's own): a margin of spaces, words and what they say, and a line feed.
use Rattle.std.specs.Prelude.{ℕ, Bool, List, [], ◌∷◌, ◌++◌, codes, decimal, if◌then◌else◌}
use Rattle.hex.specs.Hex.{encode_lower}

-- the margin of what belongs to a line with this one: two spaces more
abbrev pub inner_margin : List ℕ → List ℕ
inner_margin margin = margin ++ codes "  "

-- words alone
abbrev pub words_line : (margin words : List ℕ) → List ℕ
words_line margin words = margin ++ (words ++ 10 ∷ [])

-- a word, a space and a number
abbrev pub number_line : (margin word : List ℕ) → ℕ → List ℕ
number_line margin word number = margin ++ (word ++ (codes " " ++ (decimal number ++ 10 ∷ [])))

-- a word, a space and bytes, each in two lower case hexadecimal digits
abbrev pub bytes_line : (margin word bytes : List ℕ) → List ℕ
bytes_line margin word bytes = margin ++ (word ++ (codes " " ++ (encode_lower bytes ++ 10 ∷ [])))

-- a word, a space and a name
abbrev pub name_line : (margin word name : List ℕ) → List ℕ
name_line margin word name = margin ++ (word ++ (codes " " ++ (name ++ 10 ∷ [])))

-- the words for a verdict
abbrev pub verdict_line : (margin good bad : List ℕ) → Bool → List ℕ
verdict_line margin good bad verdict = words_line margin (if verdict then good else bad)
