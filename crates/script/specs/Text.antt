-- The text of a script: its lines, their words, and the names, numbers and bytes that the words say.
use Rattle.std.specs.Prelude.{ℕ, ◌+◌, ◌*◌, ◌-◌, ◌^◌, Bool, false, ◌&&◌, ◌||◌, not, List, [], ◌∷◌, length, Option, Some}
use Rattle.std.specs.Prelude.{None, nat_lt, nat_le, ◌==◌, if◌then◌else◌, bytes_eq, codes}
use Rattle.std.specs.List.{slice_split, onto_first, list_all}
use Rattle.std.specs.Io.BufRead.{strip_last}

-- how many bytes a script may have
abbrev pub script_size_limit : ℕ
script_size_limit = 4194304

-- the lines of a text, each with the line feed that ends it, which the last one may lack
abbrev pub lines_of : List ℕ → List (List ℕ)
lines_of [] = []
lines_of (x ∷ xs) = if x == 10 then (10 ∷ []) ∷ lines_of xs else onto_first x (lines_of xs)

-- a line without the line feed that ends it
abbrev pub content_of : List ℕ → List ℕ
content_of line = strip_last 10 line

-- the printable characters of ASCII
abbrev pub is_printable : ℕ → Bool
is_printable b = nat_le 32 b && nat_le b 126

-- the words of a line, between single spaces
abbrev pub words_of : List ℕ → List (List ℕ)
words_of content = slice_split (λ b. b == 32) content

-- the first of some words, if there is one
abbrev pub first_word : List (List ℕ) → Option (List ℕ)
first_word [] = None
first_word (word ∷ words) = Some word

abbrev pub is_digit : ℕ → Bool
is_digit b = nat_le 48 b && nat_le b 57

abbrev pub is_letter : ℕ → Bool
is_letter b = (nat_le 65 b && nat_le b 90) || (nat_le 97 b && nat_le b 122)

abbrev pub begins_with_letter : List ℕ → Bool
begins_with_letter [] = false
begins_with_letter (b ∷ bs) = is_letter b

-- a name is a letter and up to 15 letters or digits, and not `genesis`
abbrev pub is_name : List ℕ → Bool
is_name word =
    begins_with_letter word && list_all (λ b. is_letter b || is_digit b) word && nat_le (length word) 16
    && not (bytes_eq word (codes "genesis"))

-- the number that digits say after those of a number, if it is below 2 ^ 64
abbrev pub number_from : ℕ → List ℕ → Option ℕ
number_from n [] = if nat_lt n (2 ^ 64) then Some n else None
number_from n (d ∷ ds) = if is_digit d then number_from (n * 10 + (d - 48)) ds else None

-- digits, one of them at least, with no zero in front of another digit
abbrev pub parse_number : List ℕ → Option ℕ
parse_number [] = None
parse_number (d ∷ []) = number_from 0 (d ∷ [])
parse_number (d ∷ e ∷ ds) = if d == 48 then None else number_from 0 (d ∷ e ∷ ds)
