-- Lines of a lane: bytes up to a line feed, and what of them a reader takes.
use Rattle.std.specs.Prelude.{◌≡◌, ◌≢◌, ℕ, ◌+◌, ◌<◌, ◌≤◌, List, [], ◌++◌, length, All, Option, Some, None}
use Rattle.std.specs.Prelude.{IfSome, OnSome}
use Rattle.std.specs.Io.{StopsAt, IsEmptyOrEndsWith}
use Rattle.std.specs.Io.KnownBytes.{Consumes, Keeps, IsAtEnd}
use Rattle.std.specs.Io.BufRead.{take_through, DropsThrough}
use Rattle.conversing.specs.declared.lane_line.LaneLine.{LaneLine}
use Rattle.conversing.specs.declared.lane_line.LaneLine.TheVariants.{Whole, Cut}
use Rattle.conversing.specs.declared.lane_line.Piece.{Piece}
use Rattle.conversing.specs.declared.lane_line.Piece.TheVariants as pieces

-- how many bytes a lane's line has at most, with the line feed that ends it
abbrev pub line_limit : ℕ
line_limit = 2200000

-- the first line of a text, with the line feed that ends it, if one does
abbrev pub first_line : List ℕ → List ℕ
first_line text = take_through 10 text

-- it is held whole, or has more bytes than a line may have; and none where the text is empty
abbrev pub IsFirstLine : (limit : ℕ) → Option LaneLine → List ℕ → List ℕ → Type 0
IsFirstLine limit None text held = text ≡ []
IsFirstLine limit (Some Whole) text held = (0 < length text) × (held ≡ first_line text) × (length held ≤ limit)
IsFirstLine limit (Some Cut) text held = limit < length (first_line text)

-- the first line of what was left to read is read, and what follows it is left
abbrev pub ReadsLine : (limit : ℕ) → Option LaneLine → (old new : Option (List ℕ)) → List ℕ → Type 0
ReadsLine limit read old new held = IfSome old (λ text. IsFirstLine limit read text held) × DropsThrough old new 10

-- ---- pieces of a line

-- a piece of a line was put behind what was held: one in the middle, which has no line feed
abbrev pub TakesMiddle : (old new : Option (List ℕ)) → (held now : List ℕ) → Type 0
TakesMiddle old new held now = (part : List ℕ) × (now ≡ held ++ part) × Consumes old new part × All (λ b. b ≢ 10) part

-- or one that ends it
abbrev pub TakesEnd : (old new : Option (List ℕ)) → (held now : List ℕ) → Type 0
TakesEnd old new held now = (part : List ℕ) × (now ≡ held ++ part) × Consumes old new part × StopsAt part 10
    × IsEmptyOrEndsWith part 10 × (length part ≡ 0 → OnSome old (IsAtEnd new))

-- one of these; or it stays where it is, and the line has more bytes than the limit
abbrev pub TakesPiece : (limit : ℕ) → Piece → (old new : Option (List ℕ)) → (held now : List ℕ) → Type 0
TakesPiece limit pieces.Middle old new held now = TakesMiddle old new held now
TakesPiece limit pieces.End old new held now = TakesEnd old new held now
TakesPiece limit pieces.TooMuch old new held now = (now ≡ held) × Keeps old new
    × IfSome old (λ text. limit < length held + length (first_line text))
