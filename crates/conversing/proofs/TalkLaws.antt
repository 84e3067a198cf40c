-- A talk that goes on.
use Rattle.std.proofs.Common.{◌≡◌, ℕ, ◌<◌, Bool, true, false, nat_le, List, [], ◌∷◌, ◌++◌, Option, Some, None, IfSome, length, refl, sym, ◌∙◌, ap, subst, arith, append_assoc, append-nil, MatchBool}
use Rattle.std.proofs.lemmas.Bool.Decides.{nat_tests}
use Rattle.std.specs.Io.KnownBytes.{Appends}
use Rattle.std.specs.Io.BufRead.{drop_through}
use Rattle.std.proofs.KnownBytes.{Appends-nil, Appends-trans}
use Rattle.std.proofs.BufReadLemmas.{take_through_nonempty}
use Rattle.conversing.specs.declared.lane.LaneEnd.{LaneEnd}
use Rattle.conversing.specs.declared.lane.LaneEnd.TheVariants.{ReadFailed, WriteFailed, OutOfMemory}
use Rattle.conversing.specs.declared.lane_line.LaneLine.{LaneLine}
use Rattle.conversing.specs.declared.lane_line.LaneLine.TheVariants.{Whole, Cut}
use Rattle.conversing.specs.Lines.{line_limit, first_line, IsFirstLine, ReadsLine}
use Rattle.conversing.specs.Talks.{too_long_reply, AnswersLine, AnswersHeld, AnswersLines, Talked, WroteUnless, BreaksOff}

module _ {A : Type 0} (answers : A → List ℕ → A → List ℕ → Type 0) where
  -- one more line is answered
  one_more : (before : A) (text : List ℕ) (lines : List (List ℕ)) (now : A) (left out : List ℕ) (next : A) (reply : List ℕ)
      → AnswersLines answers before text lines now left out → 0 < length left → AnswersLine answers now (first_line left) next reply
      → AnswersLines answers before text (lines ++ first_line left ∷ []) next (drop_through 10 left) (out ++ reply)
  one_more before text [] now left out next reply so_far some step =
      let (is, same, none) = so_far in (
        subst (λ (t : List ℕ). 0 < length t) is some,
        ap first_line is,
        next,
        reply,
        [],
        subst (λ (s : A). AnswersLine answers s (first_line left) next reply) same step,
        (ap (drop_through 10) is, refl, refl),
        ap (λ (l : List ℕ). l ++ reply) none ∙ sym (append-nil reply),
      )
  one_more before text (line ∷ lines) now left out next reply so_far some step =
      let (nonempty, is, mid, first, rest, answered, others, joined) = so_far in (
        nonempty,
        is,
        mid,
        first,
        rest ++ reply,
        answered,
        one_more mid (drop_through 10 text) lines now left rest next reply others some step,
        ap (λ (l : List ℕ). l ++ reply) joined ∙ append_assoc first rest reply,
      )

  -- what was answered so far of what was to be read, what is left of it, and what was written
  abbrev pub IsUnderway : (start now : A) (unread rest old new : Option (List ℕ)) → Type 0
  IsUnderway start now None rest old new = Unit {0}
  IsUnderway start now (Some text) rest old new = (lines : List (List ℕ)) × (left : List ℕ) × (out : List ℕ)
      × (rest ≡ Some left) × AnswersLines answers start text lines now left out × Appends old new out

  pub begins : (start : A) (unread old : Option (List ℕ)) → IsUnderway start start unread unread old old
  begins start None old = tt
  begins start (Some text) old = ([], text, [], refl, (refl, refl, refl), Appends-nil old)

  -- a line that was read is answered as it is to be
  line_answered : (read : LaneLine) (before : A) (text held : List ℕ) (after : A) (reply : List ℕ) → IsFirstLine line_limit (Some read) text held → AnswersHeld answers before read held after reply → (0 < length text) × AnswersLine answers before (first_line text) after reply
  line_answered Whole before text held after reply is answered =
      let (some, same, few) = is in
      let fits : nat_le (length (first_line text)) line_limit ≡ true = let long : length held ≡ length (first_line text) = ap length same in grind (arith, nat_tests) in
      (some, subst (λ (b : Bool). MatchBool b (answers before (first_line text) after reply) ((after ≡ before) × (reply ≡ too_long_reply))) (sym fits) (subst (λ (l : List ℕ). answers before l after reply) same answered))
  line_answered Cut before text held after reply is answered =
      let long : nat_le (length (first_line text)) line_limit ≡ false = grind (arith, nat_tests) in
      (take_through_nonempty 10 text (omega arith), subst (λ (b : Bool). MatchBool b (answers before (first_line text) after reply) ((after ≡ before) × (reply ≡ too_long_reply))) (sym long) answered)

  -- the same of the text that is left
  at_left : (rest rest' : Option (List ℕ)) (left held : List ℕ) (read : Option LaneLine) → rest ≡ Some left → ReadsLine line_limit read rest rest' held → IsFirstLine line_limit read left held × (rest' ≡ Some (drop_through 10 left))
  at_left rest rest' left held read is reads = subst (λ (r : Option (List ℕ)). ReadsLine line_limit read r rest' held) is reads

  -- a line is read and answered
  pub answered : (start now next : A) (unread rest rest' old : Option (List ℕ)) (mid : Option (List ℕ)) (read : LaneLine) (held reply : List ℕ) → IsUnderway start now unread rest old mid → ReadsLine line_limit (Some read) rest rest' held → AnswersHeld answers now read held next reply → (new : Option (List ℕ)) → Appends mid new reply → IsUnderway start next unread rest' old new
  answered start now next None rest rest' old mid read held reply so_far reads step new wrote = tt
  answered start now next (Some text) rest rest' old mid read held reply so_far reads step new wrote =
      let (lines, left, out, is, done, written) = so_far in
      let (first, after) = at_left rest rest' left held (Some read) is reads in
      let (some, line) = line_answered read now left held next reply first step in
      (lines ++ first_line left ∷ [], drop_through 10 left, out ++ reply, after, one_more start text lines now left out next reply done some line, Appends-trans old mid new out reply written wrote)

  -- nothing is left to read
  pub ended : (start now : A) (unread rest rest' old new : Option (List ℕ)) (held : List ℕ) → IsUnderway start now unread rest old new → ReadsLine line_limit None rest rest' held → IfSome unread (λ text. Talked answers start text now old new)
  ended start now None rest rest' old new held so_far reads = tt
  ended start now (Some text) rest rest' old new held so_far reads =
      let (lines, left, out, is, done, written) = so_far in
      let (none, after) = at_left rest rest' left held None is reads in
      (lines, out, subst (λ (l : List ℕ). AnswersLines answers start text lines now l out) none done, written)

  by_end : (why : LaneEnd) (old new : Option (List ℕ)) (out : List ℕ) → Appends old new out → WroteUnless why old new out
  by_end WriteFailed old new out wrote = tt
  by_end ReadFailed old new out wrote = wrote
  by_end OutOfMemory old new out wrote = wrote

  -- the lane ends before
  pub broke_off : (why : LaneEnd) (start now : A) (unread rest old new : Option (List ℕ)) → IsUnderway start now unread rest old new → IfSome unread (λ text. BreaksOff answers why start text now old new)
  broke_off why start now None rest old new so_far = tt
  broke_off why start now (Some text) rest old new so_far =
      let (lines, left, out, is, done, written) = so_far in
      (lines, left, out, done, by_end why old new out written)

  -- a reply could not be written: its line was answered
  pub broke_off_at_write : (start now next : A) (unread rest rest' old mid new : Option (List ℕ)) (read : LaneLine) (held reply : List ℕ) → IsUnderway start now unread rest old mid → ReadsLine line_limit (Some read) rest rest' held → AnswersHeld answers now read held next reply → IfSome unread (λ text. BreaksOff answers WriteFailed start text next old new)
  broke_off_at_write start now next None rest rest' old mid new read held reply so_far reads step = tt
  broke_off_at_write start now next (Some text) rest rest' old mid new read held reply so_far reads step =
      let (lines, left, out, is, done, written) = so_far in
      let (first, after) = at_left rest rest' left held (Some read) is reads in
      let (some, line) = line_answered read now left held next reply first step in
      (lines ++ first_line left ∷ [], drop_through 10 left, out ++ reply, one_more start text lines now left out next reply done some line, tt)
