-- How a text of one kind stands in texts of another kind, and that bytes stop in those where they stop in it.
use Rattle.std.proofs.Common.{◌≡◌, ℕ, List, [], ◌∷◌, ◌++◌, sym, ap, subst, ◌∙◌, append_assoc}
use Rattle.wellformed.specs.declared.stop.Stop.{Stop}
use Rattle.wellformed.specs.declared.stop.Stop.TheVariants.{Ends, Initial, Argument}
use Rattle.wellformed.specs.Stops.{Begins, BeginsLonger, BeginsNone, StopsAt, Stops}

-- a text with something behind it is a text of the other kind
pub record Completed (IsWhole : List ℕ → Type 0) (front text : List ℕ) : Type 0 where
  pub rest : List ℕ
  pub is_text : IsWhole (front ++ (text ++ rest))

-- the bytes begin with a text
pub record BeginsWith (IsPart : List ℕ → Type 0) (bytes : List ℕ) : Type 0 where
  pub text : List ℕ
  pub rest : List ℕ
  pub is_text : IsPart text
  pub parts : text ++ rest ≡ bytes

-- In texts of the one kind, those that begin like `front`, a text of the other kind stands behind it, and any such text
-- may.
pub record StandsIn (IsWhole IsPart : List ℕ → Type 0) (front : List ℕ) : Type 0 where
  pub completed : (text : List ℕ) → IsPart text → Completed IsWhole front text
  pub opened : (text x y : List ℕ) → IsWhole text → text ++ x ≡ front ++ y → BeginsWith IsPart y

begins : (W P : List ℕ → Type 0) (front : List ℕ) → StandsIn W P front → (bytes : List ℕ) → Begins P bytes → Begins W (front ++ bytes)
begins W P front stands bytes b =
    let c = stands.completed (bytes ++ b.rest) b.is_text in
    let e : front ++ ((bytes ++ b.rest) ++ c.rest) ≡ (front ++ bytes) ++ (b.rest ++ c.rest) = ap (λ (t : List ℕ). front ++ t) (append_assoc bytes b.rest c.rest) ∙ sym (append_assoc front bytes (b.rest ++ c.rest)) in
    record { rest = b.rest ++ c.rest; is_text = subst W e c.is_text }

begins_longer : (W P : List ℕ → Type 0) (front : List ℕ) → StandsIn W P front → (bytes : List ℕ) → BeginsLonger P bytes → BeginsLonger W (front ++ bytes)
begins_longer W P front stands bytes b =
    let c = stands.completed (bytes ++ b.next ∷ b.rest) b.is_text in
    let e : front ++ ((bytes ++ b.next ∷ b.rest) ++ c.rest) ≡ (front ++ bytes) ++ b.next ∷ (b.rest ++ c.rest) = ap (λ (t : List ℕ). front ++ t) (append_assoc bytes (b.next ∷ b.rest) c.rest) ∙ sym (append_assoc front bytes (b.next ∷ (b.rest ++ c.rest))) in
    record { next = b.next; rest = b.rest ++ c.rest; is_text = subst W e c.is_text }

begins_none : (W P : List ℕ → Type 0) (front : List ℕ) → StandsIn W P front → (bytes : List ℕ) → BeginsNone P bytes → BeginsNone W (front ++ bytes)
begins_none W P front stands bytes none text x y w e =
    let o = stands.opened text x (bytes ++ y) w (e ∙ append_assoc front bytes y) in
    none o.text o.rest y o.is_text o.parts

-- what is said of the front and one more byte, where more stands in front
regroup : (front more : List ℕ) (b : ℕ) → front ++ (more ++ b ∷ []) ≡ (front ++ more) ++ b ∷ []
regroup front more b = sym (append_assoc front more (b ∷ []))

stops_at : (W P : List ℕ → Type 0) (front : List ℕ) → StandsIn W P front → (bytes : List ℕ) (left : ℕ) → StopsAt P bytes left → StopsAt W (front ++ bytes) left
stops_at W P front stands bytes left s = record {
  front = front ++ s.front;
  byte = s.byte;
  after = s.after;
  parts = ap (λ (t : List ℕ). front ++ t) s.parts ∙ sym (append_assoc front s.front (s.byte ∷ s.after));
  left_is = s.left_is;
  none = subst (BeginsNone W) (regroup front s.front s.byte) (begins_none W P front stands (s.front ++ s.byte ∷ []) s.none);
}

-- bytes stop in the whole where they stop in the part
pub stops_in : (W P : List ℕ → Type 0) (front : List ℕ) → StandsIn W P front → (bytes : List ℕ) (stop : Stop) → Stops P bytes stop → Stops W (front ++ bytes) stop
unfolding stops_at
stops_in W P front stands bytes Ends s = begins_longer W P front stands bytes s
stops_in W P front stands bytes (Initial left) s = record {
  stops = stops_at W P front stands bytes left s.stops;
  zero_may = subst (Begins W) (regroup front s.stops.front 0) (begins W P front stands (s.stops.front ++ 0 ∷ []) s.zero_may);
  top_may_not = subst (BeginsNone W) (regroup front s.stops.front 255) (begins_none W P front stands (s.stops.front ++ 255 ∷ []) s.top_may_not);
}
stops_in W P front stands bytes (Argument left) s = record {
  stops = stops_at W P front stands bytes left s.stops;
  top_may = subst (Begins W) (regroup front s.stops.front 255) (begins W P front stands (s.stops.front ++ 255 ∷ []) s.top_may);
}

-- the same, of bytes that are equal to those
pub stops_behind : (W P : List ℕ → Type 0) (front bytes all : List ℕ) → StandsIn W P front → all ≡ front ++ bytes → (stop : Stop) → Stops P bytes stop → Stops W all stop
stops_behind W P front bytes all stands e stop s = subst (λ (t : List ℕ). Stops W t stop) (sym e) (stops_in W P front stands bytes stop s)
