-- What is wrong with bytes, from where a walk stopped or what it found; and that no other answer is right.
use Rattle.std.proofs.Common.{◌≡◌, ℕ, zero, suc, true, false, ◌==◌, ◌-◌, ◌<◌, ◌≤◌, List, [], ◌∷◌, ◌++◌, length, take, drop, Option, Some, None, refl, sym, ap, subst, ◌∙◌, append_assoc, append-nil, arith}
use Rattle.std.proofs.lemmas.Bool.{eqb-true}
use Rattle.std.proofs.lemmas.List.{length-append, take-append-drop, take_at, take_all, take-take}
use Rattle.model.specs.Cbor.{Item, text_of, IsInRange, Spells}
use Rattle.model.specs.Limits.{nesting_limit}
use Rattle.model.proofs.ItemTexts.{same_item}
use Rattle.wellformed.specs.declared.misfit.Misfit.{Misfit}
use Rattle.wellformed.specs.declared.misfit.Misfit.TheVariants.{Ends, Initial, Argument, Trailing, Order}
use Rattle.wellformed.specs.Misfits.{IsWhole, IsBeginning, IsPlace, late_key, EndsEarly, BeginsNoItem, HasShorterForm, GoesOnBehind, HasLateKey, IsMisfitOf}
use Rattle.wellformed.specs.Stops.{Begins, BeginsLonger, BeginsNone, StopsAtInitial, StopsAtArgument}
use Rattle.wellformed.specs.Parts.{IsItemText}
use Rattle.wellformed.specs.Walks.{left_from, FindsItem}
use Rattle.wellformed.proofs.Keys.{IsWithin, rising, in_order, late_within}

-- ---- beginnings

-- with something behind them the bytes are a text
beginning : (bytes : List ℕ) → Begins (IsItemText nesting_limit) bytes → IsBeginning bytes
beginning bytes b =
    let t = b.is_text in
    record { item = t.item; formed = t.formed; rest = b.rest; parts = sym t.is }

no_beginning : (bytes : List ℕ) → BeginsNone (IsItemText nesting_limit) bytes → IsBeginning bytes → ⊥
no_beginning bytes none b =
    none (text_of b.item) [] b.rest (record { item = b.item; formed = b.formed; is = refl }) (append-nil (text_of b.item) ∙ b.parts)

-- what stands in front of a beginning is one
shorter : (front more : List ℕ) → IsBeginning (front ++ more) → IsBeginning front
shorter front more b = record { item = b.item; formed = b.formed; rest = more ++ b.rest; parts = b.parts ∙ append_assoc front more b.rest }

-- so are the first bytes of one
pub first_bytes : (m n : ℕ) (bytes : List ℕ) → m ≤ n → n ≤ length bytes → IsBeginning (take n bytes) → IsBeginning (take m bytes)
first_bytes m n bytes le within b =
    let front = take n bytes in
    let same : take m front ≡ take m bytes = take-take m n bytes le in
    subst IsBeginning same (shorter (take m front) (drop m front) (subst IsBeginning (sym (take-append-drop m front)) b))

-- a whole text is one, and so are its first bytes
whole_begins : (bytes : List ℕ) → IsWhole bytes → IsBeginning bytes
whole_begins bytes w = record { item = w.item; formed = w.formed; rest = []; parts = sym w.spelled ∙ sym (append-nil bytes) }

pub part_begins : (m : ℕ) (bytes : List ℕ) → IsWhole bytes → IsBeginning (take m bytes)
part_begins m bytes w = shorter (take m bytes) (drop m bytes) (subst IsBeginning (sym (take-append-drop m bytes)) (whole_begins bytes w))

-- no text begins another one
pub whole_ends : (bytes : List ℕ) (b : ℕ) (more : List ℕ) → IsWhole bytes → IsBeginning (bytes ++ b ∷ more) → ⊥
whole_ends bytes b more w l =
    let p = w.formed in
    let q = l.formed in
    let texts : text_of w.item ++ (b ∷ (more ++ l.rest)) ≡ text_of l.item ++ [] = ap (λ (t : List ℕ). t ++ (b ∷ (more ++ l.rest))) (sym w.spelled) ∙ sym (append_assoc bytes (b ∷ more) l.rest) ∙ sym l.parts ∙ sym (append-nil (text_of l.item)) in
    let s = same_item w.item l.item (b ∷ (more ++ l.rest)) [] p.in_range q.in_range texts in
    not_empty b (more ++ l.rest) s.rest
  where
    not_empty : (b : ℕ) (more : List ℕ) → b ∷ more ≡ [] → ⊥
    not_empty b more e = cc

-- ---- places

-- the place behind a front
pub place_behind : (bytes front : List ℕ) (byte : ℕ) (after : List ℕ) → bytes ≡ front ++ byte ∷ after → (length front < length bytes) × (take (length front) bytes ≡ front) × (take (suc (length front)) bytes ≡ front ++ byte ∷ [])
place_behind bytes front byte after e =
    let longer : suc (length front) ≡ length (front ++ byte ∷ []) = sym (omega (arith, length-append front (byte ∷ []))) in (
      omega (arith, ap length e, length-append front (byte ∷ after)),
      ap (take (length front)) e ∙ take_at front (byte ∷ after) (length front) refl,
      ap (take (suc (length front))) (e ∙ sym (append_assoc front (byte ∷ []) after)) ∙ take_at (front ++ byte ∷ []) after (suc (length front)) (sym longer),
    )

is_place : (bytes front : List ℕ) (byte : ℕ) (after : List ℕ) → bytes ≡ front ++ byte ∷ after → IsBeginning front → (IsBeginning (front ++ byte ∷ []) → ⊥) → IsPlace bytes (length front)
is_place bytes front byte after e begins ends =
    let p = place_behind bytes front byte after e in
    record {
      within = omega (arith, p.0);
      begins = subst IsBeginning (sym p.1) begins;
      longest = λ lt b. ends (subst IsBeginning p.2 b);
    }

-- the front is as long as the place where as many bytes are left from it on
front_is : (bytes front : List ℕ) (byte : ℕ) (after : List ℕ) (left : ℕ) → bytes ≡ front ++ byte ∷ after → left ≡ length (byte ∷ after) → length front ≡ length bytes - left
front_is bytes front byte after left e left_is = omega (arith, ap length e, length-append front (byte ∷ after), left_is)

-- ---- answers

pub ends_early : (bytes : List ℕ) → BeginsLonger (IsItemText nesting_limit) bytes → EndsEarly bytes
ends_early bytes b =
    let t = b.is_text in
    let longer : IsBeginning (bytes ++ b.next ∷ b.rest) = beginning (bytes ++ b.next ∷ b.rest) (record { rest = []; is_text = subst (IsItemText nesting_limit) (sym (append-nil (bytes ++ b.next ∷ b.rest))) t }) in
    record {
      place = record {
        within = omega arith;
        begins = subst IsBeginning (sym (take_all (length bytes) bytes (omega arith))) (shorter bytes (b.next ∷ b.rest) longer);
        longest = λ lt more. omega (arith, lt);
      };
      not_whole = λ w. whole_ends bytes b.next b.rest w longer;
    }

pub begins_no_item : (bytes : List ℕ) (left : ℕ) → StopsAtInitial (IsItemText nesting_limit) bytes left → BeginsNoItem bytes (length bytes - left)
begins_no_item bytes left s =
    let a = s.stops in
    let front = a.front in
    let p = place_behind bytes front a.byte a.after a.parts in
    let zero = beginning (front ++ 0 ∷ []) s.zero_may in
    let answer : BeginsNoItem bytes (length front) = record {
      place_is = is_place bytes front a.byte a.after a.parts (shorter front (0 ∷ []) zero) (no_beginning (front ++ a.byte ∷ []) a.none);
      inside = p.0;
      zero_may = subst (λ (t : List ℕ). IsBeginning (t ++ 0 ∷ [])) (sym p.1) zero;
      top_may_not = λ b. no_beginning (front ++ 255 ∷ []) s.top_may_not (subst (λ (t : List ℕ). IsBeginning (t ++ 255 ∷ [])) p.1 b);
    } in
    subst (BeginsNoItem bytes) (front_is bytes front a.byte a.after left a.parts a.left_is) answer

pub has_shorter_form : (bytes : List ℕ) (left : ℕ) → StopsAtArgument (IsItemText nesting_limit) bytes left → HasShorterForm bytes (length bytes - left)
has_shorter_form bytes left s =
    let a = s.stops in
    let front = a.front in
    let p = place_behind bytes front a.byte a.after a.parts in
    let top = beginning (front ++ 255 ∷ []) s.top_may in
    let answer : HasShorterForm bytes (length front) = record {
      place_is = is_place bytes front a.byte a.after a.parts (shorter front (255 ∷ []) top) (no_beginning (front ++ a.byte ∷ []) a.none);
      inside = p.0;
      top_may = subst (λ (t : List ℕ). IsBeginning (t ++ 255 ∷ [])) (sym p.1) top;
    } in
    subst (HasShorterForm bytes) (front_is bytes front a.byte a.after left a.parts a.left_is) answer

-- the text that was found
found_whole : (text bytes rest : List ℕ) (late : Option ℕ) (f : FindsItem nesting_limit bytes rest late) → text ≡ text_of f.item → IsWhole text
found_whole text bytes rest late f e = record { item = f.item; formed = f.formed; spelled = e }

pub goes_on_behind : (bytes rest : List ℕ) (late : Option ℕ) → 0 < length rest → FindsItem nesting_limit bytes rest late → GoesOnBehind bytes (length bytes - length rest)
goes_on_behind bytes [] late lt f = absurd (omega arith)
goes_on_behind bytes (b ∷ rest) late lt f =
    let text = text_of f.item in
    let p = place_behind bytes text b rest f.parts in
    let w : IsWhole text = found_whole text bytes (b ∷ rest) late f refl in
    let answer : GoesOnBehind bytes (length text) = record {
      place_is = is_place bytes text b rest f.parts (whole_begins text w) (whole_ends text b [] w);
      inside = p.0;
      whole = subst IsWhole (sym p.1) w;
    } in
    subst (GoesOnBehind bytes) (front_is bytes text b rest (length (b ∷ rest)) f.parts refl) answer

late_place : (bytes : List ℕ) (place : Option ℕ) (left : ℕ) → IsWithin (length bytes) place → Some left ≡ left_from bytes place → place ≡ Some (length bytes - left)
late_place bytes None left within e = absurd cc
late_place bytes (Some p) left within e =
    let is : left ≡ length bytes - p = same left (length bytes - p) e in
    ap (λ (n : ℕ). Some n) (omega (arith, is, within))
  where
    same : (a b : ℕ) → Some a ≡ Some b → a ≡ b
    same a b e = cc

pub has_late_key : (bytes rest : List ℕ) (left : ℕ) → length rest ≡ 0 → FindsItem nesting_limit bytes rest (Some left) → HasLateKey bytes (length bytes - left)
has_late_key bytes [] left none f =
    let text_is : bytes ≡ text_of f.item = f.parts ∙ append-nil (text_of f.item) in
    record {
      item = f.item;
      formed = f.formed;
      spelled = text_is;
      late = late_place bytes (late_key f.item) left (subst (λ (t : List ℕ). IsWithin (length t) (late_key f.item)) (sym text_is) (late_within f.item)) f.late_is;
    }
has_late_key bytes (b ∷ rest) left none f = absurd (omega arith)

pub spells : (bytes rest : List ℕ) → length rest ≡ 0 → FindsItem nesting_limit bytes rest None → (item : Item) × Spells item bytes
spells bytes [] none f =
    let p = f.formed in (
      f.item,
      record {
        has_text = record { in_range = p.in_range; rising = rising f.item (no_place (late_key f.item) f.late_is); nests = p.nests };
        spelled = f.parts ∙ append-nil (text_of f.item);
      },
    )
  where
    no_place : (place : Option ℕ) → None ≡ left_from bytes place → place ≡ None
    no_place None e = refl
    no_place (Some p) e = absurd cc
spells bytes (b ∷ rest) none f = absurd (omega arith)

-- ---- one answer

pub spelled_whole : (bytes : List ℕ) (item : Item) → Spells item bytes → IsWhole bytes
spelled_whole bytes item s =
    let h = s.has_text in
    record { item = item; formed = record { in_range = h.in_range; nests = h.nests }; spelled = s.spelled }

-- whole bytes stop nowhere
pub not_inside : (bytes : List ℕ) (place : ℕ) → IsPlace bytes place → place < length bytes → IsWhole bytes → ⊥
not_inside bytes place p lt w = p.longest lt (part_begins (suc place) bytes w)

-- two items with this text are one
pub same_whole : (bytes : List ℕ) (a b : Item) → IsInRange a → IsInRange b → bytes ≡ text_of a → bytes ≡ text_of b → a ≡ b
same_whole bytes a b p q e f = (same_item a b [] [] p q (ap (λ (t : List ℕ). t ++ []) (sym e ∙ f))).value

-- where something is wrong no item has the text
pub no_text : (bytes : List ℕ) (misfit : Misfit) → IsMisfitOf bytes misfit → (item : Item) → Spells item bytes → ⊥
no_text bytes Ends m item s = m.not_whole (spelled_whole bytes item s)
no_text bytes (Initial place) m item s = not_inside bytes place m.place_is m.inside (spelled_whole bytes item s)
no_text bytes (Argument place) m item s = not_inside bytes place m.place_is m.inside (spelled_whole bytes item s)
no_text bytes (Trailing place) m item s = not_inside bytes place m.place_is m.inside (spelled_whole bytes item s)
no_text bytes (Order place) m item s =
    let h = s.has_text in
    let f = m.formed in
    let same = same_whole bytes item m.item h.in_range f.in_range s.spelled m.spelled in
    let none : late_key m.item ≡ None = ap late_key (sym same) ∙ in_order item h.in_range h.rising in
    let late = m.late in
    absurd cc

-- ---- whether something stands behind an item

pub something : (n : ℕ) → false ≡ (n == 0) → 0 < n
something zero e = absurd cc
something (suc n) e = omega arith

pub nothing : (n : ℕ) → true ≡ (n == 0) → n ≡ 0
nothing n e = eqb-true n 0 (sym e)
