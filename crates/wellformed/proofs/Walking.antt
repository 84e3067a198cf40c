-- What a walk finds and where it stops, from what it found of the parts and where it stopped in them.
use Rattle.std.proofs.Common.{◌≡◌, ℕ, zero, suc, ◌+◌, ◌-◌, ◌*◌, ◌/◌, ◌%◌, ◌<◌, ◌≤◌, List, [], ◌∷◌, ◌++◌, length, take, drop, Option, Some, None, Result, Ok, Err, IfOk, IfErr, refl, sym, ap, ap₂, subst, ◌∙◌, append_assoc, arith, inl, inr}
use Rattle.std.specs.Option.{option_or}
use Rattle.std.proofs.lemmas.Bool.{cases_lt}
use Rattle.std.proofs.lemmas.List.{length-append, length-take, take-append-drop}
use Rattle.model.specs.Cbor.{Unsigned, Negative, Bytes, Array, Map, Null, NoItems, NextItem, NoPairs, NextPair, items_count, pairs_count, head, text_of, items_text, pairs_text}
use Rattle.wellformed.specs.declared.stop.Stop.{Stop}
use Rattle.wellformed.specs.declared.walk.Walk.{Walk}
use Rattle.wellformed.specs.Misfits.{later, unless_after, late_key, items_late_key, pairs_late_key}
use Rattle.wellformed.specs.Stops.{Stops}
use Rattle.wellformed.specs.Parts.{low_bits, FindsTail, MayBegin, HasBytes, IsItemText, AreMembers, IsEntryText, AreEntries}
use Rattle.wellformed.specs.Walks.{left_from, FindsItem, FindsBytes, FindsMembers, entry_late_key, FindsEntry, FindsEntries}
use Rattle.wellformed.proofs.Heads.{head_parts, direct}
use Rattle.cbor.proofs.ForCallers.{IsBytes, AllByRecursion-bytes}
use Rattle.wellformed.proofs.Zeros.{IsBytes-take}
use Rattle.wellformed.proofs.Firsts.{may_nest}
use Rattle.wellformed.proofs.Stopping.{stops_in, stops_behind}
use Rattle.wellformed.proofs.Contents.{bytes_stand, members_stand, entries_stand, first_member, other_members, key_stands, value_stands, first_entry, other_entries}
use Rattle.wellformed.proofs.Keys.{or_assoc, or_nothing}

-- ---- how many bytes are left

-- from a place behind a front on as many are left as from the place on without the front
pub left_later : (front bytes all : List ℕ) (place : Option ℕ) → all ≡ front ++ bytes → left_from all (later (length front) place) ≡ left_from bytes place
left_later front bytes all None e = refl
left_later front bytes all (Some p) e =
    let len : length all ≡ length front + length bytes = ap length e ∙ length-append front bytes in
    let same : length all - (length front + p) ≡ length bytes - p = omega (arith, len) in
    ap (λ (n : ℕ). Some n) same

pub left_or : (bytes : List ℕ) (a b : Option ℕ) → left_from bytes (option_or a b) ≡ option_or (left_from bytes a) (left_from bytes b)
left_or bytes None b = refl
left_or bytes (Some p) b = refl

-- a place in the first of two texts, or in the second one
either_left : (front bytes all : List ℕ) (a b l m : Option ℕ) → all ≡ front ++ bytes → l ≡ left_from all a → m ≡ left_from bytes b → option_or l m ≡ left_from all (option_or a (later (length front) b))
either_left front bytes all a b l m e p q =
    ap₂ (λ (s t : Option ℕ). option_or s t) p (q ∙ sym (left_later front bytes all b e)) ∙ sym (left_or all a (later (length front) b))

-- ---- items

-- a first byte and a tail are a head
pub head_stands : (first n : ℕ) (after contents : List ℕ) (m : ℕ) → FindsTail (first % 32) n after contents → first / 32 ≡ m → first ∷ after ≡ head m n ++ contents
head_stands first n after contents m t e =
    let byte : first ≡ 32 * m + low_bits n = omega (arith, t.low_is, e) in
    ap₂ (λ (b : ℕ) (s : List ℕ). b ∷ s) byte t.parts ∙ ap (λ (h : List ℕ). h ++ contents) (sym (head_parts m n))

-- a number or null
pub plain_found : (depth first n : ℕ) (after contents : List ℕ) → 0 < depth → MayBegin depth first → FindsTail (first % 32) n after contents → (first / 32 ≡ 2 → ⊥) → (first / 32 ≡ 4 → ⊥) → (first / 32 ≡ 5 → ⊥) → FindsItem depth (first ∷ after) contents None
plain_found depth first n after contents deep may t not_2 not_4 not_5 =
    elim may [
      | inl plain ↦ elim (cases_lt (first / 32) 1) [
        | inl none ↦ record { item = Unsigned n; formed = record { in_range = t.fits; nests = omega (arith, deep) }; parts = head_stands first n after contents 0 t (omega (arith, none)); late_is = refl }
        | inr some ↦ elim (cases_lt (first / 32) 2) [
          | inl one ↦ record { item = Negative n; formed = record { in_range = t.fits; nests = omega (arith, deep) }; parts = head_stands first n after contents 1 t (omega (arith, one, some)); late_is = refl }
          | inr two ↦ absurd (not_2 (omega (arith, plain.0, two)))
        ]
      ]
      | inr others ↦ elim others [
        | inl nest ↦ elim (cases_lt (first / 32) 5) [
          | inl four ↦ absurd (not_4 (omega (arith, nest.0, four)))
          | inr five ↦ absurd (not_5 (omega (arith, nest.1, five)))
        ]
        | inr null ↦
            let n-is : n ≡ 22 = direct n 22 (t.low_is ∙ null.1) (omega arith) in
            record { item = Null; formed = record { in_range = tt; nests = omega (arith, deep) }; parts = head_stands first n after contents 7 t null.0 ∙ ap (λ (k : ℕ). head 7 k ++ contents) n-is; late_is = refl }
      ]
    ]

-- a byte string
pub string_found : (depth first n : ℕ) (after contents rest : List ℕ) (late : Option ℕ) → 0 < depth → FindsTail (first % 32) n after contents → first / 32 ≡ 2 → FindsBytes n contents rest late → FindsItem depth (first ∷ after) rest late
string_found depth first n after contents rest late deep t e f =
    let h = f.has in
    record {
      item = Bytes f.text;
      formed = record { in_range = (omega (arith, h.counted, t.fits), h.are_bytes); nests = omega (arith, deep) };
      parts = head_stands first n after contents 2 t e ∙ ap₂ (λ (k : ℕ) (s : List ℕ). head 2 k ++ s) (sym h.counted) f.parts ∙ sym (append_assoc (head 2 (length f.text)) f.text rest);
      late_is = f.late_is;
    }

-- an array
pub array_found : (depth first n : ℕ) (after contents rest : List ℕ) (late : Option ℕ) → FindsTail (first % 32) n after contents → first / 32 ≡ 4 → FindsMembers depth n contents rest late → FindsItem (suc depth) (first ∷ after) rest late
array_found depth first n after contents rest late t e f =
    let p = f.formed in
    let h = head 4 (items_count f.members) in
    let start : first ∷ after ≡ h ++ contents = head_stands first n after contents 4 t e ∙ ap (λ (k : ℕ). head 4 k ++ contents) (sym f.counted) in
    record {
      item = Array f.members;
      formed = record { in_range = (omega (arith, f.counted, t.fits), p.in_range); nests = omega (arith, p.nest) };
      parts = start ∙ ap (λ (s : List ℕ). h ++ s) f.parts ∙ sym (append_assoc h (items_text f.members) rest);
      late_is = f.late_is ∙ sym (left_later h contents (first ∷ after) (items_late_key f.members) start);
    }

-- a map
pub map_found : (depth first n : ℕ) (after contents rest : List ℕ) (late : Option ℕ) → FindsTail (first % 32) n after contents → first / 32 ≡ 5 → FindsEntries depth [] n contents rest late → FindsItem (suc depth) (first ∷ after) rest late
map_found depth first n after contents rest late t e f =
    let p = f.formed in
    let h = head 5 (pairs_count f.entries) in
    let start : first ∷ after ≡ h ++ contents = head_stands first n after contents 5 t e ∙ ap (λ (k : ℕ). head 5 k ++ contents) (sym f.counted) in
    record {
      item = Map f.entries;
      formed = record { in_range = (omega (arith, f.counted, t.fits), p.in_range); nests = omega (arith, p.nest) };
      parts = start ∙ ap (λ (s : List ℕ). h ++ s) f.parts ∙ sym (append_assoc h (pairs_text f.entries) rest);
      late_is = f.late_is ∙ sym (left_later h contents (first ∷ after) (pairs_late_key [] f.entries) start);
    }

-- ---- the same, as the code has them

-- where nothing may nest nothing is announced
pub may_hold : (depth first n : ℕ) (after contents : List ℕ) → 0 < depth → MayBegin depth first → 4 ≤ first / 32 → first / 32 < 6 → FindsTail (first % 32) n after contents → 0 < n → 0 < depth - 1
may_hold zero first n after contents deep may ge lt t some = absurd (omega arith)
may_hold (suc depth) first n after contents deep may ge lt t some =
    elim may [
      | inl plain ↦ absurd (omega (arith, plain.0, ge))
      | inr others ↦ elim others [
        | inl nest ↦ omega (arith, may_nest depth first n nest t.low_is some)
        | inr null ↦ absurd (omega (arith, null.0, lt))
      ]
    ]

deeper : (depth : ℕ) → 0 < depth → suc (depth - 1) ≡ depth
deeper depth deep = omega arith

finds_array : (depth first n : ℕ) (bytes after contents rest : List ℕ) (late : Option ℕ) → 0 < depth → bytes ≡ first ∷ after → FindsTail (first % 32) n after contents → first / 32 ≡ 4 → FindsMembers (depth - 1) n contents rest late → FindsItem depth bytes rest late
finds_array depth first n bytes after contents rest late deep e t is f =
    subst (λ (b : List ℕ). FindsItem depth b rest late) (sym e)
    (subst (λ (d : ℕ). FindsItem d (first ∷ after) rest late) (deeper depth deep) (array_found (depth - 1) first n after contents rest late t is f))

finds_map : (depth first n : ℕ) (bytes after contents rest : List ℕ) (late : Option ℕ) → 0 < depth → bytes ≡ first ∷ after → FindsTail (first % 32) n after contents → first / 32 ≡ 5 → FindsEntries (depth - 1) [] n contents rest late → FindsItem depth bytes rest late
finds_map depth first n bytes after contents rest late deep e t is f =
    subst (λ (b : List ℕ). FindsItem depth b rest late) (sym e)
    (subst (λ (d : ℕ). FindsItem d (first ∷ after) rest late) (deeper depth deep) (map_found (depth - 1) first n after contents rest late t is f))

finds_string : (depth first n : ℕ) (bytes after contents rest : List ℕ) (late : Option ℕ) → 0 < depth → bytes ≡ first ∷ after → FindsTail (first % 32) n after contents → first / 32 ≡ 2 → FindsBytes n contents rest late → FindsItem depth bytes rest late
finds_string depth first n bytes after contents rest late deep e t is f =
    subst (λ (b : List ℕ). FindsItem depth b rest late) (sym e) (string_found depth first n after contents rest late deep t is f)

array_stop : (depth first n : ℕ) (bytes after contents : List ℕ) (stop : Stop) → 0 < depth → bytes ≡ first ∷ after → FindsTail (first % 32) n after contents → first / 32 ≡ 4 → Stops (AreMembers (depth - 1) n) contents stop → Stops (IsItemText depth) bytes stop
array_stop depth first n bytes after contents stop deep e t is s =
    subst (λ (d : ℕ). Stops (IsItemText d) bytes stop) (deeper depth deep)
    (stops_behind (IsItemText (suc (depth - 1))) (AreMembers (depth - 1) n) (head 4 n) contents bytes (members_stand (depth - 1) n t.fits) (e ∙ head_stands first n after contents 4 t is) stop s)

map_stop : (depth first n : ℕ) (bytes after contents : List ℕ) (stop : Stop) → 0 < depth → bytes ≡ first ∷ after → FindsTail (first % 32) n after contents → first / 32 ≡ 5 → Stops (AreEntries (depth - 1) n) contents stop → Stops (IsItemText depth) bytes stop
map_stop depth first n bytes after contents stop deep e t is s =
    subst (λ (d : ℕ). Stops (IsItemText d) bytes stop) (deeper depth deep)
    (stops_behind (IsItemText (suc (depth - 1))) (AreEntries (depth - 1) n) (head 5 n) contents bytes (entries_stand (depth - 1) n t.fits) (e ∙ head_stands first n after contents 5 t is) stop s)

string_stop : (depth first n : ℕ) (bytes after contents : List ℕ) (stop : Stop) → 0 < depth → bytes ≡ first ∷ after → FindsTail (first % 32) n after contents → first / 32 ≡ 2 → Stops (HasBytes n) contents stop → Stops (IsItemText depth) bytes stop
string_stop depth first n bytes after contents stop deep e t is s =
    stops_behind (IsItemText depth) (HasBytes n) (head 2 n) contents bytes (bytes_stand depth n deep t.fits) (e ∙ head_stands first n after contents 2 t is) stop s

-- what a walk found, or where it stopped
abbrev pub OkWalk : Result Walk Stop → (List ℕ → Option ℕ → Type 0) → Type 0
OkWalk r P = IfOk r (λ walk. P walk.rest.now walk.late)

pub array_walked : (depth first n : ℕ) (bytes after contents : List ℕ) (r : Result Walk Stop) → 0 < depth → bytes ≡ first ∷ after → FindsTail (first % 32) n after contents → first / 32 ≡ 4 → OkWalk r (FindsMembers (depth - 1) n contents) → OkWalk r (FindsItem depth bytes)
array_walked depth first n bytes after contents (Ok walk) deep e t is f = finds_array depth first n bytes after contents walk.rest.now walk.late deep e t is f
array_walked depth first n bytes after contents (Err stop) deep e t is f = tt

pub map_walked : (depth first n : ℕ) (bytes after contents : List ℕ) (r : Result Walk Stop) → 0 < depth → bytes ≡ first ∷ after → FindsTail (first % 32) n after contents → first / 32 ≡ 5 → OkWalk r (FindsEntries (depth - 1) [] n contents) → OkWalk r (FindsItem depth bytes)
map_walked depth first n bytes after contents (Ok walk) deep e t is f = finds_map depth first n bytes after contents walk.rest.now walk.late deep e t is f
map_walked depth first n bytes after contents (Err stop) deep e t is f = tt

pub string_walked : (depth first n : ℕ) (bytes after contents : List ℕ) (r : Result Walk Stop) → 0 < depth → bytes ≡ first ∷ after → FindsTail (first % 32) n after contents → first / 32 ≡ 2 → OkWalk r (FindsBytes n contents) → OkWalk r (FindsItem depth bytes)
string_walked depth first n bytes after contents (Ok walk) deep e t is f = finds_string depth first n bytes after contents walk.rest.now walk.late deep e t is f
string_walked depth first n bytes after contents (Err stop) deep e t is f = tt

pub array_stopped : (depth first n : ℕ) (bytes after contents : List ℕ) (r : Result Walk Stop) → 0 < depth → bytes ≡ first ∷ after → FindsTail (first % 32) n after contents → first / 32 ≡ 4 → IfErr r (λ stop. Stops (AreMembers (depth - 1) n) contents stop) → IfErr r (λ stop. Stops (IsItemText depth) bytes stop)
array_stopped depth first n bytes after contents (Ok walk) deep e t is f = tt
array_stopped depth first n bytes after contents (Err stop) deep e t is f = array_stop depth first n bytes after contents stop deep e t is f

pub map_stopped : (depth first n : ℕ) (bytes after contents : List ℕ) (r : Result Walk Stop) → 0 < depth → bytes ≡ first ∷ after → FindsTail (first % 32) n after contents → first / 32 ≡ 5 → IfErr r (λ stop. Stops (AreEntries (depth - 1) n) contents stop) → IfErr r (λ stop. Stops (IsItemText depth) bytes stop)
map_stopped depth first n bytes after contents (Ok walk) deep e t is f = tt
map_stopped depth first n bytes after contents (Err stop) deep e t is f = map_stop depth first n bytes after contents stop deep e t is f

pub string_stopped : (depth first n : ℕ) (bytes after contents : List ℕ) (r : Result Walk Stop) → 0 < depth → bytes ≡ first ∷ after → FindsTail (first % 32) n after contents → first / 32 ≡ 2 → IfErr r (λ stop. Stops (HasBytes n) contents stop) → IfErr r (λ stop. Stops (IsItemText depth) bytes stop)
string_stopped depth first n bytes after contents (Ok walk) deep e t is f = tt
string_stopped depth first n bytes after contents (Err stop) deep e t is f = string_stop depth first n bytes after contents stop deep e t is f

-- as many bytes as were announced
pub bytes_taken : (n : ℕ) (bytes rest : List ℕ) → IsBytes bytes → n ≤ length bytes → rest ≡ drop n bytes → FindsBytes n bytes rest None
bytes_taken n bytes rest fits le rest_is = record {
  text = take n bytes;
  has = record { counted = omega (arith, length-take n bytes); are_bytes = AllByRecursion-bytes (take n bytes) (IsBytes-take n bytes fits) };
  parts = sym (take-append-drop n bytes) ∙ ap (λ (t : List ℕ). take n bytes ++ t) (sym rest_is);
  late_is = refl;
}

-- ---- members

-- What a loop over members keeps: from what is left on `left` of them are to come, and what holds of those there holds of
-- all of them from the beginning on.
pub record LeadsToMembers (depth count : ℕ) (bytes : List ℕ) (left : ℕ) (rest : List ℕ) (late : Option ℕ) : Type 0 where
  pub stops : (stop : Stop) → Stops (AreMembers depth left) rest stop → Stops (AreMembers depth count) bytes stop
  pub found : (after : List ℕ) (more : Option ℕ) → FindsMembers depth left rest after more → FindsMembers depth count bytes after (option_or late more)

pub members_start : (depth count : ℕ) (bytes : List ℕ) → LeadsToMembers depth count bytes count bytes None
members_start depth count bytes = record { stops = λ stop s. s; found = λ after more f. f }

next_member : (depth k : ℕ) (rest after end : List ℕ) (l more : Option ℕ) → FindsItem depth rest after l → FindsMembers depth k after end more → FindsMembers depth (suc k) rest end (option_or l more)
next_member depth k rest after end l more i f =
    let p = i.formed in
    let q = f.formed in
    record {
      members = NextItem i.item f.members;
      formed = record { in_range = (p.in_range, q.in_range); nest = omega (arith, p.nests, q.nest) };
      counted = ap suc f.counted;
      parts = i.parts ∙ ap (λ (t : List ℕ). text_of i.item ++ t) f.parts ∙ sym (append_assoc (text_of i.item) (items_text f.members) end);
      late_is = either_left (text_of i.item) after rest (late_key i.item) (items_late_key f.members) l more i.parts i.late_is f.late_is;
    }

one_member_on : (depth count : ℕ) (bytes : List ℕ) (left : ℕ) (rest after : List ℕ) (late l : Option ℕ) → LeadsToMembers depth count bytes (suc left) rest late → FindsItem depth rest after l → LeadsToMembers depth count bytes left after (option_or late l)
one_member_on depth count bytes left rest after late l leads i = record {
  stops = λ stop s. leads.stops stop (stops_behind (AreMembers depth (suc left)) (AreMembers depth left) (text_of i.item) after rest (other_members depth left i.item i.formed) i.parts stop s);
  found = λ end more f. subst (FindsMembers depth count bytes end) (sym (or_assoc late l more)) (leads.found end (option_or l more) (next_member depth left rest after end l more i f));
}

one_left : (count i : ℕ) → i < count → count - i ≡ suc (count - (i + 1))
one_left count i lt = omega arith

pub members_go_on : (depth count i : ℕ) (bytes rest after : List ℕ) (late l : Option ℕ) → i < count → LeadsToMembers depth count bytes (count - i) rest late → FindsItem depth rest after l → LeadsToMembers depth count bytes (count - (i + 1)) after (option_or late l)
members_go_on depth count i bytes rest after late l lt leads found =
    one_member_on depth count bytes (count - (i + 1)) rest after late l (subst (λ (k : ℕ). LeadsToMembers depth count bytes k rest late) (one_left count i lt) leads) found

pub members_stop : (depth count i : ℕ) (bytes rest : List ℕ) (late : Option ℕ) (stop : Stop) → 0 < depth → i < count → LeadsToMembers depth count bytes (count - i) rest late → Stops (IsItemText depth) rest stop → Stops (AreMembers depth count) bytes stop
members_stop depth count i bytes rest late stop deep lt leads s =
    let left = count - (i + 1) in
    leads.stops stop (subst (λ (k : ℕ). Stops (AreMembers depth k) rest stop) (sym (one_left count i lt)) (stops_in (AreMembers depth (suc left)) (IsItemText depth) [] (first_member depth left deep) rest stop s))

pub members_done : (depth count i : ℕ) (bytes rest : List ℕ) (late : Option ℕ) → count ≤ i → LeadsToMembers depth count bytes (count - i) rest late → FindsMembers depth count bytes rest late
members_done depth count i bytes rest late le leads =
    let none_left : 0 ≡ count - i = omega (arith, le) in
    subst (FindsMembers depth count bytes rest) (or_nothing late)
    (leads.found rest None (subst (λ (k : ℕ). FindsMembers depth k rest rest None) none_left (no_member rest)))
  where
    no_member : (rest : List ℕ) → FindsMembers depth 0 rest rest None
    no_member rest = record { members = NoItems; formed = record { in_range = tt; nest = omega arith }; counted = refl; parts = refl; late_is = refl }

-- ---- entries

pub record LeadsToEntries (depth count : ℕ) (bytes before : List ℕ) (left : ℕ) (rest : List ℕ) (late : Option ℕ) : Type 0 where
  pub stops : (stop : Stop) → Stops (AreEntries depth left) rest stop → Stops (AreEntries depth count) bytes stop
  pub found : (after : List ℕ) (more : Option ℕ) → FindsEntries depth before left rest after more → FindsEntries depth [] count bytes after (option_or late more)

pub entries_start : (depth count : ℕ) (bytes : List ℕ) → LeadsToEntries depth count bytes [] count bytes None
entries_start depth count bytes = record { stops = λ stop s. s; found = λ after more f. f }

next_entry : (depth k : ℕ) (before rest text after end : List ℕ) (l more : Option ℕ) → FindsEntry depth before rest text after l → FindsEntries depth text k after end more → FindsEntries depth before (suc k) rest end (option_or l more)
next_entry depth k before rest text after end l more e f =
    let p = e.key_formed in
    let q = e.value_formed in
    let r = f.formed in
    let front = text_of e.key ++ text_of e.value in
    let more_is : more ≡ left_from after (pairs_late_key (text_of e.key) f.entries) = f.late_is ∙ ap (λ (t : List ℕ). left_from after (pairs_late_key t f.entries)) e.text_is in
    record {
      entries = NextPair e.key e.value f.entries;
      formed = record { in_range = (p.in_range, q.in_range, r.in_range); nest = omega (arith, p.nests, q.nests, r.nest) };
      counted = ap suc f.counted;
      parts = e.parts ∙ ap (λ (t : List ℕ). front ++ t) f.parts ∙ sym (append_assoc front (pairs_text f.entries) end) ∙ ap (λ (t : List ℕ). t ++ end) (append_assoc (text_of e.key) (text_of e.value) (pairs_text f.entries));
      late_is = either_left front after rest (entry_late_key before e.key e.value) (pairs_late_key (text_of e.key) f.entries) l more e.parts e.late_is more_is;
    }

one_entry_on : (depth count : ℕ) (bytes before : List ℕ) (left : ℕ) (rest text after : List ℕ) (late l : Option ℕ) → LeadsToEntries depth count bytes before (suc left) rest late → FindsEntry depth before rest text after l → LeadsToEntries depth count bytes text left after (option_or late l)
one_entry_on depth count bytes before left rest text after late l leads e = record {
  stops = λ stop s. leads.stops stop (stops_behind (AreEntries depth (suc left)) (AreEntries depth left) (text_of e.key ++ text_of e.value) after rest (other_entries depth left e.key e.value e.key_formed e.value_formed) e.parts stop s);
  found = λ end more f. subst (FindsEntries depth [] count bytes end) (sym (or_assoc late l more)) (leads.found end (option_or l more) (next_entry depth left before rest text after end l more e f));
}

pub entries_go_on : (depth count i : ℕ) (bytes before rest text after : List ℕ) (late l : Option ℕ) → i < count → LeadsToEntries depth count bytes before (count - i) rest late → FindsEntry depth before rest text after l → LeadsToEntries depth count bytes text (count - (i + 1)) after (option_or late l)
entries_go_on depth count i bytes before rest text after late l lt leads found =
    one_entry_on depth count bytes before (count - (i + 1)) rest text after late l (subst (λ (k : ℕ). LeadsToEntries depth count bytes before k rest late) (one_left count i lt) leads) found

pub entries_stop : (depth count i : ℕ) (bytes before rest : List ℕ) (late : Option ℕ) (stop : Stop) → 0 < depth → i < count → LeadsToEntries depth count bytes before (count - i) rest late → Stops (IsEntryText depth) rest stop → Stops (AreEntries depth count) bytes stop
entries_stop depth count i bytes before rest late stop deep lt leads s =
    let left = count - (i + 1) in
    leads.stops stop (subst (λ (k : ℕ). Stops (AreEntries depth k) rest stop) (sym (one_left count i lt)) (stops_in (AreEntries depth (suc left)) (IsEntryText depth) [] (first_entry depth left deep) rest stop s))

pub entries_done : (depth count i : ℕ) (bytes before rest : List ℕ) (late : Option ℕ) → count ≤ i → LeadsToEntries depth count bytes before (count - i) rest late → FindsEntries depth [] count bytes rest late
entries_done depth count i bytes before rest late le leads =
    let none_left : 0 ≡ count - i = omega (arith, le) in
    subst (FindsEntries depth [] count bytes rest) (or_nothing late)
    (leads.found rest None (subst (λ (k : ℕ). FindsEntries depth before k rest rest None) none_left (no_entry rest)))
  where
    no_entry : (rest : List ℕ) → FindsEntries depth before 0 rest rest None
    no_entry rest = record { entries = NoPairs; formed = record { in_range = tt; nest = omega arith }; counted = refl; parts = refl; late_is = refl }

-- ---- one entry

-- an entry from its key and its value; `start` is where its key begins if that is late
pub entry_found : (depth : ℕ) (before bytes text after rest : List ℕ) (l m : Option ℕ) (key : FindsItem depth bytes after l) → FindsItem depth after rest m → text ≡ text_of key.item → FindsEntry depth before bytes text rest (option_or (option_or (left_from bytes (unless_after before text)) l) m)
entry_found depth before bytes text after rest l m key value text_is =
    let k = text_of key.item in
    let v = text_of value.item in
    let first : option_or (left_from bytes (unless_after before text)) l ≡ left_from bytes (option_or (unless_after before k) (late_key key.item)) =
    ap₂ (λ (s t : Option ℕ). option_or s t) (ap (λ (t : List ℕ). left_from bytes (unless_after before t)) text_is) key.late_is ∙ sym (left_or bytes (unless_after before k) (late_key key.item)) in
    record {
      key = key.item;
      value = value.item;
      key_formed = key.formed;
      value_formed = value.formed;
      text_is = text_is;
      parts = key.parts ∙ ap (λ (t : List ℕ). k ++ t) value.parts ∙ sym (append_assoc k v rest);
      late_is = either_left k after bytes (option_or (unless_after before k) (late_key key.item)) (late_key value.item) (option_or (left_from bytes (unless_after before text)) l) m key.parts first value.late_is;
    }

pub key_stop : (depth : ℕ) (bytes : List ℕ) (stop : Stop) → 0 < depth → Stops (IsItemText depth) bytes stop → Stops (IsEntryText depth) bytes stop
key_stop depth bytes stop deep s = stops_in (IsEntryText depth) (IsItemText depth) [] (key_stands depth deep) bytes stop s

pub value_stop : (depth : ℕ) (bytes after : List ℕ) (l : Option ℕ) (stop : Stop) → FindsItem depth bytes after l → Stops (IsItemText depth) after stop → Stops (IsEntryText depth) bytes stop
value_stop depth bytes after l stop key s = stops_behind (IsEntryText depth) (IsItemText depth) (text_of key.item) after bytes (value_stands depth key.item key.formed) key.parts stop s
