-- Where only bytes that begin with the head of something with parts ask for memory, no text of an item without parts does.
use Rattle.std.proofs.Common.{◌≡◌, ℕ, ◌+◌, ◌*◌, ◌<◌, ◌^◌, List, [], ◌++◌, length, take, drop, get_or, Result, Ok, Err, IfErr, OnErr, refl, sym, ap, subst, ◌∙◌, append_assoc, append-nil, arith, inl, inr}
use Rattle.std.proofs.lemmas.List.{take-append-drop, take_all}
use Rattle.model.specs.Cbor.{Item, Unsigned, Negative, Bytes, Array, Map, Null, items_count, pairs_count, items_text, pairs_text, head, text_of, Spells}
use Rattle.cbor.specs.declared.fault.CborFault.{CborFault}
use Rattle.cbor.specs.Gives.{IfWant}
use Rattle.cbor.specs.Bare.{IsBareItem, BeginsWithSome, AnnouncesParts}
use Rattle.cbor.proofs.Reading.{first_of}
use Rattle.cbor.proofs.Wants.{if_want, want_map}

-- two heads with which the same bytes begin have one major type, and where the one announces nothing so does the other
pub one_head : (m k n c : ℕ) (after rest : List ℕ) → head m k ++ after ≡ head n c ++ rest → (m ≡ n) × (k ≡ 0 → c ≡ 0)
one_head m k n c after rest e =
    let f = first_of m k in
    let g = first_of n c in
    let first : 32 * m + f.low ≡ 32 * n + g.low = ap (λ (xs : List ℕ). get_or xs 0 0) (ap (λ (t : List ℕ). t ++ after) (sym f.is) ∙ e ∙ ap (λ (t : List ℕ). t ++ rest) g.is) in
    let same : m ≡ n = omega (arith, first, f.below, g.below) in
    (same, λ none. g.back (omega (arith, first, same, f.none none)))

-- where memory was wanting for what a head announces, it announces something
pub some_wants : {T : Type 0} (r : Result T CborFault) (major count : ℕ) (bytes rest : List ℕ) → count < 2 ^ 64 → OnErr r (0 < count) → bytes ≡ head major count ++ rest → IfErr r (λ fault. IfWant fault (BeginsWithSome major bytes))
some_wants (Ok x) major count bytes rest fits some is = tt
some_wants (Err fault) major count bytes rest fits some is = if_want fault (record { count = count; some = some; fits = fits; begins = record { rest = rest; parts = is } })

-- ---- items

-- the head of a bare item, and what stands after it
record StandsBare (item : Item) : Type 0 where
  major : ℕ
  argument : ℕ
  after : List ℕ
  is : text_of item ≡ head major argument ++ after
  strings : major ≡ 2 → argument ≡ 0
  arrays : major ≡ 4 → argument ≡ 0
  maps : major ≡ 5 → argument ≡ 0

bare_head : (item : Item) → IsBareItem item → StandsBare item
bare_head (Unsigned n) bare = record { major = 0; argument = n; after = []; is = sym (append-nil (head 0 n)); strings = λ e. absurd (omega (arith, e)); arrays = λ e. absurd (omega (arith, e)); maps = λ e. absurd (omega (arith, e)) }
bare_head (Negative n) bare = record { major = 1; argument = n; after = []; is = sym (append-nil (head 1 n)); strings = λ e. absurd (omega (arith, e)); arrays = λ e. absurd (omega (arith, e)); maps = λ e. absurd (omega (arith, e)) }
bare_head (Bytes bs) bare = record { major = 2; argument = length bs; after = bs; is = refl; strings = λ e. ap length bare; arrays = λ e. absurd (omega (arith, e)); maps = λ e. absurd (omega (arith, e)) }
bare_head (Array is) bare = record { major = 4; argument = items_count is; after = items_text is; is = refl; strings = λ e. absurd (omega (arith, e)); arrays = λ e. ap items_count bare; maps = λ e. absurd (omega (arith, e)) }
bare_head (Map ps) bare = record { major = 5; argument = pairs_count ps; after = pairs_text ps; is = refl; strings = λ e. absurd (omega (arith, e)); arrays = λ e. absurd (omega (arith, e)); maps = λ e. ap pairs_count bare }
bare_head Null bare = record { major = 7; argument = 22; after = []; is = sym (append-nil (head 7 22)); strings = λ e. absurd (omega (arith, e)); arrays = λ e. absurd (omega (arith, e)); maps = λ e. absurd (omega (arith, e)) }

-- a head that announces nothing of a major type stands before no head that announces something of it
none_of : (major : ℕ) (bytes : List ℕ) → BeginsWithSome major bytes → (m k : ℕ) (after : List ℕ) → bytes ≡ head m k ++ after → (m ≡ major → k ≡ 0) → ⊥
none_of major bytes b m k after is none =
    let one = one_head m k major b.count after b.begins.rest (sym is ∙ b.begins.parts) in
    let nothing = one.1 (none one.0) in
    let some = b.some in
    omega (arith, some, nothing)

no_bare : (bytes : List ℕ) → AnnouncesParts bytes → (item : Item) (n : ℕ) → Spells item (take n bytes) → IsBareItem item → ⊥
no_bare bytes begins item n s bare =
    let whole : bytes ≡ text_of item ++ drop n bytes = sym (take-append-drop n bytes) ∙ ap (λ (t : List ℕ). t ++ drop n bytes) s.spelled in
    let h = bare_head item bare in
    let is : bytes ≡ head h.major h.argument ++ (h.after ++ drop n bytes) = whole ∙ ap (λ (t : List ℕ). t ++ drop n bytes) h.is ∙ append_assoc (head h.major h.argument) h.after (drop n bytes) in
    elim begins [
      | inl b ↦ none_of 2 bytes b h.major h.argument (h.after ++ drop n bytes) is h.strings
      | inr others ↦ elim others [
        | inl b ↦ none_of 4 bytes b h.major h.argument (h.after ++ drop n bytes) is h.arrays
        | inr b ↦ none_of 5 bytes b h.major h.argument (h.after ++ drop n bytes) is h.maps
      ]
    ]

-- so where memory was wanting the bytes begin with no bare item's text
pub bare_wants : (fault : CborFault) (bytes : List ℕ) → IfWant fault (AnnouncesParts bytes) → IfWant fault ((item : Item) (n : ℕ) → Spells item (take n bytes) → IsBareItem item → ⊥)
bare_wants fault bytes = want_map fault (no_bare bytes)

-- and are none
pub whole_wants : (fault : CborFault) (bytes : List ℕ) → IfWant fault ((item : Item) (n : ℕ) → Spells item (take n bytes) → IsBareItem item → ⊥) → IfWant fault ((item : Item) → Spells item bytes → IsBareItem item → ⊥)
whole_wants fault bytes = want_map fault (λ none item s. none item (length bytes) (subst (Spells item) (sym (take_all (length bytes) bytes (omega arith))) s))
