-- Worked examples of texts, and of bytes that are no text.
use Rattle.std.proofs.Common.{◌≡◌, ℕ, zero, suc, ◌≤◌, List, [], ◌∷◌, ◌++◌, replicate, refl, sym, ap, subst, ◌∙◌, append-nil, arith}
use Rattle.std.specs.declared.cmp.Ordering.TheVariants.{Less, Greater, Equal}
use Rattle.model.specs.Cbor.{Item, Unsigned, Negative, Null, head, text_of, nesting, IsInRange, HasRisingKeys, Spells}
use Rattle.model.specs.Examples.{small_map, nested}
use Rattle.model.proofs.ItemTexts.{start_says, text_not_empty, unsigned_of_major, argument_of_null, the_item}

-- ---- numbers and null

-- a number below 24 stands in the first byte
pub unsigned_0 : Spells (Unsigned 0) (0x00 ∷ [])
unfolding head
unsigned_0 = record { has_text = record { in_range = omega arith; rising = tt; nests = omega arith }; spelled = refl }

-- one below 256 in the byte after it
pub unsigned_24 : Spells (Unsigned 24) (0x18 ∷ 0x18 ∷ [])
unfolding head
unsigned_24 = record { has_text = record { in_range = omega arith; rising = tt; nests = omega arith }; spelled = refl }

-- one below 65536 in the two bytes after it
pub unsigned_256 : Spells (Unsigned 256) (0x19 ∷ 0x01 ∷ 0x00 ∷ [])
unfolding head
unsigned_256 = record { has_text = record { in_range = omega arith; rising = tt; nests = omega arith }; spelled = refl }

-- -1000 is -1 - 999
pub minus_1000 : Spells (Negative 999) (0x39 ∷ 0x03 ∷ 0xe7 ∷ [])
unfolding head
minus_1000 = record { has_text = record { in_range = omega arith; rising = tt; nests = omega arith }; spelled = refl }

-- null is the simple value 22
pub null : Spells Null (0xf6 ∷ [])
unfolding head
null = record { has_text = record { in_range = tt; rising = tt; nests = omega arith }; spelled = refl }

-- ---- bytes that are no text

texts_differ : (a b : ℕ) (s t : List ℕ) → a ∷ s ≡ b ∷ t → a ≡ b
texts_differ a b s t e = cc

-- 23 stands in the first byte, and not in one behind it
pub long_23 : (item : Item) → Spells item (0x18 ∷ 0x17 ∷ []) → ⊥
unfolding head
long_23 item p =
    let says = start_says item 0 24 (0x17 ∷ []) p.has_text.in_range (omega arith) p.spelled in
    let number : item ≡ Unsigned 23 = unsigned_of_major item says.same_major ∙ ap Unsigned says.is_said in
    absurd (omega (arith, texts_differ 0x18 23 (0x17 ∷ []) [] (p.spelled ∙ ap text_of number)))

-- 255 has one byte behind the first, and not two
pub long_255 : (item : Item) → Spells item (0x19 ∷ 0x00 ∷ 0xff ∷ []) → ⊥
unfolding head
long_255 item p =
    let says = start_says item 0 25 (0x00 ∷ 0xff ∷ []) p.has_text.in_range (omega arith) p.spelled in
    let number : item ≡ Unsigned 255 = unsigned_of_major item says.same_major ∙ ap Unsigned says.is_said in
    absurd (omega (arith, texts_differ 0x19 0x18 (0x00 ∷ 0xff ∷ []) (0xff ∷ []) (p.spelled ∙ ap text_of number)))

-- 23 is an argument of major type 7 that no item has
pub undefined : (item : Item) → Spells item (0xf7 ∷ []) → ⊥
undefined item p =
    let says = start_says item 7 23 [] p.has_text.in_range (omega arith) p.spelled in
    absurd (omega (arith, argument_of_null item says.same_major, says.is_said))

-- no bytes are no text
pub nothing : (item : Item) → Spells item [] → ⊥
nothing item p = text_not_empty item p.has_text.in_range p.spelled

-- ---- maps

-- 0 before 1
pub keys_rise : Spells (small_map 0 1 1 2) (0xa2 ∷ 0x00 ∷ 0x01 ∷ 0x01 ∷ 0x02 ∷ [])
unfolding head
keys_rise = record { has_text = record { in_range = omega arith; rising = (tt, tt, refl, (tt, tt, tt, tt)); nests = omega arith }; spelled = refl }

-- 1 before 0: the bytes spell at most one item, and its keys fall
pub keys_fall : (item : Item) → Spells item (0xa2 ∷ 0x01 ∷ 0x02 ∷ 0x00 ∷ 0x01 ∷ []) → ⊥
unfolding head
keys_fall item p =
    let known = the_item item (small_map 1 2 0 1) (0xa2 ∷ 0x01 ∷ 0x02 ∷ 0x00 ∷ 0x01 ∷ []) p (omega arith) refl in
    let order : Greater ≡ Less = (subst HasRisingKeys known p.has_text.rising).2 in
    absurd cc

-- 0 twice
pub keys_equal : (item : Item) → Spells item (0xa2 ∷ 0x00 ∷ 0x01 ∷ 0x00 ∷ 0x02 ∷ []) → ⊥
unfolding head
keys_equal item p =
    let known = the_item item (small_map 0 1 0 2) (0xa2 ∷ 0x00 ∷ 0x01 ∷ 0x00 ∷ 0x02 ∷ []) p (omega arith) refl in
    let order : Equal ≡ Less = (subst HasRisingKeys known p.has_text.rising).2 in
    absurd cc

-- ---- arrays in arrays

nested_text : (n : ℕ) → text_of (nested n) ≡ replicate n 0x81 ++ 0x80 ∷ []
unfolding nested head
nested_text zero = refl
nested_text (suc n) = ap (λ (t : List ℕ). 0x81 ∷ t) (append-nil (text_of (nested n)) ∙ nested_text n)

nested_in_range : (n : ℕ) → IsInRange (nested n)
unfolding nested
nested_in_range zero = omega arith
nested_in_range (suc n) = (omega arith, (nested_in_range n, tt))

nested_rises : (n : ℕ) → HasRisingKeys (nested n)
unfolding nested
nested_rises zero = tt
nested_rises (suc n) = (nested_rises n, tt)

nested_nests : (n : ℕ) → nesting (nested n) ≡ suc n
unfolding nested
nested_nests zero = refl
nested_nests (suc n) =
    let inner : nesting (nested n) ≡ suc n = nested_nests n in
    omega arith

-- 63 arrays around an empty one nest 64 deep
pub deepest : Spells (nested 63) (replicate 63 0x81 ++ 0x80 ∷ [])
deepest = record {
  has_text = record { in_range = nested_in_range 63; rising = nested_rises 63; nests = omega (arith, nested_nests 63) };
  spelled = sym (nested_text 63);
}

-- one more nests too deep
pub too_deep : (item : Item) → Spells item (replicate 64 0x81 ++ 0x80 ∷ []) → ⊥
too_deep item p =
    let known = the_item item (nested 64) (replicate 64 0x81 ++ 0x80 ∷ []) p (nested_in_range 64) (sym (nested_text 64)) in
    let nests : nesting (nested 64) ≤ 64 = subst (λ (i : Item). nesting i ≤ 64) known p.has_text.nests in
    omega (arith, nested_nests 64)
