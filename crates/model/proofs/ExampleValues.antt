-- Worked examples of scripts and blocks.
use Rattle.std.proofs.Common.{◌≡◌, ℕ, zero, suc, ◌+◌, ◌*◌, ◌^◌, ◌<◌, ◌≤◌, List, [], ◌∷◌, ◌++◌, length, drop, get_or, refl, sym, ap, subst, ◌∙◌, append-nil, arith}
use Rattle.std.specs.List.{AllByRecursion}
use Rattle.std.proofs.lemmas.Bool.{lt-ltb}
use Rattle.std.proofs.lemmas.List.{length-append}
use Rattle.model.specs.Cbor.{Item, Unsigned, Bytes, head, text_of, nesting, IsInRange, HasRisingKeys}
use Rattle.model.specs.Script.{Script, RequireTimeStart, item_of_script, IsScript, SpellsScript}
use Rattle.model.specs.Block.{Header, item_of_header, item_of_block, SpellsBlock, block_text}
use Rattle.model.specs.Block.{empty_block}
use Rattle.model.specs.Examples.{nested_script, nested_script_text, first_header, later_header}
use Rattle.model.proofs.HeadLemmas.{head_says}
use Rattle.model.proofs.ItemTexts.{the_item}

-- ---- scripts

-- a start at slot 24, whose text has the shortest head
pub starts_at_24 : SpellsScript (RequireTimeStart 24) (0x82 ∷ 0x04 ∷ 0x18 ∷ 0x18 ∷ [])
unfolding head
starts_at_24 = record { shape = tt; text = record { has_text = record { in_range = omega arith; rising = (tt, (tt, tt)); nests = omega arith }; spelled = refl } }

-- a slot of 23 stands in its first byte
long_slot : (slot : ℕ) → slot < 2 ^ 64 → 0x18 ∷ 0x17 ∷ [] ≡ head 0 slot ++ [] → ⊥
unfolding head
long_slot slot lt e =
    let says = head_says 0 slot [] 0 24 (0x17 ∷ []) lt (omega arith) (sym e) in
    let text : 0x18 ∷ 0x17 ∷ [] ≡ head 0 23 ++ [] = e ∙ ap (λ (n : ℕ). head 0 n ++ []) says.is_said in
    absurd cc

-- no script has a slot of 23 in a byte of its own
pub long_slot_23 : (script : Script) → SpellsScript script (0x82 ∷ 0x04 ∷ 0x18 ∷ 0x17 ∷ []) → ⊥
unfolding head
long_slot_23 (RequireTimeStart slot) p = long_slot slot p.text.has_text.in_range.1.1.0 (ap (drop 2) p.text.spelled)
long_slot_23 script p = omega (arith, ap (λ (t : List ℕ). get_or t 1 0) p.text.spelled)

-- ---- scripts in scripts

nested_script_spelled : (n : ℕ) → nested_script_text n ≡ text_of (item_of_script (nested_script n))
unfolding nested_script nested_script_text head
nested_script_spelled zero = refl
nested_script_spelled (suc n) =
    let inner : List ℕ = text_of (item_of_script (nested_script n)) in
    ap (λ (t : List ℕ). 0x82 ∷ 0x01 ∷ 0x81 ∷ t) (nested_script_spelled n ∙ sym (append-nil inner) ∙ sym (append-nil (inner ++ [])))

nested_script_in_range : (n : ℕ) → IsInRange (item_of_script (nested_script n))
unfolding nested_script
nested_script_in_range zero = omega arith
nested_script_in_range (suc n) = (omega arith, (omega arith, ((omega arith, (nested_script_in_range n, tt)), tt)))

nested_script_rises : (n : ℕ) → HasRisingKeys (item_of_script (nested_script n))
unfolding nested_script
nested_script_rises zero = (tt, (tt, tt))
nested_script_rises (suc n) = (tt, ((nested_script_rises n, tt), tt))

nested_script_nests : (n : ℕ) → nesting (item_of_script (nested_script n)) ≡ 2 * n + 2
unfolding nested_script
nested_script_nests zero = refl
nested_script_nests (suc n) =
    let inner : nesting (item_of_script (nested_script n)) ≡ 2 * n + 2 = nested_script_nests n in
    omega arith

nested_script_is : (n : ℕ) → IsScript (nested_script n)
unfolding nested_script
nested_script_is zero = tt
nested_script_is (suc n) = (nested_script_is n, tt)

-- 31 scripts around an empty one have an item that nests 64 deep
pub deepest_script : SpellsScript (nested_script 31) (nested_script_text 31)
deepest_script = record {
  shape = nested_script_is 31;
  text = record {
    has_text = record { in_range = nested_script_in_range 31; rising = nested_script_rises 31; nests = omega (arith, nested_script_nests 31) };
    spelled = nested_script_spelled 31;
  };
}

-- one more nests too deep
pub too_deep_script : (script : Script) → SpellsScript script (nested_script_text 32) → ⊥
too_deep_script script p =
    let known = the_item (item_of_script script) (item_of_script (nested_script 32)) (nested_script_text 32) p.text (nested_script_in_range 32) (nested_script_spelled 32) in
    let nests : nesting (item_of_script (nested_script 32)) ≤ 64 = subst (λ (i : Item). nesting i ≤ 64) known p.text.has_text.nests in
    omega (arith, nested_script_nests 32)

-- ---- blocks

-- the text of a hash is 58 20 and its 32 bytes
hash_text : (hash : List ℕ) → length hash ≡ 32 → text_of (Bytes hash) ≡ 0x58 ∷ 0x20 ∷ hash
unfolding head
hash_text hash e = rw e refl

-- a number below 24 is its own text
small_text : (n : ℕ) → n < 24 → text_of (Unsigned n) ≡ n ∷ []
unfolding head
small_text n lt = rw (lt-ltb n 24 lt) (ap (λ (b : ℕ). b ∷ []) (omega arith))

-- the text of the header of a first block
pub first_header_text : (hash : List ℕ) → length hash ≡ 32 → text_of (item_of_header (first_header hash)) ≡ 0x84 ∷ 0x01 ∷ 0x01 ∷ 0xf6 ∷ 0x58 ∷ 0x20 ∷ hash
unfolding head
first_header_text hash e = ap (λ (t : List ℕ). 0x84 ∷ 0x01 ∷ 0x01 ∷ 0xf6 ∷ t) (append-nil (text_of (Bytes hash)) ∙ hash_text hash e)

-- an empty block is 82, its header and 80
empty_block_text : (header : Header) → text_of (item_of_block (empty_block header)) ≡ 0x82 ∷ (text_of (item_of_header header) ++ 0x80 ∷ [])
unfolding head
empty_block_text header = refl

-- and of its block without transactions
first_block_text : (hash : List ℕ) → length hash ≡ 32 → text_of (item_of_block (empty_block (first_header hash))) ≡ 0x82 ∷ 0x84 ∷ 0x01 ∷ 0x01 ∷ 0xf6 ∷ 0x58 ∷ 0x20 ∷ (hash ++ 0x80 ∷ [])
first_block_text hash e = empty_block_text (first_header hash) ∙ ap (λ (t : List ℕ). 0x82 ∷ (t ++ 0x80 ∷ [])) (first_header_text hash e)

-- which is the text of a block
pub first_block : (hash : List ℕ) → length hash ≡ 32 → AllByRecursion (λ b. b < 256) hash
    → SpellsBlock (empty_block (first_header hash)) (0x82 ∷ 0x84 ∷ 0x01 ∷ 0x01 ∷ 0xf6 ∷ 0x58 ∷ 0x20 ∷ (hash ++ 0x80 ∷ []))
first_block hash e bytes = record {
  shape = record { header = record { number = omega arith; slot = omega arith; previous = tt; body_hash = e }; transactions = tt };
  text = record {
    has_text = record {
      in_range = (omega arith, ((omega arith, (omega arith, (omega arith, (tt, ((omega arith, bytes), tt))))), ((omega arith, tt), tt)));
      rising = ((tt, (tt, (tt, (tt, tt)))), (tt, tt));
      nests = omega arith;
    };
    spelled = sym (first_block_text hash e);
  };
}

-- 40 bytes
pub first_block_length : (hash : List ℕ) → length hash ≡ 32 → length (block_text (empty_block (first_header hash))) ≡ 40
unfolding block_text
first_block_length hash e = ap length (first_block_text hash e) ∙ omega (arith, length-append hash (0x80 ∷ []))

-- the text of a header that names a block before it
later_header_text : (number slot : ℕ) (previous body_hash : List ℕ) → number < 24 → slot < 24 → length previous ≡ 32 → length body_hash ≡ 32
    → text_of (item_of_header (later_header number slot previous body_hash)) ≡ 0x84 ∷ number ∷ slot ∷ ((0x58 ∷ 0x20 ∷ previous) ++ (0x58 ∷ 0x20 ∷ body_hash))
unfolding head
later_header_text number slot previous body_hash ln ls lp lb =
    ap (λ (t : List ℕ). 0x84 ∷ t)
    (λ i. small_text number ln i ++ (small_text slot ls i ++ (hash_text previous lp i ++ ((append-nil (text_of (Bytes body_hash)) ∙ hash_text body_hash lb) i))))

-- 71 bytes
pub later_header_length : (number slot : ℕ) (previous body_hash : List ℕ) → number < 24 → slot < 24 → length previous ≡ 32 → length body_hash ≡ 32
    → length (text_of (item_of_header (later_header number slot previous body_hash))) ≡ 71
later_header_length number slot previous body_hash ln ls lp lb =
    ap length (later_header_text number slot previous body_hash ln ls lp lb) ∙ omega (arith, length-append previous (0x58 ∷ 0x20 ∷ body_hash))

-- and 73 for its block without transactions
pub later_block_length : (number slot : ℕ) (previous body_hash : List ℕ) → number < 24 → slot < 24 → length previous ≡ 32 → length body_hash ≡ 32
    → length (block_text (empty_block (later_header number slot previous body_hash))) ≡ 73
unfolding block_text
later_block_length number slot previous body_hash ln ls lp lb =
    let header : List ℕ = text_of (item_of_header (later_header number slot previous body_hash)) in
    let long : length header ≡ 71 = later_header_length number slot previous body_hash ln ls lp lb in
    ap length (empty_block_text (later_header number slot previous body_hash)) ∙ omega (arith, length-append header (0x80 ∷ []))
