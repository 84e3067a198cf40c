-- Bytes have one answer.
use Rattle.std.proofs.Common.{◌≡◌, ℕ, zero, suc, ◌≤◌, ◌<◌, Bool, true, false, List, [], ◌∷◌, length, Option, Some, None, refl, sym, ap, subst, ◌∙◌, arith, inl, inr}
use Rattle.std.specs.Prelude.{◌≢◌, ◌⊎◌, ◌↔◌, IsTrue}
use Rattle.std.specs.Bool.{Decides}
use Rattle.std.specs.List.{AllByRecursion}
use Rattle.std.specs.Str.{bytes_eq}
use Rattle.std.proofs.lemmas.Bool.{cases_lt}
use Rattle.std.proofs.lemmas.Slice.Eq.{bytes_eq-Decides}
use Rattle.model.specs.Limits.{block_size_limit}
use Rattle.model.specs.Block.{Block, SpellsBlock, block_text, body_hash_of}
use Rattle.model.proofs.BlockTexts.{one_block, block_text_is}
use Rattle.block.specs.declared.fault.ReadFault.{ReadFault}
use Rattle.block.specs.declared.fault.ReadFault.TheVariants.{TooLarge, Malformed, BodyHashMismatch, OutOfMemory}
use Rattle.cbor.proofs.ForCallers.{IsBytes}
use Rattle.block.specs.Reading.{block_at}
use Rattle.block.specs.Read.{IsRead, IsMismatched, IsReadFault}
use Rattle.block.proofs.Blocks.{block_takes, no_block}

-- one block
pub same_read : (bytes : List ℕ) (a b : Block) → IsRead a bytes → IsRead b bytes → a ≡ b
same_read bytes a b p q = one_block a b bytes p.read q.read

-- a block that is read has the right body
right_body : (bytes : List ℕ) (b : Block) → IsRead b bytes → IsMismatched bytes → ⊥
right_body bytes b p q =
    let same = one_block b q.block bytes p.read q.read in
    q.body (subst (λ (x : Block). x.header.body_hash ≡ body_hash_of x.transactions) same p.body)

-- a block or a fault
pub not_both : (bytes : List ℕ) (b : Block) (e : ReadFault) → IsRead b bytes → IsReadFault bytes e → e ≡ OutOfMemory
not_both bytes b TooLarge p large = absurd (omega (arith, p.size, large))
not_both bytes b Malformed p f = absurd (f.no_block b p.read)
not_both bytes b BodyHashMismatch p f = absurd (right_body bytes b p f)
not_both bytes b OutOfMemory p f = refl

-- one fault
pub same_fault : (bytes : List ℕ) (e f : ReadFault) → IsReadFault bytes e → IsReadFault bytes f → e ≢ OutOfMemory → f ≢ OutOfMemory → e ≡ f
same_fault bytes TooLarge TooLarge p q ne nf = refl
same_fault bytes TooLarge Malformed p q ne nf = absurd (omega (arith, p, q.size))
same_fault bytes TooLarge BodyHashMismatch p q ne nf = absurd (omega (arith, p, q.size))
same_fault bytes Malformed TooLarge p q ne nf = absurd (omega (arith, q, p.size))
same_fault bytes Malformed Malformed p q ne nf = refl
same_fault bytes Malformed BodyHashMismatch p q ne nf = absurd (p.no_block q.block q.read)
same_fault bytes BodyHashMismatch TooLarge p q ne nf = absurd (omega (arith, q, p.size))
same_fault bytes BodyHashMismatch Malformed p q ne nf = absurd (q.no_block p.block p.read)
same_fault bytes BodyHashMismatch BodyHashMismatch p q ne nf = refl
same_fault bytes OutOfMemory f p q ne nf = absurd (ne refl)
same_fault bytes e OutOfMemory p q ne nf = absurd (nf refl)

-- ---- there is an answer

-- what is answered where memory suffices
abbrev pub HasAnswer : List ℕ → Type 0
HasAnswer bytes = ((b : Block) × IsRead b bytes) ⊎ ((e : ReadFault) × (e ≢ OutOfMemory) × IsReadFault bytes e)

-- the same fact in the words of readings
is_bytes : (bytes : List ℕ) → AllByRecursion (λ b. b < 256) bytes → IsBytes bytes
is_bytes [] all i = omega arith
is_bytes (b ∷ bytes) all zero = all.0
is_bytes (b ∷ bytes) all (suc i) = is_bytes bytes all.1 i

-- whether the body has the hash that the header names
judged : (bytes : List ℕ) (b : Block) (same : Bool) → length bytes ≤ block_size_limit → SpellsBlock b bytes → Decides same (b.header.body_hash ≡ body_hash_of b.transactions) → HasAnswer bytes
judged bytes b true size read decides = inl (b, record { read = read; size = size; body = decides.0 refl })
judged bytes b false size read decides =
    let other : b.header.body_hash ≢ body_hash_of b.transactions = λ e. absurd (let is = decides.1 e in cc) in
    inr (BodyHashMismatch, (λ e. absurd cc), record { size = size; block = b; read = read; body = other })

-- whether a block was read
looked_at : (bytes : List ℕ) (found : Option Block) → IsBytes bytes → length bytes ≤ block_size_limit → block_at bytes ≡ found → HasAnswer bytes
looked_at bytes None fits size e = inr (Malformed, (λ f. absurd cc), record { size = size; no_block = no_block bytes e })
looked_at bytes (Some b) fits size e =
    judged bytes b (bytes_eq b.header.body_hash (body_hash_of b.transactions)) size (block_takes bytes b fits e) (bytes_eq-Decides b.header.body_hash (body_hash_of b.transactions))

-- bytes are read as a block, or there is a fault
pub has_answer : (bytes : List ℕ) → AllByRecursion (λ b. b < 256) bytes → HasAnswer bytes
has_answer bytes all =
    elim (cases_lt block_size_limit (length bytes)) [
      | inl large ↦ inr (TooLarge, (λ e. absurd cc), large)
      | inr small ↦ looked_at bytes (block_at bytes) (is_bytes bytes all) small refl
    ]

-- ---- the same block

-- blocks are the same where their texts are
pub same_blocks : (a b : Block) (x y : List ℕ) (r : Bool) → IsRead a x → IsRead b y → r ≡ bytes_eq x y → (r ≡ bytes_eq (block_text a) (block_text b)) × (IsTrue r ↔ (a ≡ b))
same_blocks a b x y r p q e =
    let first : x ≡ block_text a = sym (block_text_is a x p.read) in
    let second : y ≡ block_text b = sym (block_text_is b y q.read) in
    let decides = bytes_eq-Decides x y in (
      e ∙ (λ i. bytes_eq (first i) (second i)),
      (
        (λ yes. let texts : x ≡ y = decides.0 (sym e ∙ yes) in one_block a b x p.read (subst (SpellsBlock b) (sym texts) q.read)),
        λ same. e ∙ decides.1 (first ∙ ap block_text same ∙ sym second),
      ),
    )
