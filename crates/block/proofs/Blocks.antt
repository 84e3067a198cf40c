-- The two laws of blocks: what is read is spelled so, and what is spelled so is read.
use Rattle.std.proofs.Common.{◌≡◌, ℕ, ◌-◌, cond, eqb, List, [], ◌++◌, length, take, Option, Some, None, refl, sym, ap, subst, ◌∙◌, arith}
use Rattle.std.proofs.lemmas.Bool.{eqb-true}
use Rattle.std.proofs.lemmas.List.{append-nil, nil_from_length, length-append, take_at}
use Rattle.model.specs.Cbor.{nesting, text_of, HasText, IsInRange, HasRisingKeys}
use Rattle.model.specs.Transaction.{Transaction}
use Rattle.model.specs.Block.{Header, Block, item_of_previous, item_of_header, item_of_transactions, item_of_block, IsHeader, SpellsBlock}
use Rattle.cbor.proofs.ForCallers.{IsBytes, bind_some, guard_some, some_is, has_text, text_fits, members_takes}
use Rattle.model.specs.Block.{empty_block}
use Rattle.cbor.specs.Shapes.{members_at}
use Rattle.cbor.specs.Reading.{◌>>=◌}
use Rattle.cbor.specs.Shapes.{as_at, both_at, array_at}
use Rattle.block.specs.Reading.{header_at, transactions_at, block_with, parts_at, block_at}
use Rattle.block.proofs.Parts.{header_reads, transactions_reads, parts_reads, transactions_are, transactions_nest}

-- ---- the text of a block with an empty body

-- null and a hash hold no map
pub rising_previous : (previous : Option (List ℕ)) → HasRisingKeys (item_of_previous previous)
rising_previous None = tt
rising_previous (Some hash) = tt

-- nor another item
pub flat_previous : (previous : Option (List ℕ)) → nesting (item_of_previous previous) ≡ 1
flat_previous None = refl
flat_previous (Some hash) = refl

-- a header in range makes a block with an empty body
pub empty_spells : (header : Header) (bytes : List ℕ) → IsHeader header → IsInRange (item_of_header header) → bytes ≡ text_of (item_of_block (empty_block header)) → SpellsBlock (empty_block header) bytes
empty_spells header bytes shape in_range spelled =
    let nests : nesting (item_of_block (empty_block header)) ≡ 3 = rw (flat_previous header.previous) refl in
    let text : HasText (item_of_block (empty_block header)) = record { in_range = (omega arith, (in_range, ((omega arith, tt), tt))); rising = ((tt, (tt, (rising_previous header.previous, (tt, tt)))), (tt, tt)); nests = omega (arith, nests) } in
    record { shape = record { header = shape; transactions = tt }; text = record { has_text = text; spelled = spelled } }

-- ---- the laws

-- a block that was read
pub block_takes : (bytes : List ℕ) (block : Block) → IsBytes bytes → block_at bytes ≡ Some block → SpellsBlock block bytes
unfolding block_at
block_takes bytes block fits e =
    let b = bind_some (parts_at bytes) (λ block. cond (eqb (length block.1) 0) (Some block.0) None) block e in
    let g = guard_some (eqb (length b.0.1) 0) (Some b.0.0) block b.2 in
    let nothing = nil_from_length b.0.1 (eqb-true (length b.0.1) 0 g.0) in
    let t = parts_reads.takes bytes b.0.0 b.0.1 fits b.1 in
    let spelled : bytes ≡ text_of (item_of_block b.0.0) = whole_text (text_of (item_of_block b.0.0)) bytes b.0.1 t.0.takes.parts nothing in
    subst (λ (x : Block). SpellsBlock x bytes) {x = b.0.0} (some_is b.0.0 block g.1)
    (record { shape = record { header = t.1.0; transactions = transactions_are b.0.0.transactions t.1.1 }; text = record { has_text = has_text (omega arith) t.0; spelled = spelled } })
  where
    whole_text : (text bytes rest : List ℕ) → bytes ≡ text ++ rest → rest ≡ [] → bytes ≡ text
    whole_text text bytes rest e nothing = e ∙ ap (λ (x : List ℕ). text ++ x) nothing ∙ append-nil text

-- what is read as a block is read so
pub block_again : (block : Block) (bytes : List ℕ) → SpellsBlock block bytes → block_at bytes ≡ Some block
unfolding block_at
block_again block bytes r =
    let text = r.text in
    let shape = r.shape in
    let nests = transactions_nest block.transactions shape.transactions (omega (arith, text.has_text.nests)) in
    let again = parts_reads.again block [] (text_fits text.has_text) (shape.header, nests) in
    let whole : bytes ≡ text_of (item_of_block block) ++ [] = text.spelled ∙ sym (append-nil (text_of (item_of_block block))) in
    rw whole (rw again refl)

-- where no block is read none is spelled
pub no_block : (bytes : List ℕ) → block_at bytes ≡ None → (block : Block) → SpellsBlock block bytes → ⊥
no_block bytes e block r = let again = block_again block bytes r in cc

-- ---- the parts that are hashed

-- the header's text stands before the body's
pub header_before_body : (bytes members : List ℕ) (header : Header) (body : List ℕ) → IsBytes bytes → members_at 2 bytes ≡ Some members → header_at members ≡ Some (header, body) → members ≡ text_of (item_of_header header) ++ body
header_before_body bytes members header body fits e f =
    let tm = members_takes 2 bytes members fits e in
    (header_reads.takes members header body tm.rest_fits f).0.takes.parts

-- what stands before a part
pub front_is : (front all text body : List ℕ) → all ≡ text ++ body → front ≡ take (length all - length body) all → front ≡ text
front_is front all text body split e =
    let len : length text ≡ length all - length body = omega (arith, length-append text body, ap length split) in
    e ∙ ap (λ (xs : List ℕ). take (length all - length body) xs) split ∙ take_at text body (length all - length body) len

-- and the body's text is what is left
pub body_at_end : (bytes members : List ℕ) (header : Header) (body : List ℕ) (ts : List Transaction) (after : List ℕ) → IsBytes bytes → members_at 2 bytes ≡ Some members → header_at members ≡ Some (header, body) → transactions_at body ≡ Some (ts, after) → after ≡ [] → body ≡ text_of (item_of_transactions ts)
body_at_end bytes members header body ts after fits e f g nothing =
    let tm = members_takes 2 bytes members fits e in
    let th = header_reads.takes members header body tm.rest_fits f in
    let tb = transactions_reads.takes body ts after th.0.takes.rest_fits g in
    tb.0.takes.parts ∙ ap (λ (rest : List ℕ). text_of (item_of_transactions ts) ++ rest) nothing ∙ append-nil (text_of (item_of_transactions ts))

-- ---- blocks without transactions

-- of a block that was read without transactions, none was read after its header
pub empty_body_read : (bytes members : List ℕ) (header : Header) (body : List ℕ) → members_at 2 bytes ≡ Some members → header_at members ≡ Some (header, body) → (b : Block) → block_at bytes ≡ Some b → b.transactions ≡ [] → (rest : List ℕ) × (transactions_at body ≡ Some ([], rest))
unfolding block_at parts_at as_at array_at both_at
empty_body_read bytes members header body m h b e none =
    let opened : parts_at bytes ≡ ((transactions_at body >>= λ t. Some ((header, t.0), t.1)) >>= λ x. Some (block_with x.0, x.1)) = rw (m, h) refl in
    let p = bind_some (parts_at bytes) (λ block. cond (eqb (length block.1) 0) (Some block.0) None) b e in
    let g = guard_some (eqb (length p.0.1) 0) (Some p.0.0) b p.2 in
    let y = bind_some (transactions_at body >>= λ t. Some ((header, t.0), t.1)) (λ x. Some (block_with x.0, x.1)) p.0 (sym opened ∙ p.1) in
    let z = bind_some (transactions_at body) (λ t. Some ((header, t.0), t.1)) y.0 y.1 in
    let of_b : z.0.0 ≡ b.transactions =
    ap (λ (x : (Header × List Transaction) × List ℕ). x.0.1) (some_is ((header, z.0.0), z.0.1) y.0 z.2) ∙ ap (λ (x : Block × List ℕ). x.0.transactions) (some_is (block_with y.0.0, y.0.1) p.0 y.2) ∙ ap (λ (x : Block). x.transactions) (some_is p.0.0 b g.1) in
    (z.0.1, z.1 ∙ ap (λ (ts : List Transaction). some_with z.0.1 ts) (of_b ∙ none))
  where
    some_with : List ℕ → List Transaction → Option (List Transaction × List ℕ)
    some_with rest ts = Some (ts, rest)
