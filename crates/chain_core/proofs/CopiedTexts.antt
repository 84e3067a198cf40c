-- The texts of a chain's blocks by their numbers.
use Rattle.std.proofs.Common.{◌≡◌, ℕ, zero, suc, ◌+◌, ◌<◌, ◌≤◌, List, [], ◌∷◌, ◌++◌, length, take, drop, get_or, Some, None, sym, ap, subst, ◌∙◌, arith}
use Rattle.std.specs.Prelude.{slice_get, Vec}
use Rattle.std.specs.declared.alloc.Global.{Global}
use Rattle.std.proofs.lemmas.List.{take_more, length-take-le, drop-append-le, length-map, map-append}
use Rattle.model.specs.Cbor.{head, items_of, items_text}
use Rattle.model.specs.Block.{Block, block_text, item_of_header, item_of_transactions}
use Rattle.model.specs.Log.{IsLogBlock}
use Rattle.model.proofs.BlockTexts.{block_text_is}
use Rattle.block.specs.Read.{IsRead}
use Rattle.chain_core.specs.Numbers.{block_numbered}
use Rattle.chain_core.specs.Immutable.{texts_of}
use Rattle.chain_core.specs.Reopening.{texts_in}

numbered_at : (chain : List Block) (n : ℕ) → block_numbered chain (n + 1) ≡ slice_get chain n
numbered_at chain n = let e : n + 1 ≡ suc n = omega arith in ap (block_numbered chain) e

there_is : (chain : List Block) (n : ℕ) → n < length chain → slice_get chain n ≡ None → ⊥
there_is [] n below none = omega arith
there_is (x ∷ xs) zero below none = absurd (let e : Some x ≡ None = none in cc)
there_is (x ∷ xs) (suc n) below none = there_is xs n (omega arith) none

-- a number up to the length of the chain is that of a block
pub not_none : (chain : List Block) (n : ℕ) → n < length chain → block_numbered chain (n + 1) ≡ None → ⊥
not_none chain n below none = there_is chain n below (sym (numbered_at chain n) ∙ none)

text_at : (chain : List Block) (n m : ℕ) (b : Block) (d : List ℕ) → n < m → slice_get chain n ≡ Some b → get_or (texts_of (take m chain)) n d ≡ block_text b
text_at [] n m b d below is = absurd (let e : None ≡ Some b = is in cc)
text_at (x ∷ xs) zero zero b d below is = absurd (omega arith)
text_at (x ∷ xs) zero (suc m) b d below is = ap block_text (let e : Some x ≡ Some b = is in let same : x ≡ b = cc in same)
text_at (x ∷ xs) (suc n) zero b d below is = absurd (omega arith)
text_at (x ∷ xs) (suc n) (suc m) b d below is = text_at xs n m b d (omega arith) is

-- one more of the texts
pub one_text_more : (chain : List Block) (count from n : ℕ) (b : Block) (bytes : List ℕ) → count ≤ length chain → from ≤ n → n < count → block_numbered chain (n + 1) ≡ Some b → IsRead b bytes
    → drop from (take (n + 1) (texts_of (take count chain))) ≡ drop from (take n (texts_of (take count chain))) ++ bytes ∷ []
one_text_more chain count from n b bytes within after below is read =
    let texts = texts_of (take count chain) in
    let long : length texts ≡ count = length-map (take count chain) block_text ∙ length-take-le count chain within in
    let here : get_or texts n bytes ≡ bytes = text_at chain n count b bytes below (sym (numbered_at chain n) ∙ is) ∙ block_text_is b bytes read.read in
    let more : take (n + 1) texts ≡ take n texts ++ bytes ∷ [] = take_more texts n bytes (omega (arith, long, below)) ∙ ap (λ (t : List ℕ). take n texts ++ t ∷ []) here in
    let front : length (take n texts) ≡ n = length-take-le n texts (omega (arith, long, below)) in
    ap (drop from) more ∙ drop-append-le from (take n texts) (bytes ∷ []) (omega (arith, front, after))

-- a block's text may go onto a log
some : (x : ℕ) (xs : List ℕ) → 0 < length (x ∷ xs)
some x xs = omega arith

pub log_block : (b : Block) (bytes : List ℕ) → IsRead b bytes → IsLogBlock bytes
unfolding head
log_block b bytes read = record { some = subst (λ (t : List ℕ). 0 < length t) (sym read.read.text.spelled) (some 0x82 (items_text (items_of (item_of_header b.header ∷ item_of_transactions b.transactions ∷ [])))); within = read.size }

-- a copy of one is behind the others
pub with_copy : (texts more : List (Vec ℕ Global)) (copy : Vec ℕ Global) (bytes : List ℕ) → more ≡ texts ++ copy ∷ [] → copy.items ≡ bytes → texts_in more ≡ texts_in texts ++ bytes ∷ []
with_copy texts more copy bytes more_is is =
    ap texts_in more_is ∙ (map-append (λ (v : Vec ℕ Global). v.items) texts (copy ∷ []) ∙ ap (λ (t : List ℕ). texts_in texts ++ t ∷ []) is)
