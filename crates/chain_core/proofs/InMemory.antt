-- Blocks of a chain all of which are in memory.
use Rattle.std.proofs.Common.{◌≡◌, ℕ, zero, suc, ◌+◌, ◌<◌, ◌≤◌, List, [], ◌++◌, length, take, drop, refl, sym, ap, ◌∙◌, arith, append_assoc}
use Rattle.std.specs.Prelude.{Option, None, Some, IsNone, option_map}
use Rattle.std.proofs.lemmas.List.{length-take}
use Rattle.model.specs.Block.{Block}
use Rattle.chain.specs.Chained.{Chained, chain_of, block_numbered}

-- none is left out
pub none_gone : (chain : Chained) → chain.gone ≡ [] → length chain.gone ≡ 0
none_gone chain none = ap length none

pub all_resident : (chain : Chained) → chain.gone ≡ [] → chain.resident ≡ chain_of chain
all_resident chain none = ap (λ (bs : List Block). bs ++ chain.resident) (sym none)

pub all_behind : (chain : Chained) (n : ℕ) → n ≡ length chain.gone → chain.gone ≡ [] → drop n (chain_of chain) ≡ chain_of chain
all_behind chain n is none = ap (λ (m : ℕ). drop m (chain_of chain)) (is ∙ none_gone chain none)

-- each has its number
pub numbered_all : (chain : Chained) (n : ℕ) (got : Option Block) → chain.gone ≡ [] → (length chain.gone < n → got ≡ block_numbered (chain_of chain) n) → (n ≤ length chain.gone → got ≡ None) → got ≡ block_numbered (chain_of chain) n
numbered_all chain zero got none there gone = gone (let e = none_gone chain none in omega (arith, e))
numbered_all chain (suc n) got none there gone = there (let e = none_gone chain none in omega (arith, e))

-- ---- more behind them

pub appended : (old new : Chained) (blocks : List Block) → new ≡ record old { resident = old.resident ++ blocks; room = new.room } → chain_of new ≡ chain_of old ++ blocks
appended old new blocks is = ap chain_of is ∙ sym (append_assoc old.gone old.resident blocks)

-- there is room for them behind fewer
pub room_still : (old cut : Chained) (n more : ℕ) → old.gone ≡ [] → chain_of cut ≡ take n (chain_of old) → cut ≡ record old { resident = cut.resident } → length old.resident + more ≤ old.room → length cut.resident + more ≤ cut.room
room_still old cut n more none is frame room =
    let gone : cut.gone ≡ [] = ap (λ (c : Chained). c.gone) frame ∙ none in
    let same : cut.room ≡ old.room = ap (λ (c : Chained). c.room) frame in
    let short : length cut.resident ≡ length (take n old.resident) = ap length (all_resident cut gone ∙ (is ∙ ap (take n) (sym (all_resident old none)))) in
    omega (arith, same, short, room, length-take n old.resident)

-- nothing stands for nothing
pub none_of : {A B : Type 0} (f : A → B) (o : Option A) → IsNone o → option_map f o ≡ None
none_of f None is = refl
none_of f (Some x) is = absurd (let e = is in cc)
