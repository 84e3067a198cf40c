-- A transaction has at least as many bytes as one of its outputs has assets.
use Rattle.std.proofs.Common.{◌≡◌, ℕ, zero, suc, ◌≤◌, Bool, true, false, List, [], ◌∷◌, length, map, Some, refl, sym, subst, arith, length-append}
use Rattle.std.specs.Prelude.{slice_get, if◌then◌else◌, nat_lt}
use Rattle.model.specs.Cbor.{Unsigned, items_of, pairs_of, head}
use Rattle.model.specs.Value.{Token, Policy, Named, entry_of_token, entry_of_policy, item_of_value}
use Rattle.model.specs.Transaction.{Output, Transaction, item_of_output, item_of_transaction, size_of}
use Rattle.model.specs.Balance.{assets_under}
use Rattle.model.specs.Rules.{asset_count}
use Rattle.model.proofs.TextLengths.{item_length, items_length, pairs_length, length_of_text}

either_long : (b : Bool) (x y : List ℕ) → 1 ≤ length x → 1 ≤ length y → 1 ≤ length (if b then x else y)
either_long true x y one other = one
either_long false x y one other = other

-- a head has a byte at least
some_head : (major n : ℕ) → 1 ≤ length (head major n)
unfolding head
some_head major n =
    either_long (nat_lt n 24) _ _ (omega arith) (either_long (nat_lt n 256) _ _ (omega arith) (either_long (nat_lt n 65536) _ _ (omega arith)
    (either_long (nat_lt n 4294967296) _ _ (omega arith) (omega arith))))

tokens_length : (ts : List (Token ℕ)) → length ts ≤ pairs_length (pairs_of (map (entry_of_token Unsigned) ts))
tokens_length [] = omega arith
tokens_length (t ∷ ts) =
    let rest = tokens_length ts in
    let one = some_head 2 (length t.name) in
    omega (arith, rest, one)

named_length : (id : List ℕ) (ts : List (Token ℕ)) → length (map (λ (token : Token ℕ). Named id token.name) ts) ≡ length ts
named_length id [] = refl
named_length id (t ∷ ts) = let rest = named_length id ts in omega (arith, rest)

policies_length : (ps : List (Policy ℕ)) → length (assets_under ps) ≤ pairs_length (pairs_of (map (entry_of_policy Unsigned) ps))
policies_length [] = omega arith
policies_length (p ∷ ps) =
    let rest = policies_length ps in
    let here = tokens_length p.tokens in
    let named = named_length p.id p.tokens in
    let both = length-append (map (λ (token : Token ℕ). Named p.id token.name) p.tokens) (assets_under ps) in
    omega (arith, rest, here, named, both)

value_length : (coin : ℕ) (ps : List (Policy ℕ)) → length (assets_under ps) ≤ item_length (item_of_value (record { coin = coin; assets = ps }))
value_length coin [] = omega arith
value_length coin (p ∷ ps) = let whole = policies_length (p ∷ ps) in omega (arith, whole)

outputs_length : (os : List Output) (i : ℕ) (o : Output) → slice_get os i ≡ Some o → asset_count o ≤ items_length (items_of (map item_of_output os))
outputs_length [] i o is = absurd cc
outputs_length (x ∷ xs) zero o is =
    let same : x ≡ o = cc in
    let here = value_length x.value.coin x.value.assets in
    subst (λ (y : Output). asset_count y ≤ items_length (items_of (map item_of_output (x ∷ xs)))) same (omega (arith, here))
outputs_length (x ∷ xs) (suc i) o is = let rest = outputs_length xs i o is in omega (arith, rest)

pub assets_fit : (t : Transaction) (i : ℕ) (o : Output) → slice_get t.outputs i ≡ Some o → asset_count o ≤ size_of t
unfolding size_of
assets_fit t i o is =
    let outputs = outputs_length t.outputs i o is in
    let within : asset_count o ≤ item_length (item_of_transaction t) = omega (arith, outputs) in
    subst (λ (n : ℕ). asset_count o ≤ n) (sym (length_of_text (item_of_transaction t))) within
