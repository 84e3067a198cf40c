-- The coins of outputs, and their sum.
use Rattle.std.proofs.Common.{◌≡◌, ℕ, ◌<◌, ◌≤◌, ◌+◌, ℤ, pos, negsuc, List, [], ◌∷◌, Some, None, refl, sym, ap, subst, ◌∙◌, arith, nat_lt}
use Rattle.std.specs.Prelude.{◌+ℤ◌, ◌≤ℤ◌, sum_by}
use Rattle.std.specs.List.{AllByRecursion}
use Rattle.std.proofs.lemmas.Option.{same_Some, none-some, cond_some}
use Rattle.std.proofs.lemmas.Bool.Decides.{nat_tests}
use Rattle.std.proofs.lemmas.Int.{ints}
use Rattle.std.proofs.lemmas.List.Sums.{sum_by-cons}
use Rattle.model.specs.Limits.{number_limit}
use Rattle.model.specs.Genesis.{Grant}
use Rattle.genesis.specs.Steps.{each, Paired}
use Rattle.genesis.specs.Document.{Entry}
use Rattle.genesis.specs.Judgement.{within, Placed, grant_of, limited, grants_of}
use Rattle.genesis.specs.Meaning.{HaveCoins, sum_of_coins}
use Rattle.genesis.proofs.Steps.{on_the_way, each_found, paired_weaker}
use Rattle.genesis.proofs.Ranges.{found_within}
use Rattle.genesis.proofs.Places.{IsPlacedOf}

-- the largest sum
abbrev most : ℕ
most = 9223372036854775807

-- how much is granted
abbrev pub coin_of_grant : Grant → ℕ
coin_of_grant grant = grant.coin

-- what is granted is what the output has
pub record IsGranted (placed : Placed) (grant : Grant) : Type 0 where
  pub address : grant.address ≡ placed.address
  pub coin : placed.coin ≡ pos grant.coin
  pub something : 1 ≤ grant.coin

grant_found : (placed : Placed) (grant : Grant) → grant_of placed ≡ Some grant → IsGranted placed grant
grant_found placed grant is =
    let (coin, inside, here) = on_the_way (within 1 most placed.coin) _ grant is in
    let found = found_within 1 most placed.coin coin inside in
    subst (IsGranted placed) (same_Some _ _ here) (record { address = refl; coin = found.same; something = found.within.not_below })

-- what all outputs grant, and that its sum is below the limit
pub grants_found : (placed : List Placed) (grants : List Grant) → grants_of placed ≡ Some grants → Paired IsGranted placed grants × (sum_by coin_of_grant grants < number_limit)
unfolding grants_of
grants_found placed grants is =
    let (found, eachs, here) = on_the_way (each grant_of placed) limited grants is in
    let (test, same) = cond_some (nat_lt (sum_by coin_of_grant found) number_limit) found grants here in
    let below : sum_by coin_of_grant found < number_limit = grind (arith, nat_tests) in
    subst (λ (gs : List Grant). Paired IsGranted placed gs × (sum_by coin_of_grant gs < number_limit)) same
    (paired_weaker (λ p g. grant_of p ≡ Some g) IsGranted placed found grant_found (each_found grant_of placed found eachs), below)

-- the coins that are written are those that are granted, and so is their sum
pub same_sum : (entries : List Entry) (grants : List Grant) → Paired (λ e g. e.coin ≡ pos g.coin) entries grants → sum_of_coins entries ≡ pos (sum_by coin_of_grant grants)
same_sum [] [] all = refl
same_sum (e ∷ es) (g ∷ gs) all = rw (all.0, same_sum es gs all.1, sum_by-cons coin_of_grant g gs) refl
same_sum [] (g ∷ gs) all = absurd all
same_sum (e ∷ es) [] all = absurd all

-- each coin is something: they have a sum, and each is granted where the sum is not above the limit
record HasTotal (entries : List Entry) (placed : List Placed) : Type 0 where
  total : ℕ
  sum : sum_of_coins entries ≡ pos total
  grants : total ≤ most → (gs : List Grant) × (each grant_of placed ≡ Some gs) × (sum_by coin_of_grant gs ≡ total)

natural : (z : ℤ) → pos 1 ≤ℤ z → (n : ℕ) × (z ≡ pos n) × (1 ≤ n)
natural (pos n) is = (n, refl, omega (arith, ints, is))
natural (negsuc n) is = absurd (omega (arith, ints, is))

inside : (n : ℕ) → 1 ≤ n → n ≤ most → within 1 most (pos n) ≡ Some n
inside n low high = grind (arith, nat_tests)

total_of : (network : ℕ) (entries : List Entry) (placed : List Placed) → Paired (IsPlacedOf network) entries placed → AllByRecursion (λ e. pos 1 ≤ℤ e.coin) entries → HasTotal entries placed
total_of network [] [] all each_something = record { total = 0; sum = refl; grants = λ _. ([], refl, refl) }
total_of network (e ∷ es) (p ∷ ps) all each_something =
    let (n, is, low) = natural e.coin each_something.0 in
    let rest = total_of network es ps all.1 each_something.1 in
    record {
      total = n + rest.total;
      sum = ap (λ (z : ℤ). z +ℤ sum_of_coins es) is ∙ ap (λ (z : ℤ). pos n +ℤ z) rest.sum;
      grants = λ fits.
          let (gs, found, sum) = rest.grants (omega arith) in
          let coin : p.coin ≡ pos n = sym all.0.coin ∙ is in
          let here : within 1 most p.coin ≡ Some n = rw coin (inside n low (omega arith)) in
          let g : Grant = record { address = p.address; coin = n } in
          (g ∷ gs, rw (here, found) refl, sum_by-cons coin_of_grant g gs ∙ ap (λ (m : ℕ). n + m) sum);
    }
total_of network [] (p ∷ ps) all each_something = absurd all
total_of network (e ∷ es) [] all each_something = absurd all

-- coins that are something and not too much are granted
pub coins_there : (network : ℕ) (entries : List Entry) (placed : List Placed) → Paired (IsPlacedOf network) entries placed → HaveCoins entries → grants_of placed ≡ None → ⊥
unfolding grants_of
coins_there network entries placed all coins none =
    let sum = total_of network entries placed all coins.something in
    let fits : sum.total ≤ most = omega (arith, ints, rw sum.sum at coins.total) in
    let (gs, found, is) = sum.grants fits in
    let below : sum_by coin_of_grant gs < number_limit = omega (arith, is) in
    let kept : limited gs ≡ Some gs = grind (arith, nat_tests) in
    let some : grants_of placed ≡ Some gs = rw (found, kept) refl in
    none-some gs (sym none ∙ some)
