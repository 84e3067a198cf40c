use Rattle.std.proofs.Common.{rules, ◌≡◌, List, [], ◌∷◌, codes, refl, ap, ap₂, ◌∙◌}
use Rattle.hints.specs.GenesisSpots.{Bounded, bounded, range_spot}
use Rattle.hints.specs.SpotView.{bounded_view}
use Rattle.hints.proofs.genesis_spot.numbers_spot.Goals as goal

also : (x y : Bounded) (xs ys : List Bounded) → x ≡ y → xs ≡ ys → (x ∷ xs) ≡ (y ∷ ys)
also x y xs ys first rest = ap₂ (λ (z : Bounded) (zs : List Bounded). z ∷ zs) first rest

pub returns : goal.returns
returns c =
    let n = c.args.numbers.now in
    let a : bounded_view c.new.result ≡ bounded (codes "network") 0 15 n.network = search rules in
    let b : bounded_view c.new-2.result ≡ bounded (codes "k") 1 10000 n.k = search rules in
    let d : bounded_view c.new-3.result ≡ bounded (codes "min_fee_a") 0 1000000 n.min_fee_a = search rules in
    let e : bounded_view c.new-4.result ≡ bounded (codes "min_fee_b") 0 1000000000000 n.min_fee_b = search rules in
    let f : bounded_view c.new-5.result ≡ bounded (codes "min_utxo") 0 1000000000000 n.min_utxo = search rules in
    let g : bounded_view c.new-6.result ≡ bounded (codes "max_tx_size") 1 65536 n.max_tx_size = search rules in
    let h : bounded_view c.new-7.result ≡ bounded (codes "max_body_size") 1 1048000 n.max_body_size = search rules in
    let i : bounded_view c.new-8.result ≡ bounded (codes "max_volatile") 1 100000 n.max_volatile = search rules in
    let j : bounded_view c.new-9.result ≡ bounded (codes "max_mempool") 1 100000 n.max_mempool = search rules in
    c.first_outside.ensures ∙ ap range_spot
    (also _ _ _ _ a (also _ _ _ _ b (also _ _ _ _ d (also _ _ _ _ e (also _ _ _ _ f (also _ _ _ _ g (also _ _ _ _ h (also _ _ _ _ i (also _ _ [] [] j refl)))))))))
