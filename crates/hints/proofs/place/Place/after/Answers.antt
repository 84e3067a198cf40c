use Rattle.std.proofs.Common.{◌≡◌, ◌+◌, ◌≤◌, ℕ, ◌∷◌, get_or, drop, sym, ap, ◌∙◌, arith}
use Rattle.std.proofs.lemmas.List.{drop_more}
use Rattle.std.proofs.lemmas.Bool.Decides.{nat_tests}
use Rattle.hints.specs.Places.{Place, next_place, place_from}
use Rattle.hints.specs.PlaceView.{place_of}
use Rattle.hints.proofs.place.Place.after.Goals as goal

-- one more byte puts the column or the line on by one at most
on : (p : Place) (byte : ℕ) → (next_place p byte).line + (next_place p byte).column ≤ p.line + p.column + 1
on p byte = grind (arith, nat_tests)

pub next-place-requires : goal.next-place-requires
next-place-requires c = record { line = omega arith; column = omega arith }

pub loop-byte-preserved : goal.loop-byte-preserved
loop-byte-preserved c =
    let all = c.args.bytes.now in
    let i = c.loop-byte.byte-index in
    let p = place_of c.loop-byte.place in
    let split : drop i all ≡ get_or all i 0 ∷ drop (i + 1) all = drop_more all i 0 c.loop-byte-test.true in
    let next : place_from p (drop i all) ≡ place_from (place_of c.next-place.result) (drop (i + 1) all) =
    ap (place_from p) split ∙ ap (λ (q : Place). place_from q (drop (i + 1) all)) (sym c.next-place.ensures) in
    let line = ap (λ (q : Place). q.line + q.column) c.next-place.ensures in
    record { goes_on = sym next ∙ c.loop-byte.invariant.goes_on; room = omega (arith, line, on p (get_or all i 0)) }
