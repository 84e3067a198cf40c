use Rattle.std.proofs.Common.{◌≡◌, ℕ, ◌%◌, ◌-◌, ◌/◌, Bool, true, false, eqb, Some, None, Option, sym, refl, ap, ◌∙◌}
use Rattle.std.proofs.Common.{◌&&◌}
use Rattle.std.proofs.Common.{List, ltb, ◌^◌}
use Rattle.std.proofs.Math.Nat.{mod-eq_of_lt}
use Rattle.std.proofs.Common.{inl, inr, ◌≢◌}
use Rattle.std.proofs.Math.Bool.{and-false}
use Rattle.std.proofs.lemmas.Bool.Decides.{eqb_tells}
use Rattle.std.proofs.lemmas.Bool.{ltb-true}
use Rattle.ed25519.specs.Arithmetic.{minus, plus, power, prime, root_of_minus_one, times}
use Rattle.ed25519.specs.Points.{curve_d}
use Rattle.ed25519.specs.Encoding.{little_endian}
use Rattle.ed25519.specs.Decoding.{decoded, point_of, root_candidate, root_near, root_of_ratio, signed_root, with_sign, x_of}
use Rattle.ed25519.specs.declared.point.Point.{Point}

pub candidate : (u v c s x : ℕ) → c ≡ power v 3 → s ≡ power v 7 →
    x ≡ times (times u c) (power (times u s) ((prime - 5) / 8)) → root_near u v x ≡ root_of_ratio u v
unfolding root_of_ratio root_candidate
candidate u v c s x ec es ex =
    ap (root_near u v) (ex ∙ ap (λ (n : ℕ). times (times u n) (power (times u s) ((prime - 5) / 8))) ec
    ∙ ap (λ (n : ℕ). times (times u (power v 3)) (power (times u n) ((prime - 5) / 8))) es)

pub root_first : (u v x t : ℕ) → t ≡ times v (times x x) → eqb t u ≡ true → Some x ≡ root_near u v x
unfolding root_near
root_first u v x t e h =
    let k : eqb (times v (times x x)) u ≡ true = ap (λ (n : ℕ). eqb n u) (sym e) ∙ h in rw k refl

pub root_second : (u v x t : ℕ) → t ≡ times v (times x x) → eqb t u ≡ false → eqb t (minus 0 u) ≡ true →
    Some (times x root_of_minus_one) ≡ root_near u v x
unfolding root_near
root_second u v x t e h g =
    let k : eqb (times v (times x x)) u ≡ false = ap (λ (n : ℕ). eqb n u) (sym e) ∙ h in
    let l : eqb (times v (times x x)) (minus 0 u) ≡ true = ap (λ (n : ℕ). eqb n (minus 0 u)) (sym e) ∙ g in
    rw (k, l) refl

pub root_none : (u v x t : ℕ) → t ≡ times v (times x x) → eqb t u ≡ false → eqb t (minus 0 u) ≡ false →
    None ≡ root_near u v x
unfolding root_near
root_none u v x t e h g =
    let k : eqb (times v (times x x)) u ≡ false = ap (λ (n : ℕ). eqb n u) (sym e) ∙ h in
    let l : eqb (times v (times x x)) (minus 0 u) ≡ false = ap (λ (n : ℕ). eqb n (minus 0 u)) (sym e) ∙ g in
    rw (k, l) refl

pub and_true : (a b r : Bool) → a ≡ true → r ≡ b → r ≡ (a && b)
and_true a b r e f = rw e f

pub and_false : (a b r : Bool) → a ≡ false → r ≡ false → r ≡ (a && b)
and_false a b r e f = rw e f

pub x_some : (y sign yy u v x : ℕ) (r : Option ℕ) → yy ≡ times y y → u ≡ minus yy 1 → v ≡ plus (times curve_d yy) 1 →
    root_of_ratio u v ≡ Some x → r ≡ with_sign x sign → r ≡ x_of y sign
unfolding x_of
x_some y sign yy u v x r ey eu ev ex er =
    er ∙ ap (signed_root sign) (sym ex) ∙ ap (λ (n : ℕ). signed_root sign (root_of_ratio n v)) (eu
    ∙ ap (λ (n : ℕ). minus n 1) ey)
    ∙ ap (λ (n : ℕ). signed_root sign (root_of_ratio (minus (times y y) 1) n)) (ev
    ∙ ap (λ (n : ℕ). plus (times curve_d n) 1) ey)

pub x_none : (y sign yy u v : ℕ) → yy ≡ times y y → u ≡ minus yy 1 → v ≡ plus (times curve_d yy) 1 →
    root_of_ratio u v ≡ None → None ≡ x_of y sign
unfolding x_of
x_none y sign yy u v ey eu ev ex =
    ap (signed_root sign) (sym ex) ∙ ap (λ (n : ℕ). signed_root sign (root_of_ratio n v)) (eu
    ∙ ap (λ (n : ℕ). minus n 1) ey)
    ∙ ap (λ (n : ℕ). signed_root sign (root_of_ratio (minus (times y y) 1) n)) (ev
    ∙ ap (λ (n : ℕ). plus (times curve_d n) 1) ey)

pub decoded_none : (bytes : List ℕ) (n : ℕ) → n ≡ little_endian bytes → ltb (n % 2 ^ 255) prime ≡ false →
    None ≡ decoded bytes
unfolding decoded
decoded_none bytes n e h =
    let k : ltb (little_endian bytes % 2 ^ 255) prime ≡ false = rw e at h in rw k refl

pub decoded_some : (bytes : List ℕ) (n y sign : ℕ) (o : Option ℕ) (r : Option Point) → n ≡ little_endian bytes →
    ltb (n % 2 ^ 255) prime ≡ true →
    y ≡ n % 2 ^ 255 % prime → sign ≡ n / 2 ^ 255 → x_of y sign ≡ o → r ≡ point_of y o → r ≡ decoded bytes
unfolding decoded
decoded_some bytes n y sign o r e h ey es eo er =
    let k : ltb (little_endian bytes % 2 ^ 255) prime ≡ true = rw e at h in
    let f : y ≡ little_endian bytes % 2 ^ 255 = ey ∙ mod-eq_of_lt (ltb-true _ _ h) ∙ ap (λ (m : ℕ). m % 2 ^ 255) e in
    let g : sign ≡ little_endian bytes / 2 ^ 255 = es ∙ ap (λ (m : ℕ). m / 2 ^ 255) e in
    rw k (er ∙ ap (point_of y) (sym eo) ∙ ap (λ (m : ℕ). point_of y (x_of y m)) g
    ∙ ap (λ (m : ℕ). point_of m (x_of m (little_endian bytes / 2 ^ 255))) f)

pub sign_none : (x sign : ℕ) → eqb sign 1 ≡ true → eqb x 0 ≡ true → None ≡ with_sign x sign
unfolding with_sign
sign_none x sign h g = rw (h, g) refl

pub sign_same : (x sign : ℕ) → (eqb sign 1 && eqb x 0) ≡ false → eqb (x % 2) sign ≡ true → Some x ≡ with_sign x sign
unfolding with_sign
sign_same x sign h g = rw (h, g) refl

pub sign_other : (x sign : ℕ) → (eqb sign 1 && eqb x 0) ≡ false → eqb (x % 2) sign ≡ false →
    Some (minus 0 x) ≡ with_sign x sign
unfolding with_sign
sign_other x sign h g = rw (h, g) refl

pub left_false : (a b : Bool) → a ≡ false → (a && b) ≡ false
left_false a b e = rw e refl

pub right_false : (a b : Bool) → b ≡ false → (a && b) ≡ false
right_false a b e = rw e (and-false a)

pub not_equal : (a b : ℕ) → a ≢ b → eqb a b ≡ false
not_equal a b h = elim (eqb_tells a b) [ inl w ↦ absurd (h w.1) | inr w ↦ w.0 ]
