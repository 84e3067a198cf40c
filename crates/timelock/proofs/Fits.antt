-- Which scripts fit, from the scripts inside them.
use Rattle.std.proofs.Common.{◌≡◌, ◌≢◌, ℕ, suc, ◌-◌, ◌^◌, ◌<◌, List, [], ◌∷◌, length, refl, sym, ap, subst, ◌∙◌, arith}
use Rattle.model.specs.Cbor.{items_count}
use Rattle.model.specs.Script.{Scripts, RequireAllOf, RequireAnyOf, RequireMOf, items_of_scripts}
use Rattle.timelock.specs.declared.timelock.Timelock.{Timelock}
use Rattle.timelock.specs.View.{timelocks_of}
use Rattle.timelock.specs.Fitting.{FitsIn, AllFitIn}

count_is : (ts : List Timelock) → items_count (items_of_scripts (timelocks_of ts)) ≡ length ts
count_is [] = refl
count_is (t ∷ ts) = ap suc (count_is ts)

module _ (depth : ℕ) (ts : List Timelock) (ss : Scripts) (same : timelocks_of ts ≡ ss) (some : depth ≢ 0) (all : AllFitIn (depth - 1) (timelocks_of ts)) (counted : length ts < 2 ^ 64) where
  of_these : AllFitIn (depth - 1) ss
  of_these = subst (AllFitIn (depth - 1)) same all

  in_count : items_count (items_of_scripts ss) < 2 ^ 64
  in_count = omega (arith, counted, sym (ap (λ (x : Scripts). items_count (items_of_scripts x)) same) ∙ count_is ts)

  pub all_fits : FitsIn depth (RequireAllOf ss)
  all_fits = record { shape = of_these.shapes; in_range = (omega arith, (omega arith, ((in_count, of_these.in_range), tt))); shallow = omega (arith, of_these.shallow, some) }

  pub any_fits : FitsIn depth (RequireAnyOf ss)
  any_fits = record { shape = of_these.shapes; in_range = (omega arith, (omega arith, ((in_count, of_these.in_range), tt))); shallow = omega (arith, of_these.shallow, some) }

  pub m_fits : (n : ℕ) → n < 2 ^ 64 → FitsIn depth (RequireMOf n ss)
  m_fits n lt = record { shape = of_these.shapes; in_range = (omega arith, (omega arith, (lt, ((in_count, of_these.in_range), tt)))); shallow = omega (arith, of_these.shallow, some) }
