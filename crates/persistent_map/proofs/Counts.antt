-- A change of a key keeps the order, and changes the number of entries by whether the key was there.
use Rattle.std.proofs.Common.{◌≡◌, ◌+◌, Bool, cond, not, List, length, is_some, refl, sym, ap, ◌∙◌}
use Rattle.std.specs.declared.cmp.Ordering.{Ordering}
use Rattle.std.specs.declared.option.Option.{Option}
use Rattle.std.specs.declared.option.Option.TheVariants.{None, Some}
use Rattle.std.specs.Option.{option_map}
use Rattle.std.specs.Ordering.{eq_by_cmp}
use Rattle.std.specs.Cmp.{IsTotalOrder}
use Rattle.std.specs.FinMap.{find, put}
use Rattle.std.specs.FinMap.Entries.{is_sorted-put, is_sorted-where_key, length-put, length_without}
use Rattle.persistent_map.specs.Order.{Rise, without}

is_some-option_map : {A B : Type 0} (f : A → B) (a : Option A) → is_some (option_map f a) ≡ is_some a
is_some-option_map f None = refl
is_some-option_map f (Some x) = refl

module _ {K V : Type 0} (R : K → K → Ordering) where
  pub without_rises : (q : K) (es : List (K × V)) → Rise R es → Rise R (without R q es)
  without_rises q es h = record { rises = is_sorted-where_key R (λ k. not (eq_by_cmp R q k)) es h.rises }

module _ {K V : Type 0} {R : K → K → Ordering} (o : IsTotalOrder R) where
  pub put_rises : (k : K) (v : V) (es : List (K × V)) → Rise R es → Rise R (put R k v es)
  put_rises k v es h = record { rises = is_sorted-put R o k v es h.rises }

  -- what was found is `old`, through f
  there : {A : Type 0} (f : A → V) (old : Option A) (k : K) (es : List (K × V)) (b : Bool) → option_map f old ≡ find R k es → is_some old ≡ b → is_some (find R k es) ≡ b
  there f old k es b found is = ap is_some (sym found) ∙ is_some-option_map f old ∙ is

  pub put_counts : {A : Type 0} (f : A → V) (old : Option A) (k : K) (v : V) (es : List (K × V)) (b : Bool) → Rise R es → option_map f old ≡ find R k es → is_some old ≡ b
      → length (put R k v es) ≡ cond b (length es) (length es + 1)
  put_counts f old k v es b h found is =
      length-put R o k v es h.rises ∙ ap (λ t. cond t (length es) (length es + 1)) (there f old k es b found is)

  pub without_counts : {A : Type 0} (f : A → V) (old : Option A) (k : K) (es : List (K × V)) (b : Bool) → Rise R es → option_map f old ≡ find R k es → is_some old ≡ b
      → cond b 1 0 + length (without R k es) ≡ length es
  without_counts f old k es b h found is =
      ap (λ t. cond t 1 0 + length (without R k es)) (sym (there f old k es b found is)) ∙ length_without R o k es h.rises
