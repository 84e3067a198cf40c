-- Lists of entries in the order of their keys. `find`, `put` and `is_sorted` are std's, and R compares keys.
use Rattle.std.specs.Prelude.{◌≡◌, ◌≢◌, not, List, IsSome, T}
use Rattle.std.specs.Ordering.{eq_by_cmp}
use Rattle.std.specs.declared.cmp.Ordering.{Ordering}
use Rattle.std.specs.declared.cmp.Ordering.TheVariants.{Equal}
use Rattle.std.specs.declared.option.Option.{Option}
use Rattle.std.specs.declared.alloc.Global.{Global}
use Rattle.std.specs.declared.sync.Arc.{Arc}
use Rattle.std.specs.Option.{option_map}
use Rattle.std.specs.Arc.{arc_value}
use Rattle.std.specs.FinMap.{find, put, is_sorted}
use Rattle.std.specs.FinMap.Entries.{where_key}

-- the keys strictly rise
pub record Rise {K V : Type 0} (R : K → K → Ordering) (es : List (K × V)) : Type 0 where
  pub rises : T (is_sorted R es)

-- the entries but for that whose key ties with q
abbrev pub without : {K V : Type 0} → (K → K → Ordering) → K → List (K × V) → List (K × V)
without R q es = where_key R (λ k. not (eq_by_cmp R q k)) es

module _ {K V : Type 0} (R : K → K → Ordering) where
  -- where es rises, old is the value of q in it
  abbrev pub WasFound : K → List (K × V) → Option (Arc V Global) → Type 0
  WasFound q es old = Rise R es → option_map arc_value old ≡ find R q es

  -- where es rises, q is in it
  abbrev pub IsThere : K → List (K × V) → Type 0
  IsThere q es = Rise R es → IsSome (find R q es)

  -- where es rises, new is es with v at q
  abbrev pub IsPut : K → V → List (K × V) → List (K × V) → Type 0
  IsPut q v es new = Rise R es → new ≡ put R q v es

  -- where es rises, new is es without q
  abbrev pub IsWithout : K → List (K × V) → List (K × V) → Type 0
  IsWithout q es new = Rise R es → new ≡ without R q es

-- q and k are not equal, and o is how they compare
abbrev pub IsBeside : {K : Type 0} → (K → K → Ordering) → Ordering → K → K → Type 0
IsBeside R o q k = (o ≡ R q k) × (o ≢ Equal)
