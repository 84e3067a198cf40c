-- What tables of names stand for.
use Rattle.std.specs.Prelude.{◌≡◌, ℕ, List}
use Rattle.byte_keys.specs.ByteKeys.{at_bytes}
use Rattle.script.specs.declared.known.Known.{Known}
use Rattle.script.specs.declared.name_table.NameTable.{NameTable}
use Rattle.script.specs.Names.{Named, AllNames, bound_to}

-- the table has what each of these names is bound to
abbrev pub IsTable : {V : Type 0} → NameTable V → List (Named V) → Type 0
IsTable table names = (name : List ℕ) → at_bytes (λ k. k.items) name table.by_name ≡ bound_to name names

-- the code knows what the parts of a transaction may name
pub record AreKnown (code : Known) (names : AllNames) : Type 0 where
  pub scheme : names.scheme ≡ code.scheme
  pub network : names.network ≡ code.network
  pub of_keys : IsTable code.keys names.of_keys
  pub of_scripts : IsTable code.scripts names.of_scripts
  pub of_txs : IsTable code.txs names.of_txs
