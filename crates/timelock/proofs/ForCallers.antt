-- What crates above cite of this one's proofs, and no other file.
use Rattle.std.proofs.Common.{ℕ, ◌/◌, ◌≤◌, min, arith}
use Rattle.model.specs.Cbor.{nesting}
use Rattle.model.specs.Script.{item_of_script}
use Rattle.cbor.proofs.ForCallers.{ReadsItem}
use Rattle.timelock.specs.Reading.{nested_script_at}
use Rattle.timelock.proofs.ScriptTexts.{IsWithin, levels_of, script_reads}
use Rattle.timelock.proofs.ScriptClauses.{levels_are, nesting_is}
pub use Rattle.timelock.proofs.ScriptTexts.{IsWithin}

-- a script that nests at most so deep, where that is no deeper than any item
pub nested_script_reads : (depth : ℕ) → depth ≤ 64 → ReadsItem item_of_script (IsWithin depth) depth (nested_script_at depth)
unfolding nested_script_at
nested_script_reads depth le = record {
  takes = λ bytes s rest fits e.
      let t = (script_reads (min (depth / 2) 32)).takes bytes s rest fits e in
      let item = t.0 in
      let within = t.1 in
      (record { takes = item.takes; fits = item.fits; nests = omega (arith, item.nests, levels_are (min (depth / 2) 32)) }, record { shape = within.shape; nests = omega (arith, within.nests, levels_are (min (depth / 2) 32)) });
  again = λ s rest fits p.
      let deep : nesting (item_of_script s) ≤ levels_of (min (depth / 2) 32) = omega (arith, p.nests, nesting_is s, levels_are (min (depth / 2) 32), le) in
      (script_reads (min (depth / 2) 32)).again s rest fits (record { shape = p.shape; nests = deep });
}
