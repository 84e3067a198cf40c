-- The status that a job ends with.
use Rattle.std.specs.Prelude.{ℕ, Option, Some, Result, Ok, Err}
use Rattle.telling.specs.declared.verdict.Verdict.{Verdict}
use Rattle.telling.specs.declared.verdict.Verdict.TheVariants.{NotValid}

-- 0 where it was done, unless it asks whether something is valid that isn't; and else 1
abbrev pub status_of : {F : Type 0} → Result (Option Verdict) F → ℕ
status_of (Ok (Some NotValid)) = 1
status_of (Ok verdict) = 0
status_of (Err failure) = 1
