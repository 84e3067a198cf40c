-- What timelocks of the code stand for.
use Rattle.std.specs.Prelude.{ℕ, List, [], ◌∷◌}
use Rattle.ident.specs.Kinds.{KeyHash}
use Rattle.model.specs.Script as model
use Rattle.timelock.specs.declared.interval.Interval.{Interval}
use Rattle.timelock.specs.declared.timelock.Timelock.{Timelock}
use Rattle.timelock.specs.declared.timelock.Timelock.TheVariants.{RequireSignature, RequireAllOf, RequireAnyOf}
use Rattle.timelock.specs.declared.timelock.Timelock.TheVariants.{RequireMOf, RequireTimeStart, RequireTimeExpire}

-- a script
abbrev pub timelock_of : Timelock → model.Script
timelock_of (RequireSignature hash) = model.RequireSignature hash.bytes
timelock_of (RequireAllOf members) = model.RequireAllOf members
timelock_of (RequireAnyOf members) = model.RequireAnyOf members
timelock_of (RequireMOf n members) = model.RequireMOf n members
timelock_of (RequireTimeStart slot) = model.RequireTimeStart slot
timelock_of (RequireTimeExpire slot) = model.RequireTimeExpire slot

-- scripts inside another
abbrev pub timelocks_of : List Timelock → model.Scripts
timelocks_of [] = model.NoScripts
timelocks_of (t ∷ ts) = model.NextScript (timelock_of t) (timelocks_of ts)

-- the 32 bytes of a key's hash
abbrev pub key_bytes : KeyHash → List ℕ
key_bytes hash = hash.bytes

-- an interval
abbrev pub interval_of : Interval → model.Interval
interval_of interval = record { start = interval.start; end = interval.end }
