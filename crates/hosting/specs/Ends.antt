-- How a node that stays ends.
use Rattle.std.specs.Prelude.{Bool, true, false, Result, Ok, Err}
use Rattle.immlog.specs.declared.faults.AppendFault.{AppendFault}
use Rattle.immlog.specs.declared.faults.AppendFault.TheVariants as append
use Rattle.hosting.specs.declared.hosting.HostFault.{HostFault}
use Rattle.hosting.specs.declared.hosting.HostFault.TheVariants.{OutOfMemory, LogFault}

-- as its last flush did, where memory hasn't run out for an arrival
abbrev pub end_of : (is_short : Bool) → Result (Unit {0}) AppendFault → Result (Unit {0}) HostFault
end_of false (Ok done) = Ok done
end_of true (Ok done) = Err OutOfMemory
end_of is_short (Err append.OutOfMemory) = Err OutOfMemory
end_of is_short (Err append.Broken) = Err LogFault
end_of is_short (Err append.DiskFault) = Err LogFault
