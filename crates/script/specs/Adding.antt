-- What comes of adding a part to a transaction in the making.
use Rattle.std.specs.Prelude.{◌≡◌, Bool, IsTrue, List, map, Option, Some, None, IsSome, Result, Ok, Err}
use Rattle.std.specs.Global.{Vec}
use Rattle.draft.specs.Draft.{Draft}
use Rattle.draft.specs.View.{IsDraftOf}
use Rattle.draft.specs.declared.draft.Draft.{Draft as CodeDraft}
use Rattle.draft.specs.declared.draft_fault.DraftFault.{DraftFault}
use Rattle.draft.specs.declared.draft_fault.DraftFault.TheVariants as draft
use Rattle.script.specs.declared.fault.LineFault.{LineFault}
use Rattle.script.specs.declared.fault.LineFault.TheVariants.{NotBuilt, UnknownName}
use Rattle.script.specs.declared.stop.Stop.{Stop}
use Rattle.script.specs.declared.stop.Stop.TheVariants.{Fault, OutOfMemory}
use Rattle.script.specs.declared.key_signer.KeySigner.{KeySigner}
use Rattle.script.specs.SignerView.{key_signer_of}

-- why a line is not run whose part is not added
abbrev pub stop_of : DraftFault → Stop
stop_of draft.NotBuilt = Fault NotBuilt
stop_of draft.OutOfMemory = OutOfMemory

-- What came of a part: the draft with it; its fault, which leaves the draft; or that memory ran out, and that it has no
-- fault but, where it is late, the one that only memory tells.
abbrev pub IsPartAdded : Result Draft LineFault → (late : Bool) → Draft → CodeDraft KeySigner → Result Unit Stop
    → Type 0
IsPartAdded said late d new (Ok done) =
    (with_part : Draft) × (said ≡ Ok with_part) × IsDraftOf key_signer_of new with_part
IsPartAdded said late d new (Err (Fault fault)) = (said ≡ Err fault) × IsDraftOf key_signer_of new d
IsPartAdded said late d new (Err OutOfMemory) =
    (fault : LineFault) → said ≡ Err fault → (fault ≡ NotBuilt) × IsTrue late

-- what was gathered of names: what is wanted, seen by a view of it; or one of them is unknown; or memory ran out
abbrev pub AreGathered : {X Y : Type 0} → (X → Y) → Option (List Y) → Result (Vec X) Stop → Type 0
AreGathered view wanted (Ok items) = wanted ≡ Some (map view items.items)
AreGathered view wanted (Err (Fault fault)) = (fault ≡ UnknownName) × (wanted ≡ None)
AreGathered view wanted (Err OutOfMemory) = Unit {0}

-- the same where memory runs out only if all are known
abbrev pub AreFound : {X Y : Type 0} → (X → Y) → Option (List Y) → Result (Vec X) Stop → Type 0
AreFound view wanted (Ok items) = wanted ≡ Some (map view items.items)
AreFound view wanted (Err (Fault fault)) = (fault ≡ UnknownName) × (wanted ≡ None)
AreFound view wanted (Err OutOfMemory) = IsSome wanted
