-- How a check ends.
use Rattle.std.specs.Prelude.{◌≡◌, ℕ, ◌<◌, true, List, take, Option, Some, None, Result, Ok, Err, if◌then◌else◌}
use Rattle.model.specs.Signature.{Verifies}
use Rattle.model.specs.Transaction.{Transaction}
use Rattle.model.specs.Utxo.{Utxo}
use Rattle.model.specs.Balance.{is_balanced}
use Rattle.model.specs.Rules.{Params, Reason, NotBalanced, OutputExists, BadSignature, MissingKeyWitness}
use Rattle.model.specs.Rules.{MissingScript, ExtraScript, ScriptFails, reason_number, reasons, passes}
use Rattle.model.specs.Rules.{reason_against, has_free_places, has_good_signatures, are_among, keys_of, scripts_of}
use Rattle.model.specs.Rules.{keys_needed, scripts_needed, scripts_hold}
use Rattle.utxo_rules.specs.declared.reason.Reason.{Reason as CodeReason}
use Rattle.utxo_rules.specs.declared.check_fault.CheckFault.{CheckFault}
use Rattle.utxo_rules.specs.declared.check_fault.CheckFault.TheVariants.{Refused, OutOfMemory}
use Rattle.utxo_rules.specs.View.{reason_of}

-- none of the reasons 1 to 7 is there
abbrev pub PassesEarly : Verifies → Params → Utxo → (slot : ℕ) → Transaction → Type 0
PassesEarly verifies params utxo slot t = (r : Reason) → reason_number r < 8 → passes verifies params utxo slot t r ≡ true

-- a fault of a check: the first reason, or OutOfMemory, which is told only where none of the reasons 1 to 7 applies
abbrev pub IsCheckFault : Verifies → Params → Utxo → (slot : ℕ) → Transaction → CheckFault → Type 0
IsCheckFault verifies params utxo slot t (Refused reason) =
    reason_against verifies params utxo slot t ≡ Some (reason_of reason)
IsCheckFault verifies params utxo slot t OutOfMemory = PassesEarly verifies params utxo slot t

-- ---- the parts of a check

-- the reasons that are looked for before the balance
abbrev pub early_reasons : List Reason
early_reasons = take 7 reasons

-- the reason that is told, if one is
abbrev pub reason_of_result : Result (Unit {0}) CodeReason → Option Reason
reason_of_result (Ok unit) = None
reason_of_result (Err reason) = Some (reason_of reason)

-- the first of the reasons 10 to 14, where these keys and these scripts are needed
unfoldable pub first_of_witnesses : Verifies → (keys scripts : List (List ℕ)) → Transaction → Option Reason
first_of_witnesses verifies keys scripts t =
    if has_good_signatures verifies t then
    (if are_among keys (keys_of t) then
    (if are_among scripts (scripts_of t) then
    (if are_among (scripts_of t) scripts then
    (if scripts_hold t then None else Some ScriptFails)
    else Some ExtraScript)
    else Some MissingScript)
    else Some MissingKeyWitness)
    else Some BadSignature

-- the first of the reasons 8 to 14
unfoldable pub first_of_spending : Verifies → Utxo → Transaction → Option Reason
first_of_spending verifies utxo t =
    if is_balanced utxo t then
    (if has_free_places utxo t then first_of_witnesses verifies (keys_needed utxo t) (scripts_needed utxo t) t
    else Some OutputExists)
    else Some NotBalanced

-- this reason, or none, is what is told; OutOfMemory tells nothing
abbrev pub IsFirstOf : Option Reason → Result (Unit {0}) CheckFault → Type 0
IsFirstOf first (Ok unit) = first ≡ None
IsFirstOf first (Err (Refused reason)) = first ≡ Some (reason_of reason)
IsFirstOf first (Err OutOfMemory) = Unit {0}
