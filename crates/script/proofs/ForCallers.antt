-- What crates above cite of this one's proofs, and no other file: a line that has a meaning has no fault.
use Rattle.std.proofs.Common.{◌≡◌, ℕ, List, Option, Some, None, Result, Ok, Err, sym, ◌∙◌}
use Rattle.model.specs.Script.{Script}
use Rattle.script.specs.declared.fault.LineFault.{LineFault}
use Rattle.script.specs.Line.{Line, Nothing, DefineKey, DefineSeed, DefineScript, BeginTx, AddPart, EndTx, DefineBlock, DefineRaw, Arrive, SubmitTx, ForgeBlock, OpenFollower, WatchKeys, AskNext, AskForward, CloseFollower, DiscardBlock, AskTip, AskMempool, AskUtxo, AskWhy, AskWhere, AskBalance}
use Rattle.script.specs.Names.{AllNames, OpenTx, bound_to}
use Rattle.script.specs.Meaning.{Meaning, Means, MeansLine, MeansScript, parse_within}

no_both : (said : Result Meaning LineFault) (m : Meaning) (fault : LineFault) → said ≡ Ok m → said ≡ Err fault → ⊥
no_both said m fault is also = let same : ◌≡◌ {A = Result Meaning LineFault} (Ok m) (Err fault) = sym is ∙ also in cc

never_script : (found : Option Script) (name bytes : List ℕ) (m : Meaning) (fault : LineFault) → MeansScript found name bytes (Ok m) → MeansScript found name bytes (Err fault) → ⊥
never_script (Some taken) name bytes m fault is also = cc
never_script None name bytes m fault is also = also.1 is.0 is.1

never_line : (number : ℕ) (names : AllNames) (making : Option OpenTx) (said : Option Line) (m : Meaning) (fault : LineFault) → MeansLine number names making said (Ok m) → MeansLine number names making said (Err fault) → ⊥
never_line number names making None m fault is also = cc
never_line number names (Some made) (Some line) m fault is also = no_both _ m fault is also
never_line number names None (Some Nothing) m fault is also = no_both _ m fault is also
never_line number names None (Some (DefineKey name bytes)) m fault is also = no_both _ m fault is also
never_line number names None (Some (DefineSeed name bytes)) m fault is also = no_both _ m fault is also
never_line number names None (Some (DefineScript name bytes)) m fault is also = never_script (bound_to name names.of_scripts) name bytes m fault is also
never_line number names None (Some (BeginTx name)) m fault is also = no_both _ m fault is also
never_line number names None (Some (AddPart part)) m fault is also = no_both _ m fault is also
never_line number names None (Some EndTx) m fault is also = no_both _ m fault is also
never_line number names None (Some (DefineBlock name parent slot txs)) m fault is also = no_both _ m fault is also
never_line number names None (Some (DefineRaw name bytes)) m fault is also = no_both _ m fault is also
never_line number names None (Some (Arrive form name)) m fault is also = no_both _ m fault is also
never_line number names None (Some (SubmitTx name)) m fault is also = no_both _ m fault is also
never_line number names None (Some (ForgeBlock name slot)) m fault is also = no_both _ m fault is also
never_line number names None (Some (OpenFollower name)) m fault is also = no_both _ m fault is also
never_line number names None (Some (WatchKeys name keys)) m fault is also = no_both _ m fault is also
never_line number names None (Some (AskNext name)) m fault is also = no_both _ m fault is also
never_line number names None (Some (AskForward name places)) m fault is also = no_both _ m fault is also
never_line number names None (Some (CloseFollower name)) m fault is also = no_both _ m fault is also
never_line number names None (Some (DiscardBlock name)) m fault is also = no_both _ m fault is also
never_line number names None (Some AskTip) m fault is also = no_both _ m fault is also
never_line number names None (Some AskMempool) m fault is also = no_both _ m fault is also
never_line number names None (Some AskUtxo) m fault is also = no_both _ m fault is also
never_line number names None (Some (AskWhy name)) m fault is also = no_both _ m fault is also
never_line number names None (Some (AskWhere name)) m fault is also = no_both _ m fault is also
never_line number names None (Some (AskBalance owner)) m fault is also = no_both _ m fault is also

-- a line that has a meaning has no fault
pub never_both : (number before : ℕ) (names : AllNames) (line : List ℕ) (m : Meaning) (fault : LineFault) → Means number before names line (Ok m) → Means number before names line (Err fault) → ⊥
never_both number before names line m fault is also = never_line number names names.making (parse_within before line) m fault is also
