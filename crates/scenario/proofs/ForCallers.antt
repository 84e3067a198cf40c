-- What callers cite of this crate's proofs: a run that ended before its first line.
use Rattle.std.proofs.Common.{◌≡◌, ℕ, List, [], ◌∷◌, ◌++◌, Option, Some, None, refl, inl}
use Rattle.std.specs.Prelude.{IfSome}
use Rattle.model.specs.Ledger.{Network}
use Rattle.model.specs.Chain.{IsOpening}
use Rattle.model.specs.History.{opening}
use Rattle.scenario.specs.declared.options.Options.{Options}
use Rattle.scenario.specs.declared.fault.ScenarioFault.TheVariants.{OutOfMemory}
use Rattle.script.specs.Text.{lines_of}
use Rattle.scenario.specs.Run.{opening_scene, EndsBy}
use Rattle.scenario.proofs.Histories.{obeyed}
use Rattle.scenario.proofs.Lines.{line_stops}
use Rattle.scenario.proofs.WrittenParts.{appends_none}

none_ends : (content : List ℕ) → [] ≡ content ++ 10 ∷ [] → ⊥
none_ends [] e = cc
none_ends (x ∷ xs) e = cc

-- memory ran out before anything was read
pub not_begun : (options : Options) (network : Network) → IsOpening network → (text : List ℕ) (written : Option (List ℕ)) → EndsBy options network text (Some text) written written OutOfMemory
not_begun options network opens text written = record {
  opens = opens;
  end = opening network;
  ends = record {
    left = text;
    remains = refl;
    out = [];
    written = appends_none written;
    is_fault = record {
      broken = record { lines = []; after = lines_of text; begins = refl; more = []; piece = line_stops []; read = refl; obeyed = obeyed options network (opening network) [] [] [] (opening_scene options.scheme network) (refl, refl, refl) };
      has_no_fault = λ content whole. absurd (none_ends content whole);
      is_end = inl refl;
    };
  };
}

-- the same of a reader's text, where it is known
pub none_begun : (options : Options) (network : Network) → IsOpening network → (text written : Option (List ℕ)) → IfSome text (λ t. EndsBy options network t text written written OutOfMemory)
none_begun options network opens None written = tt
none_begun options network opens (Some t) written = not_begun options network opens t written
