-- What the bytes of a genesis file say.
use Rattle.std.specs.Prelude.{◌≡◌, ◌⊎◌, ◌≤◌, List, ℕ, length, None, IfSome, Result, Ok, Err}
use Rattle.std.specs.Str.{IsUtf8}
use Rattle.model.specs.Genesis.{Genesis}
use Rattle.genesis.specs.declared.genesis_document.GenesisDocument.{GenesisDocument}
use Rattle.genesis.specs.declared.genesis_fault.GenesisFault.{GenesisFault}
use Rattle.genesis.specs.declared.genesis_fault.GenesisFault.TheVariants as faults
use Rattle.genesis.specs.Meaning.{IsAnswer, NamesScheme}
use Rattle.commands.specs.declared.genesis_file.NoGenesis.{NoGenesis}
use Rattle.commands.specs.declared.genesis_file.NoGenesis.TheVariants.{Unread, Fault}
use Rattle.hints.specs.HintView.{Tells}

-- how many bytes a genesis file may have
abbrev pub genesis_size_limit : ℕ
genesis_size_limit = 16777216

-- the answer to bytes: where they are a text the answer to that, and else that they are no TOML
abbrev pub IsFileAnswer : List ℕ → Result Genesis GenesisFault → Type 0
IsFileAnswer bytes answer = (IsUtf8 bytes × IsAnswer bytes answer) ⊎ (¬ (IsUtf8 bytes) × (answer ≡ Err faults.NotToml))

-- the file's bytes, which are not too many, say this genesis, and by which scheme signatures are judged
pub record IsDocumentOfFile (document : GenesisDocument) (bytes : List ℕ) : Type 0 where
  pub size : length bytes ≤ genesis_size_limit
  pub answer : IsFileAnswer bytes (Ok document.genesis)
  pub names : NamesScheme bytes document.scheme

-- no fault of the bytes
abbrev pub IsReadFault : NoGenesis → Type 0
IsReadFault Unread = Unit {0}
IsReadFault (Fault fault hint) = (fault ≡ faults.OutOfMemory) × (hint ≡ None)

-- nothing is told beside the fault
abbrev pub IsUnhinted : NoGenesis → Type 0
IsUnhinted Unread = Unit {0}
IsUnhinted (Fault fault hint) = hint ≡ None

-- why the file's bytes say no genesis: they weren't read, for whatever reason, or have this fault, and what is told
-- beside it is so
abbrev pub IsNoGenesis : NoGenesis → List ℕ → Type 0
IsNoGenesis Unread bytes = Unit {0}
IsNoGenesis (Fault fault hint) bytes =
    (IsFileAnswer bytes (Err fault) ⊎ (fault ≡ faults.OutOfMemory)) × IfSome hint (Tells bytes)
