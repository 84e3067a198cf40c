-- What a line of the code stands for.
use Rattle.script.specs.declared.line.Line.{Line}
use Rattle.script.specs.declared.line.Line.TheVariants as line
use Rattle.script.specs.Line as spec
use Rattle.script.specs.PartView.{owner_of, part_of}
use Rattle.script.specs.PlaceView.{place_of}
use Rattle.script.specs.WordsView.{words_left}

abbrev pub line_of : Line → spec.Line
line_of line.Nothing = spec.Nothing
line_of (line.Key name digits) = spec.DefineKey name.text.now (spec.said_bytes digits.text.now)
line_of (line.Seed name digits) = spec.DefineSeed name.text.now (spec.said_bytes digits.text.now)
line_of (line.Script name digits) = spec.DefineScript name.text.now (spec.said_bytes digits.text.now)
line_of (line.Tx name) = spec.BeginTx name.text.now
line_of (line.Part part) = spec.AddPart (part_of part)
line_of line.End = spec.EndTx
line_of (line.Block name parent slot transactions) =
    spec.DefineBlock name.text.now (place_of parent) slot (words_left transactions.words)
line_of (line.Raw name digits) = spec.DefineRaw name.text.now (spec.said_bytes digits.text.now)
line_of (line.Arrive form name) = spec.Arrive form name.text.now
line_of (line.Submit name) = spec.SubmitTx name.text.now
line_of (line.Forge name slot) = spec.ForgeBlock name.text.now slot
line_of (line.Open name) = spec.OpenFollower name.text.now
line_of (line.Watch name keys) = spec.WatchKeys name.text.now (words_left keys.words)
line_of (line.Next name) = spec.AskNext name.text.now
line_of (line.Forward name points) = spec.AskForward name.text.now (spec.said_places (words_left points.words))
line_of (line.Close name) = spec.CloseFollower name.text.now
line_of (line.Discard name) = spec.DiscardBlock name.text.now
line_of line.Tip = spec.AskTip
line_of line.Mempool = spec.AskMempool
line_of line.Utxo = spec.AskUtxo
line_of (line.Why name) = spec.AskWhy name.text.now
line_of (line.Where name) = spec.AskWhere name.text.now
line_of (line.Balance owner) = spec.AskBalance (owner_of owner)
