use Rattle.script.proofs.Bindings.{table_more}
use Rattle.script.proofs.name_table.NameTable.bind.Goals as goal

pub returns : goal.returns
returns g c = λ names table free. table_more c.args.self.now (record { by_name = c.insert.new.self }) names c.args.name c.args.value c.in_ok-insert.ensures.entries table free
