-- What a body of the code stands for.
use Rattle.std.specs.Prelude.{map}
use Rattle.tx.specs.Body.{Body}
use Rattle.tx.specs.View.{input_of, output_of}
use Rattle.tx.specs.declared.body.Body.{Body as CodeBody}

abbrev pub body_of : CodeBody → Body
body_of b =
    record {
      inputs = map input_of b.inputs.items;
      outputs = map output_of b.outputs.items;
      fee = b.fee;
      end = b.end;
      start = b.start;
      mint = b.mint;
    }
