use Rattle.std.proofs.Common.{option_map, refl}
use Rattle.block.specs.View.{bytes_of}
use Rattle.script.specs.BaseView.{base_of}
use Rattle.script.proofs.BuiltBlocks.{built_is, out_of_range, too_deep, is_built}
use Rattle.script.proofs.building.build.Goals as goal

pub returns-in-Ok : goal.returns-in-Ok
returns-in-Ok c = built_is (base_of c.args.base) c.args.slot c.in-Some.number c.args.txs.now c.in-Ok.bytes.items (record { number = c.in-Some.number; hash = c.in-Ok.hash.bytes }) c.in-Some.ensures.1 c.in-Ok.ensures.ok refl c.in-Ok.ensures.hash

pub returns-in-Err-OutOfRange : goal.returns-in-Err-OutOfRange
returns-in-Err-OutOfRange c = out_of_range (base_of c.args.base) c.args.slot c.in-Some.number c.args.base.hash c.args.txs.now c.in-Some.ensures.1 (rw c.in-Err-OutOfRange.field-0-is at c.in-Err-OutOfRange.ensures.fault)

pub returns-in-Err-TooDeep : goal.returns-in-Err-TooDeep
returns-in-Err-TooDeep c = too_deep (base_of c.args.base) c.args.slot c.in-Some.number c.in-Err-TooDeep.field-0-0 (option_map bytes_of c.args.base.hash) c.args.txs.now (rw c.in-Err-TooDeep.field-0-is at c.in-Err-TooDeep.ensures.fault)

pub returns-in-Err-OutOfMemory : goal.returns-in-Err-OutOfMemory
returns-in-Err-OutOfMemory c = is_built (base_of c.args.base) c.args.slot c.in-Some.number (option_map bytes_of c.args.base.hash) c.args.txs.now c.in-Some.ensures.1 (rw c.in-Err-OutOfMemory.field-0-is at c.in-Err-OutOfMemory.ensures.fault)
