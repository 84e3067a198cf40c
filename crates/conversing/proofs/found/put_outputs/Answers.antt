use Rattle.conversing.specs.Found.{output_text}
use Rattle.conversing.proofs.ListLaws.{none_listed, one_listed, all_listed}
use Rattle.conversing.proofs.found.put_outputs.Goals as goal

pub loop-output-init : goal.loop-output-init
loop-output-init c = none_listed output_text c.args.line.now.items c.args.outputs.now c.extend_from_slice.new.self.items c.as_slice-separator.result.now c.in_ok-extend_from_slice.ensures.items c.as_slice-separator.ensures

pub loop-output-preserved : goal.loop-output-preserved
loop-output-preserved c =
    one_listed output_text c.args.line.now.items c.args.outputs.now c.loop-output.line.items c.extend_from_slice-in-loop-output.new.self.items c.put_output.new.line.items c.loop-output.separator.now c.as_slice-separator-in-loop-output.result.now c.loop-output.output-index _
    c.loop-output-test.true c.in_ok-extend_from_slice-2.ensures.items c.in_ok-put_output.ensures c.as_slice-separator-in-loop-output.ensures c.loop-output.invariant

pub returns : goal.returns
returns c = all_listed output_text c.args.line.now.items c.args.outputs.now c.extend_from_slice-2.result c.loop-output.line.items c.extend_from_slice-2.new.self.items c.loop-output.separator.now c.loop-output.output-index
    c.loop-output-test.false c.extend_from_slice-2.ensures.items c.loop-output.invariant
