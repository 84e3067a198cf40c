use Rattle.std.proofs.Common.{map, arith}
use Rattle.std.proofs.lemmas.List.{length-map}
use Rattle.std.proofs.lemmas.Result.{on_ok_weaker, on_err_weaker}
use Rattle.model.specs.Value.{entry_of_token}
use Rattle.value.specs.View.{token_of}
use Rattle.cbor.proofs.ForCallers.{kept, kept_on, map_written, whatever_err, head_lacks_room, entries_lack_room}
use Rattle.value.proofs.writer.write_tokens.Goals as goal

pub returns-clause-ok : goal.returns-clause-ok
returns-clause-ok g c =
    let es = map token_of c.args.tokens.now in
    on_ok_weaker c.write_token_list.result (map_written (entry_of_token g.Q.Quantity.item_of) es _ c.args.out.now.items c.write_map.new.out.items c.write_token_list.new.out.items (length-map c.args.tokens.now token_of) c.in_ok-write_map.ensures.ok) c.write_token_list.ensures.ok

pub returns-clause-keeps : goal.returns-clause-keeps
returns-clause-keeps g c = kept_on c.args.out.now.items c.write_map.new.out.items c.write_token_list.new.out.items (kept c.args.out.now.items _ c.write_map.new.out.items c.in_ok-write_map.ensures.ok) c.write_token_list.ensures.keeps

pub returns-in_err-write_map-clause-full : goal.returns-in_err-write_map-clause-full
returns-in_err-write_map-clause-full g c =
    let es = map token_of c.args.tokens.now in
    whatever_err c.from_residual.result _ (head_lacks_room (entry_of_token g.Q.Quantity.item_of) es _ _ _ (length-map c.args.tokens.now token_of) (omega (arith, c.in_err-write_map.ensures.full, c.args.out.now.ok.0)))

pub returns-clause-full : goal.returns-clause-full
returns-clause-full g c =
    let es = map token_of c.args.tokens.now in
    on_err_weaker c.write_token_list.result
    (entries_lack_room (entry_of_token g.Q.Quantity.item_of) c.args.out.now.items c.write_map.new.out.items es _ _ _ (length-map c.args.tokens.now token_of) c.in_ok-write_map.ensures.ok c.in_ok-write_map.ensures.capacity)
    c.write_token_list.ensures.full
