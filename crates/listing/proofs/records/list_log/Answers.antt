use Rattle.std.proofs.Common.{length, take, sym, ap, ◌∙◌, arith}
use Rattle.std.specs.Prelude.{IfSome}
use Rattle.std.proofs.lemmas.Result.{err_from_is_err_and}
use Rattle.listing.specs.Listings.{PrintsLog}
use Rattle.listing.proofs.Listed.{starts, more_listed, end_answered, all_foreign, all_vain, all_outside, read_fails, no_memory, room_is, refused_listed}
use Rattle.listing.proofs.records.list_log.Goals as goal

pub returns-in_default-clause-fault : goal.returns-in_default-clause-fault
returns-in_default-clause-fault g c = no_memory (g.R.Read.remaining c.args.reader.now)

pub records-init : goal.records-init
records-init g c = record {
  room = let l = c.in-Ok.ensures.len in omega arith;
  listed = starts c.args.form (g.R.Read.remaining c.args.reader.now) (g.W.Write.contents c.args.out.now);
}

pub read_part-requires : goal.read_part-requires
read_part-requires g c = record { room = let e = ap length c.deref_mut.ensures.value in let r = c.records.invariant.room in omega arith }

pub returns-in_default-read_part-clause-fault : goal.returns-in_default-read_part-clause-fault
returns-in_default-read_part-clause-fault g c = read_fails (g.R.Read.remaining c.args.reader.now)

pub returns-in-End-clause-listed : goal.returns-in-End-clause-listed
returns-in-End-clause-listed g c =
    end_answered c.args.form c.print_end.result (g.R.Read.remaining c.args.reader.now) (g.R.Read.remaining c.records.reader) (g.R.Read.remaining c.read_part.new.reader) c.records.number c.records.place c.read_part.new.room c.in-End.end (g.W.Write.contents c.args.out.now) (g.W.Write.contents c.records.out) (g.W.Write.contents c.print_end.new.out)
    c.records.invariant.listed (rw c.in-End.is at c.in-Ok-read_part.ensures.part) c.print_end.ensures.ok

pub returns-in-End-clause-fault : goal.returns-in-End-clause-fault
returns-in-End-clause-fault g c =
    all_foreign c.args.form (g.R.Read.remaining c.args.reader.now) (g.R.Read.remaining c.records.reader) (g.R.Read.remaining c.read_part.new.reader) c.records.number c.records.place c.read_part.new.room c.in-End.end (g.W.Write.contents c.args.out.now) (g.W.Write.contents c.records.out) c.print_end.result
    c.records.invariant.listed (rw c.in-End.is at c.in-Ok-read_part.ensures.part) c.print_end.ensures.fault

pub returns-in-Vain-clause-fault : goal.returns-in-Vain-clause-fault
returns-in-Vain-clause-fault g c =
    all_vain c.args.form (g.R.Read.remaining c.args.reader.now) (g.R.Read.remaining c.records.reader) (g.R.Read.remaining c.read_part.new.reader) c.records.number c.records.place c.read_part.new.room (g.W.Write.contents c.args.out.now) (g.W.Write.contents c.records.out)
    c.records.invariant.listed (rw c.in-Vain.is at c.in-Ok-read_part.ensures.part)

pub overflow_add-len : goal.overflow_add-len
overflow_add-len g c = let s = rw c.in-Record.is at c.in-Ok-read_part.ensures.small in let t = s.1 in omega arith

pub returns-in_default-checked_add-clause-fault : goal.returns-in_default-checked_add-clause-fault
returns-in_default-checked_add-clause-fault g c = read_fails (g.R.Read.remaining c.args.reader.now)

pub block_in-requires-clause-head : goal.block_in-requires-clause-head
block_in-requires-clause-head g c = let s = rw c.in-Record.is at c.in-Ok-read_part.ensures.small in s.0

pub block_in-requires-clause-within : goal.block_in-requires-clause-within
block_in-requires-clause-within g c =
    let s = rw c.in-Record.is at c.in-Ok-read_part.ensures.small in
    let t = s.1 in
    let same = room_is c.records.room.len c.read_part.new.room c.records.room.items (c.read_part.ensures.len ∙ (ap length c.deref_mut.ensures.value ∙ sym c.records.room.ok.0)) in
    omega (arith, t, ap length (c.deref.ensures.value ∙ same), c.read_part.ensures.len, ap length c.deref_mut.ensures.value, c.records.invariant.room)

pub returns-in_err-print_record-in-Record-clause-listed : goal.returns-in_err-print_record-in-Record-clause-listed
returns-in_err-print_record-in-Record-clause-listed g c =
    refused_listed c.from_residual.result (err_from_is_err_and c.from_residual.result c.from_residual.ensures.1) (IfSome (g.R.Read.remaining c.args.reader.now) (λ bytes. PrintsLog c.args.form bytes (g.W.Write.contents c.args.out.now) (g.W.Write.contents c.print_record.new.out)))

pub returns-in_err-print_record-in-Record-clause-fault : goal.returns-in_err-print_record-in-Record-clause-fault
returns-in_err-print_record-in-Record-clause-fault g c =
    let p = err_from_is_err_and c.from_residual.result c.from_residual.ensures.1 in
    rw (p.1, p.2) (all_outside (g.R.Read.remaining c.args.reader.now) c.in_err-print_record-in-Record.field-0.0 c.in_err-print_record-in-Record.ensures.fault)

pub records-preserved : goal.records-preserved
records-preserved g c =
    let same = room_is c.records.room.len c.read_part.new.room c.records.room.items (c.read_part.ensures.len ∙ (ap length c.deref_mut.ensures.value ∙ sym c.records.room.ok.0)) in
    record {
      room = omega (arith, ap length same, c.read_part.ensures.len, ap length c.deref_mut.ensures.value, c.records.invariant.room);
      listed = more_listed c.args.form (g.R.Read.remaining c.args.reader.now) (g.R.Read.remaining c.records.reader) (g.R.Read.remaining c.read_part.new.reader) c.records.number c.records.place c.in-Record.len c.in-Some.next c.read_part.new.room c.block_in.result.now (g.W.Write.contents c.args.out.now) (g.W.Write.contents c.records.out) (g.W.Write.contents c.print_record.new.out)
          c.records.invariant.listed (rw c.in-Record.is at c.in-Ok-read_part.ensures.part)
          (λ b held. c.block_in.ensures b (ap (take c.in-Record.len) (c.deref.ensures.value ∙ same) ∙ held))
          c.in-Some.ensures.1 c.in_ok-print_record-in-Record.ensures.ok;
    }

pub returns-clause-fault : goal.returns-clause-fault
returns-clause-fault g c = read_fails (g.R.Read.remaining c.args.reader.now)
