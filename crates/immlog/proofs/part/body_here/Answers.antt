use Rattle.std.proofs.Common.{◌≡◌, ◌++◌, List, ℕ, take, drop, sym, ◌∙◌, subst, arith, length-append}
use Rattle.std.specs.Io.KnownBytes.{Consumes}
use Rattle.std.proofs.lemmas.List.{length-take-le, take-append-le, take_all}
use Rattle.immlog.specs.Frames.{NoRecordBehind}
use Rattle.immlog.specs.Left.{HasRecord, TellsLength}
use Rattle.immlog.proofs.Looking.{none_left, untold, here_of, body_some, body_none}
use Rattle.immlog.proofs.part.body_here.Goals as goal

pub slice_bounds-fill-end-2 : goal.slice_bounds-fill-end-2
slice_bounds-fill-end-2 g c = sym (length-take-le 36 c.args.room.now (omega (arith, c.requires.room)))

pub returns-then-branch-lt-HEAD-clause-body : goal.returns-then-branch-lt-HEAD-clause-body
returns-then-branch-lt-HEAD-clause-body g c =
    none_left (g.R.Read.remaining c.args.reader.now) (g.R.Read.remaining c.fill.new.reader) c.fill.new.room c.in_ok-fill.field-0 (c.fill.ensures.len ∙ length-take-le 36 c.args.room.now (omega (arith, c.requires.room))) c.if-branch-lt-HEAD.true c.in_ok-fill.ensures.filled

pub slice_bounds-told_length-end-2 : goal.slice_bounds-told_length-end-2
slice_bounds-told_length-end-2 g c =
    let long = c.fill.ensures.len ∙ length-take-le 36 c.args.room.now (omega (arith, c.requires.room)) in
    sym (length-take-le 36 (c.fill.new.room ++ drop 36 c.args.room.now) (omega (arith, long, length-append c.fill.new.room (drop 36 c.args.room.now))))

pub returns-in_default-clause-body : goal.returns-in_default-clause-body
returns-in_default-clause-body g c =
    let head = c.fill.new.room in
    let o = g.R.Read.remaining c.args.reader.now in
    let m = g.R.Read.remaining c.fill.new.reader in
    let long = c.fill.ensures.len ∙ length-take-le 36 c.args.room.now (omega (arith, c.requires.room)) in
    let front : take 36 (head ++ drop 36 c.args.room.now) ≡ head = take-append-le 36 head (drop 36 c.args.room.now) (omega (arith, long)) ∙ take_all 36 head (omega (arith, long)) in
    let one : Consumes o m head = subst (Consumes o m) (take_all c.in_ok-fill.field-0 head (omega (arith, long, c.if-branch-lt-HEAD.false))) c.in_ok-fill.ensures.filled.taken in
    untold o m m head long (subst (λ (l : List ℕ). (len : ℕ) → TellsLength l len → ⊥) front c.in_default.ensures) one

pub returns-in-Some-whole_record-clause-body : goal.returns-in-Some-whole_record-clause-body
returns-in-Some-whole_record-clause-body g c =
    let head = c.fill.new.room in
    let part = c.fill-2.new.room in
    let size = c.in-Some.size in
    let count = c.in_ok-count.field-0 in
    let o = g.R.Read.remaining c.args.reader.now in
    let m = g.R.Read.remaining c.fill.new.reader in
    let long = c.fill.ensures.len ∙ length-take-le 36 c.args.room.now (omega (arith, c.requires.room)) in
    let here = here_of head c.args.room.now part size count long (let w = c.in-Some.ensures.within in omega (arith, c.requires.room, w)) c.fill-2.ensures.len c.in_ok-count.ensures.filled.within in
    let tells : TellsLength head size = subst (λ (l : List ℕ). TellsLength l size) here.head_is c.in-Some.ensures in
    let one : Consumes o m head = subst (Consumes o m) (take_all c.in_ok-fill.field-0 head (omega (arith, long, c.if-branch-lt-HEAD.false))) c.in_ok-fill.ensures.filled.taken in
    body_some o m (g.R.Read.remaining c.fill-2.new.reader) head part _ c.in-Some-whole_record.field-0.now size count here.front_is long here.part_is tells one c.in_ok-count.ensures.filled
    (subst (λ (l : List ℕ). HasRecord l c.in-Some-whole_record.field-0.now) here.front_is c.in-Some-whole_record.ensures)

pub returns-in-None-clause-body : goal.returns-in-None-clause-body
returns-in-None-clause-body g c =
    let head = c.fill.new.room in
    let part = c.fill-2.new.room in
    let size = c.in-Some.size in
    let count = c.in_ok-count.field-0 in
    let o = g.R.Read.remaining c.args.reader.now in
    let m = g.R.Read.remaining c.fill.new.reader in
    let long = c.fill.ensures.len ∙ length-take-le 36 c.args.room.now (omega (arith, c.requires.room)) in
    let here = here_of head c.args.room.now part size count long (let w = c.in-Some.ensures.within in omega (arith, c.requires.room, w)) c.fill-2.ensures.len c.in_ok-count.ensures.filled.within in
    let tells : TellsLength head size = subst (λ (l : List ℕ). TellsLength l size) here.head_is c.in-Some.ensures in
    let one : Consumes o m head = subst (Consumes o m) (take_all c.in_ok-fill.field-0 head (omega (arith, long, c.if-branch-lt-HEAD.false))) c.in_ok-fill.ensures.filled.taken in
    body_none o m (g.R.Read.remaining c.fill-2.new.reader) head part size count long here.part_is tells one c.in_ok-count.ensures.filled
    (subst NoRecordBehind here.front_is c.in-None.ensures)
