use Rattle.std.proofs.Common.{◌≡◌, ◌+◌, ◌≤◌, ◌++◌, ℕ, List, take, drop, arith, sym, ◌∙◌, ap, subst, append_assoc}
use Rattle.model.specs.Limits.{block_size_limit}
use Rattle.model.specs.Log.{IsDamaged}
use Rattle.immlog.specs.Index.{blocks_in}
use Rattle.immlog.proofs.Turns.{all_found, damage_found, get_behind, lent_back}
use Rattle.immlog.proofs.Turns.{turn_read, turn_found, turn_goes_on, last_turn, open_at, closed_at, is_open, is_other}
use Rattle.immlog.proofs.recover.find_records.Goals as goal

pub loop-count-smaller : goal.loop-count-smaller
loop-count-smaller g c =
    let was = c.loop-count.invariant in
    let disk = g.D.Disk.reads c.args.disk.now in
    let room = c.loop-count.room in
    let count = c.in-Ok-read.count in
    let added = c.in-Ok-add_records.ensures.added in
    let turn = turn_read disk (g.D.Disk.reads c.loop-count.disk) room.items c.deref_mut.result.now c.read.new.into c.deref.result.now c.loop-count.gate count room.len was.same c.deref_mut.ensures.value (sym room.ok.0) c.in-Ok-read.ensures.given c.deref.ensures.value in
    let found = turn_found disk (take count c.deref.result.now) c.loop-count.gate c.in-Ok-add_records.next count (blocks_in c.loop-count.index) added.0 (blocks_in c.add_records.new.index) was.found turn.bytes_are added.1 added.2 c.in-Ok-add_records.ensures.next in
    omega (arith, found.within, found.place_is, was.found.place_is, turn_goes_on (blocks_in c.loop-count.index) added.0 (blocks_in c.add_records.new.index) added.2, c.if-next-gate.false)

pub loop-count-preserved : goal.loop-count-preserved
loop-count-preserved g c =
    let was = c.loop-count.invariant in
    let disk = g.D.Disk.reads c.args.disk.now in
    let room = c.loop-count.room in
    let count = c.in-Ok-read.count in
    let old = blocks_in c.loop-count.index in
    let given = g.K.Sink.given c.args.sink.now in
    let added = c.in-Ok-add_records.ensures.added in
    let turn = turn_read disk (g.D.Disk.reads c.loop-count.disk) room.items c.deref_mut.result.now c.read.new.into c.deref.result.now c.loop-count.gate count room.len was.same c.deref_mut.ensures.value (sym room.ok.0) c.in-Ok-read.ensures.given c.deref.ensures.value in
    record {
      found = turn_found disk (take count c.deref.result.now) c.loop-count.gate c.in-Ok-add_records.next count old added.0 (blocks_in c.add_records.new.index) was.found turn.bytes_are added.1 added.2 c.in-Ok-add_records.ensures.next;
      entries = c.in-Ok-add_records.ensures.entries;
      given = added.3 ∙ (ap (λ (l : List (List ℕ)). l ++ added.0) was.given ∙ (append_assoc given old added.0 ∙ ap (λ (l : List (List ℕ)). given ++ l) (sym added.2)));
      kept = c.in-Ok-add_records.ensures.kept ∙ was.kept;
      room = subst (λ (n : ℕ). block_size_limit + 37 ≤ n) (sym room.ok.0 ∙ sym (lent_back room.len _ room.items (sym room.ok.0))) was.room;
      same = c.in-Ok-read.ensures.same ∙ was.same;
      still = c.in-Ok-read.ensures.still ∙ was.still;
      clock = c.in-Ok-read.ensures.clock ∙ was.clock;
      failures = c.in-Ok-read.ensures.failures.worked ∙ was.failures;
    }

pub returns-then-eq-clause-damaged : goal.returns-then-eq-clause-damaged
returns-then-eq-clause-damaged g c = λ place is.
    let was = c.loop-count.invariant in
    let disk = g.D.Disk.reads c.args.disk.now in
    let room = c.loop-count.room in
    let count = c.in-Ok-read.count in
    let gate = c.loop-count.gate in
    let old = blocks_in c.loop-count.index in
    let added = c.in-Ok-add_records.ensures.added in
    let turn = turn_read disk (g.D.Disk.reads c.loop-count.disk) room.items c.deref_mut.result.now c.read.new.into c.deref.result.now gate count room.len was.same c.deref_mut.ensures.value (sym room.ok.0) c.in-Ok-read.ensures.given c.deref.ensures.value in
    let last = last_turn disk (take count c.deref.result.now) gate c.in-Ok-add_records.next count room.len c.copied-byte.result old added.0 (blocks_in c.add_records.new.index) turn (subst (λ (n : ℕ). block_size_limit + 37 ≤ n) (sym room.ok.0) was.room) was.found added.1 added.2 c.in-Ok-add_records.ensures.next c.if-next-gate.true (c.copied-byte.ensures ∙ c.first.ensures.value) in
    let here : gate ≡ place = cc in
    let opened = open_at (drop gate disk) (sym last.byte_is ∙ is_open c.copied-byte.result c.if-eq.ensures) last.none in
    subst (IsDamaged disk) here (damage_found disk gate (blocks_in c.add_records.new.index) last.found opened)

pub returns-then-next-gate-clause-found : goal.returns-then-next-gate-clause-found
returns-then-next-gate-clause-found g c =
    let was = c.loop-count.invariant in
    let disk = g.D.Disk.reads c.args.disk.now in
    let room = c.loop-count.room in
    let count = c.in-Ok-read.count in
    let gate = c.loop-count.gate in
    let old = blocks_in c.loop-count.index in
    let added = c.in-Ok-add_records.ensures.added in
    let turn = turn_read disk (g.D.Disk.reads c.loop-count.disk) room.items c.deref_mut.result.now c.read.new.into c.deref.result.now gate count room.len was.same c.deref_mut.ensures.value (sym room.ok.0) c.in-Ok-read.ensures.given c.deref.ensures.value in
    let last = last_turn disk (take count c.deref.result.now) gate c.in-Ok-add_records.next count room.len c.copied-byte.result old added.0 (blocks_in c.add_records.new.index) turn (subst (λ (n : ℕ). block_size_limit + 37 ≤ n) (sym room.ok.0) was.room) was.found added.1 added.2 c.in-Ok-add_records.ensures.next c.if-next-gate.true (c.copied-byte.ensures ∙ c.first.ensures.value) in
    all_found disk gate (blocks_in c.add_records.new.index) last.found (closed_at (drop gate disk) (λ there. is_other c.copied-byte.result c.if-eq.ensures (last.byte_is ∙ there)))

pub returns-then-next-gate-clause-gate : goal.returns-then-next-gate-clause-gate
returns-then-next-gate-clause-gate g c =
    let was = c.loop-count.invariant in
    let disk = g.D.Disk.reads c.args.disk.now in
    let room = c.loop-count.room in
    let count = c.in-Ok-read.count in
    let gate = c.loop-count.gate in
    let old = blocks_in c.loop-count.index in
    let added = c.in-Ok-add_records.ensures.added in
    let turn = turn_read disk (g.D.Disk.reads c.loop-count.disk) room.items c.deref_mut.result.now c.read.new.into c.deref.result.now gate count room.len was.same c.deref_mut.ensures.value (sym room.ok.0) c.in-Ok-read.ensures.given c.deref.ensures.value in
    let last = last_turn disk (take count c.deref.result.now) gate c.in-Ok-add_records.next count room.len c.copied-byte.result old added.0 (blocks_in c.add_records.new.index) turn (subst (λ (n : ℕ). block_size_limit + 37 ≤ n) (sym room.ok.0) was.room) was.found added.1 added.2 c.in-Ok-add_records.ensures.next c.if-next-gate.true (c.copied-byte.ensures ∙ c.first.ensures.value) in
    last.byte_is ∙ get_behind disk gate
