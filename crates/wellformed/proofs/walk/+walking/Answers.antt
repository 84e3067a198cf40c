use Rattle.std.proofs.Common.{◌≡◌, ◌/◌, ◌%◌, ℕ, true, List, [], ◌∷◌, length, None, sym, subst, arith, rules}
use Rattle.std.proofs.lemmas.Result.{err_from_is_err_and}
use Rattle.wellformed.specs.Parts.{IsTail, IsItemText, MayBegin}
use Rattle.wellformed.specs.Stops.{StopsAtInitial}
use Rattle.wellformed.specs.Walks.{FindsItem}
use Rattle.wellformed.proofs.Stopping.{stops_behind}
use Rattle.wellformed.proofs.Firsts.{nothing_stops, first_stops, tail_stands}
use Rattle.wellformed.proofs.Walking.{may_hold, plain_found, array_walked, array_stopped, map_walked, map_stopped, string_walked, string_stopped, members_go_on, members_stop, members_done, entries_go_on, entries_stop, entries_done, key_stop, value_stop}
use Rattle.wellformed.proofs.walk.+walking.Goals as goal

pub entries-returns-in_err-next-clause-stops : goal.entries-returns-in_err-next-clause-stops
entries-returns-in_err-next-clause-stops t c =
    let p = err_from_is_err_and c.from_residual.result c.from_residual.ensures.1 in
    rw (p.1, p.2) (entries_stop c.args.depth c.args.count c.loop.counter c.args.bytes.now c.loop.before.now c.loop.rest.now c.loop.late c.in_err-next.field-0.0 (c.requires (omega arith)) c.loop-test.true c.loop.invariant c.in_err-next.ensures.stops)

pub entries-loop-preserved : goal.entries-loop-preserved
entries-loop-preserved t c =
    let n = c.in_ok-next.next in
    rw c.or-late.ensures (entries_go_on c.args.depth c.args.count c.loop.counter c.args.bytes.now c.loop.before.now c.loop.rest.now c.in_ok-next.text.now n.rest.now c.loop.late n.late c.loop-test.true c.loop.invariant c.in_ok-next.ensures.found)

pub entries-returns-clause-found : goal.entries-returns-clause-found
entries-returns-clause-found t c = entries_done c.args.depth c.args.count c.loop.counter c.args.bytes.now c.loop.before.now c.loop.rest.now c.loop.late c.loop-test.false c.loop.invariant

pub entry-returns-in_err-key-clause-stops : goal.entry-returns-in_err-key-clause-stops
entry-returns-in_err-key-clause-stops t c =
    let p = err_from_is_err_and c.from_residual.result c.from_residual.ensures.1 in
    rw (p.1, p.2) (key_stop c.args.depth c.args.bytes.now c.in_err-key.field-0.0 c.requires c.in_err-key.ensures.stops)

pub entry-returns-in_err-value-clause-stops : goal.entry-returns-in_err-value-clause-stops
entry-returns-in_err-value-clause-stops t c =
    let p = err_from_is_err_and c.from_residual-in_err-value.result c.from_residual-in_err-value.ensures.1 in
    let k = c.in_ok-key.key in
    rw (p.1, p.2) (value_stop c.args.depth c.args.bytes.now k.rest.now k.late c.in_err-value.field-0.0 c.in_ok-key.ensures.found c.in_err-value.ensures.stops)

pub item-returns-in_default-clause-stops : goal.item-returns-in_default-clause-stops
item-returns-in_default-clause-stops t c = nothing_stops c.args.depth c.args.bytes.now c.requires c.in_default.ensures.cases

pub item-returns-then-not-begins_item-clause-stops : goal.item-returns-then-not-begins_item-clause-stops
item-returns-then-not-begins_item-clause-stops t c =
    let parts = c.in-Some.ensures.cases in
    let refused : MayBegin c.args.depth c.in-Some.first.now → ⊥ = λ may. let so : c.begins_item.result ≡ true = c.begins_item.ensures.1 may in cc in
    subst (λ (b : List ℕ). StopsAtInitial (IsItemText c.args.depth) b (length b)) (sym parts.0) (first_stops c.args.depth c.in-Some.first.now c.in-Some.after.now c.requires refused)

pub item-returns-in_err-argument-clause-stops : goal.item-returns-in_err-argument-clause-stops
item-returns-in_err-argument-clause-stops t c =
    let p = err_from_is_err_and c.from_residual.result c.from_residual.ensures.1 in
    let parts = c.in-Some.ensures.cases in
    let first = c.in-Some.first.now in
    let may = c.begins_item.ensures.0 c.if-not-begins_item.false in
    rw (p.1, p.2) (stops_behind (IsItemText c.args.depth) (IsTail (first % 32)) (first ∷ []) c.in-Some.after.now c.args.bytes.now (tail_stands c.args.depth first c.requires may) parts.0 c.in_err-argument.field-0.0 c.in_err-argument.ensures.stops)

pub item-members-requires : goal.item-members-requires
item-members-requires t c =
    let first = c.in-Some.first.now in
    let may = c.begins_item.ensures.0 c.if-not-begins_item.false in
    let is : first / 32 ≡ 4 = c.in-4.is in
    (search rules, may_hold c.args.depth first c.in_ok-argument.argument c.in-Some.after.now c.in_ok-argument.contents.now c.requires may (omega (arith, is)) (omega (arith, is)) c.in_ok-argument.ensures.found)

pub item-entries-requires : goal.item-entries-requires
item-entries-requires t c =
    let first = c.in-Some.first.now in
    let may = c.begins_item.ensures.0 c.if-not-begins_item.false in
    let is : first / 32 ≡ 5 = c.in-5.is in
    (search rules, may_hold c.args.depth first c.in_ok-argument.argument c.in-Some.after.now c.in_ok-argument.contents.now c.requires may (omega (arith, is)) (omega (arith, is)) c.in_ok-argument.ensures.found)

pub item-returns-in-2-clause-found : goal.item-returns-in-2-clause-found
item-returns-in-2-clause-found t c =
    let parts = c.in-Some.ensures.cases in
    string_walked c.args.depth c.in-Some.first.now c.in_ok-argument.argument c.args.bytes.now c.in-Some.after.now c.in_ok-argument.contents.now c.string.result c.requires parts.0 c.in_ok-argument.ensures.found c.in-2.is c.string.ensures.found

pub item-returns-in-2-clause-stops : goal.item-returns-in-2-clause-stops
item-returns-in-2-clause-stops t c =
    let parts = c.in-Some.ensures.cases in
    string_stopped c.args.depth c.in-Some.first.now c.in_ok-argument.argument c.args.bytes.now c.in-Some.after.now c.in_ok-argument.contents.now c.string.result c.requires parts.0 c.in_ok-argument.ensures.found c.in-2.is c.string.ensures.stops

pub item-returns-in-4-clause-found : goal.item-returns-in-4-clause-found
item-returns-in-4-clause-found t c =
    let parts = c.in-Some.ensures.cases in
    array_walked c.args.depth c.in-Some.first.now c.in_ok-argument.argument c.args.bytes.now c.in-Some.after.now c.in_ok-argument.contents.now c.members.result c.requires parts.0 c.in_ok-argument.ensures.found c.in-4.is c.members.ensures.found

pub item-returns-in-4-clause-stops : goal.item-returns-in-4-clause-stops
item-returns-in-4-clause-stops t c =
    let parts = c.in-Some.ensures.cases in
    array_stopped c.args.depth c.in-Some.first.now c.in_ok-argument.argument c.args.bytes.now c.in-Some.after.now c.in_ok-argument.contents.now c.members.result c.requires parts.0 c.in_ok-argument.ensures.found c.in-4.is c.members.ensures.stops

pub item-returns-in-5-clause-found : goal.item-returns-in-5-clause-found
item-returns-in-5-clause-found t c =
    let parts = c.in-Some.ensures.cases in
    map_walked c.args.depth c.in-Some.first.now c.in_ok-argument.argument c.args.bytes.now c.in-Some.after.now c.in_ok-argument.contents.now c.entries.result c.requires parts.0 c.in_ok-argument.ensures.found c.in-5.is c.entries.ensures.found

pub item-returns-in-5-clause-stops : goal.item-returns-in-5-clause-stops
item-returns-in-5-clause-stops t c =
    let parts = c.in-Some.ensures.cases in
    map_stopped c.args.depth c.in-Some.first.now c.in_ok-argument.argument c.args.bytes.now c.in-Some.after.now c.in_ok-argument.contents.now c.entries.result c.requires parts.0 c.in_ok-argument.ensures.found c.in-5.is c.entries.ensures.stops

pub item-returns-in_default-2-clause-found : goal.item-returns-in_default-2-clause-found
item-returns-in_default-2-clause-found t c =
    let parts = c.in-Some.ensures.cases in
    let may = c.begins_item.ensures.0 c.if-not-begins_item.false in
    let first = c.in-Some.first.now in
    let not_2 : first / 32 ≡ 2 → ⊥ = λ e. omega (arith, e) in
    let not_4 : first / 32 ≡ 4 → ⊥ = λ e. omega (arith, e) in
    let not_5 : first / 32 ≡ 5 → ⊥ = λ e. omega (arith, e) in
    subst (λ (b : List ℕ). FindsItem c.args.depth b c.in_ok-argument.contents.now None) (sym parts.0) (plain_found c.args.depth first c.in_ok-argument.argument c.in-Some.after.now c.in_ok-argument.contents.now c.requires may c.in_ok-argument.ensures.found not_2 not_4 not_5)

pub members-returns-in_err-member-clause-stops : goal.members-returns-in_err-member-clause-stops
members-returns-in_err-member-clause-stops t c =
    let p = err_from_is_err_and c.from_residual.result c.from_residual.ensures.1 in
    rw (p.1, p.2) (members_stop c.args.depth c.args.count c.loop.counter c.args.bytes.now c.loop.rest.now c.loop.late c.in_err-member.field-0.0 (c.requires (omega arith)) c.loop-test.true c.loop.invariant c.in_err-member.ensures.stops)

pub members-loop-preserved : goal.members-loop-preserved
members-loop-preserved t c =
    let m = c.in_ok-member.member in
    rw c.or-late.ensures (members_go_on c.args.depth c.args.count c.loop.counter c.args.bytes.now c.loop.rest.now m.rest.now c.loop.late m.late c.loop-test.true c.loop.invariant c.in_ok-member.ensures.found)

pub members-returns-clause-found : goal.members-returns-clause-found
members-returns-clause-found t c = members_done c.args.depth c.args.count c.loop.counter c.args.bytes.now c.loop.rest.now c.loop.late c.loop-test.false c.loop.invariant
