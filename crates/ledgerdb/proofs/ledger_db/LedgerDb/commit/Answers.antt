use Rattle.std.proofs.Common.{◌≡◌, ◌<◌, ◌≤◌, ◌+◌, ◌-◌, ◌++◌, ℕ, min, Bool, List, [], length-append, length, drop, take, ap, subst, refl, sym, ◌∙◌, arith}
use Rattle.std.specs.Prelude.{if◌then◌else◌}
use Rattle.std.proofs.lemmas.List.{length-drop, length-take-le}
use Rattle.model.specs.Applying.{LedgerState, last_state, IsStateOf}
use Rattle.model.proofs.AppliedBlocks.{one_state_of}
use Rattle.ledgerdb.specs.Values.{Database, Prepared}
use Rattle.ledgerdb.specs.Chains.{without_last, IsDatabaseOf, IsPreparedOf}
use Rattle.ledgerdb.specs.Inside.{undone_blocks, states_along, database_of}
use Rattle.ledgerdb.proofs.Along.{along_length, back_is, last_along, newest_is, committed_view}
use Rattle.ledgerdb.proofs.Databases.{committed, back_state, beside_any, with_states}
use Rattle.ledgerdb.proofs.ledger_db.LedgerDb.commit.Goals as goal

-- how many are left
count_left : (k ds newer back kept left late joined room k_seen ds_seen newer_seen back_seen : ℕ) → room ≡ k - newer → k ≡ k_seen → ds ≡ ds_seen → newer ≡ newer_seen → back ≡ back_seen → back ≤ ds
    → kept ≡ ds - back → left ≡ kept - (kept - room) → late ≡ newer - (newer - k) → joined ≡ left + late → joined ≡ min k_seen (ds_seen - back_seen + newer_seen)
count_left k ds newer back kept left late joined room k_seen ds_seen newer_seen back_seen a b c d e f g h i j = omega (arith, a, b, c, d, e, f, g, h, i, j)

pub returns-clause-chain : goal.returns-clause-chain
returns-clause-chain c = λ network chain blocks is are.
    let inside = c.self.inside in
    let k = inside.k in
    let ds = inside.diffs in
    let s = inside.state in
    let back = c.prepared.inside.back in
    let newer = c.prepared.inside.diffs in
    let new = c.prepared.inside.state in
    let kept = c.drop_newest.new.diffs in
    let left = c.drop_oldest.new.items in
    let late = c.drop_oldest-2.new.items in
    let joined = c.append.new.self in
    let room = c.saturating_sub.result in
    let room_is : room ≡ k - length newer = c.saturating_sub.ensures ∙ ap (λ n. k - n) c.len.ensures.value in
    let within : back ≤ length (states_along ds s) =
    let here = c.requires in let old = ap (λ (db : Database). length db.states) c.self.view_is in let by = ap (λ (p : Prepared). p.back) c.prepared.view_is in omega (arith, here, old, by) in
    let small : length left + length late < 9223372036854775808 =
    let bound = c.self.invariant.1 in
    let few = ap length c.drop_oldest.ensures in
    let more = ap length c.drop_oldest-2.ensures in
    omega (arith, bound, few, more, room_is, length-drop (length kept - room) kept, length-drop (length newer - k) newer) in
    let joined_is : joined ≡ left ++ late = c.append.ensures.items ∙ ap (λ (b : Bool). if b then left ++ late else left) (c.append.ensures.succeeds small) in
    let db : Database = with_states k (undone_blocks ds s) (states_along ds s) in
    let of : IsDatabaseOf network chain db = beside_any network chain (database_of inside) [] (subst (IsDatabaseOf network chain) (sym c.self.view_is) is) in
    let for : IsPreparedOf network (without_last back chain) blocks (record { back = back; root = undone_blocks newer new; states = states_along newer new }) =
    subst (λ (p : Prepared). IsPreparedOf network (without_last p.back chain) blocks p) (sym c.prepared.view_is) are in
    let root = undone_blocks (drop (length ds - back) ds) s in
    let rooted : IsStateOf network (without_last back chain) root = subst (IsStateOf network (without_last back chain)) (sym (back_is ds s s root back refl refl)) (back_state network chain db back of within) in
    let same : undone_blocks newer new ≡ root = one_state_of network (without_last back chain) (undone_blocks newer new) root for.root rooted in
    let view = committed_view k back room ds kept newer left late joined s root new c.drop_newest.ensures refl same room_is c.drop_oldest.ensures c.drop_oldest-2.ensures joined_is in
    let whole = committed network chain blocks db back k (states_along newer new) of within for.states in
    let states = take (length (states_along ds s) - back) (states_along ds s) in
    let more = states_along newer new in
    let anchor = last_state (last_state (undone_blocks ds s) (take (length states - (k - length more)) states)) (take (length more - k) more) in
    let told : IsDatabaseOf network (without_last back chain ++ blocks) (with_states k anchor (states_along joined new)) =
    subst (λ (ts : List LedgerState). IsDatabaseOf network (without_last back chain ++ blocks) (with_states k anchor ts)) (sym view.0) whole in
    subst (λ (p : Prepared). IsDatabaseOf network (without_last p.back chain ++ blocks) (record (with_states k (undone_blocks joined new) (states_along joined new)) { sides = c.clear.new.self })) c.prepared.view_is
    (beside_any network (without_last back chain ++ blocks) (with_states k (undone_blocks joined new) (states_along joined new)) c.clear.new.self
    (subst (λ (t : LedgerState). IsDatabaseOf network (without_last back chain ++ blocks) (with_states k t (states_along joined new))) (sym view.1) told))

pub drop_newest-requires : goal.drop_newest-requires
drop_newest-requires c =
    let here = c.requires in
    let old = ap (λ (db : Database). length db.states) c.self.view_is in
    let long = along_length c.self.inside.diffs c.self.inside.state in
    let by = ap (λ (p : Prepared). p.back) c.prepared.view_is in
    omega (arith, here, old, long, by)

pub returns-clause-depth : goal.returns-clause-depth
returns-clause-depth c =
    let inside = c.self.inside in
    let newer = c.prepared.inside.diffs in
    let kept = c.drop_newest.new.diffs in
    let left = c.drop_oldest.new.items in
    let late = c.drop_oldest-2.new.items in
    let room = c.saturating_sub.result in
    let room_is : room ≡ inside.k - length newer = c.saturating_sub.ensures ∙ ap (λ n. inside.k - n) c.len.ensures.value in
    let k_is : inside.k ≡ c.args.self.now.k = ap (λ (db : Database). db.k) c.self.view_is in
    let old : length inside.diffs ≡ length c.args.self.now.states = sym (along_length inside.diffs inside.state) ∙ ap (λ (db : Database). length db.states) c.self.view_is in
    let new : length newer ≡ length c.args.prepared.states = sym (along_length newer c.prepared.inside.state) ∙ ap (λ (p : Prepared). length p.states) c.prepared.view_is in
    let by : c.prepared.inside.back ≡ c.args.prepared.back = ap (λ (p : Prepared). p.back) c.prepared.view_is in
    let within : c.prepared.inside.back ≤ length inside.diffs = let here = c.requires in omega (arith, here, old, by) in
    let kept_is : length kept ≡ length inside.diffs - c.prepared.inside.back =
    ap length c.drop_newest.ensures ∙ length-take-le (length inside.diffs - c.prepared.inside.back) inside.diffs (omega arith) in
    let left_is : length left ≡ length kept - (length kept - room) = ap length c.drop_oldest.ensures ∙ length-drop (length kept - room) kept in
    let late_is : length late ≡ length newer - (length newer - inside.k) = ap length c.drop_oldest-2.ensures ∙ length-drop (length newer - inside.k) newer in
    let small : length left + length late < 9223372036854775808 = let bound = c.self.invariant.1 in omega (arith, bound, room_is, left_is, late_is) in
    let joined : length c.append.new.self ≡ length left + length late =
    ap length (c.append.ensures.items ∙ ap (λ (b : Bool). if b then left ++ late else left) (c.append.ensures.succeeds small)) ∙ length-append left late in
    let seen = along_length c.append.new.self c.prepared.inside.state in
    seen ∙ count_left inside.k (length inside.diffs) (length newer) c.prepared.inside.back (length kept) (length left) (length late) (length c.append.new.self) room
    c.args.self.now.k (length c.args.self.now.states) (length c.args.prepared.states) c.args.prepared.back room_is k_is old new by within kept_is left_is late_is joined

pub returns-clause-state : goal.returns-clause-state
returns-clause-state c =
    sym (newest_is c.append.new.self c.prepared.inside.state)
    ∙ (sym (last_along c.prepared.inside.diffs c.prepared.inside.state) ∙ ap (λ (p : Prepared). last_state p.root p.states) c.prepared.view_is)
