use Rattle.std.proofs.Common.{◌≡◌, ◌+◌, ◌++◌, ◌∷◌, [], ℕ, suc, List, ap, ◌∙◌, arith}
use Rattle.model.specs.Journal.{Journal, Knowledge}
use Rattle.shared.specs.Heights.{SeatView, Deals, first_view, has_dealt, new_caller, knowledge_of}
use Rattle.shared.specs.Opening.{newcomer, newcomers}
use Rattle.shared.proofs.opened.deal_all.Goals as goal

next_number : (n : ℕ) → suc n ≡ n + 1
next_number n = omega arith

-- one more caller has seen nothing
one_more : (n : ℕ) (v w : SeatView) (all more : List Knowledge) → more ≡ all ++ knowledge_of n w ∷ [] → w ≡ new_caller v → v.seen ≡ [] → all ≡ newcomers n → more ≡ newcomers (n + 1)
one_more n v w all more is dealt none so_far =
    let this : knowledge_of n w ≡ newcomer n =
    ap (knowledge_of n) dealt ∙ ap (λ (seen : Journal). record { caller = n; seen = seen; calls = []; loads = 0; last = 0 }) none in
    is ∙ ((λ j. so_far j ++ this j ∷ []) ∙ ap newcomers (next_number n))

pub deal-dealt-requires : goal.deal-dealt-requires
deal-dealt-requires g c =
    let i = c.loop-number.invariant in
    record { word = c.requires.word; seat = i.0 ∙ c.requires.seat; deals = ap (λ m. m.0.role) i.1 }

pub invariant_of-seat_of_caller : goal.invariant_of-seat_of_caller
invariant_of-seat_of_caller g c =
    let i = c.loop-number.invariant in
    let n = c.deal-dealt.ensures.new in
    record {
      table_is = n.1 ∙ (i.0 ∙ (c.requires.seat ∙ c.requires.table));
      slots = ap (λ m. m.1) n.0;
      start_is = ap (λ m. m.0.start) n.0 ∙ ap (λ m. m.0.start) i.1;
      role = ap (λ m. m.0.role) n.0 ∙ ap (λ m. (new_caller m.0).role) i.1;
      right = ap (λ m. m.0.writes) n.0;
    }

pub loop-number-preserved : goal.loop-number-preserved
loop-number-preserved g c =
    let i = c.loop-number.invariant in
    let d = c.deal-dealt.ensures.seat in
    let n = c.deal-dealt.ensures.new in
    let number = c.loop-number.number in (
      d.1 ∙ i.0,
      d.0 ∙ (ap (λ m. (has_dealt m.0, m.1)) i.1 ∙ ap (λ (k : ℕ). (record (first_view g.B.Room.start) { role = Deals k }, [])) (next_number number)),
      one_more number c.loop-number.seat.me.0 c.deal-dealt.result.me.0 c.loop-number.all.items c.push.new.self.items c.in_ok-push.ensures.items (ap (λ m. m.0) n.0) (ap (λ m. m.0.seen) i.1) i.2,
    )
