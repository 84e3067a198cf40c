use Rattle.std.proofs.Common.{◌≡◌, [], refl, sym, ap, ◌∙◌, subst}
use Rattle.shared.specs.Starts.{Start, network_from, start_of}
use Rattle.model.specs.Chain.{IsOpening}
use Rattle.chain_core.specs.Held.{Stands}
use Rattle.model.specs.History.{opening, IsLegal}
use Rattle.std.specs.List.{AllByRecursion}
use Rattle.model.specs.Journal.{Journal, history_of, NamesItsPeer}
use Rattle.shared.specs.Heights.{first_view}
use Rattle.shared.proofs.Calls.{opening_stands}
use Rattle.shared.proofs.opened.Opened.named.Goals as goal

pub deal_all-requires : goal.deal_all-requires
deal_all-requires g c =
    let i = c.self.invariant in
    let is = c.self.view_is in
    record {
      word = i.words;
      table = ap (λ o. o.table) is ∙ c.requires.table;
      seat = i.seat;
      first = subst (λ (start : Start). c.self.inside.seat.me ≡ (first_view start, [])) (ap (λ o. o.start) is ∙ c.requires.start) i.first;
    }

pub invariant_of-journal : goal.invariant_of-journal
invariant_of-journal g c =
    let i = c.self.invariant in
    let is = c.self.view_is in
    let all = c.deal_all.ensures in
    let seat = c.in_ok-all.ensures.seat in
    record {
      name_is = all.table ∙ (i.seat ∙ (ap (λ o. o.table) is ∙ c.requires.table));
      slots = ap (λ m. m.1) seat;
      right = ap (λ m. m.0.writes) seat;
      next = c.self.inside.callers;
      role = ap (λ m. m.0.role) seat;
    }

pub invariant_of-desk : goal.invariant_of-desk
invariant_of-desk g c =
    let i = c.self.invariant in
    let is = c.self.view_is in
    let begins : start_of c.self.inside.core ≡ g.B.Room.start = ap (λ o. o.start) is ∙ c.requires.start in
    let opens : IsOpening (network_from g.B.Room.start g.S.SigScheme.verifies) = subst (λ (start : Start). IsOpening (network_from start g.S.SigScheme.verifies)) begins i.opens in
    let none : c.deal_all.new.seat.me.0.seen ≡ [] = ap (λ m. m.0.seen) c.in_ok-all.ensures.seat in
    record {
      start_is = begins;
      opens = opens;
      state = opening (network_from g.B.Room.start g.S.SigScheme.verifies);
      legal = subst (λ (j : Journal). IsLegal (network_from g.B.Room.start g.S.SigScheme.verifies) (history_of j) (opening (network_from g.B.Room.start g.S.SigScheme.verifies))) (sym none) refl;
      named = subst (AllByRecursion NamesItsPeer) (sym none) tt;
      stands = subst (λ (start : Start). Stands c.self.inside.core (opening (network_from start g.S.SigScheme.verifies))) begins (opening_stands g.S.SigScheme.verifies c.self.inside.core i.new i.opens);
    }

pub returns-clause-opens : goal.returns-clause-opens
returns-clause-opens g c =
    let i = c.self.invariant in
    subst (λ (start : Start). IsOpening (network_from start g.S.SigScheme.verifies)) (ap (λ o. o.start) c.self.view_is ∙ c.requires.start) i.opens
