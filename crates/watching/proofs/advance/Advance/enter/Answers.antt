use Rattle.std.proofs.Common.{◌≡◌, ℕ, true, List, Option, Some, None, refl, sym, ap, ◌∙◌}
use Rattle.std.specs.Prelude.{bytes_eq}
use Rattle.std.specs.Option.{option_eq}
use Rattle.std.proofs.lemmas.Slice.Eq.{bytes_eq-Decides}
use Rattle.std.specs.FinMap as finite
use Rattle.watching.specs.Histories.{History, Histories, history_at, with_entry}
use Rattle.watching.specs.Changes.{Change, EntryAt, put_back, with_history}
use Rattle.watching.specs.Advances.{with_histories}
use Rattle.watching.specs.View.{tables_of}
use Rattle.watching.proofs.Entering.{entered, entered_already, entry_undone}
use Rattle.watching.proofs.Changing.{one_more}
use Rattle.watching.proofs.advance.Advance.enter.Goals as goal

same_ids : (r : Option (List ℕ)) (id : List ℕ) → true ≡ option_eq bytes_eq r (Some id) → r ≡ Some id
same_ids None id e = absurd cc
same_ids (Some x) id e = ap Some ((bytes_eq-Decides x id).0 (sym e))

pub returns-then-eq : goal.returns-then-eq
returns-then-eq c =
    let k = tables_of c.args.self.tables in
    let owner = c.args.owner in
    let m = c.args.entry.now.inclusion in
    let id = c.args.entry.now.id in
    let own : c.in_ok-history.history ≡ history_at k.histories owner = c.in_ok-history.ensures ∙ c.of.ensures.history in
    let there : finite.get (history_at k.histories owner) m ≡ Some id =
    ap (λ (h : History). finite.get h m) (sym own) ∙ sym c.get-before.ensures ∙ same_ids c.get-before.result id c.if-eq.ensures in
    record { now = ap (λ (hs : Histories). with_histories hs k) (entered_already m id owner k.histories there); back = refl }

pub returns : goal.returns
returns c =
    let k = tables_of c.args.self.tables in
    let owner = c.args.owner in
    let m = c.args.entry.now.inclusion in
    let id = c.args.entry.now.id in
    let own : c.in_ok-history.history ≡ history_at k.histories owner = c.in_ok-history.ensures ∙ c.of.ensures.history in
    let change : Change = EntryAt owner m c.get-before.result in
    let set : c.set.new.self ≡ with_entry m id owner k.histories =
    c.in_ok-set.ensures ∙ ap (with_history k.histories owner) (c.in_ok-insert.ensures ∙ ap (λ (h : History). finite.insert h m id) own) ∙ entered m id owner k.histories in
    let is : with_histories c.set.new.self k ≡ with_histories (with_entry m id owner k.histories) k = ap (λ (hs : Histories). with_histories hs k) set in
    let before = c.get-before.ensures ∙ ap (λ (h : History). finite.get h m) own in
    record {
      now = is;
      back = one_more c.args.self.changes.items c.push.new.self.items change k (with_histories c.set.new.self k) c.in_ok-push.ensures.items
          (ap (put_back change) is ∙ ap (λ (hs : Histories). with_histories hs k) (entry_undone k.histories owner m id c.get-before.result c.of.ensures.none_empty before));
    }
