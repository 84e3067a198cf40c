use Rattle.std.proofs.Common.{◌≡◌, map, List, [], ◌∷◌, ◌++◌, ap, sym, ◌∙◌, append_assoc, append-nil}
use Rattle.std.proofs.lemmas.List.{map-append}
use Rattle.std.specs.Arc.{arc_value}
use Rattle.shared.proofs.handles.copy_handles.Goals as goal

-- one more of the rest was copied
one_more : {T V : Type 0} (f : T → V) (done more left rest : List T) (copy x : T) (all : List V) → map f done ++ map f left ≡ all → left ≡ x ∷ rest → more ≡ done ++ copy ∷ [] → f copy ≡ f x → map f more ++ map f rest ≡ all
one_more f done more left rest copy x all so_far next pushed same =
    ap (λ (l : List _). map f l ++ map f rest) pushed
    ∙ (ap (λ (l : List _). l ++ map f rest) (map-append f done (copy ∷ []))
    ∙ (append_assoc (map f done) (f copy ∷ []) (map f rest)
    ∙ (ap (λ v. map f done ++ (v ∷ map f rest)) same ∙ (ap (λ (l : List _). map f done ++ map f l) (sym next) ∙ so_far))))

pub loop-tx-init : goal.loop-tx-init
loop-tx-init g c =
    ap (λ hs. map arc_value hs ++ map arc_value c.into_iter-tx-iterator.result) c.in_ok-handles.ensures.items ∙ (ap (map arc_value) c.into_iter-tx-iterator.ensures.into_iter_gives ∙ c.iter-tx-items.ensures)

pub loop-tx-preserved : goal.loop-tx-preserved
loop-tx-preserved g c =
    one_more arc_value c.loop-tx.handles.items c.push.new.self.items c.loop-tx.tx-iterator c.next.new.self c.in_ok-handle.handle c.in-Some.tx.now c.args.mempool.now.waiting.txs c.loop-tx.invariant c.in-Some.ensures.steps c.in_ok-push.ensures.items c.in_ok-handle.ensures

pub returns : goal.returns
returns g c =
    sym (append-nil (map arc_value c.loop-tx.handles.items)) ∙ (ap (λ rest. map arc_value c.loop-tx.handles.items ++ map arc_value rest) (sym c.in-None.ensures.steps.0) ∙ c.loop-tx.invariant)
