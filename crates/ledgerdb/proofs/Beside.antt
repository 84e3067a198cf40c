-- The states beside blocks that come after a chain.
use Rattle.std.proofs.Common.{◌≡◌, ℕ, zero, suc, List, [], ◌∷◌, ◌++◌, length, take, drop, refl, sym, ap, subst, append_assoc, append-nil}
use Rattle.model.specs.Block.{Block}
use Rattle.model.specs.Ledger.{Network}
use Rattle.model.specs.Applying.{LedgerState, AreStates, last_state, IsStateOf}
use Rattle.model.proofs.AppliedBlocks.{state_push}
use Rattle.ledgerdb.specs.Chains.{AreStatesOf}

module _ (network : Network) where
  -- blocks that are applied one after the other to a chain's state
  pub of_applied : (root : List Block) (s : LedgerState) (bs : List Block) (ts : List LedgerState) → IsStateOf network root s → AreStates network.verifies s bs ts → AreStatesOf network root bs ts
  of_applied root s [] [] is are = tt
  of_applied root s [] (t ∷ ts) is are = elim are [ ]
  of_applied root s (b ∷ bs) [] is are = elim are [ ]
  of_applied root s (b ∷ bs) (t ∷ ts) is are =
      let next = state_push network root s b t is are.0 in (next, of_applied (root ++ b ∷ []) t bs ts next are.1)

  -- as many states as blocks
  pub beside_length : (root bs : List Block) (ts : List LedgerState) → AreStatesOf network root bs ts → length ts ≡ length bs
  beside_length root [] [] are = refl
  beside_length root [] (t ∷ ts) are = elim are [ ]
  beside_length root (b ∷ bs) [] are = elim are [ ]
  beside_length root (b ∷ bs) (t ∷ ts) are = ap suc (beside_length (root ++ b ∷ []) bs ts are.1)

  -- the last of them is that of the whole chain
  pub beside_last : (root : List Block) (s : LedgerState) (bs : List Block) (ts : List LedgerState) → IsStateOf network root s → AreStatesOf network root bs ts → IsStateOf network (root ++ bs) (last_state s ts)
  beside_last root s [] [] is are = subst (λ (c : List Block). IsStateOf network c s) (sym (append-nil root)) is
  beside_last root s [] (t ∷ ts) is are = elim are [ ]
  beside_last root s (b ∷ bs) [] is are = elim are [ ]
  beside_last root s (b ∷ bs) (t ∷ ts) is are =
      subst (λ (c : List Block). IsStateOf network c (last_state t ts)) (append_assoc root (b ∷ []) bs) (beside_last (root ++ b ∷ []) t bs ts are.0 are.1)

  pub beside_take : (n : ℕ) (root bs : List Block) (ts : List LedgerState) → AreStatesOf network root bs ts → AreStatesOf network root (take n bs) (take n ts)
  beside_take zero root bs ts are = tt
  beside_take (suc n) root [] [] are = tt
  beside_take (suc n) root [] (t ∷ ts) are = elim are [ ]
  beside_take (suc n) root (b ∷ bs) [] are = elim are [ ]
  beside_take (suc n) root (b ∷ bs) (t ∷ ts) are = (are.0, beside_take n (root ++ b ∷ []) bs ts are.1)

  pub beside_drop : (n : ℕ) (root bs : List Block) (ts : List LedgerState) → AreStatesOf network root bs ts → AreStatesOf network (root ++ take n bs) (drop n bs) (drop n ts)
  beside_drop zero root bs ts are = subst (λ (c : List Block). AreStatesOf network c bs ts) (sym (append-nil root)) are
  beside_drop (suc n) root [] [] are = tt
  beside_drop (suc n) root [] (t ∷ ts) are = elim are [ ]
  beside_drop (suc n) root (b ∷ bs) [] are = elim are [ ]
  beside_drop (suc n) root (b ∷ bs) (t ∷ ts) are =
      subst (λ (c : List Block). AreStatesOf network c (drop n bs) (drop n ts)) (append_assoc root (b ∷ []) (take n bs)) (beside_drop n (root ++ b ∷ []) bs ts are.1)

  pub beside_append : (root xs ys : List Block) (ts us : List LedgerState) → AreStatesOf network root xs ts → AreStatesOf network (root ++ xs) ys us → AreStatesOf network root (xs ++ ys) (ts ++ us)
  beside_append root [] ys [] us first second = subst (λ (c : List Block). AreStatesOf network c ys us) (append-nil root) second
  beside_append root [] ys (t ∷ ts) us first second = elim first [ ]
  beside_append root (x ∷ xs) ys [] us first second = elim first [ ]
  beside_append root (x ∷ xs) ys (t ∷ ts) us first second =
      (first.0, beside_append (root ++ x ∷ []) xs ys ts us first.1 (subst (λ (c : List Block). AreStatesOf network c ys us) (sym (append_assoc root (x ∷ []) xs)) second))
