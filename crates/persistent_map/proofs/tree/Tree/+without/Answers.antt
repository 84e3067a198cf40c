use Rattle.std.proofs.Common.{◌≡◌, ◌∷◌, ◌++◌, None, Some, sym, ap, subst, ◌∙◌}
use Rattle.std.specs.FinMap.{find}
use Rattle.std.specs.Option.{option_map, option_map_or}
use Rattle.std.specs.Arc.{arc_value}
use Rattle.persistent_map.specs.Entries.{entries_of, entries_of_node}
use Rattle.persistent_map.specs.Order.{WasFound, IsWithout, IsThere}
use Rattle.persistent_map.proofs.Split.{rise_left, rise_right, split_less, split_equal, split_greater, there_left, there_here, there_right, found_there, whatever_err, without_absent}
use Rattle.persistent_map.proofs.tree.Tree.+without.Goals as goal

pub returns-in_err-without-in-Less-clause-there : goal.returns-in_err-without-in-Less-clause-there
returns-in_err-without-in-Less-clause-there g t c =
    let n = c.in-Fork.node.value in
    let e : c.args.self.now ≡ n.left ++ (n.key, n.value.value) ∷ n.right = sym c.self.view_is ∙ ap entries_of c.in-Fork.is in
    let order = ap (λ d. g.K.Ord.cmp c.args.key.now d.key) (sym c.deref.ensures) ∙ sym c.cmp.ensures ∙ c.in-Less.is in
    let there = subst (λ d. IsThere g.K.Ord.cmp c.args.key.now d.left) c.deref-in-Less.ensures c.in_err-without-in-Less.ensures.there in
    whatever_err c.from_residual.result _ (there_left g.met.K.Ord.total c.args.key.now c.args.self.now n.left (n.key, n.value.value) n.right e order there)

pub returns-in_err-with_left-in-Some-clause-there : goal.returns-in_err-with_left-in-Some-clause-there
returns-in_err-with_left-in-Some-clause-there g t c =
    let n = c.in-Fork.node.value in
    let e : c.args.self.now ≡ n.left ++ (n.key, n.value.value) ∷ n.right = sym c.self.view_is ∙ ap entries_of c.in-Fork.is in
    let order = ap (λ d. g.K.Ord.cmp c.args.key.now d.key) (sym c.deref.ensures) ∙ sym c.cmp.ensures ∙ c.in-Less.is in
    let found = subst (λ d. WasFound g.K.Ord.cmp c.args.key.now d.left (option_map (λ m. m.1) c.in_ok-without-in-Less.field-0)) c.deref-in-Less.ensures c.in_ok-without-in-Less.ensures.found in
    let there = found_there g.K.Ord.cmp c.args.key.now n.left (option_map (λ m. m.1) c.in_ok-without-in-Less.field-0) c.in-Some.old (ap (option_map (λ m. m.1)) c.in-Some.is) found in
    whatever_err c.from_residual-in_err-with_left-in-Some.result _ (there_left g.met.K.Ord.total c.args.key.now c.args.self.now n.left (n.key, n.value.value) n.right e order there)

pub returns-in_err-tree-in-Some-clause-there : goal.returns-in_err-tree-in-Some-clause-there
returns-in_err-tree-in-Some-clause-there g t c =
    let n = c.in-Fork.node.value in
    let e : c.args.self.now ≡ n.left ++ (n.key, n.value.value) ∷ n.right = sym c.self.view_is ∙ ap entries_of c.in-Fork.is in
    let order = ap (λ d. g.K.Ord.cmp c.args.key.now d.key) (sym c.deref.ensures) ∙ sym c.cmp.ensures ∙ c.in-Less.is in
    let found = subst (λ d. WasFound g.K.Ord.cmp c.args.key.now d.left (option_map (λ m. m.1) c.in_ok-without-in-Less.field-0)) c.deref-in-Less.ensures c.in_ok-without-in-Less.ensures.found in
    let there = found_there g.K.Ord.cmp c.args.key.now n.left (option_map (λ m. m.1) c.in_ok-without-in-Less.field-0) c.in-Some.old (ap (option_map (λ m. m.1)) c.in-Some.is) found in
    whatever_err c.from_residual-in_err-tree-in-Some.result _ (there_left g.met.K.Ord.total c.args.key.now c.args.self.now n.left (n.key, n.value.value) n.right e order there)

pub returns-in-None-clause-found : goal.returns-in-None-clause-found
returns-in-None-clause-found g t c = λ rise.
    let n = c.in-Fork.node.value in
    let e : c.args.self.now ≡ n.left ++ (n.key, n.value.value) ∷ n.right = sym c.self.view_is ∙ ap entries_of c.in-Fork.is in
    let order = ap (λ d. g.K.Ord.cmp c.args.key.now d.key) (sym c.deref.ensures) ∙ sym c.cmp.ensures ∙ c.in-Less.is in
    let found = subst (λ d. WasFound g.K.Ord.cmp c.args.key.now d.left (option_map (λ m. m.1) c.in_ok-without-in-Less.field-0)) c.deref-in-Less.ensures c.in_ok-without-in-Less.ensures.found in
    let none : None ≡ find g.K.Ord.cmp c.args.key.now c.args.self.now = sym (ap (λ made. option_map arc_value (option_map (λ m. m.1) made)) c.in-None.is) ∙ found (rise_left g.K.Ord.cmp c.args.self.now n.left (n.key, n.value.value) n.right e rise) ∙ sym (split_less g.met.K.Ord.total c.args.key.now c.args.self.now n.left (n.key, n.value.value) n.right e rise order).found in
    none

pub returns-in-None-clause-tree : goal.returns-in-None-clause-tree
returns-in-None-clause-tree g t c = λ rise.
    let n = c.in-Fork.node.value in
    let e : c.args.self.now ≡ n.left ++ (n.key, n.value.value) ∷ n.right = sym c.self.view_is ∙ ap entries_of c.in-Fork.is in
    let order = ap (λ d. g.K.Ord.cmp c.args.key.now d.key) (sym c.deref.ensures) ∙ sym c.cmp.ensures ∙ c.in-Less.is in
    let found = subst (λ d. WasFound g.K.Ord.cmp c.args.key.now d.left (option_map (λ m. m.1) c.in_ok-without-in-Less.field-0)) c.deref-in-Less.ensures c.in_ok-without-in-Less.ensures.found in
    let none : None ≡ find g.K.Ord.cmp c.args.key.now c.args.self.now = sym (ap (λ made. option_map arc_value (option_map (λ m. m.1) made)) c.in-None.is) ∙ found (rise_left g.K.Ord.cmp c.args.self.now n.left (n.key, n.value.value) n.right e rise) ∙ sym (split_less g.met.K.Ord.total c.args.key.now c.args.self.now n.left (n.key, n.value.value) n.right e rise order).found in
    sym (without_absent g.K.Ord.cmp c.args.key.now c.args.self.now (sym none))

pub returns-in_ok-tree-in-Some-clause-found : goal.returns-in_ok-tree-in-Some-clause-found
returns-in_ok-tree-in-Some-clause-found g t c = λ rise.
    let n = c.in-Fork.node.value in
    let e : c.args.self.now ≡ n.left ++ (n.key, n.value.value) ∷ n.right = sym c.self.view_is ∙ ap entries_of c.in-Fork.is in
    let order = ap (λ d. g.K.Ord.cmp c.args.key.now d.key) (sym c.deref.ensures) ∙ sym c.cmp.ensures ∙ c.in-Less.is in
    let found = subst (λ d. WasFound g.K.Ord.cmp c.args.key.now d.left (option_map (λ m. m.1) c.in_ok-without-in-Less.field-0)) c.deref-in-Less.ensures c.in_ok-without-in-Less.ensures.found in
    sym (ap (λ made. option_map arc_value (option_map (λ m. m.1) made)) c.in-Some.is) ∙ found (rise_left g.K.Ord.cmp c.args.self.now n.left (n.key, n.value.value) n.right e rise) ∙ sym (split_less g.met.K.Ord.total c.args.key.now c.args.self.now n.left (n.key, n.value.value) n.right e rise order).found

pub returns-in_ok-tree-in-Some-clause-tree : goal.returns-in_ok-tree-in-Some-clause-tree
returns-in_ok-tree-in-Some-clause-tree g t c = λ rise.
    let n = c.in-Fork.node.value in
    let e : c.args.self.now ≡ n.left ++ (n.key, n.value.value) ∷ n.right = sym c.self.view_is ∙ ap entries_of c.in-Fork.is in
    let order = ap (λ d. g.K.Ord.cmp c.args.key.now d.key) (sym c.deref.ensures) ∙ sym c.cmp.ensures ∙ c.in-Less.is in
    let left_out = subst (λ d. IsWithout g.K.Ord.cmp c.args.key.now d.left (option_map_or (λ m. m.0) c.in_ok-without-in-Less.field-0 d.left)) c.deref-in-Less.ensures c.in_ok-without-in-Less.ensures.tree in
    let rest = sym (ap (λ made. option_map_or (λ m. m.0) made n.left) c.in-Some.is) ∙ left_out (rise_left g.K.Ord.cmp c.args.self.now n.left (n.key, n.value.value) n.right e rise) in
    c.in_ok-tree-in-Some.ensures ∙ c.in_ok-with_left-in-Some.ensures.entries ∙ ap (λ d. entries_of_node (record d { left = c.in-Some.left })) c.deref-in-Some.ensures ∙ ap (λ l. l ++ (n.key, n.value.value) ∷ n.right) rest
    ∙ sym (split_less g.met.K.Ord.total c.args.key.now c.args.self.now n.left (n.key, n.value.value) n.right e rise order).left_out

pub returns-in_err-without-in-Greater-clause-there : goal.returns-in_err-without-in-Greater-clause-there
returns-in_err-without-in-Greater-clause-there g t c =
    let n = c.in-Fork.node.value in
    let e : c.args.self.now ≡ n.left ++ (n.key, n.value.value) ∷ n.right = sym c.self.view_is ∙ ap entries_of c.in-Fork.is in
    let order = ap (λ d. g.K.Ord.cmp c.args.key.now d.key) (sym c.deref.ensures) ∙ sym c.cmp.ensures ∙ c.in-Greater.is in
    let there = subst (λ d. IsThere g.K.Ord.cmp c.args.key.now d.right) c.deref-in-Greater.ensures c.in_err-without-in-Greater.ensures.there in
    whatever_err c.from_residual-in_err-without-in-Greater.result _ (there_right g.met.K.Ord.total c.args.key.now c.args.self.now n.left (n.key, n.value.value) n.right e order there)

pub returns-in_err-with_right-in-Some-2-clause-there : goal.returns-in_err-with_right-in-Some-2-clause-there
returns-in_err-with_right-in-Some-2-clause-there g t c =
    let n = c.in-Fork.node.value in
    let e : c.args.self.now ≡ n.left ++ (n.key, n.value.value) ∷ n.right = sym c.self.view_is ∙ ap entries_of c.in-Fork.is in
    let order = ap (λ d. g.K.Ord.cmp c.args.key.now d.key) (sym c.deref.ensures) ∙ sym c.cmp.ensures ∙ c.in-Greater.is in
    let found = subst (λ d. WasFound g.K.Ord.cmp c.args.key.now d.right (option_map (λ m. m.1) c.in_ok-without-in-Greater.field-0)) c.deref-in-Greater.ensures c.in_ok-without-in-Greater.ensures.found in
    let there = found_there g.K.Ord.cmp c.args.key.now n.right (option_map (λ m. m.1) c.in_ok-without-in-Greater.field-0) c.in-Some-2.old (ap (option_map (λ m. m.1)) c.in-Some-2.is) found in
    whatever_err c.from_residual-in_err-with_right-in-Some-2.result _ (there_right g.met.K.Ord.total c.args.key.now c.args.self.now n.left (n.key, n.value.value) n.right e order there)

pub returns-in_err-tree-in-Some-2-clause-there : goal.returns-in_err-tree-in-Some-2-clause-there
returns-in_err-tree-in-Some-2-clause-there g t c =
    let n = c.in-Fork.node.value in
    let e : c.args.self.now ≡ n.left ++ (n.key, n.value.value) ∷ n.right = sym c.self.view_is ∙ ap entries_of c.in-Fork.is in
    let order = ap (λ d. g.K.Ord.cmp c.args.key.now d.key) (sym c.deref.ensures) ∙ sym c.cmp.ensures ∙ c.in-Greater.is in
    let found = subst (λ d. WasFound g.K.Ord.cmp c.args.key.now d.right (option_map (λ m. m.1) c.in_ok-without-in-Greater.field-0)) c.deref-in-Greater.ensures c.in_ok-without-in-Greater.ensures.found in
    let there = found_there g.K.Ord.cmp c.args.key.now n.right (option_map (λ m. m.1) c.in_ok-without-in-Greater.field-0) c.in-Some-2.old (ap (option_map (λ m. m.1)) c.in-Some-2.is) found in
    whatever_err c.from_residual-in_err-tree-in-Some-2.result _ (there_right g.met.K.Ord.total c.args.key.now c.args.self.now n.left (n.key, n.value.value) n.right e order there)

pub returns-in-None-2-clause-found : goal.returns-in-None-2-clause-found
returns-in-None-2-clause-found g t c = λ rise.
    let n = c.in-Fork.node.value in
    let e : c.args.self.now ≡ n.left ++ (n.key, n.value.value) ∷ n.right = sym c.self.view_is ∙ ap entries_of c.in-Fork.is in
    let order = ap (λ d. g.K.Ord.cmp c.args.key.now d.key) (sym c.deref.ensures) ∙ sym c.cmp.ensures ∙ c.in-Greater.is in
    let found = subst (λ d. WasFound g.K.Ord.cmp c.args.key.now d.right (option_map (λ m. m.1) c.in_ok-without-in-Greater.field-0)) c.deref-in-Greater.ensures c.in_ok-without-in-Greater.ensures.found in
    let none : None ≡ find g.K.Ord.cmp c.args.key.now c.args.self.now = sym (ap (λ made. option_map arc_value (option_map (λ m. m.1) made)) c.in-None-2.is) ∙ found (rise_right g.K.Ord.cmp c.args.self.now n.left (n.key, n.value.value) n.right e rise) ∙ sym (split_greater g.met.K.Ord.total c.args.key.now c.args.self.now n.left (n.key, n.value.value) n.right e rise order).found in
    none

pub returns-in-None-2-clause-tree : goal.returns-in-None-2-clause-tree
returns-in-None-2-clause-tree g t c = λ rise.
    let n = c.in-Fork.node.value in
    let e : c.args.self.now ≡ n.left ++ (n.key, n.value.value) ∷ n.right = sym c.self.view_is ∙ ap entries_of c.in-Fork.is in
    let order = ap (λ d. g.K.Ord.cmp c.args.key.now d.key) (sym c.deref.ensures) ∙ sym c.cmp.ensures ∙ c.in-Greater.is in
    let found = subst (λ d. WasFound g.K.Ord.cmp c.args.key.now d.right (option_map (λ m. m.1) c.in_ok-without-in-Greater.field-0)) c.deref-in-Greater.ensures c.in_ok-without-in-Greater.ensures.found in
    let none : None ≡ find g.K.Ord.cmp c.args.key.now c.args.self.now = sym (ap (λ made. option_map arc_value (option_map (λ m. m.1) made)) c.in-None-2.is) ∙ found (rise_right g.K.Ord.cmp c.args.self.now n.left (n.key, n.value.value) n.right e rise) ∙ sym (split_greater g.met.K.Ord.total c.args.key.now c.args.self.now n.left (n.key, n.value.value) n.right e rise order).found in
    sym (without_absent g.K.Ord.cmp c.args.key.now c.args.self.now (sym none))

pub returns-in_ok-tree-in-Some-2-clause-found : goal.returns-in_ok-tree-in-Some-2-clause-found
returns-in_ok-tree-in-Some-2-clause-found g t c = λ rise.
    let n = c.in-Fork.node.value in
    let e : c.args.self.now ≡ n.left ++ (n.key, n.value.value) ∷ n.right = sym c.self.view_is ∙ ap entries_of c.in-Fork.is in
    let order = ap (λ d. g.K.Ord.cmp c.args.key.now d.key) (sym c.deref.ensures) ∙ sym c.cmp.ensures ∙ c.in-Greater.is in
    let found = subst (λ d. WasFound g.K.Ord.cmp c.args.key.now d.right (option_map (λ m. m.1) c.in_ok-without-in-Greater.field-0)) c.deref-in-Greater.ensures c.in_ok-without-in-Greater.ensures.found in
    sym (ap (λ made. option_map arc_value (option_map (λ m. m.1) made)) c.in-Some-2.is) ∙ found (rise_right g.K.Ord.cmp c.args.self.now n.left (n.key, n.value.value) n.right e rise) ∙ sym (split_greater g.met.K.Ord.total c.args.key.now c.args.self.now n.left (n.key, n.value.value) n.right e rise order).found

pub returns-in_ok-tree-in-Some-2-clause-tree : goal.returns-in_ok-tree-in-Some-2-clause-tree
returns-in_ok-tree-in-Some-2-clause-tree g t c = λ rise.
    let n = c.in-Fork.node.value in
    let e : c.args.self.now ≡ n.left ++ (n.key, n.value.value) ∷ n.right = sym c.self.view_is ∙ ap entries_of c.in-Fork.is in
    let order = ap (λ d. g.K.Ord.cmp c.args.key.now d.key) (sym c.deref.ensures) ∙ sym c.cmp.ensures ∙ c.in-Greater.is in
    let left_out = subst (λ d. IsWithout g.K.Ord.cmp c.args.key.now d.right (option_map_or (λ m. m.0) c.in_ok-without-in-Greater.field-0 d.right)) c.deref-in-Greater.ensures c.in_ok-without-in-Greater.ensures.tree in
    let rest = sym (ap (λ made. option_map_or (λ m. m.0) made n.right) c.in-Some-2.is) ∙ left_out (rise_right g.K.Ord.cmp c.args.self.now n.left (n.key, n.value.value) n.right e rise) in
    c.in_ok-tree-in-Some-2.ensures ∙ c.in_ok-with_right-in-Some-2.ensures ∙ ap (λ d. entries_of_node (record d { right = c.in-Some-2.right })) c.deref-in-Some-2.ensures ∙ ap (λ r. n.left ++ (n.key, n.value.value) ∷ r) rest
    ∙ sym (split_greater g.met.K.Ord.total c.args.key.now c.args.self.now n.left (n.key, n.value.value) n.right e rise order).left_out

pub returns-in_err-old-in-Equal-clause-there : goal.returns-in_err-old-in-Equal-clause-there
returns-in_err-old-in-Equal-clause-there g t c =
    let n = c.in-Fork.node.value in
    let e : c.args.self.now ≡ n.left ++ (n.key, n.value.value) ∷ n.right = sym c.self.view_is ∙ ap entries_of c.in-Fork.is in
    let order = ap (λ d. g.K.Ord.cmp c.args.key.now d.key) (sym c.deref.ensures) ∙ sym c.cmp.ensures ∙ c.in-Equal.is in
    whatever_err c.from_residual-in_err-old-in-Equal.result _ (there_here g.met.K.Ord.total c.args.key.now c.args.self.now n.left (n.key, n.value.value) n.right e order)

pub returns-in_err-tree-in-Equal-clause-there : goal.returns-in_err-tree-in-Equal-clause-there
returns-in_err-tree-in-Equal-clause-there g t c =
    let n = c.in-Fork.node.value in
    let e : c.args.self.now ≡ n.left ++ (n.key, n.value.value) ∷ n.right = sym c.self.view_is ∙ ap entries_of c.in-Fork.is in
    let order = ap (λ d. g.K.Ord.cmp c.args.key.now d.key) (sym c.deref.ensures) ∙ sym c.cmp.ensures ∙ c.in-Equal.is in
    whatever_err c.from_residual-in_err-tree-in-Equal.result _ (there_here g.met.K.Ord.total c.args.key.now c.args.self.now n.left (n.key, n.value.value) n.right e order)

pub returns-in_ok-tree-in-Equal-clause-found : goal.returns-in_ok-tree-in-Equal-clause-found
returns-in_ok-tree-in-Equal-clause-found g t c = λ rise.
    let n = c.in-Fork.node.value in
    let e : c.args.self.now ≡ n.left ++ (n.key, n.value.value) ∷ n.right = sym c.self.view_is ∙ ap entries_of c.in-Fork.is in
    let order = ap (λ d. g.K.Ord.cmp c.args.key.now d.key) (sym c.deref.ensures) ∙ sym c.cmp.ensures ∙ c.in-Equal.is in
    ap Some (c.in_ok-old-in-Equal.ensures ∙ ap (λ d. d.value.value) c.deref-in-Equal.ensures)
    ∙ sym (split_equal g.met.K.Ord.total c.args.key.now c.args.self.now n.left (n.key, n.value.value) n.right e rise order).found

pub returns-in_ok-tree-in-Equal-clause-tree : goal.returns-in_ok-tree-in-Equal-clause-tree
returns-in_ok-tree-in-Equal-clause-tree g t c = λ rise.
    let n = c.in-Fork.node.value in
    let e : c.args.self.now ≡ n.left ++ (n.key, n.value.value) ∷ n.right = sym c.self.view_is ∙ ap entries_of c.in-Fork.is in
    let order = ap (λ d. g.K.Ord.cmp c.args.key.now d.key) (sym c.deref.ensures) ∙ sym c.cmp.ensures ∙ c.in-Equal.is in
    c.in_ok-tree-in-Equal.ensures ∙ ap (λ d. d.left ++ c.deref-in-Equal-3.result.now.right) c.deref-in-Equal-2.ensures ∙ ap (λ d. n.left ++ d.right) c.deref-in-Equal-3.ensures
    ∙ sym (split_equal g.met.K.Ord.total c.args.key.now c.args.self.now n.left (n.key, n.value.value) n.right e rise order).left_out
