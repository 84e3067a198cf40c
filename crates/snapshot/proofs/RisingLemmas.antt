-- Outputs in the order of their inputs, and one more after the last.
use Rattle.std.proofs.Common.{◌≡◌, Bool, true, false, ◌&&◌, T, [], ◌∷◌, ◌++◌, Option, Some, None, refl, sym, ap, subst, ◌∙◌}
use Rattle.std.specs.FinMap as finite
use Rattle.std.specs.FinMap.{put, is_sorted}
use Rattle.std.specs.FinMap.Entries.{below_all}
use Rattle.std.specs.Ordering.{is_lt, ordering_reverse}
use Rattle.std.proofs.lemmas.List.{nil_from_length}
use Rattle.std.specs.declared.cmp.Ordering.{Ordering}
use Rattle.std.specs.declared.cmp.Ordering.TheVariants.{Less, Equal, Greater}
use Rattle.model.specs.Transaction.{Input, Output, input_cmp}
use Rattle.model.specs.Utxo.{Utxo}
use Rattle.model.proofs.Unspent.{inputs_total}
use Rattle.snapshot.specs.Rising.{EndsAt, IsLast}
use Rattle.snapshot.proofs.Filling.{Pairs}

first_of : (a b : Bool) → T (a && b) → T a
first_of true b p = tt
first_of false b p = p

second_of : (a b : Bool) → T (a && b) → T b
second_of true b p = p
second_of false b p = absurd p

is_less : (o : Ordering) → T (is_lt o) → o ≡ Less
is_less Less p = refl
is_less Equal p = absurd p
is_less Greater p = absurd p

turned : (a b : Input) → input_cmp a b ≡ Less → input_cmp b a ≡ Greater
turned a b less = inputs_total.antisymm b a ∙ ap ordering_reverse less

-- a key below all of these is below one of them
below_one : (k : Input) (before : Pairs) (p : Input × Output) (after : Pairs) → T (below_all input_cmp k (before ++ p ∷ after)) → input_cmp k p.0 ≡ Less
below_one k [] p after h = is_less (input_cmp k p.0) (first_of (is_lt (input_cmp k p.0)) (below_all input_cmp k after) h)
below_one k (q ∷ before) p after h = below_one k before p after (second_of (is_lt (input_cmp k q.0)) (below_all input_cmp k (before ++ p ∷ after)) h)

put_last : (before : Pairs) (p q : Input × Output) → T (is_sorted input_cmp (before ++ p ∷ [])) → input_cmp p.0 q.0 ≡ Less → put input_cmp q.0 q.1 (before ++ p ∷ []) ≡ (before ++ p ∷ []) ++ q ∷ []
put_last [] p q sorted less = rw (turned p.0 q.0 less) refl
put_last (b ∷ before) p q sorted less =
    let rest = before ++ p ∷ [] in
    let below = below_one b.0 before p [] (first_of (below_all input_cmp b.0 rest) (is_sorted input_cmp rest) sorted) in
    let first = inputs_total.trans b.0 p.0 q.0 below less in
    let later = put_last before p q (second_of (below_all input_cmp b.0 rest) (is_sorted input_cmp rest) sorted) less in
    rw (turned b.0 q.0 first) (ap (λ (ps : Pairs). b ∷ ps) later)

-- an output whose input comes after the last one is put at the end
pub put_after : (utxo : Utxo) (input last : Input) (output : Output) → EndsAt (finite.entries utxo) last → input_cmp last input ≡ Less → finite.entries (finite.insert utxo input output) ≡ finite.entries utxo ++ (input, output) ∷ []
put_after utxo input last output ends less =
    let sorted = subst (λ (ps : Pairs). T (is_sorted input_cmp ps)) ends.split (finite.entries_sorted utxo) in
    let at_end = put_last ends.before (last, ends.output) (input, output) sorted less in
    finite.entries-insert inputs_total utxo input output ∙ ap (put input_cmp input output) ends.split ∙ at_end ∙ ap (λ (ps : Pairs). ps ++ (input, output) ∷ []) (sym ends.split)

-- the first one
pub put_first : (utxo : Utxo) (input : Input) (output : Output) → finite.entries utxo ≡ [] → finite.entries (finite.insert utxo input output) ≡ finite.entries utxo ++ (input, output) ∷ []
put_first utxo input output none =
    finite.entries-insert inputs_total utxo input output ∙ ap (put input_cmp input output) none ∙ ap (λ (ps : Pairs). ps ++ (input, output) ∷ []) (sym none)

-- in order each comes after the one before it
next_less : (before : Pairs) (p q : Input × Output) (after : Pairs) → T (is_sorted input_cmp (before ++ p ∷ q ∷ after)) → input_cmp p.0 q.0 ≡ Less
next_less [] p q after sorted = below_one p.0 [] q after (first_of (below_all input_cmp p.0 (q ∷ after)) (is_sorted input_cmp (q ∷ after)) sorted)
next_less (b ∷ before) p q after sorted = next_less before p q after (second_of (below_all input_cmp b.0 (before ++ p ∷ q ∷ after)) (is_sorted input_cmp (before ++ p ∷ q ∷ after)) sorted)

pub comes_after : (utxo : Utxo) (before : Pairs) (p q : Input × Output) (after : Pairs) → finite.entries utxo ≡ before ++ p ∷ q ∷ after → input_cmp p.0 q.0 ≡ Less
comes_after utxo before p q after e = next_less before p q after (subst (λ (ps : Pairs). T (is_sorted input_cmp ps)) e (finite.entries_sorted utxo))

-- no outputs
pub none_in : finite.entries (finite.empty {X = Output} {R = input_cmp}) ≡ []
none_in = nil_from_length _ (sym (finite.len-entries (finite.empty {X = Output} {R = input_cmp})) ∙ finite.len-empty input_cmp Output)

-- the input comes after the last one, where there is one
abbrev pub ComesAfter : Option Input → Input → Type 0
ComesAfter None input = Unit {0}
ComesAfter (Some last) input = input_cmp last input ≡ Less

-- one more
pub one_added : (old utxo new : Utxo) (last : Option Input) (input : Input) (output : Output) → utxo ≡ old → IsLast last (finite.entries utxo) → ComesAfter last input → new ≡ finite.insert utxo input output → finite.entries new ≡ finite.entries old ++ (input, output) ∷ []
one_added old utxo new None input output same none after is =
    ap finite.entries is ∙ put_first utxo input output none ∙ ap (λ (u : Utxo). finite.entries u ++ (input, output) ∷ []) same
one_added old utxo new (Some last) input output same ends after is =
    ap finite.entries is ∙ put_after utxo input last output ends after ∙ ap (λ (u : Utxo). finite.entries u ++ (input, output) ∷ []) same

-- it is the last one then
pub ends_there : (old new : Utxo) (input : Input) (output : Output) → finite.entries new ≡ finite.entries old ++ (input, output) ∷ [] → EndsAt (finite.entries new) input
ends_there old new input output is = record { before = finite.entries old; output = output; split = is }

-- what a test of the order says where it holds, and where it fails
pub less_if : (o : Ordering) (b : Bool) → b ≡ is_lt o → b ≡ true → o ≡ Less
less_if Less b is holds = refl
less_if Equal b is holds = absurd cc
less_if Greater b is holds = absurd cc

pub not_less : (o : Ordering) (b : Bool) → b ≡ is_lt o → b ≡ false → o ≡ Less → ⊥
not_less Less b is fails e = absurd cc
not_less Equal b is fails e = absurd cc
not_less Greater b is fails e = absurd cc
