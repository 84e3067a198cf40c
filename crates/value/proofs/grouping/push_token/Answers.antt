use Rattle.std.proofs.Common.{ℕ, zero, true, false, ◌≡◌, ◌≢◌, ◌<◌, ◌-◌, suc, List, [], ◌∷◌, ◌++◌, map, length, set, refl, sym, ap, subst, ◌∙◌, arith, vec_len}
use Rattle.std.specs.Cmp.Lexicographic.{same_text, other_text}
use Rattle.std.proofs.lemmas.List.{map-append}
use Rattle.value.specs.declared.assets.Policy.{Policy as CodePolicy}
use Rattle.value.specs.View.{policy_of, token_of}
use Rattle.value.specs.Grouped.{asset_under}
use Rattle.value.proofs.Putting.{IsPut, IsApartFromLast, with_more, put_under_last, put_under_other, apart_at, apart_none, set_same}
use Rattle.value.proofs.grouping.push_token.Goals as goal
use Rattle.value.proofs.grouping.push_token.Goals.{in-Some+else-eq, in_default}

-- under the last policy
put_last : (g : _) (c : goal.In_ok-push g)
    → IsPut (map policy_of c.args.policies.now.items) (map policy_of (set c.args.policies.now.items (vec_len c.args.policies.now - 1) (record { id = c.in-Some.last.now.id; tokens = c.push.new.self }))) (asset_under c.args.id.bytes (token_of c.args.token))
put_last g c =
    let items = c.args.policies.now.items in
    let last = c.in-Some.last.now in
    let some : 0 < vec_len c.args.policies.now = c.in-Some.ensures.variant.0 refl in
    let more : policy_of (record { id = last.id; tokens = c.push.new.self }) ≡ with_more (policy_of last) (token_of c.args.token) =
    λ i. record { id = last.id.bytes; tokens = (ap (map token_of) c.in_ok-push.ensures.items ∙ map-append token_of last.tokens.items (c.args.token ∷ [])) i } in
    subst (λ id. IsPut (map policy_of items) (map policy_of (set items (vec_len c.args.policies.now - 1) (record { id = last.id; tokens = c.push.new.self }))) (asset_under id (token_of c.args.token)))
    (same_text last.id.bytes c.args.id.bytes c.if-eq.ensures)
    (put_under_last policy_of items (vec_len c.args.policies.now - 1) last (record { id = last.id; tokens = c.push.new.self }) (token_of c.args.token) (omega (arith, c.args.policies.now.ok.0)) c.in-Some.ensures.value more)

pub returns-then-eq-clause-flat : goal.returns-then-eq-clause-flat
returns-then-eq-clause-flat g c = (put_last g c).flat

pub returns-then-eq-clause-grouped : goal.returns-then-eq-clause-grouped
returns-then-eq-clause-grouped g c = (put_last g c).grouped

-- the policies as they were, and that the last one is another
abbrev IsOther : {Q : Type 0} → List (CodePolicy Q) → List (CodePolicy Q) → List ℕ → Type 0
IsOther old met id = (met ≡ old) × IsApartFromLast (map policy_of old) id

none_there : (n : ℕ) → (0 < n → false ≡ true) → n ≡ 0
none_there zero h = refl
none_there (suc n) h = let no : false ≡ true = h (omega arith) in absurd cc

other : (g : _) (c : goal.In_ok-push-3 g) → IsOther c.args.policies.now.items c.match-last_mut.policies.items c.args.id.bytes
other g c =
    let items = c.args.policies.now.items in
    elim c.match-last_mut.branch [
      | in-Some+else-eq w ↦ let some : 0 < vec_len c.args.policies.now = w.in-Some.ensures.variant.0 refl in
          let long : suc (vec_len c.args.policies.now - 1) ≡ length items = omega (arith, c.args.policies.now.ok.0) in
          let apart : w.in-Some.last.now.id.bytes ≢ c.args.id.bytes = other_text w.in-Some.last.now.id.bytes c.args.id.bytes w.if-eq.ensures in (
            ap (λ v. v.items) w.policies-is ∙ set_same items (vec_len c.args.policies.now - 1) w.in-Some.last.now long w.in-Some.ensures.value,
            apart_at policy_of items (vec_len c.args.policies.now - 1) w.in-Some.last.now c.args.id.bytes long w.in-Some.ensures.value apart,
          )
      | in_default w ↦ (ap (λ v. v.items) w.policies-is, apart_none policy_of items c.args.id.bytes (omega (arith, none_there (vec_len c.args.policies.now) w.in_default.ensures.variant.1, c.args.policies.now.ok.0)))
    ]

-- under another policy
put_other : (g : _) (c : goal.In_ok-push-3 g) → IsPut (map policy_of c.args.policies.now.items) (map policy_of c.push-3.new.self.items) (asset_under c.args.id.bytes (token_of c.args.token))
put_other g c =
    let items = c.args.policies.now.items in
    let met = other g c in
    let one : map token_of c.push-2.new.self.items ≡ token_of c.args.token ∷ [] = ap (map token_of) (c.in_ok-push-2.ensures.items ∙ ap (λ ts. ts ++ c.args.token ∷ []) c.new-tokens.ensures.items) in
    subst (λ new. IsPut (map policy_of items) (map policy_of new) (asset_under c.args.id.bytes (token_of c.args.token)))
    (sym (c.in_ok-push-3.ensures.items ∙ ap (λ old. old ++ record { id = c.args.id; tokens = c.push-2.new.self } ∷ []) met.0))
    (put_under_other policy_of items (record { id = c.args.id; tokens = c.push-2.new.self }) (token_of c.args.token) one met.1)

pub returns-clause-flat : goal.returns-clause-flat
returns-clause-flat g c = (put_other g c).flat

pub returns-clause-grouped : goal.returns-clause-grouped
returns-clause-grouped g c = (put_other g c).grouped
