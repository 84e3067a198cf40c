-- Names of followers: one more that is bound.
use Rattle.std.proofs.Common.{◌≡◌, ℕ, Bool, true, false, cond, List, [], ◌∷◌, ◌++◌, Option, Some, None, IsSome, refl, sym, ◌∙◌, ap, subst}
use Rattle.std.specs.Prelude.{bytes_eq}
use Rattle.std.specs.Option.{option_or}
use Rattle.std.specs.Map.{set_value}
use Rattle.std.proofs.lemmas.Map.Text.{is_eq-slice_cmp}
use Rattle.script.specs.declared.follower_names.FollowerNames.{FollowerNames}
use Rattle.script.specs.Names.{Named, bound_to}
use Rattle.byte_keys.specs.ByteKeys.{at_bytes}
use Rattle.script.specs.FollowerNamesView.{AreFollowersNamed, number_at}
use Rattle.byte_keys.proofs.ForCallers.{has_bytes, same_from, lookup_set}
use Rattle.script.proofs.Bindings.{bound_more, or_none}

numbered : (old : Option (Option ℕ)) (id : ℕ) (b : Bool) → (b ≡ true → number_at old ≡ None)
    → number_at (cond b (Some (Some id)) old) ≡ option_or (number_at old) (cond b (Some id) None)
numbered old id true free = rw (free refl) refl
numbered old id false free = or_none (number_at old)

-- the names of the code with one more
pub named_after : (old new : FollowerNames) (names : List (Named ℕ)) (name : List ℕ) (id : ℕ) → AreFollowersNamed old names → bound_to name names ≡ None
    → IsSome (at_bytes (λ k. k.items) name old.by_name) → new.by_name.entries ≡ set_value (has_bytes (λ k. k.items) name) old.by_name.entries (Some id)
    → AreFollowersNamed new (names ++ record { name = name; bound = id } ∷ [])
named_after old new names name id named free room written = record {
  by_name = λ q.
      let at : List ℕ → Option (Option ℕ) = λ bytes. at_bytes (λ k. k.items) bytes old.by_name in
      let unbound : bytes_eq q name ≡ true → number_at (at q) ≡ None =
      λ same. subst (λ (b : List ℕ). number_at (at b) ≡ None) (sym (same_from q name (is_eq-slice_cmp q name ∙ same))) (named.by_name name ∙ free) in
      rw (written, lookup_set (λ k. k.items) q name old.by_name.entries (Some id) room)
      (numbered (at q) id (bytes_eq q name) unbound
      ∙ ap (λ (m : Option ℕ). option_or m (cond (bytes_eq q name) (Some id) None)) (named.by_name q) ∙ sym (bound_more q names (record { name = name; bound = id })));
}
