-- What the reading of a script says where memory was wanting: some scripts stand in it, and which head stands first.
use Rattle.std.proofs.Common.{◌≡◌, ℕ, ◌<◌, Bool, true, false, List, [], ◌∷◌, ◌++◌, Some, ap, ◌∙◌, refl, arith, inl, inr}
use Rattle.std.specs.Prelude.{◌⊎◌, ◌==◌, if◌then◌else◌}
use Rattle.model.specs.Cbor.{head}
use Rattle.model.specs.Script.{Script, NoScripts}
use Rattle.cbor.specs.Gives.{GivesNo}
use Rattle.cbor.specs.Reading.{head_at}
use Rattle.cbor.specs.Shapes.{Reading, list_array_at}
use Rattle.cbor.proofs.ForCallers.{no_as, some_in_array}
use Rattle.timelock.specs.Reading.{scripts_of, scripts_at, members_of_kind}
use Rattle.timelock.specs.Bare.{BeginsLikeScript}

-- scripts of which there is none are those of the empty list
no_list : (ss : List Script) → scripts_of ss ≡ NoScripts → ss ≡ []
no_list [] e = refl
no_list (s ∷ ss) e = absurd cc

module _ (read : Reading Script) where
  -- an array that counts some is not read as no scripts
  pub some_scripts : (bytes : List ℕ) (count : ℕ) (first : List ℕ) → head_at 4 bytes ≡ Some (count, first) → 0 < count → GivesNo (λ x. x.0 ≡ NoScripts) (scripts_at read bytes)
  unfolding scripts_at
  some_scripts bytes count first counts some =
      no_as scripts_of (list_array_at read) (λ x. x.0 ≡ NoScripts) bytes
      (λ x e none. some_in_array read bytes count first counts x.1 (λ zero. omega (arith, zero, some)) (e ∙ ap (λ (ss : List Script). Some (ss, x.1)) (no_list x.0 none)))

two_or_three : (b : Bool) → (◌≡◌ {A = ℕ} (if b then 3 else 2) 2) ⊎ (◌≡◌ {A = ℕ} (if b then 3 else 2) 3)
two_or_three true = inr refl
two_or_three false = inl refl

-- an array of as many members as a script of this kind has
pub script_head : (kind count : ℕ) (bytes rest : List ℕ) → count ≡ members_of_kind kind → bytes ≡ head 4 count ++ rest → BeginsLikeScript bytes
script_head kind count bytes rest right parts =
    elim (two_or_three (kind == 3)) [
      | inl two ↦ inl (record { rest = rest; parts = parts ∙ ap (λ (n : ℕ). head 4 n ++ rest) (right ∙ two) })
      | inr three ↦ inr (record { rest = rest; parts = parts ∙ ap (λ (n : ℕ). head 4 n ++ rest) (right ∙ three) })
    ]
