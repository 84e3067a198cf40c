-- What follows the ends of paths, from the successors of each.
use Rattle.std.proofs.Common.{◌≡◌, ◌↔◌, ℕ, List, [], ◌∷◌, ◌++◌, Contains, Some, sym, ap, subst, ◌∙◌, inl, inr}
use Rattle.std.proofs.lemmas.List.Elements.{Contains-append_left, Contains-append_right, Contains-append_cases, Contains-push, Contains-push_cases}
use Rattle.model.specs.Block.{Block, block_hash_of}
use Rattle.model.specs.Chain.{tip_at, Follows}
use Rattle.std.specs.List.{AllByRecursion}
use Rattle.model.proofs.Lists.{contains_first, contains_cases, nothing_contained, all_from_members}
use Rattle.ident.specs.Kinds.{BlockHash}
use Rattle.blockstore.specs.Stored.{Stored, Store}
use Rattle.blockstore.specs.Answers.{AreSuccessors}
use Rattle.chainsel.specs.Paths.{IsFit, IsOnPath}
use Rattle.chainsel.specs.Ends.{AreNext}

-- the block of one of these against which nothing is known, and that follows the end
pub record IsTaken (invalid : List BlockHash) (end : Block) (found : List Stored) (b : Block) : Type 0 where
  pub stored : Stored
  pub member : Contains found stored
  pub block : stored.block ≡ b
  pub fit : IsFit invalid stored
  pub follows : Follows (tip_at end) b

-- the blocks of those of these against which nothing is known, and that follow the end
abbrev pub AreTaken : List BlockHash → (end : Block) → List Stored → (next : List Block) → Type 0
AreTaken invalid end found next = (b : Block) → Contains next b ↔ IsTaken invalid end found b

module _ (invalid : List BlockHash) (end : Block) where
  later : (found : List Stored) (s : Stored) (b : Block) → IsTaken invalid end found b → IsTaken invalid end (found ++ s ∷ []) b
  later found s b taken = record {
    stored = taken.stored;
    member = Contains-append_left found (s ∷ []) taken.stored taken.member;
    block = taken.block;
    fit = taken.fit;
    follows = taken.follows;
  }

  -- the next one is taken
  pub taken_more : (found : List Stored) (s : Stored) (next : List Block) → AreTaken invalid end found next → IsFit invalid s → Follows (tip_at end) s.block → AreTaken invalid end (found ++ s ∷ []) (next ++ s.block ∷ [])
  taken_more found s next are fit follows b = (
    (λ member. elim (Contains-push_cases next s.block b member) [
      | inl there ↦ later found s b ((are b).0 there)
      | inr is ↦ record { stored = s; member = Contains-push found s; block = is; fit = fit; follows = subst (Follows (tip_at end)) is follows }
    ]),
    (λ taken. elim (Contains-push_cases found s taken.stored taken.member) [
      | inl there ↦ Contains-append_left next (s.block ∷ []) b ((are b).1 (record { stored = taken.stored; member = there; block = taken.block; fit = taken.fit; follows = taken.follows }))
      | inr is ↦ let same : s.block ≡ b = ap (λ (x : Stored). x.block) is ∙ taken.block in
          subst (Contains (next ++ s.block ∷ [])) same (Contains-push next s.block)
    ]),
  )

  -- the next one isn't taken
  pub taken_past : (found : List Stored) (s : Stored) (next : List Block) → AreTaken invalid end found next → (IsFit invalid s → Follows (tip_at end) s.block → ⊥) → AreTaken invalid end (found ++ s ∷ []) next
  taken_past found s next are refused b = (
    (λ member. later found s b ((are b).0 member)),
    (λ taken. elim (Contains-push_cases found s taken.stored taken.member) [
      | inl there ↦ (are b).1 (record { stored = taken.stored; member = there; block = taken.block; fit = taken.fit; follows = taken.follows })
      | inr is ↦ absurd (refused (subst (IsFit invalid) (sym is) taken.fit)
          (subst (Follows (tip_at end)) (sym taken.block ∙ sym (ap (λ (x : Stored). x.block) is)) taken.follows))
    ]),
  )

module _ (store : Store) (invalid : List BlockHash) where
  -- of all successors of an end those are taken that follow it
  pub taken_all : (end : Block) (hash : List ℕ) (found : List Stored) (next : List Block) → AreSuccessors store (Some hash) found → hash ≡ block_hash_of end → AreTaken invalid end found next → AreNext store invalid (end ∷ []) next
  taken_all end hash found next successors is are b = (
    (λ member.
        let taken = (are b).0 member in
        record {
          live = record { stored = taken.stored; member = ((successors.members taken.stored).0 taken.member).0; block = taken.block; fit = taken.fit };
          end = end;
          member = contains_first end [];
          follows = taken.follows;
        }),
    (λ next_one.
        let live = next_one.live in
        let named : live.stored.block.header.previous ≡ Some (block_hash_of next_one.end) = ap (λ (c : Block). c.header.previous) live.block ∙ next_one.follows.previous in
        elim (contains_cases end [] next_one.end next_one.member) [
          | inl same ↦
              let previous : live.stored.block.header.previous ≡ Some hash = named ∙ ap Some (sym (ap block_hash_of same) ∙ sym is) in
              (are b).1 (record {
                stored = live.stored;
                member = (successors.members live.stored).1 (live.member, previous);
                block = live.block;
                fit = live.fit;
                follows = subst (λ (c : Block). Follows (tip_at c) b) (sym same) next_one.follows;
              })
          | inr nowhere ↦ absurd (nothing_contained next_one.end nowhere)
        ]),
  )

  -- nothing follows no ends
  pub next_none : AreNext store invalid [] []
  next_none b = ((λ member. absurd (nothing_contained b member)), (λ one. absurd (nothing_contained one.end one.member)))

  -- what follows ends is what paths are made of
  pub next_steps : (new : Block) (ends next : List Block) → AreNext store invalid ends next → AllByRecursion (IsOnPath store invalid new) next
  next_steps new ends next are = all_from_members (IsOnPath store invalid new) next (λ b member. inr ((are b).0 member).live)

  -- what follows one end more comes behind
  pub next_more : (ends next : List Block) (end : Block) (more : List Block) → AreNext store invalid ends next → AreNext store invalid (end ∷ []) more → AreNext store invalid (ends ++ end ∷ []) (next ++ more)
  next_more ends next end more are too b = (
    (λ member. elim (Contains-append_cases next more b member) [
      | inl before ↦ let one = (are b).0 before in record { live = one.live; end = one.end; member = Contains-append_left ends (end ∷ []) one.end one.member; follows = one.follows }
      | inr behind ↦ let one = (too b).0 behind in record { live = one.live; end = one.end; member = Contains-append_right ends (end ∷ []) one.end one.member; follows = one.follows }
    ]),
    (λ one. elim (Contains-append_cases ends (end ∷ []) one.end one.member) [
      | inl before ↦ Contains-append_left next more b ((are b).1 (record { live = one.live; end = one.end; member = before; follows = one.follows }))
      | inr last ↦ Contains-append_right next more b ((too b).1 (record { live = one.live; end = one.end; member = last; follows = one.follows }))
    ]),
  )
