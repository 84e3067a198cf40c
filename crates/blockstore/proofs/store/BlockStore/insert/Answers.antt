use Rattle.std.proofs.Common.{◌≡◌, ◌∙◌, ◌++◌, ◌∷◌, [], ap, subst, sym, refl, false, true, length, List, Contains, inl, inr}
use Rattle.std.proofs.lemmas.List.Elements.{Contains-push_cases}
use Rattle.block.specs.Read.{IsRead}
use Rattle.model.specs.Block.{Block, block_text, block_hash_of}
use Rattle.model.proofs.BlockTexts.{block_text_is}
use Rattle.block.specs.View.{tip_of}
use Rattle.blockstore.specs.Stored.{Stored, Store, IsSet, unmarked}
use Rattle.blockstore.specs.Placed.{Held}
use Rattle.blockstore.specs.Insertion.{IsAllowed, IsInserted, IsFull}
use Rattle.blockstore.specs.Answers.{HasNoneAt}
use Rattle.blockstore.specs.Live.{GainsLive}
use Rattle.blockstore.specs.Shelves.{IsSame}
use Rattle.model.proofs.MappedLists.{contains_map}
use Rattle.blockstore.proofs.KeySets.{on_ok, on_err}
use Rattle.blockstore.proofs.Sames.{set_same, read_same, gains_same, inserted_same}
use Rattle.blockstore.proofs.Stores.{block_of, AreRead, read_again, known_is_live, known_at, unknown_at, clash_at, unknown, no_clash, with_blocks, inserted, set_with, read_with, live_with}
use Rattle.blockstore.proofs.store.BlockStore.insert.Goals as goal

pub returns-then-has_text-clause-err : goal.returns-then-has_text-clause-err
returns-then-has_text-clause-err g c =
    let text = block_text_is c.args.block c.bytes-text.result.now (subst (λ (b : Block). IsRead b c.bytes-text.result.now) c.block-2.ensures c.bytes-text.ensures).read in
    (known_at c.args.self.now c.args.block c.hash.result.bytes c.in-Some.stored.now c.in-Some.ensures.found (ap block_text (sym c.block-in-Some.ensures) ∙ (c.if-has_text.ensures.0 refl ∙ sym text)), refl)

pub returns-then-has_text-clause-one : goal.returns-then-has_text-clause-one
returns-then-has_text-clause-one g c =
    let read : AreRead c.args.self.now.blocks = subst (λ (s : Store). AreRead s.blocks) c.self.view_is c.self.invariant.read in
    let read_too : IsRead c.args.block (block_text c.args.block) = read_again c.args.block c.bytes-text.result.now (subst (λ (b : Block). IsRead b c.bytes-text.result.now) c.block-2.ensures c.bytes-text.ensures) in
    known_is_live c.args.self.now c.args.block read read_too

pub returns-in-Some-clause-err : goal.returns-in-Some-clause-err
returns-in-Some-clause-err g c =
    let is_set : IsSet c.args.self.now = subst IsSet c.self.view_is c.self.invariant.is_set in
    let read : AreRead c.args.self.now.blocks = subst (λ (s : Store). AreRead s.blocks) c.self.view_is c.self.invariant.read in
    let read_too : IsRead c.args.block (block_text c.args.block) = read_again c.args.block c.bytes-text.result.now (subst (λ (b : Block). IsRead b c.bytes-text.result.now) c.block-2.ensures c.bytes-text.ensures) in
    let text = block_text_is c.args.block c.bytes-text.result.now (subst (λ (b : Block). IsRead b c.bytes-text.result.now) c.block-2.ensures c.bytes-text.ensures).read in
    let other = λ (same : block_text c.in-Some.stored.now.block ≡ block_text c.args.block).
    let e : false ≡ true = c.if-has_text.ensures.1 (ap block_text c.block-in-Some.ensures ∙ (same ∙ text)) in absurd {A = ⊥} cc in (
      (
        unknown_at c.args.self.now c.args.block c.hash.result.bytes c.in-Some.stored.now is_set read read_too (c.hash.ensures ∙ ap block_hash_of c.block-3.ensures) c.in-Some.ensures.found other,
        clash_at c.args.self.now c.args.block c.hash.result.bytes c.in-Some.stored.now (c.hash.ensures ∙ ap block_hash_of c.block-3.ensures) c.in-Some.ensures.found other,
      ),
      refl,
    )

pub returns-in-Some-clause-one : goal.returns-in-Some-clause-one
returns-in-Some-clause-one g c =
    let read : AreRead c.args.self.now.blocks = subst (λ (s : Store). AreRead s.blocks) c.self.view_is c.self.invariant.read in
    let read_too : IsRead c.args.block (block_text c.args.block) = read_again c.args.block c.bytes-text.result.now (subst (λ (b : Block). IsRead b c.bytes-text.result.now) c.block-2.ensures c.bytes-text.ensures) in
    known_is_live c.args.self.now c.args.block read read_too

pub returns-then-is_full_for-clause-err : goal.returns-then-is_full_for-clause-err
returns-then-is_full_for-clause-err g c =
    let read : AreRead c.args.self.now.blocks = subst (λ (s : Store). AreRead s.blocks) c.self.view_is c.self.invariant.read in
    let read_too : IsRead c.args.block (block_text c.args.block) = read_again c.args.block c.bytes-text.result.now (subst (λ (b : Block). IsRead b c.bytes-text.result.now) c.block-2.ensures c.bytes-text.ensures) in (
      (
        unknown c.args.self.now c.args.block c.hash.result.bytes read read_too (c.hash.ensures ∙ ap block_hash_of c.block-3.ensures) c.in_default.ensures.found,
        no_clash c.args.self.now c.args.block c.hash.result.bytes (c.hash.ensures ∙ ap block_hash_of c.block-3.ensures) c.in_default.ensures.found,
        subst (IsFull c.args.self.now) (ap length (sym (block_text_is c.args.block c.bytes-text.result.now (subst (λ (b : Block). IsRead b c.bytes-text.result.now) c.block-2.ensures c.bytes-text.ensures).read))) (c.if-is_full_for.ensures.0 refl),
      ),
      refl,
    )

pub returns-then-is_full_for-clause-one : goal.returns-then-is_full_for-clause-one
returns-then-is_full_for-clause-one g c =
    let read : AreRead c.args.self.now.blocks = subst (λ (s : Store). AreRead s.blocks) c.self.view_is c.self.invariant.read in
    let read_too : IsRead c.args.block (block_text c.args.block) = read_again c.args.block c.bytes-text.result.now (subst (λ (b : Block). IsRead b c.bytes-text.result.now) c.block-2.ensures c.bytes-text.ensures) in
    known_is_live c.args.self.now c.args.block read read_too

pub take_in-requires-clause-alone : goal.take_in-requires-clause-alone
take_in-requires-clause-alone g c =
    let old : Store = record { capacity = c.self.inside.capacity; root = tip_of c.self.inside.root; blocks = c.self.inside.blocks.blocks } in
    let none : HasNoneAt old (block_hash_of c.args.block) =
    subst (HasNoneAt old) (c.hash.ensures ∙ ap block_hash_of c.block-3.ensures) (subst (λ (s : Store). HasNoneAt s c.hash.result.bytes) (sym c.self.view_is) c.in_default.ensures.found) in
    λ x member at. none x.block (contains_map block_of old.blocks x member) at

pub invariant_of-self : goal.invariant_of-self
invariant_of-self g c =
    let same : c.take_in.new.blocks.blocks ≡ c.self.inside.blocks.blocks = ap (λ (h : Held). h.blocks) (on_err _ c.take_in.result c.if-is_err.ensures.value c.take_in.ensures.err) in
    record {
      is_set = subst (λ (xs : List Stored). IsSet (record { capacity = c.self.inside.capacity; root = tip_of c.self.inside.root; blocks = xs })) (sym same) c.self.invariant.is_set;
      read = subst AreRead (sym same) c.self.invariant.read;
      notes = c.take_in.ensures.notes;
      none_waits = c.take_in.ensures.waiting;
      room = c.take_in.ensures.room;
      marks = λ none x member. c.self.invariant.marks none x (subst (λ (xs : List Stored). Contains xs x) same member);
    }

pub returns-then-is_err-clause-err : goal.returns-then-is_err-clause-err
returns-then-is_err-clause-err g c =
    let read : AreRead c.args.self.now.blocks = subst (λ (s : Store). AreRead s.blocks) c.self.view_is c.self.invariant.read in
    let read_too : IsRead c.args.block (block_text c.args.block) = read_again c.args.block c.bytes-text.result.now (subst (λ (b : Block). IsRead b c.bytes-text.result.now) c.block-2.ensures c.bytes-text.ensures) in
    let allowed : IsAllowed c.args.self.now c.args.block = record {
      unknown = unknown c.args.self.now c.args.block c.hash.result.bytes read read_too (c.hash.ensures ∙ ap block_hash_of c.block-3.ensures) c.in_default.ensures.found;
      alone = no_clash c.args.self.now c.args.block c.hash.result.bytes (c.hash.ensures ∙ ap block_hash_of c.block-3.ensures) c.in_default.ensures.found;
      not_full = λ full. let e : false ≡ true = c.if-is_full_for.ensures.1 (subst (IsFull c.args.self.now) (ap length (block_text_is c.args.block c.bytes-text.result.now (subst (λ (b : Block). IsRead b c.bytes-text.result.now) c.block-2.ensures c.bytes-text.ensures).read)) full) in absurd {A = ⊥} cc;
    } in
    let same : c.take_in.new.blocks.blocks ≡ c.self.inside.blocks.blocks = ap (λ (h : Held). h.blocks) (on_err _ c.take_in.result c.if-is_err.ensures.value c.take_in.ensures.err) in
    (allowed, ap (λ (xs : List Stored). record { capacity = c.self.inside.capacity; root = tip_of c.self.inside.root; blocks = xs }) same ∙ c.self.view_is)

pub returns-then-is_err-clause-one : goal.returns-then-is_err-clause-one
returns-then-is_err-clause-one g c =
    let read : AreRead c.args.self.now.blocks = subst (λ (s : Store). AreRead s.blocks) c.self.view_is c.self.invariant.read in
    let read_too : IsRead c.args.block (block_text c.args.block) = read_again c.args.block c.bytes-text.result.now (subst (λ (b : Block). IsRead b c.bytes-text.result.now) c.block-2.ensures c.bytes-text.ensures) in
    known_is_live c.args.self.now c.args.block read read_too

pub invariant_of-self-2 : goal.invariant_of-self-2
invariant_of-self-2 g c =
    let old : Store = record { capacity = c.self.inside.capacity; root = tip_of c.self.inside.root; blocks = c.self.inside.blocks.blocks } in
    let more : List Stored = old.blocks ++ unmarked c.args.block ∷ [] in
    let same : IsSame c.take_in.new.blocks.blocks more = on_ok _ c.take_in.result c.if-is_err.ensures.value c.take_in.ensures.ok in
    let read_too : IsRead c.args.block (block_text c.args.block) = read_again c.args.block c.bytes-text.result.now (subst (λ (b : Block). IsRead b c.bytes-text.result.now) c.block-2.ensures c.bytes-text.ensures) in
    let none : HasNoneAt old (block_hash_of c.args.block) =
    subst (HasNoneAt old) (c.hash.ensures ∙ ap block_hash_of c.block-3.ensures) (subst (λ (s : Store). HasNoneAt s c.hash.result.bytes) (sym c.self.view_is) c.in_default.ensures.found) in
    let room : IsFull old (length (block_text c.args.block)) → ⊥ = λ full. let e : false ≡ true = c.if-is_full_for.ensures.1 (subst (IsFull c.args.self.now) (ap length (block_text_is c.args.block c.bytes-text.result.now (subst (λ (b : Block). IsRead b c.bytes-text.result.now) c.block-2.ensures c.bytes-text.ensures).read)) (subst (λ (s : Store). IsFull s (length (block_text c.args.block))) c.self.view_is full)) in absurd {A = ⊥} cc in
    record {
      is_set = set_same old c.take_in.new.blocks.blocks more same (set_with old c.args.block more refl c.self.invariant.is_set none room);
      read = read_same old c.take_in.new.blocks.blocks more same (read_with old c.args.block more refl c.self.invariant.read read_too);
      notes = c.take_in.ensures.notes;
      none_waits = c.take_in.ensures.waiting;
      room = c.take_in.ensures.room;
      marks = λ none x member. elim (Contains-push_cases old.blocks (unmarked c.args.block) x ((same.members x).0 member)) [
        | inl was ↦ c.self.invariant.marks none x was
        | inr is ↦ ap (λ (s : Stored). s.invalid) (sym is)
      ];
    }

pub returns-clause-ok : goal.returns-clause-ok
returns-clause-ok g c =
    let old : Store = record { capacity = c.self.inside.capacity; root = tip_of c.self.inside.root; blocks = c.self.inside.blocks.blocks } in
    let more : List Stored = old.blocks ++ unmarked c.args.block ∷ [] in
    let same : IsSame c.take_in.new.blocks.blocks more = on_ok _ c.take_in.result c.if-is_err.ensures.value c.take_in.ensures.ok in
    let read : AreRead c.args.self.now.blocks = subst (λ (s : Store). AreRead s.blocks) c.self.view_is c.self.invariant.read in
    let read_too : IsRead c.args.block (block_text c.args.block) = read_again c.args.block c.bytes-text.result.now (subst (λ (b : Block). IsRead b c.bytes-text.result.now) c.block-2.ensures c.bytes-text.ensures) in
    let allowed : IsAllowed c.args.self.now c.args.block = record {
      unknown = unknown c.args.self.now c.args.block c.hash.result.bytes read read_too (c.hash.ensures ∙ ap block_hash_of c.block-3.ensures) c.in_default.ensures.found;
      alone = no_clash c.args.self.now c.args.block c.hash.result.bytes (c.hash.ensures ∙ ap block_hash_of c.block-3.ensures) c.in_default.ensures.found;
      not_full = λ full. let e : false ≡ true = c.if-is_full_for.ensures.1 (subst (IsFull c.args.self.now) (ap length (block_text_is c.args.block c.bytes-text.result.now (subst (λ (b : Block). IsRead b c.bytes-text.result.now) c.block-2.ensures c.bytes-text.ensures).read)) full) in absurd {A = ⊥} cc;
    } in
    (allowed, subst (λ (s : Store). IsInserted s c.args.block (with_blocks old c.take_in.new.blocks.blocks)) c.self.view_is (inserted_same old c.take_in.new.blocks.blocks more same c.args.block (inserted old c.args.block more refl)))

pub returns-clause-one : goal.returns-clause-one
returns-clause-one g c =
    let read : AreRead c.args.self.now.blocks = subst (λ (s : Store). AreRead s.blocks) c.self.view_is c.self.invariant.read in
    let read_too : IsRead c.args.block (block_text c.args.block) = read_again c.args.block c.bytes-text.result.now (subst (λ (b : Block). IsRead b c.bytes-text.result.now) c.block-2.ensures c.bytes-text.ensures) in
    known_is_live c.args.self.now c.args.block read read_too

pub returns-clause-set : goal.returns-clause-set
returns-clause-set g c =
    let old : Store = record { capacity = c.self.inside.capacity; root = tip_of c.self.inside.root; blocks = c.self.inside.blocks.blocks } in
    let more : List Stored = old.blocks ++ unmarked c.args.block ∷ [] in
    let same : IsSame c.take_in.new.blocks.blocks more = on_ok _ c.take_in.result c.if-is_err.ensures.value c.take_in.ensures.ok in
    let none : HasNoneAt old (block_hash_of c.args.block) =
    subst (HasNoneAt old) (c.hash.ensures ∙ ap block_hash_of c.block-3.ensures) (subst (λ (s : Store). HasNoneAt s c.hash.result.bytes) (sym c.self.view_is) c.in_default.ensures.found) in
    let room : IsFull old (length (block_text c.args.block)) → ⊥ = λ full. let e : false ≡ true = c.if-is_full_for.ensures.1 (subst (IsFull c.args.self.now) (ap length (block_text_is c.args.block c.bytes-text.result.now (subst (λ (b : Block). IsRead b c.bytes-text.result.now) c.block-2.ensures c.bytes-text.ensures).read)) (subst (λ (s : Store). IsFull s (length (block_text c.args.block))) c.self.view_is full)) in absurd {A = ⊥} cc in
    set_same old c.take_in.new.blocks.blocks more same (set_with old c.args.block more refl c.self.invariant.is_set none room)

pub returns-clause-live : goal.returns-clause-live
returns-clause-live g c =
    let old : Store = record { capacity = c.self.inside.capacity; root = tip_of c.self.inside.root; blocks = c.self.inside.blocks.blocks } in
    let more : List Stored = old.blocks ++ unmarked c.args.block ∷ [] in
    let same : IsSame c.take_in.new.blocks.blocks more = on_ok _ c.take_in.result c.if-is_err.ensures.value c.take_in.ensures.ok in
    subst (λ (s : Store). GainsLive s c.args.block (with_blocks old c.take_in.new.blocks.blocks)) c.self.view_is (gains_same old c.take_in.new.blocks.blocks more same c.args.block (live_with old c.args.block more refl))
