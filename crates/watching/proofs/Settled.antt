-- An index beside a node whose follower has nothing left to be told.
use Rattle.std.proofs.Common.{◌≡◌, ℕ, Bool, true, false, cond, List, [], ◌∷◌, ◌++◌, map, Option, Some, None, sym, ap, subst, ◌∙◌, refl, append-nil, rules}
use Rattle.std.specs.Prelude.{IsSome, bytes_eq}
use Rattle.std.specs.FinMap as finite
use Rattle.std.specs.FinSet as set
use Rattle.std.proofs.lemmas.Slice.Eq.{bytes_eq-Decides}
use Rattle.model.specs.Transaction.{Address, Input, Output, address_bytes}
use Rattle.model.specs.Utxo.{Utxo}
use Rattle.model.specs.Block.{Block}
use Rattle.model.specs.Follower.{AreReplayed}
use Rattle.model.specs.Ledger.{Ledger, ledger_of}
use Rattle.model.specs.History.{instructions_to}
use Rattle.utxo_rules.specs.Entries.{has_address, pairs_with}
use Rattle.watching.specs.Which.{Which, All, Addresses, Policies, is_watched, watched_among, watched_pairs}
use Rattle.watching.specs.Balances.{outputs_with}
use Rattle.watching.specs.Settled.{IndexIsTheNodes, WatchesAddress}
use Rattle.watching.proofs.Following.{outputs_are_told, which_stays}
use Rattle.watching.proofs.Narrowing.{watched_entries}

-- a ledger that there is
the_ledger : (found : Option Ledger) → IsSome found → (ledger : Ledger) × (found ≡ Some ledger)
the_ledger None is = absurd (cc is)
the_ledger (Some ledger) is = (ledger, refl)

-- ---- an address of which each output is watched

same_bytes : (a b : List ℕ) → bytes_eq a b ≡ true → a ≡ b
same_bytes a b h = search (rules, bytes_eq-Decides a b, h)

watched_each : (which : Which) (address : Address) → WatchesAddress which address → (p : Input × Output) → has_address (address_bytes address) p ≡ true → is_watched which p.1 ≡ true
watched_each All address watched p here = refl
watched_each (Addresses addresses) address watched p here =
    subst (λ (bytes : List ℕ). set.contains addresses bytes ≡ true) (sym (same_bytes (address_bytes p.1.address) (address_bytes address) here)) watched
watched_each (Policies policies) address watched p here = absurd watched

one_sifted : (bytes : List ℕ) (p : Input × Output) (kept all : List (Input × Output)) (watched here : Bool) → has_address bytes p ≡ here → (here ≡ true → watched ≡ true) → pairs_with bytes kept ≡ pairs_with bytes all
    → pairs_with bytes (cond watched (p ∷ kept) kept) ≡ cond here (p ∷ pairs_with bytes all) (pairs_with bytes all)
one_sifted bytes p kept all true here is each same =
    ap (λ (b : Bool). cond b (p ∷ pairs_with bytes kept) (pairs_with bytes kept)) is ∙ ap (λ (ps : List (Input × Output)). cond here (p ∷ ps) ps) same
one_sifted bytes p kept all false true is each same = let no : false ≡ true = each refl in cc
one_sifted bytes p kept all false false is each same = same

-- of the watched pairs as many have the address as of all
all_sifted : (which : Which) (bytes : List ℕ) (es : List (Input × Output)) → ((p : Input × Output) → has_address bytes p ≡ true → is_watched which p.1 ≡ true) → pairs_with bytes (watched_pairs which es) ≡ pairs_with bytes es
all_sifted which bytes [] each = refl
all_sifted which bytes (p ∷ es) each = one_sifted bytes p (watched_pairs which es) es (is_watched which p.1) (has_address bytes p) refl (each p) (all_sifted which bytes es each)

same_outputs : (which : Which) (utxo : Utxo) (address : Address) → WatchesAddress which address → outputs_with address (watched_among which utxo) ≡ outputs_with address utxo
same_outputs which utxo address watched =
    ap (λ (es : List (Input × Output)). map (λ p. p.1) (pairs_with (address_bytes address) es)) (watched_entries which utxo)
    ∙ ap (map (λ p. p.1)) (all_sifted which (address_bytes address) (finite.entries utxo) (watched_each which address watched))

pub index_is_the_nodes : IndexIsTheNodes
index_is_the_nodes network history state w settled =
    let f = settled.follower in
    let told = settled.followed.was_told in
    let old = settled.followed.began in
    let instructions = instructions_to settled.id told.since in
    let (ledger, is) = the_ledger (ledger_of network state.chain) settled.theorem.valid.ledger in
    let all : f.told ≡ state.chain = settled.nothing_left.1 in
    let here : ledger_of network f.told ≡ Some ledger = ap (ledger_of network) all ∙ is in
    let replayed : AreReplayed (told.start ++ []) instructions f.told = subst (λ (c : List Block). AreReplayed c instructions f.told) (sym (append-nil told.start)) told.replayed in
    let outputs : w.last.tables.outputs ≡ watched_among old.which ledger.utxo = outputs_are_told network told.start [] f.told instructions old w ledger settled.followed.begins settled.followed.taken replayed here in
    let same : old.which ≡ w.which = sym (which_stays instructions old w settled.followed.taken) in
    let kept : w.last.tables.outputs ≡ watched_among w.which ledger.utxo = outputs ∙ ap (λ (c : Which). watched_among c ledger.utxo) same in
    record {
      ledger = ledger;
      is_ledger = is;
      outputs = kept;
      of_address = λ address watched. ap (outputs_with address) kept ∙ same_outputs w.which ledger.utxo address watched;
    }
