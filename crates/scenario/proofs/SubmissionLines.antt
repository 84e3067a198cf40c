-- Lines in which a transaction is submitted, a block is forged, and the mempool is printed.
use Rattle.std.proofs.Common.{◌≡◌, ℕ, Bool, List, [], ◌∷◌, ◌++◌, map, Option, Some, Result, Ok, Err, length, refl, sym, ap, subst, ◌∙◌, append_assoc, append-nil}
use Rattle.std.specs.Prelude.{decimal, codes}
use Rattle.std.specs.Arc.{arc_value}
use Rattle.std.specs.declared.alloc.Global.{Global}
use Rattle.std.specs.declared.sync.Arc.{Arc}
use Rattle.ident.specs.declared.point.Point as code
use Rattle.ident.specs.PointView.{point_of}
use Rattle.model.specs.Cbor.{text_of}
use Rattle.model.specs.Transaction.{Transaction, SpellsTransaction, transaction_id_of, item_of_transaction}
use Rattle.model.specs.Block.{Block, SpellsBlock, block_hash_of}
use Rattle.model.specs.Ledger.{Network}
use Rattle.model.specs.History.{State, Submit, Reply, Step}
use Rattle.model.specs.Forging.{IsForged, IsNotForged, SlotNotAfterTip, OutOfRange}
use Rattle.model.proofs.BlockTexts.{block_text_is}
use Rattle.chain_core.specs.Held.{Held, Stands}
use Rattle.chain_core.specs.ForgedBlocks.{IsForgedAs, IsForgeFault}
use Rattle.chain_core.specs.declared.forging.ForgeFault.{ForgeFault as CodeFault}
use Rattle.chain_core.specs.declared.forging.ForgeFault.TheVariants as fault
use Rattle.script.specs.declared.names.Names.{Names}
use Rattle.script.specs.Names.{AllNames, Bound, with_bytes, printed_tx}
use Rattle.script.specs.RequestView.{AreNamed}
use Rattle.script.specs.Meaning.{SubmitsTx, ForgesBlock, PrintsMempool, bound_block}
use Rattle.scenario.specs.declared.session.Session.{Session}
use Rattle.scenario.specs.Print.{submission_text, ForgedBlock, NoBlock, NoMemory, forging_text, tx_names_text, mempool_text}
use Rattle.scenario.specs.ForgeView.{code_answer_text}
use Rattle.scenario.specs.IndexView.{AreIndexes}
use Rattle.scenario.specs.Run.{Scene, names_forged, entry}
use Rattle.scenario.specs.Notes.{IsNote}
use Rattle.scenario.specs.NoteView.{AppendsNote}
use Rattle.scenario.specs.SessionView.{Holds, Done, Told, Forges}

-- ---- submissions

pub submission_told : {S : Type 0} (network : Network) (explain : Bool) (s : Scene) (name : List ℕ) (tx : Transaction) (reply : Reply) (old out : List ℕ) (new : Session S) → old ≡ [] → AreNamed new.names s.names → AreIndexes new.indexes s.indexes
    → (step : (t : State) × Step network s.state (Submit (text_of (item_of_transaction tx))) reply t × Stands new.core t)
    → AppendsNote (old ++ submission_text name reply) out (IsNote network explain s.names.of_bytes s.state (entry (Submit (text_of (item_of_transaction tx))) reply) step.0)
    → Told network explain s (SubmitsTx name tx) out new
submission_told network explain s name tx reply old out new empty names indexes (t, step, stands) noted = record {
  text = submission_text name reply;
  done = record {
    entries = entry (Submit (text_of (item_of_transaction tx))) reply;
    scene = record { state = t; names = s.names; indexes = s.indexes };
    acts = (reply, record { step = step; names = refl; indexes = refl }, refl, refl);
    holds = record { stands = stands; names = names; indexes = indexes };
  };
  note = noted.note;
  is_note = noted.is_note;
  printed = noted.behind ∙ ap (λ (bs : List ℕ). (bs ++ submission_text name reply) ++ noted.note) empty;
}

-- the text of the transaction was submitted
pub submitted_text : (network : Network) (s : State) (tx : Transaction) (bytes : List ℕ) (reply : Reply) (core : Held) → SpellsTransaction tx bytes → (t : State) × Step network s (Submit bytes) reply t × Stands core t
    → (t : State) × Step network s (Submit (text_of (item_of_transaction tx))) reply t × Stands core t
submitted_text network s tx bytes reply core spelled step = subst (λ (bs : List ℕ). (t : State) × Step network s (Submit bs) reply t × Stands core t) spelled.text.spelled step

pub one_named : {X : Type 0} (x y : X) (m : Option X) → Some x ≡ m → m ≡ Some y → x ≡ y
one_named x y m is also = let same : Some x ≡ Some y = is ∙ also in cc

-- ---- forging

-- the place of the block with its text is what its name is bound to
bound_is : (b : Block) (bytes : List ℕ) (point : code.Point) → SpellsBlock b bytes → point.number ≡ b.header.number → point.hash.bytes ≡ block_hash_of b → ◌≡◌ {A = Bound} (record { bytes = bytes; place = Some (point_of point) }) (bound_block b)
bound_is b bytes point spelled number hash =
    let text = sym (block_text_is b bytes spelled) in
    λ i. record { bytes = text i; place = Some (record { number = number i; hash = hash i }) }

-- a block was forged and has its name
pub forged_named : (network : Network) (s : Scene) (held : Held) (name : List ℕ) (slot : ℕ) (bytes : List ℕ) (size : ℕ) (point : code.Point) (names : Names) → Stands held s.state → IsForgedAs network held.chain held.mempool slot bytes point → size ≡ length bytes
    → AreNamed names (with_bytes s.names (record { name = name; bound = record { bytes = bytes; place = Some (point_of point) } })) → Forges network s name slot (Ok size) names
forged_named network s held name slot bytes size point names stands forged sized named =
    let b = forged.block in
    let here = subst (λ (c : List Block). IsForged network c s.state.mempool slot b) stands.chain (subst (λ (txs : List Transaction). IsForged network held.chain txs slot b) stands.mempool forged.forged) in
    record {
      is = ForgedBlock b;
      is_answer = here;
      text = ap (λ n. decimal n ++ codes " bytes") (sized ∙ sym (ap length (block_text_is b bytes forged.text)));
      named = subst (λ (x : Bound). AreNamed names (with_bytes s.names (record { name = name; bound = x }))) (bound_is b bytes point forged.text forged.place.0 forged.place.1) named;
    }

-- or none was
pub none_forged : (network : Network) (s : Scene) (held : Held) (name : List ℕ) (slot : ℕ) (why : CodeFault) (names : Names) → Stands held s.state → IsForgeFault network held.chain slot why → AreNamed names s.names → Forges network s name slot (Err why) names
none_forged network s held name slot fault.SlotNotAfterTip names stands why named = record { is = NoBlock SlotNotAfterTip; is_answer = subst (λ (c : List Block). IsNotForged network c slot SlotNotAfterTip) stands.chain why; text = refl; named = named }
none_forged network s held name slot fault.OutOfRange names stands why named = record { is = NoBlock OutOfRange; is_answer = subst (λ (c : List Block). IsNotForged network c slot OutOfRange) stands.chain why; text = refl; named = named }
none_forged network s held name slot fault.OutOfMemory names stands why named = record { is = NoMemory; is_answer = subst (λ (c : List Block). IsForgeFault network c slot fault.OutOfMemory) stands.chain why; text = refl; named = named }

pub forging_acted : {S : Type 0} (network : Network) (s : Scene) (name : List ℕ) (slot : ℕ) (answer : Result ℕ CodeFault) (out : List ℕ) (new : Session S) → Forges network s name slot answer new.names → AreIndexes new.indexes s.indexes → Stands new.core s.state → out ≡ forging_text name (code_answer_text answer)
    → Done network s (ForgesBlock name slot) out new
forging_acted network s name slot answer out new forges indexes stands printed = record {
  entries = [];
  scene = record { state = s.state; names = record s.names { of_bytes = names_forged s.names.of_bytes name forges.is }; indexes = s.indexes };
  acts = (forges.is, record { is_answer = forges.is_answer; state = refl; names = refl; indexes = refl }, printed ∙ ap (forging_text name) forges.text, refl);
  holds = record { stands = stands; names = forges.named; indexes = indexes };
}

-- ---- the mempool

pub mempool_acted : {S : Type 0} (network : Network) (s : Scene) (out : List ℕ) (session : Session S) → Holds session s → out ≡ mempool_text s.names.of_txs session.core.mempool → Done network s PrintsMempool out session
mempool_acted network s out session holds printed = record {
  entries = [];
  scene = s;
  acts = (printed ∙ ap (mempool_text s.names.of_txs) holds.stands.mempool, refl, refl);
  holds = holds;
}

abbrev Shared : Type 0
Shared = Arc Transaction Global

-- what is printed so far and the names of the rest are the names of all
abbrev pub IsPartPrinted : Names → (start now : List ℕ) → List Transaction → List Shared → Type 0
IsPartPrinted names start now txs rest = (all : AllNames) → AreNamed names all
    → now ++ tx_names_text all.of_txs (map arc_value rest) ≡ start ++ tx_names_text all.of_txs txs

pub none_printed : (names : Names) (start : List ℕ) (txs : List Transaction) (rest : List Shared) → map arc_value rest ≡ txs → IsPartPrinted names start start txs rest
none_printed names start txs rest is = λ all named. ap (λ (ts : List Transaction). start ++ tx_names_text all.of_txs ts) is

pub one_printed : (names : Names) (start now name after : List ℕ) (txs : List Transaction) (tx : Shared) (rest left : List Shared) → left ≡ tx ∷ rest → IsPartPrinted names start now txs left
    → ((all : AllNames) → AreNamed names all → name ≡ printed_tx (transaction_id_of (arc_value tx)) all.of_txs) → after ≡ (now ++ 32 ∷ []) ++ name → IsPartPrinted names start after txs rest
one_printed names start now name after txs tx rest left is part named put = λ all are.
    let more = tx_names_text all.of_txs (map arc_value rest) in
    ap (λ bs. bs ++ more) (put ∙ ap (λ n. (now ++ 32 ∷ []) ++ n) (named all are))
    ∙ (append_assoc (now ++ 32 ∷ []) (printed_tx (transaction_id_of (arc_value tx)) all.of_txs) more
    ∙ (append_assoc now (32 ∷ []) (printed_tx (transaction_id_of (arc_value tx)) all.of_txs ++ more)
    ∙ (ap (λ (xs : List Shared). now ++ tx_names_text all.of_txs (map arc_value xs)) (sym is) ∙ part all are)))

pub all_printed : (names : Names) (start now : List ℕ) (txs : List Transaction) (rest : List Shared) → rest ≡ [] → IsPartPrinted names start now txs rest → (all : AllNames) → AreNamed names all → now ≡ start ++ tx_names_text all.of_txs txs
all_printed names start now txs rest none part = λ all named. sym (append-nil now) ∙ (ap (λ (xs : List Shared). now ++ tx_names_text all.of_txs (map arc_value xs)) (sym none) ∙ part all named)
