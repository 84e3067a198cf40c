-- What is defined by a line, what comes of a part, and of points that were not found.
use Rattle.std.proofs.Common.{◌≡◌, ℕ, Bool, true, false, cond, map, IsTrue, List, Option, Some, None, is_some, Result, Ok, Err, refl, sym, ◌∙◌, subst, ap}
use Rattle.std.specs.Prelude.{IsOk}
use Rattle.std.proofs.lemmas.Option.{same_Some}
use Rattle.ident.specs.PointView.{point_of}
use Rattle.ident.specs.declared.point.Point.{Point as CodePoint}
use Rattle.model.specs.Chain.{Point}
use Rattle.model.specs.Script.{Script, SpellsScript}
use Rattle.model.specs.Transaction.{Transaction, Address}
use Rattle.value.specs.Parts.{AssetQuantity}
use Rattle.value.specs.View.{asset_of}
use Rattle.value.specs.declared.asset_quantity.AssetQuantity.{AssetQuantity as CodeAssetQuantity}
use Rattle.draft.specs.Draft.{Draft}
use Rattle.draft.specs.View.{IsDraftOf}
use Rattle.draft.specs.declared.draft.Draft.{Draft as CodeDraft}
use Rattle.script.specs.declared.fault.LineFault.{LineFault}
use Rattle.script.specs.declared.fault.LineFault.TheVariants.{NotBuilt, NameTaken, UnknownName}
use Rattle.script.specs.declared.stop.Stop.{Stop}
use Rattle.script.specs.declared.stop.Stop.TheVariants.{Fault, OutOfMemory}
use Rattle.script.specs.declared.request.Request.{Request}
use Rattle.script.specs.declared.request.Request.TheVariants.{Nothing}
use Rattle.script.specs.declared.names.Names.{Names}
use Rattle.script.specs.declared.open_tx.OpenTx as code
use Rattle.script.specs.Names.{Named, OpenTx, AllNames, Bound, bound_to}
use Rattle.script.specs.Adding.{IsPartAdded, AreGathered, AreFound}
use Rattle.tx.proofs.ForCallers.{same_list}
use Rattle.script.specs.Line.{NamedPlace}
use Rattle.script.specs.Meaning.{Meaning, Defines, ForwardsFollower, WatchesKeys, BindsScript, Continues, MeansScript, Base, meaning_by, continued, where_free, where_known, where_built, binds_bytes}
use Rattle.script.specs.Meaning.{are_some, base_after, block_meaning, block_on, bound_block, built, txs_named}
use Rattle.script.specs.SignerView.{key_signer_of}
use Rattle.script.specs.declared.key_signer.KeySigner.{KeySigner}
use Rattle.script.specs.declared.request.KeyAddress.{KeyAddress}
use Rattle.script.specs.RequestView.{AreNamed, Asked, AsksFor, IsOpen, IsMaking, key_address_of}

-- ---- what is gathered

pub unknown_so : {X : Type 0} (m : Option X) → false ≡ is_some m → m ≡ None
unknown_so None is = refl
unknown_so (Some x) is = cc

-- memory ran out only where all are known
pub found_so : {X Y : Type 0} (view : X → Y) (wanted : Option (List Y)) (r : Result _ Stop) → AreGathered view wanted r → true ≡ is_some wanted → AreFound view wanted r
found_so view wanted (Ok items) gathered some = gathered
found_so view wanted (Err (Fault fault)) gathered some = gathered
found_so view wanted (Err OutOfMemory) gathered some = sym some

-- ---- parts

late_only : (made : Option Draft) (fault : LineFault) → where_built made ≡ Err fault → (fault ≡ NotBuilt) × IsTrue true
late_only None fault is = (unwrapped NotBuilt fault is, refl)
  where
    unwrapped : (a b : LineFault) → ◌≡◌ {A = Result Draft LineFault} (Err a) (Err b) → b ≡ a
    unwrapped a b e = cc
late_only (Some d) fault is = cc

-- an output whose assets were not found
pub pay_refused : (found : Option Address) (address : Address) (wanted : Option (List (AssetQuantity ℕ))) (make : Address → List (AssetQuantity ℕ) → Option Draft) (d : Draft) (draft : CodeDraft KeySigner) (stop : Stop) → found ≡ Some address
    → AreFound {X = CodeAssetQuantity ℕ} asset_of wanted (Err stop) → IsDraftOf key_signer_of draft d → IsPartAdded (where_known found (λ a. where_known wanted (λ all. where_built (make a all)))) true d draft (Err stop)
pay_refused found address wanted make d draft (Fault fault) is (unknown, none) stands = (rw (is, none, unknown) refl, stands)
pay_refused found address None make d draft OutOfMemory is some stands = cc
pay_refused found address (Some all) make d draft OutOfMemory is some stands = rw is (late_only (make address all))

-- the transaction in the making is this one
pub opened : (codes : Option code.OpenTx) (making : Option OpenTx) (o : code.OpenTx) (made : OpenTx) → IsOpen codes making → codes ≡ Some o → making ≡ Some made → IsMaking o made
opened None making o made is there also = cc
opened (Some x) making o made (other, is_other, is) there also =
    let same : x ≡ o = same_Some x o there in
    let one : other ≡ made = same_Some other made (sym is_other ∙ also) in
    subst (λ (y : code.OpenTx). IsMaking y made) same (subst (IsMaking x) one is)

-- its name is free, whatever its draft is
pub free_name : (names : AllNames) (made : OpenTx) (d : Draft) → bound_to made.name names.of_txs ≡ None → (open' : OpenTx) → Some (record made { draft = d }) ≡ Some open' → bound_to open'.name names.of_txs ≡ None
free_name names made d free open' is = subst (λ (o : OpenTx). bound_to o.name names.of_txs ≡ None) (same_Some {A = OpenTx} (record made { draft = d }) open' is) free

-- a part was added
pub part_asked : (names : AllNames) (c : Names) (made : OpenTx) (o : code.OpenTx) (draft : CodeDraft KeySigner) (said : Result Draft LineFault) (late : Bool) → AreNamed c names → names.making ≡ Some made → IsMaking o made
    → IsPartAdded said late made.draft draft (Ok tt) → Asked names (λ m. meaning_by (continued made) said ≡ m) Nothing (record c { making = Some (record o { draft = draft }) })
part_asked names c made o draft said late named is making (with_part, is_with, stands) = record {
  meaning = continued made with_part;
  is_meant = rw is_with refl;
  is_request = (
    Continues (record made { draft = with_part }),
    refl,
    record {
      new = record names { making = Some (record made { draft = with_part }) };
      after = refl;
      named = record {
        known = record { scheme = named.known.scheme; network = named.known.network; of_keys = named.known.of_keys; of_scripts = named.known.of_scripts; of_txs = named.known.of_txs };
        of_bytes = named.of_bytes;
        of_followers = named.of_followers;
        printed = named.printed;
        making = (record made { draft = with_part }, refl, record { name = making.name; line = making.line; stands = stands });
        free = free_name names made with_part (named.free made is);
      };
    },
  );
}

-- a part was not added
pub part_refused : (names : AllNames) (c : Names) (made : OpenTx) (o : code.OpenTx) (draft : CodeDraft KeySigner) (said : Result Draft LineFault) (late : Bool) (stop : Stop) → AreNamed c names → names.making ≡ Some made → IsMaking o made
    → IsPartAdded said late made.draft draft (Err stop) → AsksFor names (meaning_by (continued made) said) late (Err stop) (record c { making = Some (record o { draft = draft }) })
part_refused names c made o draft said late (Fault fault) named is making (is_fault, stands) = (
  rw is_fault refl,
  record {
    known = named.known;
    of_bytes = named.of_bytes;
    of_followers = named.of_followers;
    printed = named.printed;
    making = (made, is, record { name = making.name; line = making.line; stands = stands });
    free = named.free;
  },
)
part_refused names c made o draft (Ok d) late OutOfMemory named is making lacks = λ fault means. cc
part_refused names c made o draft (Err e) late OutOfMemory named is making lacks = λ fault means. lacks fault (ap_err e fault means)
  where
    ap_err : (a b : LineFault) → ◌≡◌ {A = Result Meaning LineFault} (Err a) (Err b) → ◌≡◌ {A = Result Draft LineFault} (Err a) (Err b)
    ap_err a b e = cc

-- ---- scripts

pub means_script : (found : Option Script) (name bytes : List ℕ) (script : Script) → found ≡ None → SpellsScript script bytes → MeansScript found name bytes (Ok (Defines (BindsScript (record { name = name; bound = script }))))
means_script (Some taken) name bytes script is spelled = cc
means_script None name bytes script is spelled = (script, spelled, refl)

-- ---- blocks

only_not_built : (test : Bool) (bound : Bound) (name : List ℕ) (fault : LineFault) → meaning_by (binds_bytes name) (cond test (Ok bound) (Err NotBuilt)) ≡ Err fault → fault ≡ NotBuilt
only_not_built true bound name fault is = cc
only_not_built false bound name fault is = unwrapped NotBuilt fault is
  where
    unwrapped : (a b : LineFault) → ◌≡◌ {A = Result Meaning LineFault} (Err a) (Err b) → b ≡ a
    unwrapped a b e = cc

-- the transactions of a block were not gathered
pub txs_refused : (names : AllNames) (c : Names) (name : List ℕ) (parent : NamedPlace) (slot : ℕ) (words : List (List ℕ)) (base : Base) (stop : Stop) → base_after names.of_bytes parent ≡ Some base → bound_to name names.of_bytes ≡ None
    → true ≡ is_some (txs_named names words) → AreGathered {X = Transaction} (λ tx. tx) (txs_named names words) (Err stop) → (stop ≡ OutOfMemory → IsTrue (are_some words)) → AreNamed c names
    → AsksFor names (block_meaning names name parent slot words) (are_some words) (Err stop) c
txs_refused names c name parent slot words base (Fault fault) known free some (unknown, none) late named = (rw (known, none, unknown) refl, named)
txs_refused names c name parent slot words base OutOfMemory known free some gathered late named = λ fault means. (built_so (txs_named names words) refl some fault means, late refl)
  where
    built_so : (txs : Option (List Transaction)) → txs_named names words ≡ txs → true ≡ is_some txs → (fault : LineFault) → block_meaning names name parent slot words ≡ Err fault → fault ≡ NotBuilt
    built_so None is some fault means = cc
    built_so (Some all) is some fault means = only_not_built _ (bound_block (block_on base slot all)) name fault (rw (known, is, free) at means)

-- a block whose transactions were gathered
pub block_built : (names : AllNames) (name : List ℕ) (parent : NamedPlace) (slot : ℕ) (words : List (List ℕ)) (base : Base) (txs : List Transaction) (bound : Bound) → base_after names.of_bytes parent ≡ Some base → bound_to name names.of_bytes ≡ None
    → txs_named names words ≡ Some (map (λ (tx : Transaction). tx) txs) → built base slot txs ≡ Ok bound → block_meaning names name parent slot words ≡ Ok (binds_bytes name bound)
block_built names name parent slot words base txs bound known free gathered is = rw (known, gathered, same_list txs, free, is) refl

-- ---- followers

-- the points of a follower that is known were not found
pub points_refused : (names : AllNames) (c : Names) (name : List ℕ) (id : ℕ) (found : Option ℕ) (wanted : Option (List Point)) (stop : Stop) → found ≡ Some id → AreFound {X = CodePoint} point_of wanted (Err stop) → AreNamed c names
    → AsksFor names (where_known found (λ n. where_known wanted (λ points. Ok (ForwardsFollower name n points)))) false (Err stop) c
points_refused names c name id found wanted (Fault fault) is (unknown, none) named = (rw (is, none, unknown) refl, named)
points_refused names c name id found None OutOfMemory is some named = cc
points_refused names c name id found (Some points) OutOfMemory is some named = rw is (λ fault means. cc)

-- a name without a follower is free
pub unbound : (found wanted : Option ℕ) → found ≡ wanted → is_some found ≡ false → wanted ≡ None
unbound None wanted is none = sym is
unbound (Some id) wanted is none = cc

-- what a line means in which a follower is opened with an index
abbrev pub watch_meaning : (name : List ℕ) → (found : Option ℕ) → (wanted : Option (List (Named Address))) → Result Meaning LineFault
watch_meaning name found wanted = where_known wanted (λ all. where_free found (Ok (WatchesKeys name all)))

pub watch_unknown : (name : List ℕ) (found : Option ℕ) (wanted : Option (List (Named Address))) → false ≡ is_some wanted → watch_meaning name found wanted ≡ Err UnknownName
watch_unknown name found None is = refl
watch_unknown name found (Some keys) is = cc

pub watch_taken : (name : List ℕ) (found : Option ℕ) (wanted : Option (List (Named Address))) → true ≡ is_some wanted → is_some found ≡ true → watch_meaning name found wanted ≡ Err NameTaken
watch_taken name found None some taken = cc
watch_taken name found (Some keys) some taken = rw taken refl

pub watch_means : (name : List ℕ) (found : Option ℕ) (wanted : Option (List (Named Address))) → true ≡ is_some wanted → found ≡ None → IsOk (watch_meaning name found wanted)
watch_means name found None some free = cc
watch_means name found (Some keys) some free = rw free refl

-- the keys of a follower whose name is free, which are known, were not gathered
pub keys_refused : (names : AllNames) (c : Names) (name : List ℕ) (found : Option ℕ) (wanted : Option (List (Named Address))) (stop : Stop) → found ≡ None → true ≡ is_some wanted → AreGathered {X = KeyAddress} key_address_of wanted (Err stop)
    → AsksFor names (watch_meaning name found wanted) false (Err stop) c
keys_refused names c name found wanted (Fault fault) free some (unknown, none) = let no : true ≡ false = some ∙ ap is_some none in cc
keys_refused names c name found None OutOfMemory free some gathered = cc
keys_refused names c name found (Some keys) OutOfMemory free some gathered = rw free (λ fault means. cc)

-- ---- lines that have a meaning

-- what has a meaning lacks no fault
pub asks_late : (names : AllNames) (meaning : Meaning) (said : Result Meaning LineFault) (late : Bool) (r : Result Request Stop) (new : Names) → AsksFor names (Ok meaning) false r new → said ≡ Ok meaning → AsksFor names said late r new
asks_late names meaning said late (Ok asks) new asked is = record { meaning = asked.meaning; is_meant = is ∙ asked.is_meant; is_request = asked.is_request }
asks_late names meaning said late (Err (Fault fault)) new asked is = cc
asks_late names meaning said late (Err OutOfMemory) new asked is = λ fault means. cc

-- ---- lines of a transaction

-- where the code is making a transaction there is one
pub is_making : (codes : Option code.OpenTx) (making : Option OpenTx) → IsOpen codes making → is_some codes ≡ true → (made : OpenTx) × (making ≡ Some made)
is_making None making is some = cc
is_making (Some o) making (made, is, holds) some = (made, is)
