-- What a line of a script says, by itself.
use Rattle.std.specs.Prelude.{ℕ, zero, suc, nat_lt, ℤ, pos, negsuc, Bool, true, false, ◌||◌, List, [], ◌∷◌, map}
use Rattle.std.specs.Prelude.{Option, Some, None, option_map, unwrap_or, Result, Ok, Err, ◌==◌, if◌then◌else◌}
use Rattle.std.specs.Prelude.{bytes_eq, codes}
use Rattle.std.specs.List.{list_all}
use Rattle.hex.specs.Hex.{decode_of}
use Rattle.hex.specs.declared.error.FromHexError.{FromHexError}
use Rattle.model.specs.Limits.{number_limit}
use Rattle.script.specs.declared.line.Form.{Form}
use Rattle.script.specs.declared.line.Form.TheVariants.{Whole, Cut, Extended}
use Rattle.script.specs.Text.{content_of, is_printable, words_of, is_name, parse_number}

-- a place on a chain: genesis, or the block of a name
pub data NamedPlace : Type 0 where
  Genesis : NamedPlace
  AtBlock : List ℕ → NamedPlace

-- what unlocks an output: the key or the script of a name
pub data Owner : Type 0 where
  OwnedByKey : List ℕ → Owner
  OwnedByScript : List ℕ → Owner

-- a quantity of an asset, whose policy is the script of a name
pub record NamedAsset (Q : Type 0) : Type 0 where
  pub script : List ℕ
  pub name : List ℕ
  pub quantity : Q

-- a part of a transaction: an output of the genesis or of the transaction of a name that is spent, an output to an
-- owner, the fee, the slots, what is minted, a key that signs, well or not, and a script that is supplied
pub data Part : Type 0 where
  SpendGrant : (index : ℕ) → Part
  Spend : (tx : List ℕ) → (index : ℕ) → Part
  Pay : Owner → (coin : ℕ) → List (NamedAsset ℕ) → Part
  SetFee : ℕ → Part
  SetStart : ℕ → Part
  SetEnd : ℕ → Part
  MintAsset : NamedAsset ℤ → Part
  SignBy : (key : List ℕ) → (good : Bool) → Part
  Supply : (script : List ℕ) → Part

-- a line: nothing, a key, a secret key or a script of a name, a transaction of a name that begins, a part of it, its
-- end, a block of a name, on a parent, in a slot, with transactions, bytes of a name, an arrival, a submission, a block
-- of a name to forge in a slot, a follower to open, one to open with an index of what the keys of these names have, the
-- question what a follower is told next, a follower to set to the first of some places that is on the selected chain, a
-- follower to close, a block of a name to keep no more, the question where that chain ends, what waits in the mempool,
-- or what is unspent on the chain, why the block of a name isn't selected, where the transaction of a name stands, or
-- how much an owner has
pub data Line : Type 0 where
  Nothing : Line
  DefineKey : (name bytes : List ℕ) → Line
  DefineSeed : (name bytes : List ℕ) → Line
  DefineScript : (name bytes : List ℕ) → Line
  BeginTx : (name : List ℕ) → Line
  AddPart : Part → Line
  EndTx : Line
  DefineBlock : (name : List ℕ) → (parent : NamedPlace) → (slot : ℕ) → (txs : List (List ℕ)) → Line
  DefineRaw : (name bytes : List ℕ) → Line
  Arrive : Form → (name : List ℕ) → Line
  SubmitTx : (name : List ℕ) → Line
  ForgeBlock : (name : List ℕ) → (slot : ℕ) → Line
  OpenFollower : (name : List ℕ) → Line
  WatchKeys : (name : List ℕ) → (keys : List (List ℕ)) → Line
  AskNext : (name : List ℕ) → Line
  AskForward : (name : List ℕ) → List NamedPlace → Line
  CloseFollower : (name : List ℕ) → Line
  DiscardBlock : (name : List ℕ) → Line
  AskTip : Line
  AskMempool : Line
  AskUtxo : Line
  AskWhy : (name : List ℕ) → Line
  AskWhere : (name : List ℕ) → Line
  AskBalance : Owner → Line

-- how the bytes of an `arrive` line arrive, by its first word
abbrev pub form_of : List ℕ → Option Form
form_of word =
    if bytes_eq word (codes "arrive") then Some Whole
    else if bytes_eq word (codes "arrive-cut") then Some Cut
    else if bytes_eq word (codes "arrive-ext") then Some Extended
    else None

-- the first word of an `arrive` line
abbrev pub word_of : Form → List ℕ
word_of Whole = codes "arrive"
word_of Cut = codes "arrive-cut"
word_of Extended = codes "arrive-ext"

-- ---- words

-- what is said where the word is a name
abbrev pub where_name : List ℕ → Option Line → Option Line
where_name word said = if is_name word then said else None

-- whether a word says a place: it is `genesis`, or a name
abbrev pub is_place : List ℕ → Bool
is_place word = bytes_eq word (codes "genesis") || is_name word

-- the place that it says
abbrev pub said_place : List ℕ → NamedPlace
said_place word = if bytes_eq word (codes "genesis") then Genesis else AtBlock word

abbrev pub parse_place : List ℕ → Option NamedPlace
parse_place word = if is_place word then Some (said_place word) else None

-- the places that words say, one each, in this order
abbrev pub said_places : List (List ℕ) → List NamedPlace
said_places words = map said_place words

abbrev pub parse_places : List (List ℕ) → Option (List NamedPlace)
parse_places words = if list_all is_place words then Some (said_places words) else None

-- the bytes that hexadecimal digits say, if there are digits and their number is even
abbrev pub decoded : Result (List ℕ) FromHexError → Option (List ℕ)
decoded (Ok bytes) = Some bytes
decoded (Err e) = None

abbrev pub digits_bytes : List ℕ → Option (List ℕ)
digits_bytes [] = None
digits_bytes (d ∷ ds) = decoded (decode_of (d ∷ ds))

-- the bytes, where digits say some
abbrev pub said_bytes : List ℕ → List ℕ
said_bytes digits = unwrap_or (digits_bytes digits) []

-- an asset name: hexadecimal digits, or `-` for the empty one
abbrev pub parse_asset_name : List ℕ → Option (List ℕ)
parse_asset_name word = if bytes_eq word (codes "-") then Some [] else digits_bytes word

-- this much below 0
abbrev pub negated : ℕ → ℤ
negated zero = pos 0
negated (suc n) = negsuc n

-- a number that `-` may stand in front of
abbrev pub parse_quantity : List ℕ → Option ℤ
parse_quantity [] = None
parse_quantity (b ∷ bs) =
    if b == 45 then option_map negated (parse_number bs) else option_map pos (parse_number (b ∷ bs))

-- a quantity that may be minted has 64 bits
abbrev pub is_quantity : ℤ → Bool
is_quantity (pos n) = nat_lt n number_limit
is_quantity (negsuc n) = nat_lt n number_limit

-- an asset of these parts, where each of them is there
abbrev pub asset_of_parts : {Q : Type 0} → (script : List ℕ) → Option (List ℕ) → Option Q → Option (NamedAsset Q)
asset_of_parts script None quantity = None
asset_of_parts script (Some name) None = None
asset_of_parts script (Some name) (Some quantity) =
    if is_name script then Some (record { script = script; name = name; quantity = quantity }) else None

-- one more asset, where there are others
abbrev pub with_asset : {Q : Type 0} → Option (NamedAsset Q) → Option (List (NamedAsset Q))
    → Option (List (NamedAsset Q))
with_asset None others = None
with_asset (Some asset) None = None
with_asset (Some asset) (Some others) = Some (asset ∷ others)

-- three words for each asset
abbrev pub parse_assets : List (List ℕ) → Option (List (NamedAsset ℕ))
parse_assets [] = Some []
parse_assets (script ∷ []) = None
parse_assets (script ∷ name ∷ []) = None
parse_assets (script ∷ name ∷ quantity ∷ words) =
    with_asset (asset_of_parts script (parse_asset_name name) (parse_number quantity)) (parse_assets words)

-- the assets, where words say some
abbrev pub said_assets : List (List ℕ) → List (NamedAsset ℕ)
said_assets words = unwrap_or (parse_assets words) []

abbrev pub parse_owner : (kind name : List ℕ) → Option Owner
parse_owner kind name =
    if is_name name then (if bytes_eq kind (codes "key") then Some (OwnedByKey name)
    else if bytes_eq kind (codes "script") then Some (OwnedByScript name)
    else None) else None

-- ---- lines by the number of their words

-- a line of one word: a question, or the end of a transaction
abbrev pub word_line : List ℕ → Option Line
word_line word =
    if bytes_eq word (codes "tip") then Some AskTip
    else if bytes_eq word (codes "utxo") then Some AskUtxo
    else if bytes_eq word (codes "mempool") then Some AskMempool
    else if bytes_eq word (codes "end") then Some EndTx
    else None

abbrev pub arrive_line : Option Form → List ℕ → Option Line
arrive_line None name = None
arrive_line (Some form) name = where_name name (Some (Arrive form name))

-- a question about the block, the transaction or the key of a name, or bytes of a name arrive
abbrev pub asking_line : (word name : List ℕ) → Option Line
asking_line word name =
    if bytes_eq word (codes "why") then where_name name (Some (AskWhy name))
    else if bytes_eq word (codes "where") then where_name name (Some (AskWhere name))
    else if bytes_eq word (codes "balance") then where_name name (Some (AskBalance (OwnedByKey name)))
    else arrive_line (form_of word) name

-- a part that is a number
abbrev pub number_part : (ℕ → Part) → List ℕ → Option Line
number_part part word = option_map (λ n. AddPart (part n)) (parse_number word)

-- a line of two words: what is done, and the name that it is done to, or a number
abbrev pub named_line : (word name : List ℕ) → Option Line
named_line word name =
    if bytes_eq word (codes "open") then where_name name (Some (OpenFollower name))
    else if bytes_eq word (codes "next") then where_name name (Some (AskNext name))
    else if bytes_eq word (codes "close") then where_name name (Some (CloseFollower name))
    else if bytes_eq word (codes "discard") then where_name name (Some (DiscardBlock name))
    else if bytes_eq word (codes "submit") then where_name name (Some (SubmitTx name))
    else if bytes_eq word (codes "tx") then where_name name (Some (BeginTx name))
    else if bytes_eq word (codes "fee") then number_part SetFee name
    else if bytes_eq word (codes "from") then number_part SetStart name
    else if bytes_eq word (codes "until") then number_part SetEnd name
    else if bytes_eq word (codes "sign") then where_name name (Some (AddPart (SignBy name true)))
    else if bytes_eq word (codes "badsign") then where_name name (Some (AddPart (SignBy name false)))
    else if bytes_eq word (codes "with") then where_name name (Some (AddPart (Supply name)))
    else asking_line word name

-- a name with bytes
abbrev pub bytes_line : (List ℕ → List ℕ → Line) → (name digits : List ℕ) → Option Line
bytes_line line name digits = where_name name (option_map (line name) (digits_bytes digits))

-- an input: of the genesis, or of a transaction
abbrev pub spend_line : (from index : List ℕ) → Option Line
spend_line from index =
    if bytes_eq from (codes "genesis") then number_part SpendGrant index
    else where_name from (number_part (Spend from) index)

-- a block of a name that is forged in a slot
abbrev pub forge_line : (name slot : List ℕ) → Option Line
forge_line name slot = where_name name (option_map (ForgeBlock name) (parse_number slot))

-- the question how much a script has; that of a key has two words
abbrev pub balance_line : (kind name : List ℕ) → Option Line
balance_line kind name =
    if bytes_eq kind (codes "script") then where_name name (Some (AskBalance (OwnedByScript name))) else None

-- a line of three words
abbrev pub pair_line : (word first second : List ℕ) → Option Line
pair_line word first second =
    if bytes_eq word (codes "raw") then bytes_line DefineRaw first second
    else if bytes_eq word (codes "key") then bytes_line DefineKey first second
    else if bytes_eq word (codes "seed") then bytes_line DefineSeed first second
    else if bytes_eq word (codes "script") then bytes_line DefineScript first second
    else if bytes_eq word (codes "in") then spend_line first second
    else if bytes_eq word (codes "forge") then forge_line first second
    else if bytes_eq word (codes "balance") then balance_line first second
    else None

-- a block of these parts, where each of them is there
abbrev pub block_of_parts : List ℕ → Option NamedPlace → Option ℕ → (txs : List (List ℕ)) → Option Line
block_of_parts name None slot txs = None
block_of_parts name (Some parent) None txs = None
block_of_parts name (Some parent) (Some slot) txs =
    if list_all is_name txs then Some (DefineBlock name parent slot txs) else None

-- an output of these parts, where each of them is there
abbrev pub pay_of_parts : Option Owner → Option ℕ → Option (List (NamedAsset ℕ)) → Option Line
pay_of_parts None coin assets = None
pay_of_parts (Some owner) None assets = None
pay_of_parts (Some owner) (Some coin) None = None
pay_of_parts (Some owner) (Some coin) (Some assets) = Some (AddPart (Pay owner coin assets))

-- `mint` has no more words
abbrev pub mint_line : (script name quantity : List ℕ) → (rest : List (List ℕ)) → Option Line
mint_line script name quantity [] =
    option_map (λ asset. AddPart (MintAsset asset))
    (asset_of_parts script (parse_asset_name name) (parse_quantity quantity))
mint_line script name quantity (word ∷ words) = None

-- a line of four words or more
abbrev pub long_line : (word first second third : List ℕ) → (rest : List (List ℕ)) → Option Line
long_line word first second third rest =
    if bytes_eq word (codes "block") then
    where_name first (block_of_parts first (parse_place second) (parse_number third) rest)
    else if bytes_eq word (codes "out") then
    pay_of_parts (parse_owner first second) (parse_number third) (parse_assets rest)
    else if bytes_eq word (codes "mint") then mint_line first second third rest
    else None

-- what a first word says with those that come after it, by their number
abbrev pub said_with : (word : List ℕ) → List (List ℕ) → Option Line
said_with word [] = word_line word
said_with word (name ∷ []) = named_line word name
said_with word (first ∷ second ∷ []) = pair_line word first second
said_with word (first ∷ second ∷ third ∷ rest) = long_line word first second third rest

-- ---- lines of any number of words

-- what comes after `forward`: a name, and one place or more
abbrev pub forward_line : List (List ℕ) → Option Line
forward_line [] = None
forward_line (name ∷ []) = None
forward_line (name ∷ word ∷ words) = where_name name (option_map (AskForward name) (parse_places (word ∷ words)))

-- what comes after `watch`: a name, and one name or more
abbrev pub watch_line : List (List ℕ) → Option Line
watch_line [] = None
watch_line (name ∷ []) = None
watch_line (name ∷ word ∷ words) =
    where_name name (if list_all is_name (word ∷ words) then Some (WatchKeys name (word ∷ words)) else None)

-- what the words of a line say
abbrev pub said_by : List (List ℕ) → Option Line
said_by [] = None
said_by (word ∷ words) =
    if bytes_eq word (codes "forward") then forward_line words
    else if bytes_eq word (codes "watch") then watch_line words
    else said_with word words

-- an empty line or a comment says nothing
abbrev pub line_of_content : List ℕ → Option Line
line_of_content [] = Some Nothing
line_of_content (b ∷ bs) = if b == 35 then Some Nothing else said_by (words_of (b ∷ bs))

-- what a line says, if it is one
abbrev pub parse_line : List ℕ → Option Line
parse_line line = if list_all is_printable (content_of line) then line_of_content (content_of line) else None
