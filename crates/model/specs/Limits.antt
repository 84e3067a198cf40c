-- The limits of this project's profile, each under one name.
use Rattle.std.specs.Prelude.{ℕ, ◌^◌}

-- how deep an item may nest
abbrev pub nesting_limit : ℕ
nesting_limit = 64

-- how deep a transaction of a block may nest, since it stands two items deep there
abbrev pub transaction_nesting_limit : ℕ
transaction_nesting_limit = 62

-- how deep a script of a transaction may nest, since it stands three items deep there
abbrev pub script_nesting_limit : ℕ
script_nesting_limit = 61

-- how many bytes a hash, an identifier or a key has
abbrev pub hash_size : ℕ
hash_size = 32

-- how many bytes a signature has
abbrev pub signature_size : ℕ
signature_size = 64

-- how many bytes the name of an asset has at most (Shelley-MA)
abbrev pub name_size_limit : ℕ
name_size_limit = 32

-- networks are below this number, since an address has four bits for them (Shelley, the address formats)
abbrev pub network_limit : ℕ
network_limit = 16

-- the greatest of them
abbrev pub greatest_network : ℕ
greatest_network = 15

-- how many outputs a transaction has at most: their indices are below this number
abbrev pub output_limit : ℕ
output_limit = 65536

-- the greatest of these indices
abbrev pub greatest_index : ℕ
greatest_index = 65535

-- block numbers, slots and minted quantities are below this number
abbrev pub number_limit : ℕ
number_limit = 2 ^ 63

-- the greatest number below it
abbrev pub greatest_number : ℕ
greatest_number = 9223372036854775807

-- how many bytes of a block are read at most
abbrev pub block_size_limit : ℕ
block_size_limit = 1048576

-- how many followers may be open
abbrev pub follower_limit : ℕ
follower_limit = 1024

-- ---- what a genesis may ask for at most

-- how many blocks of the selected chain may be rolled back
abbrev pub k_limit : ℕ
k_limit = 10000

-- how much lovelace of its fee a transaction owes for each of its bytes
abbrev pub fee_rate_limit : ℕ
fee_rate_limit = 1000000

-- how much lovelace it owes whatever its size; an output holds at least; and it holds more for each of its assets
abbrev pub coin_limit : ℕ
coin_limit = 1000000000000

-- how many bytes a transaction has
abbrev pub tx_size_limit : ℕ
tx_size_limit = 65536

-- how many bytes the body of a block has
abbrev pub body_size_limit : ℕ
body_size_limit = 1048000

-- how many live blocks are kept
abbrev pub volatile_limit : ℕ
volatile_limit = 100000

-- how many bytes they have together
abbrev pub volatile_bytes_limit : ℕ
volatile_bytes_limit = 1099511627776

-- how many transactions wait
abbrev pub mempool_limit : ℕ
mempool_limit = 100000

-- how many grants there are
abbrev pub grant_count_limit : ℕ
grant_count_limit = 10000

-- peers have the numbers from 1 to this one: as many as an inbox has
abbrev pub greatest_peer : ℕ
greatest_peer = 8
