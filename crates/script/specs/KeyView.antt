-- What a key of the code stands for.
use Rattle.std.specs.Prelude.{◌≡◌, ℕ, List, Option, Some, None}
use Rattle.script.specs.declared.key.Key.TheInside.{Inside}
use Rattle.script.specs.Keys.{Key, PublicKey, SecretKey, key_bytes}

abbrev pub key_with : (bytes : List ℕ) → (seed : Option (List ℕ)) → Key
key_with bytes None = PublicKey bytes
key_with bytes (Some seed) = SecretKey seed

abbrev pub key_of : Inside → Key
key_of k = key_with k.bytes k.seed

-- the bytes are those of the key that it stands for
abbrev pub IsHeldKey : Inside → Type 0
IsHeldKey k = k.bytes ≡ key_bytes (key_of k)
