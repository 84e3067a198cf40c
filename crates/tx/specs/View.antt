-- What the parts of a transaction of the code stand for.
use Rattle.model.specs.Transaction.{Credential, KeyHash, ScriptHash, Address, Input, Output, KeyWitness}
use Rattle.tx.specs.declared.input.Input.{Input as CodeInput}
use Rattle.tx.specs.declared.address.Credential.{Credential as CodeCredential}
use Rattle.tx.specs.declared.address.Credential.TheVariants.{Key, Script}
use Rattle.tx.specs.declared.address.Address.{Address as CodeAddress}
use Rattle.tx.specs.declared.output.Output.{Output as CodeOutput}
use Rattle.tx.specs.declared.key_witness.KeyWitness.{KeyWitness as CodeKeyWitness}

abbrev pub input_of : CodeInput → Input
input_of i = record { transaction = i.transaction.bytes; index = i.index }

abbrev pub credential_of : CodeCredential → Credential
credential_of (Key hash) = KeyHash hash.bytes
credential_of (Script hash) = ScriptHash hash.bytes

abbrev pub address_of : CodeAddress → Address
address_of a = record { network = a.network; payment = credential_of a.payment }

abbrev pub output_of : CodeOutput → Output
output_of o = record { address = address_of o.address; value = o.value }

abbrev pub witness_of : CodeKeyWitness → KeyWitness
witness_of w = record { key = w.key; signature = w.signature }
