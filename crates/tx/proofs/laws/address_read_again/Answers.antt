use Rattle.tx.specs.AddressText.{address_text}
use Rattle.tx.specs.View.{address_of}
use Rattle.tx.proofs.AddressDigits.{read_as, spells_itself}
use Rattle.tx.proofs.laws.address_read_again.Goals as goal

pub returns-clause-spelled : goal.returns-clause-spelled
returns-clause-spelled c = spells_itself c.args.address.now

pub returns-clause-read : goal.returns-clause-read
returns-clause-read c =
    let a = address_of c.args.address.now in
    read_as (address_text a) a (spells_itself c.args.address.now)
