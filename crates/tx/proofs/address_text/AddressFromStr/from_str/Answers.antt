use Rattle.tx.proofs.AddressDigits.{spelled_if_ok, none_if_err}
use Rattle.tx.proofs.address_text.AddressFromStr.from_str.Goals as goal

pub returns-clause-some : goal.returns-clause-some
returns-clause-some c = spelled_if_ok c.args.text.now c.address_of_text.result c.address_of_text.ensures

pub returns-clause-none : goal.returns-clause-none
returns-clause-none c = none_if_err c.args.text.now c.address_of_text.result c.address_of_text.ensures
