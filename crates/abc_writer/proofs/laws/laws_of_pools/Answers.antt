-- The laws are lemmas.
use Rattle.abc_writer.proofs.PoolLaws.{only_appends, numbers_name, numbers_stay}
use Rattle.abc_writer.proofs.laws.laws_of_pools.Goals as goal

pub returns-clause-appends : goal.returns-clause-appends
returns-clause-appends c = only_appends

pub returns-clause-names : goal.returns-clause-names
returns-clause-names c = numbers_name

pub returns-clause-stay : goal.returns-clause-stay
returns-clause-stay c = numbers_stay
