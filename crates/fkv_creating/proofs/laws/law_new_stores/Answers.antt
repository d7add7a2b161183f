-- The law, by the store of each shape and by what its image tells.
use Rattle.fkv_creating.proofs.NewStores.{holds_new, is_created, new_opened, opened_is_new}
use Rattle.fkv_creating.proofs.OnlyNew.{only_new}
use Rattle.fkv_creating.proofs.laws.law_new_stores.Goals as goal

pub returns-clause-created : goal.returns-clause-created
returns-clause-created c = is_created

pub returns-clause-opened : goal.returns-clause-opened
returns-clause-opened c = λ shape. (new_opened shape, opened_is_new shape)

pub returns-clause-holds : goal.returns-clause-holds
returns-clause-holds c = λ image shape o made. (
  (λ held. only_new image shape made.newest o c.law_spellings_apart.ensures.shapes made.is_new made.told held),
  (λ new. holds_new image shape made.newest o made.is_new new made.told),
)
