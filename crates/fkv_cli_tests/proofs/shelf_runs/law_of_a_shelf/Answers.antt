-- Each device of a shelf is honest, and the one that is opened reads as the store's bytes.
use Rattle.fkv_cli_tests.proofs.Telling.{tells_of}
use Rattle.fkv_cli_tests.proofs.shelf_runs.law_of_a_shelf.Goals as goal

pub returns : goal.returns
returns c = λ shelf. tells_of _ _ _ (λ device. tt) (λ path device opened. opened)
