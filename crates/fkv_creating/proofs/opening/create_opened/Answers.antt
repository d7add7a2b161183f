use Rattle.fkv_creating.proofs.Outcome.{each_fault}
use Rattle.fkv_creating.proofs.opening.create_opened.Goals as goal

pub returns-in_err-store-clause-memory : goal.returns-in_err-store-clause-memory
returns-in_err-store-clause-memory g c = λ claim.
    let made = c.in_ok-newest.ensures in
    each_fault c.from_residual-in_err-store.result _ (λ e is. record {
      newest = c.in_ok-newest.newest;
      is_new = made.new;
      told = made.ok claim;
      long = made.long claim;
      spared = made.spared claim;
      synced = made.synced claim;
      calls = made.counted.counted;
    })
