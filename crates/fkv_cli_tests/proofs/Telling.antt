-- What is said of a run if its devices are honest holds where they all are.
use Rattle.std.proofs.Common.{◌≡◌, ℕ, List, subst}
use Rattle.fkv_base.specs.declared.faults.Fault.TheVariants.{Damaged, NotAStore}
use Rattle.fkv_cli.specs.Output.{HoldsStore, Places}
use Rattle.fkv_cli_tests.specs.Shelves.{TellsOf}
use Rattle.fkv_opening.specs.Faults.{IsFaultOf}
use Rattle.fkv_runs.specs.Openings.{IsRecovered}

pub tells_of : {F : Type 0} (files : Places F) (name image : List ℕ) → ((device : F) → files.honest device)
    → ((path : List ℕ) (device : F) → files.is_opened path device → (path ≡ name) × (files.seen device ≡ image)) → TellsOf files name image
tells_of files name image honest opened = record {
  reports = λ path pieces status text run.
      (let its = opened path run.found run.is_opened in (
        its.0,
        record {
          opened = run.opened;
          pairs = run.pairs;
          recovered = subst (λ bytes. IsRecovered bytes run.opened run.pairs) its.1 (run.is_found.recovered (honest run.found));
          device = run.device;
          holds = subst (λ bytes. HoldsStore files.honest files.seen files.may_leave bytes run.opened run.device) its.1 (run.is_found.holds (honest run.found));
          said = run.said;
          life = run.life;
          says = run.says;
        },
      ));
  makes = λ path shape pieces status text run. record {
    opened = run.opened;
    is_new = run.is_new;
    found = run.found;
    made = run.made;
    device = run.device;
    holds = run.holds (honest run.found);
    life = run.life;
  };
  not_a_store = λ path is. (let its = opened path is.0 is.1 in (its.0, subst (λ bytes. IsFaultOf bytes NotAStore) its.1 (is.2 (honest is.0))));
  damaged = λ path part place is. (let its = opened path is.0 is.1 in (its.0, subst (λ bytes. IsFaultOf bytes (Damaged part place)) its.1 (is.2 (honest is.0))));
}
