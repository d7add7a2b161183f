-- What was taken from a list's end, and a world with which the guard begins.
use Rattle.std.proofs.Common.{◌≡◌, List, [], ◌∷◌, ◌++◌, refl, ap, ◌∙◌, arith, length}
use Rattle.std.specs.Prelude.{Option, Some, option_to_list, slice_get}
use Rattle.fkv_core.specs.Openings.{IsOpeningWorld}
use Rattle.fkv_opening.specs.declared.opened_store.Opened.{Opened}
use Rattle.fkv_table.specs.Openings.{IsGuardedOpening}
use Rattle.fkv_world.specs.Opened.{IsOpenedWorld}
use Rattle.fkv_world.specs.Runs.{World}
use Rattle.law_opening.specs.Lives.Laws.{GuardOpens}

-- what stands last in a list
last_there : {X : Type 0} (xs : List X) (x : X) → slice_get (xs ++ x ∷ []) (length xs) ≡ Some x
last_there [] x = refl
last_there (y ∷ ys) x = last_there ys x

-- what was taken from a list's end was there
pub taken_there : {X : Type 0} (old new : List X) (r : Option X) (x : X) → old ≡ new ++ option_to_list r → r ≡ Some x → slice_get old (length new) ≡ Some x
taken_there old new r x left is = ap (λ l. slice_get l (length new)) (left ∙ ap (λ o. new ++ option_to_list o) is) ∙ last_there new x

pub guard_begins : (o : Opened) (w : World) → GuardOpens → IsOpeningWorld o w.now → IsOpenedWorld w → IsGuardedOpening w
guard_begins o w opens world opened = record {
  start = o.tail.0;
  guarded = (opens o w.now [] world).now;
  opened = opened;
  seeks = omega (arith, world.its_keeper.sought, world.its_places.sessions);
}
