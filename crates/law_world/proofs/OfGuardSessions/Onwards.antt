-- What an actor begins behind a step, or lets go on, and where that leads.
use Rattle.std.proofs.Common.{◌≡◌, ℕ, ◌<◌, ◌∙◌, List, ◌++◌, refl, ap, subst, arith, Bool, true, false}
use Rattle.std.specs.Prelude.{⊤, Option, Some, None, slice_get, nat_lt, ◌==◌}
use Rattle.std.proofs.lemmas.Bool.Decides.{nat_tests}
use Rattle.fkv_plane.specs.declared.actions.Action.{Action}
use Rattle.fkv_epoch.specs.declared.refreshing.Refreshing.TheVariants as refresh
use Rattle.fkv_epoch.specs.declared.values.Seen as loaded
use Rattle.fkv_epoch.specs.Refreshing.{refresh_finish}
use Rattle.fkv_epoch.specs.EpochWorld.{EpochMachine, ToProtect, ToRefresh, ToLeave, ToScan, ToClaim, ToRaise, Refreshes, first_machine, own_epoch, is_at_rest, resumed_machine}
use Rattle.fkv_log.specs.Shifting.{shift_begun}
use Rattle.fkv_log.specs.Turning.{turn_begun}
use Rattle.fkv_log.specs.declared.filling.Filling.TheVariants as fill
use Rattle.fkv_log.specs.declared.invalidating.Invalidating.TheVariants as invalidate
use Rattle.fkv_log.specs.declared.reserving.Reserving.TheVariants as reserve
use Rattle.fkv_flush.specs.GuardWorld as guard
use Rattle.fkv_flush.specs.GuardWorld.{Actor, GuardTask, ToDo, ToReserve, ToFill, ToInvalidate, ToShift, ToTurnPage, ToFlush, ToServe, GuardNow, GuardEvent, near, put_near, is_idle, may_work, started, address_of}
use Rattle.fkv_flush.proofs.Shown.{put_there, goes_on, begins, resumes, Likeness, FitsMachine, FitsWork, Fits, Follows}
use Rattle.law_world.specs.GuardSessions.Steps.{Onward, Stays, Starts, GoesOn, onward_events}

-- what a task needs to begin
abbrev pub MayStart : Bool → Likeness → GuardTask → Type 0
MayStart protected mid (ToDo ToProtect) = mid.undecided ≡ None
MayStart protected mid (ToDo ToRefresh) = (mid.undecided ≡ None) × (protected ≡ true)
MayStart protected mid (ToDo ToLeave) = mid.undecided ≡ None
MayStart protected mid (ToReserve bound) = (mid.undecided ≡ None) × (protected ≡ true)
MayStart protected mid (ToFill its_words) = (addr : ℕ) × (mid.undecided ≡ Some addr)
MayStart protected mid (ToInvalidate header) = (addr : ℕ) × (mid.undecided ≡ Some addr)
MayStart protected mid task = ⊤

-- what the actor is like then. The mailboxes are the keeper's alone
abbrev pub started_likeness : Likeness → GuardTask → Likeness
started_likeness mid (ToDo task) = record mid { machine = Some (first_machine task); work = None }
started_likeness mid (ToReserve bound) = record mid { work = Some (guard.Reserves (reserve.LoadsLimit bound)) }
started_likeness mid (ToFill its_words) = record mid { work = Some (guard.Fills (fill.StoresValue (address_of mid.undecided) its_words)) }
started_likeness mid (ToInvalidate header) = record mid { work = Some (guard.Invalidates (invalidate.StoresHeader (address_of mid.undecided) header)) }
started_likeness mid ToShift = record mid { work = Some (guard.Shifts shift_begun) }
started_likeness mid (ToTurnPage form tail) = record mid { work = Some (guard.Turns (turn_begun form tail)) }
started_likeness mid task = mid

abbrev pub IsOfSessions : GuardTask → Type 0
IsOfSessions ToFlush = ⊥
IsOfSessions (ToServe begin) = ⊥
IsOfSessions task = ⊤

-- Behind a step the actor is like this, and like that once what begins has begun. Whether its session is protected is known.
pub data Leads (protected : Bool) (mid : Likeness) (onward : Onward) (its : Likeness) : Type 0 where
  Keeps : onward ≡ Stays → mid ≡ its → Leads protected mid onward its
  Begins : (task : GuardTask) → onward ≡ Starts task → IsOfSessions task → mid.machine ≡ None → mid.work ≡ None → MayStart protected mid task → its ≡ started_likeness mid task → Leads protected mid onward its
  Goes : (epoch : ℕ) (values : loaded.Seen) → onward ≡ GoesOn → mid.machine ≡ Some (Refreshes (refresh.HasLoaded epoch values)) → mid.work ≡ None → its ≡ record mid { machine = Some (Refreshes (refresh.StoresEpoch epoch)) } → Leads protected mid onward its

-- the actor's session is one of them, and where it is known to be protected it is
pub record IsSessions (sessions a : ℕ) (protected : Bool) (words : List ℕ) : Type 0 where
  pub below : a < sessions
  pub epoch : protected ≡ true → 0 < own_epoch words a

is_there : (a sessions : ℕ) → a < sessions → nat_lt a sessions ≡ true
is_there a sessions h = grind (arith, nat_tests)

is_some : (word : ℕ) → 0 < word → (word == 0) ≡ false
is_some word h = grind (arith, nat_tests)

may_start : (protected : Bool) (m : GuardNow) (a : ℕ) (y : Actor) (mid : Likeness) (task : GuardTask) → IsSessions m.places.sessions a protected m.words → IsOfSessions task → Fits mid y → is_at_rest y.machine ≡ true → MayStart protected mid task → may_work m a y task ≡ true
may_start protected m a y mid (ToDo ToProtect) its of fits rests may = rw (fits.undecided ∙ may, is_there a m.places.sessions its.below) refl
may_start protected m a y mid (ToDo ToRefresh) its of fits rests may = rw (fits.undecided ∙ may.0, is_there a m.places.sessions its.below, is_some (own_epoch m.words a) (its.epoch may.1)) refl
may_start protected m a y mid (ToDo ToLeave) its of fits rests may = rw (fits.undecided ∙ may, is_there a m.places.sessions its.below) refl
may_start protected m a y mid (ToDo ToScan) its of fits rests may = refl
may_start protected m a y mid (ToDo ToClaim) its of fits rests may = refl
may_start protected m a y mid (ToDo ToRaise) its of fits rests may = refl
may_start protected m a y mid (ToReserve bound) its of fits rests may = rw (fits.undecided ∙ may.0, is_there a m.places.sessions its.below, is_some (own_epoch m.words a) (its.epoch may.1), rests) refl
may_start protected m a y mid (ToFill its_words) its of fits rests may = rw (fits.undecided ∙ may.1) refl
may_start protected m a y mid (ToInvalidate header) its of fits rests may = rw (fits.undecided ∙ may.1) refl
may_start protected m a y mid ToShift its of fits rests may = refl
may_start protected m a y mid (ToTurnPage form tail) its of fits rests may = refl
may_start protected m a y mid ToFlush its of fits rests may = refl
may_start protected m a y mid (ToServe begin) its of fits rests may = refl

fits_none : (machine : EpochMachine) (found : Option EpochMachine) → found ≡ None → FitsMachine found machine → is_at_rest machine ≡ true
fits_none machine None e fits = fits
fits_none machine (Some its) e fits = cc

started_fits : (m : GuardNow) (y : Actor) (mid : Likeness) (task : GuardTask) → IsOfSessions task → Fits mid y → Fits (started_likeness mid task) (started m y task)
started_fits m y mid (ToDo task) of fits = record { machine = refl; work = refl; seen = fits.seen; undecided = fits.undecided }
started_fits m y mid (ToReserve bound) of fits = record { machine = fits.machine; work = refl; seen = fits.seen; undecided = fits.undecided }
started_fits m y mid (ToFill its_words) of fits = record { machine = fits.machine; work = ap (λ u. guard.Fills (fill.StoresValue (address_of u) its_words)) fits.undecided; seen = fits.seen; undecided = fits.undecided }
started_fits m y mid (ToInvalidate header) of fits = record { machine = fits.machine; work = ap (λ u. guard.Invalidates (invalidate.StoresHeader (address_of u) header)) fits.undecided; seen = fits.seen; undecided = fits.undecided }
started_fits m y mid ToShift of fits = record { machine = fits.machine; work = refl; seen = fits.seen; undecided = fits.undecided }
started_fits m y mid (ToTurnPage form tail) of fits = record { machine = fits.machine; work = refl; seen = fits.seen; undecided = fits.undecided }
started_fits m y mid ToFlush of fits = absurd of
started_fits m y mid (ToServe begin) of fits = absurd of

work_idle : (work : guard.Work) (found : Option guard.Work) → found ≡ None → FitsWork found work → is_idle work ≡ true
work_idle work None e fits = fits
work_idle work (Some its) e fits = cc

machine_is : (machine its : EpochMachine) (found : Option EpochMachine) → found ≡ Some its → FitsMachine found machine → machine ≡ its
machine_is machine its None e fits = cc
machine_is machine its (Some other) e fits = cc

-- the step, and what begins behind it
pub goes_onward : (protected : Bool) (n : GuardNow) (a : ℕ) (x : Actor) (events : List GuardEvent) (mid : Likeness) (onward : Onward) (its : Likeness) (words : List ℕ) (actions : List (Option Action))
    → slice_get n.actors a ≡ Some x → IsSessions n.places.sessions a protected words → Follows n a events mid words actions → Leads protected mid onward its → Follows n a (onward_events a onward ++ events) its words actions
unfolding refresh_finish
goes_onward protected n a x events mid onward its words actions got session f (Keeps stays same) = rw (stays) (subst (λ l. Follows n a events l words actions) same f)
goes_onward protected n a x events mid onward its words actions got session f (Begins task starts of rests idle may same) =
    let m : GuardNow = put_near n a (near words actions f.actor) in
    let there = put_there n a x (near words actions f.actor) got in
    let at_rest = fits_none f.actor.machine mid.machine rests f.fits.machine in
    let e = begins m a f.actor there task at_rest (work_idle f.actor.work mid.work idle f.fits.work) (may_start protected m a f.actor mid task session of f.fits at_rest may) in
    rw (starts, same) (record {
      actor = started m f.actor task;
      same = goes_on n a (guard.Begins a task) events (near words actions f.actor) (near words actions (started m f.actor task)) f.same e;
      fits = started_fits m f.actor mid task of f.fits;
    })
goes_onward protected n a x events mid onward its words actions got session f (Goes epoch values goes loads idle same) =
    let m : GuardNow = put_near n a (near words actions f.actor) in
    let there = put_there n a x (near words actions f.actor) got in
    let e = resumes m a f.actor there (work_idle f.actor.work mid.work idle f.fits.work) in
    rw (goes, same) (record {
      actor = record f.actor { machine = resumed_machine f.actor.machine };
      same = goes_on n a (guard.Resumes a) events (near words actions f.actor) (near words actions (record f.actor { machine = resumed_machine f.actor.machine })) f.same e;
      fits = record { machine = ap resumed_machine (machine_is f.actor.machine (Refreshes (refresh.HasLoaded epoch values)) mid.machine loads f.fits.machine); work = f.fits.work; seen = f.fits.seen; undecided = f.fits.undecided };
    })

-- A step leads the actor here by its own events, and there behind what begins then.
pub record Moved (protected : Bool) (n : GuardNow) (a : ℕ) (events : List GuardEvent) (onward : Onward) (its : Likeness) (words : List ℕ) (actions : List (Option Action)) : Type 0 where
  pub mid : Likeness
  pub moved : Follows n a events mid words actions
  pub leads : Leads protected mid onward its

-- what stays behind a step is what was there
pub stayed : (protected : Bool) (mid its : Likeness) → Leads protected mid Stays its → mid ≡ its
stayed protected mid its (Keeps stays same) = same
stayed protected mid its (Begins task starts of rests idle may same) = cc
stayed protected mid its (Goes epoch values goes loads idle same) = cc
