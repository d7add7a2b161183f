-- The keeper's step leads to the stage to which its parts lead.
use Rattle.std.proofs.Common.{◌≡◌, ◌≢◌, ◌⊎◌, inl, inr, ℕ, ◌<◌, ◌≤◌, ◌∙◌, List, length, refl, arith, sym, ap, subst, Bool, true, false}
use Rattle.std.specs.Prelude.{Option, Some, None, slice_set}
use Rattle.fkv_base.specs.declared.numbers.Serial.{Serial}
use Rattle.fkv_base.specs.declared.numbers.Version.{Version}
use Rattle.fkv_base.specs.declared.phases.Phase.{Phase}
use Rattle.fkv_base.specs.declared.phases.Phase.TheVariants as phase
use Rattle.fkv_base.specs.declared.shapes.Shape.{Shape}
use Rattle.fkv_words.specs.declared.phase_words.PhaseSaid.TheVariants.{Says}
use Rattle.fkv_words.specs.PhaseWords.{phase_said}
use Rattle.fkv_plane.specs.declared.actions.Action.{Action}
use Rattle.fkv_plane.specs.declared.actions.Action.TheVariants as act
use Rattle.fkv_plane.specs.declared.asks.Ask.{Ask}
use Rattle.fkv_plane.specs.declared.asks.Ask.TheVariants.{Store, Put, Take, Done}
use Rattle.fkv_plane.specs.declared.places.Places.{Places}
use Rattle.fkv_plane.specs.declared.places.SharedWord.TheVariants as one
use Rattle.fkv_plane.specs.Asked.{reply_to, word_at, words_after}
use Rattle.fkv_plane.specs.Passing.{passed}
use Rattle.fkv_plane.specs.Places.{shared_place}
use Rattle.fkv_plane.specs.Plane.{action_at}
use Rattle.fkv_epoch.specs.Claiming.{claim_ask, phase_stored}
use Rattle.law_refine.specs.Below.fkv_commit.TheDeferring.{Deferring}
use Rattle.law_refine.specs.Below.fkv_commit.TheDeferring.TheVariants as defer
use Rattle.law_refine.specs.Below.fkv_commit.EnterAnswer.TheVariants as enter
use Rattle.law_refine.specs.Below.fkv_commit.TheEntering.{Entering}
use Rattle.law_refine.specs.Below.fkv_commit.TheEntering.TheVariants as entering
use Rattle.law_refine.specs.Below.fkv_commit.TheFinishing.{Finishing}
use Rattle.law_refine.specs.Below.fkv_commit.TheFinishing.TheVariants as finishing
use Rattle.law_refine.specs.Below.fkv_commit.TheSeeking.{Seeking}
use Rattle.law_refine.specs.Below.fkv_commit.TheSeeking.TheVariants as seeking
use Rattle.law_refine.specs.Below.fkv_commit.StartAnswer.TheVariants as start
use Rattle.law_refine.specs.Below.fkv_commit.TheStarting.{Starting}
use Rattle.law_refine.specs.Below.fkv_commit.TheStarting.TheVariants as starting
use Rattle.law_refine.specs.Below.fkv_commit.Commits.{version_after}
use Rattle.law_refine.specs.Below.fkv_commit.Deferring.{DeferState, deferring_ask}
use Rattle.law_refine.specs.Below.fkv_commit.Entering.{EnterState, entering_ask}
use Rattle.law_refine.specs.Below.fkv_commit.Finishing.{FinishState, finishing_ask}
use Rattle.law_refine.specs.Below.fkv_commit.Seeking.{SeekState, seeking_ask}
use Rattle.law_refine.specs.Below.fkv_commit.Starting.{StartState, starting_ask}
use Rattle.law_refine.specs.Below.fkv_maintain.MaintainAnswer.{MaintainAnswer}
use Rattle.law_refine.specs.Below.fkv_maintain.MaintainAnswer.TheVariants as maintain
use Rattle.law_refine.specs.Below.fkv_maintain.TheMaintaining.{Maintaining}
use Rattle.law_refine.specs.Below.fkv_maintain.TheMaintaining.TheVariants as maintaining
use Rattle.law_refine.specs.Below.fkv_maintain.Maintaining.{MaintainState, maintaining_ask}
use Rattle.law_refine.specs.Below.fkv_keeper.KeeperTold.{KeeperTold}
use Rattle.law_refine.specs.Below.fkv_keeper.KeeperTold.TheVariants.{Device, Turned, TurnRefused, Begun, CommitRefused}
use Rattle.law_refine.specs.Below.fkv_keeper.TheKeeping.{Keeping}
use Rattle.law_refine.specs.Below.fkv_keeper.TheKeeping.TheVariants.{Ended, Starts, Maintains, LoadsPhase, Enters, Copies, Seeks, Waits, Writes, Finishes, Sweeps}
use Rattle.law_refine.specs.Below.fkv_keeper.Keeping.{KeeperState, device_passed, keeper_ask, keeper_called, keeper_given, keeper_next, keeping_ask}
use Rattle.law_refine.specs.Below.fkv_world.Actors.{slot_asked}
use Rattle.law_refine.specs.Below.fkv_world.Moves.{keeper_asks, keeper_gets, keeper_moved, keeper_settled}
use Rattle.law_refine.specs.Below.fkv_world.World.{Now, near, with_keeper}
use Rattle.law_refine.specs.Footprint.{Spares, ThePhase}
use Rattle.law_refine.proofs.Footprint.Commits.{finish_stores, seek_stores, start_stores}
use Rattle.law_refine.proofs.Footprint.Keepers.{keeper_stores}
use Rattle.law_refine.proofs.Footprint.Maintains.{maintain_stores}
use Rattle.law_commit.specs.Phases.Staged.{DefersPending, DefersProgress, FinishAt, FitsVersion, Holder, InSlot, IsStaged, KeeperAt, OnlyOut, SeekAt, Stage, StageAfter, StartAt, StepAt, WithKeeper, defer_moves, enter_moves, finish_moves, finish_number, held, held_at, is_resting, keeper_hand, keeping_hand, keeping_moves, keeping_number, maintain_hand, phase_in, seek_moves, stage_out, stage_phase, stage_run, stage_version, stage_word, start_moves}
use Rattle.law_commit.proofs.OfPhases.KeeperHands.{PutsAt, keeper_called_hand, keeper_given_hand, keeper_next_none, keeper_puts_at}
use Rattle.law_commit.proofs.OfPhases.KeeperStages.{KeeperSays, keeper_called_at, keeper_given_at, keeper_replied_at}
use Rattle.law_commit.proofs.OfPhases.CommitStages.{StartSays}
use Rattle.law_commit.proofs.OfPhases.OneOut.{dropped, fewer, keeper_calls, keeper_empties, keeper_put, keeper_takes, put, taken}
use Rattle.law_commit.proofs.OfPhases.SessionStages.{IsRun, claim_runs, passed_runs, phase_spared, phase_written, stage_runs}
use Rattle.law_commit.proofs.OfPhases.StageMoves.{KeeperOn, OwnStore, Plain, Putting, Replied}
use Rattle.law_commit.proofs.OfPhases.StageWords.{word_says}
use Rattle.law_commit.proofs.OfPhases.StagesRun.{runs_on}

-- ---- what the keeper loads of it
start_says : (number : Version) (stage : Stage) (words : List ℕ) (s : StartState) (step : Starting) (told : KeeperTold) → phase_said (word_at words 2) ≡ Says (stage_phase stage) (stage_version number stage)
    → StartSays number stage step (reply_to words (passed (starting_ask s step) told))
unfolding starting_ask passed
start_says number stage words s starting.LoadsPhase told says = says
start_says number stage words s (starting.Ended its) told says = tt
start_says number stage words s (starting.Seeks its) told says = tt
start_says number stage words s (starting.StoresPrepare its) told says = tt
start_says number stage words s (starting.LoadsTail its) told says = tt
start_says number stage words s (starting.Defers its first) told says = tt

keeper_says : (number : Version) (stage : Stage) (words : List ℕ) (shape : Shape) (p : Places) (s : KeeperState) (step : Keeping) → phase_said (word_at words 2) ≡ Says (stage_phase stage) (stage_version number stage)
    → KeeperSays number stage s step (reply_to words (keeping_ask shape p s step))
unfolding keeping_ask
keeper_says number stage words shape p s Starts says = start_says number stage words s.start s.start.step _ says
keeper_says number stage words shape p s LoadsPhase says = says
keeper_says number stage words shape p s (Ended told) says = tt
keeper_says number stage words shape p s Maintains says = tt
keeper_says number stage words shape p s Enters says = tt
keeper_says number stage words shape p s Copies says = tt
keeper_says number stage words shape p s Sweeps says = tt
keeper_says number stage words shape p s Seeks says = tt
keeper_says number stage words shape p s Waits says = tt
keeper_says number stage words shape p s Writes says = tt
keeper_says number stage words shape p s Finishes says = tt

-- where it puts an action it loads no phase
start_puts_says : (number : Version) (stage : Stage) (s : StartState) (step : Starting) (told : KeeperTold) (slot : ℕ) (action : Action) → passed (starting_ask s step) told ≡ Put slot action → StartSays number stage step 0
unfolding starting_ask passed
start_puts_says number stage s starting.LoadsPhase told slot action e = cc
start_puts_says number stage s (starting.Ended its) told slot action e = tt
start_puts_says number stage s (starting.Seeks its) told slot action e = tt
start_puts_says number stage s (starting.StoresPrepare its) told slot action e = tt
start_puts_says number stage s (starting.LoadsTail its) told slot action e = tt
start_puts_says number stage s (starting.Defers its first) told slot action e = tt

puts_says : (number : Version) (stage : Stage) (shape : Shape) (p : Places) (s : KeeperState) (step : Keeping) (slot : ℕ) (action : Action) → keeping_ask shape p s step ≡ Put slot action → KeeperSays number stage s step 0
unfolding keeping_ask
puts_says number stage shape p s Starts slot action e = start_puts_says number stage s.start s.start.step _ slot action e
puts_says number stage shape p s LoadsPhase slot action e = cc
puts_says number stage shape p s (Ended told) slot action e = tt
puts_says number stage shape p s Maintains slot action e = tt
puts_says number stage shape p s Enters slot action e = tt
puts_says number stage shape p s Copies slot action e = tt
puts_says number stage shape p s Sweeps slot action e = tt
puts_says number stage shape p s Seeks slot action e = tt
puts_says number stage shape p s Waits slot action e = tt
puts_says number stage shape p s Writes slot action e = tt
puts_says number stage shape p s Finishes slot action e = tt

-- and finishes nothing
finish_puts_number : (number : Version) (points : List Serial) (s : FinishState) (step : Finishing) (told : KeeperTold) (slot : ℕ) (action : Action) → passed (finishing_ask points s step) told ≡ Put slot action → finish_number number step ≡ number
unfolding finishing_ask passed
finish_puts_number number points s (finishing.Ended its) told slot action e = refl
finish_puts_number number points s (finishing.StoresDurable session) told slot action e = refl
finish_puts_number number points s finishing.StoresRest told slot action e = cc

puts_number : (number : Version) (shape : Shape) (p : Places) (s : KeeperState) (step : Keeping) (slot : ℕ) (action : Action) → keeping_ask shape p s step ≡ Put slot action → keeping_number number s step ≡ number
unfolding keeping_ask
puts_number number shape p s Finishes slot action e = finish_puts_number number s.seek.points s.finish s.finish.step _ slot action e
puts_number number shape p s (Ended told) slot action e = refl
puts_number number shape p s Starts slot action e = refl
puts_number number shape p s Maintains slot action e = refl
puts_number number shape p s LoadsPhase slot action e = refl
puts_number number shape p s Enters slot action e = refl
puts_number number shape p s Copies slot action e = refl
puts_number number shape p s Sweeps slot action e = refl
puts_number number shape p s Seeks slot action e = refl
puts_number number shape p s Waits slot action e = refl
puts_number number shape p s Writes slot action e = refl

-- ---- where an ask of a word leads that stores no phase
record IsSame (number next : Version) (stage after : Stage) : Type 0 where
  version : next ≡ number
  same : after ≡ stage

defer_same : {A B : Type 0} (stage out : Stage) (d : DeferState) (step : Deferring) (its : B) (told : A) → slot_asked (passed (passed (deferring_ask d step) its) told) ≡ None → defer_moves stage out step ≡ stage
unfolding deferring_ask passed
defer_same stage out d (defer.Puts other slot epoch) its told none = cc
defer_same stage out d (defer.Ended x) its told none = refl
defer_same stage out d defer.Seeks its told none = refl
defer_same stage out d defer.Holds its told none = refl
defer_same stage out d (defer.Raises other) its told none = refl
defer_same stage out d (defer.Arms epoch) its told none = refl

start_same : (stage : Stage) (s : StartState) (step : Starting) (told : KeeperTold) → start_stores step ≡ false → slot_asked (passed (starting_ask s step) told) ≡ None → start_moves stage s step ≡ stage
unfolding starting_ask
start_same stage s (starting.StoresPrepare its) told stores none = cc
start_same stage s (starting.Defers its first) told stores none = defer_same stage DefersProgress s.defer s.defer.step start.Idle told none
start_same stage s (starting.Ended its) told stores none = refl
start_same stage s starting.LoadsPhase told stores none = refl
start_same stage s (starting.Seeks its) told stores none = refl
start_same stage s (starting.LoadsTail its) told stores none = refl

enter_same : (stage : Stage) (s : EnterState) (step : Entering) (told : KeeperTold) → slot_asked (passed (entering_ask s step) told) ≡ None → enter_moves stage s step ≡ stage
unfolding entering_ask
enter_same stage s entering.Defers told none = defer_same stage DefersPending s.defer s.defer.step enter.Idle told none
enter_same stage s (entering.Ended its) told none = refl
enter_same stage s entering.Seeks told none = refl

seek_same : (stage : Stage) (step : Seeking) → seek_stores step ≡ false → seek_moves stage step ≡ stage
seek_same stage seeking.StoresWaitFlush stores = cc
seek_same stage step stores = refl

finish_same : (number : Version) (stage : Stage) (step : Finishing) → finish_stores step ≡ false → IsSame number (finish_number number step) stage (finish_moves stage step)
finish_same number stage finishing.StoresRest stores = cc
finish_same number stage (finishing.Ended its) stores = record { version = refl; same = refl }
finish_same number stage (finishing.StoresDurable session) stores = record { version = refl; same = refl }

keeping_same : (number : Version) (stage : Stage) (shape : Shape) (p : Places) (s : KeeperState) (step : Keeping) → keeper_stores s step ≡ false → slot_asked (keeping_ask shape p s step) ≡ None
    → IsSame number (keeping_number number s step) stage (keeping_moves stage s step)
unfolding keeping_ask
keeping_same number stage shape p s Starts stores none = record { version = refl; same = start_same stage s.start s.start.step _ stores none }
keeping_same number stage shape p s Enters stores none = record { version = refl; same = enter_same stage s.enter s.enter.step _ none }
keeping_same number stage shape p s Seeks stores none = record { version = refl; same = seek_same stage s.seek.step stores }
keeping_same number stage shape p s Finishes stores none = finish_same number stage s.finish.step stores
keeping_same number stage shape p s (Ended told) stores none = record { version = refl; same = refl }
keeping_same number stage shape p s Maintains stores none = record { version = refl; same = refl }
keeping_same number stage shape p s LoadsPhase stores none = record { version = refl; same = refl }
keeping_same number stage shape p s Copies stores none = record { version = refl; same = refl }
keeping_same number stage shape p s Sweeps stores none = record { version = refl; same = refl }
keeping_same number stage shape p s Waits stores none = record { version = refl; same = refl }
keeping_same number stage shape p s Writes stores none = record { version = refl; same = refl }

-- ---- and one that stores a phase: the keeper's own, where no action is out, or what it runs
record StoresIts (number next : Version) (stage after : Stage) (ask : Ask KeeperTold) : Type 0 where
  asks : ask ≡ Store (shared_place one.Phase) (stage_word next after)
  was : stage_out number stage ≡ None
  is : stage_out next after ≡ None
  fits : FitsVersion next after
  rises : (stage_version number stage).0 ≤ (stage_version next after).0

record RunsIts (number next : Version) (stage after : Stage) (ask : Ask KeeperTold) (hand : Option Action) : Type 0 where
  run : IsRun ask hand
  same : IsSame number next stage after

abbrev StoresSo : KeeperState → Keeping → Version → Version → Stage → Stage → Ask KeeperTold → Option Action → Type 0
StoresSo s step number next stage after ask hand = (OwnStore s step × StoresIts number next stage after ask) ⊎ RunsIts number next stage after ask hand

start_stored : (number : Version) (stage : Stage) (s : StartState) (step : Starting) (told : KeeperTold) → StartAt number stage s step → FitsVersion number stage → start_stores step ≡ true
    → StoresIts number number stage (start_moves stage s step) (passed (starting_ask s step) told)
unfolding starting_ask passed
start_stored number stage s (starting.StoresPrepare its) told is fits stores =
    let starts = is.0 in
    let rests = is.1 in
    record {
      asks = ap (λ (v : Version). Store (shared_place one.Phase) (phase_stored phase.Prepare v)) starts.same;
      was = ap (λ (x : Stage). stage_out number x) rests;
      is = refl;
      fits = record { some = fits.some; low = fits.low; lower = λ e. starts.fits };
      rises = rw rests (omega arith);
    }
start_stored number stage s (starting.Ended its) told is fits stores = cc
start_stored number stage s starting.LoadsPhase told is fits stores = cc
start_stored number stage s (starting.Seeks its) told is fits stores = cc
start_stored number stage s (starting.LoadsTail its) told is fits stores = cc
start_stored number stage s (starting.Defers its first) told is fits stores = cc

seek_stored : (number : Version) (stage : Stage) (s : SeekState) (step : Seeking) (told : KeeperTold) → s.number ≡ number → SeekAt number stage s step → FitsVersion number stage → seek_stores step ≡ true
    → StoresIts number number stage (seek_moves stage step) (passed (seeking_ask s step) told)
unfolding seeking_ask passed
seek_stored number stage s seeking.StoresWaitFlush told same is fits stores =
    let pends = is.0 in
    record {
      asks = ap (λ (v : Version). Store (shared_place one.Phase) (phase_stored phase.WaitFlush (version_after v))) same;
      was = ap (λ (x : Stage). stage_out number x) pends;
      is = refl;
      fits = record { some = fits.some; low = fits.low; lower = λ e. fits.lower (ap is_resting pends) };
      rises = rw pends (omega arith);
    }
seek_stored number stage s step told same is fits stores = cc

finish_stored : (number : Version) (stage : Stage) (points : List Serial) (s : FinishState) (step : Finishing) (told : KeeperTold) → s.number ≡ number → FinishAt stage step → FitsVersion number stage → finish_stores step ≡ true
    → StoresIts number (finish_number number step) stage (finish_moves stage step) (passed (finishing_ask points s step) told)
unfolding finishing_ask passed
finish_stored number stage points s finishing.StoresRest told same is fits stores = record {
  asks = ap (λ (v : Version). Store (shared_place one.Phase) (phase_stored phase.Rest (version_after v))) same;
  was = ap (λ (x : Stage). stage_out number x) is;
  is = refl;
  fits = record { some = omega arith; low = omega arith; lower = λ e. cc };
  rises = rw is (omega arith);
}
finish_stored number stage points s (finishing.Ended its) told same is fits stores = cc
finish_stored number stage points s (finishing.StoresDurable session) told same is fits stores = cc

maintain_runs : (shape : Shape) (p : Places) (m : MaintainState) (step : Maintaining) → maintain_stores m step ≡ true → IsRun (maintaining_ask shape p m step) (maintain_hand m step)
unfolding maintaining_ask
maintain_runs shape p m maintaining.Claims stores = passed_runs (claim_ask m.claiming) maintain.Through _ (claim_runs m.claiming stores)
maintain_runs shape p m step stores = cc

device_runs : (ask : Ask MaintainAnswer) (told : KeeperTold) (hand : Option Action) → IsRun ask hand → IsRun (device_passed ask told) hand
unfolding device_passed passed
device_runs ask told hand run = record { its = run.its; version = run.version; has = run.has; asks = ap (λ (x : Ask MaintainAnswer). device_passed x told) run.asks }

keeping_stored : (number : Version) (stage : Stage) (shape : Shape) (p : Places) (s : KeeperState) (step : Keeping) → StepAt number stage s step → FitsVersion number stage → keeper_stores s step ≡ true
    → StoresSo s step number (keeping_number number s step) stage (keeping_moves stage s step) (keeping_ask shape p s step) (keeping_hand s step)
unfolding keeping_ask
keeping_stored number stage shape p s Starts is fits stores = inl (stores, (start_stored number stage s.start s.start.step _ is fits stores))
keeping_stored number stage shape p s Maintains is fits stores =
    inr (record { run = device_runs _ _ (maintain_hand s.maintain s.maintain.step) (maintain_runs shape p s.maintain s.maintain.step stores); same = record { version = refl; same = refl } })
keeping_stored number stage shape p s Seeks is fits stores = inl (stores, (seek_stored number stage s.seek s.seek.step _ is.0 is.1 fits stores))
keeping_stored number stage shape p s Finishes is fits stores = inl (stores, (finish_stored number stage s.seek.points s.finish s.finish.step _ is.0 is.1 fits stores))
keeping_stored number stage shape p s (Ended told) is fits stores = cc
keeping_stored number stage shape p s LoadsPhase is fits stores = cc
keeping_stored number stage shape p s Enters is fits stores = cc
keeping_stored number stage shape p s Copies is fits stores = cc
keeping_stored number stage shape p s Sweeps is fits stores = cc
keeping_stored number stage shape p s Waits is fits stores = cc
keeping_stored number stage shape p s Writes is fits stores = cc

-- ---- a step
at_same : (number next : Version) (stage after : Stage) (m : KeeperState) → IsSame number next stage after → KeeperAt next after m → KeeperAt number stage m
at_same number next stage after m is its = subst (λ (x : Stage). KeeperAt number x m) is.same (subst (λ (v : Version). KeeperAt v after m) is.version its)

module _ (n : Now) (number : Version) (stage : Stage) (granted : Bool) where
  -- behind the reply, with the keeper that it leads to
  record Answered (words : List ℕ) (m : KeeperState) : Type 0 where
    next : Version
    at : Stage
    fits : FitsVersion next at
    word : phase_said (word_at words 2) ≡ Says (stage_phase at) (stage_version next at)
    out : OnlyOut (held_at n.actions n.sessions m) (stage_out next at)
    keeper : KeeperAt next at m
    rises : (stage_version number stage).0 ≤ (stage_version next at).0
    how : Replied n number next stage at

  abbrev asked_now : Ask KeeperTold
  asked_now = keeper_ask n.shape n.places n.keeper

  abbrev replied_now : KeeperState
  replied_now = keeper_next n.shape n.places n.keeper (reply_to n.words asked_now) granted

  replies : IsStaged n number stage → 2 < length n.words → (keeper_stores n.keeper n.keeper.step ≡ false → Spares ThePhase n.places asked_now) → slot_asked asked_now ≡ None → Answered (words_after n.words asked_now) replied_now
  replies its low spares rests = by_stores (keeper_stores n.keeper n.keeper.step) refl
    where
      said : KeeperSays number stage n.keeper n.keeper.step (reply_to n.words asked_now)
      said = keeper_says number stage n.words n.shape n.places n.keeper n.keeper.step its.word

      led : KeeperAt (keeping_number number n.keeper n.keeper.step) (keeping_moves stage n.keeper n.keeper.step) replied_now
      led = keeper_replied_at number stage n.shape n.places n.keeper (reply_to n.words asked_now) granted its.keeper its.fits said

      empties : (holder : Holder) (a : Action) → held_at n.actions n.sessions replied_now holder ≡ Some a → (held n holder ≡ Some a) × (holder ≢ WithKeeper)
      empties holder a is = keeper_empties n.actions n.sessions n.keeper replied_now (keeper_next_none n.shape n.places n.keeper (reply_to n.words asked_now) granted) holder a is

      by_stores : (b : Bool) → keeper_stores n.keeper n.keeper.step ≡ b → Answered (words_after n.words asked_now) replied_now
      by_stores false e = record {
        next = number;
        at = stage;
        fits = its.fits;
        word = ap phase_said (phase_spared n.places n.words asked_now (spares e)) ∙ its.word;
        out = fewer its.out (λ holder a is. (empties holder a is).0);
        keeper = at_same number _ stage _ replied_now (keeping_same number stage n.shape n.places n.keeper n.keeper.step e rests) led;
        rises = omega arith;
        how = inl (record { version = refl; same = refl; stores = e });
      }
      by_stores true e = elim (keeping_stored number stage n.shape n.places n.keeper n.keeper.step its.keeper.step its.fits e) [
        | inl its_own ↦ (let stores = its_own.1 in record {
          next = keeping_number number n.keeper n.keeper.step;
          at = keeping_moves stage n.keeper n.keeper.step;
          fits = stores.fits;
          word = ap phase_said (phase_written n.words asked_now _ low stores.asks) ∙ word_says (keeping_number number n.keeper n.keeper.step) (keeping_moves stage n.keeper n.keeper.step) stores.fits;
          out = subst (λ (x : Option Action). OnlyOut (held_at n.actions n.sessions replied_now) x) (stores.was ∙ sym stores.is) (fewer its.out (λ holder a is. (empties holder a is).0));
          keeper = led;
          rises = stores.rises;
          how = inr (inl (record { own = its_own.0; version = refl; moves = refl }));
        })
        | inr runs ↦
            let run = runs.run in
            let action : Action = act.Phase run.its run.version in
            let has : held n WithKeeper ≡ Some action = ap phase_in run.has in
            let on = stage_runs number stage run.its run.version (its.out.its_own WithKeeper action has) its.fits in
            record {
              next = number;
              at = stage_run stage;
              fits = on.fits;
              word = ap phase_said (phase_written n.words asked_now (phase_stored run.its run.version) low run.asks ∙ on.word_is) ∙ word_says number (stage_run stage) on.fits;
              out = subst (λ (x : Option Action). OnlyOut (held_at n.actions n.sessions replied_now) x) (sym on.none) (dropped WithKeeper action its.out has empties);
              keeper = runs_on number stage replied_now (at_same number _ stage _ replied_now runs.same led);
              rises = on.rises;
              how = inr (inr (record { version = refl; runs = refl; its = run.its; its_version = run.version; has = run.has }));
            }
      ]

  gets_hand : (m : KeeperState) (found : Option Action) (a : Action) → keeper_hand m ≡ None → phase_in (keeper_hand (keeper_gets n.shape n.places m found)) ≡ Some a → phase_in found ≡ Some a
  gets_hand m None a none is = let clash : None ≡ Some a = ap phase_in (sym none) ∙ is in cc
  gets_hand m (Some action) a none is = by_hand (keeper_hand (keeper_given n.shape n.places m action)) refl is
    where
      by_hand : (hand : Option Action) → keeper_hand (keeper_given n.shape n.places m action) ≡ hand → phase_in hand ≡ Some a → phase_in (Some action) ≡ Some a
      by_hand None e it = cc
      by_hand (Some its) e it = subst (λ (x : Action). phase_in (Some x) ≡ Some a) (keeper_given_hand n.shape n.places m action its none e) it

  gets_at : (next : Version) (at : Stage) (m : KeeperState) (found : Option Action) → KeeperAt next at m → KeeperAt next at (keeper_gets n.shape n.places m found)
  gets_at next at m None its = its
  gets_at next at m (Some action) its = keeper_given_at next at n.shape n.places m action its

  record SettledOn (m : KeeperState) (words : List ℕ) (r : Answered words m) (after : Now) : Type 0 where
    on : StageAfter number stage after
    words_are : after.words ≡ words
    settled : Plain n m after.keeper r.next on.its_number r.at on.its_stage ⊎ Putting n granted m after.keeper r.next on.its_number r.at on.its_stage

  -- it puts no phase, or the action that is out then
  puts : (m : KeeperState) (words : List ℕ) (slot : ℕ) (action : Action) (r : Answered words m) → keeper_hand m ≡ None → keeper_ask n.shape n.places m ≡ Put slot action
      → SettledOn m words r (with_keeper n (record { machine = keeper_next n.shape n.places m 0 granted; words = words; actions = slice_set n.actions slot (Some action) }))
  puts m words slot action r none e =
      let fits_now = r.fits in
      let led : KeeperAt (keeping_number r.next m m.step) (keeping_moves r.at m m.step) (keeper_next n.shape n.places m 0 granted) =
      keeper_replied_at r.next r.at n.shape n.places m 0 granted r.keeper fits_now (puts_says r.next r.at n.shape n.places m m.step slot action e) in
      let here : KeeperAt r.next (keeping_moves r.at m m.step) (keeper_next n.shape n.places m 0 granted) =
      subst (λ (v : Version). KeeperAt v (keeping_moves r.at m m.step) (keeper_next n.shape n.places m 0 granted)) (puts_number r.next n.shape n.places m m.step slot action e) led in
      let its : PutsAt {A = KeeperTold} r.next r.at (keeping_moves r.at m m.step) (Put slot action) = subst (λ (x : Ask KeeperTold). PutsAt r.next r.at (keeping_moves r.at m m.step) x) e (keeper_puts_at r.next r.at n.shape n.places m r.keeper.step) in
      let after_none = keeper_next_none n.shape n.places m 0 granted in
      elim its [
        | inl same ↦ record {
          on = record {
            its_number = r.next;
            its_stage = r.at;
            staged = record {
              fits = fits_now;
              word = r.word;
              out = fewer r.out (λ holder a is. elim (keeper_put n.actions n.sessions m (keeper_next n.shape n.places m 0 granted) slot action after_none holder a is) [
                | inl there ↦ (let clash : None ≡ Some a = sym same.0 ∙ there.1 in cc)
                | inr was ↦ was
              ]);
              keeper = subst (λ (x : Stage). KeeperAt r.next x (keeper_next n.shape n.places m 0 granted)) same.1 here;
            };
            rises = r.rises;
          };
          words_are = refl;
          settled = inr (record { slot = slot; action = action; asks = e; version = refl; moves = sym same.1; keeper = refl; puts = inl (same.0, refl) });
        }
        | inr phased ↦ record {
          on = record {
            its_number = r.next;
            its_stage = keeping_moves r.at m m.step;
            staged = record {
              fits = record { some = fits_now.some; low = fits_now.low; lower = λ stored. fits_now.lower phased.stored };
              word = r.word ∙ word_same r.next r.at (keeping_moves r.at m m.step) phased.phase phased.version;
              out = put (InSlot slot) (subst (λ (x : Option Action). OnlyOut (held_at n.actions n.sessions m) x) phased.none r.out) (λ holder a is.
                  elim (keeper_put n.actions n.sessions m (keeper_next n.shape n.places m 0 granted) slot action after_none holder a is) [
                    | inl there ↦ inl (there.0, sym there.1 ∙ phased.out)
                    | inr was ↦ inr was
                  ]);
              keeper = here;
            };
            rises = let up = r.rises in let same = ap (λ (v : Version). v.0) phased.version in omega (arith, up, same);
          };
          words_are = refl;
          settled = inr (record { slot = slot; action = action; asks = e; version = refl; moves = refl; keeper = refl; puts = inr phased });
        }
      ]
    where
      word_same : (next : Version) (at after : Stage) → stage_phase after ≡ stage_phase at → stage_version next after ≡ stage_version next at → Says (stage_phase at) (stage_version next at) ≡ Says (stage_phase after) (stage_version next after)
      word_same next at after one other = ap (λ (x : Phase). Says x (stage_version next at)) (sym one) ∙ ap (λ (v : Version). Says (stage_phase after) v) (sym other)

  settles : (m : KeeperState) (words : List ℕ) (ask : Ask KeeperTold) (r : Answered words m) → keeper_hand m ≡ None → keeper_ask n.shape n.places m ≡ ask
      → SettledOn m words r (with_keeper n (keeper_settled n.shape n.places granted (record { machine = m; words = words; actions = n.actions }) ask))
  unfolding keeper_settled
  settles m words (Put slot action) r none e = puts m words slot action r none e
  settles m words (Take slot) r none e = record {
    on = record {
      its_number = r.next;
      its_stage = r.at;
      staged = record {
        fits = r.fits;
        word = r.word;
        out = taken (InSlot slot) WithKeeper r.out (keeper_takes n.actions n.sessions m (keeper_gets n.shape n.places m (action_at n.actions slot)) slot (λ a is. gets_hand m (action_at n.actions slot) a none is));
        keeper = gets_at r.next r.at m (action_at n.actions slot) r.keeper;
      };
      rises = r.rises;
    };
    words_are = refl;
    settled = inl (record { version = refl; same = refl; keeper = inr (action_at n.actions slot, refl); unput = λ other action is. let clash : Take slot ≡ Put other action = sym e ∙ is in cc });
  }
  settles m words ask r none e = record {
    on = record { its_number = r.next; its_stage = r.at; staged = record { fits = r.fits; word = r.word; out = r.out; keeper = r.keeper }; rises = r.rises };
    words_are = refl;
    settled = inl (record { version = refl; same = refl; keeper = inl refl; unput = λ other action is. let clash : ask ≡ Put other action = sym e ∙ is in cc });
  }

  -- it asks nothing of a word
  aside : (done : Bool) (read : List ℕ) → IsStaged n number stage → KeeperOn n number stage granted done read (with_keeper n (near n n.keeper))
  aside done read its = record { on = record { its_number = number; its_stage = stage; staged = its; rises = omega arith }; how = inl (record { version = refl; same = refl; keeper = inl refl }) }

  asks : (done : Bool) (read : List ℕ) → IsStaged n number stage → 2 < length n.words → (keeper_stores n.keeper n.keeper.step ≡ false → Spares ThePhase n.places asked_now) → (ask : Ask KeeperTold) → asked_now ≡ ask → slot_asked ask ≡ None
      → KeeperOn n number stage granted done read (with_keeper n (keeper_asks n.shape n.places granted done read (near n n.keeper) ask))
  unfolding keeper_asks
  asks done read its low spares (Done Device) e rests = record {
    on = record {
      its_number = number;
      its_stage = stage;
      staged = record {
        fits = its.fits;
        word = its.word;
        out = fewer its.out (keeper_calls n.actions n.sessions n.keeper (keeper_called n.shape n.places n.keeper done read) (λ a is. keeper_called_hand n.shape n.places n.keeper done read a is));
        keeper = keeper_called_at number stage n.shape n.places n.keeper done read its.keeper;
      };
      rises = omega arith;
    };
    how = inl (record { version = refl; same = refl; keeper = inr refl });
  }
  asks done read its low spares (Done (Turned finished full)) e rests = aside done read its
  asks done read its low spares (Done (TurnRefused why)) e rests = aside done read its
  asks done read its low spares (Done (Begun version)) e rests = aside done read its
  asks done read its low spares (Done (CommitRefused why)) e rests = aside done read its
  asks done read its low spares (Put slot action) e rests = cc
  asks done read its low spares (Take slot) e rests = cc
  asks done read its low spares ask e rests =
      let m : KeeperState = keeper_next n.shape n.places n.keeper (reply_to n.words ask) granted in
      let here : Answered (words_after n.words ask) m =
      subst (λ (x : Ask KeeperTold). Answered (words_after n.words x) (keeper_next n.shape n.places n.keeper (reply_to n.words x) granted)) e (replies its low spares (ap slot_asked e ∙ rests)) in
      let there = settles m (words_after n.words ask) (keeper_ask n.shape n.places m) here (keeper_next_none n.shape n.places n.keeper (reply_to n.words ask) granted) refl in
      record {
        on = there.on;
        how = inr (record {
          led = m;
          is_led = ap (λ (x : Ask KeeperTold). keeper_next n.shape n.places n.keeper (reply_to n.words x) granted) (sym e);
          words_are = there.words_are ∙ ap (λ (x : Ask KeeperTold). words_after n.words x) (sym e);
          between = here.next;
          at = here.at;
          replied = here.how;
          keeper = here.keeper;
          settled = there.settled;
        });
      }

pub keeper_on : (n : Now) (number : Version) (stage : Stage) (granted done : Bool) (read : List ℕ) → IsStaged n number stage → 2 < length n.words
    → (keeper_stores n.keeper n.keeper.step ≡ false → Spares ThePhase n.places (keeper_ask n.shape n.places n.keeper)) → slot_asked (keeper_ask n.shape n.places n.keeper) ≡ None
    → KeeperOn n number stage granted done read (with_keeper n (keeper_moved n.shape n.places granted done read (near n n.keeper)))
keeper_on n number stage granted done read its low spares rests = asks n number stage granted done read its low spares (keeper_ask n.shape n.places n.keeper) refl rests
