-- What a step of catching up is to the guard: the session refreshes or protects itself, and else stores words and takes latches that are none
-- of the guard's.
use Rattle.std.specs.Prelude.{⊤, ℕ, if◌then◌else◌, List, [], ◌∷◌, Option, Some, None}
use Rattle.fkv_plane.specs.declared.asks.Ask.{Ask}
use Rattle.fkv_plane.specs.declared.places.Places.{Places}
use Rattle.fkv_epoch.specs.declared.protecting.Protecting.{Protecting}
use Rattle.fkv_epoch.specs.declared.protecting.Protecting.TheVariants as protect
use Rattle.fkv_epoch.specs.declared.refreshing.Refreshing.{Refreshing}
use Rattle.fkv_epoch.specs.declared.refreshing.Refreshing.TheVariants as refresh
use Rattle.fkv_epoch.specs.EpochWorld as epochs
use Rattle.fkv_epoch.specs.EpochWorld.{EpochMachine, ToProtect, ToRefresh}
use Rattle.fkv_flush.specs.GuardSeen.{LastSeen}
use Rattle.fkv_flush.specs.GuardWorld.{GuardEvent, Moves, ToDo}
use Rattle.fkv_flush.proofs.Shown.{Likeness, refreshed_so_far, protected_so_far}
use Rattle.fkv_session.specs.declared.catching_up.Catching.{Catching}
use Rattle.fkv_session.specs.declared.catching_up.Catching.TheVariants.{Ended, Refreshes, Protects, Latches, Finishes}
use Rattle.fkv_session.specs.CatchingUp.{CatchState}
use Rattle.law_world.specs.GuardSessions.Likenesses.{likeness, last_seen}
use Rattle.law_world.specs.GuardSessions.Steps.{Onward, Stays, Starts, GoesOn, outer_events, IsOuter}

abbrev pub catch_events : {A : Type 0} → ℕ → List ℕ → Catching → Ask A → List GuardEvent
catch_events number words Refreshes ask = Moves number ∷ []
catch_events number words Protects ask = Moves number ∷ []
catch_events number words Finishes ask = Moves number ∷ []
catch_events number words step ask = outer_events number words ask

-- a machine that is through is like any other that is
abbrev pub refresh_machine : Refreshing → Option EpochMachine
refresh_machine refresh.AtRest = None
refresh_machine step = Some (epochs.Refreshes step)

abbrev pub protect_machine : Protecting → Option EpochMachine
protect_machine protect.AtRest = None
protect_machine step = Some (epochs.Protects step)

-- a refresh that has loaded waits until the session has taken up what it has seen
abbrev pub held_machine : CatchState → Option EpochMachine
held_machine c = if c.is_refresh then refresh_machine c.refreshing else None

abbrev pub catch_machine : CatchState → Catching → Option EpochMachine
catch_machine c Ended = None
catch_machine c Refreshes = refresh_machine c.refreshing
catch_machine c Protects = protect_machine c.protecting
catch_machine c Finishes = refresh_machine c.refreshing
catch_machine c step = held_machine c

abbrev pub catch_seen : CatchState → Catching → LastSeen
catch_seen c Refreshes = refreshed_so_far (last_seen c.seen) c.refreshing
catch_seen c Protects = protected_so_far (last_seen c.seen) c.protecting
catch_seen c step = last_seen c.seen

abbrev pub catch_likeness_at : CatchState → Catching → Likeness
catch_likeness_at c step = likeness (catch_machine c step) None (catch_seen c step) None

abbrev pub catch_likeness : CatchState → Likeness
catch_likeness c = catch_likeness_at c c.step

-- a machine at its first step has begun just now, and a refresh that is about to store its epoch goes on
abbrev pub refresh_onward : Refreshing → Onward
refresh_onward refresh.LoadsEpoch = Starts (ToDo ToRefresh)
refresh_onward step = Stays

abbrev pub protect_onward : Protecting → Onward
protect_onward protect.LoadsEpoch = Starts (ToDo ToProtect)
protect_onward step = Stays

abbrev pub finish_onward : Refreshing → Onward
finish_onward (refresh.StoresEpoch epoch) = GoesOn
finish_onward step = Stays

abbrev pub catch_onward : CatchState → Catching → Onward
catch_onward c Refreshes = refresh_onward c.refreshing
catch_onward c Protects = protect_onward c.protecting
catch_onward c Finishes = finish_onward c.refreshing
catch_onward c step = Stays

-- The word of a latch that it writes is none of the guard's; the other words are the session's own.
abbrev pub CatchWritesOuter : {A : Type 0} → Places → Catching → Ask A → Type 0
CatchWritesOuter p (Latches index) ask = IsOuter p ask
CatchWritesOuter p step ask = ⊤
