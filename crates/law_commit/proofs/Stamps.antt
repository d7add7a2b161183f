-- What comes into a sight has the epoch and the tail that stand.
use Rattle.std.proofs.Common.{◌≡◌, ◌⊎◌, inl, inr, ℕ, List, [], ◌∷◌, refl, subst, Bool, true, false}
use Rattle.std.specs.Prelude.{Option, Some, None, slice_get}
use Rattle.fkv_words.specs.declared.phase_words.PhaseSaid.{PhaseSaid}
use Rattle.fkv_words.specs.declared.phase_words.PhaseSaid.TheVariants.{Says, Spoiled}
use Rattle.law_refine.specs.Below.fkv_session.Sitting.{Sitting}
use Rattle.law_refine.specs.Below.fkv_session.Sitting.TheVariants.{Idle, Attempts, CatchesUp, ClearsMail, Polls, StoresOwing, Turns, StoresCut, Leaves, LoadsDurable}
use Rattle.fkv_words.specs.PhaseWords.{phase_said}
use Rattle.law_refine.specs.Below.fkv_session.Sessions.{SessionState, Seat}
use Rattle.law_refine.specs.Below.fkv_session.SessionRun.{SessionEvent, Begins, Replies, Gets, session_happens, session_run}
use Rattle.law_refine.specs.Below.fkv_world.OwnEvents.{session_events, session_part_of}
use Rattle.law_refine.specs.Below.fkv_world.Runs.{World, run}
use Rattle.law_refine.specs.Below.fkv_world.World.{Event, seat_at}
use Rattle.law_commit.specs.Views.{ComesFrom, IsSightAfter, IsStamped, Sight, View, completed, loads_phase, sight_by, sight_found, sight_in, sight_left, sight_moved, sight_of, sight_through, view_said, with_loaded}

said_stamped : (words : List ℕ) (before : View) (said : PhaseSaid) → IsStamped words (view_said words before said)
said_stamped words before Spoiled = record { stamp = refl; tail = refl }
said_stamped words before (Says phase version) = record { stamp = refl; tail = refl }

came : (words : List ℕ) (its : Sight) (view : View) → ComesFrom words its.coming (Some view) → (view ≡ its.view) ⊎ ((its.coming ≡ Some view) ⊎ IsStamped words view)
came words its view (inl was) = inr (inl was)
came words its view (inr stamped) = inr (inr stamped)

loaded_after : (words : List ℕ) (its x : Sight) (loads : Bool) (reply : ℕ) → IsSightAfter words its x → IsSightAfter words its (with_loaded words loads reply x)
loaded_after words its x true reply after = record { view = after.view; coming = inr (said_stamped words x.view (phase_said reply)) }
loaded_after words its x false reply after = after

completed_after : (words : List ℕ) (its x : Sight) (found : Option View) → x.coming ≡ found → IsSightAfter words its x → IsSightAfter words its (completed found x)
completed_after words its x None e after = after
completed_after words its x (Some view) e after = record { view = came words its view (subst (λ (c : Option View). ComesFrom words its.coming c) e after.coming); coming = tt }

left_after : (words : List ℕ) (its x : Sight) (step : Sitting) → IsSightAfter words its x → IsSightAfter words its (sight_left step x)
left_after words its x (CatchesUp cause) after = after
left_after words its x (Idle told) after = completed_after words its x x.coming refl after
left_after words its x (Attempts has_shifted) after = completed_after words its x x.coming refl after
left_after words its x ClearsMail after = completed_after words its x x.coming refl after
left_after words its x (Polls i) after = completed_after words its x x.coming refl after
left_after words its x (StoresOwing i) after = completed_after words its x x.coming refl after
left_after words its x (Turns told) after = completed_after words its x x.coming refl after
left_after words its x StoresCut after = completed_after words its x x.coming refl after
left_after words its x Leaves after = completed_after words its x x.coming refl after
left_after words its x LoadsDurable after = completed_after words its x x.coming refl after

moved_after : (words : List ℕ) (its x : Sight) (s : SessionState) (step : Sitting) (reply : ℕ) (next : Sitting) → IsSightAfter words its x → IsSightAfter words its (sight_moved words s step reply next x)
moved_after words its x s (CatchesUp cause) reply next after = left_after words its (with_loaded words (loads_phase s.catching s.catching.step) reply x) next (loaded_after words its x (loads_phase s.catching s.catching.step) reply after)
moved_after words its x s (Idle told) reply next after = after
moved_after words its x s (Attempts has_shifted) reply next after = after
moved_after words its x s ClearsMail reply next after = after
moved_after words its x s (Polls i) reply next after = after
moved_after words its x s (StoresOwing i) reply next after = after
moved_after words its x s (Turns told) reply next after = after
moved_after words its x s StoresCut reply next after = after
moved_after words its x s Leaves reply next after = after
moved_after words its x s LoadsDurable reply next after = after

by_after : (words : List ℕ) (its x : Sight) (k : Seat) (s : SessionState) (event : SessionEvent) → IsSightAfter words its x → IsSightAfter words its (sight_by words k s event x)
by_after words its x k s (Replies reply) after = moved_after words its x s s.step reply (session_happens k s (Replies reply)).step after
by_after words its x k s (Begins call) after = after
by_after words its x k s (Gets action) after = after

comes_still : (words : List ℕ) (found : Option View) → ComesFrom words found found
comes_still words None = tt
comes_still words (Some view) = inl refl

unchanged : (words : List ℕ) (its : Sight) → IsSightAfter words its its
unchanged words its = record { view = inl refl; coming = comes_still words its.coming }

through_after : (words : List ℕ) (its : Sight) (k : Seat) (s : SessionState) (events : List SessionEvent) → IsSightAfter words its (sight_through words k s events its)
unfolding sight_through
through_after words its k s [] = unchanged words its
through_after words its k s (event ∷ before) = by_after words its (sight_through words k s before its) k (session_run k s before) event (through_after words its k s before)

life_after : (opening : World) (events : List Event) (event : Event) (session : ℕ) (first : SessionState) → IsSightAfter (run opening events).now.words (sight_in opening session first events) (sight_in opening session first (event ∷ events))
unfolding sight_in
life_after opening events event session first =
    through_after (run opening events).now.words (sight_in opening session first events) (seat_at opening.now session) (session_run (seat_at opening.now session) first (session_events opening session events))
    (session_part_of (run opening events).now session event)

found_after : (opening : World) (events : List Event) (event : Event) (session : ℕ) (found : Option SessionState) → IsSightAfter (run opening events).now.words (sight_found opening events session found) (sight_found opening (event ∷ events) session found)
found_after opening events event session None = unchanged (run opening events).now.words _
found_after opening events event session (Some first) = life_after opening events event session first

pub sight_stamped : (opening : World) (events : List Event) (event : Event) (session : ℕ) → IsSightAfter (run opening events).now.words (sight_of opening events session) (sight_of opening (event ∷ events) session)
sight_stamped opening events event session = found_after opening events event session (slice_get opening.now.sessions session)
