-- What holds of a view that has just loaded the phase word holds of each view that a session has.
use Rattle.std.proofs.Common.{◌≡◌, ℕ, List, [], ◌∷◌, refl, sym, subst, Bool, true, false}
use Rattle.std.specs.Prelude.{Option, Some, None}
use Rattle.fkv_plane.specs.declared.places.SharedWord.TheVariants as one
use Rattle.fkv_plane.specs.Asked.{word_at}
use Rattle.fkv_plane.specs.Places.{shared_place}
use Rattle.fkv_words.specs.PhaseWords.{phase_said}
use Rattle.law_refine.specs.Below.fkv_session.Sitting.{Sitting}
use Rattle.law_refine.specs.Below.fkv_session.Sitting.TheVariants.{Idle, Attempts, CatchesUp, ClearsMail, Polls, StoresOwing, Turns, StoresCut, Leaves, LoadsDurable}
use Rattle.law_refine.specs.Below.fkv_session.Sessions.{SessionState, Seat}
use Rattle.law_refine.specs.Below.fkv_session.SessionRun.{SessionEvent, Begins, Replies, Gets, session_happens, session_run}
use Rattle.law_commit.specs.Versions.Seen.{AreViewsSo, ComesSo}
use Rattle.law_commit.specs.Views.{Sight, View, completed, loads_phase, sight_by, sight_left, sight_moved, sight_through, view_said, with_loaded}
use Rattle.law_commit.proofs.Telling.{TellAll, Tells, TellsBy}

-- a view that loads the phase word is so, if it was so before
abbrev pub LoadsSo : (View → Type 0) → List ℕ → Type 0
LoadsSo Q words = (view : View) → Q view → Q (view_said words view (phase_said (word_at words (shared_place one.Phase))))

loaded_so : (Q : View → Type 0) (words : List ℕ) (its : Sight) (loads : Bool) (reply : ℕ) → LoadsSo Q words → (loads ≡ true → reply ≡ word_at words (shared_place one.Phase)) → AreViewsSo Q its
    → AreViewsSo Q (with_loaded words loads reply its)
loaded_so Q words its true reply so tells views = record {
  view = views.view;
  coming = subst (λ (r : ℕ). Q (view_said words its.view (phase_said r))) (sym (tells refl)) (so its.view views.view);
}
loaded_so Q words its false reply so tells views = views

completed_so : (Q : View → Type 0) (its : Sight) (found : Option View) → its.coming ≡ found → AreViewsSo Q its → AreViewsSo Q (completed found its)
completed_so Q its None e views = views
completed_so Q its (Some view) e views = record { view = subst (ComesSo Q) e views.coming; coming = tt }

left_so : (Q : View → Type 0) (its : Sight) (step : Sitting) → AreViewsSo Q its → AreViewsSo Q (sight_left step its)
left_so Q its (CatchesUp cause) views = views
left_so Q its (Idle told) views = completed_so Q its its.coming refl views
left_so Q its (Attempts has_shifted) views = completed_so Q its its.coming refl views
left_so Q its ClearsMail views = completed_so Q its its.coming refl views
left_so Q its (Polls i) views = completed_so Q its its.coming refl views
left_so Q its (StoresOwing i) views = completed_so Q its its.coming refl views
left_so Q its (Turns told) views = completed_so Q its its.coming refl views
left_so Q its StoresCut views = completed_so Q its its.coming refl views
left_so Q its Leaves views = completed_so Q its its.coming refl views
left_so Q its LoadsDurable views = completed_so Q its its.coming refl views

moved_so : (Q : View → Type 0) (words : List ℕ) (its : Sight) (s : SessionState) (step : Sitting) (reply : ℕ) (after : Sitting) → LoadsSo Q words → Tells words s step reply → AreViewsSo Q its
    → AreViewsSo Q (sight_moved words s step reply after its)
moved_so Q words its s (CatchesUp cause) reply after so tells views =
    let loads : Bool = loads_phase s.catching s.catching.step in
    left_so Q (with_loaded words loads reply its) after (loaded_so Q words its loads reply so tells views)
moved_so Q words its s (Idle told) reply after so tells views = views
moved_so Q words its s (Attempts has_shifted) reply after so tells views = views
moved_so Q words its s ClearsMail reply after so tells views = views
moved_so Q words its s (Polls i) reply after so tells views = views
moved_so Q words its s (StoresOwing i) reply after so tells views = views
moved_so Q words its s (Turns told) reply after so tells views = views
moved_so Q words its s StoresCut reply after so tells views = views
moved_so Q words its s Leaves reply after so tells views = views
moved_so Q words its s LoadsDurable reply after so tells views = views

by_so : (Q : View → Type 0) (words : List ℕ) (its : Sight) (k : Seat) (s : SessionState) (event : SessionEvent) → LoadsSo Q words → TellsBy words s event → AreViewsSo Q its → AreViewsSo Q (sight_by words k s event its)
by_so Q words its k s (Replies reply) so tells views = moved_so Q words its s s.step reply (session_happens k s (Replies reply)).step so tells views
by_so Q words its k s (Begins call) so tells views = views
by_so Q words its k s (Gets action) so tells views = views

-- over the events of its own that an event of the world is
pub through_so : (Q : View → Type 0) (words : List ℕ) (its : Sight) (k : Seat) (s : SessionState) (events : List SessionEvent) → LoadsSo Q words → TellAll words k s events → AreViewsSo Q its
    → AreViewsSo Q (sight_through words k s events its)
unfolding sight_through TellAll
through_so Q words its k s [] so tells views = views
through_so Q words its k s (event ∷ before) so tells views = by_so Q words (sight_through words k s before its) k (session_run k s before) event so tells.0 (through_so Q words its k s before so tells.1 views)

coming_weaker : (Q R : View → Type 0) (found : Option View) → ((view : View) → Q view → R view) → ComesSo Q found → ComesSo R found
coming_weaker Q R None so comes = tt
coming_weaker Q R (Some view) so comes = so view comes

pub views_weaker : (Q R : View → Type 0) (its : Sight) → ((view : View) → Q view → R view) → AreViewsSo Q its → AreViewsSo R its
views_weaker Q R its so views = record { view = so its.view views.view; coming = coming_weaker Q R its.coming so views.coming }
