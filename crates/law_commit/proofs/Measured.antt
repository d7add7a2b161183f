-- A number that the views of a session have, as their version or their rank, never falls and is never above the phase word's.
use Rattle.std.proofs.Common.{◌≡◌, ℕ, ◌≤◌, List, refl, arith, subst, Bool, true, false}
use Rattle.std.specs.Prelude.{⊤, Option, Some, None}
use Rattle.fkv_plane.specs.declared.places.SharedWord.TheVariants as one
use Rattle.fkv_plane.specs.Asked.{word_at}
use Rattle.fkv_plane.specs.Places.{shared_place}
use Rattle.fkv_words.specs.declared.phase_words.PhaseSaid.{PhaseSaid}
use Rattle.fkv_words.specs.PhaseWords.{phase_said}
use Rattle.law_refine.specs.Below.fkv_session.Sitting.{Sitting}
use Rattle.law_refine.specs.Below.fkv_session.Sitting.TheVariants.{Idle, Attempts, CatchesUp, ClearsMail, Polls, StoresOwing, Turns, StoresCut, Leaves, LoadsDurable}
use Rattle.law_refine.specs.Below.fkv_session.Sessions.{SessionState, Seat}
use Rattle.law_refine.specs.Below.fkv_session.SessionRun.{SessionEvent, Begins, Replies, Gets, session_happens}
use Rattle.law_commit.specs.Views.{View, Sight, completed, loads_phase, sight_by, sight_left, sight_moved, view_said, with_loaded}
use Rattle.law_commit.proofs.Telling.{Tells, TellsBy}

module _ (measure : View → ℕ) where
  -- what is coming has no lower number than what it goes by, and no higher one than this
  abbrev pub ComesBetween : ℕ → ℕ → Option View → Type 0
  ComesBetween low top None = ⊤
  ComesBetween low top (Some its) = (low ≤ measure its) × (measure its ≤ top)

  pub record IsBelow (top : ℕ) (its : Sight) : Type 0 where
    pub view : measure its.view ≤ top
    pub coming : ComesBetween (measure its.view) top its.coming

  -- the same behind an event, where the number of the view hasn't fallen
  pub record HasRisen (top : ℕ) (before after : Sight) : Type 0 where
    pub rises : measure before.view ≤ measure after.view
    pub below : IsBelow top after

  stays : (top : ℕ) (its : Sight) → IsBelow top its → HasRisen top its its
  stays top its below = record { rises = omega arith; below = below }

  between_higher : (low top new : ℕ) (found : Option View) → top ≤ new → ComesBetween low top found → ComesBetween low new found
  between_higher low top new None up between = tt
  between_higher low top new (Some its) up between = let below = between.1 in (between.0, omega (arith, below, up))

  pub higher : (top new : ℕ) (its : Sight) → top ≤ new → IsBelow top its → IsBelow new its
  higher top new its up below = let view = below.view in record { view = omega (arith, view, up); coming = between_higher (measure its.view) top new its.coming up below.coming }

  completed_risen : (top : ℕ) (its : Sight) (found : Option View) → its.coming ≡ found → IsBelow top its → HasRisen top its (completed found its)
  completed_risen top its None e below = stays top its below
  completed_risen top its (Some view) e below =
      let between = subst (λ (c : Option View). ComesBetween (measure its.view) top c) e below.coming in
      record { rises = between.0; below = record { view = between.1; coming = tt } }

  left_risen : (top : ℕ) (its : Sight) (step : Sitting) → IsBelow top its → HasRisen top its (sight_left step its)
  left_risen top its (CatchesUp cause) below = stays top its below
  left_risen top its (Idle told) below = completed_risen top its its.coming refl below
  left_risen top its (Attempts has_shifted) below = completed_risen top its its.coming refl below
  left_risen top its ClearsMail below = completed_risen top its its.coming refl below
  left_risen top its (Polls i) below = completed_risen top its its.coming refl below
  left_risen top its (StoresOwing i) below = completed_risen top its its.coming refl below
  left_risen top its (Turns told) below = completed_risen top its its.coming refl below
  left_risen top its StoresCut below = completed_risen top its its.coming refl below
  left_risen top its Leaves below = completed_risen top its its.coming refl below
  left_risen top its LoadsDurable below = completed_risen top its its.coming refl below

-- the phase word has such a number too, and so has a view of what it says
module _ (measure : View → ℕ) (measure_said : PhaseSaid → ℕ)
    (fits : (words : List ℕ) (its : View) (said : PhaseSaid) → measure its ≤ measure_said said → (measure its ≤ measure (view_said words its said)) × (measure (view_said words its said) ≤ measure_said said)) where
  abbrev pub top_of : List ℕ → ℕ
  top_of words = measure_said (phase_said (word_at words (shared_place one.Phase)))

  loaded_below : (words : List ℕ) (its : Sight) (loads : Bool) (reply : ℕ) → IsBelow measure (top_of words) its → (loads ≡ true → reply ≡ word_at words (shared_place one.Phase))
      → IsBelow measure (top_of words) (with_loaded words loads reply its)
  loaded_below words its true reply below tells = rw (tells refl) (record { view = below.view; coming = fits words its.view (phase_said (word_at words (shared_place one.Phase))) below.view })
  loaded_below words its false reply below tells = below

  loaded_view : (words : List ℕ) (its : Sight) (loads : Bool) (reply : ℕ) → (with_loaded words loads reply its).view ≡ its.view
  loaded_view words its true reply = refl
  loaded_view words its false reply = refl

  moved_risen : (words : List ℕ) (its : Sight) (s : SessionState) (step : Sitting) (reply : ℕ) (after : Sitting) → IsBelow measure (top_of words) its → Tells words s step reply
      → HasRisen measure (top_of words) its (sight_moved words s step reply after its)
  moved_risen words its s (CatchesUp cause) reply after below tells =
      let loads : Bool = loads_phase s.catching s.catching.step in
      let risen = left_risen measure (top_of words) (with_loaded words loads reply its) after (loaded_below words its loads reply below tells) in
      record { rises = subst (λ (v : View). measure v ≤ measure (sight_left after (with_loaded words loads reply its)).view) (loaded_view words its loads reply) risen.rises; below = risen.below }
  moved_risen words its s (Idle told) reply after below tells = stays measure (top_of words) its below
  moved_risen words its s (Attempts has_shifted) reply after below tells = stays measure (top_of words) its below
  moved_risen words its s ClearsMail reply after below tells = stays measure (top_of words) its below
  moved_risen words its s (Polls i) reply after below tells = stays measure (top_of words) its below
  moved_risen words its s (StoresOwing i) reply after below tells = stays measure (top_of words) its below
  moved_risen words its s (Turns told) reply after below tells = stays measure (top_of words) its below
  moved_risen words its s StoresCut reply after below tells = stays measure (top_of words) its below
  moved_risen words its s Leaves reply after below tells = stays measure (top_of words) its below
  moved_risen words its s LoadsDurable reply after below tells = stays measure (top_of words) its below

  -- each event of a session's own
  pub by_risen : (words : List ℕ) (its : Sight) (k : Seat) (s : SessionState) (event : SessionEvent) → IsBelow measure (top_of words) its → TellsBy words s event → HasRisen measure (top_of words) its (sight_by words k s event its)
  by_risen words its k s (Replies reply) below tells = moved_risen words its s s.step reply (session_happens k s (Replies reply)).step below tells
  by_risen words its k s (Begins call) below tells = stays measure (top_of words) its below
  by_risen words its k s (Gets action) below tells = stays measure (top_of words) its below
