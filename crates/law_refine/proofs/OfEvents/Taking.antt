-- Events that take such addresses alone: what machines and lines do takes none, and a step takes the tail.
use Rattle.std.proofs.Common.{ℕ, Bool, true, false, List, [], ◌∷◌, ◌++◌}
use Rattle.std.specs.Prelude.{⊤, map, ◌==◌, if◌then◌else◌, Option}
use Rattle.law_log.specs.Ghosts.{GhostEvent, Tells, FindsEntry, TakesValue, Reserves, Publishes, Drops, Changes, Fixes}
use Rattle.law_log.specs.Trace.{TraceLine}
use Rattle.fkv_plane.specs.declared.asks.Ask.{Ask}
use Rattle.fkv_plane.specs.declared.asks.Ask.TheVariants.{Put, Take, Done}
use Rattle.fkv_plane.specs.Asked.{reply_to}
use Rattle.law_world.specs.Below.fkv_session.Told.{Told}
use Rattle.law_world.specs.Below.fkv_session.Sessions.{SessionState, Seat}
use Rattle.law_world.specs.Below.fkv_world.Past.{Traced}
use Rattle.law_refine.specs.Events.GhostEvents.{fixed_ghosts}
use Rattle.law_refine.specs.Events.Reservations.{AreStill, Reservation, TakesTail, MovesOn, Keeps, Behind, TakesOne, LosesOne, PublishesOne, DropsOne}
use Rattle.law_refine.specs.Events.Sessions.{sitting_ghosts, step_ghosts}

-- what an event takes is such an address
abbrev pub IsTaking : (ℕ → Type 0) → GhostEvent → Type 0
IsTaking P (Reserves a entry cell) = P a
IsTaking P event = ⊤

abbrev pub AreTaking : (ℕ → Type 0) → List GhostEvent → Type 0
AreTaking P [] = ⊤
AreTaking P (event ∷ before) = IsTaking P event × AreTaking P before

-- ---- the events of a step
pub taking_both : (P : ℕ → Type 0) (later before : List GhostEvent) → AreTaking P later → AreTaking P before → AreTaking P (later ++ before)
taking_both P [] before one other = other
taking_both P (event ∷ later) before one other = (one.0, taking_both P later before one.1 other)

pub taking_told : (P : ℕ → Type 0) (lines : List TraceLine) → AreTaking P (map Tells lines)
taking_told P [] = tt
taking_told P (line ∷ rest) = (tt, taking_told P rest)

pub taking_fixed : (P : ℕ → Type 0) (before safe : ℕ) → AreTaking P (fixed_ghosts before safe)
taking_fixed P before safe = by_test (safe == before)
  where
    by_test : (c : Bool) → AreTaking P (if c then [] else Fixes safe ∷ [])
    by_test true = tt
    by_test false = (tt, tt)

taking_still : (P : ℕ → Type 0) (events : List GhostEvent) → AreStill events → AreTaking P events
taking_still P [] still = tt
taking_still P (Tells line ∷ before) still = (tt, taking_still P before still.1)
taking_still P (FindsEntry reader ∷ before) still = (tt, taking_still P before still.1)
taking_still P (TakesValue reader ∷ before) still = (tt, taking_still P before still.1)
taking_still P (Changes a entry ∷ before) still = (tt, taking_still P before still.1)
taking_still P (Fixes a ∷ before) still = (tt, taking_still P before still.1)
taking_still P (Reserves a entry cell ∷ before) still = absurd still.0
taking_still P (Publishes a ∷ before) still = absurd still.0
taking_still P (Drops a ∷ before) still = absurd still.0

taking_one : (P : ℕ → Type 0) (event : GhostEvent) (before : List GhostEvent) → AreStill (event ∷ []) → AreTaking P before → AreTaking P (event ∷ before)
taking_one P event before still taking = ((taking_still P (event ∷ []) still).0, taking)

pub taking_moves : (P : ℕ → Type 0) (place : Option ℕ) (change : ℕ → ℕ) (reply : ℕ) (events : List GhostEvent) (before after : Option Reservation) → ((addr : ℕ) → TakesTail place change reply addr → P addr)
    → MovesOn place change reply events before after → AreTaking P events
taking_moves P place change reply events before after takes_so (Keeps its held still) = taking_still P its still
taking_moves P place change reply events before after takes_so (Behind event still its) = taking_one P event _ (still, tt) (taking_moves P place change reply _ before after takes_so its)
taking_moves P place change reply events before after takes_so (TakesOne its takes) = (takes_so its.addr takes, tt)
taking_moves P place change reply events before after takes_so (LosesOne its takes) = (tt, (takes_so its.addr takes, tt))
taking_moves P place change reply events before after takes_so (PublishesOne its) = (tt, tt)
taking_moves P place change reply events before after takes_so (DropsOne its) = (tt, tt)

pub taking_step : (P : ℕ → Type 0) (k : Seat) (trace : List Traced) (s : SessionState) (words : List ℕ) (ask : Ask Told) → AreTaking P (sitting_ghosts k trace s s.step (reply_to words ask)) → AreTaking P (step_ghosts k trace s words ask)
unfolding step_ghosts
taking_step P k trace s words (Done its) taking = tt
taking_step P k trace s words (Put slot action) taking = tt
taking_step P k trace s words (Take slot) taking = tt
taking_step P k trace s words ask taking = taking
