-- What a session changes in place is published, so it lies below the tail, where alone records are born.
use Rattle.std.proofs.Common.{◌≡◌, ℕ, inl, inr, List, [], ◌∷◌}
use Rattle.std.specs.Prelude.{Option, Some, None, slice_get}
use Rattle.std.proofs.lemmas.Bool.{cases_lt}
use Rattle.law_log.specs.Chains.{Logged, Unborn, Published}
use Rattle.law_log.specs.Ghosts.{Ghosts}
use Rattle.law_world.specs.Below.fkv_session.Sessions.{SessionState}
use Rattle.law_world.specs.Below.fkv_world.Runs.{World, run}
use Rattle.law_world.specs.Below.fkv_world.World.{Event, Moves}
use Rattle.law_world.specs.Guarded.Shows.{IsOpened, SessionIsBelowTail, ChangesBelowTail, AreBelowTail, ArePermitted}
use Rattle.law_world.proofs.OfGuarded.BelowTail.{below_permitted}
use Rattle.law_refine.specs.Events.GhostEvents.{life_ghosts}
use Rattle.law_refine.specs.Events.Reserved.{tail_at, IsUnbornFrom}
use Rattle.law_refine.specs.Events.Published.{IsPublished}
use Rattle.law_refine.proofs.OfEvents.Unborn.{ghost_unborn}
use Rattle.law_refine.specs.Records.Changes.{SessionChangesPublished, ChangesPublished, AreChangesPublished}

published_born : (logged : Logged) → IsPublished logged → logged ≡ Unborn → ⊥
published_born (Published cell) its e = cc
published_born logged its e = absurd its

session_below : (opening : World) (start : ℕ) (ghosts : Ghosts) (before : List Event) (found : Option SessionState) → IsOpened opening.now start → IsUnbornFrom (tail_at opening.now) ghosts
    → SessionChangesPublished (life_ghosts opening ghosts before).log found → SessionIsBelowTail (run opening before).now found
session_below opening start ghosts before None opened none its = tt
session_below opening start ghosts before (Some s) opened none its = λ a e. elim (cases_lt a (tail_at (run opening before).now)) [
  | inl low ↦ low
  | inr high ↦ absurd (published_born ((life_ghosts opening ghosts before).log.cells a) (its a e) (ghost_unborn opening start ghosts before opened none a high))
]

pub event_below : (opening : World) (start : ℕ) (ghosts : Ghosts) (before : List Event) (event : Event) → IsOpened opening.now start → IsUnbornFrom (tail_at opening.now) ghosts
    → ChangesPublished (run opening before).now (life_ghosts opening ghosts before).log event → ChangesBelowTail (run opening before).now event
event_below opening start ghosts before (Moves number) opened none its = session_below opening start ghosts before (slice_get (run opening before).now.sessions number) opened none its
event_below opening start ghosts before event opened none its = tt

pub life_below : (opening : World) (start : ℕ) (ghosts : Ghosts) (events : List Event) → IsOpened opening.now start → IsUnbornFrom (tail_at opening.now) ghosts → AreChangesPublished opening ghosts events → AreBelowTail opening events
life_below opening start ghosts [] opened none its = tt
life_below opening start ghosts (event ∷ before) opened none its = (event_below opening start ghosts before event opened none its.0, life_below opening start ghosts before opened none its.1)

pub published_permitted : (opening : World) (start : ℕ) (ghosts : Ghosts) (events : List Event) → IsOpened opening.now start → IsUnbornFrom (tail_at opening.now) ghosts → AreChangesPublished opening ghosts events → ArePermitted opening events
published_permitted opening start ghosts events opened none its = below_permitted opening start events opened (life_below opening start ghosts events opened none its)
