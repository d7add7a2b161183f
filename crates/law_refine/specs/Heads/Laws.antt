-- What the laws of `heads` say.
use Rattle.std.specs.Prelude.{ℕ, List}
use Rattle.law_log.specs.Ghosts.{Ghosts}
use Rattle.law_world.specs.Below.fkv_world.Runs.{World, run}
use Rattle.law_world.specs.Below.fkv_world.World.{Event}
use Rattle.law_world.specs.Guarded.Shows as guard
use Rattle.law_refine.specs.Index.LifeEntries.{lists_seen}
use Rattle.law_refine.specs.Index.Shows as index
use Rattle.law_refine.specs.Events.GhostEvents.{home_in, life_ghosts, mapped}
use Rattle.law_refine.specs.Events.Reserved.{IsUnbornFrom, ReservesNothing, tail_at}
use Rattle.law_refine.specs.Heads.Heads.{AllMeetHeads, LeadToHeads}
use Rattle.law_refine.specs.Heads.Searches.{AreAtHome, AreHeadsFound}

-- the chains begin where the entries of the index lead
abbrev pub ChainsBeginAtEntries : Type 0
ChainsBeginAtEntries =
    (opening : World) (start : ℕ) (lists : ℕ → List ℕ) (ghosts : Ghosts) (events : List Event) → guard.IsOpened opening.now start → index.IsOpened opening lists
    → IsUnbornFrom (tail_at opening.now) ghosts → ReservesNothing ghosts → LeadToHeads opening.now lists ghosts.log
    → LeadToHeads (run opening events).now (lists_seen opening lists events) (life_ghosts opening ghosts events).log

-- each record is published where its chain begins with the record that it leads to
abbrev pub EventsMeetHeads : Type 0
EventsMeetHeads =
    (opening : World) (start : ℕ) (lists : ℕ → List ℕ) (ghosts : Ghosts) (events : List Event) → guard.IsOpened opening.now start → index.IsOpened opening lists
    → IsUnbornFrom (tail_at opening.now) ghosts → ReservesNothing ghosts → LeadToHeads opening.now lists ghosts.log
    → AllMeetHeads (home_in opening.now.shape.bucket_bits) ghosts (mapped opening events)

-- a session tries, searches and publishes for the home of its request's key
abbrev pub SessionsAreAtHome : Type 0
SessionsAreAtHome =
    (opening : World) (lists : ℕ → List ℕ) (events : List Event) → index.IsOpened opening lists → AreAtHome (run opening events).now

-- what a search finds leads to where the chain of its home begins
abbrev pub SearchesFindHeads : Type 0
SearchesFindHeads =
    (opening : World) (start : ℕ) (lists : ℕ → List ℕ) (ghosts : Ghosts) (events : List Event) → guard.IsOpened opening.now start → index.IsOpened opening lists
    → IsUnbornFrom (tail_at opening.now) ghosts → ReservesNothing ghosts → LeadToHeads opening.now lists ghosts.log
    → AreHeadsFound (run opening events).now (life_ghosts opening ghosts events).log
