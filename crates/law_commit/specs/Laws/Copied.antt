-- What the laws of `copied` say.
use Rattle.std.specs.List.{AllByRecursion}
use Rattle.std.specs.Prelude.{◌≡◌, ℕ, List}
use Rattle.law_refine.specs.Below.fkv_checkpoint.CopyStep.TheVariants.{Ended}
use Rattle.law_refine.specs.Below.fkv_checkpoint.Fuzzy.{CopiedHaveStood, HomesOnce, NoneLeftOut, begun_at}
use Rattle.law_refine.specs.Below.fkv_world.OwnEvents.{keeper_events}
use Rattle.law_refine.specs.Below.fkv_world.Runs.{World, run}
use Rattle.law_refine.specs.Below.fkv_world.World.{Event}
use Rattle.law_refine.specs.Below.law_world.Keeper.Lives.{life_writing, replies_copied}
use Rattle.law_refine.specs.Below.law_world.Guarded.Shows as guard
use Rattle.law_log.specs.Ghosts.{Ghosts}
use Rattle.law_refine.specs.Index.Shows as index
use Rattle.law_refine.specs.Index.Shows.{seen_by_index}
use Rattle.law_refine.specs.Events.GhostEvents.{life_ghosts}
use Rattle.law_refine.specs.Events.Reserved.{IsUnbornFrom, ReservesNothing, tail_at}
use Rattle.law_refine.specs.Heads.Heads.{LeadToHeads}
use Rattle.law_commit.specs.Copied.Covers.{CoverHeads, HasBegunFor, HasStoodSince, LeadIntoChains, before_copy}
use Rattle.law_commit.specs.Copied.Runs.{IsCopyBy, KeepsCopy, WritesCopy, copy_events, opening_copy, seen_by_copy}

-- the copy is over the index of the life
abbrev pub CopiesGoOverTheIndex : Type 0
CopiesGoOverTheIndex =
    (opening : World) (lists : ℕ → List ℕ) (events : List Event) → index.IsOpened opening lists
    → (seen_by_copy opening lists events).index ≡ seen_by_index opening lists events

-- it has come as far as the keeper's replies lead
abbrev pub CopiesGoByReplies : Type 0
CopiesGoByReplies =
    (opening : World) (lists : ℕ → List ℕ) (events : List Event) → index.IsOpened opening lists
    → IsCopyBy opening.now.places (replies_copied opening (keeper_events opening events)) (seen_by_copy opening lists events)

-- where a full commit counts as copied, the keeper has the finished copy in hand
abbrev pub CopiesAreInHand : Type 0
CopiesAreInHand =
    (opening : World) (lists : ℕ → List ℕ) (events : List Event) → index.IsOpened opening lists
    → KeepsCopy opening.now.places (run opening events).now.keeper (seen_by_copy opening lists events)

-- or its triples are what is written
abbrev pub CopiesAreWritten : Type 0
CopiesAreWritten =
    (opening : World) (lists : ℕ → List ℕ) (events : List Event) → index.IsOpened opening lists
    → WritesCopy (run opening events).now.keeper (life_writing opening events) (seen_by_copy opening lists events)

-- each entry that was copied has stood at a step of the copy
abbrev pub CopiedEntriesHaveStood : Type 0
CopiedEntriesHaveStood =
    (opening : World) (lists : ℕ → List ℕ) (events : List Event) → index.IsOpened opening lists
    → CopiedHaveStood (opening_copy opening lists) (copy_events opening events)

-- no home was copied twice
abbrev pub HomesAreCopiedOnce : Type 0
HomesAreCopiedOnce =
    (opening : World) (lists : ℕ → List ℕ) (events : List Event) → index.IsOpened opening lists
    → HomesOnce (opening_copy opening lists) (copy_events opening events)

-- at its end no home is left out that had an entry when it began
abbrev pub NoHomeIsLeftOut : Type 0
NoHomeIsLeftOut =
    (opening : World) (lists : ℕ → List ℕ) (events : List Event) → index.IsOpened opening lists
    → NoneLeftOut (opening_copy opening lists) (copy_events opening events)

-- a copy begins with the index as it was then
abbrev pub CopiesBeginWithTheIndex : Type 0
CopiesBeginWithTheIndex =
    (opening : World) (lists : ℕ → List ℕ) (events : List Event) → index.IsOpened opening lists
    → begun_at (opening_copy opening lists) (copy_events opening events) ≡ seen_by_index opening lists (before_copy opening events)

-- each entry that was copied stood in the index of the life since then
abbrev pub EntriesHaveStoodSince : Type 0
EntriesHaveStoodSince =
    (opening : World) (lists : ℕ → List ℕ) (events : List Event) → index.IsOpened opening lists
    → AllByRecursion (HasStoodSince opening lists events) (seen_by_copy opening lists events).triples

-- each triple leads into the chain of its home
abbrev pub TriplesLeadIntoChains : Type 0
TriplesLeadIntoChains =
    (opening : World) (start : ℕ) (lists : ℕ → List ℕ) (ghosts : Ghosts) (events : List Event) → guard.IsOpened opening.now start → index.IsOpened opening lists
    → IsUnbornFrom (tail_at opening.now) ghosts → ReservesNothing ghosts → LeadToHeads opening.now lists ghosts.log
    → LeadIntoChains (seen_by_copy opening lists events).triples (life_ghosts opening ghosts events).log

-- a finished copy has a triple for each home whose chain wasn't empty when it began
abbrev pub CopiesCoverHeads : Type 0
CopiesCoverHeads =
    (opening : World) (start : ℕ) (lists : ℕ → List ℕ) (ghosts : Ghosts) (events : List Event) → guard.IsOpened opening.now start → index.IsOpened opening lists
    → IsUnbornFrom (tail_at opening.now) ghosts → ReservesNothing ghosts → LeadToHeads opening.now lists ghosts.log
    → (seen_by_copy opening lists events).copying.step ≡ Ended
    → CoverHeads opening.now.places (seen_by_copy opening lists events).triples (life_ghosts opening ghosts (before_copy opening events)).log

-- the copy of a full commit in hand began while it was in hand
abbrev pub CopiesBeginForCommits : Type 0
CopiesBeginForCommits =
    (opening : World) (lists : ℕ → List ℕ) (events : List Event) → index.IsOpened opening lists
    → HasBegunFor opening events
