-- How many asks a walk, an append and a try have left, at most: the sum of those of the machine inside that is under way, and of what
-- may come behind it.
use Rattle.std.specs.Prelude.{ℕ, ◌+◌, ◌-◌, ◌*◌}
use Rattle.fkv_plane.specs.declared.places.Places.{Places}
use Rattle.fkv_plane.specs.AsksLeft.{sum_left}
use Rattle.fkv_log.specs.Loading.{load_asks_left}
use Rattle.fkv_log.specs.Reserving.{reserve_asks_left}
use Rattle.fkv_log.specs.Filling.{fill_asks_left}
use Rattle.fkv_log.specs.Invalidating.{invalidate_asks_left}
use Rattle.fkv_latch.specs.Latching.{asks_left as latch_asks_left}
use Rattle.fkv_index.specs.Finding.{asks_left as find_asks_left}
use Rattle.fkv_index.specs.Publishing.{publish_asks_left}
use Rattle.fkv_ops.specs.declared.appending.Appending.{Appending}
use Rattle.fkv_ops.specs.declared.appending.Appending.TheVariants as append
use Rattle.fkv_ops.specs.declared.trying.Trying.{Trying}
use Rattle.fkv_ops.specs.declared.trying.Trying.TheVariants as try
use Rattle.fkv_ops.specs.declared.walking.Walking.{Walking}
use Rattle.fkv_ops.specs.declared.walking.Walking.TheVariants as walk
use Rattle.fkv_ops.specs.Walking.{WalkState, walk_on}
use Rattle.fkv_ops.specs.Appending.{AppendState}
use Rattle.fkv_ops.specs.Trying.{TryState}

-- Two asks meet a record. Each one that is met lies below the one before it, and less than a ring above the head
unfoldable pub walking_asks_left : Places → WalkState → Walking → ℕ
walking_asks_left p w (walk.Ended answer) = 0
walking_asks_left p w walk.Finds = sum_left (find_asks_left w.finding) (2 * p.ring)
walking_asks_left p w (walk.Meets addr) = sum_left (load_asks_left w.loading) (2 * (addr.0 - w.head.0))
walking_asks_left p w (walk.HasFound addr version) = 0
walking_asks_left p w walk.LoadsValue = load_asks_left w.loading

-- up to its end, or to the record that it finds
abbrev pub walk_asks_left : Places → WalkState → ℕ
walk_asks_left p w = walking_asks_left p w w.step

-- those of the search, and two for each record of a ring
abbrev pub most_walk_asks : Places → ℕ
most_walk_asks p = 8 * (p.overflow + 1) + 3 + 2 * p.ring

-- behind the reservation three asks write the record, one publishes it and one invalidates it
unfoldable pub appending_asks_left : AppendState → Appending → ℕ
appending_asks_left a (append.Ended answer) = 0
appending_asks_left a append.Reserves = sum_left (reserve_asks_left a.reserving) (3 + 1 + 1)
appending_asks_left a (append.Fills addr) = sum_left (fill_asks_left a.filling) (1 + 1)
appending_asks_left a (append.Publishes addr) = sum_left (publish_asks_left a.publishing) 1
appending_asks_left a append.Invalidates = invalidate_asks_left a.invalidating

abbrev pub append_asks_left : AppendState → ℕ
append_asks_left a = appending_asks_left a a.step

-- at the end of a try one ask drops each of the two latches that it may hold
abbrev pub most_drop_asks : ℕ
most_drop_asks = 2

-- and before that, two load words where an update would wait that has bounds
abbrev pub most_end_asks : ℕ
most_end_asks = 2 + most_drop_asks

-- an append makes eight asks, and the end comes behind it
abbrev pub most_append_asks : ℕ
most_append_asks = 8 + most_end_asks

-- before a copy two asks take the exclusive latch, and the walk goes on to the value
abbrev pub most_copy_asks : Places → TryState → ℕ
most_copy_asks p t = 2 + walk_asks_left p (walk_on t.walk) + most_append_asks

-- behind the walk one ask may load the safe read-only offset, or the count of taken overflow buckets, and a copy comes then, whose value is loaded by two at most
abbrev pub most_asks_behind_walk : ℕ
most_asks_behind_walk = 1 + (2 + 2 + most_append_asks)

-- behind the share one ask may load the phase word, and the walk comes then
abbrev pub most_asks_behind_share : Places → ℕ
most_asks_behind_share p = 1 + (most_walk_asks p + most_asks_behind_walk)

unfoldable pub trying_asks_left : Places → TryState → Trying → ℕ
trying_asks_left p t (try.Ended its) = 0
trying_asks_left p t try.TakesShared = sum_left (latch_asks_left t.latching) (most_asks_behind_share p)
trying_asks_left p t try.LoadsPhase = most_asks_behind_share p
trying_asks_left p t try.Walks = sum_left (walk_asks_left p t.walk) most_asks_behind_walk
trying_asks_left p t try.CountsTaken = 1 + most_copy_asks p t
trying_asks_left p t (try.LoadsSafe addr version) = 1 + most_copy_asks p t
trying_asks_left p t (try.SwapsValue addr) = 1 + most_end_asks
trying_asks_left p t (try.LoadsCurrent addr) = sum_left (walk_asks_left p t.walk) (1 + most_end_asks)
trying_asks_left p t (try.ChangesValue addr old) = 1 + most_end_asks
trying_asks_left p t try.LoadsAnswer = sum_left (walk_asks_left p t.walk) most_end_asks
trying_asks_left p t (try.TakesExclusive old) = sum_left (latch_asks_left t.latching) (walk_asks_left p (walk_on t.walk) + most_append_asks)
trying_asks_left p t try.LoadsOld = sum_left (walk_asks_left p t.walk) most_append_asks
trying_asks_left p t (try.Appends its) = sum_left (append_asks_left t.append) most_end_asks
trying_asks_left p t (try.LoadsTail waiting) = 2 + most_drop_asks
trying_asks_left p t (try.LoadsTaken waiting) = 1 + most_drop_asks
trying_asks_left p t (try.DropsExclusive its) = sum_left (latch_asks_left t.latching) 1
trying_asks_left p t (try.DropsShared its) = latch_asks_left t.latching

abbrev pub try_asks_left : Places → TryState → ℕ
try_asks_left p t = trying_asks_left p t t.step
