-- What the guard's actor is like while a record is appended, by how far that has come.
use Rattle.std.specs.Prelude.{ℕ, Option, Some, None}
use Rattle.fkv_log.specs.declared.reserving.Reserving.{Reserving}
use Rattle.fkv_log.specs.declared.reserving.Reserving.TheVariants as reserving
use Rattle.fkv_log.specs.declared.filling.Filling.{Filling}
use Rattle.fkv_log.specs.declared.filling.Filling.TheVariants as filling
use Rattle.fkv_log.specs.declared.invalidating.Invalidating.{Invalidating}
use Rattle.fkv_log.specs.declared.invalidating.Invalidating.TheVariants as invalidating
use Rattle.fkv_epoch.specs.EpochWorld.{EpochMachine}
use Rattle.fkv_ops.specs.declared.appending.Appending.{Appending}
use Rattle.fkv_ops.specs.declared.appending.Appending.TheVariants.{Reserves, Fills, Publishes, Invalidates}
use Rattle.fkv_ops.specs.declared.requests.Seen.{Seen}
use Rattle.fkv_ops.specs.Appending.{AppendState}
use Rattle.fkv_flush.specs.GuardSeen.{LastSeen}
use Rattle.fkv_flush.specs.GuardWorld as guard
use Rattle.fkv_flush.specs.GuardWorld.{Work, ToReserve, ToFill, ToInvalidate}
use Rattle.fkv_flush.proofs.Shown.{Likeness}
use Rattle.law_world.specs.GuardSessions.Steps.{Onward, Stays, Starts}

-- the offsets that a session goes by
abbrev pub last_seen : Seen → LastSeen
last_seen seen = record { read_only = seen.offsets.read_only.0; head = seen.offsets.head.0 }

abbrev pub likeness : Option EpochMachine → Option Work → LastSeen → Option ℕ → Likeness
likeness machine work seen undecided = record { machine = machine; work = work; seen = seen; undecided = undecided }

-- nothing is under way, and no record is undecided
abbrev pub through : LastSeen → Likeness
through seen = likeness None None seen None

-- a machine that is through is like any other that is
abbrev pub reserve_work : Reserving → Option Work
reserve_work reserving.AtRest = None
reserve_work step = Some (guard.Reserves step)

abbrev pub fill_work : Filling → Option Work
fill_work filling.AtRest = None
fill_work step = Some (guard.Fills step)

abbrev pub invalidate_work : Invalidating → Option Work
invalidate_work invalidating.AtRest = None
invalidate_work step = Some (guard.Invalidates step)

abbrev pub append_work : AppendState → Appending → Option Work
append_work a Reserves = reserve_work a.reserving
append_work a (Fills addr) = fill_work a.filling
append_work a Invalidates = invalidate_work a.invalidating
append_work a step = None

-- the record is undecided from its reservation up to where its entry is published, or it is invalidated
abbrev pub invalidate_undecided : Invalidating → Option ℕ
invalidate_undecided invalidating.AtRest = None
invalidate_undecided (invalidating.StoresHeader addr header) = Some addr.0

abbrev pub append_undecided : AppendState → Appending → Option ℕ
append_undecided a (Fills addr) = Some addr.0
append_undecided a (Publishes addr) = Some addr.0
append_undecided a Invalidates = invalidate_undecided a.invalidating
append_undecided a step = None

abbrev pub append_likeness : LastSeen → AppendState → Likeness
append_likeness seen a = likeness None (append_work a a.step) seen (append_undecided a a.step)

-- a machine at its first step has begun just now
abbrev pub reserve_onward : Reserving → Onward
reserve_onward (reserving.LoadsLimit bound) = Starts (ToReserve bound)
reserve_onward step = Stays

abbrev pub fill_onward : Filling → Onward
fill_onward (filling.StoresValue addr its_words) = Starts (ToFill its_words)
fill_onward step = Stays

abbrev pub invalidate_onward : Invalidating → Onward
invalidate_onward (invalidating.StoresHeader addr header) = Starts (ToInvalidate header)
invalidate_onward step = Stays

abbrev pub append_onward : AppendState → Appending → Onward
append_onward a Reserves = reserve_onward a.reserving
append_onward a (Fills addr) = fill_onward a.filling
append_onward a Invalidates = invalidate_onward a.invalidating
append_onward a step = Stays
