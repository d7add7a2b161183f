-- What a session is about in the index, by its control state: the machines with which it searches and publishes, and the slot by which
-- its try goes in between.
use Rattle.std.specs.Prelude.{ℕ, if◌then◌else◌, Option, Some, None}
use Rattle.fkv_index.specs.declared.finding.Finding.{Finding}
use Rattle.fkv_index.specs.declared.finding.Purpose.{Purpose}
use Rattle.fkv_index.specs.declared.homes.Home.{Home}
use Rattle.law_world.specs.Below.fkv_ops.TheAppending.{Appending}
use Rattle.law_world.specs.Below.fkv_ops.TheAppending.TheVariants.{Reserves, Fills, Publishes}
use Rattle.law_world.specs.Below.fkv_ops.TheTrying.{Trying}
use Rattle.law_world.specs.Below.fkv_ops.TheTrying.TheVariants.{Walks, CountsTaken, LoadsSafe, TakesExclusive, LoadsOld, Appends}
use Rattle.law_world.specs.Below.fkv_ops.WalkAnswer.{WalkAnswer}
use Rattle.law_world.specs.Below.fkv_ops.TheWalking.{Walking}
use Rattle.law_world.specs.Below.fkv_ops.TheWalking.TheVariants.{Finds, Ended}
use Rattle.law_world.specs.Below.fkv_ops.Requests.{is_read, purpose_at}
use Rattle.law_world.specs.Below.fkv_ops.Trying.{TryState, has_walked}
use Rattle.law_world.specs.Below.fkv_pending.TheAttempting.{Attempting}
use Rattle.law_world.specs.Below.fkv_pending.TheAttempting.TheVariants.{Tries}
use Rattle.law_world.specs.Below.fkv_pending.Attempting.{AttemptState}
use Rattle.law_world.specs.Below.fkv_session.Sitting.{Sitting}
use Rattle.law_world.specs.Below.fkv_session.Sitting.TheVariants.{Attempts, Polls}
use Rattle.law_world.specs.Below.fkv_session.Sessions.{SessionState}

-- a search that is under way, and what for
pub record Search : Type 0 where
  pub finding : Finding
  pub purpose : Purpose

-- the slot of a home that a search has found, and the word that it met there
pub record KeptSlot : Type 0 where
  pub home : Home
  pub place : ℕ
  pub word : ℕ

pub data SessionWork : Type 0 where
  NoWork : SessionWork
  Searches : Search → SessionWork
  -- it has found a slot in which it may publish yet
  KeepsSlot : KeptSlot → SessionWork
  -- it publishes an entry of this address there
  PublishesEntry : KeptSlot → ℕ → SessionWork

-- that, and the overflow bucket that it had to spare when its last search ended, 0 where it had none
pub record IndexPart : Type 0 where
  pub work : SessionWork
  pub spare : ℕ

abbrev pub slot_kept : TryState → KeptSlot
slot_kept t = record { home = t.home; place = t.walk.place; word = t.walk.entry }

-- only an update publishes
abbrev pub kept_work : TryState → SessionWork
kept_work t = if is_read t.request.op then NoWork else KeepsSlot (slot_kept t)

-- a walk that is lost has no slot
abbrev pub ended_work : TryState → WalkAnswer → SessionWork
ended_work t its = if has_walked its then kept_work t else NoWork

-- a try searches where its walk begins, and then it goes by the slot that was found
abbrev pub walk_work : TryState → Walking → SessionWork
walk_work t Finds = Searches (record { finding = t.walk.finding; purpose = purpose_at t.occasion t.request.op })
walk_work t (Ended its) = ended_work t its
walk_work t step = kept_work t

-- so it does until the new record is published in that slot
abbrev pub append_work : TryState → Appending → SessionWork
append_work t Reserves = kept_work t
append_work t (Fills addr) = kept_work t
append_work t (Publishes addr) = PublishesEntry (slot_kept t) addr.0
append_work t step = NoWork

abbrev pub try_work : TryState → Trying → SessionWork
try_work t Walks = walk_work t t.walk.step
try_work t CountsTaken = kept_work t
try_work t (LoadsSafe addr version) = kept_work t
try_work t (TakesExclusive old) = kept_work t
try_work t LoadsOld = kept_work t
try_work t (Appends its) = append_work t t.append.step
try_work t step = NoWork

-- a walk that is under way keeps what its search has told
abbrev pub try_spare : TryState → Trying → ℕ
try_spare t Walks = t.walk.spare
try_spare t step = t.spare

abbrev pub try_part : TryState → Trying → IndexPart
try_part t step = record { work = try_work t step; spare = try_spare t step }

abbrev pub attempt_part : AttemptState → Attempting → IndexPart
attempt_part a Tries = try_part a.trial a.trial.step
attempt_part a step = record { work = NoWork; spare = a.spare }

abbrev pub sitting_part : SessionState → Sitting → IndexPart
sitting_part s (Attempts has_shifted) = attempt_part s.attempt s.attempt.step
sitting_part s (Polls index) = attempt_part s.attempt s.attempt.step
sitting_part s step = record { work = NoWork; spare = s.spare }

abbrev pub session_part : SessionState → IndexPart
session_part s = sitting_part s s.step

-- the search that a session has under way
abbrev pub search_in : SessionWork → Option Search
search_in (Searches its) = Some its
search_in work = None

abbrev pub session_search : SessionState → Option Search
session_search s = search_in (session_part s).work

-- the address of the entry that a session is about to publish
abbrev pub entry_in : SessionWork → Option ℕ
entry_in (PublishesEntry slot addr) = Some addr
entry_in work = None

abbrev pub session_entry : SessionState → Option ℕ
session_entry s = entry_in (session_part s).work
