-- The world of latches: actors that take and drop them, sessions first, and others who work on the same words.
use Rattle.std.specs.Prelude.{ℕ, ◌+◌, ◌-◌, ◌/◌, ◌%◌, ◌==◌, ◌&&◌, nat_lt, nat_le, not, if◌then◌else◌, Bool, true, false, List, [], ◌∷◌, length, slice_get, slice_set, Option, Some, None}
use Rattle.fkv_base.specs.Limits.{max_sessions, max_pending}
use Rattle.fkv_words.specs.Fields.{bit_of}
use Rattle.fkv_plane.specs.declared.asks.Ask.{Ask}
use Rattle.fkv_plane.specs.declared.asks.Ask.TheVariants.{Done}
use Rattle.fkv_plane.specs.declared.places.Places.{Places}
use Rattle.fkv_plane.specs.Places.{bucket_place}
use Rattle.fkv_plane.specs.Asked.{word_at, words_after, reply_to}
use Rattle.fkv_latch.specs.declared.latching.LatchAnswer.{LatchAnswer}
use Rattle.fkv_latch.specs.declared.latching.LatchAnswer.TheVariants.{Taken}
use Rattle.fkv_latch.specs.declared.latching.LatchTask.{LatchTask}
use Rattle.fkv_latch.specs.declared.latching.LatchTask.TheVariants.{TakeShared, DropShared, TakeExclusive, DropExclusive}
use Rattle.fkv_latch.specs.declared.latching.Latching.{Latching}
use Rattle.fkv_latch.specs.declared.latching.Latching.TheVariants.{AtRest, AddsShare, SetsExclusive}
use Rattle.fkv_latch.specs.Latching.{one_share, latch_first, latch_ask, latch_next, latch_next_ask}

-- What may happen next.
pub data LatchEvent : Type 0 where
  -- the actor begins a task with the latch at a place
  Begins : ℕ → LatchTask → ℕ → LatchEvent
  -- the actor makes its one ask
  Moves : ℕ → LatchEvent
  -- somebody else changes a word, but for the bits of a latch
  Changes : ℕ → ℕ → LatchEvent

pub record LatchActor : Type 0 where
  pub step : Latching
  -- the places of the latches that it shares, and of those that it holds alone: one for each that it was answered, until it begins to drop it
  pub shared : List ℕ
  pub exclusive : List ℕ

pub record LatchWorld : Type 0 where
  pub places : Places
  pub words : List ℕ
  pub actors : List LatchActor

-- the last words of the buckets, but not of the overflow buckets, have a latch
abbrev pub has_latch : Places → ℕ → Bool
has_latch p place = nat_le (bucket_place p 0 0) place && nat_lt place (bucket_place p p.buckets 0) && (place - bucket_place p 0 0) % 8 == 7

-- the bits of its latch
abbrev pub latch_of : ℕ → ℕ
latch_of word = word / one_share

-- how often a place is among these
abbrev pub times : ℕ → List ℕ → ℕ
times place [] = 0
times place (it ∷ rest) = bit_of (it == place) + times place rest

-- these without the place, once
abbrev pub without : ℕ → List ℕ → List ℕ
without place [] = []
without place (it ∷ rest) = if it == place then rest else it ∷ without place rest

-- sessions alone share a latch, each no more than it has pending and one in hand; and only what is held is dropped
abbrev pub may_do : ℕ → LatchTask → ℕ → LatchActor → Bool
may_do actor TakeShared place a = nat_lt actor max_sessions && nat_le (length a.shared) max_pending
may_do actor DropShared place a = nat_lt 0 (times place a.shared)
may_do actor TakeExclusive place a = true
may_do actor DropExclusive place a = nat_lt 0 (times place a.exclusive)

abbrev pub is_at_rest : Latching → Bool
is_at_rest AtRest = true
is_at_rest step = false

abbrev pub may_begin : Places → ℕ → LatchTask → ℕ → LatchActor → Bool
may_begin p actor task place a = is_at_rest a.step && has_latch p place && may_do actor task place a

-- who begins to drop a latch holds it no more
abbrev pub begun_by : LatchTask → ℕ → LatchActor → LatchActor
begun_by DropShared place a = record a { step = latch_first DropShared place; shared = without place a.shared }
begun_by DropExclusive place a = record a { step = latch_first DropExclusive place; exclusive = without place a.exclusive }
begun_by task place a = record a { step = latch_first task place }

-- who is answered that it has taken a latch holds it
abbrev pub given : Latching → Ask LatchAnswer → LatchActor → LatchActor
given (AddsShare place) (Done Taken) a = record a { shared = place ∷ a.shared }
given (SetsExclusive place word) (Done Taken) a = record a { exclusive = place ∷ a.exclusive }
given step ask a = a

-- the actor after the reply to its ask, by the machine's own tables
abbrev pub replied : LatchActor → ℕ → LatchActor
replied a reply = given a.step (latch_next_ask a.step reply) (record a { step = latch_next a.step reply })

-- nobody else changes the bits of a latch
abbrev pub is_barred : LatchWorld → ℕ → ℕ → Bool
is_barred w place word = has_latch w.places place && not (latch_of word == latch_of (word_at w.words place))

abbrev pub begun : LatchWorld → ℕ → LatchTask → ℕ → Option LatchActor → LatchWorld
begun w actor task place None = w
begun w actor task place (Some a) = if may_begin w.places actor task place a then record w { actors = slice_set w.actors actor (begun_by task place a) } else w

abbrev pub moved : LatchWorld → ℕ → Option LatchActor → LatchWorld
moved w actor None = w
moved w actor (Some a) = record w { words = words_after w.words (latch_ask a.step); actors = slice_set w.actors actor (replied a (reply_to w.words (latch_ask a.step))) }

unfoldable pub latch_happens : LatchWorld → LatchEvent → LatchWorld
latch_happens w (Begins actor task place) = begun w actor task place (slice_get w.actors actor)
latch_happens w (Moves actor) = moved w actor (slice_get w.actors actor)
latch_happens w (Changes place word) = if is_barred w place word then w else record w { words = slice_set w.words place word }

-- a whole run, the newest event first
unfoldable pub latch_run : LatchWorld → List LatchEvent → LatchWorld
latch_run opening [] = opening
latch_run opening (event ∷ before) = latch_happens (latch_run opening before) event
