-- How a commit finds each session's point, once no session owes an update of its version: by the session's cut words, and never below its
-- point of the newest finished commit, its floor. Then wait-flush is stored, and the log is made read-only up to its tail, which is
-- the commit's end.
use Rattle.std.specs.Prelude.{ℕ, ◌+◌, ◌<◌, ◌==◌, not, nat_lt, max, if◌then◌else◌, List, [], ◌∷◌, ◌++◌, length, slice_get, ⊤}
use Rattle.fkv_base.specs.Limits.{max_sessions}
use Rattle.fkv_base.specs.declared.numbers.Addr.{Addr}
use Rattle.fkv_base.specs.declared.numbers.Serial.{Serial}
use Rattle.fkv_base.specs.declared.numbers.Version.{Version}
use Rattle.fkv_base.specs.declared.phases.Phase.TheVariants.{WaitFlush}
use Rattle.fkv_plane.specs.declared.asks.Ask.{Ask}
use Rattle.fkv_plane.specs.declared.asks.Ask.TheVariants.{Load, Store, Max, Done}
use Rattle.fkv_plane.specs.declared.places.SharedWord.TheVariants as one
use Rattle.fkv_plane.specs.declared.places.SessionWord.TheVariants as own
use Rattle.fkv_plane.specs.Places.{shared_place, session_place}
use Rattle.fkv_plane.specs.Passing.{passed}
use Rattle.fkv_epoch.specs.Claiming.{phase_stored}
use Rattle.fkv_commit.specs.declared.deferring.Deferred.TheVariants.{ShowsReadOnly}
use Rattle.fkv_commit.specs.declared.deferring.DeferAnswer.{DeferAnswer}
use Rattle.fkv_commit.specs.declared.deferring.DeferAnswer.TheVariants.{Held, Spent, Armed}
use Rattle.fkv_commit.specs.declared.seeking.SeekAnswer.{SeekAnswer}
use Rattle.fkv_commit.specs.declared.seeking.SeekAnswer.TheVariants.{Idle, Owing, DrainFull, EpochsSpent, Taken}
use Rattle.fkv_commit.specs.declared.seeking.Seeking.{Seeking}
use Rattle.fkv_commit.specs.declared.seeking.Seeking.TheVariants.{Ended, LoadsOwing, SeeksSlot, LoadsCut, LoadsOther, LoadsAgain, StoresWaitFlush, LoadsTail, RaisesReadOnly, Defers}
use Rattle.fkv_commit.specs.Commits.{version_after}
use Rattle.fkv_commit.specs.Cuts.{serial_said, is_cut_of, cut_of, other_cut_of}
use Rattle.fkv_commit.specs.Deferring.{DeferState, defer_begun, defer_ask, defer_next, defer_on}
use Rattle.fkv_commit.specs.Finishing.{point_of}

pub record SeekState : Type 0 where
  pub sessions : ℕ
  -- the commit's
  pub number : Version
  -- the points of the newest finished commit
  pub floor : List Serial
  -- those of the first sessions
  pub points : List Serial
  pub defer : DeferState
  pub step : Seeking

-- a session is met whose words there are
abbrev pub IsSeekInRange : List Serial → Seeking → Type 0
IsSeekInRange points (LoadsOwing session) = session < max_sessions
IsSeekInRange points LoadsCut = length points < max_sessions
IsSeekInRange points (LoadsOther first) = length points < max_sessions
IsSeekInRange points LoadsAgain = length points < max_sessions
IsSeekInRange points step = ⊤

-- the owing words are loaded from this session's on, and then a slot is sought
abbrev pub owing_from : SeekState → ℕ → SeekState
owing_from s session = if nat_lt session s.sessions then record s { step = LoadsOwing session } else record s { defer = defer_begun s.defer; step = SeeksSlot }

abbrev pub seek_begun : SeekState → Version → List Serial → SeekState
seek_begun s number floor = owing_from (record s { number = number; floor = floor; points = [] }) 0

-- what each state asks
unfoldable pub seeking_ask : SeekState → Seeking → Ask SeekAnswer
seeking_ask s (Ended its) = Done its
seeking_ask s (LoadsOwing session) = Load (session_place session own.Owing)
seeking_ask s SeeksSlot = passed (defer_ask s.defer) Idle
seeking_ask s LoadsCut = Load (session_place (length s.points) (cut_of s.number.0))
seeking_ask s (LoadsOther first) = Load (session_place (length s.points) (other_cut_of s.number.0))
seeking_ask s LoadsAgain = Load (session_place (length s.points) (cut_of s.number.0))
seeking_ask s StoresWaitFlush = Store (shared_place one.Phase) (phase_stored WaitFlush (version_after s.number))
seeking_ask s LoadsTail = Load (shared_place one.Tail)
seeking_ask s (RaisesReadOnly end) = Max (shared_place one.ReadOnly) end.0
seeking_ask s (Defers end) = passed (defer_ask s.defer) Idle

abbrev pub seek_ask : SeekState → Ask SeekAnswer
seek_ask s = seeking_ask s s.step

-- the point of the next session is sought, and behind the last wait-flush is stored
abbrev pub points_from : SeekState → SeekState
points_from s = if nat_lt (length s.points) s.sessions then record s { step = LoadsCut } else record s { step = StoresWaitFlush }

-- A session's floor. One that has none there has floor 0.
abbrev pub floor_of : List Serial → ℕ → ℕ
floor_of floor session = point_of (slice_get floor session)

-- the next session's point is the serial that its words say, or its floor if that is greater
abbrev pub with_point : SeekState → ℕ → SeekState
with_point s serial = record s { points = s.points ++ record { 0 = max (floor_of s.floor (length s.points)) serial } ∷ [] }

abbrev pub point_taken : SeekState → ℕ → SeekState
point_taken s serial = points_from (with_point s serial)

-- by what is asked next as a slot is sought
unfoldable pub slot_led : SeekState → Ask DeferAnswer → SeekState
slot_led s (Done Held) = points_from s
slot_led s (Done Spent) = record s { step = Ended EpochsSpent }
slot_led s (Done its) = record s { step = Ended DrainFull }
slot_led s ask = s

-- by the cut word of the version that is committed: it says where that ends, or the other one is loaded
abbrev pub cut_met : SeekState → ℕ → SeekState
cut_met s word = if is_cut_of s.number.0 word then point_taken s (serial_said word) else record s { step = LoadsOther word }

-- by the other one: where it isn't of the next version, the greater serial is taken; else the session has gone on in between
abbrev pub other_met : SeekState → ℕ → ℕ → SeekState
other_met s first word = if not (is_cut_of (s.number.0 + 1) word) then point_taken s (max (serial_said first) (serial_said word)) else record s { step = LoadsAgain }

-- by what is asked next as the safe read-only offset is deferred
unfoldable pub defer_led : Addr → SeekState → Ask DeferAnswer → SeekState
defer_led end s (Done (Armed epoch)) = record s { step = Ended (Taken end epoch) }
defer_led end s (Done its) = record s { step = Ended Idle }
defer_led end s ask = s

-- where the reply leads
unfoldable pub seeking_next : SeekState → Seeking → ℕ → SeekState
seeking_next s (Ended its) reply = s
seeking_next s (LoadsOwing session) reply = if reply == 0 then owing_from s (session + 1) else record s { step = Ended Owing }
seeking_next s SeeksSlot reply = slot_led (record s { defer = defer_next s.defer reply }) (defer_ask (defer_next s.defer reply))
seeking_next s LoadsCut reply = cut_met s reply
seeking_next s (LoadsOther first) reply = other_met s first reply
seeking_next s LoadsAgain reply = point_taken s (serial_said reply)
seeking_next s StoresWaitFlush reply = record s { step = LoadsTail }
seeking_next s LoadsTail reply = record s { step = RaisesReadOnly (record { 0 = reply }) }
seeking_next s (RaisesReadOnly end) reply = record s { defer = defer_on s.defer (ShowsReadOnly end); step = Defers end }
seeking_next s (Defers end) reply = defer_led end (record s { defer = defer_next s.defer reply }) (defer_ask (defer_next s.defer reply))

abbrev pub seek_next : SeekState → ℕ → SeekState
seek_next s reply = seeking_next s s.step reply
