-- How a commit starts: where the phase is rest a drain slot is held, prepare is stored, the tail is loaded, and in-progress is deferred until
-- all have seen prepare.
use Rattle.std.specs.Prelude.{ℕ, ◌-◌, ◌&&◌, ◌||◌, nat_lt, nat_le, if◌then◌else◌, Bool}
use Rattle.fkv_base.specs.Limits.{last_of}
use Rattle.fkv_base.specs.declared.faults.Fault.{Fault}
use Rattle.fkv_base.specs.declared.faults.Fault.TheVariants.{CommitRunning, VersionsSpent, LostFull, EpochsSpent, DrainFull}
use Rattle.fkv_base.specs.declared.numbers.Addr.{Addr}
use Rattle.fkv_base.specs.declared.numbers.Version.{Version}
use Rattle.fkv_base.specs.declared.phases.Phase.TheVariants.{Rest, Prepare, InProgress}
use Rattle.fkv_marks.specs.Window.{oldest}
use Rattle.fkv_words.specs.declared.phase_words.PhaseSaid.{PhaseSaid}
use Rattle.fkv_words.specs.declared.phase_words.PhaseSaid.TheVariants.{Says}
use Rattle.fkv_words.specs.PhaseWords.{phase_said}
use Rattle.fkv_plane.specs.declared.asks.Ask.{Ask}
use Rattle.fkv_plane.specs.declared.asks.Ask.TheVariants.{Load, Store, Done}
use Rattle.fkv_plane.specs.declared.places.SharedWord.TheVariants as one
use Rattle.fkv_plane.specs.Places.{shared_place}
use Rattle.fkv_plane.specs.Passing.{passed}
use Rattle.fkv_epoch.specs.Claiming.{phase_stored}
use Rattle.fkv_commit.specs.declared.deferring.Deferred.TheVariants.{EntersPhase}
use Rattle.fkv_commit.specs.declared.deferring.DeferAnswer.{DeferAnswer}
use Rattle.fkv_commit.specs.declared.deferring.DeferAnswer.TheVariants.{Held, Spent, Armed}
use Rattle.fkv_commit.specs.declared.starting.StartAnswer.{StartAnswer}
use Rattle.fkv_commit.specs.declared.starting.StartAnswer.TheVariants.{Idle, Begun, Refused}
use Rattle.fkv_commit.specs.declared.starting.StartAsked.{StartAsked}
use Rattle.fkv_commit.specs.declared.starting.Starting.{Starting}
use Rattle.fkv_commit.specs.declared.starting.Starting.TheVariants.{Ended, LoadsPhase, Seeks, StoresPrepare, LoadsTail, Defers}
use Rattle.fkv_commit.specs.Commits.{is_log, version_after}
use Rattle.fkv_commit.specs.Deferring.{DeferState, defer_begun, defer_ask, defer_next, defer_on}

-- a log commit stores so many ranges of lost records, at most
abbrev pub max_lost : ℕ
max_lost = 8

pub record StartState : Type 0 where
  -- what was asked for last, of a store of this class
  pub asked : StartAsked
  pub defer : DeferState
  pub step : Starting

abbrev pub start_begun : StartState → StartAsked → StartState
start_begun s asked = record s { asked = asked; step = LoadsPhase }

-- a commit of this number lies past the window of the checkpoint: behind that some mark would be of two versions
abbrev pub is_past_window : StartAsked → ℕ → Bool
is_past_window asked number = nat_lt 8189 (number - oldest asked.class asked.checkpoint.0)

-- a log commit has too many lost ranges to store, or lies past its window: only a full one helps then
abbrev pub is_lost_full : StartAsked → ℕ → Bool
is_lost_full asked number = is_log asked.kind && (nat_lt max_lost asked.lost || is_past_window asked number)

-- what each state asks
unfoldable pub starting_ask : StartState → Starting → Ask StartAnswer
starting_ask s (Ended its) = Done its
starting_ask s LoadsPhase = Load (shared_place one.Phase)
starting_ask s (Seeks number) = passed (defer_ask s.defer) Idle
starting_ask s (StoresPrepare number) = Store (shared_place one.Phase) (phase_stored Prepare number)
starting_ask s (LoadsTail number) = Load (shared_place one.Tail)
starting_ask s (Defers number first) = passed (defer_ask s.defer) Idle

abbrev pub start_ask : StartState → Ask StartAnswer
start_ask s = starting_ask s s.step

abbrev pub refused : StartState → Fault → StartState
refused s why = record s { step = Ended (Refused why) }

-- a commit starts where the phase is rest, but not of the store's last version
abbrev pub phase_found : StartState → PhaseSaid → StartState
phase_found s (Says Rest number) =
    if nat_le (last_of s.asked.class) number.0 then refused s VersionsSpent
    else if is_lost_full s.asked number.0 then refused s LostFull
    else record s { defer = defer_begun s.defer; step = Seeks number }
phase_found s said = refused s CommitRunning

-- by what is asked next as a slot is sought
unfoldable pub seek_led : Version → StartState → Ask DeferAnswer → StartState
seek_led number s (Done Held) = record s { step = StoresPrepare number }
seek_led number s (Done Spent) = refused s EpochsSpent
seek_led number s (Done its) = refused s DrainFull
seek_led number s ask = s

-- by what is asked next as in-progress is deferred
unfoldable pub defer_led : Version → Addr → StartState → Ask DeferAnswer → StartState
defer_led number first s (Done (Armed epoch)) = record s { step = Ended (Begun number first) }
defer_led number first s (Done its) = record s { step = Ended Idle }
defer_led number first s ask = s

-- where the reply leads
unfoldable pub starting_next : StartState → Starting → ℕ → StartState
starting_next s (Ended its) reply = s
starting_next s LoadsPhase reply = phase_found s (phase_said reply)
starting_next s (Seeks number) reply = seek_led number (record s { defer = defer_next s.defer reply }) (defer_ask (defer_next s.defer reply))
starting_next s (StoresPrepare number) reply = record s { step = LoadsTail number }
starting_next s (LoadsTail number) reply = record s { defer = defer_on s.defer (EntersPhase InProgress (version_after number)); step = Defers number (record { 0 = reply }) }
starting_next s (Defers number first) reply = defer_led number first (record s { defer = defer_next s.defer reply }) (defer_ask (defer_next s.defer reply))

abbrev pub start_next : StartState → ℕ → StartState
start_next s reply = starting_next s s.step reply
