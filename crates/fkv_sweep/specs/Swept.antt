-- What holds of a sweep over every list of its events, while the log grows.
use Rattle.std.specs.Prelude.{◌≡◌, ℕ, ◌≤◌, ⊤, List, [], ◌∷◌, Some}
use Rattle.fkv_base.specs.declared.numbers.Addr.{Addr}
use Rattle.fkv_base.specs.declared.shapes.Shape.{Shape}
use Rattle.fkv_plane.specs.declared.asks.Ask.{Ask}
use Rattle.fkv_plane.specs.declared.asks.Ask.TheVariants.{Load, Done}
use Rattle.fkv_plane.specs.declared.places.Places.{Places}
use Rattle.fkv_sweep.specs.declared.sweeping.SweepAnswer.{SweepAnswer}
use Rattle.fkv_sweep.specs.Sweeping.{Sweeper, sweep_begun, turn_begun, sweep_ask, sweep_next, sweep_read, sweep_failed, read_addr}
use Rattle.fkv_sweep.specs.SweptLogs.{SweptLog, Swept, Grows, ShowsReply, ShowsRead}

-- What may happen next to a sweep.
pub data SweepEvent : Type 0 where
  TurnBegins : SweepEvent
  -- its ask is replied to
  IsReplied : ℕ → SweepEvent
  -- it goes on by the device: these bytes are read for it
  IsRead : List ℕ → SweepEvent
  ReadFails : SweepEvent

-- an event, and the log as it is then
pub record SweepMoment : Type 0 where
  pub event : SweepEvent
  pub log : SweptLog

abbrev pub sweep_happens : Sweeper → SweepEvent → Sweeper
sweep_happens s TurnBegins = turn_begun s
sweep_happens s (IsReplied word) = sweep_next s word
sweep_happens s (IsRead bytes) = sweep_read s bytes
sweep_happens s ReadFails = sweep_failed s

-- a whole run, the newest moment first
unfoldable pub sweep_run : Sweeper → List SweepMoment → Sweeper
sweep_run opening [] = opening
sweep_run opening (moment ∷ before) = sweep_happens (sweep_run opening before) moment.event

-- what an event tells is so in the log
abbrev pub ShowsEvent : SweptLog → Sweeper → SweepEvent → Type 0
ShowsEvent log s (IsReplied word) = ShowsReply log s s.step word
ShowsEvent log s (IsRead bytes) = ShowsRead log s s.step bytes
ShowsEvent log s event = ⊤

-- the log has grown since the newest moment
abbrev pub HasGrown : ℕ → List SweepMoment → SweptLog → Type 0
HasGrown to [] log = ⊤
HasGrown to (moment ∷ before) log = Grows to moment.log log

-- at each moment of a run, and from each to the next
unfoldable pub AreShown : Sweeper → List SweepMoment → Type 0
AreShown opening [] = ⊤
AreShown opening (moment ∷ before) = ShowsEvent moment.log (sweep_run opening before) moment.event × HasGrown opening.to.0 before moment.log × AreShown opening before

-- Whoever replies what the log shows then: the sweep has swept what it has passed, then and in each log that has grown since.
abbrev pub AllSwept : Type 0
AllSwept = (shape : Shape) (p : Places) (from to : Addr) (moments : List SweepMoment) (log : SweptLog)
    → AreShown (sweep_begun shape p from to) moments → HasGrown to.0 moments log → Swept (sweep_run (sweep_begun shape p from to) moments) log

-- Then it reads no record of the device below where it began.
abbrev pub ReadsAbove : Type 0
ReadsAbove = (shape : Shape) (p : Places) (from to : Addr) (moments : List SweepMoment) (log : SweptLog) (addr : Addr)
    → AreShown (sweep_begun shape p from to) moments → HasGrown to.0 moments log → read_addr (sweep_run (sweep_begun shape p from to) moments) ≡ Some addr → from.0 ≤ addr.0

-- It asks for no change of a word.
abbrev pub IsLoadOrEnd : Ask SweepAnswer → Type 0
IsLoadOrEnd (Load place) = ⊤
IsLoadOrEnd (Done answer) = ⊤
IsLoadOrEnd ask = ⊥

abbrev pub LoadsAlone : Type 0
LoadsAlone = (shape : Shape) (p : Places) (from to : Addr) (moments : List SweepMoment) (log : SweptLog)
    → AreShown (sweep_begun shape p from to) moments → HasGrown to.0 moments log → IsLoadOrEnd (sweep_ask (sweep_run (sweep_begun shape p from to) moments))
