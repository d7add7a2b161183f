-- What the laws say of floors.
use Rattle.std.specs.Prelude.{◌≡◌, ◌≢◌, ◌<◌, ◌≤◌, ℕ}
use Rattle.fkv_map.specs.Map.{absent_word}
use Rattle.fkv_ops.specs.declared.requests.Request.{Request}
use Rattle.fkv_begin.specs.Begin.{from_or_none}
use Rattle.law_log.specs.Begins.{IsWalkLive}
use Rattle.law_log.specs.Chains.{Cell, Published, head_of}
use Rattle.law_log.specs.Ghosts.{Log}
use Rattle.law_local.specs.Tries.Floors.{HasFloor, ComesLive, FindsAbsent, GoesOnByFloor}
use Rattle.law_local.specs.Tries.Laws.{Stays}
use Rattle.law_local.specs.Tries.OnWay.{IsOrderly}
use Rattle.law_local.specs.Tries.TryRows.{key_in, KnowsOld}

-- a walk that begins at the head of its chain does without the records below the floor
abbrev pub WalksBeginByFloor : Type 0
WalksBeginByFloor = (home : ℕ → ℕ) (log : Log) (floor key at : ℕ) → HasFloor home log floor → at ≡ head_of (log.chains (home key)) → IsWalkLive floor home log key at

-- where a way has come below its floor its key reads as absent, and a new record is made of that
abbrev pub EndsByFloor : Type 0
EndsByFloor =
    (home : ℕ → ℕ) (log : Log) (floor : ℕ) (request : Request) (from to low : ℕ) → IsOrderly home log → floor ≤ log.fixed → ComesLive home log floor (key_in request) from to low → to < floor
    → FindsAbsent home log (key_in request) from × KnowsOld home log request from absent_word

-- behind a record of another key one goes on by what its header says
abbrev pub GoesOnSo : Type 0
GoesOnSo =
    (home : ℕ → ℕ) (log : Log) (floor key from at low said : ℕ) (cell : Cell) → IsOrderly home log → floor ≤ log.fixed → ComesLive home log floor key from at low → log.cells at ≡ Published cell → cell.key ≢ key
    → from_or_none floor said ≡ from_or_none floor cell.previous → GoesOnByFloor home log floor key from said low

-- and both stay
abbrev pub AbsentStays : Type 0
AbsentStays = (key from : ℕ) → Stays (λ home log. FindsAbsent home log key from)

abbrev pub WaysStayLive : Type 0
WaysStayLive = (floor key from to low : ℕ) → Stays (λ home log. (floor ≤ log.fixed) × ComesLive home log floor key from to low)
