-- How the safe epoch is found: one below the least epoch that anyone may still go by.
use Rattle.std.specs.Prelude.{ℕ, ◌+◌, ◌-◌, ◌<◌, ◌≤◌, ◌==◌, nat_lt, min, if◌then◌else◌}
use Rattle.fkv_base.specs.Limits.{max_sessions}
use Rattle.fkv_plane.specs.declared.asks.Ask.{Ask}
use Rattle.fkv_plane.specs.declared.asks.Ask.TheVariants.{Load, Max, Done}
use Rattle.fkv_plane.specs.declared.places.SharedWord.TheVariants as one
use Rattle.fkv_plane.specs.declared.places.SessionWord.TheVariants as own
use Rattle.fkv_plane.specs.Places.{shared_place, session_place}
use Rattle.fkv_epoch.specs.declared.scanning.Scanning.{Scanning}
use Rattle.fkv_epoch.specs.declared.scanning.Scanning.TheVariants.{AtRest, LoadsEpoch, LoadsSession, RaisesSafe}

pub record Scanner : Type 0 where
  pub sessions : ℕ
  pub step : Scanning

-- the session that is met is one of them
abbrev pub IsScanInRange : ℕ → Scanning → Type 0
IsScanInRange sessions (LoadsSession session least) = (sessions ≤ max_sessions) × (session < sessions)
IsScanInRange sessions step = sessions ≤ max_sessions

-- what each state asks
unfoldable pub scan_ask : Scanning → Ask (Unit {0})
scan_ask AtRest = Done tt
scan_ask LoadsEpoch = Load (shared_place one.Epoch)
scan_ask (LoadsSession session least) = Load (session_place session own.Epoch)
scan_ask (RaisesSafe least) = Max (shared_place one.SafeEpoch) (least - 1)

-- the session of this number is met, if there is one; past the last the safe epoch is raised
unfoldable pub sessions_from : ℕ → ℕ → ℕ → Scanning
sessions_from sessions session least = if nat_lt session sessions then LoadsSession session least else RaisesSafe least

-- the lesser of the least so far and a session's epoch word. 0 says that the session isn't protected
unfoldable pub least_of : ℕ → ℕ → ℕ
least_of least word = if word == 0 then least else min least word

-- where the reply leads
unfoldable pub scan_next : ℕ → Scanning → ℕ → Scanning
scan_next sessions AtRest reply = AtRest
scan_next sessions LoadsEpoch reply = sessions_from sessions 0 reply
scan_next sessions (LoadsSession session least) reply = sessions_from sessions (session + 1) (least_of least reply)
scan_next sessions (RaisesSafe least) reply = AtRest

-- how many asks it has left, of so many sessions: one for each that is still to be met, and the one that raises the safe epoch
unfoldable pub scan_asks_left : ℕ → Scanning → ℕ
scan_asks_left sessions AtRest = 0
scan_asks_left sessions LoadsEpoch = sessions + 2
scan_asks_left sessions (LoadsSession session least) = sessions - (session + 1) + 2
scan_asks_left sessions (RaisesSafe least) = 1
