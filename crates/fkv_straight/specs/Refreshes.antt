-- How a session refreshes straight, of which no request waits.
use Rattle.std.specs.Prelude.{◌≡◌, ℕ, false, None, []}
use Rattle.fkv_epoch.specs.declared.refreshing.Refreshing.{Refreshing}
use Rattle.fkv_epoch.specs.declared.refreshing.Refreshing.TheVariants as refresh
use Rattle.fkv_epoch.specs.declared.values.Seen as loaded
use Rattle.fkv_epoch.specs.Values.{seen}
use Rattle.fkv_ops.specs.declared.requests.Seen.{Seen}
use Rattle.fkv_session.specs.CatchingUp.{CatchState, enters_prepare, refresh_begun, seen_after}
use Rattle.fkv_session.specs.declared.catching_up.Catching.{Catching}
use Rattle.fkv_session.specs.declared.catching_up.Catching.TheVariants.{Finishes, StoresCut, StoresOwing}
use Rattle.fkv_session.specs.declared.sessions.CatchCause.TheVariants.{Refreshes}
use Rattle.fkv_session.specs.declared.sessions.Sitting.TheVariants.{CatchesUp}
use Rattle.fkv_session.specs.Sessions.{Seat, SessionState}
use Rattle.fkv_words.specs.PhaseWords.{phase_said}
use Rattle.fkv_straight.specs.Standing.{leads}

-- the session whose refresh stands so, after some count of asks
abbrev pub catching_at : SessionState → ℕ → CatchState → SessionState
catching_at s asks c = record s { requests = []; asks = asks; effect = None; wants_turn = false; catching = c; step = CatchesUp Refreshes }

unfoldable pub Catches : SessionState → CatchState → SessionState → Type 0
Catches s c u = (asks : ℕ) × (u ≡ catching_at s asks c)

-- it loads what it will go by
abbrev pub loading : SessionState → Refreshing → CatchState
loading s step = record (refresh_begun s.catching s.seen s.serial) { refreshing = step }

-- it has taken up what it has seen, and stores what goes with it
abbrev pub storing : SessionState → Seen → Refreshing → Catching → CatchState
storing s after refreshing step = record (refresh_begun s.catching s.seen s.serial) { seen = after; is_entering = enters_prepare s.seen after; refreshing = refreshing; step = step }

-- the last word that it loads has come, and isn't taken up yet: by this epoch, and by what it will go by
unfoldable pub HasSeen : Seat → SessionState → ℕ → Seen → SessionState → Type 0
HasSeen k s epoch after u =
    (phase : ℕ) × (read_only : ℕ) × (head : ℕ) × (w : SessionState)
    × Catches s (loading s (refresh.LoadsHead epoch phase read_only)) w × (u ≡ leads k w head) × (after ≡ seen_after s.seen (seen phase read_only head) (phase_said phase))

-- Its version has changed: it stores where the one before ends for it, and then how many updates of that one wait.
unfoldable pub IsAtCut : SessionState → ℕ → Seen → SessionState → Type 0
IsAtCut s epoch after u = (values : loaded.Seen) × Catches s (storing s after (refresh.HasLoaded epoch values) StoresCut) u

unfoldable pub IsAtOwing : SessionState → ℕ → Seen → SessionState → Type 0
IsAtOwing s epoch after u = (values : loaded.Seen) × Catches s (storing s after (refresh.HasLoaded epoch values) StoresOwing) u

-- it stores its epoch, last
unfoldable pub IsAtEpoch : SessionState → ℕ → Seen → SessionState → Type 0
IsAtEpoch s epoch after u = Catches s (storing s after (refresh.StoresEpoch epoch) Finishes) u
