-- What a session stores where it leaves a version: the cut word of that version, and behind it how many updates of it still wait.
use Rattle.std.specs.Prelude.{◌≡◌, ℕ}
use Rattle.fkv_plane.specs.declared.asks.Ask.TheVariants.{Store}
use Rattle.fkv_plane.specs.declared.places.SessionWord.TheVariants as own
use Rattle.fkv_plane.specs.Places.{session_place}
use Rattle.fkv_session.specs.declared.catching_up.Catching.TheVariants as catching
use Rattle.fkv_session.specs.CatchingUp.{version_before, cut_of, cut_at, owing}
use Rattle.fkv_session.specs.Sessions.{SessionState, Seat, session_ask}

-- the version that it leaves
abbrev pub version_left : SessionState → ℕ
version_left s = (version_before s.catching.seen).0

-- The cut word tells the serial that the session has then, and the owing word how many of its requests are updates of the version before.
pub record IsCutTold (k : Seat) (s : SessionState) : Type 0 where
  pub cut : s.catching.step ≡ catching.StoresCut → session_ask k s ≡ Store (session_place k.number (cut_of (version_left s))) (cut_at s.serial (version_left s))
  pub owing : s.catching.step ≡ catching.StoresOwing → session_ask k s ≡ Store (session_place k.number own.Owing) (owing s.catching.seen s.requests)
