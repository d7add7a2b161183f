-- The words in which a session tells where it has left a version, and its durable word: who stores them, and what was stored there last.
use Rattle.std.specs.Prelude.{◌≡◌, ◌<◌, ◌≤◌, ◌⊎◌, ℕ, ◌==◌, nat_lt, if◌then◌else◌, List, [], ◌∷◌, length, Some, slice_get}
use Rattle.fkv_base.specs.declared.numbers.Serial.{Serial}
use Rattle.fkv_base.specs.declared.shapes.Shape.{Shape}
use Rattle.fkv_plane.specs.declared.asks.Ask.{Ask}
use Rattle.fkv_plane.specs.declared.asks.Ask.TheVariants.{Store}
use Rattle.fkv_plane.specs.declared.places.Places.{Places}
use Rattle.fkv_plane.specs.declared.places.SessionWord.TheVariants as own
use Rattle.fkv_plane.specs.Asked.{word_at}
use Rattle.fkv_plane.specs.Places.{session_place, word_count}
use Rattle.law_refine.specs.Below.fkv_commit.TheFinishing.{Finishing}
use Rattle.law_refine.specs.Below.fkv_commit.TheFinishing.TheVariants.{StoresDurable}
use Rattle.law_refine.specs.Below.fkv_commit.Cuts.{serial_said}
use Rattle.law_refine.specs.Below.fkv_commit.Finishing.{point_of}
use Rattle.law_refine.specs.Below.fkv_keeper.TheKeeping.{Keeping}
use Rattle.law_refine.specs.Below.fkv_keeper.TheKeeping.TheVariants.{Finishes}
use Rattle.law_refine.specs.Below.fkv_keeper.Keeping.{KeeperState, keeper_ask}
use Rattle.law_refine.specs.Below.fkv_keeper.KeeperRun.{KeeperEvent, Replies, keeper_run}
use Rattle.law_refine.specs.Below.fkv_session.CatchingUp.{cut_at, cut_of, version_before}
use Rattle.law_refine.specs.Below.fkv_session.InOrder.{taken_up}
use Rattle.law_refine.specs.Below.fkv_session.Sessions.{SessionState, Seat}
use Rattle.law_refine.specs.Below.fkv_session.SessionRun.{SessionEvent, session_run}
use Rattle.law_refine.specs.Below.fkv_session.Versions.{IsVersion}
use Rattle.law_refine.specs.Below.fkv_session.Words as session
use Rattle.law_refine.specs.Below.fkv_world.OwnEvents.{keeper_events, session_events}
use Rattle.law_refine.specs.Below.fkv_world.Runs.{World, run}
use Rattle.law_refine.specs.Below.fkv_world.World.{Event, Now, seat_at}

-- each word of the store is there
abbrev pub HasItsWords : Now → Type 0
HasItsWords n = word_count n.places ≤ length n.words

-- what stands at a place, as a life has led to it
abbrev pub word_now : World → List Event → ℕ → ℕ
word_now opening events place = word_at (run opening events).now.words place

-- what a session has stored last there, by its own events; up to then what stood there as the life began
abbrev pub stored_by_session : World → ℕ → SessionState → List Event → ℕ → ℕ
stored_by_session opening number first events place = session.stored_last (seat_at opening.now number) first (λ at. word_at opening.now.words at) (session_events opening number events) place

-- the serial at which a session has left the version before its own; if it has left none in these events, the serial that it had before them
unfoldable pub serial_before : Seat → SessionState → List SessionEvent → ℕ
serial_before k opening [] = opening.serial
serial_before k opening (event ∷ before) =
    if (session_run k opening (event ∷ before)).seen.version.0 == (session_run k opening before).seen.version.0 then serial_before k opening before else (session_run k opening before).serial

-- or at which it leaves it now
abbrev pub serial_leaving : SessionState → ℕ → ℕ
serial_leaving s before = if (taken_up s).version.0 == s.seen.version.0 then before else s.serial

abbrev pub life_leaving : World → ℕ → SessionState → List Event → SessionState → ℕ
life_leaving opening number first events its = serial_leaving its (serial_before (seat_at opening.now number) first (session_events opening number events))

-- one of a session's two cut words
abbrev pub IsCutPlace : ℕ → ℕ → Type 0
IsCutPlace number place = (place ≡ session_place number own.EvenCut) ⊎ (place ≡ session_place number own.OddCut)

-- As a life begins, the cut word of the version before shows the session's serial, none shows a later one, and it owes nothing.
pub record ShowsCut (k : Seat) (s : SessionState) (words : ℕ → ℕ) : Type 0 where
  pub version : IsVersion s.seen.version.0
  pub cut : words (session_place k.number (cut_of (version_before s.seen).0)) ≡ cut_at s.serial (version_before s.seen).0
  pub serials : (place : ℕ) → IsCutPlace k.number place → serial_said (words place) ≤ s.serial
  pub owing : words (session_place k.number own.Owing) ≡ 0

abbrev pub ShowCuts : Now → Type 0
ShowCuts n = (session : ℕ) (s : SessionState) → slice_get n.sessions session ≡ Some s → ShowsCut (seat_at n session) s (λ place. word_at n.words place)

-- what an ask stores there
abbrev pub stored_by : {A : Type 0} → Ask A → ℕ → ℕ → ℕ
stored_by (Store at word) place before = if at == place then word else before
stored_by ask place before = before

-- what the keeper has stored last at a place, by the asks that were replied to; up to then what was there first
abbrev pub stored_behind : Shape → Places → KeeperState → KeeperEvent → ℕ → ℕ → ℕ
stored_behind shape p s (Replies reply granted) place before = stored_by (keeper_ask shape p s) place before
stored_behind shape p s event place before = before

unfoldable pub stored_last : Shape → Places → KeeperState → (ℕ → ℕ) → List KeeperEvent → ℕ → ℕ
stored_last shape p opening first [] place = first place
stored_last shape p opening first (event ∷ before) place = stored_behind shape p (keeper_run shape p opening before) event place (stored_last shape p opening first before place)

abbrev pub stored_by_keeper : World → List Event → ℕ → ℕ
stored_by_keeper opening events place = stored_last opening.now.shape opening.now.places opening.now.keeper (λ at. word_at opening.now.words at) (keeper_events opening events) place

-- While a commit finishes, the durable words below the one that is stored next are its points, and the others those of the commit before.
abbrev pub durable_in : List Serial → List Serial → Finishing → ℕ → ℕ
durable_in last points (StoresDurable next) session = if nat_lt session next then point_of (slice_get points session) else point_of (slice_get last session)
durable_in last points step session = point_of (slice_get points session)

-- At all other times each is a point of the newest finished commit.
abbrev pub durable_at : KeeperState → Keeping → ℕ → ℕ
durable_at s Finishes session = durable_in s.last.points s.seek.points s.finish.step session
durable_at s step session = point_of (slice_get s.last.points session)

-- As a life begins, the durable words show the points of the newest finished commit. The keeper finishes commits for all sessions of the store.
pub record ShowsDurable (n : Now) : Type 0 where
  pub points : (session : ℕ) → session < n.places.sessions → word_at n.words (session_place session own.Durable) ≡ point_of (slice_get n.keeper.last.points session)
  pub sessions : n.keeper.finish.sessions ≡ n.places.sessions
