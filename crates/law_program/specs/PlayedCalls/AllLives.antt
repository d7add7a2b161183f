-- Runs of a store in memory over all their lives, whatever calls are interleaved: what each crash reports is what its points keep of all lives before it.
use Rattle.std.specs.Prelude.{◌≡◌, ⊤, ℕ, Bool, true, false, List, [], ◌∷◌, ◌++◌}
use Rattle.fkv_base.specs.declared.faults.Fault.TheVariants.{Device}
use Rattle.fkv_base.specs.declared.shapes.Shape.{Shape}
use Rattle.law_order.specs.Below.fkv_creating.Created.{IsCreated}
use Rattle.fkv_map.specs.History.{content}
use Rattle.law_order.specs.Below.fkv_opening.Opened.{IsStoreOf}
use Rattle.law_order.specs.Below.fkv_opening.TheOpened.{Opened}
use Rattle.fkv_runs.specs.Below.fkv_playing.InTurn.{InTurn}
use Rattle.fkv_runs.specs.Below.fkv_playing.Players.{PlayerState}
use Rattle.fkv_runs.specs.Below.fkv_playing.Waits.{Waits}
use Rattle.fkv_runs.specs.Openings.{Begins, Medium}
use Rattle.fkv_runs.specs.Runs.{IsCrashed, IsPiece, RunState}
use Rattle.fkv_runs.specs.declared.pieces.Piece.{Piece}
use Rattle.fkv_runs.specs.declared.pieces.Piece.TheVariants.{Group, Finish, Crash}
use Rattle.fkv_runs.specs.declared.settings.Settings.{Settings}
use Rattle.fkv_texts.specs.Refusals.{last_refusal}
use Rattle.law_order.specs.Below.fkv_world.World.{Event, Now}
use Rattle.law_order.specs.Below.law_opening.Log.Records as records
use Rattle.law_order.specs.OneHistory.EachLife.{Life}
use Rattle.law_order.specs.Prefix.Law.{AreLives, BeginsBehind, BeginsWithKept, first_of, kept_of_all, map_of}
use Rattle.law_order.specs.Tickets.Few.{HasFewCalls}
use Rattle.law_program.specs.PlayedCalls.CrashReports.{IsReportOfKept}
use Rattle.law_program.specs.PlayedCalls.EachLine.{IsUnswept}
use Rattle.law_program.specs.PlayedCalls.FewCalls.{HasFewSeats, HasFewWith}
use Rattle.law_program.specs.PlayedCalls.Interleaved.{AreFitting, HasNoTrim, IsLifeShown}
use Rattle.law_program.specs.PlayedCalls.Noted.{AreNoted}

-- ---- the lives of a run
-- the life in hand, those before it, the newest first, and the run as it is then
pub record RunInLives (D : Type 0) : Type 0 where
  pub its : Life
  pub before : List Life
  pub run : RunState D

-- a life as it begins
abbrev pub first_life : List ℕ → Opened → Now → Life
first_life image opened first = record { bytes = image; opened = opened; world = first; events = [] }

-- a run as it begins with this player, in its first life
abbrev pub first_run : {D : Type 0} → List ℕ → Opened → PlayerState D → RunInLives D
first_run image opened player = record { its = first_life image opened player.world.now; before = []; run = record { player = player; agrees = true } }

-- the same life, with these events
abbrev pub with_events : Life → List Event → Life
with_events its events = record its { events = events }

-- the calls of groups are of numbers below 2^64
abbrev pub PieceFits : Piece → Type 0
PieceFits (Group calls) = AreFitting calls.items
PieceFits other = ⊤

abbrev pub PiecesFit : List Piece → Type 0
PiecesFit [] = ⊤
PiecesFit (piece ∷ later) = PieceFits piece × PiecesFit later

-- in this life the keeper has swept nothing, and turns don't sweep
abbrev pub SweepsNone : {D : Type 0} → Life → PlayerState D → Type 0
SweepsNone its player = IsUnswept its.bytes its.world its.events player

-- a crash: the run as it strikes, the run behind its report, and the report
pub record CrashTaken (D : Type 0) : Type 0 where
  pub struck : RunState D
  pub behind : RunState D
  pub report : List ℕ

module _ {D : Type 0} (seen : D → List ℕ) (may_leave : D → List ℕ → Type 0) where
  -- this life shows the player and the device
  abbrev pub Shows : Life → PlayerState D → Type 0
  Shows its player = IsLifeShown seen may_leave its.bytes its.opened its.world its.events player

  -- The life in hand shows the player, whose seats are few, and few calls have begun in it. The lives before it follow one another, and the life in hand begins
  -- behind them. If the run has checks, the player has noted them all.
  pub record AreShown (checks : Bool) (its : Life) (before : List Life) (player : PlayerState D) : Type 0 where
    pub shown : Shows its player
    pub few : HasFewCalls its.events
    pub seats : HasFewSeats player
    pub noted : AreNoted checks its before player
    pub begins : BeginsBehind its before
    pub lives : AreLives before

  -- a line that fails a device, or crashes it, leaves each life that shows the player
  abbrev pub ArmsShown : (ℕ → Waits → PlayerState D → PlayerState D → Type 0) → Type 0
  ArmsShown armed = (count : ℕ) (waits : Waits) (its : Life) (before after : PlayerState D) → armed count waits before after → Shows its before → Shows its after

  module _ (medium : Medium D) (settings : Settings) where
    -- ---- a crash
    -- The report is of the store that one current commit keeps of the last life. The next life begins with it. Its pairs are the first life's map, behind a
    -- replay of what its points keep of all lives so far. The replay is legal, and has each session's serials up to its point once. Where the run has checks the report
    -- ends in the line that says that both agree, and so the run still agrees with all of them.
    pub record ReportsAllKept (last : Life) (before : List Life) (next : Life) (crash : CrashTaken D) : Type 0 where
      pub report : IsReportOfKept seen may_leave last.bytes last.opened last.world last.events (medium.image crash.struck.player.world.device settings.torn) settings.checks true crash.behind.player crash.report
      pub counted : crash.behind.agrees ≡ crash.struck.agrees
      pub bytes : next.bytes ≡ medium.image crash.struck.player.world.device settings.torn
      pub opened : next.opened ≡ report.opened
      pub shows : records.map_of report.pairs ≡ content (map_of (first_of last before)) (kept_of_all report.opened.points.items (last ∷ before))
      pub all : BeginsWithKept next (last ∷ before)

    -- The life in hand has gone on from its events to the crash, and ends there. The report is as said, and no image is refused but by the device.
    pub record EndsLife (NoTrim : Type 0) (before after : RunInLives D) (over : Bool) (crash : CrashTaken D) : Type 0 where
      pub events : List Event
      pub since : List Event
      pub grown : events ≡ since ++ before.its.events
      pub shown : Shows (with_events before.its events) crash.struck.player
      -- where no call is a trim, an unswept life stays so up to the crash
      pub unswept : NoTrim → SweepsNone before.its before.run.player → SweepsNone (with_events before.its events) crash.struck.player
      -- and the next life is unswept, behind what is left of the calls too
      pub next_unswept : over ≡ false → NoTrim → SweepsNone after.its after.run.player
      pub report : over ≡ false → ReportsAllKept (with_events before.its events) before.before after.its crash
      pub refusal : over ≡ true → crash.report ≡ last_refusal Device
      pub lives : over ≡ false → after.before ≡ with_events before.its events ∷ before.before

    -- or the life goes on from its events
    pub record StaysInLife (NoTrim : Type 0) (before after : RunInLives D) : Type 0 where
      pub events : List Event
      pub since : List Event
      pub grown : events ≡ since ++ before.its.events
      pub same : after.its ≡ with_events before.its events
      pub lives : after.before ≡ before.before
      pub shown : Shows after.its after.run.player
      -- where no call is a trim, an unswept life stays so
      pub unswept : NoTrim → SweepsNone before.its before.run.player → SweepsNone after.its after.run.player

    abbrev pub EndsLifeWhere : Bool → Type 0 → RunInLives D → RunInLives D → Bool → CrashTaken D → Type 0
    EndsLifeWhere true NoTrim before after over crash = EndsLife NoTrim before after over crash
    EndsLifeWhere false NoTrim before after over crash = StaysInLife NoTrim before after

    -- ---- a piece, as it is played
    -- whether a crash strikes in it
    abbrev pub struck_in : (piece : Piece) (before after : RunState D) (over : Bool) (text : List ℕ) → IsPiece medium settings piece before after over text → Bool
    struck_in (Group calls) before after over text played = played.leg.struck
    struck_in Finish before after over text played = played.struck
    struck_in Crash before after over text played = true
    struck_in other before after over text played = false

    -- and which
    abbrev pub crash_in : (piece : Piece) (before after : RunState D) (over : Bool) (text : List ℕ) → IsPiece medium settings piece before after over text → CrashTaken D
    crash_in (Group calls) before after over text played = record { struck = record before { player = played.leg.player }; behind = played.between; report = played.leg.reported }
    crash_in Finish before after over text played = record { struck = record before { player = played.player }; behind = after; report = played.reported }
    crash_in other before after over text played = record { struck = before; behind = after; report = text }

    -- It is played, and ends the life in hand where a crash strikes in it. What is left of a group is played in the next life.
    abbrev pub IsPieceOverLives : Piece → RunInLives D → RunInLives D → Bool → List ℕ → Type 0
    IsPieceOverLives piece before after over text =
        (played : IsPiece medium settings piece before.run after.run over text)
        × EndsLifeWhere (struck_in piece before.run after.run over text played) (HasNoTrim piece) before after over (crash_in piece before.run after.run over text played)

    -- ---- a run
    -- Its pieces have led to these lives, and no check of them has differed.
    pub record ArePlayedOverLives (pieces : List Piece) (before : RunInLives D) (last : RunState D) (over : Bool) (text : List ℕ) : Type 0 where
      pub its : Life
      pub lives : List Life
      pub played : InTurn IsPieceOverLives false pieces before (record { its = its; before = lives; run = last }) over text
      pub shown : over ≡ false → AreShown settings.checks its lives last.player
      pub agrees : over ≡ false → last.agrees ≡ before.run.agrees

    -- So are the pieces of a run that are played from lives that are shown, if they begin few calls.
    abbrev pub RunsOverLives : Type 0
    RunsOverLives =
        (pieces : List Piece) (before : RunInLives D) (last : RunState D) (over : Bool) (text : List ℕ) → AreShown settings.checks before.its before.before before.run.player → PiecesFit pieces
        → HasFewWith before.its.events pieces → InTurn (IsPiece medium settings) false pieces before.run last over text → ArePlayedOverLives pieces before last over text

    -- And so is a crash that is taken then.
    abbrev pub CrashEndsLives : RunInLives D → RunState D → Bool → List ℕ → Type 0
    CrashEndsLives before behind over text =
        (next : Life) × (lives : List Life) × EndsLife ⊤ before (record { its = next; before = lives; run = behind }) over (record { struck = before.run; behind = behind; report = text })

    abbrev pub CrashesEndLives : Type 0
    CrashesEndLives =
        (before : RunInLives D) (behind : RunState D) (over : Bool) (text : List ℕ) → AreShown settings.checks before.its before.before before.run.player → IsCrashed medium settings before.run behind over text
        → CrashEndsLives before behind over text

    -- one that still is to come behind the last piece
    abbrev pub EndsLivesWhere : Bool → RunInLives D → RunState D → Bool → List ℕ → Type 0
    EndsLivesWhere true before behind over text = CrashEndsLives before behind over text
    EndsLivesWhere false before behind over text = ⊤

    -- The first life of a new store is shown, over a device that holds it.
    abbrev pub NewStoresAreShown : Type 0
    NewStoresAreShown =
        (shape : Shape) (image : List ℕ) (opened : Opened) (device : D) (player : PlayerState D)
        → IsCreated shape image → IsStoreOf image opened → medium.holds image device → Begins opened device [] settings.checks player → AreShown settings.checks (first_life image opened player.world.now) [] player

    -- so it is over all lives
    pub record ReportsOverLives : Type 0 where
      pub begin : NewStoresAreShown
      pub runs : RunsOverLives
      pub crashes : CrashesEndLives
