-- Runs of a store in memory whose calls aren't interleaved: piece by piece, in the life in hand, or behind a crash in the next one.
use Rattle.std.specs.Prelude.{◌≡◌, ◌⊎◌, ⊤, ℕ, Bool, true, false, List, [], ◌∷◌, ◌++◌}
use Rattle.law_order.specs.Below.fkv_opening.TheOpened.{Opened}
use Rattle.fkv_runs.specs.Below.fkv_playing.InTurn.{InTurn}
use Rattle.fkv_runs.specs.Below.fkv_playing.Players.{PlayerState}
use Rattle.fkv_runs.specs.Below.fkv_playing.ActorCall.{ActorCall}
use Rattle.fkv_runs.specs.Below.fkv_playing.Telling.TheVariants.{Whole}
use Rattle.fkv_runs.specs.Below.fkv_playing.Waits.{Waits}
use Rattle.fkv_runs.specs.Crashes.{IsRefusal}
use Rattle.fkv_runs.specs.Openings.{Medium}
use Rattle.fkv_runs.specs.Runs.{IsCrashed, IsPiece, RunState}
use Rattle.fkv_runs.specs.declared.pieces.Piece.{Piece}
use Rattle.fkv_runs.specs.declared.pieces.Piece.TheVariants.{Group, Finish}
use Rattle.fkv_runs.specs.declared.settings.Settings.{Settings}
use Rattle.law_order.specs.Below.fkv_world.World.{Event, Now}
use Rattle.law_program.specs.PlayedCalls.EachLine.{IsFinishCutShort, IsFinishInLife, IsLifeOver, IsPlayedInLife, IsRefusedLine, IsUnswept, ItsNumbersFit}
use Rattle.law_program.specs.PlayedCalls.FewCalls.{HasFewSeats, HasFewWith}
use Rattle.law_program.specs.PlayedCalls.Interleaved.{HasNoTrim, IsLifeShown}
use Rattle.law_program.specs.PlayedCalls.Lives.{IsNextLife}

-- the life in hand: the bytes with which it began, the store that they hold, its first world, and its events so far
pub record LifeInHand : Type 0 where
  pub bytes : List ℕ
  pub opened : Opened
  pub first : Now
  pub events : List Event

-- a group is of one call, whose numbers fit in words
abbrev pub IsPlain : Piece → Type 0
IsPlain (Group calls) = (one : ActorCall) × (calls.items ≡ one ∷ []) × ItsNumbersFit one
IsPlain other = ⊤

abbrev pub ArePlain : List Piece → Type 0
ArePlain [] = ⊤
ArePlain (piece ∷ later) = IsPlain piece × ArePlain later

module _ {D : Type 0} (seen : D → List ℕ) (may_leave : D → List ℕ → Type 0) where
  -- it shows the player's world and device
  abbrev pub IsShown : LifeInHand → PlayerState D → Type 0
  IsShown its player = IsLifeOver seen may_leave its.bytes its.opened its.first its.events player

  -- a line that fails a device, or crashes it, leaves each life as it is, and whether turns sweep
  abbrev pub ArmsInLife : (ℕ → Waits → PlayerState D → PlayerState D → Type 0) → Type 0
  ArmsInLife armed = (count : ℕ) (waits : Waits) (its : LifeInHand) (before after : PlayerState D) → armed count waits before after → IsShown its before → IsShown its after × (after.sweeps ≡ before.sweeps)

  -- ---- in the life in hand
  -- A line of a call is refused, or played. A finish goes by its calls. A line that fails or crashes a device says nothing. Turns sweep as before.
  abbrev pub SaysInLife : Piece → LifeInHand → List Event → PlayerState D → PlayerState D → List ℕ → Type 0
  SaysInLife (Group calls) its later before after text =
      (one : ActorCall) × (calls.items ≡ one ∷ [])
      × (((later ≡ its.events) × IsRefusedLine one before after text) ⊎ IsPlayedInLife seen may_leave Whole one its.bytes its.opened its.first its.events later before after text)
  SaysInLife Finish its later before after text = (finish : IsFinishInLife seen may_leave its.bytes its.opened its.first its.events before after text) × (finish.later ≡ later)
  SaysInLife other its later before after text = (later ≡ its.events) × (text ≡ []) × (after.sweeps ≡ before.sweeps)

  pub record GoesOnInLife (piece : Piece) (its next : LifeInHand) (before after : RunState D) (over : Bool) (text : List ℕ) : Type 0 where
    pub goes_on : over ≡ false
    pub events : List Event
    pub same_life : next ≡ record { bytes = its.bytes; opened = its.opened; first = its.first; events = events }
    pub says : SaysInLife piece its events before.player after.player text
    pub shown : IsShown next after.player

  -- ---- up to a crash
  -- a finish has printed what its calls before that have finished; any other piece prints nothing up to there
  abbrev pub SaysUpTo : Piece → LifeInHand → PlayerState D → List ℕ → Type 0
  SaysUpTo Finish its before text = IsFinishCutShort seen may_leave its.bytes its.opened its.first its.events before text
  SaysUpTo other its before text = text ≡ []

  module _ (medium : Medium D) (settings : Settings) where
    -- The life in hand has gone on to the crash, and shows the player as that strikes, whatever call is in hand. The image is one that a crash may leave of its
    -- device. The report is of the store that the image holds, and the next life begins with it; or the run ends with a refusal.
    pub record IsReported (NoTrim : Type 0) (its next : LifeInHand) (before after : PlayerState D) (over : Bool) (text : List ℕ) : Type 0 where
      pub struck : PlayerState D
      pub events : List Event
      pub since : List Event
      pub grown : events ≡ since ++ its.events
      pub shown : IsLifeShown seen may_leave its.bytes its.opened its.first events struck
      -- where no call is a trim, an unswept life stays so up to the crash
      pub unswept : NoTrim → IsUnswept its.bytes its.first its.events before → IsUnswept its.bytes its.first events struck
      pub left : may_leave struck.world.device (medium.image struck.world.device settings.torn)
      pub goes_on : over ≡ false → (agrees : Bool) × (report : IsNextLife seen may_leave medium.holds (medium.image struck.world.device settings.torn) settings.checks agrees after text)
          × (next ≡ record { bytes = medium.image struck.world.device settings.torn; opened = report.opened; first = after.world.now; events = [] })
      pub ends : over ≡ true → IsRefusal (medium.image struck.world.device settings.torn) text

    pub record EndsInCrash (piece : Piece) (its next : LifeInHand) (before after : RunState D) (over : Bool) (text : List ℕ) : Type 0 where
      pub said : List ℕ
      pub reported : List ℕ
      pub up_to : SaysUpTo piece its before.player said
      pub crash : IsReported (HasNoTrim piece) its next before.player after.player over reported
      pub says : text ≡ said ++ reported

    abbrev pub IsPieceInLives : Piece → LifeInHand → LifeInHand → RunState D → RunState D → Bool → List ℕ → Type 0
    IsPieceInLives piece its next before after over text = GoesOnInLife piece its next before after over text ⊎ EndsInCrash piece its next before after over text

    -- a crash that still is to come behind the last piece is reported so, of the life in hand
    abbrev pub DueIsReported : LifeInHand → RunState D → Type 0
    DueIsReported its last = (after : RunState D) (over : Bool) (text : List ℕ) → IsCrashed medium settings last after over text → (next : LifeInHand) × IsReported ⊤ its next last.player after.player over text

    -- one behind the other
    abbrev pub ArePlayedInLives : List Piece → LifeInHand → RunState D → RunState D → Bool → List ℕ → Type 0
    ArePlayedInLives [] its before after over text = (after ≡ before) × (over ≡ false) × (text ≡ []) × DueIsReported its after
    ArePlayedInLives (piece ∷ []) its before after over text =
        (next : LifeInHand) × IsPieceInLives piece its next before after over text × (over ≡ false → DueIsReported next after)
    ArePlayedInLives (piece ∷ other ∷ later) its before after over text =
        (next : LifeInHand) × (between : RunState D) × (one : List ℕ) × (rest : List ℕ) × IsPieceInLives piece its next before between false one
        × ArePlayedInLives (other ∷ later) next between after over rest × (text ≡ one ++ rest)

    -- So are the pieces of a run that are played from a life that is shown, if they begin few calls. The player has few seats.
    abbrev pub RunsGoOn : Type 0
    RunsGoOn =
        (pieces : List Piece) (its : LifeInHand) (before after : RunState D) (over : Bool) (text : List ℕ) → IsShown its before.player → ArePlain pieces
        → HasFewSeats before.player → HasFewWith its.events pieces → InTurn (IsPiece medium settings) false pieces before after over text → ArePlayedInLives pieces its before after over text
