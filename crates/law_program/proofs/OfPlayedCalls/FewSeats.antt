-- A player keeps its seats: each piece leaves as many as a store has sessions.
use Rattle.std.proofs.Common.{◌≡◌, ◌∙◌, ℕ, List, [], ◌∷◌, Bool, true, false, ap, arith, length, refl, replicate, take}
use Rattle.std.specs.Prelude.{Option, Some, None, slice_get}
use Rattle.std.proofs.lemmas.List.{length-replicate, length-set}
use Rattle.fkv_base.specs.declared.phases.Phase.{Phase}
use Rattle.fkv_base.specs.declared.phases.Phase.TheVariants as phase
use Rattle.law_order.specs.Below.fkv_core.Worlds.{WorldModel}
use Rattle.law_order.specs.Below.fkv_core.Event as events
use Rattle.law_order.specs.Below.fkv_core.TheTold as tells
use Rattle.law_order.specs.Below.fkv_core.TheTold.TheVariants as told
use Rattle.fkv_map.specs.declared.history.HistoryEntry.{HistoryEntry}
use Rattle.fkv_map.specs.declared.operations.Call.{Call}
use Rattle.law_order.specs.Below.fkv_opening.TheOpened.{Opened}
use Rattle.fkv_runs.specs.Below.fkv_playing.Beats.{IsBeat, asked_of, heard, seats_behind}
use Rattle.fkv_runs.specs.Below.fkv_playing.Finishes.{IsFinishIn, IsPlayedAlone, most_rounds, round_of, rounds}
use Rattle.fkv_runs.specs.Below.fkv_playing.Groups.{GroupState, IsBeatOf, IsGroup, IsPick, missing_session}
use Rattle.fkv_runs.specs.Below.fkv_playing.InTurn.{InTurn}
use Rattle.fkv_runs.specs.Below.fkv_playing.Players.{PlayerState, is_struck}
use Rattle.fkv_runs.specs.Below.fkv_playing.Seats.{SeatState, first_seat, seat_answered, seat_behind}
use Rattle.fkv_runs.specs.Below.fkv_playing.Texts.{phase_shown}
use Rattle.fkv_runs.specs.Below.fkv_playing.ActorCall.{ActorCall}
use Rattle.fkv_runs.specs.Below.fkv_playing.Outcome.{Outcome}
use Rattle.fkv_runs.specs.Below.fkv_playing.Outcome.TheVariants.{Answered, GoesOn}
use Rattle.fkv_runs.specs.Below.fkv_playing.Stage.{Stage}
use Rattle.fkv_runs.specs.Below.fkv_playing.Stage.TheVariants as stage
use Rattle.fkv_runs.specs.Below.fkv_playing.Telling.{Telling}
use Rattle.fkv_runs.specs.Below.fkv_playing.Telling.TheVariants.{Finished, Whole}
use Rattle.fkv_runs.specs.Openings.{Begins, Medium}
use Rattle.fkv_runs.specs.Runs.{IsCrashed, IsCrashedWhere, IsPiece, RunState}
use Rattle.fkv_runs.specs.declared.pieces.Piece.{Piece}
use Rattle.fkv_runs.specs.declared.pieces.Piece.TheVariants.{Group, Finish, Crash, CrashAt, FailAt}
use Rattle.fkv_runs.specs.declared.settings.Settings.{Settings}
use Rattle.law_order.specs.Below.fkv_session.Answer.{Answer}
use Rattle.law_program.specs.PlayedCalls.FewCalls.{ArmsKeepSeats, HasFewSeats}

-- ---- by what was told
by_seat : (number : ℕ) (call : Call) (answer : Answer) (seats : List SeatState) (seat : Option SeatState) → length (seat_answered number call answer seats seat) ≡ length seats
by_seat number call answer seats None = refl
by_seat number call answer seats (Some seat) = length-set seats number (seat_behind call answer seat)

as_many : (call : Call) (seats : List SeatState) (said : Option tells.Told) → length (seats_behind call seats said) ≡ length seats
as_many call seats (Some (told.Session number answer)) = by_seat number call answer seats (slice_get seats number)
as_many call seats (Some (told.Commit begun)) = refl
as_many call seats (Some (told.Turn its)) = refl
as_many call seats None = refl

-- ---- one part behind the other
abbrev KeepsCount : {Part State Outcome : Type 0} → (State → ℕ) → (Part → State → State → Outcome → List ℕ → Type 0) → Type 0
KeepsCount {Part} {State} {Outcome} count Its = (part : Part) (before after : State) (outcome : Outcome) (text : List ℕ) → Its part before after outcome text → count after ≡ count before

all_keep : {Part State Outcome : Type 0} (count : State → ℕ) (Its : Part → State → State → Outcome → List ℕ → Type 0) (goes_on : Outcome) → KeepsCount count Its → (parts : List Part) (before after : State) (outcome : Outcome) (text : List ℕ)
    → InTurn Its goes_on parts before after outcome text → count after ≡ count before
all_keep count Its goes_on each [] before after outcome text played = ap count played.0
all_keep count Its goes_on each (part ∷ []) before after outcome text played = each part before after outcome text played
all_keep count Its goes_on each (part ∷ next ∷ later) before after outcome text played =
    all_keep count Its goes_on each (next ∷ later) played.0 after outcome played.2 played.4 ∙ each part before played.0 goes_on played.1 played.3

seats_in : {D : Type 0} → PlayerState D → ℕ
seats_in player = length player.seats

module _ {D : Type 0} (engine : events.Event → WorldModel D → WorldModel D → Option tells.Told → Bool → Type 0) where
  beat_seats : (telling : Telling) (call : ActorCall) (at : Stage) (before after : PlayerState D) (outcome : Outcome) (text : List ℕ) → IsBeat engine telling call at before after outcome text → length after.seats ≡ length before.seats
  beat_seats telling call at before after outcome text beat = ap length beat.seats ∙ as_many (asked_of call) before.seats (heard (is_struck before.waits beat.broken) beat.its)

  beat_of_seats : (call : ActorCall) (at : Stage) (before after : PlayerState D) (outcome : Outcome) (text : List ℕ) (missing : Option ℕ) → IsBeatOf engine call at before after outcome text missing → length after.seats ≡ length before.seats
  beat_of_seats call at before after outcome text (Some number) refused = ap (λ (x : PlayerState D). length x.seats) refused.0
  beat_of_seats call at before after outcome text None beat = beat_seats Whole call at before after outcome text beat

  pub group_seats : (before after : GroupState D) (struck : Bool) (text : List ℕ) → IsGroup engine before after struck text → length after.player.seats ≡ length before.player.seats
  group_seats before after struck text group =
      all_keep (λ (x : GroupState D). length x.player.seats) (IsPick engine) false
      (λ at one other its said pick. beat_of_seats pick.call pick.stage one.player other.player pick.outcome said (missing_session one.player.seats pick.call) pick.beat) group.picks before (record after { queues = group.last }) struck text group.played

  alone_seats : (call : ActorCall) (before after : PlayerState D) (outcome : Outcome) (text : List ℕ) → IsPlayedAlone engine Finished call before after outcome text → length after.seats ≡ length before.seats
  alone_seats call before after outcome text alone =
      all_keep (λ (x : PlayerState D). length x.seats) (IsBeat engine Finished call) GoesOn (λ at one other its said beat. beat_seats Finished call at one other its said beat)
      (stage.Begins ∷ replicate alone.moves stage.Moves) before after outcome text alone.beats

  pub finish_seats : (its : Phase) (before after : PlayerState D) (outcome : Outcome) (text : List ℕ) → IsFinishIn engine its before after outcome text → length after.seats ≡ length before.seats
  finish_seats phase.Rest before after outcome text finish = ap (λ (x : PlayerState D). length x.seats) finish.0
  finish_seats other before after outcome text finish = all_keep (λ (x : PlayerState D). length x.seats) (IsPlayedAlone engine Finished) Answered alone_seats (take finish.count (rounds most_rounds (round_of before.seats))) before after outcome finish.said finish.calls

-- ---- as a life begins
pub begin_seats : {D : Type 0} (opened : Opened) (device : D) (history : List HistoryEntry) (keeps_history : Bool) (player : PlayerState D) → Begins opened device history keeps_history player → HasFewSeats player
begin_seats {D} opened device history keeps_history player begins =
    let same = ap (λ (x : PlayerState D). length x.seats) begins.same in
    let many = length-replicate opened.shape.sessions first_seat in
    let few = opened.shape.limits.few_sessions in
    omega (arith, same, many, few)

pub few_still : {D : Type 0} (before after : PlayerState D) → length after.seats ≡ length before.seats → HasFewSeats before → HasFewSeats after
few_still before after same few = omega (arith, same, few)

-- ---- by a piece
module _ {D : Type 0} (medium : Medium D) (settings : Settings) (arms : ArmsKeepSeats medium.armed) where
  pub crashed_seats : (before after : RunState D) (text : List ℕ) → IsCrashed medium settings before after false text → HasFewSeats after.player
  crashed_seats before after text crashed = let crash = (crashed.crash refl).1 in begin_seats crash.opened crash.device _ _ after.player crash.begins

  crashed_where : (struck : Bool) (before after : RunState D) (text : List ℕ) → IsCrashedWhere struck medium settings before after false text → HasFewSeats before.player → HasFewSeats after.player
  crashed_where true before after text crashed few = crashed_seats before after text crashed
  crashed_where false before after text crashed few = few_still before.player after.player (ap (λ (x : RunState D). length x.player.seats) crashed.0) few

  pub piece_seats : (piece : Piece) (before after : RunState D) (text : List ℕ) → IsPiece medium settings piece before after false text → HasFewSeats before.player → HasFewSeats after.player
  piece_seats (Group calls) before after text played few =
      let leg = played.leg in
      let to_crash = group_seats medium.engine (record { player = before.player; queues = played.queues }) (record { player = leg.player; queues = played.left }) leg.struck leg.said leg.part in
      let behind = crashed_where leg.struck (record before { player = leg.player }) played.between leg.reported leg.crashed (few_still before.player leg.player to_crash few) in
      let rest = played.goes_on refl in
      few_still played.between.player after.player (group_seats medium.engine (record { player = played.between.player; queues = played.left }) (record { player = after.player; queues = rest.0 }) false played.rest rest.1) behind
  piece_seats Finish before after text leg few =
      crashed_where leg.struck (record before { player = leg.player }) after leg.reported leg.crashed
      (few_still before.player leg.player (finish_seats medium.engine (phase_shown before.player.world.now).0 before.player leg.player leg.part.0 leg.said leg.part.1) few)
  piece_seats Crash before after text crashed few = crashed_seats before after text crashed
  piece_seats (CrashAt count) before after text line few = few_still before.player after.player (ap length (arms _ _ before.player after.player line.armed)) few
  piece_seats (FailAt count) before after text line few = few_still before.player after.player (ap length (arms _ _ before.player after.player line.armed)) few
