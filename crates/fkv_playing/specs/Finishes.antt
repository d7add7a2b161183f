-- Calls that are played alone, each to its end, and the finish of a commit.
use Rattle.std.specs.Prelude.{◌≡◌, ◌≢◌, ◌≤◌, ℕ, zero, suc, Bool, true, false, List, [], ◌∷◌, ◌++◌, length, replicate, take, Option}
use Rattle.fkv_base.specs.declared.phases.Phase.{Phase}
use Rattle.fkv_base.specs.declared.phases.Phase.TheVariants as phase
use Rattle.fkv_core.specs.Worlds.{WorldModel}
use Rattle.fkv_core.specs.declared.events.Event.{Event}
use Rattle.fkv_core.specs.declared.events.Told.{Told}
use Rattle.fkv_map.specs.declared.operations.Call.TheVariants.{Refresh, Poll}
use Rattle.fkv_texts.specs.Keeper.{nothing_to_finish, not_finished}
use Rattle.fkv_playing.specs.Beats.{IsBeat}
use Rattle.fkv_playing.specs.InTurn.{InTurn}
use Rattle.fkv_playing.specs.Players.{PlayerState}
use Rattle.fkv_playing.specs.Seats.{SeatState}
use Rattle.fkv_playing.specs.Texts.{phase_shown}
use Rattle.fkv_playing.specs.declared.calls.ActorCall.{ActorCall}
use Rattle.fkv_playing.specs.declared.calls.ActorCall.TheVariants.{Session, Turn}
use Rattle.fkv_playing.specs.declared.calls.Outcome.{Outcome}
use Rattle.fkv_playing.specs.declared.calls.Outcome.TheVariants.{GoesOn, Answered}
use Rattle.fkv_playing.specs.declared.calls.Stage.TheVariants.{Begins, Moves}
use Rattle.fkv_playing.specs.declared.calls.Telling.{Telling}
use Rattle.fkv_playing.specs.declared.calls.Telling.TheVariants.{Finished}

-- a call that is begun, and moved alone as long as it goes on
pub record IsPlayedAlone {D : Type 0} (engine : Event → WorldModel D → WorldModel D → Option Told → Bool → Type 0) (telling : Telling) (call : ActorCall) (before after : PlayerState D) (outcome : Outcome) (text : List ℕ) : Type 0 where
  pub moves : ℕ
  pub beats : InTurn (IsBeat engine telling call) GoesOn (Begins ∷ replicate moves Moves) before after outcome text
  pub over : outcome ≢ GoesOn

-- in a round each session that is awake is refreshed and polled, in order, and then the keeper takes a turn
abbrev pub calls_of_seat : ℕ → Bool → List ActorCall
calls_of_seat number true = Session number Refresh ∷ Session number Poll ∷ []
calls_of_seat number false = []

abbrev pub calls_of_seats : ℕ → List SeatState → List ActorCall
calls_of_seats number [] = []
calls_of_seats number (seat ∷ later) = calls_of_seat number seat.is_awake ++ calls_of_seats (suc number) later

abbrev pub round_of : List SeatState → List ActorCall
round_of seats = calls_of_seats 0 seats ++ Turn ∷ []

-- a finish has at most so many rounds
abbrev pub most_rounds : ℕ
most_rounds = 64

-- so many rounds, one behind the other
abbrev pub rounds : ℕ → List ActorCall → List ActorCall
rounds zero round = []
rounds (suc count) round = rounds count round ++ round

-- The rounds of a finish, up to a turn that has finished a commit or is refused, or up to a crash that strikes: the calls of the rounds so far. Where all
-- rounds were not enough, it says so.
abbrev pub behind_rounds : Outcome → List ℕ
behind_rounds Answered = not_finished
behind_rounds other = []

pub record AreRounds {D : Type 0} (engine : Event → WorldModel D → WorldModel D → Option Told → Bool → Type 0) (before after : PlayerState D) (outcome : Outcome) (text : List ℕ) : Type 0 where
  pub count : ℕ
  pub said : List ℕ
  pub calls : InTurn (IsPlayedAlone engine Finished) Answered (take count (rounds most_rounds (round_of before.seats))) before after outcome said
  pub all : outcome ≡ Answered → length (rounds most_rounds (round_of before.seats)) ≤ count
  pub says : text ≡ said ++ behind_rounds outcome

-- a finish where the phase word says rest has nothing to do
abbrev pub IsFinishIn : {D : Type 0} → (Event → WorldModel D → WorldModel D → Option Told → Bool → Type 0) → Phase → PlayerState D → PlayerState D → Outcome → List ℕ → Type 0
IsFinishIn engine phase.Rest before after outcome text = (after ≡ before) × (outcome ≡ Answered) × (text ≡ nothing_to_finish)
IsFinishIn engine other before after outcome text = AreRounds engine before after outcome text

abbrev pub IsFinish : {D : Type 0} → (Event → WorldModel D → WorldModel D → Option Told → Bool → Type 0) → PlayerState D → PlayerState D → Outcome → List ℕ → Type 0
IsFinish engine before after outcome text = IsFinishIn engine (phase_shown before.world.now).0 before after outcome text
