-- A call's end is told just where its machine is at rest.
use Rattle.std.proofs.Common.{◌≡◌, sym, subst, true, false, Bool, refl}
use Rattle.std.specs.Prelude.{List, None, Some}
use Rattle.fkv_base.specs.declared.shapes.Shape.{Shape}
use Rattle.fkv_keeper.specs.Answers.{IsAsked}
use Rattle.fkv_keeper.specs.declared.answers.KeeperAsk.{KeeperAsk}
use Rattle.fkv_keeper.specs.declared.keepers.Keeping.{Keeping}
use Rattle.fkv_keeper.specs.declared.keepers.Keeping.TheVariants.{Ended}
use Rattle.fkv_keeper.specs.KeeperRun.{is_in_hand}
use Rattle.fkv_keeper.specs.Keeping.{KeeperState, keeping_ask}
use Rattle.fkv_plane.specs.declared.places.Places.{Places}
use Rattle.fkv_plane.specs.declared.asks.Ask.{Ask}
use Rattle.fkv_plane.specs.declared.asks.Ask.TheVariants.{Done}
use Rattle.fkv_session.specs.declared.answers.Answer.{Answer}
use Rattle.fkv_session.specs.declared.answers.Finished.{Finished}
use Rattle.fkv_session.specs.declared.sessions.Sitting.{Sitting}
use Rattle.fkv_session.specs.declared.sessions.Sitting.TheVariants.{Idle}
use Rattle.fkv_session.specs.declared.answers.Told.{Told}
use Rattle.fkv_session.specs.Answers.{IsAnswerTold}
use Rattle.fkv_session.specs.Sessions.{Seat, SessionState, is_busy, sitting_ask}
use Rattle.fkv_core.specs.Told.{IsSittingTold, IsKeepingTold, keeper_told}

pub busy_told : (was : Bool) (step : Sitting) (finished : List Finished) → is_busy step ≡ true → IsSittingTold was step finished None
busy_told true (Idle its) finished busy = cc
busy_told true step finished busy = refl
busy_told false step finished busy = refl

pub idle_told : (k : Seat) (s : SessionState) (step : Sitting) (finished : List Finished) (its : Told) (answer : Answer) → is_busy step ≡ false → sitting_ask k s step ≡ Done its → IsAnswerTold its finished answer → IsSittingTold true step finished (Some answer)
unfolding sitting_ask
idle_told k s (Idle it) finished its answer idle asks told = (answer, refl, subst (λ (ask : Ask Told). IsTold ask finished answer) (sym asks) told)
  where
    IsTold : Ask Told → List Finished → Answer → Type 0
    IsTold (Done it) finished answer = IsAnswerTold it finished answer
    IsTold ask finished answer = ⊥
idle_told k s step finished its answer idle asks told = cc

-- at rest it says what it was told
pub idle_asks : (k : Seat) (s : SessionState) (step : Sitting) → is_busy step ≡ false → (its : Told) × (sitting_ask k s step ≡ Done its)
unfolding sitting_ask
idle_asks k s (Idle its) idle = (its, refl)
idle_asks k s step idle = cc

pub in_hand_told : (was : Bool) (step : Keeping) (s : KeeperState) → is_in_hand step ≡ true → IsKeepingTold was step s None
in_hand_told true (Ended its) s busy = cc
in_hand_told true step s busy = refl
in_hand_told false step s busy = refl

-- at rest it asks for nothing, and says what it has come to
pub ended_told : (shape : Shape) (p : Places) (s : KeeperState) (step : Keeping) (next : KeeperAsk) → is_in_hand step ≡ false → IsAsked s.last (keeping_ask shape p s step) next → IsKeepingTold true step s (keeper_told next)
unfolding keeping_ask
ended_told shape p s (Ended its) next idle told = (next, told, refl)
ended_told shape p s step next idle told = cc
