-- The stall, event by event: what the law must allow, and does.
use Rattle.std.specs.Prelude.{◌≡◌, ℕ, List, [], ◌∷◌, ◌++◌, replicate, slice_get, Some}
use Rattle.fkv_plane.specs.declared.actions.Action.{Action}
use Rattle.fkv_plane.specs.declared.actions.Action.TheVariants.{Close}
use Rattle.fkv_epoch.specs.declared.protecting.Protecting.TheVariants as protect
use Rattle.fkv_epoch.specs.EpochWorld.{Protects, EpochEvent, Begins, Resumes, Puts, Moves, ToProtect, ToLeave, ToScan, ToClaim, ToRaise, EpochWorld, own_epoch, safe_of}

-- one session, as it is opened: the epoch is 1, and so is the session's
abbrev pub stall_words : List ℕ
stall_words = 1 ∷ replicate 23 0 ++ 1 ∷ replicate 15 0

abbrev pub closes : Action
closes = Close (record { 0 = 4 })

-- The session, actor 0, leaves, protects itself, loads the epoch as 1 and stalls. Actor 1 raises the epoch from 1, arms an action at 1
-- and scans, and 1 is safe. The session stores 1. Actor 1 claims, and runs the action. (The newest event stands first.)
abbrev pub stall : List EpochEvent
stall =
    Moves 1 ∷ Moves 1 ∷ Moves 1 ∷ Moves 1 ∷ Begins 1 ToClaim
    ∷ Moves 0
    ∷ Moves 1 ∷ Moves 1 ∷ Moves 1 ∷ Begins 1 ToScan
    ∷ Moves 1 ∷ Puts 1 closes ∷ Moves 1 ∷ Resumes 1 ∷ Moves 1 ∷ Moves 1 ∷ Moves 1 ∷ Begins 1 ToRaise
    ∷ Moves 0 ∷ Begins 0 ToProtect ∷ Moves 0 ∷ Begins 0 ToLeave ∷ []

-- The session is protected by an epoch that is safe, with nothing loaded since, and the action has run.
pub record HasStalled (w : EpochWorld) : Type 0 where
  pub stored_late : own_epoch w.now.words 0 ≡ 1
  pub already_safe : safe_of w.now.words ≡ 1
  pub yet_to_load : slice_get w.now.actors 0 ≡ Some (Protects protect.LoadsPhase)
  pub has_run : w.past.runs ≡ record { actor = 1; slot = 0; epoch = 1; action = closes } ∷ []
