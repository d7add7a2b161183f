-- A session that has told no effect in its last events tells none behind them.
use Rattle.std.proofs.Common.{◌≡◌, suc, ◌≤◌, ◌∙◌, refl, ap, arith, List, [], ◌∷◌, ◌++◌, length}
use Rattle.std.specs.Prelude.{⊤, Option, Some, None}
use Rattle.fkv_map.specs.declared.history.HistoryEntry.{HistoryEntry}
use Rattle.fkv_plane.specs.declared.actions.Action.{Action}
use Rattle.law_opening.specs.Below.fkv_session.Replies.{effects_told, with_effect}
use Rattle.law_opening.specs.Below.fkv_session.SessionRun.{SessionEvent, Begins, Replies, Gets, session_happens, session_run}
use Rattle.law_opening.specs.Below.fkv_session.Sessions.{SessionState, Seat, sitting_given}
use Rattle.law_opening.specs.Below.fkv_session.Sitting.{Sitting}
use Rattle.law_opening.specs.Below.fkv_session.Sitting.TheVariants.{Turns}
use Rattle.law_opening.proofs.Below.law_world.OfRuns.EffectStays.{turn_keeps}

-- some reply, and behind it nothing but actions that it gets; the newest first
abbrev pub HaveReply : List SessionEvent → Type 0
HaveReply [] = ⊥
HaveReply (Begins its ∷ before) = ⊥
HaveReply (Replies reply ∷ before) = ⊤
HaveReply (Gets action ∷ before) = HaveReply before

-- an action makes no effect, and leaves the one that is told
given_keeps : (k : Seat) (s : SessionState) (step : Sitting) (action : Action) → (sitting_given k s step action).effect ≡ s.effect
unfolding sitting_given
given_keeps k s (Turns its) action = turn_keeps _ its _
given_keeps k s step action = refl

module _ (k : Seat) (first : SessionState) (before : List SessionEvent) where
  more : (found : Option HistoryEntry) (effects : List HistoryEntry) → length effects ≤ length (with_effect found effects)
  more None effects = omega arith
  more (Some its) effects = omega arith

  no_fewer : (later : List SessionEvent) → length (effects_told k first before) ≤ length (effects_told k first (later ++ before))
  unfolding effects_told
  no_fewer [] = omega arith
  no_fewer (Begins its ∷ later) = no_fewer later
  no_fewer (Replies reply ∷ later) =
      let grown = more (session_run k first (Replies reply ∷ later ++ before)).effect (effects_told k first (later ++ before)) in
      let fewer = no_fewer later in
      omega (arith, grown, fewer)
  no_fewer (Gets action ∷ later) = no_fewer later

  none_made : (found : Option HistoryEntry) (effects were : List HistoryEntry) → length were ≤ length effects → with_effect found effects ≡ were → found ≡ None
  none_made None effects were enough same = refl
  none_made (Some its) effects were enough same =
      let longer : suc (length effects) ≡ length were = ap length same in
      absurd (omega (arith, longer, enough))

  pub quiet : (later : List SessionEvent) → HaveReply later → effects_told k first (later ++ before) ≡ effects_told k first before → (session_run k first (later ++ before)).effect ≡ None
  unfolding effects_told session_run session_happens
  quiet [] its same = absurd its
  quiet (Begins call ∷ later) its same = absurd its
  quiet (Replies reply ∷ later) its same =
      none_made (session_happens k (session_run k first (later ++ before)) (Replies reply)).effect (effects_told k first (later ++ before)) (effects_told k first before) (no_fewer later) same
  quiet (Gets action ∷ later) its same =
      given_keeps k (session_run k first (later ++ before)) (session_run k first (later ++ before)).step action ∙ quiet later its same
