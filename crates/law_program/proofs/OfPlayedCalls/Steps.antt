-- A step of a session in the world, and the answer that it tells.
use Rattle.std.proofs.Common.{◌≡◌, ◌∙◌, ℕ, List, ◌∷◌, Bool, true, false, ap, refl, sym, subst}
use Rattle.std.specs.Prelude.{Option, Some, None, if◌then◌else◌, slice_get}
use Rattle.law_order.specs.Below.fkv_core.Told.{IsSessionEnd, IsSittingTold, IsTold, may_begin, may_move, numbered}
use Rattle.law_order.specs.Below.fkv_core.Worlds.{WorldModel}
use Rattle.law_order.specs.Below.fkv_core.Event as events
use Rattle.law_order.specs.Below.fkv_core.TheTold as tells
use Rattle.law_order.specs.Below.fkv_core.TheTold.TheVariants as told
use Rattle.fkv_disk.specs.Kinds.{Foretold, Kind}
use Rattle.fkv_epoch.proofs.Shown.{none_some, some_same}
use Rattle.fkv_map.specs.declared.operations.Call.{Call}
use Rattle.fkv_runs.specs.Below.fkv_playing.Beats.{event_of}
use Rattle.fkv_runs.specs.Below.fkv_playing.Players.{EngineStep}
use Rattle.fkv_runs.specs.Below.fkv_playing.ActorCall.TheVariants.{Session}
use Rattle.fkv_runs.specs.Below.fkv_playing.Stage.{Stage}
use Rattle.fkv_runs.specs.Below.fkv_playing.Stage.TheVariants as stage
use Rattle.law_order.specs.Below.fkv_session.Answers.{IsAnswerTold}
use Rattle.law_order.specs.Below.fkv_session.Sessions.{SessionState}
use Rattle.law_order.specs.Below.fkv_session.Answer.{Answer}
use Rattle.law_order.specs.Below.fkv_session.Told.{Told}
use Rattle.law_order.specs.Below.fkv_session.Sitting.{Sitting}
use Rattle.law_order.specs.Below.fkv_session.Sitting.TheVariants.{Idle}
use Rattle.law_order.specs.Below.fkv_world.Runs.{World, run}
use Rattle.law_order.specs.Below.fkv_world.World.{Calls, Event, Moves, Now, happens_now, life_goes, session_calls, session_moves}

-- the event of a session's call at each stage
abbrev pub stage_event : Stage → ℕ → Call → Event
stage_event stage.Begins number call = Calls number call
stage_event stage.Moves number call = Moves number

-- What is needed of a step: where its event leads, and what it tells.
pub record IsRuled (event : Event) (n after : Now) (told : Option tells.Told) : Type 0 where
  pub read : List ℕ
  pub now : after ≡ happens_now n read event
  pub tells : IsTold n.crashed n after event told

-- each step of a session's call over this engine
abbrev pub GoesByRules : {D : Type 0} → (events.Event → WorldModel D → WorldModel D → Option tells.Told → Bool → Type 0) → Type 0
GoesByRules {D} engine =
    (sweeps : Bool) (at : Stage) (number : ℕ) (call : Call) (world after : WorldModel D) (told : Option tells.Told) (broken : Bool) → engine (event_of sweeps at (Session number call)) world after told broken
    → IsRuled (stage_event at number call) world.now after.now told

pub engine_rules : {D : Type 0} (honest : D → Type 0) (seen : D → List ℕ) (may_leave : D → List ℕ → Type 0) (failed : D → ℕ) (refuses : D → ℕ → Bool) (expects : D → List Kind → Foretold) (broken : D → Bool)
    → GoesByRules (EngineStep honest seen may_leave failed refuses expects broken)
engine_rules honest seen may_leave failed refuses expects broken sweeps stage.Begins number call world after told is_broken step = record { read = step.0.read; now = step.0.now; tells = step.0.tells }
engine_rules honest seen may_leave failed refuses expects broken sweeps stage.Moves number call world after told is_broken step = record { read = step.0.read; now = step.0.now; tells = step.0.tells }

-- ---- where it leads
-- whatever the device reads as, a session's step leads to the same world
one_way : (at : Stage) (number : ℕ) (call : Call) (n : Now) (read other : List ℕ) → happens_now n read (stage_event at number call) ≡ happens_now n other (stage_event at number call)
unfolding life_goes
one_way stage.Begins number call n read other = refl
one_way stage.Moves number call n read other = refl

pub led_on : (at : Stage) (number : ℕ) (call : Call) (opening : World) (before : List Event) (n after : Now) (told : Option tells.Told) → (run opening before).now ≡ n
    → IsRuled (stage_event at number call) n after told → (run opening (stage_event at number call ∷ before)).now ≡ after
unfolding run
led_on at number call opening before n after told shows ruled =
    one_way at number call (run opening before).now _ ruled.read ∙ (ap (λ (x : Now). happens_now x ruled.read (stage_event at number call)) shows ∙ sym ruled.now)

-- ---- what it tells
-- the session of this number has just been answered so, in a life that goes on
pub record IsAnsweredNow (number : ℕ) (after : Now) (said : tells.Told) : Type 0 where
  pub alive : after.crashed ≡ false
  pub s : SessionState
  pub found : slice_get after.sessions number ≡ Some s
  pub its : Told
  pub at_rest : s.step ≡ Idle its
  pub answer : Answer
  pub is_told : IsAnswerTold its s.finished answer
  pub same : said ≡ told.Session number answer

sitting_said : (number : ℕ) (after : Now) (s : SessionState) (was_busy : Bool) (step : Sitting) (given : Option Answer) (said : tells.Told) → after.crashed ≡ false → slice_get after.sessions number ≡ Some s
    → s.step ≡ step → IsSittingTold was_busy step s.finished given → Some said ≡ numbered number given → IsAnsweredNow number after said
sitting_said number after s true (Idle its) given said alive found at so same =
    record { alive = alive; s = s; found = found; its = its; at_rest = at; answer = so.0; is_told = so.2; same = some_same _ _ (same ∙ ap (numbered number) so.1) }
sitting_said number after s was_busy step given said alive found at so same = none_some said (sym (same ∙ ap (numbered number) so))

session_said : (number : ℕ) (ends : SessionState → Bool) (was is : Option SessionState) (after : Now) (said : tells.Told) → after.crashed ≡ false → slice_get after.sessions number ≡ is
    → IsSessionEnd number ends was is (Some said) → IsAnsweredNow number after said
session_said number ends (Some s) (Some t) after said alive found so = sitting_said number after t (ends s) t.step so.answer said alive found refl so.its so.numbered_so
session_said number ends was is after said alive found so = none_some said (sym so)

-- a session's step crashes nothing
called_alive : (n : Now) (number : ℕ) (call : Call) (found : Option SessionState) → (session_calls n number call found).crashed ≡ n.crashed
called_alive n number call None = refl
called_alive n number call (Some s) = refl

moved_alive : (n : Now) (number : ℕ) (found : Option SessionState) → (session_moves n number found).crashed ≡ n.crashed
moved_alive n number None = refl
moved_alive n number (Some s) = refl

goes_alive : (at : Stage) (number : ℕ) (call : Call) (n : Now) (read : List ℕ) → (life_goes n read (stage_event at number call)).crashed ≡ n.crashed
unfolding life_goes
goes_alive stage.Begins number call n read = called_alive n number call (slice_get n.sessions number)
goes_alive stage.Moves number call n read = moved_alive n number (slice_get n.sessions number)

stays_alive : (at : Stage) (number : ℕ) (call : Call) (n after : Now) (read : List ℕ) → n.crashed ≡ false → after ≡ happens_now n read (stage_event at number call) → after.crashed ≡ false
stays_alive at number call n after read alive led =
    ap (λ (x : Now). x.crashed) led
    ∙ (ap (λ (c : Bool). (if c then n else life_goes n read (stage_event at number call)).crashed) alive ∙ (goes_alive at number call n read ∙ alive))

event_said : (at : Stage) (number : ℕ) (call : Call) (n after : Now) (said : tells.Told) → after.crashed ≡ false → IsTold false n after (stage_event at number call) (Some said) → IsAnsweredNow number after said
event_said stage.Begins number call n after said alive so = session_said number may_begin (slice_get n.sessions number) (slice_get after.sessions number) after said alive refl so
event_said stage.Moves number call n after said alive so = session_said number may_move (slice_get n.sessions number) (slice_get after.sessions number) after said alive refl so

-- where a step tells anything, it tells the session its answer
pub answered_now : (at : Stage) (number : ℕ) (call : Call) (n after : Now) (said : tells.Told) → IsRuled (stage_event at number call) n after (Some said) → IsAnsweredNow number after said
answered_now at number call n after said ruled = by_crash n.crashed refl
  where
    by_crash : (crashed : Bool) → n.crashed ≡ crashed → IsAnsweredNow number after said
    by_crash true over = none_some said (sym (subst (λ (c : Bool). IsTold c n after (stage_event at number call) (Some said)) over ruled.tells))
    by_crash false alive =
        event_said at number call n after said (stays_alive at number call n after ruled.read alive ruled.now)
        (subst (λ (c : Bool). IsTold c n after (stage_event at number call) (Some said)) alive ruled.tells)
