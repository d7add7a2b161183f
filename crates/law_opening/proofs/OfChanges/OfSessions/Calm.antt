-- A session that is idle, or makes a turn of its own, attempts nothing by its step: what is known of its requests stays, with whatever it does at a drain slot.
use Rattle.std.proofs.Common.{◌≡◌, ℕ, ◌∙◌, refl, sym, ap, Bool, true, false}
use Rattle.std.specs.Prelude.{Option, Some, None}
use Rattle.fkv_plane.specs.declared.actions.Action.{Action}
use Rattle.fkv_plane.specs.declared.asks.Ask.{Ask}
use Rattle.fkv_plane.specs.declared.asks.Ask.TheVariants.{Put, Take, Done}
use Rattle.fkv_plane.specs.Asked.{reply_to}
use Rattle.fkv_plane.specs.Plane.{action_at}
use Rattle.law_refine.specs.Below.fkv_pending.PendingRequest.{PendingRequest}
use Rattle.law_refine.specs.Below.fkv_pending.Attempting.{AttemptState}
use Rattle.law_refine.specs.Below.fkv_session.Told.{Told}
use Rattle.law_refine.specs.Below.fkv_session.Sitting.{Sitting}
use Rattle.law_refine.specs.Below.fkv_session.Sitting.TheVariants.{Idle, Attempts, CatchesUp, Polls, Turns}
use Rattle.law_refine.specs.Below.fkv_session.OwnTurns.{own_turn_ask}
use Rattle.law_refine.specs.Below.fkv_session.Sessions.{SessionState, Seat, asks_after, is_busy, is_word_ask, own_turn_moved, session_ask, session_next, sitting_next, turn_ledto}
use Rattle.law_refine.specs.Below.law_world.GuardSessions.Followed.{is_turning}
use Rattle.law_refine.specs.Below.law_local.Sessions.Known.{KnowsRequests, is_attempting, is_polling}
use Rattle.law_refine.proofs.Below.law_local.OfSessions.Known.{given_known, next_known}
use Rattle.law_refine.specs.Below.fkv_world.Moves.{Near, session_asks, session_gets, session_replied, session_settled}

-- it is idle, or makes a turn of its own
abbrev pub is_calm : Sitting → Bool
is_calm (Idle its) = true
is_calm (Turns its) = true
is_calm step = false

calm_still : (step : Sitting) → is_calm step ≡ true → is_attempting step ≡ false
calm_still (Idle its) calm = refl
calm_still (Turns its) calm = refl
calm_still step calm = cc

calm_none : (step : Sitting) → is_calm step ≡ true → is_polling step ≡ false
calm_none (Idle its) calm = refl
calm_none (Turns its) calm = refl
calm_none step calm = cc

never : {X : Type 0} → false ≡ true → X
never e = cc

pub not_calm : (step : Sitting) → is_calm step ≡ false → (is_busy step ≡ true) × (is_turning step ≡ false)
not_calm (Idle its) e = cc
not_calm (Turns its) e = cc
not_calm step e = (refl, refl)

-- ---- it stays so
pub turned_calm : (s : SessionState) (its : Told) (ask : Ask (Unit {0})) → s.step ≡ Turns its → is_calm (turn_ledto s its ask).step ≡ true
unfolding turn_ledto
turned_calm s its (Done through) at = refl
turned_calm s its ask at = ap is_calm at

sitting_calm : (k : Seat) (s : SessionState) (asks : ℕ) (step : Sitting) (reply : ℕ) → s.step ≡ step → is_calm step ≡ true → is_calm (sitting_next k (record s { asks = asks; effect = None }) step reply).step ≡ true
unfolding sitting_next
sitting_calm k s asks (Idle its) reply at calm = ap is_calm at
sitting_calm k s asks (Turns its) reply at calm =
    let moved : SessionState = own_turn_moved k (record s { asks = asks; effect = None }) reply in
    turned_calm moved its (own_turn_ask k.shape moved.own_turn) at
sitting_calm k s asks step reply at calm = cc

pub next_calm : (k : Seat) (s : SessionState) (reply : ℕ) → is_calm s.step ≡ true → is_calm (session_next k s reply).step ≡ true
next_calm k s reply calm = sitting_calm k s (asks_after s.asks (is_word_ask (session_ask k s))) s.step reply refl calm

-- ---- and what is known stays
module _ (P : PendingRequest → Type 0) (Q : AttemptState → Type 0) where
  -- it is calm, and its requests are known so
  abbrev IsCalmly : SessionState → Type 0
  IsCalmly s = (is_calm s.step ≡ true) × KnowsRequests P Q s

  no_attempt : {X : Type 0} (s : SessionState) → is_calm s.step ≡ true → is_attempting s.step ≡ true → X
  no_attempt s calm attempts = never (sym (calm_still s.step calm) ∙ attempts)

  no_poll : {X : Type 0} (s : SessionState) → is_calm s.step ≡ true → is_polling s.step ≡ true → X
  no_poll s calm polls = never (sym (calm_none s.step calm) ∙ polls)

  no_other : {X : Type 0} (s : SessionState) (step : Sitting) → is_calm s.step ≡ true → s.step ≡ step → is_calm step ≡ false → X
  no_other s step calm at other = never (sym other ∙ (ap is_calm (sym at) ∙ calm))

  next_calmly : (k : Seat) (s : SessionState) (reply : ℕ) → IsCalmly s → IsCalmly (session_next k s reply)
  next_calmly k s reply its = (
    next_calm k s reply its.0,
    next_known P P Q Q k s reply its.1
        (record {
          waits = λ pending knows. knows;
          attempts = λ attempting knows. no_attempt s its.0 attempting;
          accepts = λ has_shifted told at comes accepted after. no_other s (Attempts has_shifted) its.0 at refl;
          keeps = λ index told at comes waits after. no_other s (Polls index) its.0 at refl;
          hands_over = λ polling. no_poll s its.0 polling;
          begins_anew = λ told at done. no_other s _ its.0 at refl;
          latches = λ cause pending at knows. no_other s (CatchesUp cause) its.0 at refl;
        }),
  )

  gets_known : (k : Seat) (s : SessionState) (found : Option Action) → KnowsRequests P Q s → KnowsRequests P Q (session_gets k s found)
  gets_known k s None knows = knows
  gets_known k s (Some action) knows = given_known P Q k s action knows

  settled_known : (k : Seat) (n : Near SessionState) (ask : Ask Told) → IsCalmly n.machine → KnowsRequests P Q (session_settled k n ask).machine
  unfolding session_settled
  settled_known k n (Put slot action) its = (next_calmly k n.machine 0 its).1
  settled_known k n (Take slot) its = gets_known k n.machine (action_at n.actions slot) its.1
  settled_known k n ask its = its.1

  asks_known : (k : Seat) (n : Near SessionState) (ask : Ask Told) → IsCalmly n.machine → KnowsRequests P Q (session_asks k n ask).machine
  unfolding session_asks
  asks_known k n (Done told) its = its.1
  asks_known k n (Put slot action) its = settled_known k n (Put slot action) its
  asks_known k n (Take slot) its = settled_known k n (Take slot) its
  asks_known k n ask its = settled_known k (session_replied k n ask) (session_ask k (session_replied k n ask).machine) (next_calmly k n.machine (reply_to n.words ask) its)

  pub calm_known : (k : Seat) (n : Near SessionState) → is_calm n.machine.step ≡ true → KnowsRequests P Q n.machine → KnowsRequests P Q (session_asks k n (session_ask k n.machine)).machine
  calm_known k n calm knows = asks_known k n (session_ask k n.machine) (calm, knows)
