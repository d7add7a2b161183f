-- Two sessions that begin a run with the same lasting are told the same in it.
use Rattle.std.proofs.Common.{◌≡◌, ℕ, ◌∙◌, refl, sym, ap, subst, Bool, true, false, List, [], ◌∷◌, ◌⊎◌, inl, inr}
use Rattle.std.specs.Prelude.{None, if◌then◌else◌}
use Rattle.fkv_map.specs.declared.operations.Call.{Call}
use Rattle.fkv_plane.specs.declared.actions.Action.{Action}
use Rattle.fkv_session.specs.declared.answers.Finished.{Finished}
use Rattle.fkv_session.specs.declared.sessions.Sitting.{Sitting}
use Rattle.fkv_session.specs.declared.sessions.Sitting.TheVariants.{Idle}
use Rattle.fkv_session.specs.Alike.{Lasting, StandAlike, lasting}
use Rattle.fkv_session.specs.SessionRun.{SessionEvent, Begins, Replies, Gets, Telling, answered, begins, is_calling, session_happens, session_run, tellings, told_after}
use Rattle.fkv_session.specs.Sessions.{Seat, SessionState, is_busy, sitting_given, sitting_next}
use Rattle.fkv_session.proofs.StandAlike.{begun_same, given_same, next_same, same_lasting, same_step}

-- no call is in hand, and the same lasts
record RestAlike (s t : SessionState) : Type 0 where
  pub one : is_busy s.step ≡ false
  pub other : is_busy t.step ≡ false
  pub lasts : lasting s ≡ lasting t

-- between two calls what the last was told may differ
abbrev GoAlike : SessionState → SessionState → Type 0
GoAlike s t = StandAlike s t ⊎ RestAlike s t

busy_alike : (s t : SessionState) → GoAlike s t → is_busy s.step ≡ is_busy t.step
busy_alike s t (inl alike) = ap is_busy (same_step s t alike)
busy_alike s t (inr rest) = rest.one ∙ sym rest.other

lasts_of : (s t : SessionState) → GoAlike s t → lasting s ≡ lasting t
lasts_of s t (inl alike) = same_lasting s t alike
lasts_of s t (inr rest) = rest.lasts

-- a reply or an action to a session at rest leaves it so
IsStill : SessionState → SessionState → Type 0
IsStill s after = (is_busy after.step ≡ false) × (lasting after ≡ lasting s)

next_rests : (k : Seat) (s : SessionState) (asks : ℕ) (step : Sitting) (reply : ℕ) → s.step ≡ step → is_busy step ≡ false → IsStill s (sitting_next k (record s { asks = asks; effect = None }) step reply)
unfolding IsStill lasting sitting_next
next_rests k s asks (Idle its) reply e rest = (ap is_busy e, refl)
next_rests k s asks step reply e rest = cc

given_rests : (k : Seat) (s : SessionState) (step : Sitting) (action : Action) → s.step ≡ step → is_busy step ≡ false → IsStill s (sitting_given k s step action)
unfolding IsStill sitting_given
given_rests k s (Idle its) action e rest = (ap is_busy e, refl)
given_rests k s step action e rest = cc

both_rest : (s t after later : SessionState) → RestAlike s t → IsStill s after → IsStill t later → RestAlike after later
unfolding IsStill
both_rest s t after later rest one other = record { one = one.0; other = other.0; lasts = one.1 ∙ (rest.lasts ∙ sym other.1) }

begins_alike : (k : Seat) (s t : SessionState) (its : Call) (busy : Bool) → GoAlike s t → GoAlike (begins k s busy its) (begins k t busy its)
begins_alike k s t its true go = go
begins_alike k s t its false go = inl (begun_same k s t its (lasts_of s t go))

happens_alike : (k : Seat) (s t : SessionState) (event : SessionEvent) → GoAlike s t → GoAlike (session_happens k s event) (session_happens k t event)
unfolding session_happens
happens_alike k s t (Begins its) go = subst (λ (b : Bool). GoAlike (begins k s (is_busy s.step) its) (begins k t b its)) (busy_alike s t go) (begins_alike k s t its (is_busy s.step) go)
happens_alike k s t (Replies reply) (inl alike) = inl (next_same k s t reply alike)
happens_alike k s t (Replies reply) (inr rest) = inr (both_rest s t _ _ rest (next_rests k s _ s.step reply refl rest.one) (next_rests k t _ t.step reply refl rest.other))
happens_alike k s t (Gets action) (inl alike) = inl (given_same k s t action alike)
happens_alike k s t (Gets action) (inr rest) = inr (both_rest s t _ _ rest (given_rests k s s.step action refl rest.one) (given_rests k t t.step action refl rest.other))

run_alike : (k : Seat) (s t : SessionState) (events : List SessionEvent) → GoAlike s t → GoAlike (session_run k s events) (session_run k t events)
unfolding session_run
run_alike k s t [] go = go
run_alike k s t (event ∷ before) go = happens_alike k _ _ event (run_alike k s t before go)

-- where a call ends, or begins, the two stand alike
calling_alike : (s t : SessionState) (event : SessionEvent) → GoAlike s t → is_calling s event ≡ is_calling t event
calling_alike s t (Begins its) go = ap (λ (b : Bool). if b then false else true) (busy_alike s t go)
calling_alike s t (Replies reply) go = busy_alike s t go
calling_alike s t (Gets action) go = busy_alike s t go

begins_stand : (k : Seat) (s t : SessionState) (its : Call) (busy : Bool) → (if busy then false else true) ≡ true → GoAlike s t → StandAlike (begins k s busy its) (begins k t busy its)
begins_stand k s t its true calls go = cc
begins_stand k s t its false calls go = begun_same k s t its (lasts_of s t go)

calls_stand : (k : Seat) (s t : SessionState) (event : SessionEvent) → is_calling s event ≡ true → GoAlike s t → StandAlike (session_happens k s event) (session_happens k t event)
unfolding session_happens
calls_stand k s t (Begins its) calls go = subst (λ (b : Bool). StandAlike (begins k s (is_busy s.step) its) (begins k t b its)) (busy_alike s t go) (begins_stand k s t its (is_busy s.step) calls go)
calls_stand k s t (Replies reply) calls (inl alike) = next_same k s t reply alike
calls_stand k s t (Replies reply) calls (inr rest) = let clash : true ≡ false = sym calls ∙ rest.one in cc
calls_stand k s t (Gets action) calls (inl alike) = given_same k s t action alike
calls_stand k s t (Gets action) calls (inr rest) = let clash : true ≡ false = sym calls ∙ rest.one in cc

same_finished : (s t : SessionState) → StandAlike s t → s.finished ≡ t.finished
unfolding lasting
same_finished s t alike = ap (λ (l : Lasting). l.finished) (same_lasting s t alike)

told_alike : (calls : Bool) (s t : SessionState) (told : List Telling) → (calls ≡ true → StandAlike s t) → told_after calls s told ≡ told_after calls t told
told_alike true s t told stand =
    ap (λ (step : Sitting). answered step s.finished told) (same_step s t (stand refl)) ∙ ap (λ (list : List Finished). answered t.step list told) (same_finished s t (stand refl))
told_alike false s t told stand = refl

tellings_alike : (k : Seat) (s t : SessionState) (events : List SessionEvent) → GoAlike s t → tellings k s events ≡ tellings k t events
unfolding tellings session_run
tellings_alike k s t [] go = refl
tellings_alike k s t (event ∷ before) go =
    let x : SessionState = session_run k s before in
    let y : SessionState = session_run k t before in
    let here : GoAlike x y = run_alike k s t before go in
    told_alike (is_calling x event) (session_happens k x event) (session_happens k y event) (tellings k s before) (λ calls. calls_stand k x y event calls here)
    ∙ ap (λ (told : List Telling). told_after (is_calling x event) (session_happens k y event) told) (tellings_alike k s t before go)
    ∙ ap (λ (calls : Bool). told_after calls (session_happens k y event) (tellings k t before)) (calling_alike x y event here)

pub answered_alike : (k : Seat) (s t : SessionState) (events : List SessionEvent) → is_busy s.step ≡ false → is_busy t.step ≡ false → lasting s ≡ lasting t → tellings k s events ≡ tellings k t events
answered_alike k s t events one other lasts = tellings_alike k s t events (inr (record { one = one; other = other; lasts = lasts }))
