-- A session tells what is durable by the load of its durable word alone.
use Rattle.std.proofs.Common.{◌≡◌, ℕ, ◌∙◌, List, [], ◌∷◌, refl, ap, sym, subst, Bool, true, false}
use Rattle.std.specs.Prelude.{⊤, None}
use Rattle.fkv_base.specs.declared.numbers.Serial.{Serial}
use Rattle.fkv_map.specs.declared.operations.Call.{Call}
use Rattle.fkv_plane.specs.declared.actions.Action.{Action}
use Rattle.fkv_epoch.specs.Leaving.{leave_next}
use Rattle.law_refine.specs.Below.fkv_pending.Mailing.{mail_next}
use Rattle.law_refine.specs.Below.fkv_session.Told.{Told}
use Rattle.law_refine.specs.Below.fkv_session.Told.TheVariants as told
use Rattle.law_refine.specs.Below.fkv_session.Sitting.{Sitting}
use Rattle.law_refine.specs.Below.fkv_session.Sitting.TheVariants.{Idle, Attempts, CatchesUp, ClearsMail, Polls, StoresOwing, Turns, StoresCut, Leaves, LoadsDurable}
use Rattle.law_refine.specs.Below.fkv_session.OwnTurns.{own_turn_given}
use Rattle.law_refine.specs.Below.fkv_session.Sessions.{IsOpened, SessionState, Seat, asks_after, attempt_moved, attempts, caught, is_busy, is_word_ask, own_turn_moved, session_ask, session_begun, shifts, sitting_given, sitting_next}
use Rattle.law_refine.specs.Below.fkv_session.SessionRun.{Begins, Gets, Replies, SessionEvent, begins, session_happens, session_run}
use Rattle.law_commit.proofs.SessionSteps.{HoldsBegun, IsOther, attempt_holds, begun_holds, catch_holds, clear_holds, leave_holds, poll_holds, polls_hold, turned_holds}

-- ---- what isn't told of durable words
abbrev pub OtherAt : Sitting → Type 0
OtherAt (Idle its) = IsOther its
OtherAt (Turns its) = IsOther its
OtherAt step = ⊤

abbrev Other : SessionState → Type 0
Other s = OtherAt s.step

stays : (s : SessionState) (step : Sitting) → s.step ≡ step → OtherAt step → Other s
stays s step at its = subst OtherAt (sym at) its

-- ---- where a reply and a call lead
attempts_other : (k : Seat) (s : SessionState) (has_shifted : Bool) → Other (attempts k s has_shifted)
unfolding attempts
attempts_other k s has_shifted = tt

shifted_other : (s : SessionState) → Other (shifts s false)
unfolding shifts
shifted_other s = tt

begun : (k : Seat) → HoldsBegun k (λ s step. OtherAt step)
begun k = record { answered = λ s its other. other; turns = λ s its other. other; tries = λ s has_shifted. attempts_other k s has_shifted; polls = λ s index pending. tt; shifted = λ s. shifted_other s; owes = λ s index. tt }

-- ---- a reply, but to the load of the durable word
abbrev IsMoving : Sitting → Type 0
IsMoving (Idle its) = ⊥
IsMoving LoadsDurable = ⊥
IsMoving step = ⊤

abbrev TurnAt : Sitting → Type 0
TurnAt (Turns its) = IsOther its
TurnAt step = ⊤

replied_other : (k : Seat) (s : SessionState) (asks : ℕ) (step : Sitting) (reply : ℕ) → s.step ≡ step → IsMoving step → TurnAt step → Other (sitting_next k (record s { asks = asks; effect = None }) step reply)
unfolding sitting_next
replied_other k s asks (Idle its) reply at moving turn = absurd moving
replied_other k s asks (Attempts has_shifted) reply at moving turn = attempt_holds k (λ s step. OtherAt step) (begun k) (attempt_moved k (record s { asks = asks; effect = None }) reply) has_shifted _ at tt
replied_other k s asks (CatchesUp cause) reply at moving turn = catch_holds k (λ s step. OtherAt step) (begun k) (caught k (record s { asks = asks; effect = None }) reply) cause _ at tt
replied_other k s asks ClearsMail reply at moving turn = clear_holds k (λ s step. OtherAt step) (begun k) (record s { asks = asks; effect = None; mailing = mail_next s.mailing reply }) _ at tt
replied_other k s asks (Polls i) reply at moving turn = poll_holds k (λ s step. OtherAt step) (begun k) (attempt_moved k (record s { asks = asks; effect = None }) reply) i _ at tt
replied_other k s asks (StoresOwing i) reply at moving turn = polls_hold k (λ s step. OtherAt step) (begun k) (record s { asks = asks; effect = None }) i
replied_other k s asks (Turns its) reply at moving turn = turned_holds k (λ s step. OtherAt step) (begun k) (own_turn_moved k (record s { asks = asks; effect = None }) reply) its _ at turn turn
replied_other k s asks StoresCut reply at moving turn = tt
replied_other k s asks Leaves reply at moving turn = leave_holds k (λ s step. OtherAt step) (begun k) (record s { asks = asks; effect = None; leaving = leave_next s.leaving }) _ at tt
replied_other k s asks LoadsDurable reply at moving turn = absurd moving

-- ---- a call that begins
pub begun_other : (k : Seat) (s : SessionState) (its : Call) → OtherAt (session_begun k s its).step
begun_other k s its = begun_holds k (λ s step. OtherAt step) (begun k) (record { refreshes = λ s. tt; wakes = λ s. tt; clears = λ s. tt; cuts = λ s. tt; loads = λ s. tt }) s its

-- ---- a run
turn_of : (step : Sitting) → OtherAt step → TurnAt step
turn_of (Turns its) other = other
turn_of (Idle its) other = tt
turn_of (Attempts has_shifted) other = tt
turn_of (CatchesUp cause) other = tt
turn_of ClearsMail other = tt
turn_of (Polls i) other = tt
turn_of (StoresOwing i) other = tt
turn_of StoresCut other = tt
turn_of Leaves other = tt
turn_of LoadsDurable other = tt

replied_turn : (k : Seat) (s : SessionState) (asks : ℕ) (step : Sitting) (reply : ℕ) → s.step ≡ step → TurnAt step → TurnAt (sitting_next k (record s { asks = asks; effect = None }) step reply).step
unfolding sitting_next
replied_turn k s asks (Idle its) reply at turn = subst TurnAt (sym at) tt
replied_turn k s asks LoadsDurable reply at turn = tt
replied_turn k s asks (Attempts has_shifted) reply at turn = turn_of _ (replied_other k s asks (Attempts has_shifted) reply at tt tt)
replied_turn k s asks (CatchesUp cause) reply at turn = turn_of _ (replied_other k s asks (CatchesUp cause) reply at tt tt)
replied_turn k s asks ClearsMail reply at turn = turn_of _ (replied_other k s asks ClearsMail reply at tt tt)
replied_turn k s asks (Polls i) reply at turn = turn_of _ (replied_other k s asks (Polls i) reply at tt tt)
replied_turn k s asks (StoresOwing i) reply at turn = turn_of _ (replied_other k s asks (StoresOwing i) reply at tt tt)
replied_turn k s asks (Turns its) reply at turn = turn_of _ (replied_other k s asks (Turns its) reply at tt turn)
replied_turn k s asks StoresCut reply at turn = tt
replied_turn k s asks Leaves reply at turn = turn_of _ (replied_other k s asks Leaves reply at tt tt)

given_turn : (k : Seat) (s : SessionState) (step : Sitting) (action : Action) → s.step ≡ step → TurnAt step → TurnAt (sitting_given k s step action).step
unfolding sitting_given
given_turn k s (Turns its) action at turn = turn_of _ (turned_holds k (λ s step. OtherAt step) (begun k) (record s { own_turn = own_turn_given s.own_turn action }) its _ at turn turn)
given_turn k s step action at turn = subst TurnAt (sym at) turn

begins_turn : (k : Seat) (s : SessionState) (its : Call) (busy : Bool) → TurnAt s.step → TurnAt (begins k s busy its).step
begins_turn k s its true turn = turn
begins_turn k s its false turn = turn_of (session_begun k s its).step (begun_other k s its)

event_turn : (k : Seat) (s : SessionState) (event : SessionEvent) → TurnAt s.step → TurnAt (session_happens k s event).step
unfolding session_happens
event_turn k s (Begins its) turn = begins_turn k s its (is_busy s.step) turn
event_turn k s (Replies reply) turn = replied_turn k s (asks_after s.asks (is_word_ask (session_ask k s))) s.step reply refl turn
event_turn k s (Gets action) turn = given_turn k s s.step action refl turn

idle_turn : (step : Sitting) → is_busy step ≡ false → TurnAt step
idle_turn (Idle its) idle = tt
idle_turn step idle = cc

run_turn : (k : Seat) (first : SessionState) (events : List SessionEvent) → IsOpened first → TurnAt (session_run k first events).step
unfolding session_run
run_turn k first [] opened = idle_turn first.step opened.none_in_hand
run_turn k first (event ∷ before) opened = event_turn k (session_run k first before) event (run_turn k first before opened)

-- ---- one event that tells it
-- it is the reply to that load
pub record IsLoad (s : SessionState) (event : SessionEvent) (serial : Serial) : Type 0 where
  pub loads : s.step ≡ LoadsDurable
  pub reply : event ≡ Replies serial.0

pub not_other : {X : Type 0} (step : Sitting) (serial : Serial) → step ≡ Idle (told.Durable serial) → OtherAt step → X
not_other step serial is other = absurd (subst OtherAt is other)

pub idle_busy : {X : Type 0} (step : Sitting) (its : Told) → is_busy step ≡ true → step ≡ Idle its → X
idle_busy step its busy is = let idle : is_busy step ≡ false = ap is_busy is in let clash : true ≡ false = sym busy ∙ idle in cc

loaded : (k : Seat) (s : SessionState) (asks : ℕ) (step : Sitting) (reply : ℕ) (serial : Serial) → s.step ≡ step → is_busy step ≡ true → TurnAt step → (sitting_next k (record s { asks = asks; effect = None }) step reply).step ≡ Idle (told.Durable serial)
    → IsLoad s (Replies reply) serial
unfolding sitting_next
loaded k s asks LoadsDurable reply serial at busy turn is = record { loads = at; reply = ap Replies (the_reply reply serial is) }
  where
    the_reply : (n : ℕ) (x : Serial) → Idle (told.Durable (record { 0 = n })) ≡ Idle (told.Durable x) → n ≡ x.0
    the_reply n x same = let it : ◌≡◌ {A = Serial} (record { 0 = n }) x = cc in ap (λ (y : Serial). y.0) it
loaded k s asks (Idle its) reply serial at busy turn is = cc
loaded k s asks (Attempts has_shifted) reply serial at busy turn is = not_other _ serial is (replied_other k s asks (Attempts has_shifted) reply at tt tt)
loaded k s asks (CatchesUp cause) reply serial at busy turn is = not_other _ serial is (replied_other k s asks (CatchesUp cause) reply at tt tt)
loaded k s asks ClearsMail reply serial at busy turn is = not_other _ serial is (replied_other k s asks ClearsMail reply at tt tt)
loaded k s asks (Polls i) reply serial at busy turn is = not_other _ serial is (replied_other k s asks (Polls i) reply at tt tt)
loaded k s asks (StoresOwing i) reply serial at busy turn is = not_other _ serial is (replied_other k s asks (StoresOwing i) reply at tt tt)
loaded k s asks (Turns its) reply serial at busy turn is = not_other _ serial is (replied_other k s asks (Turns its) reply at tt turn)
loaded k s asks StoresCut reply serial at busy turn is = cc
loaded k s asks Leaves reply serial at busy turn is = not_other _ serial is (replied_other k s asks Leaves reply at tt tt)

got : {X : Type 0} (k : Seat) (s : SessionState) (step : Sitting) (action : Action) (serial : Serial) → s.step ≡ step → is_busy step ≡ true → TurnAt step → (sitting_given k s step action).step ≡ Idle (told.Durable serial) → X
unfolding sitting_given
got k s (Turns its) action serial at busy turn is = not_other _ serial is (turned_holds k (λ s step. OtherAt step) (begun k) (record s { own_turn = own_turn_given s.own_turn action }) its _ at turn turn)
got k s step action serial at busy turn is = idle_busy s.step (told.Durable serial) (ap is_busy at ∙ busy) is

happened : (k : Seat) (s : SessionState) (event : SessionEvent) (serial : Serial) → is_busy s.step ≡ true → TurnAt s.step → (session_happens k s event).step ≡ Idle (told.Durable serial) → IsLoad s event serial
unfolding session_happens
happened k s (Begins its) serial busy turn is = by_busy (is_busy s.step) refl is
  where
    by_busy : (b : Bool) → is_busy s.step ≡ b → (begins k s b its).step ≡ Idle (told.Durable serial) → IsLoad s (Begins its) serial
    by_busy true same told_so = idle_busy s.step (told.Durable serial) busy told_so
    by_busy false same told_so = let clash : true ≡ false = sym busy ∙ same in cc
happened k s (Replies reply) serial busy turn is = loaded k s (asks_after s.asks (is_word_ask (session_ask k s))) s.step reply serial refl busy turn is
happened k s (Gets action) serial busy turn is = got k s s.step action serial refl busy turn is

pub run_load : (k : Seat) (first : SessionState) (event : SessionEvent) (before : List SessionEvent) (serial : Serial) → IsOpened first → is_busy (session_run k first before).step ≡ true
    → (session_run k first (event ∷ before)).step ≡ Idle (told.Durable serial) → IsLoad (session_run k first before) event serial
unfolding session_run
run_load k first event before serial opened busy is = happened k (session_run k first before) event serial busy (run_turn k first before opened) is
