-- The guard's events of a session's step are permitted, where the session may change what it changes in place.
use Rattle.std.proofs.Common.{◌≡◌, ℕ, ◌<◌, ◌≤◌, ◌∙◌, List, [], ◌∷◌, ◌++◌, refl, sym, subst, arith, Bool, true, false}
use Rattle.std.specs.Prelude.{Option, Some, None, slice_get, nat_lt, nat_le, ◌==◌, if◌then◌else◌}
use Rattle.std.proofs.lemmas.Bool.Decides.{nat_tests}
use Rattle.fkv_map.specs.Keys.{value_applied}
use Rattle.fkv_plane.specs.declared.asks.Ask.{Ask}
use Rattle.fkv_plane.specs.declared.asks.Ask.TheVariants.{Done}
use Rattle.fkv_plane.specs.declared.places.RecordWord.TheVariants as rec
use Rattle.fkv_plane.specs.Asked.{asked, word_at, reply_to}
use Rattle.fkv_plane.specs.Passing.{is_done}
use Rattle.fkv_plane.specs.Places.{record_place}
use Rattle.fkv_log.specs.Reserving.{reserve_next_ask}
use Rattle.fkv_log.specs.declared.reserving.ReserveAnswer.{ReserveAnswer}
use Rattle.fkv_log.specs.declared.reserving.ReserveAnswer.TheVariants.{Reserved}
use Rattle.fkv_index.specs.declared.publishing.Publishing.{Publishing}
use Rattle.fkv_index.specs.declared.publishing.Publishing.TheVariants.{SwapsEntry}
use Rattle.fkv_epoch.specs.EpochWorld.{own_epoch}
use Rattle.fkv_epoch.proofs.Shown.{some_same}
use Rattle.fkv_flush.specs.GuardAsks.{writes}
use Rattle.fkv_flush.specs.Guarded.{ArePermittedEvents}
use Rattle.fkv_flush.specs.GuardSeen.{LastSeen}
use Rattle.fkv_flush.specs.GuardWorld.{Actor, GuardNow, GuardWorld, GuardEvent, Updates, may_update}
use Rattle.fkv_flush.proofs.Shown.{Fits, one_permitted}
use Rattle.fkv_ops.specs.Appending.{AppendState}
use Rattle.fkv_ops.specs.Trying.{TryState}
use Rattle.fkv_ops.specs.Values.{value_of, word_of}
use Rattle.fkv_ops.specs.declared.appending.Appending.{Appending}
use Rattle.fkv_ops.specs.declared.appending.Appending.TheVariants as appending
use Rattle.fkv_ops.specs.declared.trying.Trying.{Trying}
use Rattle.fkv_ops.specs.declared.trying.Trying.TheVariants.{SwapsValue, ChangesValue, Appends}
use Rattle.fkv_pending.specs.Attempting.{AttemptState}
use Rattle.fkv_pending.specs.declared.attempting.Attempting.{Attempting}
use Rattle.fkv_pending.specs.declared.attempting.Attempting.TheVariants.{Tries}
use Rattle.fkv_session.specs.declared.catching_up.Catching.{Catching}
use Rattle.fkv_session.specs.declared.catching_up.Catching.TheVariants.{Refreshes, Protects, Finishes}
use Rattle.fkv_session.specs.declared.sessions.Sitting.{Sitting}
use Rattle.fkv_session.specs.declared.sessions.Sitting.TheVariants.{Attempts, CatchesUp, Polls, Turns, Leaves}
use Rattle.fkv_session.specs.Sessions.{SessionState, Seat, room_of, session_ask}
use Rattle.law_world.specs.GuardSessions.Likenesses.{last_seen, through}
use Rattle.law_world.specs.GuardSessions.Steps.{Onward, Stays, Starts, GoesOn, onward_events, changed_at, outer_events}
use Rattle.law_world.specs.GuardSessions.Tries.{is_for_entry, reserved_events, publish_events, append_events, try_events, try_likeness_at, MayChange}
use Rattle.law_world.specs.GuardSessions.Attempts.{attempt_events, attempt_likeness_at}
use Rattle.law_world.specs.GuardSessions.Catches.{catch_events}
use Rattle.law_world.specs.GuardSessions.Sessions.{sitting_events, sitting_onward, sitting_likeness, is_protected_at}
use Rattle.law_world.specs.GuardSessions.Followed.{seat_in}
use Rattle.law_world.specs.GuardSessions.InPlace.{try_changes, attempt_changes, sitting_changes, MovesArePermitted}
use Rattle.law_world.proofs.OfGuardSessions.Onwards.{IsSessions}

either_permitted : (w : GuardWorld) (b : Bool) (events others : List GuardEvent) → ArePermittedEvents w events → ArePermittedEvents w others → ArePermittedEvents w (if b then events else others)
either_permitted w true events others one other = one
either_permitted w false events others one other = other

onward_permitted : (w : GuardWorld) (a : ℕ) (its : Onward) (before : List GuardEvent) → ArePermittedEvents w before → ArePermittedEvents w (onward_events a its ++ before)
onward_permitted w a Stays before permitted = permitted
onward_permitted w a (Starts task) before permitted = (tt, permitted)
onward_permitted w a GoesOn before permitted = (tt, permitted)

changed_permitted : (w : GuardWorld) (a : ℕ) (words : List ℕ) (at : Option ℕ) (f : ℕ → ℕ) → ArePermittedEvents w (changed_at a words at f)
changed_permitted w a words None f = tt
changed_permitted w a words (Some place) f = (tt, tt)

outer_permitted : {A : Type 0} (w : GuardWorld) (a : ℕ) (words : List ℕ) (ask : Ask A) → ArePermittedEvents w (outer_events a words ask)
outer_permitted w a words ask = changed_permitted w a words (writes ask) (asked ask)

reserved_permitted : (w : GuardWorld) (a : ℕ) (s : AppendState) (ask : Ask ReserveAnswer) → ArePermittedEvents w (reserved_events a s ask)
reserved_permitted w a s (Done (Reserved addr)) = either_permitted w (is_for_entry s addr) _ _ (tt, tt) (tt, (tt, tt))
reserved_permitted w a s ask = (tt, tt)

published_permitted : {A : Type 0} (w : GuardWorld) (a : ℕ) (words : List ℕ) (step : Publishing) (ask : Ask A) → ArePermittedEvents w (publish_events a words step ask)
published_permitted w a words (SwapsEntry place word entry) ask = either_permitted w (word_at words place == word) _ _ (tt, outer_permitted w a words ask) (outer_permitted w a words ask)
published_permitted w a words step ask = outer_permitted w a words ask

appended_permitted : {A : Type 0} (w : GuardWorld) (a room : ℕ) (words : List ℕ) (s : AppendState) (step : Appending) (ask : Ask A) → ArePermittedEvents w (append_events a room words s step ask)
appended_permitted w a room words s appending.Reserves ask = reserved_permitted w a s (reserve_next_ask room s.reserving (reply_to words ask))
appended_permitted w a room words s (appending.Fills addr) ask = (tt, tt)
appended_permitted w a room words s (appending.Publishes addr) ask = published_permitted w a words s.publishing ask
appended_permitted w a room words s appending.Invalidates ask = (tt, tt)
appended_permitted w a room words s step ask = outer_permitted w a words ask

caught_permitted : {A : Type 0} (w : GuardWorld) (a : ℕ) (words : List ℕ) (step : Catching) (ask : Ask A) → ArePermittedEvents w (catch_events a words step ask)
caught_permitted w a words Refreshes ask = (tt, tt)
caught_permitted w a words Protects ask = (tt, tt)
caught_permitted w a words Finishes ask = (tt, tt)
caught_permitted w a words step ask = outer_permitted w a words ask

-- A session's actor.
module _ (w : GuardWorld) (a : ℕ) (x : Actor) (seen : LastSeen) (got : slice_get w.now.actors a ≡ Some x) where
  abbrev n : GuardNow
  n = w.now

  -- a change in place that the session may make
  pub change_permitted : (addr word : ℕ) → IsSessions n.places.sessions a true n.words → Fits (through seen) x → MayChange seen n.words addr → ArePermittedEvents w (Updates a addr word ∷ [])
  change_permitted addr word session fits may = one_permitted w (Updates a addr word) (λ y its. subst (λ (z : Actor). may_update n a z addr ≡ true) (some_same x y (sym got ∙ its)) here)
    where
      is_below : (b c : ℕ) → b < c → nat_lt b c ≡ true
      is_below b c h = grind (arith, nat_tests)

      is_above : (b c : ℕ) → b ≤ c → nat_le b c ≡ true
      is_above b c h = grind (arith, nat_tests)

      is_some : (word : ℕ) → 0 < word → (word == 0) ≡ false
      is_some word h = grind (arith, nat_tests)

      here : may_update n a x addr ≡ true
      here =
          let there : nat_lt a n.places.sessions ≡ true = is_below a n.places.sessions session.below in
          let some : (own_epoch n.words a == 0) ≡ false = is_some (own_epoch n.words a) (session.epoch refl) in
          let above : nat_le x.seen.read_only addr ≡ true = subst (λ (s : LastSeen). nat_le s.read_only addr ≡ true) (sym fits.seen) (is_above seen.read_only addr may.0) in
          rw (there, some, fits.machine, fits.work, above, is_below addr _ may.1) refl

  tried_permitted : {A : Type 0} (room : ℕ) (t : TryState) (step : Trying) (ask : Ask A) → IsSessions n.places.sessions a true n.words → Fits (try_likeness_at seen t step) x
      → ((addr : ℕ) → try_changes step ≡ Some addr → MayChange seen n.words addr) → ArePermittedEvents w (try_events a room n.words n.places t step ask)
  tried_permitted room t (SwapsValue addr) ask session fits may = change_permitted addr.0 (word_of (value_applied None t.request.op)) session fits (may addr.0 refl)
  tried_permitted room t (ChangesValue addr old) ask session fits may = either_permitted w (word_at n.words (record_place n.places addr.0 rec.Value) == old) _ [] (change_permitted addr.0 (word_of (value_applied (value_of old) t.request.op)) session fits (may addr.0 refl)) tt
  tried_permitted room t (Appends its) ask session fits may = appended_permitted w a room n.words t.append t.append.step ask
  tried_permitted room t step ask session fits may = outer_permitted w a n.words ask

  attempted_permitted : {A : Type 0} (room : ℕ) (s : AttemptState) (step : Attempting) (ask : Ask A) → IsSessions n.places.sessions a true n.words → Fits (attempt_likeness_at seen s step) x
      → ((addr : ℕ) → attempt_changes s step ≡ Some addr → MayChange seen n.words addr) → ArePermittedEvents w (attempt_events a room n.words n.places s step ask)
  attempted_permitted room s Tries ask session fits may = tried_permitted room s.trial s.trial.step ask session fits may
  attempted_permitted room s step ask session fits may = outer_permitted w a n.words ask

sat_permitted : {A : Type 0} (w : GuardWorld) (a : ℕ) (x : Actor) (s : SessionState) (step : Sitting) (ask : Ask A) → slice_get w.now.actors a ≡ Some x → a < w.now.places.sessions
    → (is_protected_at s step ≡ true → 0 < own_epoch w.now.words a) → Fits (sitting_likeness s step) x → ((addr : ℕ) → sitting_changes s step ≡ Some addr → MayChange (last_seen s.seen) w.now.words addr)
    → ArePermittedEvents w (sitting_events (seat_in w.now a) w.now.words s step ask)
sat_permitted w a x s (Attempts has_shifted) ask got below protected fits may =
    attempted_permitted w a x (last_seen s.seen) got (room_of (seat_in w.now a)) s.attempt s.attempt.step ask (record { below = below; epoch = λ e. protected refl }) fits may
sat_permitted w a x s (Polls index) ask got below protected fits may =
    attempted_permitted w a x (last_seen s.seen) got (room_of (seat_in w.now a)) s.attempt s.attempt.step ask (record { below = below; epoch = λ e. protected refl }) fits may
sat_permitted w a x s (CatchesUp cause) ask got below protected fits may = caught_permitted w a w.now.words s.catching.step ask
sat_permitted w a x s (Turns its) ask got below protected fits may = (tt, tt)
sat_permitted w a x s Leaves ask got below protected fits may = (tt, tt)
sat_permitted w a x s step ask got below protected fits may = outer_permitted w a w.now.words ask

pub moves_permitted : MovesArePermitted
moves_permitted w number x s after sits owes =
    let k : Seat = seat_in w.now number in
    either_permitted w (is_done (session_ask k s)) [] _ tt
    (onward_permitted w number (sitting_onward after after.step) (sitting_events k w.now.words s s.step (session_ask k s)) (sat_permitted w number x s s.step (session_ask k s) sits.got sits.below sits.protected sits.fits owes))
