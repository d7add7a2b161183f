-- A session that is protected stays so behind its step, but where it leaves; and one that wakes is protected as soon as it has loaded all.
use Rattle.std.proofs.Common.{◌≡◌, ℕ, ◌<◌, ◌∙◌, refl, sym, subst, true, false}
use Rattle.std.specs.Prelude.{Some, None, slice_get}
use Rattle.fkv_plane.specs.declared.places.SessionWord.TheVariants as own
use Rattle.fkv_plane.specs.Places.{session_place}
use Rattle.fkv_plane.specs.Asked.{words_after, reply_to}
use Rattle.fkv_plane.specs.Passing.{passed}
use Rattle.fkv_plane.proofs.Shown.{passed_words}
use Rattle.fkv_epoch.specs.declared.protecting.Protecting.{Protecting}
use Rattle.fkv_epoch.specs.declared.protecting.Protecting.TheVariants as protect
use Rattle.fkv_epoch.specs.declared.refreshing.Refreshing.TheVariants as refresh
use Rattle.fkv_epoch.specs.Protecting.{protect_ask, protect_next, protect_next_ask}
use Rattle.fkv_epoch.specs.Refreshing.{refresh_ask}
use Rattle.fkv_epoch.specs.EpochWorld as epochs
use Rattle.fkv_epoch.specs.EpochWorld.{own_epoch}
use Rattle.fkv_epoch.specs.Protected.{is_protecting}
use Rattle.fkv_flush.specs.GuardWorld.{Actor, GuardWorld}
use Rattle.fkv_flush.proofs.Shown.{IsSound, Fits, FitsMachine}
use Rattle.fkv_pending.specs.Attempting.{attempt_ask}
use Rattle.fkv_session.specs.declared.answers.Told.TheVariants as told
use Rattle.fkv_session.specs.declared.catching_up.Catching.{Catching}
use Rattle.fkv_session.specs.declared.catching_up.Catching.TheVariants as catching
use Rattle.fkv_session.specs.declared.sessions.CatchCause.{CatchCause}
use Rattle.fkv_session.specs.declared.sessions.Sitting.{Sitting}
use Rattle.fkv_session.specs.declared.sessions.Sitting.TheVariants.{Attempts, CatchesUp, Polls, Turns, Leaves}
use Rattle.fkv_session.specs.CatchingUp.{CatchState, catching_ask, catch_ask, catching_next, protect_ledto}
use Rattle.fkv_session.specs.Sessions.{SessionState, Seat, sitting_ask, sitting_next, catch_ledto}
use Rattle.law_world.specs.GuardSessions.Catches.{refresh_machine, catch_likeness_at, CatchWritesOuter}
use Rattle.law_world.specs.GuardSessions.Attempts.{AttemptWritesOuter}
use Rattle.law_world.specs.GuardSessions.Sessions.{sitting_likeness, is_protected_catching, is_protected_at, SittingWritesOuter}
use Rattle.law_world.proofs.OfGuardSessions.Attempts.{attempt_owes}
use Rattle.law_world.proofs.OfGuardSessions.Catches.{catch_owes, loading_is}
use Rattle.law_world.specs.GuardSessions.Rows.{CatchKnows, IsProtecting, SittingKnows}
use Rattle.law_world.proofs.OfGuardSessions.Epochs.{machine_keeps, machine_protected, passed_spares, attempt_spares, ask_keeps, outer_keeps}
use Rattle.law_world.proofs.OfGuardSessions.OwnWords.{catch_outer, sitting_outer}
use Rattle.law_world.specs.GuardSessions.Followed.{seat_in, is_turning}
use Rattle.law_world.proofs.OfGuardSessions.Sessions.{stays_protected}

module _ (w : GuardWorld) (number : ℕ) (x : Actor) (sound : IsSound w) (got : slice_get w.now.actors number ≡ Some x) (below : number < w.now.places.sessions) where
  abbrev Keeps : SessionState → Sitting → Type 0
  Keeps s step = 0 < own_epoch (words_after w.now.words (sitting_ask (seat_in w.now number) s step)) number

  catch_keeps : (s : SessionState) (c : CatchState) (step : Catching) → 0 < own_epoch w.now.words number → CatchKnows c step → CatchWritesOuter w.now.places step (catching_ask w.now.places number c s.requests step) → Fits (catch_likeness_at c step) x → (step ≡ catching.Protects → ⊥)
      → 0 < own_epoch (words_after w.now.words (catching_ask w.now.places number c s.requests step)) number
  unfolding catching_ask
  catch_keeps s c catching.Refreshes some knows owes fits other =
      rw (passed_words {B = Unit {0}} w.now.words (refresh_ask number c.refreshing) tt) (machine_keeps w number x (epochs.Refreshes c.refreshing) sound got (loading_is c.refreshing x.machine knows.1 fits.machine) below (λ e. cc) some)
  catch_keeps s c catching.Protects some knows owes fits other = absurd (other refl)
  catch_keeps s c catching.Finishes some knows owes fits other =
      let e = knows.1 in
      rw (e, passed_words {B = Unit {0}} w.now.words (refresh_ask number (refresh.StoresEpoch knows.0)) tt)
      (machine_keeps w number x (epochs.Refreshes (refresh.StoresEpoch knows.0)) sound got (subst (λ r. FitsMachine (refresh_machine r) x.machine) e fits.machine) below (λ e. cc) some)
  catch_keeps s c step some knows owes fits other = outer_keeps w.now.places w.now.words number (catching_ask w.now.places number c s.requests step) below (catch_outer w.now.places number c s.requests step below refl owes) some

  not_protects : (step : Catching) → is_protected_catching step ≡ true → step ≡ catching.Protects → ⊥
  not_protects catching.Protects p e = cc
  not_protects step p e = cc

  attempt_keeps : (s : SessionState) → 0 < own_epoch w.now.words number → AttemptWritesOuter w.now.places s.attempt s.attempt.step (passed (attempt_ask w.now.places number s.attempt) told.Slept)
      → 0 < own_epoch (words_after w.now.words (passed (attempt_ask w.now.places number s.attempt) told.Slept)) number
  attempt_keeps s some owes =
      let ask = attempt_ask w.now.places number s.attempt in
      ask_keeps w.now.words number (passed ask told.Slept) (passed_spares ask told.Slept (session_place number own.Epoch) (attempt_spares w.now.places number s.attempt below
      (subst (λ (o : Type 0). o) (attempt_owes w.now.places s.attempt s.attempt.step ask told.Slept) owes))) some

  pub words_kept : (s : SessionState) (step : Sitting) → is_turning step ≡ false → stays_protected s step ≡ true → 0 < own_epoch w.now.words number → SittingKnows s step → SittingWritesOuter (seat_in w.now number) s step (sitting_ask (seat_in w.now number) s step) → Fits (sitting_likeness s step) x
      → Keeps s step
  unfolding sitting_ask
  words_kept s (Attempts has_shifted) other stays some knows owes fits = attempt_keeps s some owes
  words_kept s (Polls index) other stays some knows owes fits = attempt_keeps s some owes
  words_kept s (CatchesUp cause) other stays some knows owes fits =
      let ask = catch_ask w.now.places number s.catching s.requests in
      rw (passed_words w.now.words ask told.Slept) (catch_keeps s s.catching s.catching.step some knows (subst (λ (o : Type 0). o) (catch_owes w.now.places s.catching.step ask told.Slept) owes) fits (not_protects s.catching.step stays))
  words_kept s (Turns its) other stays some knows owes fits = cc
  words_kept s Leaves other stays some knows owes fits = cc
  words_kept s step other stays some knows owes fits = outer_keeps w.now.places w.now.words number (sitting_ask (seat_in w.now number) s step) below (sitting_outer (seat_in w.now number) s step below refl) some

  -- whether the session is protected behind a step that wakes it, by how far it is
  abbrev Still : SessionState → ℕ → CatchCause → Catching → Protecting → Sitting → Type 0
  Still s asks cause step r sitting =
      (let k : Seat = seat_in w.now number in
      let its : SessionState = record s { catching = record s.catching { step = step; protecting = r }; step = sitting } in
      let after : SessionState = sitting_next k (record its { asks = asks; effect = None }) (CatchesUp cause) (reply_to w.now.words (sitting_ask k its (CatchesUp cause))) in
      is_protected_at after after.step ≡ true)

  not_first : (s : SessionState) (asks : ℕ) (cause : CatchCause) → Still s asks cause catching.Protects protect.LoadsEpoch (CatchesUp cause) → false ≡ true
  unfolding sitting_ask sitting_next catch_ledto catching_ask catching_next protect_ledto protect_ask protect_next protect_next_ask passed
  not_first s asks cause p = p

  not_second : (s : SessionState) (asks : ℕ) (cause : CatchCause) (epoch : ℕ) → Still s asks cause catching.Protects (protect.StoresEpoch epoch) (CatchesUp cause) → false ≡ true
  unfolding sitting_ask sitting_next catch_ledto catching_ask catching_next protect_ledto protect_ask protect_next protect_next_ask passed
  not_second s asks cause epoch p = p

  its_words : (s : SessionState) (cause : CatchCause) (r : Protecting) → s.catching.protecting ≡ r → s.catching.step ≡ catching.Protects → words_after w.now.words (sitting_ask (seat_in w.now number) s (CatchesUp cause)) ≡ words_after w.now.words (protect_ask number r)
  unfolding sitting_ask catching_ask
  its_words s cause r same at = rw (at, same) (passed_words w.now.words (passed {B = Unit {0}} (protect_ask number r) tt) told.Slept ∙ passed_words {B = Unit {0}} w.now.words (protect_ask number r) tt)

  false_true : false ≡ true → ⊥
  false_true e = cc

  later : (s : SessionState) (cause : CatchCause) (r : Protecting) → s.catching.protecting ≡ r → s.catching.step ≡ catching.Protects → x.machine ≡ epochs.Protects r → is_protecting (epochs.Protects r) ≡ true → Keeps s (CatchesUp cause)
  later s cause r same at e protecting =
      subst (λ words. 0 < own_epoch words number) (sym (its_words s cause r same at))
      (machine_keeps w number x (epochs.Protects r) sound got e below (λ f. cc) (machine_protected w number x (epochs.Protects r) sound got e below protecting))

  -- who wakes
  pub wakes : (s : SessionState) (asks : ℕ) (cause : CatchCause) (r : Protecting) → s.catching.protecting ≡ r → s.catching.step ≡ catching.Protects → s.step ≡ CatchesUp cause → IsProtecting r → x.machine ≡ epochs.Protects r
      → Still s asks cause s.catching.step s.catching.protecting s.step → Keeps s (CatchesUp cause)
  wakes s asks cause protect.AtRest same at sitting protecting e p = absurd protecting
  wakes s asks cause protect.LoadsEpoch same at sitting protecting e p =
      let f = not_first s asks cause (subst (λ r. Still s asks cause catching.Protects r (CatchesUp cause)) same (subst (λ t. Still s asks cause t s.catching.protecting (CatchesUp cause)) at (subst (λ t. Still s asks cause s.catching.step s.catching.protecting t) sitting p))) in absurd (false_true f)
  wakes s asks cause (protect.StoresEpoch epoch) same at sitting protecting e p =
      let f = not_second s asks cause epoch (subst (λ r. Still s asks cause catching.Protects r (CatchesUp cause)) same (subst (λ t. Still s asks cause t s.catching.protecting (CatchesUp cause)) at (subst (λ t. Still s asks cause s.catching.step s.catching.protecting t) sitting p))) in absurd (false_true f)
  wakes s asks cause protect.LoadsPhase same at sitting protecting e p = later s cause protect.LoadsPhase same at e refl
  wakes s asks cause (protect.LoadsReadOnly phase) same at sitting protecting e p = later s cause (protect.LoadsReadOnly phase) same at e refl
  wakes s asks cause (protect.LoadsHead phase read_only) same at sitting protecting e p = later s cause (protect.LoadsHead phase read_only) same at e refl
