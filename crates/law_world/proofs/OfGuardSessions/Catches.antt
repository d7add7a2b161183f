-- A step of catching up is a list of the guard's events.
use Rattle.std.proofs.Common.{◌≡◌, ℕ, ◌<◌, ◌∙◌, List, [], ◌∷◌, refl, ap, subst, Bool, true, false}
use Rattle.std.specs.Prelude.{Some, None, slice_get}
use Rattle.fkv_plane.specs.declared.asks.Ask.{Ask}
use Rattle.fkv_plane.specs.declared.places.Places.{Places}
use Rattle.fkv_plane.specs.Passing.{passed}
use Rattle.fkv_plane.specs.Asked.{words_after, reply_to}
use Rattle.fkv_plane.proofs.Shown.{passed_words, passed_reply}
use Rattle.fkv_epoch.specs.declared.protecting.Protecting.{Protecting}
use Rattle.fkv_epoch.specs.declared.protecting.Protecting.TheVariants as protect
use Rattle.fkv_epoch.specs.declared.refreshing.Refreshing.{Refreshing}
use Rattle.fkv_epoch.specs.declared.refreshing.Refreshing.TheVariants as refresh
use Rattle.fkv_epoch.specs.Refreshing.{refresh_ask, refresh_next}
use Rattle.fkv_epoch.specs.Protecting.{protect_ask, protect_next}
use Rattle.fkv_epoch.specs.EpochWorld as epochs
use Rattle.fkv_epoch.specs.EpochWorld.{EpochMachine, machine_step, sight_of}
use Rattle.fkv_pending.specs.declared.pending_requests.PendingRequest.{PendingRequest}
use Rattle.fkv_session.specs.declared.catching_up.Catching.{Catching}
use Rattle.fkv_session.specs.declared.catching_up.Catching.TheVariants.{Refreshes, Protects, Latches, Finishes}
use Rattle.fkv_session.specs.CatchingUp.{CatchState, refresh_ledto, catching_ask, catch_ask, catching_next}
use Rattle.fkv_flush.specs.GuardSeen.{LastSeen}
use Rattle.fkv_flush.specs.GuardWorld.{Actor, GuardNow, Moves, near, put_near, guard_happens_now, is_idle, seen_with}
use Rattle.fkv_flush.proofs.Shown.{moves_machine, FitsMachine, Fits, Follows, refreshed_so_far, protected_so_far, protected_then, refreshed_so, protected_so}
use Rattle.law_world.specs.GuardSessions.Likenesses.{likeness, last_seen}
use Rattle.law_world.specs.GuardSessions.Steps.{outer_events, IsOuter}
use Rattle.law_world.specs.GuardSessions.Catches.{refresh_machine, protect_machine, catch_events, catch_onward, catch_likeness, catch_likeness_at, CatchWritesOuter}
use Rattle.law_world.proofs.OfGuardSessions.Onwards.{Moved}
use Rattle.law_world.proofs.OfGuardSessions.OwnWords.{catch_outer}
use Rattle.law_world.proofs.OfGuardSessions.Outer.{outer_step, passed_outer, passed_owes}
use Rattle.law_world.specs.GuardSessions.Rows.{IsLoading, IsProtecting, CatchKnows}
use Rattle.law_world.proofs.OfGuardSessions.CatchesLed.{is_epochs, refresh_led, protect_led, finish_led, catch_free}

pub loading_is : (r : Refreshing) (machine : EpochMachine) → IsLoading r → FitsMachine (refresh_machine r) machine → machine ≡ epochs.Refreshes r
loading_is refresh.AtRest machine loading fits = absurd loading
loading_is refresh.LoadsEpoch machine loading fits = fits
loading_is (refresh.LoadsPhase epoch) machine loading fits = fits
loading_is (refresh.LoadsReadOnly epoch phase) machine loading fits = fits
loading_is (refresh.LoadsHead epoch phase read_only) machine loading fits = fits
loading_is (refresh.HasLoaded epoch values) machine loading fits = fits
loading_is (refresh.StoresEpoch epoch) machine loading fits = fits

refresh_fits : (r : Refreshing) → FitsMachine (refresh_machine r) (epochs.Refreshes r)
refresh_fits refresh.AtRest = refl
refresh_fits r = refl

pub protecting_is : (r : Protecting) (machine : EpochMachine) → IsProtecting r → FitsMachine (protect_machine r) machine → machine ≡ epochs.Protects r
protecting_is protect.AtRest machine protecting fits = absurd protecting
protecting_is protect.LoadsEpoch machine protecting fits = fits
protecting_is (protect.StoresEpoch epoch) machine protecting fits = fits
protecting_is protect.LoadsPhase machine protecting fits = fits
protecting_is (protect.LoadsReadOnly phase) machine protecting fits = fits
protecting_is (protect.LoadsHead phase read_only) machine protecting fits = fits

protect_fits : (r : Protecting) → FitsMachine (protect_machine r) (epochs.Protects r)
protect_fits protect.AtRest = refl
protect_fits r = refl

-- an ask that is passed on is the same events, and owes the same
pub catch_passed : {A B : Type 0} (number : ℕ) (words : List ℕ) (step : Catching) (ask : Ask A) (told : B) → catch_events number words step (passed ask told) ≡ catch_events number words step ask
catch_passed number words Refreshes ask told = refl
catch_passed number words Protects ask told = refl
catch_passed number words Finishes ask told = refl
catch_passed number words step ask told = passed_outer number words ask told

pub catch_owes : {A B : Type 0} (p : Places) (step : Catching) (ask : Ask A) (told : B) → CatchWritesOuter p step (passed ask told) ≡ CatchWritesOuter p step ask
catch_owes p (Latches index) ask told = passed_owes p ask told
catch_owes p step ask told = refl

-- an ask of a machine of the epochs that is known
pub machine_moves : (n : GuardNow) (a : ℕ) (x : Actor) (m : EpochMachine) → slice_get n.actors a ≡ Some x → x.machine ≡ m → is_idle x.work ≡ true
    → guard_happens_now n (Moves a) ≡ put_near n a (near (machine_step n.places.sessions a n.words n.actions m).words (machine_step n.places.sessions a n.words n.actions m).actions (record x { machine = (machine_step n.places.sessions a n.words n.actions m).machine; seen = seen_with x.seen (sight_of m) n.words }))
machine_moves n a x m got e idle =
    subst (λ m. guard_happens_now n (Moves a) ≡ put_near n a (near (machine_step n.places.sessions a n.words n.actions m).words (machine_step n.places.sessions a n.words n.actions m).actions (record x { machine = (machine_step n.places.sessions a n.words n.actions m).machine; seen = seen_with x.seen (sight_of m) n.words }))) e
    (moves_machine n a x got idle)

-- where a step of catching up leads, and what is known then
pub record CatchMoved (n : GuardNow) (a bits : ℕ) (c : CatchState) (requests after_requests : List PendingRequest) (step : Catching) : Type 0 where
  pub its : (protected : Bool) → Moved protected n a (catch_events a n.words step (catching_ask n.places a c requests step))
      (catch_onward (catching_next n.places bits a c after_requests step (reply_to n.words (catching_ask n.places a c requests step))) (catching_next n.places bits a c after_requests step (reply_to n.words (catching_ask n.places a c requests step))).step)
      (catch_likeness (catching_next n.places bits a c after_requests step (reply_to n.words (catching_ask n.places a c requests step)))) (words_after n.words (catching_ask n.places a c requests step)) n.actions
  pub knows : CatchKnows (catching_next n.places bits a c after_requests step (reply_to n.words (catching_ask n.places a c requests step))) (catching_next n.places bits a c after_requests step (reply_to n.words (catching_ask n.places a c requests step))).step

module _ (n : GuardNow) (a bits : ℕ) (x : Actor) (got : slice_get n.actors a ≡ Some x) (below : a < n.places.sessions) where
  refresh_moves : (seen : LastSeen) (r : Refreshing) → x.machine ≡ epochs.Refreshes r → is_idle x.work ≡ true → x.seen ≡ refreshed_so_far seen r → x.undecided ≡ None
      → Follows n a (Moves a ∷ []) (likeness (refresh_machine (refresh_next r (reply_to n.words (refresh_ask a r)))) None (refreshed_so_far seen (refresh_next r (reply_to n.words (refresh_ask a r)))) None) (words_after n.words (refresh_ask a r)) n.actions
  refresh_moves seen r e idle its none = record {
    actor = record x { machine = epochs.Refreshes (refresh_next r (reply_to n.words (refresh_ask a r))); seen = seen_with x.seen (sight_of (epochs.Refreshes r)) n.words };
    same = machine_moves n a x (epochs.Refreshes r) got e idle;
    fits = record { machine = refresh_fits (refresh_next r (reply_to n.words (refresh_ask a r))); work = idle; seen = ap (λ s. seen_with s (sight_of (epochs.Refreshes r)) n.words) its ∙ refreshed_so a seen r n.words; undecided = none };
  }

  protect_moves : (seen : LastSeen) (r : Protecting) → x.machine ≡ epochs.Protects r → is_idle x.work ≡ true → x.seen ≡ protected_so_far seen r → x.undecided ≡ None
      → Follows n a (Moves a ∷ []) (likeness (protect_machine (protect_next r (reply_to n.words (protect_ask a r)))) None (protected_then seen r (reply_to n.words (protect_ask a r))) None) (words_after n.words (protect_ask a r)) n.actions
  protect_moves seen r e idle its none = record {
    actor = record x { machine = epochs.Protects (protect_next r (reply_to n.words (protect_ask a r))); seen = seen_with x.seen (sight_of (epochs.Protects r)) n.words };
    same = machine_moves n a x (epochs.Protects r) got e idle;
    fits = record { machine = protect_fits (protect_next r (reply_to n.words (protect_ask a r))); work = idle; seen = ap (λ s. seen_with s (sight_of (epochs.Protects r)) n.words) its ∙ protected_so a seen r n.words; undecided = none };
  }

  refreshes : (c : CatchState) (requests after_requests : List PendingRequest) → c.step ≡ Refreshes → CatchKnows c Refreshes → Fits (catch_likeness_at c Refreshes) x → CatchMoved n a bits c requests after_requests Refreshes
  unfolding catching_ask catching_next
  refreshes c requests after_requests at knows fits =
      let r : Refreshing = c.refreshing in
      let reply : ℕ = reply_to n.words (refresh_ask a r) in
      let moved = refresh_moves (last_seen c.seen) r (loading_is r x.machine knows.1 fits.machine) fits.work fits.seen fits.undecided in
      let led = refresh_led n.places bits a c after_requests r reply at knows.0 knows.1 in
      let after : CatchState = refresh_ledto n.places bits (record c { refreshing = refresh_next r reply }) after_requests (refresh_ask a (refresh_next r reply)) in
      record {
        its = λ protected. rw (passed_words {B = Unit {0}} n.words (refresh_ask a r) tt, passed_reply {B = Unit {0}} n.words (refresh_ask a r) tt) (record { mid = likeness (refresh_machine (refresh_next r reply)) None (refreshed_so_far (last_seen c.seen) (refresh_next r reply)) None; moved = moved; leads = led.leads protected });
        knows = rw (passed_reply {B = Unit {0}} n.words (refresh_ask a r) tt) led.knows;
      }

  protects : (c : CatchState) (requests after_requests : List PendingRequest) → c.step ≡ Protects → CatchKnows c Protects → Fits (catch_likeness_at c Protects) x → CatchMoved n a bits c requests after_requests Protects
  unfolding catching_ask catching_next
  protects c requests after_requests at knows fits =
      let r : Protecting = c.protecting in
      let reply : ℕ = reply_to n.words (protect_ask a r) in
      let moved = protect_moves (last_seen c.seen) r (protecting_is r x.machine knows.1 fits.machine) fits.work fits.seen fits.undecided in
      let led = protect_led n.places bits a c after_requests r reply at knows.0 knows.1 in
      record {
        its = λ protected. rw (passed_words {B = Unit {0}} n.words (protect_ask a r) tt, passed_reply {B = Unit {0}} n.words (protect_ask a r) tt) (record { mid = likeness (protect_machine (protect_next r reply)) None (protected_then (last_seen c.seen) r reply) None; moved = moved; leads = led.leads protected });
        knows = rw (passed_reply {B = Unit {0}} n.words (protect_ask a r) tt) led.knows;
      }

  finishes_it : (c : CatchState) (requests after_requests : List PendingRequest) (epoch : ℕ) → c.refreshing ≡ refresh.StoresEpoch epoch → Fits (likeness (Some (epochs.Refreshes (refresh.StoresEpoch epoch))) None (last_seen c.seen) None) x → CatchMoved n a bits c requests after_requests Finishes
  unfolding catching_ask catching_next refresh_next
  finishes_it c requests after_requests epoch e fits =
      let r : Refreshing = refresh.StoresEpoch epoch in
      let reply : ℕ = reply_to n.words (refresh_ask a r) in
      let moved = refresh_moves (last_seen c.seen) r fits.machine fits.work fits.seen fits.undecided in
      let led = finish_led c a epoch reply in
      record {
        its = λ protected. rw (e, passed_words {B = Unit {0}} n.words (refresh_ask a r) tt) (record { mid = likeness None None (last_seen c.seen) None; moved = moved; leads = led.leads protected });
        knows = rw e led.knows;
      }

  plain : (c : CatchState) (requests after_requests : List PendingRequest) (step : Catching) → c.step ≡ step → is_epochs step ≡ false → CatchKnows c step → IsOuter n.places (catching_ask n.places a c requests step) → Fits (catch_likeness_at c step) x
      → (protected : Bool) → Moved protected n a (outer_events a n.words (catching_ask n.places a c requests step))
      (catch_onward (catching_next n.places bits a c after_requests step (reply_to n.words (catching_ask n.places a c requests step))) (catching_next n.places bits a c after_requests step (reply_to n.words (catching_ask n.places a c requests step))).step)
      (catch_likeness (catching_next n.places bits a c after_requests step (reply_to n.words (catching_ask n.places a c requests step)))) (words_after n.words (catching_ask n.places a c requests step)) n.actions
  plain c requests after_requests step at other knows owes fits protected = record {
    mid = catch_likeness_at c step;
    moved = outer_step n a x (catch_likeness_at c step) (catching_ask n.places a c requests step) got fits owes;
    leads = (catch_free n.places bits a c after_requests step (reply_to n.words (catching_ask n.places a c requests step)) at other knows).leads protected;
  }

  catch_moved : (c : CatchState) (requests after_requests : List PendingRequest) (step : Catching) → c.step ≡ step → CatchKnows c step → CatchWritesOuter n.places step (catching_ask n.places a c requests step) → Fits (catch_likeness_at c step) x → CatchMoved n a bits c requests after_requests step
  catch_moved c requests after_requests Refreshes at knows owes fits = refreshes c requests after_requests at knows fits
  catch_moved c requests after_requests Protects at knows owes fits = protects c requests after_requests at knows fits
  catch_moved c requests after_requests Finishes at knows owes fits =
      let e = knows.1 in
      finishes_it c requests after_requests knows.0 e (record { machine = subst (λ r. FitsMachine (refresh_machine r) x.machine) e fits.machine; work = fits.work; seen = fits.seen; undecided = fits.undecided })
  catch_moved c requests after_requests step at knows owes fits = record {
    its = plain c requests after_requests step at refl knows (catch_outer n.places a c requests step below refl owes) fits;
    knows = (catch_free n.places bits a c after_requests step (reply_to n.words (catching_ask n.places a c requests step)) at refl knows).knows;
  }

-- A session that catches up.
pub catch_step : (n : GuardNow) (a bits : ℕ) (x : Actor) (c : CatchState) (requests after_requests : List PendingRequest) → slice_get n.actors a ≡ Some x → a < n.places.sessions → CatchKnows c c.step → CatchWritesOuter n.places c.step (catch_ask n.places a c requests) → Fits (catch_likeness c) x → CatchMoved n a bits c requests after_requests c.step
catch_step n a bits x c requests after_requests got below knows owes fits = catch_moved n a bits x got below c requests after_requests c.step refl knows owes fits
