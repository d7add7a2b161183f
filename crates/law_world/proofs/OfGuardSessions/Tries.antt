-- A step of a try is a list of the guard's events.
use Rattle.std.proofs.Common.{◌≡◌, ℕ, ◌*◌, List, refl, ap, subst, inl, inr, true, false}
use Rattle.std.specs.Prelude.{Some, None, slice_get, slice_set, ◌==◌}
use Rattle.fkv_base.specs.declared.numbers.Addr.{Addr}
use Rattle.fkv_map.specs.declared.operations.Reply.{Reply}
use Rattle.fkv_map.specs.Keys.{value_applied}
use Rattle.fkv_plane.specs.declared.asks.Ask.{Ask}
use Rattle.fkv_plane.specs.declared.places.Places.{Places}
use Rattle.fkv_plane.specs.declared.places.RecordWord.TheVariants as rec
use Rattle.fkv_plane.specs.Places.{record_place}
use Rattle.fkv_plane.specs.Asked.{words_after, reply_to, word_at}
use Rattle.fkv_plane.specs.Passing.{passed}
use Rattle.fkv_plane.proofs.Shown.{passed_words, passed_reply}
use Rattle.fkv_flush.specs.GuardSeen.{LastSeen}
use Rattle.fkv_flush.specs.GuardWorld.{Actor, GuardNow}
use Rattle.fkv_flush.proofs.Shown.{updates, Fits}
use Rattle.fkv_log.specs.Reserving.{reserve_next_ask}
use Rattle.fkv_index.specs.declared.publishing.Publishing.{Publishing}
use Rattle.fkv_index.specs.declared.publishing.Publishing.TheVariants as publishing
use Rattle.fkv_ops.specs.declared.answers.TryAnswer.TheVariants as answer
use Rattle.fkv_ops.specs.declared.appending.Appending.{Appending}
use Rattle.fkv_ops.specs.declared.appending.Appending.TheVariants as appending
use Rattle.fkv_ops.specs.declared.trying.Trying.{Trying}
use Rattle.fkv_ops.specs.declared.trying.Trying.TheVariants.{SwapsValue, ChangesValue, Appends}
use Rattle.fkv_ops.specs.Appending.{AppendState, append_ask, append_next}
use Rattle.fkv_ops.specs.Trying.{TryState, trying_ask, try_ask, trying_next, try_next}
use Rattle.fkv_ops.specs.Values.{value_of, word_of}
use Rattle.fkv_ops.proofs.Shown.{IsAppendUnderWay, TryRestsOrAsks, append_rests}
use Rattle.law_world.specs.GuardSessions.Likenesses.{through}
use Rattle.law_world.specs.GuardSessions.Steps.{outer_events, IsOuter}
use Rattle.law_world.specs.GuardSessions.Tries.{append_events, publish_events, reserved_events, try_events, try_onward, try_likeness, try_likeness_at, AppendWritesOuter, TryWritesOuter}
use Rattle.law_world.proofs.OfGuardSessions.Onwards.{IsSessions, Moved}
use Rattle.law_world.proofs.OfGuardSessions.Outer.{no_event, loaded_words, outer_step, passed_outer, passed_owes}
use Rattle.law_world.proofs.OfGuardSessions.AppendsLed.{truth}
use Rattle.law_world.proofs.OfGuardSessions.Appends.{append_step}
use Rattle.law_world.proofs.OfGuardSessions.TriesLed.{is_appending, append_led, try_free}

publish_passed : {A B : Type 0} (number : ℕ) (words : List ℕ) (its : Publishing) (ask : Ask A) (told : B) → publish_events number words its (passed ask told) ≡ publish_events number words its ask
publish_passed number words (publishing.SwapsEntry place word entry) ask told = rw (passed_outer number words ask told) refl
publish_passed number words publishing.AtRest ask told = passed_outer number words ask told

-- an ask that is passed on is the same events
append_passed : {A B : Type 0} (number room : ℕ) (words : List ℕ) (s : AppendState) (step : Appending) (ask : Ask A) (told : B) → append_events number room words s step (passed ask told) ≡ append_events number room words s step ask
append_passed number room words s (appending.Ended its) ask told = passed_outer number words ask told
append_passed number room words s appending.Reserves ask told = ap (λ r. reserved_events number s (reserve_next_ask room s.reserving r)) (passed_reply words ask told)
append_passed number room words s (appending.Fills addr) ask told = refl
append_passed number room words s (appending.Publishes addr) ask told = publish_passed number words s.publishing ask told
append_passed number room words s appending.Invalidates ask told = refl

pub try_passed : {A B : Type 0} (number room : ℕ) (words : List ℕ) (p : Places) (t : TryState) (step : Trying) (ask : Ask A) (told : B) → try_events number room words p t step (passed ask told) ≡ try_events number room words p t step ask
try_passed number room words p t (SwapsValue addr) ask told = refl
try_passed number room words p t (ChangesValue addr old) ask told = refl
try_passed number room words p t (Appends its) ask told = append_passed number room words t.append t.append.step ask told
try_passed number room words p t step ask told = passed_outer number words ask told

pub append_owes : {A B : Type 0} (p : Places) (step : Appending) (ask : Ask A) (told : B) → AppendWritesOuter p step (passed ask told) ≡ AppendWritesOuter p step ask
append_owes p (appending.Publishes addr) ask told = passed_owes p ask told
append_owes p step ask told = refl

pub try_owes : {A B : Type 0} (p : Places) (t : TryState) (step : Trying) (ask : Ask A) (told : B) → TryWritesOuter p t step (passed ask told) ≡ TryWritesOuter p t step ask
try_owes p t (SwapsValue addr) ask told = refl
try_owes p t (ChangesValue addr old) ask told = refl
try_owes p t (Appends its) ask told = append_owes p t.append.step ask told
try_owes p t step ask told = passed_owes p ask told

module _ (n : GuardNow) (a : ℕ) (x : Actor) (seen : LastSeen) (got : slice_get n.actors a ≡ Some x) (session : IsSessions n.places.sessions a true n.words) where
  abbrev TryMoved : TryState → Trying → Type 0
  TryMoved t step =
      (let room : ℕ = n.shape.disk_pages * n.shape.page in
      let after : TryState = trying_next n.places room (record t { effect = None }) step (reply_to n.words (trying_ask n.places t step)) in
      Moved true n a (try_events a room n.words n.places t step (trying_ask n.places t step)) (try_onward after after.step) (try_likeness seen after) (words_after n.words (trying_ask n.places t step)) n.actions)

  -- an ask of a word that is none of the guard's
  plain : (t : TryState) (step : Trying) → t.step ≡ step → is_appending step ≡ false → Fits (through seen) x → IsOuter n.places (trying_ask n.places t step)
      → (let room : ℕ = n.shape.disk_pages * n.shape.page in
      let after : TryState = trying_next n.places room (record t { effect = None }) step (reply_to n.words (trying_ask n.places t step)) in
      Moved true n a (outer_events a n.words (trying_ask n.places t step)) (try_onward after after.step) (try_likeness seen after) (words_after n.words (trying_ask n.places t step)) n.actions)
  plain t step at other fits owes =
      let room : ℕ = n.shape.disk_pages * n.shape.page in
      record {
        mid = through seen;
        moved = outer_step n a x (through seen) (trying_ask n.places t step) got fits owes;
        leads = try_free n.places room seen (record t { effect = None }) step (reply_to n.words (trying_ask n.places t step)) at other;
      }

  swaps : (t : TryState) (addr : Addr) → t.step ≡ SwapsValue addr → Fits (through seen) x → TryMoved t (SwapsValue addr)
  unfolding trying_ask
  swaps t addr at fits =
      let room : ℕ = n.shape.disk_pages * n.shape.page in
      record {
        mid = through seen;
        moved = record { actor = x; same = updates n a x got addr.0 (word_of (value_applied None t.request.op)); fits = fits };
        leads = try_free n.places room seen (record t { effect = None }) (SwapsValue addr) (word_at n.words (record_place n.places addr.0 rec.Value)) at refl;
      }

  changes_it : (t : TryState) (addr : Addr) (old : ℕ) → t.step ≡ ChangesValue addr old → Fits (through seen) x → TryMoved t (ChangesValue addr old)
  unfolding trying_ask
  changes_it t addr old at fits =
      let room : ℕ = n.shape.disk_pages * n.shape.page in
      let found : ℕ = word_at n.words (record_place n.places addr.0 rec.Value) in
      let new : ℕ = word_of (value_applied (value_of old) t.request.op) in
      record {
        mid = through seen;
        moved = elim (truth (found == old)) [
          | inl e ↦ rw e (record { actor = x; same = updates n a x got addr.0 new; fits = fits })
          | inr e ↦ rw e (record { actor = x; same = no_event n a x (slice_set n.words (record_place n.places addr.0 rec.Value) found) got (loaded_words n.words (record_place n.places addr.0 rec.Value)); fits = fits })
        ];
        leads = try_free n.places room seen (record t { effect = None }) (ChangesValue addr old) found at refl;
      }

  appends_it : (t : TryState) (its : Reply) → t.step ≡ Appends its → IsAppendUnderWay t.append → AppendWritesOuter n.places t.append.step (append_ask n.places t.append) → Fits (try_likeness_at seen t (Appends its)) x → TryMoved t (Appends its)
  unfolding trying_ask trying_next
  appends_it t its at busy owes fits =
      let room : ℕ = n.shape.disk_pages * n.shape.page in
      let ask = append_ask n.places t.append in
      let reply : ℕ = reply_to n.words ask in
      let inner = append_step n a x seen t.append got busy owes fits in
      let after : AppendState = append_next n.places room t.append reply in
      rw (append_passed a room n.words t.append t.append.step ask answer.Shift, passed_words n.words ask answer.Shift, passed_reply n.words ask answer.Shift) (record {
        mid = inner.mid;
        moved = inner.moved;
        leads = append_led n.places seen inner.mid (record t { effect = None; append = after }) its (append_ask n.places after) at refl (append_rests n.places room t.append reply busy.asks) inner.leads;
      })

  try_moved : (t : TryState) (step : Trying) → t.step ≡ step → TryRestsOrAsks (record t { step = step }) → TryWritesOuter n.places t step (trying_ask n.places t step) → Fits (try_likeness_at seen t step) x → TryMoved t step
  unfolding trying_ask
  try_moved t (SwapsValue addr) at rests owes fits = swaps t addr at fits
  try_moved t (ChangesValue addr old) at rests owes fits = changes_it t addr old at fits
  try_moved t (Appends its) at rests owes fits = appends_it t its at rests (subst (λ (o : Type 0). o) (append_owes n.places t.append.step (append_ask n.places t.append) answer.Shift) owes) fits
  try_moved t step at rests owes fits = plain t step at refl fits owes

-- A try that is under way.
pub try_step : (n : GuardNow) (a : ℕ) (x : Actor) (seen : LastSeen) (t : TryState) → slice_get n.actors a ≡ Some x → IsSessions n.places.sessions a true n.words → TryRestsOrAsks t → TryWritesOuter n.places t t.step (try_ask n.places t) → Fits (try_likeness seen t) x
    → (let room : ℕ = n.shape.disk_pages * n.shape.page in
    let after : TryState = try_next n.places room t (reply_to n.words (try_ask n.places t)) in
    Moved true n a (try_events a room n.words n.places t t.step (try_ask n.places t)) (try_onward after after.step) (try_likeness seen after) (words_after n.words (try_ask n.places t)) n.actions)
try_step n a x seen t got session rests owes fits = try_moved n a x seen got session t t.step refl rests owes fits
