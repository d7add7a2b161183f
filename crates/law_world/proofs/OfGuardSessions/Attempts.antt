-- A step of an attempt is a list of the guard's events.
use Rattle.std.proofs.Common.{◌≡◌, ℕ, ◌*◌, List, refl, subst, true, false}
use Rattle.std.specs.Prelude.{Some, None, slice_get}
use Rattle.fkv_plane.specs.declared.asks.Ask.{Ask}
use Rattle.fkv_plane.specs.declared.places.Places.{Places}
use Rattle.fkv_plane.specs.Asked.{words_after, reply_to}
use Rattle.fkv_plane.specs.Passing.{passed}
use Rattle.fkv_plane.proofs.Shown.{passed_words, passed_reply}
use Rattle.fkv_flush.specs.GuardSeen.{LastSeen}
use Rattle.fkv_flush.specs.GuardWorld.{Actor, GuardNow}
use Rattle.fkv_flush.proofs.Shown.{Fits}
use Rattle.fkv_ops.specs.declared.answers.TryAnswer.TheVariants as answer
use Rattle.fkv_ops.specs.Trying.{TryState, try_ask, try_next}
use Rattle.fkv_ops.proofs.Shown.{try_rests}
use Rattle.fkv_pending.specs.declared.attempting.Attempting.{Attempting}
use Rattle.fkv_pending.specs.declared.attempting.Attempting.TheVariants.{Tries}
use Rattle.fkv_pending.specs.Attempting.{AttemptState, attempting_ask, attempt_ask, attempting_next, attempt_next, try_moved}
use Rattle.fkv_pending.proofs.Shown.{AttemptAsksAt, AttemptRestsOrAsks}
use Rattle.law_world.specs.GuardSessions.Likenesses.{through}
use Rattle.law_world.specs.GuardSessions.Steps.{outer_events, IsOuter}
use Rattle.law_world.specs.GuardSessions.Tries.{TryWritesOuter}
use Rattle.law_world.specs.GuardSessions.Attempts.{attempt_events, attempt_onward, attempt_likeness, attempt_likeness_at, AttemptWritesOuter}
use Rattle.law_world.proofs.OfGuardSessions.Onwards.{IsSessions, Moved}
use Rattle.law_world.proofs.OfGuardSessions.Outer.{outer_step, passed_outer}
use Rattle.law_world.proofs.OfGuardSessions.OwnWords.{attempt_outer}
use Rattle.law_world.proofs.OfGuardSessions.Tries.{try_passed, try_owes, try_step}
use Rattle.law_world.proofs.OfGuardSessions.AttemptsLed.{is_trying, try_ends, attempt_free}

-- an ask that is passed on is the same events, and owes the same
pub attempt_passed : {A B : Type 0} (number room : ℕ) (words : List ℕ) (p : Places) (a : AttemptState) (step : Attempting) (ask : Ask A) (told : B) → attempt_events number room words p a step (passed ask told) ≡ attempt_events number room words p a step ask
attempt_passed number room words p a Tries ask told = try_passed number room words p a.trial a.trial.step ask told
attempt_passed number room words p a step ask told = passed_outer number words ask told

pub attempt_owes : {A B : Type 0} (p : Places) (a : AttemptState) (step : Attempting) (ask : Ask A) (told : B) → AttemptWritesOuter p a step (passed ask told) ≡ AttemptWritesOuter p a step ask
attempt_owes p a Tries ask told = try_owes p a.trial a.trial.step ask told
attempt_owes p a step ask told = refl

module _ (n : GuardNow) (number bits : ℕ) (x : Actor) (seen : LastSeen) (got : slice_get n.actors number ≡ Some x) (session : IsSessions n.places.sessions number true n.words) where
  abbrev AttemptMoved : AttemptState → Attempting → Type 0
  AttemptMoved a step =
      (let room : ℕ = n.shape.disk_pages * n.shape.page in
      let after : AttemptState = attempting_next n.places bits room number (record a { effect = None }) step (reply_to n.words (attempting_ask n.places number a step)) in
      Moved true n number (attempt_events number room n.words n.places a step (attempting_ask n.places number a step)) (attempt_onward after after.step) (attempt_likeness seen after) (words_after n.words (attempting_ask n.places number a step)) n.actions)

  plain : (a : AttemptState) (step : Attempting) → a.step ≡ step → is_trying step ≡ false → Fits (through seen) x → IsOuter n.places (attempting_ask n.places number a step)
      → (let room : ℕ = n.shape.disk_pages * n.shape.page in
      let after : AttemptState = attempting_next n.places bits room number (record a { effect = None }) step (reply_to n.words (attempting_ask n.places number a step)) in
      Moved true n number (outer_events number n.words (attempting_ask n.places number a step)) (attempt_onward after after.step) (attempt_likeness seen after) (words_after n.words (attempting_ask n.places number a step)) n.actions)
  plain a step at other fits owes =
      let room : ℕ = n.shape.disk_pages * n.shape.page in
      record {
        mid = through seen;
        moved = outer_step n number x (through seen) (attempting_ask n.places number a step) got fits owes;
        leads = attempt_free n.places bits room number seen (record a { effect = None }) step (reply_to n.words (attempting_ask n.places number a step)) at other;
      }

  tries_it : (a : AttemptState) → a.step ≡ Tries → AttemptAsksAt a Tries → TryWritesOuter n.places a.trial a.trial.step (try_ask n.places a.trial) → Fits (attempt_likeness_at seen a Tries) x → AttemptMoved a Tries
  unfolding attempting_ask attempting_next
  tries_it a at asks owes fits =
      let room : ℕ = n.shape.disk_pages * n.shape.page in
      let ask = try_ask n.places a.trial in
      let reply : ℕ = reply_to n.words ask in
      let inner = try_step n number x seen a.trial got session asks.0 owes fits in
      let after : TryState = try_next n.places room a.trial reply in
      rw (try_passed number room n.words n.places a.trial a.trial.step ask answer.Shift, passed_words n.words ask answer.Shift, passed_reply n.words ask answer.Shift) (record {
        mid = inner.mid;
        moved = inner.moved;
        leads = try_ends n.places seen inner.mid (try_moved n.places room (record a { effect = None }) reply) (try_ask n.places after) at refl (try_rests n.places room a.trial reply asks.0) inner.leads;
      })

  attempt_moved : (a : AttemptState) (step : Attempting) → a.step ≡ step → AttemptAsksAt a step → AttemptWritesOuter n.places a step (attempting_ask n.places number a step) → Fits (attempt_likeness_at seen a step) x → AttemptMoved a step
  unfolding attempting_ask
  attempt_moved a Tries at asks owes fits = tries_it a at asks (subst (λ (o : Type 0). o) (try_owes n.places a.trial a.trial.step (try_ask n.places a.trial) answer.Shift) owes) fits
  attempt_moved a step at asks owes fits = plain a step at refl fits (attempt_outer n.places number a step session.below refl)

-- An attempt that is under way.
pub attempt_step : (n : GuardNow) (number bits : ℕ) (x : Actor) (seen : LastSeen) (a : AttemptState) → slice_get n.actors number ≡ Some x → IsSessions n.places.sessions number true n.words → AttemptRestsOrAsks a
    → AttemptWritesOuter n.places a a.step (attempt_ask n.places number a) → Fits (attempt_likeness seen a) x
    → (let room : ℕ = n.shape.disk_pages * n.shape.page in
    let after : AttemptState = attempt_next n.places bits room number a (reply_to n.words (attempt_ask n.places number a)) in
    Moved true n number (attempt_events number room n.words n.places a a.step (attempt_ask n.places number a)) (attempt_onward after after.step) (attempt_likeness seen after) (words_after n.words (attempt_ask n.places number a)) n.actions)
attempt_step n number bits x seen a got session asks owes fits = attempt_moved n number bits x seen got session a a.step refl asks owes fits
