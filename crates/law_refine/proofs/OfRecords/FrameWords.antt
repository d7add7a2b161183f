-- Which word of a frame a session's next step may write: that of a record that it fills, invalidates or changes in place.
use Rattle.std.proofs.Common.{◌≡◌, ℕ, ◌∙◌, refl, ap}
use Rattle.std.specs.Prelude.{Option, Some, None}
use Rattle.fkv_epoch.proofs.Shown.{some_same}
use Rattle.fkv_plane.specs.declared.asks.Ask.{Ask}
use Rattle.fkv_plane.specs.declared.asks.Ask.TheVariants.{Load, Store, Swap, Cas, Add, Max, Put, Take, Done}
use Rattle.fkv_plane.specs.declared.places.Places.{Places}
use Rattle.fkv_plane.specs.declared.places.RecordWord.{RecordWord}
use Rattle.fkv_plane.specs.declared.places.RecordWord.TheVariants as rec
use Rattle.fkv_plane.specs.Asked.{asked, asked_place}
use Rattle.fkv_plane.specs.Passing.{passed}
use Rattle.fkv_plane.specs.Places.{record_place}
use Rattle.law_world.specs.Below.fkv_log.TheFilling.{Filling}
use Rattle.law_world.specs.Below.fkv_log.TheFilling.TheVariants as fill
use Rattle.law_world.specs.Below.fkv_log.TheInvalidating.{Invalidating}
use Rattle.law_world.specs.Below.fkv_log.TheInvalidating.TheVariants as invalidate
use Rattle.law_world.specs.Below.fkv_log.Filling.{fill_ask}
use Rattle.law_world.specs.Below.fkv_log.Invalidating.{invalidate_ask}
use Rattle.law_world.specs.Below.fkv_ops.TheAppending.{Appending}
use Rattle.law_world.specs.Below.fkv_ops.TheAppending.TheVariants as appending
use Rattle.law_world.specs.Below.fkv_ops.TheTrying.{Trying}
use Rattle.law_world.specs.Below.fkv_ops.TheTrying.TheVariants.{SwapsValue, ChangesValue, Appends}
use Rattle.law_world.specs.Below.fkv_ops.Appending.{AppendState, appending_ask}
use Rattle.law_world.specs.Below.fkv_ops.Trying.{TryState, trying_ask}
use Rattle.law_world.specs.Below.fkv_pending.TheAttempting.{Attempting}
use Rattle.law_world.specs.Below.fkv_pending.TheAttempting.TheVariants.{Tries}
use Rattle.law_world.specs.Below.fkv_pending.Attempting.{AttemptState, attempting_ask}
use Rattle.law_world.specs.Below.fkv_session.Sitting.{Sitting}
use Rattle.law_world.specs.Below.fkv_session.Sitting.TheVariants.{Attempts, Polls}
use Rattle.law_world.specs.Below.fkv_session.Sessions.{SessionState, Seat, sitting_ask}

-- a word of the record at an address
pub record FrameWord : Type 0 where
  pub addr : ℕ
  pub word : RecordWord

abbrev pub fill_word : Filling → Option FrameWord
fill_word fill.AtRest = None
fill_word (fill.StoresValue addr its_words) = Some (record { addr = addr.0; word = rec.Value })
fill_word (fill.StoresKey addr its_words) = Some (record { addr = addr.0; word = rec.Key })
fill_word (fill.StoresHeader addr its_words) = Some (record { addr = addr.0; word = rec.Header })

abbrev pub invalidate_word : Invalidating → Option FrameWord
invalidate_word invalidate.AtRest = None
invalidate_word (invalidate.StoresHeader addr header) = Some (record { addr = addr.0; word = rec.Header })

abbrev pub append_word : AppendState → Appending → Option FrameWord
append_word a (appending.Fills addr) = fill_word a.filling
append_word a appending.Invalidates = invalidate_word a.invalidating
append_word a step = None

abbrev pub try_word : TryState → Trying → Option FrameWord
try_word t (SwapsValue addr) = Some (record { addr = addr.0; word = rec.Value })
try_word t (ChangesValue addr old) = Some (record { addr = addr.0; word = rec.Value })
try_word t (Appends its) = append_word t.append t.append.step
try_word t step = None

abbrev pub attempt_word : AttemptState → Attempting → Option FrameWord
attempt_word a Tries = try_word a.trial a.trial.step
attempt_word a step = None

abbrev pub sitting_word : SessionState → Sitting → Option FrameWord
sitting_word s (Attempts has_shifted) = attempt_word s.attempt s.attempt.step
sitting_word s (Polls index) = attempt_word s.attempt s.attempt.step
sitting_word s step = None

-- ---- it is the word for which the session asks
abbrev pub place_of : Places → FrameWord → ℕ
place_of p f = record_place p f.addr f.word

pub place_passed : {A B : Type 0} (ask : Ask A) (told : B) → asked_place (passed ask told) ≡ asked_place ask
unfolding passed
place_passed (Load place) told = refl
place_passed (Store place new) told = refl
place_passed (Swap place new) told = refl
place_passed (Cas place old new) told = refl
place_passed (Add place k) told = refl
place_passed (Max place k) told = refl
place_passed (Put slot action) told = refl
place_passed (Take slot) told = refl
place_passed (Done its) told = refl

pub asked_passed : {A B : Type 0} (ask : Ask A) (told : B) (n : ℕ) → asked (passed ask told) n ≡ asked ask n
unfolding passed
asked_passed (Load place) told n = refl
asked_passed (Store place new) told n = refl
asked_passed (Swap place new) told n = refl
asked_passed (Cas place old new) told n = refl
asked_passed (Add place k) told n = refl
asked_passed (Max place k) told n = refl
asked_passed (Put slot action) told n = refl
asked_passed (Take slot) told n = refl
asked_passed (Done its) told n = refl

same_place : (p : Places) (f g : FrameWord) → Some f ≡ Some g → Some (place_of p f) ≡ Some (place_of p g)
same_place p f g e = ap (λ (x : FrameWord). Some (place_of p x)) (some_same f g e)

fill_asks : (p : Places) (step : Filling) (f : FrameWord) → fill_word step ≡ Some f → asked_place (fill_ask p step) ≡ Some (place_of p f)
unfolding fill_ask
fill_asks p fill.AtRest f e = cc
fill_asks p (fill.StoresValue addr its_words) f e = same_place p (record { addr = addr.0; word = rec.Value }) f e
fill_asks p (fill.StoresKey addr its_words) f e = same_place p (record { addr = addr.0; word = rec.Key }) f e
fill_asks p (fill.StoresHeader addr its_words) f e = same_place p (record { addr = addr.0; word = rec.Header }) f e

invalidate_asks : (p : Places) (step : Invalidating) (f : FrameWord) → invalidate_word step ≡ Some f → asked_place (invalidate_ask p step) ≡ Some (place_of p f)
unfolding invalidate_ask
invalidate_asks p invalidate.AtRest f e = cc
invalidate_asks p (invalidate.StoresHeader addr header) f e = same_place p (record { addr = addr.0; word = rec.Header }) f e

append_asks : (p : Places) (a : AppendState) (step : Appending) (f : FrameWord) → append_word a step ≡ Some f → asked_place (appending_ask p a step) ≡ Some (place_of p f)
unfolding appending_ask
append_asks p a (appending.Fills addr) f e = place_passed (fill_ask p a.filling) _ ∙ fill_asks p a.filling f e
append_asks p a appending.Invalidates f e = place_passed (invalidate_ask p a.invalidating) _ ∙ invalidate_asks p a.invalidating f e
append_asks p a step f e = cc

try_asks : (p : Places) (t : TryState) (step : Trying) (f : FrameWord) → try_word t step ≡ Some f → asked_place (trying_ask p t step) ≡ Some (place_of p f)
unfolding trying_ask
try_asks p t (SwapsValue addr) f e = same_place p (record { addr = addr.0; word = rec.Value }) f e
try_asks p t (ChangesValue addr old) f e = same_place p (record { addr = addr.0; word = rec.Value }) f e
try_asks p t (Appends its) f e = place_passed (appending_ask p t.append t.append.step) _ ∙ append_asks p t.append t.append.step f e
try_asks p t step f e = cc

attempt_asks : (p : Places) (number : ℕ) (a : AttemptState) (step : Attempting) (f : FrameWord) → attempt_word a step ≡ Some f → asked_place (attempting_ask p number a step) ≡ Some (place_of p f)
unfolding attempting_ask
attempt_asks p number a Tries f e = place_passed (trying_ask p a.trial a.trial.step) _ ∙ try_asks p a.trial a.trial.step f e
attempt_asks p number a step f e = cc

pub sitting_asks : (k : Seat) (s : SessionState) (step : Sitting) (f : FrameWord) → sitting_word s step ≡ Some f → asked_place (sitting_ask k s step) ≡ Some (place_of k.places f)
unfolding sitting_ask
sitting_asks k s (Attempts has_shifted) f e = place_passed (attempting_ask k.places k.number s.attempt s.attempt.step) _ ∙ attempt_asks k.places k.number s.attempt s.attempt.step f e
sitting_asks k s (Polls index) f e = place_passed (attempting_ask k.places k.number s.attempt s.attempt.step) _ ∙ attempt_asks k.places k.number s.attempt s.attempt.step f e
sitting_asks k s step f e = cc
