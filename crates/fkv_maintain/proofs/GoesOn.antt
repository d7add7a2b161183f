-- A flush that asks for a word leads no further, and neither does one that has loaded a record's word.
use Rattle.std.proofs.Common.{◌≡◌, ◌≢◌, ◌⊎◌, ℕ, ◌+◌, Bool, true, false, inl, inr, refl, sym, ap, subst, ◌∙◌}
use Rattle.std.specs.Prelude.{nat_lt, if◌then◌else◌, Some}
use Rattle.std.proofs.lemmas.Option.{none-some, same_Some}
use Rattle.fkv_plane.specs.declared.asks.Ask.{Ask}
use Rattle.fkv_plane.specs.declared.asks.Ask.TheVariants.{Load, Store, Swap, Cas, Add, Max, Put, Take, Done}
use Rattle.fkv_plane.specs.declared.places.Places.{Places}
use Rattle.fkv_plane.specs.Passing.{passed}
use Rattle.fkv_plane.specs.declared.places.RecordWord.TheVariants as rec
use Rattle.fkv_base.specs.declared.shapes.Shape.{Shape}
use Rattle.fkv_flush.specs.declared.answers.DeviceAnswer.{DeviceAnswer}
use Rattle.fkv_flush.specs.declared.answers.DeviceAnswer.TheVariants.{Device}
use Rattle.fkv_flush.specs.declared.flushing.Flushing.{Flushing}
use Rattle.fkv_flush.specs.declared.flushing.Flushing.TheVariants.{AtRest, LoadsFlushed, LoadsEnd, LoadsWord, WritesPart, Syncs, RaisesFlushed}
use Rattle.fkv_flush.specs.Flushing.{bytes_next, flush_ask, flush_next, word_due}
use Rattle.fkv_maintain.specs.declared.maintaining.MaintainAnswer.TheVariants.{Device as AtDevice}
use Rattle.fkv_maintain.specs.declared.maintaining.Maintaining.{Maintaining}
use Rattle.fkv_maintain.specs.declared.maintaining.Maintaining.TheVariants.{Through, Spent, Broken, Scans, Claims, Flushes, Shifts, Turns, Serves}
use Rattle.fkv_maintain.specs.Maintaining.{MaintainState, device_asked, flush_ledto, maintain_ask, maintain_next, maintain_word_due, maintaining_ask, maintaining_next, word_due_at}

pub flush_goes_on : (s : MaintainState) (ask : Ask DeviceAnswer) → ((its : DeviceAnswer) → ask ≢ Done its) → flush_ledto s ask ≡ s
unfolding flush_ledto
flush_goes_on s (Load place) asks = refl
flush_goes_on s (Store place new) asks = refl
flush_goes_on s (Swap place new) asks = refl
flush_goes_on s (Cas place old new) asks = refl
flush_goes_on s (Add place number) asks = refl
flush_goes_on s (Max place number) asks = refl
flush_goes_on s (Put slot action) asks = refl
flush_goes_on s (Take slot) asks = refl
flush_goes_on s (Done its) asks = absurd (asks its refl)

-- an ask that is a load, or a call of the device
abbrev pub IsLoadOrCall : {A : Type 0} → A → Ask A → Type 0
IsLoadOrCall {A} device ask = ((place : ℕ) × (ask ≡ Load place)) ⊎ (ask ≡ Done device)

-- behind a record's word comes another one, or the write of all that are in hand
word_asks : (p : Places) (page : ℕ) (step : Flushing) (place reply : ℕ) → word_due p step ≡ Some place → IsLoadOrCall Device (flush_ask p (flush_next page step reply))
unfolding flush_ask flush_next
word_asks p page (LoadsWord part addr rec.Header) place reply due = inl (_, refl)
word_asks p page (LoadsWord part addr rec.Key) place reply due = inl (_, refl)
word_asks p page (LoadsWord part addr rec.Value) place reply due = by (nat_lt (addr + 1) part.stop)
  where
    by : (more : Bool) → IsLoadOrCall Device (flush_ask p (if more then LoadsWord part (addr + 1) rec.Header else WritesPart part))
    by true = inl (_, refl)
    by false = inr refl
word_asks p page AtRest place reply due = absurd (none-some place due)
word_asks p page LoadsFlushed place reply due = absurd (none-some place due)
word_asks p page (LoadsEnd flushed) place reply due = absurd (none-some place due)
word_asks p page (WritesPart part) place reply due = absurd (none-some place due)
word_asks p page (Syncs end) place reply due = absurd (none-some place due)
word_asks p page (RaisesFlushed end) place reply due = absurd (none-some place due)

-- what is due is asked for
load_due : (p : Places) (step : Flushing) (place : ℕ) → word_due p step ≡ Some place → flush_ask p step ≡ Load place
unfolding flush_ask
load_due p (LoadsWord part addr word) place due = ap (λ (at : ℕ). Load at) (same_Some _ _ due)
load_due p AtRest place due = absurd (none-some place due)
load_due p LoadsFlushed place due = absurd (none-some place due)
load_due p (LoadsEnd flushed) place due = absurd (none-some place due)
load_due p (WritesPart part) place due = absurd (none-some place due)
load_due p (Syncs end) place due = absurd (none-some place due)
load_due p (RaisesFlushed end) place due = absurd (none-some place due)

led_no_further : (s : MaintainState) (ask : Ask DeviceAnswer) → IsLoadOrCall Device ask → flush_ledto s ask ≡ s
unfolding flush_ledto
led_no_further s ask (inl (place, is)) = ap (flush_ledto s) is
led_no_further s ask (inr is) = ap (flush_ledto s) is

passed_so : (ask : Ask DeviceAnswer) → IsLoadOrCall Device ask → IsLoadOrCall AtDevice (device_asked ask)
unfolding device_asked passed
passed_so ask (inl (place, is)) = inl (place, ap device_asked is)
passed_so ask (inr is) = inr (ap device_asked is)

-- the part that the flush is at
due_flushes : (p : Places) (s : MaintainState) (step : Maintaining) (place : ℕ) → word_due_at p s step ≡ Some place → (step ≡ Flushes) × (word_due p s.flushing ≡ Some place)
due_flushes p s Flushes place due = (refl, due)
due_flushes p s Through place due = absurd (none-some place due)
due_flushes p s Spent place due = absurd (none-some place due)
due_flushes p s Broken place due = absurd (none-some place due)
due_flushes p s Scans place due = absurd (none-some place due)
due_flushes p s Claims place due = absurd (none-some place due)
due_flushes p s Shifts place due = absurd (none-some place due)
due_flushes p s Turns place due = absurd (none-some place due)
due_flushes p s Serves place due = absurd (none-some place due)

-- Behind a record's word the flush alone has gone on.
pub word_goes_on : (shape : Shape) (p : Places) (s : MaintainState) (place reply : ℕ) → maintain_word_due p s ≡ Some place → maintain_next shape p s reply ≡ record s { bytes = bytes_next s.flushing s.bytes reply; flushing = flush_next shape.page s.flushing reply }
unfolding maintaining_next
word_goes_on shape p s place reply due =
    let its = due_flushes p s s.step place due in
    let on : MaintainState = record s { bytes = bytes_next s.flushing s.bytes reply; flushing = flush_next shape.page s.flushing reply } in
    ap (λ (step : Maintaining). maintaining_next shape p s step reply) its.0 ∙ led_no_further on (flush_ask p on.flushing) (word_asks p shape.page s.flushing place reply its.1)

-- the ask of a record's word
pub due_asks : (shape : Shape) (p : Places) (s : MaintainState) (place : ℕ) → maintain_word_due p s ≡ Some place → maintain_ask shape p s ≡ Load place
unfolding maintaining_ask device_asked passed
due_asks shape p s place due =
    let its = due_flushes p s s.step place due in
    ap (λ (step : Maintaining). maintaining_ask shape p s step) its.0 ∙ ap device_asked (load_due p s.flushing place its.1)

-- and what is asked behind it
pub kept_asks : (shape : Shape) (p : Places) (s : MaintainState) (place reply : ℕ) → maintain_word_due p s ≡ Some place → IsLoadOrCall AtDevice (maintain_ask shape p (maintain_next shape p s reply))
unfolding maintaining_ask
kept_asks shape p s place reply due =
    let its = due_flushes p s s.step place due in
    let on : MaintainState = record s { bytes = bytes_next s.flushing s.bytes reply; flushing = flush_next shape.page s.flushing reply } in
    let same : maintain_ask shape p (maintain_next shape p s reply) ≡ device_asked (flush_ask p on.flushing) =
    ap (λ (m : MaintainState). maintain_ask shape p m) (word_goes_on shape p s place reply due) ∙ ap (λ (step : Maintaining). maintaining_ask shape p on step) its.0 in
    subst (IsLoadOrCall AtDevice) (sym same) (passed_so (flush_ask p on.flushing) (word_asks p shape.page s.flushing place reply its.1))
