-- The call of the device that a flush makes next says whether its sync is due.
use Rattle.std.proofs.Common.{◌≡◌, ◌∙◌, ℕ, List, Bool, true, false, refl, ap}
use Rattle.std.specs.Prelude.{Option, Some, None}
use Rattle.fkv_base.specs.declared.shapes.Shape.{Shape}
use Rattle.fkv_disk.specs.Asks.{AskedCall, Syncs as AsksSync, asked_call, first_asked}
use Rattle.fkv_disk.specs.declared.asks.DeviceAsk.{DeviceAsk}
use Rattle.fkv_disk.specs.declared.asks.DeviceAsk.TheVariants as ask
use Rattle.fkv_flush.specs.declared.flushing.Flushing.{Flushing}
use Rattle.fkv_flush.specs.declared.flushing.Flushing.TheVariants.{AtRest, LoadsFlushed, LoadsEnd, LoadsWord, WritesPart, Syncs, RaisesFlushed}
use Rattle.fkv_flush.specs.Flushing.{flush_calls}
use Rattle.fkv_maintain.specs.Maintaining.{is_sync_asked, is_sync_due}

abbrev syncs : Option AskedCall → Bool
syncs (Some AsksSync) = true
syncs asked = false

asks_so : (asked : Option DeviceAsk) → is_sync_asked asked ≡ syncs (asked_call asked)
asks_so None = refl
asks_so (Some (ask.Read at count)) = refl
asks_so (Some (ask.Write at bytes)) = refl
asks_so (Some ask.Sync) = refl

calls_so : (shape : Shape) (bytes : List ℕ) (step : Flushing) → syncs (first_asked (flush_calls shape bytes step true)) ≡ is_sync_due step
unfolding flush_calls
calls_so shape bytes AtRest = refl
calls_so shape bytes LoadsFlushed = refl
calls_so shape bytes (LoadsEnd flushed) = refl
calls_so shape bytes (LoadsWord part addr word) = refl
calls_so shape bytes (WritesPart part) = refl
calls_so shape bytes (Syncs end) = refl
calls_so shape bytes (RaisesFlushed end) = refl

pub due_so : (shape : Shape) (bytes : List ℕ) (step : Flushing) (asked : Option DeviceAsk) → asked_call asked ≡ first_asked (flush_calls shape bytes step true) → is_sync_asked asked ≡ is_sync_due step
due_so shape bytes step asked same = asks_so asked ∙ ap syncs same ∙ calls_so shape bytes step
