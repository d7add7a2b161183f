-- A machine is at rest, or it asks for something, or it pauses for its call of the device.
use Rattle.std.proofs.Common.{◌≡◌, ◌⊎◌, refl, inl, inr, false}
use Rattle.fkv_plane.specs.declared.asks.Ask.TheVariants.{Done}
use Rattle.fkv_plane.specs.declared.places.Places.{Places}
use Rattle.fkv_plane.specs.Passing.{is_done}
use Rattle.fkv_flush.specs.declared.answers.DeviceAnswer.TheVariants.{Device}
use Rattle.fkv_flush.specs.declared.flushing.Flushing.{Flushing}
use Rattle.fkv_flush.specs.declared.flushing.Flushing.TheVariants as flush
use Rattle.fkv_flush.specs.declared.serving.Serving.{Serving}
use Rattle.fkv_flush.specs.declared.serving.Serving.TheVariants as serve
use Rattle.fkv_flush.specs.Flushing.{flush_ask}
use Rattle.fkv_flush.specs.Serving.{serve_ask}

pub flush_asks : (places : Places) (step : Flushing) → ((step ≡ flush.AtRest) ⊎ (flush_ask places step ≡ Done Device)) ⊎ (is_done (flush_ask places step) ≡ false)
unfolding flush_ask
flush_asks places flush.AtRest = inl (inl refl)
flush_asks places (flush.WritesPart part) = inl (inr refl)
flush_asks places (flush.Syncs end) = inl (inr refl)
flush_asks places step = inr refl

pub serve_asks : (step : Serving) → ((step ≡ serve.AtRest) ⊎ (serve_ask step ≡ Done Device)) ⊎ (is_done (serve_ask step) ≡ false)
unfolding serve_ask
serve_asks serve.AtRest = inl (inl refl)
serve_asks (serve.Reads session addr) = inl (inr refl)
serve_asks step = inr refl
