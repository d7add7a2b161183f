-- How many asks and calls of the device a flush and a serving of the mailboxes have left, at most.
use Rattle.std.specs.Prelude.{◌≡◌, ℕ, ◌+◌, ◌-◌, ◌*◌, ◌^◌, ◌<◌, ◌↔◌, Bool, true, false}
use Rattle.fkv_plane.specs.declared.asks.Ask.{Ask}
use Rattle.fkv_plane.specs.declared.asks.Ask.TheVariants.{Done}
use Rattle.fkv_plane.specs.Places.{record_number}
use Rattle.fkv_flush.specs.declared.answers.DeviceAnswer.{DeviceAnswer}
use Rattle.fkv_flush.specs.declared.answers.DeviceAnswer.TheVariants as answer
use Rattle.fkv_flush.specs.declared.flushing.Part.{Part}
use Rattle.fkv_flush.specs.declared.flushing.Flushing.{Flushing}
use Rattle.fkv_flush.specs.declared.flushing.Flushing.TheVariants as flush
use Rattle.fkv_flush.specs.declared.serving.Serving.{Serving}
use Rattle.fkv_flush.specs.declared.serving.Serving.TheVariants as serve

-- a machine is at its end, and neither about to ask for something nor to call the device
abbrev pub is_through : Ask DeviceAnswer → Bool
is_through (Done answer.Through) = true
is_through ask = false

-- it asks or calls just where it has some left
abbrev pub GoesOnWhereLeft : ℕ → Ask DeviceAnswer → Type 0
GoesOnWhereLeft left ask = (is_through ask ≡ false) ↔ (0 < left)

-- Behind a part come three loads of each record up to the end, and a write for each page, of which each has a record at least. At the
-- end come the sync and the raise.
abbrev pub asks_behind : Part → ℕ
asks_behind part = 4 * (part.end - part.stop) + 2

-- a flush: before its end is loaded, that is below 2^48
unfoldable pub flush_asks_left : Flushing → ℕ
flush_asks_left flush.AtRest = 0
flush_asks_left flush.LoadsFlushed = 4 * 2 ^ 48 + 4
flush_asks_left (flush.LoadsEnd flushed) = 4 * (2 ^ 48 - flushed) + 3
flush_asks_left (flush.LoadsWord part addr word) = (3 - record_number word) + 3 * (part.stop - (addr + 1)) + 1 + asks_behind part
flush_asks_left (flush.WritesPart part) = 1 + asks_behind part
flush_asks_left (flush.Syncs end) = 2
flush_asks_left (flush.RaisesFlushed end) = 1

abbrev pub most_flush_asks : ℕ
most_flush_asks = 4 * 2 ^ 48 + 4

-- once its end is loaded: by the records up to there
abbrev pub EndsWithin : Flushing → ℕ → Flushing → Type 0
EndsWithin step end next = (flushed : ℕ) → step ≡ flush.LoadsEnd flushed → flush_asks_left next < 4 * (end - flushed) + 3

-- a serving: two loads, a read and four stores for each session that isn't done with
unfoldable pub serve_asks_left : ℕ → Serving → ℕ
serve_asks_left sessions serve.AtRest = 0
serve_asks_left sessions (serve.LoadsState session) = 7 * (sessions - (session + 1)) + 7
serve_asks_left sessions (serve.LoadsAddress session) = 7 * (sessions - (session + 1)) + 6
serve_asks_left sessions (serve.Reads session addr) = 7 * (sessions - (session + 1)) + 5
serve_asks_left sessions (serve.StoresHeader session mail) = 7 * (sessions - (session + 1)) + 4
serve_asks_left sessions (serve.StoresKey session mail) = 7 * (sessions - (session + 1)) + 3
serve_asks_left sessions (serve.StoresValue session mail) = 7 * (sessions - (session + 1)) + 2
serve_asks_left sessions (serve.StoresReady session) = 7 * (sessions - (session + 1)) + 1

abbrev pub most_serve_asks : ℕ → ℕ
most_serve_asks sessions = 7 * sessions
