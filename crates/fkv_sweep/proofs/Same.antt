-- A sweep goes over the same records of the same store, whatever happens.
use Rattle.std.proofs.Common.{◌≡◌, ℕ, refl, ◌∙◌, List, [], ◌∷◌}
use Rattle.std.specs.Prelude.{◌==◌, nat_lt}
use Rattle.fkv_base.specs.declared.numbers.Addr.{Addr}
use Rattle.fkv_base.specs.declared.numbers.Key.{Key}
use Rattle.fkv_plane.specs.declared.asks.Ask.{Ask}
use Rattle.fkv_plane.specs.declared.asks.Ask.TheVariants.{Load, Store, Swap, Cas, Add, Max, Put, Take, Done}
use Rattle.fkv_index.specs.declared.finding.Found.{Found}
use Rattle.fkv_index.specs.declared.finding.Found.TheVariants.{Slot, NoSlot, Full, Kept, Contended}
use Rattle.fkv_index.specs.declared.finding.FindAnswer.{FindAnswer}
use Rattle.fkv_index.specs.Slots.{entry_addr}
use Rattle.fkv_index.specs.Finding.{find_next, find_next_ask}
use Rattle.fkv_sweep.specs.declared.record_words.RecordWords.{RecordWords}
use Rattle.fkv_sweep.specs.declared.sweeping.Sweeping.{Sweeping}
use Rattle.fkv_sweep.specs.declared.sweeping.Sweeping.TheVariants.{AtRest, LoadsHead, Takes, Meets, Finds, LoadsKey, LoadsHeader, Reads}
use Rattle.fkv_sweep.specs.Sweeping.{Sweeper, previous_in, is_counted, turn_begun, record_passed, key_wanted, reached, led_down, slot_found, find_ledto, key_met, chain_met, record_met, sweeping_next, sweep_next, sweeping_read, sweep_read, sweep_failed, piece_read, words_held, words_at}
use Rattle.fkv_sweep.specs.Swept.{SweepEvent, TurnBegins, IsReplied, IsRead, ReadFails, SweepMoment, sweep_happens, sweep_run}
use Rattle.fkv_sweep.proofs.Searches.{if_either}

-- from one moment to a later one
pub record IsSameSweep (s later : Sweeper) : Type 0 where
  pub shape : later.shape ≡ s.shape
  pub places : later.places ≡ s.places
  pub from : later.from ≡ s.from
  pub to : later.to ≡ s.to

same : (s : Sweeper) → IsSameSweep s s
same s = record { shape = refl; places = refl; from = refl; to = refl }

then_same : (s t later : Sweeper) → IsSameSweep s t → IsSameSweep t later → IsSameSweep s later
then_same s t later first second = record { shape = second.shape ∙ first.shape; places = second.places ∙ first.places; from = second.from ∙ first.from; to = second.to ∙ first.to }

passed_same : (s : Sweeper) → IsSameSweep s (record_passed s)
passed_same s = record { shape = refl; places = refl; from = refl; to = refl }

wanted_same : (s : Sweeper) (key : Key) → IsSameSweep s (key_wanted s key)
wanted_same s key = record { shape = refl; places = refl; from = refl; to = refl }

step_same : (s : Sweeper) (step : Sweeping) → IsSameSweep s (record s { step = step })
step_same s step = record { shape = refl; places = refl; from = refl; to = refl }

reached_same : (s : Sweeper) (key : Key) (addr : ℕ) → IsSameSweep s (reached s key addr)
reached_same s key addr = if_either (IsSameSweep s) (nat_lt addr s.to.0) _ _ (wanted_same s key)
    (if_either (IsSameSweep s) (nat_lt addr s.head.0) _ _ (step_same s (Reads key (record { 0 = addr }))) (step_same s (LoadsKey key (record { 0 = addr }))))

led_same : (s : Sweeper) (key : Key) (addr : Addr) (previous : ℕ) → IsSameSweep s (led_down s key addr previous)
led_same s key addr previous = if_either (IsSameSweep s) (nat_lt previous addr.0) _ _ (reached_same s key previous) (wanted_same s key)

found_same : (s : Sweeper) (key : Key) (found : Found) → IsSameSweep s (slot_found s key found)
found_same s key (Slot place word) = reached_same s key (entry_addr word)
found_same s key NoSlot = wanted_same s key
found_same s key Full = wanted_same s key
found_same s key Kept = wanted_same s key
found_same s key Contended = wanted_same s key

ledto_same : (s : Sweeper) (key : Key) (ask : Ask FindAnswer) → IsSameSweep s (find_ledto s key ask)
unfolding find_ledto
ledto_same s key (Done its) = found_same s key its.found
ledto_same s key (Load place) = same s
ledto_same s key (Store place new) = same s
ledto_same s key (Swap place new) = same s
ledto_same s key (Cas place was new) = same s
ledto_same s key (Add place k) = same s
ledto_same s key (Max place k) = same s
ledto_same s key (Put slot action) = same s
ledto_same s key (Take slot) = same s

key_same : (s : Sweeper) (key : Key) (addr : Addr) (word : ℕ) → IsSameSweep s (key_met s key addr word)
key_same s key addr word = if_either (IsSameSweep s) (word == key.0) _ _ (passed_same s) (step_same s (LoadsHeader key addr))

chain_same : (s : Sweeper) (key : Key) (addr : Addr) (words : RecordWords) → IsSameSweep s (chain_met s key addr words)
chain_same s key addr words = if_either (IsSameSweep s) (words.key.0 == key.0) _ _ (passed_same s) (led_same s key addr (previous_in words.header))

meet_same : (s : Sweeper) (words : RecordWords) → IsSameSweep s (record_met s words)
meet_same s words = if_either (IsSameSweep s) (is_counted words) _ _ (record { shape = refl; places = refl; from = refl; to = refl }) (passed_same s)

reply_same : (s : Sweeper) (step : Sweeping) (word : ℕ) → IsSameSweep s (sweeping_next s step word)
unfolding sweeping_next
reply_same s AtRest word = same s
reply_same s LoadsHead word = record { shape = refl; places = refl; from = refl; to = refl }
reply_same s Takes word = meet_same s (words_held s.piece s.next)
reply_same s Meets word = same s
reply_same s (Finds key) word =
    let it = ledto_same (record s { finding = find_next s.places s.finding word }) key (find_next_ask s.places s.finding word) in
    record { shape = it.shape; places = it.places; from = it.from; to = it.to }
reply_same s (LoadsKey key addr) word = key_same s key addr word
reply_same s (LoadsHeader key addr) word = led_same s key addr (previous_in word)
reply_same s (Reads key addr) word = same s

bytes_same : (s : Sweeper) (step : Sweeping) (bytes : List ℕ) → IsSameSweep s (sweeping_read s step bytes)
unfolding sweeping_read
bytes_same s AtRest bytes = same s
bytes_same s LoadsHead bytes = same s
bytes_same s Takes bytes = same s
bytes_same s Meets bytes =
    let it = meet_same (record s { piece = piece_read s.next bytes }) (words_held (piece_read s.next bytes) s.next) in
    record { shape = it.shape; places = it.places; from = it.from; to = it.to }
bytes_same s (Finds key) bytes = same s
bytes_same s (LoadsKey key addr) bytes = same s
bytes_same s (LoadsHeader key addr) bytes = same s
bytes_same s (Reads key addr) bytes = chain_same s key addr (words_at bytes 0)

-- ---- event by event
pub sweep_turn_same : (s : Sweeper) → IsSameSweep s (turn_begun s)
sweep_turn_same s = record { shape = refl; places = refl; from = refl; to = refl }

pub sweep_next_same : (s : Sweeper) (word : ℕ) → IsSameSweep s (sweep_next s word)
sweep_next_same s word = reply_same s s.step word

pub sweep_read_same : (s : Sweeper) (bytes : List ℕ) → IsSameSweep s (sweep_read s bytes)
sweep_read_same s bytes = bytes_same s s.step bytes

pub sweep_failed_same : (s : Sweeper) → IsSameSweep s (sweep_failed s)
sweep_failed_same s = record { shape = refl; places = refl; from = refl; to = refl }

pub sweep_event_same : (s : Sweeper) (event : SweepEvent) → IsSameSweep s (sweep_happens s event)
sweep_event_same s TurnBegins = sweep_turn_same s
sweep_event_same s (IsReplied word) = sweep_next_same s word
sweep_event_same s (IsRead bytes) = sweep_read_same s bytes
sweep_event_same s ReadFails = sweep_failed_same s

-- over a whole run
pub run_same : (opening : Sweeper) (moments : List SweepMoment) → IsSameSweep opening (sweep_run opening moments)
unfolding sweep_run
run_same opening [] = same opening
run_same opening (moment ∷ before) = then_same opening (sweep_run opening before) (sweep_happens (sweep_run opening before) moment.event) (run_same opening before) (sweep_event_same (sweep_run opening before) moment.event)
