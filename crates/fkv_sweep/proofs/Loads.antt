-- Whatever it is replied, a sweep asks for loads alone.
use Rattle.std.proofs.Common.{ℕ, List}
use Rattle.std.specs.Prelude.{◌==◌, nat_lt}
use Rattle.fkv_base.specs.declared.numbers.Addr.{Addr}
use Rattle.fkv_base.specs.declared.numbers.Key.{Key}
use Rattle.fkv_base.specs.declared.shapes.Shape.{Shape}
use Rattle.fkv_plane.specs.declared.asks.Ask.{Ask}
use Rattle.fkv_plane.specs.declared.asks.Ask.TheVariants.{Load, Store, Swap, Cas, Add, Max, Put, Take, Done}
use Rattle.fkv_plane.specs.declared.places.Places.{Places}
use Rattle.fkv_index.specs.declared.finding.Found.{Found}
use Rattle.fkv_index.specs.declared.finding.Found.TheVariants.{Slot, NoSlot, Full, Kept, Contended}
use Rattle.fkv_index.specs.declared.finding.FindAnswer.{FindAnswer}
use Rattle.fkv_index.specs.Slots.{home_of, entry_addr}
use Rattle.fkv_index.specs.Finding.{find_next, find_next_ask}
use Rattle.fkv_index.proofs.Shown.{IsReading}
use Rattle.fkv_sweep.specs.declared.record_words.RecordWords.{RecordWords}
use Rattle.fkv_sweep.specs.declared.sweeping.Sweeping.{Sweeping}
use Rattle.fkv_sweep.specs.declared.sweeping.Sweeping.TheVariants.{AtRest, LoadsHead, Takes, Meets, Finds, LoadsKey, LoadsHeader, Reads}
use Rattle.fkv_sweep.specs.Sweeping.{Sweeper, previous_in, is_counted, sweep_begun, turn_begun, record_passed, key_wanted, reached, led_down, slot_found, find_ledto, key_met, chain_met, record_met, sweep_ask, sweeping_ask, sweeping_next, sweep_next, sweeping_read, sweep_read, sweep_failed, piece_read, words_held, words_at}
use Rattle.fkv_sweep.specs.Swept.{IsLoadOrEnd, SweepEvent, TurnBegins, IsReplied, IsRead, ReadFails, sweep_happens}
use Rattle.fkv_sweep.proofs.Searches.{if_either, find_reads, first_reads, rested_reads, find_loads}

-- the search inside is one for a read, or rests
pub record IsLoading (s : Sweeper) : Type 0 where
  pub reads : IsReading s.finding

step_loads : (s : Sweeper) (step : Sweeping) → IsReading s.finding → IsLoadOrEnd (sweeping_ask s step)
unfolding sweeping_ask
step_loads s AtRest its = tt
step_loads s LoadsHead its = tt
step_loads s Takes its = tt
step_loads s Meets its = tt
step_loads s (Finds key) its = find_loads s.finding its
step_loads s (LoadsKey key addr) its = tt
step_loads s (LoadsHeader key addr) its = tt
step_loads s (Reads key addr) its = tt

pub sweep_loads : (s : Sweeper) → IsLoading s → IsLoadOrEnd (sweep_ask s)
sweep_loads s its = step_loads s s.step its.reads

-- ---- each step keeps that
passed_loading : (s : Sweeper) → IsLoading s → IsLoading (record_passed s)
passed_loading s its = record { reads = its.reads }

wanted_loading : (s : Sweeper) (key : Key) → IsLoading s → IsLoading (key_wanted s key)
wanted_loading s key its = record { reads = its.reads }

step_loading : (s : Sweeper) (step : Sweeping) → IsLoading s → IsLoading (record s { step = step })
step_loading s step its = record { reads = its.reads }

reached_loading : (s : Sweeper) (key : Key) (addr : ℕ) → IsLoading s → IsLoading (reached s key addr)
reached_loading s key addr its = if_either IsLoading (nat_lt addr s.to.0) _ _ (wanted_loading s key its)
    (if_either IsLoading (nat_lt addr s.head.0) _ _ (step_loading s (Reads key (record { 0 = addr })) its) (step_loading s (LoadsKey key (record { 0 = addr })) its))

led_loading : (s : Sweeper) (key : Key) (addr : Addr) (previous : ℕ) → IsLoading s → IsLoading (led_down s key addr previous)
led_loading s key addr previous its = if_either IsLoading (nat_lt previous addr.0) _ _ (reached_loading s key previous its) (wanted_loading s key its)

found_loading : (s : Sweeper) (key : Key) (found : Found) → IsLoading s → IsLoading (slot_found s key found)
found_loading s key (Slot place word) its = reached_loading s key (entry_addr word) its
found_loading s key NoSlot its = wanted_loading s key its
found_loading s key Full its = wanted_loading s key its
found_loading s key Kept its = wanted_loading s key its
found_loading s key Contended its = wanted_loading s key its

ledto_loading : (s : Sweeper) (key : Key) (ask : Ask FindAnswer) → IsLoading s → IsLoading (find_ledto s key ask)
unfolding find_ledto
ledto_loading s key (Done answer) its = found_loading s key answer.found its
ledto_loading s key (Load place) its = its
ledto_loading s key (Store place new) its = its
ledto_loading s key (Swap place new) its = its
ledto_loading s key (Cas place old new) its = its
ledto_loading s key (Add place k) its = its
ledto_loading s key (Max place k) its = its
ledto_loading s key (Put slot action) its = its
ledto_loading s key (Take slot) its = its

key_loading : (s : Sweeper) (key : Key) (addr : Addr) (word : ℕ) → IsLoading s → IsLoading (key_met s key addr word)
key_loading s key addr word its = if_either IsLoading (word == key.0) _ _ (passed_loading s its) (step_loading s (LoadsHeader key addr) its)

chain_loading : (s : Sweeper) (key : Key) (addr : Addr) (words : RecordWords) → IsLoading s → IsLoading (chain_met s key addr words)
chain_loading s key addr words its = if_either IsLoading (words.key.0 == key.0) _ _ (passed_loading s its) (led_loading s key addr (previous_in words.header) its)

meet_loading : (s : Sweeper) (words : RecordWords) → IsLoading s → IsLoading (record_met s words)
meet_loading s words its = if_either IsLoading (is_counted words) _ _ (record { reads = first_reads s.places (home_of s.shape.bucket_bits words.key) }) (passed_loading s its)

reply_loading : (s : Sweeper) (step : Sweeping) (word : ℕ) → IsLoading s → IsLoading (sweeping_next s step word)
unfolding sweeping_next
reply_loading s AtRest word its = its
reply_loading s LoadsHead word its = record { reads = its.reads }
reply_loading s Takes word its = meet_loading s (words_held s.piece s.next) its
reply_loading s Meets word its = its
reply_loading s (Finds key) word its = ledto_loading (record s { finding = find_next s.places s.finding word }) key (find_next_ask s.places s.finding word) (record { reads = find_reads s.places s.finding word its.reads })
reply_loading s (LoadsKey key addr) word its = key_loading s key addr word its
reply_loading s (LoadsHeader key addr) word its = led_loading s key addr (previous_in word) its
reply_loading s (Reads key addr) word its = its

bytes_loading : (s : Sweeper) (step : Sweeping) (bytes : List ℕ) → IsLoading s → IsLoading (sweeping_read s step bytes)
unfolding sweeping_read
bytes_loading s AtRest bytes its = its
bytes_loading s LoadsHead bytes its = its
bytes_loading s Takes bytes its = its
bytes_loading s Meets bytes its = meet_loading (record s { piece = piece_read s.next bytes }) (words_held (piece_read s.next bytes) s.next) (record { reads = its.reads })
bytes_loading s (Finds key) bytes its = its
bytes_loading s (LoadsKey key addr) bytes its = its
bytes_loading s (LoadsHeader key addr) bytes its = its
bytes_loading s (Reads key addr) bytes its = chain_loading s key addr (words_at bytes 0) its

-- ---- event by event
pub sweep_begun_loading : (shape : Shape) (p : Places) (from to : Addr) → IsLoading (sweep_begun shape p from to)
sweep_begun_loading shape p from to = record { reads = rested_reads }

pub sweep_turn_loading : (s : Sweeper) → IsLoading s → IsLoading (turn_begun s)
sweep_turn_loading s its = record { reads = its.reads }

pub sweep_next_loading : (s : Sweeper) (word : ℕ) → IsLoading s → IsLoading (sweep_next s word)
sweep_next_loading s word its = reply_loading s s.step word its

pub sweep_read_loading : (s : Sweeper) (bytes : List ℕ) → IsLoading s → IsLoading (sweep_read s bytes)
sweep_read_loading s bytes its = bytes_loading s s.step bytes its

pub sweep_failed_loading : (s : Sweeper) → IsLoading s → IsLoading (sweep_failed s)
sweep_failed_loading s its = record { reads = its.reads }

pub sweep_event_loading : (s : Sweeper) (event : SweepEvent) → IsLoading s → IsLoading (sweep_happens s event)
sweep_event_loading s TurnBegins its = sweep_turn_loading s its
sweep_event_loading s (IsReplied word) its = sweep_next_loading s word its
sweep_event_loading s (IsRead bytes) its = sweep_read_loading s bytes its
sweep_event_loading s ReadFails its = sweep_failed_loading s its
