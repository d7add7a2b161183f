-- The head by which a sweep goes is one that it has loaded.
use Rattle.std.proofs.Common.{◌≡◌, ℕ, ◌≤◌, refl, Bool, true, false, List}
use Rattle.std.specs.Prelude.{◌==◌, nat_lt, if◌then◌else◌}
use Rattle.fkv_base.specs.declared.numbers.Addr.{Addr}
use Rattle.fkv_base.specs.declared.numbers.Key.{Key}
use Rattle.fkv_plane.specs.declared.asks.Ask.{Ask}
use Rattle.fkv_plane.specs.declared.asks.Ask.TheVariants.{Done}
use Rattle.fkv_index.specs.declared.finding.FindAnswer.{FindAnswer}
use Rattle.fkv_index.specs.declared.finding.Found.{Found}
use Rattle.fkv_index.specs.declared.finding.Found.TheVariants.{Slot}
use Rattle.fkv_index.specs.declared.finding.Purpose.TheVariants.{Read}
use Rattle.fkv_index.specs.Finding.{find_next, find_next_ask, first_finding}
use Rattle.fkv_index.specs.Slots.{entry_addr, home_of}
use Rattle.fkv_sweep.specs.declared.sweeping.Sweeping.{Sweeping}
use Rattle.fkv_sweep.specs.declared.sweeping.Sweeping.TheVariants.{AtRest, LoadsHead, Takes, Meets, Finds, LoadsKey, LoadsHeader, Reads}
use Rattle.fkv_sweep.specs.Sweeping.{Sweeper, chain_met, find_ledto, is_counted, key_met, key_wanted, led_down, piece_read, previous_in, reached, record_met, record_passed, slot_found, sweep_next, sweep_read, sweeping_next, sweeping_read, words_at, words_held}

module _ (most : ℕ) where
  either : (c : Bool) (a b : Sweeper) → a.head.0 ≤ most → b.head.0 ≤ most → (if c then a else b).head.0 ≤ most
  either true a b one other = one
  either false a b one other = other

  reached_low : (s : Sweeper) (key : Key) (addr : ℕ) → s.head.0 ≤ most → (reached s key addr).head.0 ≤ most
  reached_low s key addr low =
      either (nat_lt addr s.to.0) (key_wanted s key) (if nat_lt addr s.head.0 then record s { step = Reads key (record { 0 = addr }) } else record s { step = LoadsKey key (record { 0 = addr }) }) low
      (either (nat_lt addr s.head.0) (record s { step = Reads key (record { 0 = addr }) }) (record s { step = LoadsKey key (record { 0 = addr }) }) low low)

  down_low : (s : Sweeper) (key : Key) (addr : Addr) (previous : ℕ) → s.head.0 ≤ most → (led_down s key addr previous).head.0 ≤ most
  down_low s key addr previous low = either (nat_lt previous addr.0) (reached s key previous) (key_wanted s key) (reached_low s key previous low) low

  found_low : (s : Sweeper) (key : Key) (found : Found) → s.head.0 ≤ most → (slot_found s key found).head.0 ≤ most
  found_low s key (Slot place word) low = reached_low s key (entry_addr word) low
  found_low s key found low = low

  ledto_low : (s : Sweeper) (key : Key) (ask : Ask FindAnswer) → s.head.0 ≤ most → (find_ledto s key ask).head.0 ≤ most
  unfolding find_ledto
  ledto_low s key (Done its) low = found_low s key its.found low
  ledto_low s key ask low = low

  key_low : (s : Sweeper) (key : Key) (addr : Addr) (word : ℕ) → s.head.0 ≤ most → (key_met s key addr word).head.0 ≤ most
  key_low s key addr word low = either (word == key.0) (record_passed s) (record s { step = LoadsHeader key addr }) low low

  chain_low : (s : Sweeper) (key : Key) (addr : Addr) (words : _) → s.head.0 ≤ most → (chain_met s key addr words).head.0 ≤ most
  chain_low s key addr words low = either (words.key.0 == key.0) (record_passed s) (led_down s key addr (previous_in words.header)) low (down_low s key addr (previous_in words.header) low)

  met_low : (s : Sweeper) (words : _) → s.head.0 ≤ most → (record_met s words).head.0 ≤ most
  met_low s words low = either (is_counted words) (record s { finding = first_finding s.places (home_of s.shape.bucket_bits words.key) Read 0; step = Finds words.key }) (record_passed s) low low

  next_low : (s : Sweeper) (step : Sweeping) (reply : ℕ) → (step ≡ LoadsHead → reply ≤ most) → s.head.0 ≤ most → (sweeping_next s step reply).head.0 ≤ most
  unfolding sweeping_next
  next_low s AtRest reply loads low = low
  next_low s LoadsHead reply loads low = loads refl
  next_low s Takes reply loads low = met_low s (words_held s.piece s.next) low
  next_low s Meets reply loads low = low
  next_low s (Finds key) reply loads low = ledto_low (record s { finding = find_next s.places s.finding reply }) key (find_next_ask s.places s.finding reply) low
  next_low s (LoadsKey key addr) reply loads low = key_low s key addr reply low
  next_low s (LoadsHeader key addr) reply loads low = down_low s key addr (previous_in reply) low
  next_low s (Reads key addr) reply loads low = low

  pub head_next : (s : Sweeper) (reply : ℕ) → (s.step ≡ LoadsHead → reply ≤ most) → s.head.0 ≤ most → (sweep_next s reply).head.0 ≤ most
  head_next s reply loads low = next_low s s.step reply loads low

  read_low : (s : Sweeper) (step : Sweeping) (bytes : List ℕ) → s.head.0 ≤ most → (sweeping_read s step bytes).head.0 ≤ most
  unfolding sweeping_read
  read_low s Meets bytes low = met_low (record s { piece = piece_read s.next bytes }) (words_held (piece_read s.next bytes) s.next) low
  read_low s (Reads key addr) bytes low = chain_low s key addr (words_at bytes 0) low
  read_low s step bytes low = low

  pub head_read : (s : Sweeper) (bytes : List ℕ) → s.head.0 ≤ most → (sweep_read s bytes).head.0 ≤ most
  head_read s bytes low = read_low s s.step bytes low
