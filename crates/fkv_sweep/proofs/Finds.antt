-- Where a search inside a sweep comes from: it was begun for the key that is probed, and goes on by each reply.
use Rattle.std.proofs.Common.{◌≡◌, ◌⊎◌, ℕ, ◌+◌, ◌++◌, refl, inl, inr, List, [], ◌∷◌, length}
use Rattle.std.specs.Prelude.{◌==◌, ◌&&◌, nat_lt, if◌then◌else◌}
use Rattle.fkv_base.specs.declared.numbers.Addr.{Addr}
use Rattle.fkv_base.specs.declared.numbers.Key.{Key}
use Rattle.fkv_plane.specs.declared.asks.Ask.{Ask}
use Rattle.fkv_plane.specs.declared.asks.Ask.TheVariants.{Load, Store, Swap, Cas, Add, Max, Put, Take, Done}
use Rattle.fkv_index.specs.declared.finding.Purpose.TheVariants.{Read}
use Rattle.fkv_index.specs.declared.finding.Found.{Found}
use Rattle.fkv_index.specs.declared.finding.Found.TheVariants.{Slot, NoSlot, Full, Kept, Contended}
use Rattle.fkv_index.specs.declared.finding.FindAnswer.{FindAnswer}
use Rattle.fkv_index.specs.Slots.{home_of, entry_addr}
use Rattle.fkv_index.specs.Finding.{first_finding, find_next, find_next_ask}
use Rattle.fkv_sweep.specs.declared.record_words.RecordWords.{RecordWords}
use Rattle.fkv_sweep.specs.declared.sweeping.Sweeping.{Sweeping}
use Rattle.fkv_sweep.specs.declared.sweeping.Sweeping.TheVariants.{AtRest, LoadsHead, Takes, Meets, Finds, LoadsKey, LoadsHeader, Reads}
use Rattle.fkv_sweep.specs.Sweeping.{Sweeper, most_wanted, previous_in, is_counted, is_sweeping, turn_begun, coming, gone_on, record_passed, key_wanted, reached, led_down, slot_found, find_ledto, key_met, chain_met, record_met, sweeping_next, sweep_next, sweeping_read, sweep_read, sweep_failed, piece_read, holds, words_held, words_at}
use Rattle.fkv_sweep.proofs.Searches.{if_either}

-- the search of a key is begun
abbrev pub IsFirstFind : Sweeper → Key → Type 0
IsFirstFind s key = s.finding ≡ first_finding s.places (home_of s.shape.bucket_bits key) Read 0

-- it was in hand, and has gone on by a reply
pub record FindsOn (s later : Sweeper) (key : Key) (word : ℕ) : Type 0 where
  pub was : s.step ≡ Finds key
  pub asks : (answer : FindAnswer) → find_next_ask s.places s.finding word ≡ Done answer → ⊥
  pub finding : later.finding ≡ find_next s.places s.finding word

abbrev FindsNone : Sweeping → Type 0
FindsNone step = (key : Key) → step ≡ Finds key → ⊥

coming_none : (s : Sweeper) (next : Addr) → FindsNone (coming s.piece next)
coming_none s next = if_either FindsNone (holds s.piece next) _ _ (λ key e. cc) (λ key e. cc)

gone_none : (s : Sweeper) → FindsNone (gone_on s).step
gone_none s = if_either FindsNone (nat_lt (s.next.0 + 1) s.to.0 && nat_lt 1 s.left && nat_lt (length s.wanted) most_wanted) _ _ (coming_none s (record { 0 = s.next.0 + 1 })) (λ key e. cc)

passed_none : (s : Sweeper) → FindsNone (record_passed s).step
passed_none s = gone_none (record s { at = if length s.wanted == 0 then record { 0 = s.next.0 + 1 } else s.at })

wanted_none : (s : Sweeper) (key : Key) → FindsNone (key_wanted s key).step
wanted_none s key = gone_none (record s { wanted = s.wanted ++ key ∷ [] })

reached_none : (s : Sweeper) (key : Key) (addr : ℕ) → FindsNone (reached s key addr).step
reached_none s key addr = if_either (λ (t : Sweeper). FindsNone t.step) (nat_lt addr s.to.0) _ _ (wanted_none s key)
    (if_either (λ (t : Sweeper). FindsNone t.step) (nat_lt addr s.head.0) _ _ (λ it e. cc) (λ it e. cc))

led_none : (s : Sweeper) (key : Key) (addr : Addr) (previous : ℕ) → FindsNone (led_down s key addr previous).step
led_none s key addr previous = if_either (λ (t : Sweeper). FindsNone t.step) (nat_lt previous addr.0) _ _ (reached_none s key previous) (wanted_none s key)

found_none : (s : Sweeper) (key : Key) (found : Found) → FindsNone (slot_found s key found).step
found_none s key (Slot place word) = reached_none s key (entry_addr word)
found_none s key NoSlot = wanted_none s key
found_none s key Full = wanted_none s key
found_none s key Kept = wanted_none s key
found_none s key Contended = wanted_none s key

key_none : (s : Sweeper) (key : Key) (addr : Addr) (word : ℕ) → FindsNone (key_met s key addr word).step
key_none s key addr word = if_either (λ (t : Sweeper). FindsNone t.step) (word == key.0) _ _ (passed_none s) (λ it e. cc)

chain_none : (s : Sweeper) (key : Key) (addr : Addr) (words : RecordWords) → FindsNone (chain_met s key addr words).step
chain_none s key addr words = if_either (λ (t : Sweeper). FindsNone t.step) (words.key.0 == key.0) _ _ (passed_none s) (led_none s key addr (previous_in words.header))

abbrev FindsFirst : Sweeper → Type 0
FindsFirst later = (key : Key) → later.step ≡ Finds key → IsFirstFind later key

meet_first : (s : Sweeper) (words : RecordWords) → FindsFirst (record_met s words)
meet_first s words = if_either FindsFirst (is_counted words) _ _ (λ key e. begun key e) (λ key e. absurd (passed_none s key e))
  where
    begun : (key : Key) → Finds words.key ≡ Finds key → first_finding s.places (home_of s.shape.bucket_bits words.key) Read 0 ≡ first_finding s.places (home_of s.shape.bucket_bits key) Read 0
    begun key e = let same : words.key ≡ key = cc in rw same refl

-- the reply leads on inside the search
ledto_on : (s : Sweeper) (key : Key) (ask : Ask FindAnswer) → s.step ≡ Finds key → (it : Key) → (find_ledto s key ask).step ≡ Finds it
    → (key ≡ it) × ((answer : FindAnswer) → ask ≡ Done answer → ⊥) × ((find_ledto s key ask).finding ≡ s.finding)
unfolding find_ledto
ledto_on s key (Done answer) was it e = absurd (found_none s key answer.found it e)
ledto_on s key (Load place) was it e = (cc, λ answer d. cc, refl)
ledto_on s key (Store place new) was it e = (cc, λ answer d. cc, refl)
ledto_on s key (Swap place new) was it e = (cc, λ answer d. cc, refl)
ledto_on s key (Cas place old new) was it e = (cc, λ answer d. cc, refl)
ledto_on s key (Add place k) was it e = (cc, λ answer d. cc, refl)
ledto_on s key (Max place k) was it e = (cc, λ answer d. cc, refl)
ledto_on s key (Put slot action) was it e = (cc, λ answer d. cc, refl)
ledto_on s key (Take slot) was it e = (cc, λ answer d. cc, refl)

reply_finds : (s : Sweeper) (step : Sweeping) (word : ℕ) (key : Key) → s.step ≡ step → (sweeping_next s step word).step ≡ Finds key → IsFirstFind (sweeping_next s step word) key ⊎ FindsOn s (sweeping_next s step word) key word
unfolding sweeping_next
reply_finds s AtRest word key same e = let never : ⊥ = cc in absurd never
reply_finds s LoadsHead word key same e = absurd (coming_none s s.next key e)
reply_finds s Takes word key same e = inl (meet_first s (words_held s.piece s.next) key e)
reply_finds s Meets word key same e = let never : ⊥ = cc in absurd never
reply_finds s (Finds its) word key same e =
    let on = ledto_on (record s { finding = find_next s.places s.finding word }) its (find_next_ask s.places s.finding word) same key e in
    let alike = on.0 in
    inr (record { was = cc; asks = on.1; finding = on.2 })
reply_finds s (LoadsKey its addr) word key same e = absurd (key_none s its addr word key e)
reply_finds s (LoadsHeader its addr) word key same e = absurd (led_none s its addr (previous_in word) key e)
reply_finds s (Reads its addr) word key same e = let never : ⊥ = cc in absurd never

bytes_finds : (s : Sweeper) (step : Sweeping) (bytes : List ℕ) (key : Key) → s.step ≡ step → (sweeping_read s step bytes).step ≡ Finds key → IsFirstFind (sweeping_read s step bytes) key ⊎ (sweeping_read s step bytes ≡ s)
unfolding sweeping_read
bytes_finds s AtRest bytes key same e = inr refl
bytes_finds s LoadsHead bytes key same e = inr refl
bytes_finds s Takes bytes key same e = inr refl
bytes_finds s Meets bytes key same e = inl (meet_first (record s { piece = piece_read s.next bytes }) (words_held (piece_read s.next bytes) s.next) key e)
bytes_finds s (Finds its) bytes key same e = inr refl
bytes_finds s (LoadsKey its addr) bytes key same e = inr refl
bytes_finds s (LoadsHeader its addr) bytes key same e = inr refl
bytes_finds s (Reads its addr) bytes key same e = absurd (chain_none s its addr (words_at bytes 0) key e)

-- ---- event by event: where the sweep searches then
pub sweep_turn_finds : (s : Sweeper) (key : Key) → (turn_begun s).step ≡ Finds key → ⊥
sweep_turn_finds s = if_either FindsNone (is_sweeping s) _ _ (λ key e. cc) (λ key e. cc)

pub sweep_next_finds : (s : Sweeper) (word : ℕ) (key : Key) → (sweep_next s word).step ≡ Finds key → IsFirstFind (sweep_next s word) key ⊎ FindsOn s (sweep_next s word) key word
sweep_next_finds s word key e = reply_finds s s.step word key refl e

pub sweep_read_finds : (s : Sweeper) (bytes : List ℕ) (key : Key) → (sweep_read s bytes).step ≡ Finds key → IsFirstFind (sweep_read s bytes) key ⊎ (sweep_read s bytes ≡ s)
sweep_read_finds s bytes key e = bytes_finds s s.step bytes key refl e

pub sweep_failed_finds : (s : Sweeper) (key : Key) → (sweep_failed s).step ≡ Finds key → ⊥
sweep_failed_finds s key e = cc
