-- Whatever happens: a sweep passes on from where it began, and never past its end. It reads no record below where it began.
use Rattle.std.proofs.Common.{◌≡◌, ◌⊎◌, ℕ, ◌+◌, ◌-◌, ◌<◌, ◌≤◌, ◌++◌, refl, sym, subst, inl, inr, arith, Bool, true, false, List, [], ◌∷◌, length}
use Rattle.std.specs.Prelude.{◌==◌, ◌&&◌, nat_lt, if◌then◌else◌, ⊤, Some}
use Rattle.std.proofs.lemmas.Bool.Decides.{nat_tests}
use Rattle.fkv_base.specs.declared.numbers.Addr.{Addr}
use Rattle.fkv_base.specs.declared.numbers.Key.{Key}
use Rattle.fkv_base.specs.declared.shapes.Shape.{Shape}
use Rattle.fkv_plane.specs.declared.asks.Ask.{Ask}
use Rattle.fkv_plane.specs.declared.asks.Ask.TheVariants.{Load, Store, Swap, Cas, Add, Max, Put, Take, Done}
use Rattle.fkv_plane.specs.declared.places.Places.{Places}
use Rattle.fkv_index.specs.declared.finding.Purpose.TheVariants.{Read}
use Rattle.fkv_index.specs.declared.finding.Found.{Found}
use Rattle.fkv_index.specs.declared.finding.Found.TheVariants.{Slot, NoSlot, Full, Kept, Contended}
use Rattle.fkv_index.specs.declared.finding.FindAnswer.{FindAnswer}
use Rattle.fkv_index.specs.Slots.{home_of, entry_addr}
use Rattle.fkv_index.specs.Finding.{first_finding, find_next, find_next_ask}
use Rattle.fkv_sweep.specs.declared.record_words.RecordWords.{RecordWords}
use Rattle.fkv_sweep.specs.declared.sweeping.Sweeping.{Sweeping}
use Rattle.fkv_sweep.specs.declared.sweeping.Sweeping.TheVariants.{AtRest, LoadsHead, Takes, Meets, Finds, LoadsKey, LoadsHeader, Reads}
use Rattle.fkv_sweep.specs.Sweeping.{Sweeper, most_wanted, most_records, previous_in, is_counted, sweep_begun, is_sweeping, turn_begun, coming, gone_on, record_passed, key_wanted, reached, led_down, slot_found, find_ledto, key_met, chain_met, record_met, sweeping_next, sweep_next, sweeping_read, sweep_read, sweep_failed, sweeping_addr, read_addr, piece_read, holds, words_held, words_at}
use Rattle.fkv_sweep.specs.Swept.{SweepEvent, TurnBegins, IsReplied, IsRead, ReadFails, sweep_happens}

-- a record of the chain lies where the sweep ends or above, in memory
pub record IsAbove (s : Sweeper) (addr : Addr) : Type 0 where
  pub below : s.next.0 < s.to.0
  pub above : s.to.0 ≤ addr.0
  pub high : s.head.0 ≤ addr.0

-- or below the head, on the device
pub record IsOnDevice (s : Sweeper) (addr : Addr) : Type 0 where
  pub below : s.next.0 < s.to.0
  pub above : s.to.0 ≤ addr.0
  pub low : addr.0 < s.head.0

abbrev pub IsStepWithin : Sweeper → Sweeping → Type 0
IsStepWithin s AtRest = ⊤
IsStepWithin s LoadsHead = s.next.0 < s.to.0
IsStepWithin s Takes = s.next.0 < s.to.0
IsStepWithin s Meets = s.next.0 < s.to.0
IsStepWithin s (Finds key) = s.next.0 < s.to.0
IsStepWithin s (LoadsKey key addr) = IsAbove s addr
IsStepWithin s (LoadsHeader key addr) = IsAbove s addr
IsStepWithin s (Reads key addr) = IsOnDevice s addr

-- what has passed lies from where it began on, and below its end
pub record IsWithin (s : Sweeper) : Type 0 where
  pub from : s.from.0 ≤ s.at.0
  pub to : s.at.0 ≤ s.to.0
  pub next : s.at.0 ≤ s.next.0
  pub its_step : IsStepWithin s s.step

-- it goes on, and never back
pub record GoesWithin (s later : Sweeper) : Type 0 where
  pub on : s.at.0 ≤ later.at.0
  pub within : IsWithin later

-- while a record is met
record HasMet (s : Sweeper) : Type 0 where
  from : s.from.0 ≤ s.at.0
  to : s.at.0 ≤ s.to.0
  next : s.at.0 ≤ s.next.0
  below : s.next.0 < s.to.0

coming_goes : (s : Sweeper) → HasMet s → GoesWithin s (record s { step = coming s.piece s.next })
coming_goes s its = cases (holds s.piece s.next)
  where
    cases : (b : Bool) → GoesWithin s (record s { step = if b then Takes else Meets })
    cases true = record { on = omega arith; within = record { from = its.from; to = its.to; next = its.next; its_step = its.below } }
    cases false = record { on = omega arith; within = record { from = its.from; to = its.to; next = its.next; its_step = its.below } }

first_true : (a b c : Bool) → (a && b && c) ≡ true → a ≡ true
first_true true b c e = refl
first_true false b c e = cc

-- the record that was met is done with
record IsDone (s : Sweeper) : Type 0 where
  from : s.from.0 ≤ s.at.0
  to : s.at.0 ≤ s.to.0
  next : s.at.0 ≤ s.next.0 + 1

gone_goes : (s : Sweeper) → IsDone s → GoesWithin s (gone_on s)
gone_goes s its = cases (nat_lt (s.next.0 + 1) s.to.0 && nat_lt 1 s.left && nat_lt (length s.wanted) most_wanted) refl
  where
    cases : (b : Bool) → (nat_lt (s.next.0 + 1) s.to.0 && nat_lt 1 s.left && nat_lt (length s.wanted) most_wanted) ≡ b
        → GoesWithin s (record s { next = record { 0 = s.next.0 + 1 }; left = s.left - 1; step = if b then coming s.piece (record { 0 = s.next.0 + 1 }) else AtRest })
    cases true e =
        let t = first_true (nat_lt (s.next.0 + 1) s.to.0) (nat_lt 1 s.left) (nat_lt (length s.wanted) most_wanted) e in
        let less : s.next.0 + 1 < s.to.0 = grind (arith, nat_tests, t) in
        let it = coming_goes (record s { next = record { 0 = s.next.0 + 1 }; left = s.left - 1 }) (record { from = its.from; to = its.to; next = its.next; below = less }) in
        record { on = it.on; within = it.within }
    cases false e = record { on = omega arith; within = record { from = its.from; to = its.to; next = its.next; its_step = tt } }

passed_goes : (s : Sweeper) → HasMet s → GoesWithin s (record_passed s)
passed_goes s its = cases (length s.wanted == 0)
  where
    cases : (b : Bool) → GoesWithin s (gone_on (record s { at = if b then record { 0 = s.next.0 + 1 } else s.at }))
    cases true =
        let from = its.from in
        let next = its.next in
        let below = its.below in
        let it = gone_goes (record s { at = record { 0 = s.next.0 + 1 } }) (record { from = omega (arith, from, next); to = omega (arith, below); next = omega arith }) in
        let on : s.next.0 + 1 ≤ s.next.0 + 1 = it.on in
        record { on = omega (arith, next, on); within = it.within }
    cases false = let next = its.next in gone_goes s (record { from = its.from; to = its.to; next = omega (arith, next) })

wanted_goes : (s : Sweeper) (key : Key) → HasMet s → GoesWithin s (key_wanted s key)
wanted_goes s key its =
    let next = its.next in
    let it = gone_goes (record s { wanted = s.wanted ++ key ∷ [] }) (record { from = its.from; to = its.to; next = omega (arith, next) }) in
    record { on = it.on; within = it.within }

reached_goes : (s : Sweeper) (key : Key) (addr : ℕ) → HasMet s → GoesWithin s (reached s key addr)
reached_goes s key addr its = cases (nat_lt addr s.to.0) (nat_lt addr s.head.0) refl refl
  where
    cases : (a b : Bool) → nat_lt addr s.to.0 ≡ a → nat_lt addr s.head.0 ≡ b
        → GoesWithin s (if a then key_wanted s key else (if b then record s { step = Reads key (record { 0 = addr }) } else record s { step = LoadsKey key (record { 0 = addr }) }))
    cases true b e d = wanted_goes s key its
    cases false true e d =
        let above : s.to.0 ≤ addr = grind (arith, nat_tests, e) in
        let low : addr < s.head.0 = grind (arith, nat_tests, d) in
        record { on = omega arith; within = record { from = its.from; to = its.to; next = its.next; its_step = record { below = its.below; above = above; low = low } } }
    cases false false e d =
        let above : s.to.0 ≤ addr = grind (arith, nat_tests, e) in
        let high : s.head.0 ≤ addr = grind (arith, nat_tests, d) in
        record { on = omega arith; within = record { from = its.from; to = its.to; next = its.next; its_step = record { below = its.below; above = above; high = high } } }

led_goes : (s : Sweeper) (key : Key) (addr : Addr) (previous : ℕ) → HasMet s → GoesWithin s (led_down s key addr previous)
led_goes s key addr previous its = cases (nat_lt previous addr.0)
  where
    cases : (b : Bool) → GoesWithin s (if b then reached s key previous else key_wanted s key)
    cases true = reached_goes s key previous its
    cases false = wanted_goes s key its

found_goes : (s : Sweeper) (key : Key) (found : Found) → HasMet s → GoesWithin s (slot_found s key found)
found_goes s key (Slot place word) its = reached_goes s key (entry_addr word) its
found_goes s key NoSlot its = wanted_goes s key its
found_goes s key Full its = wanted_goes s key its
found_goes s key Kept its = wanted_goes s key its
found_goes s key Contended its = wanted_goes s key its

-- it stays where it is
same_goes : (s : Sweeper) (step : Sweeping) → s.step ≡ step → HasMet s → IsStepWithin s step → GoesWithin s s
same_goes s step same its here = record { on = omega arith; within = record { from = its.from; to = its.to; next = its.next; its_step = subst (IsStepWithin s) (sym same) here } }

ledto_goes : (s : Sweeper) (key : Key) (ask : Ask FindAnswer) → s.step ≡ Finds key → HasMet s → GoesWithin s (find_ledto s key ask)
unfolding find_ledto
ledto_goes s key (Done answer) step its = found_goes s key answer.found its
ledto_goes s key (Load place) step its = same_goes s (Finds key) step its its.below
ledto_goes s key (Store place new) step its = same_goes s (Finds key) step its its.below
ledto_goes s key (Swap place new) step its = same_goes s (Finds key) step its its.below
ledto_goes s key (Cas place old new) step its = same_goes s (Finds key) step its its.below
ledto_goes s key (Add place k) step its = same_goes s (Finds key) step its its.below
ledto_goes s key (Max place k) step its = same_goes s (Finds key) step its its.below
ledto_goes s key (Put slot action) step its = same_goes s (Finds key) step its its.below
ledto_goes s key (Take slot) step its = same_goes s (Finds key) step its its.below

key_goes : (s : Sweeper) (key : Key) (addr : Addr) (word : ℕ) → HasMet s → IsAbove s addr → GoesWithin s (key_met s key addr word)
key_goes s key addr word its here = cases (word == key.0)
  where
    cases : (b : Bool) → GoesWithin s (if b then record_passed s else record s { step = LoadsHeader key addr })
    cases true = passed_goes s its
    cases false = record { on = omega arith; within = record { from = its.from; to = its.to; next = its.next; its_step = record { below = here.below; above = here.above; high = here.high } } }

chain_goes : (s : Sweeper) (key : Key) (addr : Addr) (words : RecordWords) → HasMet s → GoesWithin s (chain_met s key addr words)
chain_goes s key addr words its = cases (words.key.0 == key.0)
  where
    cases : (b : Bool) → GoesWithin s (if b then record_passed s else led_down s key addr (previous_in words.header))
    cases true = passed_goes s its
    cases false = led_goes s key addr (previous_in words.header) its

meet_goes : (s : Sweeper) (words : RecordWords) → HasMet s → GoesWithin s (record_met s words)
meet_goes s words its = cases (is_counted words)
  where
    cases : (b : Bool) → GoesWithin s (if b then record s { finding = first_finding s.places (home_of s.shape.bucket_bits words.key) Read 0; step = Finds words.key } else record_passed s)
    cases true = record { on = omega arith; within = record { from = its.from; to = its.to; next = its.next; its_step = its.below } }
    cases false = passed_goes s its

met : (s : Sweeper) → IsWithin s → s.next.0 < s.to.0 → HasMet s
met s its below = record { from = its.from; to = its.to; next = its.next; below = below }

rests_goes : (s : Sweeper) → IsWithin s → GoesWithin s s
rests_goes s its = record { on = omega arith; within = its }

reply_goes : (s : Sweeper) (step : Sweeping) (word : ℕ) → s.step ≡ step → IsWithin s → IsStepWithin s step → GoesWithin s (sweeping_next s step word)
unfolding sweeping_next
reply_goes s AtRest word same its here = rests_goes s its
reply_goes s LoadsHead word same its here =
    let it = coming_goes (record s { head = record { 0 = word } }) (record { from = its.from; to = its.to; next = its.next; below = here }) in
    record { on = it.on; within = it.within }
reply_goes s Takes word same its here = meet_goes s (words_held s.piece s.next) (met s its here)
reply_goes s Meets word same its here = rests_goes s its
reply_goes s (Finds key) word same its here =
    let it = ledto_goes (record s { finding = find_next s.places s.finding word }) key (find_next_ask s.places s.finding word) same (record { from = its.from; to = its.to; next = its.next; below = here }) in
    record { on = it.on; within = it.within }
reply_goes s (LoadsKey key addr) word same its here = key_goes s key addr word (met s its here.below) here
reply_goes s (LoadsHeader key addr) word same its here = led_goes s key addr (previous_in word) (met s its here.below)
reply_goes s (Reads key addr) word same its here = rests_goes s its

bytes_goes : (s : Sweeper) (step : Sweeping) (bytes : List ℕ) → IsWithin s → IsStepWithin s step → GoesWithin s (sweeping_read s step bytes)
unfolding sweeping_read
bytes_goes s AtRest bytes its here = rests_goes s its
bytes_goes s LoadsHead bytes its here = rests_goes s its
bytes_goes s Takes bytes its here = rests_goes s its
bytes_goes s Meets bytes its here =
    let it = meet_goes (record s { piece = piece_read s.next bytes }) (words_held (piece_read s.next bytes) s.next) (record { from = its.from; to = its.to; next = its.next; below = here }) in
    record { on = it.on; within = it.within }
bytes_goes s (Finds key) bytes its here = rests_goes s its
bytes_goes s (LoadsKey key addr) bytes its here = rests_goes s its
bytes_goes s (LoadsHeader key addr) bytes its here = rests_goes s its
bytes_goes s (Reads key addr) bytes its here = chain_goes s key addr (words_at bytes 0) (met s its here.below)

-- ---- event by event
pub sweep_begun_within : (shape : Shape) (p : Places) (from to : Addr) → from.0 ≤ to.0 → IsWithin (sweep_begun shape p from to)
sweep_begun_within shape p from to low = record { from = omega arith; to = low; next = omega arith; its_step = tt }

pub sweep_turn_goes : (s : Sweeper) → IsWithin s → GoesWithin s (turn_begun s)
sweep_turn_goes s its = cases (is_sweeping s) refl
  where
    cases : (b : Bool) → is_sweeping s ≡ b → GoesWithin s (record s { next = s.at; left = most_records; wanted = []; step = if b then LoadsHead else AtRest })
    cases true e =
        let less : s.at.0 < s.to.0 = grind (arith, nat_tests, e) in
        record { on = omega arith; within = record { from = its.from; to = its.to; next = omega arith; its_step = less } }
    cases false e = record { on = omega arith; within = record { from = its.from; to = its.to; next = omega arith; its_step = tt } }

pub sweep_next_goes : (s : Sweeper) (word : ℕ) → IsWithin s → GoesWithin s (sweep_next s word)
sweep_next_goes s word its = reply_goes s s.step word refl its its.its_step

pub sweep_read_goes : (s : Sweeper) (bytes : List ℕ) → IsWithin s → GoesWithin s (sweep_read s bytes)
sweep_read_goes s bytes its = bytes_goes s s.step bytes its its.its_step

pub sweep_failed_goes : (s : Sweeper) → IsWithin s → GoesWithin s (sweep_failed s)
sweep_failed_goes s its = record { on = omega arith; within = record { from = its.from; to = its.to; next = its.next; its_step = tt } }

pub sweep_event_goes : (s : Sweeper) (event : SweepEvent) → IsWithin s → GoesWithin s (sweep_happens s event)
sweep_event_goes s TurnBegins its = sweep_turn_goes s its
sweep_event_goes s (IsReplied word) its = sweep_next_goes s word its
sweep_event_goes s (IsRead bytes) its = sweep_read_goes s bytes its
sweep_event_goes s ReadFails its = sweep_failed_goes s its

-- ---- what is read
-- where it reads: at the record that is met, below its end, or at one of a chain, below the head
pub record IsReadAt (s : Sweeper) (addr : Addr) : Type 0 where
  pub above : s.from.0 ≤ addr.0
  pub low : (addr.0 < s.to.0) ⊎ (addr.0 < s.head.0)

step_read_at : (s : Sweeper) (step : Sweeping) (addr : Addr) → IsWithin s → IsStepWithin s step → sweeping_addr s step ≡ Some addr → IsReadAt s addr
unfolding sweeping_addr
step_read_at s AtRest addr its here e = let never : ⊥ = cc in absurd never
step_read_at s LoadsHead addr its here e = let never : ⊥ = cc in absurd never
step_read_at s Takes addr its here e = let never : ⊥ = cc in absurd never
step_read_at s Meets addr its here e =
    let same : s.next ≡ addr = cc in
    let from = its.from in
    let next = its.next in
    subst (IsReadAt s) same (record { above = omega (arith, from, next); low = inl here })
step_read_at s (Finds key) addr its here e = let never : ⊥ = cc in absurd never
step_read_at s (LoadsKey key at) addr its here e = let never : ⊥ = cc in absurd never
step_read_at s (LoadsHeader key at) addr its here e = let never : ⊥ = cc in absurd never
step_read_at s (Reads key at) addr its here e =
    let same : at ≡ addr = cc in
    let from = its.from in
    let to = its.to in
    let above = here.above in
    subst (IsReadAt s) same (record { above = omega (arith, from, to, above); low = inr here.low })

pub sweep_read_at : (s : Sweeper) (addr : Addr) → IsWithin s → read_addr s ≡ Some addr → IsReadAt s addr
sweep_read_at s addr its e = step_read_at s s.step addr its its.its_step e

-- ---- a sweep that is done
-- it stays so
pub sweep_done_on : (s later : Sweeper) → later.to ≡ s.to → GoesWithin s later → s.at.0 ≡ s.to.0 → later.at.0 ≡ later.to.0
sweep_done_on s later same goes done =
    let on = goes.on in
    let to = goes.within.to in
    let end : later.to.0 ≡ s.to.0 = rw same refl in
    omega (arith, on, to, end, done)

-- it is done just where no record is left
pub sweep_done : (s : Sweeper) → IsWithin s → is_sweeping s ≡ false → s.at.0 ≡ s.to.0
sweep_done s its e =
    let to = its.to in
    let high : s.to.0 ≤ s.at.0 = grind (arith, nat_tests, e) in
    omega (arith, to, high)
