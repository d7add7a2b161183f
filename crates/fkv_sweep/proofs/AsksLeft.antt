-- A turn has fewer asks left after each reply and each read.
use Rattle.std.proofs.Common.{◌≡◌, ℕ, zero, suc, ◌+◌, ◌-◌, ◌*◌, ◌^◌, ◌<◌, ◌≤◌, [], ◌∷◌, ◌++◌, length, refl, sym, subst, arith, Bool, true, false}
use Rattle.std.specs.Prelude.{List, ◌==◌, ◌&&◌, nat_lt, if◌then◌else◌}
use Rattle.std.proofs.Math.Nat.{suc-mul}
use Rattle.std.proofs.lemmas.Bool.Decides.{nat_tests}
use Rattle.fkv_base.specs.declared.numbers.Addr.{Addr}
use Rattle.fkv_base.specs.declared.numbers.Key.{Key}
use Rattle.fkv_base.specs.declared.shapes.Shape.{Shape}
use Rattle.fkv_disk.specs.Asks.{count_by}
use Rattle.fkv_plane.specs.declared.asks.Ask.{Ask}
use Rattle.fkv_plane.specs.declared.asks.Ask.TheVariants.{Load, Store, Swap, Cas, Add, Max, Put, Take, Done}
use Rattle.fkv_plane.specs.declared.places.Places.{Places}
use Rattle.fkv_plane.specs.AsksLeft.{sum_left}
use Rattle.fkv_plane.specs.Passing.{passed}
use Rattle.fkv_plane.proofs.Shown.{never, some_inside, some_sum, sum_most, inside_fewer, behind_fewer}
use Rattle.fkv_index.specs.declared.finding.Purpose.TheVariants.{Read}
use Rattle.fkv_index.specs.declared.finding.Found.{Found}
use Rattle.fkv_index.specs.declared.finding.Found.TheVariants.{Slot, NoSlot, Full, Kept, Contended}
use Rattle.fkv_index.specs.declared.finding.FindAnswer.{FindAnswer}
use Rattle.fkv_index.specs.Counted.{IsCounted}
use Rattle.fkv_index.specs.Slots.{home_of, entry_addr}
use Rattle.fkv_index.specs.Finding.{first_finding, find_ask, find_next, find_next_ask, step_asks_left, asks_left}
use Rattle.fkv_index.proofs.Shown.{find_counted, next_fewer}
use Rattle.fkv_sweep.specs.declared.record_words.RecordWords.{RecordWords}
use Rattle.fkv_sweep.specs.declared.sweeping.SweepAnswer.{SweepAnswer}
use Rattle.fkv_sweep.specs.declared.sweeping.SweepAnswer.TheVariants as answer
use Rattle.fkv_sweep.specs.declared.sweeping.Sweeping.{Sweeping}
use Rattle.fkv_sweep.specs.declared.sweeping.Sweeping.TheVariants.{AtRest, LoadsHead, Takes, Meets, Finds, LoadsKey, LoadsHeader, Reads}
use Rattle.fkv_sweep.specs.Sweeping.{Sweeper, most_wanted, previous_in, is_counted, sweep_begun, is_sweeping, turn_begun, coming, gone_on, record_passed, key_wanted, reached, led_down, slot_found, find_ledto, key_met, chain_met, record_met, sweeping_ask, sweep_ask, sweeping_next, sweep_next, sweeping_read, sweep_read, sweep_failed, sweeping_addr, read_of, read_asked, piece_read, holds, words_held, words_at}
use Rattle.fkv_sweep.specs.AsksLeft.{steps_asked, GoesOnWhereLeft, chain_asks, record_asks, asks_behind, sweeping_asks_left, sweep_asks_left, most_sweep_asks}

second_true : (a b c : Bool) → (a && b && c) ≡ true → b ≡ true
second_true true true c e = refl
second_true true false c e = cc
second_true false b c e = cc

one_more : (n r : ℕ) → 1 < n → r + (n - 1 - 1) * r ≡ (n - 1) * r
one_more zero r some = absurd (omega (arith, some))
one_more (suc zero) r some = absurd (omega (arith, some))
one_more (suc (suc n)) r some =
    let whole = suc-mul n r in
    let a : suc (suc n) - 1 - 1 ≡ n = omega arith in
    let b : suc (suc n) - 1 ≡ suc n = omega arith in
    rw (a, b) (omega (arith, whole))

-- to the record that comes next
coming_left : (s : Sweeper) → sweep_asks_left (record s { step = coming s.piece s.next }) ≡ record_asks s.places + asks_behind s
unfolding sweeping_asks_left
coming_left s = cases (holds s.piece s.next)
  where
    cases : (b : Bool) → sweep_asks_left (record s { step = if b then Takes else Meets }) ≡ record_asks s.places + asks_behind s
    cases true = refl
    cases false = refl

-- behind the record that is met
gone_left : (s : Sweeper) → sweep_asks_left (gone_on s) ≤ asks_behind s
unfolding sweeping_asks_left
gone_left s = cases (nat_lt (s.next.0 + 1) s.to.0 && nat_lt 1 s.left && nat_lt (length s.wanted) most_wanted) refl
  where
    cases : (b : Bool) → (nat_lt (s.next.0 + 1) s.to.0 && nat_lt 1 s.left && nat_lt (length s.wanted) most_wanted) ≡ b
        → sweep_asks_left (record s { next = record { 0 = s.next.0 + 1 }; left = s.left - 1; step = if b then coming s.piece (record { 0 = s.next.0 + 1 }) else AtRest }) ≤ asks_behind s
    cases true e =
        let t = second_true (nat_lt (s.next.0 + 1) s.to.0) (nat_lt 1 s.left) (nat_lt (length s.wanted) most_wanted) e in
        let more : 1 < s.left = grind (arith, nat_tests, t) in
        let whole = one_more s.left (record_asks s.places) more in
        let its = coming_left (record s { next = record { 0 = s.next.0 + 1 }; left = s.left - 1 }) in
        omega (arith, whole, its)
    cases false e = omega arith

passed_left : (s : Sweeper) → sweep_asks_left (record_passed s) ≤ asks_behind s
passed_left s = gone_left (record s { at = if length s.wanted == 0 then record { 0 = s.next.0 + 1 } else s.at })

wanted_left : (s : Sweeper) (key : Key) → sweep_asks_left (key_wanted s key) ≤ asks_behind s
wanted_left s key = gone_left (record s { wanted = s.wanted ++ key ∷ [] })

reached_left : (s : Sweeper) (key : Key) (addr : ℕ) → sweep_asks_left (reached s key addr) ≤ 2 + 2 * addr + asks_behind s
unfolding sweeping_asks_left
reached_left s key addr = cases (nat_lt addr s.to.0) (nat_lt addr s.head.0)
  where
    cases : (a b : Bool) → sweep_asks_left (if a then key_wanted s key else (if b then record s { step = Reads key (record { 0 = addr }) } else record s { step = LoadsKey key (record { 0 = addr }) })) ≤ 2 + 2 * addr + asks_behind s
    cases true b = let few = wanted_left s key in omega (arith, few)
    cases false true = omega arith
    cases false false = omega arith

led_left : (s : Sweeper) (key : Key) (addr : Addr) (previous : ℕ) → sweep_asks_left (led_down s key addr previous) ≤ 2 * addr.0 + asks_behind s
led_left s key addr previous = cases (nat_lt previous addr.0) refl
  where
    cases : (b : Bool) → nat_lt previous addr.0 ≡ b → sweep_asks_left (if b then reached s key previous else key_wanted s key) ≤ 2 * addr.0 + asks_behind s
    cases true e =
        let low : previous < addr.0 = grind (arith, nat_tests, e) in
        let few = reached_left s key previous in
        omega (arith, low, few)
    cases false e = let few = wanted_left s key in omega (arith, few)

found_left : (s : Sweeper) (key : Key) (found : Found) → sweep_asks_left (slot_found s key found) ≤ chain_asks + asks_behind s
found_left s key (Slot place word) =
    let few = reached_left s key (entry_addr word) in
    let low : entry_addr word < 2 ^ 48 = omega arith in
    omega (arith, few, low)
found_left s key NoSlot = let few = wanted_left s key in omega (arith, few)
found_left s key Full = let few = wanted_left s key in omega (arith, few)
found_left s key Kept = let few = wanted_left s key in omega (arith, few)
found_left s key Contended = let few = wanted_left s key in omega (arith, few)

key_left : (s : Sweeper) (key : Key) (addr : Addr) (word : ℕ) → sweep_asks_left (key_met s key addr word) ≤ 1 + 2 * addr.0 + asks_behind s
unfolding sweeping_asks_left
key_left s key addr word = cases (word == key.0)
  where
    cases : (b : Bool) → sweep_asks_left (if b then record_passed s else record s { step = LoadsHeader key addr }) ≤ 1 + 2 * addr.0 + asks_behind s
    cases true = let few = passed_left s in omega (arith, few)
    cases false = omega arith

chain_left : (s : Sweeper) (key : Key) (addr : Addr) (words : RecordWords) → sweep_asks_left (chain_met s key addr words) ≤ 2 * addr.0 + asks_behind s
chain_left s key addr words = cases (words.key.0 == key.0)
  where
    cases : (b : Bool) → sweep_asks_left (if b then record_passed s else led_down s key addr (previous_in words.header)) ≤ 2 * addr.0 + asks_behind s
    cases true = let few = passed_left s in omega (arith, few)
    cases false = led_left s key addr (previous_in words.header)

meet_left : (s : Sweeper) (words : RecordWords) → sweep_asks_left (record_met s words) ≤ record_asks s.places - 1 + asks_behind s
unfolding sweeping_asks_left step_asks_left
meet_left s words = cases (is_counted words)
  where
    cases : (b : Bool) → sweep_asks_left (if b then record s { finding = first_finding s.places (home_of s.shape.bucket_bits words.key) Read 0; step = Finds words.key } else record_passed s) ≤ record_asks s.places - 1 + asks_behind s
    cases true = let few = sum_most (asks_left (first_finding s.places (home_of s.shape.bucket_bits words.key) Read 0)) (chain_asks + asks_behind s) in omega (arith, few)
    cases false = let few = passed_left s in omega (arith, few)

-- ---- where the search inside goes on
ledto_left : (s : Sweeper) (key : Key) (old : ℕ) (ask : Ask FindAnswer) → s.step ≡ Finds key → 0 < old → asks_left s.finding < old → sweep_asks_left (find_ledto s key ask) < sum_left old (chain_asks + asks_behind s)
unfolding find_ledto sweeping_asks_left
ledto_left s key old (Done its) same some fewer = behind_fewer (sweep_asks_left (slot_found s key its.found)) old (chain_asks + asks_behind s) some (found_left s key its.found)
ledto_left s key old (Load place) same some fewer = subst (λ x. sweeping_asks_left s x < sum_left old (chain_asks + asks_behind s)) (sym same) (inside_fewer (asks_left s.finding) old (chain_asks + asks_behind s) fewer)
ledto_left s key old (Store place new) same some fewer = subst (λ x. sweeping_asks_left s x < sum_left old (chain_asks + asks_behind s)) (sym same) (inside_fewer (asks_left s.finding) old (chain_asks + asks_behind s) fewer)
ledto_left s key old (Swap place new) same some fewer = subst (λ x. sweeping_asks_left s x < sum_left old (chain_asks + asks_behind s)) (sym same) (inside_fewer (asks_left s.finding) old (chain_asks + asks_behind s) fewer)
ledto_left s key old (Cas place was new) same some fewer = subst (λ x. sweeping_asks_left s x < sum_left old (chain_asks + asks_behind s)) (sym same) (inside_fewer (asks_left s.finding) old (chain_asks + asks_behind s) fewer)
ledto_left s key old (Add place k) same some fewer = subst (λ x. sweeping_asks_left s x < sum_left old (chain_asks + asks_behind s)) (sym same) (inside_fewer (asks_left s.finding) old (chain_asks + asks_behind s) fewer)
ledto_left s key old (Max place k) same some fewer = subst (λ x. sweeping_asks_left s x < sum_left old (chain_asks + asks_behind s)) (sym same) (inside_fewer (asks_left s.finding) old (chain_asks + asks_behind s) fewer)
ledto_left s key old (Put slot action) same some fewer = subst (λ x. sweeping_asks_left s x < sum_left old (chain_asks + asks_behind s)) (sym same) (inside_fewer (asks_left s.finding) old (chain_asks + asks_behind s) fewer)
ledto_left s key old (Take slot) same some fewer = subst (λ x. sweeping_asks_left s x < sum_left old (chain_asks + asks_behind s)) (sym same) (inside_fewer (asks_left s.finding) old (chain_asks + asks_behind s) fewer)

next_left : (s : Sweeper) (step : Sweeping) (word : ℕ) → s.step ≡ step → 0 < sweeping_asks_left s step → steps_asked (sweeping_ask s step) ≡ 0 → sweep_asks_left (sweeping_next s step word) < sweeping_asks_left s step
unfolding sweeping_asks_left sweeping_next sweeping_ask
next_left s AtRest word same some none = absurd (omega (arith, some))
next_left s LoadsHead word same some none = let its = coming_left (record s { head = record { 0 = word } }) in omega (arith, its)
next_left s Takes word same some none = let few = meet_left s (words_held s.piece s.next) in omega (arith, few)
next_left s Meets word same some none = absurd (omega (arith, none))
next_left s (Finds key) word same some none =
    let inside = some_inside (asks_left s.finding) (chain_asks + asks_behind s) some in
    ledto_left (record s { finding = find_next s.places s.finding word }) key (asks_left s.finding) (find_next_ask s.places s.finding word) same inside (next_fewer s.places s.finding word inside)
next_left s (LoadsKey key addr) word same some none = let few = key_left s key addr word in omega (arith, few)
next_left s (LoadsHeader key addr) word same some none = let few = led_left s key addr (previous_in word) in omega (arith, few)
next_left s (Reads key addr) word same some none = absurd (omega (arith, none))

pub sweep_fewer : (s : Sweeper) (word : ℕ) → 0 < sweep_asks_left s → steps_asked (sweep_ask s) ≡ 0 → sweep_asks_left (sweep_next s word) < sweep_asks_left s
sweep_fewer s word some none = next_left s s.step word refl some none

stays_left : (s : Sweeper) (step : Sweeping) → s.step ≡ step → sweep_asks_left s ≤ sweeping_asks_left s step - 0
stays_left s step same = subst (λ x. sweeping_asks_left s x ≤ sweeping_asks_left s step - 0) (sym same) (omega arith)

-- a search is no step by the device
through_none : (ask : Ask FindAnswer) → steps_asked (passed ask answer.Through) ≡ 0
unfolding passed
through_none (Done its) = refl
through_none (Load place) = refl
through_none (Store place new) = refl
through_none (Swap place new) = refl
through_none (Cas place old new) = refl
through_none (Add place k) = refl
through_none (Max place k) = refl
through_none (Put slot action) = refl
through_none (Take slot) = refl

read_left : (s : Sweeper) (step : Sweeping) (bytes : List ℕ) → s.step ≡ step → sweep_asks_left (sweeping_read s step bytes) ≤ sweeping_asks_left s step - steps_asked (sweeping_ask s step)
unfolding sweeping_asks_left sweeping_read sweeping_ask
read_left s AtRest bytes same = stays_left s AtRest same
read_left s LoadsHead bytes same = stays_left s LoadsHead same
read_left s Takes bytes same = stays_left s Takes same
read_left s Meets bytes same = let few = meet_left (record s { piece = piece_read s.next bytes }) (words_held (piece_read s.next bytes) s.next) in omega (arith, few)
read_left s (Finds key) bytes same = rw (through_none (find_ask s.finding)) (stays_left s (Finds key) same)
read_left s (LoadsKey key addr) bytes same = stays_left s (LoadsKey key addr) same
read_left s (LoadsHeader key addr) bytes same = stays_left s (LoadsHeader key addr) same
read_left s (Reads key addr) bytes same = let few = chain_left s key addr (words_at bytes 0) in omega (arith, few)

pub sweep_read_fewer : (s : Sweeper) (bytes : List ℕ) → sweep_asks_left (sweep_read s bytes) ≤ sweep_asks_left s - steps_asked (sweep_ask s)
sweep_read_fewer s bytes = read_left s s.step bytes refl

-- ---- it asks just where it has asks left
through_left : (left behind : ℕ) (ask : Ask FindAnswer) → IsCounted left ask → GoesOnWhereLeft (sum_left left behind) (passed ask answer.Through)
unfolding passed
through_left left behind (Done its) none = (λ e. never e, λ some. let inside = some_inside left behind some in absurd (omega (arith, inside, none)))
through_left left behind (Load place) some = (λ e. some_sum left behind some, λ more. refl)
through_left left behind (Store place new) some = (λ e. some_sum left behind some, λ more. refl)
through_left left behind (Swap place new) some = (λ e. some_sum left behind some, λ more. refl)
through_left left behind (Cas place old new) some = (λ e. some_sum left behind some, λ more. refl)
through_left left behind (Add place k) some = (λ e. some_sum left behind some, λ more. refl)
through_left left behind (Max place k) some = (λ e. some_sum left behind some, λ more. refl)
through_left left behind (Put slot action) some = (λ e. some_sum left behind some, λ more. refl)
through_left left behind (Take slot) some = (λ e. some_sum left behind some, λ more. refl)

step_asked : (s : Sweeper) (step : Sweeping) → GoesOnWhereLeft (sweeping_asks_left s step) (sweeping_ask s step)
unfolding sweeping_asks_left sweeping_ask
step_asked s AtRest = (λ e. never e, λ some. absurd (omega (arith, some)))
step_asked s LoadsHead = (λ e. omega arith, λ some. refl)
step_asked s Takes = (λ e. omega arith, λ some. refl)
step_asked s Meets = (λ e. omega arith, λ some. refl)
step_asked s (Finds key) = through_left (asks_left s.finding) (chain_asks + asks_behind s) (find_ask s.finding) (find_counted s.finding s.finding.step)
step_asked s (LoadsKey key addr) = (λ e. omega arith, λ some. refl)
step_asked s (LoadsHeader key addr) = (λ e. omega arith, λ some. refl)
step_asked s (Reads key addr) = (λ e. omega arith, λ some. refl)

pub sweep_asked : (s : Sweeper) (ask : Ask SweepAnswer) → ask ≡ sweep_ask s → GoesOnWhereLeft (sweep_asks_left s) ask
sweep_asked s ask its = rw its (step_asked s s.step)

pub sweep_turn_bounded : (s : Sweeper) → sweep_asks_left (turn_begun s) ≤ most_sweep_asks s.places
unfolding sweeping_asks_left
sweep_turn_bounded s = cases (is_sweeping s)
  where
    cases : (b : Bool) → sweep_asks_left (record s { next = s.at; left = 256; wanted = []; step = if b then LoadsHead else AtRest }) ≤ most_sweep_asks s.places
    cases true = omega arith
    cases false = omega arith

-- a sweep that rests has none left: one that is new, and one behind a call that failed
pub sweep_begun_none : (shape : Shape) (p : Places) (from to : Addr) → sweep_asks_left (sweep_begun shape p from to) ≡ 0
unfolding sweeping_asks_left
sweep_begun_none shape p from to = refl

pub sweep_failed_none : (s : Sweeper) → sweep_asks_left (sweep_failed s) ≡ 0
unfolding sweeping_asks_left
sweep_failed_none s = refl

-- ---- it makes a call just where it asks for the device
step_calls : (s : Sweeper) (step : Sweeping) → steps_asked (sweeping_ask s step) ≡ count_by (read_of s.shape (sweeping_addr s step))
unfolding sweeping_ask sweeping_addr
step_calls s AtRest = refl
step_calls s LoadsHead = refl
step_calls s Takes = refl
step_calls s Meets = refl
step_calls s (Finds key) = through_none (find_ask s.finding)
step_calls s (LoadsKey key addr) = refl
step_calls s (LoadsHeader key addr) = refl
step_calls s (Reads key addr) = refl

pub sweep_calls : (s : Sweeper) → steps_asked (sweep_ask s) ≡ count_by (read_asked s)
sweep_calls s = step_calls s s.step
