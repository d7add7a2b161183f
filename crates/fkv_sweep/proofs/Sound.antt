-- What a sweep has at each moment, and that each event keeps it.
use Rattle.std.proofs.Common.{◌≡◌, ℕ, ◌+◌, ◌-◌, ◌<◌, ◌≤◌, ◌⊎◌, List, [], ◌∷◌, ◌++◌, length, refl, sym, subst, inl, inr, arith, Bool, true, false, eqb-true}
use Rattle.std.proofs.lemmas.Bool.{eqb-false}
use Rattle.std.specs.Prelude.{◌==◌, ◌&&◌, nat_lt, if◌then◌else◌, ⊤, Some, nat_le}
use Rattle.std.proofs.lemmas.Bool.Decides.{nat_tests}
use Rattle.std.proofs.lemmas.List.{length-append}
use Rattle.fkv_base.specs.declared.numbers.Addr.{Addr}
use Rattle.fkv_base.specs.declared.numbers.Key.{Key}
use Rattle.fkv_base.specs.declared.shapes.Shape.{Shape}
use Rattle.fkv_plane.specs.declared.asks.Ask.{Ask}
use Rattle.fkv_plane.specs.declared.asks.Ask.TheVariants.{Load, Store, Swap, Cas, Add, Max, Put, Take, Done}
use Rattle.fkv_plane.specs.declared.places.Places.{Places}
use Rattle.fkv_index.specs.declared.finding.Purpose.TheVariants.{Read}
use Rattle.fkv_index.specs.declared.finding.Found.{Found}
use Rattle.fkv_index.specs.declared.finding.Found.TheVariants.{Slot, NoSlot, Full, Kept, Contended}
use Rattle.fkv_index.specs.declared.finding.FindAnswer.{FindAnswer}
use Rattle.fkv_index.specs.Slots.{home_of, entry_addr}
use Rattle.fkv_index.specs.Finding.{first_finding, find_next, find_next_ask}
use Rattle.fkv_sweep.specs.declared.record_words.RecordWords.{RecordWords}
use Rattle.fkv_sweep.specs.declared.sweeping.Sweeping.{Sweeping}
use Rattle.fkv_sweep.specs.declared.sweeping.Sweeping.TheVariants.{AtRest, LoadsHead, Takes, Meets, Finds, LoadsKey, LoadsHeader, Reads}
use Rattle.fkv_sweep.specs.Sweeping.{sweep_ask, Sweeper, most_records, most_wanted, previous_in, is_counted, sweep_begun, is_sweeping, turn_begun, coming, gone_on, record_passed, key_wanted, reached, led_down, slot_found, find_ledto, key_met, chain_met, record_met, sweeping_next, sweep_next, sweeping_read, sweep_read, sweep_failed, sweeping_addr, read_addr, piece_read, holds, words_held, words_at, next_met}
use Rattle.fkv_sweep.specs.SweptLogs.{Standing, SweptLog, IsInChain, HasKeyAt, StandsAbove, Swept, Grows, ShowsEntry, ShowsReply, ShowsRead, ShowsCell, ShowsChained, ShowsPiece}
use Rattle.fkv_index.proofs.Shown.{IsReading}
use Rattle.fkv_sweep.proofs.Searches.{find_reads, first_reads, rested_reads}
use Rattle.fkv_sweep.proofs.Loads.{sweep_loads}
use Rattle.fkv_sweep.proofs.Same.{run_same}
use Rattle.fkv_sweep.proofs.Reading.{first_held}
use Rattle.fkv_sweep.specs.Swept.{IsLoadOrEnd, LoadsAlone, SweepEvent, TurnBegins, IsReplied, IsRead, ReadFails, SweepMoment, sweep_happens, sweep_run, ShowsEvent, HasGrown, AreShown, AllSwept, ReadsAbove}

-- it has swept what it has passed, and while no key is wanted it has passed all before the record that it meets
pub record SweepKnows (s : Sweeper) (log : SweptLog) : Type 0 where
  pub low : s.from.0 ≤ s.at.0
  pub swept : Swept s log
  pub within : (a : ℕ) → s.from.0 ≤ a → a < s.at.0 → a < s.to.0
  pub near : s.at.0 ≤ s.next.0
  pub level : length s.wanted ≡ 0 → s.at.0 ≡ s.next.0
  pub reads : IsReading s.finding
  pub piece : ShowsPiece s.to.0 log s.piece

-- the record that is met has this key, if one stands there
pub record IsMet (s : Sweeper) (log : SweptLog) (key : Key) : Type 0 where
  pub below : s.next.0 < s.to.0
  pub its_key : (cell : Standing) → log.cells s.next.0 ≡ Some cell → cell.key ≡ key

-- the probe stands in the key's chain, where the sweep ends or above
pub record IsProbed (s : Sweeper) (log : SweptLog) (key : Key) (addr : ℕ) : Type 0 where
  pub met : IsMet s log key
  pub above : s.to.0 ≤ addr
  pub in_chain : IsInChain s.shape.bucket_bits log key addr

abbrev pub Probes : Sweeper → SweptLog → Sweeping → Type 0
Probes s log AtRest = ⊤
Probes s log LoadsHead = s.next.0 < s.to.0
Probes s log Takes = (s.next.0 < s.to.0) × (holds s.piece s.next ≡ true)
Probes s log Meets = s.next.0 < s.to.0
Probes s log (Finds key) = IsMet s log key
Probes s log (LoadsKey key addr) = IsProbed s log key addr.0 × (s.head.0 ≤ addr.0)
Probes s log (LoadsHeader key addr) = IsProbed s log key addr.0 × (s.head.0 ≤ addr.0)
Probes s log (Reads key addr) = IsProbed s log key addr.0 × (addr.0 < s.head.0)

pub record IsSweepSound (s : Sweeper) (log : SweptLog) : Type 0 where
  pub knows : SweepKnows s log
  pub probes : Probes s log s.step

-- ---- as the log grows
above_grown : (s : Sweeper) (before after : SweptLog) (key : Key) → Grows s.to.0 before after → StandsAbove s.shape.bucket_bits s.to.0 before key → StandsAbove s.shape.bucket_bits s.to.0 after key
above_grown s before after key grows its = record {
  addr = its.addr;
  above = its.above;
  in_chain = grows.chains (home_of s.shape.bucket_bits key) its.addr its.in_chain;
  its_key = grows.keys its.addr key its.above its.its_key;
}

met_grown : (s : Sweeper) (before after : SweptLog) (key : Key) → Grows s.to.0 before after → IsMet s before key → IsMet s after key
met_grown s before after key grows its = record { below = its.below; its_key = λ cell stands. its.its_key cell (grows.old s.next.0 cell its.below stands) }

probed_grown : (s : Sweeper) (before after : SweptLog) (key : Key) (addr : ℕ) → Grows s.to.0 before after → IsProbed s before key addr → IsProbed s after key addr
probed_grown s before after key addr grows its = record { met = met_grown s before after key grows its.met; above = its.above; in_chain = grows.chains (home_of s.shape.bucket_bits key) addr its.in_chain }

probes_grown : (s : Sweeper) (before after : SweptLog) (step : Sweeping) → Grows s.to.0 before after → Probes s before step → Probes s after step
probes_grown s before after AtRest grows its = tt
probes_grown s before after LoadsHead grows its = its
probes_grown s before after Takes grows its = its
probes_grown s before after Meets grows its = its
probes_grown s before after (Finds key) grows its = met_grown s before after key grows its
probes_grown s before after (LoadsKey key addr) grows its = (probed_grown s before after key addr.0 grows its.0, its.1)
probes_grown s before after (LoadsHeader key addr) grows its = (probed_grown s before after key addr.0 grows its.0, its.1)
probes_grown s before after (Reads key addr) grows its = (probed_grown s before after key addr.0 grows its.0, its.1)

side_grown : (s : Sweeper) (before after : SweptLog) (cell : Standing) → Grows s.to.0 before after → (cell.absent ≡ true) ⊎ StandsAbove s.shape.bucket_bits s.to.0 before cell.key → (cell.absent ≡ true) ⊎ StandsAbove s.shape.bucket_bits s.to.0 after cell.key
side_grown s before after cell grows (inl absent) = inl absent
side_grown s before after cell grows (inr above) = inr (above_grown s before after cell.key grows above)

knows_grown : (s : Sweeper) (before after : SweptLog) → Grows s.to.0 before after → SweepKnows s before → SweepKnows s after
knows_grown s before after grows its = record {
  low = its.low;
  swept = λ a cell from low stands. side_grown s before after cell grows (its.swept a cell from low (grows.old a cell (its.within a from low) stands));
  within = its.within;
  near = its.near;
  level = its.level;
  reads = its.reads;
  piece = λ a cell has low stands. its.piece a cell has low (grows.old a.0 cell low stands);
}

pub sweep_grown_sound : (s : Sweeper) (before after : SweptLog) → Grows s.to.0 before after → IsSweepSound s before → IsSweepSound s after
sweep_grown_sound s before after grows its = record { knows = knows_grown s before after grows its.knows; probes = probes_grown s before after s.step grows its.probes }

-- ---- on to the next record
-- the sweep has done with the record that it has met
record IsDone (s : Sweeper) (log : SweptLog) : Type 0 where
  pub low : s.from.0 ≤ s.at.0
  pub swept : Swept s log
  pub within : (a : ℕ) → s.from.0 ≤ a → a < s.at.0 → a < s.to.0
  pub near : s.at.0 ≤ s.next.0 + 1
  pub level : length s.wanted ≡ 0 → s.at.0 ≡ s.next.0 + 1
  pub reads : IsReading s.finding
  pub piece : ShowsPiece s.to.0 log s.piece

knows_on : (s : Sweeper) (log : SweptLog) (head : Addr) (step : Sweeping) → SweepKnows s log → SweepKnows (record s { head = head; step = step }) log
knows_on s log head step its = record { low = its.low; swept = its.swept; within = its.within; near = its.near; level = its.level; reads = its.reads; piece = its.piece }

-- to the record that comes next
coming_sound : (s : Sweeper) (log : SweptLog) → SweepKnows s log → s.next.0 < s.to.0 → IsSweepSound (record s { step = coming s.piece s.next }) log
coming_sound s log its below = cases (holds s.piece s.next) refl
  where
    cases : (b : Bool) → holds s.piece s.next ≡ b → IsSweepSound (record s { step = if b then Takes else Meets }) log
    cases true e = record { knows = knows_on s log s.head Takes its; probes = (below, e) }
    cases false e = record { knows = knows_on s log s.head Meets its; probes = below }

first_true : (a b c : Bool) → (a && b && c) ≡ true → a ≡ true
first_true true b c e = refl
first_true false b c e = cc

gone_sound : (s : Sweeper) (log : SweptLog) → IsDone s log → IsSweepSound (gone_on s) log
gone_sound s log its = cases (nat_lt (s.next.0 + 1) s.to.0 && nat_lt 1 s.left && nat_lt (length s.wanted) most_wanted) refl
  where
    cases : (b : Bool) → (nat_lt (s.next.0 + 1) s.to.0 && nat_lt 1 s.left && nat_lt (length s.wanted) most_wanted) ≡ b
        → IsSweepSound (record s { next = record { 0 = s.next.0 + 1 }; left = s.left - 1; step = if b then coming s.piece (record { 0 = s.next.0 + 1 }) else AtRest }) log
    cases true e =
        let t = first_true (nat_lt (s.next.0 + 1) s.to.0) (nat_lt 1 s.left) (nat_lt (length s.wanted) most_wanted) e in
        let less : s.next.0 + 1 < s.to.0 = grind (arith, nat_tests, t) in
        coming_sound (record s { next = record { 0 = s.next.0 + 1 }; left = s.left - 1 }) log (record { low = its.low; swept = its.swept; within = its.within; near = its.near; level = its.level; reads = its.reads; piece = its.piece }) less
    cases false e = record { knows = record { low = its.low; swept = its.swept; within = its.within; near = its.near; level = its.level; reads = its.reads; piece = its.piece }; probes = tt }

-- the record that is met may be passed
abbrev MayPass : Sweeper → SweptLog → Type 0
MayPass s log = (cell : Standing) → log.cells s.next.0 ≡ Some cell → (cell.absent ≡ true) ⊎ StandsAbove s.shape.bucket_bits s.to.0 log cell.key

passed_done : (s : Sweeper) (log : SweptLog) (b : Bool) → (length s.wanted == 0) ≡ b → SweepKnows s log → s.next.0 < s.to.0 → MayPass s log
    → IsDone (record s { at = if b then record { 0 = s.next.0 + 1 } else s.at }) log
passed_done s log true e its below here =
    let none : length s.wanted ≡ 0 = eqb-true (length s.wanted) 0 e in
    let level = its.level none in
    record {
      low = let low = its.low in omega (arith, low, level);
      swept = λ a cell from low stands. each a cell from low stands (nat_lt a s.next.0) refl level;
      within = λ a from low. omega (arith, low, below);
      near = omega arith;
      level = λ empty. refl;
      reads = its.reads;
      piece = its.piece;
    }
  where
    each : (a : ℕ) (cell : Standing) → s.from.0 ≤ a → a < s.next.0 + 1 → log.cells a ≡ Some cell → (t : Bool) → nat_lt a s.next.0 ≡ t → s.at.0 ≡ s.next.0 → (cell.absent ≡ true) ⊎ StandsAbove s.shape.bucket_bits s.to.0 log cell.key
    each a cell from low stands true t level = let less : a < s.next.0 = grind (arith, nat_tests, t) in its.swept a cell from (omega (arith, less, level)) stands
    each a cell from low stands false t level =
        let more : s.next.0 ≤ a = grind (arith, nat_tests, t) in
        let same : a ≡ s.next.0 = omega (arith, more, low) in
        here cell (subst (λ n. log.cells n ≡ Some cell) same stands)
passed_done s log false e its below here = record {
  low = its.low;
  swept = its.swept;
  within = its.within;
  near = let near = its.near in omega (arith, near);
  level = λ none. absurd (some none);
  reads = its.reads;
  piece = its.piece;
}
  where
    some : length s.wanted ≡ 0 → ⊥
    some none = eqb-false (length s.wanted) 0 e none

passed_sound : (s : Sweeper) (log : SweptLog) → SweepKnows s log → s.next.0 < s.to.0 → MayPass s log → IsSweepSound (record_passed s) log
passed_sound s log its below here = gone_sound (record s { at = if length s.wanted == 0 then record { 0 = s.next.0 + 1 } else s.at }) log (passed_done s log (length s.wanted == 0) refl its below here)

wanted_sound : (s : Sweeper) (log : SweptLog) (key : Key) → SweepKnows s log → IsSweepSound (key_wanted s key) log
wanted_sound s log key its = gone_sound (record s { wanted = s.wanted ++ key ∷ [] }) log (record {
  low = its.low;
  swept = its.swept;
  within = its.within;
  near = let near = its.near in omega (arith, near);
  level = λ none. let more = length-append s.wanted (key ∷ []) in absurd (omega (arith, more, none));
  reads = its.reads;
  piece = its.piece;
})

-- ---- the probe
reached_sound : (s : Sweeper) (log : SweptLog) (key : Key) (addr : ℕ) → SweepKnows s log → IsMet s log key → (s.to.0 ≤ addr → IsInChain s.shape.bucket_bits log key addr) → IsSweepSound (reached s key addr) log
reached_sound s log key addr its met leads = cases (nat_lt addr s.to.0) (nat_lt addr s.head.0) refl refl
  where
    probed : (step : Sweeping) → s.to.0 ≤ addr → IsProbed (record s { step = step }) log key addr
    probed step above = record { met = record { below = met.below; its_key = met.its_key }; above = above; in_chain = leads above }

    cases : (a b : Bool) → nat_lt addr s.to.0 ≡ a → nat_lt addr s.head.0 ≡ b
        → IsSweepSound (if a then key_wanted s key else (if b then record s { step = Reads key (record { 0 = addr }) } else record s { step = LoadsKey key (record { 0 = addr }) })) log
    cases true b e d = wanted_sound s log key its
    cases false true e d =
        let above : s.to.0 ≤ addr = grind (arith, nat_tests, e) in
        let low : addr < s.head.0 = grind (arith, nat_tests, d) in
        record { knows = knows_on s log s.head (Reads key (record { 0 = addr })) its; probes = (probed (Reads key (record { 0 = addr })) above, low) }
    cases false false e d =
        let above : s.to.0 ≤ addr = grind (arith, nat_tests, e) in
        let high : s.head.0 ≤ addr = grind (arith, nat_tests, d) in
        record { knows = knows_on s log s.head (LoadsKey key (record { 0 = addr })) its; probes = (probed (LoadsKey key (record { 0 = addr })) above, high) }

led_sound : (s : Sweeper) (log : SweptLog) (key : Key) (addr : Addr) (previous : ℕ) → SweepKnows s log → IsMet s log key → (s.to.0 ≤ previous → IsInChain s.shape.bucket_bits log key previous)
    → IsSweepSound (led_down s key addr previous) log
led_sound s log key addr previous its met leads = cases (nat_lt previous addr.0)
  where
    cases : (b : Bool) → IsSweepSound (if b then reached s key previous else key_wanted s key) log
    cases true = reached_sound s log key previous its met leads
    cases false = wanted_sound s log key its

-- a record of the key lets the one that is met pass
may_pass : (s : Sweeper) (log : SweptLog) (key : Key) (addr : ℕ) → IsProbed s log key addr → HasKeyAt log key addr → MayPass s log
may_pass s log key addr its has = λ cell stands. inr (subst (StandsAbove s.shape.bucket_bits s.to.0 log) (sym (its.met.its_key cell stands)) (record { addr = addr; above = its.above; in_chain = its.in_chain; its_key = has }))

key_sound : (s : Sweeper) (log : SweptLog) (key : Key) (addr : Addr) (word : ℕ) → SweepKnows s log → IsProbed s log key addr.0 → s.head.0 ≤ addr.0 → (word ≡ key.0 → HasKeyAt log key addr.0)
    → IsSweepSound (key_met s key addr word) log
key_sound s log key addr word its probed high shown = cases (word == key.0) refl
  where
    cases : (b : Bool) → (word == key.0) ≡ b → IsSweepSound (if b then record_passed s else record s { step = LoadsHeader key addr }) log
    cases true e = passed_sound s log its probed.met.below (may_pass s log key addr.0 probed (shown (eqb-true word key.0 e)))
    cases false e = record {
      knows = knows_on s log s.head (LoadsHeader key addr) its;
      probes = (record { met = record { below = probed.met.below; its_key = probed.met.its_key }; above = probed.above; in_chain = probed.in_chain }, high);
    }

chain_sound : (s : Sweeper) (log : SweptLog) (key : Key) (addr : Addr) (words : RecordWords) → SweepKnows s log → IsProbed s log key addr.0 → ShowsChained log s key addr.0 words
    → IsSweepSound (chain_met s key addr words) log
chain_sound s log key addr words its probed shown = cases (words.key.0 == key.0) refl
  where
    cases : (b : Bool) → (words.key.0 == key.0) ≡ b → IsSweepSound (if b then record_passed s else led_down s key addr (previous_in words.header)) log
    cases true e = passed_sound s log its probed.met.below (may_pass s log key addr.0 probed (shown.its_key (eqb-true words.key.0 key.0 e)))
    cases false e = led_sound s log key addr (previous_in words.header) its probed.met shown.leads

found_sound : (s : Sweeper) (log : SweptLog) (key : Key) (found : Found) → SweepKnows s log → IsMet s log key
    → ((place entry : ℕ) → found ≡ Slot place entry → s.to.0 ≤ entry_addr entry → IsInChain s.shape.bucket_bits log key (entry_addr entry)) → IsSweepSound (slot_found s key found) log
found_sound s log key (Slot place word) its met shown = reached_sound s log key (entry_addr word) its met (shown place word refl)
found_sound s log key NoSlot its met shown = wanted_sound s log key its
found_sound s log key Full its met shown = wanted_sound s log key its
found_sound s log key Kept its met shown = wanted_sound s log key its
found_sound s log key Contended its met shown = wanted_sound s log key its

ledto_sound : (s : Sweeper) (log : SweptLog) (key : Key) (ask : Ask FindAnswer) → s.step ≡ Finds key → SweepKnows s log → IsMet s log key
    → ((answer : FindAnswer) (place entry : ℕ) → ask ≡ Done answer → answer.found ≡ Slot place entry → s.to.0 ≤ entry_addr entry → IsInChain s.shape.bucket_bits log key (entry_addr entry)) → IsSweepSound (find_ledto s key ask) log
unfolding find_ledto
ledto_sound s log key (Done answer) step its met shown = found_sound s log key answer.found its met (λ place entry. shown answer place entry refl)
ledto_sound s log key (Load place) step its met shown = record { knows = its; probes = subst (Probes s log) (sym step) met }
ledto_sound s log key (Store place new) step its met shown = record { knows = its; probes = subst (Probes s log) (sym step) met }
ledto_sound s log key (Swap place new) step its met shown = record { knows = its; probes = subst (Probes s log) (sym step) met }
ledto_sound s log key (Cas place old new) step its met shown = record { knows = its; probes = subst (Probes s log) (sym step) met }
ledto_sound s log key (Add place k) step its met shown = record { knows = its; probes = subst (Probes s log) (sym step) met }
ledto_sound s log key (Max place k) step its met shown = record { knows = its; probes = subst (Probes s log) (sym step) met }
ledto_sound s log key (Put slot action) step its met shown = record { knows = its; probes = subst (Probes s log) (sym step) met }
ledto_sound s log key (Take slot) step its met shown = record { knows = its; probes = subst (Probes s log) (sym step) met }

-- the search inside goes on
finds_sound : (s : Sweeper) (log : SweptLog) (key : Key) (word : ℕ) → s.step ≡ Finds key → SweepKnows s log → IsMet s log key → ShowsEntry log s key word
    → IsSweepSound (find_ledto (record s { finding = find_next s.places s.finding word }) key (find_next_ask s.places s.finding word)) log
finds_sound s log key word step its met shown =
    ledto_sound (record s { finding = find_next s.places s.finding word }) log key (find_next_ask s.places s.finding word) step
    (record { low = its.low; swept = its.swept; within = its.within; near = its.near; level = its.level; reads = find_reads s.places s.finding word its.reads; piece = its.piece })
    (record { below = met.below; its_key = met.its_key }) shown

-- the record that is met has no value, or its key is probed
meet_sound : (s : Sweeper) (log : SweptLog) (words : RecordWords) → SweepKnows s log → s.next.0 < s.to.0 → ((cell : Standing) → log.cells s.next.0 ≡ Some cell → ShowsCell words cell)
    → IsSweepSound (record_met s words) log
meet_sound s log words its below shown = cases (is_counted words) refl
  where
    absent : (cell : Standing) (b : Bool) → cell.absent ≡ b → is_counted words ≡ false → log.cells s.next.0 ≡ Some cell → (cell.absent ≡ true) ⊎ StandsAbove s.shape.bucket_bits s.to.0 log cell.key
    absent cell true same e stands = inl same
    absent cell false same e stands = let yes = (shown cell stands).counts same in let never : ⊥ = cc in absurd never

    cases : (b : Bool) → is_counted words ≡ b
        → IsSweepSound (if b then record s { finding = first_finding s.places (home_of s.shape.bucket_bits words.key) Read 0; step = Finds words.key } else record_passed s) log
    cases true e = record {
      knows = record { low = its.low; swept = its.swept; within = its.within; near = its.near; level = its.level; reads = first_reads s.places (home_of s.shape.bucket_bits words.key); piece = its.piece };
      probes = record { below = below; its_key = λ cell stands. let same = (shown cell stands).its_key in sym same };
    }
    cases false e = passed_sound s log its below (λ cell stands. absent cell cell.absent refl e stands)

met_sound : (s : Sweeper) (log : SweptLog) → SweepKnows s log → s.next.0 < s.to.0 → holds s.piece s.next ≡ true → IsSweepSound (next_met s) log
met_sound s log its below has = meet_sound s log (words_held s.piece s.next) its below (λ cell stands. its.piece s.next cell has below stands)

piece_sound : (s : Sweeper) (log : SweptLog) (bytes : List ℕ) → SweepKnows s log → s.next.0 < s.to.0 → ShowsPiece s.to.0 log (piece_read s.next bytes) → IsSweepSound (next_met (record s { piece = piece_read s.next bytes })) log
piece_sound s log bytes its below shown =
    met_sound (record s { piece = piece_read s.next bytes }) log
    (record { low = its.low; swept = its.swept; within = its.within; near = its.near; level = its.level; reads = its.reads; piece = shown }) below (first_held s.next bytes)

-- ---- event by event
next_sound : (s : Sweeper) (log : SweptLog) (step : Sweeping) (word : ℕ) → s.step ≡ step → SweepKnows s log → Probes s log step → ShowsReply log s step word → IsSweepSound (sweeping_next s step word) log
unfolding sweeping_next
next_sound s log AtRest word same its probes shown = record { knows = its; probes = subst (Probes s log) (sym same) tt }
next_sound s log LoadsHead word same its probes shown = coming_sound (record s { head = record { 0 = word } }) log (knows_on s log (record { 0 = word }) s.step its) probes
next_sound s log Takes word same its probes shown = met_sound s log its probes.0 probes.1
next_sound s log Meets word same its probes shown = record { knows = its; probes = subst (Probes s log) (sym same) probes }
next_sound s log (Finds key) word same its probes shown = finds_sound s log key word same its probes shown
next_sound s log (LoadsKey key addr) word same its probes shown = key_sound s log key addr word its probes.0 probes.1 (shown probes.1 probes.0.above probes.0.in_chain)
next_sound s log (LoadsHeader key addr) word same its probes shown = led_sound s log key addr (previous_in word) its probes.0.met (shown probes.1 probes.0.above probes.0.in_chain)
next_sound s log (Reads key addr) word same its probes shown = record { knows = its; probes = subst (Probes s log) (sym same) probes }

read_sound : (s : Sweeper) (log : SweptLog) (step : Sweeping) (bytes : List ℕ) → s.step ≡ step → SweepKnows s log → Probes s log step → ShowsRead log s step bytes → IsSweepSound (sweeping_read s step bytes) log
unfolding sweeping_read
read_sound s log AtRest bytes same its probes shown = record { knows = its; probes = subst (Probes s log) (sym same) tt }
read_sound s log LoadsHead bytes same its probes shown = record { knows = its; probes = subst (Probes s log) (sym same) probes }
read_sound s log Takes bytes same its probes shown = record { knows = its; probes = subst (Probes s log) (sym same) probes }
read_sound s log Meets bytes same its probes shown = piece_sound s log bytes its probes shown
read_sound s log (Finds key) bytes same its probes shown = record { knows = its; probes = subst (Probes s log) (sym same) probes }
read_sound s log (LoadsKey key addr) bytes same its probes shown = record { knows = its; probes = subst (Probes s log) (sym same) probes }
read_sound s log (LoadsHeader key addr) bytes same its probes shown = record { knows = its; probes = subst (Probes s log) (sym same) probes }
read_sound s log (Reads key addr) bytes same its probes shown = chain_sound s log key addr (words_at bytes 0) its probes.0 (shown probes.1 probes.0.above probes.0.in_chain)

turn_sound : (s : Sweeper) (log : SweptLog) → SweepKnows s log → IsSweepSound (turn_begun s) log
turn_sound s log its = cases (is_sweeping s) refl
  where
    cases : (b : Bool) → is_sweeping s ≡ b → IsSweepSound (record s { next = s.at; left = most_records; wanted = []; step = if b then LoadsHead else AtRest }) log
    cases true e =
        let less : s.at.0 < s.to.0 = grind (arith, nat_tests, e) in
        record { knows = record { low = its.low; swept = its.swept; within = its.within; near = omega arith; level = λ none. refl; reads = its.reads; piece = its.piece }; probes = less }
    cases false e = record { knows = record { low = its.low; swept = its.swept; within = its.within; near = omega arith; level = λ none. refl; reads = its.reads; piece = its.piece }; probes = tt }

pub sweep_turn_sound : (s : Sweeper) (log : SweptLog) → IsSweepSound s log → IsSweepSound (turn_begun s) log
sweep_turn_sound s log its = turn_sound s log its.knows

pub sweep_next_sound : (s : Sweeper) (log : SweptLog) (word : ℕ) → IsSweepSound s log → ShowsReply log s s.step word → IsSweepSound (sweep_next s word) log
sweep_next_sound s log word its shown = next_sound s log s.step word refl its.knows its.probes shown

pub sweep_read_sound : (s : Sweeper) (log : SweptLog) (bytes : List ℕ) → IsSweepSound s log → ShowsRead log s s.step bytes → IsSweepSound (sweep_read s bytes) log
sweep_read_sound s log bytes its shown = read_sound s log s.step bytes refl its.knows its.probes shown

pub sweep_failed_sound : (s : Sweeper) (log : SweptLog) → IsSweepSound s log → IsSweepSound (sweep_failed s) log
sweep_failed_sound s log its = record { knows = knows_on s log s.head AtRest its.knows; probes = tt }

pub sweep_event_sound : (s : Sweeper) (log : SweptLog) (event : SweepEvent) → IsSweepSound s log → ShowsEvent log s event → IsSweepSound (sweep_happens s event) log
sweep_event_sound s log TurnBegins its shown = sweep_turn_sound s log its
sweep_event_sound s log (IsReplied word) its shown = sweep_next_sound s log word its shown
sweep_event_sound s log (IsRead bytes) its shown = sweep_read_sound s log bytes its shown
sweep_event_sound s log ReadFails its shown = sweep_failed_sound s log its

-- ---- over a whole run
none_held : (a : ℕ) → (nat_le 0 a && nat_lt a 0) ≡ true → ⊥
none_held a has = let t = second (nat_le 0 a) (nat_lt a 0) has in let low : a < 0 = grind (arith, nat_tests, t) in omega (arith, low)
  where
    second : (x y : Bool) → (x && y) ≡ true → y ≡ true
    second true true e = refl
    second true false e = cc
    second false y e = cc

pub sweep_begun_sound : (shape : Shape) (p : Places) (from to : Addr) (log : SweptLog) → IsSweepSound (sweep_begun shape p from to) log
sweep_begun_sound shape p from to log = record {
  knows = record {
    low = omega arith;
    swept = λ a cell low high stands. absurd (omega (arith, low, high));
    within = λ a low high. absurd (omega (arith, low, high));
    near = omega arith;
    level = λ none. refl;
    reads = rested_reads;
    piece = λ a cell has low stands. absurd (none_held a.0 has);
  };
  probes = tt;
}

run_sound : (shape : Shape) (p : Places) (from to : Addr) (moments : List SweepMoment) (log : SweptLog) → AreShown (sweep_begun shape p from to) moments → HasGrown to.0 moments log
    → IsSweepSound (sweep_run (sweep_begun shape p from to) moments) log
unfolding sweep_run AreShown
run_sound shape p from to [] log shown grown = sweep_begun_sound shape p from to log
run_sound shape p from to (moment ∷ before) log shown grown =
    let s = sweep_run (sweep_begun shape p from to) before in
    let here : Grows (sweep_happens s moment.event).to.0 moment.log log = rw (run_same (sweep_begun shape p from to) (moment ∷ before)).to grown in
    sweep_grown_sound (sweep_happens s moment.event) moment.log log here (sweep_event_sound s moment.log moment.event (run_sound shape p from to before moment.log shown.2 shown.1) shown.0)

pub all_swept : AllSwept
all_swept shape p from to moments log shown grown = (run_sound shape p from to moments log shown grown).knows.swept

-- the address that is read
step_above : (s : Sweeper) (log : SweptLog) (step : Sweeping) (addr : Addr) → SweepKnows s log → Probes s log step → sweeping_addr s step ≡ Some addr → s.from.0 ≤ addr.0
unfolding sweeping_addr
step_above s log AtRest addr its probes e = cc
step_above s log LoadsHead addr its probes e = cc
step_above s log Takes addr its probes e = cc
step_above s log Meets addr its probes e =
    let same : s.next ≡ addr = cc in
    let low = its.low in
    let near = its.near in
    subst (λ (a : Addr). s.from.0 ≤ a.0) same (omega (arith, low, near))
step_above s log (Finds key) addr its probes e = cc
step_above s log (LoadsKey key at) addr its probes e = cc
step_above s log (LoadsHeader key at) addr its probes e = cc
step_above s log (Reads key at) addr its probes e =
    let same : at ≡ addr = cc in
    let low = its.low in
    let near = its.near in
    let below = probes.0.met.below in
    let above = probes.0.above in
    subst (λ (a : Addr). s.from.0 ≤ a.0) same (omega (arith, low, near, below, above))

pub sweep_sound_above : (s : Sweeper) (log : SweptLog) (addr : Addr) → IsSweepSound s log → read_addr s ≡ Some addr → s.from.0 ≤ addr.0
sweep_sound_above s log addr its e = step_above s log s.step addr its.knows its.probes e

pub reads_above : ReadsAbove
reads_above shape p from to moments log addr shown grown e =
    let s = sweep_run (sweep_begun shape p from to) moments in
    let sound = run_sound shape p from to moments log shown grown in
    let above = sweep_sound_above s log addr sound e in
    rw (← (run_same (sweep_begun shape p from to) moments).from) above

-- what is asked
pub sweep_sound_loads : (s : Sweeper) (log : SweptLog) → IsSweepSound s log → IsLoadOrEnd (sweep_ask s)
sweep_sound_loads s log its = sweep_loads s (record { reads = its.knows.reads })

pub sweep_sound_swept : (s : Sweeper) (log : SweptLog) → IsSweepSound s log → Swept s log
sweep_sound_swept s log its = its.knows.swept

pub loads_alone : LoadsAlone
loads_alone shape p from to moments log shown grown =
    let s = sweep_run (sweep_begun shape p from to) moments in
    sweep_sound_loads s log (run_sound shape p from to moments log shown grown)
