-- What a request and a try know stays as the log grows.
use Rattle.std.proofs.Common.{inl, inr, ℕ, ◌<◌, ◌≤◌, ◌∙◌, sym, subst, arith, Option, Some, None}
use Rattle.fkv_base.specs.declared.numbers.Addr.{Addr}
use Rattle.fkv_base.specs.declared.numbers.Version.{Version}
use Rattle.fkv_map.specs.declared.history.HistoryEntry.{HistoryEntry}
use Rattle.fkv_map.specs.declared.operations.Reply.{Reply}
use Rattle.fkv_map.specs.Map.{Map, absent_word}
use Rattle.fkv_index.specs.Slots.{entry_addr}
use Rattle.law_log.specs.Chains.{Cell}
use Rattle.law_log.specs.Ghosts.{Log, first_from}
use Rattle.law_log.specs.Enabled.{IsFixed, IsMade}
use Rattle.law_log.proofs.Shown.{Held, Grows, made_stays, made_of_fixed_stays}
use Rattle.fkv_ops.specs.declared.answers.DiskRecord.{DiskRecord}
use Rattle.fkv_ops.specs.declared.answers.TryAnswer.{TryAnswer}
use Rattle.fkv_ops.specs.declared.answers.TryAnswer.TheVariants as answer
use Rattle.fkv_ops.specs.declared.appending.Appending.{Appending}
use Rattle.fkv_ops.specs.declared.appending.Appending.TheVariants as appending
use Rattle.fkv_ops.specs.declared.requests.HeldRecord.{HeldRecord}
use Rattle.fkv_ops.specs.declared.requests.Request.{Request}
use Rattle.fkv_ops.specs.declared.requests.Seen.{Seen}
use Rattle.fkv_ops.specs.declared.trying.OldValue.{OldValue}
use Rattle.fkv_ops.specs.declared.trying.OldValue.TheVariants.{InMemory, Known}
use Rattle.fkv_ops.specs.declared.trying.Trying.{Trying}
use Rattle.fkv_ops.specs.declared.trying.Trying.TheVariants.{Ended, TakesShared, LoadsPhase, Walks, CountsTaken, LoadsSafe, SwapsValue, LoadsCurrent, ChangesValue, LoadsAnswer, TakesExclusive, LoadsOld, Appends, LoadsTail, LoadsTaken, DropsExclusive, DropsShared}
use Rattle.fkv_ops.specs.Walking.{WalkState}
use Rattle.fkv_ops.specs.Trying.{TryState}
use Rattle.law_local.specs.Tries.OnWay.{ComesBelow}
use Rattle.law_local.specs.Tries.WalkRows.{begin_of}
use Rattle.law_local.specs.Tries.HeldRows.{IsValueBelow, HeldKnows, SoughtKnows}
use Rattle.law_local.specs.Tries.TryRows.{key_in, head_in, floor_in, first_of, RequestKnows, StandsAt, MayChange, LoadsFound, IsOldFor, KnowsOld, OldKnows, AppendKnows, AnswerKnows, TryRow, TryKnows}
use Rattle.law_local.specs.Tries.Kept.{KeepsSource, KeepsForAppend, KeepsForTry}
use Rattle.law_local.specs.Tries.Floors.{ComesLive, GoesOnByFloor}
use Rattle.law_local.proofs.OfTries.Floors.{comes_live_grows, goes_on_grows, walk_live_grows}
use Rattle.law_local.proofs.OfTries.OnWay.{within_grows, first_grows, fixed_grows, low_grows, found_grows, still_grows, value_grows}
use Rattle.law_local.proofs.OfTries.WalkRows.{found_knows_grows, walk_grows}
use Rattle.fkv_ops.specs.Waiting.{told_of}

-- ---- what a request holds and seeks
value_below_grows : (home : ℕ → ℕ) (m : Map) (log log' : Log) (key from word low : ℕ) → Held home m log → Grows home m log log' → low ≤ log.fixed → IsValueBelow home log key from word low → IsValueBelow home log' key from word low
value_below_grows home m log log' key from word low held grows fixed its =
    let same = first_grows home m log log' key from held grows its.begins in
    record {
      begins = within_grows home m log log' (home key) from grows its.begins;
      some = subst (λ a. 0 < a) (sym same) its.some;
      below = subst (λ a. a < low) (sym same) its.below;
      value = its.value ∙ sym (value_grows home m log log' key from held grows its.begins (below (first_from home log key from) log.fixed its.below fixed));
    }
  where
    below : (a b : ℕ) → a < low → low ≤ b → a < b
    below a b lower high = omega (arith, lower, high)

pub held_grows : (home : ℕ → ℕ) (m : Map) (log log' : Log) (floor key low : ℕ) (its : Option HeldRecord) → Held home m log → Grows home m log log' → low ≤ log.fixed → floor ≤ log.fixed → HeldKnows home log floor key low its → HeldKnows home log' floor key low its
held_grows home m log log' floor key low None held grows fixed over knows = tt
held_grows home m log log' floor key low (Some it) held grows fixed over knows = record {
  own = λ same. value_below_grows home m log log' key (entry_addr it.entry) it.value low held grows fixed (knows.own same);
  another = λ other. goes_on_grows home m log log' floor key (entry_addr it.entry) it.previous.0 low held grows over (knows.another other);
}

pub sought_grows : (home : ℕ → ℕ) (m : Map) (log log' : Log) (floor key low : ℕ) (its : Option DiskRecord) → Held home m log → Grows home m log log' → floor ≤ log.fixed → SoughtKnows home log floor key low its → SoughtKnows home log' floor key low its
sought_grows home m log log' floor key low None held grows over knows = tt
sought_grows home m log log' floor key low (Some it) held grows over knows = comes_live_grows home m log log' floor key (entry_addr it.entry) it.addr.0 low held grows over knows

pub request_grows : (home : ℕ → ℕ) (m : Map) (log log' : Log) (request : Request) (seen : Seen) → Held home m log → Grows home m log log' → RequestKnows home log request seen → RequestKnows home log' request seen
request_grows home m log log' request seen held grows knows = record {
  plain = knows.plain;
  low = low_grows home m log log' (head_in seen) grows knows.low;
  low_floor = low_grows home m log log' (floor_in request) grows knows.low_floor;
  held = held_grows home m log log' (floor_in request) (key_in request) (head_in seen) request.held held grows knows.low knows.low_floor knows.held;
}

-- ---- as the head that the session has seen rises
value_below_later : (home : ℕ → ℕ) (log : Log) (key from word low high : ℕ) → low ≤ high → IsValueBelow home log key from word low → IsValueBelow home log key from word high
value_below_later home log key from word low high rises its = record { begins = its.begins; some = its.some; below = let below = its.below in omega (arith, below, rises); value = its.value }

comes_later : (home : ℕ → ℕ) (log : Log) (key from to low high : ℕ) → low ≤ high → ComesBelow home log key from to low → ComesBelow home log key from to high
comes_later home log key from to low high rises comes = record { way = comes.way; some = comes.some; below = let below = comes.below in omega (arith, below, rises) }

live_later : (home : ℕ → ℕ) (log : Log) (floor key from to low high : ℕ) → low ≤ high → ComesLive home log floor key from to low → ComesLive home log floor key from to high
live_later home log floor key from to low high rises its = record { comes = comes_later home log key from to low high rises its.comes; live = its.live }

goes_on_later : (home : ℕ → ℕ) (log : Log) (floor key from said low high : ℕ) → low ≤ high → GoesOnByFloor home log floor key from said low → GoesOnByFloor home log floor key from said high
goes_on_later home log floor key from said low high rises (inl ends) = inl ends
goes_on_later home log floor key from said low high rises (inr its) = inr (live_later home log floor key from said low high rises its)

held_later : (home : ℕ → ℕ) (log : Log) (floor key low high : ℕ) (its : Option HeldRecord) → low ≤ high → HeldKnows home log floor key low its → HeldKnows home log floor key high its
held_later home log floor key low high None rises knows = tt
held_later home log floor key low high (Some it) rises knows = record {
  own = λ same. value_below_later home log key (entry_addr it.entry) it.value low high rises (knows.own same);
  another = λ other. goes_on_later home log floor key (entry_addr it.entry) it.previous.0 low high rises (knows.another other);
}

pub sought_later : (home : ℕ → ℕ) (log : Log) (floor key low high : ℕ) (its : Option DiskRecord) → low ≤ high → SoughtKnows home log floor key low its → SoughtKnows home log floor key high its
sought_later home log floor key low high None rises knows = tt
sought_later home log floor key low high (Some it) rises knows = live_later home log floor key (entry_addr it.entry) it.addr.0 low high rises knows

pub request_later : (home : ℕ → ℕ) (log : Log) (request : Request) (seen later : Seen) → head_in seen ≤ head_in later → head_in later ≤ log.fixed → RequestKnows home log request seen → RequestKnows home log request later
request_later home log request seen later rises low knows = record { plain = knows.plain; low = low; low_floor = knows.low_floor; held = held_later home log (floor_in request) (key_in request) (head_in seen) (head_in later) request.held rises knows.held }

-- ---- where the walk stands
stands_grows : (home : ℕ → ℕ) (m : Map) (log log' : Log) (request : Request) (seen : Seen) (w : WalkState) (addr : Addr) (version : Version) → Held home m log → Grows home m log log' → StandsAt home log request seen w addr version
    → StandsAt home log' request seen w addr version
stands_grows home m log log' request seen w addr version held grows stands = record { its = stands.its; at = stands.at; knows = found_knows_grows home m log log' w addr version held grows stands.knows }

may_grows : (home : ℕ → ℕ) (m : Map) (log log' : Log) (request : Request) (seen : Seen) (from at : ℕ) → Held home m log → Grows home m log log' → MayChange home log request seen from at → MayChange home log' request seen from at
may_grows home m log log' request seen from at held grows may = record { found = found_grows home m log log' (key_in request) from at request.version.0 held grows may.found; mutable = may.mutable }

loads_grows : (home : ℕ → ℕ) (m : Map) (log log' : Log) (request : Request) (seen : Seen) (w : WalkState) (addr : Addr) → Held home m log → Grows home m log log' → LoadsFound home log request seen w addr → LoadsFound home log' request seen w addr
loads_grows home m log log' request seen w addr held grows its = record { version = its.version; found = found_grows home m log log' (key_in request) (begin_of w) addr.0 its.version held grows its.found; in_memory = its.in_memory; loads = its.loads }

-- ---- old values
known_grows : (home : ℕ → ℕ) (m : Map) (log log' : Log) (request : Request) (from word : ℕ) → Held home m log → Grows home m log log' → KnowsOld home log request from word → KnowsOld home log' request from word
known_grows home m log log' request from word held grows knows = record {
  begins = within_grows home m log log' (home (key_in request)) from grows knows.begins;
  fixed = subst (IsFixed log') (sym (first_grows home m log log' (key_in request) from held grows knows.begins)) (fixed_grows home m log log' (first_of home log request from) grows knows.fixed);
  its_old = subst (IsOldFor request.op word) (sym (value_grows home m log log' (key_in request) from held grows knows.begins knows.fixed)) knows.its_old;
}

old_grows : (home : ℕ → ℕ) (m : Map) (log log' : Log) (request : Request) (seen : Seen) (w : WalkState) (old : OldValue) → Held home m log → Grows home m log log' → OldKnows home log request seen w old → OldKnows home log' request seen w old
old_grows home m log log' request seen w InMemory held grows copy = record {
  addr = copy.addr;
  version = copy.version;
  stands = stands_grows home m log log' request seen w copy.addr copy.version held grows copy.stands;
  still = still_grows home m log log' copy.addr.0 request.version.0 copy.stands.knows.found.cell grows copy.stands.knows.found.its copy.still;
}
old_grows home m log log' request seen w (Known word) held grows knows = known_grows home m log log' request (begin_of w) word held grows knows

-- ---- a record that is to be written
made_grows : (home : ℕ → ℕ) (m : Map) (log log' : Log) (entry : HistoryEntry) (cell : Cell) → Held home m log → Grows home m log log' → KeepsSource home log log' cell → IsMade home log entry cell → IsMade home log' entry cell
made_grows home m log log' entry cell held grows keeps made = elim made.still [
  | inl fixed ↦ (made_of_fixed_stays home m log log' held.chains held.none grows entry cell fixed made).0
  | inr older ↦ made_stays home m log log' held.chains held.none grows entry cell (keeps older) made
]

append_grows : (home : ℕ → ℕ) (m : Map) (log log' : Log) (request : Request) (its : Reply) (cell : Cell) (step : Appending) → Held home m log → Grows home m log log' → KeepsForAppend home log log' cell step → AppendKnows home log request its cell step
    → AppendKnows home log' request its cell step
append_grows home m log log' request its cell appending.Reserves held grows keeps made = (made.0, λ entry is. made_grows home m log log' entry cell held grows keeps (made.1 entry is))
append_grows home m log log' request its cell (appending.Ended told) held grows keeps made = tt
append_grows home m log log' request its cell (appending.Fills addr) held grows keeps made = tt
append_grows home m log log' request its cell (appending.Publishes addr) held grows keeps made = tt
append_grows home m log log' request its cell appending.Invalidates held grows keeps made = tt

answer_grows : (home : ℕ → ℕ) (m : Map) (log log' : Log) (request : Request) (seen : Seen) (its : TryAnswer) → Held home m log → Grows home m log log' → floor_in request ≤ log.fixed → AnswerKnows home log request seen its → AnswerKnows home log' request seen its
answer_grows home m log log' request seen (answer.AwaitsDisk it) held grows over knows = comes_live_grows home m log log' (floor_in request) (key_in request) (entry_addr it.entry) it.addr.0 (head_in seen) held grows over knows
answer_grows home m log log' request seen its held grows over knows = tt

row_grows : (home : ℕ → ℕ) (m : Map) (log log' : Log) (t : TryState) (step : Trying) → Held home m log → Grows home m log log' → floor_in t.request ≤ log.fixed → KeepsForTry home log log' t step → TryRow home log t step → TryRow home log' t step
row_grows home m log log' t (Ended its) held grows over keeps row = answer_grows home m log log' t.request t.seen its held grows over row
row_grows home m log log' t TakesShared held grows over keeps row = row
row_grows home m log log' t LoadsPhase held grows over keeps row = row
row_grows home m log log' t Walks held grows over keeps row = (row.0, walk_grows home m log log' t.walk held grows row.1, walk_live_grows home m log log' t.request t.walk held grows over row.2)
row_grows home m log log' t CountsTaken held grows over keeps row = (row.0, old_grows home m log log' t.request t.seen t.walk (Known absent_word) held grows row.1)
row_grows home m log log' t (LoadsSafe addr version) held grows over keeps row = (row.0, stands_grows home m log log' t.request t.seen t.walk addr version held grows row.1)
row_grows home m log log' t (SwapsValue addr) held grows over keeps row = (row.0, row.1, may_grows home m log log' t.request t.seen (begin_of t.walk) addr.0 held grows row.2)
row_grows home m log log' t (LoadsCurrent addr) held grows over keeps row = (row.0, row.1, may_grows home m log log' t.request t.seen (begin_of t.walk) addr.0 held grows row.2)
row_grows home m log log' t (ChangesValue addr old) held grows over keeps row = (row.0, may_grows home m log log' t.request t.seen (begin_of t.walk) addr.0 held grows row.1)
row_grows home m log log' t LoadsAnswer held grows over keeps row = record { addr = row.addr; its = loads_grows home m log log' t.request t.seen t.walk row.addr held grows row.its }
row_grows home m log log' t (TakesExclusive old) held grows over keeps row = (row.0, old_grows home m log log' t.request t.seen t.walk old held grows row.1)
row_grows home m log log' t LoadsOld held grows over keeps row = (
  row.0,
  record {
    addr = row.1.addr;
    its = loads_grows home m log log' t.request t.seen t.walk row.1.addr held grows row.1.its;
    still = still_grows home m log log' row.1.addr.0 t.request.version.0 row.1.its.found.cell grows row.1.its.found.its row.1.still;
  },
)
row_grows home m log log' t (Appends its) held grows over keeps row = (row.0, append_grows home m log log' t.request its _ t.append.step held grows keeps row.1)
row_grows home m log log' t (LoadsTail waiting) held grows over keeps row = (row.0, answer_grows home m log log' t.request t.seen (told_of waiting) held grows over row.1)
row_grows home m log log' t (LoadsTaken waiting) held grows over keeps row = (row.0, answer_grows home m log log' t.request t.seen (told_of waiting) held grows over row.1)
row_grows home m log log' t (DropsExclusive its) held grows over keeps row = (row.0, answer_grows home m log log' t.request t.seen its held grows over row.1)
row_grows home m log log' t (DropsShared its) held grows over keeps row = (row.0, answer_grows home m log log' t.request t.seen its held grows over row.1)

pub try_grows : (home : ℕ → ℕ) (m : Map) (log log' : Log) (t : TryState) → Held home m log → Grows home m log log' → KeepsForTry home log log' t t.step → TryKnows home log t → TryKnows home log' t
try_grows home m log log' t held grows keeps knows = record {
  request = request_grows home m log log' t.request t.seen held grows knows.request;
  free = knows.free;
  row = row_grows home m log log' t t.step held grows knows.request.low_floor keeps knows.row;
}
