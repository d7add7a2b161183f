-- Where the walk's end leads a try.
use Rattle.std.proofs.Common.{◌≡◌, ◌⊎◌, ℕ, ◌<◌, ◌≤◌, ◌∙◌, refl, inl, inr, arith, sym, ap, subst, Bool, true, false, Option, Some, None}
use Rattle.std.specs.Prelude.{◌≢◌, ◌==◌, ◌&&◌, ◌||◌, not, nat_lt, nat_le, if◌then◌else◌}
use Rattle.fkv_base.specs.declared.numbers.Addr.{Addr}
use Rattle.fkv_base.specs.declared.numbers.Key.{Key}
use Rattle.fkv_base.specs.declared.numbers.Version.{Version}
use Rattle.fkv_marks.specs.Marks.{mark}
use Rattle.fkv_map.specs.Map.{absent_word}
use Rattle.fkv_map.specs.Keys.{key_of}
use Rattle.fkv_plane.specs.declared.asks.Ask.{Ask}
use Rattle.fkv_plane.specs.declared.asks.Ask.TheVariants.{Done}
use Rattle.fkv_plane.specs.declared.places.Places.{Places}
use Rattle.fkv_log.specs.declared.regions.Region.TheVariants as region
use Rattle.fkv_index.specs.Slots.{entry_addr}
use Rattle.law_log.specs.Trace.{IsIn}
use Rattle.law_log.specs.Chains.{value_at, version_at}
use Rattle.law_log.specs.Ghosts.{Log}
use Rattle.law_log.specs.Enabled.{IsFixed, NoneAbove}
use Rattle.fkv_ops.specs.declared.answers.Reason.TheVariants as reason
use Rattle.fkv_ops.specs.declared.answers.TryAnswer.TheVariants as answer
use Rattle.fkv_ops.specs.declared.requests.HeldRecord.{HeldRecord}
use Rattle.fkv_ops.specs.declared.requests.Request.{Request}
use Rattle.fkv_ops.specs.declared.requests.Seen.{Seen}
use Rattle.fkv_ops.specs.declared.trying.OldValue.TheVariants.{InMemory, Known}
use Rattle.fkv_ops.specs.declared.trying.Trying.TheVariants.{Walks, CountsTaken, SwapsValue, LoadsCurrent, LoadsAnswer}
use Rattle.fkv_ops.specs.declared.walking.WalkAnswer.{WalkAnswer}
use Rattle.fkv_ops.specs.declared.walking.WalkAnswer.TheVariants as walk
use Rattle.fkv_ops.specs.Requests.{is_read, is_blind, is_chain_end}
use Rattle.fkv_ops.specs.Walking.{walk_ask, walk_on}
use Rattle.fkv_ops.specs.Trying.{TryState, ends, must_count, is_marked, must_shift, copies, awaits, held_used, met_nowhere, met_disk, changes, region_met, met_record, walked, has_walked, walk_ledto, safe_loaded}
use Rattle.fkv_begin.specs.Begin.{from_or_none}
use Rattle.fkv_ops.proofs.Shown.{ends_below}
use Rattle.law_local.specs.Tries.Floors.{ComesLive, GoesOnByFloor}
use Rattle.law_local.proofs.OfTries.Floors.{absent_old, below_is_absent, walk_comes}
use Rattle.law_local.specs.Tries.OnWay.{ComesBelow, FindsNone, IsFoundAt, IsOrderly}
use Rattle.law_local.specs.Tries.WalkRows.{begin_of, WalkKnows, WalkTells}
use Rattle.law_local.specs.Tries.HeldRows.{IsValueBelow, HeldKnows}
use Rattle.law_local.specs.Tries.TryRows.{key_in, head_in, floor_in, first_of, RequestKnows, IsWalkFor, WalkIsLive, StandsAt, KnowsOld, IsUpdate, IsFree, NoneIsLater, TryRow, TryKnows}
use Rattle.law_local.proofs.OfTries.Tests.{either, lt_true, le_true, le_false, eq_true, eq_false}
use Rattle.law_local.proofs.OfTries.Lows.{fixed_below}
use Rattle.law_local.proofs.OfTries.WalkRows.{walk_tells, loads_on}
use Rattle.law_local.proofs.OfTries.Made.{same_old, blind_old}
use Rattle.law_local.proofs.OfTries.TryEnds.{ends_knows, full_knows, update_free, found_for, found_on, loads_found, copies_knows}

-- ---- old values that are known
-- there is no record of the key
none_old : (home : ℕ → ℕ) (log : Log) (request : Request) (from : ℕ) → IsOrderly home log → FindsNone home log (key_in request) from → KnowsOld home log request from absent_word
none_old home log request from orderly finds = record {
  begins = finds.begins;
  fixed = subst (IsFixed log) (sym finds.none) orderly.some_fixed;
  its_old = same_old request.op absent_word (value_at (log.cells (first_of home log request from))) (sym (ap (λ a. value_at (log.cells a)) finds.none ∙ ap value_at orderly.none));
}

-- the record lies on the device, and its value doesn't count
blind_below : (home : ℕ → ℕ) (log : Log) (request : Request) (seen : Seen) (from to word : ℕ) → IsOrderly home log → RequestKnows home log request seen → ComesBelow home log (key_in request) from to (head_in seen) → is_blind request.op ≡ true
    → KnowsOld home log request from word
blind_below home log request seen from to word orderly knows comes blind = record {
  begins = comes.way.begins;
  fixed = fixed_below home log (key_in request) from to (head_in seen) orderly.chains comes knows.low;
  its_old = blind_old request.op word (value_at (log.cells (first_of home log request from))) blind;
}

-- the request holds it
held_old : (home : ℕ → ℕ) (log : Log) (request : Request) (seen : Seen) (from word : ℕ) → RequestKnows home log request seen → IsValueBelow home log (key_in request) from word (head_in seen) → KnowsOld home log request from word
held_old home log request seen from word knows its = record {
  begins = its.begins;
  fixed = let low = its.below in let high = knows.low in omega (arith, low, high);
  its_old = same_old request.op word (value_at (log.cells (first_of home log request from))) its.value;
}

-- ---- below the head
-- the way has come below the floor
gone_old : (home : ℕ → ℕ) (log : Log) (request : Request) (from to low : ℕ) → IsOrderly home log → floor_in request ≤ log.fixed → ComesLive home log (floor_in request) (key_in request) from to low → to < floor_in request → KnowsOld home log request from absent_word
gone_old home log request from to low orderly over comes under = absent_old home log orderly request from (below_is_absent home log orderly (floor_in request) over (key_in request) from to low comes under)

-- where the way goes on behind what the request holds, if that was read along a way from this entry
abbrev GoesBehind : (ℕ → ℕ) → Log → TryState → HeldRecord → ℕ → Type 0
GoesBehind home log t it entry = GoesOnByFloor home log (floor_in t.request) (key_in t.request) (entry_addr entry) it.previous.0 (head_in t.seen)

held_knows : (home : ℕ → ℕ) (log : Log) (p : Places) (t : TryState) (addr : Addr) (its : Option HeldRecord) → IsOrderly home log → RequestKnows home log t.request t.seen → IsUpdate t.request
    → ComesLive home log (floor_in t.request) (key_in t.request) (begin_of t.walk) addr.0 (head_in t.seen) → HeldKnows home log (floor_in t.request) (key_in t.request) (head_in t.seen) its → TryKnows home log (held_used p t addr its)
unfolding held_used
held_knows home log p t addr None orderly request update comes held = ends_knows home log p t (answer.AwaitsDisk (record { entry = t.walk.entry; addr = addr })) request (update_free t.request t.has_shared t.has_exclusive update) comes
held_knows home log p t addr (Some it) orderly request update comes held = by_entry (it.entry == t.walk.entry) refl
  where
    free : IsFree t.request t.has_shared t.has_exclusive
    free = update_free t.request t.has_shared t.has_exclusive update

    ended : is_chain_end t.request.floor it.previous ≡ true → GoesBehind home log t it t.walk.entry → KnowsOld home log t.request (begin_of t.walk) absent_word
    ended e (inl goes) = absent_old home log orderly t.request (begin_of t.walk) goes.1
    ended e (inr goes) = gone_old home log t.request (begin_of t.walk) it.previous.0 (head_in t.seen) orderly request.low_floor goes (ends_below t.request.floor it.previous goes.comes.some e)

    sought : is_chain_end t.request.floor it.previous ≡ false → GoesBehind home log t it t.walk.entry → ComesLive home log (floor_in t.request) (key_in t.request) (begin_of t.walk) it.previous.0 (head_in t.seen)
    sought e (inl goes) = absurd (eq_false (from_or_none t.request.floor.0 it.previous.0) 0 e goes.0)
    sought e (inr goes) = goes

    by_end : (b : Bool) → is_chain_end t.request.floor it.previous ≡ b → GoesBehind home log t it t.walk.entry → TryKnows home log (if b then copies p t (Known absent_word) false else awaits p t it.previous)
    by_end true e goes = copies_knows home log p t (Known absent_word) false request update (ended e goes)
    by_end false e goes = ends_knows home log p t (answer.AwaitsDisk (record { entry = t.walk.entry; addr = it.previous })) request free (sought e goes)

    by_key : (b : Bool) → (it.key.0 == (key_of t.request.op).0) ≡ b → it.entry ≡ t.walk.entry
        → TryKnows home log (if b then copies p t (Known it.value) false else if is_chain_end t.request.floor it.previous then copies p t (Known absent_word) false else awaits p t it.previous)
    by_key true e same = copies_knows home log p t (Known it.value) false request update
        (held_old home log t.request t.seen (begin_of t.walk) it.value request (subst (λ n. IsValueBelow home log (key_in t.request) (entry_addr n) it.value (head_in t.seen)) same (held.own (eq_true it.key.0 (key_of t.request.op).0 e))))
    by_key false e same = by_end (is_chain_end t.request.floor it.previous) refl (subst (GoesBehind home log t it) same (held.another (eq_false it.key.0 (key_of t.request.op).0 e)))

    by_entry : (b : Bool) → (it.entry == t.walk.entry) ≡ b
        → TryKnows home log (if b then (if it.key.0 == (key_of t.request.op).0 then copies p t (Known it.value) false else if is_chain_end t.request.floor it.previous then copies p t (Known absent_word) false else awaits p t it.previous) else awaits p t addr)
    by_entry true e = by_key (it.key.0 == (key_of t.request.op).0) refl (eq_true it.entry t.walk.entry e)
    by_entry false e = ends_knows home log p t (answer.AwaitsDisk (record { entry = t.walk.entry; addr = addr })) request free comes

disk_knows : (home : ℕ → ℕ) (log : Log) (p : Places) (t : TryState) (addr : Addr) → IsOrderly home log → RequestKnows home log t.request t.seen → IsFree t.request t.has_shared t.has_exclusive
    → ComesLive home log (floor_in t.request) (key_in t.request) (begin_of t.walk) addr.0 (head_in t.seen) → TryKnows home log (met_disk p t addr)
disk_knows home log p t addr orderly request free comes = by_read (is_read t.request.op) refl
  where
    gone : is_chain_end t.request.floor addr ≡ true → KnowsOld home log t.request (begin_of t.walk) absent_word
    gone e = gone_old home log t.request (begin_of t.walk) addr.0 (head_in t.seen) orderly request.low_floor comes (ends_below t.request.floor addr comes.comes.some e)

    known : (is_blind t.request.op ≡ true) ⊎ (is_chain_end t.request.floor addr ≡ true) → KnowsOld home log t.request (begin_of t.walk) absent_word
    known (inl blind) = blind_below home log t.request t.seen (begin_of t.walk) addr.0 absent_word orderly request comes.comes blind
    known (inr e) = gone e

    by_known : (b : Bool) → (is_blind t.request.op || is_chain_end t.request.floor addr) ≡ b → IsUpdate t.request → TryKnows home log (if b then copies p t (Known absent_word) false else held_used p t addr t.request.held)
    by_known true e update = copies_knows home log p t (Known absent_word) false request update (known (either (is_blind t.request.op) (is_chain_end t.request.floor addr) e))
    by_known false e update = held_knows home log p t addr t.request.held orderly request update comes request.held

    by_end : (b : Bool) → TryKnows home log (if b then ends p t answer.Absent else awaits p t addr)
    by_end true = ends_knows home log p t answer.Absent request free tt
    by_end false = ends_knows home log p t (answer.AwaitsDisk (record { entry = t.walk.entry; addr = addr })) request free comes

    by_read : (b : Bool) → is_read t.request.op ≡ b
        → TryKnows home log (if b then (if is_chain_end t.request.floor addr then ends p t answer.Absent else awaits p t addr) else if is_blind t.request.op || is_chain_end t.request.floor addr then copies p t (Known absent_word) false else held_used p t addr t.request.held)
    by_read true e = by_end (is_chain_end t.request.floor addr)
    by_read false e = by_known (is_blind t.request.op || is_chain_end t.request.floor addr) refl e

-- ---- no record of the key
nowhere_knows : (home : ℕ → ℕ) (log : Log) (p : Places) (t : TryState) → IsOrderly home log → RequestKnows home log t.request t.seen → IsFree t.request t.has_shared t.has_exclusive → FindsNone home log (key_in t.request) (begin_of t.walk)
    → TryKnows home log (met_nowhere p t)
nowhere_knows home log p t orderly request free finds = by_read (is_read t.request.op) refl
  where
    by_count : (b : Bool) → is_read t.request.op ≡ false → TryKnows home log (if b then record t { step = CountsTaken } else copies p t (Known absent_word) false)
    by_count true e = record { request = request; free = free; row = (e, none_old home log t.request (begin_of t.walk) orderly finds) }
    by_count false e = copies_knows home log p t (Known absent_word) false request e (none_old home log t.request (begin_of t.walk) orderly finds)

    by_read : (b : Bool) → is_read t.request.op ≡ b → TryKnows home log (if b then ends p t answer.Absent else if must_count p t then record t { step = CountsTaken } else copies p t (Known absent_word) false)
    by_read true e = ends_knows home log p t answer.Absent request free tt
    by_read false e = by_count (must_count p t) e

-- ---- a record in memory
-- the version with which it is found is that of the record there
its_own : {home : ℕ → ℕ} {log : Log} {key from at version own : ℕ} → IsFoundAt home log key from at version → version_at (log.cells at) ≡ own → version ≡ own
its_own found own = sym (ap version_at found.its ∙ found.its_version) ∙ own

changes_knows : (home : ℕ → ℕ) (log : Log) (t : TryState) (addr : Addr) (version : Version) → RequestKnows home log t.request t.seen → IsUpdate t.request → StandsAt home log t.request t.seen t.walk addr version
    → version_at (log.cells addr.0) ≡ t.request.version.0 → t.seen.offsets.read_only.0 ≤ addr.0 → (b : Bool) → is_blind t.request.op ≡ b → TryKnows home log (if b then record t { step = SwapsValue addr } else record t { walk = walk_on t.walk; step = LoadsCurrent addr })
changes_knows home log t addr version request update stands own mutable true e = record {
  request = request;
  free = update_free t.request t.has_shared t.has_exclusive update;
  row = (update, e, record { found = subst (IsFoundAt home log (key_in t.request) (begin_of t.walk) addr.0) (its_own (found_for home log t.request t.seen t.walk addr version stands) own) (found_for home log t.request t.seen t.walk addr version stands); mutable = mutable });
}
changes_knows home log t addr version request update stands own mutable false e = record {
  request = request;
  free = update_free t.request t.has_shared t.has_exclusive update;
  row = (
    update,
    loads_on home log t.walk addr version stands.at stands.knows,
    record { found = subst (IsFoundAt home log (key_in t.request) (begin_of (walk_on t.walk)) addr.0) (its_own (found_for home log t.request t.seen t.walk addr version stands) own) (found_on home log t.request t.seen t.walk addr version stands); mutable = mutable },
  );
}

-- where an update's session may change the record, and its header has the mark of the request's version, the record is of that version
abbrev Tells : Log → TryState → Addr → Version → Type 0
Tells log t addr said = IsUpdate t.request → t.seen.offsets.read_only.0 ≤ addr.0 → said.0 ≡ mark t.request.version.0 → version_at (log.cells addr.0) ≡ t.request.version.0

-- a record of another version than the request's is of an older one, as none is of a later
older_there : (home : ℕ → ℕ) (log : Log) (request : Request) (from at version : ℕ) → IsOrderly home log → NoneAbove log (home (key_in request)) request.version.0 → IsFoundAt home log (key_in request) from at version → version ≢ request.version.0
    → version_at (log.cells at) < request.version.0
older_there home log request from at version orderly newest found other =
    let is_in = subst (λ k. IsIn at (log.chains (home k))) found.its_key (orderly.chains.its_chain at found.cell found.its) in
    let most = newest at is_in in
    let its = ap version_at found.its ∙ found.its_version in
    less (version_at (log.cells at)) request.version.0 version its most other
  where
    less : (x v w : ℕ) → x ≡ w → x ≤ v → w ≢ v → x < v
    less x v w same most other = grind (arith, same, most, other)

region_knows : (home : ℕ → ℕ) (log : Log) (p : Places) (t : TryState) (addr : Addr) (version : Version) → IsOrderly home log → NoneAbove log (home (key_in t.request)) t.request.version.0 → Tells log t addr version → RequestKnows home log t.request t.seen → IsUpdate t.request
    → StandsAt home log t.request t.seen t.walk addr version
    → TryKnows home log (region_met p t addr version (if nat_lt addr.0 t.seen.offsets.head.0 then Some region.Disk else if nat_le t.seen.offsets.read_only.0 addr.0 then Some region.Mutable else None))
region_knows home log p t addr version orderly newest tells request update stands = by_head (nat_lt addr.0 t.seen.offsets.head.0) refl
  where
    found : IsFoundAt home log (key_in t.request) (begin_of t.walk) addr.0 stands.knows.version
    found = found_for home log t.request t.seen t.walk addr version stands

    by_version : (b : Bool) → (version.0 == mark t.request.version.0) ≡ b → t.seen.offsets.read_only.0 ≤ addr.0 → TryKnows home log (if b then changes t addr else copies p t InMemory false)
    by_version true e mutable = changes_knows home log t addr version request update stands (tells update mutable (eq_true version.0 (mark t.request.version.0) e)) mutable (is_blind t.request.op) refl
    by_version false e mutable = copies_knows home log p t InMemory false request update
        (record { addr = addr; version = version; stands = stands; still = inr (older_there home log t.request (begin_of t.walk) addr.0 stands.knows.version orderly newest found other) })
      where
        other : stands.knows.version ≢ t.request.version.0
        other same = eq_false version.0 (mark t.request.version.0) e (stands.knows.its_mark ∙ ap mark same)

    by_read_only : (b : Bool) → nat_le t.seen.offsets.read_only.0 addr.0 ≡ b → TryKnows home log (region_met p t addr version (if b then Some region.Mutable else None))
    by_read_only true e = by_version (version.0 == mark t.request.version.0) refl (le_true t.seen.offsets.read_only.0 addr.0 e)
    by_read_only false e = record { request = request; free = update_free t.request t.has_shared t.has_exclusive update; row = (update, stands) }

    by_head : (b : Bool) → nat_lt addr.0 t.seen.offsets.head.0 ≡ b
        → TryKnows home log (region_met p t addr version (if b then Some region.Disk else if nat_le t.seen.offsets.read_only.0 addr.0 then Some region.Mutable else None))
    by_head true e =
        let low = lt_true addr.0 t.seen.offsets.head.0 e in
        let high = stands.knows.in_memory in
        let same = ap (λ (a : Addr). a.0) stands.its.its_head in
        absurd (omega (arith, low, high, same))
    by_head false e = by_read_only (nat_le t.seen.offsets.read_only.0 addr.0) refl

record_knows : (home : ℕ → ℕ) (log : Log) (p : Places) (t : TryState) (addr : Addr) (version : Version) → IsOrderly home log → NoneIsLater home log t.request → Tells log t addr version → RequestKnows home log t.request t.seen
    → IsFree t.request t.has_shared t.has_exclusive → StandsAt home log t.request t.seen t.walk addr version → TryKnows home log (met_record p t addr version)
record_knows home log p t addr version orderly newest tells request free stands = by_read (is_read t.request.op) refl
  where
    by_read : (b : Bool) → is_read t.request.op ≡ b
        → TryKnows home log (if b then record t { walk = walk_on t.walk; step = LoadsAnswer } else region_met p t addr version (if nat_lt addr.0 t.seen.offsets.head.0 then Some region.Disk else if nat_le t.seen.offsets.read_only.0 addr.0 then Some region.Mutable else None))
    by_read true e = record { request = request; free = free; row = record { addr = addr; its = loads_found home log t.request t.seen t.walk addr version stands } }
    by_read false e = region_knows home log p t addr version orderly (newest e) tells request e stands

-- ---- where the walk has ended
walked_knows : (home : ℕ → ℕ) (log : Log) (p : Places) (t : TryState) (its : WalkAnswer) → IsOrderly home log → ((addr : Addr) (version : Version) → its ≡ walk.Found addr version → NoneIsLater home log t.request) → ((addr : Addr) (version : Version) → its ≡ walk.Found addr version → Tells log t addr version) → RequestKnows home log t.request t.seen → IsFree t.request t.has_shared t.has_exclusive
    → IsWalkFor t.request t.seen t.walk → WalkIsLive home log t.request t.walk → WalkTells home log t.walk its → TryKnows home log (walked p t its)
walked_knows home log p t (walk.Found addr version) orderly newest marks request free walks live tells = record_knows home log p t addr version orderly (newest addr version refl) (marks addr version refl) request free (record { its = walks; at = tells.0; knows = tells.1 })
walked_knows home log p t walk.Nowhere orderly newest marks request free walks live tells = nowhere_knows home log p t orderly request free (subst (λ (k : Key). FindsNone home log k.0 (begin_of t.walk)) walks.its_key tells)
walked_knows home log p t (walk.OnDisk addr) orderly newest marks request free walks live tells = disk_knows home log p t addr orderly request free
    (walk_comes home log orderly t.request t.walk addr.0 (head_in t.seen) live
    (subst (λ (a : Addr). ComesBelow home log (key_in t.request) (begin_of t.walk) addr.0 a.0) walks.its_head (subst (λ (k : Key). ComesBelow home log k.0 (begin_of t.walk) addr.0 t.walk.head.0) walks.its_key tells)))
walked_knows home log p t (walk.Value value) orderly newest marks request free walks live tells = ends_knows home log p t (answer.Wait reason.Contended) request free tt
walked_knows home log p t walk.Full orderly newest marks request free walks live tells = full_knows home log p t answer.IndexFull t.occasion request free tt
walked_knows home log p t walk.Kept orderly newest marks request free walks live tells = full_knows home log p t answer.IndexFull t.occasion request free tt
walked_knows home log p t walk.Contended orderly newest marks request free walks live tells = ends_knows home log p t (answer.Wait reason.Contended) request free tt

-- a walk that has ended at a record has passed the test where the try goes on
passed : (its : WalkAnswer) (shifts : Bool) (addr : Addr) (version : Version) → its ≡ walk.Found addr version → (has_walked its && shifts) ≡ false → shifts ≡ false
passed its shifts addr version is e = subst (λ (x : WalkAnswer). (has_walked x && shifts) ≡ false) is e

pub walk_led_knows : (home : ℕ → ℕ) (log : Log) (p : Places) (t : TryState) (ask : Ask WalkAnswer) → IsOrderly home log → ((addr : Addr) (version : Version) → ask ≡ Done (walk.Found addr version) → must_shift t ≡ false → NoneIsLater home log t.request) → ((addr : Addr) (version : Version) → ask ≡ Done (walk.Found addr version) → Tells log t addr version) → RequestKnows home log t.request t.seen → IsFree t.request t.has_shared t.has_exclusive
    → t.step ≡ Walks → IsWalkFor t.request t.seen t.walk → WalkKnows home log t.walk → WalkIsLive home log t.request t.walk → walk_ask p t.walk ≡ ask → TryKnows home log (walk_ledto p t ask)
unfolding walk_ledto
walk_led_knows home log p t (Done its) orderly newest marks request free at walks knows live asks = by_test (has_walked its && must_shift (record t { spare = t.walk.spare })) refl
  where
    by_test : (b : Bool) → (has_walked its && must_shift (record t { spare = t.walk.spare })) ≡ b → TryKnows home log (if b then ends p (record t { spare = t.walk.spare }) answer.Shift else walked p (record t { spare = t.walk.spare }) its)
    by_test true e = ends_knows home log p (record t { spare = t.walk.spare }) answer.Shift request free tt
    by_test false e = walked_knows home log p (record t { spare = t.walk.spare }) its orderly (λ addr version is. newest addr version (ap Done is) (passed its (must_shift t) addr version is e)) (λ addr version is. marks addr version (ap Done is)) request free walks live (walk_tells home log p t.walk its knows asks)
walk_led_knows home log p t ask orderly newest marks request free at walks knows live asks = record { request = request; free = free; row = subst (TryRow home log t) (sym at) (walks, knows, live) }

-- ---- the safe read-only offset
pub safe_knows : (home : ℕ → ℕ) (log : Log) (p : Places) (t : TryState) (addr : Addr) (version : Version) (safe : ℕ) → RequestKnows home log t.request t.seen → IsUpdate t.request → StandsAt home log t.request t.seen t.walk addr version → safe ≡ log.fixed
    → TryKnows home log (safe_loaded p t addr version safe)
safe_knows home log p t addr version safe request update stands is_fixed = by_test (nat_le safe addr.0) refl
  where
    by_test : (b : Bool) → nat_le safe addr.0 ≡ b → TryKnows home log (if b then ends p t (answer.Wait reason.Fuzzy) else copies p t InMemory (not (is_marked t.request.version) && version.0 == mark t.request.version.0))
    by_test true e = ends_knows home log p t (answer.Wait reason.Fuzzy) request (update_free t.request t.has_shared t.has_exclusive update) tt
    by_test false e = copies_knows home log p t InMemory (not (is_marked t.request.version) && version.0 == mark t.request.version.0) request update
        (record { addr = addr; version = version; stands = stands; still = inl (subst (λ n. addr.0 < n) is_fixed (le_false safe addr.0 e)) })
