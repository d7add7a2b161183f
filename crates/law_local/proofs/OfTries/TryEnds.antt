-- How a try comes to its end, to its walk, and to a new record.
use Rattle.std.proofs.Common.{◌≡◌, ℕ, ◌≤◌, refl, inl, sym, subst, Bool, true, false}
use Rattle.std.specs.Prelude.{◌&&◌, not, if◌then◌else◌, Some}
use Rattle.fkv_base.specs.declared.numbers.Addr.{Addr}
use Rattle.fkv_base.specs.declared.numbers.Key.{Key}
use Rattle.fkv_base.specs.declared.numbers.Version.{Version}
use Rattle.fkv_map.specs.Map.{absent_word}
use Rattle.fkv_plane.specs.declared.places.Places.{Places}
use Rattle.fkv_latch.specs.declared.latching.LatchTask.TheVariants.{DropShared, DropExclusive, TakeExclusive}
use Rattle.fkv_index.specs.Slots.{entry_addr}
use Rattle.law_log.specs.Chains.{value_at, IsWithin}
use Rattle.law_log.specs.Ghosts.{Log}
use Rattle.law_log.specs.Enabled.{StandsStill}
use Rattle.fkv_ops.specs.declared.answers.Reason.TheVariants as reason
use Rattle.fkv_ops.specs.declared.answers.TryAnswer.{TryAnswer}
use Rattle.fkv_ops.specs.declared.answers.TryAnswer.TheVariants as answer
use Rattle.fkv_ops.specs.declared.requests.Occasion.{Occasion}
use Rattle.fkv_ops.specs.declared.requests.Occasion.TheVariants.{Call, Poll}
use Rattle.fkv_ops.specs.declared.requests.Request.{Request}
use Rattle.fkv_ops.specs.declared.requests.Seen.{Seen}
use Rattle.fkv_ops.specs.declared.trying.OldValue.{OldValue}
use Rattle.fkv_ops.specs.declared.trying.OldValue.TheVariants.{InMemory, Known}
use Rattle.fkv_ops.specs.declared.trying.Trying.TheVariants.{Ended, LoadsOld, TakesExclusive, LoadsTail, DropsExclusive, DropsShared}
use Rattle.fkv_ops.specs.Requests.{is_read, is_blind}
use Rattle.fkv_ops.specs.Walking.{WalkState, walk_on}
use Rattle.fkv_ops.specs.Trying.{TryState, is_wait, with_latch, ended_without, ends_so, ends_by, is_bounded, ends, full_at, walks, wants_exclusive, appends, copies_from, copies}
use Rattle.law_local.specs.Tries.OnWay.{IsFoundAt}
use Rattle.law_local.specs.Tries.WalkRows.{begin_of}
use Rattle.law_local.specs.Tries.TryRows.{key_in, first_of, RequestKnows, StandsAt, LoadsFound, CopiesStill, IsOldFor, OldKnows, AnswerKnows, IsUpdate, IsFree, TryKnows}
use Rattle.law_local.proofs.OfTries.Tests.{not_both}
use Rattle.law_local.proofs.OfTries.WalkRows.{loads_on, same_on}
use Rattle.law_local.proofs.OfTries.Made.{blind_old, made_so}
use Rattle.fkv_ops.specs.declared.answers.Waiting.{Waiting}
use Rattle.fkv_ops.specs.declared.answers.Waiting.TheVariants.{For, ForRecord}
use Rattle.fkv_ops.specs.Bounds.{bounds_at, has_bounds}
use Rattle.fkv_ops.specs.Waiting.{told_of}

-- ---- the end
-- what holds a latch is no read
holds_update : (read held : Bool) → (read ≡ true → held ≡ false) → held ≡ true → read ≡ false
holds_update true held free holds = not_both held holds (free refl)
holds_update false held free holds = refl

first_holds : (a b : Bool) → (a && b) ≡ true → a ≡ true
first_holds true b e = refl
first_holds false b e = cc

pub ended_knows : (home : ℕ → ℕ) (log : Log) (p : Places) (t : TryState) (its : TryAnswer) → RequestKnows home log t.request t.seen → IsFree t.request t.has_shared t.has_exclusive → AnswerKnows home log t.request t.seen its → TryKnows home log (ended_without p t its)
ended_knows home log p t its request free knows = by_test (t.has_shared && not (is_wait its)) refl
  where
    by_test : (b : Bool) → (t.has_shared && not (is_wait its)) ≡ b → TryKnows home log (if b then with_latch p (record t { has_shared = false }) DropShared (DropsShared its) else record t { step = Ended its })
    by_test true e = record {
      request = request;
      free = λ read. (refl, (free read).1);
      row = (holds_update (is_read t.request.op) t.has_shared (λ read. (free read).0) (first_holds t.has_shared (not (is_wait its)) e), knows);
    }
    by_test false e = record { request = request; free = free; row = knows }

pub ends_so_knows : (home : ℕ → ℕ) (log : Log) (p : Places) (t : TryState) (its : TryAnswer) → RequestKnows home log t.request t.seen → IsFree t.request t.has_shared t.has_exclusive → AnswerKnows home log t.request t.seen its → TryKnows home log (ends_so p t its)
unfolding ends_so
ends_so_knows home log p t its request free knows = by_test t.has_exclusive refl
  where
    by_test : (b : Bool) → t.has_exclusive ≡ b → TryKnows home log (if b then with_latch p (record t { has_exclusive = false }) DropExclusive (DropsExclusive its) else ended_without p t its)
    by_test true e = record { request = request; free = λ read. ((free read).0, refl); row = (holds_update (is_read t.request.op) t.has_exclusive (λ read. (free read).1) e, knows) }
    by_test false e = ended_knows home log p t its request free knows

-- what looks for room is an update
bounded_update : (b read : Bool) → (b && not read) ≡ true → read ≡ false
bounded_update b false e = refl
bounded_update true true e = cc
bounded_update false true e = cc

waits_knows : (home : ℕ → ℕ) (log : Log) (p : Places) (t : TryState) (its : TryAnswer) (waiting : Waiting) → RequestKnows home log t.request t.seen → IsFree t.request t.has_shared t.has_exclusive → AnswerKnows home log t.request t.seen its → AnswerKnows home log t.request t.seen (told_of waiting)
    → TryKnows home log (ends_by p t its (Some waiting))
waits_knows home log p t its waiting request free knows told = by_test (is_bounded t) refl
  where
    by_test : (b : Bool) → is_bounded t ≡ b → TryKnows home log (if b then record t { step = LoadsTail waiting } else ends_so p t its)
    by_test true e = record { request = request; free = free; row = (bounded_update (has_bounds (bounds_at t.occasion)) (is_read t.request.op) e, told) }
    by_test false e = ends_so_knows home log p t its request free knows

pub ends_knows : (home : ℕ → ℕ) (log : Log) (p : Places) (t : TryState) (its : TryAnswer) → RequestKnows home log t.request t.seen → IsFree t.request t.has_shared t.has_exclusive → AnswerKnows home log t.request t.seen its → TryKnows home log (ends p t its)
unfolding ends
ends_knows home log p t (answer.Wait it) request free knows = waits_knows home log p t (answer.Wait it) (For it) request free knows tt
ends_knows home log p t (answer.AwaitsDisk it) request free knows = waits_knows home log p t (answer.AwaitsDisk it) (ForRecord it) request free knows knows
ends_knows home log p t its request free knows = ends_so_knows home log p t its request free knows

pub full_knows : (home : ℕ → ℕ) (log : Log) (p : Places) (t : TryState) (refused : TryAnswer) (occasion : Occasion) → RequestKnows home log t.request t.seen → IsFree t.request t.has_shared t.has_exclusive → AnswerKnows home log t.request t.seen refused
    → TryKnows home log (ends p t (full_at occasion refused))
full_knows home log p t refused (Call bounds) request free knows = ends_knows home log p t refused request free knows
full_knows home log p t refused Poll request free knows = ends_knows home log p t (answer.Wait reason.Full) request free tt

-- ---- the walk
pub walks_knows : (home : ℕ → ℕ) (log : Log) (p : Places) (t : TryState) → RequestKnows home log t.request t.seen → IsFree t.request t.has_shared t.has_exclusive → TryKnows home log (walks p t)
walks_knows home log p t request free = record { request = request; free = free; row = (record { its_key = refl; its_head = refl }, refl, inl refl) }

-- ---- a new record
pub update_free : (request : Request) (has_shared has_exclusive : Bool) → IsUpdate request → IsFree request has_shared has_exclusive
update_free request has_shared has_exclusive update = λ read. not_both (is_read request.op) read update

pub appends_knows : (home : ℕ → ℕ) (log : Log) (t : TryState) (old : ℕ) → RequestKnows home log t.request t.seen → IsUpdate t.request → IsWithin (begin_of t.walk) (log.chains (home (key_in t.request)))
    → StandsStill log (first_of home log t.request (begin_of t.walk)) t.request.version.0 → IsOldFor t.request.op old (value_at (log.cells (first_of home log t.request (begin_of t.walk)))) → TryKnows home log (appends t old)
unfolding appends
appends_knows home log t old request update begins still its_old = record {
  request = request;
  free = update_free t.request t.has_shared t.has_exclusive update;
  row = (update, (refl, made_so home log t.request t.walk.entry old request.plain begins still its_old));
}

-- the record that the walk stands at is the request's first one
pub found_for : (home : ℕ → ℕ) (log : Log) (request : Request) (seen : Seen) (w : WalkState) (addr : Addr) (version : Version) → (stands : StandsAt home log request seen w addr version) → IsFoundAt home log (key_in request) (begin_of w) addr.0 (let its = stands.knows in its.version)
found_for home log request seen w addr version stands = subst (λ (k : Key). IsFoundAt home log k.0 (begin_of w) addr.0 stands.knows.version) stands.its.its_key stands.knows.found

-- and so it is where the walk goes on to the value
pub found_on : (home : ℕ → ℕ) (log : Log) (request : Request) (seen : Seen) (w : WalkState) (addr : Addr) (version : Version) → (stands : StandsAt home log request seen w addr version) → IsFoundAt home log (key_in request) (begin_of (walk_on w)) addr.0 (let its = stands.knows in its.version)
found_on home log request seen w addr version stands = subst (λ n. IsFoundAt home log (key_in request) (entry_addr n) addr.0 stands.knows.version) (sym (same_on w)) (found_for home log request seen w addr version stands)

pub loads_found : (home : ℕ → ℕ) (log : Log) (request : Request) (seen : Seen) (w : WalkState) (addr : Addr) (version : Version) → StandsAt home log request seen w addr version → LoadsFound home log request seen (walk_on w) addr
loads_found home log request seen w addr version stands = record {
  version = stands.knows.version;
  found = found_on home log request seen w addr version stands;
  in_memory = subst (λ (a : Addr). a.0 ≤ addr.0) stands.its.its_head stands.knows.in_memory;
  loads = loads_on home log w addr version stands.at stands.knows;
}

copies_memory_knows : (home : ℕ → ℕ) (log : Log) (t : TryState) → RequestKnows home log t.request t.seen → IsUpdate t.request → CopiesStill home log t.request t.seen t.walk → TryKnows home log (copies_from t InMemory)
unfolding copies_from
copies_memory_knows home log t request update copy = by_blind (is_blind t.request.op) refl
  where
    found : IsFoundAt home log (key_in t.request) (begin_of t.walk) copy.addr.0 copy.stands.knows.version
    found = found_for home log t.request t.seen t.walk copy.addr copy.version copy.stands

    by_blind : (b : Bool) → is_blind t.request.op ≡ b → TryKnows home log (if b then appends t absent_word else record t { walk = walk_on t.walk; step = LoadsOld })
    by_blind true e = appends_knows home log t absent_word request update found.begins (subst (λ a. StandsStill log a t.request.version.0) (sym found.first) copy.still)
        (blind_old t.request.op absent_word (value_at (log.cells (first_of home log t.request (begin_of t.walk)))) e)
    by_blind false e = record {
      request = request;
      free = update_free t.request t.has_shared t.has_exclusive update;
      row = (update, record { addr = copy.addr; its = loads_found home log t.request t.seen t.walk copy.addr copy.version copy.stands; still = copy.still });
    }

pub copies_from_knows : (home : ℕ → ℕ) (log : Log) (t : TryState) (old : OldValue) → RequestKnows home log t.request t.seen → IsUpdate t.request → OldKnows home log t.request t.seen t.walk old → TryKnows home log (copies_from t old)
unfolding copies_from
copies_from_knows home log t (Known word) request update knows = appends_knows home log t word request update knows.begins (inl knows.fixed) knows.its_old
copies_from_knows home log t InMemory request update knows = copies_memory_knows home log t request update knows

pub copies_knows : (home : ℕ → ℕ) (log : Log) (p : Places) (t : TryState) (old : OldValue) (is_current : Bool) → RequestKnows home log t.request t.seen → IsUpdate t.request → OldKnows home log t.request t.seen t.walk old → TryKnows home log (copies p t old is_current)
unfolding copies
copies_knows home log p t old is_current request update knows = by_test (wants_exclusive t is_current)
  where
    by_test : (b : Bool) → TryKnows home log (if b then with_latch p t TakeExclusive (TakesExclusive old) else copies_from t old)
    by_test true = record { request = request; free = update_free t.request t.has_shared t.has_exclusive update; row = (update, knows) }
    by_test false = copies_from_knows home log t old request update knows
