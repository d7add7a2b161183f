-- What a try knows as it begins.
use Rattle.std.proofs.Common.{◌≡◌, ℕ, refl, Bool, true, false}
use Rattle.std.specs.Prelude.{◌&&◌, not, if◌then◌else◌}
use Rattle.fkv_plane.specs.declared.places.Places.{Places}
use Rattle.fkv_latch.specs.declared.latching.LatchTask.TheVariants.{TakeShared}
use Rattle.law_log.specs.Ghosts.{Log}
use Rattle.fkv_ops.specs.declared.requests.Occasion.{Occasion}
use Rattle.fkv_ops.specs.declared.requests.Request.{Request}
use Rattle.fkv_ops.specs.declared.requests.Seen.{Seen}
use Rattle.fkv_ops.specs.declared.trying.Trying.TheVariants.{TakesShared}
use Rattle.fkv_ops.specs.Requests.{is_read}
use Rattle.fkv_ops.specs.Trying.{TryState, with_latch, walks, is_prepare, wants_shared, try_begun, new_try}
use Rattle.law_local.specs.Tries.TryRows.{RequestKnows, IsFree, TryKnows}
use Rattle.law_local.proofs.OfTries.TryEnds.{walks_knows}

update_wants : (a b c : Bool) → (a && not b && not c) ≡ true → b ≡ false
update_wants true true c e = cc
update_wants true false c e = refl
update_wants false b c e = cc

begun_knows : (home : ℕ → ℕ) (log : Log) (p : Places) (t : TryState) → RequestKnows home log t.request t.seen → IsFree t.request t.has_shared t.has_exclusive → TryKnows home log (if wants_shared t then with_latch p t TakeShared TakesShared else walks p t)
begun_knows home log p t request free = by_test (wants_shared t) refl
  where
    by_test : (b : Bool) → wants_shared t ≡ b → TryKnows home log (if b then with_latch p t TakeShared TakesShared else walks p t)
    by_test true e = record { request = request; free = free; row = update_wants (is_prepare t.seen.phase) (is_read t.request.op) t.has_shared e }
    by_test false e = walks_knows home log p t request free

-- a request of a read has no latch
pub try_begins : (home : ℕ → ℕ) (log : Log) (p : Places) (bits : ℕ) (request : Request) (seen : Seen) (occasion : Occasion) (spare : ℕ) → RequestKnows home log request seen → (is_read request.op ≡ true → request.has_latch ≡ false)
    → TryKnows home log (try_begun p bits request seen occasion spare)
try_begins home log p bits request seen occasion spare knows unlatched =
    begun_knows home log p (new_try bits request seen occasion spare) knows (λ read. (unlatched read, refl))
