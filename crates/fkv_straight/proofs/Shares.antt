-- How an update in prepare shares the latch of its bucket, and drops its share behind its effect.
use Rattle.std.proofs.Common.{◌≡◌, ℕ, ◌-◌, ◌^◌, ◌<◌, refl, ◌∙◌, arith, true, false}
use Rattle.std.proofs.lemmas.Bool.Decides.{nat_tests}
use Rattle.std.specs.Prelude.{◌≤◌}
use Rattle.fkv_map.specs.declared.operations.Call.{Call}
use Rattle.fkv_map.specs.declared.operations.Reply.{Reply}
use Rattle.fkv_plane.specs.declared.asks.Ask.TheVariants.{Add}
use Rattle.fkv_plane.specs.Passing.{passed}
use Rattle.fkv_latch.specs.Latching.{is_exclusive, latch_ask, latch_next, latch_next_ask}
use Rattle.fkv_index.specs.Finding.{spare_of, find_step_ask}
use Rattle.fkv_ops.specs.declared.answers.TryAnswer.TheVariants as tried
use Rattle.fkv_ops.specs.declared.trying.Trying.{Trying}
use Rattle.fkv_ops.specs.declared.trying.Trying.TheVariants.{Ended}
use Rattle.fkv_ops.specs.Appending.{append_rested}
use Rattle.fkv_ops.specs.Requests.{is_read}
use Rattle.fkv_ops.specs.Trying.{TryState, trying_ask, try_ask, trying_next, is_next_marked, shared_ledto, shared_dropped, ends, ends_so, takes_effect}
use Rattle.fkv_ops.specs.Walking.{WalkState, walking_ask}
use Rattle.fkv_session.specs.Sessions.{SessionState, is_word_ask}
use Rattle.fkv_straight.specs.Course.{Course, IsSettled, request_in, shares}
use Rattle.fkv_straight.specs.Met.{Begins, HasChanged, IsAtFirst, IsAtSlot, entering, latch_in, sharing, trying}
use Rattle.fkv_straight.specs.Standing.{asked, begins, leads, Tries, next_try, IsDone}
use Rattle.fkv_straight.proofs.Goings.{spare_same}
use Rattle.fkv_straight.proofs.Moves.{asks_add, asks_behind, led_behind, ends_done, steps}

-- ---- it takes a share
begun_sharing : (c : Course) (its : Call) (s : SessionState) → Begins c its s → shares c ≡ true → Tries c (sharing c) (begins c.seat s its)
unfolding Tries
begun_sharing c its s at shared = (0, at ∙ rw shared refl)

pub share_asks : (c : Course) (its : Call) (s : SessionState) → Begins c its s → shares c ≡ true → asked c.seat (begins c.seat s its) ≡ Add (latch_in c) (2 ^ 48)
unfolding trying_ask latch_ask passed
share_asks c its s at shared = asks_add c (sharing c) (latch_in c) (2 ^ 48) (begins c.seat s its) (begun_sharing c its s at shared) refl

enters : (c : Course) (word : ℕ) → shares c ≡ true → is_next_marked (request_in c).version ≡ false → is_exclusive word ≡ false → spare_of c.seat.places c.lasts.spare ≡ c.lasts.spare → next_try c (sharing c) word ≡ entering c
unfolding trying_next shared_ledto latch_next latch_next_ask
enters c word shared unmarked free spare = rw (free, spare, shared, unmarked) refl

pub share_comes : (c : Course) (its : Call) (word : ℕ) (s u : SessionState) → Begins c its s → shares c ≡ true → is_next_marked (request_in c).version ≡ false → c.lasts.spare ≤ c.seat.places.overflow → u ≡ leads c.seat (begins c.seat s its) word → word < 2 ^ 63 → IsAtFirst c u
unfolding IsAtSlot trying_ask walking_ask find_step_ask passed
share_comes c its word s u at shared unmarked fits e few =
    steps c (sharing c) (entering c) word (begins c.seat s its) u (begun_sharing c its s at shared) e
    (enters c word shared unmarked (grind (arith, nat_tests, few)) (spare_same c.seat.places c.lasts.spare fits)) refl refl

-- ---- it drops its share
abbrev changed : Course → WalkState → Trying → Reply → TryState
changed c w step its = takes_effect c.seat.places (trying c w append_rested step) its

drops : (c : Course) (w : WalkState) (step : Trying) (its : Reply) → shares c ≡ true → try_ask c.seat.places (changed c w step its) ≡ Add (latch_in c) (2 ^ 64 - 2 ^ 48)
unfolding ends ends_so trying_ask latch_ask passed
drops c w step its shared = rw shared refl

dropped : (c : Course) (w : WalkState) (step : Trying) (its : Reply) (word : ℕ) → shares c ≡ true → (next_try c (changed c w step its) word).step ≡ Ended (tried.Done its)
unfolding ends ends_so trying_next shared_dropped latch_next latch_next_ask
dropped c w step its word shared = rw shared refl

dropped_spare : (c : Course) (w : WalkState) (step : Trying) (its : Reply) (word : ℕ) → shares c ≡ true → (next_try c (changed c w step its) word).spare ≡ c.lasts.spare
unfolding ends ends_so trying_next shared_dropped latch_next latch_next_ask
dropped_spare c w step its word shared = rw shared refl

pub drop_asks : (c : Course) (its : Reply) (s : SessionState) → shares c ≡ true → HasChanged c its s → asked c.seat s ≡ Add (latch_in c) (2 ^ 64 - 2 ^ 48)
unfolding HasChanged
drop_asks c its s shared at = asks_behind c (changed c at.0 at.1 its) (latch_in c) (2 ^ 64 - 2 ^ 48) s at.2 (drops c at.0 at.1 its shared)

asks_word : (c : Course) (w : WalkState) (step : Trying) (its : Reply) → shares c ≡ true → is_word_ask (try_ask c.seat.places (changed c w step its)) ≡ true
asks_word c w step its shared = let e = drops c w step its shared in rw e refl

pub drop_ends : (c : Course) (its : Reply) (word : ℕ) (s u : SessionState) → IsSettled c → shares c ≡ true → is_read c.op ≡ false → HasChanged c its s → u ≡ leads c.seat s word → IsDone c its u
unfolding HasChanged
drop_ends c its word s u settled shared updates at e =
    ends_done c (next_try c (changed c at.0 at.1 its) word) its u settled (led_behind c (changed c at.0 at.1 its) word s u at.2 (asks_word c at.0 at.1 its shared) e) (dropped c at.0 at.1 its word shared) (dropped_spare c at.0 at.1 its word shared) updates
