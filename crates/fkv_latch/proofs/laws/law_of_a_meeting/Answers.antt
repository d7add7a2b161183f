-- The run, computed.
use Rattle.std.proofs.Common.{◌≡◌, ℕ, zero, suc, refl, arith}
use Rattle.std.specs.Prelude.{replicate}
use Rattle.std.proofs.lemmas.Nat.{and_mask}
use Rattle.fkv_plane.specs.declared.places.Places.{Places}
use Rattle.fkv_plane.specs.Asked.{word_at}
use Rattle.fkv_latch.specs.Latching.{latch_ask, latch_next, latch_next_ask}
use Rattle.fkv_latch.specs.LatchWorld.{latch_happens, latch_run}
use Rattle.fkv_latch.proofs.laws.law_of_a_meeting.Goals as goal

places : Places
places = record { sessions = 1; buckets = 1; overflow = 0; ring = 8; ring_mask = 7; few_sessions = omega arith; few_buckets = omega arith; few_overflow = omega arith; some_ring = omega arith; masks = λ a. and_mask a 3; small_ring = omega arith }

all_zero : (n place : ℕ) → word_at (replicate n 0) place ≡ 0
all_zero zero place = refl
all_zero (suc n) zero = refl
all_zero (suc n) (suc place) = all_zero n place

pub returns : goal.returns
unfolding places latch_ask latch_next latch_next_ask latch_happens latch_run
returns c = record {
  places = places;
  opened = record { enough_words = omega arith; free = λ place has. let none = all_zero 72 place in omega (arith, none) };
  met = record { gives_back = refl; holds = refl; both = refl };
  parted = record { shares = refl; has_dropped = refl; one = refl };
}
