-- Event by event.
use Rattle.std.proofs.Common.{◌≤◌, refl, arith}
use Rattle.std.proofs.lemmas.Nat.{and_mask}
use Rattle.fkv_plane.specs.declared.places.Places.{Places}
use Rattle.fkv_plane.specs.Places.{frames_start}
use Rattle.fkv_index.specs.IndexWorld.{index_happens}
use Rattle.fkv_index.specs.Finding.{find_step_ask, find_led}
use Rattle.fkv_index.specs.Publishing.{publish_ask, publish_next}
use Rattle.fkv_index.specs.Slots.{slot_word}
use Rattle.fkv_index.specs.Entries.{slots_from, order_of, entry_in}
use Rattle.fkv_index.specs.EighthEntry.{empty_index}
use Rattle.fkv_checkpoint.specs.Copying.{copy_step_ask, copy_step_next, slot_copied, copied_at}
use Rattle.fkv_checkpoint.specs.CopyWorld.{copy_begun_at, copy_happens, copy_run}
use Rattle.fkv_checkpoint.specs.FuzzyRun.{HasThree, events}
use Rattle.fkv_checkpoint.proofs.laws.law_of_a_fuzzy_copy.Goals as goal

places : Places
places = record { sessions = 2; buckets = 1; overflow = 2; ring = 8; ring_mask = 7; few_sessions = omega arith; few_buckets = omega arith; few_overflow = omega arith; some_ring = omega arith; masks = λ a. and_mask a 3; small_ring = omega arith }

three : HasThree (copy_run (copy_begun_at (empty_index places 104 2)) events)
unfolding places index_happens find_step_ask find_led publish_ask publish_next slot_word slots_from order_of entry_in copy_step_ask copy_step_next slot_copied copied_at copy_happens copy_run
three = record { ended = refl; three = refl; newer = refl }

few : frames_start places ≤ 104
unfolding places
few = omega arith

pub returns : goal.returns
returns c = record { places = places; few = few; its_run = three }
