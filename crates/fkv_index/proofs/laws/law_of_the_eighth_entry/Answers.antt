-- Event by event.
use Rattle.std.proofs.Common.{◌≤◌, refl, arith}
use Rattle.std.proofs.lemmas.Nat.{and_mask}
use Rattle.fkv_plane.specs.declared.places.Places.{Places}
use Rattle.fkv_plane.specs.Places.{frames_start}
use Rattle.fkv_index.specs.IndexWorld.{index_run, index_happens}
use Rattle.fkv_index.specs.Finding.{find_step_ask, find_led}
use Rattle.fkv_index.specs.Publishing.{publish_ask, publish_next}
use Rattle.fkv_index.specs.Slots.{slot_word}
use Rattle.fkv_index.specs.Entries.{slots_from, order_of, entry_in}
use Rattle.fkv_index.specs.EighthEntry.{HasLinked, empty_index, links_once}
use Rattle.fkv_index.proofs.Empty.{empty_is_index}
use Rattle.fkv_index.proofs.laws.law_of_the_eighth_entry.Goals as goal

places : Places
places = record { sessions = 2; buckets = 1; overflow = 2; ring = 8; ring_mask = 7; few_sessions = omega arith; few_buckets = omega arith; few_overflow = omega arith; some_ring = omega arith; masks = λ a. and_mask a 3; small_ring = omega arith }

linked : HasLinked (index_run (empty_index places 104 2) links_once)
unfolding places index_run index_happens find_step_ask find_led publish_ask publish_next slot_word slots_from order_of entry_in
linked = record { first = refl; eighth = refl; ninth = refl; list = refl; taken = refl; spare = refl }

pub returns-clause-empty : goal.returns-clause-empty
returns-clause-empty c = empty_is_index

few : frames_start places ≤ 104
unfolding places
few = omega arith

pub returns-clause-links : goal.returns-clause-links
returns-clause-links c = record { places = places; few = few; linked = linked }
