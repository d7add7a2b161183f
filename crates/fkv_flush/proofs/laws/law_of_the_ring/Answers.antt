use Rattle.std.proofs.Common.{◌≡◌, ℕ, zero, suc, ◌<◌, refl, arith, false}
use Rattle.std.proofs.lemmas.Nat.{and_mask}
use Rattle.fkv_base.specs.Limits.{drain_slots}
use Rattle.fkv_base.specs.declared.classes.StoreClass.TheVariants.{Specified}
use Rattle.fkv_base.specs.declared.shapes.Shape.{Shape}
use Rattle.fkv_plane.specs.declared.places.Places.{Places}
use Rattle.fkv_log.specs.declared.record_words.RecordWords.{RecordWords}
use Rattle.fkv_log.specs.Reserving.{reserve_ask, reserve_next, reserve_next_ask}
use Rattle.fkv_log.specs.Filling.{fill_ask, fill_next}
use Rattle.fkv_log.specs.Invalidating.{invalidate_ask, invalidate_next}
use Rattle.fkv_epoch.specs.Protecting.{protect_ask, protect_next}
use Rattle.fkv_epoch.specs.Refreshing.{refresh_ask, refresh_next, refresh_finish}
use Rattle.fkv_epoch.specs.Leaving.{leave_ask, leave_next}
use Rattle.fkv_epoch.specs.Scanning.{scan_ask, scan_next, sessions_from, least_of}
use Rattle.fkv_epoch.specs.Claiming.{claim_ask, claim_next, claim_given, slot_after, slot_armed}
use Rattle.fkv_epoch.specs.Raising.{raise_ask, raise_next, raise_next_ask, raise_on, free_after}
use Rattle.fkv_epoch.specs.Arming.{arm_ask, arm_next}
use Rattle.fkv_epoch.specs.EpochWorld.{own_epoch, drain_word}
use Rattle.fkv_plane.specs.Passing.{passed}
use Rattle.fkv_log.specs.Moving.{moving_ask, moving_next, moving_next_ask, raise_led, raise_told, arm_led}
use Rattle.fkv_log.specs.Shifting.{shifting_ask, shifting_next, shift_led}
use Rattle.fkv_log.specs.Turning.{turning_ask, turning_next, turn_led}
use Rattle.fkv_flush.specs.Flushing.{flush_ask, flush_next, flush_done, flush_calls, bytes_next, bytes_done}
use Rattle.fkv_flush.specs.Serving.{serve_ask, serve_next, serve_read, mailbox_from}
use Rattle.fkv_flush.specs.GuardWorld.{guard_happens, guard_run}
use Rattle.fkv_flush.specs.GuardFlushed.{stands, calls_made}
use Rattle.fkv_flush.specs.GuardTurned.{turned_words}
use Rattle.fkv_flush.proofs.laws.law_of_the_ring.Goals as goal

free_slot : (slot : ℕ) → slot < drain_slots → drain_word turned_words slot ≡ 0
free_slot zero few = refl
free_slot (suc zero) few = refl
free_slot (suc (suc zero)) few = refl
free_slot (suc (suc (suc zero))) few = refl
free_slot (suc (suc (suc (suc zero)))) few = refl
free_slot (suc (suc (suc (suc (suc zero))))) few = refl
free_slot (suc (suc (suc (suc (suc (suc zero)))))) few = refl
free_slot (suc (suc (suc (suc (suc (suc (suc zero))))))) few = refl
free_slot (suc (suc (suc (suc (suc (suc (suc (suc s)))))))) few = absurd (omega (arith, few))

awake : (session : ℕ) → session < 1 → own_epoch turned_words session ≡ 1
awake zero h = refl
awake (suc s) h = absurd (omega (arith, h))

shape : Shape
unfolding lib.Count.ones
shape = record { class = Specified; bucket_bits = 0; page = 4; frames = 2; mutable = 1; sessions = 1; overflow = 0; disk_pages = 64; limits = record { few_buckets = omega arith; page_size = refl; ring_size = refl; some_mutable = omega arith; some_read_only = omega arith; some_session = omega arith; few_sessions = omega arith; few_overflow = omega arith; some_disk = omega arith; few_disk = omega arith }; of_its_class = λ _. record { small_buckets = omega arith; small_pages = omega arith; small_ring = omega arith; small_chains = omega arith; small_disk = omega arith } }

places : Places
places = record { sessions = 1; buckets = 1; overflow = 0; ring = 8; ring_mask = 7; few_sessions = omega arith; few_buckets = omega arith; few_overflow = omega arith; some_ring = omega arith; masks = λ a. and_mask a 3; small_ring = omega arith }

its_words : RecordWords
its_words = record { header = record { previous = record { 0 = 0 }; version = record { 0 = 1 }; invalid = false; previous_fits = omega arith; some_version = omega arith; version_fits = omega arith }; key = record { 0 = 3 }; value = 70 }

pub returns : goal.returns
unfolding shape places its_words protect_ask protect_next refresh_ask refresh_next refresh_finish leave_ask leave_next scan_ask scan_next sessions_from least_of claim_ask claim_next claim_given slot_after slot_armed raise_ask raise_next raise_next_ask raise_on free_after arm_ask arm_next reserve_ask reserve_next reserve_next_ask fill_ask fill_next invalidate_ask invalidate_next passed moving_ask moving_next moving_next_ask raise_led raise_told arm_led shifting_ask shifting_next shift_led turning_ask turning_next turn_led flush_ask flush_next flush_done bytes_next bytes_done serve_ask serve_next serve_read mailbox_from guard_happens guard_run flush_calls stands calls_made
returns c = record {
  shape = shape;
  places = places;
  its_words = its_words;
  value = refl;
  opened = record {
    fits = record { sessions = refl; ring = refl };
    enough_words = omega arith;
    epochs = record { few_sessions = omega arith; with_others = omega arith; few_actors = omega arith; enough_words = omega arith; first_epoch = refl; nothing_safe = refl; awake = awake; slots_free = free_slot };
    closed = omega arith;
    head = refl;
    flushed = refl;
    safe_read_only = refl;
    read_only = refl;
    tail = refl;
    limit = refl;
    tail_below = omega arith;
    limit_below = omega arith;
  };
  turned = record { written = refl; flushed = refl; closed = refl; limit = refl };
  flushed = record { header = refl; key = refl; value = refl; calls = refl };
  one_flushes = search;
  permitted = search;
}
