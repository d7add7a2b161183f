-- What stands where after the five writes of a renewed store, and what a crash leaves between them.
use Rattle.std.proofs.Common.{◌≡◌, ◌≢◌, ◌⊎◌, inl, inr, ⊎_elim, ℕ, Bool, true, false, zero, suc, ◌+◌, ◌-◌, ◌*◌, ◌<◌, ◌≤◌, max, List, [], ◌∷◌, length, drop, Some, refl, sym, ◌∙◌, ap, arith}
use Rattle.std.specs.Prelude.{replicate, slice_get, if◌then◌else◌}
use Rattle.std.specs.List.{flat_map}
use Rattle.std.proofs.lemmas.Bool.{cases_eq}
use Rattle.std.proofs.lemmas.Bool.Decides.{nat_tests}
use Rattle.std.proofs.lemmas.List.{get_or-drop, length-drop, length-replicate}
use Rattle.std.proofs.lemmas.Option.{slice_get_within}
use Rattle.fkv_disk.specs.Bytes.{byte_at, bytes_at, covers, written, range_end}
use Rattle.fkv_disk.specs.Device.{Torn}
use Rattle.fkv_disk.proofs.Shown.{length-written, is_listed, in_range, before_range, after_range, range_end_is, byte_at-written_in, byte_at-written_out, byte_at-bytes_at}
use Rattle.fkv_manifest.specs.Tearing.{IsTornInOrder}
use Rattle.fkv_record.specs.declared.records.Record.{Record}
use Rattle.fkv_record.specs.Layout.{record_bytes}
use Rattle.fkv_renewing.specs.Images.{filled, IsCleared, IsShutOrFilled}
use Rattle.fkv_renewing.proofs.Logged.{long_log, long_record, log_byte}

pub zeros_at : (n i : ℕ) → byte_at (replicate n 0) i ≡ 0
zeros_at zero i = refl
zeros_at (suc n) zero = refl
zeros_at (suc n) (suc i) = zeros_at n i

bytes_are : (image : List ℕ) (at n : ℕ) (bytes : List ℕ) → length bytes ≡ n → ((k : ℕ) → k < n → byte_at image (at + k) ≡ byte_at bytes k) → bytes_at image at n ≡ bytes
bytes_are image at n bytes size each = sym (is_listed bytes n (λ k. byte_at image (at + k)) size (λ k below. sym (each k below)))

-- the byte of a slot at each place of it: the gate, seven zeros, and the body
pub record IsSlot (slot : List ℕ) : Type 0 where
  pub whole : length slot ≡ 512
  pub gate : byte_at slot 0 ≡ 165
  pub gap : (i : ℕ) → 1 ≤ i → i < 8 → byte_at slot i ≡ 0

zeros : List ℕ
zeros = replicate 1536 0

many_zeros : length zeros ≡ 1536
unfolding zeros
many_zeros = length-replicate {A = ℕ} 1536 0

zero_in : (k : ℕ) → byte_at zeros k ≡ 0
unfolding zeros
zero_in k = zeros_at 1536 k

front_end : range_end 0 (length zeros) ≡ 1536
front_end = ap (range_end 0) many_zeros ∙ range_end_is 0 1536 (omega arith)

cleared_of : (old : List ℕ) → IsCleared (written old 0 zeros)
cleared_of old = record {
  long = omega (arith, length-written old 0 zeros, front_end);
  zeros = λ i below. byte_at-written_in old 0 zeros i (in_range 0 (length zeros) i (omega arith) (omega (arith, many_zeros, below))) ∙ zero_in (i - 0);
}

pub cleared_by : (old : List ℕ) → IsCleared (written old 0 (replicate 1536 0))
unfolding zeros
cleared_by old = cleared_of old

-- where the bytes of a log stand, its records do
pub stored_in : (image : List ℕ) (place : ℕ) (log : List ℕ) (records : List Record) → ((k : ℕ) → k < length log → byte_at image (place + k) ≡ byte_at log k) → log ≡ flat_map record_bytes records → (i : ℕ) (x : Record) → slice_get records i ≡ Some x
    → record_bytes x ≡ bytes_at image (place + 24 * i) 24
stored_in image place log records there are i x is =
    let inside = slice_get_within records i x is in
    let low : (k : ℕ) → k < 24 → 24 * i + k < length log = λ k below. omega (arith, below, inside, long_log records, ap length are) in
    sym (bytes_are image (place + 24 * i) 24 (record_bytes x) (long_record x) (λ k below.
    ap (λ (n : ℕ). byte_at image n) (let e : (place + 24 * i) + k ≡ place + (24 * i + k) = omega arith in e)
    ∙ there (24 * i + k) (low k below)
    ∙ ap (λ (s : List ℕ). byte_at s (24 * i + k)) are
    ∙ log_byte records i k x is below))

-- a write of a log puts it there
pub log_written : (old : List ℕ) (place : ℕ) (log : List ℕ) (k : ℕ) → k < length log → byte_at (written old place log) (place + k) ≡ byte_at log k
log_written old place log k below =
    byte_at-written_in old place log (place + k) (in_range place (length log) (place + k) (omega arith) (omega (arith, below)))
    ∙ ap (λ (n : ℕ). byte_at log n) (let e : (place + k) - place ≡ k = omega arith in e)

-- ---- what stands where
-- a slot put behind its gate: its body is written, and then the gate
module _ (old slot : List ℕ) (place : ℕ) (its_slot : IsSlot slot) (clear : (i : ℕ) → 1 ≤ i → i < 8 → byte_at old (place + i) ≡ 0) where
  laid : List ℕ
  laid = written old (place + 8) (drop 8 slot)

  gated : List ℕ
  gated = written laid place (165 ∷ [])

  many_body : length (drop 8 slot) ≡ 504
  many_body = omega (arith, length-drop 8 slot, its_slot.whole)

  -- all else is as it was
  gated_out : (i : ℕ) → (i < place) ⊎ (place + 512 ≤ i) → byte_at gated i ≡ byte_at old i
  unfolding gated laid
  gated_out i (inl below) = byte_at-written_out laid place (165 ∷ []) i (before_range place 1 i below) ∙ byte_at-written_out old (place + 8) (drop 8 slot) i (before_range (place + 8) (length (drop 8 slot)) i (omega (arith, below)))
  gated_out i (inr above) =
      byte_at-written_out laid place (165 ∷ []) i (after_range place 1 i (omega (arith, above)))
      ∙ byte_at-written_out old (place + 8) (drop 8 slot) i (after_range (place + 8) (length (drop 8 slot)) i (omega (arith, many_body, above)))

  behind_gate : (i : ℕ) → 1 ≤ i → byte_at gated (place + i) ≡ byte_at laid (place + i)
  unfolding gated
  behind_gate i some = byte_at-written_out laid place (165 ∷ []) (place + i) (after_range place 1 (place + i) (omega (arith, some)))

  -- and the slot stands there
  gated_in : (k : ℕ) → k < 512 → byte_at gated (place + k) ≡ byte_at slot k
  unfolding gated laid
  gated_in zero below = byte_at-written_in laid place (165 ∷ []) (place + 0) (in_range place 1 (place + 0) (omega arith) (omega arith)) ∙ ap (λ (n : ℕ). byte_at (165 ∷ []) n) (let e : (place + 0) - place ≡ 0 = omega arith in e) ∙ sym its_slot.gate
  gated_in (suc k) below = behind_gate (suc k) (omega arith) ∙ by_eight (let e : (suc k < 8) ⊎ (8 ≤ suc k) = grind arith in e)
    where
      by_eight : (suc k < 8) ⊎ (8 ≤ suc k) → byte_at laid (place + suc k) ≡ byte_at slot (suc k)
      by_eight (inl few) =
          byte_at-written_out old (place + 8) (drop 8 slot) (place + suc k) (before_range (place + 8) (length (drop 8 slot)) (place + suc k) (omega (arith, few)))
          ∙ clear (suc k) (omega arith) few ∙ sym (its_slot.gap (suc k) (omega arith) few)
      by_eight (inr many) =
          byte_at-written_in old (place + 8) (drop 8 slot) (place + suc k) (in_range (place + 8) (length (drop 8 slot)) (place + suc k) (omega (arith, many)) (omega (arith, many_body, below)))
          ∙ get_or-drop 8 slot ((place + suc k) - (place + 8)) 0 ∙ ap (λ (n : ℕ). byte_at slot n) (let e : 8 + ((place + suc k) - (place + 8)) ≡ suc k = omega (arith, many) in e)

  long_gated : length old ≤ length gated
  unfolding gated laid
  long_gated = omega (arith, length-written laid place (165 ∷ []), length-written old (place + 8) (drop 8 slot))

module _ (old block : List ℕ) (place : ℕ) (log slot : List ℕ) (its_block : length block ≡ 64) (its_slot : IsSlot slot) (behind : 1536 ≤ place) (clear : IsCleared old) where
  second : List ℕ
  second = written old 0 block

  third : List ℕ
  third = written second place log

  second_in : (i : ℕ) → i < 64 → byte_at second i ≡ byte_at block i
  unfolding second
  second_in i below = byte_at-written_in old 0 block i (in_range 0 (length block) i (omega arith) (omega (arith, its_block, below))) ∙ ap (λ (n : ℕ). byte_at block n) (let e : i - 0 ≡ i = omega arith in e)

  third_front : (i : ℕ) → i < 1536 → byte_at third i ≡ byte_at second i
  unfolding third
  third_front i below = byte_at-written_out second place log i (before_range place (length log) i (omega (arith, below, behind)))

  -- between the block and the log all is clear
  third_clear : (i : ℕ) → 64 ≤ i → i < 1536 → byte_at third i ≡ 0
  unfolding second
  third_clear i above below = third_front i below ∙ byte_at-written_out old 0 block i (after_range 0 (length block) i (omega (arith, its_block, above))) ∙ clear.zeros i below

  slot_clear : (i : ℕ) → 1 ≤ i → i < 8 → byte_at third (1024 + i) ≡ 0
  slot_clear i some few = third_clear (1024 + i) (omega arith) (omega (arith, few))

  fifth : List ℕ
  fifth = gated third slot 1024 its_slot slot_clear

  filled_is : filled old block place log slot ≡ fifth
  unfolding filled fifth gated laid third second
  filled_is = refl

  fifth_out : (i : ℕ) → (i < 1024) ⊎ (1536 ≤ i) → byte_at fifth i ≡ byte_at third i
  unfolding fifth
  fifth_out i out = gated_out third slot 1024 its_slot slot_clear i out

  slot_byte : (k : ℕ) → k < 512 → byte_at fifth (1024 + k) ≡ byte_at slot k
  unfolding fifth
  slot_byte k below = gated_in third slot 1024 its_slot slot_clear k below

  pub filled_block : bytes_at (filled old block place log slot) 0 64 ≡ block
  filled_block =
      ap (λ (s : List ℕ). bytes_at s 0 64) filled_is
      ∙ bytes_are fifth 0 64 block its_block (λ k below. ap (λ (i : ℕ). byte_at fifth i) (let e : 0 + k ≡ k = omega arith in e) ∙ fifth_out k (inl (omega (arith, below))) ∙ third_front k (omega (arith, below)) ∙ second_in k below)

  pub filled_slot : bytes_at (filled old block place log slot) 1024 512 ≡ slot
  filled_slot =
      ap (λ (s : List ℕ). bytes_at s 1024 512) filled_is
      ∙ bytes_are fifth 1024 512 slot its_slot.whole slot_byte

  -- the gate of slot 0 is closed
  pub filled_closed : byte_at (bytes_at (filled old block place log slot) 512 512) 0 ≡ 0
  filled_closed =
      ap (λ (s : List ℕ). byte_at (bytes_at s 512 512) 0) filled_is ∙ byte_at-bytes_at fifth 512 512 0 (omega arith)
      ∙ fifth_out 512 (inl (omega arith)) ∙ third_clear 512 (omega arith) (omega arith)

  -- the log stands at its place
  log_there : (k : ℕ) → k < length log → byte_at fifth (place + k) ≡ byte_at log k
  unfolding third
  log_there k below = fifth_out (place + k) (inr (omega (arith, behind))) ∙ log_written second place log k below

  pub filled_log : (records : List Record) → log ≡ flat_map record_bytes records → (i : ℕ) (x : Record) → slice_get records i ≡ Some x → record_bytes x ≡ bytes_at (filled old block place log slot) (place + 24 * i) 24
  filled_log records are i x is = stored_in fifth place log records log_there are i x is ∙ ap (λ (s : List ℕ). bytes_at s (place + 24 * i) 24) (sym filled_is)

  long_fifth : max (max (length old) (range_end 0 (length block))) (range_end place (length log)) ≤ length fifth
  unfolding fifth third second
  long_fifth = omega (arith, long_gated third slot 1024 its_slot slot_clear, length-written second place log, length-written old 0 block)

  pub filled_long : (1536 ≤ length (filled old block place log slot)) × (0 < length log → place + length log ≤ length (filled old block place log slot))
  filled_long = (omega (arith, ap length filled_is, long_fifth, clear.long), λ some. omega (arith, ap length filled_is, long_fifth, range_end_is place (length log) some))

-- ---- what a crash leaves
not_open : (b : ℕ) → b ≡ 0 → b ≢ 165
not_open b is opens = omega (arith, is, opens)

-- both gates are closed, and the image reaches behind them
pub record AreShut (image : List ℕ) : Type 0 where
  pub long : 1536 ≤ length image
  pub gate_0 : byte_at image 512 ≡ 0
  pub gate_1 : byte_at image 1024 ≡ 0

-- the range has no gate
pub record IsGateless (at n : ℕ) : Type 0 where
  pub first : covers at n 512 ≡ false
  pub second : covers at n 1024 ≡ false

block_gateless : (n : ℕ) → n ≡ 64 → IsGateless 0 n
block_gateless n is = record { first = after_range 0 n 512 (omega (arith, is)); second = after_range 0 n 1024 (omega (arith, is)) }

log_gateless : (place n : ℕ) → 1536 ≤ place → IsGateless place n
log_gateless place n behind = record { first = before_range place n 512 (omega (arith, behind)); second = before_range place n 1024 (omega (arith, behind)) }

body_gateless : (n : ℕ) → IsGateless 1032 n
body_gateless n = record { first = before_range 1032 n 512 (omega arith); second = before_range 1032 n 1024 (omega arith) }

still_shut : (old : List ℕ) (at : ℕ) (bytes : List ℕ) → IsGateless at (length bytes) → AreShut old → AreShut (written old at bytes)
still_shut old at bytes gateless shut = record {
  long = omega (arith, length-written old at bytes, shut.long);
  gate_0 = byte_at-written_out old at bytes 512 gateless.first ∙ shut.gate_0;
  gate_1 = byte_at-written_out old at bytes 1024 gateless.second ∙ shut.gate_1;
}

torn_shut : (old image : List ℕ) (at n : ℕ) → IsGateless at n → AreShut old → Torn at n old image → (byte_at image 512 ≢ 165) × (byte_at image 1024 ≢ 165)
torn_shut old image at n gateless shut torn = (
  not_open (byte_at image 512) (torn.outside 512 (omega (arith, shut.long)) gateless.first ∙ shut.gate_0),
  not_open (byte_at image 1024) (torn.outside 1024 (omega (arith, shut.long)) gateless.second ∙ shut.gate_1),
)

picked : (b : Bool) (x y z : ℕ) → (b ≡ true → z ≡ x) → (b ≡ false → z ≡ y) → z ≡ (if b then x else y)
picked true x y z one other = one refl
picked false x y z one other = other refl

at_gate : (i : ℕ) → covers 1024 1 i ≡ true → i ≡ 1024
at_gate i is = grind (arith, nat_tests)

-- a torn gate is closed, or it is written
torn_gate : (old image : List ℕ) → AreShut old → Torn 1024 1 old image → ((byte_at image 512 ≢ 165) × (byte_at image 1024 ≢ 165)) ⊎ (image ≡ written old 1024 (165 ∷ []))
torn_gate old image shut torn = ⊎_elim
    (λ opened. inr (is_listed image (max (length old) (range_end 1024 1)) _ many (λ i below.
    picked (covers 1024 1 i) (byte_at (165 ∷ []) (i - 1024)) (byte_at old i) (byte_at image i)
    (λ within. let here = at_gate i within in ap (byte_at image) here ∙ opened ∙ sym (ap (λ k. byte_at (165 ∷ []) (k - 1024)) here))
    (λ out. torn.outside i (omega (arith, below, shut.long, range_end_is 1024 1 (omega arith))) out))))
    (λ closed. inl (not_open (byte_at image 512) (torn.outside 512 (omega (arith, shut.long)) (before_range 1024 1 512 (omega arith)) ∙ shut.gate_0), closed))
    (cases_eq (byte_at image 1024) 165)
  where
    many : length image ≡ max (length old) (range_end 1024 1)
    many = omega (arith, torn.no_shorter, torn.no_longer, shut.long, range_end_is 1024 1 (omega arith))

module _ (old block : List ℕ) (place : ℕ) (log slot : List ℕ) (its_block : length block ≡ 64) (behind : 1536 ≤ place) (clear : IsCleared old) where
  shut_1 : AreShut old
  shut_1 = record { long = clear.long; gate_0 = clear.zeros 512 (omega arith); gate_1 = clear.zeros 1024 (omega arith) }

  shut_2 : AreShut (written old 0 block)
  shut_2 = still_shut old 0 block (block_gateless (length block) its_block) shut_1

  shut_3 : AreShut (written (written old 0 block) place log)
  shut_3 = still_shut (written old 0 block) place log (log_gateless place (length log) behind) shut_2

  pub in_block : (image : List ℕ) → Torn 0 (length block) old image → IsShutOrFilled old block place log slot image
  in_block image torn = inl (torn_shut old image 0 (length block) (block_gateless (length block) its_block) shut_1 torn)

  pub in_log : (image : List ℕ) → Torn place (length log) (written old 0 block) image → IsShutOrFilled old block place log slot image
  in_log image torn = inl (torn_shut (written old 0 block) image place (length log) (log_gateless place (length log) behind) shut_2 torn)

  in_gate : (image : List ℕ) → Torn 1024 1 (written (written (written old 0 block) place log) 1032 (drop 8 slot)) image → IsShutOrFilled old block place log slot image
  unfolding filled
  in_gate image torn = torn_gate (written (written (written old 0 block) place log) 1032 (drop 8 slot)) image (still_shut (written (written old 0 block) place log) 1032 (drop 8 slot) (body_gateless (length (drop 8 slot))) shut_3) torn

  pub in_slot : (image : List ℕ) → IsTornInOrder 1024 8 slot false (written (written old 0 block) place log) image → IsShutOrFilled old block place log slot image
  in_slot image (inl torn) = inl (torn_shut (written (written old 0 block) place log) image 1032 (length (drop 8 slot)) (body_gateless (length (drop 8 slot))) shut_3 torn)
  in_slot image (inr torn) = in_gate image torn
