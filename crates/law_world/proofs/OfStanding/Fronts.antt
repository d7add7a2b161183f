-- What bytes have of the newest finished commit, and that bytes which agree with them below the log have it too.
use Rattle.std.proofs.Common.{◌≡◌, ℕ, ◌+◌, ◌*◌, ◌<◌, ◌≤◌, List, length, Bool, true, false, sym, ◌∙◌, ap, arith}
use Rattle.std.specs.Prelude.{◌==◌, ◌%◌, if◌then◌else◌}
use Rattle.fkv_base.specs.declared.numbers.Version.{Version}
use Rattle.fkv_base.specs.declared.shapes.Shape.{Shape}
use Rattle.fkv_record.specs.Places.{number_at, open_number, most_triples, area_place, record_place}
use Rattle.fkv_disk.specs.Bytes.{byte_at, bytes_at}
use Rattle.fkv_disk.proofs.Shown.{is_listed, byte_at-bytes_at, length-bytes_at}
use Rattle.fkv_manifest.specs.Gating.{open_gate}
use Rattle.fkv_manifest.specs.Newest.{slot_in, newer, newest}
use Rattle.fkv_keeper.specs.declared.last_commits.Area.{Area}
use Rattle.fkv_keeper.specs.declared.last_commits.Area.TheVariants.{First, Second}
use Rattle.fkv_keeper.specs.declared.last_commits.Checkpoint.{Checkpoint}
use Rattle.fkv_keeper.specs.Keeping.{Finality}
use Rattle.fkv_keeper.specs.LastCommits.{area_number, is_gate_open, slot_place}
use Rattle.law_world.specs.Standing.Opening.{IsBehind}
use Rattle.law_world.specs.Standing.Standing.{Standing, IsInForce, triples_in}

pub record Has (shape : Shape) (last : Finality) (its : Standing) (bytes : List ℕ) : Type 0 where
  pub stands : IsInForce last its bytes
  pub named : number_at its.slot 8 ≡ last.number.0
  pub first_gate : (byte_at bytes 512 == open_gate) ≡ last.gates.0
  pub second_gate : (byte_at bytes 1024 == open_gate) ≡ last.gates.1
  pub triples : triples_in shape bytes last.checkpoint ≡ its.triples
  pub fit : last.checkpoint.triples ≤ most_triples shape
  pub long : IsBehind shape last.checkpoint (length bytes)

-- an end farther on lies behind them too
pub farther : (shape : Shape) (its : Checkpoint) (end more : ℕ) → IsBehind shape its end → end ≤ more → IsBehind shape its more
farther shape its end more is le = record { slots = omega (arith, is.slots, le); triples = λ k below. omega (arith, is.triples k below, le) }

-- the areas lie between the slots and the log
pub area_low : (shape : Shape) (a : Area) → 1536 ≤ area_place shape (area_number a)
area_low shape First = omega arith
area_low shape Second = omega arith

pub area_high : (shape : Shape) (a : Area) → area_place shape (area_number a) + 16 * most_triples shape ≤ record_place shape 0
area_high shape First = omega arith
area_high shape Second = omega arith

pub log_high : (shape : Shape) → 1536 ≤ record_place shape 0
log_high shape = omega arith

-- the same bytes read alike
pub same_at : (xs ys : List ℕ) (at n : ℕ) → ((k : ℕ) → k < n → byte_at xs (at + k) ≡ byte_at ys (at + k)) → bytes_at xs at n ≡ bytes_at ys at n
same_at xs ys at n each = is_listed (bytes_at xs at n) n (λ k. byte_at ys (at + k)) (length-bytes_at xs at n) (λ k below. byte_at-bytes_at xs at n k below ∙ each k below)

-- a byte of a slot that is known is the image's
pub slot_byte : (image : List ℕ) (place : ℕ) (slot : List ℕ) (k : ℕ) → slot_in image place ≡ slot → k < 512 → byte_at image (place + k) ≡ byte_at slot k
slot_byte image place slot k is below = sym (byte_at-bytes_at image place 512 k below) ∙ ap (λ (s : List ℕ). byte_at s k) is

-- equal gates
pub gate_same : (xs ys : List ℕ) (at : ℕ) (told : Bool) → byte_at xs at ≡ byte_at ys at → (byte_at ys at == open_gate) ≡ told → (byte_at xs at == open_gate) ≡ told
gate_same xs ys at told same is = ap (λ (b : ℕ). b == open_gate) same ∙ is

-- the place of a gate, and what is told of it
pub gate_told : (shape : Shape) (last : Finality) (its : Standing) (bytes : List ℕ) (number : Version) → Has shape last its bytes → (byte_at bytes (slot_place number) == open_gate) ≡ is_gate_open last.gates number
gate_told shape last its bytes number has = by_test (number.0 % 2 == 0)
  where
    by_test : (t : Bool) → (byte_at bytes (if t then 512 else 1024) == open_gate) ≡ (if t then last.gates.0 else last.gates.1)
    by_test true = has.first_gate
    by_test false = has.second_gate

-- the slots alike
newest_same : (xs ys : List ℕ) → slot_in xs 512 ≡ slot_in ys 512 → slot_in xs 1024 ≡ slot_in ys 1024 → newest xs ≡ newest ys
newest_same xs ys one two =
    ap (λ (s : List ℕ). newer (open_number s) (open_number (slot_in xs 1024))) one
    ∙ ap (λ (s : List ℕ). newer (open_number (slot_in ys 512)) (open_number s)) two

slot_same : (xs ys : List ℕ) (number : Version) → slot_in xs 512 ≡ slot_in ys 512 → slot_in xs 1024 ≡ slot_in ys 1024 → slot_in xs (slot_place number) ≡ slot_in ys (slot_place number)
slot_same xs ys number one two = by_test (number.0 % 2 == 0)
  where
    by_test : (t : Bool) → slot_in xs (if t then 512 else 1024) ≡ slot_in ys (if t then 512 else 1024)
    by_test true = one
    by_test false = two

-- what agrees with the bytes below an end behind them all, and below the log, has the same
pub has_still : (shape : Shape) (last : Finality) (its : Standing) (bytes image : List ℕ) (end : ℕ) → Has shape last its bytes → IsBehind shape last.checkpoint end → IsBehind shape last.checkpoint (length image)
    → ((i : ℕ) → i < end → i < record_place shape 0 → byte_at image i ≡ byte_at bytes i) → Has shape last its image
has_still shape last its bytes image end has behind long same = record {
  stands = record { in_force = newest_same image bytes one two ∙ has.stands.in_force; slot = slot_same image bytes last.number one two ∙ has.stands.slot };
  named = has.named;
  first_gate = gate_same image bytes 512 last.gates.0 (same 512 (omega (arith, behind.slots)) (omega (arith, log_high shape))) has.first_gate;
  second_gate = gate_same image bytes 1024 last.gates.1 (same 1024 (omega (arith, behind.slots)) (omega (arith, log_high shape))) has.second_gate;
  triples =
      same_at image bytes (area_place shape (area_number last.checkpoint.area)) (16 * last.checkpoint.triples)
      (λ k below. same (area_place shape (area_number last.checkpoint.area) + k) (behind.triples k below) (omega (arith, below, has.fit, area_high shape last.checkpoint.area)))
      ∙ has.triples;
  fit = has.fit;
  long = long;
}
  where
    one : slot_in image 512 ≡ slot_in bytes 512
    one = same_at image bytes 512 512 (λ k below. same (512 + k) (omega (arith, below, behind.slots)) (omega (arith, below, log_high shape)))

    two : slot_in image 1024 ≡ slot_in bytes 1024
    two = same_at image bytes 1024 512 (λ k below. same (1024 + k) (omega (arith, below, behind.slots)) (omega (arith, below, log_high shape)))
