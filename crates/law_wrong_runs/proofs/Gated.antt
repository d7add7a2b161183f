-- The slot that stands behind the writes of a commit, if the other one was in force and its own gate was closed. By the law of gates.
use Rattle.std.proofs.Common.{◌≡◌, inr, ℕ, ◌≤◌, ◌<◌, ◌∙◌, List, [], ◌∷◌, ◌++◌, refl, sym, ap, arith, true, false, length}
use Rattle.std.proofs.lemmas.Bool.Decides.{nat_tests}
use Rattle.std.specs.Prelude.{◌==◌, ◌≢◌, ◌^◌, Bool, Some, drop}
use Rattle.fkv_base.specs.declared.shapes.Shape.{Shape}
use Rattle.fkv_creating.specs.Created.{IsCreated, created_bytes}
use Rattle.fkv_disk.specs.Bytes.{byte_at}
use Rattle.fkv_disk.specs.Calls.{Call, MayLeave, Sync, Write, reads_as}
use Rattle.fkv_manifest.specs.Committing.{CommitWriter, commit_answer, commit_start}
use Rattle.fkv_manifest.specs.Gating.{gate_start}
use Rattle.fkv_manifest.specs.Kept.{AreTheAreas, Begins, IsSlotOf, LiesIn, NewStands, SparesStore}
use Rattle.fkv_manifest.specs.Made.{commit_made, commit_run}
use Rattle.fkv_manifest.specs.Newest.{newest, slot_in}
use Rattle.fkv_manifest.specs.declared.answers.WriteAnswer.TheVariants.{Written}
use Rattle.fkv_manifest.specs.declared.commits.Committing.TheVariants.{SyncsTriples}
use Rattle.fkv_record.specs.Manifest.{SlotSaid, newest_bytes}
use Rattle.fkv_record.specs.Places.{area_place}
use Rattle.law_wrong_runs.specs.WrongImages.{BeginAtFirst}
use Rattle.fkv_manifest.specs.Committing as committing_u
use Rattle.fkv_manifest.specs.Gating as gating_u
use Rattle.fkv_manifest.specs.Made as made_u

-- ---- what the laws say
abbrev pub IsWritten : Type 0
IsWritten = (w : CommitWriter) (opened : List ℕ) (before : List Call) (other : ℕ) (steps : List Bool) (image : List ℕ) → Begins w opened before other → MayLeave opened (commit_made w steps ++ before) image
    → commit_answer (commit_run w steps) ≡ Written → NewStands w image

abbrev pub SparesStores : Type 0
SparesStores = (shape : Shape) (w : CommitWriter) (opened : List ℕ) (before : List Call) (other area other_area : ℕ) (steps : List Bool) (image : List ℕ) → Begins w opened before other
    → MayLeave opened (commit_made w steps ++ before) image → LiesIn shape w other area other_area → SparesStore shape other_area (reads_as opened before) image

abbrev pub AreNamed : Type 0
AreNamed = (said : SlotSaid) → said.number < 2 ^ 64 → length said.points ≤ 32 → length said.lost ≤ 8 → IsSlotOf said.number (newest_bytes said)

abbrev pub AreCreated : Type 0
AreCreated = (old : List ℕ) (shape : Shape) → IsCreated shape (created_bytes old shape)

-- ---- the writes
abbrev pub five : List Bool
five = true ∷ true ∷ true ∷ true ∷ true ∷ []

-- It begins with a sync, writes no triples, and puts a slot of this number into the second place, whose gate it is told as closed.
pub record IsWriter (w : CommitWriter) (number : ℕ) : Type 0 where
  pub step : w.step ≡ SyncsTriples
  pub triples : w.triples ≡ []
  pub gate : w.gate.step ≡ gate_start false
  pub place : w.gate.place ≡ 1024
  pub start : w.gate.start ≡ 1
  pub slot : IsSlotOf number w.gate.slot
  pub area : 1536 ≤ w.area
  pub some : 0 < number

-- its calls
pub made_so : (w : CommitWriter) → w.step ≡ SyncsTriples → w.gate.step ≡ gate_start false → w.gate.place ≡ 1024 → w.gate.start ≡ 1 → (slot : List ℕ) → w.gate.slot ≡ slot
    → commit_made w five ++ [] ≡ Sync true ∷ Write 1024 (165 ∷ []) true ∷ Sync true ∷ Write 1025 (drop 1 slot) true ∷ Sync true ∷ []
unfolding made_u.commit_made made_u.commit_run committing_u.commit_step_call committing_u.commit_step_next committing_u.gate_after gating_u.gate_step_call gating_u.gate_next
made_so w step gate place start slot is = rw (step, gate, place, start, is) refl

isnt_open : (b : ℕ) → b ≢ 165 → (b == 165) ≡ false
isnt_open b shut = grind (arith, nat_tests, shut)

module _ (w : CommitWriter) (number : ℕ) (is : IsWriter w number) where
  module _ (shape : Shape) (bytes : List ℕ) (first : BeginAtFirst shape bytes) where
    closed : gate_start (byte_at bytes w.gate.place == 165) ≡ gate_start false
    closed = ap (λ (place : ℕ). gate_start (byte_at bytes place == 165)) is.place ∙ ap gate_start (isnt_open (byte_at bytes 1024) first.closed)

    pub begins : Begins w bytes [] 512
    begins = record {
      all_done = tt;
      synced = refl;
      ready = record {
        begins = is.step ∙ sym (ap commit_start is.triples);
        gate_begins = is.gate ∙ sym closed;
        slots = inr (is.place, refl);
        body = is.start;
        whole = is.slot.whole;
        is_open = is.slot.is_open;
        greater = (let old = first.number in let new = is.slot.names in let some = is.some in omega (arith, old, new, some));
        behind = is.area;
        long = first.long;
        in_force = first.in_force;
      };
    }

  pub lies : (shape : Shape) (area other : ℕ) → AreTheAreas area other → w.area ≡ area_place shape area → LiesIn shape w 512 area other
  lies shape area other areas at = record {
    slots = inr (is.place, refl);
    areas = areas;
    triples_at = at;
    room = (let none = ap (λ (b : List ℕ). length b) is.triples in omega (arith, none));
  }

  -- ---- an image in which its slot stands
  module _ (image : List ℕ) (new : NewStands w image) where
    pub in_force : newest image ≡ Some 1024
    in_force = new.in_force ∙ ap (λ (place : ℕ). Some place) is.place

    pub bytes_are : slot_in image 1024 ≡ w.gate.slot
    bytes_are = ap (slot_in image) (sym is.place) ∙ new.slot
