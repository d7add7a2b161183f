-- What an image tells of its newest slot, and the faults that stand there.
use Rattle.std.proofs.Common.{◌≡◌, ℕ, List, Some, refl, sym, ap, subst, ◌∙◌, arith}
use Rattle.fkv_base.specs.declared.faults.Fault.{Fault}
use Rattle.fkv_base.specs.declared.faults.Fault.TheVariants as fault
use Rattle.fkv_base.specs.declared.faults.Damage.TheVariants as damage
use Rattle.fkv_base.specs.declared.shapes.Shape.{Shape}
use Rattle.fkv_words.specs.Fields.{SpellsApart}
use Rattle.fkv_manifest.specs.Newest.{slot_in, newer, newest}
use Rattle.fkv_record.specs.Layout.{shape_bytes}
use Rattle.fkv_record.specs.Places.{open_number}
use Rattle.fkv_newest.specs.declared.newest_slots.Newest.{Newest}
use Rattle.fkv_newest.specs.Newest.{slot_place, IsStore, IsManifest, IsManifestFault, IsNewestFault, IsNewestOf, ShowSame}

pub one_index : (a b : ℕ) → Some (slot_place a) ≡ Some (slot_place b) → a ≡ b
one_index a b is = (let same : slot_place a ≡ slot_place b = cc in omega (arith, same))

pub no_fault : SpellsApart shape_bytes → (image : List ℕ) (n : Newest) (why : Fault) → IsNewestOf image n → IsNewestFault image why → ⊥
no_fault apart image n fault.NotAStore told off = off (record { shape = n.shape; block = told.block; index = n.index; in_force = told.in_force })
no_fault apart image n (fault.Damaged damage.Manifest index) told off =
    let same_shape : n.shape ≡ off.shape = apart n.shape off.shape (told.block ∙ sym off.block) in
    let same_index : n.index ≡ index = one_index n.index index (sym told.in_force ∙ off.in_force) in
    off.here n.format n.slot (subst (λ (i : ℕ). IsManifest image off.shape i n.format n.slot) same_index
    (subst (λ (s : Shape). IsManifest image s n.index n.format n.slot) same_shape told.manifest))
no_fault apart image n other told off = absurd (off)

is_store : (image : List ℕ) (index : ℕ) → IsManifestFault image index → IsStore image
is_store image index found = record { shape = found.shape; block = found.block; index = index; in_force = found.in_force }

pub one_fault : (image : List ℕ) (why other : Fault) → IsNewestFault image why → IsNewestFault image other → why ≡ other
one_fault image fault.NotAStore fault.NotAStore first second = refl
one_fault image fault.NotAStore (fault.Damaged damage.Manifest index) first second = absurd (first (is_store image index second))
one_fault image fault.NotAStore other first second = absurd (second)
one_fault image (fault.Damaged damage.Manifest index) fault.NotAStore first second = absurd (second (is_store image index first))
one_fault image (fault.Damaged damage.Manifest index) (fault.Damaged damage.Manifest index') first second =
    ap (λ (i : ℕ). fault.Damaged damage.Manifest i) (one_index index index' (sym first.in_force ∙ second.in_force))
one_fault image (fault.Damaged damage.Manifest index) other first second = absurd (second)
one_fault image why other first second = absurd (first)

module _ (image other : List ℕ) (same : ShowSame image other) where
  newest_same : newest image ≡ newest other
  newest_same =
      ap (λ n. newer n (open_number (slot_in image 1024))) same.open_0
      ∙ ap (λ n. newer (open_number (slot_in other 512)) n) same.open_1

  pub told_alike : (n : Newest) → IsNewestOf image n → IsNewestOf other n
  told_alike n told = record {
    block = told.block ∙ same.block;
    in_force = sym newest_same ∙ told.in_force;
    manifest = record { stands = told.manifest.stands ∙ ap (λ (b : List ℕ). Some b) (same.slot n.index told.in_force); suits = told.manifest.suits };
    open_0 = told.open_0 ∙ same.open_0;
    open_1 = told.open_1 ∙ same.open_1;
  }

  pub faults_alike : (why : Fault) → IsNewestFault image why → IsNewestFault other why
  faults_alike fault.NotAStore off = λ store. off (record { shape = store.shape; block = store.block ∙ sym same.block; index = store.index; in_force = newest_same ∙ store.in_force })
  faults_alike (fault.Damaged damage.Manifest index) off = record {
    shape = off.shape;
    block = off.block ∙ same.block;
    in_force = sym newest_same ∙ off.in_force;
    here = λ format slot its. off.here format slot (record { stands = its.stands ∙ ap (λ (b : List ℕ). Some b) (sym (same.slot index off.in_force)); suits = its.suits });
  }
  faults_alike why off = absurd (off)
