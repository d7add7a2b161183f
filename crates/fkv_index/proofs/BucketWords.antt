-- The words of the buckets, where one word of the plane changes.
use Rattle.std.proofs.Common.{◌≡◌, ℕ, ◌+◌, ◌<◌, ◌≤◌, List, length, arith, sym}
use Rattle.std.specs.Prelude.{slice_set}
use Rattle.std.proofs.lemmas.List.{get_or-set_same, get_or-set_other}
use Rattle.fkv_plane.specs.declared.places.Places.{Places}
use Rattle.fkv_plane.specs.Places.{bucket_place, frames_start}
use Rattle.fkv_index.specs.Buckets.{bucket_words}
use Rattle.fkv_index.specs.IndexWorld.{taken_of}

pub set_there : (p : Places) (words : List ℕ) (m i word : ℕ) → frames_start p ≤ length words → m < p.buckets + p.overflow → i < 8
    → bucket_words p (slice_set words (bucket_place p m i) word) m i ≡ word
set_there p words m i word enough real low = get_or-set_same words (bucket_place p m i) word 0 (omega (arith, enough, real, low))

pub set_else : (p : Places) (words : List ℕ) (m i o j word : ℕ) → i < 8 → j < 8 → (o ≡ m → j ≡ i → ⊥)
    → bucket_words p (slice_set words (bucket_place p m i) word) o j ≡ bucket_words p words o j
set_else p words m i o j word low few apart =
    get_or-set_other words (bucket_place p m i) (bucket_place p o j) word 0 (λ e. apart (omega (arith, e, low, few)) (omega (arith, e, low, few)))

pub set_outside : (p : Places) (words : List ℕ) (place o j word : ℕ) → (place ≡ bucket_place p o j → ⊥) → bucket_words p (slice_set words place word) o j ≡ bucket_words p words o j
set_outside p words place o j word apart = get_or-set_other words place (bucket_place p o j) word 0 (λ e. apart (sym e))

-- the count of taken buckets stands below the buckets
pub set_spares_taken : (p : Places) (words : List ℕ) (m i word : ℕ) → taken_of (slice_set words (bucket_place p m i) word) ≡ taken_of words
set_spares_taken p words m i word = get_or-set_other words (bucket_place p m i) 10 word 0 (λ e. omega (arith, e))
