-- The words of an index, filled with any entries.
use Rattle.std.proofs.Common.{◌≡◌, ℕ, zero, suc, ◌+◌, ◌*◌, ◌<◌, List, [], ◌∷◌, ◌++◌, length, refl, ap, subst, arith}
use Rattle.std.specs.Prelude.{slice_index_or}
use Rattle.fkv_entries.specs.Room.{bucket_words}
use Rattle.fkv_entries.specs.declared.home_entries.HomeEntry.{HomeEntry}
use Rattle.fkv_filling.specs.Filled.{AreByTag, IsFilled, all_needed, filled_by, first_link, other_links, up_to}
use Rattle.law_opening.proofs.OfWorlds.Sorting.{sorted}

-- the words of so many buckets from one on, each in order
chains_from : List HomeEntry → ℕ → ℕ → List (List ℕ)
chains_from entries bucket zero = []
chains_from entries bucket (suc many) = (sorted (bucket_words bucket entries)).list ∷ chains_from entries (suc bucket) many

so_many : (entries : List HomeEntry) (bucket many : ℕ) → length (chains_from entries bucket many) ≡ many
unfolding chains_from
so_many entries bucket zero = refl
so_many entries bucket (suc many) = ap (λ (n : ℕ). suc n) (so_many entries (suc bucket) many)

each_sorted : (entries : List HomeEntry) (bucket many b : ℕ) → b < many → AreByTag (bucket_words (bucket + b) entries) (slice_index_or (chains_from entries bucket many) b [])
unfolding chains_from
each_sorted entries bucket zero b below = absurd (omega (arith, below))
each_sorted entries bucket (suc many) zero below =
    subst (λ (at : ℕ). AreByTag (bucket_words at entries) (sorted (bucket_words bucket entries)).list) (let same : bucket ≡ bucket + 0 = omega arith in same) (sorted (bucket_words bucket entries)).by_tag
each_sorted entries bucket (suc many) (suc b) below =
    subst (λ (at : ℕ). AreByTag (bucket_words at entries) (slice_index_or (chains_from entries (suc bucket) many) b [])) (let same : suc bucket + b ≡ bucket + suc b = omega arith in same)
    (each_sorted entries (suc bucket) many b (omega (arith, below)))

pub record IsIndex (buckets overflow : ℕ) (entries : List HomeEntry) : Type 0 where
  pub words : List ℕ
  pub taken : ℕ
  pub filled : IsFilled buckets overflow entries words taken

pub index_of : (buckets overflow : ℕ) (entries : List HomeEntry) → IsIndex buckets overflow entries
index_of buckets overflow entries =
    let chains : List (List ℕ) = chains_from entries 0 buckets in
    record {
      words = filled_by first_link 0 chains ++ up_to (8 * overflow) (filled_by other_links 0 chains);
      taken = all_needed chains;
      filled = record {
        chains = chains;
        many = so_many entries 0 buckets;
        each = λ b below. subst (λ (at : ℕ). AreByTag (bucket_words at entries) (slice_index_or chains b [])) (let same : 0 + b ≡ b = omega arith in same) (each_sorted entries 0 buckets b below);
        filled = refl;
        all_taken = refl;
      };
    }
