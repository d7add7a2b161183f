-- How many bytes the triples of a copy take.
use Rattle.std.proofs.Common.{◌≡◌, ℕ, ◌*◌, ◌∙◌, refl, ap, arith, List, [], ◌∷◌, length}
use Rattle.std.specs.Prelude.{Option, Some, None}
use Rattle.std.proofs.lemmas.List.{length-append}
use Rattle.std.proofs.lemmas.List.Concat.{flat_map-cons}
use Rattle.law_commit.specs.Below.fkv_checkpoint.Copying.{Copier}
use Rattle.law_commit.specs.Below.fkv_checkpoint.Triples.{CopiedEntry, all_bytes, copied_bytes}
use Rattle.law_commit.specs.Below.fkv_keeper.Keeping.{bytes_copied, triples_copied}

-- sixteen for each
pub length-all : (entries : List CopiedEntry) → length (all_bytes entries) ≡ 16 * length entries
unfolding all_bytes copied_bytes
length-all [] = refl
length-all (e ∷ entries) =
    let rest = length-all entries in
    let both = length-append (copied_bytes e) (all_bytes entries) in
    ap (λ (s : List ℕ). length s) (flat_map-cons copied_bytes e entries) ∙ omega (arith, both, rest)

pub copied_length : (copy : Option Copier) → length (bytes_copied copy) ≡ 16 * triples_copied copy
copied_length None = refl
copied_length (Some m) = length-all m.triples
