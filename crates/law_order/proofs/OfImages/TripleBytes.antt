-- Where the bytes of triples stand one after another, each stands in its place.
use Rattle.std.proofs.Common.{◌≡◌, ℕ, zero, suc, ◌+◌, ◌-◌, ◌*◌, ◌<◌, ◌∙◌, arith, refl, sym, ap, List, [], ◌∷◌, ◌++◌, length}
use Rattle.std.specs.Prelude.{slice_get, Some}
use Rattle.std.specs.List.{flat_map}
use Rattle.std.proofs.lemmas.List.{get_or_append_left, get_or-append_right, length-append}
use Rattle.std.proofs.lemmas.List.Concat.{flat_map-cons}
use Rattle.fkv_disk.specs.Bytes.{byte_at, bytes_at}
use Rattle.fkv_disk.proofs.Shown.{byte_at-bytes_at, is_listed, length-bytes_at}
use Rattle.fkv_record.specs.Layout.{triple_bytes}
use Rattle.fkv_record.specs.declared.triples.Triple.{Triple}

triple_length : (x : Triple) → length (triple_bytes x) ≡ 16
unfolding triple_bytes
triple_length x = refl

pub all_length : (triples : List Triple) → length (flat_map triple_bytes triples) ≡ 16 * length triples
all_length [] = refl
all_length (x ∷ triples) =
    let one = triple_length x in
    let rest = all_length triples in
    let both = length-append (triple_bytes x) (flat_map triple_bytes triples) in
    ap (λ (s : List ℕ). length s) (flat_map-cons triple_bytes x triples) ∙ omega (arith, one, both, rest)

pub in_list : (triples : List Triple) (i : ℕ) (x : Triple) → slice_get triples i ≡ Some x → i < length triples
in_list [] i x e = cc
in_list (y ∷ rest) zero x e = omega arith
in_list (y ∷ rest) (suc i) x e = let low = in_list rest i x e in omega (arith, low)

-- a byte of one of them
one_byte : (triples : List Triple) (i : ℕ) (x : Triple) (k : ℕ) → slice_get triples i ≡ Some x → k < 16 → byte_at (flat_map triple_bytes triples) (16 * i + k) ≡ byte_at (triple_bytes x) k
one_byte [] i x k e low = cc
one_byte (y ∷ triples) zero x k e low =
    let same : y ≡ x = cc in
    let size = triple_length y in
    ap (λ (s : List ℕ). byte_at s (16 * 0 + k)) (flat_map-cons triple_bytes y triples)
    ∙ (ap (λ (j : ℕ). byte_at (triple_bytes y ++ flat_map triple_bytes triples) j) (let here : 16 * 0 + k ≡ k = omega arith in here)
    ∙ (get_or_append_left (triple_bytes y) (flat_map triple_bytes triples) 0 k (omega (arith, size, low))
    ∙ ap (λ (z : Triple). byte_at (triple_bytes z) k) same))
one_byte (y ∷ triples) (suc i) x k e low =
    let size = triple_length y in
    ap (λ (s : List ℕ). byte_at s (16 * suc i + k)) (flat_map-cons triple_bytes y triples)
    ∙ (get_or-append_right (triple_bytes y) (flat_map triple_bytes triples) 16 (16 * suc i + k) 0 size (omega arith)
    ∙ (ap (λ (j : ℕ). byte_at (flat_map triple_bytes triples) j) (let there : (16 * suc i + k) - 16 ≡ 16 * i + k = omega arith in there)
    ∙ one_byte triples i x k e low))

pub one_triple : (image : List ℕ) (at count : ℕ) (triples : List Triple) (i : ℕ) (x : Triple) → flat_map triple_bytes triples ≡ bytes_at image at (16 * count) → slice_get triples i ≡ Some x → i < count → triple_bytes x ≡ bytes_at image (at + 16 * i) 16
one_triple image at count triples i x same e low =
    is_listed (triple_bytes x) 16 (λ k. byte_at image ((at + 16 * i) + k)) (triple_length x)
    (λ k below. sym (one_byte triples i x k e below) ∙ (ap (λ (s : List ℕ). byte_at s (16 * i + k)) same
    ∙ (byte_at-bytes_at image at (16 * count) (16 * i + k) (omega (arith, low, below)) ∙ ap (λ (j : ℕ). byte_at image j) (let there : at + (16 * i + k) ≡ (at + 16 * i) + k = omega arith in there))))

pub counted : (image : List ℕ) (at count : ℕ) (triples : List Triple) → flat_map triple_bytes triples ≡ bytes_at image at (16 * count) → length triples ≡ count
counted image at count triples same =
    let size = all_length triples in
    let all = length-bytes_at image at (16 * count) in
    let both = ap (λ (s : List ℕ). length s) same in
    omega (arith, size, all, both)
