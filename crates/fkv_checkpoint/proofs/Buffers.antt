-- What the bytes of triples read as, and one triple more.
use Rattle.std.proofs.Common.{◌≡◌, ℕ, zero, suc, ◌+◌, ◌*◌, ◌^◌, ◌<◌, ◌≤◌, List, [], ◌∷◌, ◌++◌, length, take, drop, refl, sym, ap, ◌∙◌, arith, append-nil}
use Rattle.std.proofs.lemmas.List.{length-append, length-drop, take-append-le, drop-append-le, take_at, flat_map_more}
use Rattle.std.proofs.lemmas.Nat.{from_le_bytes-to_le_bytes_2, from_le_bytes-to_le_bytes_4, from_le_bytes-to_le_bytes_8}
use Rattle.std.specs.Int.{w16, w32, w64, to_le_bytes, from_le_bytes}
use Rattle.fkv_record.specs.declared.triples.Triple.{Triple}
use Rattle.fkv_record.specs.Layout.{triple_bytes}
use Rattle.fkv_checkpoint.specs.Triples.{CopiedEntry, copied_of, copied_bytes, all_bytes, entry_read, entries_in, IsSpelled}

pub triple_spelled : (x : Triple) → triple_bytes x ≡ copied_bytes (copied_of x)
unfolding triple_bytes copied_bytes
triple_spelled x = refl

bytes_length : (e : CopiedEntry) → length (copied_bytes e) ≡ 16
unfolding copied_bytes
bytes_length e = refl

pub triple_length : (x : Triple) → length (triple_bytes x) ≡ 16
triple_length x = ap length (triple_spelled x) ∙ bytes_length (copied_of x)

-- the numbers of an entry fit their bytes
pub record FitsBytes (e : CopiedEntry) : Type 0 where
  pub bucket_fits : e.home.bucket < 2 ^ 32
  pub tag_fits : e.home.tag < 2 ^ 16
  pub addr_fits : e.addr < 2 ^ 64

pub triple_fits : (x : Triple) → FitsBytes (copied_of x)
triple_fits x = let b = x.bucket_fits in let t = x.tag_fits in let a = x.addr_fits in record { bucket_fits = b; tag_fits = omega (arith, t); addr_fits = omega (arith, a) }

entry_back : (e : CopiedEntry) → FitsBytes e → entry_read (copied_bytes e) ≡ e
unfolding entry_read copied_bytes
entry_back e fits =
    let b : from_le_bytes w32 (to_le_bytes w32 e.home.bucket) ≡ e.home.bucket = from_le_bytes-to_le_bytes_4 e.home.bucket fits.bucket_fits in
    let t : from_le_bytes w16 (to_le_bytes w16 e.home.tag) ≡ e.home.tag = from_le_bytes-to_le_bytes_2 e.home.tag fits.tag_fits in
    let a : from_le_bytes w64 (to_le_bytes w64 e.addr) ≡ e.addr = from_le_bytes-to_le_bytes_8 e.addr fits.addr_fits in
    let parts : ◌≡◌ {A = ℕ × ℕ × ℕ} (from_le_bytes w32 (to_le_bytes w32 e.home.bucket), from_le_bytes w16 (to_le_bytes w16 e.home.tag), from_le_bytes w64 (to_le_bytes w64 e.addr)) (e.home.bucket, e.home.tag, e.addr) = cc in
    ap (λ (x : ℕ × ℕ × ℕ). record { home = record { bucket = x.0; tag = x.1 }; addr = x.2 }) parts

pub entries_length : (count : ℕ) (bytes : List ℕ) → length (entries_in count bytes) ≡ count
unfolding entries_in
entries_length zero bytes = refl
entries_length (suc count) bytes = ap suc (entries_length count (drop 16 bytes))

-- the entries before it stay
more_read : (count : ℕ) (front : List ℕ) (e : CopiedEntry) → length front ≡ 16 * count → FitsBytes e → entries_in (suc count) (front ++ copied_bytes e) ≡ entries_in count front ++ e ∷ []
unfolding entries_in
more_read zero [] e long fits = ap (λ x. entry_read x ∷ []) whole ∙ ap (λ x. x ∷ []) (entry_back e fits)
  where
    whole : take 16 (copied_bytes e) ≡ copied_bytes e
    whole = ap (take 16) (sym (append-nil (copied_bytes e))) ∙ take_at (copied_bytes e) [] 16 (bytes_length e)
more_read zero (x ∷ front) e long fits = absurd (omega (arith, long))
more_read (suc count) front e long fits =
    let low : 16 ≤ length front = omega (arith, long) in
    ap (λ x. entry_read x ∷ entries_in (suc count) (drop 16 (front ++ copied_bytes e))) (take-append-le 16 front (copied_bytes e) low)
    ∙ ap (λ x. entry_read (take 16 front) ∷ entries_in (suc count) x) (drop-append-le 16 front (copied_bytes e) low)
    ∙ ap (λ x. entry_read (take 16 front) ∷ x) (more_read count (drop 16 front) e (omega (arith, long, length-drop 16 front)) fits)

pub more_entries : (count : ℕ) (bytes : List ℕ) (e : CopiedEntry) → IsSpelled count bytes → FitsBytes e → entries_in (count + 1) (bytes ++ copied_bytes e) ≡ entries_in count bytes ++ e ∷ []
more_entries count bytes e its fits =
    let next : count + 1 ≡ suc count = omega arith in
    ap (λ n. entries_in n (bytes ++ copied_bytes e)) next ∙ more_read count bytes e its.long fits

pub more_spelled : (count : ℕ) (bytes : List ℕ) (e : CopiedEntry) → IsSpelled count bytes → FitsBytes e → IsSpelled (count + 1) (bytes ++ copied_bytes e)
unfolding all_bytes
more_spelled count bytes e its fits =
    let long = its.long in
    let sixteen = bytes_length e in
    let whole = length-append bytes (copied_bytes e) in
    record {
      long = omega (arith, long, sixteen, whole);
      spelled = ap (λ x. x ++ copied_bytes e) its.spelled ∙ flat_map_more copied_bytes [] (entries_in count bytes) e ∙ ap all_bytes (sym (more_entries count bytes e its fits));
    }

pub none_spelled : IsSpelled 0 []
unfolding entries_in all_bytes
none_spelled = record { long = refl; spelled = refl }

-- what was put behind the bytes
pub put_behind : (x : Triple) (old bytes new : List ℕ) → bytes ≡ triple_bytes x → new ≡ old ++ bytes → new ≡ old ++ copied_bytes (copied_of x)
put_behind x old bytes new its made = made ∙ ap (λ b. old ++ b) (its ∙ triple_spelled x)
