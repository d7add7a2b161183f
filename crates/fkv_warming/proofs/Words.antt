-- The words of records, read at their places.
use Rattle.std.proofs.Common.{◌≡◌, ◌∙◌, inl, inr, sym, ap, refl, ℕ, zero, suc, ◌+◌, ◌-◌, ◌*◌, ◌<◌, ◌≤◌, List, [], ◌++◌, length, arith}
use Rattle.std.specs.Prelude.{slice_index}
use Rattle.std.proofs.lemmas.Bool.{cases_lt}
use Rattle.std.proofs.lemmas.List.{get_or-append_right, get_or_append_left, length-append}
use Rattle.fkv_base.specs.declared.shapes.Shape.{Shape}
use Rattle.fkv_disk.specs.Bytes.{bytes_at}
use Rattle.fkv_marks.specs.Marks.{mark}
use Rattle.fkv_record.specs.Places.{record_place}
use Rattle.fkv_opening.specs.Warm.{IsWarm, warm_word}
use Rattle.fkv_opening.specs.declared.opened_store.Opened.{Opened}
use Rattle.fkv_warming.specs.Records.{record_words, records_from}

pub length-records : (image : List ℕ) (shape : Shape) (begin number first n : ℕ) → length (records_from image shape begin number first n) ≡ 3 * n
unfolding records_from
length-records image shape begin number first zero = refl
length-records image shape begin number first (suc n) =
    length-append (records_from image shape begin number first n) _ ∙ (let so_far = length-records image shape begin number first n in let e : length (records_from image shape begin number first n) + 3 ≡ 3 * suc n = omega (arith, so_far) in e)

-- none yet, and one more
pub records_none : (image : List ℕ) (shape : Shape) (begin number first : ℕ) → records_from image shape begin number first (first - first) ≡ []
unfolding records_from
records_none image shape begin number first = let none : first - first ≡ 0 = omega arith in ap (records_from image shape begin number first) none

pub records_more : (image : List ℕ) (shape : Shape) (begin number first at : ℕ) → first ≤ at
    → records_from image shape begin number first (at - first) ++ record_words (bytes_at image (record_place shape at) 24) begin number ≡ records_from image shape begin number first (at + 1 - first)
unfolding records_from
records_more image shape begin number first at up =
    let here : at ≡ first + (at - first) = omega (arith, up) in
    let next : suc (at - first) ≡ at + 1 - first = omega (arith, up) in
    ap (λ (a : ℕ). records_from image shape begin number first (at - first) ++ record_words (bytes_at image (record_place shape a) 24) begin number) here
    ∙ ap (records_from image shape begin number first) next

-- word k of record i of so many
pub word_there : (image : List ℕ) (shape : Shape) (begin number first n i k : ℕ) → i < n → k < 3
    → slice_index (records_from image shape begin number first n) (3 * i + k) ≡ slice_index (record_words (bytes_at image (record_place shape (first + i)) 24) begin number) k
unfolding records_from
word_there image shape begin number first zero i k few small = absurd (omega (arith, few))
word_there image shape begin number first (suc n) i k few small =
    let front : List ℕ = records_from image shape begin number first n in
    let many : length front ≡ 3 * n = length-records image shape begin number first n in
    elim (cases_lt i n) [
      | inl before ↦ get_or_append_left front _ 0 (3 * i + k) (omega (arith, before, small, many)) ∙ word_there image shape begin number first n i k before small
      | inr last ↦
          let same : i ≡ n = omega (arith, few, last) in
          get_or-append_right front (record_words (bytes_at image (record_place shape (first + n)) 24) begin number) (3 * n) (3 * i + k) 0 many (omega (arith, same))
          ∙ ((let e : 3 * i + k - 3 * n ≡ k = omega (arith, same) in ap (slice_index (record_words (bytes_at image (record_place shape (first + n)) 24) begin number)) e)
          ∙ ap (λ (m : ℕ). slice_index (record_words (bytes_at image (record_place shape (first + m)) 24) begin number) k) (sym same))
    ]

-- so memory has what it is to have
pub is_warm : (image : List ℕ) (o : Opened) → o.frames.items ≡ records_from image o.shape o.begin.0 (mark o.number.0) o.warm.0 (o.tail.0 - o.warm.0) → IsWarm image o
is_warm image o are = record {
  header = λ a above below. word a 0 above below (omega arith);
  key = λ a above below. word a 1 above below (omega arith);
  value = λ a above below. word a 2 above below (omega arith);
}
  where
    word : (a k : ℕ) → o.warm.0 ≤ a → a < o.tail.0 → k < 3 → warm_word o a k ≡ slice_index (record_words (bytes_at image (record_place o.shape a) 24) o.begin.0 (mark o.number.0)) k
    word a k above below small =
        let here : o.warm.0 + (a - o.warm.0) ≡ a = omega (arith, above) in
        ap (λ (words : List ℕ). slice_index words (3 * (a - o.warm.0) + k)) are
        ∙ (word_there image o.shape o.begin.0 (mark o.number.0) o.warm.0 (o.tail.0 - o.warm.0) (a - o.warm.0) k (omega (arith, above, below)) small
        ∙ ap (λ (at : ℕ). slice_index (record_words (bytes_at image (record_place o.shape at) 24) o.begin.0 (mark o.number.0)) k) here)
