-- Lists of pages and of what stands in them, one item more.
use Rattle.std.proofs.Common.{◌≡◌, ◌⊎◌, inl, inr, ⊎_elim, ℕ, zero, suc, ◌+◌, ◌≤◌, List, [], ◌∷◌, ◌++◌, length, Some, refl, subst, arith, length-append}
use Rattle.std.specs.Prelude.{slice_get}
use Rattle.fkv_opening.specs.declared.opened_store.Opened.{Opened}
use Rattle.fkv_looking.specs.declared.classes.RecordClass.{RecordClass}
use Rattle.fkv_looking.specs.declared.page_looks.PageLook.{PageLook}
use Rattle.fkv_looking.specs.Classes.{IsClass}
use Rattle.fkv_looking.specs.Pages.{AreClasses, IsPageLook}

some_same : {A : Type 0} (x y : A) → Some x ≡ Some y → x ≡ y
some_same x y is = cc

-- an element of a list with one more
got_more : {A : Type 0} (xs : List A) (x : A) (i : ℕ) (y : A) → slice_get (xs ++ x ∷ []) i ≡ Some y → (slice_get xs i ≡ Some y) ⊎ ((i ≡ length xs) × (x ≡ y))
got_more [] x zero y is = inr (refl, some_same x y is)
got_more [] x (suc i) y is = absurd (cc)
got_more (z ∷ xs) x zero y is = inl is
got_more (z ∷ xs) x (suc i) y is = ⊎_elim inl (λ last. inr ((let same = last.0 in omega (arith, same)), last.1)) (got_more xs x i y is)

pub no_classes : (image : List ℕ) (opened : Opened) (first : ℕ) → AreClasses image opened first first []
no_classes image opened first = record { many = omega arith; each = λ i class is. absurd (cc) }

pub classes_more : (image : List ℕ) (opened : Opened) (first at : ℕ) (classes : List RecordClass) (class : RecordClass) → first ≤ at → AreClasses image opened first at classes → IsClass image opened at class
    → AreClasses image opened first (at + 1) (classes ++ class ∷ [])
classes_more image opened first at classes class upwards so_far found =
    let many = so_far.many in
    let longer = length-append classes (class ∷ []) in
    record {
      many = omega (arith, many, longer, upwards);
      each = λ i other is. ⊎_elim (λ was. so_far.each i other was)
          (λ last. let at_end = last.0 in
          let here : at ≡ first + i = omega (arith, many, at_end, upwards) in
          subst (λ c. IsClass image opened (first + i) c) last.1 (subst (λ n. IsClass image opened n class) here found))
          (got_more classes class i other is);
    }

-- the pages below one
pub record AreSome (image : List ℕ) (opened : Opened) (to : ℕ) (pages : List PageLook) : Type 0 where
  pub many : length pages ≡ to
  pub each : (i : ℕ) (look : PageLook) → slice_get pages i ≡ Some look → IsPageLook image opened i look

pub no_pages : (image : List ℕ) (opened : Opened) → AreSome image opened 0 []
no_pages image opened = record { many = refl; each = λ i look is. absurd (cc) }

pub pages_more : (image : List ℕ) (opened : Opened) (page : ℕ) (pages : List PageLook) (look : PageLook) → AreSome image opened page pages → IsPageLook image opened page look → AreSome image opened (page + 1) (pages ++ look ∷ [])
pages_more image opened page pages look so_far found =
    let many = so_far.many in
    let longer = length-append pages (look ∷ []) in
    record {
      many = omega (arith, many, longer);
      each = λ i other is. ⊎_elim (λ was. so_far.each i other was)
          (λ last. let at_end = last.0 in
          let here : page ≡ i = omega (arith, many, at_end) in
          subst (λ l. IsPageLook image opened i l) last.1 (subst (λ n. IsPageLook image opened n look) here found))
          (got_more pages look i other is);
    }
