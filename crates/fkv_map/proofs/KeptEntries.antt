-- What points keep of a history.
use Rattle.std.proofs.Common.{◌≡◌, ℕ, ◌+◌, ◌≤◌, Bool, true, false, cond, nat_le, List, [], ◌∷◌, ◌++◌, refl, sym, ap, ◌∙◌, arith, All, append-nil}
use Rattle.std.specs.List.{filter, count_by}
use Rattle.std.proofs.lemmas.Bool.{cond-true, cond-false, le-leb, leb-true}
use Rattle.std.proofs.lemmas.Bool.Decides.{nat_tests}
use Rattle.std.proofs.lemmas.List.Elements.{filter-append, filter_passes, All-weaker, All-filter}
use Rattle.std.proofs.lemmas.List.Sums.{sum_by-append, sum_by_push}
use Rattle.fkv_base.specs.declared.numbers.Serial.{Serial}
use Rattle.fkv_map.specs.declared.history.HistoryEntry.{HistoryEntry}
use Rattle.fkv_map.specs.History.{kept, is_kept, point_of, AreAtMost, greatest_serial}

-- ---- filters
-- what passed a test passes one that holds wherever that does
pub filter_by_more : {X : Type 0} (p q : X → Bool) → ((x : X) → p x ≡ true → q x ≡ true) → (xs : List X) → filter q (filter p xs) ≡ filter p xs
filter_by_more p q more [] = refl
filter_by_more p q more (x ∷ xs) =
    elim (p x) as (λ b. p x ≡ b → filter q (cond b (x ∷ filter p xs) (filter p xs)) ≡ cond b (x ∷ filter p xs) (filter p xs)) [
      | true ↦ λ passes. cond-true (q x) _ _ (more x passes) ∙ ap (λ rest. x ∷ rest) (filter_by_more p q more xs)
      | false ↦ λ fails. filter_by_more p q more xs
    ] refl

-- two tests pass the same in either order
swap_first : {X : Type 0} (p q : X → Bool) (x : X) (xs : List X) → filter p (filter q xs) ≡ filter q (filter p xs) → (a b : Bool) → p x ≡ a → q x ≡ b → filter p (cond b (x ∷ filter q xs) (filter q xs)) ≡ filter q (cond a (x ∷ filter p xs) (filter p xs))
swap_first p q x xs same true true is also = cond-true (p x) _ _ is ∙ ap (λ rest. x ∷ rest) same ∙ sym (cond-true (q x) _ _ also)
swap_first p q x xs same true false is also = same ∙ sym (cond-false (q x) _ _ also)
swap_first p q x xs same false true is also = cond-false (p x) _ _ is ∙ same
swap_first p q x xs same false false is also = same

pub filter_swap : {X : Type 0} (p q : X → Bool) (xs : List X) → filter p (filter q xs) ≡ filter q (filter p xs)
filter_swap p q [] = refl
filter_swap p q (x ∷ xs) = swap_first p q x xs (filter_swap p q xs) (p x) (q x) refl refl

-- where nothing passes after what fails, what passes are the first
pub firsts_by_test : {X : Type 0} (test : X → Bool) (xs : List X) → ((earlier later : List X) (x : X) → xs ≡ earlier ++ x ∷ later → test x ≡ false → filter test later ≡ []) → (later : List X) × (xs ≡ filter test xs ++ later)
firsts_by_test test [] none = ([], refl)
firsts_by_test test (x ∷ xs) none =
    elim (test x) as (λ b. test x ≡ b → (later : List _) × (x ∷ xs ≡ cond b (x ∷ filter test xs) (filter test xs) ++ later)) [
      | true ↦ λ passes.
          let rest = firsts_by_test test xs (λ earlier later y is fails. none (x ∷ earlier) later y (ap (λ ys. x ∷ ys) is) fails) in
          (rest.0, ap (λ ys. x ∷ ys) rest.1)
      | false ↦ λ fails. (x ∷ xs, ap (λ ys. ys ++ x ∷ xs) (sym (none [] xs x refl fails)))
    ] refl

-- ---- kept
pub kept-append : (earlier later : List HistoryEntry) (points : List Serial) → kept (earlier ++ later) points ≡ kept earlier points ++ kept later points
kept-append earlier later points = filter-append (is_kept points) earlier later

-- one more entry that the points keep, or don't
pub kept-push_yes : (earlier : List HistoryEntry) (entry : HistoryEntry) (points : List Serial) → is_kept points entry ≡ true → kept (earlier ++ entry ∷ []) points ≡ kept earlier points ++ entry ∷ []
kept-push_yes earlier entry points is = kept-append earlier (entry ∷ []) points ∙ ap (λ b. kept earlier points ++ cond b (entry ∷ []) []) is

pub kept-push_no : (earlier : List HistoryEntry) (entry : HistoryEntry) (points : List Serial) → is_kept points entry ≡ false → kept (earlier ++ entry ∷ []) points ≡ kept earlier points
kept-push_no earlier entry points is = kept-append earlier (entry ∷ []) points ∙ ap (λ b. kept earlier points ++ cond b (entry ∷ []) []) is ∙ append-nil _

pub kept_again : (history : List HistoryEntry) (points : List Serial) → kept (kept history points) points ≡ kept history points
kept_again history points = filter_by_more (is_kept points) (is_kept points) (λ entry is. is) history

-- what points have kept is kept by points that they are at most
pub kept_by_more : (history : List HistoryEntry) (points later : List Serial) → AreAtMost points later → kept (kept history points) later ≡ kept history points
kept_by_more history points later within = filter_by_more (is_kept points) (is_kept later) still history
  where
    still : (entry : HistoryEntry) → is_kept points entry ≡ true → is_kept later entry ≡ true
    still entry is = grind (arith, nat_tests, within entry.session)

-- each kept entry's serial is at most its session's point
pub kept_at_most : (history : List HistoryEntry) (points : List Serial) → All (λ entry. entry.serial.0 ≤ point_of points entry.session) (kept history points)
kept_at_most history points = All-weaker _ _ (λ entry is. leb-true entry.serial.0 (point_of points entry.session) is) _ (filter_passes (is_kept points) history)

-- points that agree keep the same
pub kept_by_same_points : (history : List HistoryEntry) (points others : List Serial) → ((session : ℕ) → point_of points session ≡ point_of others session) → kept history points ≡ kept history others
kept_by_same_points [] points others same = refl
kept_by_same_points (entry ∷ later) points others same =
    ap (λ b. cond b (entry ∷ kept later points) (kept later points)) (ap (λ n. nat_le entry.serial.0 n) (same entry.session))
    ∙ ap (λ rest. cond (is_kept others entry) (entry ∷ rest) rest) (kept_by_same_points later points others same)

-- points that no serial is above keep the whole history
pub kept_all : (history : List HistoryEntry) (points : List Serial) → ((session : ℕ) → greatest_serial history session ≤ point_of points session) → kept history points ≡ history
kept_all [] points covers = refl
kept_all (entry ∷ later) points covers =
    let here : entry.serial.0 ≤ point_of points entry.session = grind (arith, nat_tests, covers entry.session) in
    let after : (session : ℕ) → greatest_serial later session ≤ point_of points session = λ session. grind (arith, nat_tests, covers session) in
    cond-true (is_kept points entry) _ _ (le-leb _ _ here) ∙ ap (λ rest. entry ∷ rest) (kept_all later points after)

-- a count over two histories is the sum of the counts
pub count-append : (test : HistoryEntry → Bool) (earlier later : List HistoryEntry) → count_by test (earlier ++ later) ≡ count_by test earlier + count_by test later
count-append test earlier later = sum_by-append (λ entry. cond (test entry) 1 0) earlier later

pub count-push : (test : HistoryEntry → Bool) (earlier : List HistoryEntry) (entry : HistoryEntry) → count_by test (earlier ++ entry ∷ []) ≡ count_by test earlier + cond (test entry) 1 0
count-push test earlier entry = sum_by_push (λ entry. cond (test entry) 1 0) earlier entry

-- what holds of each entry holds of each that is kept
pub All-kept : (P : HistoryEntry → Type 0) (history : List HistoryEntry) (points : List Serial) → All P history → All P (kept history points)
All-kept P history points all = All-filter (is_kept points) P history all
