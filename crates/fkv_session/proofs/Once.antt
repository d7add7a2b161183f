-- Each serial that was given is answered once.
use Rattle.std.proofs.Common.{◌≡◌, ℕ, ◌+◌, ◌<◌, ◌≤◌, zero, suc, List, [], ◌∷◌, length, refl, arith, ap, Bool, true, false}
use Rattle.std.specs.Prelude.{◌==◌}
use Rattle.std.proofs.lemmas.Bool.Decides.{nat_tests}
use Rattle.fkv_words.specs.Fields.{bit_of}
use Rattle.fkv_pending.specs.declared.pending_requests.RequestName.{RequestName}
use Rattle.fkv_session.specs.declared.answers.Finished.{Finished}
use Rattle.fkv_session.specs.declared.answers.Told.{Told}
use Rattle.fkv_session.specs.declared.answers.Told.TheVariants as told
use Rattle.fkv_session.specs.SessionRun.{Telling}
use Rattle.fkv_session.specs.Accounts.{serials_given, serials_after, with_serial, with_pending, done_before, left_pending, serials_done, number_of, is_update, IsAnsweredOnce}
use Rattle.fkv_session.proofs.Books.{AreBooksKept}

none_above : (first count n : ℕ) → first + count < n → number_of (λ s. s == n) (serials_after first count) ≡ 0
none_above first zero n above = refl
none_above first (suc count) n above =
    let rest = none_above first count n (omega (arith, above)) in
    let other : (first + suc count == n) ≡ false = grind (arith, nat_tests, above) in
    rw other (omega (arith, rest))

one_within : (first count n : ℕ) → first < n → n ≤ first + count → number_of (λ s. s == n) (serials_after first count) ≡ 1
one_within first zero n above below = absurd (omega (arith, above, below))
one_within first (suc count) n above below = tested (λ less. one_within first count n above less) (first + suc count == n) refl
  where
    tested : (n ≤ first + count → number_of (λ s. s == n) (serials_after first count) ≡ 1) → (c : Bool) → (first + suc count == n) ≡ c → bit_of c + number_of (λ s. s == n) (serials_after first count) ≡ 1
    tested before true e =
        let same : first + suc count ≡ n = grind (arith, nat_tests, e) in
        let rest = none_above first count n (omega (arith, same)) in
        omega (arith, rest)
    tested before false e =
        let less : n ≤ first + count = grind (arith, nat_tests, e, below) in
        let rest = before less in
        omega (arith, rest)

parted_by : (n : ℕ) (its : Told) (serials : List ℕ) (done : List ℕ) (names : List RequestName)
    → number_of (λ s. s == n) serials ≡ number_of (λ s. s == n) done + number_of (is_update n) names
    → number_of (λ s. s == n) (with_serial its serials) ≡ number_of (λ s. s == n) (done_before its done) + number_of (is_update n) (with_pending its names)
parted_by n (told.Done serial its) serials done names e = omega (arith, e)
parted_by n (told.Pending serial why) serials done names e = omega (arith, e)
parted_by n (told.PendingRead ticket) serials done names e = omega (arith, e)
parted_by n its serials done names e = e

parted : (n : ℕ) (before : List Telling) → number_of (λ s. s == n) (serials_given before) ≡ number_of (λ s. s == n) (serials_done before) + number_of (is_update n) (left_pending before)
parted n [] = refl
parted n (it ∷ before) = parted_by n it.its (serials_given before) (serials_done before) (left_pending before) (parted n before)

pub answered_once : (first serial : ℕ) (before : List Telling) (waiting : List RequestName) (in_hand : List Finished) (n : ℕ) → AreBooksKept first serial before waiting in_hand → first < n → n ≤ serial
    → IsAnsweredOnce before waiting in_hand n
answered_once first serial before waiting in_hand n books above below =
    let counted = books.serials.counted in
    let one = one_within first (length (serials_given before)) n above (omega (arith, below, counted)) in
    let same : number_of (λ s. s == n) (serials_given before) ≡ number_of (λ s. s == n) (serials_after first (length (serials_given before))) = ap (λ (its : List ℕ). number_of (λ s. s == n) its) books.serials.in_turn in
    let both = parted n before in
    let where_it_is = books.accounts (is_update n) in
    omega (arith, one, same, both, where_it_is)
