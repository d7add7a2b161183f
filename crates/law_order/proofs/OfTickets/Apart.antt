-- Names of which each is there once at most are apart.
use Rattle.std.proofs.Common.{◌≡◌, ℕ, zero, suc, ◌+◌, ◌<◌, ◌≤◌, refl, sym, subst, arith, Bool, true, false, List, [], ◌∷◌}
use Rattle.std.specs.Prelude.{◌==◌, Some, slice_get}
use Rattle.std.proofs.lemmas.Bool.Decides.{nat_tests}
use Rattle.fkv_words.specs.Fields.{bit_of}
use Rattle.law_commit.specs.Below.fkv_pending.RequestName.{RequestName}
use Rattle.law_commit.specs.Below.fkv_pending.RequestName.TheVariants.{Update, Read}
use Rattle.law_commit.specs.Below.fkv_session.Accounts.{RiseWithin, is_update, number_of}
use Rattle.law_order.specs.Known.Told.{AreApart}
use Rattle.law_order.proofs.OfTickets.Tickets.{is_ticket}

-- ---- updates that rise
none_below : (low top n : ℕ) (names : List RequestName) → RiseWithin low top names → n ≤ low → number_of (is_update n) names ≡ 0
none_below low top n [] rise below = refl
none_below low top n (Update serial ∷ rest) rise below =
    let above = rise.0 in
    let others = none_below serial.0 top n rest rise.1 (omega (arith, above, below)) in
    let other : (serial.0 == n) ≡ false = grind (arith, nat_tests, above, below) in
    rw other (omega (arith, others))
none_below low top n (Read ticket ∷ rest) rise below = let others = none_below low top n rest rise below in omega (arith, others)

pub rise_once : (low top n : ℕ) (names : List RequestName) → RiseWithin low top names → number_of (is_update n) names ≤ 1
rise_once low top n [] rise = omega arith
rise_once low top n (Update serial ∷ rest) rise = by_test (rise_once serial.0 top n rest rise.1) (serial.0 == n) refl
  where
    by_test : number_of (is_update n) rest ≤ 1 → (c : Bool) → (serial.0 == n) ≡ c → bit_of c + number_of (is_update n) rest ≤ 1
    by_test once true e =
        let same : serial.0 ≡ n = grind (arith, nat_tests, e) in
        let others = none_below serial.0 top n rest rise.1 (omega (arith, same)) in
        omega (arith, others)
    by_test once false e = omega (arith, once)
rise_once low top n (Read ticket ∷ rest) rise = let others = rise_once low top n rest rise in omega (arith, others)

-- ---- where one is such, it is counted
some_such : (such : RequestName → Bool) (names : List RequestName) (i : ℕ) (name : RequestName) → slice_get names i ≡ Some name → such name ≡ true → 0 < number_of such names
some_such such [] i name got is = cc
some_such such (o ∷ rest) zero name got is =
    let same : o ≡ name = cc in
    let first : such o ≡ true = subst (λ (x : RequestName). such x ≡ true) (sym same) is in
    rw first (omega arith)
some_such such (o ∷ rest) (suc i) name got is = let more = some_such such rest i name got is in omega (arith, more)

-- so where one is such at most, it stands at one place
one_place : (such : RequestName → Bool) (names : List RequestName) (i j : ℕ) (name : RequestName) → slice_get names i ≡ Some name → slice_get names j ≡ Some name → such name ≡ true → number_of such names ≤ 1 → i ≡ j
one_place such [] i j name one other is once = cc
one_place such (o ∷ rest) zero zero name one other is once = refl
one_place such (o ∷ rest) zero (suc j) name one other is once =
    let same : o ≡ name = cc in
    let first : such o ≡ true = subst (λ (x : RequestName). such x ≡ true) (sym same) is in
    let more = some_such such rest j name other is in
    let two : 1 + number_of such rest ≤ 1 = subst (λ (c : Bool). bit_of c + number_of such rest ≤ 1) first once in
    absurd (omega (arith, more, two))
one_place such (o ∷ rest) (suc i) zero name one other is once =
    let same : o ≡ name = cc in
    let first : such o ≡ true = subst (λ (x : RequestName). such x ≡ true) (sym same) is in
    let more = some_such such rest i name one is in
    let two : 1 + number_of such rest ≤ 1 = subst (λ (c : Bool). bit_of c + number_of such rest ≤ 1) first once in
    absurd (omega (arith, more, two))
one_place such (o ∷ rest) (suc i) (suc j) name one other is once =
    let same = one_place such rest i j name one other is (omega (arith, once)) in
    omega (arith, same)

same_number : (n : ℕ) → (n == n) ≡ true
same_number n = grind (arith, nat_tests)

pub apart : (names : List RequestName) → ((n : ℕ) → number_of (is_update n) names ≤ 1) → ((n : ℕ) → number_of (is_ticket n) names ≤ 1) → AreApart names
apart names updates reads = by_name
  where
    by_name : AreApart names
    by_name i j (Update serial) one other = one_place (is_update serial.0) names i j (Update serial) one other (same_number serial.0) (updates serial.0)
    by_name i j (Read ticket) one other = one_place (is_ticket ticket.0) names i j (Read ticket) one other (same_number ticket.0) (reads ticket.0)
