-- As long as not all tickets have been given, each was given once at most.
use Rattle.std.proofs.Common.{◌≡◌, ℕ, suc, ◌+◌, ◌^◌, ◌<◌, ◌≤◌, inl, inr, refl, arith, Bool, true, false, List, [], ◌∷◌, length}
use Rattle.std.specs.Prelude.{◌==◌}
use Rattle.std.proofs.lemmas.Bool.Decides.{nat_tests}
use Rattle.fkv_words.specs.Fields.{bit_of}
use Rattle.law_commit.specs.Below.fkv_pending.RequestName.{RequestName}
use Rattle.law_commit.specs.Below.fkv_pending.RequestName.TheVariants.{Update, Read}
use Rattle.law_commit.specs.Below.fkv_session.Told.{Told}
use Rattle.law_commit.specs.Below.fkv_session.Told.TheVariants as told
use Rattle.law_commit.specs.Below.fkv_session.Accounts.{left_pending, number_of, with_pending}
use Rattle.law_commit.specs.Below.fkv_session.SessionRun.{Telling}
use Rattle.law_commit.specs.Below.fkv_session.Tickets.{ComeInTurn, newest_ticket, tickets_given, with_ticket}

-- an answer gives one ticket at most
given_few : (its : Told) (tickets : List ℕ) (count : ℕ) → length tickets ≤ count → length (with_ticket its tickets) ≤ suc count
given_few (told.PendingRead ticket) tickets count few = omega (arith, few)
given_few its tickets count few = omega (arith, few)

pub tickets_few : (told : List Telling) → length (tickets_given told) ≤ length told
tickets_few [] = omega arith
tickets_few (it ∷ before) = given_few it.its (tickets_given before) (length before) (tickets_few before)

-- the newest says how many there are
newest_counts : (tickets : List ℕ) → ComeInTurn tickets → length tickets < 2 ^ 64 → newest_ticket tickets ≡ length tickets
newest_counts [] turn few = refl
newest_counts (ticket ∷ before) (inl next, rest) few =
    let count = newest_counts before rest (omega (arith, few)) in
    let same = next.1 in
    omega (arith, count, same)
newest_counts (ticket ∷ before) (inr again, rest) few =
    let count = newest_counts before rest (omega (arith, few)) in
    let last = again.0 in
    absurd (omega (arith, count, last, few))

-- none is above that
none_above : (tickets : List ℕ) (n : ℕ) → ComeInTurn tickets → length tickets < 2 ^ 64 → length tickets < n → number_of (λ ticket. ticket == n) tickets ≡ 0
none_above [] n turn few above = refl
none_above (ticket ∷ before) n turn few above =
    let newest = newest_counts (ticket ∷ before) turn few in
    let rest = none_above before n turn.1 (omega (arith, few)) (omega (arith, above)) in
    let other : (ticket == n) ≡ false = grind (arith, nat_tests, newest, above) in
    rw other (omega (arith, rest))

given_once : (tickets : List ℕ) (n : ℕ) → ComeInTurn tickets → length tickets < 2 ^ 64 → number_of (λ ticket. ticket == n) tickets ≤ 1
given_once [] n turn few = omega arith
given_once (ticket ∷ before) n turn few = by_test (given_once before n turn.1 (omega (arith, few))) (ticket == n) refl
  where
    by_test : number_of (λ t. t == n) before ≤ 1 → (c : Bool) → (ticket == n) ≡ c → bit_of c + number_of (λ t. t == n) before ≤ 1
    by_test once true e =
        let same : ticket ≡ n = grind (arith, nat_tests, e) in
        let newest = newest_counts (ticket ∷ before) turn few in
        let rest = none_above before n turn.1 (omega (arith, few)) (omega (arith, newest, same)) in
        omega (arith, rest)
    by_test once false e = omega (arith, once)

-- the reads that answers left pending are those whose tickets they gave
abbrev pub is_ticket : ℕ → RequestName → Bool
is_ticket n (Update serial) = false
is_ticket n (Read ticket) = ticket.0 == n

left_by : (n : ℕ) (its : Told) (names : List RequestName) (tickets : List ℕ) → number_of (is_ticket n) names ≡ number_of (λ ticket. ticket == n) tickets
    → number_of (is_ticket n) (with_pending its names) ≡ number_of (λ ticket. ticket == n) (with_ticket its tickets)
left_by n (told.Pending serial why) names tickets e = omega (arith, e)
left_by n (told.PendingRead ticket) names tickets e = omega (arith, e)
left_by n its names tickets e = e

left_given : (n : ℕ) (told : List Telling) → number_of (is_ticket n) (left_pending told) ≡ number_of (λ ticket. ticket == n) (tickets_given told)
left_given n [] = refl
left_given n (it ∷ before) = left_by n it.its (left_pending before) (tickets_given before) (left_given n before)

-- so one at most was left pending for a ticket
pub left_once : (told : List Telling) (n : ℕ) → ComeInTurn (tickets_given told) → length (tickets_given told) < 2 ^ 64 → number_of (is_ticket n) (left_pending told) ≤ 1
left_once told n turn few =
    let same = left_given n told in
    let once = given_once (tickets_given told) n turn few in
    omega (arith, same, once)
