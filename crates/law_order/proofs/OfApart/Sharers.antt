-- Who shares a latch is counted by it: so nobody else holds that latch alone.
use Rattle.std.proofs.Common.{◌≡◌, ◌≢◌, ℕ, zero, suc, ◌^◌, ◌<◌, refl, sym, ap, ◌∙◌, subst, arith, Bool, true, false, List, [], ◌∷◌, Some}
use Rattle.std.specs.Prelude.{◌==◌, ◌&&◌, slice_get, if◌then◌else◌}
use Rattle.std.specs.List.{remove}
use Rattle.std.proofs.lemmas.Bool.Decides.{nat_tests}
use Rattle.fkv_index.specs.declared.homes.Home.{Home}
use Rattle.fkv_index.specs.Slots.{home_of}
use Rattle.fkv_index.proofs.Shown.{homes_are_there}
use Rattle.fkv_latch.specs.LatchWorld.{times}
use Rattle.fkv_map.specs.declared.operations.Op.{Op}
use Rattle.fkv_map.specs.declared.operations.Reply.{Reply}
use Rattle.fkv_map.specs.Keys.{key_of}
use Rattle.law_commit.specs.Below.fkv_ops.TheTrying.{Trying}
use Rattle.law_commit.specs.Below.fkv_ops.TheTrying.TheVariants.{Appends}
use Rattle.law_commit.specs.Below.fkv_pending.TheAttempting.{Attempting}
use Rattle.law_commit.specs.Below.fkv_pending.TheAttempting.TheVariants.{Ended, Looks, Puts, Tries}
use Rattle.law_commit.specs.Below.fkv_pending.PendingRequest.{PendingRequest}
use Rattle.law_commit.specs.Below.fkv_pending.Attempting.{AttemptState}
use Rattle.fkv_plane.specs.declared.places.Places.{Places}
use Rattle.fkv_plane.specs.Places.{bucket_place}
use Rattle.law_commit.specs.Below.fkv_session.Sitting.{Sitting}
use Rattle.law_commit.specs.Below.fkv_session.Sitting.TheVariants.{Attempts, CatchesUp, ClearsMail, Idle, Leaves, LoadsDurable, Polls, StoresCut, StoresOwing, Turns}
use Rattle.law_commit.specs.Below.fkv_session.Accounts.{number_of}
use Rattle.fkv_words.specs.Fields.{bit_of}
use Rattle.law_commit.specs.Below.fkv_session.Sessions.{Seat, SessionState, bits_of}
use Rattle.law_commit.specs.Below.fkv_session.Shares.{is_sharing, latch_of, sharing}
use Rattle.law_apart.specs.Apart.Rows.{shares_now}
use Rattle.law_commit.specs.Below.law_local.Sessions.Known.{is_attempting}
use Rattle.law_commit.specs.Below.law_refine.Latches.InTries.{attempt_held, own_held, session_held}
use Rattle.law_commit.specs.Below.law_refine.Latches.Latchers.{attempt_alone, its_latch, session_alone, sitting_alone, try_alone}
use Rattle.law_commit.specs.Below.law_refine.Events.GhostEvents.{home_in}
use Rattle.law_commit.proofs.Below.law_refine.OfHeads.Entries.{same_home}

-- ---- lists
number_some : {A : Type 0} (such : A → Bool) (items : List A) (i : ℕ) (it : A) → slice_get items i ≡ Some it → such it ≡ true → 0 < number_of such items
number_some such [] i it got e = cc
number_some such (x ∷ rest) zero it got e = let same : x ≡ it = cc in let one : bit_of (such x) ≡ 1 = ap (λ (y : _). bit_of (such y)) same ∙ ap bit_of e in omega (arith, one)
number_some such (x ∷ rest) (suc i) it got e = let more = number_some such rest i it got e in omega (arith, more)

number_left : {A : Type 0} (such : A → Bool) (items : List A) (i j : ℕ) (it : A) → slice_get items i ≡ Some it → (i ≡ j → ⊥) → such it ≡ true → 0 < number_of such (remove items j)
number_left such [] i j it got other e = cc
number_left such (x ∷ rest) zero zero it got other e = absurd (other refl)
number_left such (x ∷ rest) (suc i) zero it got other e = number_some such rest i it got e
number_left such (x ∷ rest) zero (suc j) it got other e = let same : x ≡ it = cc in let one : bit_of (such x) ≡ 1 = ap (λ (y : _). bit_of (such y)) same ∙ ap bit_of e in omega (arith, one)
number_left such (x ∷ rest) (suc i) (suc j) it got other e = let more = number_left such rest i j it got (λ same. other (omega (arith, same))) e in omega (arith, more)

-- ---- of one session
both_so : (a : Bool) (x y : ℕ) → a ≡ true → x ≡ y → (a && x == y) ≡ true
both_so true x y e same = grind (arith, nat_tests, same)
both_so false x y e same = cc

-- one that waits, but for what is polled
waiting_held : (k : Seat) (s : SessionState) (step : Sitting) (index : ℕ) (pending : PendingRequest) → slice_get s.requests index ≡ Some pending → (step ≢ Polls index) → pending.request.has_latch ≡ true
    → 0 < session_held k (latch_of k.places (bits_of k) pending.request.op) s step
waiting_held k s step index pending got other has = by_step step other
  where
    place : ℕ
    place = latch_of k.places (bits_of k) pending.request.op

    such : is_sharing k place pending ≡ true
    such = both_so pending.request.has_latch place place has refl

    some : 0 < sharing k place s.requests
    some = number_some (is_sharing k place) s.requests index pending got such

    by_step : (x : Sitting) → (x ≢ Polls index) → 0 < session_held k place s x
    by_step (Attempts has_shifted) apart = let more = some in omega (arith, more)
    by_step (Polls i) apart = let more = number_left (is_sharing k place) s.requests index i pending got (λ same. apart (ap Polls (sym same))) such in omega (arith, more)
    by_step (CatchesUp cause) apart = some
    by_step (Idle told) apart = some
    by_step ClearsMail apart = some
    by_step (StoresOwing i) apart = some
    by_step (Turns told) apart = some
    by_step StoresCut apart = some
    by_step Leaves apart = some
    by_step LoadsDurable apart = some

-- what is attempted
held_now : (a : AttemptState) (step : Attempting) → shares_now a step ≡ true → attempt_held a step ≡ 1
held_now a Tries e = ap bit_of e
held_now a (Ended its) e = ap bit_of e
held_now a Looks e = ap bit_of e
held_now a Puts e = ap bit_of e

own_one : (k : Seat) (a : AttemptState) → shares_now a a.step ≡ true → own_held k (latch_of k.places (bits_of k) a.pending.request.op) a ≡ 1
own_one k a e =
    let place : ℕ = latch_of k.places (bits_of k) a.pending.request.op in
    let here : (place == place) ≡ true = grind (arith, nat_tests) in
    ap (λ (b : Bool). if b then attempt_held a a.step else 0) here ∙ held_now a a.step e

attempt_held_so : (k : Seat) (s : SessionState) (step : Sitting) → is_attempting step ≡ true → shares_now s.attempt s.attempt.step ≡ true → 0 < session_held k (latch_of k.places (bits_of k) s.attempt.pending.request.op) s step
attempt_held_so k s (Attempts has_shifted) attempts e = let one = own_one k s.attempt e in omega (arith, one)
attempt_held_so k s (Polls i) attempts e = let one = own_one k s.attempt e in omega (arith, one)
attempt_held_so k s step attempts e = cc

-- ---- who holds it alone
pub waits_held : (k : Seat) (s : SessionState) (index : ℕ) (pending : PendingRequest) → slice_get s.requests index ≡ Some pending → (s.step ≢ Polls index) → pending.request.has_latch ≡ true
    → 0 < session_held k (latch_of k.places (bits_of k) pending.request.op) s s.step
waits_held k s index pending got other has = waiting_held k s s.step index pending got other has

pub attempts_held : (k : Seat) (s : SessionState) → is_attempting s.step ≡ true → shares_now s.attempt s.attempt.step ≡ true → 0 < session_held k (latch_of k.places (bits_of k) s.attempt.pending.request.op) s s.step
attempts_held k s attempts e = attempt_held_so k s s.step attempts e

-- a try that makes a new record and has its latch alone
pub makes_alone : (p : Places) (s : SessionState) (its : Reply) → is_attempting s.step ≡ true → s.attempt.step ≡ Tries → s.attempt.trial.has_exclusive ≡ true → s.attempt.trial.step ≡ Appends its → 0 < times (its_latch p s.attempt.trial) (session_alone p s)
makes_alone p s its attempts tries alone at = by_sitting s.step attempts
  where
    place : ℕ
    place = its_latch p s.attempt.trial

    one : 0 < times place (place ∷ [])
    one = let here : (place == place) ≡ true = grind (arith, nat_tests) in let bit : bit_of (place == place) ≡ 1 = ap bit_of here in omega (arith, bit)

    by_try : 0 < times place (try_alone p s.attempt.trial s.attempt.trial.step)
    by_try = subst (λ (x : Trying). 0 < times place (try_alone p s.attempt.trial x)) (sym at) (subst (λ (b : Bool). 0 < times place (if b then place ∷ [] else [])) (sym alone) one)

    by_attempt : 0 < times place (attempt_alone p s.attempt s.attempt.step)
    by_attempt = subst (λ (x : Attempting). 0 < times place (attempt_alone p s.attempt x)) (sym tries) by_try

    by_sitting : (x : Sitting) → is_attempting x ≡ true → 0 < times place (sitting_alone p s x)
    by_sitting (Attempts has_shifted) e = by_attempt
    by_sitting (Polls i) e = by_attempt
    by_sitting x e = cc

-- ---- homes
-- keys of one home have one latch
pub same_latch : (p : Places) (bits : ℕ) (one other : Op) → p.buckets ≡ 2 ^ bits → home_in bits (key_of one).0 ≡ home_in bits (key_of other).0 → latch_of p bits one ≡ latch_of p bits other
same_latch p bits one other buckets same =
    ap (λ (h : Home). bucket_place p h.bucket 7)
    (same_home (home_of bits (key_of one)) (home_of bits (key_of other)) (homes_are_there p bits (key_of one) buckets).fits (homes_are_there p bits (key_of other) buckets).fits same)
