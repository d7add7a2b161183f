-- The shares that an actor has, before its steps and behind them, and how many there can be.
use Rattle.std.proofs.Common.{◌≡◌, ℕ, ◌+◌, ◌-◌, ◌^◌, ◌<◌, ◌≤◌, refl, ap, arith, List, [], ◌∷◌, length, Bool, true, false, eqb-true}
use Rattle.std.specs.Prelude.{if◌then◌else◌, ◌==◌, ◌&&◌}
use Rattle.std.proofs.lemmas.Bool.Decides.{nat_tests}
use Rattle.fkv_words.specs.Fields.{bit_of}
use Rattle.fkv_plane.specs.declared.asks.Ask.TheVariants.{Done}
use Rattle.fkv_plane.specs.Passing.{passed}
use Rattle.fkv_latch.specs.declared.latching.LatchAnswer.TheVariants.{Taken, Busy}
use Rattle.fkv_latch.specs.declared.latching.LatchTask.{LatchTask}
use Rattle.fkv_latch.specs.declared.latching.LatchTask.TheVariants.{TakeShared, DropShared, TakeExclusive, DropExclusive}
use Rattle.fkv_latch.specs.declared.latching.Latching.{Latching}
use Rattle.fkv_latch.specs.declared.latching.Latching.TheVariants.{AtRest, AddsShare, GivesBack, DropsShare, LoadsWord, SetsExclusive, DropsExclusive}
use Rattle.fkv_latch.specs.Latching.{one_share, latch_ask, latch_next, latch_next_ask, is_exclusive, is_free}
use Rattle.fkv_latch.specs.LatchWorld.{LatchActor, times, without, begun_by, given, replied}
use Rattle.fkv_latch.specs.Latched.{shares_of}
use Rattle.law_world.specs.Below.fkv_pending.PendingRequest.{PendingRequest}
use Rattle.law_world.specs.Below.fkv_session.Told.{Told}
use Rattle.law_world.specs.Below.fkv_session.Sessions.{Seat, bits_of}
use Rattle.law_world.specs.Below.fkv_session.Shares.{added_by, latch_of, sharing}

abbrev pub actor_of : Latching → List ℕ → List ℕ → LatchActor
actor_of step shared exclusive = record { step = step; shared = shared; exclusive = exclusive }

-- a step of its machine changes what an actor has by just what it adds
pub replied_shares : (step : Latching) (shared exclusive : List ℕ) (reply at : ℕ) (told : Told)
    → shares_of at (actor_of step shared exclusive) + added_by one_share at (passed (latch_ask step) told)
    ≡ shares_of at (replied (actor_of step shared exclusive) reply) + added_by (2 ^ 64 - one_share) at (passed (latch_ask step) told)
unfolding latch_ask latch_next latch_next_ask passed
replied_shares AtRest shared exclusive reply at told = refl
replied_shares (AddsShare q) shared exclusive reply at told = by_word (is_exclusive reply)
  where
    by_word : (b : Bool) → times at shared + 0 + bit_of (q == at) ≡ shares_of at (given (AddsShare q) (if b then latch_ask (GivesBack q) else Done Taken) (actor_of (if b then GivesBack q else AtRest) shared exclusive)) + 0
    by_word true = omega arith
    by_word false = omega arith
replied_shares (GivesBack q) shared exclusive reply at told = omega arith
replied_shares (DropsShare q) shared exclusive reply at told = omega arith
replied_shares (LoadsWord q) shared exclusive reply at told = by_word (is_free reply)
  where
    by_word : (b : Bool) → times at shared + 0 + 0 ≡ shares_of at (given (LoadsWord q) (if b then latch_ask (SetsExclusive q reply) else Done Busy) (actor_of (if b then SetsExclusive q reply else AtRest) shared exclusive)) + 0
    by_word true = refl
    by_word false = refl
replied_shares (SetsExclusive q word) shared exclusive reply at told = by_word (reply == word)
  where
    by_word : (b : Bool) → times at shared + 0 + 0 ≡ shares_of at (given (SetsExclusive q word) (Done (if b then Taken else Busy)) (actor_of AtRest shared exclusive)) + 0
    by_word true = refl
    by_word false = refl
replied_shares (DropsExclusive q) shared exclusive reply at told = omega arith

-- what is left without one of them
pub without_times : (p q : ℕ) (xs : List ℕ) → 0 < times q xs → times p (without q xs) + bit_of (q == p) ≡ times p xs
without_times p q [] some = absurd (omega (arith, some))
without_times p q (x ∷ xs) some = cases (x == q) refl (λ fewer. without_times p q xs fewer)
  where
    cases : (b : Bool) → (x == q) ≡ b → (0 < times q xs → times p (without q xs) + bit_of (q == p) ≡ times p xs)
        → times p (if b then xs else x ∷ without q xs) + bit_of (q == p) ≡ bit_of (x == p) + times p xs
    cases true e further = let same : x ≡ q = eqb-true x q e in rw same (omega arith)
    cases false e further = let rest = further (omega (arith, rw e at some)) in omega (arith, rest)

without_length : (q : ℕ) (xs : List ℕ) → 0 < times q xs → length (without q xs) + 1 ≡ length xs
without_length q [] some = absurd (omega (arith, some))
without_length q (x ∷ xs) some = cases (x == q) refl (λ fewer. without_length q xs fewer)
  where
    cases : (b : Bool) → (x == q) ≡ b → (0 < times q xs → length (without q xs) + 1 ≡ length xs)
        → length (if b then xs else x ∷ without q xs) + 1 ≡ length (x ∷ xs)
    cases true e further = omega arith
    cases false e further = let rest = further (omega (arith, rw e at some)) in omega (arith, rest)

same_same : (a : ℕ) → bit_of (a == a) ≡ 1
same_same a = let e : (a == a) ≡ true = grind (arith, nat_tests) in ap bit_of e

-- who has each place no more often has no more of them
pub no_longer : (xs ys : List ℕ) → ((p : ℕ) → times p xs ≤ times p ys) → length xs ≤ length ys
no_longer [] ys fewer = omega arith
no_longer (x ∷ xs) ys fewer =
    let first = fewer x in
    let one = same_same x in
    let some : 0 < times x ys = omega (arith, first, one) in
    let shorter = without_length x ys some in
    let rest = no_longer xs (without x ys) (λ p. let its = fewer p in let left = without_times p x ys some in omega (arith, its, left)) in
    omega (arith, rest, shorter)

-- a task that begins leaves an actor what it has
pub begun_shares : (task : LatchTask) (place at : ℕ) (shared exclusive : List ℕ) → (task ≡ DropShared → 0 < times place shared)
    → shares_of at (begun_by task place (actor_of AtRest shared exclusive)) ≡ shares_of at (actor_of AtRest shared exclusive)
begun_shares TakeShared place at shared exclusive some = refl
begun_shares DropShared place at shared exclusive some = let its = without_times at place shared (some refl) in omega (arith, its)
begun_shares TakeExclusive place at shared exclusive some = refl
begun_shares DropExclusive place at shared exclusive some = refl

-- the latches that requests share, one by one
abbrev pub shared_by : Seat → List PendingRequest → List ℕ
shared_by k [] = []
shared_by k (pending ∷ rest) = if pending.request.has_latch then latch_of k.places (bits_of k) pending.request.op ∷ shared_by k rest else shared_by k rest

pub shared_times : (k : Seat) (at : ℕ) (requests : List PendingRequest) → times at (shared_by k requests) ≡ sharing k at requests
shared_times k at [] = refl
shared_times k at (pending ∷ rest) = by_latch pending.request.has_latch (shared_times k at rest)
  where
    by_latch : (b : Bool) → times at (shared_by k rest) ≡ sharing k at rest → times at (if b then latch_of k.places (bits_of k) pending.request.op ∷ shared_by k rest else shared_by k rest) ≡ bit_of (b && latch_of k.places (bits_of k) pending.request.op == at) + sharing k at rest
    by_latch true behind = ap (λ n. bit_of (latch_of k.places (bits_of k) pending.request.op == at) + n) behind
    by_latch false behind = omega (arith, behind)

pub shared_few : (k : Seat) (requests : List PendingRequest) → length (shared_by k requests) ≤ length requests
shared_few k [] = omega arith
shared_few k (pending ∷ rest) = by_latch pending.request.has_latch (shared_few k rest)
  where
    by_latch : (b : Bool) → length (shared_by k rest) ≤ length rest → length (if b then latch_of k.places (bits_of k) pending.request.op ∷ shared_by k rest else shared_by k rest) ≤ length (pending ∷ rest)
    by_latch true behind = omega (arith, behind)
    by_latch false behind = omega (arith, behind)
