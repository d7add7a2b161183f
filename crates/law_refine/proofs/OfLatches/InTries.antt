-- What a session's actor shares of a latch while a call is in hand.
use Rattle.std.proofs.Common.{◌≡◌, ◌<◌, ℕ, zero, suc, ◌+◌, ◌∙◌, List, [], ◌∷◌, refl, arith, ap, sym, subst, Bool, true, false}
use Rattle.std.specs.Prelude.{Some, ◌==◌, if◌then◌else◌, slice_get}
use Rattle.std.specs.List.{remove}
use Rattle.fkv_words.specs.Fields.{bit_of}
use Rattle.fkv_latch.specs.declared.latching.Latching.{Latching}
use Rattle.fkv_latch.specs.declared.latching.Latching.TheVariants.{AddsShare, GivesBack}
use Rattle.fkv_latch.specs.LatchWorld.{LatchActor, LatchWorld, has_latch, times}
use Rattle.fkv_latch.specs.Latched.{added_shares, shares_of}
use Rattle.fkv_latch.proofs.Shown.{sound_apart}
use Rattle.fkv_plane.specs.declared.places.Places.{Places}
use Rattle.law_world.specs.Below.fkv_ops.TheTrying.{Trying}
use Rattle.law_world.specs.Below.fkv_ops.TheTrying.TheVariants.{TakesShared, TakesExclusive, DropsExclusive, DropsShared}
use Rattle.law_world.specs.Below.fkv_ops.Trying.{TryState}
use Rattle.law_world.proofs.Below.fkv_ops.Shown.{shares_owed}
use Rattle.law_world.specs.Below.fkv_pending.TheAttempting.{Attempting}
use Rattle.law_world.specs.Below.fkv_pending.TheAttempting.TheVariants.{Tries}
use Rattle.law_world.specs.Below.fkv_pending.PendingRequest.{PendingRequest}
use Rattle.law_world.specs.Below.fkv_pending.Attempting.{AttemptState}
use Rattle.law_world.specs.Below.fkv_session.Catching.{Catching}
use Rattle.law_world.specs.Below.fkv_session.Catching.TheVariants.{Latches}
use Rattle.law_world.specs.Below.fkv_session.Sitting.{Sitting}
use Rattle.law_world.specs.Below.fkv_session.Sitting.TheVariants.{Attempts, CatchesUp, Polls}
use Rattle.law_world.specs.Below.fkv_session.CatchingUp.{CatchState}
use Rattle.law_world.specs.Below.fkv_session.Sessions.{SessionState, Seat, bits_of}
use Rattle.law_world.specs.Below.fkv_session.Shares.{HasItsBuckets, is_sharing, latch_of, sharing}
use Rattle.law_world.proofs.Below.fkv_session.Shown.{Book, KnowsShare, StepShares, owed_at, owed_in, there}
use Rattle.law_world.specs.Below.fkv_world.World.{Now, seat_at}
use Rattle.law_refine.specs.Latches.InTries.{HasItsShares, attempt_held, attempt_shares, caught_shares, met_at, own_shares, session_held, session_shares, try_shares}
use Rattle.law_refine.specs.Latches.Latchers.{attempt_latching, catch_latching, its_latch, session_alone, sitting_latching, try_latching}
use Rattle.law_refine.proofs.OfLatches.AttemptLatches.{AttemptKnows}
use Rattle.law_refine.proofs.OfLatches.CatchLatches.{CatchKnows, TakesAShare}
use Rattle.law_refine.proofs.OfLatches.Needs.{same_latch}
use Rattle.law_refine.proofs.OfLatches.Seats.{Sits, book, shares_at}
use Rattle.law_refine.proofs.OfLatches.SessionLatches.{SittingKnows}
use Rattle.law_refine.proofs.OfLatches.TryLatches.{Adds, Gives, Loads, Sets, TryKnows}
use Rattle.law_refine.proofs.OfLatches.Worlds.{Holds}

-- ---- what is owed is what is shared
same_step : (t : TryState) (step : Trying) → shares_owed (record t { step = step }) ≡ try_shares t step
same_step t TakesShared = refl
same_step t (DropsExclusive its) = refl
same_step t (DropsShared its) = refl
same_step t step = refl

same_try : (t : TryState) → shares_owed t ≡ try_shares t t.step
same_try t = same_step t t.step

same_attempt : (a : AttemptState) (step : Attempting) → owed_in a step ≡ attempt_shares a step
same_attempt a Tries = same_try a.trial
same_attempt a step = refl

same_own : (at : Bool) (m n : ℕ) → m ≡ n → there at m ≡ (if at then n else 0)
same_own true m n e = e
same_own false m n e = refl

own_owed : (k : Seat) (place : ℕ) (a : AttemptState) → there (latch_of k.places (bits_of k) a.pending.request.op == place) (owed_in a a.step) ≡ own_shares k place a
own_owed k place a = same_own (latch_of k.places (bits_of k) a.pending.request.op == place) (owed_in a a.step) (attempt_shares a a.step) (same_attempt a a.step)

same_caught : (place : ℕ) (c : CatchState) (step : Catching) → owed_at place c step ≡ caught_shares place c step
same_caught place c (Latches index) = refl
same_caught place c step = refl

-- without the request at an index
sharing_others : (k : Seat) (place : ℕ) (requests : List PendingRequest) (i : ℕ) (pending : PendingRequest) → slice_get requests i ≡ Some pending
    → sharing k place (remove requests i) + bit_of (is_sharing k place pending) ≡ sharing k place requests
sharing_others k place [] i pending got = cc
sharing_others k place (o ∷ rest) zero pending got = let same : o ≡ pending = cc in subst (λ (x : PendingRequest). sharing k place rest + bit_of (is_sharing k place x) ≡ bit_of (is_sharing k place o) + sharing k place rest) same (omega arith)
sharing_others k place (o ∷ rest) (suc i) pending got = let others = sharing_others k place rest i pending got in omega (arith, others)

-- ---- by where it is
counts_so : (k : Seat) (s : SessionState) (place added dropped shares : ℕ) (m : Book) (step : Sitting) → m.seat ≡ k → m.at ≡ place → m.added ≡ added → m.dropped ≡ dropped → StepShares m s step → added ≡ dropped + shares
    → shares ≡ session_shares m.seat m.at s step
counts_so k s place added dropped shares m (Attempts has_shifted) seat at one other its counts =
    let counted = its.counted in let own = own_owed m.seat m.at s.attempt in omega (arith, counted, own, counts, one, other)
counts_so k s place added dropped shares m (Polls i) seat at one other its counts =
    let counted = its.counted in let own = own_owed m.seat m.at s.attempt in let others = sharing_others m.seat m.at s.requests i its.pending its.got in omega (arith, counted, own, others, counts, one, other)
counts_so k s place added dropped shares m (CatchesUp cause) seat at one other its counts =
    let counted = its.counted in let caught = same_caught m.at s.catching s.catching.step in omega (arith, counted, caught, counts, one, other)
counts_so k s place added dropped shares m step seat at one other its counts =
    let counted = its.counted in omega (arith, counted, counts, one, other)

actor_shares : (k : Seat) (s : SessionState) (a : LatchActor) (place : ℕ) → Sits k s a → has_latch k.places place ≡ true → shares_of place a ≡ session_shares k place s s.step
actor_shares k s a place sits has =
    let came = sits.came in
    let m : Book = book k s a came place in
    counts_so k s place m.added m.dropped (shares_of place a) m s.step refl refl refl refl (shares_at k s a came place) (came.counts place has)

-- ---- what of it is dropped or given back
plain : (at : Bool) (n : ℕ) → (if at then n + 0 else 0) ≡ (if at then n else 0) + 0
plain true n = refl
plain false n = refl

one_more : (at : Bool) (n : ℕ) → (if at then n + 1 else 0) ≡ (if at then n else 0) + bit_of at
one_more true n = refl
one_more false n = refl

try_split : (p : Places) (t : TryState) (step : Trying) (place : ℕ) → TryKnows p t step
    → (if its_latch p t == place then try_shares t step else 0) ≡ (if its_latch p t == place then bit_of t.has_shared else 0) + added_shares place (try_latching t step)
try_split p t TakesShared place (alone, Adds same, none) = rw same (plain (its_latch p t == place) (bit_of t.has_shared))
try_split p t TakesShared place (alone, Gives same, none) = rw same (one_more (its_latch p t == place) (bit_of t.has_shared))
try_split p t (TakesExclusive old) place (alone, Loads same) = rw same (omega arith)
try_split p t (TakesExclusive old) place (alone, Sets word same) = rw same (omega arith)
try_split p t (DropsExclusive its) place knows = rw knows.1 (omega arith)
try_split p t (DropsShared its) place knows = rw knows.1 (one_more (its_latch p t == place) (bit_of t.has_shared))
try_split p t step place knows = omega arith

attempt_split : (k : Seat) (its : HasItsBuckets k) (a : AttemptState) (step : Attempting) (place : ℕ) → AttemptKnows k.places a step → KnowsShare k its a step
    → (if latch_of k.places (bits_of k) a.pending.request.op == place then attempt_shares a step else 0)
    ≡ (if latch_of k.places (bits_of k) a.pending.request.op == place then attempt_held a step else 0) + added_shares place (attempt_latching a step)
attempt_split k its a Tries place knows of = rw (same_latch k its a.pending.request.op a.trial of) (try_split k.places a.trial a.trial.step place knows.knows)
attempt_split k its a step place knows of = omega arith

latch_split : (place : ℕ) (step : Latching) → TakesAShare step → met_at place step ≡ added_shares place step
latch_split place (AddsShare at) takes = refl
latch_split place (GivesBack at) takes = refl
latch_split place step takes = absurd takes

caught_split : (place : ℕ) (c : CatchState) (step : Catching) → CatchKnows c step → caught_shares place c step ≡ added_shares place (catch_latching c step)
caught_split place c (Latches index) knows = latch_split place c.latching knows
caught_split place c step knows = refl

split_so : (m : Book) (s : SessionState) (step : Sitting) (shares held : ℕ) → SittingKnows m.seat.places s step → StepShares m s step → shares ≡ session_shares m.seat m.at s step → shares ≡ held + added_shares m.at (sitting_latching s step)
    → held ≡ session_held m.seat m.at s step
split_so m s (Attempts has_shifted) shares held knows its all parts = let split = attempt_split m.seat m.its s.attempt s.attempt.step m.at knows.knows its.known.knows in omega (arith, all, parts, split)
split_so m s (Polls i) shares held knows its all parts = let split = attempt_split m.seat m.its s.attempt s.attempt.step m.at knows.knows its.known.knows in omega (arith, all, parts, split)
split_so m s (CatchesUp cause) shares held knows its all parts = let split = caught_split m.at s.catching s.catching.step knows in omega (arith, all, parts, split)
split_so m s step shares held knows its all parts = omega (arith, all, parts)

actor_held : (k : Seat) (s : SessionState) (a : LatchActor) (place : ℕ) → Sits k s a → has_latch k.places place ≡ true → times place a.shared ≡ session_held k place s s.step
actor_held k s a place sits has =
    let came = sits.came in
    let m : Book = book k s a came place in
    split_so m s s.step (shares_of place a) (times place a.shared) sits.knows (shares_at k s a came place) (actor_shares k s a place sits has) (ap (λ (l : Latching). times place a.shared + added_shares place l) sits.step)

pub holds_in_tries : (n : Now) (w : LatchWorld) (session : ℕ) (s : SessionState) → Holds n w → slice_get n.sessions session ≡ Some s → HasItsShares n w session s
holds_in_tries n w session s holds found =
    let seat = holds.seats session s found in
    record {
      actor = seat.actor;
      got = seat.got;
      shares = λ place has. actor_shares (seat_at n session) s seat.actor place seat.sits has;
      held = λ place has. actor_held (seat_at n session) s seat.actor place seat.sits has;
    }

-- who holds it alone stands beside none
pub holds_beside_none : (n : Now) (w : LatchWorld) (place i j : ℕ) (s t : SessionState) → Holds n w → slice_get n.sessions i ≡ Some s → slice_get n.sessions j ≡ Some t → 0 < times place (session_alone n.places s)
    → session_held (seat_at n j) place t t.step ≡ 0
holds_beside_none n w place i j s t holds at other alone =
    let a = holds.seats i s at in
    let b = holds.seats j t other in
    let held : 0 < times place a.actor.exclusive = subst (λ (x : List ℕ). 0 < times place x) (sym a.sits.alone) alone in
    let there_is : has_latch w.places place ≡ true = (holds.sound.actors i a.actor a.got).of_latches place (omega (arith, held)) in
    let has : has_latch n.places place ≡ true = subst (λ (p : Places). has_latch p place ≡ true) holds.places there_is in
    sym (actor_held (seat_at n j) t b.actor place b.sits has) ∙ (sound_apart w holds.sound).from_shared place i j a.actor b.actor a.got b.got held
