-- If nobody holds a latch alone, or is dropping it, its word has no bit 63.
use Rattle.std.proofs.Common.{◌≡◌, ℕ, zero, suc, ◌<◌, ◌^◌, ◌∙◌, refl, sym, ap, subst, arith, List, [], ◌∷◌, length, Bool, true, false}
use Rattle.std.specs.Prelude.{Option, Some, None, if◌then◌else◌, ◌==◌, slice_get, slice_set, sum_by, replicate}
use Rattle.std.proofs.lemmas.Bool.Decides.{nat_tests}
use Rattle.std.proofs.lemmas.List.Sums.{sum_by-cons}
use Rattle.fkv_words.specs.declared.bucket_tail.BucketTail.{BucketTail}
use Rattle.fkv_words.specs.Fields.{bit_of}
use Rattle.fkv_words.specs.Layout.{tail_word}
use Rattle.fkv_plane.specs.declared.places.Places.{Places}
use Rattle.fkv_plane.specs.Asked.{word_at}
use Rattle.fkv_epoch.proofs.Shown.{item_within}
use Rattle.fkv_latch.specs.declared.latching.Latching.{Latching}
use Rattle.fkv_latch.specs.declared.latching.Latching.TheVariants as latching
use Rattle.fkv_latch.specs.declared.latching.LatchTask.{LatchTask}
use Rattle.fkv_latch.specs.Latched.{AreCounted, bits_of, opening, set_bits}
use Rattle.fkv_latch.specs.Latching.{is_exclusive}
use Rattle.fkv_latch.specs.LatchWorld.{Begins, Changes, LatchActor, LatchEvent, LatchWorld, Moves, begun, begun_by, has_latch, is_barred, latch_happens, latch_run, may_begin, moved, times}
use Rattle.law_refine.specs.Below.fkv_session.Sessions.{SessionState}
use Rattle.law_refine.specs.Below.fkv_world.Opened.{HasBecome, IsOpenedWorld}
use Rattle.law_refine.specs.Below.fkv_world.Runs.{World, run}
use Rattle.law_refine.specs.Below.fkv_world.World.{Event}
use Rattle.law_refine.proofs.Below.fkv_world.Shown.{session_runs}
use Rattle.law_refine.specs.Latches.LatchEvents.{mapped}
use Rattle.law_refine.specs.Latches.Latchers.{session_alone, session_latching}
use Rattle.law_refine.specs.Latches.Shows.{Shows, seen_by_latches}

-- ---- there are as many actors as sessions
set_length : {A : Type 0} (xs : List A) (i : ℕ) (x : A) → length (slice_set xs i x) ≡ length xs
set_length [] i x = refl
set_length (y ∷ rest) zero x = refl
set_length (y ∷ rest) (suc i) x = ap (λ n. suc n) (set_length rest i x)

abbrev Keeps : LatchWorld → LatchWorld → Type 0
Keeps w v = length v.actors ≡ length w.actors

either_keeps : (b : Bool) (w u v : LatchWorld) → Keeps w u → Keeps w v → Keeps w (if b then u else v)
either_keeps true w u v one other = one
either_keeps false w u v one other = other

begun_keeps : (w : LatchWorld) (i : ℕ) (task : LatchTask) (place : ℕ) (found : Option LatchActor) → Keeps w (begun w i task place found)
begun_keeps w i task place None = refl
begun_keeps w i task place (Some a) = either_keeps (may_begin w.places i task place a) w _ w (set_length w.actors i (begun_by task place a)) refl

moved_keeps : (w : LatchWorld) (i : ℕ) (found : Option LatchActor) → Keeps w (moved w i found)
moved_keeps w i None = refl
moved_keeps w i (Some a) = set_length w.actors i _

happens_keeps : (w : LatchWorld) (event : LatchEvent) → Keeps w (latch_happens w event)
unfolding latch_happens
happens_keeps w (Begins i task place) = begun_keeps w i task place (slice_get w.actors i)
happens_keeps w (Moves i) = moved_keeps w i (slice_get w.actors i)
happens_keeps w (Changes place word) = either_keeps (is_barred w place word) w w _ refl refl

run_keeps : (w : LatchWorld) (events : List LatchEvent) → Keeps w (latch_run w events)
unfolding latch_run
run_keeps w [] = refl
run_keeps w (event ∷ before) = happens_keeps (latch_run w before) event ∙ run_keeps w before

replicate_length : {A : Type 0} (n : ℕ) (x : A) → length (replicate n x) ≡ n
replicate_length zero x = refl
replicate_length (suc n) x = ap (λ m. suc m) (replicate_length n x)

item_there : {A : Type 0} (xs : List A) (i : ℕ) → i < length xs → (x : A) × (slice_get xs i ≡ Some x)
item_there [] i low = absurd (omega (arith, low))
item_there (x ∷ rest) zero low = (x, refl)
item_there (x ∷ rest) (suc i) low = item_there rest i (omega (arith, low))

record ItsSession (first : World) (events : List Event) (i : ℕ) : Type 0 where
  pub was : SessionState
  pub its : SessionState
  pub became : HasBecome first events i was its

its_session : (first : World) (events : List Event) (i : ℕ) (a : LatchActor) → IsOpenedWorld first → slice_get (seen_by_latches first events).actors i ≡ Some a → ItsSession first events i
its_session first events i a opened got =
    let count : ℕ = length first.now.sessions in
    let within = item_within (seen_by_latches first events).actors i a got in
    let same = run_keeps (opening first.now.places count first.now.words) (mapped first events) in
    let many = replicate_length {A = LatchActor} count (record { step = latching.AtRest; shared = []; exclusive = [] }) in
    let there = item_there first.now.sessions i (omega (arith, within, same, many)) in
    record { was = there.0; its = _; became = record { opened = opened; was = there.1; is_now = session_runs first i there.0 events there.1 } }

-- ---- none has set the bit
no_bits : (f : LatchActor → ℕ) (actors : List LatchActor) → ((i : ℕ) (a : LatchActor) → slice_get actors i ≡ Some a → f a ≡ 0) → sum_by f actors ≡ 0
no_bits f [] none = refl
no_bits f (a ∷ others) none = omega (arith, sum_by-cons f a others, none 0 a refl, no_bits f others (λ i b got. none (suc i) b got))

clear_word : (tail : BucketTail) (word : ℕ) → word ≡ tail_word tail → bit_of tail.exclusive ≡ 0 → is_exclusive word ≡ false
clear_word tail word its clear = let low : word < 2 ^ 63 = omega (arith, its, clear, tail.overflow_fits, tail.shared_fits) in grind (arith, nat_tests, low)

not_some : (n : ℕ) → (0 < n → ⊥) → n ≡ 0
not_some zero none = refl
not_some (suc n) none = absurd (none (omega arith))

-- what a session does with the latch at a place that sets the bit there
abbrev pub HoldsNone : Places → ℕ → SessionState → Type 0
HoldsNone p place its = (0 < times place (session_alone p its) → ⊥) × (session_latching its ≡ latching.DropsExclusive place → ⊥)

drops_none : (place : ℕ) (step : Latching) → (step ≡ latching.DropsExclusive place → ⊥) → set_bits place step ≡ 0
drops_none place (latching.DropsExclusive at) none = by_place (at == place) refl
  where
    by_place : (b : Bool) → (at == place) ≡ b → bit_of b ≡ 0
    by_place true e = let same : at ≡ place = grind (arith, nat_tests, e) in absurd (none (ap (λ q. latching.DropsExclusive q) same))
    by_place false e = refl
drops_none place step none = refl

pub no_bit : (first : World) (events : List Event) (place : ℕ) → IsOpenedWorld first → Shows (run first events).now (seen_by_latches first events) → AreCounted (seen_by_latches first events) → has_latch (run first events).now.places place ≡ true
    → ((session : ℕ) (was its : SessionState) → HasBecome first events session was its → HoldsNone (run first events).now.places place its) → is_exclusive (word_at (run first events).now.words place) ≡ false
no_bit first events place opened shows counted has none =
    let its = counted place (subst (λ (p : Places). has_latch p place ≡ true) (sym shows.places) has) in
    let sum = no_bits (bits_of place) (seen_by_latches first events).actors each in
    let bit = its.its_bit in
    subst (λ (words : List ℕ). is_exclusive (word_at words place) ≡ false) shows.words (clear_word its.tail (word_at (seen_by_latches first events).words place) its.its_word (omega (arith, bit, sum)))
  where
    each : (i : ℕ) (a : LatchActor) → slice_get (seen_by_latches first events).actors i ≡ Some a → bits_of place a ≡ 0
    each i a got =
        let here = its_session first events i a opened got in
        let seat = shows.actors i here.its here.became.is_now in
        let same : a ≡ seat.actor = let both : Some a ≡ Some seat.actor = sym got ∙ seat.got in cc in
        let free = none i here.was here.its here.became in
        let alone = not_some (times place seat.actor.exclusive) (λ some. free.0 (subst (λ (xs : List ℕ). 0 < times place xs) seat.its.alone some)) in
        let drops = drops_none place seat.actor.step (λ e. free.1 (sym seat.its.step ∙ e)) in
        rw same (omega (arith, alone, drops))
