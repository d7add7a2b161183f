-- One ask of an actor, and the word of a latch.
use Rattle.std.proofs.Common.{◌≡◌, ℕ, ◌+◌, ◌-◌, ◌^◌, ◌%◌, ◌<◌, ◌≤◌, List, length, refl, arith, ap, Bool, true, false, eqb-true}
use Rattle.std.specs.Prelude.{◌==◌, if◌then◌else◌, slice_set}
use Rattle.std.proofs.lemmas.Bool.Decides.{nat_tests}
use Rattle.std.proofs.lemmas.List.{get_or-set_same, get_or-set_other, set-get_or}
use Rattle.fkv_words.specs.Fields.{bit_of}
use Rattle.fkv_plane.specs.Asked.{word_at, words_after, reply_to}
use Rattle.fkv_plane.specs.declared.asks.Ask.TheVariants.{Done}
use Rattle.fkv_plane.specs.declared.places.Places.{Places}
use Rattle.fkv_plane.specs.Places.{word_count}
use Rattle.fkv_latch.specs.declared.latching.LatchAnswer.TheVariants.{Taken, Busy}
use Rattle.fkv_latch.specs.declared.latching.LatchTask.{LatchTask}
use Rattle.fkv_latch.specs.declared.latching.LatchTask.TheVariants.{TakeShared, DropShared, TakeExclusive, DropExclusive}
use Rattle.fkv_latch.specs.declared.latching.Latching.{Latching}
use Rattle.fkv_latch.specs.declared.latching.Latching.TheVariants.{AtRest, AddsShare, GivesBack, DropsShare, LoadsWord, SetsExclusive, DropsExclusive}
use Rattle.fkv_latch.specs.Latching.{is_exclusive, is_free, latch_ask, latch_next, latch_next_ask}
use Rattle.fkv_latch.specs.LatchWorld.{LatchActor, times, may_do, begun_by, given, replied}
use Rattle.fkv_latch.specs.Latched.{shares_of, bits_of}
use Rattle.fkv_latch.proofs.Counts.{Here, There, meets, without_times}
use Rattle.fkv_latch.proofs.Words.{IsAt, same_at, share_met, share_taken, share_dropped, bit_set, bit_dropped}
use Rattle.fkv_latch.proofs.Actors.{WorksOnLatch, actor_of}
use Rattle.fkv_latch.proofs.Places.{latch_within}

-- what stands at a place goes on to stand as this actor goes on, whatever the other actors have there
abbrev pub Keeps : ℕ → ℕ → ℕ → LatchActor → LatchActor → Type 0
Keeps place word word' a b = (shares bits held : ℕ) → shares_of place a + shares < 2 ^ 14 → times place a.shared + held ≤ shares_of place a + shares
    → IsAt word (shares_of place a + shares) (bits_of place a + bits) (times place a.shared + held)
    → IsAt word' (shares_of place b + shares) (bits_of place b + bits) (times place b.shared + held)

-- an actor that has nothing more and nothing less at a place
pub record SameAt (place : ℕ) (a b : LatchActor) : Type 0 where
  pub shares : shares_of place b ≡ shares_of place a
  pub bits : bits_of place b ≡ bits_of place a
  pub held : times place b.shared ≡ times place a.shared

pub same_keeps : (place word word' : ℕ) (a b : LatchActor) → word' ≡ word → SameAt place a b → Keeps place word word' a b
same_keeps place word word' a b e same shares bits held few within at =
    same_at word _ _ _ word' _ _ _ e (ap (λ n. n + shares) same.shares) (ap (λ n. n + bits) same.bits) (ap (λ n. n + held) same.held) at

pub one_here : (q : ℕ) → bit_of (q == q) ≡ 1
one_here q = elim (meets q q) [ Here same one ↦ one | There other none ↦ absurd (other refl) ]

-- the ask at its own place
abbrev KeepsAfter : ℕ → List ℕ → LatchActor → Type 0
KeepsAfter place words a = Keeps place (word_at words place) (word_at (words_after words (latch_ask a.step)) place) a (replied a (reply_to words (latch_ask a.step)))

adds_here : (q : ℕ) (words shared exclusive : List ℕ) → q < length words → KeepsAfter q words (actor_of (AddsShare q) shared exclusive)
unfolding latch_ask latch_next latch_next_ask
adds_here q words shared exclusive enough shares bits held few within at = tested (is_exclusive (word_at words q)) refl
  where
    tested : (b : Bool) → is_exclusive (word_at words q) ≡ b
        → let after = given (AddsShare q) (if b then latch_ask (GivesBack q) else Done Taken) (actor_of (if b then GivesBack q else AtRest) shared exclusive) in
        IsAt (word_at (slice_set words q ((word_at words q + 2 ^ 48) % 2 ^ 64)) q) (shares_of q after + shares) (bits_of q after + bits) (times q after.shared + held)
    tested true e =
        let set : 2 ^ 63 ≤ word_at words q = grind (arith, nat_tests, e) in
        let one = one_here q in
        same_at _ _ _ _ _ _ _ _ (get_or-set_same words q ((word_at words q + 2 ^ 48) % 2 ^ 64) 0 enough) (omega (arith, one)) refl refl
        (share_met (word_at words q) _ _ _ set few at)
    tested false e =
        let clear : word_at words q < 2 ^ 63 = grind (arith, nat_tests, e) in
        let one = one_here q in
        same_at _ _ _ _ _ _ _ _ (get_or-set_same words q ((word_at words q + 2 ^ 48) % 2 ^ 64) 0 enough) (omega (arith, one)) refl (omega (arith, one))
        (share_taken (word_at words q) _ _ _ clear few at)

gives_here : (q : ℕ) (words shared exclusive : List ℕ) → q < length words → KeepsAfter q words (actor_of (GivesBack q) shared exclusive)
unfolding latch_ask latch_next latch_next_ask
gives_here q words shared exclusive enough shares bits held few within at =
    let one = one_here q in
    same_at _ _ _ _ _ (times q shared + 0 + shares) _ _ (get_or-set_same words q ((word_at words q + (2 ^ 64 - 2 ^ 48)) % 2 ^ 64) 0 enough) (omega arith) refl refl
    (share_dropped (word_at words q) (times q shared + shares) _ _ (omega (arith, few)) (same_at _ _ _ _ (word_at words q) (times q shared + shares + 1) _ _ refl (omega (arith, one)) refl refl at))

drops_here : (q : ℕ) (words shared exclusive : List ℕ) → q < length words → KeepsAfter q words (actor_of (DropsShare q) shared exclusive)
unfolding latch_ask latch_next latch_next_ask
drops_here q words shared exclusive = gives_here q words shared exclusive

sets_here : (q word : ℕ) (words shared exclusive : List ℕ) → q < length words → word < 2 ^ 48 → KeepsAfter q words (actor_of (SetsExclusive q word) shared exclusive)
unfolding latch_ask latch_next latch_next_ask
sets_here q word words shared exclusive enough free shares bits held few within at = tested (word_at words q == word) refl
  where
    tested : (b : Bool) → (word_at words q == word) ≡ b
        → let after = given (SetsExclusive q word) (Done (if b then Taken else Busy)) (actor_of AtRest shared exclusive) in
        IsAt (word_at (slice_set words q (if b then word + 2 ^ 63 else word_at words q)) q) (shares_of q after + shares) (bits_of q after + bits) (times q after.shared + held)
    tested true e =
        let same : word_at words q ≡ word = eqb-true (word_at words q) word e in
        let one = one_here q in
        same_at _ _ _ _ _ _ _ _ (get_or-set_same words q (word + 2 ^ 63) 0 enough) refl (omega (arith, one)) refl
        (bit_set word _ _ _ free within (rw same at at))
    tested false e = rw (set-get_or words q 0) at

clears_here : (q : ℕ) (words shared exclusive : List ℕ) → q < length words → KeepsAfter q words (actor_of (DropsExclusive q) shared exclusive)
unfolding latch_ask latch_next latch_next_ask
clears_here q words shared exclusive enough shares bits held few within at =
    let one = one_here q in
    same_at _ _ _ _ _ _ (times q exclusive + 0 + bits) _ (get_or-set_same words q ((word_at words q + 2 ^ 63) % 2 ^ 64) 0 enough) refl (omega arith) refl
    (bit_dropped (word_at words q) _ (times q exclusive + bits) _ few (same_at _ _ _ _ (word_at words q) _ (times q exclusive + bits + 1) _ refl refl (omega (arith, one)) refl at))

-- an ask at another place
adds_away : (place q reply : ℕ) (shared exclusive : List ℕ) → bit_of (q == place) ≡ 0 → SameAt place (actor_of (AddsShare q) shared exclusive) (replied (actor_of (AddsShare q) shared exclusive) reply)
unfolding latch_ask latch_next latch_next_ask
adds_away place q reply shared exclusive none = tested (is_exclusive reply)
  where
    tested : (b : Bool) → SameAt place (actor_of (AddsShare q) shared exclusive) (given (AddsShare q) (if b then latch_ask (GivesBack q) else Done Taken) (actor_of (if b then GivesBack q else AtRest) shared exclusive))
    tested true = record { shares = omega (arith, none); bits = refl; held = refl }
    tested false = record { shares = omega (arith, none); bits = refl; held = omega (arith, none) }

loads_away : (place q reply : ℕ) (shared exclusive : List ℕ) → SameAt place (actor_of (LoadsWord q) shared exclusive) (replied (actor_of (LoadsWord q) shared exclusive) reply)
unfolding latch_ask latch_next latch_next_ask
loads_away place q reply shared exclusive = tested (is_free reply)
  where
    tested : (b : Bool) → SameAt place (actor_of (LoadsWord q) shared exclusive) (given (LoadsWord q) (if b then latch_ask (SetsExclusive q reply) else Done Busy) (actor_of (if b then SetsExclusive q reply else AtRest) shared exclusive))
    tested true = record { shares = refl; bits = refl; held = refl }
    tested false = record { shares = refl; bits = refl; held = refl }

sets_away : (place q word reply : ℕ) (shared exclusive : List ℕ) → bit_of (q == place) ≡ 0 → SameAt place (actor_of (SetsExclusive q word) shared exclusive) (replied (actor_of (SetsExclusive q word) shared exclusive) reply)
unfolding latch_next latch_next_ask
sets_away place q word reply shared exclusive none = tested (reply == word)
  where
    tested : (b : Bool) → SameAt place (actor_of (SetsExclusive q word) shared exclusive) (given (SetsExclusive q word) (Done (if b then Taken else Busy)) (actor_of AtRest shared exclusive))
    tested true = record { shares = refl; bits = omega (arith, none); held = refl }
    tested false = record { shares = refl; bits = refl; held = refl }

-- any ask of an actor whose machine works on a latch
pub stepped : (p : Places) (place : ℕ) (words : List ℕ) (step : Latching) (shared exclusive : List ℕ) → word_count p ≤ length words → WorksOnLatch p step → KeepsAfter place words (actor_of step shared exclusive)
unfolding latch_ask latch_next latch_next_ask
stepped p place words AtRest shared exclusive enough works = λ shares bits held few within at. at
stepped p place words (AddsShare q) shared exclusive enough works = elim (meets place q) [
  | Here same one ↦ rw same (adds_here q words shared exclusive (latch_within p q (length words) works enough))
  | There other none ↦ same_keeps place _ _ _ _ (get_or-set_other words q place _ 0 other) (adds_away place q (word_at words q) shared exclusive none)
]
stepped p place words (GivesBack q) shared exclusive enough works = elim (meets place q) [
  | Here same one ↦ rw same (gives_here q words shared exclusive (latch_within p q (length words) works enough))
  | There other none ↦ same_keeps place _ _ (actor_of (GivesBack q) shared exclusive) (actor_of AtRest shared exclusive) (get_or-set_other words q place _ 0 other) (record { shares = omega (arith, none); bits = refl; held = refl })
]
stepped p place words (DropsShare q) shared exclusive enough works = elim (meets place q) [
  | Here same one ↦ rw same (drops_here q words shared exclusive (latch_within p q (length words) works enough))
  | There other none ↦ same_keeps place _ _ (actor_of (DropsShare q) shared exclusive) (actor_of AtRest shared exclusive) (get_or-set_other words q place _ 0 other) (record { shares = omega (arith, none); bits = refl; held = refl })
]
stepped p place words (LoadsWord q) shared exclusive enough works = same_keeps place _ _ _ _ (ap (λ ws. word_at ws place) (set-get_or words q 0)) (loads_away place q (word_at words q) shared exclusive)
stepped p place words (SetsExclusive q word) shared exclusive enough works = elim (meets place q) [
  | Here same one ↦ rw same (sets_here q word words shared exclusive (latch_within p q (length words) works.0 enough) works.1)
  | There other none ↦ same_keeps place _ _ _ _ (get_or-set_other words q place _ 0 other) (sets_away place q word (word_at words q) shared exclusive none)
]
stepped p place words (DropsExclusive q) shared exclusive enough works = elim (meets place q) [
  | Here same one ↦ rw same (clears_here q words shared exclusive (latch_within p q (length words) works enough))
  | There other none ↦ same_keeps place _ _ (actor_of (DropsExclusive q) shared exclusive) (actor_of AtRest shared exclusive) (get_or-set_other words q place _ 0 other) (record { shares = refl; bits = omega (arith, none); held = refl })
]

-- and where an actor begins a task
pub begins_keeps : (at place word actor : ℕ) (task : LatchTask) (shared exclusive : List ℕ) → may_do actor task place (actor_of AtRest shared exclusive) ≡ true
    → Keeps at word word (actor_of AtRest shared exclusive) (begun_by task place (actor_of AtRest shared exclusive))
begins_keeps at place word actor TakeShared shared exclusive may = λ shares bits held few within stands. stands
begins_keeps at place word actor DropShared shared exclusive may = λ shares bits held few within stands.
    let some : 0 < times place shared = grind (arith, nat_tests, may) in
    let fewer = without_times at place shared some in
    record {
      counted = omega (arith, stands.counted, fewer);
      single = stands.single;
      apart = λ more. let none = stands.apart more in omega (arith, none, fewer);
    }
begins_keeps at place word actor TakeExclusive shared exclusive may = λ shares bits held few within stands. stands
begins_keeps at place word actor DropExclusive shared exclusive may = λ shares bits held few within stands.
    let some : 0 < times place exclusive = grind (arith, nat_tests, may) in
    let fewer = without_times at place exclusive some in
    record {
      counted = omega (arith, stands.counted, fewer);
      single = omega (arith, stands.single, fewer);
      apart = λ more. stands.apart (omega (arith, more, fewer));
    }
