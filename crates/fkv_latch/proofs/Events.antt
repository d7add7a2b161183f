-- What one event does to the world, and to whom.
use Rattle.std.proofs.Common.{◌≡◌, ◌≢◌, ℕ, ◌<◌, ◌∙◌, List, refl, arith, ap, Bool, true, false, zero, suc, [], ◌∷◌}
use Rattle.std.specs.Prelude.{Option, Some, None, ◌==◌, ◌&&◌, not, if◌then◌else◌, slice_get, slice_set, ⊤}
use Rattle.std.proofs.lemmas.Bool.Decides.{nat_tests}
use Rattle.fkv_plane.specs.Asked.{word_at, words_after, reply_to}
use Rattle.fkv_latch.specs.declared.latching.LatchTask.{LatchTask}
use Rattle.fkv_latch.specs.Latching.{exclusive_bit, latch_ask}
use Rattle.fkv_latch.specs.LatchWorld.{LatchEvent, Begins, Moves, Changes, LatchActor, LatchWorld, has_latch, latch_of, may_begin, begun_by, begun, replied, moved, is_barred, latch_happens, latch_run, times}
use Rattle.fkv_latch.proofs.Apart.{shared_stands}
use Rattle.fkv_latch.proofs.Sound.{IsSound, run_sound}

-- a known actor makes its ask
pub moves : (w : LatchWorld) (i : ℕ) (a : LatchActor) → slice_get w.actors i ≡ Some a
    → latch_happens w (Moves i) ≡ record w { words = words_after w.words (latch_ask a.step); actors = slice_set w.actors i (replied a (reply_to w.words (latch_ask a.step))) }
unfolding latch_happens
moves w i a got = rw got refl

-- or begins what it may
pub begins : (w : LatchWorld) (i : ℕ) (task : LatchTask) (place : ℕ) (a : LatchActor) → slice_get w.actors i ≡ Some a → may_begin w.places i task place a ≡ true
    → latch_happens w (Begins i task place) ≡ record w { actors = slice_set w.actors i (begun_by task place a) }
unfolding latch_happens
begins w i task place a got may = rw (got, may) refl

-- somebody else changes a word that has no latch
pub changes_other : (w : LatchWorld) (place word : ℕ) → has_latch w.places place ≡ false → latch_happens w (Changes place word) ≡ record w { words = slice_set w.words place word }
unfolding latch_happens
changes_other w place word none = rw none refl

-- or the link of one that has
pub changes_link : (w : LatchWorld) (place word : ℕ) → latch_of word ≡ latch_of (word_at w.words place) → latch_happens w (Changes place word) ≡ record w { words = slice_set w.words place word }
unfolding latch_happens
changes_link w place word same = let e : (latch_of word == latch_of (word_at w.words place)) ≡ true = grind (arith, nat_tests, same) in tested (has_latch w.places place) (latch_of word == latch_of (word_at w.words place)) e
  where
    tested : (b c : Bool) → c ≡ true → (if b && not c then w else record w { words = slice_set w.words place word }) ≡ record w { words = slice_set w.words place word }
    tested true true h = refl
    tested false true h = refl
    tested b false h = cc

-- the event is none of this actor's
abbrev pub SparesActor : ℕ → LatchEvent → Type 0
SparesActor i (Begins actor task place) = actor ≢ i
SparesActor i (Moves actor) = actor ≢ i
SparesActor i (Changes place word) = ⊤

other_stays : {X : Type 0} (xs : List X) (i j : ℕ) (x : X) → j ≢ i → slice_get (slice_set xs j x) i ≡ slice_get xs i
other_stays [] i j x other = refl
other_stays (y ∷ ys) zero zero x other = absurd (other refl)
other_stays (y ∷ ys) zero (suc j) x other = refl
other_stays (y ∷ ys) (suc i) zero x other = refl
other_stays (y ∷ ys) (suc i) (suc j) x other = other_stays ys i j x (λ e. other (ap suc e))

-- and so it holds what it held, and is as far as it was
pub spared_stays : (w : LatchWorld) (event : LatchEvent) (i : ℕ) → SparesActor i event → slice_get (latch_happens w event).actors i ≡ slice_get w.actors i
unfolding latch_happens
spared_stays w (Begins actor task place) i other = found (slice_get w.actors actor)
  where
    found : (it : Option LatchActor) → slice_get (begun w actor task place it).actors i ≡ slice_get w.actors i
    found None = refl
    found (Some a) = tested (may_begin w.places actor task place a)
      where
        tested : (b : Bool) → slice_get (if b then record w { actors = slice_set w.actors actor (begun_by task place a) } else w).actors i ≡ slice_get w.actors i
        tested true = other_stays w.actors i actor _ other
        tested false = refl
spared_stays w (Moves actor) i other = found (slice_get w.actors actor)
  where
    found : (it : Option LatchActor) → slice_get (moved w actor it).actors i ≡ slice_get w.actors i
    found None = refl
    found (Some a) = other_stays w.actors i actor _ other
spared_stays w (Changes place word) i other = tested (is_barred w place word)
  where
    tested : (b : Bool) → slice_get (if b then w else record w { words = slice_set w.words place word }).actors i ≡ slice_get w.actors i
    tested true = refl
    tested false = refl

-- no event of the list is this actor's
abbrev pub AllSpare : ℕ → List LatchEvent → Type 0
AllSpare i [] = ⊤
AllSpare i (event ∷ before) = SparesActor i event × AllSpare i before

pub run_spared : (w : LatchWorld) (events : List LatchEvent) (i : ℕ) → AllSpare i events → slice_get (latch_run w events).actors i ≡ slice_get w.actors i
unfolding latch_run
run_spared w [] i others = refl
run_spared w (event ∷ before) i others = spared_stays (latch_run w before) event i others.0 ∙ run_spared w before i others.1

-- whatever others do, bit 63 stays clear as long as an actor shares the latch
pub stays_shared : (w : LatchWorld) (events : List LatchEvent) (place i : ℕ) (a : LatchActor) → IsSound w → slice_get w.actors i ≡ Some a → 0 < times place a.shared → AllSpare i events
    → word_at (latch_run w events).words place < exclusive_bit
stays_shared w events place i a sound got some others =
    (shared_stands (latch_run w events) place i a (run_sound w events sound) (run_spared w events i others ∙ got) some).0
