-- What stands at every moment, and that each event leaves it so.
use Rattle.std.proofs.Common.{◌≡◌, ℕ, zero, suc, ◌+◌, ◌-◌, ◌*◌, ◌^◌, ◌<◌, ◌≤◌, List, [], ◌∷◌, length, refl, arith, sym, ap, ◌∙◌, mul-zero, Bool, true, false, eqb-true, length-set}
use Rattle.std.specs.Prelude.{Option, Some, None, ◌==◌, ◌&&◌, not, if◌then◌else◌, slice_get, slice_set, replicate, sum_by}
use Rattle.std.proofs.lemmas.List.{get_or-set_same, get_or-set_other}
use Rattle.std.proofs.lemmas.List.Folds.{sum_by-replicate}
use Rattle.std.proofs.lemmas.List.Sums.{sum_by-cons, sum_by-le-sum_by}
use Rattle.fkv_base.specs.Limits.{max_sessions, max_pending}
use Rattle.fkv_words.specs.Fields.{bit_of}
use Rattle.fkv_plane.specs.declared.places.Places.{Places}
use Rattle.fkv_plane.specs.Places.{word_count}
use Rattle.fkv_plane.specs.Asked.{word_at, words_after, reply_to}
use Rattle.fkv_latch.specs.declared.latching.LatchTask.{LatchTask}
use Rattle.fkv_latch.specs.declared.latching.Latching.{Latching}
use Rattle.fkv_latch.specs.declared.latching.Latching.TheVariants.{AtRest, AddsShare, GivesBack, DropsShare, LoadsWord, SetsExclusive, DropsExclusive}
use Rattle.fkv_latch.specs.Latching.{latch_ask}
use Rattle.fkv_latch.specs.LatchWorld.{LatchEvent, Begins, Moves, Changes, LatchActor, LatchWorld, has_latch, latch_of, times, may_do, may_begin, begun_by, begun, moved, is_barred, latch_happens, latch_run}
use Rattle.fkv_latch.specs.Latched.{IsOpened, opening, shares_of, bits_of, added_shares}
use Rattle.fkv_latch.proofs.Counts.{Here, There, meets, times_all, parted}
use Rattle.fkv_latch.proofs.Words.{IsAt, same_at}
use Rattle.fkv_latch.proofs.Actors.{IsActor, in_hand, actor_of, actor_replied, actor_begun, begins_then}
use Rattle.fkv_latch.proofs.Places.{latch_within}
use Rattle.fkv_latch.proofs.Steps.{Keeps, stepped, begins_keeps}

-- how often the latch at a place is shared, by those who were answered so
abbrev pub held_of : ℕ → LatchActor → ℕ
held_of place a = times place a.shared

abbrev pub AllAre : Places → List LatchActor → Type 0
AllAre p actors = (i : ℕ) (a : LatchActor) → slice_get actors i ≡ Some a → IsActor p i a

abbrev pub StandsAt : ℕ → List LatchActor → ℕ → Type 0
StandsAt word actors place = IsAt word (sum_by (shares_of place) actors) (sum_by (bits_of place) actors) (sum_by (held_of place) actors)

pub record IsSound (w : LatchWorld) : Type 0 where
  pub enough_words : word_count w.places ≤ length w.words
  pub actors : AllAre w.places w.actors
  pub stands : (place : ℕ) → has_latch w.places place ≡ true → StandsAt (word_at w.words place) w.actors place

-- an actor shares the latch at a place no more often than it may share any
few_of_one : (p : Places) (place i : ℕ) (a : LatchActor) → IsActor p i a → shares_of place a ≤ length a.shared + in_hand a.step
few_of_one p place i a is = let all = times_all place a.shared in let one = added a.step in omega (arith, all, one)
  where
    bit : (q : ℕ) → bit_of (q == place) ≤ 1
    bit q = elim (meets place q) [ Here same one ↦ omega (arith, one) | There other none ↦ omega (arith, none) ]

    added : (step : Latching) → added_shares place step ≤ in_hand step
    added AtRest = omega arith
    added (AddsShare q) = omega arith
    added (GivesBack q) = bit q
    added (DropsShare q) = bit q
    added (LoadsWord q) = omega arith
    added (SetsExclusive q word) = omega arith
    added (DropsExclusive q) = omega arith

-- from this actor on: the sessions among them
few_from : (p : Places) (place start : ℕ) (actors : List LatchActor) → ((i k : ℕ) (a : LatchActor) → k ≡ start + i → slice_get actors i ≡ Some a → IsActor p k a)
    → sum_by (shares_of place) actors ≤ (max_pending + 1) * (max_sessions - start)
few_from p place start [] are = omega arith
few_from p place start (a ∷ others) are =
    let it = are 0 start a (omega arith) refl in
    let one = few_of_one p place start a it in
    let rest = few_from p place (start + 1) others (λ i k b e got. are (suc i) k b (omega (arith, e)) got) in
    let all = sum_by-cons (shares_of place) a others in
    grind (arith, all, one, rest, it.few, it.session)

-- so the count never comes near its last bit
pub few_shares : (p : Places) (place : ℕ) (actors : List LatchActor) → AllAre p actors → sum_by (shares_of place) actors < 2 ^ 14
few_shares p place actors are =
    let few = few_from p place 0 actors (λ i k a e got. let same : k ≡ i = omega (arith, e) in rw same (are i a got)) in
    omega (arith, few)

pub held_within : (place : ℕ) (actors : List LatchActor) → sum_by (held_of place) actors ≤ sum_by (shares_of place) actors
held_within place actors = sum_by-le-sum_by (held_of place) (shares_of place) actors (λ a. omega arith)

-- one actor goes on
pub one_stands : (p : Places) (place word word' i : ℕ) (a b : LatchActor) (actors : List LatchActor) → slice_get actors i ≡ Some a → AllAre p actors → Keeps place word word' a b
    → StandsAt word actors place → StandsAt word' (slice_set actors i b) place
one_stands p place word word' i a b actors got are keeps stands =
    let s = parted (shares_of place) actors i a b got in
    let o = parted (bits_of place) actors i a b got in
    let h = parted (held_of place) actors i a b got in
    let few = few_shares p place actors are in
    let within = held_within place actors in
    same_at _ _ _ _ _ _ _ _ refl s.after o.after h.after
    (keeps s.rest o.rest h.rest (omega (arith, few, s.before)) (omega (arith, within, s.before, h.before))
    (same_at _ _ _ _ _ _ _ _ refl (sym s.before) (sym o.before) (sym h.before) stands))

each_set : {X : Type 0} (P : ℕ → X → Type 0) (xs : List X) (i : ℕ) (x : X) → P i x → ((j : ℕ) (y : X) → slice_get xs j ≡ Some y → P j y) → (j : ℕ) (y : X) → slice_get (slice_set xs i x) j ≡ Some y → P j y
each_set P [] i x its all j y e = all j y e
each_set P (z ∷ zs) zero x its all zero y e = let same : y ≡ x = cc in rw same its
each_set P (z ∷ zs) zero x its all (suc j) y e = all (suc j) y e
each_set P (z ∷ zs) (suc i) x its all zero y e = all zero y e
each_set P (z ∷ zs) (suc i) x its all (suc j) y e = each_set (λ k. P (suc k)) zs i x its (λ k w g. all (suc k) w g) j y e

length_after : (words : List ℕ) (step : Latching) → length (words_after words (latch_ask step)) ≡ length words
unfolding latch_ask
length_after words AtRest = refl
length_after words (AddsShare place) = length-set words place _
length_after words (GivesBack place) = length-set words place _
length_after words (DropsShare place) = length-set words place _
length_after words (LoadsWord place) = length-set words place _
length_after words (SetsExclusive place word) = length-set words place _
length_after words (DropsExclusive place) = length-set words place _

moved_sound : (w : LatchWorld) (i : ℕ) (found : Option LatchActor) → slice_get w.actors i ≡ found → IsSound w → IsSound (moved w i found)
moved_sound w i None got sound = sound
moved_sound w i (Some a) got sound =
    let is = sound.actors i a got in
    let same = length_after w.words a.step in
    record {
      enough_words = omega (arith, sound.enough_words, same);
      actors = each_set (IsActor w.places) w.actors i _ (actor_replied w.places i (reply_to w.words (latch_ask a.step)) a.step a.shared a.exclusive is) sound.actors;
      stands = λ place has. one_stands w.places place _ _ i a _ w.actors got sound.actors
          (stepped w.places place w.words a.step a.shared a.exclusive sound.enough_words is.works) (sound.stands place has);
    }

begun_sound : (w : LatchWorld) (i : ℕ) (task : LatchTask) (place : ℕ) (found : Option LatchActor) → slice_get w.actors i ≡ found → IsSound w → IsSound (begun w i task place found)
begun_sound w i task place None got sound = sound
begun_sound w i task place (Some a) got sound = tested (may_begin w.places i task place a) refl
  where
    at_rest : (shared exclusive : List ℕ) → slice_get w.actors i ≡ Some (actor_of AtRest shared exclusive) → has_latch w.places place ≡ true → may_do i task place (actor_of AtRest shared exclusive) ≡ true
        → IsSound (record w { actors = slice_set w.actors i (begun_by task place (actor_of AtRest shared exclusive)) })
    at_rest shared exclusive it has may = record {
      enough_words = sound.enough_words;
      actors = each_set (IsActor w.places) w.actors i _ (actor_begun w.places i place task shared exclusive has may (sound.actors i _ it)) sound.actors;
      stands = λ at its. one_stands w.places at _ _ i _ _ w.actors it sound.actors (begins_keeps at place (word_at w.words at) i task shared exclusive may) (sound.stands at its);
    }

    tested : (b : Bool) → may_begin w.places i task place a ≡ b → IsSound (if b then record w { actors = slice_set w.actors i (begun_by task place a) } else w)
    tested true e =
        let begins = begins_then w.places i task place a e in
        let same : a ≡ actor_of AtRest a.shared a.exclusive = ap (λ step. actor_of step a.shared a.exclusive) begins.rests in
        rw same (at_rest a.shared a.exclusive (rw same at got) begins.latch (rw same at begins.may))
    tested false e = sound

-- a word that others change keeps the bits of its latch
same_latch : (w : LatchWorld) (place word at : ℕ) → word_count w.places ≤ length w.words → is_barred w place word ≡ false → has_latch w.places at ≡ true
    → latch_of (word_at (slice_set w.words place word) at) ≡ latch_of (word_at w.words at)
same_latch w place word at enough e has = elim (meets at place) [
  | Here same one ↦
      let latch : has_latch w.places place ≡ true = rw same at has in
      let kept : latch_of word ≡ latch_of (word_at w.words place) = eqb-true _ _ (unbarred (has_latch w.places place) (latch_of word == latch_of (word_at w.words place)) latch e) in
      rw same (ap latch_of (get_or-set_same w.words place word 0 (latch_within w.places place (length w.words) latch enough)) ∙ kept)
  | There other none ↦ ap latch_of (get_or-set_other w.words place at word 0 other)
]
  where
    unbarred : (b c : Bool) → b ≡ true → (b && not c) ≡ false → c ≡ true
    unbarred true true h e = refl
    unbarred true false h e = cc
    unbarred false c h e = cc

changes_sound : (w : LatchWorld) (place word : ℕ) → is_barred w place word ≡ false → IsSound w → IsSound (record w { words = slice_set w.words place word })
changes_sound w place word e sound =
    let same = length-set w.words place word in
    record {
      enough_words = omega (arith, sound.enough_words, same);
      actors = sound.actors;
      stands = λ at has.
          let stands = sound.stands at has in
          let kept = same_latch w place word at sound.enough_words e has in
          record { counted = kept ∙ stands.counted; single = stands.single; apart = stands.apart };
    }

pub happens_sound : (w : LatchWorld) (event : LatchEvent) → IsSound w → IsSound (latch_happens w event)
unfolding latch_happens
happens_sound w (Begins i task place) sound = begun_sound w i task place (slice_get w.actors i) refl sound
happens_sound w (Moves i) sound = moved_sound w i (slice_get w.actors i) refl sound
happens_sound w (Changes place word) sound = tested (is_barred w place word) refl
  where
    tested : (b : Bool) → is_barred w place word ≡ b → IsSound (if b then w else record w { words = slice_set w.words place word })
    tested true e = sound
    tested false e = changes_sound w place word e sound

pub run_sound : (w : LatchWorld) (events : List LatchEvent) → IsSound w → IsSound (latch_run w events)
unfolding latch_run
run_sound w [] sound = sound
run_sound w (event ∷ before) sound = happens_sound (latch_run w before) event (run_sound w before sound)

-- where all rest and hold nothing
abbrev pub nobody : LatchActor
nobody = actor_of AtRest [] []

is_nobody : (n i : ℕ) (a : LatchActor) → slice_get (replicate n nobody) i ≡ Some a → a ≡ nobody
is_nobody zero i a e = cc
is_nobody (suc n) zero a e = cc
is_nobody (suc n) (suc i) a e = is_nobody n i a e

nobody_has : (f : LatchActor → ℕ) (n : ℕ) → f nobody ≡ 0 → sum_by f (replicate n nobody) ≡ 0
nobody_has f n e = sum_by-replicate f n nobody ∙ ap (λ m. n * m) e ∙ mul-zero n

pub opening_sound : (places : Places) (actors : ℕ) (words : List ℕ) → IsOpened places words → IsSound (opening places actors words)
opening_sound places actors words opened = record {
  enough_words = opened.enough_words;
  actors = λ i a got. rw (is_nobody actors i a got) (record { few = omega arith; session = λ some. absurd (omega (arith, some)); of_latches = λ place some. absurd (omega (arith, some)); works = tt });
  stands = λ place has.
      let free = opened.free place has in
      same_at (word_at words place) 0 0 0 (word_at words place) _ _ _ refl (nobody_has (shares_of place) actors refl) (nobody_has (bits_of place) actors refl) (nobody_has (held_of place) actors refl)
      (record { counted = omega (arith, free); single = omega arith; apart = λ some. refl });
}
