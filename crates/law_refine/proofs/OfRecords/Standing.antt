-- What stands for a record at or above the safe read-only offset is in its frame, before an event and behind it; what is below stays.
use Rattle.std.proofs.Common.{◌≡◌, ◌≢◌, ◌⊎◌, ℕ, zero, suc, ◌+◌, ◌<◌, ◌≤◌, ◌∙◌, inl, inr, refl, sym, ap, subst, arith, Bool, true, List, [], ◌∷◌}
use Rattle.std.specs.Prelude.{Option, Some, None, slice_get, nat_lt, nat_le, ◌&&◌}
use Rattle.std.proofs.lemmas.Bool.Decides.{nat_tests}
use Rattle.fkv_epoch.proofs.Shown.{same_or, some_same, none_some}
use Rattle.fkv_plane.specs.declared.places.Places.{Places}
use Rattle.fkv_plane.specs.declared.places.RecordWord.{RecordWord}
use Rattle.fkv_plane.specs.declared.places.SharedWord.TheVariants as one
use Rattle.fkv_plane.specs.Asked.{word_at}
use Rattle.fkv_plane.specs.Places.{record_place, shared_place}
use Rattle.law_world.specs.Below.fkv_flush.GuardFlushed.{is_open, stands}
use Rattle.law_world.specs.Below.fkv_flush.GuardLevels.{levels_of}
use Rattle.law_world.specs.Below.fkv_flush.GuardWorld.{GuardNow, GuardWorld}
use Rattle.law_world.proofs.Below.fkv_flush.Shown.{stood_open}
use Rattle.law_world.specs.Below.fkv_world.Actors.{place_named}
use Rattle.law_world.specs.Below.fkv_world.Runs.{World, happens, run}
use Rattle.law_world.specs.Below.fkv_world.World.{Event, Now}
use Rattle.law_world.proofs.OfRuns.OneWord.{one_word}
use Rattle.law_world.proofs.Below.fkv_world.Shown.{places_stay}
use Rattle.law_world.specs.Guarded.GuardEvents.{mapped}
use Rattle.law_world.specs.Guarded.Shows.{IsOpened, guard_opening, seen_by_guard}
use Rattle.law_world.proofs.OfGuarded.Worlds.{life_shows}
use Rattle.law_refine.specs.Events.GhostEvents.{safe_at}
use Rattle.law_refine.specs.Events.Reserved.{tail_at}
use Rattle.law_refine.proofs.OfEvents.Fixed.{life_rises}

-- the words that stand for the record at each address
abbrev pub stands_in : World → ℕ → List Event → ℕ → RecordWord → ℕ
stands_in opening start events = stands (guard_opening opening.now start) (mapped opening events)

-- ---- the word at a place
abbrev word_in : Option ℕ → ℕ
word_in None = 0
word_in (Some word) = word

at_is : (words : List ℕ) (place : ℕ) → word_at words place ≡ word_in (slice_get words place)
at_is [] place = refl
at_is (word ∷ rest) zero = refl
at_is (word ∷ rest) (suc place) = at_is rest place

pub same_word : (words others : List ℕ) (place : ℕ) → slice_get words place ≡ slice_get others place → word_at words place ≡ word_at others place
same_word words others place same = at_is words place ∙ (ap word_in same ∙ sym (at_is others place))

-- an event that doesn't name the place leaves its word
pub unnamed_word : (w : World) (event : Event) (place : ℕ) → place_named w.now event ≢ Some place → word_at (happens w event).now.words place ≡ word_at w.now.words place
unnamed_word w event place other = same_word (happens w event).now.words w.now.words place (one_word w event place other)

named_or : (found : Option ℕ) (place : ℕ) → (found ≡ Some place) ⊎ (found ≢ Some place)
named_or None place = inr (λ e. none_some place e)
named_or (Some q) place = elim (same_or q place) [
  | inl same ↦ inl (ap Some same)
  | inr other ↦ inr (λ e. other (some_same q place e))
]

-- ---- an open address
opens : (n : GuardNow) (a : ℕ) → a < (levels_of n.words).limit → (levels_of n.words).limit ≤ a + n.places.ring → is_open n a ≡ true
opens n a below near =
    let p : nat_lt a (levels_of n.words).limit ≡ true = grind (arith, nat_tests) in
    let q : nat_le (levels_of n.words).limit (a + n.places.ring) ≡ true = grind (arith, nat_tests) in
    ap (λ (b : Bool). b && nat_le (levels_of n.words).limit (a + n.places.ring)) p ∙ q

pub stood : (opening : World) (start : ℕ) (events : List Event) (a : ℕ) (part : RecordWord) → IsOpened opening.now start → a < (levels_of (run opening events).now.words).limit
    → (levels_of (run opening events).now.words).limit ≤ a + opening.now.places.ring → stands_in opening start events a part ≡ word_at (run opening events).now.words (record_place opening.now.places a part)
stood opening start events a part opened below near =
    let n : Now = (run opening events).now in
    let w : GuardWorld = seen_by_guard opening start events in
    let shows = life_shows opening start events opened in
    let places : w.now.places ≡ opening.now.places = shows.places ∙ places_stay opening events in
    let ring : w.now.places.ring ≡ opening.now.places.ring = ap (λ (p : Places). p.ring) places in
    let limit : (levels_of w.now.words).limit ≡ (levels_of n.words).limit = ap (λ (words : List ℕ). (levels_of words).limit) shows.words in
    stood_open (guard_opening opening.now start) (mapped opening events) a part (opens w.now a (omega (arith, below, limit)) (omega (arith, near, limit, ring)))
    ∙ (ap (λ (p : Places). word_at w.now.words (record_place p a part)) places ∙ ap (λ (words : List ℕ). word_at words (record_place opening.now.places a part)) shows.words)

-- an address from the safe read-only offset up and below the tail has its frame
pub record HasFrame (n : Now) (a : ℕ) : Type 0 where
  pub safe : safe_at n ≤ a
  pub below : a < tail_at n

pub limit_near : (opening : World) (start : ℕ) (events : List Event) (a : ℕ) → IsOpened opening.now start → (levels_of (run opening events).now.words).closed ≤ a → (levels_of (run opening events).now.words).limit ≤ a + opening.now.places.ring
limit_near opening start events a opened low =
    let n : Now = (run opening events).now in
    let w : GuardWorld = seen_by_guard opening start events in
    let shows = life_shows opening start events opened in
    let cover = shows.sound.guard.cover in
    let ring : w.now.places.ring ≡ opening.now.places.ring = ap (λ (p : Places). p.ring) (shows.places ∙ places_stay opening events) in
    let limit : (levels_of w.now.words).limit ≡ (levels_of n.words).limit = ap (λ (words : List ℕ). (levels_of words).limit) shows.words in
    let closed : (levels_of w.now.words).closed ≡ (levels_of n.words).closed = ap (λ (words : List ℕ). (levels_of words).closed) shows.words in
    omega (arith, cover, ring, limit, closed, low)

-- the order of the offsets, in the words of the engine
pub record InOrder (n : Now) : Type 0 where
  pub closed : (levels_of n.words).closed ≤ safe_at n
  pub tail : tail_at n ≤ (levels_of n.words).limit

pub life_order : (opening : World) (start : ℕ) (events : List Event) → IsOpened opening.now start → InOrder (run opening events).now
life_order opening start events opened =
    let n : Now = (run opening events).now in
    let w : GuardWorld = seen_by_guard opening start events in
    let shows = life_shows opening start events opened in
    let o = shows.sound.guard.in_order in
    let i = o.closed_below in
    let j = o.head_below in
    let k = o.flushed_below in
    let t = o.tail_below in
    let lower : (levels_of w.now.words).closed ≤ (levels_of w.now.words).safe_read_only = omega (arith, i, j, k) in
    record {
      closed = subst (λ (words : List ℕ). (levels_of words).closed ≤ (levels_of words).safe_read_only) shows.words lower;
      tail = subst (λ (words : List ℕ). (levels_of words).tail ≤ (levels_of words).limit) shows.words t;
    }

-- what stands for it is in the frame
pub stood_here : (opening : World) (start : ℕ) (events : List Event) (a : ℕ) (part : RecordWord) → IsOpened opening.now start → HasFrame (run opening events).now a
    → stands_in opening start events a part ≡ word_at (run opening events).now.words (record_place opening.now.places a part)
stood_here opening start events a part opened has =
    let o = life_order opening start events opened in
    let i = o.closed in
    let t = o.tail in
    let s = has.safe in
    let b = has.below in
    stood opening start events a part opened (omega (arith, b, t)) (limit_near opening start events a opened (omega (arith, i, s)))

-- and behind an event it still is
still_near : (opening : World) (start : ℕ) (before : List Event) (event : Event) (a : ℕ) → IsOpened opening.now start → HasFrame (run opening before).now a
    → (levels_of (run opening (event ∷ before)).now.words).limit ≤ a + opening.now.places.ring
unfolding run
still_near opening start before event a opened has =
    let i : (levels_of (run opening before).now.words).closed ≤ safe_at (run opening before).now = (life_order opening start before opened).closed in
    let s : safe_at (run opening before).now ≤ a = has.safe in
    elim (named_or (place_named (run opening before).now event) (shared_place one.Limit)) [
      | inl named ↦
          let other : place_named (run opening before).now event ≢ Some (shared_place one.Closed) = λ e. let clash : Some (shared_place one.Limit) ≡ Some (shared_place one.Closed) = sym named ∙ e in cc in
          let same = unnamed_word (run opening before) event (shared_place one.Closed) other in
          limit_near opening start (event ∷ before) a opened (omega (arith, same, i, s))
      | inr other ↦
          let same = unnamed_word (run opening before) event (shared_place one.Limit) other in
          let near = limit_near opening start before a opened (omega (arith, i, s)) in
          omega (arith, same, near)
    ]

pub stood_then : (opening : World) (start : ℕ) (before : List Event) (event : Event) (a : ℕ) (part : RecordWord) → IsOpened opening.now start → HasFrame (run opening before).now a
    → stands_in opening start (event ∷ before) a part ≡ word_at (run opening (event ∷ before)).now.words (record_place opening.now.places a part)
unfolding run
stood_then opening start before event a part opened has =
    let t = (life_order opening start (event ∷ before) opened).tail in
    let rises = (life_rises opening start before (event ∷ []) opened).tail in
    let b = has.below in
    stood opening start (event ∷ before) a part opened (omega (arith, b, rises, t)) (still_near opening start before event a opened has)
