-- Steps at the tail, and the addresses that they give.
use Rattle.std.proofs.Common.{◌≡◌, ◌≢◌, ℕ, zero, suc, ◌+◌, ◌<◌, ◌≤◌, ◌⊎◌, List, [], ◌∷◌, ◌++◌, length, refl, arith, sym, ap, inl, inr, Bool, true, false, eqb-true}
use Rattle.std.specs.Prelude.{Option, Some, None, ◌==◌, ◌&&◌, ◌||◌, nat_lt, if◌then◌else◌, slice_get, slice_set, replicate, ⊤}
use Rattle.std.proofs.lemmas.Bool.Decides.{nat_tests}
use Rattle.std.proofs.lemmas.List.{length-set, get_or-set_same, get_or-set_other, set-get_or}
use Rattle.fkv_plane.specs.Asked.{words_after, reply_to}
use Rattle.fkv_log.specs.declared.reserving.Reserving.{Reserving}
use Rattle.fkv_log.specs.declared.reserving.Reserving.TheVariants.{AtRest, LoadsLimit, LoadsTail, TakesTail}
use Rattle.fkv_log.specs.declared.reserving.ReserveAnswer.TheVariants.{Reserved, Full, NoRoom, Contended}
use Rattle.fkv_plane.specs.declared.asks.Ask.TheVariants.{Done}
use Rattle.fkv_log.specs.Reserving.{reserve_ask, reserve_next, reserve_next_ask}
use Rattle.fkv_log.proofs.Asks.{within_low}
use Rattle.fkv_log.specs.Reserved.{TailEvent, Begins, Moves, Changes, Reservation, TailWorld, tail_of, limit_of, bars_tail, is_barred, IsOpened, moved, reserved_of, reserved_by, tail_happens, tail_run, opening, RiseTo, AreReservedOnce, ReservesTail, Stays}

-- a step of the machine takes the address of the tail, or leaves all as it is
pub taken_or_left : (room actor : ℕ) (words : List ℕ) (step : Reserving)
    → ReservesTail words actor (words_after words (reserve_ask step)) (reserved_by actor (reserve_next_ask room step (reply_to words (reserve_ask step))))
    ⊎ Stays words (words_after words (reserve_ask step)) (reserved_by actor (reserve_next_ask room step (reply_to words (reserve_ask step))))
unfolding reserve_ask reserve_next reserve_next_ask
taken_or_left room actor words AtRest = inr (record { words_stay = refl; no_address = refl })
taken_or_left room actor words (LoadsLimit bound) = inr (record { words_stay = set-get_or words 4 0; no_address = refl })
taken_or_left room actor words (LoadsTail limit) = inr (record { words_stay = set-get_or words 3 0; no_address = refused (nat_lt (tail_of words) limit) (tail_of words == room) })
  where
    refused : (below at_end : Bool) → reserved_by actor (if below then reserve_ask (TakesTail (tail_of words)) else Done (if at_end then Full else NoRoom)) ≡ []
    refused true at_end = refl
    refused false true = refl
    refused false false = refl
taken_or_left room actor words (TakesTail tail) = won (tail_of words == tail) refl
  where
    won : (b : Bool) → (tail_of words == tail) ≡ b
        → ReservesTail words actor (slice_set words 3 (if b then tail + 1 else tail_of words)) (reserved_by actor (Done (if b then Reserved (record { 0 = tail }) else Contended)))
        ⊎ Stays words (slice_set words 3 (if b then tail + 1 else tail_of words)) (reserved_by actor (Done (if b then Reserved (record { 0 = tail }) else Contended)))
    won true e =
        let same : tail_of words ≡ tail = eqb-true (tail_of words) tail e in
        inl (record { tail = ap (λ x. slice_set words 3 (x + 1)) (sym same); address = ap (λ x. record { actor = actor; addr = x } ∷ []) (sym same) })
    won false e = inr (record { words_stay = set-get_or words 3 0; no_address = refl })

-- a higher tail is above the same addresses
rise_more : (first tail higher : ℕ) (reserved : List Reservation) → tail ≤ higher → RiseTo first tail reserved → RiseTo first higher reserved
rise_more first tail higher [] h rise = omega (arith, h, rise)
rise_more first tail higher (r ∷ before) h rise = let low = rise.0 in (omega (arith, h, low), rise.1)

-- what an actor knows of the limit
abbrev pub Knows : ℕ → Reserving → Type 0
Knows limit (LoadsTail loaded) = loaded ≤ limit
Knows limit (TakesTail tail) = tail < limit
Knows limit step = ⊤

knows_more : (limit higher : ℕ) (step : Reserving) → limit ≤ higher → Knows limit step → Knows higher step
knows_more limit higher AtRest h k = tt
knows_more limit higher (LoadsLimit bound) h k = tt
knows_more limit higher (LoadsTail loaded) h k = omega (arith, h, k)
knows_more limit higher (TakesTail tail) h k = omega (arith, h, k)

next_knows : (words : List ℕ) (step : Reserving) → Knows (limit_of words) step → Knows (limit_of words) (reserve_next step (reply_to words (reserve_ask step)))
unfolding reserve_ask reserve_next
next_knows words AtRest k = tt
next_knows words (LoadsLimit bound) k = within_low bound (limit_of words)
next_knows words (LoadsTail loaded) k = tested (nat_lt (tail_of words) loaded) refl
  where
    tested : (b : Bool) → nat_lt (tail_of words) loaded ≡ b → Knows (limit_of words) (if b then TakesTail (tail_of words) else AtRest)
    tested true e = let low : tail_of words < loaded = grind (arith, nat_tests, e) in omega (arith, low, k)
    tested false e = tt
next_knows words (TakesTail tail) k = tt

-- a step leaves the limit, and the tail at or below it
pub record StaysBelow (words after : List ℕ) : Type 0 where
  pub same_limit : limit_of after ≡ limit_of words
  pub below : tail_of after ≤ limit_of words

stays_below : (words : List ℕ) (step : Reserving) → 4 < length words → tail_of words ≤ limit_of words → Knows (limit_of words) step → StaysBelow words (words_after words (reserve_ask step))
unfolding reserve_ask
stays_below words AtRest enough h k = record { same_limit = refl; below = h }
stays_below words (LoadsLimit bound) enough h k = rw (set-get_or words 4 0) (record { same_limit = refl; below = h })
stays_below words (LoadsTail loaded) enough h k = rw (set-get_or words 3 0) (record { same_limit = refl; below = h })
stays_below words (TakesTail tail) enough h k = won (tail_of words == tail)
  where
    won : (b : Bool) → StaysBelow words (slice_set words 3 (if b then tail + 1 else tail_of words))
    won true =
        let higher : tail_of (slice_set words 3 (tail + 1)) ≡ tail + 1 = get_or-set_same words 3 (tail + 1) 0 (omega (arith, enough)) in
        record { same_limit = get_or-set_other words 3 4 (tail + 1) 0 (omega arith); below = omega (arith, higher, k) }
    won false = rw (set-get_or words 3 0) (record { same_limit = refl; below = h })

-- what stands after every event
pub record IsSound (first : ℕ) (w : TailWorld) : Type 0 where
  pub enough_words : 4 < length w.now.words
  pub rises : RiseTo first (tail_of w.now.words) w.reserved
  pub below : tail_of w.now.words ≤ limit_of w.now.words
  pub knows : (actor : ℕ) (step : Reserving) → slice_get w.now.actors actor ≡ Some step → Knows (limit_of w.now.words) step

-- what holds of each item holds of each after one write of an item of which it holds
each_set : {X : Type 0} (P : X → Type 0) (xs : List X) (i : ℕ) (x : X) → P x → ((j : ℕ) (y : X) → slice_get xs j ≡ Some y → P y) → (j : ℕ) (y : X) → slice_get (slice_set xs i x) j ≡ Some y → P y
each_set P [] i x p all j y e = all j y e
each_set P (z ∷ zs) zero x p all zero y e = let same : y ≡ x = cc in rw same p
each_set P (z ∷ zs) zero x p all (suc j) y e = all (suc j) y e
each_set P (z ∷ zs) (suc i) x p all zero y e = all zero y e
each_set P (z ∷ zs) (suc i) x p all (suc j) y e = each_set P zs i x p (λ k w g. all (suc k) w g) j y e

step_sound : (first actor : ℕ) (words after : List ℕ) (new reserved : List Reservation) → 4 < length words → RiseTo first (tail_of words) reserved
    → ReservesTail words actor after new ⊎ Stays words after new → (4 < length after) × RiseTo first (tail_of after) (new ++ reserved)
step_sound first actor words after new reserved enough rise (inr leaves) =
    rw (leaves.words_stay, leaves.no_address) (enough, rise)
step_sound first actor words after new reserved enough rise (inl takes) =
    let tail : ℕ = tail_of words in
    let same : length (slice_set words 3 (tail + 1)) ≡ length words = length-set words 3 (tail + 1) in
    let higher : tail_of (slice_set words 3 (tail + 1)) ≡ tail + 1 = get_or-set_same words 3 (tail + 1) 0 (omega (arith, enough)) in
    rw (takes.tail, takes.address) (omega (arith, same, enough), (omega (arith, higher), rise))

moved_sound : (first : ℕ) (w : TailWorld) (actor : ℕ) (found : Option Reserving) → slice_get w.now.actors actor ≡ found → IsSound first w → IsSound first (record { now = moved w.now actor found; reserved = reserved_of w.now actor found ++ w.reserved })
moved_sound first w actor None got sound = sound
moved_sound first w actor (Some step) got sound =
    let words : List ℕ = w.now.words in
    let after : List ℕ = words_after words (reserve_ask step) in
    let known : Knows (limit_of words) step = sound.knows actor step got in
    let s = step_sound first actor words after (reserved_of w.now actor (Some step)) w.reserved sound.enough_words sound.rises (taken_or_left w.now.room actor words step) in
    let stays = stays_below words step sound.enough_words sound.below known in
    let next : Reserving = reserve_next step (reply_to words (reserve_ask step)) in
    let same = stays.same_limit in
    record {
      enough_words = s.0;
      rises = s.1;
      below = rw same stays.below;
      knows = rw same (each_set (Knows (limit_of words)) w.now.actors actor next (next_knows words step known) sound.knows);
    }

-- what others may do to the words
pub record MayChange (words after : List ℕ) : Type 0 where
  pub tail_up : tail_of words ≤ tail_of after
  pub limit_up : limit_of words ≤ limit_of after
  pub below : tail_of words ≤ limit_of words → tail_of after ≤ limit_of after

neither : (a b : Bool) → (a || b) ≡ false → (a ≡ false) × (b ≡ false)
neither false b e = (refl, e)
neither true b e = cc

may_change : (words : List ℕ) (place word : ℕ) → 4 < length words → is_barred words place word ≡ false → MayChange words (slice_set words place word)
may_change words place word enough e = cases (place == 3) (place == 4) refl refl e
  where
    at_tail : (low : bars_tail words word ≡ false) → MayChange words (slice_set words 3 word)
    at_tail low =
        let both = neither (nat_lt word (tail_of words)) (nat_lt (limit_of words) word) low in
        let not_lowered = both.0 in
        let not_past = both.1 in
        let up : tail_of words ≤ word = grind (arith, nat_tests, not_lowered) in
        let down : word ≤ limit_of words = grind (arith, nat_tests, not_past) in
        let tail : tail_of (slice_set words 3 word) ≡ word = get_or-set_same words 3 word 0 (omega (arith, enough)) in
        let limit : limit_of (slice_set words 3 word) ≡ limit_of words = get_or-set_other words 3 4 word 0 (omega arith) in
        record { tail_up = omega (arith, tail, up); limit_up = omega (arith, limit); below = λ h. omega (arith, tail, limit, down) }

    at_limit : (low : nat_lt word (limit_of words) ≡ false) → MayChange words (slice_set words 4 word)
    at_limit low =
        let up : limit_of words ≤ word = grind (arith, nat_tests, low) in
        let tail : tail_of (slice_set words 4 word) ≡ tail_of words = get_or-set_other words 4 3 word 0 (omega arith) in
        let limit : limit_of (slice_set words 4 word) ≡ word = get_or-set_same words 4 word 0 enough in
        record { tail_up = omega (arith, tail); limit_up = omega (arith, limit, up); below = λ h. omega (arith, tail, limit, up, h) }

    cases : (b c : Bool) → (place == 3) ≡ b → (place == 4) ≡ c → ((b && bars_tail words word) || (c && nat_lt word (limit_of words))) ≡ false → MayChange words (slice_set words place word)
    cases true c here other low =
        let same : place ≡ 3 = eqb-true place 3 here in
        rw same (at_tail (neither (bars_tail words word) (c && nat_lt word (limit_of words)) low).0)
    cases false true other here low =
        let same : place ≡ 4 = eqb-true place 4 here in
        rw same (at_limit low)
    cases false false not_tail not_limit low =
        let off_tail : place ≢ 3 = grind (arith, nat_tests, not_tail) in
        let off_limit : place ≢ 4 = grind (arith, nat_tests, not_limit) in
        let tail : tail_of (slice_set words place word) ≡ tail_of words = get_or-set_other words place 3 word 0 (λ e. off_tail (sym e)) in
        let limit : limit_of (slice_set words place word) ≡ limit_of words = get_or-set_other words place 4 word 0 (λ e. off_limit (sym e)) in
        record { tail_up = omega (arith, tail); limit_up = omega (arith, limit); below = λ h. omega (arith, tail, limit, h) }

changes_sound : (first : ℕ) (w : TailWorld) (place word : ℕ) → is_barred w.now.words place word ≡ false → IsSound first w
    → IsSound first (record w { now = record w.now { words = slice_set w.now.words place word } })
changes_sound first w place word e sound =
    let words : List ℕ = w.now.words in
    let after : List ℕ = slice_set words place word in
    let same : length after ≡ length words = length-set words place word in
    let change = may_change words place word sound.enough_words e in
    record {
      enough_words = omega (arith, same, sound.enough_words);
      rises = rise_more first (tail_of words) (tail_of after) w.reserved change.tail_up sound.rises;
      below = change.below sound.below;
      knows = λ actor step got. knows_more (limit_of words) (limit_of after) step change.limit_up (sound.knows actor step got);
    }

pub happens_sound : (first : ℕ) (w : TailWorld) (event : TailEvent) → IsSound first w → IsSound first (tail_happens w event)
unfolding tail_happens
happens_sound first w (Begins actor bound) sound = record {
  enough_words = sound.enough_words;
  rises = sound.rises;
  below = sound.below;
  knows = each_set (Knows (limit_of w.now.words)) w.now.actors actor (LoadsLimit bound) tt sound.knows;
}
happens_sound first w (Moves actor) sound = moved_sound first w actor (slice_get w.now.actors actor) refl sound
happens_sound first w (Changes place word) sound = cases (is_barred w.now.words place word) refl
  where
    cases : (b : Bool) → is_barred w.now.words place word ≡ b → IsSound first (record { now = if b then w.now else record w.now { words = slice_set w.now.words place word }; reserved = w.reserved })
    cases true e = sound
    cases false e = changes_sound first w place word e sound

pub run_sound : (first : ℕ) (w : TailWorld) (events : List TailEvent) → IsSound first w → IsSound first (tail_run w events)
unfolding tail_run
run_sound first w [] sound = sound
run_sound first w (event ∷ before) sound = happens_sound first (tail_run w before) event (run_sound first w before sound)

rest_knows : (limit n actor : ℕ) (step : Reserving) → slice_get (replicate n AtRest) actor ≡ Some step → Knows limit step
rest_knows limit zero actor step e = cc
rest_knows limit (suc n) zero step e = let same : step ≡ AtRest = cc in rw same tt
rest_knows limit (suc n) (suc actor) step e = rest_knows limit n actor step e

pub opening_sound : (room actors : ℕ) (words : List ℕ) → IsOpened words → IsSound (tail_of words) (opening room actors words)
opening_sound room actors words opened =
    record { enough_words = opened.enough_words; rises = omega arith; below = opened.below_limit; knows = rest_knows (limit_of words) actors }

same_addr : (x r : Reservation) → Some x ≡ Some r → x.addr ≡ r.addr
same_addr x r e = cc

-- what was reserved is below the tail
below_tail : (first tail : ℕ) (reserved : List Reservation) (i : ℕ) (r : Reservation) → RiseTo first tail reserved → slice_get reserved i ≡ Some r → r.addr < tail
below_tail first tail [] i r rise got = cc
below_tail first tail (x ∷ before) zero r rise got = let same = same_addr x r got in let low = rise.0 in omega (arith, same, low)
below_tail first tail (x ∷ before) (suc i) r rise got = let low = rise.0 in let h = below_tail first x.addr before i r rise.1 got in omega (arith, h, low)

pub each_once : (first tail : ℕ) (reserved : List Reservation) → RiseTo first tail reserved → AreReservedOnce reserved
each_once first tail [] rise i j r s got other e = cc
each_once first tail (x ∷ before) rise zero zero r s got other e = refl
each_once first tail (x ∷ before) rise zero (suc j) r s got other e =
    let same = same_addr x r got in
    let low = below_tail first x.addr before j s rise.1 other in
    absurd (omega (arith, same, low, e))
each_once first tail (x ∷ before) rise (suc i) zero r s got other e =
    let same = same_addr x s other in
    let low = below_tail first x.addr before i r rise.1 got in
    absurd (omega (arith, same, low, e))
each_once first tail (x ∷ before) rise (suc i) (suc j) r s got other e = ap suc (each_once first x.addr before rise.1 i j r s got other e)
