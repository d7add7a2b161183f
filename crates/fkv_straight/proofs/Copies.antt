-- How an update comes to a new record: by a copy of the one that was met, at the chain's end, or where the chain leaves memory.
use Rattle.std.proofs.Common.{◌≡◌, ℕ, ◌<◌, ◌≤◌, refl, sym, ◌∙◌, subst, arith, true, false, Bool}
use Rattle.std.specs.Prelude.{◌==◌, ◌&&◌, not, nat_lt, nat_le, None}
use Rattle.std.proofs.lemmas.Bool.Decides.{nat_tests}
use Rattle.fkv_map.specs.declared.operations.Op.{Op}
use Rattle.fkv_map.specs.Keys.{key_of}
use Rattle.fkv_marks.specs.Marks.{mark}
use Rattle.fkv_plane.specs.declared.asks.Ask.TheVariants.{Load}
use Rattle.fkv_plane.specs.declared.places.RecordWord.TheVariants as rec
use Rattle.fkv_plane.specs.declared.places.SharedWord.TheVariants as one
use Rattle.fkv_plane.specs.Passing.{passed}
use Rattle.fkv_plane.specs.Places.{record_place, shared_place}
use Rattle.fkv_log.specs.declared.loading.Loading.{Loading}
use Rattle.fkv_log.specs.declared.loading.Loading.TheVariants as load
use Rattle.fkv_log.specs.Loading.{load_ask, load_next, load_next_ask, load_on}
use Rattle.fkv_log.specs.Reserving.{reserve_ask}
use Rattle.fkv_ops.specs.declared.trying.OldValue.TheVariants.{InMemory}
use Rattle.fkv_ops.specs.declared.trying.Trying.{Trying}
use Rattle.fkv_ops.specs.declared.trying.Trying.TheVariants.{Walks, LoadsSafe, LoadsOld}
use Rattle.fkv_ops.specs.declared.walking.WalkAnswer.{WalkAnswer}
use Rattle.fkv_ops.specs.declared.walking.WalkAnswer.TheVariants as walked
use Rattle.fkv_ops.specs.declared.walking.Walking.{Walking}
use Rattle.fkv_ops.specs.declared.walking.Walking.TheVariants as walk
use Rattle.fkv_ops.specs.Requests.{is_read, is_blind, purpose_at}
use Rattle.fkv_ops.specs.Values.{value_of}
use Rattle.fkv_ops.specs.Appending.{appending_ask}
use Rattle.fkv_ops.specs.Trying.{TryState, trying_ask, trying_next, walk_ledto, old_ledto, copies, copies_from, appends, is_moving_on, is_marked}
use Rattle.fkv_ops.specs.Walking.{WalkState, reached, walking_ask, walking_next, load_ledto, value_ledto, walking_on}
use Rattle.fkv_session.specs.Sessions.{Seat, SessionState}
use Rattle.fkv_straight.specs.declared.going.Going.{Going}
use Rattle.fkv_straight.specs.declared.searching.Record.{Record}
use Rattle.fkv_straight.specs.Course.{Course, head_in, request_in, shares, Goes, counts}
use Rattle.fkv_straight.specs.Met.{Trail, IsTrail, meeting, holding, finding, walking, judged, HasKey, IsMet, IsReached, IsAtSafe, HasSafe, IsCopied, IsAtOld, IsAtReserve, limit_of, finding_at}
use Rattle.fkv_straight.specs.Standing.{asked, leads, IsLed, next_try}
use Rattle.fkv_straight.proofs.Appends.{reserving}
use Rattle.fkv_straight.proofs.Changes.{MetBy, has_value}
use Rattle.fkv_straight.proofs.Moves.{asks_load, led_on, stays, steps}
use Rattle.fkv_straight.proofs.Tests.{and_false}
use Rattle.fkv_straight.proofs.Walks.{past}
use Rattle.fkv_index.specs.Finding.{is_beyond, is_made, linking_for}
use Rattle.fkv_index.specs.declared.finding.FindStep.TheVariants.{AtRest}

-- ---- a record of another version, that the session could change
turns_to_copy : (c : Course) (trail : Trail) (r : Record) → IsTrail c trail r.entry r.addr → MetBy c r → nat_le c.lasts.seen.offsets.read_only.0 r.addr ≡ true → (r.mark == mark (request_in c).version.0) ≡ false → is_moving_on c.lasts.seen.phase ≡ false
    → next_try c (meeting c trail r.place r.entry r.addr (load.LoadsKey (record { 0 = r.addr }) r.header)) (key_of c.op).0 ≡ copies_from (finding c (past trail (record { 0 = r.mark })) r Walks) InMemory
unfolding trying_next walk_ledto walking_ask walking_next load_ledto load_ask load_next load_next_ask copies passed
turns_to_copy c trail r walked met mutable other still = rw (met.said, met.below, met.mine, met.stays trail walked, met.updates, met.above, mutable, other, still) refl

pub later_copied : (c : Course) (r : Record) (s : SessionState) → IsMet c r s → MetBy c r → nat_le c.lasts.seen.offsets.read_only.0 r.addr ≡ true → (r.mark == mark (request_in c).version.0) ≡ false → is_moving_on c.lasts.seen.phase ≡ false → IsCopied c r s
unfolding HasKey IsCopied
later_copied c r s met by mutable other still =
    let has = met.key in
    (past has.0 (record { 0 = r.mark }), Walks, subst (λ (t : TryState). IsLed c t s) (turns_to_copy c has.0 r has.1 by mutable other still) has.2)

-- ---- a record below the read-only offset: the safe one is loaded
turns_to_safe : (c : Course) (trail : Trail) (r : Record) → IsTrail c trail r.entry r.addr → MetBy c r → nat_le c.lasts.seen.offsets.read_only.0 r.addr ≡ false
    → next_try c (meeting c trail r.place r.entry r.addr (load.LoadsKey (record { 0 = r.addr }) r.header)) (key_of c.op).0
    ≡ finding c (past trail (record { 0 = r.mark })) r (LoadsSafe (record { 0 = r.addr }) (record { 0 = r.mark }))
unfolding trying_next walk_ledto walking_ask walking_next load_ledto load_ask load_next load_next_ask passed
turns_to_safe c trail r walked met low = rw (met.said, met.below, met.mine, met.stays trail walked, met.updates, met.above, low) refl

pub met_safe : (c : Course) (r : Record) (s : SessionState) → IsMet c r s → MetBy c r → nat_le c.lasts.seen.offsets.read_only.0 r.addr ≡ false → IsAtSafe c r s
unfolding HasKey IsAtSafe trying_ask
met_safe c r s met by low =
    let has = met.key in (
      past has.0 (record { 0 = r.mark }),
      stays c (finding c (past has.0 (record { 0 = r.mark })) r (LoadsSafe (record { 0 = r.addr }) (record { 0 = r.mark }))) s
          (subst (λ (t : TryState). IsLed c t s) (turns_to_safe c has.0 r has.1 by low) has.2) refl refl,
    )

pub safe_asks : (c : Course) (r : Record) (s : SessionState) → IsAtSafe c r s → asked c.seat s ≡ Load (shared_place one.SafeReadOnly)
unfolding IsAtSafe trying_ask
safe_asks c r s at = asks_load c (finding c at.0 r (LoadsSafe (record { 0 = r.addr }) (record { 0 = r.mark }))) (shared_place one.SafeReadOnly) s at.1 refl

pub safe_comes : (c : Course) (r : Record) (safe : ℕ) (s u : SessionState) → IsAtSafe c r s → u ≡ leads c.seat s safe → HasSafe c r safe u
unfolding IsAtSafe HasSafe
safe_comes c r safe s u at e = (at.0, led_on c (finding c at.0 r (LoadsSafe (record { 0 = r.addr }) (record { 0 = r.mark }))) safe s u at.1 e)

copies_still : (c : Course) (trail : Trail) (r : Record) (safe : ℕ) → nat_le safe r.addr ≡ false → is_moving_on c.lasts.seen.phase ≡ false
    → next_try c (finding c trail r (LoadsSafe (record { 0 = r.addr }) (record { 0 = r.mark }))) safe ≡ copies_from (finding c trail r (LoadsSafe (record { 0 = r.addr }) (record { 0 = r.mark }))) InMemory
unfolding trying_next copies
copies_still c trail r safe below still = rw (below, still) refl

-- the mark tells that the record is of the update's version
abbrev pub Own : Course → Record → Type 0
Own c r = (not (is_marked (request_in c).version) && r.mark == mark (request_in c).version.0) ≡ true

copies_own : (c : Course) (trail : Trail) (r : Record) (safe : ℕ) → nat_le safe r.addr ≡ false → Own c r
    → next_try c (finding c trail r (LoadsSafe (record { 0 = r.addr }) (record { 0 = r.mark }))) safe ≡ copies_from (finding c trail r (LoadsSafe (record { 0 = r.addr }) (record { 0 = r.mark }))) InMemory
unfolding trying_next copies
copies_own c trail r safe below own = rw (below, own, and_false (is_moving_on c.lasts.seen.phase && ((request_in c).version.0 == c.lasts.seen.version.0))) refl

pub still_copied : (c : Course) (r : Record) (safe : ℕ) (s : SessionState) → HasSafe c r safe s → nat_le safe r.addr ≡ false → is_moving_on c.lasts.seen.phase ≡ false → IsCopied c r s
unfolding HasSafe IsCopied
still_copied c r safe s has below still =
    (has.0, LoadsSafe (record { 0 = r.addr }) (record { 0 = r.mark }), subst (λ (t : TryState). IsLed c t s) (copies_still c has.0 r safe below still) has.1)

pub own_copied : (c : Course) (r : Record) (safe : ℕ) (s : SessionState) → HasSafe c r safe s → nat_le safe r.addr ≡ false → Own c r → IsCopied c r s
unfolding HasSafe IsCopied
own_copied c r safe s has below own =
    (has.0, LoadsSafe (record { 0 = r.addr }) (record { 0 = r.mark }), subst (λ (t : TryState). IsLed c t s) (copies_own c has.0 r safe below own) has.1)

-- ---- the copy's old value
copies_blindly : (c : Course) (trail : Trail) (r : Record) (step : Trying) → is_blind c.op ≡ true
    → copies_from (finding c trail r step) InMemory ≡ reserving c (walking c trail r.place r.entry (load.HasKey (record { 0 = r.addr }) r.header (key_of c.op).0) (walk.HasFound (record { 0 = r.addr }) (record { 0 = r.mark }))) r.place r.entry None (limit_of c)
unfolding copies_from appends
copies_blindly c trail r step blind = rw blind refl

pub copied_reserves : (c : Course) (r : Record) (s : SessionState) → IsCopied c r s → is_blind c.op ≡ true → IsAtReserve c r.place r.entry None (limit_of c) s
unfolding IsCopied IsAtReserve trying_ask appending_ask reserve_ask passed
copied_reserves c r s at blind =
    let w = walking c at.0 r.place r.entry (load.HasKey (record { 0 = r.addr }) r.header (key_of c.op).0) (walk.HasFound (record { 0 = r.addr }) (record { 0 = r.mark })) in
    (w, stays c (reserving c w r.place r.entry None (limit_of c)) s (subst (λ (t : TryState). IsLed c t s) (copies_blindly c at.0 r at.1 blind) at.2) refl refl)

copies_seeing : (c : Course) (trail : Trail) (r : Record) (step : Trying) → is_blind c.op ≡ false → copies_from (finding c trail r step) InMemory ≡ holding c trail r LoadsOld
unfolding copies_from walking_on load_on
copies_seeing c trail r step seeing = rw seeing refl

pub copied_loads : (c : Course) (r : Record) (s : SessionState) → IsCopied c r s → is_blind c.op ≡ false → IsAtOld c r s
unfolding IsCopied IsAtOld trying_ask walking_ask load_ask passed
copied_loads c r s at seeing = (at.0, stays c (holding c at.0 r LoadsOld) s (subst (λ (t : TryState). IsLed c t s) (copies_seeing c at.0 r at.1 seeing) at.2) refl refl)

pub old_asks : (c : Course) (r : Record) (s : SessionState) → IsAtOld c r s → asked c.seat s ≡ Load (record_place c.seat.places r.addr rec.Value)
unfolding IsAtOld trying_ask walking_ask load_ask passed
old_asks c r s at = asks_load c (holding c at.0 r LoadsOld) (record_place c.seat.places r.addr rec.Value) s at.1 refl

turns_to_append : (c : Course) (trail : Trail) (r : Record) (old : ℕ) → next_try c (holding c trail r LoadsOld) old ≡ reserving c (has_value c trail r old) r.place r.entry (value_of old) (limit_of c)
unfolding trying_next walking_ask walking_next load_ask load_next load_next_ask value_ledto old_ledto appends passed
turns_to_append c trail r old = refl

pub old_comes : (c : Course) (r : Record) (old : ℕ) (s u : SessionState) → IsAtOld c r s → u ≡ leads c.seat s old → IsAtReserve c r.place r.entry (value_of old) (limit_of c) u
unfolding IsAtOld IsAtReserve trying_ask appending_ask reserve_ask passed
old_comes c r old s u at e =
    (has_value c at.0 r old, steps c (holding c at.0 r LoadsOld) (reserving c (has_value c at.0 r old) r.place r.entry (value_of old) (limit_of c)) old s u at.1 e (turns_to_append c at.0 r old) refl refl)

-- ---- the chain's end
abbrev ended_at : Course → Trail → ℕ → ℕ → Loading → WalkAnswer → WalkState
ended_at c trail place entry loading its = walking c trail place entry loading (walk.Ended its)

none_counted : (c : Course) (trail : Trail) (entry addr : ℕ) → IsTrail c trail entry addr → (counts c && entry == 0 && is_beyond c.seat.places (finding_at c trail.base trail.links AtRest)) ≡ false
none_counted c trail entry addr its = by (counts c) (entry == 0) (nat_lt trail.links c.seat.places.overflow) refl refl refl
  where
    made : Bool
    made = is_made (linking_for (purpose_at c.occasion c.op))

    by : (a b d : Bool) → counts c ≡ a → (entry == 0) ≡ b → nat_lt trail.links c.seat.places.overflow ≡ d → (a && b && (d && not made)) ≡ false
    by false b d x y z = refl
    by true false d x y z = refl
    by true true false x y z = refl
    by true true true x y z = absurd (let h = its.its_own x (grind (arith, nat_tests, y)) in let l : trail.links < c.seat.places.overflow = grind (arith, nat_tests, z) in omega (arith, h, l))

ends_nowhere : (c : Course) (trail : Trail) (place entry : ℕ) (loading : Loading) (step : Walking) → (counts c && entry == 0 && is_beyond c.seat.places (finding_at c trail.base trail.links AtRest)) ≡ false → shares c ≡ false → is_read c.op ≡ false → is_moving_on c.lasts.seen.phase ≡ false
    → judged c (reached c.seat.places (walking c trail place entry loading step) 0) ≡ reserving c (ended_at c trail place entry loading walked.Nowhere) place entry None (limit_of c)
unfolding walk_ledto walking_ask copies copies_from appends
ends_nowhere c trail place entry loading step own calm updates still = rw (calm, own, updates, still) refl

pub nowhere_reserves : (c : Course) (place entry : ℕ) (s : SessionState) → IsReached c place entry 0 s → shares c ≡ false → is_read c.op ≡ false → is_moving_on c.lasts.seen.phase ≡ false → IsAtReserve c place entry None (limit_of c) s
unfolding IsReached IsAtReserve trying_ask appending_ask reserve_ask passed
nowhere_reserves c place entry s at calm updates still =
    let w = ended_at c at.0 place entry at.2 walked.Nowhere in
    (w, stays c (reserving c w place entry None (limit_of c)) s (subst (λ (t : TryState). IsLed c t s) (ends_nowhere c at.0 place entry at.2 at.3 (none_counted c at.0 entry 0 at.1) calm updates still) at.4) refl refl)

-- ---- the chain leaves memory, and the new value doesn't depend on the old one
leaves_memory : (c : Course) (trail : Trail) (place entry addr : ℕ) (loading : Loading) (step : Walking) → (addr == 0) ≡ false → nat_lt addr (head_in c) ≡ true → shares c ≡ false → is_read c.op ≡ false → is_blind c.op ≡ true
    → is_moving_on c.lasts.seen.phase ≡ false
    → judged c (reached c.seat.places (walking c trail place entry loading step) addr) ≡ reserving c (ended_at c trail place entry loading (walked.OnDisk (record { 0 = addr }))) place entry None (limit_of c)
unfolding walk_ledto walking_ask copies copies_from appends
leaves_memory c trail place entry addr loading step some low calm updates blind still = rw (some, low, calm, updates, blind, still) refl

pub disk_reserves : (c : Course) (place entry addr : ℕ) (s : SessionState) → IsReached c place entry addr s → 0 < addr → addr < head_in c → shares c ≡ false → is_read c.op ≡ false → is_blind c.op ≡ true → is_moving_on c.lasts.seen.phase ≡ false
    → IsAtReserve c place entry None (limit_of c) s
unfolding IsReached IsAtReserve trying_ask appending_ask reserve_ask passed
disk_reserves c place entry addr s at some low calm updates blind still =
    let w = ended_at c at.0 place entry at.2 (walked.OnDisk (record { 0 = addr })) in (
      w,
      stays c (reserving c w place entry None (limit_of c)) s
          (subst (λ (t : TryState). IsLed c t s) (leaves_memory c at.0 place entry addr at.2 at.3 (grind (arith, nat_tests)) (grind (arith, nat_tests)) calm updates blind still) at.4) refl refl,
    )

-- ---- the tests, by the numbers that a call goes by
pub is_high : (c : Course) (k : Seat) (op : Op) (g : Going) (r : Record) → Goes c k op g → g.read_only ≤ r.addr → nat_le c.lasts.seen.offsets.read_only.0 r.addr ≡ true
is_high c k op g r goes high = let h : c.lasts.seen.offsets.read_only.0 ≤ r.addr = subst (λ (n : ℕ). n ≤ r.addr) (sym goes.its_read_only) high in grind (arith, nat_tests)

pub is_low : (c : Course) (k : Seat) (op : Op) (g : Going) (r : Record) → Goes c k op g → r.addr < g.read_only → nat_le c.lasts.seen.offsets.read_only.0 r.addr ≡ false
is_low c k op g r goes low = let h : r.addr < c.lasts.seen.offsets.read_only.0 = subst (λ (n : ℕ). r.addr < n) (sym goes.its_read_only) low in grind (arith, nat_tests)

pub is_other : (c : Course) (k : Seat) (op : Op) (g : Going) (r : Record) → Goes c k op g → ¬ (r.mark ≡ g.mark) → (r.mark == mark (request_in c).version.0) ≡ false
is_other c k op g r goes other = let h : ¬ (r.mark ≡ mark (request_in c).version.0) = (λ e. other (e ∙ goes.its_mark)) in grind (arith, nat_tests, h)

pub is_own : (c : Course) (k : Seat) (op : Op) (g : Going) (r : Record) → Goes c k op g → (not (is_marked (record { 0 = g.version })) && r.mark == g.mark) ≡ true → Own c r
is_own c k op g r goes own = rw (goes.its_mark, goes.its_version) own
