-- How an update changes its record in place.
use Rattle.std.proofs.Common.{◌≡◌, ℕ, ◌≤◌, refl, sym, ap, ◌∙◌, subst, arith, Bool, true, false}
use Rattle.std.specs.Prelude.{◌==◌, ◌&&◌, not, nat_lt, nat_le, Option, None}
use Rattle.std.proofs.lemmas.Bool.Decides.{nat_tests}
use Rattle.fkv_base.specs.declared.numbers.Version.{Version}
use Rattle.fkv_map.specs.declared.operations.Op.{Op}
use Rattle.fkv_map.specs.declared.operations.Reply.{Reply}
use Rattle.fkv_map.specs.Keys.{key_of, value_applied, reply_from}
use Rattle.fkv_marks.specs.Marks.{mark}
use Rattle.fkv_plane.specs.declared.asks.Ask.TheVariants.{Load, Swap, Cas}
use Rattle.fkv_plane.specs.declared.places.RecordWord.TheVariants as rec
use Rattle.fkv_plane.specs.Passing.{passed}
use Rattle.fkv_plane.specs.Places.{record_place}
use Rattle.fkv_log.specs.declared.loading.Loading.TheVariants as load
use Rattle.fkv_log.specs.Loading.{load_ask, load_next, load_next_ask, load_on}
use Rattle.fkv_index.specs.Slots.{entry_addr}
use Rattle.fkv_ops.specs.declared.answers.Reason.TheVariants as reason
use Rattle.fkv_ops.specs.declared.answers.TryAnswer.TheVariants as tried
use Rattle.fkv_ops.specs.declared.header_words.HeaderSaid.TheVariants.{Says}
use Rattle.fkv_ops.specs.declared.trying.Trying.{Trying}
use Rattle.fkv_ops.specs.declared.trying.Trying.TheVariants.{SwapsValue, LoadsCurrent, ChangesValue, Ended}
use Rattle.fkv_ops.specs.declared.walking.WalkAnswer.TheVariants as walked
use Rattle.fkv_ops.specs.declared.walking.Walking.TheVariants.{HasFound}
use Rattle.fkv_ops.specs.declared.walking.Walking.TheVariants as walk
use Rattle.fkv_ops.specs.HeaderWords.{header_said, previous_in}
use Rattle.fkv_ops.specs.Requests.{is_read, is_blind}
use Rattle.fkv_ops.specs.Values.{value_of, word_of}
use Rattle.fkv_ops.specs.Appending.{append_rested}
use Rattle.fkv_ops.specs.Trying.{TryState, trying_ask, trying_next, walk_ledto, current_ledto, ends, ends_so, takes_effect, is_above, is_next_marked}
use Rattle.fkv_ops.specs.Walking.{WalkState, first_met, walking_ask, walking_next, load_ledto, value_ledto, walking_on}
use Rattle.fkv_session.specs.Sessions.{Seat, SessionState}
use Rattle.fkv_straight.specs.declared.going.Going.{Going}
use Rattle.fkv_straight.specs.declared.searching.Record.{Record}
use Rattle.fkv_straight.specs.Course.{Course, IsSettled, head_in, request_in, shares, Goes}
use Rattle.fkv_straight.specs.Met.{Trail, IsTrail, IsUnshifted, trying, meeting, holding, walking, HasKey, IsMet, IsAtSwap, IsAtCurrent, IsAtChange, HasChanged, HasLost}
use Rattle.fkv_straight.specs.Standing.{asked, leads, IsLed, next_try, IsDone, IsWaiting}
use Rattle.fkv_straight.proofs.Moves.{asks_load, asks_swap, asks_cas, led_on, stays, steps, ends_done, ends_waiting}
use Rattle.fkv_straight.proofs.Tests.{differs, same, here}
use Rattle.fkv_straight.proofs.Walks.{past}
use Rattle.fkv_ops.specs.Bounds.{bounds_at}

-- what the table tests of the record that an update has met
pub record MetBy (c : Course) (r : Record) : Type 0 where
  pub said : header_said r.header ≡ Says (record { 0 = previous_in r.header }) (record { 0 = r.mark })
  pub below : nat_lt (previous_in r.header) r.addr ≡ true
  pub mine : ((key_of c.op).0 == (key_of c.op).0) ≡ true
  pub stays : IsUnshifted c r
  pub updates : is_read c.op ≡ false
  pub above : nat_lt r.addr (head_in c) ≡ false

pub met_by : (c : Course) (r : Record) (s : SessionState) → IsMet c r s → IsUnshifted c r → is_read c.op ≡ false → MetBy c r
met_by c r s met stays updates = record {
  said = met.said;
  below = (let h = met.below in grind (arith, nat_tests));
  mine = same (key_of c.op).0;
  stays = stays;
  updates = updates;
  above = (here c.seat.places.ring (head_in c) r.addr met.here).above;
}

-- an update that shares no latch stays at its version
pub calm_stays : (c : Course) (r : Record) → shares c ≡ false → IsUnshifted c r
calm_stays c r calm = λ trail at. rw calm refl

and_not : (b d : Bool) → d ≡ false → (b && d) ≡ false
and_not true d e = e
and_not false d e = refl

own_above : (met own : ℕ) → met ≡ own → nat_lt own met ≡ false
own_above met own e = grind (arith, nat_tests)

-- so does one that has met a record of its own version as the first of its chain
pub first_stays : (c : Course) (r : Record) → r.addr ≡ entry_addr r.entry → r.mark ≡ mark (request_in c).version.0 → IsUnshifted c r
first_stays c r first own = λ trail at.
    let none : trail.first ≡ None = at.fresh first in
    and_not (shares c && not (is_next_marked (request_in c).version)) (is_above (first_met trail.first (record { 0 = r.mark })) (request_in c).version)
    (ap (λ (o : Option Version). is_above (first_met o (record { 0 = r.mark })) (request_in c).version) none ∙ own_above r.mark (mark (request_in c).version.0) own)

-- and where the session may change it
pub record MayChange (c : Course) (r : Record) : Type 0 where
  pub mutable : nat_le c.lasts.seen.offsets.read_only.0 r.addr ≡ true
  pub own : (r.mark == mark (request_in c).version.0) ≡ true

pub may_change : (c : Course) (k : Seat) (op : Op) (g : Going) (r : Record) → Goes c k op g → g.read_only ≤ r.addr → r.mark ≡ g.mark → MayChange c r
may_change c k op g r goes high own = record {
  mutable = (let h : c.lasts.seen.offsets.read_only.0 ≤ r.addr = subst (λ (n : ℕ). n ≤ r.addr) (sym goes.its_read_only) high in grind (arith, nat_tests));
  own = (let h : r.mark ≡ mark (request_in c).version.0 = own ∙ sym goes.its_mark in grind (arith, nat_tests));
}

-- where the walk stands then
abbrev at_record : Course → Trail → Record → WalkState
at_record c trail r = walking c (past trail (record { 0 = r.mark })) r.place r.entry (load.HasKey (record { 0 = r.addr }) r.header (key_of c.op).0) (HasFound (record { 0 = r.addr }) (record { 0 = r.mark }))

-- ---- by one Swap
turns_to_swap : (c : Course) (trail : Trail) (r : Record) → IsTrail c trail r.entry r.addr → MetBy c r → MayChange c r → is_blind c.op ≡ true
    → next_try c (meeting c trail r.place r.entry r.addr (load.LoadsKey (record { 0 = r.addr }) r.header)) (key_of c.op).0 ≡ trying c (at_record c trail r) append_rested (SwapsValue (record { 0 = r.addr }))
unfolding trying_next walk_ledto walking_ask walking_next load_ledto load_ask load_next load_next_ask passed
turns_to_swap c trail r walked met may blind = rw (met.said, met.below, met.mine, met.stays trail walked, met.updates, met.above, may.mutable, may.own, blind) refl

pub met_swaps : (c : Course) (r : Record) (s : SessionState) → IsMet c r s → MetBy c r → MayChange c r → is_blind c.op ≡ true → IsAtSwap c r.addr s
unfolding HasKey IsAtSwap trying_ask
met_swaps c r s met by may blind =
    let has = met.key in
    (at_record c has.0 r, stays c (trying c (at_record c has.0 r) append_rested (SwapsValue (record { 0 = r.addr }))) s (subst (λ (t : TryState). IsLed c t s) (turns_to_swap c has.0 r has.1 by may blind) has.2) refl refl)

pub swap_asks : (c : Course) (addr : ℕ) (s : SessionState) → IsAtSwap c addr s → asked c.seat s ≡ Swap (record_place c.seat.places addr rec.Value) (word_of (value_applied None c.op))
unfolding IsAtSwap trying_ask
swap_asks c addr s at = asks_swap c (trying c at.0 append_rested (SwapsValue (record { 0 = addr }))) (record_place c.seat.places addr rec.Value) (word_of (value_applied None c.op)) s at.1 refl

pub swap_changes : (c : Course) (addr reply : ℕ) (s u : SessionState) → IsAtSwap c addr s → u ≡ leads c.seat s reply → HasChanged c (reply_from None c.op) u
unfolding IsAtSwap HasChanged trying_next
swap_changes c addr reply s u at e = (at.0, SwapsValue (record { 0 = addr }), led_on c (trying c at.0 append_rested (SwapsValue (record { 0 = addr }))) reply s u at.1 e)

-- ---- by a load and a Cas
turns_to_load : (c : Course) (trail : Trail) (r : Record) → IsTrail c trail r.entry r.addr → MetBy c r → MayChange c r → is_blind c.op ≡ false
    → next_try c (meeting c trail r.place r.entry r.addr (load.LoadsKey (record { 0 = r.addr }) r.header)) (key_of c.op).0 ≡ holding c (past trail (record { 0 = r.mark })) r (LoadsCurrent (record { 0 = r.addr }))
unfolding trying_next walk_ledto walking_ask walking_next load_ledto load_ask load_next load_next_ask load_on walking_on passed
turns_to_load c trail r walked met may seeing = rw (met.said, met.below, met.mine, met.stays trail walked, met.updates, met.above, may.mutable, may.own, seeing) refl

pub met_currents : (c : Course) (r : Record) (s : SessionState) → IsMet c r s → MetBy c r → MayChange c r → is_blind c.op ≡ false → IsAtCurrent c r s
unfolding HasKey IsAtCurrent trying_ask walking_ask load_ask passed
met_currents c r s met by may seeing =
    let has = met.key in
    (past has.0 (record { 0 = r.mark }), stays c (holding c (past has.0 (record { 0 = r.mark })) r (LoadsCurrent (record { 0 = r.addr }))) s (subst (λ (t : TryState). IsLed c t s) (turns_to_load c has.0 r has.1 by may seeing) has.2) refl refl)

pub current_asks : (c : Course) (r : Record) (s : SessionState) → IsAtCurrent c r s → asked c.seat s ≡ Load (record_place c.seat.places r.addr rec.Value)
unfolding IsAtCurrent trying_ask walking_ask load_ask passed
current_asks c r s at = asks_load c (holding c at.0 r (LoadsCurrent (record { 0 = r.addr }))) (record_place c.seat.places r.addr rec.Value) s at.1 refl

-- the walk that has loaded the value
abbrev pub has_value : Course → Trail → Record → ℕ → WalkState
has_value c trail r old = walking c trail r.place r.entry load.AtRest (walk.Ended (walked.Value old))

turns_to_change : (c : Course) (trail : Trail) (r : Record) (old : ℕ)
    → next_try c (holding c trail r (LoadsCurrent (record { 0 = r.addr }))) old ≡ trying c (has_value c trail r old) append_rested (ChangesValue (record { 0 = r.addr }) old)
unfolding trying_next walking_ask walking_next load_ask load_next load_next_ask value_ledto current_ledto passed
turns_to_change c trail r old = refl

pub current_comes : (c : Course) (r : Record) (old : ℕ) (s u : SessionState) → IsAtCurrent c r s → u ≡ leads c.seat s old → IsAtChange c r.addr old u
unfolding IsAtCurrent IsAtChange trying_ask
current_comes c r old s u at e =
    (has_value c at.0 r old, steps c (holding c at.0 r (LoadsCurrent (record { 0 = r.addr }))) (trying c (has_value c at.0 r old) append_rested (ChangesValue (record { 0 = r.addr }) old)) old s u at.1 e (turns_to_change c at.0 r old) refl refl)

pub change_asks : (c : Course) (addr old : ℕ) (s : SessionState) → IsAtChange c addr old s → asked c.seat s ≡ Cas (record_place c.seat.places addr rec.Value) old (word_of (value_applied (value_of old) c.op))
unfolding IsAtChange trying_ask
change_asks c addr old s at = asks_cas c (trying c at.0 append_rested (ChangesValue (record { 0 = addr }) old)) (record_place c.seat.places addr rec.Value) old (word_of (value_applied (value_of old) c.op)) s at.1 refl

won_changes : (c : Course) (w : WalkState) (addr old : ℕ) → (old == old) ≡ true
    → next_try c (trying c w append_rested (ChangesValue (record { 0 = addr }) old)) old ≡ takes_effect c.seat.places (trying c w append_rested (ChangesValue (record { 0 = addr }) old)) (reply_from (value_of old) c.op)
unfolding trying_next
won_changes c w addr old won = rw won refl

pub change_changes : (c : Course) (addr old found : ℕ) (s u : SessionState) → IsAtChange c addr old s → found ≡ old → u ≡ leads c.seat s found → HasChanged c (reply_from (value_of old) c.op) u
unfolding IsAtChange HasChanged
change_changes c addr old found s u at won e =
    let t = trying c at.0 append_rested (ChangesValue (record { 0 = addr }) old) in
    (at.0, ChangesValue (record { 0 = addr }) old, subst (λ (x : TryState). IsLed c x u) (won_changes c at.0 addr old (same old)) (led_on c t old s u at.1 (e ∙ ap (λ (n : ℕ). leads c.seat s n) won)))

-- another session was quicker
lost_ends : (c : Course) (w : WalkState) (addr old found : ℕ) → (found == old) ≡ false
    → next_try c (trying c w append_rested (ChangesValue (record { 0 = addr }) old)) found ≡ ends c.seat.places (trying c w append_rested (ChangesValue (record { 0 = addr }) old)) (tried.Wait reason.Contended)
unfolding trying_next
lost_ends c w addr old found lost = rw lost refl

pub change_loses : (c : Course) (addr old found : ℕ) (s u : SessionState) → IsAtChange c addr old s → ¬ (found ≡ old) → u ≡ leads c.seat s found → HasLost c u
unfolding IsAtChange HasLost
change_loses c addr old found s u at lost e =
    let t = trying c at.0 append_rested (ChangesValue (record { 0 = addr }) old) in
    (at.0, ChangesValue (record { 0 = addr }) old, subst (λ (x : TryState). IsLed c x u) (lost_ends c at.0 addr old found (differs found old lost)) (led_on c t found s u at.1 e))

-- ---- with no latch the update has ended then
ended_calm : (c : Course) (w : WalkState) (step : Trying) (its : Reply) → shares c ≡ false → (takes_effect c.seat.places (trying c w append_rested step) its).step ≡ Ended (tried.Done its)
unfolding ends ends_so
ended_calm c w step its calm = rw calm refl

spare_calm : (c : Course) (w : WalkState) (step : Trying) (its : Reply) → shares c ≡ false → (takes_effect c.seat.places (trying c w append_rested step) its).spare ≡ c.lasts.spare
unfolding ends ends_so
spare_calm c w step its calm = rw calm refl

pub changed_done : (c : Course) (its : Reply) (s : SessionState) → IsSettled c → shares c ≡ false → is_read c.op ≡ false → HasChanged c its s → IsDone c its s
unfolding HasChanged
changed_done c its s settled calm updates at =
    ends_done c (takes_effect c.seat.places (trying c at.0 append_rested at.1) its) its s settled at.2 (ended_calm c at.0 at.1 its calm) (spare_calm c at.0 at.1 its calm) updates

ended_lost : (c : Course) (w : WalkState) (step : Trying) → bounds_at c.occasion ≡ None → shares c ≡ false → (ends c.seat.places (trying c w append_rested step) (tried.Wait reason.Contended)).step ≡ Ended (tried.Wait reason.Contended)
unfolding ends ends_so
ended_lost c w step none calm = rw (none, calm) refl

spare_lost : (c : Course) (w : WalkState) (step : Trying) → bounds_at c.occasion ≡ None → shares c ≡ false → (ends c.seat.places (trying c w append_rested step) (tried.Wait reason.Contended)).spare ≡ c.lasts.spare
unfolding ends ends_so
spare_lost c w step none calm = rw (none, calm) refl

free_lost : (c : Course) (w : WalkState) (step : Trying) → bounds_at c.occasion ≡ None → shares c ≡ false → (ends c.seat.places (trying c w append_rested step) (tried.Wait reason.Contended)).has_shared ≡ false
unfolding ends ends_so
free_lost c w step none calm = rw (none, calm) refl

pub lost_waits : (c : Course) (s : SessionState) → IsSettled c → shares c ≡ false → is_read c.op ≡ false → HasLost c s → bounds_at c.occasion ≡ None → IsWaiting c s
unfolding HasLost
lost_waits c s settled calm updates at none =
    ends_waiting c (ends c.seat.places (trying c at.0 append_rested at.1) (tried.Wait reason.Contended)) s settled at.2 (ended_lost c at.0 at.1 none calm) (spare_lost c at.0 at.1 none calm) (free_lost c at.0 at.1 none calm) updates
