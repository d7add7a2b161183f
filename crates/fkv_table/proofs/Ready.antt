-- What a session that is ready has in hand, and when it stays so.
use Rattle.std.proofs.Common.{◌≡◌, ◌≢◌, ◌⊎◌, ℕ, ◌<◌, refl, sym, ap, subst, ◌∙◌, inl, inr, true, false, List, [], ◌∷◌, arith}
use Rattle.std.specs.Prelude.{Option, Some, None, slice_get, ◌==◌}
use Rattle.std.proofs.lemmas.Bool.Decides.{nat_tests}
use Rattle.atomic_table.specs.Seated.{TableId}
use Rattle.atomic_table.specs.Table.{Me, rest}
use Rattle.fkv_base.specs.Limits.{drain_slots}
use Rattle.fkv_map.specs.declared.operations.Call.TheVariants.{Refresh}
use Rattle.fkv_session.specs.Sessions.{SessionState, Sitter}
use Rattle.law_world.specs.Below.fkv_world.Runs.{World, happens}
use Rattle.law_world.proofs.Below.fkv_world.Shown.{session_apart}
use Rattle.law_world.proofs.OfRuns.Nothing.{no_session}
use Rattle.fkv_seats.specs.declared.views.Role.{Role}
use Rattle.fkv_seats.specs.declared.views.Role.TheVariants.{Sits}
use Rattle.fkv_seats.specs.Rule.{AreAllowed, GoesOn, HandFits, Quiet, base, desk_of, desk_slot, led}
use Rattle.fkv_seats.proofs.Keeps.{allowed_both, same_or}
use Rattle.fkv_table.specs.declared.happenings.Happening.{Happening}
use Rattle.fkv_table.specs.declared.happenings.Happening.TheVariants.{Calls, Moves, Commits, Turns, KeeperMoves}
use Rattle.fkv_table.specs.Calls.{IsReady}
use Rattle.fkv_table.specs.Desks.{Slot, Knows}
use Rattle.fkv_table.specs.Events.{event_of}
use Rattle.fkv_table.specs.Openings.{IsTableOf}
use Rattle.fkv_table.specs.Planes.{plane}
use Rattle.fkv_table.specs.Seating.{HasDeskInHand}
use Rattle.fkv_table.proofs.Lives.{quiet_session}

-- a table has a word
pub some_words : (w : World) (id : TableId) → IsTableOf w id → 0 < id.words
some_words w id its = omega (arith, its.words)

number_apart : (i j : ℕ) → i ≢ j → (i == j) ≡ false
number_apart i j other = grind (arith, nat_tests)

-- where there is no session of a number, there is none behind an event
none_step : (x : World) (e : Happening) (n : ℕ) → slice_get x.now.sessions n ≡ None → slice_get (happens x (event_of e)).now.sessions n ≡ None
none_step x (Calls j call) n none = by (same_or j n)
  where
    by : (j ≡ n) ⊎ (j ≢ n) → slice_get (happens x (event_of (Calls j call))).now.sessions n ≡ None
    by (inl same) = ap (λ (y : World). slice_get y.now.sessions n) (no_session x j call (ap (slice_get x.now.sessions) same ∙ none)).0 ∙ none
    by (inr other) = session_apart x (event_of (Calls j call)) n (number_apart j n other) ∙ none
none_step x (Moves j) n none = by (same_or j n)
  where
    by : (j ≡ n) ⊎ (j ≢ n) → slice_get (happens x (event_of (Moves j))).now.sessions n ≡ None
    by (inl same) = ap (λ (y : World). slice_get y.now.sessions n) (no_session x j Refresh (ap (slice_get x.now.sessions) same ∙ none)).1 ∙ none
    by (inr other) = session_apart x (event_of (Moves j)) n (number_apart j n other) ∙ none
none_step x (Commits kind) n none = session_apart x (event_of (Commits kind)) n refl ∙ none
none_step x Turns n none = session_apart x (event_of Turns) n refl ∙ none
none_step x (KeeperMoves granted done) n none = session_apart x (event_of (KeeperMoves granted done)) n refl ∙ none

module _ {K : Type 0} (at : K → World) where
  none_stays : (w : World) (es : List Happening) (n : ℕ) → slice_get w.now.sessions n ≡ None → slice_get (led (plane at) w es).now.sessions n ≡ None
  unfolding led
  none_stays w [] n none = none
  none_stays w (e ∷ es) n none = none_step (led (plane at) w es) e n (none_stays w es n none)

  -- a session that there is was there as the store was opened
  pub was_there : (w : World) (es : List Happening) (n : ℕ) (s : SessionState) → slice_get (led (plane at) w es).now.sessions n ≡ Some s → (first : SessionState) × (slice_get w.now.sessions n ≡ Some first)
  was_there w es n s there = by (slice_get w.now.sessions n) refl
    where
      by : (found : Option SessionState) → slice_get w.now.sessions n ≡ found → (first : SessionState) × (slice_get w.now.sessions n ≡ Some first)
      by None is = absurd (let clash : None ≡ Some s = sym (none_stays w es n is) ∙ there in cc)
      by (Some first) is = (first, is)

  module _ (key : K) (table seat : TableId) (me : Me Slot (Knows K)) (m : Sitter) (desk : ℕ) (r : IsReady at key table seat me m desk) where
    pub held : me.1 ≡ (desk, r.at_desk.note) ∷ []
    held = subst (λ (hand : Option ℕ). base (plane at) hand me.1 ≡ (desk, r.at_desk.note) ∷ []) r.empty r.at_desk.alone

    pub its_desk_is : desk_of me.0.role ≡ Some m.seat.number
    its_desk_is = ap desk_of r.rests.seated.role

    pub in_hand : HasDeskInHand me
    in_hand = (m.seat.number, r.at_desk.note, its_desk_is, held ∙ λ i. (r.its_desk i, r.at_desk.note) ∷ sym (ap rest held) i)

    pub below : desk_slot drain_slots m.seat.number < table.slots
    below =
        let first = was_there (at key) me.0.seen m.seat.number r.rests.seated.first r.rests.seated.was in
        let few = r.opened.opening.guarded.seats m.seat.number first.0 first.1 in
        omega (arith, few, r.opened.slots)

    -- It stays ready while its view goes on with events of others.
    pub ready_on : (seat' : TableId) (me' : Me Slot (Knows K)) (note : Slot) → seat' ≡ seat → me'.0.about ≡ Some key → me'.0.role ≡ me.0.role → me'.0.hand ≡ None → me'.0.desk ≡ true
        → me'.1 ≡ (desk, note) ∷ [] → GoesOn (plane at) me.0.role me.0.seen me'.0.seen → IsReady at key table seat' me' m desk
    ready_on seat' me' note same about role empty sits alone on =
        let quiet : Quiet (plane at) (Sits m.seat.number) on.between = subst (λ (its : Role). Quiet (plane at) its on.between) r.rests.seated.role on.quiet in
        record {
          opened = r.opened;
          same_table = same ∙ r.same_table;
          rests = record {
            its = r.rests.its;
            seated = record {
              about = about;
              role = role ∙ r.rests.seated.role;
              chair = r.rests.seated.chair;
              first = r.rests.seated.first;
              was = ap (λ (es : List Happening). slice_get (led (plane at) (at key) es).now.sessions m.seat.number) on.whole ∙ (quiet_session at (at key) m.seat.number on.between me.0.seen quiet ∙ r.rests.seated.was);
              calls = tt;
              allowed = subst (AreAllowed (plane at)) (sym on.whole) (allowed_both (plane at) on.between me.0.seen on.allowed r.rests.seated.allowed);
              state = r.rests.seated.state;
              hand = subst (λ (hand : Option ℕ). HandFits (plane at) (at key) me'.0.seen hand me'.1) (sym empty) tt;
            };
            alike = r.rests.alike;
            idle = r.rests.idle;
          };
          at_desk = record { note = note; alone = subst (λ (hand : Option ℕ). base (plane at) hand me'.1 ≡ (desk, note) ∷ []) (sym empty) alone; sits = sits };
          empty = empty;
          its_desk = r.its_desk;
        }
