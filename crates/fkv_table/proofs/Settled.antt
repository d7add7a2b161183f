-- How a session and its seat stand behind a step, with the action that goes with it.
use Rattle.std.proofs.Common.{◌≡◌, ℕ, zero, suc, ◌<◌, ◌≤◌, ◌-◌, refl, sym, ap, subst, ◌∙◌, true, false, List, [], ◌∷◌, ◌++◌, length, map, arith, inl, inr, eq-zero-or-pos}
use Rattle.std.specs.Prelude.{Option, Some, None, slice_get, slice_set}
use Rattle.atomic_table.specs.Table.{Me, rest}
use Rattle.fkv_epoch.proofs.Shown.{item_written, within_item}
use Rattle.fkv_plane.specs.declared.actions.Action.{Action}
use Rattle.fkv_plane.specs.declared.asks.Ask.{Ask}
use Rattle.fkv_plane.specs.declared.asks.Ask.TheVariants.{Load, Store, Swap, Cas, Add, Max, Put, Take, Done}
use Rattle.fkv_plane.specs.Asked.{asked_place}
use Rattle.fkv_plane.specs.Passing.{is_done}
use Rattle.fkv_plane.specs.Plane.{action_at}
use Rattle.fkv_session.specs.AsksLeft.{session_asks_left}
use Rattle.fkv_session.specs.declared.answers.Told.{Told}
use Rattle.fkv_session.specs.declared.sessions.Sitting.{Sitting}
use Rattle.fkv_session.specs.declared.sessions.Sitting.TheVariants.{Idle}
use Rattle.fkv_session.specs.Sessions.{Seat, SessionState, Sitter, is_busy, session_ask, sitting_ask}
use Rattle.fkv_session.specs.SessionRun.{telling}
use Rattle.fkv_session.proofs.Shown.{session_left}
use Rattle.law_world.specs.Below.fkv_world.Actors.{slot_asked, slot_named}
use Rattle.law_world.specs.Below.fkv_world.Moves.{Near, session_gets, session_settled}
use Rattle.law_world.specs.Below.fkv_world.Past.{Answered, TraceEvent}
use Rattle.law_world.specs.Below.fkv_world.Runs.{World, run}
use Rattle.law_world.specs.Below.fkv_world.World.{Moves as Steps, Now, seat_at, with_session}
use Rattle.law_world.specs.Runs.Added.{told_at, told_by, ended_by, begun_by}
use Rattle.law_world.specs.Runs.Ends.{StandsAtNoSlot, asks_left_of, left_at}
use Rattle.law_world.proofs.OfRuns.Added.{trace_so}
use Rattle.law_world.proofs.OfRuns.Ends.{session_down}
use Rattle.law_world.proofs.OfRuns.InHand.Lives.{session_in_hand}
use Rattle.law_world.proofs.OfRuns.Nothing.{none_ever}
use Rattle.law_world.proofs.OfGuarded.Ends.{life_ended, life_stands}
use Rattle.fkv_seats.specs.declared.held.Held.TheVariants.{Drain}
use Rattle.fkv_seats.specs.declared.views.Role.TheVariants.{Sits}
use Rattle.fkv_seats.specs.Rule.{AreAllowed, Carries, HandFits, action_in, base, flat, led}
use Rattle.fkv_seats.proofs.Keeps.{allowed_both, allowed_first, allowed_last, no_some}
use Rattle.fkv_table.specs.declared.happenings.Happening.{Happening}
use Rattle.fkv_table.specs.declared.happenings.Happening.TheVariants.{Moves}
use Rattle.fkv_table.specs.Calls.{IsToldLast}
use Rattle.fkv_table.specs.Desks.{Slot, Knows}
use Rattle.fkv_table.specs.Events.{event_of}
use Rattle.fkv_table.specs.Openings.{IsGuardedOpening}
use Rattle.fkv_table.specs.Planes.{plane}
use Rattle.fkv_table.specs.Sits.{IsAsked, IsIdleEmpty, IsSeated, Replied, Settled, Went}
use Rattle.fkv_table.proofs.Lives.{alive, led_run, named_within, rests_so, same_chair, slots_count}
use Rattle.fkv_table.proofs.Moved.{moved_so, replied_there, same_drawer}
use Rattle.fkv_table.proofs.Steps.{chair_at, names_so, standing}

-- a machine at rest asks for nothing
busy_there : (k : Seat) (s : SessionState) (step : Sitting) (place : ℕ) → asked_place (sitting_ask k s step) ≡ Some place → is_busy step ≡ true
unfolding sitting_ask
busy_there k s (Idle its) place e = no_some place e
busy_there k s step place e = refl

pub idle_is : (k : Seat) (s : SessionState) (step : Sitting) (its : Told) → is_busy step ≡ false → sitting_ask k s step ≡ Done its → step ≡ Idle its
unfolding sitting_ask
idle_is k s (Idle it) its idle asks = cc
idle_is k s step its idle asks = cc

pub not_done : {A : Type 0} (ask : Ask A) (place : ℕ) → asked_place ask ≡ Some place → is_done ask ≡ false
not_done (Done its) place e = no_some place e
not_done ask place e = refl

pub none_there : (actions : List (Option Action)) (k : ℕ) → action_in (slice_set actions k None) k ≡ None
none_there [] k = refl
none_there (x ∷ xs) zero = refl
none_there (x ∷ xs) (suc k) = none_there xs k

in_drawer : List (ℕ × Slot) → Option Action
in_drawer [] = None
in_drawer (x ∷ xs) = of x.1
  where
    of : Slot → Option Action
    of (Drain its) = its
    of other = None

pub same_in_hand : (slot other : ℕ) (its more : Option Action) (c d : List (ℕ × Slot)) → ◌≡◌ {A = List (ℕ × Slot)} ((slot, Drain its) ∷ c) ((other, Drain more) ∷ d) → its ≡ more
unfolding in_drawer
same_in_hand slot other its more c d e = ap in_drawer e

-- what a step tells in which a call ends
told_so : (n after : Now) (number : ℕ) (s s' : SessionState) (its : Told) → n.crashed ≡ false → slice_get n.sessions number ≡ Some s → slice_get after.sessions number ≡ Some s' → is_busy s.step ≡ true → s'.step ≡ Idle its
    → told_by n after (Steps number) ≡ Answered number (telling its s'.finished) ∷ []
unfolding ended_by begun_by
told_so n after number s s' its going was now busy idle = rw (going, was, now, busy, idle) refl

module _ {K : Type 0} (at : K → World) where
  -- a session whose machine asks for nothing has no call in hand
  pub ended_so : (w : World) (opens : IsGuardedOpening w) (es : List Happening) (number : ℕ) (s : SessionState) (its : Told) → slice_get (led (plane at) w es).now.sessions number ≡ Some s
      → session_ask (seat_at w.now number) s ≡ Done its → is_busy s.step ≡ false
  ended_so w opens es number s its there asks = by (slice_get w.now.sessions number) refl
    where
      k : Seat
      k = seat_at w.now number

      now_there : slice_get (run w (map event_of es)).now.sessions number ≡ Some s
      now_there = ap (λ (x : World). slice_get x.now.sessions number) (sym (led_run at w es)) ∙ there

      same_seat : seat_at (run w (map event_of es)).now number ≡ k
      same_seat = ap (λ (x : World). seat_at x.now number) (sym (led_run at w es)) ∙ same_chair at w es number

      done : is_done (session_ask k s) ≡ true
      done = ap is_done asks

      none_left : session_asks_left k s ≡ 0
      none_left = elim (eq-zero-or-pos (session_asks_left k s)) [ inl e ↦ e | inr some ↦ (let not : is_done (session_ask k s) ≡ false = (session_left k s).1 some in let clash : true ≡ false = sym done ∙ not in cc) ]

      none : asks_left_of (run w (map event_of es)).now number ≡ 0
      none = ap (left_at (run w (map event_of es)).now number) now_there ∙ (ap (λ (c : Seat). session_asks_left c s) same_seat ∙ none_left)

      by : (was : Option SessionState) → slice_get w.now.sessions number ≡ was → is_busy s.step ≡ false
      by None at_first = let clash : Some s ≡ None = sym now_there ∙ none_ever w (map event_of es) number at_first in cc
      by (Some o) at_first = life_ended w opens.start (map event_of es) number o s opens.guarded at_first now_there none

  module _ (key : K) (me me1 : Me Slot (Knows K)) (own : List Happening) (m m1 : Sitter) (opens : IsGuardedOpening (at key)) (sits : IsSeated at key me own m) (r : Replied at key me own m me1 m1)
      (place : ℕ) (named : asked_place (session_ask m.seat m.state) ≡ Some place) where
    abbrev n : ℕ
    n = m.seat.number

    abbrev behind : List Happening
    behind = own ++ (r.others ++ me.0.seen)

    abbrev x : World
    x = led (plane at) (at key) behind

    abbrev y : World
    y = led (plane at) (at key) (Moves n ∷ behind)

    stood : slice_get x.now.sessions n ≡ Some m.state
    stood = standing at key me own m opens sits r.others r.quiet

    chair : seat_at x.now n ≡ m.seat
    chair = chair_at at key me own m opens sits behind

    going : x.now.crashed ≡ false
    going = alive at (at key) behind opens.opened.goes_on

    -- the machine beside the words and the actions, once the reply has come
    abbrev replied_near : Near SessionState
    replied_near = replied_there x m.seat m.state

    abbrev near1 : Near SessionState
    near1 = record { machine = m1.state; words = replied_near.words; actions = x.now.actions }

    near_is : replied_near ≡ near1
    near_is = λ i. record { machine = sym r.state i; words = replied_near.words; actions = x.now.actions }

    abbrev asks1 : Ask Told
    asks1 = session_ask m1.seat m1.state

    ask_is : session_ask m.seat replied_near.machine ≡ asks1
    ask_is = λ i. session_ask (sym r.seat i) (sym r.state i)

    after_now : y.now ≡ with_session x.now n (session_settled m1.seat near1 asks1)
    after_now =
        moved_so at (at key) behind n m.state place opens.opened.goes_on stood (ap (λ (k : Seat). asked_place (session_ask k m.state)) chair ∙ named)
        ∙ (ap (λ (k : Seat). with_session x.now n (session_settled k (replied_there x k m.state) (session_ask k (replied_there x k m.state).machine))) chair
        ∙ λ i. with_session x.now n (session_settled (sym r.seat i) (near_is i) (ask_is i)))

    -- the slot to which the machine turns is out with the seat
    abbrev drawer : ℕ → Slot
    drawer slot = Drain (action_in x.now.actions slot)

    by_hand : (ask : Ask Told) → me1.0.hand ≡ slot_asked ask → Carries (plane at) (at key) behind me1.0.hand (base (plane at) me.0.hand me.1) me1.1 → IsAsked at ask me1
    by_hand (Put slot action) h c =
        let e : me1.1 ≡ (slot, drawer slot) ∷ base (plane at) me.0.hand me.1 = rw h at c in (drawer slot, e ∙ ap (λ (cs : List (ℕ × Slot)). (slot, drawer slot) ∷ rest cs) (sym e))
    by_hand (Take slot) h c =
        let e : me1.1 ≡ (slot, drawer slot) ∷ base (plane at) me.0.hand me.1 = rw h at c in (action_in x.now.actions slot, e ∙ ap (λ (cs : List (ℕ × Slot)). (slot, drawer slot) ∷ rest cs) (sym e))
    by_hand ask h c = tt

    pub hand_asked : (ask : Ask Told) → ask ≡ asks1 → IsAsked at ask me1
    hand_asked ask is = by_hand ask (r.hand ∙ ap slot_asked (sym is)) r.carries

    turned_to : (ask : Ask Told) → ask ≡ asks1 → (slot : ℕ) → slot_asked ask ≡ Some slot → slot_named x.now (event_of (Moves n)) ≡ Some slot
    turned_to ask is slot e = names_so at key me own m opens sits r.others r.quiet place named ∙ (ap slot_asked (ask_is ∙ sym is) ∙ e)

    -- where the action that goes with the reply leads
    state_so : (me' : Me Slot (Knows K)) (m' : Sitter) (ask : Ask Told) → me1.0.hand ≡ slot_asked ask → Carries (plane at) (at key) behind me1.0.hand (base (plane at) me.0.hand me.1) me1.1
        → Settled at ask me1 m1 me' m' → (session_settled m1.seat near1 ask).machine ≡ m'.state
    unfolding session_settled
    state_so me' m' (Put slot action) h c t = sym (ap (λ (z : Sitter). z.state) t.1)
    state_so me' m' (Take slot) h c t =
        let e : me1.1 ≡ (slot, drawer slot) ∷ base (plane at) me.0.hand me.1 = rw h at c in
        let same : action_at x.now.actions slot ≡ t.0 = sym (same_in_hand slot slot t.0 (action_in x.now.actions slot) _ _ (sym t.1 ∙ e) ∙ same_drawer x.now.actions slot) in
        ap (session_gets m1.seat m1.state) same ∙ sym (ap (λ (z : Sitter). z.state) t.3)
    state_so me' m' (Load i) h c t = sym (ap (λ (z : Sitter). z.state) t.1)
    state_so me' m' (Store i new) h c t = sym (ap (λ (z : Sitter). z.state) t.1)
    state_so me' m' (Swap i new) h c t = sym (ap (λ (z : Sitter). z.state) t.1)
    state_so me' m' (Cas i old new) h c t = sym (ap (λ (z : Sitter). z.state) t.1)
    state_so me' m' (Add i k) h c t = sym (ap (λ (z : Sitter). z.state) t.1)
    state_so me' m' (Max i k) h c t = sym (ap (λ (z : Sitter). z.state) t.1)
    state_so me' m' (Done its) h c t = sym (ap (λ (z : Sitter). z.state) t.1)

    pub same_view : (me' : Me Slot (Knows K)) (m' : Sitter) (ask : Ask Told) → Settled at ask me1 m1 me' m' → (me'.0 ≡ me1.0) × (m'.seat ≡ m1.seat)
    same_view me' m' (Put slot action) t = (ap (λ (z : Me Slot (Knows K)). z.0) t.0, ap (λ (z : Sitter). z.seat) t.1)
    same_view me' m' (Take slot) t = (ap (λ (z : Me Slot (Knows K)). z.0) t.2, ap (λ (z : Sitter). z.seat) t.3)
    same_view me' m' (Load i) t = (ap (λ (z : Me Slot (Knows K)). z.0) t.0, ap (λ (z : Sitter). z.seat) t.1)
    same_view me' m' (Store i new) t = (ap (λ (z : Me Slot (Knows K)). z.0) t.0, ap (λ (z : Sitter). z.seat) t.1)
    same_view me' m' (Swap i new) t = (ap (λ (z : Me Slot (Knows K)). z.0) t.0, ap (λ (z : Sitter). z.seat) t.1)
    same_view me' m' (Cas i old new) t = (ap (λ (z : Me Slot (Knows K)). z.0) t.0, ap (λ (z : Sitter). z.seat) t.1)
    same_view me' m' (Add i k) t = (ap (λ (z : Me Slot (Knows K)). z.0) t.0, ap (λ (z : Sitter). z.seat) t.1)
    same_view me' m' (Max i k) t = (ap (λ (z : Me Slot (Knows K)). z.0) t.0, ap (λ (z : Sitter). z.seat) t.1)
    same_view me' m' (Done its) t = (ap (λ (z : Me Slot (Knows K)). z.0) t.0, ap (λ (z : Sitter). z.seat) t.1)

    -- what is in the seat's hand is what the slot has after the event
    hand_so : (now : World) (me' : Me Slot (Knows K)) (m' : Sitter) (ask : Ask Told) (seen : List Happening) → led (plane at) (at key) seen ≡ now → now.now.actions ≡ (session_settled m1.seat near1 ask).actions
        → ((slot : ℕ) → slot_asked ask ≡ Some slot → slot < length x.now.actions) → Settled at ask me1 m1 me' m' → HandFits (plane at) (at key) seen (slot_asked ask) me'.1
    unfolding session_settled
    hand_so now me' m' (Put slot action) seen is acts deep t =
        let e : me'.1 ≡ (slot, Drain (Some action)) ∷ rest me1.1 = ap (λ (z : Me Slot (Knows K)). z.1) t.0 in
        let its : action_in (led (plane at) (at key) seen).now.actions slot ≡ Some action =
        ap (λ (z : World). action_in z.now.actions slot) is ∙ (ap (λ (actions : List (Option Action)). action_in actions slot) acts ∙ ap flat (within_item x.now.actions slot (Some action) (deep slot refl))) in
        e ∙ λ i. (slot, Drain (sym its i)) ∷ rest (sym e i)
    hand_so now me' m' (Take slot) seen is acts deep t =
        let e : me'.1 ≡ (slot, Drain None) ∷ rest me1.1 = ap (λ (z : Me Slot (Knows K)). z.1) t.2 in
        let its : action_in (led (plane at) (at key) seen).now.actions slot ≡ None =
        ap (λ (z : World). action_in z.now.actions slot) is ∙ (ap (λ (actions : List (Option Action)). action_in actions slot) acts ∙ none_there x.now.actions slot) in
        e ∙ λ i. (slot, Drain (sym its i)) ∷ rest (sym e i)
    hand_so now me' m' ask seen is acts deep t = tt

    -- beside the drain slot it has in hand what it had
    base_so : (me' : Me Slot (Knows K)) (m' : Sitter) (ask : Ask Told) → me1.0.hand ≡ slot_asked ask → Carries (plane at) (at key) behind me1.0.hand (base (plane at) me.0.hand me.1) me1.1
        → Settled at ask me1 m1 me' m' → base (plane at) (slot_asked ask) me'.1 ≡ base (plane at) me.0.hand me.1
    base_so me' m' (Put slot action) h c t =
        let e : me1.1 ≡ (slot, drawer slot) ∷ base (plane at) me.0.hand me.1 = rw h at c in ap (λ (z : Me Slot (Knows K)). rest z.1) t.0 ∙ ap rest e
    base_so me' m' (Take slot) h c t =
        let e : me1.1 ≡ (slot, drawer slot) ∷ base (plane at) me.0.hand me.1 = rw h at c in ap (λ (z : Me Slot (Knows K)). rest z.1) t.2 ∙ ap rest e
    base_so me' m' (Load i) h c t = let e : me1.1 ≡ base (plane at) me.0.hand me.1 = rw h at c in ap (λ (z : Me Slot (Knows K)). z.1) t.0 ∙ e
    base_so me' m' (Store i new) h c t = let e : me1.1 ≡ base (plane at) me.0.hand me.1 = rw h at c in ap (λ (z : Me Slot (Knows K)). z.1) t.0 ∙ e
    base_so me' m' (Swap i new) h c t = let e : me1.1 ≡ base (plane at) me.0.hand me.1 = rw h at c in ap (λ (z : Me Slot (Knows K)). z.1) t.0 ∙ e
    base_so me' m' (Cas i old new) h c t = let e : me1.1 ≡ base (plane at) me.0.hand me.1 = rw h at c in ap (λ (z : Me Slot (Knows K)). z.1) t.0 ∙ e
    base_so me' m' (Add i k) h c t = let e : me1.1 ≡ base (plane at) me.0.hand me.1 = rw h at c in ap (λ (z : Me Slot (Knows K)). z.1) t.0 ∙ e
    base_so me' m' (Max i k) h c t = let e : me1.1 ≡ base (plane at) me.0.hand me.1 = rw h at c in ap (λ (z : Me Slot (Knows K)). z.1) t.0 ∙ e
    base_so me' m' (Done its) h c t = let e : me1.1 ≡ base (plane at) me.0.hand me.1 = rw h at c in ap (λ (z : Me Slot (Knows K)). z.1) t.0 ∙ e

    module _ (me' : Me Slot (Knows K)) (m' : Sitter) (ask : Ask Told) (is : ask ≡ asks1) (t : Settled at ask me1 m1 me' m') where
      hand_is : me1.0.hand ≡ slot_asked ask
      hand_is = r.hand ∙ ap slot_asked (sym is)

      hand' : me'.0.hand ≡ slot_asked ask
      hand' = ap (λ (v : Knows K). v.hand) (same_view me' m' ask t).0 ∙ hand_is

      seen_is : me'.0.seen ≡ Moves n ∷ behind
      seen_is = ap (λ (v : Knows K). v.seen) (same_view me' m' ask t).0 ∙ r.seen

      all_allowed : AreAllowed (plane at) (Moves n ∷ behind)
      all_allowed = (refl, allowed_both (plane at) own (r.others ++ me.0.seen) (allowed_first (plane at) own me.0.seen sits.allowed) (allowed_both (plane at) r.others me.0.seen r.allowed (allowed_last (plane at) own me.0.seen sits.allowed)))

      pub seat_on : m'.seat ≡ m.seat
      seat_on = (same_view me' m' ask t).1 ∙ r.seat

      settled_is : session_settled m1.seat near1 asks1 ≡ session_settled m1.seat near1 ask
      settled_is = ap (session_settled m1.seat near1) (sym is)

      -- the world's session is this machine
      now_there : slice_get y.now.sessions n ≡ Some m'.state
      now_there =
          ap (λ (z : Now). slice_get z.sessions n) after_now
          ∙ (item_written x.now.sessions n m.state (session_settled m1.seat near1 asks1).machine stood
          ∙ ap (λ (s : SessionState). Some s) (ap (λ (z : Near SessionState). z.machine) settled_is ∙ state_so me' m' ask hand_is r.carries t))

      acts : y.now.actions ≡ (session_settled m1.seat near1 ask).actions
      acts = ap (λ (z : Now). z.actions) after_now ∙ ap (λ (z : Near SessionState). z.actions) settled_is

      deep : (slot : ℕ) → slot_asked ask ≡ Some slot → slot < length x.now.actions
      deep slot e = subst (λ (count : ℕ). slot < count) (sym (slots_count at (at key) opens behind)) (named_within at (at key) opens behind (Moves n) slot (turned_to ask is slot e))

      pub seated_on : IsSeated at key me' [] m'
      seated_on = record {
        about = ap (λ (v : Knows K). v.about) (same_view me' m' ask t).0 ∙ (r.about ∙ sits.about);
        role = ap (λ (v : Knows K). v.role) (same_view me' m' ask t).0 ∙ (r.role ∙ (sits.role ∙ ap (λ (k : Seat). Sits k.number) (sym seat_on)));
        chair = seat_on ∙ (sits.chair ∙ ap (λ (k : Seat). seat_at (at key).now k.number) (sym seat_on));
        first = m'.state;
        was = ap (λ (z : List Happening × Seat). slice_get (led (plane at) (at key) z.0).now.sessions z.1.number) (λ i. (seen_is i, seat_on i)) ∙ now_there;
        calls = tt;
        allowed = subst (AreAllowed (plane at)) (sym seen_is) all_allowed;
        state = refl;
        hand = subst (λ (z : List Happening × Option ℕ). HandFits (plane at) (at key) z.0 z.1 me'.1) (λ i. (sym seen_is i, sym hand' i)) (hand_so y me' m' ask (Moves n ∷ behind) refl acts deep t);
      }

      pub went_on : Went at me own n me'
      went_on = record {
        others = r.others;
        quiet = r.quiet;
        seen = seen_is;
        role = ap (λ (v : Knows K). v.role) (same_view me' m' ask t).0 ∙ r.role;
        desk = ap (λ (v : Knows K). v.desk) (same_view me' m' ask t).0 ∙ r.desk;
        base = ap (λ (h : Option ℕ). base (plane at) h me'.1) hand' ∙ base_so me' m' ask hand_is r.carries t;
      }

      busy_before : is_busy m.state.step ≡ true
      busy_before = busy_there m.seat m.state m.state.step place named

      idle_now : (its : Told) → session_ask m'.seat m'.state ≡ Done its → is_busy m'.state.step ≡ false
      idle_now its done =
          ended_so (at key) opens (Moves n ∷ behind) n m'.state its now_there (ap (λ (k : Seat). session_ask k m'.state) (sym sits.chair ∙ sym seat_on) ∙ done)

      pub idle_on : IsIdleEmpty at m' me'
      unfolding led
      idle_on its done = by (slot_asked ask) refl
        where
          by : (found : Option ℕ) → slot_asked ask ≡ found → me'.0.hand ≡ None
          by None e = hand' ∙ e
          by (Some slot) e =
              let busy : is_busy m'.state.step ≡ true = session_in_hand x n slot m.state m'.state going stood (ap (λ (k : Seat). slot_asked (session_ask k m.state)) chair ∙ (ap (λ (k : Seat). slot_asked (session_ask k m.state)) sits.chair ∙ rests_so at (at key) opens behind n m.state stood))
              (turned_to ask is slot e) now_there in
              let clash : true ≡ false = sym busy ∙ idle_now its done in cc

      pub told_on : (its : Told) → session_ask m'.seat m'.state ≡ Done its → IsToldLast (led (plane at) (at key) me'.0.seen) m'.seat.number (telling its m'.state.finished)
      unfolding led
      told_on its done =
          let idle : m'.state.step ≡ Idle its = idle_is m'.seat m'.state m'.state.step its (idle_now its done) done in
          let told = told_so x.now y.now n m.state m'.state its going stood now_there busy_before idle in
          subst (λ (z : List Happening × Seat). IsToldLast (led (plane at) (at key) z.0) z.1.number (telling its m'.state.finished)) (λ i. (sym seen_is i, sym seat_on i)) record {
            before = x.past.trace;
            newest = trace_so x (event_of (Moves n)) ∙ ap (λ (es : List TraceEvent). told_at (length y.past.history) es ++ x.past.trace) told;
          }

      pub fewer_on : session_asks_left m'.seat m'.state < session_asks_left m.seat m.state
      unfolding led
      fewer_on =
          let stands : StandsAtNoSlot x.now n = subst (λ (z : World). StandsAtNoSlot z.now n) (sym (led_run at (at key) behind)) (life_stands (at key) opens.start (map event_of behind) n opens.guarded) in
          let down : asks_left_of y.now n ≤ asks_left_of x.now n - 1 = session_down x n going stands in
          let before : asks_left_of x.now n ≡ session_asks_left m.seat m.state = ap (left_at x.now n) stood ∙ ap (λ (k : Seat). session_asks_left k m.state) chair in
          let after : asks_left_of y.now n ≡ session_asks_left m'.seat m'.state =
          ap (left_at y.now n) now_there ∙ ap (λ (k : Seat). session_asks_left k m'.state) (chair_at at key me own m opens sits (Moves n ∷ behind) ∙ sym seat_on) in
          let some : 0 < session_asks_left m.seat m.state = (session_left m.seat m.state).0 (not_done (session_ask m.seat m.state) place named) in
          omega (arith, down, before, after, some)

  -- one step of a session, whole
  pub record IsStepped (key : K) (me : Me Slot (Knows K)) (own : List Happening) (m : Sitter) (me' : Me Slot (Knows K)) (m' : Sitter) : Type 0 where
    pub seated : IsSeated at key me' [] m'
    pub seat : m'.seat ≡ m.seat
    pub went : Went at me own m.seat.number me'
    pub idle : IsIdleEmpty at m' me'
    pub told : (its : Told) → session_ask m'.seat m'.state ≡ Done its → IsToldLast (led (plane at) (at key) me'.0.seen) m'.seat.number (telling its m'.state.finished)
    pub fewer : session_asks_left m'.seat m'.state < session_asks_left m.seat m.state

  pub asked_in_hand : (key : K) (me me1 : Me Slot (Knows K)) (own : List Happening) (m m1 : Sitter) (first ask : Ask Told) → IsGuardedOpening (at key) → IsSeated at key me own m → Replied at key me own m me1 m1
      → first ≡ session_ask m.seat m.state → (place : ℕ) × (asked_place first ≡ Some place) → ask ≡ session_ask m1.seat m1.state → IsAsked at ask me1
  asked_in_hand key me me1 own m m1 first ask opens sits r was (place, e) is = hand_asked key me me1 own m m1 opens sits r place (ap asked_place (sym was) ∙ e) ask is

  pub stepped_on : (key : K) (me me1 me' : Me Slot (Knows K)) (own : List Happening) (m m1 m' : Sitter) (first ask : Ask Told) → IsGuardedOpening (at key) → IsSeated at key me own m → Replied at key me own m me1 m1
      → first ≡ session_ask m.seat m.state → (place : ℕ) × (asked_place first ≡ Some place) → ask ≡ session_ask m1.seat m1.state → Settled at ask me1 m1 me' m' → IsStepped key me own m me' m'
  stepped_on key me me1 me' own m m1 m' first ask opens sits r was (place, e) is t =
      let named : asked_place (session_ask m.seat m.state) ≡ Some place = ap asked_place (sym was) ∙ e in
      record {
        seated = seated_on key me me1 own m m1 opens sits r place named me' m' ask is t;
        seat = seat_on key me me1 own m m1 opens sits r place named me' m' ask is t;
        went = went_on key me me1 own m m1 opens sits r place named me' m' ask is t;
        idle = idle_on key me me1 own m m1 opens sits r place named me' m' ask is t;
        told = told_on key me me1 own m m1 opens sits r place named me' m' ask is t;
        fewer = fewer_on key me me1 own m m1 opens sits r place named me' m' ask is t;
      }
