-- A call: its start is on the desk, its steps follow, and so on to its answer.
use Rattle.std.proofs.Common.{◌≡◌, ◌≢◌, ℕ, refl, sym, ap, subst, ◌∙◌, inl, inr, append_assoc, true, false, List, [], ◌∷◌, ◌++◌, length}
use Rattle.std.specs.Prelude.{Option, Some, None, slice_get}
use Rattle.atomic_table.specs.Seated.{TableId}
use Rattle.atomic_table.specs.Table.{Me, Step, rest, Allows}
use Rattle.fkv_base.specs.Limits.{drain_slots}
use Rattle.fkv_map.specs.declared.operations.Call.{Call}
use Rattle.fkv_plane.specs.declared.asks.Ask.{Ask}
use Rattle.fkv_plane.specs.declared.asks.Ask.TheVariants.{Load, Store, Swap, Cas, Add, Max, Put, Take, Done}
use Rattle.fkv_plane.specs.Asked.{asked_place}
use Rattle.fkv_session.specs.declared.answers.Told.{Told}
use Rattle.fkv_session.specs.declared.sessions.Sitting.TheVariants.{Idle}
use Rattle.fkv_session.specs.Sessions.{Seat, SessionState, Sitter, is_busy, session_ask, session_begun}
use Rattle.fkv_session.specs.SessionRun.{telling}
use Rattle.law_world.specs.Below.fkv_world.Actors.{slot_asked}
use Rattle.law_world.specs.Below.fkv_world.Past.{Answered, Called, TraceEvent}
use Rattle.law_world.specs.Below.fkv_world.Runs.{World}
use Rattle.law_world.specs.Below.fkv_world.World.{Calls as Starts, Now, session_called}
use Rattle.law_world.specs.Runs.Added.{begun_by, ended_by, told_at, told_by}
use Rattle.law_world.proofs.OfRuns.Added.{trace_so}
use Rattle.fkv_seats.specs.declared.held.Held.TheVariants.{Desk}
use Rattle.fkv_seats.specs.declared.views.Role.{Role}
use Rattle.fkv_seats.specs.declared.views.Role.TheVariants.{Sits}
use Rattle.fkv_seats.specs.Rule.{AreAllowed, AreOwn, AreStarts, Carries, Changes, HandFits, Quiet, Ruled, Stepped, base, desk_slot, led}
use Rattle.fkv_seats.proofs.Keeps.{allowed_both, no_some, allows}
use Rattle.fkv_table.specs.declared.happenings.Happening.{Happening}
use Rattle.fkv_table.specs.declared.happenings.Happening.TheVariants.{Calls, Moves}
use Rattle.fkv_table.specs.Calls.{AreOthers, HasCalled, HasStepped, IsReady, IsToldLast, OnlyMoves, WasIdle}
use Rattle.fkv_table.specs.Desks.{IsAtDesk, Slot, Knows, noted, noting}
use Rattle.fkv_table.specs.Events.{event_of, may_stand}
use Rattle.fkv_table.specs.Openings.{IsGuardedOpening}
use Rattle.fkv_table.specs.Planes.{plane}
use Rattle.fkv_table.specs.Positions.{laid}
use Rattle.fkv_table.specs.Sits.{IsSeated, Rests, Went}
use Rattle.fkv_table.proofs.Laid.{set_found}
use Rattle.fkv_table.proofs.Lives.{alive, quiet_session, rests_so, same_number, slot_facts, start_words}
use Rattle.fkv_table.proofs.Settled.{ended_so, idle_is}
use Rattle.fkv_table.proofs.Steps.{standing, weaken}

same_some : {X : Type 0} (i j : X) → ◌≡◌ {A = Option X} (Some i) (Some j) → i ≡ j
same_some i j e = cc

pub only_both : (number : ℕ) (xs ys : List Happening) → OnlyMoves number xs → OnlyMoves number ys → OnlyMoves number (xs ++ ys)
only_both number [] ys a b = b
only_both number (x ∷ xs) ys a b = (a.0, only_both number xs ys a.1 b)

-- a machine that isn't through asks for a word
asks_word : {A : Type 0} (ask : Ask A) → slot_asked ask ≡ None → ((told : A) → ask ≢ Done told) → (place : ℕ) × (asked_place ask ≡ Some place)
asks_word (Load i) free busy = (i, refl)
asks_word (Store i new) free busy = (i, refl)
asks_word (Swap i new) free busy = (i, refl)
asks_word (Cas i old new) free busy = (i, refl)
asks_word (Add i k) free busy = (i, refl)
asks_word (Max i k) free busy = (i, refl)
asks_word (Put slot action) free busy = no_some slot (sym free)
asks_word (Take slot) free busy = no_some slot (sym free)
asks_word (Done its) free busy = absurd (busy its refl)

-- what the start of a call tells that is over at once
told_at_once : (n after : Now) (number : ℕ) (call : Call) (s s' : SessionState) (its : Told) → n.crashed ≡ false → slice_get n.sessions number ≡ Some s → slice_get after.sessions number ≡ Some s' → is_busy s.step ≡ false → s'.step ≡ Idle its
    → told_by n after (Starts number call) ≡ Answered number (telling its s'.finished) ∷ (Called number call ∷ [])
unfolding ended_by begun_by
told_at_once n after number call s s' its going was now idle ended = rw (going, was, now, idle, ended) refl

module _ {K : Type 0} (at : K → World) where
  quiet_only : (number : ℕ) (xs : List Happening) → Quiet (plane at) (Sits number) xs → OnlyMoves number xs
  quiet_only number [] q = tt
  quiet_only number (x ∷ xs) q = (inr q.0, quiet_only number xs q.1)

  quiet_others : (number : ℕ) (xs : List Happening) → Quiet (plane at) (Sits number) xs → AreOthers number xs
  quiet_others number [] q = tt
  quiet_others number (x ∷ xs) q = (q.0, quiet_others number xs q.1)

  pub one_more : (number : ℕ) (seen : List Happening) (me me' : Me Slot (Knows K)) → HasStepped number seen me.0.seen → me.0.role ≡ Sits number → Went at me [] number me' → HasStepped number seen me'.0.seen
  one_more number seen me me' so role went = record {
    steps = Moves number ∷ (went.others ++ so.steps);
    only = (inl refl, only_both number went.others so.steps (quiet_only number went.others (subst (λ (r : Role). Quiet (plane at) r went.others) role went.quiet)) so.only);
    so = went.seen ∙ ap (λ (es : List Happening). Moves number ∷ es) (ap (λ (es : List Happening). went.others ++ es) so.so ∙ sym (append_assoc went.others so.steps seen));
  }

  pub word_of : (key : K) (me : Me Slot (Knows K)) (own : List Happening) (m : Sitter) (ask : Ask Told) → IsGuardedOpening (at key) → IsSeated at key me own m → ask ≡ session_ask m.seat m.state → ((its : Told) → ask ≢ Done its)
      → (place : ℕ) × (asked_place ask ≡ Some place)
  word_of key me own m ask opens sits is busy =
      asks_word ask (ap slot_asked is ∙ (ap (λ (k : Seat). slot_asked (session_ask k m.state)) sits.chair ∙ rests_so at (at key) opens (own ++ me.0.seen) m.seat.number m.state (standing at key me own m opens sits [] tt))) busy

  -- a call begins: its start stands on the desk
  pub at_front : (desk : ℕ) (me : Me Slot (Knows K)) → IsAtDesk at desk me → me.0.hand ≡ None → (old : Slot) × (me.1 ≡ (desk, old) ∷ rest me.1)
  at_front desk me sits empty =
      let e : me.1 ≡ (desk, sits.note) ∷ [] = ap (λ (h : Option ℕ). base (plane at) h me.1) (sym empty) ∙ sits.alone in (sits.note, e ∙ ap (λ (cs : List (ℕ × Slot)). (desk, sits.note) ∷ rest cs) (sym e))

  called_idle : (k : Seat) (s : SessionState) (call : Call) → is_busy s.step ≡ false → session_called k s call ≡ session_begun k s call
  called_idle k s call idle = rw idle refl

  pub seated_first : (key : K) (desk : ℕ) (me me1 : Me Slot (Knows K)) (m m1 : Sitter) (call : Call) → may_stand (Calls m.seat.number call) ≡ true → IsSeated at key me [] m → is_busy m.state.step ≡ false → me.0.hand ≡ None → me1 ≡ (me.0, (desk, Desk (Calls m.seat.number call)) ∷ rest me.1)
      → m1 ≡ record m { state = session_begun m.seat m.state call } → IsSeated at key me1 (noted me1.1) m1
  seated_first key desk me me1 m m1 call may sits idle empty e is =
      subst (λ (x : Me Slot (Knows K) × Sitter). IsSeated at key x.0 (noted x.0.1) x.1) (λ i. (sym e i, sym is i)) record {
        about = sits.about;
        role = sits.role;
        chair = sits.chair;
        first = sits.first;
        was = sits.was;
        calls = ((call, refl), tt);
        allowed = (may, sits.allowed);
        state = sym (called_idle m.seat m.state call idle) ∙ ap (λ (s : SessionState). session_called m.seat s call) sits.state;
        hand = subst (λ (h : Option ℕ). HandFits (plane at) (at key) me.0.seen h ((desk, Desk (Calls m.seat.number call)) ∷ rest me.1)) (sym empty) tt;
      }

  -- so where the step itself adds the start
  pub seated_begun : (key : K) (me : Me Slot (Knows K)) (m m1 : Sitter) (call : Call) → may_stand (Calls m.seat.number call) ≡ true → IsSeated at key me [] m → is_busy m.state.step ≡ false → m1 ≡ record m { state = session_begun m.seat m.state call }
      → IsSeated at key me (Calls m.seat.number call ∷ []) m1
  seated_begun key me m m1 call may sits idle is =
      subst (λ (x : Sitter). IsSeated at key me (Calls m.seat.number call ∷ []) x) (sym is) record {
        about = sits.about;
        role = sits.role;
        chair = sits.chair;
        first = sits.first;
        was = sits.was;
        calls = ((call, refl), tt);
        allowed = (may, sits.allowed);
        state = sym (called_idle m.seat m.state call idle) ∙ ap (λ (s : SessionState). session_called m.seat s call) sits.state;
        hand = sits.hand;
      }

  pub noted_so : (desk : ℕ) (me me1 : Me Slot (Knows K)) (start : Happening) → me1 ≡ (me.0, (desk, Desk start) ∷ rest me.1) → noted me1.1 ≡ start ∷ []
  noted_so desk me me1 start e = ap (λ (x : Me Slot (Knows K)). noted x.1) e

  -- the call with all its steps
  pub called_by : (number : ℕ) (call : Call) (own : List Happening) (me1 me2 : Me Slot (Knows K)) (seen' : List Happening) → me1.0.role ≡ Sits number → own ≡ Calls number call ∷ [] → Went at me1 own number me2
      → HasStepped number me2.0.seen seen' → HasCalled number call me1.0.seen seen'
  called_by number call own me1 me2 seen' role starts went so = record {
    steps = so.steps ++ Moves number ∷ [];
    only = only_both number so.steps (Moves number ∷ []) so.only (inl refl, tt);
    others = went.others;
    quiet = quiet_others number went.others (subst (λ (r : Role). Quiet (plane at) r went.others) role went.quiet);
    so = so.so ∙ (ap (λ (es : List Happening). so.steps ++ es) (went.seen ∙ λ i. Moves number ∷ (starts i ++ (went.others ++ me1.0.seen))) ∙ sym (append_assoc so.steps (Moves number ∷ []) (Calls number call ∷ (went.others ++ me1.0.seen))));
  }

  pub called : (number : ℕ) (call : Call) (me1 me2 : Me Slot (Knows K)) (seen' : List Happening) → me1.0.role ≡ Sits number → noted me1.1 ≡ Calls number call ∷ [] → Went at me1 (noted me1.1) number me2
      → HasStepped number me2.0.seen seen' → HasCalled number call me1.0.seen seen'
  called number call me1 me2 seen' role note went so = called_by number call (noted me1.1) me1 me2 seen' role note went so

  -- A call that is over before its first ask: a load adds its start alone.
  same_head : (its other : Happening) → ◌≡◌ {A = List Happening} (its ∷ []) (other ∷ []) → its ≡ other
  same_head its other e = cc

  no_starts : (w : World) → AreStarts (plane at) w []
  no_starts w = record { words = λ es. refl; actions = λ es. refl }

  module _ (key : K) (me : Me Slot (Knows K)) (m : Sitter) (call : Call) (opens : IsGuardedOpening (at key)) (sits : IsSeated at key me (noted me.1) m) (note : noted me.1 ≡ Calls m.seat.number call ∷ []) where
    abbrev n : ℕ
    n = m.seat.number

    call_own : AreOwn (plane at) me.0.role (Calls n call ∷ [])
    call_own = subst (λ (role : Role). AreOwn (plane at) role (Calls n call ∷ [])) (sym sits.role) (same_number n, tt)

    all_allowed : AreAllowed (plane at) (Calls n call ∷ me.0.seen)
    all_allowed = subst (λ (own : List Happening). AreAllowed (plane at) (own ++ me.0.seen)) note sits.allowed

    unchanged : (i : ℕ) → Changes (plane at) key me.0 [] (Calls n call) i (λ (word : ℕ). word)
    unchanged i later q = ap laid (start_words at (at key) n (Calls n call ∷ []) (later ++ me.0.seen) opens.opened.goes_on ((call, refl), tt)) ∙ sym (set_found (laid (led (plane at) (at key) (later ++ me.0.seen)).now.words) i)

    pub note_allowed : (slots id i : ℕ) (st : Step Slot) → st.word ≡ i → Allows (Ruled (plane at) key) slots id me i (λ (word : ℕ). word) (noting at st me)
    note_allowed slots id i st word =
        weaken at key slots id me i (λ (word : ℕ). word) (λ k m'. Stepped (plane at) (at key) me.0 me.1 i [] (Calls n call) k m') (noting at st me)
        (λ k m' t other its about on.
        let same : key ≡ other = same_some key other (sym sits.about ∙ about) in
        let start : Calls n call ≡ its = same_head (Calls n call) its (sym note ∙ on) in
        subst (λ (x : K × ℕ × Happening). Stepped (plane at) (at x.0) me.0 me.1 x.1 [] x.2 k m') (λ j. (same j, sym word j, start j)) t)
        (allows (plane at) key slots id me.0 me.1 i (λ (word : ℕ). word) [] (Calls n call) (slot_facts at (at key) opens) call_own (all_allowed.0, tt) (no_starts (at key)) sits.hand (unchanged i))

    module _ (me' : Me Slot (Knows K)) (i word : ℕ) (t : Stepped (plane at) (at key) me.0 me.1 i [] (Calls n call) word me') where
      abbrev seen' : List Happening
      seen' = Calls n call ∷ (t.others ++ me.0.seen)

      stood : slice_get (led (plane at) (at key) seen').now.sessions n ≡ Some m.state
      stood = ap (λ (own : List Happening). slice_get (led (plane at) (at key) (own ++ (t.others ++ me.0.seen))).now.sessions n) (sym note) ∙ standing at key me (noted me.1) m opens sits t.others t.quiet

      pub noted_seated : IsSeated at key me' [] m
      noted_seated = record {
        about = t.about ∙ sits.about;
        role = t.role ∙ sits.role;
        chair = sits.chair;
        first = m.state;
        was = ap (λ (seen : List Happening). slice_get (led (plane at) (at key) seen).now.sessions n) t.seen ∙ stood;
        calls = tt;
        allowed = subst (AreAllowed (plane at)) (sym t.seen) (all_allowed.0, allowed_both (plane at) t.others me.0.seen t.allowed all_allowed.1);
        state = refl;
        hand = subst (λ (h : Option ℕ). HandFits (plane at) (at key) me'.0.seen h me'.1) (sym t.hand) tt;
      }

      pub noted_called : HasCalled n call me.0.seen me'.0.seen
      noted_called = record {
        steps = [];
        only = tt;
        others = t.others;
        quiet = quiet_others n t.others (subst (λ (r : Role). Quiet (plane at) r t.others) sits.role t.quiet);
        so = t.seen;
      }

      pub noted_empty : me'.0.hand ≡ None
      noted_empty = t.hand

      carries_none : (hand : Option ℕ) (c c' : List (ℕ × Slot)) → hand ≡ None → Carries (plane at) (at key) (t.others ++ me.0.seen) hand c c' → c' ≡ c
      carries_none None c c' e its = its
      carries_none (Some k) c c' e its = no_some k (sym e)

      pub noted_base : base (plane at) me'.0.hand me'.1 ≡ base (plane at) me.0.hand me.1
      noted_base = ap (λ (h : Option ℕ). base (plane at) h me'.1) t.hand ∙ carries_none me'.0.hand (base (plane at) me.0.hand me.1) me'.1 t.hand t.carries

      pub noted_told : (its : Told) → ((s : SessionState) → slice_get (led (plane at) (at key) me.0.seen).now.sessions n ≡ Some s → is_busy s.step ≡ false) → session_ask m.seat m.state ≡ Done its
          → IsToldLast (led (plane at) (at key) me'.0.seen) n (telling its m.state.finished)
      unfolding led
      noted_told its idle done =
          let x : World = led (plane at) (at key) (t.others ++ me.0.seen) in
          let y : World = led (plane at) (at key) seen' in
          let was : slice_get x.now.sessions n ≡ Some sits.first = quiet_session at (at key) n t.others me.0.seen (subst (λ (r : Role). Quiet (plane at) r t.others) sits.role t.quiet) ∙ sits.was in
          let ended : is_busy m.state.step ≡ false = ended_so at (at key) opens seen' n m.state its stood (ap (λ (k : Seat). session_ask k m.state) (sym sits.chair) ∙ done) in
          let told = told_at_once x.now y.now n call sits.first m.state its (alive at (at key) (t.others ++ me.0.seen) opens.opened.goes_on) was stood (idle sits.first sits.was) (idle_is m.seat m.state m.state.step its ended done) in
          subst (λ (seen : List Happening). IsToldLast (led (plane at) (at key) seen) n (telling its m.state.finished)) (sym t.seen) record {
            before = record { its = Called n call; effects = length y.past.history } ∷ x.past.trace;
            newest = trace_so x (event_of (Calls n call)) ∙ ap (λ (es : List TraceEvent). told_at (length y.past.history) es ++ x.past.trace) told;
          }

  -- between two calls none is in hand
  pub was_idle : (key : K) (me me1 : Me Slot (Knows K)) (m m1 : Sitter) → IsSeated at key me [] m → is_busy m.state.step ≡ false → me1.0 ≡ me.0 → m1.seat ≡ m.seat → WasIdle at key me1.0.seen m1.seat.number
  was_idle key me me1 m m1 sits idle view seat =
      subst (λ (x : Knows K × Seat). WasIdle at key x.0.seen x.1.number) (λ i. (sym view i, sym seat i))
      (λ s there. ap (λ (z : SessionState). is_busy z.step) (same_some s sits.first (sym there ∙ sits.was) ∙ sym sits.state) ∙ idle)

  pub ready_again : (key : K) (table seat seat' : TableId) (me me1 me' : Me Slot (Knows K)) (m m' : Sitter) (desk : ℕ) (start : Happening) → IsReady at key table seat me m desk → seat' ≡ seat
      → me1 ≡ (me.0, (desk, Desk start) ∷ rest me.1) → base (plane at) me'.0.hand me'.1 ≡ base (plane at) me1.0.hand me1.1 → me'.0.desk ≡ me1.0.desk → Rests at key me' m' → m'.seat ≡ m.seat → me'.0.hand ≡ None
      → IsReady at key table seat' me' m' desk
  ready_again key table seat seat' me me1 me' m m' desk start ready same at_desk alone flag rests seat_is empty =
      let there = at_front desk me ready.at_desk ready.empty in
      let was : me.1 ≡ (desk, ready.at_desk.note) ∷ [] = ap (λ (h : Option ℕ). base (plane at) h me.1) (sym ready.empty) ∙ ready.at_desk.alone in
      let now : base (plane at) me1.0.hand me1.1 ≡ (desk, Desk start) ∷ [] =
      ap (λ (x : Me Slot (Knows K)). base (plane at) x.0.hand x.1) at_desk ∙ (ap (λ (h : Option ℕ). base (plane at) h ((desk, Desk start) ∷ rest me.1)) ready.empty ∙ ap (λ (cs : List (ℕ × Slot)). (desk, Desk start) ∷ rest cs) was) in
      record {
        opened = ready.opened;
        same_table = same ∙ ready.same_table;
        rests = rests;
        at_desk = record { note = Desk start; alone = alone ∙ now; sits = flag ∙ (ap (λ (x : Me Slot (Knows K)). x.0.desk) at_desk ∙ ready.at_desk.sits) };
        empty = empty;
        its_desk = ready.its_desk ∙ ap (λ (k : Seat). desk_slot drain_slots k.number) (sym seat_is);
      }
