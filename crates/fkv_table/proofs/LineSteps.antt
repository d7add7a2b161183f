-- The steps of a line are those that its session's machine asks for.
use Rattle.std.proofs.Common.{◌≡◌, ℕ, refl, sym, ap, subst, ◌∙◌, inl, inr, append_assoc, false, true, List, [], ◌∷◌, ◌++◌}
use Rattle.std.specs.Prelude.{Option, Some, None, slice_get}
use Rattle.atomic_table.specs.Table.{Me, rest}
use Rattle.fkv_map.specs.declared.operations.Call.{Call}
use Rattle.fkv_plane.specs.declared.asks.Ask.{Ask}
use Rattle.fkv_plane.specs.declared.asks.Ask.TheVariants.{Load, Store, Swap, Cas, Add, Max, Put, Take, Done}
use Rattle.fkv_plane.specs.Asked.{asked_place, reply_to}
use Rattle.fkv_session.specs.declared.answers.Told.{Told}
use Rattle.fkv_session.specs.declared.sessions.Sitting.{Sitting}
use Rattle.fkv_session.specs.declared.sessions.Sitting.TheVariants.{Idle}
use Rattle.fkv_session.specs.Sessions.{Seat, SessionState, Sitter, is_busy, session_ask, session_next, sitting_ask}
use Rattle.fkv_straight.specs.Standing.{asked, begins, leads, replayed}
use Rattle.law_world.specs.Below.fkv_world.Actors.{slot_asked}
use Rattle.law_world.specs.Below.fkv_world.Runs.{World}
use Rattle.fkv_seats.specs.declared.views.Role.TheVariants.{Sits}
use Rattle.fkv_seats.specs.Rule.{Carries, base, led}
use Rattle.fkv_seats.proofs.Keeps.{no_some}
use Rattle.fkv_table.specs.declared.happenings.Happening.{Happening}
use Rattle.fkv_table.specs.declared.happenings.Happening.TheVariants.{Calls}
use Rattle.fkv_table.specs.Asks.{step_of}
use Rattle.fkv_table.specs.Calls.{HasCalled, HasStepped}
use Rattle.fkv_table.specs.Desks.{Slot, Knows, turned}
use Rattle.fkv_table.specs.Events.{may_stand}
use Rattle.fkv_table.specs.Lines.{HasCome, HasLed, HasReplied, IsAlong, LineModel, come_to, session_in, session_or, sitter, stands}
use Rattle.fkv_table.specs.Openings.{IsGuardedOpening}
use Rattle.fkv_table.specs.Planes.{plane}
use Rattle.fkv_table.specs.Sits.{IsSeated, Replied, Settled, Went}
use Rattle.fkv_table.proofs.Called.{called_by, one_more, only_both, seated_begun}
use Rattle.fkv_table.proofs.Settled.{IsStepped, stepped_on}
use Rattle.fkv_table.proofs.Steps.{replies, standing}

-- a session with no call in hand asks for nothing
pub idle_asks : (k : Seat) (s : SessionState) (step : Sitting) → is_busy step ≡ false → (its : Told) × (sitting_ask k s step ≡ Done its)
unfolding sitting_ask
idle_asks k s (Idle its) idle = (its, refl)
idle_asks k s step idle = let clash : true ≡ false = idle in cc

-- what is asked where a session stands
pub asked_is : (k : Seat) (s : SessionState) (ask : Ask Told) → asked k s ≡ ask → ask ≡ session_ask k s
unfolding asked
asked_is k s ask is = sym is

no_slot : {A : Type 0} (ask : Ask A) (place : ℕ) → asked_place ask ≡ Some place → slot_asked ask ≡ None
no_slot (Load i) place e = refl
no_slot (Store i new) place e = refl
no_slot (Swap i new) place e = refl
no_slot (Cas i old new) place e = refl
no_slot (Add i k) place e = refl
no_slot (Max i k) place e = refl
no_slot (Put slot action) place e = no_some place e
no_slot (Take slot) place e = no_some place e
no_slot (Done its) place e = no_some place e

-- one more reply leads one step on
replayed_more : (k : Seat) (s : SessionState) (told : List ℕ) (reply : ℕ) → replayed k s (told ++ reply ∷ []) ≡ leads k (replayed k s told) reply
unfolding replayed
replayed_more k s [] reply = refl
replayed_more k s (first ∷ later) reply = replayed_more k (leads k s first) later reply

module _ {K : Type 0} (at : K → World) where
  -- where the machine turns to no slot, nothing is moved
  still : (ask : Ask Told) (me : Me Slot (Knows K)) (m : Sitter) → slot_asked ask ≡ None → Settled at ask me m me m
  still (Put slot action) me m e = no_some slot (sym e)
  still (Take slot) me m e = no_some slot (sym e)
  still (Load i) me m e = (refl, refl)
  still (Store i new) me m e = (refl, refl)
  still (Swap i new) me m e = (refl, refl)
  still (Cas i old new) me m e = (refl, refl)
  still (Add i k) me m e = (refl, refl)
  still (Max i k) me m e = (refl, refl)
  still (Done its) me m e = (refl, refl)

  -- so the step is whole by its reply
  pub whole : (key : K) (me : Me Slot (Knows K)) (m : Sitter) → IsGuardedOpening (at key) → (r : HasReplied at key me m) → slot_asked (session_ask m.seat m.state) ≡ None → IsStepped at key r.before r.own r.its me m
  whole key me m opens r none =
      stepped_on at key r.before me me r.own r.its m m (session_ask r.its.seat r.its.state) (session_ask m.seat m.state) opens r.seated r.replied refl r.word refl (still (session_ask m.seat m.state) me m none)

  pub seated_there : (key : K) (me : Me Slot (Knows K)) (m : Sitter) → IsGuardedOpening (at key) → HasCome at key me m → slot_asked (session_ask m.seat m.state) ≡ None → IsSeated at key me [] m
  seated_there key me m opens (inl sits) none = sits.0
  seated_there key me m opens (inr r) none = (whole key me m opens r none).seated

  pub empty_there : (key : K) (me : Me Slot (Knows K)) (m : Sitter) → IsGuardedOpening (at key) → HasCome at key me m → slot_asked (session_ask m.seat m.state) ≡ None → me.0.hand ≡ None
  empty_there key me m opens (inl sits) none = sits.1
  empty_there key me m opens (inr r) none = r.replied.hand ∙ none

  -- the world's session is the one that sits there
  session_is : (key : K) (me : Me Slot (Knows K)) (m from : Sitter) → IsSeated at key me [] m → from.seat ≡ m.seat → session_in from (led (plane at) (at key) me.0.seen) ≡ m.state
  session_is key me m from sits same =
      ap (λ (k : Seat). session_or from.state (slice_get (led (plane at) (at key) me.0.seen).now.sessions k.number)) same ∙ (ap (session_or from.state) sits.was ∙ sym sits.state)

  come_empty : (key : K) (from : Sitter) (hand : Option ℕ) (seen : List Happening) → hand ≡ None → come_to at key from hand seen ≡ session_in from (led (plane at) (at key) seen)
  come_empty key from hand seen e = ap (λ (h : Option ℕ). come_to at key from h seen) e

  pub rested_is : (key : K) (me : Me Slot (Knows K)) (m from : Sitter) → IsSeated at key me [] m → me.0.hand ≡ None → from.seat ≡ m.seat → come_to at key from me.0.hand me.0.seen ≡ m.state
  rested_is key me m from sits empty same = come_empty key from me.0.hand me.0.seen empty ∙ session_is key me m from sits same

  -- a step's reply leads to where its session then stands
  pub come_is : (key : K) (me : Me Slot (Knows K)) (own : List Happening) (m : Sitter) (me' : Me Slot (Knows K)) (m' from : Sitter) → IsGuardedOpening (at key) → IsSeated at key me own m → (place : ℕ) × (asked_place (session_ask m.seat m.state) ≡ Some place)
      → Replied at key me own m me' m' → from.seat ≡ m.seat → come_to at key from me'.0.hand me'.0.seen ≡ m'.state
  come_is key me own m me' m' from opens sits word r same = by (slot_asked (session_ask m'.seat m'.state)) refl
    where
      x : World
      x = led (plane at) (at key) (own ++ (r.others ++ me.0.seen))

      stood : session_in from x ≡ m.state
      stood = ap (λ (k : Seat). session_or from.state (slice_get x.now.sessions k.number)) same ∙ ap (session_or from.state) (standing at key me own m opens sits r.others r.quiet)

      by : (found : Option ℕ) → slot_asked (session_ask m'.seat m'.state) ≡ found → come_to at key from me'.0.hand me'.0.seen ≡ m'.state
      by None none = rested_is key me' m' from (whole key me' m' opens (record { before = me; own = own; its = m; seated = sits; word = word; replied = r }) none).seated (r.hand ∙ none) (same ∙ sym r.seat)
      by (Some slot) e =
          (λ i. come_to at key from ((r.hand ∙ e) i) (r.seen i))
          ∙ ((λ i. session_next (same i) (stood i) (reply_to x.now.words (session_ask (same i) (stood i)))) ∙ sym r.state)

  -- beside the slot that is out with it the seat has in hand what it had
  carried : (w : World) (before : List Happening) (hand : Option ℕ) (c c' : List (ℕ × Slot)) → Carries (plane at) w before hand c c' → base (plane at) hand c' ≡ c
  carried w before None c c' its = its
  carried w before (Some k) c c' its = ap rest its

  pub went_so : (key : K) (me : Me Slot (Knows K)) (own : List Happening) (m : Sitter) (me' : Me Slot (Knows K)) (m' : Sitter) → Replied at key me own m me' m' → Went at me own m.seat.number me'
  went_so key me own m me' m' r = record {
    others = r.others;
    quiet = r.quiet;
    seen = r.seen;
    role = r.role;
    desk = r.desk;
    base = carried (at key) (own ++ (r.others ++ me.0.seen)) me'.0.hand (base (plane at) me.0.hand me.1) me'.1 r.carries;
  }

  -- so the call has one step more
  pub called_on : (number : ℕ) (call : Call) (seen now later : List Happening) → HasCalled number call seen now → HasStepped number now later → HasCalled number call seen later
  called_on number call seen now later so on = record {
    steps = on.steps ++ so.steps;
    only = only_both number on.steps so.steps on.only so.only;
    others = so.others;
    quiet = so.quiet;
    so = on.so ∙ (ap (λ (es : List Happening). on.steps ++ es) so.so ∙ sym (append_assoc on.steps so.steps (Calls number call ∷ (so.others ++ seen))));
  }

  pub called_more : (number : ℕ) (call : Call) (seen : List Happening) (me me' : Me Slot (Knows K)) → HasCalled number call seen me.0.seen → me.0.role ≡ Sits number → Went at me [] number me' → HasCalled number call seen me'.0.seen
  called_more number call seen me me' so role went = called_on number call seen me.0.seen me'.0.seen so (one_more at number me.0.seen me me' (record { steps = []; only = tt; so = refl }) role went)

  -- ---- what is so of a line behind a step
  pub record IsLineStep (l l' : LineModel K) (reply : ℕ) (from : SessionState) : Type 0 where
    pub along : IsAlong at l'
    pub next : stands at l' ≡ leads l.machine.seat from reply

  pub record HasMade (l l' : LineModel K) (reply : ℕ) : Type 0 where
    pub next : stands at l' ≡ leads l.machine.seat (stands at l) reply
    pub led : (start : LineModel K) (call : Call) → HasLed at start call l → HasLed at start call l'
    pub replies : l'.replies ≡ l.replies ++ reply ∷ []
    pub machine : l'.machine ≡ l.machine

  module _ (l : LineModel K) (along : IsAlong at l) where
    abbrev k : Seat
    k = l.machine.seat

    abbrev opens : IsGuardedOpening (at l.key)
    opens = along.opened.opening

    -- where the seat and the session stand behind a step of this ask
    module _ (me1 : Me Slot (Knows K)) (own : List (ℕ × Slot) → List Happening) (s : SessionState) (sits : IsSeated at l.key me1 (own me1.1) (record l.machine { state = s })) (note : Slot)
        (alone : base (plane at) me1.0.hand me1.1 ≡ (l.desk, note) ∷ []) (flag : me1.0.desk ≡ true) (slots : ℕ) (ask : Ask Told) (is : asked k s ≡ ask) (word : (place : ℕ) × (asked_place ask ≡ Some place))
        (reply : ℕ) (me' : Me Slot (Knows K)) (told : turned at own (step_of slots ask) me1 reply me') (replies' : List ℕ) where
      abbrev before : Sitter
      before = record l.machine { state = s }

      abbrev l2 : LineModel K
      l2 = record l { me = me'; replies = replies' }

      its_ask : ask ≡ session_ask k s
      its_ask = asked_is k s ask is

      its_word : (place : ℕ) × (asked_place (session_ask k s) ≡ Some place)
      its_word = (word.0, ap asked_place (sym its_ask) ∙ word.1)

      abbrev m' : Sitter
      m' = record l.machine { state = session_next k s reply }

      pub did : Replied at l.key me1 (own me1.1) before me' m'
      did = replies at l.key slots me1 me' own before m' ask reply opens sits its_ask word told refl

      pub went : Went at me1 (own me1.1) k.number me'
      went = went_so l.key me1 (own me1.1) before me' m' did

      comes : come_to at l.key l.machine me'.0.hand me'.0.seen ≡ session_next k s reply
      comes = come_is l.key me1 (own me1.1) before me' m' l.machine opens sits its_word did refl

      pub there : HasReplied at l2.key me' (sitter at l2)
      unfolding stands
      there =
          subst (λ (x : SessionState). HasReplied at l.key me' (record l.machine { state = x })) (sym comes)
          (record { before = me1; own = own me1.1; its = before; seated = sits; word = its_word; replied = did })

      pub stepped_line : IsLineStep l l2 reply s
      unfolding stands leads
      stepped_line = record {
        along = record {
          opened = along.opened;
          at_desk = record { note = note; alone = went.base ∙ alone; sits = went.desk ∙ flag };
          its_desk = along.its_desk;
          come = inr there;
        };
        next = comes;
      }

    -- a step in a call
    module _ (ask : Ask Told) (is : asked k (stands at l) ≡ ask) (word : (place : ℕ) × (asked_place ask ≡ Some place)) where
      pub here : IsSeated at l.key l.me [] (sitter at l)
      here = seated_there l.key l.me (sitter at l) opens along.come (no_slot (session_ask k (stands at l)) word.0 (ap asked_place (sym (asked_is k (stands at l) ask is)) ∙ word.1))

      module _ (slots reply : ℕ) (me' : Me Slot (Knows K)) (told : turned at (λ _. []) (step_of slots ask) l.me reply me') (replies' : List ℕ) (more : replies' ≡ l.replies ++ reply ∷ []) where
        abbrev on : LineModel K
        on = record l { me = me'; replies = replies' }

        pub next_line : IsLineStep l on reply (stands at l)
        next_line = stepped_line l.me (λ _. []) (stands at l) here along.at_desk.note along.at_desk.alone along.at_desk.sits slots ask is word reply me' told replies'

        pub led_on : (start : LineModel K) (call : Call) → HasLed at start call l → HasLed at start call on
        led_on start call so =
            let number_is : k.number ≡ start.machine.seat.number = ap (λ (z : LineModel K). z.machine.seat.number) so.same in
            let did = went l.me (λ _. []) (stands at l) here along.at_desk.note along.at_desk.alone along.at_desk.sits slots ask is word reply me' told replies' in
            record {
              same = ap (λ (z : LineModel K). record z { me = me'; replies = replies' }) so.same;
              called = subst (λ (n : ℕ). HasCalled n call start.me.0.seen me'.0.seen) number_is
                  (called_more k.number call start.me.0.seen l.me me' (subst (λ (n : ℕ). HasCalled n call start.me.0.seen l.me.0.seen) (sym number_is) so.called) here.role did);
              step = there l.me (λ _. []) (stands at l) here along.at_desk.note along.at_desk.alone along.at_desk.sits slots ask is word reply me' told replies';
              replayed = next_line.next
                  ∙ (ap (λ (s : SessionState). leads k s reply) so.replayed
                  ∙ (sym (replayed_more k (begins start.machine.seat (stands at start) call) l.replies reply) ∙ ap (replayed k (begins start.machine.seat (stands at start) call)) (sym more)));
            }

        pub made : HasMade l on reply
        made = record { next = next_line.next; led = led_on; replies = more; machine = refl }

    -- ---- a call begins
    module _ (idle : is_busy (stands at l).step ≡ false) where
      asks_none : slot_asked (session_ask k (stands at l)) ≡ None
      asks_none = ap slot_asked (idle_asks k (stands at l) (stands at l).step idle).1

      rests_here : IsSeated at l.key l.me [] (sitter at l)
      rests_here = seated_there l.key l.me (sitter at l) opens along.come asks_none

      pub empty_here : l.me.0.hand ≡ None
      empty_here = empty_there l.key l.me (sitter at l) opens along.come asks_none

      module _ (call : Call) (fits : may_stand (Calls l.machine.seat.number call) ≡ true) where
        -- the step adds the call's start, whatever the seat has in hand
        abbrev start : List (ℕ × Slot) → List Happening
        start = λ _. Calls l.machine.seat.number call ∷ []

        pub begun_here : IsSeated at l.key l.me (Calls l.machine.seat.number call ∷ []) (record l.machine { state = begins k (stands at l) call })
        unfolding begins
        begun_here = seated_begun at l.key l.me (sitter at l) (record l.machine { state = begins k (stands at l) call }) call fits rests_here idle refl

        module _ (ask : Ask Told) (is : asked k (begins k (stands at l) call) ≡ ask) (word : (place : ℕ) × (asked_place ask ≡ Some place)) (slots reply : ℕ) (me' : Me Slot (Knows K)) (told : turned at start (step_of slots ask) l.me reply me')
            (replies' : List ℕ) (only : replies' ≡ reply ∷ []) where
          abbrev begun : LineModel K
          begun = record l { me = me'; replies = replies' }

          pub first_line : IsLineStep l begun reply (begins k (stands at l) call)
          first_line = stepped_line l.me start (begins k (stands at l) call) begun_here along.at_desk.note along.at_desk.alone along.at_desk.sits slots ask is word reply me' told replies'

          pub led_first : HasLed at l call begun
          unfolding replayed
          led_first =
              let did = went l.me start (begins k (stands at l) call) begun_here along.at_desk.note along.at_desk.alone along.at_desk.sits slots ask is word reply me' told replies' in
              record {
                same = refl;
                called = called_by at k.number call (Calls k.number call ∷ []) l.me me' me'.0.seen begun_here.role refl did (record { steps = []; only = tt; so = refl });
                step = there l.me start (begins k (stands at l) call) begun_here along.at_desk.note along.at_desk.alone along.at_desk.sits slots ask is word reply me' told replies';
                replayed = first_line.next ∙ ap (replayed k (begins k (stands at l) call)) (sym only);
              }
