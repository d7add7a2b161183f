-- A call that went straight, as far as it did: how its session and its seat stand.
use Rattle.std.proofs.Common.{◌≡◌, ◌≢◌, ℕ, refl, sym, ap, subst, ◌∙◌, inl, true, false, List, [], ◌∷◌}
use Rattle.std.specs.Prelude.{Bool, None, Some}
use Rattle.atomic_table.specs.Seated.{TableId}
use Rattle.atomic_table.specs.Table.{Me}
use Rattle.fkv_base.specs.Limits.{drain_slots}
use Rattle.fkv_map.specs.declared.operations.Call.{Call}
use Rattle.fkv_plane.specs.declared.asks.Ask.{Ask}
use Rattle.fkv_plane.specs.declared.asks.Ask.TheVariants.{Done}
use Rattle.fkv_session.specs.Alike.{StandAlike, lasting}
use Rattle.fkv_session.specs.declared.answers.Finished.{Finished}
use Rattle.fkv_session.specs.declared.answers.Told.{Told}
use Rattle.fkv_session.specs.Sessions.{Seat, SessionState, Sitter, is_busy, session_ask}
use Rattle.fkv_session.specs.SessionRun.{telling}
use Rattle.fkv_straight.specs.Standing.{IsCaughtUp}
use Rattle.law_world.specs.Below.fkv_world.Actors.{slot_asked}
use Rattle.law_world.specs.Below.fkv_world.Runs.{World}
use Rattle.fkv_seats.specs.Rule.{base, desk_slot, led}
use Rattle.fkv_table.specs.Calls.{HasCalled, HasStepped, IsReady, IsToldLast}
use Rattle.fkv_table.specs.declared.happenings.Happening.{Happening}
use Rattle.fkv_table.specs.Desks.{Slot, Knows}
use Rattle.fkv_table.specs.Lines.{HasLed, HasReplied, IsAlong, LineModel, line_of, sitter, stands}
use Rattle.fkv_table.specs.Openings.{IsGuardedOpening}
use Rattle.fkv_table.specs.Planes.{plane}
use Rattle.fkv_table.specs.Sits.{IsAsked, IsSeated, Replied, RepliedIn, Rests, Settled, StandsIn}
use Rattle.fkv_table.proofs.LineSteps.{called_on, idle_asks, rested_is, went_so, whole}
use Rattle.fkv_table.proofs.Settled.{IsStepped, ended_so, same_view}
use Rattle.fkv_table.proofs.StandIns.{IsSteppedIn, StandsByLaws, hand_in, same_finished, settled_in, stepped_in}

module _ {K : Type 0} (at : K → World) (key : K) (table seat : TableId) (me : Me Slot (Knows K)) (m : Sitter) (desk : ℕ) (ready : IsReady at key table seat me m desk) where
  abbrev start : LineModel K
  start = line_of key table me m desk []

  abbrev opens : IsGuardedOpening (at key)
  opens = ready.opened.opening

  -- the line begins where the session rests
  pub begins_at : stands at start ≡ ready.rests.its
  unfolding stands
  begins_at = rested_is at key me (record m { state = ready.rests.its }) m ready.rests.seated ready.empty refl

  pub along_first : IsAlong at start
  along_first = record {
    opened = ready.opened;
    at_desk = ready.at_desk;
    its_desk = ready.its_desk;
    come = inl (subst (λ (s : SessionState). IsSeated at key me [] (record m { state = s })) (sym begins_at) ready.rests.seated, ready.empty);
  }

  pub idle_first : is_busy (stands at start).step ≡ false
  idle_first = ap (λ (s : SessionState). is_busy s.step) begins_at ∙ ready.rests.idle

  pub alike_first : lasting m.state ≡ lasting (stands at start)
  alike_first = ready.rests.alike ∙ ap lasting (sym begins_at)

  -- where no step was made it is ready as before
  pub stays_ready : (m' : Sitter) → m' ≡ m → (seat' : TableId) → seat' ≡ table → (me' : Me Slot (Knows K)) → me' ≡ me → IsReady at key table seat' me' m' desk
  stays_ready m' same seat' there me' here =
      subst (λ (x : Me Slot (Knows K) × Sitter). IsReady at key table seat' x.0 x.1 desk) (λ i. (sym here i, sym same i)) record {
        opened = ready.opened;
        same_table = there;
        rests = ready.rests;
        at_desk = ready.at_desk;
        empty = ready.empty;
        its_desk = ready.its_desk;
      }

  -- the call was made to its end
  pub record HasGone (call : Call) (seat' : TableId) (me' : Me Slot (Knows K)) (m' : Sitter) (told : Told) : Type 0 where
    pub its_ready : IsReady at key table seat' me' m' desk
    pub its_number : m'.seat.number ≡ m.seat.number
    pub its_called : HasCalled m.seat.number call me.0.seen me'.0.seen
    pub its_told : IsToldLast (led (plane at) (at key) me'.0.seen) m'.seat.number (telling told m'.state.finished)

  module _ (call : Call) (now : LineModel K) (went : HasLed at start call now) (along : IsAlong at now) (m1 : Sitter) (same_seat : m1.seat ≡ m.seat) (caught : IsCaughtUp m1.state (stands at now)) where
    abbrev me1 : Me Slot (Knows K)
    me1 = now.me

    abbrev line : LineModel K
    line = line_of key table me1 m desk now.replies

    abbrev s : SessionState
    s = stands at line

    pub along_line : IsAlong at line
    along_line = subst (λ (z : LineModel K). IsAlong at z) went.same along

    pub step : HasReplied at key me1 (record m { state = s })
    step = subst (λ (z : LineModel K). HasReplied at z.key z.me (sitter at z)) went.same went.step

    so_caught : IsCaughtUp m1.state s
    so_caught = subst (λ (z : LineModel K). IsCaughtUp m1.state (stands at z)) went.same caught

    module _ (ask : Ask Told) (is : ask ≡ session_ask m.seat (stands at now)) where
      its_ask : session_ask m.seat s ≡ ask
      its_ask = ap (λ (z : LineModel K). session_ask m.seat (stands at z)) (sym went.same) ∙ sym is

      -- it went to its end
      module _ (told : Told) (done : ask ≡ Done told) where
        over : IsStepped at key step.before step.own step.its me1 (record m { state = s })
        over = whole at key me1 (record m { state = s }) opens step (ap slot_asked (its_ask ∙ done))

        pub rests_over : Rests at key me1 m1
        rests_over = record {
          its = s;
          seated = subst (λ (k : Seat). IsSeated at key me1 [] (record { seat = k; state = s })) (sym same_seat) over.seated;
          alike = so_caught.lasts;
          idle = ended_so at (at key) opens me1.0.seen m.seat.number s told (over.seated.was ∙ ap (λ (x : SessionState). Some x) (sym over.seated.state)) (ap (λ (k : Seat). session_ask k s) (sym over.seated.chair) ∙ (its_ask ∙ done));
        }

        pub ready_over : (seat' : TableId) → seat' ≡ now.table → IsReady at key table seat' me1 m1 desk
        ready_over seat' same = record {
          opened = ready.opened;
          same_table = same ∙ ap (λ (z : LineModel K). z.table) went.same;
          rests = rests_over;
          at_desk = along_line.at_desk;
          empty = over.idle told (its_ask ∙ done);
          its_desk = ready.its_desk ∙ ap (λ (k : Seat). desk_slot drain_slots k.number) (sym same_seat);
        }

        pub told_over : IsToldLast (led (plane at) (at key) me1.0.seen) m1.seat.number (telling told m1.state.finished)
        told_over =
            subst (λ (x : Seat × List Finished). IsToldLast (led (plane at) (at key) me1.0.seen) x.0.number (telling told x.1)) (λ i. (sym same_seat i, sym (same_finished m1.state s so_caught.lasts) i)) (over.told told (its_ask ∙ done))

        pub gone_over : (seat' : TableId) → seat' ≡ now.table → (me' : Me Slot (Knows K)) → me' ≡ me1 → HasGone call seat' me' m1 told
        gone_over seat' same me' here =
            subst (λ (x : Me Slot (Knows K)). HasGone call seat' x m1 told) (sym here) record { its_ready = ready_over seat' same; its_number = ap (λ (k : Seat). k.number) same_seat; its_called = went.called; its_told = told_over }

      -- it has met something unusual: the machine stands where the line stands, and goes on
      module _ (goes_on : (told : Told) → ask ≢ Done told) (laws : StandsByLaws) where
        busy : (is : Bool) → is_busy s.step ≡ is → is_busy s.step ≡ true
        busy true e = e
        busy false e = absurd (let idle = idle_asks m.seat s s.step e in goes_on idle.0 (sym its_ask ∙ idle.1))

        alike_now : StandAlike m1.state s
        alike_now = so_caught.alike (busy (is_busy s.step) refl)

        chair_now : ◌≡◌ {A = Sitter} (record m1 { state = s }) (record m { state = s })
        chair_now = λ i. record { seat = same_seat i; state = s }

        replied_now : RepliedIn at key step.before step.own step.its me1 m1
        replied_now = record {
          before = record { its = step.its.state; seated = step.seated; alike = refl };
          after = s;
          replied = subst (λ (x : Sitter). Replied at key step.before step.own step.its me1 x) (sym chair_now) step.replied;
          alike = alike_now;
        }

        pub asks_there : ask ≡ session_ask m1.seat m1.state
        asks_there = sym its_ask ∙ (ap (λ (k : Seat). session_ask k s) (sym same_seat) ∙ sym (laws.asks m1.seat m1.state s alike_now))

        hand_there : IsAsked at ask me1
        hand_there = hand_in at key step.before me1 step.own step.its m1 (session_ask step.its.seat step.its.state) ask laws.asks opens replied_now refl step.word asks_there

        pub hand_here : (me' : Me Slot (Knows K)) → me' ≡ me1 → IsAsked at ask me'
        hand_here me' here = subst (λ (x : Me Slot (Knows K)). IsAsked at ask x) (sym here) hand_there

        pub settled_here : (me' me2 : Me Slot (Knows K)) (m2 : Sitter) → me' ≡ me1 → Settled at ask me' m1 me2 m2 → Settled at ask me1 m1 me2 m2
        settled_here me' me2 m2 here t = subst (λ (x : Me Slot (Knows K)). Settled at ask x m1 me2 m2) here t

        module _ (me2 : Me Slot (Knows K)) (m2 : Sitter) (settled : Settled at ask me1 m1 me2 m2) where
          pub on : IsSteppedIn at key step.before step.own step.its me2 m2
          on = stepped_in at key step.before me1 me2 step.own step.its m1 m2 (session_ask step.its.seat step.its.state) ask laws.asks laws.goes laws.takes laws.lasts opens replied_now refl step.word asks_there settled

          pub stands_on : StandsIn at key me2 [] m2
          stands_on = on.seated

          view : me2.0 ≡ me1.0
          view =
              let so = settled_in at ask me1 me2 m1 m2 s laws.goes laws.takes alike_now settled in
              (same_view at key step.before me1 step.own step.its (record m { state = s }) opens step.seated step.replied step.word.0 step.word.1 me2 (record m2 { state = so.0 }) ask (subst (λ (x : Sitter). Settled at ask me1 x me2 (record m2 { state = so.0 })) chair_now so.1)).0

          same_chair : m2.seat ≡ m.seat
          same_chair = on.seat ∙ sym step.replied.seat

          desk_on : base (plane at) me2.0.hand me2.1 ≡ (desk, along_line.at_desk.note) ∷ []
          desk_on = on.went.base ∙ (sym (went_so at key step.before step.own step.its me1 (record m { state = s }) step.replied).base ∙ along_line.at_desk.alone)

          -- and so to its end
          module _ (me3 : Me Slot (Knows K)) (m3 : Sitter) (rests : Rests at key me3 m3) (chair : m3.seat ≡ m2.seat) where
            pub ready_on : (seat' : TableId) → seat' ≡ now.table → base (plane at) me3.0.hand me3.1 ≡ base (plane at) me2.0.hand me2.1 → me3.0.desk ≡ me2.0.desk → me3.0.hand ≡ None → IsReady at key table seat' me3 m3 desk
            ready_on seat' same alone flag empty = record {
              opened = ready.opened;
              same_table = same ∙ ap (λ (z : LineModel K). z.table) went.same;
              rests = rests;
              at_desk = record { note = along_line.at_desk.note; alone = alone ∙ desk_on; sits = flag ∙ (ap (λ (v : Knows K). v.desk) view ∙ along_line.at_desk.sits) };
              empty = empty;
              its_desk = ready.its_desk ∙ ap (λ (k : Seat). desk_slot drain_slots k.number) (sym (chair ∙ same_chair));
            }

            -- it is the same call, from whatever had been seen before
            pub called_from : (seen : List Happening) → HasCalled m.seat.number call seen me1.0.seen → HasStepped m2.seat.number me2.0.seen me3.0.seen → HasCalled m.seat.number call seen me3.0.seen
            called_from seen called steps =
                called_on at m.seat.number call seen me2.0.seen me3.0.seen (subst (λ (v : Knows K). HasCalled m.seat.number call seen v.seen) (sym view) called)
                (subst (λ (k : Seat). HasStepped k.number me2.0.seen me3.0.seen) same_chair steps)

            called_to : HasStepped m2.seat.number me2.0.seen me3.0.seen → HasCalled m.seat.number call me.0.seen me3.0.seen
            called_to steps = called_from me.0.seen went.called steps

            pub number_on : m3.seat.number ≡ m.seat.number
            number_on = ap (λ (k : Seat). k.number) (chair ∙ same_chair)

            pub gone_on : (seat' : TableId) (told : Told) → seat' ≡ now.table → base (plane at) me3.0.hand me3.1 ≡ base (plane at) me2.0.hand me2.1 → me3.0.desk ≡ me2.0.desk → me3.0.hand ≡ None → HasStepped m2.seat.number me2.0.seen me3.0.seen
                → IsToldLast (led (plane at) (at key) me3.0.seen) m3.seat.number (telling told m3.state.finished) → HasGone call seat' me3 m3 told
            gone_on seat' told same alone flag empty steps last = record { its_ready = ready_on seat' same alone flag empty; its_number = number_on; its_called = called_to steps; its_told = last }
