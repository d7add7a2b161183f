-- A machine that stands in for the session of a seat: it asks the same, goes on alike, and answers the same.
use Rattle.std.proofs.Common.{◌≡◌, ◌≢◌, ℕ, ◌<◌, refl, sym, ap, subst, ◌∙◌, true, false, List, [], ◌∷◌}
use Rattle.std.specs.Prelude.{Option, Some, None}
use Rattle.atomic_table.specs.Table.{Me, rest}
use Rattle.fkv_map.specs.declared.operations.Call.{Call}
use Rattle.fkv_plane.specs.declared.actions.Action.{Action}
use Rattle.fkv_plane.specs.declared.asks.Ask.{Ask}
use Rattle.fkv_plane.specs.declared.asks.Ask.TheVariants.{Load, Store, Swap, Cas, Add, Max, Put, Take, Done}
use Rattle.fkv_plane.specs.Asked.{asked_place}
use Rattle.fkv_session.specs.Alike.{Lasting, Standing, StandAlike, attempt_in_hand, lasting, standing}
use Rattle.fkv_session.specs.AsksLeft.{session_asks_left, sitting_asks_left}
use Rattle.fkv_session.specs.declared.answers.Finished.{Finished}
use Rattle.fkv_session.specs.declared.answers.Told.{Told}
use Rattle.fkv_session.specs.declared.sessions.CatchCause.TheVariants.{Refreshes, Wakes, Shifts}
use Rattle.fkv_session.specs.declared.sessions.Sitting.{Sitting}
use Rattle.fkv_session.specs.declared.sessions.Sitting.TheVariants.{Idle, Attempts, CatchesUp, ClearsMail, Polls, StoresOwing, Turns, StoresCut, Leaves, LoadsDurable}
use Rattle.fkv_session.specs.Sessions.{Seat, SessionState, Sitter, session_ask, session_begun, session_given, session_next}
use Rattle.fkv_session.specs.SessionRun.{telling}
use Rattle.fkv_seats.specs.declared.held.Held.TheVariants.{Desk}
use Rattle.fkv_seats.specs.Rule.{led}
use Rattle.fkv_table.specs.declared.happenings.Happening.{Happening}
use Rattle.fkv_table.specs.declared.happenings.Happening.TheVariants.{Calls}
use Rattle.fkv_table.specs.Asks.{step_of}
use Rattle.fkv_table.specs.Calls.{IsToldLast}
use Rattle.fkv_table.specs.Desks.{Slot, Knows, noted, turned}
use Rattle.fkv_table.specs.Events.{may_stand}
use Rattle.fkv_table.specs.Openings.{IsGuardedOpening}
use Rattle.fkv_table.specs.Planes.{plane}
use Rattle.fkv_table.specs.Sits.{IsAsked, IsIdleEmpty, IsSeated, RepliedIn, Rests, Settled, StandsIn, Went}
use Rattle.law_world.specs.Below.fkv_world.Moves.{session_gets}
use Rattle.law_world.specs.Below.fkv_world.Runs.{World}
use Rattle.fkv_table.proofs.Called.{seated_first, word_of}
use Rattle.fkv_table.proofs.Settled.{IsStepped, asked_in_hand, ended_so, stepped_on}
use Rattle.fkv_table.proofs.Steps.{replies}

-- what is said of sessions that stand alike
abbrev pub AsksAlike : Type 0
AsksAlike = (seat : Seat) (one other : SessionState) → StandAlike one other → session_ask seat one ≡ session_ask seat other

abbrev pub GoesAlike : Type 0
GoesAlike = (seat : Seat) (one other : SessionState) (reply : ℕ) → StandAlike one other → StandAlike (session_next seat one reply) (session_next seat other reply)

abbrev pub TakesAlike : Type 0
TakesAlike = (seat : Seat) (one other : SessionState) (action : Action) → StandAlike one other → StandAlike (session_given seat one action) (session_given seat other action)

abbrev pub LastsAlike : Type 0
LastsAlike = (one other : SessionState) → StandAlike one other → lasting one ≡ lasting other

-- what is known of sessions that stand alike
pub record StandsByLaws : Type 0 where
  pub asks : AsksAlike
  pub goes : GoesAlike
  pub takes : TakesAlike
  pub lasts : LastsAlike

pub same_finished : (s t : SessionState) → lasting s ≡ lasting t → s.finished ≡ t.finished
unfolding lasting
same_finished s t alike = ap (λ (l : Lasting). l.finished) alike

-- ---- as many asks are left of both
-- the session, of which that lasts by which its asks are counted
left_by : Lasting → SessionState → SessionState
left_by l s = record s { requests = l.requests; catching = l.catching; mailing = l.mailing; leaving = l.leaving; own_turn = l.own_turn }

some_same : {X : Type 0} (i j : X) → ◌≡◌ {A = Option X} (Some i) (Some j) → i ≡ j
some_same i j e = cc

left_so : (k : Seat) (s t : SessionState) (step : Sitting) (l : Lasting) → lasting s ≡ l → attempt_in_hand step s.attempt ≡ attempt_in_hand step t.attempt
    → sitting_asks_left k s step ≡ sitting_asks_left k (left_by l t) step
unfolding lasting left_by sitting_asks_left
left_so k s t (Idle its) l e a = refl
left_so k s t (Attempts false) l e a = λ i. sitting_asks_left k (left_by (e i) (record t { attempt = some_same s.attempt t.attempt a i })) (Attempts false)
left_so k s t (Attempts true) l e a = λ i. sitting_asks_left k (left_by (e i) (record t { attempt = some_same s.attempt t.attempt a i })) (Attempts true)
left_so k s t (CatchesUp Refreshes) l e a = λ i. sitting_asks_left k (left_by (e i) t) (CatchesUp Refreshes)
left_so k s t (CatchesUp Wakes) l e a = λ i. sitting_asks_left k (left_by (e i) t) (CatchesUp Wakes)
left_so k s t (CatchesUp Shifts) l e a = λ i. sitting_asks_left k (left_by (e i) t) (CatchesUp Shifts)
left_so k s t ClearsMail l e a = λ i. sitting_asks_left k (left_by (e i) t) ClearsMail
left_so k s t (Polls index) l e a = λ i. sitting_asks_left k (left_by (e i) (record t { attempt = some_same s.attempt t.attempt a i })) (Polls index)
left_so k s t (StoresOwing index) l e a = λ i. sitting_asks_left k (left_by (e i) t) (StoresOwing index)
left_so k s t (Turns its) l e a = λ i. sitting_asks_left k (left_by (e i) t) (Turns its)
left_so k s t StoresCut l e a = refl
left_so k s t Leaves l e a = λ i. sitting_asks_left k (left_by (e i) t) Leaves
left_so k s t LoadsDurable l e a = refl

left_here : (t : SessionState) → left_by (lasting t) t ≡ t
unfolding lasting left_by
left_here t = refl

pub left_alike : (k : Seat) (s t : SessionState) → StandAlike s t → session_asks_left k s ≡ session_asks_left k t
unfolding standing
left_alike k s t alike =
    let step : s.step ≡ t.step = ap (λ (g : Standing). g.step) alike in
    let attempt : attempt_in_hand s.step s.attempt ≡ attempt_in_hand s.step t.attempt = ap (λ (g : Standing). g.attempt) alike ∙ ap (λ (x : Sitting). attempt_in_hand x t.attempt) (sym step) in
    left_so k s t s.step (lasting t) (ap (λ (g : Standing). g.lasts) alike) attempt ∙ (ap (λ (x : SessionState). sitting_asks_left k x s.step) (left_here t) ∙ ap (sitting_asks_left k t) step)

module _ {K : Type 0} (at : K → World) where
  -- ---- a call begins
  pub first_in : (key : K) (desk : ℕ) (me me1 : Me Slot (Knows K)) (m m1 : Sitter) (call : Call) → may_stand (Calls m.seat.number call) ≡ true → (r : Rests at key me m) → me.0.hand ≡ None → me1 ≡ (me.0, (desk, Desk (Calls m.seat.number call)) ∷ rest me.1)
      → m1 ≡ record m { state = session_begun m.seat m.state call } → StandAlike (session_begun m.seat m.state call) (session_begun m.seat r.its call) → StandsIn at key me1 (noted me1.1) m1
  first_in key desk me me1 m m1 call may r empty e is alike =
      let s : SessionState = session_begun m.seat r.its call in
      record {
        its = s;
        seated = subst (λ (x : Sitter). IsSeated at key me1 (noted me1.1) (record x { state = s })) (sym is) (seated_first at key desk me me1 (record m { state = r.its }) (record m { state = s }) call may r.seated r.idle empty e refl);
        alike = subst (λ (x : Sitter). StandAlike x.state s) (sym is) alike;
      }

  -- ---- a step
  pub replies_in : (key : K) (slots : ℕ) (me me' : Me Slot (Knows K)) (own : List (ℕ × Slot) → List Happening) (m m' : Sitter) (ask : Ask Told) (reply : ℕ) → AsksAlike → GoesAlike → IsGuardedOpening (at key) → StandsIn at key me (own me.1) m
      → ask ≡ session_ask m.seat m.state → (place : ℕ) × (asked_place ask ≡ Some place) → turned at own (step_of slots ask) me reply me' → m' ≡ record m { state = session_next m.seat m.state reply } → RepliedIn at key me (own me.1) m me' m'
  replies_in key slots me me' own m m' ask reply asks goes opens sits is word told went =
      let after : SessionState = session_next m.seat sits.its reply in
      record {
        before = sits;
        after = after;
        replied = replies at key slots me me' own (record m { state = sits.its }) (record m' { state = after }) ask reply opens sits.seated (is ∙ asks m.seat m.state sits.its sits.alike) word told (ap (λ (x : Sitter). record x { state = after }) went);
        alike = subst (λ (x : Sitter). StandAlike x.state after) (sym went) (goes m.seat m.state sits.its reply sits.alike);
      }

  pub hand_in : (key : K) (me me1 : Me Slot (Knows K)) (own : List Happening) (m m1 : Sitter) (first ask : Ask Told) → AsksAlike → IsGuardedOpening (at key) → RepliedIn at key me own m me1 m1
      → first ≡ session_ask m.seat m.state → (place : ℕ) × (asked_place first ≡ Some place) → ask ≡ session_ask m1.seat m1.state → IsAsked at ask me1
  hand_in key me me1 own m m1 first ask asks opens r was word is =
      asked_in_hand at key me me1 own (record m { state = r.before.its }) (record m1 { state = r.after }) first ask opens r.before.seated r.replied (was ∙ asks m.seat m.state r.before.its r.before.alike) word (is ∙ asks m1.seat m1.state r.after r.alike)

  -- the action that goes with the reply leads both on
  abbrev pub SettledIn : Ask Told → Me Slot (Knows K) → Sitter → SessionState → Me Slot (Knows K) → Sitter → Type 0
  SettledIn ask me1 m1 s me' m' = (s' : SessionState) × Settled at ask me1 (record m1 { state = s }) me' (record m' { state = s' }) × StandAlike m'.state s'

  gets_alike : (k : Seat) (s t : SessionState) (its : Option Action) → TakesAlike → StandAlike s t → StandAlike (session_gets k s its) (session_gets k t its)
  gets_alike k s t None takes alike = alike
  gets_alike k s t (Some action) takes alike = takes k s t action alike

  stays_in : (s : SessionState) (m1 m' : Sitter) → StandAlike m1.state s → m' ≡ m1 → (◌≡◌ {A = Sitter} (record m' { state = s }) (record m1 { state = s })) × StandAlike m'.state s
  stays_in s m1 m' alike e = (ap (λ (x : Sitter). record x { state = s }) e, subst (λ (x : Sitter). StandAlike x.state s) (sym e) alike)

  pub settled_in : (ask : Ask Told) (me1 me' : Me Slot (Knows K)) (m1 m' : Sitter) (s : SessionState) → GoesAlike → TakesAlike → StandAlike m1.state s → Settled at ask me1 m1 me' m' → SettledIn ask me1 m1 s me' m'
  settled_in (Put slot action) me1 me' m1 m' s goes takes alike t =
      let s' : SessionState = session_next m1.seat s 0 in
      (s', (t.0, ap (λ (x : Sitter). record x { state = s' }) t.1), subst (λ (x : Sitter). StandAlike x.state s') (sym t.1) (goes m1.seat m1.state s 0 alike))
  settled_in (Take slot) me1 me' m1 m' s goes takes alike t =
      let s' : SessionState = session_gets m1.seat s t.0 in
      (s', (t.0, t.1, t.2, ap (λ (x : Sitter). record x { state = s' }) t.3), subst (λ (x : Sitter). StandAlike x.state s') (sym t.3) (gets_alike m1.seat m1.state s t.0 takes alike))
  settled_in (Load i) me1 me' m1 m' s goes takes alike t = let z = stays_in s m1 m' alike t.1 in (s, (t.0, z.0), z.1)
  settled_in (Store i new) me1 me' m1 m' s goes takes alike t = let z = stays_in s m1 m' alike t.1 in (s, (t.0, z.0), z.1)
  settled_in (Swap i new) me1 me' m1 m' s goes takes alike t = let z = stays_in s m1 m' alike t.1 in (s, (t.0, z.0), z.1)
  settled_in (Cas i old new) me1 me' m1 m' s goes takes alike t = let z = stays_in s m1 m' alike t.1 in (s, (t.0, z.0), z.1)
  settled_in (Add i k) me1 me' m1 m' s goes takes alike t = let z = stays_in s m1 m' alike t.1 in (s, (t.0, z.0), z.1)
  settled_in (Max i k) me1 me' m1 m' s goes takes alike t = let z = stays_in s m1 m' alike t.1 in (s, (t.0, z.0), z.1)
  settled_in (Done its) me1 me' m1 m' s goes takes alike t = let z = stays_in s m1 m' alike t.1 in (s, (t.0, z.0), z.1)

  -- one step of a session, whole
  pub record IsSteppedIn (key : K) (me : Me Slot (Knows K)) (own : List Happening) (m : Sitter) (me' : Me Slot (Knows K)) (m' : Sitter) : Type 0 where
    pub seated : StandsIn at key me' [] m'
    pub seat : m'.seat ≡ m.seat
    pub went : Went at me own m.seat.number me'
    pub idle : IsIdleEmpty at m' me'
    pub told : (its : Told) → session_ask m'.seat m'.state ≡ Done its → IsToldLast (led (plane at) (at key) me'.0.seen) m'.seat.number (telling its m'.state.finished)
    pub fewer : session_asks_left m'.seat m'.state < session_asks_left m.seat m.state

  pub stepped_in : (key : K) (me me1 me' : Me Slot (Knows K)) (own : List Happening) (m m1 m' : Sitter) (first ask : Ask Told) → AsksAlike → GoesAlike → TakesAlike → LastsAlike → IsGuardedOpening (at key) → RepliedIn at key me own m me1 m1
      → first ≡ session_ask m.seat m.state → (place : ℕ) × (asked_place first ≡ Some place) → ask ≡ session_ask m1.seat m1.state → Settled at ask me1 m1 me' m' → IsSteppedIn key me own m me' m'
  stepped_in key me me1 me' own m m1 m' first ask asks goes takes lasts opens r was word is t =
      let so = settled_in ask me1 me' m1 m' r.after goes takes r.alike t in
      let s : SessionState = so.0 in
      let same : session_ask m'.seat m'.state ≡ session_ask m'.seat s = asks m'.seat m'.state s so.2 in
      let its : IsStepped at key me own (record m { state = r.before.its }) me' (record m' { state = s }) =
      stepped_on at key me me1 me' own (record m { state = r.before.its }) (record m1 { state = r.after }) (record m' { state = s }) first ask opens r.before.seated r.replied (was ∙ asks m.seat m.state r.before.its r.before.alike) word
      (is ∙ asks m1.seat m1.state r.after r.alike) so.1 in
      record {
        seated = record { its = s; seated = its.seated; alike = so.2 };
        seat = its.seat;
        went = its.went;
        idle = λ told done. its.idle told (sym same ∙ done);
        told = λ told done. subst (λ (finished : List Finished). IsToldLast (led (plane at) (at key) me'.0.seen) m'.seat.number (telling told finished)) (sym (same_finished m'.state s (lasts m'.state s so.2))) (its.told told (sym same ∙ done));
        fewer = subst (λ (x : ℕ × ℕ). x.0 < x.1) (λ i. (sym (left_alike m'.seat m'.state s so.2) i, sym (left_alike m.seat m.state r.before.its r.before.alike) i)) its.fewer;
      }

  pub word_in : (key : K) (me : Me Slot (Knows K)) (own : List Happening) (m : Sitter) (ask : Ask Told) → AsksAlike → IsGuardedOpening (at key) → StandsIn at key me own m → ask ≡ session_ask m.seat m.state → ((its : Told) → ask ≢ Done its)
      → (place : ℕ) × (asked_place ask ≡ Some place)
  word_in key me own m ask asks opens sits is busy = word_of at key me own (record m { state = sits.its }) ask opens sits.seated (is ∙ asks m.seat m.state sits.its sits.alike) busy

  -- ---- a call's end
  pub rests_in : (key : K) (me : Me Slot (Knows K)) (m : Sitter) (its : Told) → AsksAlike → LastsAlike → IsGuardedOpening (at key) → StandsIn at key me [] m → session_ask m.seat m.state ≡ Done its → Rests at key me m
  rests_in key me m its asks lasts opens sits done = record {
    its = sits.its;
    seated = sits.seated;
    alike = lasts m.state sits.its sits.alike;
    idle = ended_so at (at key) opens me.0.seen m.seat.number sits.its its (sits.seated.was ∙ ap (λ (s : SessionState). Some s) (sym sits.seated.state))
        (ap (λ (k : Seat). session_ask k sits.its) (sym sits.seated.chair) ∙ (sym (asks m.seat m.state sits.its sits.alike) ∙ done));
  }
