-- What a session was told as durable, by the clauses of the law of prefixes.
use Rattle.std.proofs.Common.{◌≡◌, inl, inr, ℕ, ◌<◌, ◌≤◌, ◌∙◌, refl, sym, ap, subst, arith, Bool, true, false, List, [], ◌∷◌, ◌++◌, length, append_assoc}
use Rattle.std.specs.Prelude.{◌==◌, if◌then◌else◌, slice_get}
use Rattle.fkv_base.specs.declared.numbers.Serial.{Serial}
use Rattle.law_order.specs.Below.fkv_core.Openings.{beginning}
use Rattle.fkv_disk.specs.Calls.{MayLeave}
use Rattle.law_order.specs.Below.fkv_keeper.KeeperTold.TheVariants.{Turned}
use Rattle.fkv_map.specs.declared.operations.Call.{Call}
use Rattle.fkv_map.specs.History.{point_of}
use Rattle.law_order.specs.Below.fkv_opening.Opened.{IsStoreOf}
use Rattle.law_order.specs.Below.fkv_opening.TheOpened.{Opened}
use Rattle.fkv_seats.specs.Rule.{AreAllowed, led}
use Rattle.fkv_seats.proofs.Keeps.{allowed_both}
use Rattle.law_order.specs.Below.fkv_session.Answer.TheVariants as answer
use Rattle.law_order.specs.Below.fkv_session.Finished.{Finished}
use Rattle.law_order.specs.Below.fkv_session.Told.{Told}
use Rattle.law_order.specs.Below.fkv_session.Told.TheVariants as told
use Rattle.law_order.specs.Below.fkv_world.Past.{Traced, TraceEvent, Called, Answered, KeeperAnswered}
use Rattle.law_order.specs.Below.fkv_world.Runs.{World, happens, run}
use Rattle.law_order.specs.Below.fkv_world.World.{Event, Now}
use Rattle.law_order.specs.Below.law_commit.ToldDurable.{NoneFalls}
use Rattle.law_order.specs.Below.law_commit.ToldPoints.{ToldPoint, and_one_finished, at_call_by, finishes_at_call, finishes_told, points_told, with_durable, with_point}
use Rattle.law_log.specs.Trace.{IsIn}
use Rattle.law_order.specs.Below.law_world.Runs.Added.{told_at, told_by}
use Rattle.law_order.proofs.Below.law_world.OfRuns.Added.{trace_so}
use Rattle.law_order.specs.Below.law_opening.Lives.Reaching.{ReachesFar}
use Rattle.law_order.specs.OneHistory.EachLife.{InEachLife, IsLife}
use Rattle.law_order.specs.Prefix.Durable.{ToldNeverFalls}
use Rattle.law_order.specs.Prefix.Law.{HoldsPrefix, IsKeptOf, MayBeFound, PrefixLaw, RecoversPrefix, TellsDurable, calls_so_far, past_so_far, trace_so_far}
use Rattle.law_order.proofs.Below.law_refine.OfCalls.Called.{is_other}
use Rattle.law_order.proofs.Below.law_refine.OfCalls.InHand.{WasOpened, was_opened}
use Rattle.fkv_table.specs.declared.happenings.Happening.{Happening}
use Rattle.fkv_table.specs.Events.{event_of}
use Rattle.fkv_table.specs.Planes.{plane}
use Rattle.fkv_table.proofs.Lives.{led_run}
use Rattle.law_threads.specs.Calls.{CallRun, HasRun, IsOver, events_of}
use Rattle.law_threads.specs.Durable.{IsDurable, ItsDurableNeverFalls, RecoversItsDurable, TellsItsDurable}
use Rattle.law_threads.specs.Laws.{IsWithin}
use Rattle.law_threads.proofs.Course.{OfOthers, seen_answered, seen_called}
use Rattle.law_threads.proofs.Histories.{events_both}
use Rattle.law_threads.proofs.Numbers.{calls_fit}
use Rattle.law_threads.proofs.OfRuns.{IsToldIn, earlier, first, is_told, same_number, same_told, since_call, told_with, was}

-- ---- points that were told stay
more_finished : (event : TraceEvent) (n : ℕ) → n ≤ and_one_finished event n
more_finished (KeeperAnswered (Turned true full) last) n = omega arith
more_finished event n = omega arith

finishes_more : (later before : List Traced) → finishes_told before ≤ finishes_told (later ++ before)
finishes_more [] before = omega arith
finishes_more (it ∷ later) before =
    let rest = finishes_more later before in
    let one = more_finished it.its (finishes_told (later ++ before)) in
    omega (arith, rest, one)

durable_more : (finished : ℕ) (its : Told) (x : ToldPoint) (points : List ToldPoint) → IsIn x points → IsIn x (with_durable finished its points)
durable_more finished (told.Durable serial) x points is_in = inr is_in
durable_more finished its x points is_in = is_in

if_more : (c : Bool) (x : ToldPoint) (more points : List ToldPoint) → IsIn x points → IsIn x more → IsIn x (if c then more else points)
if_more true x more points is_in there = there
if_more false x more points is_in there = is_in

point_more : (number : ℕ) (event : TraceEvent) (finished : ℕ) (x : ToldPoint) (points : List ToldPoint) → IsIn x points → IsIn x (with_point number event finished points)
point_more number (Answered session its) finished x points is_in = if_more (session == number) x (with_durable finished its.its points) points is_in (durable_more finished its.its x points is_in)
point_more number event finished x points is_in = is_in

points_more : (number : ℕ) (x : ToldPoint) (later before : List Traced) → IsIn x (points_told number before) → IsIn x (points_told number (later ++ before))
points_more number x [] before is_in = is_in
points_more number x (it ∷ later) before is_in = point_more number it.its (finishes_at_call number (later ++ before)) x (points_told number (later ++ before)) (points_more number x later before is_in)

pub record IsTraceBehind (before behind : List Traced) : Type 0 where
  pub later : List Traced
  pub whole : behind ≡ later ++ before

pub trace_behind : (w : World) (later : List Happening) (before : List Event) → IsTraceBehind (run w before).past.trace (run w (events_of later ++ before)).past.trace
unfolding run
trace_behind w [] before = record { later = []; whole = refl }
trace_behind w (its ∷ later) before =
    let rest = trace_behind w later before in
    let x : World = run w (events_of later ++ before) in
    let new : List Traced = told_at (length (happens x (event_of its)).past.history) (told_by x.now (happens x (event_of its)).now (event_of its)) in
    record { later = new ++ rest.later; whole = trace_so x (event_of its) ∙ (ap (λ (y : List Traced). new ++ y) rest.whole ∙ sym (append_assoc new rest.later (run w before).past.trace)) }

-- ---- the call's own
other_call : (number : ℕ) (event : TraceEvent) (now before : ℕ) → is_other number event → at_call_by number event now before ≡ before
other_call number (Called session its) now before other = rw other refl
other_call number event now before other = refl

call_kept : (number : ℕ) (since before : List Traced) → OfOthers number since → finishes_at_call number (since ++ before) ≡ finishes_at_call number before
call_kept number [] before others = refl
call_kept number (it ∷ since) before others = other_call number it.its (finishes_told (since ++ before)) (finishes_at_call number (since ++ before)) others.0 ∙ call_kept number since before others.1

own_call : (number effects : ℕ) (its : Call) (before : List Traced) → finishes_at_call number (seen_called effects number its before) ≡ finishes_told before
own_call number effects its before = rw (same_number number) refl

own_points : (number effects : ℕ) (serial : Serial) (list : List Finished) (before : List Traced)
    → points_told number (seen_answered effects number (told.Durable serial) list before) ≡ record { point = serial.0; finished = finishes_at_call number before } ∷ points_told number before
own_points number effects serial list before =
    ap (λ (c : Bool). if c then record { point = serial.0; finished = finishes_at_call number before } ∷ points_told number before else points_told number before) (same_number number)

own_point : (number effects : ℕ) (serial : Serial) (list : List Finished) (before : List Traced)
    → IsIn (record { point = serial.0; finished = finishes_at_call number before }) (points_told number (seen_answered effects number (told.Durable serial) list before))
own_point number effects serial list before =
    subst (λ (points : List ToldPoint). IsIn (record { point = serial.0; finished = finishes_at_call number before }) points) (sym (own_points number effects serial list before)) (inl refl)

none_more : (most : ℕ) (points : List ToldPoint) (x : ToldPoint) → NoneFalls most points → IsIn x points → x.point ≤ most
none_more most [] x falls is_in = absurd is_in
none_more most (it ∷ before) x falls (inl same) = subst (λ (y : ToldPoint). y.point ≤ most) same falls.0
none_more most (it ∷ before) x falls (inr more) =
    let rest = none_more it.point before x falls.1 more in
    let one = falls.0 in
    omega (arith, rest, one)

older_at_most : (most : ℕ) (x newest : ToldPoint) (points all : List ToldPoint) → NoneFalls most all → all ≡ newest ∷ points → IsIn x points → x.point ≤ newest.point
older_at_most most x newest points all falls so is_in = none_more newest.point points x (subst (λ (its : List ToldPoint). NoneFalls most its) so falls).1 is_in

module _ {K : Type 0} (at : K → World) (key : K) (o : Opened) (n : Now) (bytes : List ℕ) (its : CallRun) (over : IsOver at key o n bytes) (run_so : HasRun at key its) (serial : Serial) (given : its.answer ≡ answer.Durable serial) where
  abbrev opening : World
  opening = beginning n bytes

  abbrev number : ℕ
  number = its.number

  abbrev its_telling : IsToldIn at (at key) number its.call (earlier at key its run_so) (since_call at key its run_so) (told.Durable serial) run_so.answered.finished
  its_telling = subst (λ (x : Told). IsToldIn at (at key) number its.call (earlier at key its run_so) (since_call at key its run_so) x run_so.answered.finished) (same_told run_so.answered.its run_so.answered.finished its.answer run_so.answered.told ∙ ap told_with given) (is_told at key its run_so)

  abbrev trace_at : List Happening → List Traced
  trace_at es = trace_so_far n bytes (events_of es)

  in_run : (es : List Happening) → (led (plane at) (at key) es).past.trace ≡ trace_at es
  in_run es = ap (λ (w : World). w.past.trace) (led_run at (at key) es) ∙ ap (λ (w : World). (run w (events_of es)).past.trace) over.same

  so : trace_at its.behind ≡ seen_answered its_telling.effects number (told.Durable serial) its_telling.finished (its_telling.more ++ seen_called its_telling.began number its.call (trace_at (earlier at key its run_so)))
  so = ap trace_at run_so.called.so
      ∙ (sym (in_run (since_call at key its run_so))
      ∙ (its_telling.so ∙ ap (λ (x : List Traced). seen_answered its_telling.effects number (told.Durable serial) its_telling.finished (its_telling.more ++ seen_called its_telling.began number its.call x)) (in_run (earlier at key its run_so))))

  abbrev point : ToldPoint
  point = record { point = serial.0; finished = finishes_told (trace_at (earlier at key its run_so)) }

  abbrev called_so : List Traced
  called_so = its_telling.more ++ seen_called its_telling.began number its.call (trace_at (earlier at key its run_so))

  is_there : IsIn point ((past_so_far n bytes (events_of its.behind)).told number)
  is_there =
      let at_call : finishes_at_call number called_so ≡ finishes_told (trace_at (earlier at key its run_so)) =
      call_kept number its_telling.more _ its_telling.others ∙ own_call number its_telling.began its.call (trace_at (earlier at key its run_so)) in
      subst (λ (x : List Traced). IsIn point (points_told number x)) (sym so)
      (subst (λ (x : ℕ). IsIn (record { point = serial.0; finished = x }) (points_told number (seen_answered its_telling.effects number (told.Durable serial) its_telling.finished called_so))) at_call
      (own_point number its_telling.effects serial its_telling.finished called_so))

  seen_before : IsTraceBehind (trace_at its.before) (trace_at (earlier at key its run_so))
  seen_before =
      let behind = trace_behind opening run_so.called.others (events_of its.before) in
      record { later = behind.later; whole = ap (λ (es : List Event). (run opening es).past.trace) (events_both run_so.called.others its.before) ∙ behind.whole }

  pub durable_at : TellsDurable o n bytes (events_of its.behind) → IsDurable o n bytes its serial
  durable_at law = record {
    finished = finishes_told (trace_at (earlier at key its run_so));
    seen = subst (λ (x : List Traced). finishes_told (trace_at its.before) ≤ finishes_told x) (sym seen_before.whole) (finishes_more seen_before.later (trace_at its.before));
    durable = law number point is_there;
  }

  -- the store has a session of this number
  was_there : WasOpened (at key) (events_of (earlier at key its run_so)) number (first at key its run_so)
  was_there = was_opened (at key) (events_of (earlier at key its run_so)) number (first at key its run_so) run_so.ready.opened.opening.opened
      (ap (λ (w : World). slice_get w.now.sessions number) (sym (led_run at (at key) (earlier at key its run_so))) ∙ was at key its run_so)

  is_session : number < n.places.sessions
  is_session = subst (λ (w : World). number < w.now.places.sessions) over.same (run_so.ready.opened.opening.guarded.seats number was_there.first was_there.became.was)

  pub none_falls_at : ToldNeverFalls o n bytes (events_of its.behind) → (x : ToldPoint) → IsIn x (points_told number (trace_at its.before)) → x.point ≤ serial.0
  none_falls_at law x is_in =
      let earlier_there : IsIn x (points_told number (trace_at (earlier at key its run_so))) =
      subst (λ (t : List Traced). IsIn x (points_told number t)) (sym seen_before.whole) (points_more number x seen_before.later (trace_at its.before) is_in) in
      let there : IsIn x (points_told number called_so) = points_more number x its_telling.more (seen_called its_telling.began number its.call (trace_at (earlier at key its run_so))) earlier_there in
      older_at_most _ x (record { point = serial.0; finished = finishes_at_call number called_so }) (points_told number called_so) (points_told number (trace_at its.behind)) (law number is_session)
      (ap (points_told number) so ∙ own_points number its_telling.effects serial its_telling.finished called_so) there

  pub recovered_at : (later : List Happening) → RecoversPrefix o n bytes (events_of later ++ events_of its.behind) → ReachesFar bytes → (image : List ℕ) (r : Opened) → MayBeFound bytes (calls_so_far n bytes (events_of (later ++ its.behind))) image → IsStoreOf image r
      → serial.0 ≤ point_of r.points.items number
  recovered_at later law far image r left store =
      let both : events_of (later ++ its.behind) ≡ events_of later ++ events_of its.behind = events_both later its.behind in
      let held : HoldsPrefix o n bytes (events_of later ++ events_of its.behind) image = law far image (subst (λ (es : List Event). MayBeFound bytes (calls_so_far n bytes es) image) both left) in
      let kept : IsKeptOf o n bytes (events_of later ++ events_of its.behind) held.commit image r = held.each r store in
      let behind = trace_behind opening later (events_of its.behind) in
      let there : IsIn point (points_told number (run opening (events_of later ++ events_of its.behind)).past.trace) = subst (λ (x : List Traced). IsIn point (points_told number x)) (sym behind.whole) (points_more number point behind.later _ is_there) in
      subst (λ (x : ℕ). serial.0 ≤ x) (sym (kept.points number)) (held.current.durable number point there)

-- ---- in all lives
is_life : {K : Type 0} (at : K → World) (key : K) (o : Opened) (n : Now) (bytes : List ℕ) (seen : List Happening) → IsOver at key o n bytes → AreAllowed (plane at) seen → IsWithin o n bytes (events_of seen)
    → IsLife (record { bytes = bytes; opened = o; world = n; events = events_of seen })
is_life at key o n bytes seen over may few = record { store = over.store; begins = over.begins; fits = calls_fit at seen may; few = few }

pub tells_durable : {K : Type 0} (at : K → World) → PrefixLaw → (key : K) (o : Opened) (n : Now) (bytes : List ℕ) (its : CallRun) → IsOver at key o n bytes → HasRun at key its → IsWithin o n bytes (events_of its.behind) → TellsItsDurable o n bytes its
tells_durable at prefix key o n bytes its over run within serial given =
    durable_at at key o n bytes its over run serial given (prefix.durable (record { bytes = bytes; opened = o; world = n; events = events_of its.behind }) (is_life at key o n bytes its.behind over run.allowed within))

pub durable_never_falls : {K : Type 0} (at : K → World) → InEachLife ToldNeverFalls → (key : K) (o : Opened) (n : Now) (bytes : List ℕ) (its : CallRun) → IsOver at key o n bytes → HasRun at key its → IsWithin o n bytes (events_of its.behind) → ItsDurableNeverFalls o n bytes its
durable_never_falls at law key o n bytes its over run within serial given =
    none_falls_at at key o n bytes its over run serial given (law (record { bytes = bytes; opened = o; world = n; events = events_of its.behind }) (is_life at key o n bytes its.behind over run.allowed within))

pub recovers_durable : {K : Type 0} (at : K → World) → PrefixLaw → (key : K) (o : Opened) (n : Now) (bytes : List ℕ) (its : CallRun) → IsOver at key o n bytes → HasRun at key its → IsWithin o n bytes (events_of its.behind) → RecoversItsDurable at o n bytes its
recovers_durable at prefix key o n bytes its over run here serial given far later image r may within left store =
    let all : AreAllowed (plane at) (later ++ its.behind) = allowed_both (plane at) later its.behind may run.allowed in
    let law : RecoversPrefix o n bytes (events_of later ++ events_of its.behind) =
    subst (λ (es : List Event). RecoversPrefix o n bytes es) (events_both later its.behind)
    (prefix.recovered (record { bytes = bytes; opened = o; world = n; events = events_of (later ++ its.behind) }) (is_life at key o n bytes (later ++ its.behind) over all within)) in
    recovered_at at key o n bytes its over run serial given later law far image r left store
