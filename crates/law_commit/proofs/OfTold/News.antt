-- What an event adds to what a session was told as durable: the word that it has loaded.
use Rattle.std.proofs.Common.{◌≡◌, ◌⊎◌, inl, inr, ℕ, ◌∙◌, List, [], ◌∷◌, ◌++◌, length, refl, arith, ap, sym, subst, Bool, true, false}
use Rattle.std.specs.Prelude.{⊤, ◌==◌, if◌then◌else◌, Option, Some, None, slice_get}
use Rattle.std.proofs.lemmas.Bool.Decides.{nat_tests}
use Rattle.fkv_base.specs.declared.numbers.Serial.{Serial}
use Rattle.fkv_epoch.proofs.Shown.{some_same}
use Rattle.fkv_map.specs.declared.operations.Call.{Call}
use Rattle.fkv_plane.specs.declared.places.SessionWord.TheVariants as own
use Rattle.fkv_plane.specs.Places.{session_place}
use Rattle.law_refine.specs.Below.fkv_keeper.TheKeeping.{Keeping}
use Rattle.law_refine.specs.Below.fkv_keeper.TheKeeping.TheVariants.{Ended}
use Rattle.law_refine.specs.Below.fkv_keeper.Keeping.{Finality}
use Rattle.law_refine.specs.Below.fkv_keeper.KeeperRun.{is_in_hand}
use Rattle.law_refine.specs.Below.fkv_session.Finished.{Finished}
use Rattle.law_refine.specs.Below.fkv_session.Told.{Told}
use Rattle.law_refine.specs.Below.fkv_session.Told.TheVariants as told
use Rattle.law_refine.specs.Below.fkv_session.Sitting.{Sitting}
use Rattle.law_refine.specs.Below.fkv_session.Sitting.TheVariants.{Idle}
use Rattle.law_refine.specs.Below.fkv_session.Sessions.{SessionState, is_busy}
use Rattle.law_refine.specs.Below.fkv_session.SessionRun.{session_run, telling}
use Rattle.law_refine.specs.Below.fkv_world.Actors.{is_of_session}
use Rattle.law_refine.specs.Below.fkv_world.Opened.{IsOpenedWorld}
use Rattle.law_refine.specs.Below.fkv_world.OwnEvents.{session_events}
use Rattle.law_refine.specs.Below.fkv_world.Past.{Answered, Called, CommitAsked, KeeperAnswered, TraceEvent, Traced, TurnAsked}
use Rattle.law_refine.specs.Below.fkv_world.Runs.{World, run}
use Rattle.law_refine.specs.Below.fkv_world.World.{Event, Calls, Commits, Crashes, KeeperMoves, Moves, Now, Turns, seat_at}
use Rattle.law_refine.proofs.Below.fkv_world.Shown.{session_runs}
use Rattle.law_log.specs.Trace.{IsIn}
use Rattle.law_refine.specs.Below.law_world.Runs.Added.{begun_by, call_answered, call_begun, ended_by, is_calling, keeper_told, session_answered, told_at, told_by}
use Rattle.law_refine.proofs.Below.law_world.OfRuns.Added.{trace_so}
use Rattle.law_commit.specs.Cuts.{word_now}
use Rattle.law_commit.specs.ToldPoints.{ToldPoint, finishes_at_call, points_told, with_durable, with_point}
use Rattle.law_commit.proofs.OfPoints.Asked.{absent_now}
use Rattle.law_commit.proofs.OfTold.Loads.{call_tells, event_told}
use Rattle.law_commit.proofs.SessionSteps.{IsOther}

-- ---- events of a trace that tell a session nothing as durable
module _ (session : ℕ) where
  abbrev IsQuiet : TraceEvent → Type 0
  IsQuiet (Answered number its) = number ≡ session → IsOther its.its
  IsQuiet event = ⊤

  abbrev AllQuiet : List TraceEvent → Type 0
  AllQuiet [] = ⊤
  AllQuiet (event ∷ before) = IsQuiet event × AllQuiet before

  both_quiet : (later before : List TraceEvent) → AllQuiet later → AllQuiet before → AllQuiet (later ++ before)
  both_quiet [] before one other = other
  both_quiet (event ∷ later) before one other = (one.0, both_quiet later before one.1 other)

  with_other : (finished : ℕ) (its : Told) (before : List ToldPoint) → IsOther its → with_durable finished its before ≡ before
  with_other finished (told.Durable serial) before other = absurd other
  with_other finished its before other = refl

  one_quiet : (event : TraceEvent) (finished : ℕ) (before : List ToldPoint) → IsQuiet event → with_point session event finished before ≡ before
  one_quiet (Answered number its) finished before quiet = by_number (number == session) refl
    where
      by_number : (same : Bool) → (number == session) ≡ same → (if same then with_durable finished its.its before else before) ≡ before
      by_number true e = let same : number ≡ session = grind (arith, nat_tests, e) in with_other finished its.its before (quiet same)
      by_number false e = refl
  one_quiet (Called number call) finished before quiet = refl
  one_quiet (CommitAsked kind) finished before quiet = refl
  one_quiet TurnAsked finished before quiet = refl
  one_quiet (KeeperAnswered its last) finished before quiet = refl

  all_quiet : (effects : ℕ) (events : List TraceEvent) (before : List Traced) → AllQuiet events → points_told session (told_at effects events ++ before) ≡ points_told session before
  all_quiet effects [] before quiet = refl
  all_quiet effects (event ∷ rest) before quiet =
      one_quiet event (finishes_at_call session (told_at effects rest ++ before)) (points_told session (told_at effects rest ++ before)) quiet.0 ∙ all_quiet effects rest before quiet.1

  -- ---- what the keeper's events tell
  keeper_quiet : (calling : Bool) (step : Keeping) (last : Finality) → AllQuiet (keeper_told calling step last)
  keeper_quiet false step last = tt
  keeper_quiet true (Ended its) last = (tt, tt)
  keeper_quiet true step last = tt

  either_quiet : (c : Bool) (event : TraceEvent) → IsQuiet event → AllQuiet (if c then [] else event ∷ [])
  either_quiet true event quiet = tt
  either_quiet false event quiet = (quiet, tt)

  -- ---- an answer of a session
  answer_quiet : (number : ℕ) (calling : Bool) (step : Sitting) (finished : List Finished) → ((its : Told) → calling ≡ true → step ≡ Idle its → number ≡ session → IsOther its) → AllQuiet (call_answered number calling step finished)
  answer_quiet number false step finished quiet = tt
  answer_quiet number true (Idle its) finished quiet = ((λ same. quiet its refl refl same), tt)
  answer_quiet number true step finished quiet = tt

  begun_quiet : (number : ℕ) (call : Call) (found : Option SessionState) → AllQuiet (call_begun number call found)
  begun_quiet number call None = tt
  begun_quiet number call (Some s) = either_quiet (is_busy s.step) (Called number call) tt

-- what may be told: another answer than this one is other
other_told : (its : Told) → ((serial : Serial) → its ≡ told.Durable serial → ⊥) → IsOther its
other_told (told.Durable serial) none = none serial refl
other_told its none = tt

-- ---- what an event tells a session
module _ (opening : World) (opened : IsOpenedWorld opening) (event : Event) (before : List Event) (session : ℕ) where
  abbrev n : Now
  n = (run opening before).now

  abbrev after : Now
  after = (run opening (event ∷ before)).now

  abbrev trace : List Traced
  trace = (run opening before).past.trace

  -- its durable word, as it stood
  pub record IsNew (its : ToldPoint) : Type 0 where
    pub there : (first : SessionState) × (slice_get opening.now.sessions session ≡ Some first)
    pub point : its.point ≡ word_now opening before (session_place session own.Durable)
    pub finished : its.finished ≡ finishes_at_call session trace

  -- nothing more is told, or that word
  abbrev pub IsToldMore : List ToldPoint → Type 0
  IsToldMore points = (points ≡ points_told session trace) ⊎ ((new : ToldPoint) × (points ≡ new ∷ points_told session trace) × IsNew new)

  abbrev Tells : List TraceEvent → Type 0
  Tells events = (effects : ℕ) → IsToldMore (points_told session (told_at effects events ++ trace))

  quiet_tells : (events : List TraceEvent) → AllQuiet session events → Tells events
  quiet_tells events quiet effects = inl (all_quiet session effects events trace quiet)

  -- ---- if there is such a session
  module _ (first : SessionState) (was : slice_get opening.now.sessions session ≡ Some first) where
    abbrev state : SessionState
    state = session_run (seat_at opening.now session) first (session_events opening session before)

    abbrev next : SessionState
    next = session_run (seat_at opening.now session) first (session_events opening session (event ∷ before))

    is_now : slice_get n.sessions session ≡ Some state
    is_now = session_runs opening session first before was

    is_next : slice_get after.sessions session ≡ Some next
    is_next = session_runs opening session first (event ∷ before) was

    durable_tells : (serial : Serial) (finished : List Finished) → is_busy state.step ≡ true → next.step ≡ Idle (told.Durable serial) → Tells (Answered session (telling (told.Durable serial) finished) ∷ [])
    durable_tells serial finished busy is effects = by_same (session == session) refl
      where
        by_same : (same : Bool) → (session == session) ≡ same → IsToldMore (if same then with_durable (finishes_at_call session trace) (told.Durable serial) (points_told session trace) else points_told session trace)
        by_same true e =
            let load = event_told opening before session first was (opened.sessions session first was) event serial busy is in
            inr (record { point = serial.0; finished = finishes_at_call session trace }, refl, record { there = (first, was); point = load.word; finished = refl })
        by_same false e = inl refl

    answer_tells : (busy : Bool) (step : Sitting) (finished : List Finished) → is_busy state.step ≡ busy → next.step ≡ step → Tells (call_answered session busy step finished ++ [])
    answer_tells false step finished busy is = λ effects. inl refl
    answer_tells true (Idle its) finished busy is = by_told its is
      where
        by_told : (it : Told) → next.step ≡ Idle it → Tells (Answered session (telling it finished) ∷ [])
        by_told (told.Durable serial) at = durable_tells serial finished busy at
        by_told it at = quiet_tells (Answered session (telling it finished) ∷ []) ((λ same. tt), tt)
    answer_tells true step finished busy is = λ effects. inl refl

    own_tells : Tells (session_answered session (is_calling false (slice_get n.sessions session)) (slice_get after.sessions session) ++ [])
    own_tells =
        subst (λ (x : Option SessionState). Tells (session_answered session (is_calling false x) (slice_get after.sessions session) ++ [])) (sym is_now)
        (subst (λ (x : Option SessionState). Tells (session_answered session (is_busy state.step) x ++ [])) (sym is_next) (answer_tells (is_busy state.step) next.step next.finished refl refl))

    -- a call that begins isn't answered so
    not_busy : (busy : Bool) → (if busy then false else true) ≡ true → busy ≡ false
    not_busy true is = cc
    not_busy false is = refl

    called_other : (number : ℕ) (call : Call) → event ≡ Calls number call → n.crashed ≡ false → number ≡ session → is_calling true (slice_get n.sessions session) ≡ true → (a : SessionState) → slice_get after.sessions session ≡ Some a → (its : Told)
        → a.step ≡ Idle its → IsOther its
    called_other number call is alive same calling a found its at =
        let idle = not_busy (is_busy state.step) (ap (λ (x : Option SessionState). is_calling true x) (sym is_now) ∙ calling) in
        let it : next ≡ a = some_same next a (sym is_next ∙ found) in
        let turn : is_of_session session (Calls number call) ≡ true = grind (arith, nat_tests, same) in
        let ends : next.step ≡ Idle its = ap (λ (x : SessionState). x.step) it ∙ at in
        let told_so = subst (λ (e : Event). (session_run (seat_at opening.now session) first (session_events opening session (e ∷ before))).step ≡ Idle its) is ends in
        other_told its (λ serial tells.
        call_tells opening before session first was (opened.sessions session first was) number call serial alive turn idle (subst (λ (x : Told). (session_run (seat_at opening.now session) first (session_events opening session (Calls number call ∷ before))).step ≡ Idle x) tells told_so))

  -- ---- each event
  none_calls : (begins : Bool) (found : Option SessionState) → found ≡ None → is_calling begins found ≡ true → ⊥
  none_calls begins None none calling = cc
  none_calls begins (Some s) none calling = cc

  call_other : (number : ℕ) (call : Call) → event ≡ Calls number call → n.crashed ≡ false → number ≡ session → is_calling true (slice_get n.sessions session) ≡ true → (a : SessionState) → slice_get after.sessions session ≡ Some a → (its : Told)
      → a.step ≡ Idle its → IsOther its
  call_other number call is alive same calling a found its at = by_first (slice_get opening.now.sessions session) refl
    where
      by_first : (first : Option SessionState) → slice_get opening.now.sessions session ≡ first → IsOther its
      by_first None none = absurd (none_calls true (slice_get n.sessions session) (absent_now opening before session none) calling)
      by_first (Some first) was = called_other first was number call is alive same calling a found its at

  answered_quiet : (number : ℕ) (calling : Bool) (found : Option SessionState) → ((a : SessionState) → found ≡ Some a → (its : Told) → calling ≡ true → a.step ≡ Idle its → number ≡ session → IsOther its) → AllQuiet session (session_answered number calling found)
  answered_quiet number calling None quiet = tt
  answered_quiet number calling (Some a) quiet = answer_quiet session number calling a.step a.finished (λ its begins at same. quiet a refl its begins at same)

  call_quiet : (number : ℕ) (call : Call) → event ≡ Calls number call → n.crashed ≡ false → AllQuiet session (session_answered number (is_calling true (slice_get n.sessions number)) (slice_get after.sessions number) ++ call_begun number call (slice_get n.sessions number))
  call_quiet number call is alive =
      both_quiet session (session_answered number (is_calling true (slice_get n.sessions number)) (slice_get after.sessions number)) (call_begun number call (slice_get n.sessions number))
      (answered_quiet number (is_calling true (slice_get n.sessions number)) (slice_get after.sessions number)
      (λ a found its calling at same.
      call_other number call is alive same (subst (λ (i : ℕ). is_calling true (slice_get n.sessions i) ≡ true) same calling) a (subst (λ (i : ℕ). slice_get after.sessions i ≡ Some a) same found) its at))
      (begun_quiet session number call (slice_get n.sessions number))

  abbrev MoveTells : ℕ → Type 0
  MoveTells number = Tells (session_answered number (is_calling false (slice_get n.sessions number)) (slice_get after.sessions number) ++ [])

  own_moves : MoveTells session
  own_moves = by_first (slice_get opening.now.sessions session) refl
    where
      by_first : (first : Option SessionState) → slice_get opening.now.sessions session ≡ first → MoveTells session
      by_first None none =
          let absent = absent_now opening before session none in
          quiet_tells (session_answered session (is_calling false (slice_get n.sessions session)) (slice_get after.sessions session) ++ [])
          (both_quiet session (session_answered session (is_calling false (slice_get n.sessions session)) (slice_get after.sessions session)) []
          (answered_quiet session (is_calling false (slice_get n.sessions session)) (slice_get after.sessions session) (λ a found its calling at same. absurd (none_calls false (slice_get n.sessions session) absent calling))) tt)
      by_first (Some first) was = own_tells first was

  moves_tell : (number : ℕ) → MoveTells number
  moves_tell number = by_number (number == session) refl
    where
      by_number : (same : Bool) → (number == session) ≡ same → MoveTells number
      by_number true e = let same : number ≡ session = grind (arith, nat_tests, e) in subst MoveTells (sym same) own_moves
      by_number false e =
          quiet_tells (session_answered number (is_calling false (slice_get n.sessions number)) (slice_get after.sessions number) ++ [])
          (both_quiet session (session_answered number (is_calling false (slice_get n.sessions number)) (slice_get after.sessions number)) []
          (answered_quiet number (is_calling false (slice_get n.sessions number)) (slice_get after.sessions number)
          (λ a found its calling at same. let clash : (number == session) ≡ true = grind (arith, nat_tests, same) in let both : true ≡ false = sym clash ∙ e in cc)) tt)

  keepers_quiet : (c d : Bool) (told_event : TraceEvent) (step : Keeping) (last : Finality) → IsQuiet session told_event → AllQuiet session (keeper_told c step last ++ (if d then [] else told_event ∷ []))
  keepers_quiet c d told_event step last quiet = both_quiet session (keeper_told c step last) (if d then [] else told_event ∷ []) (keeper_quiet session c step last) (either_quiet session d told_event quiet)

  alive_tells : (its : Event) → event ≡ its → n.crashed ≡ false → Tells (ended_by n after its ++ begun_by n its)
  unfolding ended_by begun_by
  alive_tells (Calls number call) is alive = quiet_tells _ (call_quiet number call is alive)
  alive_tells (Moves number) is alive = moves_tell number
  alive_tells (Commits kind) is alive = quiet_tells _ (keepers_quiet (if is_in_hand n.keeper.step then false else true) (is_in_hand n.keeper.step) (CommitAsked kind) after.keeper.step after.keeper.last tt)
  alive_tells Turns is alive = quiet_tells _ (keepers_quiet (if is_in_hand n.keeper.step then false else true) (is_in_hand n.keeper.step) TurnAsked after.keeper.step after.keeper.last tt)
  alive_tells (KeeperMoves granted done) is alive = quiet_tells _ (both_quiet session (keeper_told (is_in_hand n.keeper.step) after.keeper.step after.keeper.last) [] (keeper_quiet session (is_in_hand n.keeper.step) after.keeper.step after.keeper.last) tt)
  alive_tells Crashes is alive = quiet_tells [] tt

  event_tells : Tells (told_by n after event)
  event_tells = by_crash n.crashed refl
    where
      by_crash : (c : Bool) → n.crashed ≡ c → Tells (if c then [] else ended_by n after event ++ begun_by n event)
      by_crash true over = quiet_tells [] tt
      by_crash false alive = alive_tells event refl alive

  trace_now : (run opening (event ∷ before)).past.trace ≡ told_at (length (run opening (event ∷ before)).past.history) (told_by n after event) ++ trace
  unfolding run
  trace_now = trace_so (run opening before) event

  -- what it was told behind the event
  pub told_more : IsToldMore (points_told session (run opening (event ∷ before)).past.trace)
  told_more = subst (λ (xs : List Traced). IsToldMore (points_told session xs)) (sym trace_now) (event_tells (length (run opening (event ∷ before)).past.history))

  among : (its : ToldPoint) (points : List ToldPoint) → IsToldMore points → IsIn its points → IsIn its (points_told session trace) ⊎ IsNew its
  among its points (inl same) there = inl (subst (λ (xs : List ToldPoint). IsIn its xs) same there)
  among its points (inr new) there = by_place (subst (λ (xs : List ToldPoint). IsIn its xs) new.1 there)
    where
      by_place : IsIn its (new.0 ∷ points_told session trace) → IsIn its (points_told session trace) ⊎ IsNew its
      by_place (inl same) = inr (subst IsNew same new.2)
      by_place (inr other) = inl other

  pub told_now : (its : ToldPoint) → IsIn its (points_told session (run opening (event ∷ before)).past.trace) → IsIn its (points_told session trace) ⊎ IsNew its
  told_now its there = among its (points_told session (run opening (event ∷ before)).past.trace) told_more there
