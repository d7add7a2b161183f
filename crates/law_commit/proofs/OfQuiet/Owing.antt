-- In wait-pending a session whose owing word reads 0 has no update up to the commit's number.
use Rattle.std.proofs.Common.{◌≡◌, ℕ, ◌+◌, ◌*◌, ◌-◌, ◌<◌, ◌∙◌, List, [], ◌∷◌, refl, arith, ap, sym, subst, Bool, true, false}
use Rattle.std.specs.Prelude.{⊤, cond, ◌==◌, Option, Some, None, slice_get}
use Rattle.std.specs.List.{count_by}
use Rattle.std.proofs.lemmas.Bool.Decides.{nat_tests}
use Rattle.std.proofs.lemmas.List.Sums.{sum_by-cons}
use Rattle.fkv_base.specs.declared.numbers.Version.{Version}
use Rattle.law_refine.specs.Below.fkv_ops.Requests.{is_read}
use Rattle.law_refine.specs.Below.fkv_pending.Pending.{is_update_of}
use Rattle.law_refine.specs.Below.fkv_pending.PendingRequest.{PendingRequest}
use Rattle.fkv_plane.specs.declared.places.SessionWord.TheVariants as own
use Rattle.fkv_plane.specs.Asked.{word_at}
use Rattle.fkv_plane.specs.Places.{session_place}
use Rattle.law_refine.specs.Below.fkv_session.Catching.{Catching}
use Rattle.law_refine.specs.Below.fkv_session.Catching.TheVariants as catching
use Rattle.law_refine.specs.Below.fkv_session.Sitting.{Sitting}
use Rattle.law_refine.specs.Below.fkv_session.Sitting.TheVariants.{Idle, Attempts, CatchesUp, ClearsMail, Polls, StoresOwing, Turns, StoresCut, Leaves, LoadsDurable}
use Rattle.law_refine.specs.Below.fkv_session.Asleep.{IsStepAsleep}
use Rattle.law_refine.specs.Below.fkv_session.CatchingUp.{owing}
use Rattle.law_refine.specs.Below.fkv_session.InOrder.{IsOwedOrOneMore}
use Rattle.law_refine.specs.Below.fkv_session.Versions.{IsAttemptOfRequest}
use Rattle.law_refine.specs.Below.fkv_session.Sessions.{IsOpened, Seat, SessionState}
use Rattle.law_refine.specs.Below.fkv_session.SessionRun.{SessionEvent, session_run}
use Rattle.law_refine.specs.Below.fkv_session.Words.{left_with, serial_left, stored_last}
use Rattle.law_refine.proofs.Below.fkv_session.Shown.{IsCatching, IsMarked, StepMarks, run_asleep, run_marks, run_near, run_request}
use Rattle.law_refine.specs.Below.fkv_world.Opened.{HasBecome}
use Rattle.law_refine.specs.Below.fkv_world.OwnEvents.{session_events}
use Rattle.law_refine.specs.Below.fkv_world.Runs.{World, run}
use Rattle.law_refine.specs.Below.fkv_world.World.{Event, seat_at}
use Rattle.law_refine.proofs.Below.fkv_world.Shown.{session_runs}
use Rattle.law_refine.proofs.Below.law_world.OfSessions.OwnRun.{opened_so, seated}
use Rattle.law_commit.specs.Cuts.{word_now}
use Rattle.law_commit.specs.Floor.Stands.{stage_number}
use Rattle.law_commit.specs.PhaseVersions.{HasRisingPhase, phase_version}
use Rattle.law_commit.specs.Phases.Staged.{DefersPending, DefersProgress, FitsVersion, Flushes, Pends, Prepares, Progresses, Rests, Stage, stage_version}
use Rattle.law_commit.specs.Quiet.{HasNoneUpto, IsLater, LiveAreLater, OpensQuiet, pending_rank, rank_now, rank_said}
use Rattle.law_commit.specs.Versions.Requests.{AreUpdatesSo, AttemptsAtItsVersion, AttemptsSo, IsUpdateSo}
use Rattle.law_commit.specs.Views.{IsComing, IsTakenFrom, Sight, TakesUp, View, sight_of}
use Rattle.law_commit.proofs.OfCuts.Marks.{life_marks}
use Rattle.law_commit.proofs.OfCuts.Told.{owing_mark}
use Rattle.law_commit.proofs.OfPhases.LifeStages.{life_staged, none_ahead, version_now}
use Rattle.law_commit.proofs.OfQuiet.Ranks.{rank_first, staged_rank}
use Rattle.law_commit.proofs.OfVersions.Requests.{life_requests, polled_so}
use Rattle.law_commit.proofs.Rising.{coming_below, version_below}
use Rattle.law_commit.proofs.Sights.{coming_seen, view_seen}

-- ---- which of the updates that wait are owed
test_so : (p : PendingRequest) (version : ℕ) → is_read p.request.op ≡ false → (p.request.version.0 == version) ≡ true → is_update_of (record { 0 = version }) p ≡ true
test_so p version updates same = rw (updates, same) refl

none_of : {X : Type 0} (c : Bool) → c ≡ true → ◌≡◌ {A = ℕ} (cond c 1 0) 0 → X
none_of true is none = cc
none_of false is none = cc

later_by : (version its : ℕ) → version - 1 < its → (its == version) ≡ false → version < its
later_by version its low other = by_grind low (grind (arith, nat_tests, other))
  where
    by_grind : version - 1 < its → (its ≡ version → ⊥) → version < its
    by_grind low apart = omega (arith, low, apart)

one_later : (version : ℕ) (p : PendingRequest) → ◌≡◌ {A = ℕ} (cond (is_update_of (record { 0 = version }) p) 1 0) 0 → IsUpdateSo (IsLater (version - 1)) p → IsUpdateSo (IsLater version) p
one_later version p none low updates = by_test (p.request.version.0 == version) refl
  where
    by_test : (c : Bool) → (p.request.version.0 == version) ≡ c → version < p.request.version.0
    by_test true same = none_of (is_update_of (record { 0 = version }) p) (test_so p version updates same) none
    by_test false other = later_by version p.request.version.0 (low updates) other

all_later : (version : ℕ) (requests : List PendingRequest) → count_by (is_update_of (record { 0 = version })) requests ≡ 0 → AreUpdatesSo (IsLater (version - 1)) requests → AreUpdatesSo (IsLater version) requests
all_later version [] none low = tt
all_later version (p ∷ rest) none low =
    let all = sum_by-cons (λ x. cond (is_update_of (record { 0 = version }) x) 1 0) p rest in
    (one_later version p (omega (arith, all, none)) low.0, all_later version rest (omega (arith, all, none)) low.1)

-- ---- a session that has changed its version has left one
left_none : (k : Seat) (first : SessionState) (events : List SessionEvent) → serial_left k first events ≡ None → (session_run k first events).seen.version.0 ≡ first.seen.version.0
unfolding serial_left session_run
left_none k first [] none = refl
left_none k first (event ∷ before) none = by_same ((session_run k first (event ∷ before)).seen.version.0 == (session_run k first before).seen.version.0) refl none (left_none k first before)
  where
    by_same : (c : Bool) → ((session_run k first (event ∷ before)).seen.version.0 == (session_run k first before).seen.version.0) ≡ c
        → left_with c (session_run k first before).serial (serial_left k first before) ≡ None
        → (serial_left k first before ≡ None → (session_run k first before).seen.version.0 ≡ first.seen.version.0) → (session_run k first (event ∷ before)).seen.version.0 ≡ first.seen.version.0
    by_same true same left past = grind (arith, nat_tests, same) ∙ past left
    by_same false other left past = cc

-- ---- once a session that catches up has loaded all it takes up this version
module _ (s : SessionState) (version : ℕ) where
  abbrev pub IsTaken : Catching → Type 0
  IsTaken catching.Refreshes = ⊤
  IsTaken catching.Protects = ⊤
  IsTaken step = s.catching.seen.version.0 ≡ version + 1

  from_coming : (found : Option View) → IsTakenFrom found s.catching.seen → ((view : View) → found ≡ Some view → view.version.0 ≡ version + 1) → s.catching.seen.version.0 ≡ version + 1
  from_coming None taken is = absurd taken
  from_coming (Some view) taken is = ap (λ (v : Version). v.0) taken.version ∙ is view refl

  module _ (sight : Sight) (is : (view : View) → sight.coming ≡ Some view → view.version.0 ≡ version + 1) where
    pub takes_taken : (step : Catching) → TakesUp sight s.catching step → IsTaken step
    takes_taken catching.Refreshes takes = tt
    takes_taken catching.Protects takes = tt
    takes_taken catching.StoresCut takes = from_coming sight.coming takes is
    takes_taken catching.StoresOwing takes = from_coming sight.coming takes is
    takes_taken catching.Ended takes = from_coming sight.coming takes is
    takes_taken (catching.Latches index) takes = from_coming sight.coming takes is
    takes_taken catching.Finishes takes = from_coming sight.coming takes is

-- ---- what is owed, by what the session is at
-- the owing word tells how many updates of the version before this one wait
module _ (k : Seat) (words : ℕ → ℕ) (serial version : ℕ) (s : SessionState) (zero_word : words (session_place k.number own.Owing) ≡ 0) (own_version : s.seen.version.0 ≡ version + 1) where
  abbrev OwesZero : Type 0
  OwesZero = count_by (is_update_of (record { 0 = version })) s.requests ≡ 0

  owes_zero : (at : ℕ) → at ≡ version + 1 → words (session_place k.number own.Owing) ≡ count_by (is_update_of (record { 0 = at - 1 })) s.requests → OwesZero
  owes_zero at is owes =
      let low : at - 1 ≡ version = omega (arith, is) in
      subst (λ (n : ℕ). count_by (is_update_of (record { 0 = n })) s.requests ≡ 0) low (sym owes ∙ zero_word)

  marked_zero : IsMarked k.number words (Some serial) s.seen.version.0 s.requests → OwesZero
  marked_zero marked = owes_zero s.seen.version.0 own_version marked.owing

  left_zero : (c : Bool) (at : ℕ) → at ≡ version + 1 → IsMarked k.number words (left_with c s.serial (Some serial)) at s.requests → OwesZero
  left_zero true at is marked = owes_zero at is marked.owing
  left_zero false at is marked = owes_zero at is marked.owing

  same_test : (at : ℕ) → at ≡ version + 1 → (at == s.seen.version.0) ≡ true
  same_test at is = grind (arith, nat_tests, is, own_version)

  catch_zero : (step : Catching) → IsTaken s version step → IsCatching k.number words (Some serial) (record s { catching = record s.catching { step = step } }) → OwesZero
  catch_zero catching.Refreshes taken marks = marked_zero marks.at.1
  catch_zero catching.Protects taken marks = marked_zero marks.at.1
  catch_zero catching.StoresCut taken marks = let other = marks.at.0 in let clash : true ≡ false = sym (same_test s.catching.seen.version.0 taken) ∙ other in cc
  catch_zero catching.StoresOwing taken marks = let other = marks.at.0 in let clash : true ≡ false = sym (same_test s.catching.seen.version.0 taken) ∙ other in cc
  catch_zero catching.Ended taken marks = left_zero (s.catching.seen.version.0 == s.seen.version.0) s.catching.seen.version.0 taken marks.at
  catch_zero (catching.Latches index) taken marks = left_zero (s.catching.seen.version.0 == s.seen.version.0) s.catching.seen.version.0 taken marks.at
  catch_zero catching.Finishes taken marks = left_zero (s.catching.seen.version.0 == s.seen.version.0) s.catching.seen.version.0 taken marks.at

  module _ (sight : Sight) (is : (view : View) → sight.coming ≡ Some view → view.version.0 ≡ version + 1) where
    step_zero : (step : Sitting) → IsComing sight s step → StepMarks k words (Some serial) s step → ((index : ℕ) → step ≡ StoresOwing index → IsOwedOrOneMore (words (session_place k.number own.Owing)) (owing s.seen s.requests)) → OwesZero
    step_zero (CatchesUp cause) comes marks near = catch_zero s.catching.step (takes_taken s version sight is s.catching.step comes) marks
    step_zero (StoresOwing index) comes marks near =
        let few = (near index refl).no_fewer in
        owes_zero s.seen.version.0 own_version (zero_word ∙ sym (omega (arith, few, zero_word)))
    step_zero (Attempts has_shifted) comes marks near = marked_zero marks.0
    step_zero (Polls index) comes marks near = marked_zero marks.0
    step_zero (Turns its) comes marks near = marked_zero marks.0
    step_zero (Idle its) comes marks near = marked_zero marks
    step_zero ClearsMail comes marks near = marked_zero marks
    step_zero StoresCut comes marks near = marked_zero marks
    step_zero Leaves comes marks near = marked_zero marks
    step_zero LoadsDurable comes marks near = marked_zero marks

-- ---- what it attempts
asleep_attempts : (P : ℕ → Type 0) (s : SessionState) (step : Sitting) → IsStepAsleep step → AttemptsSo P s step
asleep_attempts P s (Attempts has_shifted) asleep = absurd asleep
asleep_attempts P s (Polls index) asleep = absurd asleep
asleep_attempts P s step asleep = tt

attempts_later : (version : ℕ) (s : SessionState) (step : Sitting) → version < s.seen.version.0 → AttemptsAtItsVersion s step → AreUpdatesSo (IsLater version) s.requests
    → ((index : ℕ) → step ≡ Polls index → IsAttemptOfRequest s.requests index s.attempt.pending) → AttemptsSo (IsLater version) s step
attempts_later version s (Attempts has_shifted) later same waiting polls = λ updates. subst (λ (v : Version). version < v.0) (sym same) later
attempts_later version s (Polls index) later same waiting polls = polled_so (IsLater version) s.requests index s.attempt.pending waiting (polls index refl)
attempts_later version s step later same waiting polls = tt

-- ---- a moment
-- in wait-pending the phase word is of the version behind the commit's
pub record Pending (version said : ℕ) : Type 0 where
  pub some : 0 < version
  pub next : said ≡ version + 1

pub pending_version : (number : Version) (stage : Stage) (version : ℕ) → FitsVersion number stage → 5 * number.0 + stage_number stage ≡ pending_rank version → Pending version (stage_version number stage).0
pending_version number Pends version fits rank = let some = fits.some in let low = fits.lower refl in record { some = omega (arith, some, rank); next = omega (arith, rank, low) }
pending_version number Rests version fits rank = absurd (omega (arith, rank))
pending_version number Prepares version fits rank = absurd (omega (arith, rank))
pending_version number DefersProgress version fits rank = absurd (omega (arith, rank))
pending_version number Progresses version fits rank = absurd (omega (arith, rank))
pending_version number DefersPending version fits rank = absurd (omega (arith, rank))
pending_version number Flushes version fits rank = absurd (omega (arith, rank))

module _ (live : LiveAreLater) (opening : World) (start : ℕ) (events : List Event) (version session : ℕ) (first : SessionState) (opens : OpensQuiet opening start) (was : slice_get opening.now.sessions session ≡ Some first)
    (rank : rank_now opening events ≡ pending_rank version) (owes : word_now opening events (session_place session own.Owing) ≡ 0) where
  abbrev k : Seat
  k = seat_at opening.now session

  abbrev own_events : List SessionEvent
  own_events = session_events opening session events

  abbrev s : SessionState
  s = session_run k first own_events

  abbrev words : ℕ → ℕ
  words place = stored_last k first (λ at. word_at opening.now.words at) own_events place

  became : HasBecome opening events session first s
  became = record { opened = opens.opened; was = was; is_now = session_runs opening session first events was }

  opened : IsOpened first
  opened = opened_so opening events session first s became

  pends : Pending version (phase_version (run opening events).now.words)
  pends =
      let lived = life_staged opening start events opens.guarded opens.opened opens.seen.rests in
      let its = pending_version lived.number lived.stage version lived.staged.fits (sym (staged_rank (run opening events).now lived.number lived.stage lived.staged) ∙ rank) in
      subst (λ (n : ℕ). Pending version n) (sym (version_now (run opening events).now lived.number lived.stage lived.staged)) its

  rises : HasRisingPhase opening events
  rises = (life_staged opening start events opens.guarded opens.opened opens.seen.rests).rises

  asleep_none : s.is_awake ≡ false → HasNoneUpto version s
  asleep_none asleep =
      let its = run_asleep k first own_events opened asleep in
      record { waiting = subst (λ (requests : List PendingRequest). AreUpdatesSo (IsLater version) requests) (sym its.none_wait) tt; attempted = asleep_attempts (IsLater version) s s.step its.accepts_none }

  own_version : s.is_awake ≡ true → s.seen.version.0 ≡ version + 1
  own_version awake =
      let later = live opening start events version session first s opens became (omega (arith, rank)) awake in
      let below = version_below opening events session first s became (none_ahead opening.now opens.seen.rests) rises in
      let next = pends.next in
      omega (arith, later, below, next)

  coming_version : s.is_awake ≡ true → (view : View) → (sight_of opening events session).coming ≡ Some view → view.version.0 ≡ version + 1
  coming_version awake view is =
      let between = coming_below opening events session first s view became (none_ahead opening.now opens.seen.rests) rises is in
      let same = ap (λ (v : Version). v.0) (view_seen opening events session first s became).version in
      let here = own_version awake in
      let low = between.0 in
      let high = between.1 in
      let next = pends.next in
      omega (arith, low, high, next, same, here)

  -- it is not the version with which the life began
  has_left : s.is_awake ≡ true → (serial : ℕ) × (serial_left k first own_events ≡ Some serial)
  has_left awake = by_left (serial_left k first own_events) refl
    where
      by_left : (left : Option ℕ) → serial_left k first own_events ≡ left → (serial : ℕ) × (serial_left k first own_events ≡ Some serial)
      by_left (Some serial) is = (serial, is)
      by_left None is =
          let same = left_none k first own_events is in
          let here = own_version awake in
          let began = opens.seen.rests.seen session first was in
          let up = rank_first opening start events opens in
          let said = ap rank_said opens.seen.rests.says in
          absurd (omega (arith, same, here, began, up, said, rank))

  zero_word : words (session_place session own.Owing) ≡ 0
  zero_word = sym (life_marks opening events session first (session_place session own.Owing) opens.opened opens.guarded.words.enough_words was (owing_mark session)) ∙ owes

  owed_zero : s.is_awake ≡ true → count_by (is_update_of (record { 0 = version })) s.requests ≡ 0
  owed_zero awake =
      let left = has_left awake in
      let seat = seated opening events session first s became in
      let marks = subst (λ (x : Option ℕ). StepMarks k words x s s.step) left.1 (run_marks k first (λ at. word_at opening.now.words at) own_events opened seat) in
      step_zero k words left.0 version s zero_word (own_version awake) (sight_of opening events session) (coming_version awake) s.step (coming_seen opening events session first s became) marks
      (λ index stores. run_near k first (λ at. word_at opening.now.words at) own_events index left.0 opened seat stores left.1)

  awake_none : s.is_awake ≡ true → AreUpdatesSo (IsLater (version - 1)) s.requests → HasNoneUpto version s
  awake_none awake low =
      let waiting = all_later version s.requests (owed_zero awake) low in
      let here = own_version awake in
      let in_hand = (life_requests opening start events session first s opens.guarded opens.seen.rests became).in_hand in
      record { waiting = waiting; attempted = attempts_later version s s.step (omega (arith, here)) in_hand waiting (λ index polls. run_request k first own_events index opened polls) }

  pub none_owed : (0 < version → HasNoneUpto (version - 1) s) → HasNoneUpto version s
  none_owed earlier = by_awake s.is_awake refl
    where
      by_awake : (c : Bool) → s.is_awake ≡ c → HasNoneUpto version s
      by_awake true awake = awake_none awake (earlier pends.some).waiting
      by_awake false asleep = asleep_none asleep
