-- In wait-pending a session's two cut words go on: the first one stays or says the point, and the other stays or is a cut of the next version.
use Rattle.std.proofs.Common.{◌≡◌, ◌≢◌, ◌⊎◌, inl, inr, ℕ, ◌+◌, ◌≤◌, ◌∙◌, List, [], ◌∷◌, ◌++◌, refl, arith, ap, sym, subst, Bool, true, false}
use Rattle.std.specs.Prelude.{not, ◌==◌, ◌%◌, if◌then◌else◌, Option, Some, None, slice_get}
use Rattle.std.proofs.lemmas.Bool.Decides.{nat_tests}
use Rattle.fkv_base.specs.declared.numbers.Version.{Version}
use Rattle.law_refine.specs.Below.fkv_commit.Cuts.{cut_of, other_cut_of}
use Rattle.fkv_epoch.proofs.Shown.{some_same}
use Rattle.law_refine.specs.Below.fkv_ops.Seen.{Seen}
use Rattle.fkv_plane.specs.declared.asks.Ask.{Ask}
use Rattle.fkv_plane.specs.declared.asks.Ask.TheVariants.{Load, Store, Swap, Cas, Add, Max, Put, Take, Done}
use Rattle.fkv_plane.specs.declared.places.SessionWord.TheVariants as own
use Rattle.fkv_plane.specs.Asked.{word_at, words_after}
use Rattle.fkv_plane.specs.Places.{session_place}
use Rattle.law_refine.specs.Below.fkv_session.Told.{Told}
use Rattle.law_refine.specs.Below.fkv_session.Catching.{Catching}
use Rattle.law_refine.specs.Below.fkv_session.Catching.TheVariants as catching
use Rattle.law_refine.specs.Below.fkv_session.CatchCause.{CatchCause}
use Rattle.law_refine.specs.Below.fkv_session.Sitting.{Sitting}
use Rattle.law_refine.specs.Below.fkv_session.Sitting.TheVariants.{CatchesUp, StoresCut}
use Rattle.law_refine.specs.Below.fkv_session.Asleep.{IsStepAsleep}
use Rattle.law_refine.specs.Below.fkv_session.CatchingUp.{cut_at}
use Rattle.law_refine.specs.Below.fkv_session.Cuts.{version_left}
use Rattle.law_refine.specs.Below.fkv_session.Sessions.{IsOpened, Seat, SessionState, session_ask}
use Rattle.law_refine.specs.Below.fkv_session.SessionRun.{SessionEvent, session_run}
use Rattle.law_refine.specs.Below.fkv_session.Words.{AreMarkStores, GoesToSleep, HasFinished, IsMark, IsMarkStore, LeavesVersion, OwesUpdates, serial_left, stored_by, stored_last}
use Rattle.law_refine.proofs.Below.fkv_session.Shown.{IsCatching, StepMarks, run_asleep, run_marks, run_stores}
use Rattle.law_refine.specs.Below.fkv_world.Opened.{HasBecome, IsOpenedWorld}
use Rattle.law_refine.specs.Below.fkv_world.OwnEvents.{session_events}
use Rattle.law_refine.specs.Below.fkv_world.Runs.{World, run}
use Rattle.law_refine.specs.Below.fkv_world.World.{Event, seat_at}
use Rattle.law_refine.proofs.Below.fkv_world.Shown.{same_seat, session_runs}
use Rattle.law_refine.proofs.Below.law_world.OfSessions.OwnRun.{opened_so, seated}
use Rattle.law_commit.specs.Accepted.{HasRisingVersion, point}
use Rattle.law_commit.specs.Cuts.{HasItsWords, IsCutPlace, word_now}
use Rattle.law_commit.specs.Floor.Stands.{PaperIsSound}
use Rattle.law_commit.specs.PhaseVersions.{HasRisingPhase, phase_version}
use Rattle.law_commit.specs.Points.{CutsGoOn, GoOn, first_cut, other_cut}
use Rattle.law_commit.specs.Quiet.{LiveAreLater, OpensQuiet, pending_rank, rank_now}
use Rattle.law_commit.specs.Views.{IsComing, IsTakenFrom, Sight, TakesUp, View, sight_of}
use Rattle.law_commit.proofs.Counted.{life_point}
use Rattle.law_commit.proofs.OfCuts.Events.{event_words}
use Rattle.law_commit.proofs.OfCuts.Marks.{Follows, follows_now, seat_of}
use Rattle.law_commit.proofs.OfCuts.Serials.{cut_is_mark, not_owing}
use Rattle.law_commit.proofs.OfPhases.LifeStages.{life_staged, none_ahead, rising_version, version_now}
use Rattle.law_commit.proofs.OfPoints.Words.{FirstGoesOn, OtherGoesOn}
use Rattle.law_commit.proofs.OfQuiet.Coming.{coming_later}
use Rattle.law_commit.proofs.OfQuiet.Owing.{Pending, pending_version}
use Rattle.law_commit.proofs.OfQuiet.Points.{points_stay}
use Rattle.law_commit.proofs.OfQuiet.Ranks.{ranks_rise, staged_rank}
use Rattle.law_commit.proofs.Rising.{coming_below, version_below}
use Rattle.law_commit.proofs.Sights.{coming_seen}

-- ---- an event leaves such a word, or the session stores it
module _ (opening : World) (before : List Event) (session : ℕ) (first : SessionState) (opened_world : IsOpenedWorld opening) (enough : HasItsWords opening.now) (was : slice_get opening.now.sessions session ≡ Some first) (place : ℕ) (mark : IsMark session place) where
  abbrev own_seat : Seat
  own_seat = seat_at opening.now session

  abbrev own_state : SessionState
  own_state = session_run own_seat first (session_events opening session before)

  abbrev world : World
  world = run opening before

  abbrev IsLeft : ℕ → Type 0
  IsLeft word = (word ≡ word_now opening before place) ⊎ IsMarkStore own_seat own_state place word

  found : slice_get world.now.sessions session ≡ Some own_state
  found = session_runs opening session first before was

  follows : Follows world session own_state place
  follows = follows_now opening before session first own_state place opened_world enough was found mark

  asked : (ask : Ask Told) (earlier : ℕ) → (stored_by ask place earlier ≡ earlier) ⊎ (ask ≡ Store place (stored_by ask place earlier))
  asked (Store at word) earlier = by_place (at == place) refl
    where
      by_place : (here : Bool) → (at == place) ≡ here → ((if here then word else earlier) ≡ earlier) ⊎ (◌≡◌ {A = Ask Told} (Store at word) (Store place (if here then word else earlier)))
      by_place true e = let same : at ≡ place = grind (arith, nat_tests, e) in inr (ap (λ (x : ℕ). Store x word) same)
      by_place false e = inl refl
  asked (Load at) earlier = inl refl
  asked (Swap at word) earlier = inl refl
  asked (Cas at old new) earlier = inl refl
  asked (Add at n) earlier = inl refl
  asked (Max at n) earlier = inl refl
  asked (Put slot action) earlier = inl refl
  asked (Take slot) earlier = inl refl
  asked (Done told) earlier = inl refl

  own_left : IsLeft (word_at (words_after world.now.words (session_ask (seat_at world.now session) own_state)) place)
  own_left =
      let ask : Ask Told = session_ask (seat_at world.now session) own_state in
      let its : session_ask own_seat own_state ≡ ask = ap (λ (seat : Seat). session_ask seat own_state) (sym (same_seat opening before session)) in
      let stores : AreMarkStores own_seat own_state = run_stores own_seat first (session_events opening session before) (opened_world.sessions session first was) (seat_of opening session first opened_world was) in
      elim (asked ask (word_now opening before place)) [
        | inl same ↦ inl (follows.own ∙ same)
        | inr store ↦ inr (subst (λ (word : ℕ). IsMarkStore own_seat own_state place word) (sym follows.own) (stores place (stored_by ask place (word_now opening before place)) (its ∙ store) mark))
      ]

  by_session : (number : ℕ) (t : SessionState) (same : Bool) → (number == session) ≡ same → slice_get world.now.sessions number ≡ Some t → IsLeft (word_at (words_after world.now.words (session_ask (seat_at world.now number) t)) place)
  by_session number t true e got =
      let same : number ≡ session = grind (arith, nat_tests, e) in
      let here : slice_get world.now.sessions session ≡ Some t = subst (λ (i : ℕ). slice_get world.now.sessions i ≡ Some t) same got in
      let it : own_state ≡ t = some_same own_state t (sym found ∙ here) in
      subst (λ (i : ℕ). IsLeft (word_at (words_after world.now.words (session_ask (seat_at world.now i) t)) place)) (sym same)
      (subst (λ (x : SessionState). IsLeft (word_at (words_after world.now.words (session_ask (seat_at world.now session) x)) place)) it own_left)
  by_session number t false e got = let other : number ≢ session = grind (arith, nat_tests, e) in inl (follows.other number t other got)

  pub event_left : (event : Event) → IsLeft (word_now opening (event ∷ before) place)
  unfolding run
  event_left event =
      event_words (λ (words : List ℕ). IsLeft (word_at words place)) world event (inl refl) (record {
        session = λ number t moves got. by_session number t (number == session) refl got;
        keeper = λ granted done moves. inl follows.keeper;
      })

-- ---- which of the two words a place is
places_apart : (n : ℕ) (c d : Bool) → d ≡ not c → session_place n (if c then own.EvenCut else own.OddCut) ≡ session_place n (if d then own.EvenCut else own.OddCut) → ⊥
places_apart n true false e same = omega (arith, same)
places_apart n false true e same = omega (arith, same)
places_apart n true true e same = cc
places_apart n false false e same = cc

other_apart : (n : ℕ) (c : Bool) → session_place n (if c then own.OddCut else own.EvenCut) ≡ session_place n (if c then own.EvenCut else own.OddCut) → ⊥
other_apart n true same = omega (arith, same)
other_apart n false same = omega (arith, same)

next_parity : (v : ℕ) → ((v + 1) % 2 == 0) ≡ not (v % 2 == 0)
next_parity v = tested (v % 2 == 0) ((v + 1) % 2 == 0) refl refl
  where
    tested : (c d : Bool) → (v % 2 == 0) ≡ c → ((v + 1) % 2 == 0) ≡ d → d ≡ not c
    tested true true e f = let a : v % 2 ≡ 0 = grind (arith, nat_tests, e) in let b : (v + 1) % 2 ≡ 0 = grind (arith, nat_tests, f) in absurd (omega (arith, a, b))
    tested true false e f = refl
    tested false true e f = refl
    tested false false e f = let a : v % 2 ≢ 0 = grind (arith, nat_tests, e) in let b : (v + 1) % 2 ≢ 0 = grind (arith, nat_tests, f) in absurd (omega (arith, a, b))

place_of : (n : ℕ) (c : Bool) → IsCutPlace n (session_place n (if c then own.EvenCut else own.OddCut))
place_of n true = inl refl
place_of n false = inr refl

other_place_of : (n : ℕ) (c : Bool) → IsCutPlace n (session_place n (if c then own.OddCut else own.EvenCut))
other_place_of n true = inr refl
other_place_of n false = inl refl

-- ---- what it stores in wait-pending
-- a session that catches up takes up this version, where it doesn't go by it yet
from_coming : (found : Option View) (seen : Seen) (version : ℕ) → IsTakenFrom found seen → ((view : View) → found ≡ Some view → view.version.0 ≡ version) → seen.version.0 ≡ version
from_coming None seen version taken is = absurd taken
from_coming (Some view) seen version taken is = ap (λ (v : Version). v.0) taken.version ∙ is view refl

module _ (k : Seat) (words : ℕ → ℕ) (left : Option ℕ) (s : SessionState) (sight : Sight) (version : ℕ) (is : (view : View) → sight.coming ≡ Some view → view.version.0 ≡ version) (other : s.catching.seen.version.0 ≢ s.seen.version.0) where
  catch_taken : (step : Catching) → TakesUp sight s.catching step → IsCatching k.number words left (record s { catching = record s.catching { step = step } }) → s.catching.seen.version.0 ≡ version
  catch_taken catching.Refreshes takes marks = absurd (other (ap (λ (x : Seen). x.version.0) marks.at.0))
  catch_taken catching.Protects takes marks = absurd (other (ap (λ (x : Seen). x.version.0) marks.at.0))
  catch_taken catching.StoresCut takes marks = from_coming sight.coming s.catching.seen version takes is
  catch_taken catching.StoresOwing takes marks = from_coming sight.coming s.catching.seen version takes is
  catch_taken catching.Ended takes marks = from_coming sight.coming s.catching.seen version takes is
  catch_taken (catching.Latches index) takes marks = from_coming sight.coming s.catching.seen version takes is
  catch_taken catching.Finishes takes marks = from_coming sight.coming s.catching.seen version takes is

  step_taken : (step : Sitting) (cause : CatchCause) → step ≡ CatchesUp cause → IsComing sight s step → StepMarks k words left s step → s.catching.seen.version.0 ≡ version
  step_taken (CatchesUp its) cause at comes marks = catch_taken s.catching.step comes marks
  step_taken step cause at comes marks = cc

module _ (live : LiveAreLater) (paper_sound : PaperIsSound) (opening : World) (start : ℕ) (before : List Event) (version session : ℕ) (first : SessionState) (opens : OpensQuiet opening start) (was : slice_get opening.now.sessions session ≡ Some first)
    (rank : rank_now opening before ≡ pending_rank version) where
  abbrev k : Seat
  k = seat_at opening.now session

  abbrev own_events : List SessionEvent
  own_events = session_events opening session before

  abbrev s : SessionState
  s = session_run k first own_events

  became : HasBecome opening before session first s
  became = record { opened = opens.opened; was = was; is_now = session_runs opening session first before was }

  opened : IsOpened first
  opened = opened_so opening before session first s became

  pends : Pending version (phase_version (run opening before).now.words)
  pends =
      let lived = life_staged opening start before opens.guarded opens.opened opens.seen.rests in
      let its = pending_version lived.number lived.stage version lived.staged.fits (sym (staged_rank (run opening before).now lived.number lived.stage lived.staged) ∙ rank) in
      subst (λ (n : ℕ). Pending version n) (sym (version_now (run opening before).now lived.number lived.stage lived.staged)) its

  rises : HasRisingPhase opening before
  rises = (life_staged opening start before opens.guarded opens.opened opens.seen.rests).rises

  low_version : s.seen.version.0 ≤ version + 1
  low_version =
      let below = version_below opening before session first s became (none_ahead opening.now opens.seen.rests) rises in
      let next = pends.next in
      omega (arith, below, next)

  coming : (view : View) → (sight_of opening before session).coming ≡ Some view → view.version.0 ≡ version + 1
  coming view comes =
      let later = coming_later paper_sound opening start before version session first s view opens became (omega (arith, rank)) comes in
      let high = (coming_below opening before session first s view became (none_ahead opening.now opens.seen.rests) rises comes).1 in
      let next = pends.next in
      omega (arith, later, high, next)

  marks : StepMarks k (λ place. stored_last k first (λ at. 0) own_events place) (serial_left k first own_events) s s.step
  marks = run_marks k first (λ at. 0) own_events opened (seated opening before session first s became)

  taken : (cause : CatchCause) → s.step ≡ CatchesUp cause → s.catching.seen.version.0 ≢ s.seen.version.0 → s.catching.seen.version.0 ≡ version + 1
  taken cause catches other =
      step_taken k (λ place. stored_last k first (λ at. 0) own_events place) (serial_left k first own_events) s (sight_of opening before session) (version + 1) coming other s.step cause catches
      (coming_seen opening before session first s became) marks

  awake : s.step ≡ StoresCut → s.is_awake ≡ true
  awake sleeps = by_awake s.is_awake refl
    where
      by_awake : (c : Bool) → s.is_awake ≡ c → s.is_awake ≡ true
      by_awake true is = is
      by_awake false is = absurd (subst IsStepAsleep sleeps (run_asleep k first own_events opened is).accepts_none)

  -- the cut of the version, at the point
  record TellsPoint (place word : ℕ) : Type 0 where
    at : place ≡ session_place session (cut_of version)
    is : word ≡ cut_at (point opening before session version) version

  -- or of the next one
  record TellsNext (place word : ℕ) : Type 0 where
    serial : ℕ
    at : place ≡ session_place session (cut_of (version + 1))
    is : word ≡ cut_at serial (version + 1)

  stored : (place word : ℕ) → IsCutPlace session place → IsMarkStore k s place word → TellsPoint place word ⊎ TellsNext place word
  stored place word cut (LeavesVersion {cause} catches other at is) =
      let up = taken cause catches other in
      let low = low_version in
      let left : version_left s ≡ version = omega (arith, up) in
      let behind : s.seen.version.0 ≤ version = omega (arith, up, low, other) in
      let risen : HasRisingVersion k first own_events = rising_version opening start before session first s became opens.guarded opens.seen.rests in
      let serial : point opening before session version ≡ s.serial = life_point opening before session first s version became risen behind in
      inl (record {
        at = at ∙ ap (λ (n : ℕ). session_place session (cut_of n)) left;
        is = is ∙ (ap (λ (n : ℕ). cut_at s.serial n) left ∙ ap (λ (n : ℕ). cut_at n version) (sym serial));
      })
  stored place word cut (OwesUpdates catches other at is) = absurd (not_owing session place cut at)
  stored place word cut (HasFinished stores at is) = absurd (not_owing session place cut at)
  stored place word cut (GoesToSleep sleeps at is) =
      let later = live opening start before version session first s opens became (omega (arith, rank)) (awake sleeps) in
      let low = low_version in
      let own_version : s.seen.version.0 ≡ version + 1 = omega (arith, later, low) in
      inr (record {
        serial = s.serial;
        at = at ∙ ap (λ (n : ℕ). session_place session (cut_of n)) own_version;
        is = is ∙ ap (λ (n : ℕ). cut_at s.serial n) own_version;
      })

  next_apart : session_place session (cut_of version) ≡ session_place session (cut_of (version + 1)) → ⊥
  next_apart same = places_apart session (version % 2 == 0) ((version + 1) % 2 == 0) (next_parity version) same

  first_on : (event : Event) → FirstGoesOn version (point opening before session version) (first_cut opening before session version) (first_cut opening (event ∷ before) session version)
  first_on event =
      let place : ℕ = session_place session (cut_of version) in
      let cut : IsCutPlace session place = place_of session (version % 2 == 0) in
      elim (event_left opening before session first opens.opened opens.guarded.words.enough_words was place (cut_is_mark session place cut) event) [
        | inl same ↦ inl same
        | inr stores ↦ elim (stored place (first_cut opening (event ∷ before) session version) cut stores) [
          | inl tells ↦ inr tells.is
          | inr next ↦ absurd (next_apart next.at)
        ]
      ]

  other_on : (event : Event) → OtherGoesOn version (other_cut opening before session version) (other_cut opening (event ∷ before) session version)
  other_on event =
      let place : ℕ = session_place session (other_cut_of version) in
      let cut : IsCutPlace session place = other_place_of session (version % 2 == 0) in
      elim (event_left opening before session first opens.opened opens.guarded.words.enough_words was place (cut_is_mark session place cut) event) [
        | inl same ↦ inl same
        | inr stores ↦ elim (stored place (other_cut opening (event ∷ before) session version) cut stores) [
          | inl tells ↦ absurd (other_apart session (version % 2 == 0) tells.at)
          | inr next ↦ inr (next.serial, next.is)
        ]
      ]

  pub event_goes : (event : Event) → GoOn version (point opening before session version) (first_cut opening before session version) (other_cut opening before session version) (first_cut opening (event ∷ before) session version)
      (other_cut opening (event ∷ before) session version)
  event_goes event = record { first = first_on event; other = other_on event }

-- ---- over more events
stays : (version point first other : ℕ) → GoOn version point first other first other
stays version point first other = record { first = inl refl; other = inl refl }

first_through : (version point a b c : ℕ) → FirstGoesOn version point a b → FirstGoesOn version point b c → FirstGoesOn version point a c
first_through version point a b c one (inr now) = inr now
first_through version point a b c (inl first) (inl same) = inl (same ∙ first)
first_through version point a b c (inr first) (inl same) = inr (same ∙ first)

other_through : (version a b c : ℕ) → OtherGoesOn version a b → OtherGoesOn version b c → OtherGoesOn version a c
other_through version a b c one (inr now) = inr now
other_through version a b c (inl first) (inl same) = inl (same ∙ first)
other_through version a b c (inr first) (inl same) = inr (first.0, same ∙ first.1)

squeezed : (low mid high : ℕ) → low ≤ mid → mid ≤ high → high ≡ low → mid ≡ low
squeezed low mid high one other same = omega (arith, one, other, same)

module _ (live : LiveAreLater) (paper_sound : PaperIsSound) (opening : World) (start : ℕ) (before : List Event) (version session : ℕ) (first : SessionState) (opens : OpensQuiet opening start) (was : slice_get opening.now.sessions session ≡ Some first)
    (rank : rank_now opening before ≡ pending_rank version) where
  rank_up : (later : List Event) → rank_now opening before ≤ rank_now opening (later ++ before)
  rank_up [] = omega arith
  rank_up (event ∷ later) = let low = rank_up later in let up = ranks_rise opening start (later ++ before) event opens in omega (arith, low, up)

  goes : (later : List Event) → rank_now opening (later ++ before) ≡ pending_rank version
      → GoOn version (point opening before session version) (first_cut opening before session version) (other_cut opening before session version) (first_cut opening (later ++ before) session version)
      (other_cut opening (later ++ before) session version)
  goes [] here = stays version (point opening before session version) (first_cut opening before session version) (other_cut opening before session version)
  goes (event ∷ later) here =
      let between : rank_now opening (later ++ before) ≡ pending_rank version =
      squeezed (rank_now opening before) (rank_now opening (later ++ before)) (rank_now opening (event ∷ later ++ before)) (rank_up later) (ranks_rise opening start (later ++ before) event opens) (here ∙ sym rank) ∙ rank in
      let its = goes later between in
      let next = event_goes live paper_sound opening start (later ++ before) version session first opens was between event in
      let same : point opening (later ++ before) session version ≡ point opening before session version =
      points_stay live opening start later before version session first _ opens (omega (arith, rank)) (record { opened = opens.opened; was = was; is_now = session_runs opening session first before was }) in
      let there = subst (λ (n : ℕ). FirstGoesOn version n (first_cut opening (later ++ before) session version) (first_cut opening (event ∷ later ++ before) session version)) same next.first in
      record {
        first = first_through version (point opening before session version) (first_cut opening before session version) (first_cut opening (later ++ before) session version) (first_cut opening (event ∷ later ++ before) session version) its.first there;
        other = other_through version (other_cut opening before session version) (other_cut opening (later ++ before) session version) (other_cut opening (event ∷ later ++ before) session version) its.other next.other;
      }

pub cuts_go_on : LiveAreLater → PaperIsSound → CutsGoOn
cuts_go_on live paper_sound opening start later before version session first its opens became rank here = goes live paper_sound opening start before version session first opens became.was rank later here
