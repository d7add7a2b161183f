-- What each session had given as the commit in hand was asked for is no more than its point of the commit's number.
use Rattle.std.proofs.Common.{◌≡◌, ◌⊎◌, inl, inr, ℕ, ◌≤◌, ◌∙◌, List, [], ◌∷◌, length-set, refl, arith, ap, sym, subst, Bool, true, false}
use Rattle.std.specs.Prelude.{if◌then◌else◌, Option, Some, None, slice_get, slice_set}
use Rattle.std.proofs.lemmas.Option.{slice_get_past}
use Rattle.fkv_base.specs.declared.commits.CommitKind.{CommitKind}
use Rattle.fkv_base.specs.declared.numbers.Version.{Version}
use Rattle.fkv_base.specs.declared.phases.Phase.TheVariants as phase
use Rattle.fkv_base.specs.declared.shapes.Shape.{Shape}
use Rattle.fkv_words.specs.declared.phase_words.PhaseSaid.TheVariants.{Says}
use Rattle.fkv_words.specs.PhaseWords.{phase_said}
use Rattle.fkv_map.specs.declared.operations.Call.{Call}
use Rattle.fkv_plane.specs.declared.actions.Action.{Action}
use Rattle.fkv_plane.specs.declared.asks.Ask.{Ask}
use Rattle.fkv_plane.specs.declared.asks.Ask.TheVariants.{Load, Put}
use Rattle.fkv_plane.specs.declared.places.Places.{Places}
use Rattle.fkv_plane.specs.declared.places.SharedWord.TheVariants as one
use Rattle.fkv_plane.specs.Asked.{reply_to}
use Rattle.fkv_plane.specs.Passing.{passed}
use Rattle.fkv_plane.specs.Places.{shared_place}
use Rattle.law_refine.specs.Below.fkv_commit.Commit.{Commit}
use Rattle.law_refine.specs.Below.fkv_commit.TheStarting.{Starting}
use Rattle.law_refine.specs.Below.fkv_commit.TheStarting.TheVariants as starting
use Rattle.law_refine.specs.Below.fkv_commit.Starting.{starting_ask}
use Rattle.law_refine.specs.Below.fkv_keeper.KeeperTold.{KeeperTold}
use Rattle.law_refine.specs.Below.fkv_keeper.TheKeeping.{Keeping}
use Rattle.law_refine.specs.Below.fkv_keeper.TheKeeping.TheVariants.{Ended, Starts}
use Rattle.law_refine.specs.Below.fkv_keeper.Keeping.{KeeperState, commit_asked, keeper_ask, keeper_called, keeper_given, keeper_next, keeping_ask, turn_asked}
use Rattle.law_refine.specs.Below.fkv_keeper.KeeperRun.{BeginsCommit, BeginsTurn, Calls as CallsDevice, Gets, Replies, begins, is_in_hand, keeper_happens}
use Rattle.law_refine.specs.Below.fkv_session.Sessions.{SessionState}
use Rattle.law_refine.specs.Below.fkv_world.Moves.{keeper_gets}
use Rattle.law_refine.specs.Below.fkv_world.Opened.{HasBecome}
use Rattle.law_refine.specs.Below.fkv_world.Runs.{World, happens, read_by_keeper, run}
use Rattle.law_refine.specs.Below.fkv_world.World.{Event, Calls, Commits, Crashes, KeeperMoves, Moves, Now, Turns, keeper_asked, life_goes, session_calls, session_moves}
use Rattle.law_refine.proofs.Below.fkv_world.Shown.{is_over, lives, session_runs}
use Rattle.law_commit.specs.Accepted.{point}
use Rattle.law_commit.specs.LastSerials.{serial_at, serial_of}
use Rattle.law_commit.specs.PhaseVersions.{phase_version, version_said}
use Rattle.law_commit.specs.Phases.Staged.{Stage}
use Rattle.law_commit.specs.Points.{SinceAsked}
use Rattle.law_commit.specs.PrefixPast.{asked_by, asked_where, serials_asked}
use Rattle.law_commit.specs.Quiet.{OpensQuiet}
use Rattle.law_commit.proofs.Counted.{life_point}
use Rattle.law_commit.proofs.OfPhases.LifeStages.{event_on, life_staged, none_ahead, rising_version}
use Rattle.law_commit.proofs.OfPhases.StageMoves.{LedOn, QuietKeeper, Quietly, RunBySession}
use Rattle.law_commit.proofs.OfPoints.Rises.{event_rises, point_given, serial_now}
use Rattle.law_commit.proofs.OfPoints.Starting.{KeeperSays, StartReply, event_says, idle_says, says_on}
use Rattle.law_commit.proofs.OfPoints.Taken.{none_past}
use Rattle.law_commit.proofs.OfQuiet.Left.{put_no_load}
use Rattle.law_commit.proofs.Rising.{version_below}

-- ---- a session that isn't there never is
set_none : {X : Type 0} (xs : List X) (at : ℕ) (y : X) (i : ℕ) → slice_get xs i ≡ None → slice_get (slice_set xs at y) i ≡ None
set_none xs at y i none =
    let past = none_past xs i none in
    let same = length-set xs at y in
    slice_get_past (slice_set xs at y) i (omega (arith, past, same))

absent_called : (n : Now) (number : ℕ) (call : Call) (found : Option SessionState) (i : ℕ) → slice_get n.sessions i ≡ None → slice_get (session_calls n number call found).sessions i ≡ None
absent_called n number call None i none = none
absent_called n number call (Some s) i none = set_none n.sessions number _ i none

absent_moved : (n : Now) (number : ℕ) (found : Option SessionState) (i : ℕ) → slice_get n.sessions i ≡ None → slice_get (session_moves n number found).sessions i ≡ None
absent_moved n number None i none = none
absent_moved n number (Some s) i none = set_none n.sessions number _ i none

absent_goes : (n : Now) (read : List ℕ) (event : Event) (i : ℕ) → slice_get n.sessions i ≡ None → slice_get (life_goes n read event).sessions i ≡ None
unfolding life_goes
absent_goes n read (Calls number call) i none = absent_called n number call (slice_get n.sessions number) i none
absent_goes n read (Moves number) i none = absent_moved n number (slice_get n.sessions number) i none
absent_goes n read (Commits kind) i none = none
absent_goes n read Turns i none = none
absent_goes n read (KeeperMoves granted done) i none = none
absent_goes n read Crashes i none = none

absent_event : (w : World) (event : Event) (i : ℕ) → slice_get w.now.sessions i ≡ None → slice_get (happens w event).now.sessions i ≡ None
absent_event w event i none = by_crash w.now.crashed refl
  where
    by_crash : (c : Bool) → w.now.crashed ≡ c → slice_get (happens w event).now.sessions i ≡ None
    by_crash true over = ap (λ (x : World). slice_get x.now.sessions i) (is_over w event over) ∙ none
    by_crash false alive = ap (λ (n : Now). slice_get n.sessions i) (lives w event alive) ∙ absent_goes w.now (read_by_keeper w) event i none

pub absent_now : (opening : World) (events : List Event) (i : ℕ) → slice_get opening.now.sessions i ≡ None → slice_get (run opening events).now.sessions i ≡ None
unfolding run
absent_now opening [] i none = none
absent_now opening (event ∷ before) i none = absent_event (run opening before) event i (absent_now opening before i none)

-- ---- the serials that were given as the commit was asked for
-- behind an event they stay, or are those that are given now, and then neither a call nor a commit is in hand
record AsksAnew (n : Now) : Type 0 where
  idle : is_in_hand n.keeper.step ≡ false
  none : n.keeper.commit ≡ None

abbrev HowAsked : Now → (ℕ → ℕ) → (ℕ → ℕ) → Type 0
HowAsked n before after = (after ≡ before) ⊎ ((after ≡ serial_at n) × AsksAnew n)

where_asked : (n : Now) (found : Option Commit) (busy : Bool) (before : ℕ → ℕ) → n.keeper.commit ≡ found → is_in_hand n.keeper.step ≡ busy → HowAsked n before (asked_where n found before)
where_asked n None true before none is = rw is (inl refl)
where_asked n None false before none is = rw is (inr (refl, record { idle = is; none = none }))
where_asked n (Some c) busy before none is = inl refl

how_asked : (n : Now) (event : Event) (before : ℕ → ℕ) → HowAsked n before (asked_by n event before)
how_asked n (Commits kind) before = by_crash n.crashed
  where
    by_crash : (c : Bool) → HowAsked n before (if c then before else asked_where n n.keeper.commit before)
    by_crash true = inl refl
    by_crash false = where_asked n n.keeper.commit (is_in_hand n.keeper.step) before refl refl
how_asked n (Calls number call) before = inl refl
how_asked n (Moves number) before = inl refl
how_asked n Turns before = inl refl
how_asked n (KeeperMoves granted done) before = inl refl
how_asked n Crashes before = inl refl

event_asked : (opening : World) (event : Event) (before : List Event) → HowAsked (run opening before).now (serials_asked opening before) (serials_asked opening (event ∷ before))
unfolding serials_asked
event_asked opening event before = how_asked (run opening before).now event (serials_asked opening before)

-- ---- what the keeper asks as it loads the phase for a start
asks_phase : (shape : Shape) (p : Places) (s : KeeperState) → s.step ≡ Starts → s.start.step ≡ starting.LoadsPhase → keeper_ask shape p s ≡ Load (shared_place one.Phase)
unfolding keeping_ask starting_ask passed
asks_phase shape p s at loads = rw (at, loads) refl

replied : (shape : Shape) (p : Places) (s : KeeperState) (reply : ℕ) (granted : Bool) → keeper_happens shape p s (Replies reply granted) ≡ keeper_next shape p s reply granted
unfolding keeper_happens
replied shape p s reply granted = refl

given : (shape : Shape) (p : Places) (s : KeeperState) (action : Action) → keeper_happens shape p s (Gets action) ≡ keeper_given shape p s action
unfolding keeper_happens
given shape p s action = refl

called : (shape : Shape) (p : Places) (s : KeeperState) (done : Bool) (bytes : List ℕ) → keeper_happens shape p s (CallsDevice done bytes) ≡ keeper_called shape p s done bytes
unfolding keeper_happens
called shape p s done bytes = refl

commit_begins : (shape : Shape) (p : Places) (s : KeeperState) (kind : CommitKind) → keeper_happens shape p s (BeginsCommit kind) ≡ keeper_asked s (commit_asked s kind)
unfolding keeper_happens
commit_begins shape p s kind = by_hand (is_in_hand s.step)
  where
    by_hand : (b : Bool) → begins s b (commit_asked s kind) ≡ (if b then s else commit_asked s kind)
    by_hand true = refl
    by_hand false = refl

turn_begins : (shape : Shape) (p : Places) (s : KeeperState) → keeper_happens shape p s BeginsTurn ≡ keeper_asked s (turn_asked s)
unfolding keeper_happens
turn_begins shape p s = by_hand (is_in_hand s.step)
  where
    by_hand : (b : Bool) → begins s b (turn_asked s) ≡ (if b then s else turn_asked s)
    by_hand true = refl
    by_hand false = refl

module _ (opening : World) (start : ℕ) (opens : OpensQuiet opening start) where
  -- ---- a session's serial as it stands
  -- it is its point of each version from its own on
  serial_point : (events : List Event) (session version : ℕ) (first : SessionState) → slice_get opening.now.sessions session ≡ Some first
      → ((its : SessionState) → slice_get (run opening events).now.sessions session ≡ Some its → its.seen.version.0 ≤ version) → serial_at (run opening events).now session ≡ point opening events session version
  serial_point events session version first found up =
      let now = session_runs opening session first events found in
      let became : HasBecome opening events session first _ = record { opened = opens.opened; was = found; is_now = now } in
      serial_now opening events session _ now ∙ sym (life_point opening events session first _ version became (rising_version opening start events session first _ became opens.guarded opens.seen.rests) (up _ now))

  absent_serial : (events : List Event) (session : ℕ) → slice_get opening.now.sessions session ≡ None → serial_at (run opening events).now session ≡ 0
  absent_serial events session none = ap serial_of (absent_now opening events session none)

  -- it never falls
  serial_rises : (event : Event) (before : List Event) (session : ℕ) → serial_at (run opening before).now session ≤ serial_at (run opening (event ∷ before)).now session
  serial_rises event before session = by_found (slice_get opening.now.sessions session) refl
    where
      by_found : (found : Option SessionState) → slice_get opening.now.sessions session ≡ found → serial_at (run opening before).now session ≤ serial_at (run opening (event ∷ before)).now session
      by_found None none = let zero_before = absent_serial before session none in omega (arith, zero_before)
      by_found (Some first) found =
          let now = session_runs opening session first before found in
          let next_now = session_runs opening session first (event ∷ before) found in
          let version : ℕ = phase_version (run opening before).now.words in
          let became : HasBecome opening before session first _ = record { opened = opens.opened; was = found; is_now = now } in
          let became_then : HasBecome opening (event ∷ before) session first _ = record { opened = opens.opened; was = found; is_now = next_now } in
          let same = serial_now opening before session _ now in
          let same_then = serial_now opening (event ∷ before) session _ next_now in
          let rises = (life_staged opening start before opens.guarded opens.opened opens.seen.rests).rises in
          let up = version_below opening before session first _ became (none_ahead opening.now opens.seen.rests) rises in
          let is = life_point opening before session first _ version became (rising_version opening start before session first _ became opens.guarded opens.seen.rests) up in
          let more = event_rises opening event before session version in
          let given_most = point_given opening (event ∷ before) session version first _ became_then in
          omega (arith, same, same_then, is, more, given_most)

  through : (low mid high : ℕ) → low ≤ mid → mid ≤ high → low ≤ high
  through low mid high one_up other_up = omega (arith, one_up, other_up)

  up_to_now : (events : List Event) (session : ℕ) → serials_asked opening events session ≤ serial_at (run opening events).now session
  unfolding run serials_asked
  up_to_now [] session = omega arith
  up_to_now (event ∷ before) session = elim (event_asked opening event before) [
    | inl same ↦
        let its = up_to_now before session in
        let up = serial_rises event before session in
        let is = ap (λ (f : ℕ → ℕ). f session) same in
        omega (arith, its, up, is)
    | inr anew ↦
        let up = serial_rises event before session in
        let is = ap (λ (f : ℕ → ℕ). f session) anew.0 in
        omega (arith, up, is)
  ]

  -- ---- what is said of a number
  abbrev Asked : List Event → ℕ → Type 0
  Asked events number = (session : ℕ) → serials_asked opening events session ≤ point opening events session number

  -- where the phase word says rest of it, each session has just given its point
  rests_asked : (events : List Event) (number : Version) → phase_said (reply_to {A = KeeperTold} (run opening events).now.words (Load (shared_place one.Phase))) ≡ Says phase.Rest number → (session : ℕ) → serial_at (run opening events).now session ≤ point opening events session number.0
  rests_asked events number says session = by_found (slice_get opening.now.sessions session) refl
    where
      version : phase_version (run opening events).now.words ≡ number.0
      version = ap version_said says

      by_found : (found : Option SessionState) → slice_get opening.now.sessions session ≡ found → serial_at (run opening events).now session ≤ point opening events session number.0
      by_found None none = let none_given = absent_serial events session none in omega (arith, none_given)
      by_found (Some first) found =
          let now = session_runs opening session first events found in
          let became : HasBecome opening events session first _ = record { opened = opens.opened; was = found; is_now = now } in
          let rises = (life_staged opening start events opens.guarded opens.opened opens.seen.rests).rises in
          let below = version_below opening events session first _ became (none_ahead opening.now opens.seen.rests) rises in
          let at = version in
          let same = serial_now opening events session _ now in
          let is = life_point opening events session first _ number.0 became (rising_version opening start events session first _ became opens.guarded opens.seen.rests) (omega (arith, below, at)) in
          omega (arith, same, is)

  -- ---- an event
  module _ (event : Event) (before : List Event) where
    abbrev n : Now
    n = (run opening before).now

    abbrev after : Now
    after = (run opening (event ∷ before)).now

    abbrev R : ℕ → Type 0
    R = Asked (event ∷ before)

    asked_on : serials_asked opening (event ∷ before) ≡ serials_asked opening before → (number : ℕ) → Asked before number → R number
    asked_on same number its session =
        let low = its session in
        let up = event_rises opening event before session number in
        let is = ap (λ (f : ℕ → ℕ). f session) same in
        omega (arith, low, up, is)

    keeper_says : KeeperSays (Asked before) n.keeper → KeeperSays R n.keeper
    keeper_says its = elim (event_asked opening event before) [
      | inl same ↦ says_on (Asked before) R n.keeper (asked_on same) its
      | inr anew ↦ let it = anew.1 in idle_says R n.keeper it.idle it.none
    ]

    not_idle : (step : Keeping) → is_in_hand step ≡ false → step ≡ Starts → ⊥
    not_idle (Ended told) idle starts = cc
    not_idle step idle starts = cc

    -- the phase is loaded for a start
    loads_asked : (step : Starting) → n.keeper.step ≡ Starts → n.keeper.start.step ≡ step → StartReply R step (reply_to n.words (keeper_ask n.shape n.places n.keeper))
    loads_asked starting.LoadsPhase starts loads = λ number says session.
        let asks = asks_phase n.shape n.places n.keeper starts loads in
        let here : phase_said (reply_to {A = KeeperTold} n.words (Load (shared_place one.Phase))) ≡ Says phase.Rest number = ap (λ (ask : Ask KeeperTold). phase_said (reply_to n.words ask)) (sym asks) ∙ says in
        let given_now = rests_asked before number here session in
        let most = up_to_now before session in
        let up = event_rises opening event before session number.0 in
        elim (event_asked opening event before) [
          | inl same ↦ let is = ap (λ (f : ℕ → ℕ). f session) same in omega (arith, given_now, most, up, is)
          | inr anew ↦ let it = anew.1 in absurd (not_idle n.keeper.step it.idle starts)
        ]
    loads_asked (starting.Ended its) starts loads = tt
    loads_asked (starting.Seeks number) starts loads = tt
    loads_asked (starting.StoresPrepare number) starts loads = tt
    loads_asked (starting.LoadsTail number) starts loads = tt
    loads_asked (starting.Defers number first) starts loads = tt

    put_asked : (s : KeeperState) (step : Starting) (slot : ℕ) (action : Action) → s.step ≡ Starts → s.start.step ≡ step → keeper_ask n.shape n.places s ≡ Put slot action → StartReply R step 0
    put_asked s starting.LoadsPhase slot action starts loads puts = put_no_load (keeper_ask n.shape n.places s) slot action (shared_place one.Phase) puts (asks_phase n.shape n.places s starts loads)
    put_asked s (starting.Ended its) slot action starts loads puts = tt
    put_asked s (starting.Seeks number) slot action starts loads puts = tt
    put_asked s (starting.StoresPrepare number) slot action starts loads puts = tt
    put_asked s (starting.LoadsTail number) slot action starts loads puts = tt
    put_asked s (starting.Defers number first) slot action starts loads puts = tt

    same_reply : (one_reply other : ℕ) (a b : Bool) → Replies one_reply a ≡ Replies other b → one_reply ≡ other
    same_reply one_reply other a b same = cc

    module _ (was : KeeperSays R n.keeper) where
      quiet_says : QuietKeeper n after.keeper → KeeperSays R after.keeper
      quiet_says (inl same) = subst (KeeperSays R) (sym same) was
      quiet_says (inr (inl calls)) =
          subst (KeeperSays R) (called n.shape n.places n.keeper calls.0 calls.1 ∙ sym calls.2) (event_says R n.shape n.places n.keeper (CallsDevice calls.0 calls.1) (λ reply granted is starts. cc) was)
      quiet_says (inr (inr (inl commit))) =
          subst (KeeperSays R) (commit_begins n.shape n.places n.keeper commit.0 ∙ sym commit.1) (event_says R n.shape n.places n.keeper (BeginsCommit commit.0) (λ reply granted is starts. cc) was)
      quiet_says (inr (inr (inr turn))) = subst (KeeperSays R) (turn_begins n.shape n.places n.keeper ∙ sym turn) (event_says R n.shape n.places n.keeper BeginsTurn (λ reply granted is starts. cc) was)

      gets_says : (led : KeeperState) (found : Option Action) → KeeperSays R led → KeeperSays R (keeper_gets n.shape n.places led found)
      gets_says led None its = its
      gets_says led (Some action) its = subst (KeeperSays R) (given n.shape n.places led action) (event_says R n.shape n.places led (Gets action) (λ reply granted is starts. cc) its)

      reply_says : (led : KeeperState) (reply : ℕ) (granted : Bool) → (led.step ≡ Starts → StartReply R led.start.step reply) → KeeperSays R led → KeeperSays R (keeper_next n.shape n.places led reply granted)
      reply_says led reply granted tells its =
          subst (KeeperSays R) (replied n.shape n.places led reply granted)
          (event_says R n.shape n.places led (Replies reply granted)
          (λ other given_so is starts. subst (λ (x : ℕ). StartReply R led.start.step x) (same_reply reply other granted given_so is) (tells starts)) its)

      onto_says : (number next : Version) (stage there : Stage) → LedOn n after.keeper after.words number next stage there → KeeperSays R after.keeper
      onto_says number next stage there its =
          let onto = its.onto in
          let led : KeeperSays R onto.led =
          subst (KeeperSays R) (sym onto.is_led) (reply_says n.keeper (reply_to n.words (keeper_ask n.shape n.places n.keeper)) its.granted (λ starts. loads_asked n.keeper.start.step starts refl) was) in
          elim onto.settled [
            | inl plain ↦ elim plain.keeper [
              | inl same ↦ subst (KeeperSays R) (sym same) led
              | inr gets ↦ subst (KeeperSays R) (sym gets.1) (gets_says onto.led gets.0 led)
            ]
            | inr puts ↦ subst (KeeperSays R) (sym puts.keeper) (reply_says onto.led 0 its.granted (λ starts. put_asked onto.led onto.led.start.step puts.slot puts.action starts refl puts.asks) led)
          ]

      how_says : (number next : Version) (stage there : Stage) → Quietly n after.keeper number next stage there ⊎ (RunBySession n after.keeper number next stage there ⊎ LedOn n after.keeper after.words number next stage there) → KeeperSays R after.keeper
      how_says number next stage there (inl quiet) = quiet_says quiet.keeper
      how_says number next stage there (inr (inl session)) = subst (KeeperSays R) (sym session.keeper) was
      how_says number next stage there (inr (inr led)) = onto_says number next stage there led

    says_after : KeeperSays (Asked before) n.keeper → KeeperSays R after.keeper
    says_after its =
        let lived = life_staged opening start before opens.guarded opens.opened opens.seen.rests in
        let there = event_on opening start opens.guarded opens.opened before event lived.number lived.stage lived.staged in
        how_says (keeper_says its) lived.number there.on.its_number lived.stage there.on.its_stage there.how

  -- ---- a life
  life_says : (events : List Event) → KeeperSays (Asked events) (run opening events).now.keeper
  unfolding run
  life_says [] = idle_says (Asked []) opening.now.keeper opens.guarded.keeper.none_in_hand opens.guarded.keeper.no_commit
  life_says (event ∷ before) = says_after event before (life_says before)

  pub asked_low : (events : List Event) (c : Commit) → (run opening events).now.keeper.commit ≡ Some c → (session : ℕ) → serials_asked opening events session ≤ point opening events session c.number.0
  asked_low events c in_hand session = (life_says events).hand c in_hand session

pub since_asked : SinceAsked
since_asked opening start events c session opens in_hand = asked_low opening start opens events c in_hand session
