-- What the keeper's own events leave of the kinds that were asked for and begun.
use Rattle.std.proofs.Common.{◌≡◌, ◌⊎◌, inl, inr, ◌∙◌, List, [], ◌∷◌, ◌++◌, refl, ap, sym, subst, Bool, true, false}
use Rattle.std.specs.Prelude.{⊤, Option, Some, None}
use Rattle.fkv_base.specs.declared.commits.CommitKind.{CommitKind}
use Rattle.fkv_base.specs.declared.faults.Fault.{Fault}
use Rattle.fkv_base.specs.declared.faults.Fault.TheVariants.{Broken, CommitRunning}
use Rattle.fkv_base.specs.declared.numbers.Addr.{Addr}
use Rattle.fkv_base.specs.declared.numbers.Version.{Version}
use Rattle.fkv_base.specs.declared.shapes.Shape.{Shape}
use Rattle.fkv_plane.specs.declared.asks.Ask.{Ask}
use Rattle.fkv_plane.specs.declared.asks.Ask.TheVariants.{Done}
use Rattle.fkv_plane.specs.declared.places.Places.{Places}
use Rattle.law_order.specs.Below.fkv_commit.StartAnswer.{StartAnswer}
use Rattle.law_order.specs.Below.fkv_commit.StartAnswer.TheVariants as start
use Rattle.law_order.specs.Below.fkv_commit.Starting.{start_ask, start_next}
use Rattle.law_order.specs.Below.fkv_keeper.CheckpointLaws as laws
use Rattle.law_order.specs.Below.fkv_keeper.CheckpointLaws.{BegunWith, LastBegin, MayFollow, MayStep, begun_of, last_begin, last_begin_after}
use Rattle.law_order.specs.Below.fkv_keeper.KeeperTold.{KeeperTold}
use Rattle.law_order.specs.Below.fkv_keeper.KeeperTold.TheVariants.{Begun, CommitRefused}
use Rattle.law_order.specs.Below.fkv_keeper.TheKeeping.{Keeping}
use Rattle.law_order.specs.Below.fkv_keeper.TheKeeping.TheVariants.{Ended, LoadsPhase, Starts, Writes}
use Rattle.law_order.specs.Below.fkv_keeper.Keeping.{KeeperState, commit_asked, keeping_called, keeping_given, keeping_next, start_ledto, turn_asked}
use Rattle.law_order.specs.Below.fkv_keeper.KeeperRun.{BeginsCommit, BeginsTurn, Calls, Gets, KeeperEvent, Replies, begins, is_in_hand, keeper_happens, keeper_run}
use Rattle.law_order.proofs.Below.fkv_keeper.Shown.{each_move}
use Rattle.law_threads.specs.Kinds.{Kinds, begun_by}

-- ---- what the keeper's own record says
abbrev pub kind_in : Option BegunWith → Option CommitKind
kind_in None = None
kind_in (Some its) = Some its.kind

abbrev pub kinds_of : LastBegin → Kinds
kinds_of its = record { asked = its.asked; begun = kind_in its.begun }

-- a commit was asked for
abbrev pub with_asked : Keeping → CommitKind → Kinds → Kinds
with_asked (Ended its) kind was = record was { asked = Some kind }
with_asked step kind was = was

kind_of_begun : (asked : Option CommitKind) (number : Version) (first : Addr) → kind_in (begun_of asked number first) ≡ asked
kind_of_begun None number first = refl
kind_of_begun (Some kind) number first = refl

-- ---- events that begin no call
abbrev pub BeginsNothing : KeeperEvent → Type 0
BeginsNothing BeginsTurn = ⊥
BeginsNothing (BeginsCommit kind) = ⊥
BeginsNothing event = ⊤

abbrev pub BeginNothing : List KeeperEvent → Type 0
BeginNothing [] = ⊤
BeginNothing (event ∷ before) = BeginsNothing event × BeginNothing before

-- a start goes on, or ends the call
start_told : (s : KeeperState) (ask : Ask StartAnswer) (was : LastBegin) → s.step ≡ Starts → start_ask s.start ≡ ask
    → kinds_of (laws.begun_by (start_ask (start_ledto s ask).start) was) ≡ begun_by Starts (start_ledto s ask).step (kinds_of was)
unfolding start_ledto
start_told s (Done (start.Begun number first)) was e asks = rw asks (ap (λ (b : Option CommitKind). record { asked = was.asked; begun = b }) (kind_of_begun was.asked number first))
start_told s (Done (start.Refused why)) was e asks = rw asks refl
start_told s (Done start.Idle) was e asks = rw asks refl
start_told s ask was e asks = rw (asks, e) refl

-- ---- which step follows
abbrev pub NotStarts : Keeping → Type 0
NotStarts Starts = ⊥
NotStarts step = ⊤

abbrev EndsOrStarts : Keeping → Type 0
EndsOrStarts Starts = ⊤
EndsOrStarts (Ended its) = ⊤
EndsOrStarts step = ⊥

abbrev Goes : Keeping → Keeping → Type 0
Goes (Ended its) after = after ≡ Ended its
Goes Starts after = EndsOrStarts after
Goes step after = NotStarts after

goes_so : (step after : Keeping) → is_in_hand step ≡ true → MayFollow step after → Goes step after
goes_so (Ended its) after busy follows = cc
goes_so Starts Starts busy follows = tt
goes_so Starts (Ended its) busy follows = tt
goes_so Starts after busy follows = follows
goes_so step Starts busy follows = follows
goes_so step after busy follows = tt

-- and where the writes go on that rest
steps_so : (rests : Bool) (step after : Keeping) → is_in_hand step ≡ true → MayStep rests step after → Goes step after
steps_so true LoadsPhase Writes busy steps = tt
steps_so rests step after busy steps = goes_so step after busy steps

goes_not : (step after : Keeping) → NotStarts step → Goes step after → NotStarts after
goes_not (Ended its) after not goes = subst NotStarts (sym goes) tt
goes_not Starts after not goes = absurd not
goes_not step after not goes = goes

pub not_same : (step after : Keeping) (k : Kinds) → NotStarts step → begun_by step after k ≡ k
not_same Starts after k not = absurd not
not_same step after k not = refl

not_begun : (why : Fault) (number : Version) → Ended (CommitRefused why) ≡ Ended (Begun number) → ⊥
not_begun why number e = cc

pub same_step : (step : Keeping) (k : Kinds) → k ≡ begun_by step step k
same_step Starts k = refl
same_step step k = refl

-- one more event behind a start
one_more : (middle last : Keeping) (k k' k'' : Kinds) → EndsOrStarts middle → Goes middle last → k' ≡ begun_by Starts middle k → k'' ≡ begun_by middle last k' → (k'' ≡ begun_by Starts last k) × EndsOrStarts last
one_more Starts last k k' k'' led goes one two = (two ∙ ap (λ (x : Kinds). begun_by Starts last x) one, goes)
one_more (Ended its) last k k' k'' led goes one two = (two ∙ (one ∙ ap (λ (x : Keeping). begun_by Starts x k) (sym goes)), subst EndsOrStarts (sym goes) tt)
one_more middle last k k' k'' led goes one two = absurd led

module _ (shape : Shape) (p : Places) where
  one_told : (s : KeeperState) (step : Keeping) (event : KeeperEvent) (was : LastBegin) → s.step ≡ step → BeginsNothing event
      → kinds_of (last_begin_after step event (keeper_happens shape p s event) was) ≡ begun_by step (keeper_happens shape p s event).step (kinds_of was)
  unfolding keeper_happens keeping_next keeping_given keeping_called
  one_told s step BeginsTurn was e none = absurd none
  one_told s step (BeginsCommit kind) was e none = absurd none
  one_told s (Ended its) (Replies reply granted) was e none = refl
  one_told s (Ended its) (Gets action) was e none = refl
  one_told s (Ended its) (Calls done bytes) was e none = refl
  one_told s Starts (Replies reply granted) was e none =
      subst (λ (a : KeeperState). kinds_of (last_begin_after Starts (Replies reply granted) a was) ≡ begun_by Starts a.step (kinds_of was)) (sym (ap (λ (x : Keeping). keeping_next shape p s x reply granted) e))
      (start_told (record s { start = start_next s.start reply }) (start_ask (start_next s.start reply)) was e refl)
  one_told s Starts (Gets action) was e none = rw e refl
  one_told s Starts (Calls done bytes) was e none = rw e refl
  one_told s step (Replies reply granted) was e none = refl
  one_told s step (Gets action) was e none = refl
  one_told s step (Calls done bytes) was e none = refl

  idle_same : (s : KeeperState) (its : KeeperTold) (event : KeeperEvent) → s.step ≡ Ended its → BeginsNothing event → (keeper_happens shape p s event).step ≡ Ended its
  unfolding keeper_happens keeping_next keeping_given keeping_called
  idle_same s its BeginsTurn e none = absurd none
  idle_same s its (BeginsCommit kind) e none = absurd none
  idle_same s its (Replies reply granted) e none = rw e refl
  idle_same s its (Gets action) e none = rw e refl
  idle_same s its (Calls done bytes) e none = rw e refl

  goes_at : (s : KeeperState) (step : Keeping) (event : KeeperEvent) → s.step ≡ step → BeginsNothing event → Goes step (keeper_happens shape p s event).step
  goes_at s (Ended its) event e none = idle_same s its event e none
  goes_at s step event e none = steps_so s.rests step _ refl (subst (λ (x : Keeping). MayStep s.rests x (keeper_happens shape p s event).step) e (each_move shape p s event).one.steps)

  -- where a call is in hand none begins
  busy_same : (s begun : KeeperState) → s.step ≡ Starts → begins s (is_in_hand s.step) begun ≡ s
  busy_same s begun e = ap (λ (x : Keeping). begins s (is_in_hand x) begun) e

  begun_so : (s begun : KeeperState) (was : KeeperTold) → s.step ≡ Ended was → begins s (is_in_hand s.step) begun ≡ begun
  begun_so s begun was e = ap (λ (x : Keeping). begins s (is_in_hand x) begun) e

  commit_told : (s : KeeperState) (step : Keeping) (kind : CommitKind) (was : LastBegin) → s.step ≡ step
      → kinds_of (last_begin_after step (BeginsCommit kind) (keeper_happens shape p s (BeginsCommit kind)) was) ≡ begun_by step (keeper_happens shape p s (BeginsCommit kind)).step (with_asked step kind (kinds_of was))
  unfolding keeper_happens
  commit_told s (Ended its) kind was e = refl
  commit_told s Starts kind was e = sym (ap (λ (x : Keeping). begun_by Starts x (kinds_of was)) (ap (λ (x : KeeperState). x.step) (busy_same s (commit_asked s kind) e) ∙ e))
  commit_told s step kind was e = refl

  turn_told : (s : KeeperState) (step : Keeping) (was : LastBegin) → s.step ≡ step
      → kinds_of (last_begin_after step BeginsTurn (keeper_happens shape p s BeginsTurn) was) ≡ begun_by step (keeper_happens shape p s BeginsTurn).step (kinds_of was)
  unfolding keeper_happens
  turn_told s (Ended its) was e = refl
  turn_told s Starts was e = sym (ap (λ (x : Keeping). begun_by Starts x (kinds_of was)) (ap (λ (x : KeeperState). x.step) (busy_same s (turn_asked s) e) ∙ e))
  turn_told s step was e = refl

  module _ (opening : KeeperState) where
    abbrev state : List KeeperEvent → KeeperState
    state own = keeper_run shape p opening own

    abbrev told : List KeeperEvent → Kinds
    told own = kinds_of (last_begin shape p opening own)

    run_by : (event : KeeperEvent) (own : List KeeperEvent) → state (event ∷ own) ≡ keeper_happens shape p (state own) event
    unfolding keeper_run
    run_by event own = refl

    told_by : (event : KeeperEvent) (own : List KeeperEvent) → told (event ∷ own) ≡ kinds_of (last_begin_after (state own).step event (keeper_happens shape p (state own) event) (last_begin shape p opening own))
    unfolding last_begin keeper_run
    told_by event own = refl

    event_told : (event : KeeperEvent) (own : List KeeperEvent) → BeginsNothing event → told (event ∷ own) ≡ begun_by (state own).step (state (event ∷ own)).step (told own)
    event_told event own none =
        told_by event own ∙ (one_told (state own) (state own).step event (last_begin shape p opening own) refl none
        ∙ ap (λ (x : KeeperState). begun_by (state own).step x.step (told own)) (sym (run_by event own)))

    event_goes : (event : KeeperEvent) (own : List KeeperEvent) → BeginsNothing event → Goes (state own).step (state (event ∷ own)).step
    event_goes event own none = subst (λ (x : KeeperState). Goes (state own).step x.step) (sym (run_by event own)) (goes_at (state own) (state own).step event refl none)

    -- ---- many events
    behind_start : (its own : List KeeperEvent) → BeginNothing its → (state own).step ≡ Starts → (told (its ++ own) ≡ begun_by Starts (state (its ++ own)).step (told own)) × EndsOrStarts (state (its ++ own)).step
    behind_start [] own none e = (sym (ap (λ (x : Keeping). begun_by Starts x (told own)) e), subst EndsOrStarts (sym e) tt)
    behind_start (event ∷ its) own none e =
        let rest = behind_start its own none.1 e in
        one_more (state (its ++ own)).step (state (event ∷ its ++ own)).step (told own) (told (its ++ own)) (told (event ∷ its ++ own)) rest.1 (event_goes event (its ++ own) none.0) rest.0 (event_told event (its ++ own) none.0)

    pub behind_others : (its own : List KeeperEvent) → BeginNothing its → NotStarts (state own).step → (told (its ++ own) ≡ told own) × NotStarts (state (its ++ own)).step
    behind_others [] own none not = (refl, not)
    behind_others (event ∷ its) own none not =
        let rest = behind_others its own none.1 not in (
          event_told event (its ++ own) none.0 ∙ (not_same (state (its ++ own)).step _ (told (its ++ own)) rest.1 ∙ rest.0),
          goes_not (state (its ++ own)).step _ rest.1 (event_goes event (its ++ own) none.0),
        )

    -- so they leave the kinds
    behind_at : (its own : List KeeperEvent) (step : Keeping) → BeginNothing its → (state own).step ≡ step → told (its ++ own) ≡ begun_by step (state (its ++ own)).step (told own)
    behind_at its own Starts none e = (behind_start its own none e).0
    behind_at its own step none e = (behind_others its own none (subst NotStarts (sym e) tt)).0

    pub quiet_told : (its own : List KeeperEvent) → BeginNothing its → told (its ++ own) ≡ begun_by (state own).step (state (its ++ own)).step (told own)
    quiet_told its own none = behind_at its own (state own).step none refl

    pub asked_told : (kind : CommitKind) (own : List KeeperEvent) → told (BeginsCommit kind ∷ own) ≡ begun_by (state own).step (state (BeginsCommit kind ∷ own)).step (with_asked (state own).step kind (told own))
    asked_told kind own =
        told_by (BeginsCommit kind) own ∙ (commit_told (state own) (state own).step kind (last_begin shape p opening own) refl
        ∙ ap (λ (x : KeeperState). begun_by (state own).step x.step (with_asked (state own).step kind (told own))) (sym (run_by (BeginsCommit kind) own)))

    pub turned_told : (own : List KeeperEvent) → told (BeginsTurn ∷ own) ≡ begun_by (state own).step (state (BeginsTurn ∷ own)).step (told own)
    turned_told own =
        told_by BeginsTurn own ∙ (turn_told (state own) (state own).step (last_begin shape p opening own) refl
        ∙ ap (λ (x : KeeperState). begun_by (state own).step x.step (told own)) (sym (run_by BeginsTurn own)))

    -- where no call is in hand nothing happens
    pub quiet_idle : (its own : List KeeperEvent) (told : KeeperTold) → BeginNothing its → (state own).step ≡ Ended told → (state (its ++ own)).step ≡ Ended told
    quiet_idle [] own told none e = e
    quiet_idle (event ∷ its) own told none e =
        let was = quiet_idle its own told none.1 e in
        subst (λ (step : Keeping). Goes step (state (event ∷ its ++ own)).step) was (event_goes event (its ++ own) none.0)

    -- ---- a call of the keeper, where none was in hand
    commit_from : (broken rests : Bool) (s : KeeperState) (kind : CommitKind) → s.is_broken ≡ broken → s.rests ≡ rests → ((commit_asked s kind).step ≡ Starts) ⊎ ((why : Fault) × ((commit_asked s kind).step ≡ Ended (CommitRefused why)))
    commit_from true rests s kind e r = inr (Broken, rw e refl)
    commit_from false true s kind e r = inr (CommitRunning, rw (e, r) refl)
    commit_from false false s kind e r = inl (rw (e, r) refl)

    turn_from : (broken : Bool) (s : KeeperState) → s.is_broken ≡ broken → NotStarts (turn_asked s).step
    turn_from true s e = rw e tt
    turn_from false s e = rw e tt

    commit_begins : (kind : CommitKind) (own : List KeeperEvent) (was : KeeperTold) → (state own).step ≡ Ended was → state (BeginsCommit kind ∷ own) ≡ commit_asked (state own) kind
    unfolding keeper_happens
    commit_begins kind own was e = run_by (BeginsCommit kind) own ∙ begun_so (state own) (commit_asked (state own) kind) was e

    begun_kind : (kind : CommitKind) (number : Version) (its own : List KeeperEvent) (was : KeeperTold) → BeginNothing its → (state own).step ≡ Ended was → (state (its ++ BeginsCommit kind ∷ own)).step ≡ Ended (Begun number)
        → ((commit_asked (state own) kind).step ≡ Starts) ⊎ ((why : Fault) × ((commit_asked (state own) kind).step ≡ Ended (CommitRefused why))) → (told (its ++ BeginsCommit kind ∷ own)).begun ≡ Some kind
    begun_kind kind number its own was none e ends (inl starts) =
        let begins : (state (BeginsCommit kind ∷ own)).step ≡ Starts = ap (λ (x : KeeperState). x.step) (commit_begins kind own was e) ∙ starts in
        let asked : told (BeginsCommit kind ∷ own) ≡ record { asked = Some kind; begun = kind_in (last_begin shape p opening own).begun }
        = asked_told kind own ∙ ap (λ (step : Keeping). begun_by step (state (BeginsCommit kind ∷ own)).step (with_asked step kind (told own))) e in
        ap (λ (k : Kinds). k.begun)
        (quiet_told its (BeginsCommit kind ∷ own) none
        ∙ (ap (λ (step : Keeping). begun_by step (state (its ++ BeginsCommit kind ∷ own)).step (told (BeginsCommit kind ∷ own))) begins
        ∙ (ap (λ (step : Keeping). begun_by Starts step (told (BeginsCommit kind ∷ own))) ends ∙ ap (λ (k : Kinds). begun_by Starts (Ended (Begun number)) k) asked)))
    begun_kind kind number its own was none e ends (inr refused) =
        let at = ap (λ (x : KeeperState). x.step) (commit_begins kind own was e) ∙ refused.1 in
        absurd (not_begun refused.0 number (sym (quiet_idle its (BeginsCommit kind ∷ own) (CommitRefused refused.0) none at) ∙ ends))

    pub kind_begun : (kind : CommitKind) (number : Version) (its own : List KeeperEvent) (was : KeeperTold) → BeginNothing its → (state own).step ≡ Ended was → (state (its ++ BeginsCommit kind ∷ own)).step ≡ Ended (Begun number)
        → (told (its ++ BeginsCommit kind ∷ own)).begun ≡ Some kind
    kind_begun kind number its own was none e ends = begun_kind kind number its own was none e ends (commit_from (state own).is_broken (state own).rests (state own) kind refl refl)

    pub kind_stays : (its own : List KeeperEvent) (was : KeeperTold) → BeginNothing its → (state own).step ≡ Ended was → (told (its ++ BeginsTurn ∷ own)).begun ≡ (told own).begun
    unfolding keeper_happens
    kind_stays its own was none e =
        let begins : state (BeginsTurn ∷ own) ≡ turn_asked (state own) = run_by BeginsTurn own ∙ begun_so (state own) (turn_asked (state own)) was e in
        let turns : NotStarts (state (BeginsTurn ∷ own)).step = subst (λ (x : KeeperState). NotStarts x.step) (sym begins) (turn_from (state own).is_broken (state own) refl) in
        ap (λ (k : Kinds). k.begun)
        ((behind_others its (BeginsTurn ∷ own) none turns).0 ∙ (turned_told own ∙ ap (λ (step : Keeping). begun_by step (state (BeginsTurn ∷ own)).step (told own)) e))
