-- The commits that have finished are those of which callers were told, by their numbers and points.
use Rattle.std.proofs.Common.{◌≡◌, ◌⊎◌, inl, inr, ℕ, ◌∙◌, List, [], ◌∷◌, ◌++◌, length, refl, ap, sym, subst, Bool, true, false}
use Rattle.std.specs.Prelude.{Option, Some, None, if◌then◌else◌, slice_get}
use Rattle.fkv_base.specs.declared.shapes.Shape.{Shape}
use Rattle.fkv_plane.specs.declared.actions.Action.{Action}
use Rattle.fkv_plane.specs.declared.asks.Ask.{Ask}
use Rattle.fkv_plane.specs.declared.asks.Ask.TheVariants.{Put, Take, Done}
use Rattle.fkv_plane.specs.declared.places.Places.{Places}
use Rattle.fkv_plane.specs.Asked.{reply_to}
use Rattle.fkv_plane.specs.Plane.{action_at}
use Rattle.law_refine.specs.Below.fkv_commit.Commit.{Commit}
use Rattle.fkv_base.specs.declared.commits.CommitKind.{CommitKind}
use Rattle.law_refine.specs.Below.fkv_manifest.TheCommitting.{Committing}
use Rattle.law_refine.specs.Below.fkv_manifest.TheCommitting.TheVariants as committing
use Rattle.law_refine.specs.Below.fkv_manifest.TheGating.{Gating}
use Rattle.law_refine.specs.Below.fkv_manifest.TheGating.TheVariants as gate
use Rattle.law_refine.specs.Below.fkv_keeper.KeeperTold.{KeeperTold}
use Rattle.law_refine.specs.Below.fkv_keeper.KeeperTold.TheVariants.{Device, Turned}
use Rattle.law_refine.specs.Below.fkv_keeper.TheKeeping.{Keeping}
use Rattle.law_refine.specs.Below.fkv_keeper.TheKeeping.TheVariants.{Ended, Starts, Maintains, LoadsPhase, Enters, Copies, Seeks, Waits, Writes, Finishes, Sweeps}
use Rattle.law_refine.specs.Below.fkv_keeper.Keeping.{Finality, KeeperState, keeper_ask, keeper_next, keeping_ask}
use Rattle.law_refine.specs.Below.fkv_keeper.KeeperRun.{KeeperEvent, BeginsTurn, BeginsCommit, Replies, Gets, Calls, IsOpened, is_calling, is_in_hand, keeper_happens, keeper_run}
use Rattle.law_refine.proofs.Below.fkv_keeper.Shown.{run_number}
use Rattle.law_refine.specs.Below.fkv_session.Sitting.{Sitting}
use Rattle.law_refine.specs.Below.fkv_session.Sitting.TheVariants.{Idle}
use Rattle.law_refine.specs.Below.fkv_session.Sessions.{SessionState, is_busy}
use Rattle.law_refine.specs.Below.law_world.Runs.Added.{begun_by as begins_by, call_answered, call_begun, ended_by, keeper_told, session_answered, told_at, told_by}
use Rattle.law_refine.specs.Below.fkv_world.Opened.{IsOpenedWorld}
use Rattle.law_refine.specs.Below.fkv_world.OwnEvents.{keeper_events, keeper_got, keeper_part, keeper_slots, keeper_steps}
use Rattle.law_refine.specs.Below.fkv_world.Past.{Traced, TraceEvent, Called, CommitAsked, TurnAsked}
use Rattle.law_refine.specs.Below.fkv_world.Runs.{World, happens, read_by_keeper, run}
use Rattle.law_refine.specs.Below.fkv_world.World as world
use Rattle.law_refine.specs.Below.fkv_world.World.{Event, Now, near}
use Rattle.law_refine.proofs.Below.fkv_world.Shown.{is_over, keeper_runs, places_stay, shape_stays}
use Rattle.law_refine.proofs.Below.law_world.OfRuns.Added.{trace_so}
use Rattle.law_commit.specs.BegunCommits.{BegunCommit, begun_at_end, begun_at_gate, begun_at_writes, begun_by, commit_opened, commits_begun, life_begun, with_finished, with_opening, with_sealed}
use Rattle.law_commit.specs.HeldCommits.{AtEnd, HaveFinished, IsAsLast, IsInHand, OneIsOpen}
use Rattle.law_commit.specs.FinishedCommits.{ToldCommit, commits_finished, commits_told, told_of, with_told}
use Rattle.law_commit.proofs.BegunStands.{StandsAt, run_stands}
use Rattle.law_commit.proofs.InRest.{awake_at, come_awake, stays_awake}
use Rattle.law_commit.proofs.LifeBegun.{opening_finished}

-- a commit more where a turn ends that finishes a commit
abbrev pub with_commit : Keeping → Keeping → Finality → List ToldCommit → List ToldCommit
with_commit (Ended (Turned true full)) Finishes last before = told_of last ∷ before
with_commit after step last before = before

-- over a run, before these
unfoldable pub commits_made : Shape → Places → KeeperState → List KeeperEvent → List ToldCommit → List ToldCommit
commits_made shape p opening [] first = first
commits_made shape p opening (event ∷ before) first =
    with_commit (keeper_run shape p opening (event ∷ before)).step (keeper_run shape p opening before).step (keeper_run shape p opening (event ∷ before)).last (commits_made shape p opening before first)

-- what is written changes no commit that is finished
sealed_commits : (begun : List BegunCommit) → commits_finished (with_sealed begun) ≡ commits_finished begun
sealed_commits [] = refl
sealed_commits (c ∷ before) = refl

opening_commits : (s : KeeperState) (found : Option Commit) (begun : List BegunCommit) → commits_finished (with_opening s found begun) ≡ commits_finished begun
opening_commits s None begun = refl
opening_commits s (Some c) begun = refl

gate_commits : (s : KeeperState) (begun : List BegunCommit) (step : Gating) (done : Bool) → commits_finished (begun_at_gate s step done begun) ≡ commits_finished begun
gate_commits s begun gate.Opens done = opening_commits s s.commit begun
gate_commits s begun gate.SyncsOpen true = sealed_commits begun
gate_commits s begun gate.SyncsOpen false = refl
gate_commits s begun step done = refl

writes_commits : (s : KeeperState) (begun : List BegunCommit) (step : Committing) (done : Bool) → commits_finished (begun_at_writes s step done begun) ≡ commits_finished begun
writes_commits s begun committing.PutsSlot done = gate_commits s begun s.writes.gate.step done
writes_commits s begun step done = refl

-- where one is finished
head_of : (a b : BegunCommit) (rest other : List BegunCommit) → (a ∷ rest) ≡ (b ∷ other) → a ≡ b
head_of a b rest other same = cc

as_told : (c : BegunCommit) (last : Finality) → IsAsLast last c → ◌≡◌ {A = ToldCommit} (record { number = c.number; points = c.points }) (told_of last)
as_told c last is = let number = is.number in let points = is.points in rw number (rw points refl)

last_told : (c : BegunCommit) (older : List BegunCommit) (last : Finality) → c.is_finished ≡ true → HaveFinished (c ∷ older) last ⊎ OneIsOpen (c ∷ older) last → ◌≡◌ {A = ToldCommit} (record { number = c.number; points = c.points }) (told_of last)
last_told c older last done (inl all) = as_told c last (subst (IsAsLast last) (sym (head_of c all.newest older all.older all.its)) all.last)
last_told c older last done (inr one) =
    let same = head_of c one.newest older one.older one.its in
    let both : true ≡ false = sym done ∙ (ap (λ (x : BegunCommit). x.is_finished) same ∙ one.unfinished) in
    absurd (apart both)
  where
    apart : true ≡ false → ⊥
    apart both = cc

at_end_both : (begun : List BegunCommit) (a : KeeperState) (broken : Bool) → AtEnd begun a broken → HaveFinished begun a.last ⊎ OneIsOpen begun a.last
at_end_both begun a true its = its
at_end_both begun a false its = inl its

finish_commits : (begun : List BegunCommit) (s a : KeeperState) → IsInHand begun s true → AtEnd (with_finished begun) a a.is_broken → commits_finished (with_finished begun) ≡ told_of a.last ∷ commits_finished begun
finish_commits begun s a its after =
    let done : BegunCommit = record its.newest { is_finished = true } in
    let so : HaveFinished (done ∷ its.older) a.last ⊎ OneIsOpen (done ∷ its.older) a.last =
    subst (λ (x : List BegunCommit). HaveFinished (with_finished x) a.last ⊎ OneIsOpen (with_finished x) a.last) its.its (at_end_both (with_finished begun) a a.is_broken after) in
    let same = last_told done its.older a.last refl so in
    let list = its.its in
    let unfinished = its.unfinished in
    rw list (rw unfinished (ap (λ (n : ToldCommit). n ∷ commits_finished its.older) same))

end_commits : (begun : List BegunCommit) (s a : KeeperState) (after : Keeping) → a.step ≡ after → IsInHand begun s true → StandsAt (begun_at_end after begun) a after
    → commits_finished (begun_at_end after begun) ≡ with_commit after Finishes a.last (commits_finished begun)
end_commits begun s a (Ended (Turned true full)) e its stands = finish_commits begun s a its stands
end_commits begun s a after e its stands = refl

-- no other step adds one
abbrev NotFinishes : Keeping → Type 0
NotFinishes Finishes = ⊥
NotFinishes step = Unit {0}

not_more : (after step : Keeping) (last : Finality) (before : List ToldCommit) → NotFinishes step → with_commit after step last before ≡ before
not_more (Ended (Turned true full)) Finishes last before other = absurd other
not_more (Ended (Turned true full)) step last before other = refl
not_more after step last before other = refl

-- what is known where it finishes, before that and behind it
abbrev FinishesSo : List BegunCommit → KeeperState → KeeperState → Keeping → Keeping → Type 0
FinishesSo begun s a Finishes after = IsInHand begun s true × StandsAt (begun_at_end after begun) a after
FinishesSo begun s a step after = Unit {0}

event_commits : (begun : List BegunCommit) (s a : KeeperState) (step : Keeping) (event : KeeperEvent) (after : Keeping) → a.step ≡ after → FinishesSo begun s a step after
    → commits_finished (begun_by s step event after begun) ≡ with_commit after step a.last (commits_finished begun)
event_commits begun s a Finishes event after e so = end_commits begun s a after e so.0 so.1
event_commits begun s a Writes (Calls done bytes) after e so = writes_commits s begun s.writes.step done ∙ sym (not_more after Writes a.last (commits_finished begun) tt)
event_commits begun s a Writes BeginsTurn after e so = sym (not_more after Writes a.last (commits_finished begun) tt)
event_commits begun s a Writes (BeginsCommit kind) after e so = sym (not_more after Writes a.last (commits_finished begun) tt)
event_commits begun s a Writes (Replies reply granted) after e so = sym (not_more after Writes a.last (commits_finished begun) tt)
event_commits begun s a Writes (Gets action) after e so = sym (not_more after Writes a.last (commits_finished begun) tt)
event_commits begun s a (Ended told) event after e so = sym (not_more after (Ended told) a.last (commits_finished begun) tt)
event_commits begun s a Starts event after e so = sym (not_more after Starts a.last (commits_finished begun) tt)
event_commits begun s a Maintains event after e so = sym (not_more after Maintains a.last (commits_finished begun) tt)
event_commits begun s a LoadsPhase event after e so = sym (not_more after LoadsPhase a.last (commits_finished begun) tt)
event_commits begun s a Enters event after e so = sym (not_more after Enters a.last (commits_finished begun) tt)
event_commits begun s a Copies event after e so = sym (not_more after Copies a.last (commits_finished begun) tt)
event_commits begun s a Sweeps event after e so = sym (not_more after Sweeps a.last (commits_finished begun) tt)
event_commits begun s a Seeks event after e so = sym (not_more after Seeks a.last (commits_finished begun) tt)
event_commits begun s a Waits event after e so = sym (not_more after Waits a.last (commits_finished begun) tt)

-- it finishes where no writes rest
module _ (shape : Shape) (p : Places) (opening : KeeperState) (first : List BegunCommit) (opened : IsOpened opening) (all : HaveFinished first opening.last) where
  finishes_so : (event : KeeperEvent) (before : List KeeperEvent) (step : Keeping) → (keeper_run shape p opening before).step ≡ step
      → FinishesSo (commits_begun shape p opening first before) (keeper_run shape p opening before) (keeper_run shape p opening (event ∷ before)) step (keeper_run shape p opening (event ∷ before)).step
  unfolding keeper_run commits_begun
  finishes_so event before Finishes e =
      let s : KeeperState = keeper_run shape p opening before in
      let a : KeeperState = keeper_happens shape p s event in
      let begun : List BegunCommit = commits_begun shape p opening first before in
      let awake : s.rests ≡ false = awake_at shape p opening before Finishes opened e (λ may. may) in
      let still : a.rests ≡ false = stays_awake shape p s event awake (λ writes. apart (sym e ∙ writes)) in
      let after : StandsAt (begun_by s s.step event a.step begun) a a.step = subst (λ (x : Keeping). StandsAt (begun_by s s.step event a.step begun) a x) (come_awake a a.step still refl) (run_stands shape p opening first (event ∷ before) opened all) in (
        subst (λ (x : Keeping). StandsAt begun s x) (come_awake s Finishes awake e) (run_stands shape p opening first before opened all),
        subst (λ (x : Keeping). StandsAt (begun_by s x event a.step begun) a a.step) e after,
      )
    where
      apart : Finishes ≡ Writes → ⊥
      apart both = cc
  finishes_so event before step e = tt

-- over a run of the keeper
run_commits : (shape : Shape) (p : Places) (opening : KeeperState) (first : List BegunCommit) (events : List KeeperEvent) → IsOpened opening → HaveFinished first opening.last
    → commits_finished (commits_begun shape p opening first events) ≡ commits_made shape p opening events (commits_finished first)
unfolding commits_begun commits_made
run_commits shape p opening first [] opened all = refl
run_commits shape p opening first (event ∷ before) opened all =
    let a : KeeperState = keeper_run shape p opening (event ∷ before) in
    let s : KeeperState = keeper_run shape p opening before in
    event_commits (commits_begun shape p opening first before) s a s.step event a.step refl (finishes_so shape p opening first opened all event before s.step refl)
    ∙ ap (λ (commits : List ToldCommit). with_commit a.step s.step a.last commits) (run_commits shape p opening first before opened all)

-- ---- what callers see of it
told_more : List TraceEvent → List ToldCommit → List ToldCommit
told_more [] commits = commits
told_more (it ∷ before) commits = with_told it (told_more before commits)

told_so : (effects : ℕ) (its : List TraceEvent) (trace : List Traced) (first : List ToldCommit) → commits_told (told_at effects its ++ trace) first ≡ told_more its (commits_told trace first)
unfolding told_more
told_so effects [] trace first = refl
told_so effects (it ∷ before) trace first = ap (with_told it) (told_so effects before trace first)

told_on : (later before : List TraceEvent) (commits : List ToldCommit) → told_more (later ++ before) commits ≡ told_more later (told_more before commits)
unfolding told_more
told_on [] before commits = refl
told_on (it ∷ later) before commits = ap (with_told it) (told_on later before commits)

either_quiet : (b : Bool) (it : TraceEvent) (commits : List ToldCommit) → with_told it commits ≡ commits → told_more (if b then [] else it ∷ []) commits ≡ commits
unfolding told_more
either_quiet true it commits quiet = refl
either_quiet false it commits quiet = quiet

begun_quiet : (n : Now) (event : Event) (commits : List ToldCommit) → told_more (begins_by n event) commits ≡ commits
unfolding begins_by told_more
begun_quiet n (world.Calls at call) commits = its (slice_get n.sessions at)
  where
    its : (found : Option SessionState) → told_more (call_begun at call found) commits ≡ commits
    its None = refl
    its (Some s) = either_quiet (is_busy s.step) (Called at call) commits refl
begun_quiet n (world.Commits kind) commits = either_quiet (is_in_hand n.keeper.step) (CommitAsked kind) commits refl
begun_quiet n world.Turns commits = either_quiet (is_in_hand n.keeper.step) TurnAsked commits refl
begun_quiet n event commits = refl

session_quiet : (at : ℕ) (was : Bool) (after : Option SessionState) (commits : List ToldCommit) → told_more (session_answered at was after) commits ≡ commits
unfolding told_more
session_quiet at was None commits = refl
session_quiet at was (Some s) commits = its was s.step
  where
    its : (was : Bool) (step : Sitting) → told_more (call_answered at was step s.finished) commits ≡ commits
    its true (Idle answer) = refl
    its true step = refl
    its false step = refl

-- one event of the keeper's own
ends_so : (after step : Keeping) (last : Finality) (commits : List ToldCommit) → ((full : Bool) → after ≡ Ended (Turned true full) → step ≡ Finishes) → told_more (keeper_told true after last) commits ≡ with_commit after step last commits
unfolding told_more
ends_so (Ended (Turned true full)) step last commits finishes = let same = finishes full refl in rw same refl
ends_so after step last commits finishes = refl

calls_so : (shape : Shape) (p : Places) (opening : KeeperState) (before : List KeeperEvent) (event : KeeperEvent) (commits : List ToldCommit) → IsOpened opening → is_calling (keeper_run shape p opening before).step event ≡ true
    → told_more (keeper_told true (keeper_run shape p opening (event ∷ before)).step (keeper_run shape p opening (event ∷ before)).last) commits
    ≡ with_commit (keeper_run shape p opening (event ∷ before)).step (keeper_run shape p opening before).step (keeper_run shape p opening (event ∷ before)).last commits
calls_so shape p opening before event commits opened calling =
    ends_so (keeper_run shape p opening (event ∷ before)).step (keeper_run shape p opening before).step (keeper_run shape p opening (event ∷ before)).last commits (λ full ends. (run_number shape p opening before event full opened calling ends).finishes)

-- a call in hand is at no end
no_end : (after step : Keeping) (last : Finality) (commits : List ToldCommit) → is_in_hand after ≡ true → with_commit after step last commits ≡ commits
no_end (Ended told) step last commits busy = cc
no_end after step last commits busy = refl

not_told : (after : Keeping) (last : Finality) (commits : List ToldCommit) → is_in_hand after ≡ true → told_more (keeper_told true after last) commits ≡ commits
unfolding told_more
not_told (Ended told) last commits busy = cc
not_told after last commits busy = refl

none_told : (after : Keeping) (last : Finality) (commits : List ToldCommit) → told_more (keeper_told false after last) commits ≡ commits
unfolding told_more
none_told after last commits = refl

abbrev IsAsking : Ask KeeperTold → Type 0
IsAsking (Done told) = ⊥
IsAsking ask = Unit {0}

asks_in_hand : (shape : Shape) (p : Places) (s : KeeperState) (step : Keeping) → IsAsking (keeping_ask shape p s step) → is_in_hand step ≡ true
unfolding keeping_ask
asks_in_hand shape p s (Ended told) asking = absurd asking
asks_in_hand shape p s step asking = refl

going : (step : Keeping) (event : KeeperEvent) → is_in_hand step ≡ true → is_calling step event ≡ true
going (Ended told) event busy = cc
going step event busy = refl

idle_not : (step : Keeping) → is_in_hand step ≡ false → NotFinishes step
idle_not (Ended told) idle = tt
idle_not step idle = cc

-- more events of its own, behind these
abbrev AreTold : Shape → Places → KeeperState → List KeeperEvent → Bool → List KeeperEvent → List ToldCommit → Type 0
AreTold shape p opening own busy more first =
    told_more (keeper_told busy (keeper_run shape p opening (more ++ own)).step (keeper_run shape p opening (more ++ own)).last) (commits_made shape p opening own first) ≡ commits_made shape p opening (more ++ own) first

single : (shape : Shape) (p : Places) (opening : KeeperState) (own : List KeeperEvent) (event : KeeperEvent) (first : List ToldCommit) (busy : Bool) → IsOpened opening → is_in_hand (keeper_run shape p opening own).step ≡ busy
    → AreTold shape p opening own busy (event ∷ []) first
unfolding commits_made
single shape p opening own event first true opened e = calls_so shape p opening own event (commits_made shape p opening own first) opened (going (keeper_run shape p opening own).step event e)
single shape p opening own event first false opened e =
    none_told (keeper_run shape p opening (event ∷ own)).step (keeper_run shape p opening (event ∷ own)).last (commits_made shape p opening own first)
    ∙ sym (not_more (keeper_run shape p opening (event ∷ own)).step (keeper_run shape p opening own).step (keeper_run shape p opening (event ∷ own)).last (commits_made shape p opening own first) (idle_not (keeper_run shape p opening own).step e))

nothing : (shape : Shape) (p : Places) (opening : KeeperState) (own : List KeeperEvent) (first : List ToldCommit) (busy : Bool) → is_in_hand (keeper_run shape p opening own).step ≡ busy → AreTold shape p opening own busy [] first
nothing shape p opening own first true e = not_told (keeper_run shape p opening own).step (keeper_run shape p opening own).last (commits_made shape p opening own first) e
nothing shape p opening own first false e = none_told (keeper_run shape p opening own).step (keeper_run shape p opening own).last (commits_made shape p opening own first)

double : (shape : Shape) (p : Places) (opening : KeeperState) (own : List KeeperEvent) (event later : KeeperEvent) (first : List ToldCommit) → IsOpened opening → is_in_hand (keeper_run shape p opening (event ∷ own)).step ≡ true
    → AreTold shape p opening own true (later ∷ event ∷ []) first
unfolding commits_made
double shape p opening own event later first opened e =
    let s : KeeperState = keeper_run shape p opening (event ∷ own) in
    let a : KeeperState = keeper_run shape p opening (later ∷ event ∷ own) in
    calls_so shape p opening (event ∷ own) later (commits_made shape p opening own first) opened (going s.step later e)
    ∙ ap (λ (commits : List ToldCommit). with_commit a.step s.step a.last commits) (sym (no_end s.step (keeper_run shape p opening own).step s.last (commits_made shape p opening own first) e))

in_hand_by : (shape : Shape) (p : Places) (s : KeeperState) (ask : Ask KeeperTold) → keeper_ask shape p s ≡ ask → IsAsking ask → is_in_hand s.step ≡ true
in_hand_by shape p s ask asks asking = asks_in_hand shape p s s.step (subst IsAsking (sym asks) asking)

got_behind : (shape : Shape) (p : Places) (opening : KeeperState) (own : List KeeperEvent) (event : KeeperEvent) (found : Option Action) (first : List ToldCommit) → IsOpened opening → is_in_hand (keeper_run shape p opening own).step ≡ true
    → is_in_hand (keeper_run shape p opening (event ∷ own)).step ≡ true → AreTold shape p opening own true (keeper_got found ++ event ∷ []) first
got_behind shape p opening own event None first opened was e = single shape p opening own event first true opened was
got_behind shape p opening own event (Some action) first opened was e = double shape p opening own event (Gets action) first opened e

slots : (shape : Shape) (p : Places) (opening : KeeperState) (own : List KeeperEvent) (event : KeeperEvent) (actions : List (Option Action)) (granted : Bool) (ask : Ask KeeperTold) (first : List ToldCommit) → IsOpened opening
    → is_in_hand (keeper_run shape p opening own).step ≡ true → keeper_ask shape p (keeper_run shape p opening (event ∷ own)) ≡ ask → AreTold shape p opening own true (keeper_slots actions granted ask ++ event ∷ []) first
unfolding keeper_slots
slots shape p opening own event actions granted (Put slot action) first opened was asks = double shape p opening own event (Replies 0 granted) first opened (in_hand_by shape p _ (Put slot action) asks tt)
slots shape p opening own event actions granted (Take slot) first opened was asks =
    got_behind shape p opening own event (action_at actions slot) first opened was (in_hand_by shape p (keeper_run shape p opening (event ∷ own)) (Take slot) asks tt)
slots shape p opening own event actions granted ask first opened was asks = single shape p opening own event first true opened was

got : (shape : Shape) (p : Places) (opening : KeeperState) (own : List KeeperEvent) (found : Option Action) (first : List ToldCommit) → IsOpened opening → AreTold shape p opening own (is_in_hand (keeper_run shape p opening own).step) (keeper_got found) first
got shape p opening own None first opened = nothing shape p opening own first (is_in_hand (keeper_run shape p opening own).step) refl
got shape p opening own (Some action) first opened = single shape p opening own (Gets action) first (is_in_hand (keeper_run shape p opening own).step) opened refl

replied : (shape : Shape) (p : Places) (opening : KeeperState) (own : List KeeperEvent) (reply : ℕ) (granted : Bool) → keeper_run shape p opening (Replies reply granted ∷ own) ≡ keeper_next shape p (keeper_run shape p opening own) reply granted
unfolding keeper_run keeper_happens
replied shape p opening own reply granted = refl

words : (shape : Shape) (p : Places) (opening : KeeperState) (own : List KeeperEvent) (actions : List (Option Action)) (reply : ℕ) (granted : Bool) (first : List ToldCommit) → IsOpened opening → is_in_hand (keeper_run shape p opening own).step ≡ true
    → AreTold shape p opening own (is_in_hand (keeper_run shape p opening own).step) (keeper_slots actions granted (keeper_ask shape p (keeper_next shape p (keeper_run shape p opening own) reply granted)) ++ Replies reply granted ∷ []) first
words shape p opening own actions reply granted first opened was =
    let asked : Ask KeeperTold = keeper_ask shape p (keeper_next shape p (keeper_run shape p opening own) reply granted) in
    subst (λ (b : Bool). AreTold shape p opening own b (keeper_slots actions granted asked ++ Replies reply granted ∷ []) first) (sym was)
    (slots shape p opening own (Replies reply granted) actions granted asked first opened was (ap (keeper_ask shape p) (replied shape p opening own reply granted)))

steps : (shape : Shape) (p : Places) (opening : KeeperState) (own : List KeeperEvent) (granted done : Bool) (read cells : List ℕ) (actions : List (Option Action)) (ask : Ask KeeperTold) (first : List ToldCommit) → IsOpened opening
    → keeper_ask shape p (keeper_run shape p opening own) ≡ ask
    → AreTold shape p opening own (is_in_hand (keeper_run shape p opening own).step) (keeper_steps shape p granted done read (record { machine = keeper_run shape p opening own; words = cells; actions = actions }) ask) first
unfolding keeper_steps keeper_slots
steps shape p opening own granted done read cells actions (Done Device) first opened asks = single shape p opening own (Calls done read) first (is_in_hand (keeper_run shape p opening own).step) opened refl
steps shape p opening own granted done read cells actions (Done told) first opened asks = nothing shape p opening own first (is_in_hand (keeper_run shape p opening own).step) refl
steps shape p opening own granted done read cells actions (Put slot action) first opened asks = single shape p opening own (Replies 0 granted) first (is_in_hand (keeper_run shape p opening own).step) opened refl
steps shape p opening own granted done read cells actions (Take slot) first opened asks = got shape p opening own (action_at actions slot) first opened
steps shape p opening own granted done read cells actions ask first opened asks = words shape p opening own actions (reply_to cells ask) granted first opened (in_hand_by shape p (keeper_run shape p opening own) ask asks tt)

-- a call that begins
begun_told : (shape : Shape) (p : Places) (opening : KeeperState) (own : List KeeperEvent) (event : KeeperEvent) (first : List ToldCommit) (busy : Bool) → IsOpened opening → is_in_hand (keeper_run shape p opening own).step ≡ busy
    → (is_in_hand (keeper_run shape p opening own).step ≡ true → keeper_run shape p opening (event ∷ own) ≡ keeper_run shape p opening own)
    → (is_in_hand (keeper_run shape p opening own).step ≡ false → is_calling (keeper_run shape p opening own).step event ≡ true)
    → told_more (keeper_told (if busy then false else true) (keeper_run shape p opening (event ∷ own)).step (keeper_run shape p opening (event ∷ own)).last) (commits_made shape p opening own first) ≡ commits_made shape p opening (event ∷ own) first
unfolding commits_made
begun_told shape p opening own event first true opened e stays calling =
    let a : KeeperState = keeper_run shape p opening (event ∷ own) in
    none_told a.step a.last (commits_made shape p opening own first)
    ∙ sym (no_end a.step (keeper_run shape p opening own).step a.last (commits_made shape p opening own first) (ap (λ (x : KeeperState). is_in_hand x.step) (stays e) ∙ e))
begun_told shape p opening own event first false opened e stays calling = calls_so shape p opening own event (commits_made shape p opening own first) opened (calling e)

commit_stays : (shape : Shape) (p : Places) (opening : KeeperState) (own : List KeeperEvent) (kind : CommitKind) → is_in_hand (keeper_run shape p opening own).step ≡ true → keeper_run shape p opening (BeginsCommit kind ∷ own) ≡ keeper_run shape p opening own
unfolding keeper_run keeper_happens
commit_stays shape p opening own kind e = rw e refl

turn_stays : (shape : Shape) (p : Places) (opening : KeeperState) (own : List KeeperEvent) → is_in_hand (keeper_run shape p opening own).step ≡ true → keeper_run shape p opening (BeginsTurn ∷ own) ≡ keeper_run shape p opening own
unfolding keeper_run keeper_happens
turn_stays shape p opening own e = rw e refl

commit_calling : (step : Keeping) (kind : CommitKind) → is_in_hand step ≡ false → is_calling step (BeginsCommit kind) ≡ true
commit_calling (Ended told) kind idle = refl
commit_calling step kind idle = cc

turn_calling : (step : Keeping) → is_in_hand step ≡ false → is_calling step BeginsTurn ≡ true
turn_calling (Ended told) idle = refl
turn_calling step idle = cc

-- what an event of the world tells at its end
ended : (shape : Shape) (p : Places) (opening : KeeperState) (own : List KeeperEvent) (n after : Now) (read : List ℕ) (event : Event) (first : List ToldCommit) → IsOpened opening → n.keeper ≡ keeper_run shape p opening own
    → after.keeper ≡ keeper_run shape p opening (keeper_part shape p read (near n n.keeper) event ++ own)
    → told_more (ended_by n after event) (commits_made shape p opening own first) ≡ commits_made shape p opening (keeper_part shape p read (near n n.keeper) event ++ own) first
unfolding ended_by keeper_part told_more
ended shape p opening own n after read (world.Calls at call) first opened was is = session_quiet at _ _ _
ended shape p opening own n after read (world.Moves at) first opened was is = session_quiet at _ _ _
ended shape p opening own n after read (world.Commits kind) first opened was is =
    let s : KeeperState = keeper_run shape p opening own in
    rw is (rw was (begun_told shape p opening own (BeginsCommit kind) first (is_in_hand s.step) opened refl (commit_stays shape p opening own kind) (commit_calling s.step kind)))
ended shape p opening own n after read world.Turns first opened was is =
    let s : KeeperState = keeper_run shape p opening own in
    rw is (rw was (begun_told shape p opening own BeginsTurn first (is_in_hand s.step) opened refl (turn_stays shape p opening own) (turn_calling s.step)))
ended shape p opening own n after read (world.KeeperMoves granted done) first opened was is =
    rw is (rw was (steps shape p opening own granted done read n.words n.actions (keeper_ask shape p (keeper_run shape p opening own)) first opened refl))
ended shape p opening own n after read world.Crashes first opened was is = refl

event_told : (shape : Shape) (p : Places) (opening : KeeperState) (own : List KeeperEvent) (w : World) (event : Event) (first : List ToldCommit) (crashed : Bool) → w.now.crashed ≡ crashed → IsOpened opening → w.now.keeper ≡ keeper_run shape p opening own
    → (happens w event).now.keeper ≡ keeper_run shape p opening ((if crashed then [] else keeper_part shape p (read_by_keeper w) (near w.now w.now.keeper) event) ++ own)
    → commits_told w.past.trace first ≡ commits_made shape p opening own first
    → commits_told (happens w event).past.trace first ≡ commits_made shape p opening ((if crashed then [] else keeper_part shape p (read_by_keeper w) (near w.now w.now.keeper) event) ++ own) first
event_told shape p opening own w event first true e opened was is so = ap (λ (x : World). commits_told x.past.trace first) (is_over w event e) ∙ so
event_told shape p opening own w event first false e opened was is so =
    let after : World = happens w event in
    ap (λ (trace : List Traced). commits_told trace first) (trace_so w event)
    ∙ (told_so (length after.past.history) (told_by w.now after.now event) w.past.trace first
    ∙ (ap (λ (b : Bool). told_more (if b then [] else ended_by w.now after.now event ++ begins_by w.now event) (commits_told w.past.trace first)) e
    ∙ (told_on (ended_by w.now after.now event) (begins_by w.now event) (commits_told w.past.trace first)
    ∙ (ap (told_more (ended_by w.now after.now event)) (begun_quiet w.now event (commits_told w.past.trace first) ∙ so)
    ∙ ended shape p opening own w.now after.now (read_by_keeper w) event first opened was is))))

-- over a life
run_told : (opening : World) (events : List Event) (first : List ToldCommit) → IsOpenedWorld opening
    → commits_told (run opening events).past.trace first ≡ commits_made opening.now.shape opening.now.places opening.now.keeper (keeper_events opening events) first
unfolding run keeper_events commits_made
run_told opening [] first opened = ap (λ (trace : List Traced). commits_told trace first) opened.no_trace
run_told opening (event ∷ before) first opened =
    subst (λ (x : Shape). commits_told (happens (run opening before) event).past.trace first ≡ commits_made opening.now.shape opening.now.places opening.now.keeper (part x (run opening before).now.places ++ keeper_events opening before) first) (sym (shape_stays opening before))
    (subst (λ (x : Places). commits_told (happens (run opening before) event).past.trace first ≡ commits_made opening.now.shape opening.now.places opening.now.keeper (part opening.now.shape x ++ keeper_events opening before) first) (sym (places_stay opening before))
    (event_told opening.now.shape opening.now.places opening.now.keeper (keeper_events opening before) (run opening before) event first (run opening before).now.crashed refl opened.keeper (keeper_runs opening before) ends (run_told opening before first opened)))
  where
    part : Shape → Places → List KeeperEvent
    part shape p = if (run opening before).now.crashed then [] else keeper_part shape p (read_by_keeper (run opening before)) (near (run opening before).now (run opening before).now.keeper) event

    ends : (happens (run opening before) event).now.keeper ≡ keeper_run opening.now.shape opening.now.places opening.now.keeper (part opening.now.shape opening.now.places ++ keeper_events opening before)
    ends =
        keeper_runs opening (event ∷ before)
        ∙ (ap (λ (x : Shape). keeper_run opening.now.shape opening.now.places opening.now.keeper (part x (run opening before).now.places ++ keeper_events opening before)) (shape_stays opening before)
        ∙ ap (λ (x : Places). keeper_run opening.now.shape opening.now.places opening.now.keeper (part opening.now.shape x ++ keeper_events opening before)) (places_stay opening before))

pub life_finished : (opening : World) (events : List Event) → IsOpenedWorld opening → commits_finished (life_begun opening events) ≡ commits_told (run opening events).past.trace (told_of opening.now.keeper.last ∷ [])
life_finished opening events opened =
    run_commits opening.now.shape opening.now.places opening.now.keeper (commit_opened opening.now opening.past.opened ∷ []) (keeper_events opening events) opened.keeper (opening_finished opening)
    ∙ sym (run_told opening events (told_of opening.now.keeper.last ∷ []) opened)
