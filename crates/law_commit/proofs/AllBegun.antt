-- What holds of each commit and its points as its gate is opened, and stays so, holds of each that has begun in a life.
use Rattle.std.proofs.Common.{◌≡◌, inl, inr, ℕ, List, [], ◌∷◌, ◌++◌, refl, subst, Bool, true, false}
use Rattle.std.specs.Prelude.{⊤, if◌then◌else◌, Option, Some, None}
use Rattle.fkv_base.specs.declared.numbers.Serial.{Serial}
use Rattle.fkv_base.specs.declared.numbers.Version.{Version}
use Rattle.fkv_base.specs.declared.shapes.Shape.{Shape}
use Rattle.fkv_plane.specs.declared.actions.Action.{Action}
use Rattle.fkv_plane.specs.declared.asks.Ask.{Ask}
use Rattle.fkv_plane.specs.declared.asks.Ask.TheVariants.{Load, Store, Swap, Cas, Add, Max, Put, Take, Done}
use Rattle.fkv_plane.specs.declared.places.Places.{Places}
use Rattle.fkv_plane.specs.Asked.{reply_to}
use Rattle.fkv_plane.specs.Plane.{action_at}
use Rattle.law_refine.specs.Below.fkv_commit.Commit.{Commit}
use Rattle.law_refine.specs.Below.fkv_manifest.TheCommitting.{Committing}
use Rattle.law_refine.specs.Below.fkv_manifest.TheCommitting.TheVariants.{PutsSlot}
use Rattle.law_refine.specs.Below.fkv_manifest.TheGating.{Gating}
use Rattle.law_refine.specs.Below.fkv_manifest.TheGating.TheVariants.{Opens, SyncsOpen}
use Rattle.law_refine.specs.Below.fkv_keeper.KeeperTold.{KeeperTold}
use Rattle.law_refine.specs.Below.fkv_keeper.KeeperTold.TheVariants.{Device, Turned}
use Rattle.law_refine.specs.Below.fkv_keeper.TheKeeping.{Keeping}
use Rattle.law_refine.specs.Below.fkv_keeper.TheKeeping.TheVariants.{Ended, Writes, Finishes}
use Rattle.law_refine.specs.Below.fkv_keeper.Keeping.{KeeperState, keeper_ask, keeper_next}
use Rattle.law_refine.specs.Below.fkv_keeper.KeeperRun.{BeginsCommit, BeginsTurn, Calls, KeeperEvent, Replies, keeper_run}
use Rattle.law_refine.specs.Below.fkv_world.Moves.{Near}
use Rattle.law_refine.specs.Below.fkv_world.OwnEvents.{keeper_events, keeper_got, keeper_part, keeper_part_of, keeper_slots, keeper_steps}
use Rattle.law_refine.specs.Below.fkv_world.Runs.{World, read_by_keeper, run}
use Rattle.law_refine.specs.Below.fkv_world.World as world
use Rattle.law_refine.specs.Below.fkv_world.World.{Event, Commits, Crashes, KeeperMoves, Moves, Turns, near}
use Rattle.law_log.specs.Trace.{IsIn}
use Rattle.law_refine.proofs.Below.law_world.OfKeeper.OwnRun.{to_keeper}
use Rattle.law_commit.specs.CommitParts.{CommitParts, parts_opening}
use Rattle.law_commit.specs.BegunCommits.{BegunCommit, begun_at_end, begun_at_gate, begun_at_writes, begun_by, commit_opened, commits_begun, life_begun, with_finished, with_opening, with_sealed}
use Rattle.law_commit.specs.Decided.Ended.{Span, span_in, span_of, span_opened}

-- ---- of the number, the parts and the points of each that has begun
abbrev pub AllParts : (Version → CommitParts → List Serial → Type 0) → List BegunCommit → Type 0
AllParts P [] = ⊤
AllParts P (c ∷ before) = P c.number c.parts c.points × AllParts P before

pub weaker_parts : (P Q : Version → CommitParts → List Serial → Type 0) (begun : List BegunCommit) → ((number : Version) (x : CommitParts) (points : List Serial) → P number x points → Q number x points) → AllParts P begun → AllParts Q begun
weaker_parts P Q [] on all = tt
weaker_parts P Q (c ∷ before) on all = (on c.number c.parts c.points all.0, weaker_parts P Q before on all.1)

pub parts_of : (P : Version → CommitParts → List Serial → Type 0) (c : BegunCommit) (begun : List BegunCommit) → IsIn c begun → AllParts P begun → P c.number c.parts c.points
parts_of P c [] there all = absurd there
parts_of P c (x ∷ before) (inl same) all = subst (λ (y : BegunCommit). P y.number y.parts y.points) same all.0
parts_of P c (x ∷ before) (inr there) all = parts_of P c before there all.1

module _ (P : Version → CommitParts → List Serial → Type 0) where
  -- so it is of the commit that is written
  abbrev pub PartsWritten : KeeperState → Type 0
  PartsWritten s = s.step ≡ Writes → (c : Commit) → s.commit ≡ Some c → P c.number (parts_opening s c) s.seek.points

  sealed_all : (begun : List BegunCommit) → AllParts P begun → AllParts P (with_sealed begun)
  sealed_all [] all = tt
  sealed_all (c ∷ before) all = all

  finished_all : (begun : List BegunCommit) → AllParts P begun → AllParts P (with_finished begun)
  finished_all [] all = tt
  finished_all (c ∷ before) all = all

  opening_all : (s : KeeperState) (found : Option Commit) (before : List BegunCommit) → ((c : Commit) → found ≡ Some c → P c.number (parts_opening s c) s.seek.points) → AllParts P before → AllParts P (with_opening s found before)
  opening_all s None before new all = all
  opening_all s (Some c) before new all = (new c refl, all)

  gate_all : (s : KeeperState) (step : Gating) (done : Bool) (before : List BegunCommit) → ((c : Commit) → s.commit ≡ Some c → P c.number (parts_opening s c) s.seek.points) → AllParts P before → AllParts P (begun_at_gate s step done before)
  gate_all s Opens done before new all = opening_all s s.commit before new all
  gate_all s SyncsOpen true before new all = sealed_all before all
  gate_all s step done before new all = all

  writes_all : (s : KeeperState) (step : Committing) (done : Bool) (before : List BegunCommit) → ((c : Commit) → s.commit ≡ Some c → P c.number (parts_opening s c) s.seek.points) → AllParts P before → AllParts P (begun_at_writes s step done before)
  writes_all s PutsSlot done before new all = gate_all s s.writes.gate.step done before new all
  writes_all s step done before new all = all

  end_all : (after : Keeping) (before : List BegunCommit) → AllParts P before → AllParts P (begun_at_end after before)
  end_all (Ended (Turned true full)) before all = finished_all before all
  end_all after before all = all

  called_all : (s : KeeperState) (step : Keeping) (done : Bool) (bytes : List ℕ) (after : Keeping) (before : List BegunCommit) → (step ≡ Writes → (c : Commit) → s.commit ≡ Some c → P c.number (parts_opening s c) s.seek.points) → AllParts P before
      → AllParts P (begun_by s step (Calls done bytes) after before)
  called_all s Writes done bytes after before new all = writes_all s s.writes.step done before (new refl) all
  called_all s Finishes done bytes after before new all = end_all after before all
  called_all s step done bytes after before new all = all

  -- another event begins none
  abbrev IsNoCall : KeeperEvent → Type 0
  IsNoCall (Calls done bytes) = ⊥
  IsNoCall event = ⊤

  other_all : (s : KeeperState) (step : Keeping) (event : KeeperEvent) (after : Keeping) (before : List BegunCommit) → IsNoCall event → AllParts P before → AllParts P (begun_by s step event after before)
  other_all s Finishes event after before none all = end_all after before all
  other_all s Writes (Calls done bytes) after before none all = absurd none
  other_all s step event after before none all = all

  abbrev HasNoCall : List KeeperEvent → Type 0
  HasNoCall [] = ⊤
  HasNoCall (event ∷ before) = IsNoCall event × HasNoCall before

  module _ (shape : Shape) (p : Places) (opening : KeeperState) (first : List BegunCommit) where
    others_all : (later own : List KeeperEvent) → HasNoCall later → AllParts P (commits_begun shape p opening first own) → AllParts P (commits_begun shape p opening first (later ++ own))
    unfolding commits_begun
    others_all [] own none all = all
    others_all (event ∷ later) own none all =
        other_all (keeper_run shape p opening (later ++ own)) (keeper_run shape p opening (later ++ own)).step event (keeper_run shape p opening (event ∷ later ++ own)).step (commits_begun shape p opening first (later ++ own)) none.0
        (others_all later own none.1 all)

    call_all : (done : Bool) (bytes : List ℕ) (own : List KeeperEvent) → PartsWritten (keeper_run shape p opening own) → AllParts P (commits_begun shape p opening first own)
        → AllParts P (commits_begun shape p opening first (Calls done bytes ∷ own))
    unfolding commits_begun
    call_all done bytes own new all =
        called_all (keeper_run shape p opening own) (keeper_run shape p opening own).step done bytes (keeper_run shape p opening (Calls done bytes ∷ own)).step (commits_begun shape p opening first own) new all

  -- ---- the keeper's part in an event is a call of the device, or has none
  got_none : (found : Option Action) → HasNoCall (keeper_got found)
  got_none None = tt
  got_none (Some action) = (tt, tt)

  slots_none : (actions : List (Option Action)) (granted : Bool) (ask : Ask KeeperTold) → HasNoCall (keeper_slots actions granted ask)
  unfolding keeper_slots
  slots_none actions granted (Put slot action) = (tt, tt)
  slots_none actions granted (Take slot) = got_none (action_at actions slot)
  slots_none actions granted ask = tt

  behind_none : (later : List KeeperEvent) (reply : ℕ) (granted : Bool) → HasNoCall later → HasNoCall (later ++ Replies reply granted ∷ [])
  behind_none [] reply granted none = (tt, tt)
  behind_none (event ∷ later) reply granted none = (none.0, behind_none later reply granted none.1)

  module _ (G : List KeeperEvent → Type 0) (shape : Shape) (p : Places) (granted done : Bool) (read : List ℕ) (n : Near KeeperState) (called : G (Calls done read ∷ [])) (other : (part : List KeeperEvent) → HasNoCall part → G part) where
    word_steps : (ask : Ask KeeperTold) → G (keeper_slots n.actions granted (keeper_ask shape p (keeper_next shape p n.machine (reply_to n.words ask) granted)) ++ Replies (reply_to n.words ask) granted ∷ [])
    word_steps ask =
        let asks = keeper_ask shape p (keeper_next shape p n.machine (reply_to n.words ask) granted) in
        other (keeper_slots n.actions granted asks ++ Replies (reply_to n.words ask) granted ∷ []) (behind_none (keeper_slots n.actions granted asks) (reply_to n.words ask) granted (slots_none n.actions granted asks))

    by_steps : (ask : Ask KeeperTold) → G (keeper_steps shape p granted done read n ask)
    unfolding keeper_steps
    by_steps (Done Device) = called
    by_steps (Done its) = other [] tt
    by_steps (Put slot action) = other (keeper_slots n.actions granted (Put slot action)) (slots_none n.actions granted (Put slot action))
    by_steps (Take slot) = other (keeper_slots n.actions granted (Take slot)) (slots_none n.actions granted (Take slot))
    by_steps (Load place) = word_steps (Load place)
    by_steps (Store place new) = word_steps (Store place new)
    by_steps (Swap place new) = word_steps (Swap place new)
    by_steps (Cas place old new) = word_steps (Cas place old new)
    by_steps (Add place count) = word_steps (Add place count)
    by_steps (Max place count) = word_steps (Max place count)

  by_part : (G : List KeeperEvent → Type 0) (shape : Shape) (p : Places) (read : List ℕ) (n : Near KeeperState) (event : Event) → ((done : Bool) (bytes : List ℕ) → G (Calls done bytes ∷ [])) → ((part : List KeeperEvent) → HasNoCall part → G part)
      → G (keeper_part shape p read n event)
  unfolding keeper_part
  by_part G shape p read n (Commits kind) called other = other (BeginsCommit kind ∷ []) (tt, tt)
  by_part G shape p read n Turns called other = other (BeginsTurn ∷ []) (tt, tt)
  by_part G shape p read n (KeeperMoves granted done) called other = by_steps G shape p granted done read n (called done read) other (keeper_ask shape p n.machine)
  by_part G shape p read n (world.Calls number call) called other = other [] tt
  by_part G shape p read n (Moves number) called other = other [] tt
  by_part G shape p read n Crashes called other = other [] tt

  by_event : (G : List KeeperEvent → Type 0) (w : World) (event : Event) → ((done : Bool) (bytes : List ℕ) → G (Calls done bytes ∷ [])) → ((part : List KeeperEvent) → HasNoCall part → G part) → G (keeper_part_of w event)
  by_event G w event called other = by_crash w.now.crashed
    where
      by_crash : (c : Bool) → G (if c then [] else keeper_part w.now.shape w.now.places (read_by_keeper w) (near w.now w.now.keeper) event)
      by_crash true = other [] tt
      by_crash false = by_part G w.now.shape w.now.places (read_by_keeper w) (near w.now w.now.keeper) event called other

  -- ---- an event of a life
  pub event_parts : (opening : World) (before : List Event) (event : Event) → PartsWritten (run opening before).now.keeper → AllParts P (life_begun opening before) → AllParts P (life_begun opening (event ∷ before))
  unfolding keeper_events commits_begun
  event_parts opening before event written all =
      let first : List BegunCommit = commit_opened opening.now opening.past.opened ∷ [] in
      let own : List KeeperEvent = keeper_events opening before in
      let now = to_keeper (λ (s : KeeperState). PartsWritten s) opening before written in
      by_event (λ (part : List KeeperEvent). AllParts P (commits_begun opening.now.shape opening.now.places opening.now.keeper first (part ++ own))) (run opening before) event
      (λ done bytes. call_all opening.now.shape opening.now.places opening.now.keeper first done bytes own now all)
      (λ part none. others_all opening.now.shape opening.now.places opening.now.keeper first part own none all)

  -- as it begins the opening's has begun
  pub opened_parts : (opening : World) → (let c = commit_opened opening.now opening.past.opened in P c.number c.parts c.points) → AllParts P (life_begun opening [])
  unfolding keeper_events commits_begun
  opened_parts opening its = (its, tt)

-- ---- of what stays of it from its end on
abbrev OfSpan : (Span → List Serial → Type 0) → Version → CommitParts → List Serial → Type 0
OfSpan P number x points = P (record { number = number; kind = x.kind; begin = x.begin; first = x.first; end = x.end; triples = x.triples }) points

abbrev pub AllBegun : (Span → List Serial → Type 0) → List BegunCommit → Type 0
AllBegun P begun = AllParts (OfSpan P) begun

pub weaker : (P Q : Span → List Serial → Type 0) (begun : List BegunCommit) → ((x : Span) (points : List Serial) → P x points → Q x points) → AllBegun P begun → AllBegun Q begun
weaker P Q begun on all = weaker_parts (OfSpan P) (OfSpan Q) begun (λ number x points its. on (record { number = number; kind = x.kind; begin = x.begin; first = x.first; end = x.end; triples = x.triples }) points its) all

pub one_of : (P : Span → List Serial → Type 0) (c : BegunCommit) (begun : List BegunCommit) → IsIn c begun → AllBegun P begun → P (span_of c) c.points
one_of P c begun there all = parts_of (OfSpan P) c begun there all

abbrev pub IfWritten : (Span → List Serial → Type 0) → KeeperState → Type 0
IfWritten P s = s.step ≡ Writes → (c : Commit) → s.commit ≡ Some c → P (span_in c c.end s.writes.triples) s.seek.points

pub event_begun : (P : Span → List Serial → Type 0) (opening : World) (before : List Event) (event : Event) → IfWritten P (run opening before).now.keeper → AllBegun P (life_begun opening before) → AllBegun P (life_begun opening (event ∷ before))
event_begun P opening before event written all = event_parts (OfSpan P) opening before event (λ at c is. written at c is) all

pub opened_begun : (P : Span → List Serial → Type 0) (opening : World) → P (span_opened opening) (commit_opened opening.now opening.past.opened).points → AllBegun P (life_begun opening [])
opened_begun P opening its = opened_parts (OfSpan P) opening its
