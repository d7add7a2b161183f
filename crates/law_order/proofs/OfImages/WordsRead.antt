-- What the keeper's loads are told by an event of a life: the words as they stood before it.
use Rattle.std.proofs.Common.{◌≡◌, ℕ, ◌∙◌, refl, sym, ap, subst, Bool, true, false, List, [], ◌∷◌, ◌++◌}
use Rattle.std.specs.Prelude.{⊤, if◌then◌else◌, Option, Some, None}
use Rattle.fkv_base.specs.declared.shapes.Shape.{Shape}
use Rattle.law_commit.specs.Below.fkv_keeper.KeeperTold.{KeeperTold}
use Rattle.law_commit.specs.Below.fkv_keeper.KeeperTold.TheVariants.{Device}
use Rattle.law_commit.specs.Below.fkv_keeper.Keeping.{KeeperState, keeper_ask, keeper_next}
use Rattle.law_commit.specs.Below.fkv_keeper.KeeperRun.{KeeperEvent, Replies, keeper_happens, keeper_run}
use Rattle.fkv_plane.specs.declared.actions.Action.{Action}
use Rattle.fkv_plane.specs.declared.asks.Ask.{Ask}
use Rattle.fkv_plane.specs.declared.asks.Ask.TheVariants.{Load, Store, Swap, Cas, Add, Max, Put, Take, Done}
use Rattle.fkv_plane.specs.declared.places.Places.{Places}
use Rattle.fkv_plane.specs.Asked.{reply_to, word_at}
use Rattle.fkv_plane.specs.Plane.{action_at}
use Rattle.law_commit.specs.Below.fkv_world.Moves.{Near}
use Rattle.law_commit.specs.Below.fkv_world.OwnEvents.{keeper_events, keeper_got, keeper_part, keeper_part_of, keeper_slots, keeper_steps}
use Rattle.law_commit.specs.Below.fkv_world.Runs.{World, read_by_keeper, run}
use Rattle.law_commit.specs.Below.fkv_world.World as world
use Rattle.law_commit.specs.Below.fkv_world.World.{Event, near}
use Rattle.law_commit.proofs.Below.fkv_world.Shown.{keeper_runs, keeper_runs_on, places_stay, shape_stays}

-- a reply to a load is the word at its place
abbrev pub ReadsWord : List ℕ → Shape → Places → KeeperState → KeeperEvent → Type 0
ReadsWord words shape p s (Replies reply granted) = (place : ℕ) → keeper_ask shape p s ≡ Load place → reply ≡ word_at words place
ReadsWord words shape p s event = ⊤

unfoldable pub AllRead : List ℕ → Shape → Places → KeeperState → List KeeperEvent → Type 0
AllRead words shape p s [] = ⊤
AllRead words shape p s (event ∷ before) = ReadsWord words shape p (keeper_run shape p s before) event × AllRead words shape p s before

no_load : (ask : Ask KeeperTold) (slot place : ℕ) (action : Action) → ask ≡ Put slot action → ask ≡ Load place → ⊥
no_load ask slot place action e loads = cc

got_read : (words : List ℕ) (shape : Shape) (p : Places) (s : KeeperState) (found : Option Action) (before : List KeeperEvent) → AllRead words shape p s before → AllRead words shape p s (keeper_got found ++ before)
unfolding AllRead
got_read words shape p s None before reads = reads
got_read words shape p s (Some action) before reads = (tt, reads)

got_alone : (words : List ℕ) (shape : Shape) (p : Places) (s : KeeperState) (found : Option Action) → AllRead words shape p s (keeper_got found)
unfolding AllRead
got_alone words shape p s None = tt
got_alone words shape p s (Some action) = (tt, tt)

slots_read : (words : List ℕ) (shape : Shape) (p : Places) (s : KeeperState) (actions : List (Option Action)) (granted : Bool) (before : List KeeperEvent) (ask : Ask KeeperTold) → keeper_ask shape p (keeper_run shape p s before) ≡ ask
    → AllRead words shape p s before → AllRead words shape p s (keeper_slots actions granted ask ++ before)
unfolding AllRead keeper_slots
slots_read words shape p s actions granted before (Put slot action) e reads = (λ place loads. absurd (no_load (keeper_ask shape p (keeper_run shape p s before)) slot place action e loads), reads)
slots_read words shape p s actions granted before (Take slot) e reads = got_read words shape p s (action_at actions slot) before reads
slots_read words shape p s actions granted before (Load place) e reads = reads
slots_read words shape p s actions granted before (Store place new) e reads = reads
slots_read words shape p s actions granted before (Swap place new) e reads = reads
slots_read words shape p s actions granted before (Cas place old new) e reads = reads
slots_read words shape p s actions granted before (Add place n) e reads = reads
slots_read words shape p s actions granted before (Max place n) e reads = reads
slots_read words shape p s actions granted before (Done its) e reads = reads

word_read : (shape : Shape) (p : Places) (n : Near KeeperState) (granted : Bool) (ask : Ask KeeperTold) → keeper_ask shape p n.machine ≡ ask
    → AllRead n.words shape p n.machine (keeper_slots n.actions granted (keeper_ask shape p (keeper_next shape p n.machine (reply_to n.words ask) granted)) ++ Replies (reply_to n.words ask) granted ∷ [])
unfolding AllRead keeper_run keeper_happens
word_read shape p n granted ask e =
    slots_read n.words shape p n.machine n.actions granted (Replies (reply_to n.words ask) granted ∷ []) (keeper_ask shape p (keeper_next shape p n.machine (reply_to n.words ask) granted)) refl
    (λ place loads. ap (λ (x : Ask KeeperTold). reply_to n.words x) (sym e ∙ loads), tt)

steps_read : (shape : Shape) (p : Places) (granted done : Bool) (read : List ℕ) (n : Near KeeperState) (ask : Ask KeeperTold) → keeper_ask shape p n.machine ≡ ask → AllRead n.words shape p n.machine (keeper_steps shape p granted done read n ask)
unfolding keeper_steps keeper_slots AllRead keeper_run
steps_read shape p granted done read n (Done Device) e = (tt, tt)
steps_read shape p granted done read n (Done its) e = tt
steps_read shape p granted done read n (Put slot action) e = (λ place loads. absurd (no_load (keeper_ask shape p n.machine) slot place action e loads), tt)
steps_read shape p granted done read n (Take slot) e = got_alone n.words shape p n.machine (action_at n.actions slot)
steps_read shape p granted done read n (Load place) e = word_read shape p n granted (Load place) e
steps_read shape p granted done read n (Store place new) e = word_read shape p n granted (Store place new) e
steps_read shape p granted done read n (Swap place new) e = word_read shape p n granted (Swap place new) e
steps_read shape p granted done read n (Cas place old new) e = word_read shape p n granted (Cas place old new) e
steps_read shape p granted done read n (Add place count) e = word_read shape p n granted (Add place count) e
steps_read shape p granted done read n (Max place count) e = word_read shape p n granted (Max place count) e

part_read : (shape : Shape) (p : Places) (read : List ℕ) (n : Near KeeperState) (event : Event) → AllRead n.words shape p n.machine (keeper_part shape p read n event)
unfolding keeper_part AllRead keeper_run
part_read shape p read n (world.Commits kind) = (tt, tt)
part_read shape p read n world.Turns = (tt, tt)
part_read shape p read n (world.KeeperMoves granted done) = steps_read shape p granted done read n (keeper_ask shape p n.machine) refl
part_read shape p read n (world.Calls session call) = tt
part_read shape p read n (world.Moves session) = tt
part_read shape p read n world.Crashes = tt

pub event_read : (w : World) (event : Event) → AllRead w.now.words w.now.shape w.now.places w.now.keeper (keeper_part_of w event)
unfolding AllRead
event_read w event = by_crash w.now.crashed
  where
    by_crash : (c : Bool) → AllRead w.now.words w.now.shape w.now.places w.now.keeper (if c then [] else keeper_part w.now.shape w.now.places (read_by_keeper w) (near w.now w.now.keeper) event)
    by_crash true = tt
    by_crash false = part_read w.now.shape w.now.places (read_by_keeper w) (near w.now w.now.keeper) event

-- ---- what is so of a keeper at each moment of its run
unfoldable pub Always : (KeeperState → Type 0) → Shape → Places → KeeperState → List KeeperEvent → Type 0
Always P shape p s [] = P s
Always P shape p s (event ∷ before) = P (keeper_run shape p s (event ∷ before)) × Always P shape p s before

pub always_last : (P : KeeperState → Type 0) (shape : Shape) (p : Places) (s : KeeperState) (events : List KeeperEvent) → Always P shape p s events → P (keeper_run shape p s events)
unfolding Always keeper_run
always_last P shape p s [] is = is
always_last P shape p s (event ∷ before) is = is.0

pub always_map : (P Q : KeeperState → Type 0) (shape : Shape) (p : Places) (s : KeeperState) (events : List KeeperEvent) → ((x : KeeperState) → P x → Q x) → Always P shape p s events → Always Q shape p s events
unfolding Always
always_map P Q shape p s [] each is = each s is
always_map P Q shape p s (event ∷ before) each is = (each (keeper_run shape p s (event ∷ before)) is.0, always_map P Q shape p s before each is.1)

pub always_on : (P : KeeperState → Type 0) (shape : Shape) (p : Places) (first : KeeperState) (later before : List KeeperEvent) → Always P shape p (keeper_run shape p first before) later → Always P shape p first before → Always P shape p first (later ++ before)
unfolding Always
always_on P shape p first [] before new old = old
always_on P shape p first (event ∷ later) before new old = (subst P (sym (keeper_runs_on shape p first (event ∷ later) before)) new.0, always_on P shape p first later before new.1 old)

-- the events of the keeper in one event of a life, from where the keeper has come
pub of_part : (opening : World) (before : List Event) (event : Event) (P : Shape → Places → KeeperState → List KeeperEvent → Type 0)
    → (let w = run opening before in P w.now.shape w.now.places w.now.keeper (keeper_part_of w event))
    → P opening.now.shape opening.now.places (keeper_run opening.now.shape opening.now.places opening.now.keeper (keeper_events opening before)) (keeper_part_of (run opening before) event)
of_part opening before event P is =
    let w : World = run opening before in
    let part : List KeeperEvent = keeper_part_of w event in
    subst (λ (s : KeeperState). P opening.now.shape opening.now.places s part) (keeper_runs opening before)
    (subst (λ (q : Places). P opening.now.shape q w.now.keeper part) (places_stay opening before)
    (subst (λ (x : Shape). P x w.now.places w.now.keeper part) (shape_stays opening before) is))
