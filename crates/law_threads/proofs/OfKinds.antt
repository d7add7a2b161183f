-- The kind of a commit is the one that was asked for, over the list of a table.
use Rattle.std.proofs.Common.{◌≡◌, ◌⊎◌, inl, inr, ◌∙◌, List, [], ◌∷◌, ◌++◌, refl, ap, sym, subst, append_assoc, Bool, true, false}
use Rattle.std.specs.Prelude.{⊤, ℕ, Option, Some, None, if◌then◌else◌}
use Rattle.fkv_base.specs.declared.commits.CommitKind.{CommitKind}
use Rattle.fkv_base.specs.declared.commits.CommitKind.TheVariants.{Full, Log}
use Rattle.fkv_base.specs.declared.shapes.Shape.{Shape}
use Rattle.fkv_plane.specs.Asked.{reply_to}
use Rattle.fkv_plane.specs.Plane.{action_at}
use Rattle.fkv_plane.specs.declared.actions.Action.{Action}
use Rattle.fkv_plane.specs.declared.asks.Ask.{Ask}
use Rattle.fkv_plane.specs.declared.asks.Ask.TheVariants.{Put, Take, Done}
use Rattle.fkv_plane.specs.declared.places.Places.{Places}
use Rattle.law_order.specs.Below.fkv_core.Openings.{beginning}
use Rattle.law_order.specs.Below.fkv_commit.Commit.{Commit}
use Rattle.law_order.specs.Below.fkv_keeper.CheckpointLaws.{IsBehindWait, IsBeingWritten, UsesAs, begun_with, copy_replies, last_begin}
use Rattle.law_order.specs.Below.fkv_keeper.KeeperTold.{KeeperTold}
use Rattle.law_order.specs.Below.fkv_keeper.KeeperTold.TheVariants.{Device, Turned}
use Rattle.law_order.specs.Below.fkv_keeper.TheKeeping.{Keeping}
use Rattle.law_order.specs.Below.fkv_keeper.TheKeeping.TheVariants.{Ended, Finishes}
use Rattle.law_order.specs.Below.fkv_keeper.Keeping.{Finality, KeeperState, keeper_ask, keeper_next}
use Rattle.law_order.specs.Below.fkv_keeper.KeeperRun.{BeginsCommit, BeginsTurn, KeeperEvent, Replies, Writing, is_in_hand, keeper_run, writing}
use Rattle.law_order.proofs.Below.fkv_keeper.Shown.{come_behind, run_used}
use Rattle.law_order.specs.Below.fkv_world.Opened.{IsOpenedWorld}
use Rattle.law_order.specs.Below.fkv_world.OwnEvents.{keeper_events, keeper_got, keeper_part, keeper_part_of, keeper_slots, keeper_steps}
use Rattle.law_order.specs.Below.fkv_world.Runs.{World, read_by_keeper, run}
use Rattle.law_order.specs.Below.fkv_world.World.{Event, near}
use Rattle.law_order.proofs.Below.fkv_world.Shown.{keeper_runs}
use Rattle.law_order.specs.Below.law_commit.BegunCommits.{BegunCommit, life_begun, with_finished}
use Rattle.law_order.specs.Below.law_commit.HeldCommits.{AtKeeping, HaveFinished, IsInHand}
use Rattle.law_order.proofs.Below.law_commit.Shown.{life_stands}
use Rattle.law_order.proofs.OfRules.Beginning.{world_opens}
use Rattle.fkv_table.specs.declared.happenings.Happening.{Happening}
use Rattle.fkv_table.specs.declared.happenings.Happening.TheVariants as happening
use Rattle.fkv_table.specs.Events.{event_of}
use Rattle.fkv_table.specs.KeeperCalls.{AreSessions, BeginsNone, HasKept}
use Rattle.fkv_table.proofs.Lives.{alive, led_run}
use Rattle.law_threads.specs.Calls.{events_of}
use Rattle.law_threads.specs.Kinds.{IsOfKind, KeepsKinds, Kinds, TellsKinds, UsesTheirs, asked_by, begun_by, kinds_told}
use Rattle.law_threads.proofs.KeeperKinds.{BeginNothing, NotStarts, asked_told, kind_begun, kind_in, kind_stays, kinds_of, not_same, quiet_told, same_step, turned_told, with_asked}
use Rattle.law_threads.proofs.OfFinishes.{come_to_finish, life_made}

-- ---- what a happening is for the keeper
both_nothing : (its before : List KeeperEvent) → BeginNothing its → BeginNothing before → BeginNothing (its ++ before)
both_nothing [] before none more = more
both_nothing (event ∷ its) before none more = (none.0, both_nothing its before none.1 more)

got_nothing : (found : Option Action) → BeginNothing (keeper_got found)
got_nothing None = tt
got_nothing (Some action) = (tt, tt)

slots_nothing : (actions : List (Option Action)) (granted : Bool) (ask : Ask KeeperTold) → BeginNothing (keeper_slots actions granted ask)
unfolding keeper_slots
slots_nothing actions granted (Put slot action) = (tt, tt)
slots_nothing actions granted (Take slot) = got_nothing (action_at actions slot)
slots_nothing actions granted ask = tt

steps_nothing : (shape : Shape) (p : Places) (granted done : Bool) (read cells : List ℕ) (actions : List (Option Action)) (s : KeeperState) (ask : Ask KeeperTold)
    → BeginNothing (keeper_steps shape p granted done read (record { machine = s; words = cells; actions = actions }) ask)
unfolding keeper_steps
steps_nothing shape p granted done read cells actions s (Done Device) = (tt, tt)
steps_nothing shape p granted done read cells actions s (Done its) = tt
steps_nothing shape p granted done read cells actions s (Put slot action) = slots_nothing actions granted (Put slot action)
steps_nothing shape p granted done read cells actions s (Take slot) = slots_nothing actions granted (Take slot)
steps_nothing shape p granted done read cells actions s ask =
    both_nothing (keeper_slots actions granted (keeper_ask shape p (keeper_next shape p s (reply_to cells ask) granted))) (Replies (reply_to cells ask) granted ∷ [])
    (slots_nothing actions granted (keeper_ask shape p (keeper_next shape p s (reply_to cells ask) granted))) (tt, tt)

part_alive : (w : World) (event : Event) → w.now.crashed ≡ false → keeper_part_of w event ≡ keeper_part w.now.shape w.now.places (read_by_keeper w) (near w.now w.now.keeper) event
part_alive w event e = ap (λ (b : Bool). if b then [] else keeper_part w.now.shape w.now.places (read_by_keeper w) (near w.now w.now.keeper) event) e

asked_as : (step : Keeping) (kind : CommitKind) (k : Kinds) → with_asked step kind k ≡ asked_by step (happening.Commits kind) k
asked_as (Ended its) kind k = refl
asked_as step kind k = refl

abbrev AsksNothing : Happening → Type 0
AsksNothing (happening.Commits kind) = ⊥
AsksNothing its = ⊤

asks_nothing : (step : Keeping) (its : Happening) (k : Kinds) → AsksNothing its → k ≡ asked_by step its k
asks_nothing (Ended told) (happening.Calls session call) k none = refl
asks_nothing (Ended told) (happening.Moves session) k none = refl
asks_nothing (Ended told) (happening.Commits kind) k none = absurd none
asks_nothing (Ended told) happening.Turns k none = refl
asks_nothing (Ended told) (happening.KeeperMoves granted done) k none = refl
asks_nothing step its k none = refl

-- so what was begun is begun by the list too
by_list : (step after : Keeping) (its : Happening) (k k' : Kinds) → AsksNothing its → k' ≡ begun_by step after k → k' ≡ begun_by step after (asked_by step its k)
by_list step after its k k' none so = so ∙ ap (λ (x : Kinds). begun_by step after x) (asks_nothing step its k none)

-- ---- over the list
module _ (w : World) where
  abbrev at : List Happening → World
  at es = run w (events_of es)

  abbrev own : List Happening → List KeeperEvent
  own es = keeper_events w (events_of es)

  abbrev state : List KeeperEvent → KeeperState
  state es = keeper_run w.now.shape w.now.places w.now.keeper es

  abbrev told : List KeeperEvent → Kinds
  told es = kinds_of (last_begin w.now.shape w.now.places w.now.keeper es)

  -- what a happening is for the keeper behind these
  abbrev part_at : Happening → List Happening → List KeeperEvent
  part_at its es = keeper_part (at es).now.shape (at es).now.places (read_by_keeper (at es)) (near (at es).now (at es).now.keeper) (event_of its)

  part_told : (its : Happening) (es : List Happening) (mine : List KeeperEvent) → (at es).now.crashed ≡ false
      → told (keeper_part_of (at es) (event_of its) ++ mine) ≡ begun_by (state mine).step (state (keeper_part_of (at es) (event_of its) ++ mine)).step (asked_by (state mine).step its (told mine))
  unfolding keeper_part
  part_told its es mine alive = subst (λ (part : List KeeperEvent). told (part ++ mine) ≡ begun_by (state mine).step (state (part ++ mine)).step (asked_by (state mine).step its (told mine))) (sym (part_alive (at es) (event_of its) alive)) (so its)
    where
      so : (its : Happening) → (let part = keeper_part (at es).now.shape (at es).now.places (read_by_keeper (at es)) (near (at es).now (at es).now.keeper) (event_of its) in
          told (part ++ mine) ≡ begun_by (state mine).step (state (part ++ mine)).step (asked_by (state mine).step its (told mine)))
      so (happening.Calls session call) = by_list (state mine).step (state mine).step (happening.Calls session call) (told mine) (told mine) tt (same_step (state mine).step (told mine))
      so (happening.Moves session) = by_list (state mine).step (state mine).step (happening.Moves session) (told mine) (told mine) tt (same_step (state mine).step (told mine))
      so (happening.Commits kind) =
          asked_told w.now.shape w.now.places w.now.keeper kind mine
          ∙ ap (λ (k : Kinds). begun_by (state mine).step (state (BeginsCommit kind ∷ mine)).step k) (asked_as (state mine).step kind (told mine))
      so happening.Turns =
          by_list (state mine).step (state (BeginsTurn ∷ mine)).step happening.Turns (told mine) (told (BeginsTurn ∷ mine)) tt (turned_told w.now.shape w.now.places w.now.keeper mine)
      so (happening.KeeperMoves granted done) =
          by_list (state mine).step (state (part_at (happening.KeeperMoves granted done) es ++ mine)).step (happening.KeeperMoves granted done) (told mine) (told (part_at (happening.KeeperMoves granted done) es ++ mine)) tt
          (quiet_told w.now.shape w.now.places w.now.keeper (part_at (happening.KeeperMoves granted done) es) mine
          (steps_nothing (at es).now.shape (at es).now.places granted done (read_by_keeper (at es)) (at es).now.words (at es).now.actions (at es).now.keeper (keeper_ask (at es).now.shape (at es).now.places (at es).now.keeper)))

  -- the table's list says what the keeper's own record says
  pub kinds_so : ((es : List Happening) → (at es).now.crashed ≡ false) → (es : List Happening) → kinds_told w es ≡ told (own es)
  unfolding kinds_told keeper_events last_begin run
  kinds_so alive [] = refl
  kinds_so alive (its ∷ es) =
      ap (λ (k : Kinds). begun_by (at es).now.keeper.step (at (its ∷ es)).now.keeper.step (asked_by (at es).now.keeper.step its k)) (kinds_so alive es)
      ∙ (ap (λ (s : KeeperState). begun_by s.step (at (its ∷ es)).now.keeper.step (asked_by s.step its (told (own es)))) (keeper_runs w (events_of es))
      ∙ (ap (λ (s : KeeperState). begun_by (state (own es)).step s.step (asked_by (state (own es)).step its (told (own es)))) (keeper_runs w (events_of (its ∷ es)))
      ∙ sym (part_told its es (own es) (alive es))))

  -- ---- the keeper's own calls
  own_of_alive : ((es : List Happening) → (at es).now.crashed ≡ false) → (its : Happening) (es : List Happening)
      → own (its ∷ es) ≡ part_at its es ++ own es
  unfolding keeper_events
  own_of_alive alive its es = ap (λ (part : List KeeperEvent). part ++ own es) (part_alive (at es) (event_of its) (alive es))

  -- what sessions do is nothing for the keeper
  own_of_sessions : ((es : List Happening) → (at es).now.crashed ≡ false) → (others es : List Happening) → AreSessions others → own (others ++ es) ≡ own es
  unfolding keeper_part
  own_of_sessions alive [] es quiet = refl
  own_of_sessions alive (happening.Calls session call ∷ others) es quiet = own_of_alive alive (happening.Calls session call) (others ++ es) ∙ own_of_sessions alive others es quiet
  own_of_sessions alive (happening.Moves session ∷ others) es quiet = own_of_alive alive (happening.Moves session) (others ++ es) ∙ own_of_sessions alive others es quiet
  own_of_sessions alive (happening.Commits kind ∷ others) es quiet = absurd quiet
  own_of_sessions alive (happening.Turns ∷ others) es quiet = absurd quiet
  own_of_sessions alive (happening.KeeperMoves granted done ∷ others) es quiet = absurd quiet

  -- steps that begin no call
  pub record OwnSteps (steps es : List Happening) : Type 0 where
    pub its : List KeeperEvent
    pub none : BeginNothing its
    pub so : own (steps ++ es) ≡ its ++ own es

  one_step : ((es : List Happening) → (at es).now.crashed ≡ false) → (its : Happening) (steps es : List Happening) → OwnSteps steps es
      → BeginNothing (part_at its (steps ++ es)) → OwnSteps (its ∷ steps) es
  one_step alive its steps es rest none = record {
    its = part_at its (steps ++ es) ++ rest.its;
    none = both_nothing (part_at its (steps ++ es)) rest.its none rest.none;
    so = own_of_alive alive its (steps ++ es) ∙ (ap (λ (more : List KeeperEvent). part_at its (steps ++ es) ++ more) rest.so ∙ sym (append_assoc (part_at its (steps ++ es)) rest.its (own es)));
  }

  pub own_of_steps : ((es : List Happening) → (at es).now.crashed ≡ false) → (steps es : List Happening) → BeginsNone steps → OwnSteps steps es
  unfolding keeper_part
  own_of_steps alive [] es begins = record { its = []; none = tt; so = refl }
  own_of_steps alive (happening.Calls session call ∷ steps) es begins = one_step alive (happening.Calls session call) steps es (own_of_steps alive steps es begins) tt
  own_of_steps alive (happening.Moves session ∷ steps) es begins = one_step alive (happening.Moves session) steps es (own_of_steps alive steps es begins) tt
  own_of_steps alive (happening.Commits kind ∷ steps) es begins = absurd begins
  own_of_steps alive (happening.Turns ∷ steps) es begins = absurd begins
  own_of_steps alive (happening.KeeperMoves granted done ∷ steps) es begins =
      one_step alive (happening.KeeperMoves granted done) steps es (own_of_steps alive steps es begins)
      (steps_nothing (at (steps ++ es)).now.shape (at (steps ++ es)).now.places granted done (read_by_keeper (at (steps ++ es))) (at (steps ++ es)).now.words (at (steps ++ es)).now.actions (at (steps ++ es)).now.keeper
      (keeper_ask (at (steps ++ es)).now.shape (at (steps ++ es)).now.places (at (steps ++ es)).now.keeper))

  -- a call stands in what is seen behind it
  pub record OwnCall (start : KeeperEvent) (seen seen' : List Happening) : Type 0 where
    pub its : List KeeperEvent
    pub none : BeginNothing its
    pub so : own seen' ≡ its ++ start ∷ own seen

  pub own_of_call : ((es : List Happening) → (at es).now.crashed ≡ false) → (call : Happening) (start : KeeperEvent) (seen seen' : List Happening) → HasKept call seen seen'
      → ((es : List Happening) → own (call ∷ es) ≡ start ∷ own es) → OwnCall start seen seen'
  own_of_call alive call start seen seen' kept begins =
      let steps = own_of_steps alive kept.steps (call ∷ (kept.others ++ seen)) kept.begins in
      record {
        its = steps.its;
        none = steps.none;
        so = ap (λ (es : List Happening). own es) kept.so
            ∙ (steps.so ∙ ap (λ (more : List KeeperEvent). steps.its ++ more) (begins (kept.others ++ seen) ∙ ap (λ (more : List KeeperEvent). start ∷ more) (own_of_sessions alive kept.others seen kept.quiet)));
      }

  pub commit_own : ((es : List Happening) → (at es).now.crashed ≡ false) → (kind : CommitKind) (es : List Happening) → own (happening.Commits kind ∷ es) ≡ BeginsCommit kind ∷ own es
  unfolding keeper_part
  commit_own alive kind es = own_of_alive alive (happening.Commits kind) es

  pub turn_own : ((es : List Happening) → (at es).now.crashed ≡ false) → (es : List Happening) → own (happening.Turns ∷ es) ≡ BeginsTurn ∷ own es
  unfolding keeper_part
  turn_own alive es = own_of_alive alive happening.Turns es

  ended_at : (step : Keeping) → is_in_hand step ≡ false → (its : KeeperTold) × (step ≡ Ended its)
  ended_at (Ended its) idle = (its, refl)
  ended_at step idle = cc

  pub keeps_kinds : ((es : List Happening) → (at es).now.crashed ≡ false) → KeepsKinds w
  keeps_kinds alive = record {
    commits = λ kind number seen seen' kept idle ends.
        let call = own_of_call alive (happening.Commits kind) (BeginsCommit kind) seen seen' kept (λ es. commit_own alive kind es) in
        let was = ended_at (at seen).now.keeper.step idle in
        ap (λ (k : Kinds). k.begun) (kinds_so alive seen')
        ∙ (ap (λ (es : List KeeperEvent). (told es).begun) call.so
        ∙ kind_begun w.now.shape w.now.places w.now.keeper kind number call.its (own seen) was.0 call.none
        (sym (ap (λ (s : KeeperState). s.step) (keeper_runs w (events_of seen))) ∙ was.1)
        (sym (ap (λ (s : KeeperState). s.step) (keeper_runs w (events_of seen') ∙ ap (λ (es : List KeeperEvent). state es) call.so)) ∙ ends));
    turns = λ seen seen' kept idle.
        let call = own_of_call alive happening.Turns BeginsTurn seen seen' kept (λ es. turn_own alive es) in
        let was = ended_at (at seen).now.keeper.step idle in
        ap (λ (k : Kinds). k.begun) (kinds_so alive seen')
        ∙ (ap (λ (es : List KeeperEvent). (told es).begun) call.so
        ∙ (kind_stays w.now.shape w.now.places w.now.keeper call.its (own seen) was.0 call.none (sym (ap (λ (s : KeeperState). s.step) (keeper_runs w (events_of seen))) ∙ was.1)
        ∙ sym (ap (λ (k : Kinds). k.begun) (kinds_so alive seen))));
  }

-- ---- where a turn has finished a commit
-- The newest commit is of the kind for which the call had asked that has begun it.
pub record NewestIsOfKind (w : World) (es : List Happening) : Type 0 where
  pub newest : BegunCommit
  pub older : List BegunCommit
  pub its : life_begun w (events_of es) ≡ newest ∷ older
  pub kind : CommitKind
  pub asked : (kinds_told w es).begun ≡ Some kind
  pub is_of_kind : IsOfKind kind newest older

same_hand : (a b : Commit) → ◌≡◌ {A = Option Commit} (Some a) (Some b) → a ≡ b
same_hand a b e = cc

head_as : (newest : BegunCommit) (older begun : List BegunCommit) (last : Finality) → HaveFinished older last → newest.parts.checkpoint ≡ last.checkpoint → UsesTheirs newest older
head_as newest older begun last all uses = subst (λ (those : List BegunCommit). UsesTheirs newest those) (sym all.its) (uses ∙ sym all.last.checkpoint)

of_kind : (kind : CommitKind) (p : Places) (replies : List ℕ) (made : Writing) (s : KeeperState) (c : Commit) (newest : BegunCommit) (older : List BegunCommit) → UsesAs kind p replies made s c → newest.parts.checkpoint ≡ s.used → newest.number ≡ c.number
    → HaveFinished older s.last → IsOfKind kind newest older
of_kind Full p replies made s c newest older uses used number all = ap (λ x. x.number) (used ∙ uses.used) ∙ sym number
of_kind Log p replies made s c newest older uses used number all = head_as newest older older s.last all (used ∙ uses.used)

with_more : (kind : CommitKind) (c : BegunCommit) (older : List BegunCommit) → IsOfKind kind c older → IsOfKind kind (record c { is_finished = true }) older
with_more Full c older its = its
with_more Log c [] its = its
with_more Log c (d ∷ older) its = its

not_yet : (full : Bool) → Ended (Turned false false) ≡ Ended (Turned true full) → ⊥
not_yet full e = cc

module _ (w : World) (full : Bool) (opened : IsOpenedWorld w) (no_call : w.now.keeper.step ≡ Ended (Turned false false)) (lives : (es : List Happening) → (run w (events_of es)).now.crashed ≡ false) where
  -- what was begun stays where none starts
  stays : (its : Happening) (es : List Happening) (step : Keeping) → (run w (events_of es)).now.keeper.step ≡ step → NotStarts step → (kinds_told w (its ∷ es)).begun ≡ (kinds_told w es).begun
  unfolding kinds_told
  stays its es step e not =
      ap (λ (k : Kinds). k.begun) (not_same (run w (events_of es)).now.keeper.step _ _ (subst NotStarts (sym e) not)) ∙ asked_leaves (run w (events_of es)).now.keeper.step its (kinds_told w es)
    where
      asked_leaves : (step : Keeping) (its : Happening) (k : Kinds) → (asked_by step its k).begun ≡ k.begun
      asked_leaves (Ended told) (happening.Commits kind) k = refl
      asked_leaves (Ended told) its k = refl
      asked_leaves step its k = refl

  now_finished : (its : Happening) (es : List Happening) → (run w (events_of es)).now.keeper.step ≡ Finishes → life_begun w (events_of (its ∷ es)) ≡ with_finished (life_begun w (events_of es)) → NewestIsOfKind w (its ∷ es)
  now_finished its es finishes made =
      let s : KeeperState = (run w (events_of es)).now.keeper in
      let mine : List KeeperEvent = keeper_events w (events_of es) in
      let runs : s ≡ keeper_run w.now.shape w.now.places w.now.keeper mine = keeper_runs w (events_of es) in
      let hand : IsInHand (life_begun w (events_of es)) s true = subst (λ (step : Keeping). AtKeeping (life_begun w (events_of es)) s step) (come_to_finish w (events_of es) opened finishes) (life_stands w (events_of es) opened) in
      let used : IsBeingWritten w.now.places (copy_replies w.now.shape w.now.places w.now.keeper mine) (begun_with w.now.shape w.now.places w.now.keeper mine) (writing w.now.shape w.now.places w.now.keeper mine) s
      = subst (λ (x : KeeperState). IsBeingWritten w.now.places (copy_replies w.now.shape w.now.places w.now.keeper mine) (begun_with w.now.shape w.now.places w.now.keeper mine) (writing w.now.shape w.now.places w.now.keeper mine) x) (sym runs)
      (run_used w.now.shape w.now.places w.now.keeper mine opened.keeper
      (come_behind (keeper_run w.now.shape w.now.places w.now.keeper mine) (subst IsBehindWait (sym (sym (ap (λ (x : KeeperState). x.step) runs) ∙ finishes)) tt))) in
      let same : hand.commit ≡ used.commit = same_hand hand.commit used.commit (sym hand.in_hand ∙ used.in_hand) in
      record {
        newest = record hand.newest { is_finished = true };
        older = hand.older;
        its = made ∙ ap with_finished hand.its;
        kind = used.commit.kind;
        asked = stays its es Finishes finishes tt ∙ (ap (λ (k : Kinds). k.begun) (kinds_so w lives es) ∙ ap kind_in used.begun);
        is_of_kind = with_more used.commit.kind hand.newest hand.older
            (of_kind used.commit.kind w.now.places _ _ s used.commit hand.newest hand.older used.uses hand.checkpoint (hand.number ∙ ap (λ (c : Commit). c.number) same) hand.others);
      }

  pub newest_of_kind : (es : List Happening) → (run w (events_of es)).now.keeper.step ≡ Ended (Turned true full) → NewestIsOfKind w es
  unfolding run
  newest_of_kind [] e = absurd (not_yet full (sym no_call ∙ e))
  newest_of_kind (its ∷ es) e = by_made (λ still. newest_of_kind es still) (life_made w full opened no_call (event_of its) (events_of es) e)
    where
      by_made : ((run w (events_of es)).now.keeper.step ≡ Ended (Turned true full) → NewestIsOfKind w es) → (((run w (events_of es)).now.keeper.step ≡ Finishes) × (life_begun w (events_of (its ∷ es)) ≡ with_finished (life_begun w (events_of es))))
          ⊎ (((run w (events_of es)).now.keeper.step ≡ Ended (Turned true full)) × (life_begun w (events_of (its ∷ es)) ≡ life_begun w (events_of es))) → NewestIsOfKind w (its ∷ es)
      by_made earlier (inl made) = now_finished its es made.0 made.1
      by_made earlier (inr still) =
          let was = earlier still.0 in
          record {
            newest = was.newest;
            older = was.older;
            its = still.1 ∙ was.its;
            kind = was.kind;
            asked = stays its es (Ended (Turned true full)) still.0 tt ∙ was.asked;
            is_of_kind = was.is_of_kind;
          }

-- ---- at a table over an opened store
pub alive_at : (w : World) → IsOpenedWorld w → (es : List Happening) → (run w (events_of es)).now.crashed ≡ false
alive_at w opened es = sym (ap (λ (x : World). x.now.crashed) (led_run (λ (x : World). x) w es)) ∙ alive (λ (x : World). x) w es opened.goes_on

pub tells_kinds : {K : Type 0} (at : K → World) → TellsKinds at
tells_kinds at key o n bytes over = subst KeepsKinds (sym over.same) (keeps_kinds (beginning n bytes) (alive_at (beginning n bytes) (world_opens o n bytes over.begins)))
