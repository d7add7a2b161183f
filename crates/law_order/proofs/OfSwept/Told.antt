-- What the keeper is told in an event of a life: its replies are the words as they stood before, and its reads are the device's of then. A sweep loads words
-- and reads, and turns to no drain slot. So it makes one step in an event.
use Rattle.std.proofs.Common.{◌≡◌, ℕ, ◌∙◌, refl, sym, ap, subst, Bool, true, false, List, [], ◌∷◌, ◌++◌}
use Rattle.std.specs.Prelude.{⊤, if◌then◌else◌, Option, Some, None}
use Rattle.fkv_base.specs.declared.shapes.Shape.{Shape}
use Rattle.fkv_disk.specs.Bytes.{bytes_at}
use Rattle.fkv_plane.specs.declared.actions.Action.{Action}
use Rattle.fkv_plane.specs.declared.asks.Ask.{Ask}
use Rattle.fkv_plane.specs.declared.asks.Ask.TheVariants.{Load, Store, Swap, Cas, Add, Max, Put, Take, Done}
use Rattle.fkv_plane.specs.declared.places.Places.{Places}
use Rattle.fkv_plane.specs.Asked.{reply_to}
use Rattle.fkv_plane.specs.Passing.{passed}
use Rattle.fkv_plane.specs.Plane.{action_at}
use Rattle.fkv_plane.proofs.Shown.{passed_reply}
use Rattle.fkv_sweep.specs.declared.sweeping.SweepAnswer.{SweepAnswer}
use Rattle.fkv_sweep.specs.declared.sweeping.SweepAnswer.TheVariants as sweep
use Rattle.fkv_sweep.specs.Swept.{IsLoadOrEnd}
use Rattle.fkv_sweep.specs.Sweeping.{piece_bytes, read_place, sweep_ask}
use Rattle.law_commit.specs.Below.fkv_commit.Finishing.{finishing_ask}
use Rattle.law_commit.specs.Below.fkv_commit.TheFinishing.{Finishing}
use Rattle.law_commit.specs.Below.fkv_commit.TheFinishing.TheVariants as finishing
use Rattle.law_commit.specs.Below.fkv_keeper.KeeperAsks.{keeping_read}
use Rattle.law_commit.specs.Below.fkv_keeper.Keeping.{KeeperModel, KeeperState, keeper_ask, keeper_next, keeping_ask, sweep_passed, turn_over}
use Rattle.law_commit.specs.Below.fkv_keeper.KeeperRun.{BeginsCommit, BeginsTurn, Calls, Gets, KeeperEvent, Replies, keeper_happens}
use Rattle.law_commit.specs.Below.fkv_keeper.KeeperTold.{KeeperTold}
use Rattle.law_commit.specs.Below.fkv_keeper.KeeperTold.TheVariants.{Device}
use Rattle.law_commit.specs.Below.fkv_keeper.TheKeeping.{Keeping}
use Rattle.law_commit.specs.Below.fkv_keeper.TheKeeping.TheVariants.{Finishes, Sweeps}
use Rattle.law_commit.specs.Below.fkv_world.Moves.{Near}
use Rattle.law_commit.specs.Below.fkv_world.OwnEvents.{keeper_got, keeper_part, keeper_part_of, keeper_slots, keeper_steps}
use Rattle.law_commit.specs.Below.fkv_world.Runs.{World, read_by_keeper}
use Rattle.law_commit.specs.Below.fkv_world.World as world
use Rattle.law_commit.specs.Below.fkv_world.World.{Event, near}
use Rattle.law_commit.proofs.Below.law_refine.OfSeen.HeadStays.{LeavesHead}

-- a reply is the word as it stood, and what was read is this
abbrev pub IsTold : List ℕ → List ℕ → Shape → Places → KeeperState → KeeperEvent → Type 0
IsTold words read shape p s (Replies reply granted) = reply ≡ reply_to words (keeper_ask shape p s)
IsTold words read shape p s (Calls done bytes) = bytes ≡ read
IsTold words read shape p s event = ⊤

-- the ask is of a drain slot
abbrev pub IsSlotAsk : Ask KeeperTold → Type 0
IsSlotAsk (Put slot action) = ⊤
IsSlotAsk (Take slot) = ⊤
IsSlotAsk ask = ⊥

-- ---- An event of a life is nothing to the keeper, or one event, or two, of which the second is of a drain slot.
module _ (words read : List ℕ) (shape : Shape) (p : Places) (P : List KeeperEvent → Type 0) where
  record Parts (s : KeeperState) : Type 0 where
    nothing : P []
    one : (event : KeeperEvent) → IsTold words read shape p s event → P (event ∷ [])
    two : (event other : KeeperEvent) → IsTold words read shape p s event → IsSlotAsk (keeper_ask shape p (keeper_happens shape p s event)) → P (other ∷ event ∷ [])

  got_one : (s : KeeperState) (found : Option Action) → Parts s → P (keeper_got found)
  got_one s None parts = parts.nothing
  got_one s (Some action) parts = parts.one (Gets action) tt

  got_two : (s : KeeperState) (event : KeeperEvent) (found : Option Action) → IsTold words read shape p s event → IsSlotAsk (keeper_ask shape p (keeper_happens shape p s event)) → Parts s → P (keeper_got found ++ event ∷ [])
  got_two s event None told slot parts = parts.one event told
  got_two s event (Some action) told slot parts = parts.two event (Gets action) told slot

  slots_two : (s : KeeperState) (event : KeeperEvent) (actions : List (Option Action)) (granted : Bool) (ask : Ask KeeperTold) → keeper_ask shape p (keeper_happens shape p s event) ≡ ask → IsTold words read shape p s event → Parts s
      → P (keeper_slots actions granted ask ++ event ∷ [])
  unfolding keeper_slots
  slots_two s event actions granted (Put slot action) e told parts = parts.two event (Replies 0 granted) told (subst IsSlotAsk (sym e) tt)
  slots_two s event actions granted (Take slot) e told parts = got_two s event (action_at actions slot) told (subst IsSlotAsk (sym e) tt) parts
  slots_two s event actions granted (Load place) e told parts = parts.one event told
  slots_two s event actions granted (Store place new) e told parts = parts.one event told
  slots_two s event actions granted (Swap place new) e told parts = parts.one event told
  slots_two s event actions granted (Cas place old new) e told parts = parts.one event told
  slots_two s event actions granted (Add place k) e told parts = parts.one event told
  slots_two s event actions granted (Max place k) e told parts = parts.one event told
  slots_two s event actions granted (Done its) e told parts = parts.one event told

  -- a step that asks for a word
  word_step : (n : Near KeeperState) (granted : Bool) (ask : Ask KeeperTold) → n.words ≡ words → keeper_ask shape p n.machine ≡ ask → Parts n.machine
      → P (keeper_slots n.actions granted (keeper_ask shape p (keeper_next shape p n.machine (reply_to n.words ask) granted)) ++ Replies (reply_to n.words ask) granted ∷ [])
  unfolding keeper_happens
  word_step n granted ask same e parts =
      slots_two n.machine (Replies (reply_to n.words ask) granted) n.actions granted (keeper_ask shape p (keeper_next shape p n.machine (reply_to n.words ask) granted)) refl
      (ap (λ (x : List ℕ). reply_to x ask) same ∙ ap (λ (x : Ask KeeperTold). reply_to words x) (sym e)) parts

  steps_part : (n : Near KeeperState) (granted done : Bool) (ask : Ask KeeperTold) → n.words ≡ words → keeper_ask shape p n.machine ≡ ask → Parts n.machine → P (keeper_steps shape p granted done read n ask)
  unfolding keeper_steps keeper_slots
  steps_part n granted done (Done Device) same e parts = parts.one (Calls done read) refl
  steps_part n granted done (Done its) same e parts = parts.nothing
  steps_part n granted done (Put slot action) same e parts = parts.one (Replies 0 granted) (ap (λ (x : Ask KeeperTold). reply_to words x) (sym e))
  steps_part n granted done (Take slot) same e parts = got_one n.machine (action_at n.actions slot) parts
  steps_part n granted done (Load place) same e parts = word_step n granted (Load place) same e parts
  steps_part n granted done (Store place new) same e parts = word_step n granted (Store place new) same e parts
  steps_part n granted done (Swap place new) same e parts = word_step n granted (Swap place new) same e parts
  steps_part n granted done (Cas place old new) same e parts = word_step n granted (Cas place old new) same e parts
  steps_part n granted done (Add place k) same e parts = word_step n granted (Add place k) same e parts
  steps_part n granted done (Max place k) same e parts = word_step n granted (Max place k) same e parts

  keeper_parts : (n : Near KeeperState) (event : Event) → n.words ≡ words → Parts n.machine → P (keeper_part shape p read n event)
  unfolding keeper_part
  keeper_parts n (world.Commits kind) same parts = parts.one (BeginsCommit kind) tt
  keeper_parts n world.Turns same parts = parts.one BeginsTurn tt
  keeper_parts n (world.KeeperMoves granted done) same parts = steps_part n granted done (keeper_ask shape p n.machine) same refl parts
  keeper_parts n (world.Calls session call) same parts = parts.nothing
  keeper_parts n (world.Moves session) same parts = parts.nothing
  keeper_parts n world.Crashes same parts = parts.nothing

pub event_parts : (w : World) (event : Event) (P : List KeeperEvent → Type 0) → P [] → ((own : KeeperEvent) → IsTold w.now.words (read_by_keeper w) w.now.shape w.now.places w.now.keeper own → P (own ∷ []))
    → ((own other : KeeperEvent) → IsTold w.now.words (read_by_keeper w) w.now.shape w.now.places w.now.keeper own → IsSlotAsk (keeper_ask w.now.shape w.now.places (keeper_happens w.now.shape w.now.places w.now.keeper own)) → P (other ∷ own ∷ []))
    → P (keeper_part_of w event)
event_parts w event P nothing one two = by_crash w.now.crashed
  where
    by_crash : (c : Bool) → P (if c then [] else keeper_part w.now.shape w.now.places (read_by_keeper w) (near w.now w.now.keeper) event)
    by_crash true = nothing
    by_crash false = keeper_parts w.now.words (read_by_keeper w) w.now.shape w.now.places P (near w.now w.now.keeper) event refl (record { nothing = nothing; one = one; two = two })

-- ---- at a step of the sweep
swept_reply : (words : List ℕ) (ask : Ask SweepAnswer) (told : KeeperTold) → reply_to words (sweep_passed ask told) ≡ reply_to words ask
unfolding sweep_passed
swept_reply words (Done sweep.Device) told = refl
swept_reply words ask told = passed_reply words ask told

-- its ask is the sweep's
pub sweeps_reply : (words : List ℕ) (shape : Shape) (p : Places) (s : KeeperState) → s.step ≡ Sweeps → reply_to words (keeper_ask shape p s) ≡ reply_to words (sweep_ask s.sweep)
unfolding keeping_ask
sweeps_reply words shape p s at = ap (λ (k : Keeping). reply_to words (keeping_ask shape p s k)) at ∙ swept_reply words (sweep_ask s.sweep) (turn_over s)

-- what is read for it
pub sweeps_read : (k : KeeperModel) (seen : List ℕ) → (let s = k.state in s.step ≡ Sweeps) → (let s = k.state in keeping_read k s.step seen ≡ bytes_at seen (read_place s.sweep) piece_bytes)
unfolding keeping_read
sweeps_read k seen at = ap (λ (step : Keeping). keeping_read k step seen) at

swept_leaves : (ask : Ask SweepAnswer) (told : KeeperTold) → IsLoadOrEnd ask → LeavesHead (sweep_passed ask told)
unfolding sweep_passed passed
swept_leaves (Done sweep.Device) told loads = tt
swept_leaves (Done sweep.Through) told loads = tt
swept_leaves (Load place) told loads = tt
swept_leaves ask told loads = absurd loads

-- it leaves the head as it is
pub sweeps_leave : (shape : Shape) (p : Places) (s : KeeperState) → s.step ≡ Sweeps → IsLoadOrEnd (sweep_ask s.sweep) → LeavesHead (keeper_ask shape p s)
unfolding keeping_ask
sweeps_leave shape p s at loads = subst (λ (k : Keeping). LeavesHead (keeping_ask shape p s k)) (sym at) (swept_leaves (sweep_ask s.sweep) (turn_over s) loads)

swept_no_slot : {X : Type 0} (ask : Ask SweepAnswer) (told : KeeperTold) → IsLoadOrEnd ask → IsSlotAsk (sweep_passed ask told) → X
unfolding sweep_passed passed
swept_no_slot (Done sweep.Device) told loads slot = absurd slot
swept_no_slot (Done sweep.Through) told loads slot = absurd slot
swept_no_slot (Load place) told loads slot = absurd slot
swept_no_slot ask told loads slot = absurd loads

-- and it turns to no drain slot, and neither does a finish
pub sweeps_no_slot : {X : Type 0} (shape : Shape) (p : Places) (s : KeeperState) → s.step ≡ Sweeps → IsLoadOrEnd (sweep_ask s.sweep) → IsSlotAsk (keeper_ask shape p s) → X
unfolding keeping_ask
sweeps_no_slot shape p s at loads slot = swept_no_slot (sweep_ask s.sweep) (turn_over s) loads (subst (λ (k : Keeping). IsSlotAsk (keeping_ask shape p s k)) at slot)

finish_no_slot : {X : Type 0} (s : KeeperState) (step : Finishing) → IsSlotAsk (passed (finishing_ask s.seek.points s.finish step) (turn_over s)) → X
unfolding finishing_ask passed
finish_no_slot s (finishing.Ended its) slot = absurd slot
finish_no_slot s (finishing.StoresDurable session) slot = absurd slot
finish_no_slot s finishing.StoresRest slot = absurd slot

pub finishes_no_slot : {X : Type 0} (shape : Shape) (p : Places) (s : KeeperState) → s.step ≡ Finishes → IsSlotAsk (keeper_ask shape p s) → X
unfolding keeping_ask
finishes_no_slot shape p s at slot = finish_no_slot s s.finish.step (subst (λ (k : Keeping). IsSlotAsk (keeping_ask shape p s k)) at slot)
