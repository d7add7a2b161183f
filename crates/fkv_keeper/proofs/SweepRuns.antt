-- The sweep and the begins over a whole run: what holds of every sweep holds of the keeper's, and the log's begin never goes back.
use Rattle.std.proofs.Common.{◌≡◌, ◌≤◌, ◌∙◌, ◌⊎◌, inl, inr, ℕ, List, [], ◌∷◌, ◌++◌, ◌^◌, refl, ap, sym, subst, arith, Bool, true, false}
use Rattle.std.proofs.lemmas.Bool.Decides.{nat_tests}
use Rattle.std.specs.Prelude.{Some, ◌==◌, ◌||◌, nat_le, not, if◌then◌else◌}
use Rattle.fkv_base.specs.Limits.{is_specified}
use Rattle.fkv_base.specs.declared.numbers.Addr.{Addr}
use Rattle.fkv_base.specs.declared.shapes.Shape.{Shape}
use Rattle.fkv_record.specs.declared.lost_ranges.LostRange.{LostRange}
use Rattle.fkv_plane.specs.declared.places.Places.{Places}
use Rattle.fkv_commit.specs.declared.commits.Commit.{Commit}
use Rattle.fkv_sweep.proofs.Shown.{IsLoading, IsSameSweep, IsWithin, sweep_begun_loading, sweep_begun_within, sweep_failed_goes, sweep_failed_loading, sweep_failed_same, sweep_next_goes, sweep_next_loading, sweep_next_same, sweep_read_goes, sweep_read_loading, sweep_read_same, sweep_turn_goes, sweep_turn_loading, sweep_turn_same}
use Rattle.fkv_sweep.specs.Sweeping.{Sweeper, sweep_begun, sweep_failed, sweep_next, sweep_read, turn_begun}
use Rattle.fkv_keeper.specs.declared.keepers.Keeping.{Keeping}
use Rattle.fkv_keeper.specs.declared.keepers.Keeping.TheVariants.{Ended, Starts, Maintains, LoadsPhase, Enters, Copies, Seeks, Waits, Writes, Finishes, Sweeps}
use Rattle.fkv_keeper.specs.CheckpointLaws.{IsFinished}
use Rattle.fkv_keeper.specs.Keeping.{Finality, KeeperModel, KeeperState, is_full, may_set, sweep_set}
use Rattle.fkv_keeper.specs.KeeperRun.{BeginsCommit, BeginsTurn, Calls, Gets, IsOpened, KeeperEvent, Replies, keeper_happens, keeper_run}
use Rattle.fkv_keeper.specs.NewKeepers.{IsNewKeeper}
use Rattle.fkv_keeper.specs.SlotLaws.{HasBegin, HasMoved}
use Rattle.fkv_keeper.specs.SweepLaws.{IsSweepAfter, IsSweepBegun, IsSweepLeft, IsSweepSet}
use Rattle.fkv_keeper.proofs.BeginMoves.{fourth_true, run_begins}
use Rattle.fkv_keeper.proofs.CheckpointMoves.{each_move}
use Rattle.fkv_keeper.proofs.SweepMoves.{sweep_moves}

-- A property of a sweep that each step of it keeps, and each one that begins has.
pub record IsKept (P : Sweeper → Type 0) : Type 0 where
  pub turn : (w : Sweeper) → P w → P (turn_begun w)
  pub next : (w : Sweeper) (reply : ℕ) → P w → P (sweep_next w reply)
  pub read : (w : Sweeper) (bytes : List ℕ) → P w → P (sweep_read w bytes)
  pub failed : (w : Sweeper) → P w → P (sweep_failed w)
  pub begun : (w : Sweeper) (from to : Addr) → from.0 ≤ to.0 → P w → P (sweep_begun w.shape w.places from to)

module _ (P : Sweeper → Type 0) where
  set_kept : (s : KeeperState) (c : Commit) → IsKept P → P s.sweep → P (sweep_set s c)
  set_kept s c kept was = cases (may_set s c) refl
    where
      cases : (b : Bool) → may_set s c ≡ b → P (if b then sweep_begun s.sweep.shape s.sweep.places c.begin c.first else s.sweep)
      cases true set =
          let t = fourth_true (not (is_specified s.start.asked.class)) (is_full c.kind) (s.sweep.at.0 == s.sweep.from.0 || s.sweep.to.0 == c.begin.0) (nat_le c.begin.0 c.first.0) (nat_le c.first.0 (2 ^ 48)) set in
          kept.begun s.sweep c.begin c.first (grind (arith, nat_tests, t)) was
      cases false none = was

  same_kept : (w after : Sweeper) → after ≡ w → P w → P after
  same_kept w after same was = subst P (sym same) was

  left_kept : (s a : KeeperState) → IsSweepLeft s a → P s.sweep → P a.sweep
  left_kept s a left was = same_kept s.sweep a.sweep left.same was

  begun_kept : (s a : KeeperState) → IsKept P → IsSweepLeft s a ⊎ IsSweepBegun s a → P s.sweep → P a.sweep
  begun_kept s a kept (inl left) was = left_kept s a left was
  begun_kept s a kept (inr begun) was = same_kept (turn_begun s.sweep) a.sweep begun.same (kept.turn s.sweep was)

  finish_kept : (s a : KeeperState) → IsKept P → IsSweepLeft s a ⊎ IsSweepSet s a → P s.sweep → P a.sweep
  finish_kept s a kept (inl left) was = left_kept s a left was
  finish_kept s a kept (inr set) was = same_kept (sweep_set s set.commit) a.sweep set.same (set_kept s set.commit kept was)

  reply_kept : (s a : KeeperState) (step : Keeping) (reply : ℕ) (granted : Bool) → IsKept P → IsSweepAfter (Replies reply granted) step s a → P s.sweep → P a.sweep
  reply_kept s a Sweeps reply granted kept after was = same_kept (sweep_next s.sweep reply) a.sweep after (kept.next s.sweep reply was)
  reply_kept s a LoadsPhase reply granted kept after was = begun_kept s a kept after was
  reply_kept s a Finishes reply granted kept after was = finish_kept s a kept after was
  reply_kept s a (Ended its) reply granted kept after was = left_kept s a after was
  reply_kept s a Starts reply granted kept after was = left_kept s a after was
  reply_kept s a Maintains reply granted kept after was = left_kept s a after was
  reply_kept s a Enters reply granted kept after was = left_kept s a after was
  reply_kept s a Copies reply granted kept after was = left_kept s a after was
  reply_kept s a Seeks reply granted kept after was = left_kept s a after was
  reply_kept s a Waits reply granted kept after was = left_kept s a after was
  reply_kept s a Writes reply granted kept after was = left_kept s a after was

  called_kept : (s a : KeeperState) (step : Keeping) (done : Bool) (bytes : List ℕ) → IsKept P → IsSweepAfter (Calls done bytes) step s a → P s.sweep → P a.sweep
  called_kept s a Sweeps true bytes kept after was = same_kept (sweep_read s.sweep bytes) a.sweep after (kept.read s.sweep bytes was)
  called_kept s a Sweeps false bytes kept after was = same_kept (sweep_failed s.sweep) a.sweep after (kept.failed s.sweep was)
  called_kept s a step true bytes kept after was = left_kept s a after was
  called_kept s a step false bytes kept after was = left_kept s a after was

  after_kept : (s a : KeeperState) (step : Keeping) (event : KeeperEvent) → IsKept P → IsSweepAfter event step s a → P s.sweep → P a.sweep
  after_kept s a step BeginsTurn kept after was = left_kept s a after was
  after_kept s a step (BeginsCommit kind) kept after was = left_kept s a after was
  after_kept s a step (Replies reply granted) kept after was = reply_kept s a step reply granted kept after was
  after_kept s a step (Gets action) kept after was = left_kept s a after was
  after_kept s a step (Calls done bytes) kept after was = called_kept s a step done bytes kept after was

  pub sweep_kept : (shape : Shape) (p : Places) (s : KeeperState) (event : KeeperEvent) → IsKept P → P s.sweep → P (keeper_happens shape p s event).sweep
  sweep_kept shape p s event kept was = after_kept s (keeper_happens shape p s event) s.step event kept (sweep_moves shape p s event) was

  pub run_kept : (shape : Shape) (p : Places) (opening : KeeperState) (events : List KeeperEvent) → IsKept P → P opening.sweep → P (keeper_run shape p opening events).sweep
  unfolding keeper_run
  run_kept shape p opening [] kept was = was
  run_kept shape p opening (event ∷ before) kept was = sweep_kept shape p (keeper_run shape p opening before) event kept (run_kept shape p opening before kept was)

-- it stays within its records
within_kept : IsKept IsWithin
within_kept = record {
  turn = λ w was. (sweep_turn_goes w was).within;
  next = λ w reply was. (sweep_next_goes w reply was).within;
  read = λ w bytes was. (sweep_read_goes w bytes was).within;
  failed = λ w was. (sweep_failed_goes w was).within;
  begun = λ w from to low was. sweep_begun_within w.shape w.places from to low;
}

pub run_within : (shape : Shape) (p : Places) (opening : KeeperState) (events : List KeeperEvent) → IsOpened opening → IsWithin (keeper_run shape p opening events).sweep
run_within shape p opening events opened =
    run_kept IsWithin shape p opening events within_kept (subst IsWithin (sym opened.none_swept.2) (sweep_begun_within opened.none_swept.0 opened.none_swept.1 opening.last.begin opening.last.begin (omega arith)))

-- its search is one for a read
loading_kept : IsKept IsLoading
loading_kept = record { turn = sweep_turn_loading; next = sweep_next_loading; read = sweep_read_loading; failed = sweep_failed_loading; begun = λ w from to low was. sweep_begun_loading w.shape w.places from to }

pub run_loading : (shape : Shape) (p : Places) (opening : KeeperState) (events : List KeeperEvent) → IsOpened opening → IsLoading (keeper_run shape p opening events).sweep
run_loading shape p opening events opened =
    run_kept IsLoading shape p opening events loading_kept (subst IsLoading (sym opened.none_swept.2) (sweep_begun_loading opened.none_swept.0 opened.none_swept.1 opening.last.begin opening.last.begin))

-- it is of the same store
pub record IsOfStore (shape : Shape) (p : Places) (w : Sweeper) : Type 0 where
  pub its_shape : w.shape ≡ shape
  pub its_places : w.places ≡ p

of_store : (shape : Shape) (p : Places) (w after : Sweeper) → IsSameSweep w after → IsOfStore shape p w → IsOfStore shape p after
of_store shape p w after same its = record { its_shape = same.shape ∙ its.its_shape; its_places = same.places ∙ its.its_places }

store_kept : (shape : Shape) (p : Places) → IsKept (IsOfStore shape p)
store_kept shape p = record {
  turn = λ w was. of_store shape p w (turn_begun w) (sweep_turn_same w) was;
  next = λ w reply was. of_store shape p w (sweep_next w reply) (sweep_next_same w reply) was;
  read = λ w bytes was. of_store shape p w (sweep_read w bytes) (sweep_read_same w bytes) was;
  failed = λ w was. of_store shape p w (sweep_failed w) (sweep_failed_same w) was;
  begun = λ w from to low was. record { its_shape = was.its_shape; its_places = was.its_places };
}

pub run_of_store : (its : Shape) (places : Places) (shape : Shape) (p : Places) (opening : KeeperState) (events : List KeeperEvent) → IsOfStore its places opening.sweep → IsOfStore its places (keeper_run shape p opening events).sweep
run_of_store its places shape p opening events was = run_kept (IsOfStore its places) shape p opening events (store_kept its places) was

-- as it is for a new keeper
pub new_of_store : (shape : Shape) (last : Finality) (lost : List LostRange) (k : KeeperModel) → IsNewKeeper shape last lost k → IsOfStore k.shape k.places k.state.sweep
new_of_store shape last lost k its = record { its_shape = ap (λ (w : Sweeper). w.shape) its.none_swept; its_places = ap (λ (w : Sweeper). w.places) its.none_swept }

-- ---- the log's begin never goes back
-- that of the commit in hand is at or above that of the newest finished one
pub in_hand_on : (s : KeeperState) (c : Commit) → HasBegin s → s.commit ≡ Some c → s.last.begin.0 ≤ c.begin.0
in_hand_on s c has in_hand = on (has.commit c in_hand)
  where
    on : (c.begin ≡ s.last.begin) ⊎ HasMoved s c → s.last.begin.0 ≤ c.begin.0
    on (inl same) = let e = ap (λ (a : Addr). a.0) same in omega (arith, e)
    on (inr moved) = moved.on

pub event_on : (shape : Shape) (p : Places) (s : KeeperState) (event : KeeperEvent) → HasBegin s → s.last.begin.0 ≤ (keeper_happens shape p s event).last.begin.0
event_on shape p s event has = on (each_move shape p s event).lists.lists
  where
    a : KeeperState
    a = keeper_happens shape p s event

    on : ((a.last ≡ s.last) × (a.lost ≡ s.lost)) ⊎ ((c : Commit) × (s.commit ≡ Some c) × IsFinished s a c) → s.last.begin.0 ≤ a.last.begin.0
    on (inl same) = let e = ap (λ (l : Finality). l.begin.0) same.0 in omega (arith, e)
    on (inr (c, in_hand, finished)) = let e = ap (λ (l : Finality). l.begin.0) finished.last in let low = in_hand_on s c has in_hand in omega (arith, e, low)

pub run_on : (shape : Shape) (p : Places) (opening : KeeperState) (later before : List KeeperEvent) → IsOpened opening
    → (keeper_run shape p opening before).last.begin.0 ≤ (keeper_run shape p opening (later ++ before)).last.begin.0
unfolding keeper_run
run_on shape p opening [] before opened = omega arith
run_on shape p opening (event ∷ later) before opened =
    let low = run_on shape p opening later before opened in
    let next = event_on shape p (keeper_run shape p opening (later ++ before)) event (run_begins shape p opening (later ++ before) opened) in
    omega (arith, low, next)
