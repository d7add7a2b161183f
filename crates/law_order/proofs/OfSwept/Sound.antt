-- The keeper's sweep is sound beside the log of its life, event by event. So where the log comes to begin, it does without what lies below.
use Rattle.std.proofs.Common.{◌≡◌, inl, inr, ℕ, ◌≤◌, ◌<◌, ◌∙◌, List, [], ◌∷◌, refl, ap, sym, subst, arith, Bool, true, false, eqb-true}
use Rattle.std.specs.Prelude.{Some, if◌then◌else◌}
use Rattle.fkv_base.specs.declared.numbers.Addr.{Addr}
use Rattle.fkv_base.specs.declared.shapes.Shape.{Shape}
use Rattle.fkv_disk.specs.Bytes.{bytes_at}
use Rattle.fkv_plane.specs.Asked.{reply_to}
use Rattle.fkv_sweep.proofs.Shown.{IsSweepSound, sweep_begun_sound, sweep_failed_sound, sweep_sound_loads, sweep_sound_swept, sweep_turn_sound}
use Rattle.fkv_sweep.specs.declared.sweeping.Sweeping.{Sweeping}
use Rattle.fkv_sweep.specs.declared.sweeping.Sweeping.TheVariants.{LoadsHead}
use Rattle.fkv_sweep.specs.Sweeping.{Sweeper, piece_bytes, read_place, sweep_ask, sweep_begun, sweep_next, sweep_read, sweeping_ask}
use Rattle.fkv_sweep.specs.SweptLogs.{SweptLog}
use Rattle.law_commit.specs.Below.fkv_commit.Commit.{Commit}
use Rattle.law_commit.specs.Below.fkv_flush.GuardLevels.{levels_of}
use Rattle.law_commit.specs.Below.fkv_keeper.CheckpointLaws.{MayStep}
use Rattle.law_commit.specs.Below.fkv_keeper.Keeping.{KeeperState, is_swept, keeper_ask, may_set, sweep_set}
use Rattle.law_commit.specs.Below.fkv_keeper.KeeperRun.{Calls, KeeperEvent, Replies, keeper_happens, keeper_run}
use Rattle.law_commit.specs.Below.fkv_keeper.SlotLaws.{HasBegin}
use Rattle.law_commit.specs.Below.fkv_keeper.TheKeeping.{Keeping}
use Rattle.law_commit.specs.Below.fkv_keeper.TheKeeping.TheVariants.{Finishes, Sweeps}
use Rattle.law_commit.specs.Below.fkv_world.OwnEvents.{keeper_events, keeper_part_of}
use Rattle.law_commit.specs.Below.fkv_world.Runs.{World, read_by_keeper, run}
use Rattle.law_commit.specs.Below.fkv_world.World.{Event, Calls as CallsSession, Moves, Commits, Turns, KeeperMoves, Crashes, Now}
use Rattle.law_commit.specs.Below.law_refine.Events.GhostEvents.{life_ghosts, mapped}
use Rattle.law_commit.specs.Below.law_refine.Records.Changes.{AreChangesPublished}
use Rattle.law_commit.proofs.Below.fkv_keeper.Shown.{IsOfStore, each_move, run_of_store, sweep_moves}
use Rattle.law_commit.proofs.Below.fkv_world.Shown.{happens_keeper, keeper_runs}
use Rattle.law_commit.proofs.Below.law_refine.OfMail.GoneTold.{begin_above}
use Rattle.law_commit.proofs.Below.law_refine.OfSeen.HeadStays.{KeepsHead, head_stays}
use Rattle.law_commit.proofs.Below.law_world.OfKeeper.OwnRun.{keeper_begins}
use Rattle.law_log.specs.Begins.{Live}
use Rattle.law_log.specs.Enabled.{AreEnabled}
use Rattle.law_log.specs.Ghosts.{Log}
use Rattle.law_opening.proofs.OfChanges.OfDevice.There.{CallsLaw}
use Rattle.law_opening.specs.Changes.Fits.{CellsFit}
use Rattle.law_order.specs.Known.Begins.{BegunLife, begin_in, home_of_world}
use Rattle.law_order.specs.Swept.Logs.{swept_log}
use Rattle.law_order.specs.Swept.Sweeps.{SweepsStore}
use Rattle.law_order.proofs.OfImages.EndsFlushed.{flushed_at}
use Rattle.law_order.proofs.OfSwept.Device.{device_seen, life_read_sound}
use Rattle.law_order.proofs.OfSwept.Heads.{head_next, head_read}
use Rattle.law_order.proofs.OfSwept.Knows.{KnowsWords, begun_knows, failed_knows, knows_then, read_knows, replied_knows}
use Rattle.law_order.proofs.OfSwept.Life.{head_flushed, life_live_swept, life_sound}
use Rattle.law_order.proofs.OfSwept.Low.{IsLow, flushed_is_fixed, flushed_on, life_first, life_low, move_to}
use Rattle.law_order.proofs.OfSwept.Moves.{IsRead, IsReplied, IsSet, ReadFails, Stays, SweepMove, TurnBegins, move_of}
use Rattle.law_order.proofs.OfSwept.Replies.{reply_sound}
use Rattle.law_order.proofs.OfSwept.Told.{IsSlotAsk, IsTold, event_parts, finishes_no_slot, sweeps_leave, sweeps_no_slot, sweeps_read, sweeps_reply}

-- ---- a keeper's sweep beside a log: it is sound. While its turn is in hand it knows what the words are. The head that it has loaded is flushed.
pub record IsSoundBeside (life : BegunLife) (log : Log) (words : List Event) (flushed : ℕ) (s : KeeperState) : Type 0 where
  pub sound : IsSweepSound s.sweep (swept_log log)
  pub knows : s.step ≡ Sweeps → KnowsWords life.opening life.lists words s.sweep
  pub head : s.sweep.head.0 ≤ flushed
  -- it ends where the log is flushed
  pub to : s.sweep.to.0 ≤ flushed

module _ (life : BegunLife) where
  abbrev log_behind : List Event → Log
  log_behind events = (life_ghosts life.opening life.ghosts events).log

  abbrev keeper_behind : List Event → KeeperState
  keeper_behind events = (run life.opening events).now.keeper

  -- so it is with the keeper of a life
  abbrev pub SweepsSo : List Event → Type 0
  SweepsSo events = IsSoundBeside life (log_behind events) events (flushed_at (run life.opening events)) (keeper_behind events)

  -- ---- its sweep is of the store
  of_store : (events : List Event) → IsOfStore life.opening.now.shape life.opening.now.places (keeper_behind events).sweep
  of_store events =
      let store = life.begins.store.now.sweeps in
      subst (λ (s : KeeperState). IsOfStore life.opening.now.shape life.opening.now.places s.sweep) (sym (keeper_runs life.opening events))
      (run_of_store life.opening.now.shape life.opening.now.places life.opening.now.shape life.opening.now.places life.opening.now.keeper (keeper_events life.opening events) (record { its_shape = store.0; its_places = store.1 }))

  -- it ends at or above the log's begin
  to_on : (s : KeeperState) → HasBegin s → s.last.begin.0 ≤ s.sweep.to.0
  to_on s has = elim has.sweeps [
    | inl from ↦ (let same = ap (λ (a : Addr). a.0) from in let on = has.on in omega (arith, same, on))
    | inr done ↦ (let same = ap (λ (a : Addr). a.0) done.1 in omega (arith, same))
  ]

  its_end : (events : List Event) → begin_in life.opening ≤ (keeper_behind events).sweep.to.0
  its_end events =
      let up = begin_above life.opening events life.begins.world in
      let to = to_on (keeper_behind events) (keeper_begins life.opening events life.begins.world) in
      omega (arith, up, to)

  sweeps_store : (events : List Event) → SweepsStore life.opening (keeper_behind events).sweep
  sweeps_store events =
      let of = of_store events in
      record {
        places = of.its_places;
        buckets = ap (λ (x : Shape). x.bucket_bits) of.its_shape;
        its_end = (let end = its_end events in let some = life.begins.some_begin in omega (arith, end, some));
      }

  -- ---- at first
  pub sweeps_first : SweepsSo []
  unfolding run
  sweeps_first =
      let none = life.begins.world.keeper.none_swept in
      let s : KeeperState = life.opening.now.keeper in
      record {
        sound = subst (λ (w : Sweeper). IsSweepSound w (swept_log (log_behind []))) (sym none.2) (sweep_begun_sound none.0 none.1 s.last.begin s.last.begin (swept_log (log_behind [])));
        knows = λ at. subst (λ (w : Sweeper). KnowsWords life.opening life.lists [] w) (sym none.2) tt;
        head = (let is = ap (λ (w : Sweeper). w.head.0) none.2 in omega (arith, is));
        to = (life_low life []).to;
      }

  -- ---- by the next event
  module _ (calls : CallsLaw) (before : List Event) (event : Event) (enabled : AreEnabled (home_of_world life.opening) life.ghosts (mapped life.opening before)) (published : AreChangesPublished life.opening life.ghosts before)
      (was : CellsFit life.ghosts.log) (fits : CellsFit (log_behind before)) (its : SweepsSo before) where
    abbrev W : World
    W = run life.opening before

    abbrev N : Now
    N = W.now

    abbrev first : KeeperState
    first = N.keeper

    abbrev L : SweptLog
    L = swept_log (log_behind before)

    abbrev flushed : ℕ
    flushed = flushed_at W

    -- beside the log as it was, with the words as they are behind the event
    abbrev Between : KeeperState → Type 0
    Between a = IsSoundBeside life (log_behind before) (event ∷ before) flushed a

    store : SweepsStore life.opening first.sweep
    store = sweeps_store before

    -- a step of the sweep leaves the head as it is
    keeps_head : first.step ≡ Sweeps → (its_event : Event) → KeepsHead N its_event
    keeps_head at (KeeperMoves granted done) = sweeps_leave N.shape N.places first at (sweep_sound_loads first.sweep L its.sound)
    keeps_head at (CallsSession session call) = tt
    keeps_head at (Moves session) = tt
    keeps_head at (Commits kind) = tt
    keeps_head at Turns = tt
    keeps_head at Crashes = tt

    head_same : first.step ≡ Sweeps → (levels_of (run life.opening (event ∷ before)).now.words).head ≡ (levels_of N.words).head
    head_same at = head_stays life.opening life.start before event life.begins.store.now (keeps_head at event)

    knows_on : (w : Sweeper) → first.step ≡ Sweeps → KnowsWords life.opening life.lists before w → KnowsWords life.opening life.lists (event ∷ before) w
    knows_on w at knows = knows_then life.opening life.lists before event w life.begins.index (head_same at) knows

    -- what it is set to has nothing behind it yet
    set_sound : (s : KeeperState) (c : Commit) (set : Bool) → IsSweepSound s.sweep L → IsSweepSound (if set then sweep_begun s.sweep.shape s.sweep.places c.begin c.first else s.sweep) L
    set_sound s c true sound = sweep_begun_sound s.sweep.shape s.sweep.places c.begin c.first L
    set_sound s c false sound = sound

    set_head : (s : KeeperState) (c : Commit) (set : Bool) → s.sweep.head.0 ≤ flushed → (if set then sweep_begun s.sweep.shape s.sweep.places c.begin c.first else s.sweep).head.0 ≤ flushed
    set_head s c true low = omega arith
    set_head s c false low = low

    -- no turn of a sweep follows a finish
    none_follows : {X : Type 0} (rests : Bool) (step after : Keeping) → MayStep rests step after → step ≡ Finishes → after ≡ Sweeps → X
    none_follows rests step after may at next = absurd (by rests (subst (λ (k : Keeping). MayStep rests k Sweeps) at (subst (λ (k : Keeping). MayStep rests step k) next may)))
      where
        by : (b : Bool) → MayStep b Finishes Sweeps → ⊥
        by true may = may
        by false may = may

    -- ---- the first event of the keeper
    module _ (own : KeeperEvent) (told : IsTold N.words (read_by_keeper W) N.shape N.places first own) where
      abbrev a : KeeperState
      a = keeper_happens N.shape N.places first own

      move : SweepMove first a own
      move = move_of first a first.step own refl (sweep_moves N.shape N.places first own)

      its_to : a.sweep.to.0 ≤ flushed
      its_to = move_to flushed first a own (life_first life before) its.to move

      replied_so : (reply : ℕ) (granted : Bool) → own ≡ Replies reply granted → first.step ≡ Sweeps → reply ≡ reply_to N.words (sweep_ask first.sweep)
      replied_so reply granted e at = subst (IsTold N.words (read_by_keeper W) N.shape N.places first) e told ∙ sweeps_reply N.words N.shape N.places first at

      read_so : (bytes : List ℕ) → own ≡ Calls true bytes → first.step ≡ Sweeps → bytes ≡ bytes_at (device_seen W) (read_place first.sweep) piece_bytes
      read_so bytes e at =
          subst (IsTold N.words (read_by_keeper W) N.shape N.places first) e told
          ∙ sweeps_read (record { shape = N.shape; places = N.places; state = first }) (device_seen W) at

      -- a reply to the load of the head is the head
      loads_head : (reply : ℕ) → reply ≡ reply_to N.words (sweep_ask first.sweep) → first.sweep.step ≡ LoadsHead → reply ≤ flushed
      unfolding sweeping_ask
      loads_head reply is at =
          let loaded : reply_to N.words (sweep_ask first.sweep) ≡ (levels_of N.words).head = ap (λ (k : Sweeping). reply_to N.words (sweeping_ask first.sweep k)) at in
          let low = head_flushed life before in
          omega (arith, is, loaded, low)

      goes_by : SweepMove first a own → Between a
      goes_by (Stays left) = record {
        sound = subst (λ (w : Sweeper). IsSweepSound w L) (sym left.same) its.sound;
        knows = λ at. (let was_at = left.none_begins at in subst (KnowsWords life.opening life.lists (event ∷ before)) (sym left.same) (knows_on first.sweep was_at (its.knows was_at)));
        head = (let is = ap (λ (w : Sweeper). w.head.0) left.same in let low = its.head in omega (arith, is, low));
        to = its_to;
      }
      goes_by (TurnBegins begun) = record {
        sound = subst (λ (w : Sweeper). IsSweepSound w L) (sym begun.same) (sweep_turn_sound first.sweep L its.sound);
        knows = λ at. subst (KnowsWords life.opening life.lists (event ∷ before)) (sym begun.same) (begun_knows life.opening life.lists (event ∷ before) first.sweep);
        head = (let is = ap (λ (w : Sweeper). w.head.0) begun.same in let low = its.head in omega (arith, is, low));
        to = its_to;
      }
      goes_by (IsSet at set) = record {
        sound = subst (λ (w : Sweeper). IsSweepSound w L) (sym set.same) (set_sound first set.commit (may_set first set.commit) its.sound);
        knows = λ next. none_follows first.rests first.step a.step (each_move N.shape N.places first own).one.steps at next;
        head = (let is = ap (λ (w : Sweeper). w.head.0) set.same in let low : (sweep_set first set.commit).head.0 ≤ flushed = set_head first set.commit (may_set first set.commit) its.head in omega (arith, is, low));
        to = its_to;
      }
      goes_by (IsReplied reply granted e at is) =
          let answer : ℕ = reply_to N.words (sweep_ask first.sweep) in
          let same : reply ≡ answer = replied_so reply granted e at in
          let now : a.sweep ≡ sweep_next first.sweep answer = is ∙ ap (λ (x : ℕ). sweep_next first.sweep x) same in
          record {
            sound = subst (λ (w : Sweeper). IsSweepSound w L) (sym now) (reply_sound life before first.sweep store enabled published (its.knows at) its.sound);
            knows = λ next. subst (KnowsWords life.opening life.lists (event ∷ before)) (sym now) (knows_on (sweep_next first.sweep answer) at (replied_knows life.opening life.lists before life.begins.index first.sweep store (its.knows at)));
            head = (let there = ap (λ (w : Sweeper). w.head.0) now in let low = head_next flushed first.sweep answer (loads_head answer refl) its.head in omega (arith, there, low));
            to = its_to;
          }
      goes_by (IsRead bytes e at is) =
          let seen : List ℕ = bytes_at (device_seen W) (read_place first.sweep) piece_bytes in
          let same : bytes ≡ seen = read_so bytes e at in
          let now : a.sweep ≡ sweep_read first.sweep seen = is ∙ ap (λ (x : List ℕ). sweep_read first.sweep x) same in
          let some : 0 < first.sweep.to.0 = store.its_end in
          record {
            sound = subst (λ (w : Sweeper). IsSweepSound w L) (sym now) (life_read_sound calls life before was fits enabled first.sweep (of_store before).its_shape (its_end before) some its.to its.head its.sound);
            knows = λ next. subst (KnowsWords life.opening life.lists (event ∷ before)) (sym now) (knows_on (sweep_read first.sweep seen) at (read_knows life.opening life.lists before life.begins.index first.sweep seen store (its.knows at)));
            head = (let there = ap (λ (w : Sweeper). w.head.0) now in let low = head_read flushed first.sweep seen its.head in omega (arith, there, low));
            to = its_to;
          }
      goes_by (ReadFails at is) = record {
        sound = subst (λ (w : Sweeper). IsSweepSound w L) (sym is) (sweep_failed_sound first.sweep L its.sound);
        knows = λ next. subst (KnowsWords life.opening life.lists (event ∷ before)) (sym is) (failed_knows life.opening life.lists (event ∷ before) first.sweep);
        head = (let there = ap (λ (w : Sweeper). w.head.0) is in let low = its.head in omega (arith, there, low));
        to = its_to;
      }

      one_step : Between a
      one_step = goes_by move

    -- ---- and the second, which turns to a drain slot: so it is no step of the sweep, and no finish
    module _ (s : KeeperState) (own : KeeperEvent) (slot : IsSlotAsk (keeper_ask N.shape N.places s)) (so : Between s) where
      abbrev later_keeper : KeeperState
      later_keeper = keeper_happens N.shape N.places s own

      at_sweep : {X : Type 0} → s.step ≡ Sweeps → X
      at_sweep at = sweeps_no_slot N.shape N.places s at (sweep_sound_loads s.sweep L so.sound) slot

      goes_second : SweepMove s later_keeper own → Between later_keeper
      goes_second (Stays left) = record {
        sound = subst (λ (w : Sweeper). IsSweepSound w L) (sym left.same) so.sound;
        knows = λ at. at_sweep (left.none_begins at);
        head = (let is = ap (λ (w : Sweeper). w.head.0) left.same in let low = so.head in omega (arith, is, low));
        to = (let is = ap (λ (w : Sweeper). w.to.0) left.same in let low = so.to in omega (arith, is, low));
      }
      goes_second (TurnBegins begun) = record {
        sound = subst (λ (w : Sweeper). IsSweepSound w L) (sym begun.same) (sweep_turn_sound s.sweep L so.sound);
        knows = λ at. subst (KnowsWords life.opening life.lists (event ∷ before)) (sym begun.same) (begun_knows life.opening life.lists (event ∷ before) s.sweep);
        head = (let is = ap (λ (w : Sweeper). w.head.0) begun.same in let low = so.head in omega (arith, is, low));
        to = (let is = ap (λ (w : Sweeper). w.to.0) begun.same in let low = so.to in omega (arith, is, low));
      }
      goes_second (IsSet at set) = finishes_no_slot N.shape N.places s at slot
      goes_second (IsReplied reply granted e at is) = at_sweep at
      goes_second (IsRead bytes e at is) = at_sweep at
      goes_second (ReadFails at is) = at_sweep at

      two_steps : Between later_keeper
      two_steps = goes_second (move_of s later_keeper s.step own refl (sweep_moves N.shape N.places s own))

    -- ---- where it is nothing to the keeper
    no_step : Between first
    no_step = record { sound = its.sound; knows = λ at. knows_on first.sweep at (its.knows at); head = its.head; to = its.to }

    behind_part : Between (keeper_run N.shape N.places first (keeper_part_of W event))
    unfolding keeper_run
    behind_part =
        event_parts W event (λ own. Between (keeper_run N.shape N.places first own)) no_step (λ own told. one_step own told)
        (λ own other told slot. two_steps (keeper_happens N.shape N.places first own) other slot (one_step own told))

    pub sweeps_between : Between (keeper_behind (event ∷ before))
    unfolding run
    sweeps_between = subst Between (sym (happens_keeper W event)) behind_part

    -- where it ends all below is fixed in the log as it was
    pub sweeps_fixed : (keeper_behind (event ∷ before)).sweep.to.0 ≤ (log_behind before).fixed
    sweeps_fixed =
        let between : Between (keeper_behind (event ∷ before)) = sweeps_between in
        let to = between.to in
        let fixed = flushed_is_fixed life before in
        omega (arith, to, fixed)

    -- so it goes on to be sound as the log grows
    pub sweeps_then : AreEnabled (home_of_world life.opening) life.ghosts (mapped life.opening (event ∷ before)) → SweepsSo (event ∷ before)
    sweeps_then later =
        let w : Sweeper = (keeper_behind (event ∷ before)).sweep in
        let between : Between (keeper_behind (event ∷ before)) = sweeps_between in
        let up = flushed_on life before event in
        let fixed = flushed_is_fixed life before in
        let to = between.to in
        let head = between.head in
        let low : w.to.0 ≤ (log_behind before).fixed = omega (arith, to, fixed) in
        record {
          sound = life_sound life w (event ∷ []) before later low between.sound;
          knows = between.knows;
          head = omega (arith, head, up);
          to = omega (arith, to, up);
        }

  -- ---- where the log begins
  -- A sweep that is done began at the log's begin. Then the log does without the records below its end.
  pub sweep_live : (events : List Event) → AreEnabled (home_of_world life.opening) life.ghosts (mapped life.opening events) → SweepsSo events → Live (begin_in (run life.opening events)) (home_of_world life.opening) (log_behind events)
      → is_swept (keeper_behind events).sweep ≡ true → (keeper_behind events).sweep.from ≡ (keeper_behind events).last.begin → Live (keeper_behind events).sweep.to.0 (home_of_world life.opening) (log_behind events)
  sweep_live events enabled so live swept begun =
      let w : Sweeper = (keeper_behind events).sweep in
      let done : w.at.0 ≡ w.to.0 = eqb-true w.at.0 w.to.0 swept in
      let from : Live w.from.0 (home_of_world life.opening) (log_behind events) = subst (λ (a : Addr). Live a.0 (home_of_world life.opening) (log_behind events)) (sym begun) live in
      life_live_swept life w events enabled (ap (λ (x : Shape). x.bucket_bits) (of_store events).its_shape) done (sweep_sound_swept w (swept_log (log_behind events)) so.sound) from

  -- So it does without its records below the begin of the commit in hand, where it does without those below the newest finished one's.
  pub hand_live : (events : List Event) (c : Commit) → AreEnabled (home_of_world life.opening) life.ghosts (mapped life.opening events) → SweepsSo events
      → Live (begin_in (run life.opening events)) (home_of_world life.opening) (log_behind events) → (keeper_behind events).commit ≡ Some c → Live c.begin.0 (home_of_world life.opening) (log_behind events)
  hand_live events c enabled so live is = elim ((keeper_begins life.opening events life.begins.world).commit c is) [
    | inl same ↦ subst (λ (a : Addr). Live a.0 (home_of_world life.opening) (log_behind events)) (sym same) live
    | inr moved ↦
        subst (λ (a : Addr). Live a.0 (home_of_world life.opening) (log_behind events)) (sym moved.to) (sweep_live events enabled so live moved.swept moved.from)
  ]

  -- and what lies there is fixed
  pub hand_fixed : (events : List Event) (c : Commit) → (keeper_behind events).commit ≡ Some c → c.begin.0 ≤ (log_behind events).fixed
  hand_fixed events c is =
      let low : IsLow (flushed_at (run life.opening events)) (keeper_behind events) = life_low life events in
      let fixed = flushed_is_fixed life events in
      elim ((keeper_begins life.opening events life.begins.world).commit c is) [
        | inl same ↦ (let begin = ap (λ (a : Addr). a.0) same in let last = low.begin in omega (arith, begin, last, fixed))
        | inr moved ↦ (let begin = ap (λ (a : Addr). a.0) moved.to in let to = low.to in omega (arith, begin, to, fixed))
      ]
