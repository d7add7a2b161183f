-- Each session of a life goes by floors that aren't above the log's begin, and the log does without what lies below that. Where the begin moves a sweep has shown it.
use Rattle.std.proofs.Common.{◌≡◌, ◌⊎◌, ◌∙◌, inl, inr, ℕ, ◌≤◌, refl, ap, sym, subst, arith, List, [], ◌∷◌}
use Rattle.std.specs.Prelude.{Some, None}
use Rattle.fkv_base.specs.declared.numbers.Addr.{Addr}
use Rattle.law_commit.specs.Below.fkv_commit.Commit.{Commit}
use Rattle.law_commit.specs.Below.fkv_keeper.CheckpointLaws.{IsFinished}
use Rattle.law_commit.specs.Below.fkv_keeper.Keeping.{Finality, KeeperState, keeper_ask}
use Rattle.law_commit.specs.Below.fkv_keeper.KeeperRun.{KeeperEvent, keeper_happens, keeper_run}
use Rattle.law_commit.specs.Below.fkv_world.Runs.{run}
use Rattle.law_commit.specs.Below.fkv_world.World.{Event, Now}
use Rattle.law_commit.specs.Below.law_refine.Events.GhostEvents.{life_ghosts, mapped}
use Rattle.law_commit.specs.Below.law_refine.Seen.Floors.{GoesUpto, HaveFloorsUpto, TellsUpto, TriesUpto}
use Rattle.law_commit.proofs.Below.fkv_keeper.Shown.{each_move}
use Rattle.law_commit.proofs.Below.fkv_world.Shown.{happens_keeper}
use Rattle.law_commit.proofs.Below.law_local.OfSessions.Known.{opened_known}
use Rattle.law_commit.proofs.Below.law_refine.OfSeen.Floors.{floors_rise, floors_stay}
use Rattle.law_log.specs.Begins.{Live, StaysFromThere}
use Rattle.law_log.specs.Enabled.{AreEnabled}
use Rattle.law_log.specs.Ghosts.{Log, ghost_run}
use Rattle.law_order.specs.Known.Begins.{BegunLife, begin_in, home_of_world}
use Rattle.law_order.specs.Known.Floors.{DoesWithout, GoesByBegin}
use Rattle.law_order.proofs.OfKnown.Begins.{begin_fixed, begin_rises, first_live}
use Rattle.law_order.proofs.OfOneHistory.StaysLive.{life_stays}
use Rattle.law_order.proofs.OfSwept.Sound.{SweepsSo, hand_fixed, hand_live}
use Rattle.law_order.proofs.OfSwept.Upto.{UptoSo, hand_upto}
use Rattle.law_order.proofs.OfSwept.Told.{IsSlotAsk, event_parts, finishes_no_slot}

-- ---- as a life begins each has it as its floor, and no request
no_higher : (floor begin : Addr) → floor ≡ begin → floor.0 ≤ begin.0
no_higher floor begin same = subst (λ (a : Addr). floor.0 ≤ a.0) same (let itself : floor.0 ≤ floor.0 = omega arith in itself)

first_floors : (life : BegunLife) → HaveFloorsUpto (begin_in life.opening) life.opening.now
first_floors life session s found = record {
  own = no_higher s.floor life.opening.now.keeper.last.begin (life.begins.floors session s found);
  theirs = opened_known (GoesUpto (begin_in life.opening)) (TriesUpto (begin_in life.opening)) s (life.begins.world.sessions session s found);
}

no_commit : {X : Type 0} (c : Commit) → None ≡ Some c → X
no_commit c e = cc

pub begins_first : (life : BegunLife) → GoesByBegin life.opening life.ghosts []
unfolding run mapped ghost_run
begins_first life = record { fixed = begin_fixed life []; live = first_live life; floors = first_floors life; commit = λ c is. no_commit c (sym life.begins.world.keeper.no_commit ∙ is) }

-- ---- by each event
module _ (life : BegunLife) (before : List Event) (event : Event) where
  abbrev H : ℕ → ℕ
  H = home_of_world life.opening

  abbrev log_behind : List Event → Log
  log_behind events = (life_ghosts life.opening life.ghosts events).log

  abbrev N : Now
  N = (run life.opening before).now

  -- the newest finished commit stays, or it is the one that was in hand
  record CameFrom (s a : KeeperState) : Type 0 where
    begin : (a.last.begin ≡ s.last.begin) ⊎ ((c : Commit) × (s.commit ≡ Some c) × (a.last.begin ≡ c.begin))

  same_from : (s : KeeperState) → CameFrom s s
  same_from s = record { begin = inl refl }

  lists_from : (s a : KeeperState) → ((a.last ≡ s.last) × (a.lost ≡ s.lost)) ⊎ ((c : Commit) × (s.commit ≡ Some c) × IsFinished s a c) → CameFrom s a
  lists_from s a (inl same) = record { begin = inl (ap (λ (l : Finality). l.begin) same.0) }
  lists_from s a (inr ends) = record { begin = inr (ends.0, ends.1, (let over = ends.2 in ap (λ (l : Finality). l.begin) over.last)) }

  one_from : (s : KeeperState) (own : KeeperEvent) → CameFrom s (keeper_happens N.shape N.places s own)
  one_from s own = lists_from s (keeper_happens N.shape N.places s own) (each_move N.shape N.places s own).lists.lists

  -- a second event of the keeper turns to a drain slot, so it finishes none
  slot_same : (s a : KeeperState) → IsSlotAsk (keeper_ask N.shape N.places s) → ((a.last ≡ s.last) × (a.lost ≡ s.lost)) ⊎ ((c : Commit) × (s.commit ≡ Some c) × IsFinished s a c) → a.last.begin ≡ s.last.begin
  slot_same s a slot (inl same) = ap (λ (l : Finality). l.begin) same.0
  slot_same s a slot (inr ends) = (let over = ends.2 in finishes_no_slot N.shape N.places s over.finishes slot)

  on_from : (s mid a : KeeperState) → CameFrom s mid → a.last.begin ≡ mid.last.begin → CameFrom s a
  on_from s mid a from same = elim from.begin [
    | inl stays ↦ record { begin = inl (same ∙ stays) }
    | inr ends ↦ record { begin = inr (ends.0, ends.1, same ∙ ends.2) }
  ]

  two_from : (s : KeeperState) (own other : KeeperEvent) → IsSlotAsk (keeper_ask N.shape N.places (keeper_happens N.shape N.places s own)) → CameFrom s (keeper_happens N.shape N.places (keeper_happens N.shape N.places s own) other)
  two_from s own other slot =
      let mid : KeeperState = keeper_happens N.shape N.places s own in
      let a : KeeperState = keeper_happens N.shape N.places mid other in
      on_from s mid a (one_from s own) (slot_same mid a slot (each_move N.shape N.places mid other).lists.lists)

  came_from : CameFrom N.keeper (run life.opening (event ∷ before)).now.keeper
  unfolding run keeper_run
  came_from =
      subst (CameFrom N.keeper) (sym (happens_keeper (run life.opening before) event))
      (event_parts (run life.opening before) event (λ own. CameFrom N.keeper (keeper_run N.shape N.places N.keeper own)) (same_from N.keeper) (λ own told. one_from N.keeper own) (λ own other told slot. two_from N.keeper own other slot))

  -- so the log as it was does without what lies below the begin of now
  pub begin_was : GoesByBegin life.opening life.ghosts before → DoesWithout (begin_in (run life.opening (event ∷ before))) H (log_behind before)
  begin_was its = elim (let from = came_from in from.begin) [
    | inl same ↦ subst (λ (a : Addr). DoesWithout a.0 H (log_behind before)) (sym same) (record { fixed = its.fixed; live = its.live })
    | inr ends ↦ subst (λ (a : Addr). DoesWithout a.0 H (log_behind before)) (sym ends.2) ((its.commit ends.0 ends.1).its)
  ]

  -- and whoever is told of a begin is told of none above it
  pub begins_then : StaysFromThere Live → AreEnabled H life.ghosts (mapped life.opening (event ∷ before)) → TellsUpto (begin_in (run life.opening before)) N → GoesByBegin life.opening life.ghosts before → SweepsSo life (event ∷ before) → UptoSo life (event ∷ before)
      → GoesByBegin life.opening life.ghosts (event ∷ before)
  begins_then stays enabled tells its sweeps upto =
      let was : DoesWithout (begin_in (run life.opening (event ∷ before))) H (log_behind before) = begin_was its in
      let live : Live (begin_in (run life.opening (event ∷ before))) H (log_behind (event ∷ before)) =
      life_stays life Live (begin_in (run life.opening (event ∷ before))) (event ∷ []) before stays enabled was.fixed was.live in
      record {
        fixed = begin_fixed life (event ∷ before);
        live = live;
        floors = floors_rise (begin_in (run life.opening before)) (begin_in (run life.opening (event ∷ before))) (run life.opening (event ∷ before)).now (begin_rises life (event ∷ []) before)
            (floors_stay (begin_in (run life.opening before)) life.opening before event tells its.floors);
        commit = λ c is. record { its = record { fixed = hand_fixed life (event ∷ before) c is; live = hand_live life (event ∷ before) c enabled sweeps live is }; upto = hand_upto life (event ∷ before) c upto is };
      }
