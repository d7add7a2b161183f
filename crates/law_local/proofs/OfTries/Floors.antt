-- What a floor cuts off reads as absent, and stays so as the log grows.
use Rattle.std.proofs.Common.{◌≡◌, ◌≢◌, ◌⊎◌, inl, inr, ⊎_elim, ℕ, zero, suc, ◌<◌, ◌≤◌, None, refl, sym, ap, subst, ◌∙◌, arith}
use Rattle.std.proofs.lemmas.Bool.{cases_lt}
use Rattle.fkv_map.specs.Map.{Map, absent_word}
use Rattle.fkv_index.specs.Slots.{entry_addr}
use Rattle.fkv_ops.specs.Walking.{WalkState}
use Rattle.fkv_ops.specs.declared.requests.Request.{Request}
use Rattle.fkv_begin.specs.Begin.{from_or_none}
use Rattle.fkv_begin.proofs.Shown.{from_below, from_on}
use Rattle.law_log.specs.Begins.{IsWalkLive}
use Rattle.law_log.specs.Chains.{Cell, Published, value_at, head_of, IsWithin}
use Rattle.law_log.specs.Ghosts.{Log}
use Rattle.law_log.specs.Enabled.{IsFixed}
use Rattle.law_log.proofs.Shown.{Held, Grows, absent_below, first_from_none, head_within, walk_along, walk_begins}
use Rattle.law_local.specs.Tries.Floors.{HasFloor, ComesLive, FindsAbsent, GoesOnByFloor}
use Rattle.law_local.specs.Tries.WalkRows.{begin_of}
use Rattle.law_local.specs.Tries.OnWay.{IsOnWay, ComesBelow, FindsNone, IsOrderly}
use Rattle.law_local.specs.Tries.TryRows.{floor_in, key_in, first_of, KnowsOld, WalkIsLive}
use Rattle.law_local.proofs.OfTries.OnWay.{in_chain, goes_on, linked_low, none_at_end, below_grows, fixed_grows, first_grows, value_grows, within_grows}
use Rattle.law_local.proofs.OfTries.Lows.{first_low}
use Rattle.law_local.proofs.OfTries.Made.{same_old}

module _ (home : ℕ → ℕ) (log : Log) (orderly : IsOrderly home log) where
  -- where there is no record of the key it reads as absent
  pub none_is_absent : (key from : ℕ) → FindsNone home log key from → FindsAbsent home log key from
  none_is_absent key from finds = record {
    begins = finds.begins;
    fixed = subst (IsFixed log) (sym finds.none) orderly.some_fixed;
    absent = ap (λ (a : ℕ). value_at (log.cells a)) finds.none ∙ ap value_at orderly.none;
  }

  module _ (floor : ℕ) (fixed : floor ≤ log.fixed) where
    -- a way that has come below its floor has met no record that counts
    pub way_is_absent : (key from to : ℕ) → IsOnWay home log key from to → to < floor → IsWalkLive floor home log key from → FindsAbsent home log key from
    way_is_absent key from to way low live =
        let same = way.same in
        let first = first_low home log key to orderly.chains in
        let at : IsWalkLive floor home log key to = subst (λ (a : ℕ). (floor ≤ a) ⊎ (value_at (log.cells a) ≡ None)) same live in
        record {
          begins = way.begins;
          fixed = omega (arith, same, first, low, fixed);
          absent = ap (λ (a : ℕ). value_at (log.cells a)) same ∙ absent_below home floor log key to orderly.chains orderly.none low at;
        }

    pub below_is_absent : (key from to low : ℕ) → ComesLive home log floor key from to low → to < floor → FindsAbsent home log key from
    below_is_absent key from to low comes under = way_is_absent key from to comes.comes.way under comes.live

    -- behind a record of another key one goes on by what its header says
    pub goes_by_floor : (key from at low said : ℕ) (cell : Cell) → ComesLive home log floor key from at low → log.cells at ≡ Published cell → cell.key ≢ key → from_or_none floor said ≡ from_or_none floor cell.previous
        → GoesOnByFloor home log floor key from said low
    goes_by_floor key from at low said cell comes its other same = ⊎_elim
        (λ under. inl (same ∙ from_below floor cell.previous under, way_is_absent key from cell.previous way under comes.live))
        (λ on. ⊎_elim
        (λ end. inl (from_below floor said end, by_number (from_on floor cell.previous on) (sym same ∙ from_below floor said end)))
        (λ above. goes (sym (from_on floor said above) ∙ same ∙ from_on floor cell.previous on) cell.previous refl)
        (cases_lt said floor))
        (cases_lt cell.previous floor)
      where
        way : IsOnWay home log key from cell.previous
        way = goes_on home log key from at cell orderly.chains comes.comes.way comes.comes.some its other

        lower : cell.previous < at
        lower = linked_low log.cells (log.chains (home key)) (orderly.chains.linked (home key)) at cell (in_chain at (log.chains (home key)) comes.comes.way.within comes.comes.some) its

        ends : cell.previous ≡ 0 → FindsAbsent home log key from
        ends none = none_is_absent key from (none_at_end home log key from orderly.chains (subst (IsOnWay home log key from) none way))

        by_number : from_or_none floor cell.previous ≡ cell.previous → from_or_none floor cell.previous ≡ 0 → FindsAbsent home log key from
        by_number is none = ends (sym is ∙ none)

        goes : said ≡ cell.previous → (n : ℕ) → cell.previous ≡ n → GoesOnByFloor home log floor key from said low
        goes is zero none = inl (same ∙ ap (from_or_none floor) none ∙ nowhere, ends none)
          where
            nowhere : from_or_none floor 0 ≡ 0
            nowhere = ⊎_elim (λ under. from_below floor 0 under) (λ on. from_on floor 0 on) (cases_lt 0 floor)
        goes is (suc n) some = inr (record {
          comes = record {
            way = subst (IsOnWay home log key from) (sym is) way;
            some = omega (arith, is, some);
            below = (let low_at = comes.comes.below in let falls = lower in omega (arith, is, low_at, falls));
          };
          live = comes.live;
        })

  -- where the key reads as absent a new record is made of that
  pub absent_old : (request : Request) (from : ℕ) → FindsAbsent home log (key_in request) from → KnowsOld home log request from absent_word
  absent_old request from finds = record {
    begins = finds.begins;
    fixed = finds.fixed;
    its_old = same_old request.op absent_word (value_at (log.cells (first_of home log request from))) (sym finds.absent);
  }

  -- a walk that comes to the device does without the records below the floor, also where it has found no entry
  pub walk_comes : (request : Request) (w : WalkState) (to low : ℕ) → WalkIsLive home log request w → ComesBelow home log (key_in request) (begin_of w) to low → ComesLive home log (floor_in request) (key_in request) (begin_of w) to low
  walk_comes request w to low (inl none) comes = record { comes = comes; live = subst (IsWalkLive (floor_in request) home log (key_in request)) (sym (ap entry_addr none)) at_none }
    where
      at_none : IsWalkLive (floor_in request) home log (key_in request) 0
      at_none = inr (ap (λ (a : ℕ). value_at (log.cells a)) (first_from_none home log (key_in request) orderly.chains) ∙ ap value_at orderly.none)
  walk_comes request w to low (inr its) comes = record { comes = comes; live = its.1 }

-- a walk begins so, at the head of its chain
pub begins_live : (home : ℕ → ℕ) (log : Log) (floor key at : ℕ) → HasFloor home log floor → at ≡ head_of (log.chains (home key)) → IsWalkLive floor home log key at
begins_live home log floor key at has is = subst (IsWalkLive floor home log key) (sym is) (walk_begins home floor floor log key (itself floor) has.live)
  where
    itself : (n : ℕ) → n ≤ n
    itself n = omega arith

pub begins_at_head : (home : ℕ → ℕ) (log : Log) (request : Request) (w : WalkState) → HasFloor home log (floor_in request) → begin_of w ≡ head_of (log.chains (home (key_in request))) → WalkIsLive home log request w
begins_at_head home log request w has is = inr (
  subst (λ (a : ℕ). IsWithin a (log.chains (home (key_in request)))) (sym is) (head_within (log.chains (home (key_in request)))),
  begins_live home log (floor_in request) (key_in request) (begin_of w) has is,
)

-- ---- as the log grows
pub absent_grows : (home : ℕ → ℕ) (m : Map) (log log' : Log) (key from : ℕ) → Held home m log → Grows home m log log' → FindsAbsent home log key from → FindsAbsent home log' key from
absent_grows home m log log' key from held grows finds = record {
  begins = within_grows home m log log' (home key) from grows finds.begins;
  fixed = subst (IsFixed log') (sym (first_grows home m log log' key from held grows finds.begins)) (fixed_grows home m log log' _ grows finds.fixed);
  absent = value_grows home m log log' key from held grows finds.begins finds.fixed ∙ finds.absent;
}

pub comes_live_grows : (home : ℕ → ℕ) (m : Map) (log log' : Log) (floor key from to low : ℕ) → Held home m log → Grows home m log log' → floor ≤ log.fixed → ComesLive home log floor key from to low → ComesLive home log' floor key from to low
comes_live_grows home m log log' floor key from to low held grows fixed comes = record {
  comes = below_grows home m log log' key from to low held grows comes.comes;
  live = walk_along home m log log' held.chains held.none grows floor key from fixed comes.comes.way.begins comes.live;
}

pub walk_live_grows : (home : ℕ → ℕ) (m : Map) (log log' : Log) (request : Request) (w : WalkState) → Held home m log → Grows home m log log' → floor_in request ≤ log.fixed → WalkIsLive home log request w → WalkIsLive home log' request w
walk_live_grows home m log log' request w held grows fixed (inl none) = inl none
walk_live_grows home m log log' request w held grows fixed (inr its) = inr (
  within_grows home m log log' (home (key_in request)) (begin_of w) grows its.0,
  walk_along home m log log' held.chains held.none grows (floor_in request) (key_in request) (begin_of w) fixed its.0 its.1,
)

pub goes_on_grows : (home : ℕ → ℕ) (m : Map) (log log' : Log) (floor key from said low : ℕ) → Held home m log → Grows home m log log' → floor ≤ log.fixed → GoesOnByFloor home log floor key from said low → GoesOnByFloor home log' floor key from said low
goes_on_grows home m log log' floor key from said low held grows fixed (inl ends) = inl (ends.0, absent_grows home m log log' key from held grows ends.1)
goes_on_grows home m log log' floor key from said low held grows fixed (inr comes) = inr (comes_live_grows home m log log' floor key from said low held grows fixed comes)
