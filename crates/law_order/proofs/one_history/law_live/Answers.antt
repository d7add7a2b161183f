-- By the rules that each life keeps: its log is in order, and has nothing below the begin that the store was opened with. What is new lies at the tail.
use Rattle.std.proofs.Common.{◌≡◌, ◌∙◌, ℕ, ◌++◌, List, subst, sym, ap, inl, inr}
use Rattle.law_opening.specs.Below.fkv_core.Openings.{beginning}
use Rattle.law_opening.specs.Log.Maps.{opening_map}
use Rattle.law_opening.specs.Log.OpeningLog.{opening_ghosts}
use Rattle.law_order.specs.Decided.Cut.{log_beside}
use Rattle.law_order.specs.OneHistory.EachLife.{IsLife, Life}
use Rattle.law_order.specs.Ordered.Keeps.{KeepsItsOrder}
use Rattle.law_order.specs.Recovered.Leaves.{homes_of}
use Rattle.law_order.proofs.OfOneHistory.EachLife.{begun_life}
use Rattle.law_order.proofs.OfOneHistory.StaysLive.{life_stays, life_upto}
use Rattle.law_order.proofs.OfRecovered.OfShows.Order.{in_order}
use Rattle.law_order.proofs.OfRules.WaitingInTime.{life_before}
use Rattle.law_commit.specs.Below.fkv_keeper.Keeping.{Finality}
use Rattle.law_commit.specs.Below.fkv_world.World.{Event}
use Rattle.law_commit.specs.Below.law_refine.Events.GhostEvents.{mapped}
use Rattle.law_commit.specs.Below.law_paper.Paper.Images.{IsOrderly}
use Rattle.law_commit.specs.Decided.Ended.{Span}
use Rattle.law_commit.specs.Versions.Laws.{version_now}
use Rattle.law_log.specs.Begins.{Live, LiveUpto}
use Rattle.law_opening.specs.Log.Lives.{KeepsRules}
use Rattle.law_order.proofs.one_history.law_live.Goals as goal

pub returns-clause-opened : goal.returns-clause-opened
returns-clause-opened c = λ its is.
    let o = its.opened in
    let n = its.world in
    let life = c.law_life_begins.ensures its.bytes o n is.store is.begins in
    let log = log_beside o n its.bytes its.events in
    let orderly : IsOrderly (homes_of n) log =
    in_order (homes_of n) (opening_map its.bytes o) o.number.0 (opening_ghosts its.bytes o) (mapped (beginning n its.bytes) its.events) life.log (c.law_lives_keep_rules.ensures its is) in
    let live = c.law_live_stays.ensures.above (homes_of n) o.begin.0 log orderly.chains orderly.none (c.law_lives_are_above.ensures o n its.bytes its.events is.store is.begins) in
    record { now = live.0; upto = live.1 }

pub returns-clause-stays : goal.returns-clause-stays
returns-clause-stays c = λ its is.
    let o = its.opened in
    let n = its.world in
    let bytes = its.bytes in
    let life = begun_life c.law_life_begins.ensures its is in
    let keeps : (later before : List Event) → its.events ≡ later ++ before → KeepsRules o n bytes (later ++ before) =
    λ later before cut. subst (KeepsRules o n bytes) cut (c.law_lives_keep_rules.ensures its is) in
    record {
      now = λ begin later before cut fixed live.
          subst (λ (events : List Event). Live begin (homes_of n) (log_beside o n bytes events)) (sym cut)
          (life_stays life Live begin later before c.law_live_stays.ensures.stays (keeps later before cut) fixed live);
      upto = λ version begin later before cut fixed live.
          subst (λ (events : List Event). LiveUpto version begin (homes_of n) (log_beside o n bytes events)) (sym cut)
          (life_stays life (LiveUpto version) begin later before (c.law_live_stays.ensures.versions version) (keeps later before cut) fixed live);
      gives_upto = λ version begin later before cut fixed low live.
          let cells = c.law_lives_bound_versions.ensures.cells bytes o n before is.store is.begins in
          let upto = life_upto life (version_now (beginning n bytes) before) version begin later before c.law_live_stays.ensures.rest (keeps later before cut) cells low live in
          subst (λ (events : List Event). LiveUpto version begin (homes_of n) (log_beside o n bytes events)) (sym cut)
          (life_stays life (LiveUpto version) begin later before (c.law_live_stays.ensures.versions version) (keeps later before cut) fixed upto);
    }

-- where a commit is written, it is in hand. So its log begins where the sweep has shown that it may.
pub returns-clause-commits : goal.returns-clause-commits
returns-clause-commits c = λ its is d there.
    let o = its.opened in
    let n = its.world in
    let bytes = its.bytes in
    elim (c.law_commits_ended.ensures (beginning n bytes) o.tail.0 its.events d (c.law_ends_open.ensures bytes o n is.store is.begins) there) [
      | inl ended ↦
          let had = ended.written in
          let was = had.was in
          let hand = was.commit in
          let number : d.number.0 ≡ hand.number.0 = ap (λ (x : Span). x.number.0) was.its in
          let begin : d.parts.begin.0 ≡ hand.begin.0 = ap (λ (x : Span). x.begin.0) was.its in
          let short : Life = record { bytes = bytes; opened = o; world = n; events = had.moment } in
          let keeps : KeepsItsOrder o n bytes had.moment = c.law_lives_keep_order.ensures short (life_before bytes o n had.later had.moment (subst (λ (events : List Event). IsLife (record { bytes = bytes; opened = o; world = n; events = events })) had.split is)) in
          let without = keeps.begin.commit hand was.in_hand in
          let now : LiveUpto hand.number.0 hand.begin.0 (homes_of n) (log_beside o n bytes its.events) =
          (returns-clause-stays c its is).upto hand.number.0 hand.begin.0 had.later had.moment had.split without.its.fixed without.upto in
          subst (λ (v : ℕ). LiveUpto v d.parts.begin.0 (homes_of n) (log_beside o n bytes its.events)) (sym number)
          (subst (λ (b : ℕ). LiveUpto hand.number.0 b (homes_of n) (log_beside o n bytes its.events)) (sym begin) now)
      | inr opened ↦
          let begin : d.parts.begin.0 ≡ o.begin.0 = ap (λ (x : Span). x.begin.0) opened ∙ ap (λ (last : Finality). last.begin.0) is.begins.its_keeper.newest in
          subst (λ (b : ℕ). LiveUpto d.number.0 b (homes_of n) (log_beside o n bytes its.events)) (sym begin) ((returns-clause-opened c its is).upto d.number.0)
    ]
