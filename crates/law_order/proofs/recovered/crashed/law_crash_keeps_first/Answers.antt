-- By the law of prefixes, of the life that is worked out.
use Rattle.std.proofs.Common.{◌≡◌, ◌∙◌, ap, sym, ℕ, List, [], ◌∷◌}
use Rattle.fkv_base.specs.declared.numbers.Serial.{Serial}
use Rattle.fkv_base.specs.declared.numbers.Version.{Version}
use Rattle.law_opening.specs.Below.fkv_core.Openings.{beginning}
use Rattle.fkv_disk.specs.Calls.{torn_image}
use Rattle.law_commit.specs.Below.fkv_keeper.Keeping.{Finality}
use Rattle.fkv_map.specs.History.{content, kept}
use Rattle.fkv_map.specs.declared.history.HistoryEntry.{HistoryEntry}
use Rattle.fkv_map.proofs.Shown.{kept_by_same_points}
use Rattle.law_opening.specs.Below.fkv_opening.TheOpened.{Opened}
use Rattle.law_commit.specs.Below.fkv_world.World.{Event, Now}
use Rattle.law_commit.specs.BegunCommits.{BegunCommit}
use Rattle.law_commit.specs.HeldCommits.{HaveFinished, IsAsLast}
use Rattle.law_log.specs.Trace.{Effect, history_of}
use Rattle.law_opening.specs.Log.Maps.{opening_map}
use Rattle.law_opening.specs.Lives.Reaching.{ReachesFar}
use Rattle.law_order.specs.OneHistory.Committed.{CrashedLife, committed_history}
use Rattle.law_order.specs.OneHistory.EachLife.{IsLife, Life}
use Rattle.law_order.specs.Prefix.Law.{HoldsPrefix, IsKeptOf, calls_so_far, history_so_far, past_so_far}
use Rattle.law_order.specs.Rules.Ordered.{now_after}
use Rattle.law_order.specs.Recovered.Crashed.{kept_first}
use Rattle.law_order.specs.Recovered.Leaves.{homes_of}
use Rattle.law_order.proofs.OfImages.Resting.{life_awake}
use Rattle.law_order.proofs.OfPrefix.Forgotten.{as_left}
use Rattle.law_order.proofs.OfRecovered.OfCrashed.{all_finished, is_newest, shows_none}
use Rattle.law_order.proofs.recovered.crashed.law_crash_keeps_first.Goals as goal

-- the points of the first commit keep the first update
keeps_first : (points : List Serial) → points ≡ record { 0 = 1 } ∷ record { 0 = 0 } ∷ [] → kept (history_of committed_history) points ≡ kept_first
keeps_first points same = ap (λ (its : List Serial). kept (history_of committed_history) its) same

pub returns : goal.returns
returns c =
    let crashed : CrashedLife = c.law_life_exists.ensures.crashed in
    let its : Life = crashed.its in
    let o : Opened = its.opened in
    let n : Now = its.world in
    let bytes : List ℕ = its.bytes in
    let events : List Event = its.events in
    let new = crashed.is_new in
    let begun = crashed.begun in
    let is : IsLife its = new.life in
    let far : ReachesFar bytes = c.law_long_opens.ensures.created crashed.shape bytes new.created in
    let life = c.law_life_begins.ensures bytes o n is.store is.begins in
    let last : Finality = (now_after n bytes events).keeper.last in
    let finished : HaveFinished (past_so_far n bytes events).begun last =
    all_finished (past_so_far n bytes events).begun (now_after n bytes events).keeper _ (life_awake (beginning n bytes) events _ life.world.keeper begun.told (λ may. may)) begun.told begun.works (c.law_begun.ensures.begun (beginning n bytes) events life.world) in
    record {
      crashed = crashed;
      empty = λ key. sym (life.log.shows key) ∙ shows_none bytes o new.store.entries life.log.none (homes_of n) key;
      image = torn_image bytes (calls_so_far n bytes events) 0;
      left = c.law_torn.ensures bytes (calls_so_far n bytes events) 0;
      each = λ image left.
          let held : HoldsPrefix o n bytes events image = c.law_prefix.ensures.recovered its is far image (as_left bytes (calls_so_far n bytes events) image left) in
          let it : BegunCommit = held.commit in
          let as_last : IsAsLast last it = is_newest (past_so_far n bytes events).begun last it (c.law_prefix.ensures.in_turn its is) finished held.current.begun held.current.newest in
          record {
            faultless = held.faultless;
            number = λ r store.
                let keeps : IsKeptOf o n bytes events it image r = held.each r store in
                ap (λ (v : Version). v.0) (keeps.number ∙ as_last.number) ∙ begun.its_number;
            pairs = λ r store.
                let keeps : IsKeptOf o n bytes events it image r = held.each r store in
                keeps.pairs
                ∙ ap (λ (entries : List HistoryEntry). content (opening_map bytes o) entries)
                (kept_by_same_points (history_so_far n bytes events) r.points.items it.points keeps.points
                ∙ (ap (λ (effects : List Effect). kept (history_of effects) it.points) crashed.effects ∙ keeps_first it.points (as_last.points ∙ begun.its_points)));
          };
    }
