-- By what counted as the store was opened, which stays in the log.
use Rattle.std.proofs.Common.{◌≡◌, ◌≤◌, ◌∙◌, sym, subst, ℕ}
use Rattle.law_opening.specs.Below.fkv_scan.Log as scan
use Rattle.law_opening.specs.Log.OpeningLog.{opening_log}
use Rattle.law_order.specs.Decided.Cut.{log_beside}
use Rattle.law_order.specs.Recovered.Leaves.{log_then}
use Rattle.law_order.proofs.OfRecovered.OfShows.Firsts.{opened_tail}
use Rattle.law_order.proofs.OfRecovered.OfShows.Opened.{of_homes, tells_counted}
use Rattle.law_order.proofs.recovered.shows.law_opened_log_stands.Goals as goal

pub returns : goal.returns
returns c = λ o n bytes events image leaves.
    let was : scan.Log = log_then leaves in
    let store = leaves.store in
    let life = c.law_life_begins.ensures bytes o n store leaves.begins in
    let shape : n.shape ≡ was.shape = leaves.begins.its_shape ∙ store.tells.shape in
    record {
      orderly = c.law_log_in_order.ensures o n bytes events image leaves;
      homes = of_homes was n.shape shape;
      before = c.law_old_opens.ensures.before bytes o n events store leaves.begins;
      tells = tells_counted was (opening_log bytes o) (log_beside o n bytes events) o.tail.0 (c.law_log_counted.ensures bytes o store)
          (λ a low. c.law_lives_change_published.ensures.old o n bytes events a store leaves.begins low)
          (λ a high. life.unborn a (subst (λ (tail : ℕ). tail ≤ a) (sym (opened_tail o n leaves.begins)) high));
      later = c.law_old_opens.ensures.later bytes o n events store leaves.begins;
    }
