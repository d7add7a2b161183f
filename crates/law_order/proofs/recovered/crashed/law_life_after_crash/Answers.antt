-- By the store that the crash's image holds: it has a life of any events.
use Rattle.std.proofs.Common.{◌≡◌, ◌∙◌, ap, refl, Some, [], ◌∷◌}
use Rattle.std.specs.FinMap.{get}
use Rattle.fkv_map.proofs.Shown.{content_one_more}
use Rattle.fkv_map.specs.History.{content}
use Rattle.fkv_map.specs.Map.{Map}
use Rattle.fkv_map.specs.declared.operations.Reply.TheVariants.{Nothing}
use Rattle.law_log.specs.Worked.{entry_of, gives_70}
use Rattle.law_opening.specs.Below.fkv_opening.TheOpened.{Opened}
use Rattle.law_opening.specs.Lives.Reaching.{ReachesFar}
use Rattle.law_order.specs.OneHistory.Committed.{CrashedLife}
use Rattle.law_order.specs.OneHistory.EachLife.{Life}
use Rattle.law_order.specs.OneHistory.NewLives.{HasLife}
use Rattle.law_order.specs.Prefix.Law.{AreLives, HoldsPrefix, map_of}
use Rattle.law_order.specs.Recovered.Crashed.{CrashKeepsFirst, HoldsFirst, kept_first}
use Rattle.law_order.proofs.OfPrefix.Forgotten.{as_left}
use Rattle.law_order.proofs.recovered.crashed.law_life_after_crash.Goals as goal

value_kept : (m : Map) → get (content m kept_first) 5 ≡ Some 70
value_kept m = content_one_more m [] (entry_of 0 1 gives_70 Nothing) 5

pub returns : goal.returns
returns c =
    let first : CrashKeepsFirst = c.law_crash_keeps_first.ensures in
    let crashed : CrashedLife = first.crashed in
    let its : Life = crashed.its in
    let new = crashed.is_new in
    let far : ReachesFar its.bytes = c.law_long_opens.ensures.created crashed.shape its.bytes new.created in
    let held : HoldsPrefix its.opened its.world its.bytes its.events first.image = c.law_prefix.ensures.recovered its new.life far first.image (as_left _ _ first.image first.left) in
    let store = held.store in
    let o : Opened = store.opened in
    let holds : HoldsFirst its first.image = first.each first.image first.left in
    record {
      first = first;
      next = λ events fit few.
          let has : HasLife first.image o events = c.law_life_exists.ensures.opened first.image o events store.is fit few in
          let life : Life = record { bytes = first.image; opened = o; world = has.world; events = events } in
          let lives : AreLives (life ∷ its ∷ []) = (has.life, as_left _ _ first.image first.left, (new.life, far, tt)) in
          let pairs : map_of life ≡ content (map_of its) kept_first = holds.pairs o store.is in
          record {
            its = life;
            same = refl;
            lives = lives;
            number = holds.number o store.is;
            pairs = pairs;
            value = ap (λ (m : Map). get m 5) pairs ∙ value_kept (map_of its);
            begins = c.law_prefix.ensures.lives life (its ∷ []) lives;
          };
    }
