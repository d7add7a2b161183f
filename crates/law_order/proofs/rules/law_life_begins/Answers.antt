-- The law, by those of its parts.
use Rattle.std.proofs.Common.{◌≡◌, ℕ, ◌∙◌, ap, sym, subst, arith}
use Rattle.fkv_base.specs.declared.shapes.Shape.{Shape}
use Rattle.law_opening.proofs.OfChanges.OfDevice.Image.{in_image}
use Rattle.law_opening.proofs.OfChanges.OfDevice.Mailboxes.{mailboxes_empty}
use Rattle.law_commit.specs.Below.fkv_keeper.Keeping.{Finality}
use Rattle.law_log.specs.Begins.{IsAbove}
use Rattle.law_log.specs.Enabled.{IsOpened}
use Rattle.law_commit.proofs.Below.law_refine.OfMail.Openings.{opened_mailbox}
use Rattle.law_commit.specs.Below.law_refine.Events.GhostEvents.{home_in}
use Rattle.law_opening.specs.Log.Maps.{opening_map}
use Rattle.law_opening.specs.Log.OpeningLog.{opening_ghosts, opening_log}
use Rattle.law_opening.proofs.OfLives.Warm.{warm_shows}
use Rattle.law_order.proofs.OfRecovered.OfShows.Firsts.{opened_tail}
use Rattle.law_order.proofs.OfRules.Beginning.{world_opens}
use Rattle.law_order.proofs.OfRules.Words.{opens_seen}
use Rattle.law_order.proofs.OfSwept.Opened.{opened_valid}
use Rattle.law_order.proofs.rules.law_life_begins.Goals as goal

pub returns : goal.returns
returns c = λ bytes o n store world.
    let guarded = c.law_guard_opens.ensures o n bytes world in
    let begins = c.law_log_begins.ensures bytes o n store world in
    let begin : n.keeper.last.begin.0 ≡ o.begin.0 = ap (λ (last : Finality). last.begin.0) world.its_keeper.newest in
    let first : n.keeper.last.checkpoint.first.0 ≡ o.checkpoint.first.0 = ap (λ (last : Finality). last.checkpoint.first.0) world.its_keeper.newest in
    let checkpoint : n.keeper.last.checkpoint.number.0 ≡ o.checkpoint.number.0 = ap (λ (last : Finality). last.checkpoint.number.0) world.its_keeper.newest in
    let number : n.keeper.last.number.0 ≡ o.number.0 = ap (λ (last : Finality). last.number.0) world.its_keeper.newest in
    let opened : IsOpened (home_in n.shape.bucket_bits) (opening_map bytes o) o.number.0 (opening_ghosts bytes o) =
    subst (λ (s : Shape). IsOpened (home_in s.bucket_bits) (opening_map bytes o) o.number.0 (opening_ghosts bytes o)) (sym world.its_shape) (c.law_log_opened.ensures.opened bytes o store) in
    record {
      world = world_opens o n bytes world;
      store = guarded;
      index = c.law_index_opens.ensures.opened o n bytes world;
      mailboxes = λ session there. opened_mailbox n o.tail.0 session guarded.now (mailboxes_empty o n world (c.law_words_open.ensures.words o n world)) there;
      rests = opens_seen o n world;
      log = opened;
      fixed = begins.fixed;
      unborn = begins.unborn;
      reserves = begins.reserves_nothing;
      heads = c.law_log_heads.ensures bytes o n store world;
      warm = warm_shows bytes o n world store guarded.now begins (c.law_log_counted.ensures bytes o store);
      device = in_image bytes o n store world (c.law_log_counted.ensures bytes o store);
      valid = opened_valid bytes o n store world (c.law_log_counted.ensures bytes o store);
      above = subst (λ (b : ℕ). IsAbove b (opening_log bytes o)) (sym begin) (c.law_log_above.ensures bytes o store);
      some_begin = (let some = o.some_begin in omega (arith, begin, some));
      before_end = (let before = o.begin_before_scan in let up = o.upwards in omega (arith, begin, before, up));
      scan = record {
        before_scan = (let before = o.begin_before_scan in omega (arith, begin, first, before));
        below_tail = (let up = o.upwards in let tail = opened_tail o n world in omega (arith, first, up, tail));
        no_newer = (let low = o.no_newer in omega (arith, checkpoint, number, low));
      };
      floors = λ session s found. (world.its_sessions session s found).floor ∙ sym (ap (λ (last : Finality). last.begin) world.its_keeper.newest);
    }
