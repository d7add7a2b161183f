-- The laws, by what an opened store begins with.
use Rattle.std.proofs.Common.{◌∙◌, ap, refl, sym}
use Rattle.fkv_core.specs.Openings.{beginning}
use Rattle.fkv_filling.specs.OpeningIndex.{opening_lists}
use Rattle.law_opening.proofs.OfChanges.OfDevice.Image.{in_image}
use Rattle.law_opening.proofs.OfChanges.OfDevice.Mailboxes.{mailboxes_empty}
use Rattle.law_opening.proofs.OfChanges.OfDevice.Openings.{cells_fit_opened}
use Rattle.law_opening.specs.Log.OpeningLog.{opening_ghosts}
use Rattle.law_refine.specs.Below.fkv_keeper.Keeping.{Finality}
use Rattle.law_refine.proofs.OfMail.Openings.{opened_mailbox}
use Rattle.law_opening.proofs.fitting.law_lives_fit.Goals as goal

pub returns-clause-begins : goal.returns-clause-begins
returns-clause-begins c = λ o n bytes store world.
    let guarded = c.law_guard_opens.ensures o n bytes world in
    let counted = c.law_log_counted.ensures bytes o store in
    record {
      linked = c.law_lives_change_published.ensures.begins o n bytes store world;
      store = guarded;
      mailboxes = λ session there. opened_mailbox n o.tail.0 session guarded.now (mailboxes_empty o n world (c.law_words_open.ensures.words o n world)) there;
      floors = λ session s found. (world.its_sessions session s found).floor ∙ sym (ap (λ (last : Finality). last.begin) world.its_keeper.newest);
      device = in_image bytes o n store world counted;
      fits = cells_fit_opened bytes o store counted;
      no_history = refl;
    }

pub returns-clause-fit : goal.returns-clause-fit
returns-clause-fit c = λ o n bytes events store world fits. c.law_logs_fit.ensures (beginning n bytes) o.tail.0 (opening_lists o.entries.items) (opening_ghosts bytes o) events (returns-clause-begins c o n bytes store world) fits
