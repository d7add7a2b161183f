-- The law, by the records that the log has.
use Rattle.law_opening.proofs.OfChanges.OfDevice.Openings.{cells_fit_opened}
use Rattle.law_order.proofs.fits.law_opening_fits.Goals as goal

pub returns : goal.returns
returns c = λ bytes o store. cells_fit_opened bytes o store (c.law_log_counted.ensures bytes o store)
