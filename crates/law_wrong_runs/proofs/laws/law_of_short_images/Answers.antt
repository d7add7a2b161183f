-- The short images, by the law of gates, by new stores, and by what a slot and a log tell.
use Rattle.law_wrong_runs.proofs.OfShort.{short_images}
use Rattle.law_wrong_runs.proofs.laws.law_of_short_images.Goals as goal

pub returns : goal.returns
returns c = λ keeper one other. short_images c.law_gates.ensures.written c.law_gates.ensures.store c.law_slots_are_named.ensures.newest c.law_new_stores.ensures.created c.law_new_stores.ensures.opened (record {
  records = c.law_spellings_apart.ensures.records;
  triples = c.law_spellings_apart.ensures.triples;
  shapes = c.law_spellings_apart.ensures.shapes;
  slots = c.law_formats_apart.ensures;
}) c.law_log_opened.ensures.pairs keeper one other
