use Rattle.law_paper.proofs.OfPaper.Stored.{is_store, opened}
use Rattle.law_paper.proofs.paper.law_sound_is_store.Goals as goal

pub returns : goal.returns
returns c = λ bytes n triples has sound. record {
  opened = opened c.law_spellings_apart.ensures.records bytes n triples has sound;
  is = is_store c.law_spellings_apart.ensures.records bytes n triples has sound;
}
