use Rattle.fkv_words.proofs.Apart.{entry_apart, tail_apart, header_apart, phase_apart, wide_apart, cut_apart}
use Rattle.fkv_words.proofs.laws.law_words_apart.Goals as goal

pub returns : goal.returns
returns c = record {
  entries = entry_apart;
  tails = tail_apart;
  headers = header_apart;
  phases = phase_apart;
  wide_phases = wide_apart;
  cuts = cut_apart;
}
