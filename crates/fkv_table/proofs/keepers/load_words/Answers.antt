-- Each word leads the keeper on, up to the first ask that is no record's word.
use Rattle.std.proofs.Common.{◌∙◌, sym, refl, [], arith}
use Rattle.fkv_table.specs.Planes.{opening_of}
use Rattle.fkv_table.proofs.KeeperCalled.{gone_both}
use Rattle.fkv_table.proofs.keepers.load_words.Goals as goal

pub words-init : goal.words-init
words-init g c = record {
  table = refl;
  id = refl;
  keeping = c.requires.keeping;
  went = record { steps = []; begins = tt; so = refl };
  calls = refl;
  by_device = refl;
  left = omega arith;
  beginning = λ b. b;
}

pub load_word-requires : goal.load_word-requires
load_word-requires g c = let inv = c.words.invariant in record {
  table = (inv.table ∙ c.requires.table.0, c.requires.table.1);
  keeping = inv.keeping;
  due = sym c.word_due.ensures ∙ c.in-Some.is;
}

pub words-preserved : goal.words-preserved
words-preserved g c = let inv = c.words.invariant in let did = c.load_word.ensures in record {
  table = did.seat.0 ∙ inv.table;
  id = did.seat.1 ∙ inv.id;
  keeping = did.keeping;
  went = gone_both (opening_of g.D.Device.seen) _ _ _ inv.went did.went;
  calls = did.calls ∙ inv.calls;
  by_device = did.by_device ∙ inv.by_device;
  left = omega (arith, did.fewer, inv.left);
  beginning = λ b. did.beginning (inv.beginning b);
}
