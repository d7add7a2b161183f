-- Each step leads the keeper on, up to a call of the device or to the end of its call.
use Rattle.std.proofs.Common.{◌∙◌, sym, refl, [], arith}
use Rattle.fkv_table.specs.Planes.{opening_of}
use Rattle.fkv_table.proofs.KeeperCalled.{gone_both, keeper_word}
use Rattle.fkv_table.proofs.keepers.word_steps.Goals as goal

pub asks-init : goal.asks-init
asks-init g c = record {
  table = refl;
  id = refl;
  keeping = c.requires.keeping;
  went = record { steps = []; begins = tt; so = refl };
  calls = refl;
  by_device = refl;
  left = omega arith;
  beginning = λ b. b;
  asked = c.ask-ask.ensures;
}

pub step-ask-requires : goal.step-ask-requires
step-ask-requires g c = let inv = c.asks.invariant in record {
  table = (inv.table ∙ c.requires.table.0, c.requires.table.1);
  keeping = inv.keeping;
  ask = inv.asked;
  word = keeper_word (opening_of g.D.Device.seen) _ _ c.asks.machine _ c.requires.table.1.opening inv.keeping inv.asked c.in_default.not-Done;
}

pub asks-preserved : goal.asks-preserved
asks-preserved g c = let inv = c.asks.invariant in let did = c.step-ask.ensures in record {
  table = did.seat.0 ∙ inv.table;
  id = did.seat.1 ∙ inv.id;
  keeping = did.keeping;
  went = gone_both (opening_of g.D.Device.seen) _ _ _ inv.went did.went;
  calls = did.calls ∙ inv.calls;
  by_device = did.by_device ∙ inv.by_device;
  left = omega (arith, did.fewer, inv.left);
  beginning = λ b. did.beginning (inv.beginning b);
  asked = did.ask;
}

pub asks-preserved-then-is_some : goal.asks-preserved-then-is_some
asks-preserved-then-is_some g c = let inv = c.asks.invariant in let did = c.step-ask.ensures in let on = c.load_words.ensures in record {
  table = on.seat.0 ∙ (did.seat.0 ∙ inv.table);
  id = on.seat.1 ∙ (did.seat.1 ∙ inv.id);
  keeping = on.keeping;
  went = gone_both (opening_of g.D.Device.seen) _ _ _ (gone_both (opening_of g.D.Device.seen) _ _ _ inv.went did.went) on.went;
  calls = on.calls ∙ (did.calls ∙ inv.calls);
  by_device = on.by_device ∙ (did.by_device ∙ inv.by_device);
  left = omega (arith, on.left, did.fewer, inv.left);
  beginning = λ b. on.beginning (did.beginning (inv.beginning b));
  asked = c.ask-ask-then-is_some.ensures;
}

pub returns-in-Done-clause-told : goal.returns-in-Done-clause-told
returns-in-Done-clause-told g c = sym c.asks.invariant.asked ∙ c.in-Done.is
