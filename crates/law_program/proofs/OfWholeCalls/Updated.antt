-- The last entry of a legal history replies what the map before it gives, and is applied to that.
use Rattle.std.proofs.Common.{◌≡◌, List, ◌∷◌, sym, subst}
use Rattle.fkv_map.specs.History.{content, IsLegal}
use Rattle.fkv_map.specs.Map.{Map, applied, reply_to}
use Rattle.fkv_map.specs.declared.operations.Op.{Op}
use Rattle.fkv_map.specs.declared.operations.Reply.{Reply}
use Rattle.fkv_map.proofs.Shown.{IsLegal-later, content-push}
use Rattle.law_log.specs.Trace.{Effect, history_of}
use Rattle.law_program.specs.WholeCalls.WholeCalls.{HasUpdatedAlone}

abbrev pub IsUpdated : Map → Map → Op → Reply → Type 0
IsUpdated before after op its = (its ≡ reply_to before op) × (after ≡ applied before op)

last_one : (m : Map) (effect : Effect) (before : List Effect) → IsLegal m (history_of (effect ∷ before))
    → IsUpdated (content m (history_of before)) (content m (history_of (effect ∷ before))) effect.entry.op effect.entry.reply
last_one m effect before legal = ((IsLegal-later m (history_of before) _ legal).0, content-push m (history_of before) effect.entry)

pub update_alone : (m : Map) (op : Op) (before after : List Effect) (its : Reply) → IsLegal m (history_of after) → HasUpdatedAlone op before after its
    → IsUpdated (content m (history_of before)) (content m (history_of after)) op its
update_alone m op before after its legal alone =
    subst (λ (effects : List Effect). IsUpdated (content m (history_of before)) (content m (history_of effects)) op its) (sym alone.one)
    (subst (λ (x : Reply). IsUpdated (content m (history_of before)) (content m (history_of (alone.effect ∷ before))) op x) alone.its_reply
    (subst (λ (x : Op). IsUpdated (content m (history_of before)) (content m (history_of (alone.effect ∷ before))) x alone.effect.entry.reply) alone.its_op
    (last_one m alone.effect before (subst (λ (effects : List Effect). IsLegal m (history_of effects)) alone.one legal))))
