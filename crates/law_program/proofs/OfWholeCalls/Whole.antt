-- Each answer of a call that was alone is the map's.
use Rattle.std.proofs.Common.{◌≡◌, ◌∙◌, List, ap, sym, subst}
use Rattle.fkv_map.specs.History.{content, IsLegal}
use Rattle.fkv_map.specs.Map.{Map, reply_to}
use Rattle.fkv_map.specs.declared.operations.Op.{Op}
use Rattle.fkv_map.specs.declared.operations.Op.TheVariants.{Read}
use Rattle.fkv_map.specs.declared.operations.Reply.{Reply}
use Rattle.fkv_map.specs.declared.operations.Reply.TheVariants as reply
use Rattle.law_log.specs.Trace.{Effect, OrdersCalls, ReadsAreFresh, TraceLine, history_of}
use Rattle.law_order.specs.Below.fkv_session.Told.{Told}
use Rattle.law_order.specs.Below.fkv_session.Told.TheVariants as told
use Rattle.law_program.specs.WholeCalls.WholeCalls.{AreAllGiven, HasHappenedAlone, HasReadAlone, IsMapsReply, LeavesMap, TellsAlone, TellsRead}
use Rattle.law_program.proofs.OfWholeCalls.Fresh.{fresh_alone}
use Rattle.law_program.proofs.OfWholeCalls.Updated.{update_alone}

-- the same effects, the same map
same_map : (m : Map) (before after : List Effect) → after ≡ before → content m (history_of after) ≡ content m (history_of before)
same_map m before after same = ap (λ (effects : List Effect). content m (history_of effects)) same

read_alone : (m : Map) (op : Op) (before after : List Effect) (lines since : List TraceLine) (its : Reply) → OrdersCalls after since → ReadsAreFresh m after since → AreAllGiven before lines → HasReadAlone op before after
    → TellsRead lines since op its → reply_to (content m (history_of before)) op ≡ its
read_alone m op before after lines since its ordered reads given alone tells =
    let told = subst (λ (x : Op). TellsRead lines since x its) alone.its_op tells in
    let value = fresh_alone m after told.0 alone.key.0 its lines since ordered reads (subst (λ (effects : List Effect). AreAllGiven effects lines) (sym alone.none) given) told.1 in
    ap (reply_to (content m (history_of before))) alone.its_op ∙ (ap (λ (x : Map). reply_to x (Read alone.key)) (sym (same_map m before after alone.none)) ∙ sym value)

abbrev IsAnswered : Map → List Effect → List Effect → Op → Told → Type 0
IsAnswered m before after op its = IsMapsReply (content m (history_of before)) op its × LeavesMap (content m (history_of before)) (content m (history_of after)) op its

pub answered_alone : (m : Map) (op : Op) (before after : List Effect) (lines since : List TraceLine) (its : Told) → IsLegal m (history_of after) → OrdersCalls after since → ReadsAreFresh m after since
    → AreAllGiven before lines → HasHappenedAlone op before after its → TellsAlone lines since op its → IsAnswered m before after op its
answered_alone m op before after lines since (told.Done serial its) legal ordered reads given alone tells = update_alone m op before after its legal alone
answered_alone m op before after lines since (told.Found value) legal ordered reads given alone tells =
    (read_alone m op before after lines since (reply.Found value) ordered reads given alone tells, same_map m before after alone.none)
answered_alone m op before after lines since told.Absent legal ordered reads given alone tells = (read_alone m op before after lines since reply.Absent ordered reads given alone tells, same_map m before after alone.none)
answered_alone m op before after lines since its legal ordered reads given alone tells = (tt, same_map m before after alone)
