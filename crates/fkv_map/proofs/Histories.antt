-- Content and legality along a history.
use Rattle.std.proofs.Common.{◌≡◌, List, [], ◌∷◌, ◌++◌, refl}
use Rattle.fkv_map.specs.declared.history.HistoryEntry.{HistoryEntry}
use Rattle.fkv_map.specs.Map.{Map, applied, reply_to}
use Rattle.fkv_map.specs.History.{content, IsLegal}

pub content-append : (m : Map) (earlier later : List HistoryEntry) → content m (earlier ++ later) ≡ content (content m earlier) later
content-append m [] later = refl
content-append m (entry ∷ earlier) later = content-append (applied m entry.op) earlier later

-- one more entry is one more operation
pub content-push : (m : Map) (earlier : List HistoryEntry) (entry : HistoryEntry) → content m (earlier ++ entry ∷ []) ≡ applied (content m earlier) entry.op
content-push m earlier entry = content-append m earlier (entry ∷ [])

pub IsLegal-append : (m : Map) (earlier later : List HistoryEntry) → IsLegal m earlier → IsLegal (content m earlier) later → IsLegal m (earlier ++ later)
IsLegal-append m [] later first rest = rest
IsLegal-append m (entry ∷ earlier) later first rest = (first.0, IsLegal-append (applied m entry.op) earlier later first.1 rest)

pub IsLegal-earlier : (m : Map) (earlier later : List HistoryEntry) → IsLegal m (earlier ++ later) → IsLegal m earlier
IsLegal-earlier m [] later all = tt
IsLegal-earlier m (entry ∷ earlier) later all = (all.0, IsLegal-earlier (applied m entry.op) earlier later all.1)

pub IsLegal-later : (m : Map) (earlier later : List HistoryEntry) → IsLegal m (earlier ++ later) → IsLegal (content m earlier) later
IsLegal-later m [] later all = all
IsLegal-later m (entry ∷ earlier) later all = IsLegal-later (applied m entry.op) earlier later all.1

-- one more entry is legal where it replies what the map gives there
pub IsLegal-push : (m : Map) (earlier : List HistoryEntry) (entry : HistoryEntry) → IsLegal m earlier → entry.reply ≡ reply_to (content m earlier) entry.op → IsLegal m (earlier ++ entry ∷ [])
IsLegal-push m earlier entry first same = IsLegal-append m earlier (entry ∷ []) first (same, tt)
