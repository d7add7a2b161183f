-- The history of what was seen is a beginning of that of what is seen later.
use Rattle.std.proofs.Common.{◌≡◌, inl, inr, ℕ, ◌∙◌, refl, sym, ap, subst, List, [], ◌∷◌, ◌++◌, append-nil, append_assoc}
use Rattle.law_order.specs.Below.fkv_core.Openings.{beginning}
use Rattle.fkv_map.specs.declared.history.HistoryEntry.{HistoryEntry}
use Rattle.law_order.specs.Below.fkv_world.Past.{Effect}
use Rattle.law_order.specs.Below.fkv_world.Runs.{World, happens, run}
use Rattle.law_order.specs.Below.fkv_world.World.{Event, Now}
use Rattle.law_log.specs.Trace.{history_of}
use Rattle.law_order.specs.Below.law_world.Runs.Added.{IsHistoryAfter}
use Rattle.law_order.proofs.Below.law_world.OfRuns.Added.{history_so}
use Rattle.law_order.specs.Below.law_refine.Calls.Calls.{effects_in_log}
use Rattle.fkv_table.specs.declared.happenings.Happening.{Happening}
use Rattle.fkv_table.specs.Events.{event_of}
use Rattle.law_threads.specs.Calls.{events_of}
use Rattle.law_threads.specs.Threads.{IsBeginning, history_seen}

pub events_both : (later before : List Happening) → events_of (later ++ before) ≡ events_of later ++ events_of before
events_both [] before = refl
events_both (its ∷ later) before = ap (λ (es : List Event). event_of its ∷ es) (events_both later before)

pub same_beginning : (history : List HistoryEntry) → IsBeginning history history
same_beginning history = record { newer = []; whole = sym (append-nil history) }

longer : (less more : List HistoryEntry) (entry : HistoryEntry) → IsBeginning less more → IsBeginning less (more ++ entry ∷ [])
longer less more entry its = record { newer = its.newer ++ entry ∷ []; whole = ap (λ (x : List HistoryEntry). x ++ entry ∷ []) its.whole ∙ append_assoc less its.newer (entry ∷ []) }

-- what has taken effect in a world, in order
abbrev history_in : World → List HistoryEntry
history_in w = history_of (effects_in_log w.past.history)

one_more : (w : World) (event : Event) (less : List HistoryEntry) → IsHistoryAfter w event (happens w event).past.history → IsBeginning less (history_in w) → IsBeginning less (history_in (happens w event))
one_more w event less (inl same) its = subst (λ (x : List Effect). IsBeginning less (history_of (effects_in_log x))) (sym same) its
one_more w event less (inr made) its = subst (λ (x : List Effect). IsBeginning less (history_of (effects_in_log x))) (sym made.1) (longer less (history_in w) made.0.entry its)

pub begins_with : (n : Now) (bytes : List ℕ) (later before : List Happening) → IsBeginning (history_seen n bytes before) (history_seen n bytes (later ++ before))
unfolding run
begins_with n bytes [] before = same_beginning (history_seen n bytes before)
begins_with n bytes (its ∷ later) before =
    let w : World = run (beginning n bytes) (events_of (later ++ before)) in
    one_more w (event_of its) (history_seen n bytes before) (history_so w (event_of its)) (begins_with n bytes later before)
