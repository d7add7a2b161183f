-- What an event makes in the log's history is what takes effect by it.
use Rattle.std.proofs.Common.{◌≡◌, ℕ, ◌∙◌, List, [], ◌∷◌, ◌++◌, refl, ap, sym, subst, inl, inr}
use Rattle.std.specs.Prelude.{Option, Some, None}
use Rattle.fkv_base.specs.declared.numbers.Version.{Version}
use Rattle.fkv_map.specs.declared.history.HistoryEntry.{HistoryEntry}
use Rattle.fkv_map.specs.declared.operations.Reply.{Reply}
use Rattle.law_log.specs.Chains.{Cell, Logged, Unborn, Reserved, Published, Dropped}
use Rattle.law_log.specs.Ghosts.{Log, Ghosts, GhostEvent, Publishes, Drops, Changes, published, dropped, changed, log_after, ghosts_after, ghost_run}
use Rattle.law_log.specs.Trace.{Effect, IsIn, HasUpdate, HasReply, history_of}
use Rattle.law_world.specs.Below.fkv_session.Replies.{with_effect}
use Rattle.law_world.specs.Below.fkv_world.Past as world
use Rattle.law_refine.specs.Events.Effects.{is_quiet, AreQuiet, Stepped, TakesEffect, Quietly, Behind, InPlace, ByRecord}
use Rattle.law_refine.specs.Events.Published.{IsPublished, AllMeetPublished}
use Rattle.law_refine.specs.Events.Reservations.{Reservation}
use Rattle.law_refine.specs.Calls.Calls.{effects_in_log, entries_of}

-- ---- one event
dropped_history : (log : Log) (a : ℕ) (logged : Logged) → (dropped log a logged).history ≡ log.history
dropped_history log a (Reserved entry cell) = refl
dropped_history log a logged = refl

quiet_history : (home : ℕ → ℕ) (log : Log) (event : GhostEvent) → is_quiet event → (log_after home log event).history ≡ log.history
quiet_history home log (Drops a) quiet = dropped_history log a (log.cells a)
quiet_history home log (Publishes a) quiet = absurd quiet
quiet_history home log (Changes a entry) quiet = absurd quiet
quiet_history home log event quiet = refl

changed_entries : (log : Log) (a : ℕ) (entry : HistoryEntry) (logged : Logged) → IsPublished logged → entries_of (changed log a entry logged).history ≡ entry ∷ entries_of log.history
changed_entries log a entry (Published cell) its = refl
changed_entries log a entry Unborn its = absurd its
changed_entries log a entry (Reserved other cell) its = absurd its
changed_entries log a entry (Dropped cell) its = absurd its

published_entries : (home : ℕ → ℕ) (log : Log) (a : ℕ) (entry : HistoryEntry) (cell : Cell) (logged : Logged) → logged ≡ Reserved entry cell → entries_of (published home log a logged).history ≡ entry ∷ entries_of log.history
published_entries home log a entry cell logged e = rw e refl

-- ---- the events of a step
quiet_entries : (home : ℕ → ℕ) (g : Ghosts) (events before : List GhostEvent) → AreQuiet events → entries_of (ghost_run home g (events ++ before)).log.history ≡ entries_of (ghost_run home g before).log.history
unfolding ghost_run ghosts_after
quiet_entries home g [] before quiet = refl
quiet_entries home g (event ∷ events) before quiet =
    ap entries_of (quiet_history home (ghost_run home g (events ++ before)).log event quiet.0) ∙ quiet_entries home g events before quiet.1

pub takes_entries : (home : ℕ → ℕ) (g : Ghosts) (its_step : Stepped) (events before : List GhostEvent) (made : Option HistoryEntry) → TakesEffect its_step events made → AllMeetPublished home g (events ++ before)
    → ((its : Reservation) → its_step.reserved ≡ Some its → (ghost_run home g before).log.cells its.addr ≡ Reserved its.entry its.cell)
    → entries_of (ghost_run home g (events ++ before)).log.history ≡ with_effect made (entries_of (ghost_run home g before).log.history)
unfolding ghost_run ghosts_after AllMeetPublished
takes_entries home g its_step events before made (Quietly all quiet) meets reserved = quiet_entries home g all before quiet
takes_entries home g its_step events before made (Behind event quiet rest) meets reserved =
    ap entries_of (quiet_history home _ event quiet) ∙ takes_entries home g its_step _ before _ rest meets.1 reserved
takes_entries home g its_step events before made (InPlace a entry changes) meets reserved = changed_entries (ghost_run home g before).log a entry ((ghost_run home g before).log.cells a) meets.0
takes_entries home g its_step events before made (ByRecord its publishes) meets reserved =
    published_entries home (ghost_run home g before).log its.addr its.entry its.cell ((ghost_run home g before).log.cells its.addr) (reserved its publishes.reserved)

pub made_entries : (made : Option HistoryEntry) (version : Version) (history : List world.Effect) → entries_of (effects_in_log (world.effect_made made version history)) ≡ with_effect made (entries_of (effects_in_log history))
made_entries None version history = refl
made_entries (Some its) version history = refl

pub meets_behind : (home : ℕ → ℕ) (g : Ghosts) (later before : List GhostEvent) → AllMeetPublished home g (later ++ before) → AllMeetPublished home g before
unfolding AllMeetPublished
meets_behind home g [] before meets = meets
meets_behind home g (event ∷ later) before meets = meets_behind home g later before meets.1

-- ---- what is said of effects by their entries alone
history_by : List HistoryEntry → List HistoryEntry
history_by [] = []
history_by (entry ∷ before) = history_by before ++ entry ∷ []

history_so : (effects : List Effect) → history_of effects ≡ history_by (entries_of effects)
unfolding history_by
history_so [] = refl
history_so (effect ∷ before) = ap (λ (x : List HistoryEntry). x ++ effect.entry ∷ []) (history_so before)

pub same_history : (one other : List Effect) → entries_of one ≡ entries_of other → history_of one ≡ history_of other
same_history one other same = history_so one ∙ (ap history_by same ∙ sym (history_so other))

entry_in : (effects : List Effect) (effect : Effect) → IsIn effect effects → IsIn effect.entry (entries_of effects)
entry_in [] effect is_in = absurd is_in
entry_in (it ∷ before) effect (inl same) = inl (ap (λ (x : Effect). x.entry) same)
entry_in (it ∷ before) effect (inr later) = inr (entry_in before effect later)

in_effects : (effects : List Effect) (entry : HistoryEntry) → IsIn entry (entries_of effects) → (effect : Effect) × (IsIn effect effects) × (effect.entry ≡ entry)
in_effects [] entry is_in = absurd is_in
in_effects (it ∷ before) entry (inl same) = (it, inl refl, same)
in_effects (it ∷ before) entry (inr later) = let found = in_effects before entry later in (found.0, inr found.1, found.2)

pub same_reply : (one other : List Effect) (session serial : ℕ) (reply : Reply) → entries_of one ≡ entries_of other → HasReply one session serial reply → HasReply other session serial reply
same_reply one other session serial reply same has =
    let its : Effect = has.update.effect in
    let found : (effect : Effect) × (IsIn effect other) × (effect.entry ≡ its.entry) = in_effects other its.entry (subst (IsIn its.entry) same (entry_in one its has.update.is_in)) in
    record {
      update = record { effect = found.0; is_in = found.1; its_session = ap (λ (x : HistoryEntry). x.session) found.2 ∙ has.update.its_session; its_serial = ap (λ (x : HistoryEntry). x.serial.0) found.2 ∙ has.update.its_serial };
      its_reply = ap (λ (x : HistoryEntry). x.reply) found.2 ∙ has.its_reply;
    }

pub same_update : (one other : List Effect) (session serial : ℕ) → entries_of one ≡ entries_of other → HasUpdate one session serial → HasUpdate other session serial
same_update one other session serial same has = (same_reply one other session serial has.effect.entry.reply same (record { update = has; its_reply = refl })).update
