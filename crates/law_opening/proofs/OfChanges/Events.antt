-- What a step does to the log, by what its session goes by: a record that it makes leads below the tail, and what it changes in place lies above the opening.
use Rattle.std.proofs.Common.{◌≡◌, ℕ, ◌<◌, ◌≤◌, refl, Bool, true, false, List, [], ◌∷◌, ◌++◌}
use Rattle.std.specs.Prelude.{⊤, ◌==◌, if◌then◌else◌, Some}
use Rattle.law_refine.specs.Below.fkv_log.ReserveAnswer.{ReserveAnswer}
use Rattle.law_refine.specs.Below.fkv_log.ReserveAnswer.TheVariants.{Reserved}
use Rattle.fkv_map.specs.Keys.{reply_from}
use Rattle.fkv_map.specs.declared.operations.Op.{Op}
use Rattle.fkv_map.specs.declared.operations.Op.TheVariants.{Read}
use Rattle.law_refine.specs.Below.fkv_ops.Appending.{AppendState}
use Rattle.law_refine.specs.Below.fkv_ops.Trying.{TryState}
use Rattle.law_refine.specs.Below.fkv_ops.Values.{value_of}
use Rattle.law_refine.specs.Below.fkv_ops.TryAnswer.{TryAnswer}
use Rattle.law_refine.specs.Below.fkv_ops.TryAnswer.TheVariants as answer
use Rattle.law_refine.specs.Below.fkv_ops.TheAppending.{Appending}
use Rattle.law_refine.specs.Below.fkv_ops.TheTrying.{Trying}
use Rattle.law_refine.specs.Below.fkv_ops.TheTrying.TheVariants.{Walks, SwapsValue, ChangesValue, Appends}
use Rattle.law_refine.specs.Below.fkv_pending.Attempting.{AttemptState, attempt_ask, attempt_next}
use Rattle.law_refine.specs.Below.fkv_pending.TheAttempting.{Attempting}
use Rattle.law_refine.specs.Below.fkv_pending.TheAttempting.TheVariants.{Tries}
use Rattle.law_refine.specs.Below.fkv_pending.PendingRequest.{PendingRequest}
use Rattle.fkv_plane.specs.Asked.{reply_to}
use Rattle.fkv_plane.specs.declared.asks.Ask.{Ask}
use Rattle.fkv_plane.specs.declared.asks.Ask.TheVariants.{Put, Take, Done}
use Rattle.fkv_plane.specs.declared.places.Places.{Places}
use Rattle.law_refine.specs.Below.fkv_session.Sessions.{Seat, SessionState, bits_of, room_of}
use Rattle.law_refine.specs.Below.fkv_session.Told.{Told}
use Rattle.law_refine.specs.Below.fkv_session.Sitting.{Sitting}
use Rattle.law_refine.specs.Below.fkv_session.Sitting.TheVariants.{Attempts, Polls}
use Rattle.law_refine.specs.Below.fkv_world.Past.{Traced}
use Rattle.law_refine.specs.Below.law_world.GuardSessions.InPlace.{attempt_changes, sitting_changes, try_changes}
use Rattle.law_refine.specs.Below.law_local.Sessions.Known.{is_attempting}
use Rattle.law_refine.specs.Events.Lines.{read_in_hand, read_waiting}
use Rattle.law_refine.specs.Below.law_world.GuardSessions.Tries.{is_for_entry}
use Rattle.law_refine.specs.Below.law_local.Tries.TryRows.{cell_of}
use Rattle.law_log.specs.Ghosts.{GhostEvent, Log, Reserves, Drops, Changes}
use Rattle.law_refine.specs.Events.Appends.{append_ghosts, entry_made, reserved_ghosts, NewRecord, new_record}
use Rattle.law_refine.specs.Events.Sessions.{attempt_ghosts, sitting_ghosts, step_ghosts, ticket_of, tried_ghosts, value_ghosts}
use Rattle.law_refine.specs.Events.Tries.{try_ghosts}
use Rattle.law_opening.specs.Changes.Linked.{IsLed}
use Rattle.law_opening.proofs.OfChanges.Rows.{AttemptSo, TrySo, made_previous}
use Rattle.law_refine.proofs.OfEvents.Searches.{append_all, search_all}

-- a record that is made leads below one address, and what changes in place lies above another
abbrev pub is_so : ℕ → ℕ → GhostEvent → Type 0
is_so low high (Reserves a entry cell) = cell.previous < high
is_so low high (Changes a entry) = low ≤ a
is_so low high event = ⊤

abbrev pub AllSo : ℕ → ℕ → List GhostEvent → Type 0
AllSo low high [] = ⊤
AllSo low high (event ∷ before) = is_so low high event × AllSo low high before

pub both_so : (low high : ℕ) (later before : List GhostEvent) → AllSo low high later → AllSo low high before → AllSo low high (later ++ before)
both_so low high [] before one other = other
both_so low high (event ∷ later) before one other = (one.0, both_so low high later before one.1 other)

module _ (low high : ℕ) where
  -- ---- an append
  reserved_so : (a : AppendState) (made : NewRecord) (ask : Ask ReserveAnswer) → a.its_words.header.previous.0 < high → AllSo low high (reserved_ghosts a made ask)
  reserved_so a made (Done (Reserved addr)) below = by_test (is_for_entry a addr)
    where
      by_test : (b : Bool) → AllSo low high (if b then Reserves addr.0 made.entry (cell_of made.version a.its_words) ∷ [] else Drops addr.0 ∷ Reserves addr.0 made.entry (cell_of made.version a.its_words) ∷ [])
      by_test true = (below, tt)
      by_test false = (tt, (below, tt))
  reserved_so a made ask below = tt

  append_so : (room : ℕ) (a : AppendState) (made : NewRecord) (step : Appending) (reply : ℕ) → a.its_words.header.previous.0 < high → AllSo low high (append_ghosts room a made step reply)
  append_so room a made step reply below = append_all (AllSo low high) tt (λ addr. (tt, tt)) (λ addr. (tt, tt)) room a made step reply (λ ask. reserved_so a made ask below)

  -- ---- a try
  module _ (log : Log) (led : (a : ℕ) → IsLed log a → a < high) where
    try_so : (p : Places) (room session reader : ℕ) (pending : PendingRequest) (t : TryState) (step : Trying) (reply : ℕ) → ((a : ℕ) → try_changes step ≡ Some a → low ≤ a) → TrySo log t.walk (made_previous t) step
        → AllSo low high (try_ghosts p room session reader pending t step reply)
    try_so p room session reader pending t Walks reply above so = search_all (AllSo low high) tt reader (tt, tt) p pending.request.op t.walk reply
    try_so p room session reader pending t (SwapsValue addr) reply above so = (above addr.0 refl, tt)
    try_so p room session reader pending t (ChangesValue addr old) reply above so = by_test (reply == old)
      where
        by_test : (b : Bool) → AllSo low high (if b then Changes addr.0 (entry_made session pending (reply_from (value_of old) t.request.op)) ∷ [] else [])
        by_test true = (above addr.0 refl, tt)
        by_test false = tt
    try_so p room session reader pending t (Appends its) reply above so = append_so room t.append (new_record session pending its) t.append.step reply (led (made_previous t) so)
    try_so p room session reader pending t step reply above so = tt

    -- ---- an attempt
    value_so : (op : Op) (reader : ℕ) (ask : Ask TryAnswer) → AllSo low high (value_ghosts op reader ask)
    value_so (Read key) reader (Done (answer.Found value)) = (tt, tt)
    value_so (Read key) reader (Done answer.Absent) = (tt, tt)
    value_so op reader ask = tt

    tried_so : (k : Seat) (reader : ℕ) (a : AttemptState) (step : Attempting) (reply : ℕ) → ((i : ℕ) → attempt_changes a step ≡ Some i → low ≤ i) → AttemptSo log a.trial step → AllSo low high (tried_ghosts k reader a step reply)
    tried_so k reader a Tries reply above so = try_so k.places (room_of k) k.number reader a.pending a.trial a.trial.step reply above so.1
    tried_so k reader a step reply above so = tt

    attempt_events : (k : Seat) (reader : ℕ) (a : AttemptState) (reply : ℕ) → ((i : ℕ) → attempt_changes a a.step ≡ Some i → low ≤ i) → AttemptSo log a.trial a.step → AllSo low high (attempt_ghosts k reader a reply)
    attempt_events k reader a reply above so =
        both_so low high (value_ghosts a.pending.request.op reader (attempt_ask k.places k.number (attempt_next k.places (bits_of k) (room_of k) k.number a reply))) (tried_ghosts k reader a a.step reply)
        (value_so a.pending.request.op reader (attempt_ask k.places k.number (attempt_next k.places (bits_of k) (room_of k) k.number a reply)))
        (tried_so k reader a a.step reply above so)

    pub sitting_so : (k : Seat) (trace : List Traced) (s : SessionState) (step : Sitting) (reply : ℕ) → ((i : ℕ) → sitting_changes s step ≡ Some i → low ≤ i) → (is_attempting step ≡ true → AttemptSo log s.attempt.trial s.attempt.step)
        → AllSo low high (sitting_ghosts k trace s step reply)
    sitting_so k trace s (Attempts has_shifted) reply above so = attempt_events k (read_in_hand k.number trace) s.attempt reply above (so refl)
    sitting_so k trace s (Polls index) reply above so = attempt_events k (read_waiting k.number (ticket_of s.attempt.pending.name) trace) s.attempt reply above (so refl)
    sitting_so k trace s step reply above so = tt

    pub step_so : (k : Seat) (trace : List Traced) (s : SessionState) (words : List ℕ) (ask : Ask Told) → ((i : ℕ) → sitting_changes s s.step ≡ Some i → low ≤ i) → (is_attempting s.step ≡ true → AttemptSo log s.attempt.trial s.attempt.step)
        → AllSo low high (step_ghosts k trace s words ask)
    unfolding step_ghosts
    step_so k trace s words (Done its) above so = tt
    step_so k trace s words (Put slot action) above so = tt
    step_so k trace s words (Take slot) above so = tt
    step_so k trace s words ask above so = sitting_so k trace s s.step (reply_to words ask) above so
