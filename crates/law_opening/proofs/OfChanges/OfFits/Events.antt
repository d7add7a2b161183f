-- What a step makes fits in words, for operations that fit.
use Rattle.std.proofs.Common.{◌≡◌, ℕ, refl, sym, subst, Bool, true, false, List, [], ◌∷◌}
use Rattle.std.specs.Prelude.{◌==◌, if◌then◌else◌}
use Rattle.law_refine.specs.Below.fkv_log.RecordWords.{RecordWords}
use Rattle.law_refine.specs.Below.fkv_log.ReserveAnswer.{ReserveAnswer}
use Rattle.law_refine.specs.Below.fkv_log.ReserveAnswer.TheVariants.{Reserved}
use Rattle.fkv_map.specs.Fits.{OpFits}
use Rattle.fkv_map.specs.Keys.{reply_from}
use Rattle.fkv_map.specs.declared.operations.Op.{Op}
use Rattle.fkv_map.specs.declared.operations.Op.TheVariants.{Read}
use Rattle.law_refine.specs.Below.fkv_ops.Appending.{AppendState}
use Rattle.law_refine.specs.Below.fkv_ops.Trying.{TryState}
use Rattle.law_refine.specs.Below.fkv_ops.Values.{value_of}
use Rattle.law_refine.specs.Below.fkv_ops.TryAnswer.{TryAnswer}
use Rattle.law_refine.specs.Below.fkv_ops.TryAnswer.TheVariants as answer
use Rattle.law_refine.specs.Below.fkv_ops.TheAppending.{Appending}
use Rattle.law_refine.specs.Below.fkv_ops.Request.{Request}
use Rattle.law_refine.specs.Below.fkv_ops.TheTrying.{Trying}
use Rattle.law_refine.specs.Below.fkv_ops.TheTrying.TheVariants.{Walks, ChangesValue, SwapsValue, Appends}
use Rattle.law_refine.specs.Below.fkv_pending.Attempting.{AttemptState, attempt_ask, attempt_next}
use Rattle.law_refine.specs.Below.fkv_pending.TheAttempting.{Attempting}
use Rattle.law_refine.specs.Below.fkv_pending.TheAttempting.TheVariants.{Tries}
use Rattle.law_refine.specs.Below.fkv_pending.PendingRequest.{PendingRequest}
use Rattle.fkv_plane.specs.Asked.{reply_to}
use Rattle.fkv_plane.specs.declared.asks.Ask.{Ask}
use Rattle.fkv_plane.specs.declared.asks.Ask.TheVariants.{Put, Take, Done}
use Rattle.fkv_plane.specs.declared.places.Places.{Places}
use Rattle.law_refine.specs.Below.fkv_session.Sessions.{Seat, SessionState, bits_of, room_of}
use Rattle.law_refine.specs.Below.fkv_session.Told.{Told}
use Rattle.law_refine.specs.Below.fkv_session.Sitting.{Sitting}
use Rattle.law_refine.specs.Below.fkv_session.Sitting.TheVariants.{Attempts, Polls}
use Rattle.law_refine.specs.Below.fkv_world.Past.{Traced}
use Rattle.law_opening.proofs.OfChanges.OfFits.Logs.{AllMakeFit, both_make}
use Rattle.law_opening.proofs.OfChanges.OfFits.Numbers.{said_fits}
use Rattle.law_opening.proofs.OfChanges.OfFits.Rows.{AttemptOk, TryRow, WordsOk}
use Rattle.law_opening.proofs.OfChanges.Told.{goes_so}
use Rattle.law_opening.specs.Changes.Fits.{CellFits}
use Rattle.law_refine.specs.Below.law_world.GuardSessions.Tries.{is_for_entry}
use Rattle.law_refine.specs.Below.law_local.Sessions.Inputs.{AttemptsBy, TriesFor}
use Rattle.law_refine.specs.Below.law_local.Sessions.Known.{is_attempting}
use Rattle.law_refine.specs.Below.law_local.Tries.TryRows.{cell_of}
use Rattle.law_log.specs.Ghosts.{Changes, Drops, Log, Reserves}
use Rattle.law_refine.specs.Events.Appends.{append_ghosts, entry_made, reserved_ghosts, NewRecord, new_record}
use Rattle.law_refine.specs.Events.Lines.{read_in_hand, read_waiting}
use Rattle.law_refine.specs.Events.Sessions.{attempt_ghosts, sitting_ghosts, step_ghosts, ticket_of, tried_ghosts, value_ghosts}
use Rattle.law_refine.specs.Events.Tries.{try_ghosts}
use Rattle.law_refine.proofs.OfEvents.Searches.{append_all, search_all}

-- the record of words that fit
cell_fits : (version : ℕ) (words : RecordWords) → WordsOk words → CellFits (cell_of version words)
cell_fits version words ok = (ok.0, said_fits words.value ok.1)

-- ---- an append
reserved_make : (a : AppendState) (made : NewRecord) (ask : Ask ReserveAnswer) → (OpFits made.entry.op → WordsOk a.its_words) → AllMakeFit (reserved_ghosts a made ask)
reserved_make a made (Done (Reserved addr)) makes = by_test (is_for_entry a addr)
  where
    by_test : (b : Bool) → AllMakeFit (if b then Reserves addr.0 made.entry (cell_of made.version a.its_words) ∷ [] else Drops addr.0 ∷ Reserves addr.0 made.entry (cell_of made.version a.its_words) ∷ [])
    by_test true = (λ fits. cell_fits made.version a.its_words (makes fits), tt)
    by_test false = (tt, (λ fits. cell_fits made.version a.its_words (makes fits), tt))
reserved_make a made ask makes = tt

append_make : (room : ℕ) (a : AppendState) (made : NewRecord) (step : Appending) (reply : ℕ) → (OpFits made.entry.op → WordsOk a.its_words) → AllMakeFit (append_ghosts room a made step reply)
append_make room a made step reply makes = append_all AllMakeFit tt (λ addr. (tt, tt)) (λ addr. (tt, tt)) room a made step reply (λ ask. reserved_make a made ask makes)

-- ---- a try
module _ (begin : ℕ) (log : Log) (flushed : ℕ) where
  try_make : (p : Places) (room session reader : ℕ) (pending : PendingRequest) (t : TryState) (step : Trying) (reply : ℕ) → t.request ≡ pending.request → TryRow log flushed t step → AllMakeFit (try_ghosts p room session reader pending t step reply)
  try_make p room session reader pending t Walks reply same ok = search_all AllMakeFit tt reader (tt, tt) p pending.request.op t.walk reply
  try_make p room session reader pending t (SwapsValue addr) reply same ok = (tt, tt)
  try_make p room session reader pending t (ChangesValue addr old) reply same ok = by_test (reply == old)
    where
      by_test : (b : Bool) → AllMakeFit (if b then Changes addr.0 (entry_made session pending (reply_from (value_of old) t.request.op)) ∷ [] else [])
      by_test true = (tt, tt)
      by_test false = tt
  try_make p room session reader pending t (Appends its) reply same ok =
      append_make room t.append (new_record session pending its) t.append.step reply (λ fits. ok (subst (λ (r : Request). OpFits r.op) (sym same) fits))
  try_make p room session reader pending t step reply same ok = tt

  -- ---- an attempt
  value_make : (op : Op) (reader : ℕ) (ask : Ask TryAnswer) → AllMakeFit (value_ghosts op reader ask)
  value_make (Read key) reader (Done (answer.Found value)) = (tt, tt)
  value_make (Read key) reader (Done answer.Absent) = (tt, tt)
  value_make op reader ask = tt

  tried_make : (k : Seat) (reader : ℕ) (a : AttemptState) (step : Attempting) (reply : ℕ) → TriesFor (bits_of k) a step → AttemptOk begin log flushed a → AllMakeFit (tried_ghosts k reader a step reply)
  tried_make k reader a Tries reply tries ok = try_make k.places (room_of k) k.number reader a.pending a.trial a.trial.step reply tries.its_request ok.1.1.1
  tried_make k reader a step reply tries ok = tt

  attempt_make : (k : Seat) (reader : ℕ) (a : AttemptState) (reply : ℕ) → TriesFor (bits_of k) a a.step → AttemptOk begin log flushed a → AllMakeFit (attempt_ghosts k reader a reply)
  attempt_make k reader a reply tries ok =
      both_make (value_ghosts a.pending.request.op reader (attempt_ask k.places k.number (attempt_next k.places (bits_of k) (room_of k) k.number a reply))) (tried_ghosts k reader a a.step reply)
      (value_make a.pending.request.op reader (attempt_ask k.places k.number (attempt_next k.places (bits_of k) (room_of k) k.number a reply)))
      (tried_make k reader a a.step reply tries ok)

  sitting_make : (k : Seat) (trace : List Traced) (s : SessionState) (step : Sitting) (reply : ℕ) → AttemptsBy k s step → (is_attempting step ≡ true → AttemptOk begin log flushed s.attempt) → AllMakeFit (sitting_ghosts k trace s step reply)
  sitting_make k trace s (Attempts has_shifted) reply so ok = attempt_make k (read_in_hand k.number trace) s.attempt reply (goes_so k s (Attempts has_shifted) refl so).tries (ok refl)
  sitting_make k trace s (Polls index) reply so ok = attempt_make k (read_waiting k.number (ticket_of s.attempt.pending.name) trace) s.attempt reply (goes_so k s (Polls index) refl so).tries (ok refl)
  sitting_make k trace s step reply so ok = tt

  pub step_make : (k : Seat) (trace : List Traced) (s : SessionState) (words : List ℕ) (ask : Ask Told) → AttemptsBy k s s.step → (is_attempting s.step ≡ true → AttemptOk begin log flushed s.attempt) → AllMakeFit (step_ghosts k trace s words ask)
  unfolding step_ghosts
  step_make k trace s words (Done its) so ok = tt
  step_make k trace s words (Put slot action) so ok = tt
  step_make k trace s words (Take slot) so ok = tt
  step_make k trace s words ask so ok = sitting_make k trace s s.step (reply_to words ask) so ok
