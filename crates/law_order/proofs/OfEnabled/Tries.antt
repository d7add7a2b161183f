-- That the log's events of a session's step are enabled, by what its attempt knows and is told.
use Rattle.std.proofs.Common.{◌≡◌, ℕ, List, [], ◌∷◌, ◌++◌, ◌<◌, refl, ap, sym, subst, Bool, true, false, eqb-true}
use Rattle.std.specs.Prelude.{◌==◌, if◌then◌else◌, Some, None}
use Rattle.fkv_base.specs.declared.numbers.Addr.{Addr}
use Rattle.fkv_map.specs.declared.history.HistoryEntry.{HistoryEntry}
use Rattle.fkv_map.specs.declared.operations.Op.{Op}
use Rattle.fkv_map.specs.declared.operations.Op.TheVariants.{Read}
use Rattle.fkv_map.specs.declared.operations.Reply.{Reply}
use Rattle.fkv_map.specs.Keys.{reply_from}
use Rattle.fkv_plane.specs.declared.asks.Ask.{Ask}
use Rattle.fkv_plane.specs.declared.asks.Ask.TheVariants.{Done}
use Rattle.fkv_plane.specs.declared.places.Places.{Places}
use Rattle.law_commit.specs.Below.fkv_log.TheInvalidating.{Invalidating}
use Rattle.law_commit.specs.Below.fkv_log.TheInvalidating.TheVariants as invalidating
use Rattle.law_commit.specs.Below.fkv_log.ReserveAnswer.{ReserveAnswer}
use Rattle.law_commit.specs.Below.fkv_log.ReserveAnswer.TheVariants.{Reserved}
use Rattle.law_commit.specs.Below.fkv_log.Reserving.{reserve_next_ask}
use Rattle.fkv_index.specs.declared.publishing.PublishAnswer.{PublishAnswer}
use Rattle.fkv_index.specs.declared.publishing.PublishAnswer.TheVariants.{Won}
use Rattle.fkv_index.specs.declared.finding.Found.{Found}
use Rattle.fkv_index.specs.declared.finding.Found.TheVariants.{Slot, NoSlot}
use Rattle.fkv_index.specs.declared.finding.FindAnswer.{FindAnswer}
use Rattle.fkv_index.specs.Finding.{find_next_ask}
use Rattle.fkv_index.specs.Publishing.{publish_next_ask}
use Rattle.law_commit.specs.Below.fkv_ops.TryAnswer.{TryAnswer}
use Rattle.law_commit.specs.Below.fkv_ops.TryAnswer.TheVariants as answer
use Rattle.law_commit.specs.Below.fkv_ops.TheAppending.{Appending}
use Rattle.law_commit.specs.Below.fkv_ops.TheAppending.TheVariants as appending
use Rattle.law_commit.specs.Below.fkv_ops.Request.{Request}
use Rattle.law_commit.specs.Below.fkv_ops.Seen.{Seen}
use Rattle.law_commit.specs.Below.fkv_ops.TheTrying.{Trying}
use Rattle.law_commit.specs.Below.fkv_ops.TheTrying.TheVariants.{Walks, SwapsValue, ChangesValue, Appends}
use Rattle.law_commit.specs.Below.fkv_ops.TheWalking.{Walking}
use Rattle.law_commit.specs.Below.fkv_ops.TheWalking.TheVariants.{Finds}
use Rattle.law_commit.specs.Below.fkv_ops.Appending.{AppendState}
use Rattle.law_commit.specs.Below.fkv_ops.Trying.{TryState}
use Rattle.law_commit.specs.Below.fkv_ops.Values.{value_of}
use Rattle.law_commit.specs.Below.fkv_ops.Walking.{WalkState}
use Rattle.law_log.specs.Ghosts.{Ghosts, GhostEvent, Reserves, Drops, Changes, ghost_run}
use Rattle.law_log.specs.Enabled.{AreEnabled, IsInHand, IsMade, IsChangeEnabled}
use Rattle.law_commit.specs.Below.fkv_pending.TheAttempting.{Attempting}
use Rattle.law_commit.specs.Below.fkv_pending.TheAttempting.TheVariants.{Tries}
use Rattle.law_commit.specs.Below.fkv_pending.PendingRequest.{PendingRequest}
use Rattle.law_commit.specs.Below.fkv_pending.Attempting.{AttemptState, attempt_ask, attempt_next}
use Rattle.law_commit.specs.Below.fkv_session.Sitting.{Sitting}
use Rattle.law_commit.specs.Below.fkv_session.Sitting.TheVariants.{Attempts, Polls}
use Rattle.law_commit.specs.Below.fkv_session.Sessions.{SessionState, Seat, bits_of, room_of}
use Rattle.law_commit.specs.Below.law_local.Sessions.Known.{is_attempting}
use Rattle.law_commit.specs.Below.law_local.Tries.AttemptRows.{AttemptKnows, AttemptRow, IsTrueOfAttempt}
use Rattle.law_commit.specs.Below.law_local.Tries.Changes.{IsAlone, IsEnabledChange}
use Rattle.law_commit.specs.Below.law_local.Tries.Replies.{IsTrueReply}
use Rattle.law_commit.specs.Below.law_local.Tries.TryRows.{IsEntryOf, TryKnows, cell_of}
use Rattle.law_commit.proofs.Below.law_local.OfTries.Changes.{cas_enabled, reserve_enabled, swap_enabled}
use Rattle.law_commit.specs.Below.fkv_world.Past.{Traced}
use Rattle.law_commit.specs.Below.law_refine.Events.Appends.{append_ghosts, entry_made, invalidate_ghosts, publish_ghosts, reserved_ghosts, NewRecord, new_record}
use Rattle.law_commit.specs.Below.law_world.GuardSessions.InPlace.{attempt_changes, sitting_changes, try_changes}
use Rattle.law_commit.specs.Below.law_world.GuardSessions.Tries.{is_for_entry}
use Rattle.law_commit.specs.Below.law_refine.Events.Lines.{read_in_hand, read_waiting}
use Rattle.law_commit.specs.Below.law_refine.Events.Sessions.{attempt_ghosts, sitting_ghosts, ticket_of, tried_ghosts, value_ghosts}
use Rattle.law_commit.specs.Below.law_refine.Events.Tries.{find_ghosts, found_ghosts, search_ghosts, try_ghosts, walk_ghosts}
use Rattle.law_order.proofs.OfEnabled.Ready.{AreTakesEnabled, AllTakeUnborn, IsReady, ready_behind}

-- ---- an append: the address that it takes has nothing, and its record is made as it has to be
reserved_enabled : (home : ℕ → ℕ) (g : Ghosts) (a : AppendState) (made : NewRecord) (ask : Ask ReserveAnswer)
    → ((addr : Addr) → ask ≡ Done (Reserved addr) → ((cell_of made.version a.its_words).previous < addr.0) × IsMade home g.log made.entry (cell_of made.version a.its_words))
    → AllTakeUnborn g.log (reserved_ghosts a made ask) → AreEnabled home g (reserved_ghosts a made ask)
unfolding AreEnabled ghost_run
reserved_enabled home g a made (Done (Reserved addr)) is_made unborn = by_test (is_for_entry a addr) unborn
  where
    its : ((cell_of made.version a.its_words).previous < addr.0) × IsMade home g.log made.entry (cell_of made.version a.its_words)
    its = is_made addr refl

    by_test : (c : Bool) → AllTakeUnborn g.log (if c then Reserves addr.0 made.entry (cell_of made.version a.its_words) ∷ [] else Drops addr.0 ∷ Reserves addr.0 made.entry (cell_of made.version a.its_words) ∷ [])
        → AreEnabled home g (if c then Reserves addr.0 made.entry (cell_of made.version a.its_words) ∷ [] else Drops addr.0 ∷ Reserves addr.0 made.entry (cell_of made.version a.its_words) ∷ [])
    by_test true free = (tt, (free.0, its.0, its.1))
    by_test false free = ((tt, (free.1.0, its.0, its.1)), tt)
reserved_enabled home g a made ask is_made unborn = tt

publish_enabled : (home : ℕ → ℕ) (g : Ghosts) (addr : ℕ) (ask : Ask PublishAnswer) → AreTakesEnabled home g (publish_ghosts addr ask) → AreEnabled home g (publish_ghosts addr ask)
unfolding AreEnabled ghost_run
publish_enabled home g addr (Done Won) takes = (tt, takes.0)
publish_enabled home g addr ask takes = tt

invalidate_enabled : (home : ℕ → ℕ) (g : Ghosts) (its : Invalidating) → AreEnabled home g (invalidate_ghosts its)
unfolding AreEnabled
invalidate_enabled home g invalidating.AtRest = tt
invalidate_enabled home g (invalidating.StoresHeader addr header) = (tt, tt)

append_enabled : (home : ℕ → ℕ) (g : Ghosts) (p : Places) (room : ℕ) (t : TryState) (its : Reply) (made : NewRecord) (step : Appending) (reply : ℕ) → TryKnows home g.log t → IsTrueReply home g.log p t t.step reply
    → t.step ≡ Appends its → IsEntryOf t.request.op its made.entry → t.request.version.0 ≡ made.version → t.append.step ≡ step → IsReady home g (append_ghosts room t.append made step reply) → AreEnabled home g (append_ghosts room t.append made step reply)
unfolding AreEnabled
append_enabled home g p room t its made appending.Reserves reply knows says at is version append_at ready =
    reserved_enabled home g t.append made (reserve_next_ask room t.append.reserving reply)
    (λ addr won. subst (λ (v : ℕ). ((cell_of v t.append.its_words).previous < addr.0) × IsMade home g.log made.entry (cell_of v t.append.its_words)) version (reserve_enabled home g.log p room t reply its addr made.entry knows says at append_at won is)) ready.unborn
append_enabled home g p room t its made (appending.Publishes addr) reply knows says at is version append_at ready = publish_enabled home g addr.0 (publish_next_ask t.append.publishing reply) ready.takes
append_enabled home g p room t its made appending.Invalidates reply knows says at is version append_at ready = invalidate_enabled home g t.append.invalidating
append_enabled home g p room t its made step reply knows says at is version append_at ready = tt

-- ---- a search
found_enabled : (home : ℕ → ℕ) (g : Ghosts) (reader : ℕ) (its : Found) → AreEnabled home g (found_ghosts reader its)
unfolding AreEnabled
found_enabled home g reader (Slot place word) = (tt, tt)
found_enabled home g reader NoSlot = (tt, tt)
found_enabled home g reader its = tt

find_enabled : (home : ℕ → ℕ) (g : Ghosts) (reader : ℕ) (ask : Ask FindAnswer) → AreEnabled home g (find_ghosts reader ask)
unfolding AreEnabled
find_enabled home g reader (Done its) = found_enabled home g reader its.found
find_enabled home g reader ask = tt

walk_enabled : (home : ℕ → ℕ) (g : Ghosts) (p : Places) (reader : ℕ) (w : WalkState) (step : Walking) (reply : ℕ) → AreEnabled home g (walk_ghosts p reader w step reply)
unfolding AreEnabled
walk_enabled home g p reader w Finds reply = find_enabled home g reader (find_next_ask p w.finding reply)
walk_enabled home g p reader w step reply = tt

search_enabled : (home : ℕ → ℕ) (g : Ghosts) (p : Places) (op : Op) (reader : ℕ) (w : WalkState) (reply : ℕ) → AreEnabled home g (search_ghosts p op reader w reply)
unfolding AreEnabled
search_enabled home g p (Read key) reader w reply = walk_enabled home g p reader w w.step reply
search_enabled home g p op reader w reply = tt

-- ---- a try: no copy overlaps its change in place
change_enabled : (home : ℕ → ℕ) (g : Ghosts) (a word : ℕ) (entry : HistoryEntry) → IsEnabledChange home g.log a word entry → IsInHand g entry → IsChangeEnabled home g a entry (g.log.cells a)
change_enabled home g a word entry enabled in_hand = subst (IsChangeEnabled home g a entry) (sym enabled.its) (enabled.change, in_hand)

module _ (home : ℕ → ℕ) (g : Ghosts) (p : Places) (room session reader : ℕ) (pending : PendingRequest) (t : TryState) (knows : TryKnows home g.log t) (same : t.request ≡ pending.request)
    (alone : (at : ℕ) → try_changes t.step ≡ Some at → IsAlone home g.log t.request t.seen at) where
  its_entry : (its : Reply) → IsEntryOf t.request.op its (entry_made session pending its)
  its_entry its = (ap (λ (r : Request). r.op) (sym same), refl)

  try_enabled : (step : Trying) (reply : ℕ) → IsTrueReply home g.log p t t.step reply → t.step ≡ step → IsReady home g (try_ghosts p room session reader pending t step reply) → AreEnabled home g (try_ghosts p room session reader pending t step reply)
  unfolding AreEnabled ghost_run
  try_enabled Walks reply says at ready = search_enabled home g p pending.request.op reader t.walk reply
  try_enabled (SwapsValue addr) reply says at ready = (
    tt,
    change_enabled home g addr.0 _ (entry_made session pending (reply_from None t.request.op))
        (swap_enabled home g.log t addr (entry_made session pending (reply_from None t.request.op)) knows at (its_entry (reply_from None t.request.op)) (alone addr.0 (ap try_changes at))) ready.takes.0,
  )
  try_enabled (ChangesValue addr old) reply says at ready = by_test (reply == old) refl ready
    where
      by_test : (c : Bool) → (reply == old) ≡ c → IsReady home g (if c then Changes addr.0 (entry_made session pending (reply_from (value_of old) t.request.op)) ∷ [] else [])
          → AreEnabled home g (if c then Changes addr.0 (entry_made session pending (reply_from (value_of old) t.request.op)) ∷ [] else [])
      by_test true won its = (
        tt,
        change_enabled home g addr.0 _ (entry_made session pending (reply_from (value_of old) t.request.op))
            (cas_enabled home g.log p t addr old reply (entry_made session pending (reply_from (value_of old) t.request.op)) knows says at (eqb-true reply old won) (its_entry (reply_from (value_of old) t.request.op)) (alone addr.0 (ap try_changes at))) its.takes.0,
      )
      by_test false won its = tt
  try_enabled (Appends its) reply says at ready = append_enabled home g p room t its (new_record session pending its) t.append.step reply knows says at (its_entry its) (ap (λ (r : Request). r.version.0) same) refl ready
  try_enabled step reply says at ready = tt

-- ---- an attempt
value_behind : (home : ℕ → ℕ) (g : Ghosts) (op : Op) (reader : ℕ) (ask : Ask TryAnswer) (rest : List GhostEvent) → AreEnabled home g rest → AreEnabled home g (value_ghosts op reader ask ++ rest)
unfolding AreEnabled
value_behind home g (Read key) reader (Done (answer.Found value)) rest enabled = (enabled, tt)
value_behind home g (Read key) reader (Done answer.Absent) rest enabled = (enabled, tt)
value_behind home g op reader ask rest enabled = enabled

tried_enabled : (home : ℕ → ℕ) (g : Ghosts) (k : Seat) (reader : ℕ) (a : AttemptState) (step : Attempting) (reply : ℕ) → AttemptRow home g.log a step → IsTrueOfAttempt home g.log k.places a step reply
    → ((at : ℕ) → attempt_changes a step ≡ Some at → IsAlone home g.log a.pending.request a.seen at) → IsReady home g (tried_ghosts k reader a step reply) → AreEnabled home g (tried_ghosts k reader a step reply)
unfolding AreEnabled
tried_enabled home g k reader a Tries reply row says alone ready =
    try_enabled home g k.places (room_of k) k.number reader a.pending a.trial row.knows row.its_request
    (λ at changes. subst (λ (request : Request). IsAlone home g.log request a.trial.seen at) (sym row.its_request) (subst (λ (seen : Seen). IsAlone home g.log a.pending.request seen at) (sym row.its_seen) (alone at changes)))
    a.trial.step reply says refl ready
tried_enabled home g k reader a step reply row says alone ready = tt

attempt_enabled : (home : ℕ → ℕ) (g : Ghosts) (k : Seat) (reader : ℕ) (a : AttemptState) (reply : ℕ) → AttemptKnows home g.log a → IsTrueOfAttempt home g.log k.places a a.step reply
    → ((at : ℕ) → attempt_changes a a.step ≡ Some at → IsAlone home g.log a.pending.request a.seen at) → IsReady home g (attempt_ghosts k reader a reply) → AreEnabled home g (attempt_ghosts k reader a reply)
attempt_enabled home g k reader a reply knows says alone ready =
    let ask : Ask TryAnswer = attempt_ask k.places k.number (attempt_next k.places (bits_of k) (room_of k) k.number a reply) in
    value_behind home g a.pending.request.op reader ask (tried_ghosts k reader a a.step reply)
    (tried_enabled home g k reader a a.step reply knows.row says alone (ready_behind home g (value_ghosts a.pending.request.op reader ask) (tried_ghosts k reader a a.step reply) ready))

-- ---- a session
pub sitting_enabled : (home : ℕ → ℕ) (g : Ghosts) (k : Seat) (trace : List Traced) (s : SessionState) (step : Sitting) (reply : ℕ) → (is_attempting step ≡ true → AttemptKnows home g.log s.attempt)
    → (is_attempting step ≡ true → IsTrueOfAttempt home g.log k.places s.attempt s.attempt.step reply) → (is_attempting step ≡ true → (at : ℕ) → sitting_changes s step ≡ Some at → IsAlone home g.log s.attempt.pending.request s.attempt.seen at)
    → IsReady home g (sitting_ghosts k trace s step reply) → AreEnabled home g (sitting_ghosts k trace s step reply)
unfolding AreEnabled
sitting_enabled home g k trace s (Attempts has_shifted) reply knows says alone ready = attempt_enabled home g k (read_in_hand k.number trace) s.attempt reply (knows refl) (says refl) (alone refl) ready
sitting_enabled home g k trace s (Polls index) reply knows says alone ready = attempt_enabled home g k (read_waiting k.number (ticket_of s.attempt.pending.name) trace) s.attempt reply (knows refl) (says refl) (alone refl) ready
sitting_enabled home g k trace s step reply knows says alone ready = tt
