-- What a request that waits and an attempt know stays as the log grows, and as the head rises that the session has seen.
use Rattle.std.proofs.Common.{ℕ, ◌≤◌}
use Rattle.fkv_map.specs.Map.{Map}
use Rattle.law_log.specs.Ghosts.{Log}
use Rattle.law_log.proofs.Shown.{Held, Grows}
use Rattle.fkv_ops.specs.declared.requests.Seen.{Seen}
use Rattle.fkv_pending.specs.declared.attempting.Attempting.{Attempting}
use Rattle.fkv_pending.specs.declared.attempting.Attempting.TheVariants.{Ended, Looks, Tries, Puts}
use Rattle.fkv_pending.specs.declared.pending_requests.PendingRequest.{PendingRequest}
use Rattle.fkv_pending.specs.Attempting.{AttemptState}
use Rattle.law_local.specs.Tries.TryRows.{key_in, head_in, floor_in}
use Rattle.law_local.specs.Tries.AttemptRows.{PendingKnows, AttemptRow, AttemptKnows, KeepsForAttempt}
use Rattle.law_local.proofs.OfTries.MailRows.{mail_grows}
use Rattle.law_local.proofs.OfTries.TryGrows.{sought_grows, request_grows, sought_later, request_later, try_grows}

pub pending_grows : (home : ℕ → ℕ) (m : Map) (log log' : Log) (pending : PendingRequest) (seen : Seen) → Held home m log → Grows home m log log' → PendingKnows home log pending seen → PendingKnows home log' pending seen
pending_grows home m log log' pending seen held grows knows = record {
  request = request_grows home m log log' pending.request seen held grows knows.request;
  sought = sought_grows home m log log' (floor_in pending.request) (key_in pending.request) (head_in seen) pending.sought held grows knows.request.low_floor knows.sought;
  unlatched = knows.unlatched;
}

pub pending_later : (home : ℕ → ℕ) (log : Log) (pending : PendingRequest) (seen later : Seen) → head_in seen ≤ head_in later → head_in later ≤ log.fixed → PendingKnows home log pending seen → PendingKnows home log pending later
pending_later home log pending seen later rises low knows = record {
  request = request_later home log pending.request seen later rises low knows.request;
  sought = sought_later home log (floor_in pending.request) (key_in pending.request) (head_in seen) (head_in later) pending.sought rises knows.sought;
  unlatched = knows.unlatched;
}

row_grows : (home : ℕ → ℕ) (m : Map) (log log' : Log) (a : AttemptState) (step : Attempting) → Held home m log → Grows home m log log' → PendingKnows home log a.pending a.seen → KeepsForAttempt home log log' a step → AttemptRow home log a step → AttemptRow home log' a step
row_grows home m log log' a (Ended its) held grows pending keeps row = tt
row_grows home m log log' a Looks held grows pending keeps row = (row.0, row.1, mail_grows home m log log' (floor_in a.pending.request) (key_in a.pending.request) (head_in a.seen) a.pending.sought a.mailing grows pending.request.low pending.sought row.2)
row_grows home m log log' a Tries held grows pending keeps row = record { knows = try_grows home m log log' a.trial held grows keeps row.knows; its_request = row.its_request; its_seen = row.its_seen; not_asked = row.not_asked }
row_grows home m log log' a Puts held grows pending keeps row = row

pub attempt_grows : (home : ℕ → ℕ) (m : Map) (log log' : Log) (a : AttemptState) → Held home m log → Grows home m log log' → KeepsForAttempt home log log' a a.step → AttemptKnows home log a → AttemptKnows home log' a
attempt_grows home m log log' a held grows keeps knows = record {
  pending = pending_grows home m log log' a.pending a.seen held grows knows.pending;
  row = row_grows home m log log' a a.step held grows knows.pending keeps knows.row;
}
