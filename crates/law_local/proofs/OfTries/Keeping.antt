-- Where records of older versions are fixed, whatever a try needs is kept; and so it is where no record changes.
use Rattle.std.proofs.Common.{◌≡◌, inl, inr, ℕ, ◌<◌, ◌∙◌, refl, sym, ap, subst}
use Rattle.fkv_map.specs.declared.operations.Reply.{Reply}
use Rattle.fkv_map.specs.Map.{Map}
use Rattle.law_log.specs.Chains.{Cell, value_at, version_at, has_key, chain_from, IsWithin}
use Rattle.law_log.specs.Ghosts.{Log}
use Rattle.law_log.specs.Enabled.{IsFixed}
use Rattle.law_log.proofs.Shown.{Held, Grows, first_stays, fixed_stays, in_from, IsFirst, first_is}
use Rattle.fkv_ops.specs.declared.appending.Appending.{Appending}
use Rattle.fkv_ops.specs.declared.appending.Appending.TheVariants as appending
use Rattle.fkv_ops.specs.declared.requests.Request.{Request}
use Rattle.fkv_ops.specs.declared.trying.Trying.{Trying}
use Rattle.fkv_ops.specs.declared.trying.Trying.TheVariants as try
use Rattle.fkv_ops.specs.Trying.{TryState}
use Rattle.fkv_pending.specs.declared.attempting.Attempting.{Attempting}
use Rattle.fkv_pending.specs.declared.attempting.Attempting.TheVariants as attempt
use Rattle.fkv_pending.specs.Attempting.{AttemptState}
use Rattle.law_local.specs.Tries.TryRows.{cell_of, IsMadeFor, AppendKnows, TryRow, TryKnows}
use Rattle.law_local.specs.Tries.AttemptRows.{AttemptRow, AttemptKnows, KeepsForAttempt}
use Rattle.law_local.specs.Tries.Kept.{source_of, KeepsSource, KeepsForAppend, KeepsForTry, OlderAreFixed}

-- ---- records of older versions are fixed
source_fixed : (home : ℕ → ℕ) (m : Map) (log : Log) (cell : Cell) → Held home m log → OlderAreFixed log cell.version → version_at (log.cells (source_of home log cell)) < cell.version → IsFixed log (source_of home log cell)
source_fixed home m log cell held older low = by_first (source_of home log cell) (first_is (has_key cell.key) log.cells (chain_from cell.previous (log.chains (home cell.key)))) low
  where
    by_first : (x : ℕ) → IsFirst (has_key cell.key) log.cells (chain_from cell.previous (log.chains (home cell.key))) x → version_at (log.cells x) < cell.version → IsFixed log x
    by_first x (inl none) low = subst (IsFixed log) (sym none) held.some_fixed
    by_first x (inr some) low =
        let there = held.chains.in_chain (home cell.key) x (in_from cell.previous x (log.chains (home cell.key)) some.0) in
        older x there.cell there.its (subst (λ v. v < cell.version) (ap version_at there.its) low)

source_kept : (home : ℕ → ℕ) (m : Map) (log log' : Log) (cell : Cell) → Held home m log → Grows home m log log' → IsWithin cell.previous (log.chains (home cell.key)) → OlderAreFixed log cell.version → KeepsSource home log log' cell
source_kept home m log log' cell held grows within older = λ low.
    ap (λ i. value_at (log'.cells i)) (sym (first_stays home m log log' held.chains grows cell.key cell.previous within))
    ∙ fixed_stays home m log log' held.chains held.none grows cell.key cell.previous within (source_fixed home m log cell held older low)

leads_of : (home : ℕ → ℕ) (log : Log) (request : Request) (its : Reply) (cell : Cell) → IsMadeFor home log request.op its cell → IsWithin cell.previous (log.chains (home cell.key))
leads_of home log request its cell made = (made (record { session = 0; serial = record { 0 = 0 }; op = request.op; reply = its }) (refl, refl)).leads

append_kept : (home : ℕ → ℕ) (m : Map) (log log' : Log) (request : Request) (its : Reply) (cell : Cell) (step : Appending) → Held home m log → Grows home m log log' → OlderAreFixed log request.version.0 → AppendKnows home log request its cell step
    → KeepsForAppend home log log' cell step
append_kept home m log log' request its cell appending.Reserves held grows older knows =
    source_kept home m log log' cell held grows (leads_of home log request its cell knows.1) (subst (OlderAreFixed log) (sym knows.0) older)
append_kept home m log log' request its cell (appending.Ended told) held grows older knows = tt
append_kept home m log log' request its cell (appending.Fills addr) held grows older knows = tt
append_kept home m log log' request its cell (appending.Publishes addr) held grows older knows = tt
append_kept home m log log' request its cell appending.Invalidates held grows older knows = tt

row_kept : (home : ℕ → ℕ) (m : Map) (log log' : Log) (t : TryState) (step : Trying) → Held home m log → Grows home m log log' → OlderAreFixed log t.request.version.0 → TryRow home log t step → KeepsForTry home log log' t step
row_kept home m log log' t (try.Appends its) held grows older row = append_kept home m log log' t.request its (cell_of t.request.version.0 t.append.its_words) t.append.step held grows older row.1
row_kept home m log log' t (try.Ended its) held grows older row = tt
row_kept home m log log' t try.TakesShared held grows older row = tt
row_kept home m log log' t try.LoadsPhase held grows older row = tt
row_kept home m log log' t try.Walks held grows older row = tt
row_kept home m log log' t try.CountsTaken held grows older row = tt
row_kept home m log log' t (try.LoadsSafe addr version) held grows older row = tt
row_kept home m log log' t (try.SwapsValue addr) held grows older row = tt
row_kept home m log log' t (try.LoadsCurrent addr) held grows older row = tt
row_kept home m log log' t (try.ChangesValue addr old) held grows older row = tt
row_kept home m log log' t try.LoadsAnswer held grows older row = tt
row_kept home m log log' t (try.TakesExclusive old) held grows older row = tt
row_kept home m log log' t try.LoadsOld held grows older row = tt
row_kept home m log log' t (try.LoadsTail waiting) held grows older row = tt
row_kept home m log log' t (try.LoadsTaken waiting) held grows older row = tt
row_kept home m log log' t (try.DropsExclusive its) held grows older row = tt
row_kept home m log log' t (try.DropsShared its) held grows older row = tt

pub older_kept : (home : ℕ → ℕ) (m : Map) (log log' : Log) (t : TryState) → Held home m log → Grows home m log log' → OlderAreFixed log t.request.version.0 → TryKnows home log t → KeepsForTry home log log' t t.step
older_kept home m log log' t held grows older knows = row_kept home m log log' t t.step held grows older knows.row

attempt_row_kept : (home : ℕ → ℕ) (m : Map) (log log' : Log) (a : AttemptState) (step : Attempting) → Held home m log → Grows home m log log' → OlderAreFixed log a.pending.request.version.0 → AttemptRow home log a step → KeepsForAttempt home log log' a step
attempt_row_kept home m log log' a attempt.Tries held grows older row =
    older_kept home m log log' a.trial held grows (subst (λ (r : Request). OlderAreFixed log r.version.0) (sym row.its_request) older) row.knows
attempt_row_kept home m log log' a (attempt.Ended its) held grows older row = tt
attempt_row_kept home m log log' a attempt.Looks held grows older row = tt
attempt_row_kept home m log log' a attempt.Puts held grows older row = tt

pub older_kept_for : (home : ℕ → ℕ) (m : Map) (log log' : Log) (a : AttemptState) → Held home m log → Grows home m log log' → OlderAreFixed log a.pending.request.version.0 → AttemptKnows home log a → KeepsForAttempt home log log' a a.step
older_kept_for home m log log' a held grows older knows = attempt_row_kept home m log log' a a.step held grows older knows.row

-- ---- no record changes
same_append : (home : ℕ → ℕ) (log log' : Log) (cell : Cell) (step : Appending) → log'.cells ≡ log.cells → KeepsForAppend home log log' cell step
same_append home log log' cell appending.Reserves same = λ low. ap (λ cells. value_at (cells (source_of home log cell))) same
same_append home log log' cell (appending.Ended told) same = tt
same_append home log log' cell (appending.Fills addr) same = tt
same_append home log log' cell (appending.Publishes addr) same = tt
same_append home log log' cell appending.Invalidates same = tt

pub same_kept : (home : ℕ → ℕ) (log log' : Log) (t : TryState) (step : Trying) → log'.cells ≡ log.cells → KeepsForTry home log log' t step
same_kept home log log' t (try.Appends its) same = same_append home log log' (cell_of t.request.version.0 t.append.its_words) t.append.step same
same_kept home log log' t (try.Ended its) same = tt
same_kept home log log' t try.TakesShared same = tt
same_kept home log log' t try.LoadsPhase same = tt
same_kept home log log' t try.Walks same = tt
same_kept home log log' t try.CountsTaken same = tt
same_kept home log log' t (try.LoadsSafe addr version) same = tt
same_kept home log log' t (try.SwapsValue addr) same = tt
same_kept home log log' t (try.LoadsCurrent addr) same = tt
same_kept home log log' t (try.ChangesValue addr old) same = tt
same_kept home log log' t try.LoadsAnswer same = tt
same_kept home log log' t (try.TakesExclusive old) same = tt
same_kept home log log' t try.LoadsOld same = tt
same_kept home log log' t (try.LoadsTail waiting) same = tt
same_kept home log log' t (try.LoadsTaken waiting) same = tt
same_kept home log log' t (try.DropsExclusive its) same = tt
same_kept home log log' t (try.DropsShared its) same = tt

pub same_kept_for : (home : ℕ → ℕ) (log log' : Log) (a : AttemptState) (step : Attempting) → log'.cells ≡ log.cells → KeepsForAttempt home log log' a step
same_kept_for home log log' a attempt.Tries same = same_kept home log log' a.trial a.trial.step same
same_kept_for home log log' a (attempt.Ended its) same = tt
same_kept_for home log log' a attempt.Looks same = tt
same_kept_for home log log' a attempt.Puts same = tt
