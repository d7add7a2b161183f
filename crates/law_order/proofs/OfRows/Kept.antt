-- What a try copies keeps its value where the event of the log changes another record in place, or none.
use Rattle.std.proofs.Common.{◌≡◌, ◌≢◌, inl, inr, ℕ, refl, sym, ap, ◌∙◌, subst}
use Rattle.std.specs.Prelude.{⊤}
use Rattle.fkv_map.specs.declared.history.HistoryEntry.{HistoryEntry}
use Rattle.fkv_map.specs.declared.operations.Reply.{Reply}
use Rattle.fkv_map.specs.Map.{Map}
use Rattle.law_commit.specs.Below.fkv_ops.TheAppending.{Appending}
use Rattle.law_commit.specs.Below.fkv_ops.TheAppending.TheVariants as appending
use Rattle.law_commit.specs.Below.fkv_ops.TheTrying.{Trying}
use Rattle.law_commit.specs.Below.fkv_ops.TheTrying.TheVariants.{Appends}
use Rattle.law_commit.specs.Below.fkv_ops.Trying.{TryState}
use Rattle.law_commit.specs.Below.fkv_pending.TheAttempting.{Attempting}
use Rattle.law_commit.specs.Below.fkv_pending.TheAttempting.TheVariants.{Tries}
use Rattle.law_commit.specs.Below.fkv_pending.Attempting.{AttemptState}
use Rattle.law_commit.specs.Below.law_local.Tries.AttemptRows.{KeepsForAttempt}
use Rattle.law_commit.specs.Below.law_local.Tries.Kept.{KeepsForAppend, KeepsForTry, KeepsSource, source_of}
use Rattle.law_commit.specs.Below.law_local.Tries.TryRows.{IsMadeFor, cell_of}
use Rattle.law_log.specs.Chains.{Cell, IsWithin, Logged, Published, Reserved, chain_from, has_key, value_at}
use Rattle.law_log.specs.Enabled.{IsEnabled}
use Rattle.law_log.specs.Ghosts.{Changes, Drops, GhostEvent, Ghosts, Log, Publishes, Reserves, changed, changed_by, dropped, log_after, published}
use Rattle.law_log.proofs.Shown.{Grows, Held, IsFirst, first_is, in_from, not_reserved, not_unborn, set_else}
use Rattle.law_commit.specs.Below.law_refine.Events.Effects.{is_quiet}

-- ---- the record that a try copies, where it is about to reserve an address for the copy
abbrev pub copied : (ℕ → ℕ) → Log → AttemptState → ℕ
copied home log a = source_of home log (cell_of a.trial.request.version.0 a.trial.append.its_words)

pub record Copies (a : AttemptState) : Type 0 where
  pub reply : Reply
  pub tries : a.step ≡ Tries
  pub appends : a.trial.step ≡ Appends reply
  pub reserves : a.trial.append.step ≡ appending.Reserves

append_keeps : (home : ℕ → ℕ) (log after : Log) (cell : Cell) (step : Appending) → (step ≡ appending.Reserves → KeepsSource home log after cell) → KeepsForAppend home log after cell step
append_keeps home log after cell appending.Reserves keeps = keeps refl
append_keeps home log after cell step keeps = tt

try_keeps : (home : ℕ → ℕ) (log after : Log) (t : TryState) (step : Trying) → ((reply : Reply) → step ≡ Appends reply → t.append.step ≡ appending.Reserves → KeepsSource home log after (cell_of t.request.version.0 t.append.its_words)) → KeepsForTry home log after t step
try_keeps home log after t (Appends reply) keeps = append_keeps home log after (cell_of t.request.version.0 t.append.its_words) t.append.step (keeps reply refl)
try_keeps home log after t step keeps = tt

step_keeps : (home : ℕ → ℕ) (log after : Log) (a : AttemptState) (step : Attempting) → (step ≡ Tries → KeepsForTry home log after a.trial a.trial.step) → KeepsForAttempt home log after a step
step_keeps home log after a Tries keeps = keeps refl
step_keeps home log after a step keeps = tt

pub keeps_by : (home : ℕ → ℕ) (log after : Log) (a : AttemptState) → (Copies a → KeepsSource home log after (cell_of a.trial.request.version.0 a.trial.append.its_words)) → KeepsForAttempt home log after a a.step
keeps_by home log after a keeps =
    step_keeps home log after a a.step (λ tries. try_keeps home log after a.trial a.trial.step (λ reply appends reserves. keeps (record { reply = reply; tries = tries; appends = appends; reserves = reserves })))

-- ---- what an event leaves of a published record
abbrev pub IsNoChange : GhostEvent → Type 0
IsNoChange (Changes a entry) = ⊥
IsNoChange event = ⊤

pub quiet_no_change : (event : GhostEvent) → is_quiet event → IsNoChange event
quiet_no_change (Changes a entry) quiet = quiet
quiet_no_change event quiet = tt

cell_stays : (home : ℕ → ℕ) (g : Ghosts) (event : GhostEvent) (i : ℕ) (cell : Cell) → IsNoChange event → IsEnabled home g event → g.log.cells i ≡ Published cell → (log_after home g.log event).cells i ≡ Published cell
cell_stays home g (Changes a entry) i cell none enabled is = absurd none
cell_stays home g (Reserves a entry its) i cell none enabled is = set_else g.log.cells a (Reserved entry its) i (λ same. not_unborn (g.log.cells i) cell is (ap g.log.cells same ∙ enabled.0)) ∙ is
cell_stays home g (Publishes a) i cell none enabled is = by_cell (g.log.cells a) refl
  where
    by_cell : (logged : Logged) → g.log.cells a ≡ logged → (published home g.log a logged).cells i ≡ Published cell
    by_cell (Reserved entry its) e = set_else g.log.cells a (Published its) i (λ same. not_reserved (g.log.cells i) cell its entry is (ap g.log.cells same ∙ e)) ∙ is
    by_cell logged e = is
cell_stays home g (Drops a) i cell none enabled is = by_cell (g.log.cells a) refl
  where
    by_cell : (logged : Logged) → g.log.cells a ≡ logged → (dropped g.log a logged).cells i ≡ Published cell
    by_cell (Reserved entry its) e = set_else g.log.cells a _ i (λ same. not_reserved (g.log.cells i) cell its entry is (ap g.log.cells same ∙ e)) ∙ is
    by_cell logged e = is
cell_stays home g event i cell none enabled is = is

-- a change in place leaves the others
pub changed_else : (log : Log) (a : ℕ) (entry : HistoryEntry) (i : ℕ) → i ≢ a → (changed log a entry (log.cells a)).cells i ≡ log.cells i
changed_else log a entry i other = by_cell (log.cells a)
  where
    by_cell : (logged : Logged) → (changed log a entry logged).cells i ≡ log.cells i
    by_cell (Published cell) = set_else log.cells a (Published (changed_by entry cell)) i other
    by_cell logged = refl

-- ---- so no event but a change in place touches what is copied
leads_of : (home : ℕ → ℕ) (log : Log) (a : AttemptState) (reply : Reply) (cell : Cell) → IsMadeFor home log a.trial.request.op reply cell → IsWithin cell.previous (log.chains (home cell.key))
leads_of home log a reply cell made = (made (record { session = 0; serial = record { 0 = 0 }; op = a.trial.request.op; reply = reply }) (refl, refl)).leads

source_stays : (home : ℕ → ℕ) (m : Map) (g : Ghosts) (event : GhostEvent) (cell : Cell) → Held home m g.log → Grows home m g.log (log_after home g.log event) → IsNoChange event → IsEnabled home g event
    → KeepsSource home g.log (log_after home g.log event) cell
source_stays home m g event cell held grows none enabled older = by_first (source_of home g.log cell) (first_is (has_key cell.key) g.log.cells (chain_from cell.previous (g.log.chains (home cell.key))))
  where
    by_first : (x : ℕ) → IsFirst (has_key cell.key) g.log.cells (chain_from cell.previous (g.log.chains (home cell.key))) x → value_at ((log_after home g.log event).cells x) ≡ value_at (g.log.cells x)
    by_first x (inl nowhere) = subst (λ (i : ℕ). value_at ((log_after home g.log event).cells i) ≡ value_at (g.log.cells i)) (sym nowhere) (ap value_at grows.none ∙ sym (ap value_at held.none))
    by_first x (inr some) =
        let there = held.chains.in_chain (home cell.key) x (in_from cell.previous x (g.log.chains (home cell.key)) some.0) in
        ap value_at (cell_stays home g event x there.cell none enabled there.its) ∙ sym (ap value_at there.its)

pub still_keeps : (home : ℕ → ℕ) (m : Map) (g : Ghosts) (event : GhostEvent) (a : AttemptState) → Held home m g.log → Grows home m g.log (log_after home g.log event) → IsNoChange event → IsEnabled home g event
    → KeepsForAttempt home g.log (log_after home g.log event) a a.step
still_keeps home m g event a held grows none enabled =
    keeps_by home g.log (log_after home g.log event) a (λ copies. source_stays home m g event (cell_of a.trial.request.version.0 a.trial.append.its_words) held grows none enabled)
