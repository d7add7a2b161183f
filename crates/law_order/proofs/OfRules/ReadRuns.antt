-- A read keeps its key, and what had taken effect as it was called, whatever the log's events are: so its value is one that its key had since then.
use Rattle.std.proofs.Common.{◌≡◌, inl, inr, ℕ, ◌∙◌, append_assoc, Option, List, [], ◌∷◌, ◌++◌, refl, sym, ap, subst}
use Rattle.std.specs.FinMap.{get}
use Rattle.fkv_map.specs.History.{content}
use Rattle.fkv_map.specs.Map.{Map, reply_to_read}
use Rattle.fkv_map.specs.declared.history.HistoryEntry.{HistoryEntry}
use Rattle.fkv_map.specs.declared.operations.Reply.{Reply}
use Rattle.law_log.specs.Trace.{Effect, TraceLine, CallsUpdate, RefusesUpdate, GivesResult, CallsRead, AnswersRead, history_of}
use Rattle.law_log.specs.Ghosts.{Log, Reading, NotCalled, Called, Walks, HasValue, Ghosts, GhostEvent, Tells, FindsEntry, TakesValue, Reserves, Publishes, Drops, Changes, Fixes, found, took, read_called, set_at, ghosts_after, ghost_run}
use Rattle.law_log.specs.Enabled.{AreEnabled, IsOpened, IsEnabled, IsLineEnabled}
use Rattle.law_log.proofs.Shown.{HadValue, IsSound, KnowsRead, at_one, run_sound}
use Rattle.law_order.specs.Rules.InTime.{IsInTime}

-- ---- histories in order
nil_right : (entries : List HistoryEntry) → entries ++ [] ≡ entries
nil_right [] = refl
nil_right (entry ∷ rest) = ap (λ (x : List HistoryEntry). entry ∷ x) (nil_right rest)

history_append : (newer older : List Effect) → history_of (newer ++ older) ≡ history_of older ++ history_of newer
history_append [] older = sym (nil_right (history_of older))
history_append (effect ∷ newer) older = ap (λ (x : List HistoryEntry). x ++ effect.entry ∷ []) (history_append newer older) ∙ append_assoc (history_of older) (history_of newer) (effect.entry ∷ [])

-- ---- it was called for this key, when this had taken effect
pub WasCalled : ℕ → List Effect → Reading → Type 0
WasCalled key seen NotCalled = ⊥
WasCalled key seen (Called k s) = (k ≡ key) × (s ≡ seen)
WasCalled key seen (Walks k s a) = (k ≡ key) × (s ≡ seen)
WasCalled key seen (HasValue k s value) = (k ≡ key) × (s ≡ seen)

found_so : (home : ℕ → ℕ) (log : Log) (key : ℕ) (seen : List Effect) (reading : Reading) → WasCalled key seen reading → WasCalled key seen (found home log reading)
unfolding WasCalled
found_so home log key seen NotCalled was = was
found_so home log key seen (Called k s) was = was
found_so home log key seen (Walks k s a) was = was
found_so home log key seen (HasValue k s value) was = was

took_so : (home : ℕ → ℕ) (log : Log) (key : ℕ) (seen : List Effect) (reading : Reading) → WasCalled key seen reading → WasCalled key seen (took home log reading)
unfolding WasCalled
took_so home log key seen NotCalled was = was
took_so home log key seen (Called k s) was = was
took_so home log key seen (Walks k s a) was = was
took_so home log key seen (HasValue k s value) was = was

none_called : (key : ℕ) (seen : List Effect) (reading : Reading) → reading ≡ NotCalled → WasCalled key seen reading → ⊥
unfolding WasCalled
none_called key seen reading is was = subst (WasCalled key seen) is was

set_so : (key : ℕ) (seen : List Effect) (reads : ℕ → Reading) (r : ℕ) (reading : Reading) (reader : ℕ) → (reader ≡ r → WasCalled key seen (reads reader) → WasCalled key seen reading) → WasCalled key seen (reads reader)
    → WasCalled key seen (set_at reads r reading reader)
set_so key seen reads r reading reader so was = elim (at_one reads r reading reader) [
  | inl here ↦ subst (WasCalled key seen) (sym here.1) (so here.0 was)
  | inr other ↦ subst (WasCalled key seen) (sym other.1) was
]

line_so : (g : Ghosts) (line : TraceLine) (key : ℕ) (seen : List Effect) (reader : ℕ) → IsLineEnabled g line → WasCalled key seen (g.reads reader) → WasCalled key seen (read_called g.log.history line g.reads reader)
line_so g (CallsRead r k) key seen reader enabled was =
    set_so key seen g.reads r (Called k g.log.history) reader (λ same its. absurd (none_called key seen (g.reads reader) (ap g.reads same ∙ enabled) its)) was
line_so g (CallsUpdate s n op) key seen reader enabled was = was
line_so g (RefusesUpdate s n) key seen reader enabled was = was
line_so g (GivesResult s n reply) key seen reader enabled was = was
line_so g (AnswersRead r reply) key seen reader enabled was = was

event_so : (home : ℕ → ℕ) (g : Ghosts) (event : GhostEvent) (key : ℕ) (seen : List Effect) (reader : ℕ) → IsEnabled home g event → WasCalled key seen (g.reads reader) → WasCalled key seen ((ghosts_after home g event).reads reader)
unfolding ghosts_after
event_so home g (Tells line) key seen reader enabled was = line_so g line key seen reader enabled was
event_so home g (FindsEntry r) key seen reader enabled was =
    set_so key seen g.reads r (found home g.log (g.reads r)) reader (λ same its. found_so home g.log key seen (g.reads r) (subst (λ i. WasCalled key seen (g.reads i)) same its)) was
event_so home g (TakesValue r) key seen reader enabled was =
    set_so key seen g.reads r (took home g.log (g.reads r)) reader (λ same its. took_so home g.log key seen (g.reads r) (subst (λ i. WasCalled key seen (g.reads i)) same its)) was
event_so home g (Reserves a entry cell) key seen reader enabled was = was
event_so home g (Publishes a) key seen reader enabled was = was
event_so home g (Drops a) key seen reader enabled was = was
event_so home g (Changes a entry) key seen reader enabled was = was
event_so home g (Fixes a) key seen reader enabled was = was

here_called : (key : ℕ) (seen : List Effect) (reads : ℕ → Reading) (reader : ℕ) → WasCalled key seen (set_at reads reader (Called key seen) reader)
unfolding WasCalled
here_called key seen reads reader = elim (at_one reads reader (Called key seen) reader) [
  | inl here ↦ subst (WasCalled key seen) (sym here.1) (refl, refl)
  | inr other ↦ absurd (other.0 refl)
]

pub run_so : (home : ℕ → ℕ) (opening : Ghosts) (between earlier : List GhostEvent) (reader key : ℕ) → AreEnabled home opening (between ++ Tells (CallsRead reader key) ∷ earlier)
    → WasCalled key (ghost_run home opening earlier).log.history ((ghost_run home opening (between ++ Tells (CallsRead reader key) ∷ earlier)).reads reader)
unfolding ghost_run ghosts_after AreEnabled
run_so home opening [] earlier reader key enabled = here_called key (ghost_run home opening earlier).log.history (ghost_run home opening earlier).reads reader
run_so home opening (event ∷ between) earlier reader key enabled =
    event_so home (ghost_run home opening (between ++ Tells (CallsRead reader key) ∷ earlier)) event key (ghost_run home opening earlier).log.history reader enabled.1 (run_so home opening between earlier reader key enabled.0)

-- ---- its answer
pub had_in_time : (m : Map) (history seen : List Effect) (key : ℕ) (value : Option ℕ) (reply : Reply) → HadValue m history seen key value → reply ≡ reply_to_read value → IsInTime m (history_of seen) (history_of history) key reply
had_in_time m history seen key value reply had replied = record {
  between = history_of had.between;
  newer = history_of had.newer;
  all = ap history_of had.all ∙ history_append had.newer (had.between ++ seen)
      ∙ ap (λ (x : List HistoryEntry). x ++ history_of had.newer) (history_append had.between seen) ∙ append_assoc (history_of seen) (history_of had.between) (history_of had.newer);
  value = replied ∙ ap reply_to_read (had.its ∙ ap (λ (x : List HistoryEntry). get (content m x) key) (history_append had.between seen));
}

-- a read that goes down its chain, and one that has its value, was called so
pub walks_so : (key : ℕ) (seen : List Effect) (reading : Reading) (k : ℕ) (s : List Effect) (a : ℕ) → reading ≡ Walks k s a → WasCalled key seen reading → (k ≡ key) × (s ≡ seen)
unfolding WasCalled
walks_so key seen reading k s a is was = subst (WasCalled key seen) is was

has_so : (key : ℕ) (seen : List Effect) (reading : Reading) (k : ℕ) (s : List Effect) (value : Option ℕ) → reading ≡ HasValue k s value → WasCalled key seen reading → (k ≡ key) × (s ≡ seen)
unfolding WasCalled
has_so key seen reading k s value is was = subst (WasCalled key seen) is was

answer_so : (home : ℕ → ℕ) (m : Map) (g : Ghosts) (seen : List Effect) (reader key : ℕ) (reply : Reply) → IsSound home m g → WasCalled key seen (g.reads reader) → IsLineEnabled g (AnswersRead reader reply)
    → IsInTime m (history_of seen) (history_of g.log.history) key reply
answer_so home m g seen reader key reply sound was enabled =
    let same = has_so key seen (g.reads reader) enabled.0 enabled.1 enabled.2 enabled.3 was in
    let had : HadValue m g.log.history enabled.1 enabled.0 enabled.2 = (subst (KnowsRead home m g.log g.trace reader) enabled.3 (sound.knows reader)).1 in
    subst (λ k. IsInTime m (history_of seen) (history_of g.log.history) k reply) same.0
    (subst (λ (s : List Effect). IsInTime m (history_of s) (history_of g.log.history) enabled.0 reply) same.1 (had_in_time m g.log.history enabled.1 enabled.0 enabled.2 reply had enabled.4))

pub in_time : (home : ℕ → ℕ) (m : Map) (version : ℕ) (opening : Ghosts) (between earlier : List GhostEvent) (reader key : ℕ) (reply : Reply) → IsOpened home m version opening
    → AreEnabled home opening (Tells (AnswersRead reader reply) ∷ (between ++ Tells (CallsRead reader key) ∷ earlier))
    → IsInTime m (history_of (ghost_run home opening earlier).log.history) (history_of (ghost_run home opening (between ++ Tells (CallsRead reader key) ∷ earlier)).log.history) key reply
unfolding AreEnabled ghost_run
in_time home m version opening between earlier reader key reply opened enabled =
    answer_so home m (ghost_run home opening (between ++ Tells (CallsRead reader key) ∷ earlier)) (ghost_run home opening earlier).log.history reader key reply
    (run_sound home m version opening (between ++ Tells (CallsRead reader key) ∷ earlier) opened enabled.0) (run_so home opening between earlier reader key enabled.0) enabled.1
