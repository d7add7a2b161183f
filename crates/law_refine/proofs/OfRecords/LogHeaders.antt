-- How an event of the log leaves the header of each decided record saying so.
use Rattle.std.proofs.Common.{◌≡◌, ℕ, ◌<◌, ◌≤◌, ◌^◌, ◌∙◌, inl, inr, refl, sym, ap, subst, false, true, Bool, List, [], ◌∷◌, ◌++◌}
use Rattle.std.specs.Prelude.{⊤, map, ◌==◌, if◌then◌else◌, Option, Some, None}
use Rattle.fkv_map.specs.declared.history.HistoryEntry.{HistoryEntry}
use Rattle.fkv_plane.specs.declared.places.RecordWord.TheVariants as rec
use Rattle.law_log.specs.Chains.{Cell, Logged, Reserved, Published, Dropped}
use Rattle.law_log.specs.Enabled.{AreEnabled}
use Rattle.law_log.specs.Ghosts.{Log, Ghosts, GhostEvent, Tells, FindsEntry, TakesValue, Reserves, Publishes, Drops, Changes, Fixes, set_at, published, dropped, changed, changed_by, log_after, ghosts_after, ghost_run}
use Rattle.law_log.specs.Trace.{TraceLine}
use Rattle.law_log.proofs.Shown.{at_one, set_there}
use Rattle.law_refine.specs.Events.GhostEvents.{fixed_ghosts}
use Rattle.law_refine.specs.Events.Reservations.{is_still, AreStill, Reservation, MovesOn, Keeps, Behind, TakesOne, LosesOne, PublishesOne, DropsOne}
use Rattle.law_refine.specs.Records.Headers.{IsGivenUp, IsHeaderOf}
use Rattle.law_refine.proofs.OfRecords.AppendRows.{Standing}
use Rattle.law_refine.proofs.OfRecords.FrameWords.{FrameWord}
use Rattle.law_refine.proofs.OfRecords.GhostFits.{Fit}

-- what stands for the header says what became of the record
abbrev pub HeaderFits : Standing → ℕ → Logged → Type 0
HeaderFits stands a (Published cell) = IsHeaderOf cell false (stands a rec.Header)
HeaderFits stands a (Dropped cell) = IsGivenUp a cell (stands a rec.Header)
HeaderFits stands a logged = ⊤

-- so it is at each address that an entry can have, from one on
abbrev pub HeadersFit : ℕ → Standing → Log → Type 0
HeadersFit start stands log = (a : ℕ) → start ≤ a → a < 2 ^ 48 → HeaderFits stands a (log.cells a)

-- an address is taken for a record that leads below it
abbrev pub falls_at : GhostEvent → Type 0
falls_at (Reserves a entry cell) = cell.previous < a
falls_at event = ⊤

abbrev pub AllFall : List GhostEvent → Type 0
AllFall [] = ⊤
AllFall (event ∷ before) = falls_at event × AllFall before

pub fall_before : (later before : List GhostEvent) → AllFall (later ++ before) → AllFall before
fall_before [] before falls = falls
fall_before (event ∷ later) before falls = fall_before later before falls.1

pub fall_first : (later before : List GhostEvent) → AllFall (later ++ before) → AllFall later
fall_first [] before falls = tt
fall_first (event ∷ later) before falls = (falls.0, fall_first later before falls.1)

-- where each event is enabled they do
pub enabled_fall : (home : ℕ → ℕ) (ghosts : Ghosts) (events : List GhostEvent) → AreEnabled home ghosts events → AllFall events
unfolding AreEnabled
enabled_fall home ghosts [] enabled = tt
enabled_fall home ghosts (Reserves a entry cell ∷ before) enabled = (let its = enabled.1 in its.1, enabled_fall home ghosts before enabled.0)
enabled_fall home ghosts (Tells line ∷ before) enabled = (tt, enabled_fall home ghosts before enabled.0)
enabled_fall home ghosts (FindsEntry reader ∷ before) enabled = (tt, enabled_fall home ghosts before enabled.0)
enabled_fall home ghosts (TakesValue reader ∷ before) enabled = (tt, enabled_fall home ghosts before enabled.0)
enabled_fall home ghosts (Publishes a ∷ before) enabled = (tt, enabled_fall home ghosts before enabled.0)
enabled_fall home ghosts (Drops a ∷ before) enabled = (tt, enabled_fall home ghosts before enabled.0)
enabled_fall home ghosts (Changes a entry ∷ before) enabled = (tt, enabled_fall home ghosts before enabled.0)
enabled_fall home ghosts (Fixes a ∷ before) enabled = (tt, enabled_fall home ghosts before enabled.0)

-- ---- one event
set_fits : (stands : Standing) (cells : ℕ → Logged) (b : ℕ) (x : Logged) (a : ℕ) → HeaderFits stands a (cells a) → (a ≡ b → HeaderFits stands a x) → HeaderFits stands a (set_at cells b x a)
set_fits stands cells b x a was new = elim (at_one cells b x a) [
  | inl here ↦ subst (HeaderFits stands a) (sym here.1) (new here.0)
  | inr there ↦ subst (HeaderFits stands a) (sym there.1) was
]

changed_fits : (start : ℕ) (stands : Standing) (log : Log) (b : ℕ) (entry : HistoryEntry) (logged : Logged) → log.cells b ≡ logged → HeadersFit start stands log → HeadersFit start stands (changed log b entry logged)
changed_fits start stands log b entry (Published cell) e was = λ a from low. set_fits stands log.cells b (Published (changed_by entry cell)) a (was a from low) (λ same.
    let its : IsHeaderOf cell false (stands a rec.Header) = subst (HeaderFits stands a) (ap log.cells same ∙ e) (was a from low) in
    record { header = its.header; spells = its.spells; leads = its.leads; its_mark = its.its_mark; bit = its.bit })
changed_fits start stands log b entry logged e was = was

still_fits : (home : ℕ → ℕ) (start : ℕ) (stands : Standing) (log : Log) (event : GhostEvent) → is_still event → HeadersFit start stands log → HeadersFit start stands (log_after home log event)
still_fits home start stands log (Tells line) still was = was
still_fits home start stands log (FindsEntry reader) still was = was
still_fits home start stands log (TakesValue reader) still was = was
still_fits home start stands log (Fixes a) still was = was
still_fits home start stands log (Changes b entry) still was = changed_fits start stands log b entry (log.cells b) refl was
still_fits home start stands log (Reserves a entry cell) still was = absurd still
still_fits home start stands log (Publishes a) still was = absurd still
still_fits home start stands log (Drops a) still was = absurd still

pub still_behind : (home : ℕ → ℕ) (start : ℕ) (stands : Standing) (g : Ghosts) (later before : List GhostEvent) → AreStill later → HeadersFit start stands (ghost_run home g before).log → HeadersFit start stands (ghost_run home g (later ++ before)).log
unfolding ghost_run ghosts_after
still_behind home start stands g [] before still was = was
still_behind home start stands g (event ∷ later) before still was = still_fits home start stands (ghost_run home g (later ++ before)).log event still.0 (still_behind home start stands g later before still.1 was)

still_run : (home : ℕ → ℕ) (start : ℕ) (stands : Standing) (g : Ghosts) (events : List GhostEvent) → AreStill events → HeadersFit start stands g.log → HeadersFit start stands (ghost_run home g events).log
unfolding ghost_run ghosts_after
still_run home start stands g [] still was = was
still_run home start stands g (event ∷ before) still was = still_fits home start stands (ghost_run home g before).log event still.0 (still_run home start stands g before still.1 was)

pub told_still : (lines : List TraceLine) → AreStill (map Tells lines)
told_still [] = tt
told_still (line ∷ rest) = (tt, told_still rest)

pub fixed_still : (before safe : ℕ) → AreStill (fixed_ghosts before safe)
fixed_still before safe = by_test (safe == before)
  where
    by_test : (c : Bool) → AreStill (if c then [] else Fixes safe ∷ [])
    by_test true = tt
    by_test false = (tt, tt)

reserve_fits : (start : ℕ) (stands : Standing) (log : Log) (b : ℕ) (entry : HistoryEntry) (cell : Cell) → HeadersFit start stands log → HeadersFit start stands (record log { cells = set_at log.cells b (Reserved entry cell) })
reserve_fits start stands log b entry cell was = λ a from low. set_fits stands log.cells b (Reserved entry cell) a (was a from low) (λ same. tt)

drop_fits : (start : ℕ) (stands : Standing) (log : Log) (b : ℕ) (entry : HistoryEntry) (cell : Cell) → (b < 2 ^ 48 → IsGivenUp b cell (stands b rec.Header)) → HeadersFit start stands log → HeadersFit start stands (dropped log b (Reserved entry cell))
drop_fits start stands log b entry cell gives was = λ a from low. set_fits stands log.cells b (Dropped cell) a (was a from low)
    (λ same. subst (λ (x : ℕ). IsGivenUp x cell (stands x rec.Header)) (sym same) (gives (subst (λ (x : ℕ). x < 2 ^ 48) same low)))

publish_fits : (home : ℕ → ℕ) (start : ℕ) (stands : Standing) (log : Log) (b : ℕ) (entry : HistoryEntry) (cell : Cell) → IsHeaderOf cell false (stands b rec.Header) → HeadersFit start stands log
    → HeadersFit start stands (published home log b (Reserved entry cell))
publish_fits home start stands log b entry cell header was = λ a from low. set_fits stands log.cells b (Published cell) a (was a from low)
    (λ same. subst (λ (x : ℕ). IsHeaderOf cell false (stands x rec.Header)) (sym same) header)

-- ---- the events of a session's step
pub moves_fit : (home : ℕ → ℕ) (start : ℕ) (stands after : Standing) (Writes : Type 0) (written : Writes) (g : Ghosts) (place : Option ℕ) (change : ℕ → ℕ) (reply : ℕ) (changes : Option ℕ) (word : Option FrameWord) (events : List GhostEvent) (reserved left : Option Reservation)
    → MovesOn place change reply events reserved left → Fit stands after Writes changes reserved word events → AllFall events
    → ((its : Reservation) → reserved ≡ Some its → g.log.cells its.addr ≡ Reserved its.entry its.cell)
    → ((its : Reservation) → reserved ≡ Some its → word ≡ None → after its.addr rec.Header ≡ stands its.addr rec.Header)
    → HeadersFit start after g.log → HeadersFit start after (ghost_run home g events).log
unfolding ghost_run ghosts_after
moves_fit home start stands after Writes written g place change reply changes word events reserved left (Keeps its held still) fit falls cells stays was = still_run home start after g its still was
moves_fit home start stands after Writes written g place change reply changes word events reserved left (Behind event still rest) fit falls cells stays was =
    still_fits home start after _ event still (moves_fit home start stands after Writes written g place change reply changes word _ reserved left rest fit.1 falls.1 cells stays was)
moves_fit home start stands after Writes written g place change reply changes word events reserved left (TakesOne its takes) fit falls cells stays was = reserve_fits start after g.log its.addr its.entry its.cell was
moves_fit home start stands after Writes written g place change reply changes word events reserved left (LosesOne its takes) fit falls cells stays was =
    let taken : Log = record (g.log) { cells = set_at g.log.cells its.addr (Reserved its.entry its.cell) } in
    subst (λ (x : Logged). HeadersFit start after (dropped taken its.addr x)) (sym (set_there g.log.cells its.addr (Reserved its.entry its.cell)))
    (drop_fits start after taken its.addr its.entry its.cell (λ low. absurd (fit.0 falls.1.0 low)) (reserve_fits start after g.log its.addr its.entry its.cell was))
moves_fit home start stands after Writes written g place change reply changes word events reserved left (PublishesOne its) fit falls cells stays was =
    let valid = fit.0.0 its refl in
    subst (λ (x : Logged). HeadersFit start after (published home g.log its.addr x)) (sym (cells its refl))
    (publish_fits home start after g.log its.addr its.entry its.cell (subst (IsHeaderOf its.cell false) (sym (stays its refl fit.0.1)) valid.header) was)
moves_fit home start stands after Writes written g place change reply changes word events reserved left (DropsOne its) fit falls cells stays was =
    subst (λ (x : Logged). HeadersFit start after (dropped g.log its.addr x)) (sym (cells its refl))
    (drop_fits start after g.log its.addr its.entry its.cell (λ low. fit.0 written its refl) was)
