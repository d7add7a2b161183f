-- Addresses fall down each chain, since each record is published where its chain begins with what it leads to, and lies above that.
use Rattle.std.proofs.Common.{◌≡◌, inl, inr, ℕ, ◌<◌, ◌∙◌, refl, sym, ap, subst, arith, List, [], ◌∷◌}
use Rattle.fkv_map.specs.declared.history.HistoryEntry.{HistoryEntry}
use Rattle.law_refine.specs.Below.fkv_world.Runs.{World}
use Rattle.law_refine.specs.Below.fkv_world.World.{Event}
use Rattle.law_log.specs.Chains.{Cell, Logged, Unborn, Reserved, Published, Dropped, head_of}
use Rattle.law_log.specs.Enabled.{AreChains, IsLinked}
use Rattle.law_log.specs.Ghosts.{Log, Ghosts, GhostEvent, Tells, FindsEntry, TakesValue, Reserves, Publishes, Drops, Changes, Fixes, changed, changed_by, dropped, ghost_run, ghosts_after, log_after, published, set_at}
use Rattle.law_log.specs.Trace.{IsIn}
use Rattle.law_log.proofs.Shown.{at_one}
use Rattle.law_refine.specs.Events.GhostEvents.{home_in, life_ghosts, mapped}
use Rattle.law_refine.specs.Heads.Heads.{AllMeetHeads, IsAtHead, meets_head}
use Rattle.law_refine.proofs.OfHeads.LifeHeads.{life_meets}
use Rattle.law_refine.proofs.OfRecords.LogHeaders.{AllFall, falls_at}
use Rattle.law_opening.specs.Changes.Laws.{BeginsLinked}
use Rattle.law_opening.specs.Changes.Linked.{ChainsFall, IsFalling}
use Rattle.law_opening.proofs.OfChanges.LifeEvents.{life_falls}

-- chains fall, and so does what is being made
record LogFalls (home : ℕ → ℕ) (log : Log) : Type 0 where
  chains : ChainsFall home log
  made : (a : ℕ) (entry : HistoryEntry) (cell : Cell) → log.cells a ≡ Reserved entry cell → cell.previous < a

-- ---- what is being made
set_other : (cells : ℕ → Logged) (b : ℕ) (x : Logged) (a : ℕ) (entry : HistoryEntry) (cell : Cell) → (x ≡ Reserved entry cell → ⊥) → set_at cells b x a ≡ Reserved entry cell → cells a ≡ Reserved entry cell
set_other cells b x a entry cell other its = elim (at_one cells b x a) [
  | inl here ↦ absurd (other (sym here.1 ∙ its))
  | inr there ↦ sym there.1 ∙ its
]

cell_same : (one other : HistoryEntry) (a b : Cell) → Reserved one a ≡ Reserved other b → a ≡ b
cell_same one other a b e = cc

taken_made : (home : ℕ → ℕ) (log : Log) (b : ℕ) (by : HistoryEntry) (new : Cell) → LogFalls home log → new.previous < b → LogFalls home (record log { cells = set_at log.cells b (Reserved by new) })
taken_made home log b by new falls low = record {
  chains = record { falls = (let its = falls.chains in its.falls); of_home = (let its = falls.chains in its.of_home) };
  made = λ a entry cell is. elim (at_one log.cells b (Reserved by new) a) [
    | inl here ↦
        let same : new ≡ cell = cell_same by entry new cell (sym here.1 ∙ is) in
        let at = here.0 in
        subst (λ (c : Cell). c.previous < a) same (omega (arith, low, at))
    | inr there ↦ falls.made a entry cell (sym there.1 ∙ is)
  ];
}

-- ---- a record is published
chain_on : (chains : ℕ → List ℕ) (i b h : ℕ) → IsFalling (chains h) → IsFalling (chains i) → head_of (chains i) < b → IsFalling (set_at chains i (b ∷ chains i) h)
chain_on chains i b h was there low = elim (at_one chains i (b ∷ chains i) h) [
  | inl here ↦ subst IsFalling (sym here.1) (low, there)
  | inr other ↦ subst IsFalling (sym other.1) was
]

home_on : (home : ℕ → ℕ) (chains : ℕ → List ℕ) (key b h a : ℕ) → ((k c : ℕ) → IsIn c (chains k) → (key : ℕ) × (home key ≡ k)) → IsIn a (set_at chains (home key) (b ∷ chains (home key)) h) → (key : ℕ) × (home key ≡ h)
home_on home chains key b h a was is_in = elim (at_one chains (home key) (b ∷ chains (home key)) h) [
  | inl here ↦ (key, sym here.0)
  | inr other ↦ was h a (subst (IsIn a) other.1 is_in)
]

published_falls : (home : ℕ → ℕ) (log : Log) (b : ℕ) (logged : Logged) → log.cells b ≡ logged → IsAtHead home log logged → LogFalls home log → LogFalls home (published home log b logged)
published_falls home log b (Reserved by new) its at_head falls =
    let was = falls.chains in
    let low = falls.made b by new its in
    let head = at_head in
    record {
      chains = record {
        falls = λ h. chain_on log.chains (home new.key) b h (was.falls h) (was.falls (home new.key)) (omega (arith, low, head));
        of_home = λ h a is_in. home_on home log.chains new.key b h a was.of_home is_in;
      };
      made = λ a entry cell is. falls.made a entry cell (set_other log.cells b (Published new) a entry cell (λ same. cc) is);
    }
published_falls home log b Unborn its at_head falls = falls
published_falls home log b (Published new) its at_head falls = falls
published_falls home log b (Dropped new) its at_head falls = falls

-- ---- one is given up, or changed
cells_fall : (home : ℕ → ℕ) (log : Log) (cells : ℕ → Logged) (after : Log) → after.cells ≡ cells → after.chains ≡ log.chains → ((a : ℕ) (entry : HistoryEntry) (cell : Cell) → cells a ≡ Reserved entry cell → log.cells a ≡ Reserved entry cell) → LogFalls home log
    → LogFalls home after
cells_fall home log cells after has same was falls =
    let its = falls.chains in
    record {
      chains = record {
        falls = λ h. subst (λ (chains : ℕ → List ℕ). IsFalling (chains h)) (sym same) (its.falls h);
        of_home = λ h a is_in. its.of_home h a (subst (λ (chains : ℕ → List ℕ). IsIn a (chains h)) same is_in);
      };
      made = λ a entry cell is. falls.made a entry cell (was a entry cell (ap (λ (c : ℕ → Logged). c a) (sym has) ∙ is));
    }

dropped_falls : (home : ℕ → ℕ) (log : Log) (b : ℕ) (logged : Logged) → LogFalls home log → LogFalls home (dropped log b logged)
dropped_falls home log b (Reserved by new) falls =
    cells_fall home log (set_at log.cells b (Dropped new)) (dropped log b (Reserved by new)) refl refl (λ a entry cell is. set_other log.cells b (Dropped new) a entry cell (λ same. cc) is) falls
dropped_falls home log b Unborn falls = falls
dropped_falls home log b (Published new) falls = falls
dropped_falls home log b (Dropped new) falls = falls

changed_falls : (home : ℕ → ℕ) (log : Log) (b : ℕ) (by : HistoryEntry) (logged : Logged) → LogFalls home log → LogFalls home (changed log b by logged)
changed_falls home log b by (Published new) falls =
    cells_fall home log (set_at log.cells b (Published (changed_by by new))) (changed log b by (Published new)) refl refl (λ a entry cell is. set_other log.cells b (Published (changed_by by new)) a entry cell (λ same. cc) is) falls
changed_falls home log b by Unborn falls = falls
changed_falls home log b by (Reserved other new) falls = falls
changed_falls home log b by (Dropped new) falls = falls

-- ---- one event, and a run
one_falls : (home : ℕ → ℕ) (log : Log) (event : GhostEvent) → meets_head home log event → falls_at event → LogFalls home log → LogFalls home (log_after home log event)
one_falls home log (Reserves b by new) meets low falls = taken_made home log b by new falls low
one_falls home log (Publishes b) meets low falls = published_falls home log b (log.cells b) refl meets falls
one_falls home log (Drops b) meets low falls = dropped_falls home log b (log.cells b) falls
one_falls home log (Changes b by) meets low falls = changed_falls home log b by (log.cells b) falls
one_falls home log (Tells line) meets low falls = falls
one_falls home log (FindsEntry reader) meets low falls = falls
one_falls home log (TakesValue reader) meets low falls = falls
one_falls home log (Fixes b) meets low falls = cells_fall home log log.cells (log_after home log (Fixes b)) refl refl (λ a entry cell is. is) falls

run_falls : (home : ℕ → ℕ) (g : Ghosts) (events : List GhostEvent) → AllMeetHeads home g events → AllFall events → LogFalls home g.log → LogFalls home (ghost_run home g events).log
unfolding ghost_run ghosts_after AllMeetHeads
run_falls home g [] meets low falls = falls
run_falls home g (event ∷ before) meets low falls = one_falls home (ghost_run home g before).log event meets.0 low.0 (run_falls home g before meets.1 low.1 falls)

-- ---- a life
pub life_chains_fall : (opening : World) (start : ℕ) (lists : ℕ → List ℕ) (ghosts : Ghosts) (events : List Event) → BeginsLinked opening start lists ghosts → ChainsFall (home_in opening.now.shape.bucket_bits) ghosts.log
    → ChainsFall (home_in opening.now.shape.bucket_bits) (life_ghosts opening ghosts events).log
life_chains_fall opening start lists ghosts events begins falls =
    (run_falls (home_in opening.now.shape.bucket_bits) ghosts (mapped opening events) (life_meets opening start lists ghosts events begins.now begins.index begins.unborn begins.reserves begins.heads)
    (life_falls opening start lists ghosts begins events) (record { chains = falls; made = λ a entry cell is. absurd (begins.reserves a entry cell is) })).chains

-- ---- the log of an opened store
linked_falls : (cells : ℕ → Logged) (chain : List ℕ) → IsLinked cells chain → IsFalling chain
linked_falls cells [] linked = tt
linked_falls cells (a ∷ older) linked = (linked.1, linked_falls cells older linked.2)

pub opened_falls : (home : ℕ → ℕ) (log : Log) → AreChains home log → ChainsFall home log
opened_falls home log chains = record {
  falls = λ h. linked_falls log.cells (log.chains h) (chains.linked h);
  of_home = λ h a is_in. let its = chains.in_chain h a is_in in (its.cell.key, its.its_home);
}
