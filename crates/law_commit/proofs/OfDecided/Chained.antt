-- Each address that stands in a chain is taken, so it lies below the tail.
use Rattle.std.proofs.Common.{◌≡◌, ◌⊎◌, inl, inr, ℕ, ◌<◌, ◌∙◌, List, [], ◌∷◌, refl, ap, sym, subst, arith, Bool, true, false}
use Rattle.std.specs.Prelude.{nat_lt}
use Rattle.law_refine.specs.Below.fkv_checkpoint.Triples.{CopiedEntry}
use Rattle.law_refine.specs.Index.Shows as index
use Rattle.law_refine.specs.Heads.Heads.{LeadToHeads}
use Rattle.law_refine.specs.Events.GhostEvents.{home_number}
use Rattle.law_commit.specs.Copied.Covers.{LeadIntoChains}
use Rattle.law_commit.specs.Copied.Runs.{seen_by_copy}
use Rattle.law_commit.specs.Decided.Laws.{LieBelow}
use Rattle.law_commit.proofs.OfCopied.Began.{life_since}
use Rattle.law_commit.proofs.OfCopied.Covers.{life_in_chains}
use Rattle.law_commit.proofs.OfCopied.Sound.{life_sound}
use Rattle.law_refine.specs.Events.Reserved.{ReservesNothing}
use Rattle.std.proofs.lemmas.Bool.Decides.{nat_tests}
use Rattle.fkv_map.specs.declared.history.HistoryEntry.{HistoryEntry}
use Rattle.law_refine.specs.Below.fkv_world.Runs.{World, run}
use Rattle.law_refine.specs.Below.fkv_world.World.{Event}
use Rattle.law_refine.specs.Below.law_world.Guarded.Shows as guard
use Rattle.law_log.specs.Chains.{Cell, Logged, Unborn, Reserved, Published, Dropped}
use Rattle.law_log.specs.Ghosts.{Log, Ghosts, GhostEvent, Tells, FindsEntry, TakesValue, Reserves, Publishes, Drops, Changes, Fixes, changed, dropped, ghost_run, ghosts_after, log_after, published, set_at}
use Rattle.law_log.specs.Trace.{IsIn}
use Rattle.law_log.proofs.Shown.{at_one}
use Rattle.law_refine.specs.Events.GhostEvents.{home_in, life_ghosts, mapped}
use Rattle.law_refine.specs.Events.Reserved.{IsUnbornFrom, tail_at}
use Rattle.law_refine.proofs.OfEvents.Unborn.{ghost_unborn}
use Rattle.law_commit.specs.Decided.Cells.{ChainsTaken, IsTaken}
use Rattle.law_commit.specs.Versions.Cells.{made_in}
use Rattle.law_commit.proofs.OfDecided.Taken.{stays_taken}

-- ---- one event
reserved_is : (logged : Logged) (entry : HistoryEntry) (cell : Cell) → logged ≡ Reserved entry cell → IsTaken logged
reserved_is logged entry cell its none = let clash = sym (ap made_in its) ∙ none in cc

pub was_in : (chains : ℕ → List ℕ) (h b : ℕ) (more : List ℕ) (i a : ℕ) → more ≡ b ∷ chains h → IsIn a (set_at chains h more i) → (a ≡ b) ⊎ IsIn a (chains i)
was_in chains h b more i a its is_in = elim (at_one chains h more i) [
  | inl here ↦ first_or (subst (IsIn a) (here.1 ∙ its) is_in) here.0
  | inr there ↦ inr (subst (IsIn a) there.1 is_in)
]
  where
    first_or : IsIn a (b ∷ chains h) → i ≡ h → (a ≡ b) ⊎ IsIn a (chains i)
    first_or (inl same) at = inl (sym same)
    first_or (inr rest) at = inr (subst (λ (x : ℕ). IsIn a (chains x)) (sym at) rest)

published_in : (home : ℕ → ℕ) (log : Log) (b : ℕ) (logged : Logged) (h a : ℕ) → log.cells b ≡ logged → ChainsTaken log → IsIn a ((published home log b logged).chains h) → IsTaken (log.cells a)
published_in home log b (Reserved entry cell) h a its taken is_in = elim (was_in log.chains (home cell.key) b (b ∷ log.chains (home cell.key)) h a refl is_in) [
  | inl same ↦ subst (λ (x : ℕ). IsTaken (log.cells x)) (sym same) (reserved_is (log.cells b) entry cell its)
  | inr was ↦ taken h a was
]
published_in home log b Unborn h a its taken is_in = taken h a is_in
published_in home log b (Published cell) h a its taken is_in = taken h a is_in
published_in home log b (Dropped cell) h a its taken is_in = taken h a is_in

dropped_in : (log : Log) (b : ℕ) (logged : Logged) (h a : ℕ) → ChainsTaken log → IsIn a ((dropped log b logged).chains h) → IsTaken (log.cells a)
dropped_in log b (Reserved entry cell) h a taken is_in = taken h a is_in
dropped_in log b Unborn h a taken is_in = taken h a is_in
dropped_in log b (Published cell) h a taken is_in = taken h a is_in
dropped_in log b (Dropped cell) h a taken is_in = taken h a is_in

changed_in : (log : Log) (b : ℕ) (by : HistoryEntry) (logged : Logged) (h a : ℕ) → ChainsTaken log → IsIn a ((changed log b by logged).chains h) → IsTaken (log.cells a)
changed_in log b by (Published cell) h a taken is_in = taken h a is_in
changed_in log b by Unborn h a taken is_in = taken h a is_in
changed_in log b by (Reserved entry cell) h a taken is_in = taken h a is_in
changed_in log b by (Dropped cell) h a taken is_in = taken h a is_in

one_in : (home : ℕ → ℕ) (log : Log) (event : GhostEvent) (h a : ℕ) → ChainsTaken log → IsIn a ((log_after home log event).chains h) → IsTaken (log.cells a)
one_in home log (Publishes b) h a taken is_in = published_in home log b (log.cells b) h a refl taken is_in
one_in home log (Drops b) h a taken is_in = dropped_in log b (log.cells b) h a taken is_in
one_in home log (Changes b by) h a taken is_in = changed_in log b by (log.cells b) h a taken is_in
one_in home log (Reserves b entry cell) h a taken is_in = taken h a is_in
one_in home log (Tells line) h a taken is_in = taken h a is_in
one_in home log (FindsEntry reader) h a taken is_in = taken h a is_in
one_in home log (TakesValue reader) h a taken is_in = taken h a is_in
one_in home log (Fixes b) h a taken is_in = taken h a is_in

run_in : (home : ℕ → ℕ) (g : Ghosts) (events : List GhostEvent) → ChainsTaken g.log → ChainsTaken (ghost_run home g events).log
unfolding ghost_run ghosts_after
run_in home g [] taken h a is_in = taken h a is_in
run_in home g (event ∷ before) taken h a is_in =
    stays_taken home g (event ∷ []) before a (one_in home (ghost_run home g before).log event h a (run_in home g before taken) is_in)

-- ---- a life
pub chains_taken : (opening : World) (ghosts : Ghosts) (events : List Event) → ChainsTaken ghosts.log → ChainsTaken (life_ghosts opening ghosts events).log
chains_taken opening ghosts events taken = run_in (home_in opening.now.shape.bucket_bits) ghosts (mapped opening events) taken

pub chains_below : (opening : World) (start : ℕ) (ghosts : Ghosts) (events : List Event) (h a : ℕ) → guard.IsOpened opening.now start → IsUnbornFrom (tail_at opening.now) ghosts → ChainsTaken ghosts.log
    → IsIn a ((life_ghosts opening ghosts events).log.chains h) → a < tail_at (run opening events).now
chains_below opening start ghosts events h a opened none taken is_in = by_test (nat_lt a (tail_at (run opening events).now)) refl
  where
    by_test : (c : Bool) → nat_lt a (tail_at (run opening events).now) ≡ c → a < tail_at (run opening events).now
    by_test true e = grind (arith, nat_tests, e)
    by_test false e = absurd (chains_taken opening ghosts events taken h a is_in (ap made_in (ghost_unborn opening start ghosts events opened none a (grind (arith, nat_tests, e)))))

-- so do the triples of the copy that began last
lie_below : (tail : ℕ) (log : Log) (triples : List CopiedEntry) → ((h a : ℕ) → IsIn a (log.chains h) → a < tail) → LeadIntoChains triples log → LieBelow tail triples
lie_below tail log [] below leads = tt
lie_below tail log (e ∷ rest) below leads = (below (home_number e.home) e.addr leads.0, lie_below tail log rest below leads.1)

pub triples_below : (opening : World) (start : ℕ) (lists : ℕ → List ℕ) (ghosts : Ghosts) (events : List Event) → guard.IsOpened opening.now start → index.IsOpened opening lists → IsUnbornFrom (tail_at opening.now) ghosts → ReservesNothing ghosts
    → LeadToHeads opening.now lists ghosts.log → ChainsTaken ghosts.log → LieBelow (tail_at (run opening events).now) (seen_by_copy opening lists events).triples
triples_below opening start lists ghosts events opened in_order none free leads taken =
    lie_below (tail_at (run opening events).now) (life_ghosts opening ghosts events).log (seen_by_copy opening lists events).triples (λ h a is_in. chains_below opening start ghosts events h a opened none taken is_in)
    (life_in_chains opening start lists ghosts events (record { opened = opened; in_order = in_order; none = none; free = free; leads = leads }) (life_since opening lists events in_order (life_sound opening lists events in_order).stood))
