-- The triples of a copy lead into the chains of their homes, and cover the chains as they were when it began.
use Rattle.std.proofs.Common.{◌≡◌, inl, inr, ℕ, ◌∙◌, List, [], ◌∷◌, ◌++◌, refl, sym, subst, arith, Bool, true, false}
use Rattle.std.specs.Prelude.{cond, nat_eq}
use Rattle.std.specs.List.{AllByRecursion}
use Rattle.std.proofs.lemmas.Bool.Decides.{nat_tests}
use Rattle.fkv_map.specs.declared.history.HistoryEntry.{HistoryEntry}
use Rattle.fkv_plane.specs.declared.places.Places.{Places}
use Rattle.law_refine.specs.Below.fkv_checkpoint.CopyStep.TheVariants.{Ended}
use Rattle.law_refine.specs.Below.fkv_checkpoint.Fuzzy.{HasCopy, IsEntryThen, NoneLeftOut}
use Rattle.law_refine.specs.Below.fkv_checkpoint.Triples.{CopiedEntry}
use Rattle.fkv_index.specs.Entries.{entry_of}
use Rattle.fkv_index.specs.IndexWorld.{IndexWorld}
use Rattle.fkv_index.specs.OneEntry.{IsHome}
use Rattle.fkv_index.specs.Slots.{entry_addr}
use Rattle.law_refine.specs.Below.fkv_world.Runs.{World, run}
use Rattle.law_refine.specs.Below.fkv_world.World.{Event, Now}
use Rattle.law_refine.proofs.Below.fkv_world.Shown.{places_stay}
use Rattle.law_log.specs.Chains.{Logged, Published, Reserved, head_of}
use Rattle.law_log.specs.Ghosts.{Changes, Drops, Ghosts, GhostEvent, Log, Publishes, changed, dropped, ghost_run, ghosts_after, published, set_at}
use Rattle.law_log.specs.Trace.{IsIn}
use Rattle.law_log.proofs.Shown.{run_on}
use Rattle.law_refine.specs.Index.LifeEntries.{lists_seen}
use Rattle.law_refine.specs.Index.Shows.{seen_by_index}
use Rattle.law_refine.specs.Events.GhostEvents.{ghost_events, home_in, home_number, life_ghosts, mapped, serials_in}
use Rattle.law_refine.specs.Heads.Heads.{head_at}
use Rattle.law_commit.specs.Copied.Covers.{CoverHeads, HasStoodSince, LeadIntoChains, before_copy}
use Rattle.law_commit.specs.Copied.Runs.{copy_events, opening_copy, seen_by_copy}
use Rattle.law_commit.proofs.OfCopied.Leads.{HasHeads, entry_led, leads_then, none_led, shows_then, some_led}
use Rattle.law_commit.proofs.OfCopied.Began.{all_of, life_begun}

-- ---- a chain keeps what it has
set_grown : (chains : ℕ → List ℕ) (i a b h : ℕ) → IsIn b (chains h) → IsIn b (set_at chains i (a ∷ chains i) h)
unfolding set_at
set_grown chains i a b h is_in = by_test (nat_eq h i) refl
  where
    by_test : (t : Bool) → nat_eq h i ≡ t → IsIn b (cond t (a ∷ chains i) (chains h))
    by_test true e = let same : h ≡ i = grind (arith, nat_tests, e) in inr (subst (λ (x : ℕ). IsIn b (chains x)) same is_in)
    by_test false e = is_in

published_grown : (home : ℕ → ℕ) (log : Log) (a b h : ℕ) (logged : Logged) → IsIn b (log.chains h) → IsIn b ((published home log a logged).chains h)
published_grown home log a b h (Reserved entry cell) is_in = set_grown log.chains (home cell.key) a b h is_in
published_grown home log a b h logged is_in = is_in

dropped_grown : (log : Log) (a b h : ℕ) (logged : Logged) → IsIn b (log.chains h) → IsIn b ((dropped log a logged).chains h)
dropped_grown log a b h (Reserved entry cell) is_in = is_in
dropped_grown log a b h logged is_in = is_in

changed_grown : (log : Log) (a b h : ℕ) (entry : HistoryEntry) (logged : Logged) → IsIn b (log.chains h) → IsIn b ((changed log a entry logged).chains h)
changed_grown log a b h entry (Published cell) is_in = is_in
changed_grown log a b h entry logged is_in = is_in

event_grown : (home : ℕ → ℕ) (g : Ghosts) (event : GhostEvent) (b h : ℕ) → IsIn b (g.log.chains h) → IsIn b ((ghosts_after home g event).log.chains h)
unfolding ghosts_after
event_grown home g (Publishes a) b h is_in = published_grown home g.log a b h (g.log.cells a) is_in
event_grown home g (Drops a) b h is_in = dropped_grown g.log a b h (g.log.cells a) is_in
event_grown home g (Changes a entry) b h is_in = changed_grown g.log a b h entry (g.log.cells a) is_in
event_grown home g event b h is_in = is_in

run_grown : (home : ℕ → ℕ) (g : Ghosts) (events : List GhostEvent) (b h : ℕ) → IsIn b (g.log.chains h) → IsIn b ((ghost_run home g events).log.chains h)
unfolding ghost_run
run_grown home g [] b h is_in = is_in
run_grown home g (event ∷ before) b h is_in = event_grown home (ghost_run home g before) event b h (run_grown home g before b h is_in)

pub life_grown : (opening : World) (ghosts : Ghosts) (later moment : List Event) (b h : ℕ) → IsIn b ((life_ghosts opening ghosts moment).log.chains h) → IsIn b ((life_ghosts opening ghosts (later ++ moment)).log.chains h)
unfolding mapped
life_grown opening ghosts [] moment b h is_in = is_in
life_grown opening ghosts (event ∷ later) moment b h is_in =
    let home : ℕ → ℕ = home_in opening.now.shape.bucket_bits in
    let more : List GhostEvent = ghost_events (serials_in opening.now) (run opening (later ++ moment)) event in
    subst (λ (g : Ghosts). IsIn b (g.log.chains h)) (sym (run_on home ghosts more (mapped opening (later ++ moment))))
    (run_grown home (life_ghosts opening ghosts (later ++ moment)) more b h (life_grown opening ghosts later moment b h is_in))

head_in : (chain : List ℕ) (a : ℕ) → head_of chain ≡ a → (a ≡ 0 → ⊥) → IsIn a chain
head_in [] a is some = absurd (some (sym is))
head_in (b ∷ older) a is some = inl is

-- ---- a life
stood_in : (opening : World) (start : ℕ) (lists : ℕ → List ℕ) (ghosts : Ghosts) (events : List Event) (e : CopiedEntry) → HasHeads opening start lists ghosts → IsEntryThen (seen_by_index opening lists events) e
    → IsIn e.addr ((life_ghosts opening ghosts events).log.chains (home_number e.home))
stood_in opening start lists ghosts events e has stood =
    let n : Now = (run opening events).now in
    let log : Log = (life_ghosts opening ghosts events).log in
    let w : IndexWorld = seen_by_index opening lists events in
    let shows = shows_then opening start lists ghosts events has in
    let leads = leads_then opening start lists ghosts events has in
    let same : head_at log e.home ≡ e.addr = sym (entry_led n (lists_seen opening lists events) log w e.home shows refl leads stood.its_home) ∙ stood.its_addr in
    head_in (log.chains (home_number e.home)) e.addr same
    (λ none. some_led n (lists_seen opening lists events) log w e.home shows refl leads stood.its_home stood.some (same ∙ none))

since_in : (opening : World) (start : ℕ) (lists : ℕ → List ℕ) (ghosts : Ghosts) (events : List Event) (e : CopiedEntry) → HasHeads opening start lists ghosts → HasStoodSince opening lists events e
    → IsIn e.addr ((life_ghosts opening ghosts events).log.chains (home_number e.home))
since_in opening start lists ghosts events e has its =
    subst (λ (x : List Event). IsIn e.addr ((life_ghosts opening ghosts x).log.chains (home_number e.home))) (sym its.split)
    (life_grown opening ghosts its.later its.moment e.addr (home_number e.home) (stood_in opening start lists ghosts its.moment e has its.stood))

pub life_in_chains : (opening : World) (start : ℕ) (lists : ℕ → List ℕ) (ghosts : Ghosts) (events : List Event) → HasHeads opening start lists ghosts
    → AllByRecursion (HasStoodSince opening lists events) (seen_by_copy opening lists events).triples → LeadIntoChains (seen_by_copy opening lists events).triples (life_ghosts opening ghosts events).log
life_in_chains opening start lists ghosts events has stood = all_of (seen_by_copy opening lists events).triples (λ e its. since_in opening start lists ghosts events e has its) stood

pub life_covers : (opening : World) (start : ℕ) (lists : ℕ → List ℕ) (ghosts : Ghosts) (events : List Event) → HasHeads opening start lists ghosts → NoneLeftOut (opening_copy opening lists) (copy_events opening events)
    → (seen_by_copy opening lists events).copying.step ≡ Ended → CoverHeads opening.now.places (seen_by_copy opening lists events).triples (life_ghosts opening ghosts (before_copy opening events)).log
life_covers opening start lists ghosts events has whole ended home there some =
    let first : List Event = before_copy opening events in
    let n : Now = (run opening first).now in
    let log : Log = (life_ghosts opening ghosts first).log in
    let w : IndexWorld = seen_by_index opening lists first in
    let shows = shows_then opening start lists ghosts first has in
    let here : IsHome w.now.places home = subst (λ (p : Places). IsHome p home) (sym (shows.places ∙ places_stay opening first)) there in
    let led = entry_led n (lists_seen opening lists first) log w home shows refl (leads_then opening start lists ghosts first has) here in
    let begun = life_begun opening lists events has.in_order in
    subst (λ (x : ℕ). HasCopy (seen_by_copy opening lists events).triples home x) led
    (subst (λ (x : IndexWorld). IsHome x.now.places home → (entry_of x home ≡ 0 → ⊥) → HasCopy (seen_by_copy opening lists events).triples home (entry_addr (entry_of x home))) begun (whole home ended)
    here (none_led (entry_of w home) (head_at log home) led some))
