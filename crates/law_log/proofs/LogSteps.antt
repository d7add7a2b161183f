-- Each event keeps what holds of a log, and so does each run.
use Rattle.std.proofs.Common.{◌≡◌, inl, inr, ℕ, ◌≤◌, ◌∙◌, Bool, max, List, [], ◌∷◌, ◌++◌, refl, sym, ap, subst, arith}
use Rattle.std.specs.Prelude.{◌&&◌, nat_eq, nat_le}
use Rattle.std.proofs.lemmas.Bool.Decides.{nat_tests}
use Rattle.fkv_map.specs.declared.history.HistoryEntry.{HistoryEntry}
use Rattle.fkv_map.specs.Map.{Map}
use Rattle.fkv_map.specs.History.{IsLegal}
use Rattle.fkv_map.specs.Keys.{key_of}
use Rattle.law_log.specs.Trace.{IsIn, upto, history_of, value_in}
use Rattle.law_log.specs.Chains.{Cell, Logged, Unborn, Reserved, Published, Dropped, value_at, version_at, has_key, has_key_upto, first_such, VersionsFall}
use Rattle.law_log.specs.Ghosts.{effect_of, changed_by, Log, Ghosts, GhostEvent, Tells, FindsEntry, TakesValue, Reserves, Publishes, Drops, Changes, Fixes, published, dropped, changed, log_after, ghosts_after, ghost_run}
use Rattle.law_log.specs.Enabled.{AreChains, NoneAbove, IsEnabled, IsPublishEnabled, IsChangeEnabled, AreEnabled, IsOpened}
use Rattle.law_log.proofs.Held.{Held, Grows, ArePartOf}
use Rattle.law_log.proofs.Steps.{IsQuiet, quiet_log, quiet_grows, held_quietly, fixes_quietly, reserves_quietly, drops_quietly}
use Rattle.law_log.proofs.Changed.{MeetsChange, changed_log, changed_grows, held_changed}
use Rattle.law_log.proofs.Chains.{set_there}
use Rattle.law_log.proofs.Lists.{no_place}
use Rattle.law_log.proofs.InOrder.{HeldInOrder, HasVersion, still_in_order, one_more_in_order}
use Rattle.law_log.proofs.Upto.{HeldUpto, upto_quietly, upto_changed, upto_published}
use Rattle.law_log.proofs.Published.{MeetsPublish, published_log, published_grows, held_published}

-- the log after a step: what holds of it, and what it leaves to others
pub record Steps (home : ℕ → ℕ) (m : Map) (log log' : Log) : Type 0 where
  pub held : Held home m log'
  pub grows : Grows home m log log'
  pub upto : (version : ℕ) → HeldUpto home m version log → HeldUpto home m version log'
  pub in_order : HeldInOrder home log → HeldInOrder home log'

quietly : (home : ℕ → ℕ) (m : Map) (log : Log) (cells : ℕ → Logged) (fixed : ℕ) → Held home m log → IsQuiet home log cells fixed → Steps home m log (quiet_log log cells fixed)
quietly home m log cells fixed held quiet = record {
  held = held_quietly home m log cells fixed held quiet;
  grows = quiet_grows home m log cells fixed quiet;
  upto = λ version known. upto_quietly home m version log cells fixed held quiet known;
  in_order = λ known. still_in_order home m log (quiet_log log cells fixed) held (quiet_grows home m log cells fixed quiet) refl known;
}

at_least : (a b : ℕ) → a ≤ max a b
at_least a b = omega arith

pub stays_same : (home : ℕ → ℕ) (m : Map) (log : Log) → Held home m log → Steps home m log log
stays_same home m log held = quietly home m log log.cells log.fixed held (fixes_quietly home m log log.fixed held (same log.fixed))
  where
    same : (n : ℕ) → n ≤ n
    same n = omega arith

-- the record by which an update has taken effect is of its version, in its chain
published_has : (home : ℕ → ℕ) (m : Map) (log : Log) (a : ℕ) (entry : HistoryEntry) (cell : Cell) → Held home m log → MeetsPublish home log a entry cell
    → HasVersion (published_log home log a entry cell) (home (key_of entry.op).0) cell.version
published_has home m log a entry cell held publish =
    let log' = published_log home log a entry cell in
    let there : log'.cells a ≡ Published cell = set_there log.cells a (Published cell) in
    record {
      at = a;
      is_in = subst (λ k. IsIn a (log'.chains (home k))) (held.made a entry cell publish.its).1.its_key
          ((held_published home m log a entry cell held publish).chains.its_chain a cell there);
      its = ap version_at there;
    }

changed_has : (home : ℕ → ℕ) (m : Map) (log : Log) (a : ℕ) (entry : HistoryEntry) (cell : Cell) → Held home m log → MeetsChange home log a entry cell
    → HasVersion (changed_log log a entry cell) (home (key_of entry.op).0) cell.version
changed_has home m log a entry cell held change =
    let there : (changed_log log a entry cell).cells a ≡ Published (changed_by entry cell) = set_there log.cells a (Published (changed_by entry cell)) in
    record {
      at = a;
      is_in = subst (λ k. IsIn a (log.chains (home k))) change.may.its_key (held.chains.its_chain a cell change.its);
      its = ap version_at there;
    }

publishes : (home : ℕ → ℕ) (m : Map) (g : Ghosts) (a : ℕ) (logged : Logged) → g.log.cells a ≡ logged → Held home m g.log → IsPublishEnabled home g logged → Steps home m g.log (published home g.log a logged)
publishes home m g a (Reserved entry cell) its held enabled =
    let publish : MeetsPublish home g.log a entry cell = record { its = its; its_head = enabled.0; none_above = enabled.1 } in
    record {
      held = held_published home m g.log a entry cell held publish;
      grows = published_grows home m g.log a entry cell held publish;
      upto = λ version known. upto_published home m version g.log a entry cell held known publish;
      in_order = λ known. one_more_in_order home m g.log (published_log home g.log a entry cell) held (published_grows home m g.log a entry cell held publish) (effect_of entry cell) refl
          (subst (λ k. NoneAbove g.log (home k) cell.version) (held.made a entry cell its).1.its_key enabled.1) (published_has home m g.log a entry cell held publish) known;
    }
publishes home m g a Unborn its held enabled = stays_same home m g.log held
publishes home m g a (Published cell) its held enabled = stays_same home m g.log held
publishes home m g a (Dropped cell) its held enabled = stays_same home m g.log held

drops : (home : ℕ → ℕ) (m : Map) (log : Log) (a : ℕ) (logged : Logged) → log.cells a ≡ logged → Held home m log → Steps home m log (dropped log a logged)
drops home m log a (Reserved entry cell) its held = quietly home m log _ log.fixed held (drops_quietly home m log a entry cell held its)
drops home m log a Unborn its held = stays_same home m log held
drops home m log a (Published cell) its held = stays_same home m log held
drops home m log a (Dropped cell) its held = stays_same home m log held

changes : (home : ℕ → ℕ) (m : Map) (g : Ghosts) (a : ℕ) (entry : HistoryEntry) (logged : Logged) → g.log.cells a ≡ logged → Held home m g.log → IsChangeEnabled home g a entry logged → Steps home m g.log (changed g.log a entry logged)
changes home m g a entry (Published cell) its held enabled =
    let change : MeetsChange home g.log a entry cell = record { its = its; may = enabled.0 } in
    record {
      held = held_changed home m g.log a entry cell held change;
      grows = changed_grows home m g.log a entry cell held change;
      upto = λ version known. upto_changed home m version g.log a entry cell held known change;
      in_order = λ known. one_more_in_order home m g.log (changed_log g.log a entry cell) held (changed_grows home m g.log a entry cell held change) (effect_of entry cell) refl
          (subst (λ k. NoneAbove g.log (home k) cell.version) enabled.0.its_key enabled.0.none_above) (changed_has home m g.log a entry cell held change) known;
    }
changes home m g a entry Unborn its held enabled = stays_same home m g.log held
changes home m g a entry (Reserved other cell) its held enabled = stays_same home m g.log held
changes home m g a entry (Dropped cell) its held enabled = stays_same home m g.log held

pub log_steps : (home : ℕ → ℕ) (m : Map) (g : Ghosts) (event : GhostEvent) → Held home m g.log → IsEnabled home g event → Steps home m g.log (log_after home g.log event)
log_steps home m g (Tells line) held enabled = stays_same home m g.log held
log_steps home m g (FindsEntry reader) held enabled = stays_same home m g.log held
log_steps home m g (TakesValue reader) held enabled = stays_same home m g.log held
log_steps home m g (Reserves a entry cell) held enabled = quietly home m g.log _ g.log.fixed held (reserves_quietly home m g.log a entry cell held enabled.0 enabled.1 enabled.2)
log_steps home m g (Publishes a) held enabled = publishes home m g a (g.log.cells a) refl held enabled
log_steps home m g (Drops a) held enabled = drops home m g.log a (g.log.cells a) refl held
log_steps home m g (Changes a entry) held enabled = changes home m g a entry (g.log.cells a) refl held enabled
log_steps home m g (Fixes a) held enabled = quietly home m g.log g.log.cells (max g.log.fixed a) held (fixes_quietly home m g.log (max g.log.fixed a) held (at_least g.log.fixed a))

-- of one version, versions don't rise
opening_falls : (home : ℕ → ℕ) (log : Log) (version : ℕ) → AreChains home log → ((a : ℕ) (cell : Cell) → log.cells a ≡ Published cell → cell.version ≡ version) → (h : ℕ) (chain : List ℕ) → ArePartOf log h chain
    → VersionsFall log.cells chain
opening_falls home log version chains one h [] part = tt
opening_falls home log version chains one h (a ∷ older) part = (
  λ b is_in. same (version_at (log.cells b)) (version_at (log.cells a)) version (its b (part b (inr is_in))) (its a (part a (inl refl))),
  opening_falls home log version chains one h older (λ b is_in. part b (inr is_in)),
)
  where
    its : (b : ℕ) → IsIn b (log.chains h) → version_at (log.cells b) ≡ version
    its b is_in = let it = chains.in_chain h b is_in in ap version_at it.its ∙ one b it.cell it.its

    same : (v w n : ℕ) → v ≡ n → w ≡ n → v ≤ w
    same v w n is was = omega (arith, is, was)

pub opening_held : (home : ℕ → ℕ) (m : Map) (version : ℕ) (opening : Ghosts) → IsOpened home m version opening → Held home m opening.log
opening_held home m version opening opened = record {
  chains = opened.chains;
  none = opened.none;
  some_fixed = opened.some_fixed;
  falls = λ h. opening_falls home opening.log version opened.chains opened.one_version h (opening.log.chains h) (λ a is_in. is_in);
  newest = λ a cell is. inr (opened.all_fixed a cell is);
  shows = λ key. opened.shows key ∙ ap (λ effects. value_in m effects key) (sym opened.no_history);
  legal = subst (λ effects. IsLegal m (history_of effects)) (sym opened.no_history) tt;
  made = λ a entry cell is. absurd (opened.none_reserved a entry cell is);
}

-- a run goes on from where an earlier part of it has led
pub run_on : (home : ℕ → ℕ) (g : Ghosts) (later before : List GhostEvent) → ghost_run home g (later ++ before) ≡ ghost_run home (ghost_run home g before) later
unfolding ghost_run
run_on home g [] before = refl
run_on home g (event ∷ later) before = ap (λ (x : Ghosts). ghosts_after home x event) (run_on home g later before)

-- an earlier part of a run whose events are enabled has such events
pub enabled_before : (home : ℕ → ℕ) (g : Ghosts) (later before : List GhostEvent) → AreEnabled home g (later ++ before) → AreEnabled home g before
unfolding AreEnabled
enabled_before home g [] before enabled = enabled
enabled_before home g (event ∷ later) before enabled = enabled_before home g later before enabled.0

pub run_held : (home : ℕ → ℕ) (m : Map) (version : ℕ) (opening : Ghosts) (events : List GhostEvent) → IsOpened home m version opening → AreEnabled home opening events → Held home m (ghost_run home opening events).log
unfolding ghosts_after ghost_run AreEnabled
run_held home m version opening [] opened enabled = opening_held home m version opening opened
run_held home m version opening (event ∷ before) opened enabled =
    (log_steps home m (ghost_run home opening before) event (run_held home m version opening before opened enabled.0) enabled.1).held

-- ---- version by version
-- all records of the opening are of its version
opening_passes : (version n key : ℕ) (logged : Logged) → version ≤ n → ((cell : Cell) → logged ≡ Published cell → cell.version ≡ version) → has_key_upto n key logged ≡ has_key key logged
opening_passes version n key Unborn since one = refl
opening_passes version n key (Reserved entry cell) since one = refl
opening_passes version n key (Dropped cell) since one = refl
opening_passes version n key (Published cell) since one = by_number (nat_eq cell.key key) cell.version version n (one cell refl) since
  where
    by_number : (t : Bool) (v w n : ℕ) → v ≡ w → w ≤ n → (t && nat_le v n) ≡ t
    by_number t v w n same since = grind (arith, nat_tests, same, since)

first_tests : (test other : Logged → Bool) (cells : ℕ → Logged) (chain : List ℕ) → ((a : ℕ) → test (cells a) ≡ other (cells a)) → first_such test cells chain ≡ first_such other cells chain
first_tests test other cells [] same = refl
first_tests test other cells (a ∷ older) same = rw (same a, first_tests test other cells older same) refl

opening_upto : (home : ℕ → ℕ) (m : Map) (version : ℕ) (opening : Ghosts) → IsOpened home m version opening → HeldUpto home m version opening.log
opening_upto home m version opening opened = record {
  shows = λ n key since.
      ap (λ a. value_at (opening.log.cells a)) (first_tests (has_key_upto n key) (has_key key) opening.log.cells (opening.log.chains (home key))
      (λ a. opening_passes version n key (opening.log.cells a) since (opened.one_version a)))
      ∙ opened.shows key ∙ ap (λ effects. value_in m (upto n effects) key) (sym opened.no_history);
  legal = λ n since. subst (λ effects. IsLegal m (history_of (upto n effects))) (sym opened.no_history) tt;
}

pub run_upto : (home : ℕ → ℕ) (m : Map) (version : ℕ) (opening : Ghosts) (events : List GhostEvent) → IsOpened home m version opening → AreEnabled home opening events
    → HeldUpto home m version (ghost_run home opening events).log
unfolding ghosts_after ghost_run AreEnabled
run_upto home m version opening [] opened enabled = opening_upto home m version opening opened
run_upto home m version opening (event ∷ before) opened enabled =
    (log_steps home m (ghost_run home opening before) event (run_held home m version opening before opened enabled.0) enabled.1).upto version (run_upto home m version opening before opened enabled.0)

-- ---- home by home
pub run_in_order : (home : ℕ → ℕ) (m : Map) (version : ℕ) (opening : Ghosts) (events : List GhostEvent) → IsOpened home m version opening → AreEnabled home opening events
    → HeldInOrder home (ghost_run home opening events).log
unfolding ghosts_after ghost_run AreEnabled
run_in_order home m version opening [] opened enabled = record {
  in_order = λ newer older effect earlier is is_in same. absurd (no_place effect newer older (sym opened.no_history ∙ is));
  in_chain = λ effect is_in. absurd (subst (IsIn effect) opened.no_history is_in);
}
run_in_order home m version opening (event ∷ before) opened enabled =
    (log_steps home m (ghost_run home opening before) event (run_held home m version opening before opened enabled.0) enabled.1).in_order (run_in_order home m version opening before opened enabled.0)
