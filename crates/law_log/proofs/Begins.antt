-- What does without the records below a begin goes on to do so: chains grow at their heads, above it, and below it nothing changes.
use Rattle.std.proofs.Common.{◌≡◌, ◌⊎◌, inl, inr, ℕ, ◌<◌, ◌≤◌, ◌∙◌, Bool, true, false, cond, None, max, List, [], ◌∷◌, ◌++◌, refl, sym, ap, subst, arith}
use Rattle.std.specs.Prelude.{nat_eq}
use Rattle.fkv_map.specs.declared.history.HistoryEntry.{HistoryEntry}
use Rattle.fkv_map.specs.Map.{Map}
use Rattle.law_log.specs.Begins.{Live, LiveUpto, IsWalkLive, IsAbove, IsOver, TakesAbove, TakeAbove}
use Rattle.law_log.specs.Trace.{IsIn}
use Rattle.law_log.specs.Chains.{Cell, Logged, Unborn, Reserved, Published, Dropped, value_at, has_key, has_key_upto, head_of, chain_from, first_such, IsWithin, NoneLater}
use Rattle.law_log.specs.Ghosts.{Log, Ghosts, GhostEvent, Tells, FindsEntry, TakesValue, Reserves, Publishes, Drops, Changes, Fixes, set_at, first_from, newest_of, changed_by, published, dropped, changed, log_after, ghosts_after, ghost_run}
use Rattle.law_log.specs.Enabled.{AreChains, IsEnabled, IsPublishEnabled, IsChangeEnabled, AreEnabled, IsLinked, IsOpened}
use Rattle.law_log.proofs.Chains.{set_else, at_one, same_or_other, same_number, first_is}
use Rattle.law_log.proofs.Walks.{all_below, first_from_head}
use Rattle.law_log.proofs.Versions.{has_upto, upto_is_all}
use Rattle.law_log.proofs.Held.{Held, Grows, IsBlind, first_along, first_stays, shown_stays}
use Rattle.law_log.proofs.Steps.{IsQuiet, quiet_log, quiet_grows, first_quietly, fixes_quietly, reserves_quietly, drops_quietly}
use Rattle.law_log.proofs.Changed.{MeetsChange, changed_log, changed_grows}
use Rattle.law_log.proofs.Published.{MeetsPublish, published_log, newest_own, newest_else, first_apart}
use Rattle.law_log.proofs.LogSteps.{Steps, log_steps, run_held}

-- a test that looks for one key, and not at values
pub record LooksFor (key : ℕ) (test : Logged → Bool) : Type 0 where
  pub blind : IsBlind test
  pub its_key : (cell : Cell) → test (Published cell) ≡ true → cell.key ≡ key

pub by_key : (key : ℕ) → LooksFor key (has_key key)
by_key key = record { blind = λ cell value. refl; its_key = λ cell is. same_number cell.key key is }

pub by_version : (version key : ℕ) → LooksFor key (has_key_upto version key)
by_version version key = record { blind = λ cell value. refl; its_key = λ cell is. same_number cell.key key (has_upto version key (Published cell) is).0 }

-- the first record of a chain that passes lies at or above the begin, or shows nothing
abbrev pub IsLiveBy : ℕ → (Logged → Bool) → (ℕ → Logged) → List ℕ → Type 0
IsLiveBy begin test cells chain = (begin ≤ first_such test cells chain) ⊎ (value_at (cells (first_such test cells chain)) ≡ None)

-- and so it does where it is the same with the same value
live_same : (begin : ℕ) (test : Logged → Bool) (cells cells' : ℕ → Logged) (chain chain' : List ℕ) → first_such test cells' chain' ≡ first_such test cells chain
    → value_at (cells' (first_such test cells chain)) ≡ value_at (cells (first_such test cells chain)) → IsLiveBy begin test cells chain → IsLiveBy begin test cells' chain'
live_same begin test cells cells' chain chain' same value (inl above) = inl (subst (λ n. begin ≤ n) (sym same) above)
live_same begin test cells cells' chain chain' same value (inr none) = inr (ap (λ n. value_at (cells' n)) same ∙ value ∙ none)

-- ---- one event
module _ (home : ℕ → ℕ) (m : Map) (begin key : ℕ) (test : Logged → Bool) (looks : LooksFor key test) where
  abbrev IsLiveIn : Log → Type 0
  IsLiveIn log = IsLiveBy begin test log.cells (log.chains (home key))

  quietly : (log : Log) (cells : ℕ → Logged) (fixed : ℕ) → Held home m log → IsQuiet home log cells fixed → IsLiveIn log → IsLiveIn (quiet_log log cells fixed)
  quietly log cells fixed held quiet live =
      let chain = log.chains (home key) in
      let same = first_along home m log (quiet_log log cells fixed) held.chains (quiet_grows home m log cells fixed quiet) test looks.blind (home key) chain (λ b is_in. is_in) in
      live_same begin test log.cells cells chain chain same (ap (λ n. value_at (cells n)) (sym same) ∙ first_quietly home m log cells fixed held quiet test looks.blind (home key)) live

  changing : (log : Log) (a : ℕ) (entry : HistoryEntry) (cell : Cell) → Held home m log → MeetsChange home log a entry cell → begin ≤ log.fixed → IsLiveIn log → IsLiveIn (changed_log log a entry cell)
  changing log a entry cell held change over live =
      let chain = log.chains (home key) in
      let new = Published (changed_by entry cell) in
      let x = first_such test log.cells chain in
      let same = first_along home m log (changed_log log a entry cell) held.chains (changed_grows home m log a entry cell held change) test looks.blind (home key) chain (λ b is_in. is_in) in
      elim (same_or_other x a) [
        | inl here ↦ inl (subst (λ n. begin ≤ n) (sym (same ∙ here)) (upwards begin log.fixed a over change.may.not_fixed))
        | inr other ↦ live_same begin test log.cells (set_at log.cells a new) chain chain same (ap value_at (set_else log.cells a new x other)) live
      ]
    where
      upwards : (a b c : ℕ) → a ≤ b → b ≤ c → a ≤ c
      upwards a b c low high = omega (arith, low, high)

  publishing : (log : Log) (a : ℕ) (entry : HistoryEntry) (cell : Cell) → Held home m log → MeetsPublish home log a entry cell → begin ≤ a → (t : Bool) → test (Published cell) ≡ t → IsLiveIn log
      → IsLiveIn (published_log home log a entry cell)
  publishing log a entry cell held publish taken true passes live =
      let log' = published_log home log a entry cell in
      let first : first_such test log'.cells (log'.chains (home key)) ≡ a =
      subst (λ k. first_such test log'.cells (log'.chains (home k)) ≡ a) (looks.its_key cell passes) (newest_own home log a entry cell test passes) in
      inl (subst (λ n. begin ≤ n) (sym first) taken)
  publishing log a entry cell held publish taken false fails live =
      let log' = published_log home log a entry cell in
      let chain = log.chains (home key) in
      let other = first_apart home m log a entry cell held publish test (home key) chain (first_such test log.cells chain) (λ b is_in. is_in) (first_is test log.cells chain) in
      live_same begin test log.cells log'.cells chain (log'.chains (home key)) (newest_else home m log a entry cell held publish test looks.blind fails (home key))
      (ap value_at (set_else log.cells a (Published cell) (first_such test log.cells chain) other)) live

  publishes : (g : Ghosts) (a : ℕ) (logged : Logged) → g.log.cells a ≡ logged → Held home m g.log → IsOver begin g.log → IsPublishEnabled home g logged → IsLiveIn g.log → IsLiveIn (published home g.log a logged)
  publishes g a (Reserved entry cell) its held over enabled live =
      publishing g.log a entry cell held (record { its = its; its_head = enabled.0; none_above = enabled.1 }) (over.none_reserved a entry cell its) (test (Published cell)) refl live
  publishes g a Unborn its held over enabled live = live
  publishes g a (Published cell) its held over enabled live = live
  publishes g a (Dropped cell) its held over enabled live = live

  drops : (log : Log) (a : ℕ) (logged : Logged) → log.cells a ≡ logged → Held home m log → IsLiveIn log → IsLiveIn (dropped log a logged)
  drops log a (Reserved entry cell) its held live = quietly log _ log.fixed held (drops_quietly home m log a entry cell held its) live
  drops log a Unborn its held live = live
  drops log a (Published cell) its held live = live
  drops log a (Dropped cell) its held live = live

  changes : (g : Ghosts) (a : ℕ) (entry : HistoryEntry) (logged : Logged) → g.log.cells a ≡ logged → Held home m g.log → IsOver begin g.log → IsChangeEnabled home g a entry logged → IsLiveIn g.log
      → IsLiveIn (changed g.log a entry logged)
  changes g a entry (Published cell) its held over enabled live = changing g.log a entry cell held (record { its = its; may = enabled.0 }) over.fixed live
  changes g a entry Unborn its held over enabled live = live
  changes g a entry (Reserved other cell) its held over enabled live = live
  changes g a entry (Dropped cell) its held over enabled live = live

  event_live : (g : Ghosts) (event : GhostEvent) → Held home m g.log → IsOver begin g.log → IsEnabled home g event → IsLiveIn g.log → IsLiveIn (log_after home g.log event)
  event_live g (Tells line) held over enabled live = live
  event_live g (FindsEntry reader) held over enabled live = live
  event_live g (TakesValue reader) held over enabled live = live
  event_live g (Reserves a entry cell) held over enabled live = quietly g.log _ g.log.fixed held (reserves_quietly home m g.log a entry cell held enabled.0 enabled.1 enabled.2) live
  event_live g (Publishes a) held over enabled live = publishes g a (g.log.cells a) refl held over enabled live
  event_live g (Drops a) held over enabled live = drops g.log a (g.log.cells a) refl held live
  event_live g (Changes a entry) held over enabled live = changes g a entry (g.log.cells a) refl held over enabled live
  event_live g (Fixes a) held over enabled live = quietly g.log g.log.cells (max g.log.fixed a) held (fixes_quietly home m g.log (max g.log.fixed a) held (at_least g.log.fixed a)) live
    where
      at_least : (a b : ℕ) → a ≤ max a b
      at_least a b = omega arith

-- ---- what is over stays so
reserved_then : (begin : ℕ) (cells : ℕ → Logged) (i : ℕ) (new : Logged) → ((a : ℕ) (entry : HistoryEntry) (cell : Cell) → cells a ≡ Reserved entry cell → begin ≤ a)
    → ((entry : HistoryEntry) (cell : Cell) → new ≡ Reserved entry cell → begin ≤ i) → (a : ℕ) (entry : HistoryEntry) (cell : Cell) → set_at cells i new a ≡ Reserved entry cell → begin ≤ a
reserved_then begin cells i new before now a entry cell is = elim (at_one cells i new a) [
  | inl here ↦ subst (λ n. begin ≤ n) (sym here.0) (now entry cell (sym here.1 ∙ is))
  | inr else_ ↦ before a entry cell (sym else_.1 ∙ is)
]

none_published : (begin i : ℕ) (cell : Cell) (entry : HistoryEntry) (other : Cell) → Published cell ≡ Reserved entry other → begin ≤ i
none_published begin i cell entry other same = absurd (cc)

none_dropped : (begin i : ℕ) (cell : Cell) (entry : HistoryEntry) (other : Cell) → Dropped cell ≡ Reserved entry other → begin ≤ i
none_dropped begin i cell entry other same = absurd (cc)

module _ (home : ℕ → ℕ) (begin : ℕ) where
  abbrev AreReservedAbove : Log → Type 0
  AreReservedAbove log = (a : ℕ) (entry : HistoryEntry) (cell : Cell) → log.cells a ≡ Reserved entry cell → begin ≤ a

  published_over : (log : Log) (a : ℕ) (logged : Logged) → AreReservedAbove log → AreReservedAbove (published home log a logged)
  published_over log a (Reserved entry cell) over = reserved_then begin log.cells a (Published cell) over (none_published begin a cell)
  published_over log a Unborn over = over
  published_over log a (Published cell) over = over
  published_over log a (Dropped cell) over = over

  dropped_over : (log : Log) (a : ℕ) (logged : Logged) → AreReservedAbove log → AreReservedAbove (dropped log a logged)
  dropped_over log a (Reserved entry cell) over = reserved_then begin log.cells a (Dropped cell) over (none_dropped begin a cell)
  dropped_over log a Unborn over = over
  dropped_over log a (Published cell) over = over
  dropped_over log a (Dropped cell) over = over

  changed_over : (log : Log) (a : ℕ) (entry : HistoryEntry) (logged : Logged) → AreReservedAbove log → AreReservedAbove (changed log a entry logged)
  changed_over log a entry (Published cell) over = reserved_then begin log.cells a (Published (changed_by entry cell)) over (none_published begin a (changed_by entry cell))
  changed_over log a entry Unborn over = over
  changed_over log a entry (Reserved other cell) over = over
  changed_over log a entry (Dropped cell) over = over

  reserved_over : (log : Log) (event : GhostEvent) → TakesAbove begin event → AreReservedAbove log → AreReservedAbove (log_after home log event)
  reserved_over log (Tells line) takes over = over
  reserved_over log (FindsEntry reader) takes over = over
  reserved_over log (TakesValue reader) takes over = over
  reserved_over log (Reserves a entry cell) takes over = reserved_then begin log.cells a (Reserved entry cell) over (λ other its same. takes)
  reserved_over log (Publishes a) takes over = published_over log a (log.cells a) over
  reserved_over log (Drops a) takes over = dropped_over log a (log.cells a) over
  reserved_over log (Changes a entry) takes over = changed_over log a entry (log.cells a) over
  reserved_over log (Fixes a) takes over = over

upwards : (a b c : ℕ) → a ≤ b → b ≤ c → a ≤ c
upwards a b c low high = omega (arith, low, high)

-- ---- a whole run
module _ (home : ℕ → ℕ) (m : Map) (version : ℕ) (opening : Ghosts) (opened : IsOpened home m version opening) where
  abbrev now : List GhostEvent → Log
  now events = (ghost_run home opening events).log

  -- an event more
  steps : (event : GhostEvent) (events : List GhostEvent) → AreEnabled home opening (event ∷ events) → Steps home m (now events) (now (event ∷ events))
  unfolding ghosts_after ghost_run AreEnabled
  steps event events enabled = log_steps home m (ghost_run home opening events) event (run_held home m version opening events opened enabled.0) enabled.1

  rest : (event : GhostEvent) (events : List GhostEvent) → AreEnabled home opening (event ∷ events) → AreEnabled home opening events
  unfolding AreEnabled
  rest event events enabled = enabled.0

  one_over : (begin : ℕ) (event : GhostEvent) (events : List GhostEvent) → AreEnabled home opening (event ∷ events) → TakesAbove begin event → IsOver begin (now events) → IsOver begin (now (event ∷ events))
  unfolding ghosts_after ghost_run
  one_over begin event events enabled takes over = record {
    fixed = upwards begin _ _ over.fixed (steps event events enabled).grows.fixed;
    none_reserved = reserved_over home begin (now events) event takes over.none_reserved;
  }

  pub stays_over : (begin : ℕ) (later before : List GhostEvent) → AreEnabled home opening (later ++ before) → TakeAbove begin later → IsOver begin (now before) → IsOver begin (now (later ++ before))
  stays_over begin [] before enabled take over = over
  stays_over begin (event ∷ later) before enabled take over =
      one_over begin event (later ++ before) enabled take.0 (stays_over begin later before (rest event (later ++ before) enabled) take.1 over)

  module _ (begin key : ℕ) (test : Logged → Bool) (looks : LooksFor key test) where
    abbrev IsLiveAt : List GhostEvent → Type 0
    IsLiveAt events = IsLiveBy begin test (now events).cells ((now events).chains (home key))

    one_live : (event : GhostEvent) (events : List GhostEvent) → AreEnabled home opening (event ∷ events) → IsOver begin (now events) → IsLiveAt events → IsLiveAt (event ∷ events)
    unfolding ghosts_after ghost_run AreEnabled
    one_live event events enabled over live =
        event_live home m begin key test looks (ghost_run home opening events) event (run_held home m version opening events opened enabled.0) over enabled.1 live

    pub stays_live : (later before : List GhostEvent) → AreEnabled home opening (later ++ before) → TakeAbove begin later → IsOver begin (now before) → IsLiveAt before → IsLiveAt (later ++ before)
    stays_live [] before enabled take over live = live
    stays_live (event ∷ later) before enabled take over live =
        let enabled_later = rest event (later ++ before) enabled in
        one_live event (later ++ before) enabled (stays_over begin later before enabled_later take.1 over) (stays_live later before enabled_later take.1 over live)

-- ---- walks
-- a walk goes on so as the log does
pub walk_along : (home : ℕ → ℕ) (m : Map) (log log' : Log) → AreChains home log → log.cells 0 ≡ Unborn → Grows home m log log' → (floor key from : ℕ) → floor ≤ log.fixed → IsWithin from (log.chains (home key)) → IsWalkLive floor home log key from
    → IsWalkLive floor home log' key from
walk_along home m log log' chains none grows floor key from over within (inl above) = inl (subst (λ n. floor ≤ n) (sym (first_stays home m log log' chains grows key from within)) above)
walk_along home m log log' chains none grows floor key from over within (inr absent) = elim (shown_stays home m log log' chains none grows key from within) [
  | inl same ↦ inr (same ∙ absent)
  | inr now ↦ inl (subst (λ n. floor ≤ n) (sym (first_stays home m log log' chains grows key from within)) (upwards floor log.fixed _ over now.0))
]

module _ (home : ℕ → ℕ) (m : Map) (version : ℕ) (opening : Ghosts) (opened : IsOpened home m version opening) (floor key from : ℕ) where
  -- what a walk goes by at a moment
  pub record WalksBy (log : Log) : Type 0 where
    pub over : floor ≤ log.fixed
    pub within : IsWithin from (log.chains (home key))
    pub live : IsWalkLive floor home log key from

  one_walk : (event : GhostEvent) (events : List GhostEvent) → AreEnabled home opening (event ∷ events) → WalksBy (now home m version opening opened events) → WalksBy (now home m version opening opened (event ∷ events))
  one_walk event events enabled walks =
      let held = run_held home m version opening events opened (rest home m version opening opened event events enabled) in
      let grows = (steps home m version opening opened event events enabled).grows in
      record {
        over = upwards floor _ _ walks.over grows.fixed;
        within = (grows.chains (home key) from walks.within).1;
        live = walk_along home m _ _ held.chains held.none grows floor key from walks.over walks.within walks.live;
      }

  pub stays_walk : (later before : List GhostEvent) → AreEnabled home opening (later ++ before) → WalksBy (now home m version opening opened before) → WalksBy (now home m version opening opened (later ++ before))
  stays_walk [] before enabled walks = walks
  stays_walk (event ∷ later) before enabled walks =
      one_walk event (later ++ before) enabled (stays_walk later before (rest home m version opening opened event (later ++ before) enabled) walks)

pub walk_begins : (home : ℕ → ℕ) (begin floor : ℕ) (log : Log) (key : ℕ) → floor ≤ begin → Live begin home log → IsWalkLive floor home log key (head_of (log.chains (home key)))
walk_begins home begin floor log key low live = elim (live key) [
  | inl above ↦ inl (subst (λ n. floor ≤ n) (sym (first_from_head home log key)) (upwards floor begin (newest_of home log key) low above))
  | inr absent ↦ inr (ap (λ n. value_at (log.cells n)) (first_from_head home log key) ∙ absent)
]

-- from an address on a chain goes down
from_low : (cells : ℕ → Logged) (chain : List ℕ) → IsLinked cells chain → (a b : ℕ) → IsIn b (chain_from a chain) → b ≤ a
from_low cells [] linked a b is_in = absurd is_in
from_low cells (c ∷ older) linked a b is_in = by_test (nat_eq c a) refl (from_low cells older linked.2 a b) is_in
  where
    low : c ≡ a → IsIn b older → b ≤ a
    low same later = (let under = all_below cells c older linked.1 linked.2 b later in omega (arith, same, under))

    by_test : (t : Bool) → nat_eq c a ≡ t → (IsIn b (chain_from a older) → b ≤ a) → IsIn b (cond t (c ∷ older) (chain_from a older)) → b ≤ a
    by_test true own rest (inl same) = (let here = same_number c a own in omega (arith, same, here))
    by_test true own rest (inr later) = low (same_number c a own) later
    by_test false other rest it = rest it

pub absent_below : (home : ℕ → ℕ) (floor : ℕ) (log : Log) (key from : ℕ) → AreChains home log → log.cells 0 ≡ Unborn → from < floor → IsWalkLive floor home log key from → value_at (log.cells (first_from home log key from)) ≡ None
absent_below home floor log key from chains none low (inr absent) = absent
absent_below home floor log key from chains none low (inl above) = elim (first_is (has_key key) log.cells (chain_from from (log.chains (home key)))) [
  | inl zero_is ↦ ap (λ n. value_at (log.cells n)) zero_is ∙ ap value_at none
  | inr some ↦ (let under = from_low log.cells (log.chains (home key)) (chains.linked (home key)) from _ some.0 in absurd (omega (arith, low, above, under)))
]

-- ---- how it begins
first_above : (home : ℕ → ℕ) (begin : ℕ) (log : Log) (test : Logged → Bool) (h : ℕ) → AreChains home log → log.cells 0 ≡ Unborn → IsAbove begin log → IsLiveBy begin test log.cells (log.chains h)
first_above home begin log test h chains none above = elim (first_is test log.cells (log.chains h)) [
  | inl zero_is ↦ inr (ap (λ n. value_at (log.cells n)) zero_is ∙ ap value_at none)
  | inr some ↦ (let its = chains.in_chain h _ some.0 in inl (above _ its.cell its.its))
]

pub above_live : (home : ℕ → ℕ) (begin : ℕ) (log : Log) → AreChains home log → log.cells 0 ≡ Unborn → IsAbove begin log → Live begin home log × ((version : ℕ) → LiveUpto version begin home log)
above_live home begin log chains none above = (
  λ key. first_above home begin log (has_key key) (home key) chains none above,
  λ version key. first_above home begin log (has_key_upto version key) (home key) chains none above,
)

pub live_at_rest : (home : ℕ → ℕ) (begin version : ℕ) (log : Log) → ((h : ℕ) → NoneLater log.cells (log.chains h) version) → Live begin home log → LiveUpto version begin home log
live_at_rest home begin version log none_later live key =
    let same = upto_is_all version version key log.cells (log.chains (home key)) (none_later (home key)) (itself version) in
    elim (live key) [ inl above ↦ inl (subst (λ n. begin ≤ n) (sym same) above) | inr absent ↦ inr (ap (λ n. value_at (log.cells n)) same ∙ absent) ]
  where
    itself : (n : ℕ) → n ≤ n
    itself n = omega arith
