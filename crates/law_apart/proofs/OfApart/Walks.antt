-- Each true reply leads the walk of an update that has taken its share in prepare on to what it has to know of versions, or its home has no later one.
use Rattle.std.proofs.Common.{◌≡◌, ◌⊎◌, inl, inr, ℕ, zero, suc, ◌+◌, ◌-◌, ◌<◌, ◌≤◌, refl, sym, ap, ◌∙◌, subst, arith, Bool, true, false, Option, Some, None, List, [], ◌∷◌}
use Rattle.std.specs.Prelude.{◌==◌, ◌||◌, ◌&&◌, nat_lt, if◌then◌else◌}
use Rattle.std.proofs.lemmas.Bool.Decides.{nat_tests}
use Rattle.fkv_base.specs.declared.numbers.Addr.{Addr}
use Rattle.fkv_base.specs.declared.numbers.Key.{Key}
use Rattle.fkv_base.specs.declared.numbers.Version.{Version}
use Rattle.fkv_marks.specs.Marks.{mark}
use Rattle.fkv_plane.specs.declared.asks.Ask.{Ask}
use Rattle.fkv_plane.specs.declared.asks.Ask.TheVariants.{Done}
use Rattle.fkv_plane.specs.declared.places.Places.{Places}
use Rattle.fkv_plane.specs.Passing.{is_done, passed}
use Rattle.law_local.specs.Below.fkv_log.TheLoading.{Loading}
use Rattle.law_local.specs.Below.fkv_log.TheLoading.TheVariants as load
use Rattle.law_local.specs.Below.fkv_log.LoadAnswer.{LoadAnswer}
use Rattle.law_local.specs.Below.fkv_log.LoadAnswer.TheVariants as loaded
use Rattle.law_local.specs.Below.fkv_log.Loading.{load_ask, load_next, load_next_ask}
use Rattle.fkv_index.specs.declared.finding.FindAnswer.{FindAnswer}
use Rattle.fkv_index.specs.declared.finding.FindStep.{FindStep}
use Rattle.fkv_index.specs.declared.finding.FindStep.TheVariants as find
use Rattle.fkv_index.specs.declared.finding.Finding.{Finding}
use Rattle.fkv_index.specs.declared.finding.Found.{Found}
use Rattle.fkv_index.specs.declared.finding.Found.TheVariants as found
use Rattle.fkv_index.specs.Counted.{IsCounted}
use Rattle.fkv_index.specs.Finding.{asks_left, find_next, find_next_ask, step_asks_left}
use Rattle.fkv_index.proofs.Shown.{next_counted}
use Rattle.fkv_index.specs.Slots.{entry_addr}
use Rattle.law_log.specs.Chains.{Cell, Logged, Published, VersionsFall, head_of, version_at}
use Rattle.law_log.specs.Ghosts.{Log}
use Rattle.law_log.specs.Enabled.{AreChains, IsLinked, NoneAbove, previous_of}
use Rattle.law_log.specs.Trace.{IsIn}
use Rattle.law_log.proofs.Shown.{not_unborn}
use Rattle.law_local.specs.Below.fkv_ops.HeaderSaid.{HeaderSaid}
use Rattle.law_local.specs.Below.fkv_ops.HeaderSaid.TheVariants.{Says, Spoiled}
use Rattle.law_local.specs.Below.fkv_ops.Request.{Request}
use Rattle.law_local.specs.Below.fkv_ops.Seen.{Seen}
use Rattle.law_local.specs.Below.fkv_ops.WalkAnswer.{WalkAnswer}
use Rattle.law_local.specs.Below.fkv_ops.WalkAnswer.TheVariants as walk
use Rattle.law_local.specs.Below.fkv_ops.TheWalking.{Walking}
use Rattle.law_local.specs.Below.fkv_ops.TheWalking.TheVariants.{Ended, Finds, HasFound, LoadsValue, Meets}
use Rattle.law_local.specs.Below.fkv_ops.HeaderWords.{header_said}
use Rattle.law_local.specs.Below.fkv_ops.Walking.{WalkState, find_ledto, first_met, load_ledto, reached, record_met, slot_found, value_ledto, walk_ask, walk_next, walking_ask, walking_next}
use Rattle.law_local.specs.Tries.OnWay.{IsOnWay, IsOrderly}
use Rattle.law_local.specs.Tries.Replies.{EndsAtHead, IsTrueOfLoad, IsTrueOfWalk, LeadsToHead}
use Rattle.law_local.specs.Tries.TryRows.{IsWalkFor, NoneIsLater, head_in, key_in}
use Rattle.law_local.specs.Tries.WalkRows.{IsHeaderOf, LoadKnows, WalkKnows, WalkRow, begin_of}
use Rattle.law_local.proofs.OfTries.OnWay.{from_start, goes_on, in_chain}
use Rattle.law_apart.specs.Apart.Rows.{EndApart, HasComeTo, HasMet, HasMetFirst, IsLater, MetIn, SearchTells, ShowsLater, WalkApart, is_link_step, is_linking, is_lost}
use Rattle.law_apart.proofs.OfApart.Links.{links_so}
use Rattle.law_apart.proofs.OfApart.Tests.{eq_true, lt_false, lt_true, not_both, some_where}

-- ---- chains
-- what a record of a chain leads to lies below it
previous_low : (cells : ℕ → Logged) (chain : List ℕ) (a : ℕ) (cell : Cell) → IsLinked cells chain → IsIn a chain → cells a ≡ Published cell → cell.previous < a
previous_low cells (b ∷ older) a cell linked (inl here) its =
    let says : Some cell.previous ≡ Some (head_of older) = ap previous_of (sym (ap cells here ∙ its)) ∙ linked.0 in
    let same : cell.previous ≡ head_of older = cc in
    let low = linked.1 in
    omega (arith, same, low, here)
previous_low cells (b ∷ older) a cell linked (inr more) its = previous_low cells older a cell linked.2 more its
previous_low cells [] a cell linked is_in its = absurd is_in

-- no version of a chain is above that of its first record
none_over_head : (cells : ℕ → Logged) (chain : List ℕ) (a : ℕ) → VersionsFall cells chain → IsIn a chain → version_at (cells a) ≤ version_at (cells (head_of chain))
none_over_head cells (b ∷ older) a falls (inl here) = same a b here
  where
    same : (x y : ℕ) → y ≡ x → version_at (cells x) ≤ version_at (cells y)
    same x y e = let is = ap (λ (n : ℕ). version_at (cells n)) e in omega (arith, is)
none_over_head cells (b ∷ older) a falls (inr more) = falls.0 a more
none_over_head cells [] a falls is_in = absurd is_in

-- where a chain is empty nothing is later
empty_none : (chain : List ℕ) (a : ℕ) (X : Type 0) → ((b : ℕ) → IsIn b chain → 0 < b) → head_of chain ≡ 0 → IsIn a chain → X
empty_none (b ∷ older) a X some none is_in = let high = some b (inl refl) in absurd (omega (arith, none, high))
empty_none [] a X some none is_in = absurd is_in

module _ (home : ℕ → ℕ) (log : Log) (request : Request) (seen : Seen) (p : Places) (orderly : IsOrderly home log)
    (above : (a : ℕ) → IsLater home log request a → head_in seen ≤ a) (in_ring : (a : ℕ) → IsIn a (log.chains (home (key_in request))) → a < head_in seen + p.ring) where
  abbrev C : List ℕ
  C = log.chains (home (key_in request))

  abbrev Shows : ℕ → Type 0
  Shows from = ShowsLater home log request seen from

  abbrev Apart : WalkState → Type 0
  Apart w = WalkApart home log request seen w w.step

  -- a record of the chain isn't at 0
  some_in : (a : ℕ) → IsIn a C → 0 < a
  some_in a is_in = by_number a refl
    where
      by_number : (n : ℕ) → a ≡ n → 0 < n
      by_number zero e =
          let there = orderly.chains.in_chain (home (key_in request)) a is_in in
          absurd (not_unborn (log.cells a) there.cell there.its (ap log.cells e ∙ orderly.none))
      by_number (suc n) e = omega arith

  -- the first record of the chain shows what is later
  head_shows : VersionsFall log.cells C → (from : ℕ) → from ≡ head_of C → Shows from
  head_shows falls from is a later =
      let high = none_over_head log.cells C a falls later.0 in
      let low = later.1 in
      let same = ap (λ (n : ℕ). version_at (log.cells n)) is in
      let version : request.version.0 < version_at (log.cells from) = omega (arith, high, low, same) in
      (above from (subst (λ (n : ℕ). IsIn n C) (sym is) (first_in C a later.0), version), version)
    where
      first_in : (chain : List ℕ) (b : ℕ) → IsIn b chain → IsIn (head_of chain) chain
      first_in (x ∷ older) b is_in = inl refl
      first_in [] b is_in = absurd is_in

  none_shows : head_of C ≡ 0 → (from : ℕ) → Shows from
  none_shows none from a later = empty_none C a _ some_in none later.0

  -- ---- on down the chain
  reached_apart : (w : WalkState) (addr : ℕ) → w.head.0 ≡ head_in seen → (0 < addr → IsIn addr C) → Shows (begin_of w) → HasComeTo log (begin_of w) w.first addr → Apart (reached p w addr)
  reached_apart w addr head there shows come = by_zero (addr == 0) refl
    where
      by_ring : (b : Bool) → nat_lt (addr - w.head.0) p.ring ≡ b → w.head.0 ≤ addr → 0 < addr
          → Apart (if b then record w { loading = load.LoadsHeader (record { 0 = addr }); step = Meets (record { 0 = addr }) } else record w { step = Ended walk.Contended })
      by_ring true e high some = (shows, come)
      by_ring false e high some =
          let far = lt_false (addr - w.head.0) p.ring e in
          let near = in_ring addr (there some) in
          absurd (omega (arith, far, near, high, head))

      by_head : (b : Bool) → nat_lt addr w.head.0 ≡ b → 0 < addr
          → Apart (if b then record w { step = Ended (walk.OnDisk (record { 0 = addr })) } else if nat_lt (addr - w.head.0) p.ring then record w { loading = load.LoadsHeader (record { 0 = addr }); step = Meets (record { 0 = addr }) } else record w { step = Ended walk.Contended })
      by_head true e some = (shows, come, subst (λ (n : ℕ). addr < n) head (lt_true addr w.head.0 e))
      by_head false e some = by_ring (nat_lt (addr - w.head.0) p.ring) refl (lt_false addr w.head.0 e) some

      by_zero : (b : Bool) → (addr == 0) ≡ b
          → Apart (if b then record w { step = Ended walk.Nowhere } else if nat_lt addr w.head.0 then record w { step = Ended (walk.OnDisk (record { 0 = addr })) } else if nat_lt (addr - w.head.0) p.ring then record w { loading = load.LoadsHeader (record { 0 = addr }); step = Meets (record { 0 = addr }) } else record w { step = Ended walk.Contended })
      by_zero true e = (shows, subst (HasComeTo log (begin_of w) w.first) (eq_true addr 0 e) come)
      by_zero false e = by_head (nat_lt addr w.head.0) refl (some_where addr e)

  -- ---- the search
  abbrev Goes : WalkState → Type 0
  Goes w = (NoneIsLater home log request × MetIn log C w.first) ⊎ Apart w

  none_by_empty : head_of C ≡ 0 → NoneIsLater home log request
  none_by_empty none update a is_in = empty_none C a _ some_in none is_in

  slot_apart : VersionsFall log.cells C → (w : WalkState) (its : Found) → w.head.0 ≡ head_in seen → w.entry ≡ 0 → w.first ≡ None → LeadsToHead (head_of C) its → (is_lost its ≡ true → ⊥) → Apart (slot_found p w its)
  slot_apart falls w (found.Slot place word) head none first leads lost =
      reached_apart (record w { place = place; entry = word }) (entry_addr word) head (λ some. at_head C (entry_addr word) leads some) (head_shows falls (entry_addr word) leads)
      (subst (λ (f : Option Version). HasComeTo log (entry_addr word) f (entry_addr word)) (sym first) refl)
    where
      at_head : (chain : List ℕ) (a : ℕ) → a ≡ head_of chain → 0 < a → IsIn a chain
      at_head (x ∷ older) a e some = inl (sym e)
      at_head [] a e some = absurd (omega (arith, e, some))
  slot_apart falls w found.NoSlot head none first leads lost =
      (none_shows leads (begin_of w), subst (λ (f : Option Version). HasComeTo log (begin_of w) f 0) (sym first) (sym (ap entry_addr none)))
  slot_apart falls w found.Full head none first leads lost = absurd (lost refl)
  slot_apart falls w found.Kept head none first leads lost = absurd (lost refl)
  slot_apart falls w found.Contended head none first leads lost = absurd (lost refl)

  -- a search that goes on isn't at rest
  goes_busy : (f : Finding) (reply : ℕ) → is_done (find_next_ask p f reply) ≡ false → (find_next p f reply).step ≡ find.AtRest → ⊥
  unfolding step_asks_left
  goes_busy f reply going rest =
      let left : 0 < asks_left (find_next p f reply) = some_left (find_next_ask p f reply) (asks_left (find_next p f reply)) going (next_counted p f reply) in
      let none : asks_left (find_next p f reply) ≡ 0 = ap (λ (s : FindStep). step_asks_left (find_next p f reply) s) rest in
      omega (arith, left, none)
    where
      some_left : {A : Type 0} (ask : Ask A) (n : ℕ) → is_done ask ≡ false → IsCounted n ask → 0 < n
      some_left (Done its) n e counted = cc
      some_left ask n e counted = counted

  find_apart : VersionsFall log.cells C → (w : WalkState) (reply : ℕ) (ask : Ask _) → w.step ≡ Finds → w.head.0 ≡ head_in seen → w.entry ≡ 0 → w.first ≡ None → (w.finding.step ≡ find.AtRest → ⊥) → is_linking w.finding ≡ false
      → find_next_ask p w.finding reply ≡ ask → SearchTells log (home (key_in request)) p w.finding reply → EndsAtHead (head_of C) ask → Goes (find_ledto p (record w { finding = find_next p w.finding reply }) ask)
  unfolding find_ledto
  find_apart falls w reply (Done its) at head none first busy links e tells ends =
      inr (slot_apart falls (record w { finding = find_next p w.finding reply; spare = its.spare }) its.found head none first ends (λ lost. not_both (is_linking w.finding) (tells.lost its busy e lost) links))
  find_apart falls w reply ask at head none first busy links e tells ends = by_links (is_linking (find_next p w.finding reply)) refl
    where
      going : is_done (find_next_ask p w.finding reply) ≡ false
      going = ap is_done e

      next : WalkState
      next = record w { finding = find_next p w.finding reply }

      by_links : (b : Bool) → is_linking (find_next p w.finding reply) ≡ b → Goes next
      by_links true is = elim (links_so p w.finding reply is) [ inl was ↦ not_both (is_linking w.finding) was links | inr none ↦ inl (none_by_empty (tells.empty none.0 none.1), subst (MetIn log C) (sym first) tt) ]
      by_links false is = inr (subst (λ (s : Walking). WalkApart home log request seen next s) (sym at) (first, goes_busy w.finding reply going, is))

  -- ---- a record that is met
  first_so : (from addr : ℕ) (first : Option Version) (version : Version) (cell : Cell) → HasComeTo log from first addr → log.cells addr ≡ Published cell → version.0 ≡ mark cell.version → HasMetFirst log from (first_met first version)
  first_so from addr None version cell come its is = record { cell = cell; its = sym (ap log.cells come) ∙ its; its_mark = is }
  first_so from addr (Some was) version cell come its is = come

  come_so : (from at : ℕ) (first : Option Version) → HasMetFirst log from first → HasComeTo log from first at
  come_so from at None met = absurd met
  come_so from at (Some was) met = met

  met_apart : (w : WalkState) (addr : Addr) (header key : ℕ) → w.key.0 ≡ key_in request → w.head.0 ≡ head_in seen → IsOnWay home log w.key.0 (begin_of w) addr.0 → 0 < addr.0 → (has : IsHeaderOf (log.cells addr.0) header) → key ≡ has.cell.key
      → Shows (begin_of w) → HasComeTo log (begin_of w) w.first addr.0 → Apart (record_met p w addr (record { 0 = key }) (header_said header))
  met_apart w addr header key its_key head way some has key_is shows come = subst (λ said. Apart (record_met p w addr (record { 0 = key }) said)) (sym has.says) (by_previous (nat_lt has.cell.previous addr.0) refl)
    where
      version : Version
      version = record { 0 = mark has.cell.version }

      first : HasMetFirst log (begin_of w) (first_met w.first version)
      first = first_so (begin_of w) addr.0 w.first version has.cell come has.its refl

      by_key : (b : Bool) → (key == w.key.0) ≡ b
          → Apart (if b then record w { first = first_met w.first version; step = HasFound addr version } else reached p (record w { first = first_met w.first version }) has.cell.previous)
      by_key true e = (shows, first)
      by_key false e =
          let on = goes_on home log w.key.0 (begin_of w) addr.0 has.cell orderly.chains way some has.its (λ same. not_both (key == w.key.0) (let it : (key == w.key.0) ≡ true = (let is = key_is ∙ same in grind (arith, nat_tests, is)) in it) e) in
          reached_apart (record w { first = first_met w.first version }) has.cell.previous head
          (λ positive. subst (λ (k : ℕ). IsIn has.cell.previous (log.chains (home k))) its_key (in_chain has.cell.previous (log.chains (home w.key.0)) on.within positive)) shows
          (come_so (begin_of w) has.cell.previous (first_met w.first version) first)

      by_previous : (b : Bool) → nat_lt has.cell.previous addr.0 ≡ b
          → Apart (if b then (if key == w.key.0 then record w { first = first_met w.first version; step = HasFound addr version } else reached p (record w { first = first_met w.first version }) has.cell.previous) else record w { step = Ended walk.Contended })
      by_previous true e = by_key (key == w.key.0) refl
      by_previous false e =
          let low = previous_low log.cells (log.chains (home w.key.0)) addr.0 has.cell (orderly.chains.linked (home w.key.0)) (in_chain addr.0 (log.chains (home w.key.0)) way.within some) has.its in
          let high = lt_false has.cell.previous addr.0 e in
          absurd (omega (arith, low, high))

  load_apart : (w : WalkState) (addr : Addr) (loading : Loading) (reply : ℕ) → w.step ≡ Meets addr → w.key.0 ≡ key_in request → w.head.0 ≡ head_in seen → IsOnWay home log w.key.0 (begin_of w) addr.0 → 0 < addr.0 → LoadKnows log addr loading
      → IsTrueOfLoad log loading reply → Shows (begin_of w) → HasComeTo log (begin_of w) w.first addr.0 → Apart (load_ledto p w addr (load_next_ask p loading reply))
  unfolding load_ledto load_ask load_next load_next_ask
  load_apart w addr (load.LoadsHeader its) reply at its_key head way some knows says shows come = subst (λ (s : Walking). WalkApart home log request seen w s) (sym at) (shows, come)
  load_apart w addr (load.LoadsKey its header) reply at its_key head way some knows says shows come =
      met_apart w addr header reply its_key head way some knows.1 (says knows.1.cell (ap (λ (a : Addr). log.cells a.0) knows.0 ∙ knows.1.its)) shows come
  load_apart w addr loading reply at its_key head way some knows says shows come = absurd knows

  -- ---- each reply
  row_apart : VersionsFall log.cells C → (w : WalkState) (step : Walking) (reply : ℕ) → w.step ≡ step → IsWalkFor request seen w → WalkRow home log w step → IsTrueOfWalk home log p w step reply
      → (step ≡ Finds → SearchTells log (home (key_in request)) p w.finding reply) → WalkApart home log request seen w step → Goes (walking_next p w step reply)
  unfolding walking_next
  row_apart falls w Finds reply at for row says search apart =
      find_apart falls w reply (find_next_ask p w.finding reply) at (ap (λ (a : Addr). a.0) for.its_head) row apart.0 apart.1 apart.2 refl (search refl)
      (subst (λ (k : Key). EndsAtHead (head_of (log.chains (home k.0))) (find_next_ask p w.finding reply)) for.its_key says)
  row_apart falls w (Meets addr) reply at for row says search apart =
      inr (load_apart (record w { loading = load_next w.loading reply }) addr w.loading reply at (ap (λ (k : Key). k.0) for.its_key) (ap (λ (a : Addr). a.0) for.its_head) row.way row.some row.its_load says apart.0 apart.1)
  row_apart falls w (HasFound addr version) reply at for row says search apart = inr (subst (λ (s : Walking). WalkApart home log request seen w s) (sym at) apart)
  row_apart falls w (Ended its) reply at for row says search apart = inr (subst (λ (s : Walking). WalkApart home log request seen w s) (sym at) apart)
  row_apart falls w LoadsValue reply at for row says search apart = absurd apart

  pub walk_apart : VersionsFall log.cells C → (w : WalkState) (reply : ℕ) → IsWalkFor request seen w → WalkKnows home log w → IsTrueOfWalk home log p w w.step reply
      → (w.step ≡ Finds → SearchTells log (home (key_in request)) p w.finding reply) → Apart w → Goes (walk_next p w reply)
  walk_apart falls w reply for knows says search apart = row_apart falls w w.step reply refl for knows says search apart

-- ---- what a walk has met first
module _ (home : ℕ → ℕ) (log : Log) (request : Request) (seen : Seen) (p : Places) where
  abbrev Its : List ℕ
  Its = log.chains (home (key_in request))

  abbrev Met : WalkState → Type 0
  Met w = MetIn log Its w.first

  either_met : (b : Bool) (one other : WalkState) → Met one → Met other → Met (if b then one else other)
  either_met true one other first second = first
  either_met false one other first second = second

  reached_met : (w : WalkState) (addr : ℕ) → Met w → Met (reached p w addr)
  reached_met w addr met =
      let meets : WalkState = record w { loading = load.LoadsHeader (record { 0 = addr }); step = Meets (record { 0 = addr }) } in
      let near : WalkState = if nat_lt (addr - w.head.0) p.ring then meets else record w { step = Ended walk.Contended } in
      let on : WalkState = if nat_lt addr w.head.0 then record w { step = Ended (walk.OnDisk (record { 0 = addr })) } else near in
      either_met (addr == 0) (record w { step = Ended walk.Nowhere }) on met
      (either_met (nat_lt addr w.head.0) (record w { step = Ended (walk.OnDisk (record { 0 = addr })) }) near met
      (either_met (nat_lt (addr - w.head.0) p.ring) meets (record w { step = Ended walk.Contended }) met met))

  slot_met : (w : WalkState) (its : Found) → Met w → Met (slot_found p w its)
  slot_met w (found.Slot place word) met = reached_met (record w { place = place; entry = word }) (entry_addr word) met
  slot_met w found.NoSlot met = met
  slot_met w found.Full met = met
  slot_met w found.Kept met = met
  slot_met w found.Contended met = met

  find_met : (w : WalkState) (ask : Ask FindAnswer) → Met w → Met (find_ledto p w ask)
  unfolding find_ledto
  find_met w (Done its) met = slot_met (record w { spare = its.spare }) its.found met
  find_met w ask met = met

  first_in : (first : Option Version) (version : Version) (cell : Cell) (at : ℕ) → IsIn at Its → log.cells at ≡ Published cell → version.0 ≡ mark cell.version → MetIn log Its first → MetIn log Its (first_met first version)
  first_in None version cell at is_in its is met = record { at = at; is_in = is_in; met = record { cell = cell; its = its; its_mark = is } }
  first_in (Some was) version cell at is_in its is met = met

  met_met : (w : WalkState) (addr : Addr) (header key : ℕ) → IsIn addr.0 Its → (has : IsHeaderOf (log.cells addr.0) header) → Met w → Met (record_met p w addr (record { 0 = key }) (header_said header))
  met_met w addr header key is_in has met =
      let version : Version = record { 0 = mark has.cell.version } in
      let first : MetIn log Its (first_met w.first version) = first_in w.first version has.cell addr.0 is_in has.its refl met in
      let found : WalkState = record w { first = first_met w.first version; step = HasFound addr version } in
      let on : WalkState = reached p (record w { first = first_met w.first version }) has.cell.previous in
      subst (λ said. Met (record_met p w addr (record { 0 = key }) said)) (sym has.says)
      (either_met (nat_lt has.cell.previous addr.0) (if key == w.key.0 then found else on) (record w { step = Ended walk.Contended })
      (either_met (key == w.key.0) found on first (reached_met (record w { first = first_met w.first version }) has.cell.previous first)) met)

  load_met : (w : WalkState) (addr : Addr) (loading : Loading) (reply : ℕ) → IsIn addr.0 Its → LoadKnows log addr loading → Met w → Met (load_ledto p w addr (load_next_ask p loading reply))
  unfolding load_ledto load_ask load_next load_next_ask
  load_met w addr (load.LoadsHeader its) reply is_in knows met = met
  load_met w addr (load.LoadsKey its header) reply is_in knows met = met_met w addr header reply is_in knows.1 met
  load_met w addr loading reply is_in knows met = absurd knows

  value_met : (w : WalkState) (ask : Ask LoadAnswer) → Met w → Met (value_ledto w ask)
  unfolding value_ledto
  value_met w (Done (loaded.Whole header key value)) met = met
  value_met w (Done other) met = met
  value_met w ask met = met

  step_met : (w : WalkState) (step : Walking) (reply : ℕ) → IsWalkFor request seen w → WalkRow home log w step → Met w → Met (walking_next p w step reply)
  unfolding walking_next
  step_met w Finds reply for row met = find_met (record w { finding = find_next p w.finding reply }) (find_next_ask p w.finding reply) met
  step_met w (Meets addr) reply for row met =
      load_met (record w { loading = load_next w.loading reply }) addr w.loading reply
      (subst (λ (k : ℕ). IsIn addr.0 (log.chains (home k))) (ap (λ (k : Key). k.0) for.its_key) (in_chain addr.0 (log.chains (home w.key.0)) row.way.within row.some)) row.its_load met
  step_met w (HasFound addr version) reply for row met = met
  step_met w (Ended its) reply for row met = met
  step_met w LoadsValue reply for row met = value_met (record w { loading = load_next w.loading reply }) (load_next_ask p w.loading reply) met

  pub walk_met : (w : WalkState) (reply : ℕ) → IsWalkFor request seen w → WalkKnows home log w → Met w → Met (walk_next p w reply)
  walk_met w reply for knows met = step_met w w.step reply for knows met
