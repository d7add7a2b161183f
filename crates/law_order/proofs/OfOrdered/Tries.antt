-- A try of a read isn't turned away, where its search isn't lost and its chain lies within a ring.
use Rattle.std.proofs.Common.{◌≡◌, inl, inr, ℕ, ◌+◌, ◌-◌, ◌<◌, ◌≤◌, ◌∙◌, refl, sym, ap, subst, arith, Bool, true, false, List, [], ◌∷◌, Option, Some, None}
use Rattle.std.specs.Prelude.{◌==◌, ◌&&◌, ⊤, not, nat_lt, if◌then◌else◌}
use Rattle.std.proofs.lemmas.Bool.Decides.{nat_tests}
use Rattle.fkv_base.specs.declared.numbers.Addr.{Addr}
use Rattle.fkv_base.specs.declared.numbers.Version.{Version}
use Rattle.fkv_marks.specs.Marks.{mark}
use Rattle.fkv_index.specs.declared.finding.FindAnswer.{FindAnswer}
use Rattle.fkv_index.specs.declared.finding.Found.{Found}
use Rattle.fkv_index.specs.declared.finding.Found.TheVariants as found
use Rattle.fkv_index.specs.declared.finding.FindStep.{FindStep}
use Rattle.fkv_index.specs.declared.finding.FindStep.TheVariants as find
use Rattle.fkv_index.specs.declared.finding.Finding.{Finding}
use Rattle.fkv_index.specs.Counted.{IsCounted}
use Rattle.fkv_index.specs.Finding.{asks_left, find_ask, find_next, find_next_ask, find_step_ask, step_asks_left}
use Rattle.fkv_index.proofs.Shown.{next_counted}
use Rattle.fkv_index.specs.Slots.{entry_addr}
use Rattle.law_commit.specs.Below.fkv_log.TheLoading.{Loading}
use Rattle.law_commit.specs.Below.fkv_log.TheLoading.TheVariants as load
use Rattle.law_commit.specs.Below.fkv_log.Loading.{load_ask, load_next, load_next_ask}
use Rattle.law_commit.specs.Below.fkv_ops.TryAnswer.{TryAnswer}
use Rattle.law_commit.specs.Below.fkv_ops.TryAnswer.TheVariants as answer
use Rattle.law_commit.specs.Below.fkv_ops.TheTrying.{Trying}
use Rattle.law_commit.specs.Below.fkv_ops.TheTrying.TheVariants as try
use Rattle.law_commit.specs.Below.fkv_ops.WalkAnswer.{WalkAnswer}
use Rattle.law_commit.specs.Below.fkv_ops.WalkAnswer.TheVariants as walk
use Rattle.law_commit.specs.Below.fkv_ops.TheWalking.{Walking}
use Rattle.law_commit.specs.Below.fkv_ops.TheWalking.TheVariants.{Ended, Finds, HasFound, LoadsValue, Meets}
use Rattle.law_commit.specs.Below.fkv_ops.HeaderWords.{header_said}
use Rattle.law_commit.specs.Below.fkv_ops.Requests.{is_chain_end, is_read}
use Rattle.law_commit.specs.Below.fkv_ops.Trying.{TryState, answer_ledto, awaits, ends, has_walked, is_prepare, is_above, must_shift, told_value, try_ask, try_next, trying_ask, trying_next, walk_ledto, walked, is_next_marked, walks}
use Rattle.law_commit.specs.Below.fkv_ops.Values.{value_of}
use Rattle.law_commit.specs.Below.fkv_ops.Walking.{WalkState, find_ledto, first_met, load_ledto, reached, record_met, slot_found, walk_ask, walk_next, walking_ask, walking_next}
use Rattle.fkv_plane.specs.declared.asks.Ask.{Ask}
use Rattle.fkv_plane.specs.declared.asks.Ask.TheVariants.{Done}
use Rattle.fkv_plane.specs.declared.places.Places.{Places}
use Rattle.fkv_plane.specs.Passing.{is_done, passed}
use Rattle.fkv_plane.proofs.Shown.{passed_done}
use Rattle.law_apart.specs.Apart.Rows.{is_lost}
use Rattle.law_commit.specs.Below.law_local.Tries.OnWay.{IsOnWay, IsOrderly}
use Rattle.law_commit.specs.Below.law_local.Tries.Replies.{EndsAtHead, IsTrueOfLoad, IsTrueOfWalk, IsTrueReply, LeadsToHead}
use Rattle.law_commit.specs.Below.law_local.Tries.TryRows.{TryKnows, TryRow}
use Rattle.law_commit.specs.Below.law_local.Tries.WalkRows.{IsHeaderOf, LoadKnows, WalkKnows, WalkRow, begin_of}
use Rattle.law_commit.proofs.Below.law_local.OfTries.OnWay.{goes_on, in_chain}
use Rattle.law_commit.proofs.Below.law_local.OfTries.Tells.{ends_free}
use Rattle.law_commit.proofs.Below.law_local.OfTries.WalkRows.{loads_value}
use Rattle.law_log.specs.Chains.{Cell, Logged, Published, head_of}
use Rattle.law_log.specs.Enabled.{IsLinked, previous_of}
use Rattle.law_log.specs.Ghosts.{Log}
use Rattle.law_log.specs.Trace.{IsIn}
use Rattle.law_order.specs.Ordered.Met.{IsMet}
use Rattle.law_order.proofs.OfShifts.Walks.{LoadsNone}

-- ---- a walk
-- it has met a record, or the end of its chain, or the device
abbrev IsWalkMet : WalkAnswer → Type 0
IsWalkMet (walk.Found addr version) = ⊤
IsWalkMet walk.Nowhere = ⊤
IsWalkMet (walk.OnDisk addr) = ⊤
IsWalkMet its = ⊥

abbrev Tells : Places → WalkState → Type 0
Tells p w = (its : WalkAnswer) → walk_ask p w ≡ Done its → IsWalkMet its

the_walk : (a b : WalkAnswer) → Done a ≡ Done b → a ≡ b
the_walk a b e = cc

clash : {X : Type 0} → true ≡ false → X
clash e = cc

pub not_both : {X : Type 0} (b : Bool) → b ≡ true → b ≡ false → X
not_both true e f = cc
not_both false e f = cc

lt_false : (a b : ℕ) → nat_lt a b ≡ false → b ≤ a
lt_false a b e = grind (arith, nat_tests, e)

some_where : (a : ℕ) → (a == 0) ≡ false → 0 < a
some_where a e = grind (arith, nat_tests, e)

-- what a record of a chain leads to lies below it
linked_low : (cells : ℕ → Logged) (chain : List ℕ) (a : ℕ) (cell : Cell) → IsLinked cells chain → IsIn a chain → cells a ≡ Published cell → cell.previous < a
linked_low cells (b ∷ older) a cell linked (inl here) its =
    let says : Some cell.previous ≡ Some (head_of older) = ap previous_of (sym (ap cells here ∙ its)) ∙ linked.0 in
    let same : cell.previous ≡ head_of older = cc in
    let low = linked.1 in
    omega (arith, same, low, here)
linked_low cells (b ∷ older) a cell linked (inr more) its = linked_low cells older a cell linked.2 more its
linked_low cells [] a cell linked is_in its = absurd is_in

-- a search that goes on asks on
busy_asks : (f : Finding) (step : FindStep) → 0 < step_asks_left f step → is_done (find_step_ask f step) ≡ false
unfolding find_step_ask step_asks_left
busy_asks f find.AtRest left = absurd (omega (arith, left))
busy_asks f (find.LoadsSlot slot) left = refl
busy_asks f find.LoadsLink left = refl
busy_asks f (find.LoadsTaken word) left = refl
busy_asks f (find.TakesBucket word taken) left = refl
busy_asks f (find.LinksBucket word) left = refl

some_left : {A : Type 0} (ask : Ask A) (n : ℕ) → is_done ask ≡ false → IsCounted n ask → 0 < n
some_left (Done its) n e counted = cc
some_left ask n e counted = counted

goes : (p : Places) (f : Finding) (reply : ℕ) → is_done (find_next_ask p f reply) ≡ false → is_done (find_ask (find_next p f reply)) ≡ false
goes p f reply going = busy_asks (find_next p f reply) (find_next p f reply).step (some_left (find_next_ask p f reply) (asks_left (find_next p f reply)) going (next_counted p f reply))

module _ (home : ℕ → ℕ) (log : Log) (p : Places) (orderly : IsOrderly home log) where
  abbrev InRing : WalkState → Type 0
  InRing w = (a : ℕ) → IsIn a (log.chains (home w.key.0)) → a < w.head.0 + p.ring

  ended : (w : WalkState) (it : WalkAnswer) → IsWalkMet it → Tells p (record w { step = Ended it })
  unfolding walking_ask
  ended w it met = λ its e. subst IsWalkMet (the_walk it its e) met

  has_found : (w : WalkState) (addr : Addr) (version : Version) → Tells p (record w { step = HasFound addr version })
  unfolding walking_ask
  has_found w addr version = λ its e. subst IsWalkMet (the_walk (walk.Found addr version) its e) tt

  meets : (w : WalkState) (addr : Addr) → w.step ≡ Meets addr → is_done (load_ask p w.loading) ≡ false → Tells p w
  unfolding walking_ask
  meets w addr at going = λ its e.
      let done : is_done (passed (load_ask p w.loading) walk.Contended) ≡ true = ap is_done (ap (walking_ask p w) (sym at) ∙ e) in
      clash (sym done ∙ (passed_done (load_ask p w.loading) walk.Contended ∙ going))

  header_asks : (addr : Addr) → is_done (load_ask p (load.LoadsHeader addr)) ≡ false
  unfolding load_ask
  header_asks addr = refl

  key_asks : (addr : Addr) (header : ℕ) → is_done (load_ask p (load.LoadsKey addr header)) ≡ false
  unfolding load_ask
  key_asks addr header = refl

  finds : (w : WalkState) → w.step ≡ Finds → is_done (find_ask w.finding) ≡ false → Tells p w
  unfolding walking_ask
  finds w at going = λ its e.
      let done : is_done (passed (find_ask w.finding) walk.Contended) ≡ true = ap is_done (ap (walking_ask p w) (sym at) ∙ e) in
      clash (sym done ∙ (passed_done (find_ask w.finding) walk.Contended ∙ going))

  reached_tells : (w : WalkState) (addr : ℕ) → InRing w → (0 < addr → IsIn addr (log.chains (home w.key.0))) → Tells p (reached p w addr)
  reached_tells w addr in_ring there = by_zero (addr == 0) refl
    where
      on : WalkState
      on = record w { loading = load.LoadsHeader (record { 0 = addr }); step = Meets (record { 0 = addr }) }

      by_ring : (b : Bool) → nat_lt (addr - w.head.0) p.ring ≡ b → w.head.0 ≤ addr → 0 < addr → Tells p (if b then on else record w { step = Ended walk.Contended })
      by_ring true e high some = meets on (record { 0 = addr }) refl (header_asks (record { 0 = addr }))
      by_ring false e high some =
          let far = lt_false (addr - w.head.0) p.ring e in
          let near = in_ring addr (there some) in
          absurd (omega (arith, far, near, high))

      by_head : (b : Bool) → nat_lt addr w.head.0 ≡ b → 0 < addr → Tells p (if b then record w { step = Ended (walk.OnDisk (record { 0 = addr })) } else if nat_lt (addr - w.head.0) p.ring then on else record w { step = Ended walk.Contended })
      by_head true e some = ended w (walk.OnDisk (record { 0 = addr })) tt
      by_head false e some = by_ring (nat_lt (addr - w.head.0) p.ring) refl (lt_false addr w.head.0 e) some

      by_zero : (b : Bool) → (addr == 0) ≡ b
          → Tells p (if b then record w { step = Ended walk.Nowhere } else if nat_lt addr w.head.0 then record w { step = Ended (walk.OnDisk (record { 0 = addr })) } else if nat_lt (addr - w.head.0) p.ring then on else record w { step = Ended walk.Contended })
      by_zero true e = ended w walk.Nowhere tt
      by_zero false e = by_head (nat_lt addr w.head.0) refl (some_where addr e)

  slot_tells : (w : WalkState) (its : Found) → InRing w → LeadsToHead (head_of (log.chains (home w.key.0))) its → (is_lost its ≡ true → ⊥) → Tells p (slot_found p w its)
  slot_tells w (found.Slot place word) in_ring leads lost = reached_tells (record w { place = place; entry = word }) (entry_addr word) in_ring (λ some. at_head (log.chains (home w.key.0)) (entry_addr word) leads some)
    where
      at_head : (chain : List ℕ) (a : ℕ) → a ≡ head_of chain → 0 < a → IsIn a chain
      at_head (x ∷ older) a e some = inl (sym e)
      at_head [] a e some = absurd (omega (arith, e, some))
  slot_tells w found.NoSlot in_ring leads lost = ended w walk.Nowhere tt
  slot_tells w found.Full in_ring leads lost = absurd (lost refl)
  slot_tells w found.Kept in_ring leads lost = absurd (lost refl)
  slot_tells w found.Contended in_ring leads lost = absurd (lost refl)

  find_tells : (w : WalkState) (ask : Ask FindAnswer) → w.step ≡ Finds → InRing w → EndsAtHead (head_of (log.chains (home w.key.0))) ask → ((its : FindAnswer) → ask ≡ Done its → is_lost its.found ≡ true → ⊥)
      → (is_done ask ≡ false → is_done (find_ask w.finding) ≡ false) → Tells p (find_ledto p w ask)
  unfolding find_ledto
  find_tells w (Done its) at in_ring leads lost on = slot_tells (record w { spare = its.spare }) its.found in_ring leads (lost its refl)
  find_tells w ask at in_ring leads lost on = finds w at (on refl)

  met_tells : (w : WalkState) (addr : Addr) (header key : ℕ) → InRing w → IsOnWay home log w.key.0 (begin_of w) addr.0 → 0 < addr.0 → (has : IsHeaderOf (log.cells addr.0) header) → key ≡ has.cell.key
      → Tells p (record_met p w addr (record { 0 = key }) (header_said header))
  met_tells w addr header key in_ring way some has key_is = subst (λ said. Tells p (record_met p w addr (record { 0 = key }) said)) (sym has.says) (by_previous (nat_lt has.cell.previous addr.0) refl)
    where
      version : Version
      version = record { 0 = mark has.cell.version }

      met : WalkState
      met = record w { first = first_met w.first version }

      by_key : (b : Bool) → (key == w.key.0) ≡ b → Tells p (if b then record w { first = first_met w.first version; step = HasFound addr version } else reached p met has.cell.previous)
      by_key true e = has_found met addr version
      by_key false e =
          let on = goes_on home log w.key.0 (begin_of w) addr.0 has.cell orderly.chains way some has.its (λ same. not_both (key == w.key.0) (let it : (key == w.key.0) ≡ true = (let is = key_is ∙ same in grind (arith, nat_tests, is)) in it) e) in
          reached_tells met has.cell.previous in_ring (λ positive. in_chain has.cell.previous (log.chains (home w.key.0)) on.within positive)

      by_previous : (b : Bool) → nat_lt has.cell.previous addr.0 ≡ b
          → Tells p (if b then (if key == w.key.0 then record w { first = first_met w.first version; step = HasFound addr version } else reached p met has.cell.previous) else record w { step = Ended walk.Contended })
      by_previous true e = by_key (key == w.key.0) refl
      by_previous false e =
          let low = linked_low log.cells (log.chains (home w.key.0)) addr.0 has.cell (orderly.chains.linked (home w.key.0)) (in_chain addr.0 (log.chains (home w.key.0)) way.within some) has.its in
          let high = lt_false has.cell.previous addr.0 e in
          absurd (omega (arith, low, high))

  load_tells : (w : WalkState) (addr : Addr) (loading : Loading) (reply : ℕ) → w.step ≡ Meets addr → w.loading ≡ load_next loading reply → InRing w → IsOnWay home log w.key.0 (begin_of w) addr.0 → 0 < addr.0 → LoadKnows log addr loading
      → IsTrueOfLoad log loading reply → Tells p (load_ledto p w addr (load_next_ask p loading reply))
  unfolding load_ledto load_ask load_next load_next_ask
  load_tells w addr (load.LoadsHeader its) reply at is in_ring way some knows says = meets w addr at (ap (λ (l : Loading). is_done (load_ask p l)) is ∙ key_asks its reply)
  load_tells w addr (load.LoadsKey its header) reply at is in_ring way some knows says = met_tells w addr header reply in_ring way some knows.1 (says knows.1.cell (ap (λ (a : Addr). log.cells a.0) knows.0 ∙ knows.1.its))
  load_tells w addr loading reply at is in_ring way some knows says = absurd knows

  row_tells : (w : WalkState) (step : Walking) (reply : ℕ) → w.step ≡ step → InRing w → WalkRow home log w step → IsTrueOfWalk home log p w step reply → LoadsNone step → is_done (walking_ask p w step) ≡ false
      → (step ≡ Finds → (its : FindAnswer) → find_next_ask p w.finding reply ≡ Done its → is_lost its.found ≡ true → ⊥) → Tells p (walking_next p w step reply)
  unfolding walking_next walking_ask
  row_tells w Finds reply at in_ring row says none going lost = find_tells (record w { finding = find_next p w.finding reply }) (find_next_ask p w.finding reply) at in_ring says (lost refl) (goes p w.finding reply)
  row_tells w (Meets addr) reply at in_ring row says none going lost = load_tells (record w { loading = load_next w.loading reply }) addr w.loading reply at refl in_ring row.way row.some row.its_load says
  row_tells w (HasFound addr version) reply at in_ring row says none going lost = clash going
  row_tells w (Ended its) reply at in_ring row says none going lost = clash going
  row_tells w LoadsValue reply at in_ring row says none going lost = absurd none

  walk_tells : (w : WalkState) (reply : ℕ) → InRing w → WalkKnows home log w → IsTrueOfWalk home log p w w.step reply → LoadsNone w.step → is_done (walk_ask p w) ≡ false
      → (w.step ≡ Finds → (its : FindAnswer) → find_next_ask p w.finding reply ≡ Done its → is_lost its.found ≡ true → ⊥) → Tells p (walk_next p w reply)
  walk_tells w reply in_ring knows says none going lost = row_tells w w.step reply refl in_ring knows says none going lost

-- ---- a try
abbrev EndsMet : TryState → Type 0
EndsMet t = (its : TryAnswer) → t.step ≡ try.Ended its → IsMet its

the_end : (a b : TryAnswer) → try.Ended a ≡ try.Ended b → a ≡ b
the_end a b e = cc

at_end : (t : TryState) (its : TryAnswer) → IsMet its → EndsMet (record t { step = try.Ended its })
at_end t its met = λ told e. subst IsMet (the_end its told e) met

module _ (p : Places) where
  end_met : (t : TryState) (its : TryAnswer) → is_read t.request.op ≡ true → t.has_shared ≡ false → t.has_exclusive ≡ false → IsMet its → EndsMet (ends p t its)
  end_met t its reads shared alone met = subst EndsMet (sym (ends_free p t its reads shared alone)) (at_end t its met)

  either_met : (b : Bool) (one other : TryState) → b ≡ true → EndsMet one → EndsMet (if b then one else other)
  either_met true one other e met = met
  either_met false one other e met = cc

  both_met : (b : Bool) (one other : TryState) → EndsMet one → EndsMet other → EndsMet (if b then one else other)
  both_met true one other first second = first
  both_met false one other first second = second

  walked_met : (t : TryState) (its : WalkAnswer) → is_read t.request.op ≡ true → t.has_shared ≡ false → t.has_exclusive ≡ false → IsWalkMet its → EndsMet (walked p t its)
  walked_met t (walk.Found addr version) reads shared alone met = either_met (is_read t.request.op) _ _ reads (λ its e. cc)
  walked_met t walk.Nowhere reads shared alone met = either_met (is_read t.request.op) _ _ reads (end_met t answer.Absent reads shared alone tt)
  walked_met t (walk.OnDisk addr) reads shared alone met =
      let end : Bool = is_chain_end t.request.floor addr in
      either_met (is_read t.request.op) (if end then ends p t answer.Absent else awaits p t addr) _ reads
      (both_met end (ends p t answer.Absent) (awaits p t addr) (end_met t answer.Absent reads shared alone tt) (end_met t (answer.AwaitsDisk (record { entry = t.walk.entry; addr = addr })) reads shared alone tt))
  walked_met t its reads shared alone met = absurd met

  -- a read doesn't shift
  never_shifts : (has prepare read marked above : Bool) → read ≡ true → (has && (prepare && not read && not marked && above)) ≡ false
  never_shifts true true true marked above e = refl
  never_shifts true false read marked above e = refl
  never_shifts false prepare read marked above e = refl
  never_shifts true true false marked above e = cc

  led_met : (t : TryState) (ask : Ask WalkAnswer) → t.step ≡ try.Walks → is_read t.request.op ≡ true → t.has_shared ≡ false → t.has_exclusive ≡ false → ((its : WalkAnswer) → ask ≡ Done its → IsWalkMet its) → EndsMet (walk_ledto p t ask)
  unfolding walk_ledto
  led_met t (Done its) at reads shared alone met = by_shift (has_walked its && must_shift (record t { spare = t.walk.spare })) refl
    where
      by_shift : (b : Bool) → (has_walked its && must_shift (record t { spare = t.walk.spare })) ≡ b → EndsMet (if b then ends p (record t { spare = t.walk.spare }) answer.Shift else walked p (record t { spare = t.walk.spare }) its)
      by_shift true e = clash (sym e ∙ never_shifts (has_walked its) (is_prepare t.seen.phase) (is_read t.request.op) (is_next_marked t.request.version) (is_above t.walk.first t.request.version) reads)
      by_shift false e = walked_met (record t { spare = t.walk.spare }) its reads shared alone (met its refl)
  led_met t ask at reads shared alone met = λ its e. (let over : try.Walks ≡ try.Ended its = sym at ∙ e in cc)

  told_met : (t : TryState) (its : Option ℕ) → is_read t.request.op ≡ true → t.has_shared ≡ false → t.has_exclusive ≡ false → EndsMet (ends p t (told_value its))
  told_met t None reads shared alone = end_met t answer.Absent reads shared alone tt
  told_met t (Some value) reads shared alone = end_met t (answer.Found (record { 0 = value })) reads shared alone tt

  answer_met : (t : TryState) (value : ℕ) → is_read t.request.op ≡ true → t.has_shared ≡ false → t.has_exclusive ≡ false → EndsMet (answer_ledto p t (Done (walk.Value value)))
  unfolding answer_ledto
  answer_met t value reads shared alone = told_met t (value_of value) reads shared alone

  -- what its walk is told, while it walks
  pub record WalksOn (home : ℕ → ℕ) (log : Log) (t : TryState) (reply : ℕ) : Type 0 where
    pub in_ring : (a : ℕ) → IsIn a (log.chains (home t.walk.key.0)) → a < t.walk.head.0 + p.ring
    pub none : LoadsNone t.walk.step
    pub found : t.walk.step ≡ Finds → (its : FindAnswer) → find_next_ask p t.walk.finding reply ≡ Done its → is_lost its.found ≡ true → ⊥

  row_met : (home : ℕ → ℕ) (log : Log) (room : ℕ) (t : TryState) (step : Trying) (reply : ℕ) → IsOrderly home log → t.step ≡ step → is_read t.request.op ≡ true → t.has_shared ≡ false → t.has_exclusive ≡ false → TryRow home log t step
      → IsTrueReply home log p t step reply → is_done (trying_ask p t step) ≡ false → (step ≡ try.Walks → WalksOn home log t reply) → EndsMet (trying_next p room (record t { effect = None }) step reply)
  unfolding trying_next trying_ask
  row_met home log room t (try.Ended its) reply orderly at reads shared alone row says going walks = clash going
  row_met home log room t try.Walks reply orderly at reads shared alone row says going walks =
      let so = walks refl in
      led_met (record t { effect = None; walk = walk_next p t.walk reply }) (walk_ask p (walk_next p t.walk reply)) at reads shared alone
      (walk_tells home log p orderly t.walk reply so.in_ring row.1 says so.none (sym (passed_done (walk_ask p t.walk) answer.Shift) ∙ going) so.found)
  row_met home log room t try.LoadsAnswer reply orderly at reads shared alone row says going walks =
      subst (λ ask. EndsMet (answer_ledto p (record t { effect = None; walk = walk_next p t.walk reply }) ask)) (sym (loads_value p t.walk row.addr reply row.its.loads))
      (answer_met (record t { effect = None; walk = walk_next p t.walk reply }) reply reads shared alone)
  row_met home log room t try.TakesShared reply orderly at reads shared alone row says going walks = not_both (is_read t.request.op) reads row
  row_met home log room t try.LoadsPhase reply orderly at reads shared alone row says going walks = not_both (is_read t.request.op) reads row
  row_met home log room t try.CountsTaken reply orderly at reads shared alone row says going walks = not_both (is_read t.request.op) reads row.0
  row_met home log room t (try.LoadsSafe addr version) reply orderly at reads shared alone row says going walks = not_both (is_read t.request.op) reads row.0
  row_met home log room t (try.SwapsValue addr) reply orderly at reads shared alone row says going walks = not_both (is_read t.request.op) reads row.0
  row_met home log room t (try.LoadsCurrent addr) reply orderly at reads shared alone row says going walks = not_both (is_read t.request.op) reads row.0
  row_met home log room t (try.ChangesValue addr old) reply orderly at reads shared alone row says going walks = not_both (is_read t.request.op) reads row.0
  row_met home log room t (try.TakesExclusive old) reply orderly at reads shared alone row says going walks = not_both (is_read t.request.op) reads row.0
  row_met home log room t try.LoadsOld reply orderly at reads shared alone row says going walks = not_both (is_read t.request.op) reads row.0
  row_met home log room t (try.Appends its) reply orderly at reads shared alone row says going walks = not_both (is_read t.request.op) reads row.0
  row_met home log room t (try.LoadsTail waiting) reply orderly at reads shared alone row says going walks = not_both (is_read t.request.op) reads row.0
  row_met home log room t (try.LoadsTaken waiting) reply orderly at reads shared alone row says going walks = not_both (is_read t.request.op) reads row.0
  row_met home log room t (try.DropsExclusive its) reply orderly at reads shared alone row says going walks = not_both (is_read t.request.op) reads row.0
  row_met home log room t (try.DropsShared its) reply orderly at reads shared alone row says going walks = not_both (is_read t.request.op) reads row.0

  pub try_met : (home : ℕ → ℕ) (log : Log) (room : ℕ) (t : TryState) (reply : ℕ) → IsOrderly home log → is_read t.request.op ≡ true → TryKnows home log t → IsTrueReply home log p t t.step reply → is_done (try_ask p t) ≡ false
      → (t.step ≡ try.Walks → WalksOn home log t reply) → EndsMet (try_next p room t reply)
  try_met home log room t reply orderly reads knows says going walks = row_met home log room t t.step reply orderly refl reads (knows.free reads).0 (knows.free reads).1 knows.row says going walks
