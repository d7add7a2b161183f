-- What a walk knows stays as the log grows, and each true reply leads it on.
use Rattle.std.proofs.Common.{◌≡◌, ℕ, ◌-◌, ◌<◌, ◌≤◌, refl, sym, ap, ◌∙◌, subst, Bool, true, false}
use Rattle.std.specs.Prelude.{◌==◌, nat_lt, if◌then◌else◌}
use Rattle.fkv_base.specs.declared.numbers.Addr.{Addr}
use Rattle.fkv_base.specs.declared.numbers.Version.{Version}
use Rattle.fkv_marks.specs.Marks.{mark}
use Rattle.fkv_map.specs.Map.{Map}
use Rattle.fkv_plane.specs.declared.asks.Ask.{Ask}
use Rattle.fkv_plane.specs.declared.asks.Ask.TheVariants.{Done}
use Rattle.fkv_plane.specs.declared.places.Places.{Places}
use Rattle.fkv_plane.specs.Passing.{passed}
use Rattle.fkv_log.specs.declared.loading.Loading.{Loading}
use Rattle.fkv_log.specs.declared.loading.Loading.TheVariants as load
use Rattle.fkv_log.specs.Loading.{load_ask, load_next, load_next_ask, load_on}
use Rattle.fkv_index.specs.declared.finding.Found.{Found}
use Rattle.fkv_index.specs.declared.finding.Found.TheVariants as found
use Rattle.fkv_index.specs.declared.finding.FindAnswer.{FindAnswer}
use Rattle.fkv_index.specs.Slots.{entry_addr}
use Rattle.fkv_index.specs.Finding.{find_ask, find_next, find_next_ask}
use Rattle.law_log.specs.Chains.{head_of}
use Rattle.law_log.specs.Ghosts.{Log}
use Rattle.law_log.specs.Enabled.{AreChains, IsOfHome}
use Rattle.law_log.proofs.Shown.{Held, Grows}
use Rattle.fkv_ops.specs.declared.walking.WalkAnswer.{WalkAnswer}
use Rattle.fkv_ops.specs.declared.walking.WalkAnswer.TheVariants as walk
use Rattle.fkv_ops.specs.declared.walking.Walking.{Walking}
use Rattle.fkv_ops.specs.declared.walking.Walking.TheVariants.{Ended, Finds, Meets, HasFound, LoadsValue}
use Rattle.fkv_ops.specs.HeaderWords.{header_said}
use Rattle.fkv_ops.specs.Walking.{WalkState, walking_ask, walk_ask, reached, slot_found, find_ledto, first_met, record_met, load_ledto, value_ledto, walking_next, walk_next, walking_on, walk_on}
use Rattle.law_local.specs.Tries.OnWay.{IsOnWay, FindsNone}
use Rattle.law_local.specs.Tries.Replies.{LeadsToHead, EndsAtHead, IsTrueOfLoad, IsTrueOfWalk}
use Rattle.law_local.specs.Tries.WalkRows.{begin_of, IsHeaderOf, LoadKnows, FoundKnows, LoadsFrom, EndKnows, WalkRow, WalkKnows, WalkTells}
use Rattle.law_local.proofs.OfTries.Tests.{lt_true, lt_false, eq_true, eq_false, some_where}
use Rattle.law_local.proofs.OfTries.OnWay.{in_chain, from_start, none_at_end, none_from_none, goes_on, is_found, way_grows, below_grows, none_grows, found_grows}

-- ---- as the log grows
pub header_grows : (home : ℕ → ℕ) (m : Map) (log log' : Log) (at word : ℕ) → Grows home m log log' → IsHeaderOf (log.cells at) word → IsHeaderOf (log'.cells at) word
header_grows home m log log' at word grows has =
    let stays = grows.published at has.cell has.its in
    record { cell = record has.cell { value = stays.value }; its = stays.still; says = has.says }

load_grows : (home : ℕ → ℕ) (m : Map) (log log' : Log) (addr : Addr) (loading : Loading) → Grows home m log log' → LoadKnows log addr loading → LoadKnows log' addr loading
load_grows home m log log' addr (load.LoadsHeader its) grows knows = knows
load_grows home m log log' addr (load.LoadsKey its header) grows knows = (knows.0, header_grows home m log log' addr.0 header grows knows.1)
load_grows home m log log' addr loading grows knows = absurd knows

pub found_knows_grows : (home : ℕ → ℕ) (m : Map) (log log' : Log) (w : WalkState) (addr : Addr) (version : Version) → Held home m log → Grows home m log log' → FoundKnows home log w addr version → FoundKnows home log' w addr version
found_knows_grows home m log log' w addr version held grows knows = record {
  version = knows.version;
  found = found_grows home m log log' w.key.0 (begin_of w) addr.0 knows.version held grows knows.found;
  its_mark = knows.its_mark;
  in_memory = knows.in_memory;
  header = knows.header;
  key = knows.key;
  its_loading = knows.its_loading;
}

pub end_grows : (home : ℕ → ℕ) (m : Map) (log log' : Log) (w : WalkState) (its : WalkAnswer) → Held home m log → Grows home m log log' → EndKnows home log w its → EndKnows home log' w its
end_grows home m log log' w (walk.Found addr version) held grows knows = absurd knows
end_grows home m log log' w walk.Nowhere held grows knows = none_grows home m log log' w.key.0 (begin_of w) held grows knows
end_grows home m log log' w (walk.OnDisk addr) held grows knows = below_grows home m log log' w.key.0 (begin_of w) addr.0 w.head.0 held grows knows
end_grows home m log log' w (walk.Value word) held grows knows = tt
end_grows home m log log' w walk.Full held grows knows = tt
end_grows home m log log' w walk.Kept held grows knows = tt
end_grows home m log log' w walk.Contended held grows knows = tt

walk_row_grows : (home : ℕ → ℕ) (m : Map) (log log' : Log) (w : WalkState) (step : Walking) → Held home m log → Grows home m log log' → WalkRow home log w step → WalkRow home log' w step
walk_row_grows home m log log' w (Ended its) held grows row = end_grows home m log log' w its held grows row
walk_row_grows home m log log' w Finds held grows row = row
walk_row_grows home m log log' w (Meets addr) held grows row = record {
  way = way_grows home m log log' w.key.0 (begin_of w) addr.0 held grows row.way;
  some = row.some;
  in_memory = row.in_memory;
  its_load = load_grows home m log log' addr w.loading grows row.its_load;
}
walk_row_grows home m log log' w (HasFound addr version) held grows row = found_knows_grows home m log log' w addr version held grows row
walk_row_grows home m log log' w LoadsValue held grows row = record {
  addr = row.addr;
  version = row.version;
  found = found_grows home m log log' w.key.0 (begin_of w) row.addr.0 row.version held grows row.found;
  in_memory = row.in_memory;
  header = row.header;
  key = row.key;
  its_loading = row.its_loading;
}

pub walk_grows : (home : ℕ → ℕ) (m : Map) (log log' : Log) (w : WalkState) → Held home m log → Grows home m log log' → WalkKnows home log w → WalkKnows home log' w
walk_grows home m log log' w held grows knows = walk_row_grows home m log log' w w.step held grows knows

-- ---- a true reply leads on
reached_knows : (home : ℕ → ℕ) (log : Log) (p : Places) (w : WalkState) (addr : ℕ) → AreChains home log → IsOnWay home log w.key.0 (begin_of w) addr → WalkKnows home log (reached p w addr)
reached_knows home log p w addr chains way = by_zero (addr == 0) refl
  where
    by_ring : (b : Bool) → nat_lt (addr - w.head.0) p.ring ≡ b → w.head.0 ≤ addr → 0 < addr
        → WalkKnows home log (if b then record w { loading = load.LoadsHeader (record { 0 = addr }); step = Meets (record { 0 = addr }) } else record w { step = Ended walk.Contended })
    by_ring true e high some = record { way = way; some = some; in_memory = high; its_load = refl }
    by_ring false e high some = tt

    by_head : (b : Bool) → nat_lt addr w.head.0 ≡ b → 0 < addr
        → WalkKnows home log (if b then record w { step = Ended (walk.OnDisk (record { 0 = addr })) } else if nat_lt (addr - w.head.0) p.ring then record w { loading = load.LoadsHeader (record { 0 = addr }); step = Meets (record { 0 = addr }) } else record w { step = Ended walk.Contended })
    by_head true e some = record { way = way; some = some; below = lt_true addr w.head.0 e }
    by_head false e some = by_ring (nat_lt (addr - w.head.0) p.ring) refl (lt_false addr w.head.0 e) some

    by_zero : (b : Bool) → (addr == 0) ≡ b
        → WalkKnows home log (if b then record w { step = Ended walk.Nowhere } else if nat_lt addr w.head.0 then record w { step = Ended (walk.OnDisk (record { 0 = addr })) } else if nat_lt (addr - w.head.0) p.ring then record w { loading = load.LoadsHeader (record { 0 = addr }); step = Meets (record { 0 = addr }) } else record w { step = Ended walk.Contended })
    by_zero true e = none_at_end home log w.key.0 (begin_of w) chains (subst (IsOnWay home log w.key.0 (begin_of w)) (eq_true addr 0 e) way)
    by_zero false e = by_head (nat_lt addr w.head.0) refl (some_where addr e)

slot_knows : (home : ℕ → ℕ) (log : Log) (p : Places) (w : WalkState) (its : Found) → AreChains home log → w.entry ≡ 0 → LeadsToHead (head_of (log.chains (home w.key.0))) its → WalkKnows home log (slot_found p w its)
slot_knows home log p w (found.Slot place word) chains none leads = reached_knows home log p (record w { place = place; entry = word }) (entry_addr word) chains (from_start home log w.key.0 (entry_addr word) leads)
slot_knows home log p w found.NoSlot chains none leads = subst (λ n. FindsNone home log w.key.0 (entry_addr n)) (sym none) (none_from_none home log w.key.0 chains)
slot_knows home log p w found.Full chains none leads = tt
slot_knows home log p w found.Kept chains none leads = tt
slot_knows home log p w found.Contended chains none leads = tt

find_knows : (home : ℕ → ℕ) (log : Log) (p : Places) (w : WalkState) (ask : Ask FindAnswer) → AreChains home log → w.step ≡ Finds → w.entry ≡ 0 → EndsAtHead (head_of (log.chains (home w.key.0))) ask → WalkKnows home log (find_ledto p w ask)
unfolding find_ledto
find_knows home log p w (Done its) chains at none ends = slot_knows home log p (record w { spare = its.spare }) its.found chains none ends
find_knows home log p w ask chains at none ends = subst (WalkRow home log w) (sym at) none

record_knows : (home : ℕ → ℕ) (log : Log) (p : Places) (w : WalkState) (addr : Addr) (header key : ℕ) → AreChains home log → IsOnWay home log w.key.0 (begin_of w) addr.0 → 0 < addr.0 → w.head.0 ≤ addr.0 → (has : IsHeaderOf (log.cells addr.0) header) → key ≡ has.cell.key
    → w.loading ≡ load.HasKey addr header key → WalkKnows home log (record_met p w addr (record { 0 = key }) (header_said header))
record_knows home log p w addr header key chains way some in_memory has its_key loading = subst (λ said. WalkKnows home log (record_met p w addr (record { 0 = key }) said)) (sym has.says) (by_previous (nat_lt has.cell.previous addr.0))
  where
    version : Version
    version = record { 0 = mark has.cell.version }

    by_key : (b : Bool) → (key == w.key.0) ≡ b
        → WalkKnows home log (if b then record w { first = first_met w.first version; step = HasFound addr version } else reached p (record w { first = first_met w.first version }) has.cell.previous)
    by_key true e = record {
      version = has.cell.version;
      its_mark = refl;
      found = is_found home log w.key.0 (begin_of w) addr.0 has.cell chains way some has.its (sym its_key ∙ eq_true key w.key.0 e);
      in_memory = in_memory;
      header = header;
      key = key;
      its_loading = loading;
    }
    by_key false e = reached_knows home log p (record w { first = first_met w.first version }) has.cell.previous chains (goes_on home log w.key.0 (begin_of w) addr.0 has.cell chains way some has.its (λ same. eq_false key w.key.0 e (its_key ∙ same)))

    by_previous : (b : Bool)
        → WalkKnows home log (if b then (if key == w.key.0 then record w { first = first_met w.first version; step = HasFound addr version } else reached p (record w { first = first_met w.first version }) has.cell.previous) else record w { step = Ended walk.Contended })
    by_previous true = by_key (key == w.key.0) refl
    by_previous false = tt

-- a record of the chain is published
pub published_there : (home : ℕ → ℕ) (log : Log) (key from at : ℕ) → AreChains home log → IsOnWay home log key from at → 0 < at → IsOfHome home (home key) (log.cells at)
published_there home log key from at chains way some = chains.in_chain (home key) at (in_chain at (log.chains (home key)) way.within some)

load_knows : (home : ℕ → ℕ) (log : Log) (p : Places) (w : WalkState) (addr : Addr) (loading : Loading) (reply : ℕ) → AreChains home log → w.loading ≡ load_next loading reply → w.step ≡ Meets addr → IsOnWay home log w.key.0 (begin_of w) addr.0 → 0 < addr.0
    → w.head.0 ≤ addr.0 → LoadKnows log addr loading → IsTrueOfLoad log loading reply → WalkKnows home log (load_ledto p w addr (load_next_ask p loading reply))
unfolding load_ledto load_ask load_next load_next_ask
load_knows home log p w addr (load.LoadsHeader its) reply chains next at way some in_memory knows says =
    let there = published_there home log w.key.0 (begin_of w) addr.0 chains way some in
    subst (WalkRow home log w) (sym at) (record {
      way = way;
      some = some;
      in_memory = in_memory;
      its_load = subst (LoadKnows log addr) (sym next) (knows, record { cell = there.cell; its = there.its; says = says there.cell (ap (λ (a : Addr). log.cells a.0) knows ∙ there.its) });
    })
load_knows home log p w addr (load.LoadsKey its header) reply chains next at way some in_memory knows says =
    record_knows home log p w addr header reply chains way some in_memory knows.1 (says knows.1.cell (ap (λ (a : Addr). log.cells a.0) knows.0 ∙ knows.1.its)) (next ∙ ap (λ a. load.HasKey a header reply) knows.0)
load_knows home log p w addr loading reply chains next at way some in_memory knows says = absurd knows

value_knows : (home : ℕ → ℕ) (log : Log) (p : Places) (w : WalkState) (addr : Addr) (header key reply : ℕ) (loading : Loading) → loading ≡ load.LoadsValue addr header key → WalkKnows home log (value_ledto (record w { loading = load_next loading reply }) (load_next_ask p loading reply))
unfolding value_ledto load_next_ask
value_knows home log p w addr header key reply loading e = subst (λ l. WalkKnows home log (value_ledto (record w { loading = load_next l reply }) (load_next_ask p l reply))) (sym e) tt

walk_row_leads : (home : ℕ → ℕ) (log : Log) (p : Places) (w : WalkState) (step : Walking) (reply : ℕ) → AreChains home log → w.step ≡ step → WalkRow home log w step → IsTrueOfWalk home log p w step reply → WalkKnows home log (walking_next p w step reply)
unfolding walking_next
walk_row_leads home log p w (Ended its) reply chains at row says = subst (WalkRow home log w) (sym at) row
walk_row_leads home log p w Finds reply chains at row says = find_knows home log p (record w { finding = find_next p w.finding reply }) (find_next_ask p w.finding reply) chains at row says
walk_row_leads home log p w (Meets addr) reply chains at row says = load_knows home log p (record w { loading = load_next w.loading reply }) addr w.loading reply chains refl at row.way row.some row.in_memory row.its_load says
walk_row_leads home log p w (HasFound addr version) reply chains at row says = subst (WalkRow home log w) (sym at) row
walk_row_leads home log p w LoadsValue reply chains at row says = value_knows home log p w row.addr row.header row.key reply w.loading row.its_loading

pub walk_leads : (home : ℕ → ℕ) (log : Log) (p : Places) (w : WalkState) (reply : ℕ) → AreChains home log → WalkKnows home log w → IsTrueOfWalk home log p w w.step reply → WalkKnows home log (walk_next p w reply)
walk_leads home log p w reply chains knows says = walk_row_leads home log p w w.step reply chains refl knows says

-- ---- where it has come to
passed_answer : {A B : Type 0} (ask : Ask A) (a b : B) → passed ask a ≡ Done b → b ≡ a
unfolding passed
passed_answer (Done its) a b e = cc
passed_answer ask a b e = cc

end_tells : (home : ℕ → ℕ) (log : Log) (w : WalkState) (its : WalkAnswer) → EndKnows home log w its → WalkTells home log w its
end_tells home log w (walk.Found addr version) knows = absurd knows
end_tells home log w its knows = knows

contended_tells : (home : ℕ → ℕ) (log : Log) (w : WalkState) (its : WalkAnswer) → its ≡ walk.Contended → WalkTells home log w its
contended_tells home log w its e = subst (WalkTells home log w) (sym e) tt

the_answer : (a b : WalkAnswer) → Done a ≡ Done b → a ≡ b
the_answer a b e = cc

row_tells : (home : ℕ → ℕ) (log : Log) (p : Places) (w : WalkState) (step : Walking) (its : WalkAnswer) → w.step ≡ step → WalkRow home log w step → walking_ask p w step ≡ Done its → WalkTells home log w its
unfolding walking_ask
row_tells home log p w (Ended it) its at row e = subst (WalkTells home log w) (the_answer it its e) (end_tells home log w it row)
row_tells home log p w Finds its at row e = contended_tells home log w its (passed_answer (find_ask w.finding) walk.Contended its e)
row_tells home log p w (Meets addr) its at row e = contended_tells home log w its (passed_answer (load_ask p w.loading) walk.Contended its e)
row_tells home log p w (HasFound addr version) its at row e = subst (WalkTells home log w) (the_answer (walk.Found addr version) its e) (at, row)
row_tells home log p w LoadsValue its at row e = contended_tells home log w its (passed_answer (load_ask p w.loading) walk.Contended its e)

pub walk_tells : (home : ℕ → ℕ) (log : Log) (p : Places) (w : WalkState) (its : WalkAnswer) → WalkKnows home log w → walk_ask p w ≡ Done its → WalkTells home log w its
walk_tells home log p w its knows e = row_tells home log p w w.step its refl knows e

-- ---- where the value of the record is wanted
pub loads_on : (home : ℕ → ℕ) (log : Log) (w : WalkState) (addr : Addr) (version : Version) → w.step ≡ HasFound addr version → FoundKnows home log w addr version → LoadsFrom (walk_on w) addr
unfolding walking_on load_on
loads_on home log w addr version at knows = by_step w.step at
  where
    its_load : load_on w.loading ≡ load.LoadsValue addr knows.header knows.key
    its_load = rw (knows.its_loading, load_on) refl

    by_step : (step : Walking) → step ≡ HasFound addr version → LoadsFrom (walking_on w step) addr
    by_step (HasFound a v) e = record { header = knows.header; key = knows.key; its_step = refl; its_loading = its_load }
    by_step (Ended its) e = cc
    by_step Finds e = cc
    by_step (Meets a) e = cc
    by_step LoadsValue e = cc

-- the walk goes by the same entry
pub same_on : (w : WalkState) → (walk_on w).entry ≡ w.entry
unfolding walking_on
same_on w = by_step w.step
  where
    by_step : (step : Walking) → (walking_on w step).entry ≡ w.entry
    by_step (Ended its) = refl
    by_step Finds = refl
    by_step (Meets addr) = refl
    by_step (HasFound addr version) = refl
    by_step LoadsValue = refl

pub loads_value : (p : Places) (w : WalkState) (addr : Addr) (reply : ℕ) → LoadsFrom w addr → walk_ask p (walk_next p w reply) ≡ Done (walk.Value reply)
unfolding walking_ask walking_next load_next load_next_ask value_ledto
loads_value p w addr reply loads = rw (loads.its_step, walking_next, loads.its_loading, load_next_ask, load_next, value_ledto) refl

pub loads_same : (p : Places) (w : WalkState) (addr : Addr) (reply : ℕ) → LoadsFrom w addr → (walk_next p w reply).entry ≡ w.entry
unfolding walking_next load_next load_next_ask value_ledto
loads_same p w addr reply loads = rw (loads.its_step, walking_next, loads.its_loading, load_next_ask, load_next, value_ledto) refl
