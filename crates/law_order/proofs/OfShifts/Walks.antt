-- While a try walks, its walk loads no value.
use Rattle.std.proofs.Common.{◌≡◌, ℕ, ◌-◌, refl, sym, subst, Bool, true, false}
use Rattle.std.specs.Prelude.{◌==◌, ⊤, nat_lt, if◌then◌else◌}
use Rattle.fkv_base.specs.declared.numbers.Addr.{Addr}
use Rattle.fkv_base.specs.declared.numbers.Key.{Key}
use Rattle.fkv_index.specs.declared.finding.FindAnswer.{FindAnswer}
use Rattle.fkv_index.specs.declared.finding.Found.{Found}
use Rattle.fkv_index.specs.declared.finding.Found.TheVariants as found
use Rattle.fkv_index.specs.Finding.{find_next, find_next_ask}
use Rattle.fkv_index.specs.Slots.{entry_addr}
use Rattle.law_commit.specs.Below.fkv_log.LoadAnswer.{LoadAnswer}
use Rattle.law_commit.specs.Below.fkv_log.LoadAnswer.TheVariants as loaded
use Rattle.law_commit.specs.Below.fkv_log.TheLoading.TheVariants as load
use Rattle.law_commit.specs.Below.fkv_log.Loading.{load_next, load_next_ask}
use Rattle.law_commit.specs.Below.fkv_ops.HeaderSaid.{HeaderSaid}
use Rattle.law_commit.specs.Below.fkv_ops.HeaderSaid.TheVariants.{Says, Spoiled}
use Rattle.law_commit.specs.Below.fkv_ops.WalkAnswer.TheVariants as walk
use Rattle.law_commit.specs.Below.fkv_ops.TheWalking.{Walking}
use Rattle.law_commit.specs.Below.fkv_ops.TheWalking.TheVariants.{Ended, Finds, HasFound, LoadsValue, Meets}
use Rattle.law_commit.specs.Below.fkv_ops.HeaderWords.{header_said}
use Rattle.law_commit.specs.Below.fkv_ops.Walking.{WalkState, find_ledto, first_met, load_ledto, reached, record_met, slot_found, walk_next, walking_next}
use Rattle.fkv_plane.specs.declared.asks.Ask.{Ask}
use Rattle.fkv_plane.specs.declared.asks.Ask.TheVariants.{Done}
use Rattle.fkv_plane.specs.declared.places.Places.{Places}

abbrev pub LoadsNone : Walking → Type 0
LoadsNone LoadsValue = ⊥
LoadsNone step = ⊤

either : (b : Bool) (one other : WalkState) → LoadsNone one.step → LoadsNone other.step → LoadsNone (if b then one else other).step
either true one other first second = first
either false one other first second = second

reached_none : (p : Places) (w : WalkState) (addr : ℕ) → LoadsNone (reached p w addr).step
reached_none p w addr =
    let meets : WalkState = record w { loading = load.LoadsHeader (record { 0 = addr }); step = Meets (record { 0 = addr }) } in
    let near : WalkState = if nat_lt (addr - w.head.0) p.ring then meets else record w { step = Ended walk.Contended } in
    let on : WalkState = if nat_lt addr w.head.0 then record w { step = Ended (walk.OnDisk (record { 0 = addr })) } else near in
    either (addr == 0) (record w { step = Ended walk.Nowhere }) on tt
    (either (nat_lt addr w.head.0) (record w { step = Ended (walk.OnDisk (record { 0 = addr })) }) near tt (either (nat_lt (addr - w.head.0) p.ring) meets (record w { step = Ended walk.Contended }) tt tt))

slot_none : (p : Places) (w : WalkState) (its : Found) → LoadsNone (slot_found p w its).step
slot_none p w (found.Slot place word) = reached_none p (record w { place = place; entry = word }) (entry_addr word)
slot_none p w found.NoSlot = tt
slot_none p w found.Full = tt
slot_none p w found.Kept = tt
slot_none p w found.Contended = tt

find_none : (p : Places) (w : WalkState) (ask : Ask FindAnswer) → w.step ≡ Finds → LoadsNone (find_ledto p w ask).step
unfolding find_ledto
find_none p w (Done its) at = slot_none p (record w { spare = its.spare }) its.found
find_none p w ask at = subst LoadsNone (sym at) tt

met_none : (p : Places) (w : WalkState) (addr : Addr) (key : Key) (said : HeaderSaid) → LoadsNone (record_met p w addr key said).step
met_none p w addr key Spoiled = tt
met_none p w addr key (Says previous version) =
    let met : WalkState = record w { first = first_met w.first version } in
    let has : WalkState = record w { first = first_met w.first version; step = HasFound addr version } in
    either (nat_lt previous.0 addr.0) (if key.0 == w.key.0 then has else reached p met previous.0) (record w { step = Ended walk.Contended })
    (either (key.0 == w.key.0) has (reached p met previous.0) tt (reached_none p met previous.0)) tt

load_none : (p : Places) (w : WalkState) (addr : Addr) (ask : Ask LoadAnswer) → w.step ≡ Meets addr → LoadsNone (load_ledto p w addr ask).step
unfolding load_ledto
load_none p w addr (Done (loaded.Met header key)) at = met_none p w addr key (header_said header)
load_none p w addr (Done other) at = tt
load_none p w addr ask at = subst LoadsNone (sym at) tt

step_none : (p : Places) (w : WalkState) (step : Walking) (reply : ℕ) → w.step ≡ step → LoadsNone step → LoadsNone (walking_next p w step reply).step
unfolding walking_next
step_none p w Finds reply at none = find_none p (record w { finding = find_next p w.finding reply }) (find_next_ask p w.finding reply) at
step_none p w (Meets addr) reply at none = load_none p (record w { loading = load_next w.loading reply }) addr (load_next_ask p w.loading reply) at
step_none p w (HasFound addr version) reply at none = subst LoadsNone (sym at) tt
step_none p w (Ended its) reply at none = subst LoadsNone (sym at) tt
step_none p w LoadsValue reply at none = absurd none

-- each reply
pub walk_none : (p : Places) (w : WalkState) (reply : ℕ) → LoadsNone w.step → LoadsNone (walk_next p w reply).step
walk_none p w reply none = step_none p w w.step reply refl none
