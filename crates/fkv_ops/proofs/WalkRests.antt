-- A walk that has begun is at its end, or has found the record, or asks; and where it has found the record it can go on to the value.
use Rattle.std.proofs.Common.{◌≡◌, ℕ, ◌-◌, ◌*◌, ◌<◌, refl, sym, ◌∙◌, ap, arith, Bool, true, false}
use Rattle.std.specs.Prelude.{◌==◌, nat_lt, if◌then◌else◌}
use Rattle.fkv_base.specs.declared.numbers.Addr.{Addr}
use Rattle.fkv_base.specs.declared.numbers.Version.{Version}
use Rattle.fkv_base.specs.declared.numbers.Key.{Key}
use Rattle.fkv_plane.specs.declared.asks.Ask.{Ask}
use Rattle.fkv_plane.specs.declared.asks.Ask.TheVariants.{Done}
use Rattle.fkv_plane.specs.declared.places.Places.{Places}
use Rattle.fkv_plane.specs.Passing.{is_done}
use Rattle.fkv_log.specs.declared.loading.LoadAnswer.{LoadAnswer}
use Rattle.fkv_log.specs.declared.loading.LoadAnswer.TheVariants as load
use Rattle.fkv_log.specs.declared.loading.Loading.{Loading}
use Rattle.fkv_log.specs.declared.loading.Loading.TheVariants as loading
use Rattle.fkv_log.specs.Loading.{load_ask, load_next, load_next_ask, load_on, load_asks_left}
use Rattle.fkv_index.specs.declared.homes.Home.{Home}
use Rattle.fkv_index.specs.declared.finding.Purpose.{Purpose}
use Rattle.fkv_index.specs.declared.finding.Found.{Found}
use Rattle.fkv_index.specs.declared.finding.Found.TheVariants as found
use Rattle.fkv_index.specs.declared.finding.FindAnswer.{FindAnswer}
use Rattle.fkv_index.specs.Slots.{entry_addr}
use Rattle.fkv_index.specs.Finding.{find_next, find_next_ask, step_asks_left, asks_left}
use Rattle.fkv_index.proofs.Shown.{next_counted}
use Rattle.fkv_ops.specs.declared.header_words.HeaderSaid.{HeaderSaid}
use Rattle.fkv_ops.specs.declared.header_words.HeaderSaid.TheVariants.{Says, Spoiled}
use Rattle.fkv_ops.specs.declared.walking.WalkAnswer.{WalkAnswer}
use Rattle.fkv_ops.specs.declared.walking.WalkAnswer.TheVariants as answer
use Rattle.fkv_ops.specs.declared.walking.Walking.{Walking}
use Rattle.fkv_ops.specs.declared.walking.Walking.TheVariants.{Ended, Finds, Meets, HasFound, LoadsValue}
use Rattle.fkv_ops.specs.HeaderWords.{header_said}
use Rattle.fkv_ops.specs.Walking.{WalkState, walk_begun, walk_ended, walking_ask, walk_ask, reached, slot_found, find_ledto, first_met, record_met, load_ledto, value_ledto, walking_next, walk_next, walking_on, walk_on}
use Rattle.fkv_plane.specs.AsksLeft.{AsksWhereLeft}
use Rattle.fkv_ops.specs.AsksLeft.{walking_asks_left}
use Rattle.fkv_plane.proofs.Shown.{never, some_sum}
use Rattle.fkv_ops.proofs.AsksLeft.{counted_left}
use Rattle.fkv_ops.proofs.WalkAsks.{walking_left}

abbrev pub is_walk_end : Walking → Bool
is_walk_end (Ended its) = true
is_walk_end (HasFound addr version) = true
is_walk_end step = false

abbrev pub is_found : WalkAnswer → Bool
is_found (answer.Found addr version) = true
is_found its = false

-- the machine inside that is driven has asks left; and where the record is found, it has them as soon as its value is wanted
abbrev pub WalkAsksAt : WalkState → Walking → Type 0
WalkAsksAt w (Ended its) = is_found its ≡ false
WalkAsksAt w Finds = 0 < asks_left w.finding
WalkAsksAt w (Meets addr) = 0 < load_asks_left w.loading
WalkAsksAt w (HasFound addr version) = 0 < load_asks_left (load_on w.loading)
WalkAsksAt w LoadsValue = 0 < load_asks_left w.loading

abbrev pub WalkRestsOrAsks : WalkState → Type 0
WalkRestsOrAsks w = WalkAsksAt w w.step

pub record IsWalkUnderWay (w : WalkState) : Type 0 where
  pub asks : WalkRestsOrAsks w
  pub goes_on : is_walk_end w.step ≡ false

walking_done : (p : Places) (w : WalkState) (step : Walking) → WalkAsksAt w step → is_done (walking_ask p w step) ≡ is_walk_end step
unfolding walking_ask walking_asks_left
walking_done p w (Ended its) at = refl
walking_done p w Finds at = (walking_left p w Finds).1 (some_sum (asks_left w.finding) (2 * p.ring) at)
walking_done p w (Meets addr) at = (walking_left p w (Meets addr)).1 (some_sum (load_asks_left w.loading) (2 * (addr.0 - w.head.0)) at)
walking_done p w (HasFound addr version) at = refl
walking_done p w LoadsValue at = (walking_left p w LoadsValue).1 at

-- it is at an end exactly where it has ended or found the record
pub walk_done : (p : Places) (w : WalkState) → WalkRestsOrAsks w → is_done (walk_ask p w) ≡ is_walk_end w.step
walk_done p w at = walking_done p w w.step at

-- as it begins it asks
pub walk_begun_under_way : (p : Places) (home : Home) (key : Key) (purpose : Purpose) (head : Addr) (spare : ℕ) → IsWalkUnderWay (walk_begun p home key purpose head spare)
unfolding step_asks_left
walk_begun_under_way p home key purpose head spare = record { asks = omega arith; goes_on = refl }

pub walk_begun_asks : (p : Places) (home : Home) (key : Key) (purpose : Purpose) (head : Addr) (spare : ℕ) → is_done (walk_ask p (walk_begun p home key purpose head spare)) ≡ false
walk_begun_asks p home key purpose head spare = walk_done p (walk_begun p home key purpose head spare) (walk_begun_under_way p home key purpose head spare).asks

reached_rests : (p : Places) (w : WalkState) (addr : ℕ) → WalkRestsOrAsks (reached p w addr)
unfolding load_asks_left
reached_rests p w addr = tested (addr == 0) (nat_lt addr w.head.0) (nat_lt (addr - w.head.0) p.ring)
  where
    tested : (zero below near : Bool)
        → WalkRestsOrAsks (if zero then walk_ended w answer.Nowhere
        else if below then walk_ended w (answer.OnDisk (record { 0 = addr }))
        else if near then record w { loading = loading.LoadsHeader (record { 0 = addr }); step = Meets (record { 0 = addr }) }
        else walk_ended w answer.Contended)
    tested true below near = refl
    tested false true near = refl
    tested false false true = omega arith
    tested false false false = refl

slot_found_rests : (p : Places) (w : WalkState) (its : Found) → WalkRestsOrAsks (slot_found p w its)
slot_found_rests p w (found.Slot place word) = reached_rests p (record w { place = place; entry = word }) (entry_addr word)
slot_found_rests p w found.NoSlot = refl
slot_found_rests p w found.Full = refl
slot_found_rests p w found.Kept = refl
slot_found_rests p w found.Contended = refl

record_met_rests : (p : Places) (w : WalkState) (addr : Addr) (key : Key) (said : HeaderSaid) → 0 < load_asks_left (load_on w.loading) → WalkRestsOrAsks (record_met p w addr key said)
record_met_rests p w addr key Spoiled value = refl
record_met_rests p w addr key (Says previous version) value = tested (nat_lt previous.0 addr.0) (key.0 == w.key.0)
  where
    tested : (below same : Bool)
        → WalkRestsOrAsks (if below then (if same then record w { first = first_met w.first version; step = HasFound addr version } else reached p (record w { first = first_met w.first version }) previous.0) else walk_ended w answer.Contended)
    tested false same = refl
    tested true true = value
    tested true false = reached_rests p (record w { first = first_met w.first version }) previous.0

find_led_rests : (p : Places) (w : WalkState) (ask : Ask FindAnswer) → w.step ≡ Finds → AsksWhereLeft (asks_left w.finding) ask → WalkRestsOrAsks (find_ledto p w ask)
unfolding find_ledto
find_led_rests p w (Done its) at left = slot_found_rests p (record w { spare = its.spare }) its.found
find_led_rests p w ask at left = rw at (left.0 refl)

-- what the load of a record has left by what it asks next
load_next_some : (p : Places) (step : Loading) (reply : ℕ) → is_done (load_next_ask p step reply) ≡ false → 0 < load_asks_left (load_next step reply)
unfolding load_ask load_next load_next_ask load_asks_left
load_next_some p loading.AtRest reply asks = never asks
load_next_some p (loading.LoadsHeader addr) reply asks = omega arith
load_next_some p (loading.LoadsKey addr header) reply asks = never asks
load_next_some p (loading.HasKey addr header key) reply asks = never asks
load_next_some p (loading.LoadsValue addr header key) reply asks = never asks

load_met_some : (p : Places) (step : Loading) (reply header key : ℕ) → load_next_ask p step reply ≡ Done (load.Met header (record { 0 = key })) → 0 < load_asks_left (load_on (load_next step reply))
unfolding load_ask load_next load_next_ask load_on load_asks_left
load_met_some p loading.AtRest reply header key e = cc
load_met_some p (loading.LoadsHeader addr) reply header key e = cc
load_met_some p (loading.LoadsKey addr its) reply header key e = omega arith
load_met_some p (loading.HasKey addr its it) reply header key e = omega arith
load_met_some p (loading.LoadsValue addr its it) reply header key e = cc

load_led_rests : (p : Places) (w : WalkState) (addr : Addr) (ask : Ask LoadAnswer) → w.step ≡ Meets addr → (is_done ask ≡ false → 0 < load_asks_left w.loading)
    → ((header key : ℕ) → ask ≡ Done (load.Met header (record { 0 = key })) → 0 < load_asks_left (load_on w.loading)) → WalkRestsOrAsks (load_ledto p w addr ask)
unfolding load_ledto
load_led_rests p w addr (Done (load.Met header key)) at some met = record_met_rests p w addr key (header_said header) (met header key.0 refl)
load_led_rests p w addr (Done other) at some met = refl
load_led_rests p w addr ask at some met = rw at (some refl)

value_led_rests : (w : WalkState) (ask : Ask LoadAnswer) → w.step ≡ LoadsValue → (is_done ask ≡ false → 0 < load_asks_left w.loading) → WalkRestsOrAsks (value_ledto w ask)
unfolding value_ledto
value_led_rests w (Done (load.Whole header key value)) at some = refl
value_led_rests w (Done other) at some = refl
value_led_rests w ask at some = rw at (some refl)

walking_rests : (p : Places) (w : WalkState) (step : Walking) (reply : ℕ) → w.step ≡ step → WalkAsksAt w step → WalkRestsOrAsks (walking_next p w step reply)
unfolding walking_next
walking_rests p w (Ended its) reply at its_asks = rw at its_asks
walking_rests p w Finds reply at its_asks =
    find_led_rests p (record w { finding = find_next p w.finding reply }) (find_next_ask p w.finding reply) at (counted_left (asks_left (find_next p w.finding reply)) (find_next_ask p w.finding reply) (next_counted p w.finding reply))
walking_rests p w (Meets addr) reply at its_asks =
    load_led_rests p (record w { loading = load_next w.loading reply }) addr (load_next_ask p w.loading reply) at (load_next_some p w.loading reply) (load_met_some p w.loading reply)
walking_rests p w (HasFound addr version) reply at its_asks = rw at its_asks
walking_rests p w LoadsValue reply at its_asks = value_led_rests (record w { loading = load_next w.loading reply }) (load_next_ask p w.loading reply) at (load_next_some p w.loading reply)

-- it stays so behind each reply, and where it goes on to the value
pub walk_rests : (p : Places) (w : WalkState) (reply : ℕ) → WalkRestsOrAsks w → WalkRestsOrAsks (walk_next p w reply)
walk_rests p w reply its_asks = walking_rests p w w.step reply refl its_asks

walking_on_rests : (w : WalkState) (step : Walking) → w.step ≡ step → WalkAsksAt w step → WalkRestsOrAsks (walking_on w step)
unfolding walking_on
walking_on_rests w (Ended its) at its_asks = rw at its_asks
walking_on_rests w Finds at its_asks = rw at its_asks
walking_on_rests w (Meets addr) at its_asks = rw at its_asks
walking_on_rests w (HasFound addr version) at its_asks = its_asks
walking_on_rests w LoadsValue at its_asks = rw at its_asks

pub walk_on_rests : (w : WalkState) → WalkRestsOrAsks w → WalkRestsOrAsks (walk_on w)
walk_on_rests w its_asks = walking_on_rests w w.step refl its_asks

walking_found : (p : Places) (w : WalkState) (step : Walking) (addr : Addr) (version : Version) → WalkAsksAt w step → walking_ask p w step ≡ Done (answer.Found addr version) → is_walk_end (walking_on w step).step ≡ false
unfolding walking_ask walking_on walking_asks_left
walking_found p w (Ended its) addr version its_asks e = cc
walking_found p w Finds addr version its_asks e = never (sym (ap is_done e) ∙ walking_done p w Finds its_asks)
walking_found p w (Meets it) addr version its_asks e = never (sym (ap is_done e) ∙ walking_done p w (Meets it) its_asks)
walking_found p w (HasFound it its) addr version its_asks e = refl
walking_found p w LoadsValue addr version its_asks e = never (sym (ap is_done e) ∙ walking_done p w LoadsValue its_asks)

-- where it has answered that it has found the record, it can go on to the value
pub walk_found : (p : Places) (w : WalkState) (addr : Addr) (version : Version) → WalkRestsOrAsks w → walk_ask p w ≡ Done (answer.Found addr version) → IsWalkUnderWay (walk_on w)
walk_found p w addr version its_asks e = record { asks = walk_on_rests w its_asks; goes_on = walking_found p w w.step addr version its_asks e }

-- and behind a reply it is under way while it asks
pub walk_goes_on : (p : Places) (w : WalkState) → WalkRestsOrAsks w → is_done (walk_ask p w) ≡ false → IsWalkUnderWay w
walk_goes_on p w its_asks asks = record { asks = its_asks; goes_on = sym (walk_done p w its_asks) ∙ asks }
