-- A walk asks just where it has asks left, and each reply leaves fewer.
use Rattle.std.proofs.Common.{◌≡◌, ℕ, ◌+◌, ◌-◌, ◌*◌, ◌<◌, ◌≤◌, refl, arith, Bool, true, false}
use Rattle.std.specs.Prelude.{◌==◌, nat_lt, if◌then◌else◌}
use Rattle.std.proofs.lemmas.Bool.Decides.{nat_tests}
use Rattle.fkv_base.specs.declared.numbers.Addr.{Addr}
use Rattle.fkv_base.specs.declared.numbers.Key.{Key}
use Rattle.fkv_plane.specs.declared.asks.Ask.{Ask}
use Rattle.fkv_plane.specs.declared.asks.Ask.TheVariants.{Done}
use Rattle.fkv_plane.specs.declared.places.Places.{Places}
use Rattle.fkv_log.specs.declared.loading.LoadAnswer.{LoadAnswer}
use Rattle.fkv_log.specs.declared.loading.LoadAnswer.TheVariants as load
use Rattle.fkv_log.specs.declared.loading.Loading.{Loading}
use Rattle.fkv_log.specs.declared.loading.Loading.TheVariants as loading
use Rattle.fkv_log.specs.Loading.{load_next, load_next_ask, load_on, load_asks_left}
use Rattle.fkv_log.proofs.Shown.{load_left, load_fewer}
use Rattle.fkv_index.specs.declared.homes.Home.{Home}
use Rattle.fkv_index.specs.declared.finding.Purpose.{Purpose}
use Rattle.fkv_index.specs.declared.finding.Purpose.TheVariants as purpose
use Rattle.fkv_index.specs.declared.finding.Found.{Found}
use Rattle.fkv_index.specs.declared.finding.Found.TheVariants as found
use Rattle.fkv_index.specs.declared.finding.FindAnswer.{FindAnswer}
use Rattle.fkv_index.specs.Slots.{entry_addr}
use Rattle.fkv_index.specs.Finding.{first_finding, find_ask, find_next, find_next_ask, step_asks_left, asks_left}
use Rattle.fkv_index.proofs.Shown.{find_counted, next_fewer}
use Rattle.fkv_ops.specs.declared.header_words.HeaderSaid.{HeaderSaid}
use Rattle.fkv_ops.specs.declared.header_words.HeaderSaid.TheVariants.{Says, Spoiled}
use Rattle.fkv_ops.specs.declared.walking.WalkAnswer.{WalkAnswer}
use Rattle.fkv_ops.specs.declared.walking.WalkAnswer.TheVariants as answer
use Rattle.fkv_ops.specs.declared.walking.Walking.{Walking}
use Rattle.fkv_ops.specs.declared.walking.Walking.TheVariants.{Ended, Finds, Meets, HasFound, LoadsValue}
use Rattle.fkv_ops.specs.HeaderWords.{header_said}
use Rattle.fkv_ops.specs.Walking.{WalkState, walk_begun, walk_ended, walking_ask, walk_ask, reached, slot_found, find_ledto, first_met, record_met, load_ledto, value_ledto, walking_next, walk_next, walking_on, walk_on}
use Rattle.fkv_plane.specs.AsksLeft.{AsksWhereLeft, sum_left}
use Rattle.fkv_ops.specs.AsksLeft.{walking_asks_left, walk_asks_left, most_walk_asks}
use Rattle.fkv_plane.proofs.Shown.{none, done_left, some_inside, passed_left, passed_alone, sum_most, inside_fewer, behind_fewer}
use Rattle.fkv_ops.proofs.AsksLeft.{counted_left}

pub walking_left : (p : Places) (w : WalkState) (step : Walking) → AsksWhereLeft (walking_asks_left p w step) (walking_ask p w step)
unfolding walking_ask walking_asks_left
walking_left p w (Ended its) = done_left its
walking_left p w Finds = passed_left (asks_left w.finding) (2 * p.ring) (find_ask w.finding) answer.Contended (counted_left (asks_left w.finding) (find_ask w.finding) (find_counted w.finding w.finding.step))
walking_left p w (Meets addr) = passed_left (load_asks_left w.loading) (2 * (addr.0 - w.head.0)) _ answer.Contended (load_left p w.loading)
walking_left p w (HasFound addr version) = done_left (answer.Found addr version)
walking_left p w LoadsValue = passed_alone (load_asks_left w.loading) _ answer.Contended (load_left p w.loading)

-- it asks just where it has asks left
pub walk_left : (p : Places) (w : WalkState) → AsksWhereLeft (walk_asks_left p w) (walk_ask p w)
walk_left p w = walking_left p w w.step

-- a search has eight asks for each bucket, and those of a link
find_begun_left : (p : Places) (home : Home) (purpose : Purpose) (spare : ℕ) → asks_left (first_finding p home purpose spare) ≤ 8 * (p.overflow + 1) + 3
unfolding step_asks_left
find_begun_left p home purpose.Read spare = omega arith
find_begun_left p home purpose.Update spare = omega arith
find_begun_left p home (purpose.UpdateWithin bound) spare = omega arith

pub walk_begun_left : (p : Places) (home : Home) (key : Key) (purpose : Purpose) (head : Addr) (spare : ℕ) → walk_asks_left p (walk_begun p home key purpose head spare) ≤ most_walk_asks p
unfolding walking_asks_left
walk_begun_left p home key purpose head spare =
    let few = find_begun_left p home purpose spare in
    let both = sum_most (asks_left (first_finding p home purpose spare)) (2 * p.ring) in
    omega (arith, few, both)

-- at an address of the chain, where what its records take is within a bound
reached_left : (p : Places) (w : WalkState) (addr most : ℕ) → (w.head.0 ≤ addr → addr - w.head.0 < p.ring → 2 + 2 * (addr - w.head.0) ≤ most) → walk_asks_left p (reached p w addr) ≤ most
unfolding walking_asks_left sum_left load_asks_left
reached_left p w addr most within = tested (addr == 0) (nat_lt addr w.head.0) (nat_lt (addr - w.head.0) p.ring) refl refl
  where
    tested : (zero below near : Bool) → nat_lt addr w.head.0 ≡ below → nat_lt (addr - w.head.0) p.ring ≡ near
        → walk_asks_left p (if zero then walk_ended w answer.Nowhere
        else if below then walk_ended w (answer.OnDisk (record { 0 = addr }))
        else if near then record w { loading = loading.LoadsHeader (record { 0 = addr }); step = Meets (record { 0 = addr }) }
        else walk_ended w answer.Contended) ≤ most
    tested true below near eb en = omega arith
    tested false true near eb en = omega arith
    tested false false false eb en = omega arith
    tested false false true eb en =
        let above : w.head.0 ≤ addr = grind (arith, nat_tests, eb) in
        let less : addr - w.head.0 < p.ring = grind (arith, nat_tests, en) in
        within above less

slot_found_left : (p : Places) (w : WalkState) (its : Found) → walk_asks_left p (slot_found p w its) ≤ 2 * p.ring
unfolding walking_asks_left
slot_found_left p w (found.Slot place word) = reached_left p (record w { place = place; entry = word }) (entry_addr word) (2 * p.ring) (λ above less. omega (arith, less))
slot_found_left p w found.NoSlot = omega arith
slot_found_left p w found.Full = omega arith
slot_found_left p w found.Kept = omega arith
slot_found_left p w found.Contended = omega arith

record_met_left : (p : Places) (w : WalkState) (addr : Addr) (key : Key) (said : HeaderSaid) → walk_asks_left p (record_met p w addr key said) ≤ 2 * (addr.0 - w.head.0)
unfolding walking_asks_left
record_met_left p w addr key Spoiled = omega arith
record_met_left p w addr key (Says previous version) = tested (nat_lt previous.0 addr.0) (key.0 == w.key.0) refl
  where
    tested : (below same : Bool) → nat_lt previous.0 addr.0 ≡ below
        → walk_asks_left p (if below then (if same then record w { first = first_met w.first version; step = HasFound addr version } else reached p (record w { first = first_met w.first version }) previous.0) else walk_ended w answer.Contended) ≤ 2 * (addr.0 - w.head.0)
    tested false same e = omega arith
    tested true true e = omega arith
    tested true false e =
        let less : previous.0 < addr.0 = grind (arith, nat_tests, e) in
        reached_left p (record w { first = first_met w.first version }) previous.0 (2 * (addr.0 - w.head.0)) (λ above near. omega (arith, less, above))

find_led_fewer : (p : Places) (w : WalkState) (old : ℕ) (ask : Ask FindAnswer) → w.step ≡ Finds → asks_left w.finding < old → walk_asks_left p (find_ledto p w ask) < sum_left old (2 * p.ring)
unfolding find_ledto walking_asks_left
find_led_fewer p w old (Done its) at fewer = behind_fewer _ old (2 * p.ring) (omega (arith, fewer)) (slot_found_left p (record w { spare = its.spare }) its.found)
find_led_fewer p w old ask at fewer = rw at (inside_fewer (asks_left w.finding) old (2 * p.ring) fewer)

load_led_fewer : (p : Places) (w : WalkState) (addr : Addr) (old : ℕ) (ask : Ask LoadAnswer) → w.step ≡ Meets addr → load_asks_left w.loading < old
    → walk_asks_left p (load_ledto p w addr ask) < sum_left old (2 * (addr.0 - w.head.0))
unfolding load_ledto walking_asks_left
load_led_fewer p w addr old (Done (load.Met header key)) at fewer = behind_fewer _ old (2 * (addr.0 - w.head.0)) (omega (arith, fewer)) (record_met_left p w addr key (header_said header))
load_led_fewer p w addr old (Done other) at fewer = behind_fewer 0 old (2 * (addr.0 - w.head.0)) (omega (arith, fewer)) (omega arith)
load_led_fewer p w addr old ask at fewer = rw at (inside_fewer (load_asks_left w.loading) old (2 * (addr.0 - w.head.0)) fewer)

value_led_fewer : (p : Places) (w : WalkState) (old : ℕ) (ask : Ask LoadAnswer) → w.step ≡ LoadsValue → load_asks_left w.loading < old → walk_asks_left p (value_ledto w ask) < old
unfolding value_ledto walking_asks_left
value_led_fewer p w old (Done (load.Whole header key value)) at fewer = omega (arith, fewer)
value_led_fewer p w old (Done other) at fewer = omega (arith, fewer)
value_led_fewer p w old ask at fewer = rw at fewer

walking_fewer : (p : Places) (w : WalkState) (step : Walking) (reply : ℕ) → w.step ≡ step → 0 < walking_asks_left p w step → walk_asks_left p (walking_next p w step reply) < walking_asks_left p w step
unfolding walking_next walking_asks_left
walking_fewer p w (Ended its) reply at some = none some
walking_fewer p w Finds reply at some =
    let inside = some_inside (asks_left w.finding) (2 * p.ring) some in
    find_led_fewer p (record w { finding = find_next p w.finding reply }) (asks_left w.finding) (find_next_ask p w.finding reply) at (next_fewer p w.finding reply inside)
walking_fewer p w (Meets addr) reply at some =
    let inside = some_inside (load_asks_left w.loading) (2 * (addr.0 - w.head.0)) some in
    let fewer = load_fewer w.loading reply in
    load_led_fewer p (record w { loading = load_next w.loading reply }) addr (load_asks_left w.loading) (load_next_ask p w.loading reply) at (omega (arith, inside, fewer))
walking_fewer p w (HasFound addr version) reply at some = none some
walking_fewer p w LoadsValue reply at some =
    let fewer = load_fewer w.loading reply in
    value_led_fewer p (record w { loading = load_next w.loading reply }) (load_asks_left w.loading) (load_next_ask p w.loading reply) at (omega (arith, some, fewer))

-- each reply leaves fewer
pub walk_fewer : (p : Places) (w : WalkState) (reply : ℕ) → 0 < walk_asks_left p w → walk_asks_left p (walk_next p w reply) < walk_asks_left p w
walk_fewer p w reply some = walking_fewer p w w.step reply refl some

load_few : (step : Loading) → load_asks_left step ≤ 2
unfolding load_asks_left
load_few loading.AtRest = omega arith
load_few (loading.LoadsHeader addr) = omega arith
load_few (loading.LoadsKey addr header) = omega arith
load_few (loading.HasKey addr header key) = omega arith
load_few (loading.LoadsValue addr header key) = omega arith

walking_on_left : (p : Places) (w : WalkState) (step : Walking) → walk_asks_left p (walking_on w step) ≤ walk_asks_left p w + 2
unfolding walking_on walking_asks_left
walking_on_left p w (HasFound addr version) = let few = load_few (load_on w.loading) in omega (arith, few)
walking_on_left p w step = omega arith

-- it goes on to the value by two asks at most, whatever the load had come to
pub walk_on_left : (p : Places) (w : WalkState) → walk_asks_left p (walk_on w) ≤ walk_asks_left p w + 2
walk_on_left p w = walking_on_left p w w.step

-- what it asks, wherever that is given
pub asked_left : (p : Places) (w : WalkState) (ask : Ask WalkAnswer) → ask ≡ walk_ask p w → AsksWhereLeft (walk_asks_left p w) ask
asked_left p w ask e = rw e (walk_left p w)
