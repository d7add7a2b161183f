-- What lies below all that is written is as it was opened.
use Rattle.std.proofs.Common.{◌≡◌, ℕ, ◌+◌, ◌<◌, ◌≤◌, ◌∙◌, refl, sym, ap, subst, arith, Bool, true, false, List, [], ◌∷◌, ◌++◌, length}
use Rattle.std.specs.Prelude.{⊤, not, ◌&&◌}
use Rattle.fkv_base.specs.declared.shapes.Shape.{Shape}
use Rattle.fkv_disk.specs.Bytes.{byte_at, bytes_at, covers}
use Rattle.fkv_disk.specs.Calls.{Call, MayLeave, Sync, Write, is_sure, is_untouched, reads_as}
use Rattle.fkv_disk.proofs.Shown.{before_range, reads_out, sure_out}
use Rattle.law_commit.specs.Below.fkv_flush.TheFlushing.{Flushing}
use Rattle.law_commit.specs.Below.fkv_flush.TheFlushing.TheVariants.{WritesPart, Syncs}
use Rattle.law_commit.specs.Below.fkv_flush.Flushing.{flush_calls}
use Rattle.law_commit.specs.Below.fkv_keeper.KeeperTold.{KeeperTold}
use Rattle.law_commit.specs.Below.fkv_keeper.KeeperTold.TheVariants.{Device}
use Rattle.law_commit.specs.Below.fkv_keeper.Keeping.{keeper_ask}
use Rattle.law_commit.specs.Below.fkv_keeper.KeeperAsks.{keeper_calls}
use Rattle.law_commit.specs.Below.fkv_maintain.TheMaintaining.{Maintaining}
use Rattle.law_commit.specs.Below.fkv_maintain.TheMaintaining.TheVariants.{Flushes}
use Rattle.law_commit.specs.Below.fkv_maintain.Maintaining.{MaintainState, maintaining_calls}
use Rattle.fkv_plane.specs.declared.asks.Ask.{Ask}
use Rattle.fkv_plane.specs.declared.asks.Ask.TheVariants.{Done}
use Rattle.fkv_record.specs.Places.{record_place}
use Rattle.law_commit.specs.Below.fkv_world.Past.{calls_after}
use Rattle.law_commit.specs.Below.fkv_world.Runs.{World, happens, read_by_keeper, run}
use Rattle.law_commit.specs.Below.fkv_world.World.{Event, Calls, Moves, Commits, Turns, KeeperMoves, Crashes, Now, life_goes}
use Rattle.law_commit.proofs.Below.fkv_world.Shown.{added_calls, calls_added, is_over, lived}
use Rattle.law_order.proofs.OfImages.Reaching.{synced_longer}
use Rattle.law_order.proofs.OfImages.Ranges.{range_same}

-- ---- each write begins at or above an offset
abbrev pub AreAbove : ℕ → List Call → Type 0
AreAbove base [] = ⊤
AreAbove base (Write at bytes done ∷ before) = (base ≤ at) × AreAbove base before
AreAbove base (Sync done ∷ before) = AreAbove base before

both_above : (base : ℕ) (later before : List Call) → AreAbove base later → AreAbove base before → AreAbove base (later ++ before)
both_above base [] before one other = other
both_above base (Write at bytes done ∷ later) before one other = (one.0, both_above base later before one.1 other)
both_above base (Sync done ∷ later) before one other = both_above base later before one other

untouched_below : (base : ℕ) (calls : List Call) (i : ℕ) → AreAbove base calls → i < base → is_untouched calls i ≡ true
untouched_below base [] i above low = refl
untouched_below base (Write at bytes done ∷ before) i above low =
    let start = above.0 in
    let out : covers at (length bytes) i ≡ false = before_range at (length bytes) i (omega (arith, start, low)) in
    ap (λ (c : Bool). not c && is_untouched before i) out ∙ untouched_below base before i above.1 low
untouched_below base (Sync true ∷ before) i above low = refl
untouched_below base (Sync false ∷ before) i above low = untouched_below base before i above low

sure_below : (base : ℕ) (calls : List Call) (i : ℕ) → AreAbove base calls → i < base → is_sure calls i ≡ true
sure_below base [] i above low = refl
sure_below base (Write at bytes done ∷ before) i above low =
    let start = above.0 in
    sure_out at bytes done before i (before_range at (length bytes) i (omega (arith, start, low))) ∙ sure_below base before i above.1 low
sure_below base (Sync done ∷ before) i above low = sure_below base before i above low

reads_below : (opened : List ℕ) (base : ℕ) (calls : List Call) (i : ℕ) → AreAbove base calls → i < base → byte_at (reads_as opened calls) i ≡ byte_at opened i
reads_below opened base [] i above low = refl
reads_below opened base (Write at bytes done ∷ before) i above low =
    let start = above.0 in
    reads_out opened at bytes done before i (before_range at (length bytes) i (omega (arith, start, low))) ∙ reads_below opened base before i above.1 low
reads_below opened base (Sync done ∷ before) i above low = reads_below opened base before i above low

-- so what lies below it is as it was in each image
pub left_below : (opened : List ℕ) (base : ℕ) (calls : List Call) (image : List ℕ) (at n : ℕ) → AreAbove base calls → MayLeave opened calls image → at + n ≤ base → at + n ≤ length opened → bytes_at opened at n ≡ bytes_at image at n
left_below opened base calls image at n above left low within = range_same opened image at n (λ i from to.
    let least = synced_longer opened calls in
    let below : i < base = omega (arith, to, low) in
    sym (left.kept i (omega (arith, to, within, least)) (untouched_below base calls i above below) (sure_below base calls i above below) ∙ reads_below opened base calls i above below))

-- ---- the calls of a life
flush_above : (shape : Shape) (bytes : List ℕ) (step : Flushing) (done : Bool) → AreAbove (record_place shape 0) (flush_calls shape bytes step done)
unfolding flush_calls
flush_above shape bytes (WritesPart part) done = (omega arith, tt)
flush_above shape bytes (Syncs end) done = tt
flush_above shape bytes step done = tt

maintain_above : (shape : Shape) (s : MaintainState) (step : Maintaining) (done : Bool) → AreAbove (record_place shape 0) (maintaining_calls shape s step done)
unfolding maintaining_calls
maintain_above shape s Flushes done = flush_above shape s.bytes s.flushing done
maintain_above shape s step done = tt

-- and a flush is above the slots too
lower : (low base : ℕ) (calls : List Call) → low ≤ base → AreAbove base calls → AreAbove low calls
lower low base [] less above = tt
lower low base (Write at bytes done ∷ before) less above = (let start = above.0 in omega (arith, less, start), lower low base before less above.1)
lower low base (Sync done ∷ before) less above = lower low base before less above

pub flush_calls_above : (shape : Shape) (s : MaintainState) (step : Maintaining) (done : Bool) → AreAbove 512 (maintaining_calls shape s step done)
flush_calls_above shape s step done = lower 512 (record_place shape 0) (maintaining_calls shape s step done) (omega arith) (maintain_above shape s step done)

after_above : (base : ℕ) (ask : Ask KeeperTold) (made calls : List Call) → AreAbove base made → AreAbove base calls → AreAbove base (calls_after ask made calls)
after_above base (Done Device) made calls one other = both_above base made calls one other
after_above base ask made calls one other = other

event_above : (base : ℕ) (n : Now) (event : Event) (calls : List Call) → ((done : Bool) → AreAbove base (keeper_calls n.shape n.keeper done)) → AreAbove base calls → AreAbove base (calls_added n event calls)
unfolding calls_added
event_above base n (KeeperMoves granted done) calls made was = after_above base (keeper_ask n.shape n.places n.keeper) (keeper_calls n.shape n.keeper done) calls (made done) was
event_above base n (Calls session call) calls made was = was
event_above base n (Moves session) calls made was = was
event_above base n (Commits kind) calls made was = was
event_above base n Turns calls made was = was
event_above base n Crashes calls made was = was

-- what the keeper calls for before each event begins there
abbrev pub MakesAbove : World → ℕ → List Event → Type 0
MakesAbove opening base [] = ⊤
MakesAbove opening base (event ∷ before) = ((done : Bool) → AreAbove base (keeper_calls (run opening before).now.shape (run opening before).now.keeper done)) × MakesAbove opening base before

pub life_above : (opening : World) (base : ℕ) (events : List Event) → opening.past.calls ≡ [] → MakesAbove opening base events → AreAbove base (run opening events).past.calls
unfolding run
life_above opening base [] none makes = subst (AreAbove base) (sym none) tt
life_above opening base (event ∷ before) none makes = by_crash (run opening before).now.crashed refl (life_above opening base before none makes.1)
  where
    w : World
    w = run opening before

    by_crash : (c : Bool) → w.now.crashed ≡ c → AreAbove base w.past.calls → AreAbove base (happens w event).past.calls
    by_crash true over was = subst (λ (x : World). AreAbove base x.past.calls) (sym (is_over w event over)) was
    by_crash false alive was =
        subst (AreAbove base) (sym (ap (λ (x : World). x.past.calls) (lived w event alive) ∙ added_calls w (life_goes w.now (read_by_keeper w) event) event))
        (event_above base w.now event w.past.calls makes.0 was)
