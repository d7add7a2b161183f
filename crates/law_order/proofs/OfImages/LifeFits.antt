-- Each commit whose writes begin in a life fits it.
use Rattle.std.proofs.Common.{◌≡◌, inl, inr, ℕ, ◌<◌, ◌≤◌, ◌∙◌, arith, refl, sym, ap, subst, Bool, true, List, [], ◌∷◌, length}
use Rattle.std.specs.Prelude.{Option, Some, None}
use Rattle.fkv_base.specs.Limits.{last_of, last_version}
use Rattle.fkv_base.specs.declared.classes.StoreClass.{StoreClass}
use Rattle.fkv_base.specs.declared.classes.StoreClass.TheVariants.{Specified, Living}
use Rattle.fkv_base.specs.declared.commits.CommitKind.{CommitKind}
use Rattle.fkv_base.specs.declared.commits.CommitKind.TheVariants.{Full, Log}
use Rattle.fkv_base.specs.declared.numbers.Addr.{Addr}
use Rattle.fkv_base.specs.declared.shapes.Shape.{Shape}
use Rattle.fkv_marks.specs.Window.{InWindow}
use Rattle.law_commit.specs.Below.fkv_commit.Commit.{Commit}
use Rattle.law_commit.proofs.Below.fkv_commit.Shown.{last_low}
use Rattle.law_commit.proofs.Below.fkv_keeper.Shown.{come_behind, run_class}
use Rattle.law_commit.specs.Below.fkv_keeper.CheckpointLaws.{IsBehindWait}
use Rattle.law_opening.specs.Below.fkv_core.Openings.{IsOpeningWorld, beginning}
use Rattle.law_commit.specs.Below.fkv_flush.GuardLevels.{Rises, levels_of}
use Rattle.law_commit.specs.Below.fkv_keeper.Keeping.{Finality, KeeperState, come_to, lost_left}
use Rattle.law_commit.specs.Below.fkv_keeper.KeeperRun.{IsOpened, KeeperEvent, keeper_run}
use Rattle.law_commit.specs.Below.fkv_keeper.SlotLaws.{CommitHasRoom, HasRoom}
use Rattle.law_commit.specs.Below.fkv_keeper.TheKeeping.{Keeping}
use Rattle.law_commit.specs.Below.fkv_keeper.TheKeeping.TheVariants.{Waits, Writes, Finishes}
use Rattle.law_opening.specs.Below.fkv_opening.TheOpened.{Opened}
use Rattle.law_commit.specs.Below.fkv_keeper.Checkpoint.{Checkpoint}
use Rattle.fkv_plane.specs.declared.places.Places.{Places}
use Rattle.fkv_plane.specs.declared.places.SharedWord.TheVariants as one
use Rattle.fkv_plane.specs.Asked.{word_at}
use Rattle.fkv_plane.specs.Places.{shared_place}
use Rattle.fkv_record.specs.declared.lost_ranges.LostRange.{LostRange}
use Rattle.fkv_record.specs.Lost.{max_lost}
use Rattle.fkv_record.specs.Places.{most_triples}
use Rattle.law_commit.specs.Below.fkv_world.OwnEvents.{keeper_events}
use Rattle.law_commit.specs.Below.fkv_world.Runs.{World, happens, run}
use Rattle.law_commit.specs.Below.fkv_world.World.{Event, Now}
use Rattle.law_commit.specs.BegunCommits.{BegunCommit, commit_opening}
use Rattle.law_order.specs.Images.Ends.{CommitEndsBy}
use Rattle.law_order.specs.Images.Left.{flushed_so_far}
use Rattle.law_order.specs.Images.Fits.{FitsLife, NamesItsLost, NamesLost}
use Rattle.law_order.proofs.OfImages.Begun.{plain}
use Rattle.law_order.proofs.OfImages.EndsFlushed.{Ends, EndsAt}
use Rattle.law_order.proofs.OfImages.AreaFits.{begun_fits}
use Rattle.law_order.proofs.OfImages.LifeNamed.{AllOfLife}
use Rattle.law_order.proofs.OfImages.LifeTails.{IsBelow, IsBelowNow, life_always, life_tails, tail_of}
use Rattle.law_order.proofs.OfImages.LostHeld.{HandIsNewer, HoldsLost, UsesBy, left_held, run_held, run_uses}
use Rattle.law_order.proofs.OfImages.NamedNow.{AllGood}
use Rattle.law_order.proofs.OfImages.Resting.{at_writes, opened_at, opened_well}
use Rattle.law_order.proofs.OfImages.WordsRead.{Always, always_map}
use Rattle.law_order.proofs.OfImages.Tails.{AtTail, Below, Bounds, LastBelow, TakenAbove, UsedBelow}
use Rattle.law_commit.specs.Below.law_world.Keeper.Lives.{IsLifeTold}

-- what is known of a commit as its writes begin, but for where its log begins
pub record FitsWritten (o : Opened) (n : Now) (flushed : ℕ) (c : BegunCommit) : Type 0 where
  pub few : c.number.0 < last_version
  pub newer : o.number.0 < c.number.0
  pub no_newer : c.parts.checkpoint.number.0 ≤ c.number.0
  pub in_window : InWindow n.shape.class c.parts.checkpoint.number.0 c.number.0
  pub some : 1 ≤ c.parts.checkpoint.first.0
  pub upwards : c.parts.checkpoint.first.0 ≤ c.parts.end.0
  pub later : o.tail.0 ≤ c.parts.end.0
  pub is_flushed : c.parts.end.0 ≤ flushed
  pub room : c.parts.kind ≡ Full → c.parts.checkpoint.triples ≤ most_triples n.shape
  pub lost : NamesItsLost o n c
  pub as_opened : c.parts.checkpoint ≡ n.keeper.last.checkpoint → c.parts.lost ≡ n.keeper.lost

-- where it begins
pub record BeginFits (o : Opened) (n : Now) (c : BegunCommit) : Type 0 where
  pub on : o.begin.0 ≤ c.parts.begin.0
  pub scan : c.parts.begin.0 ≤ c.parts.checkpoint.first.0
  pub whole : n.shape.class ≡ Specified → c.parts.begin ≡ o.begin
  pub as_opened : c.parts.checkpoint ≡ n.keeper.last.checkpoint → c.parts.begin ≡ o.begin

-- So it fits. It doesn't matter whether it is sealed or finished.
pub begin_fit : (o : Opened) (n : Now) (flushed : ℕ) (c : BegunCommit) → n.shape ≡ o.shape → FitsWritten o n flushed (plain c) → BeginFits o n c → FitsLife o n flushed c
begin_fit o n flushed c same is begin = record {
  few = is.few;
  newer = is.newer;
  no_newer = is.no_newer;
  in_window = is.in_window;
  some = is.some;
  upwards = is.upwards;
  later = is.later;
  is_flushed = is.is_flushed;
  begins = begin.on;
  some_begin = (let some = o.some_begin in let on = begin.on in omega (arith, some, on));
  before_scan = begin.scan;
  whole = λ specified. ap (λ (x : Addr). x.0) (begin.whole specified) ∙ o.whole (sym (ap (λ (x : Shape). x.class) same) ∙ specified);
  room = is.room;
  lost = elim is.lost [
    | inl none ↦ inl (record { none = none.none; newer = none.newer })
    | inr names ↦ inr (record { lost = names.lost; checkpoint = names.checkpoint; few = names.few })
  ];
  as_opened = is.as_opened;
  begins_as_opened = begin.as_opened;
}

few_left : (kind : CommitKind) (lost : List LostRange) → (kind ≡ Log → length lost ≤ max_lost) → length (lost_left kind lost) ≤ max_lost
few_left Full lost few = omega arith
few_left Log lost few = few refl

lost_named : (o : Opened) (n : Now) (a : KeeperState) (c : Commit) → length (lost_left c.kind a.lost) ≤ max_lost → HoldsLost o.number.0 n.keeper.lost n.keeper.last.checkpoint (lost_left c.kind a.lost) a.used → NamesItsLost o n (commit_opening a c)
lost_named o n a c few (inl none) = inl (record { none = none.0; newer = none.1 })
lost_named o n a c few (inr its) = inr (record { lost = its.0; checkpoint = its.1; few = few })

-- one that uses the checkpoint with which the store was opened doesn't use a newer one
pub lost_as_opened : (o : Opened) (n : Now) (c : BegunCommit) → n.keeper.last.checkpoint.number.0 ≤ o.number.0 → NamesItsLost o n c → c.parts.checkpoint ≡ n.keeper.last.checkpoint → NamesLost n c
lost_as_opened o n c older (inr names) used = names
lost_as_opened o n c older (inl none) used =
    let same : c.parts.checkpoint.number.0 ≡ n.keeper.last.checkpoint.number.0 = ap (λ (x : Checkpoint). x.number.0) used in
    let newer = none.newer in
    absurd (omega (arith, same, newer, older))

-- each commit that is being written is newer than the one with which the store was opened
used_newer : (t : Bounds) (s : KeeperState) (step : Keeping) (c : Commit) → AtTail t s step → IsBehindWait step → s.commit ≡ Some c → t.least < c.number.0
used_newer t s Writes c at behind found = (let used : UsedBelow t s.used (Some c) = subst (λ (x : Option Commit). UsedBelow t s.used x) found at.1 in used.5)
used_newer t s Finishes c at behind found = (let used : UsedBelow t s.used (Some c) = subst (λ (x : Option Commit). UsedBelow t s.used x) found at.1 in used.5)
used_newer t s step c at behind found = absurd behind

hand_newer : (begin base least : ℕ) (s : KeeperState) → IsBelow begin base least s → HandIsNewer least s
hand_newer begin base least s below = λ c found behind. (let at = below.is in let newer = used_newer below.bounds s (come_to s) c at.at (come_behind s behind) found in let same = below.its_least in omega (arith, newer, same))

-- a commit lies in the window of the checkpoint that it uses: a full one has made that itself
full_window : (class : StoreClass) (checkpoint number : ℕ) → number < last_of class → checkpoint ≡ number → InWindow class checkpoint number
full_window Specified checkpoint number low own = omega (arith, low)
full_window Living checkpoint number low own = omega (arith, own)

window_of : (class : StoreClass) (a : KeeperState) (c : Commit) (kind : CommitKind) → c.kind ≡ kind → a.start.asked.class ≡ class → HasRoom a c → UsesBy kind a c → InWindow class a.used.number.0 c.number.0
window_of class a c Full is same room uses = full_window class a.used.number.0 c.number.0 (subst (λ (x : StoreClass). c.number.0 < last_of x) same room.follows) uses
window_of class a c Log is same room uses =
    subst (λ (x : Checkpoint). InWindow class x.number.0 c.number.0) (sym uses) (subst (λ (x : StoreClass). InWindow x a.last.checkpoint.number.0 c.number.0) same (room.in_window is))

-- of the commit that is being written, by the tails that were loaded for it
module _ (o : Opened) (n : Now) (flushed : ℕ) (shape : Shape) (p : Places) where
  fits_so : (a : KeeperState) (c : Commit) → a.step ≡ Writes → a.commit ≡ Some c → IsBelow o.begin.0 o.tail.0 o.number.0 a → Ends flushed a → CommitHasRoom a → (c.kind ≡ Full → a.used.triples ≤ most_triples n.shape) → InWindow n.shape.class a.used.number.0 c.number.0 → n.keeper.last.checkpoint.number.0 ≤ o.number.0
      → NamesItsLost o n (commit_opening a c) → FitsWritten o n flushed (commit_opening a c)
  fits_so a c writes found below ends room area window older lost =
      let t : Bounds = below.bounds in
      let there = below.is in
      let at : Below t true a.last a.commit × UsedBelow t a.used a.commit = at_writes (AtTail t) a writes there.at in
      let used : UsedBelow t a.used (Some c) = subst (λ (x : Option Commit). UsedBelow t a.used x) found at.1 in
      let by : CommitEndsBy flushed a = at_writes (EndsAt flushed) a writes ends.ends in
      let has = room c found in
      let base = below.its_base in
      let least = below.its_least in
      let low = used.4 in
      let more = used.5 in
      let from = below.its_begin in
      let first = used.0 in
      let some = o.some_begin in
      record {
        few = last_low a.start.asked.class c.number.0 has.follows;
        newer = omega (arith, least, more);
        no_newer = used.2;
        in_window = window;
        some = omega (arith, from, first, some);
        upwards = used.3;
        later = omega (arith, base, low);
        is_flushed = by c found;
        room = area;
        lost = lost;
        as_opened = λ used. (let names = lost_as_opened o n (commit_opening a c) older lost used in names.lost);
      }

  pub all_fit : (opening : KeeperState) → opening ≡ n.keeper → opening.start.asked.class ≡ n.shape.class → n.keeper.last.checkpoint.number.0 ≤ o.number.0 → IsOpened opening → ((events : List KeeperEvent) → CommitHasRoom (keeper_run shape p opening events))
      → ((event : KeeperEvent) (before : List KeeperEvent) (c : Commit) → (keeper_run shape p opening before).step ≡ Waits → (keeper_run shape p opening (event ∷ before)).step ≡ Writes → (keeper_run shape p opening (event ∷ before)).commit ≡ Some c
      → c.kind ≡ Full → (keeper_run shape p opening (event ∷ before)).used.triples ≤ most_triples n.shape)
      → (events : List KeeperEvent) → Always (λ (s : KeeperState). IsBelow o.begin.0 o.tail.0 o.number.0 s) shape p opening events → Always (λ (s : KeeperState). Ends flushed s) shape p opening events
      → AllGood shape p opening (FitsWritten o n flushed) events
  unfolding Always
  all_fit opening same class older opened room area [] below ends = tt
  all_fit opening same class older opened room area (event ∷ before) below ends = (
    λ c waits writes found.
        (let a : KeeperState = keeper_run shape p opening (event ∷ before) in
        let behind : IsBehindWait a.step = subst IsBehindWait (sym writes) tt in
        let newer : Always (HandIsNewer o.number.0) shape p opening (event ∷ before) =
        always_map (λ (x : KeeperState). IsBelow o.begin.0 o.tail.0 o.number.0 x) (HandIsNewer o.number.0) shape p opening (event ∷ before) (λ x at. hand_newer o.begin.0 o.tail.0 o.number.0 x at) below in
        let held : HoldsLost o.number.0 n.keeper.lost n.keeper.last.checkpoint a.lost a.last.checkpoint =
        subst (λ (x : KeeperState). HoldsLost o.number.0 x.lost x.last.checkpoint a.lost a.last.checkpoint) same (run_held shape p o.number.0 opening (event ∷ before) opened newer) in
        let uses : UsesBy c.kind a c = run_uses shape p opening (event ∷ before) c opened behind found in
        let left = left_held o.number.0 n.keeper.lost n.keeper.last.checkpoint c.kind a c held uses (hand_newer o.begin.0 o.tail.0 o.number.0 a below.0 c found behind) in
        let has = room (event ∷ before) c found in
        fits_so a c writes found below.0 ends.0 (room (event ∷ before)) (area event before c waits writes found) (window_of n.shape.class a c c.kind refl (run_class shape p opening (event ∷ before) ∙ class) has uses) older (lost_named o n a c (few_left c.kind a.lost has.lost) left)),
    all_fit opening same class older opened room area before below.1 ends.1,
  )

-- ---- in a life
tail_there : (o : Opened) (n : Now) → IsOpeningWorld o n → word_at n.words (shared_place one.Tail) ≡ o.tail.0
tail_there o n its = ap (λ (all : List ℕ). word_at all (shared_place one.Tail)) its.its_words.whole

last_below : (o : Opened) (n : Now) (t : Bounds) → IsOpeningWorld o n → t.begin ≡ o.begin.0 → t.least ≡ o.number.0 → t.tail ≡ o.tail.0 → LastBelow t n.keeper.last
last_below o n t its begin least tail =
    let from = o.begin_before_scan in
    let a = o.upwards in
    subst (λ (last : Finality). LastBelow t last) (sym its.its_keeper.newest) (omega (arith, begin, from), omega (arith, a, tail), o.no_newer, omega (arith, least))

opens_below : (o : Opened) (n : Now) (bytes : List ℕ) → IsOpeningWorld o n → IsOpened n.keeper → IsBelowNow o.begin.0 o.tail.0 o.number.0 (tail_of (beginning n bytes)) n.keeper
opens_below o n bytes its opened =
    let there = tail_there o n its in
    let from = o.begin_before_scan in
    let up = o.upwards in
    let t : Bounds = record { begin = o.begin.0; base = o.tail.0; least = o.number.0; tail = word_at n.words (shared_place one.Tail); some = o.some_begin; on = omega (arith, from, up); up = omega (arith, there) } in
    let below : Below t n.keeper.has_points n.keeper.last n.keeper.commit =
    subst (λ (x : Option Commit). Below t n.keeper.has_points n.keeper.last x) (sym its.its_keeper.no_commit)
    (tt, subst (λ (b : Bool). TakenAbove b n.keeper.last None) (sym its.its_keeper.no_points) tt, last_below o n t its refl refl there) in
    record {
      below = record {
        bounds = t;
        its_begin = refl;
        its_base = refl;
        its_least = refl;
        is = record { well = opened_well n.keeper opened; at = opened_at (AtTail t) n.keeper opened (subst (λ (k : Keeping). AtTail t n.keeper k) (sym its.its_keeper.no_call) below) };
      };
      its_tail = refl;
    }

pub opened_older : (o : Opened) (n : Now) → IsOpeningWorld o n → n.keeper.last.checkpoint.number.0 ≤ o.number.0
opened_older o n its = subst (λ (last : Finality). last.checkpoint.number.0 ≤ o.number.0) (sym its.its_keeper.newest) o.no_newer

pub life_fits : (o : Opened) (n : Now) (bytes : List ℕ) (events : List Event) → IsOpeningWorld o n → IsLifeTold (beginning n bytes) events
    → ((shape : Shape) (p : Places) (opening : KeeperState) (past : List KeeperEvent) → IsOpened opening → CommitHasRoom (keeper_run shape p opening past))
    → ((before : List Event) (event : Event) → Rises (levels_of (run (beginning n bytes) before).now.words) (levels_of (happens (run (beginning n bytes) before) event).now.words))
    → AllOfLife (beginning n bytes) (FitsWritten o n (flushed_so_far n bytes events)) events
life_fits o n bytes events its life room rises =
    let opening : World = beginning n bytes in
    let told = life.told in
    let opened : IsOpened n.keeper = told.is_opened in
    let tails = life_tails opening o.begin.0 o.tail.0 o.number.0 events (opens_below o n bytes its opened) (λ before event. (rises before event).tail) life.in_turn in
    all_fit o n (flushed_so_far n bytes events) n.shape n.places n.keeper refl (its.its_keeper.class ∙ ap (λ (x : Shape). x.class) (sym its.its_shape)) (opened_older o n its) opened (λ past. room n.shape n.places n.keeper past opened)
    (λ event before c waits writes found. begun_fits n.shape n.places n.keeper event before c opened told.buckets told.overflow waits writes found)
    (keeper_events opening events) tails.always (life_always opening events opened (λ before event. (rises before event).flushed))
