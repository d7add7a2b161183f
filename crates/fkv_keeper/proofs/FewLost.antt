-- A log commit in hand has at most as many lost ranges as its slot has room for, and so its slot leaves none out.
use Rattle.std.proofs.Common.{◌≡◌, ℕ, ◌-◌, ◌<◌, ◌≤◌, ◌∙◌, ◌⊎◌, inl, inr, List, [], ◌∷◌, refl, ap, sym, subst, Bool, true, false, length, arith}
use Rattle.std.specs.Prelude.{⊤, Option, Some, None, nat_lt, nat_le, take, if◌then◌else◌, ◌&&◌, ◌||◌}
use Rattle.std.proofs.lemmas.Bool.Decides.{nat_tests}
use Rattle.std.proofs.lemmas.List.{take_all, length-take}
use Rattle.std.proofs.lemmas.List.FromFn.{length-map-range_with_len}
use Rattle.fkv_base.specs.Limits.{last_version, last_of}
use Rattle.fkv_base.specs.declared.classes.StoreClass.{StoreClass}
use Rattle.fkv_marks.specs.Window.{InWindow, oldest}
use Rattle.fkv_base.specs.declared.numbers.Addr.{Addr}
use Rattle.fkv_base.specs.declared.numbers.Version.{Version}
use Rattle.fkv_base.specs.declared.phases.Phase.TheVariants as phase
use Rattle.fkv_base.specs.declared.shapes.Shape.{Shape}
use Rattle.fkv_words.specs.declared.phase_words.PhaseSaid.{PhaseSaid}
use Rattle.fkv_words.specs.declared.phase_words.PhaseSaid.TheVariants.{Says}
use Rattle.fkv_words.specs.PhaseWords.{phase_said}
use Rattle.fkv_record.specs.declared.lost_ranges.LostRange.{LostRange}
use Rattle.fkv_plane.specs.declared.asks.Ask.{Ask}
use Rattle.fkv_plane.specs.declared.asks.Ask.TheVariants.{Load, Store, Swap, Cas, Add, Max, Put, Take, Done}
use Rattle.fkv_plane.specs.declared.places.Places.{Places}
use Rattle.fkv_plane.specs.Passing.{passed}
use Rattle.fkv_commit.specs.declared.commits.Commit.{Commit}
use Rattle.fkv_base.specs.declared.commits.CommitKind.{CommitKind}
use Rattle.fkv_base.specs.declared.commits.CommitKind.TheVariants.{Full, Log}
use Rattle.fkv_commit.specs.declared.deferring.DeferAnswer.{DeferAnswer}
use Rattle.fkv_commit.specs.declared.deferring.DeferAnswer.TheVariants.{Held, Spent, Armed}
use Rattle.fkv_commit.specs.declared.starting.Starting.{Starting}
use Rattle.fkv_commit.specs.declared.starting.Starting.TheVariants as starting
use Rattle.fkv_commit.specs.declared.starting.StartAnswer.{StartAnswer}
use Rattle.fkv_commit.specs.declared.starting.StartAnswer.TheVariants as start
use Rattle.fkv_commit.specs.declared.starting.StartAsked.{StartAsked}
use Rattle.fkv_commit.specs.Commits.{commit_begun, is_log}
use Rattle.fkv_commit.specs.Deferring.{defer_ask, defer_next}
use Rattle.fkv_commit.specs.Starting.{StartState, is_lost_full, is_past_window, max_lost, phase_found, seek_led, defer_led, starting_ask, start_ask, starting_next, start_next}
use Rattle.fkv_commit.proofs.Shown.{last_low, start_asked}
use Rattle.fkv_manifest.specs.Kept.{IsSlotOf}
use Rattle.fkv_manifest.proofs.Shown.{newest_spelled}
use Rattle.fkv_keeper.specs.declared.answers.KeeperTold.{KeeperTold}
use Rattle.fkv_keeper.specs.declared.keepers.Keeping.{Keeping}
use Rattle.fkv_keeper.specs.declared.keepers.Keeping.TheVariants.{Ended, Starts, Waits, Writes}
use Rattle.fkv_keeper.specs.Keeping.{Finality, KeeperState, asked_for, lost_left, start_ledto, keeping_next, keeping_given, keeping_called, begin_next}
use Rattle.fkv_keeper.specs.KeeperRun.{KeeperEvent, Replies, is_in_hand, keeper_happens, keeper_run, IsOpened}
use Rattle.fkv_keeper.specs.LastCommits.{point_written, slot_said, slot_written}
use Rattle.fkv_keeper.specs.CheckpointLaws.{IsCommitAfter, IsFinished, IsWrittenAs, AreWritesBegun, copy_replies, begun_with}
use Rattle.fkv_keeper.specs.PartLaws.{IsStartBegun, IsPartBegun}
use Rattle.fkv_keeper.specs.SlotLaws.{HasRoom, CommitHasRoom, IsSlotWhole}
use Rattle.fkv_keeper.proofs.Happens.{happens_at, happens_so}
use Rattle.fkv_keeper.proofs.Classes.{happens_class}
use Rattle.fkv_keeper.proofs.CheckpointMoves.{IsMove, each_move}
use Rattle.fkv_keeper.proofs.CheckpointWrites.{run_writes}
use Rattle.fkv_keeper.proofs.PartMoves.{IsPart, each_part}

-- a commit of this number may begin that is asked for so
pub record MayBegin (asked : StartAsked) (number : Version) : Type 0 where
  pub follows : number.0 < last_of asked.class
  pub few : is_lost_full asked number.0 ≡ false

-- how far a start has come
abbrev pub IsStartAt : StartState → Starting → Type 0
IsStartAt s starting.LoadsPhase = ⊤
IsStartAt s (starting.Seeks number) = MayBegin s.asked number
IsStartAt s (starting.StoresPrepare number) = MayBegin s.asked number
IsStartAt s (starting.LoadsTail number) = MayBegin s.asked number
IsStartAt s (starting.Defers number first) = MayBegin s.asked number
IsStartAt s (starting.Ended (start.Begun number first)) = MayBegin s.asked number
IsStartAt s (starting.Ended its) = ⊤

-- that was asked for so
abbrev pub IsStart : StartAsked → StartState → Type 0
IsStart asked s = IsStartAt s s.step × (s.asked ≡ asked)

at_step : (asked : StartAsked) (s : StartState) (step : Starting) → s.step ≡ step → IsStartAt s step → s.asked ≡ asked → IsStart asked s
at_step asked s step e at same = (subst (λ (x : Starting). IsStartAt s x) (sym e) at, same)

either : (b : Bool) (asked : StartAsked) (x y : StartState) → (b ≡ true → IsStart asked x) → (b ≡ false → IsStart asked y) → IsStart asked (if b then x else y)
either true asked x y one other = one refl
either false asked x y one other = other refl

found_start : (asked : StartAsked) (s : StartState) (said : PhaseSaid) → s.asked ≡ asked → IsStart asked (phase_found s said)
found_start asked s (Says phase.Rest number) same =
    either (nat_le (last_of s.asked.class) number.0) asked _ _ (λ last. (tt, same))
    (λ below. either (is_lost_full s.asked number.0) asked _ _ (λ full. (tt, same)) (λ few. (record { follows = grind (arith, nat_tests, below); few = few }, same)))
found_start asked s said same = (tt, same)

sought_start : (asked : StartAsked) (number : Version) (s : StartState) (ask : Ask DeferAnswer) → s.step ≡ starting.Seeks number → MayBegin s.asked number → s.asked ≡ asked → IsStart asked (seek_led number s ask)
unfolding seek_led
sought_start asked number s (Done Held) e may same = (may, same)
sought_start asked number s (Done Spent) e may same = (tt, same)
sought_start asked number s (Done its) e may same = (tt, same)
sought_start asked number s ask e may same = at_step asked s (starting.Seeks number) e may same

deferred_start : (asked : StartAsked) (number : Version) (first : Addr) (s : StartState) (ask : Ask DeferAnswer) → s.step ≡ starting.Defers number first → MayBegin s.asked number → s.asked ≡ asked → IsStart asked (defer_led number first s ask)
unfolding defer_led
deferred_start asked number first s (Done (Armed epoch)) e may same = (may, same)
deferred_start asked number first s (Done its) e may same = (tt, same)
deferred_start asked number first s ask e may same = at_step asked s (starting.Defers number first) e may same

next_start : (asked : StartAsked) (s : StartState) (step : Starting) (reply : ℕ) → s.step ≡ step → IsStartAt s step → s.asked ≡ asked → IsStart asked (starting_next s step reply)
unfolding starting_next
next_start asked s (starting.Ended its) reply e at same = at_step asked s (starting.Ended its) e at same
next_start asked s starting.LoadsPhase reply e at same = found_start asked s (phase_said reply) same
next_start asked s (starting.Seeks number) reply e at same = sought_start asked number (record s { defer = defer_next s.defer reply }) (defer_ask (defer_next s.defer reply)) e at same
next_start asked s (starting.StoresPrepare number) reply e at same = (at, same)
next_start asked s (starting.LoadsTail number) reply e at same = (at, same)
next_start asked s (starting.Defers number first) reply e at same = deferred_start asked number first (record s { defer = defer_next s.defer reply }) (defer_ask (defer_next s.defer reply)) e at same

-- as it tells that the commit has begun
begun_same : (n m : Version) (f g : Addr) → Done (start.Begun n f) ≡ Done (start.Begun m g) → n ≡ m
begun_same n m f g e = cc

idle_alone : (ask : Ask DeferAnswer) (number : Version) (first : Addr) → passed ask start.Idle ≡ Done (start.Begun number first) → ⊥
unfolding passed
idle_alone (Load place) number first e = cc
idle_alone (Store place new) number first e = cc
idle_alone (Swap place new) number first e = cc
idle_alone (Cas place old new) number first e = cc
idle_alone (Add place k) number first e = cc
idle_alone (Max place k) number first e = cc
idle_alone (Put slot action) number first e = cc
idle_alone (Take slot) number first e = cc
idle_alone (Done its) number first e = cc

begun_may : (s : StartState) (step : Starting) (number : Version) (first : Addr) → starting_ask s step ≡ Done (start.Begun number first) → IsStartAt s step → MayBegin s.asked number
unfolding starting_ask
begun_may s (starting.Ended (start.Begun n f)) number first asks at = subst (λ (x : Version). MayBegin s.asked x) (begun_same n number f first asks) at
begun_may s (starting.Ended (start.Refused why)) number first asks at = cc
begun_may s (starting.Ended start.Idle) number first asks at = cc
begun_may s starting.LoadsPhase number first asks at = cc
begun_may s (starting.Seeks n) number first asks at = absurd (idle_alone (defer_ask s.defer) number first asks)
begun_may s (starting.StoresPrepare n) number first asks at = cc
begun_may s (starting.LoadsTail n) number first asks at = cc
begun_may s (starting.Defers n f) number first asks at = absurd (idle_alone (defer_ask s.defer) number first asks)

-- what holds at every moment
pub record IsFewLost (s : KeeperState) : Type 0 where
  pub starts : s.step ≡ Starts → IsStart (asked_for s s.start.asked.kind) s.start
  pub commit : (c : Commit) → s.commit ≡ Some c → MayBegin (asked_for s c.kind) c.number

some_same : (its c : Commit) → Some its ≡ Some c → its ≡ c
some_same its c both = cc

no_commit : (found : Option Commit) (c : Commit) → found ≡ None → found ≡ Some c → ⊥
no_commit found c none some = let clash : None ≡ Some c = sym none ∙ some in cc

not_starts : (step : Keeping) (told : KeeperTold) → step ≡ Ended told → step ≡ Starts → ⊥
not_starts step told one other = let clash : Ended told ≡ Starts = sym one ∙ other in cc

started : (t : KeeperState) (ask : Ask StartAnswer) → start_ask t.start ≡ ask → IsStart (asked_for t t.start.asked.kind) t.start → ((c : Commit) → t.commit ≡ Some c → MayBegin (asked_for t c.kind) c.number) → IsFewLost (start_ledto t ask)
unfolding start_ledto
started t (Done (start.Begun number first)) asks its known = record {
  starts = λ now. absurd (not_starts _ _ refl now);
  commit = λ c in_hand.
      subst (λ (x : Commit). MayBegin (asked_for t x.kind) x.number) (some_same (commit_begun number t.start.asked.kind (begin_next t first) first) c in_hand)
      (subst (λ (x : StartAsked). MayBegin x number) its.1 (begun_may t.start t.start.step number first asks its.0));
}
started t (Done (start.Refused why)) asks its known = record { starts = λ now. absurd (not_starts _ _ refl now); commit = known }
started t (Done start.Idle) asks its known = record { starts = λ now. absurd (not_starts _ _ refl now); commit = known }
started t ask asks its known = record { starts = λ now. its; commit = known }

few_at_start : (shape : Shape) (p : Places) (s : KeeperState) (event : KeeperEvent) → s.step ≡ Starts → IsFewLost s → IsFewLost (happens_at shape p s Starts event)
unfolding keeping_next keeping_given keeping_called
few_at_start shape p s (Replies reply granted) e been =
    let its : IsStart (asked_for s s.start.asked.kind) s.start = been.starts e in
    let next = next_start (asked_for s s.start.asked.kind) s.start s.start.step reply refl its.0 its.1 in
    let same : (start_next s.start reply).asked ≡ s.start.asked = start_asked s.start reply in
    started (record s { start = start_next s.start reply }) (start_ask (start_next s.start reply)) refl
    (next.0, next.1 ∙ ap (λ (x : StartAsked). record { class = x.class; kind = x.kind; lost = length s.lost; checkpoint = s.last.checkpoint.number }) (sym same))
    (λ c in_hand. subst (λ (x : StartAsked). MayBegin (record { class = x.class; kind = c.kind; lost = length s.lost; checkpoint = s.last.checkpoint.number }) c.number) (sym same) (been.commit c in_hand))
few_at_start shape p s event e been = been

-- elsewhere no commit begins
few_elsewhere : (p : Places) (s : KeeperState) (event : KeeperEvent) (a : KeeperState) → IsMove p s event a → IsPart event s.step s a → (s.step ≡ Starts → ⊥) → a.start.asked.class ≡ s.start.asked.class → IsFewLost s → IsFewLost a
few_elsewhere p s event a move part elsewhere class been = record {
  starts = λ now. begun now (subst (λ (x : Keeping). IsPartBegun x s event a) now part.begins);
  commit = λ c in_hand. kept c in_hand s.commit refl move.copies.commit;
}
  where
    same_by : (a.step ≡ Starts) ⊎ ((c : Commit) × (a.commit ≡ Some c)) → ((a.last ≡ s.last) × (a.lost ≡ s.lost)) ⊎ ((c : Commit) × (s.commit ≡ Some c) × IsFinished s a c) → (a.last ≡ s.last) × (a.lost ≡ s.lost)
    same_by why (inl same) = same
    same_by (inl now) (inr finish) = absurd (not_starts a.step _ finish.2.told now)
    same_by (inr in_hand) (inr finish) = absurd (no_commit a.commit in_hand.0 finish.2.none_in_hand in_hand.1)

    -- what a commit is asked for with is as it was
    same_asked : (kind : CommitKind) → (a.step ≡ Starts) ⊎ ((c : Commit) × (a.commit ≡ Some c)) → asked_for a kind ≡ asked_for s kind
    same_asked kind why =
        let same = same_by why move.lists.lists in
        ap (λ (x : StoreClass). record { class = x; kind = kind; lost = length a.lost; checkpoint = a.last.checkpoint.number }) class
        ∙ (ap (λ (x : List LostRange). record { class = s.start.asked.class; kind = kind; lost = length x; checkpoint = a.last.checkpoint.number }) same.1
        ∙ ap (λ (x : Finality). record { class = s.start.asked.class; kind = kind; lost = length s.lost; checkpoint = x.checkpoint.number }) same.0)

    begun : a.step ≡ Starts → (s.step ≡ Starts) ⊎ IsStartBegun s event a → IsStart (asked_for a a.start.asked.kind) a.start
    begun now (inl under_way) = absurd (elsewhere under_way)
    begun now (inr its) =
        let kind : a.start.asked.kind ≡ its.kind = ap (λ (x : StartState). x.asked.kind) its.start in
        let asked : asked_for a a.start.asked.kind ≡ asked_for s its.kind = same_asked a.start.asked.kind (inl now) ∙ ap (λ (x : CommitKind). asked_for s x) kind in
        subst (λ (x : StartAsked). IsStart x a.start) (sym asked) (subst (λ (x : StartState). IsStart (asked_for s its.kind) x) (sym its.start) (tt, refl))

    kept : (c : Commit) → a.commit ≡ Some c → (found : Option Commit) → s.commit ≡ found → IsCommitAfter found s a → MayBegin (asked_for a c.kind) c.number
    kept c in_hand None e (inl none) = absurd (no_commit a.commit c none in_hand)
    kept c in_hand None e (inr begins) = absurd (elsewhere begins.starts)
    kept c in_hand (Some was) e (inl goes) =
        let same : goes.commit ≡ c = some_same goes.commit c (sym goes.in_hand ∙ in_hand) in
        let may : MayBegin (asked_for s was.kind) was.number = been.commit was e in
        subst (λ (x : StartAsked). MayBegin x c.number) (sym (same_asked c.kind (inr (c, in_hand))))
        (subst (λ (x : Commit). MayBegin (asked_for s x.kind) x.number) same
        (subst (λ (x : Version). MayBegin (asked_for s goes.commit.kind) x) (sym goes.number)
        (subst (λ (x : CommitKind). MayBegin (asked_for s x) was.number) (sym goes.kind) may)))
    kept c in_hand (Some was) e (inr (inl finish)) = absurd (no_commit a.commit c finish.none_in_hand in_hand)
    kept c in_hand (Some was) e (inr (inr begins)) = absurd (elsewhere begins.starts)

starts_or_not : (step : Keeping) → (step ≡ Starts) ⊎ (step ≡ Starts → ⊥)
starts_or_not Starts = inl refl
starts_or_not step = inr (λ e. cc)

few_after : (shape : Shape) (p : Places) (s : KeeperState) (event : KeeperEvent) → IsFewLost s → (s.step ≡ Starts) ⊎ (s.step ≡ Starts → ⊥) → IsFewLost (keeper_happens shape p s event)
few_after shape p s event been (inl e) =
    subst (λ (x : KeeperState). IsFewLost x) (ap (λ (x : Keeping). happens_at shape p s x event) (sym e) ∙ happens_so shape p s event) (few_at_start shape p s event e been)
few_after shape p s event been (inr elsewhere) = few_elsewhere p s event (keeper_happens shape p s event) (each_move shape p s event) (each_part shape p s event) elsewhere (happens_class shape p s event) been

no_start : (step : Keeping) → is_in_hand step ≡ false → step ≡ Starts → ⊥
no_start step one now = let clash : false ≡ is_in_hand Starts = sym one ∙ ap is_in_hand now in cc

run_few : (shape : Shape) (p : Places) (opening : KeeperState) (events : List KeeperEvent) → IsOpened opening → IsFewLost (keeper_run shape p opening events)
unfolding keeper_run
run_few shape p opening [] opened = record {
  starts = λ now. absurd (no_start opening.step opened.none_in_hand now);
  commit = λ c in_hand. absurd (no_commit opening.commit c opened.no_commit in_hand);
}
run_few shape p opening (event ∷ before) opened = few_after shape p (keeper_run shape p opening before) event (run_few shape p opening before opened) (starts_or_not (keeper_run shape p opening before).step)

-- a log commit has few, and lies in its window
few_of_log : (asked : StartAsked) (number : ℕ) (kind : CommitKind) → asked.kind ≡ kind → (is_log kind && (nat_lt max_lost asked.lost || is_past_window asked number)) ≡ false → kind ≡ Log
    → (asked.lost ≤ max_lost) × InWindow asked.class asked.checkpoint.0 number
few_of_log asked number Full is few log = cc
few_of_log asked number Log is few log = by_tests (nat_lt max_lost asked.lost) (is_past_window asked number) refl refl few
  where
    by_tests : (many past : Bool) → nat_lt max_lost asked.lost ≡ many → is_past_window asked number ≡ past → (many || past) ≡ false → (asked.lost ≤ max_lost) × InWindow asked.class asked.checkpoint.0 number
    by_tests false false many_so past_so e = (
      grind (arith, nat_tests, many_so),
      (let near : number - oldest asked.class asked.checkpoint.0 ≤ 8189 = grind (arith, nat_tests, past_so) in omega (arith, near)),
    )
    by_tests true past many_so past_so e = cc
    by_tests false true many_so past_so e = cc

pub run_room : (shape : Shape) (p : Places) (opening : KeeperState) (events : List KeeperEvent) → IsOpened opening → CommitHasRoom (keeper_run shape p opening events)
run_room shape p opening events opened = λ c in_hand.
    let s : KeeperState = keeper_run shape p opening events in
    let may : MayBegin (asked_for s c.kind) c.number = (run_few shape p opening events opened).commit c in_hand in
    record {
      follows = may.follows;
      lost = λ log. (few_of_log (asked_for s c.kind) c.number.0 c.kind refl may.few log).0;
      in_window = λ log. (few_of_log (asked_for s c.kind) c.number.0 c.kind refl may.few log).1;
    }

-- what its slot says
whole_said : (shape : Shape) (s a : KeeperState) (c : Commit) (lost : List LostRange) → s.commit ≡ Some c → c.number.0 < last_version → lost ≡ lost_left c.kind s.lost → length lost ≤ max_lost
    → a.writes.gate.slot ≡ slot_written shape.sessions c.number c.begin c.end a.used s.seek.points lost → IsSlotWhole shape s a
whole_said shape s a c lost in_hand follows is few slot = record {
  commit = c;
  in_hand = in_hand;
  said = slot_said shape.sessions c.number c.begin c.end a.used s.seek.points lost;
  spelled = slot;
  number = refl;
  begin = refl;
  points = points;
  few_points = few_points;
  lost = all ∙ is;
  few_lost = few_lost;
  named = subst (λ (x : List ℕ). IsSlotOf c.number.0 x) (sym slot) (newest_spelled (slot_said shape.sessions c.number c.begin c.end a.used s.seek.points lost) (omega (arith, follows)) few_points few_lost);
}
  where
    points : length (slot_said shape.sessions c.number c.begin c.end a.used s.seek.points lost).points ≡ shape.sessions
    points = length-map-range_with_len (λ (session : ℕ). point_written s.seek.points session) 0 shape.sessions

    few_points : length (slot_said shape.sessions c.number c.begin c.end a.used s.seek.points lost).points ≤ 32
    few_points = omega (arith, length-map-range_with_len (λ (session : ℕ). point_written s.seek.points session) 0 shape.sessions, shape.limits.few_sessions)

    all : take 8 lost ≡ lost
    all = take_all 8 lost few

    few_lost : length (take 8 lost) ≤ 8
    few_lost = omega (arith, length-take 8 lost)

whole_as : (shape : Shape) (p : Places) (replies : List ℕ) (s a : KeeperState) (c : Commit) (kind : CommitKind) → c.kind ≡ kind → s.commit ≡ Some c → HasRoom s c → IsWrittenAs kind shape p replies s a c → IsSlotWhole shape s a
whole_as shape p replies s a c Full full in_hand room its =
    whole_said shape s a c [] in_hand (last_low s.start.asked.class c.number.0 room.follows) (sym (ap (λ (x : CommitKind). lost_left x s.lost) full)) (omega arith) its.slot
whole_as shape p replies s a c Log log in_hand room its =
    whole_said shape s a c s.lost in_hand (last_low s.start.asked.class c.number.0 room.follows) (sym (ap (λ (x : CommitKind). lost_left x s.lost) log)) (room.lost log) its.slot

pub run_whole : (shape : Shape) (p : Places) (opening : KeeperState) (events : List KeeperEvent) (event : KeeperEvent) → IsOpened opening
    → (keeper_run shape p opening events).step ≡ Waits → (keeper_run shape p opening (event ∷ events)).step ≡ Writes
    → IsSlotWhole shape (keeper_run shape p opening events) (keeper_run shape p opening (event ∷ events))
run_whole shape p opening events event opened waits writes =
    let its : AreWritesBegun shape p (copy_replies shape p opening events) (begun_with shape p opening events) (keeper_run shape p opening events) (keeper_run shape p opening (event ∷ events)) =
    run_writes shape p opening events event opened waits writes in
    whole_as shape p (copy_replies shape p opening events) (keeper_run shape p opening events) (keeper_run shape p opening (event ∷ events)) its.commit its.commit.kind refl its.in_hand
    (run_room shape p opening events opened its.commit its.in_hand) its.written
