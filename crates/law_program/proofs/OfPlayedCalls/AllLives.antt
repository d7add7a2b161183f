-- Runs over all their lives, piece by piece.
use Rattle.std.specs.FinMap.{empty}
use Rattle.std.specs.Prelude.{⊤}
use Rattle.std.proofs.Common.{◌≡◌, ◌∙◌, ◌≤◌, ◌<◌, ◌+◌, ◌-◌, ◌^◌, ◌++◌, ℕ, List, [], ◌∷◌, append_assoc, Bool, true, false, ap, arith, length, refl, sym, subst}
use Rattle.fkv_base.specs.declared.faults.Fault.TheVariants as fault
use Rattle.fkv_base.specs.declared.shapes.Shape.{Shape}
use Rattle.law_order.specs.Below.fkv_core.Openings.{beginning}
use Rattle.law_order.specs.Below.fkv_creating.Created.{IsCreated}
use Rattle.fkv_disk.specs.Calls.{MayLeave, ReadsAs}
use Rattle.fkv_disk.specs.Fuses.{fuse_device, fuse_state}
use Rattle.fkv_disk.specs.Fuse.{FuseLeaves}
use Rattle.fkv_disk.specs.declared.fuses.Fuse.{Fuse}
use Rattle.fkv_disk.specs.declared.fuses.FuseState.{FuseState}
use Rattle.fkv_runs.specs.Below.fkv_playing.Finishes.{most_rounds, round_of, rounds}
use Rattle.fkv_map.specs.History.{content, kept}
use Rattle.fkv_map.specs.declared.history.HistoryEntry.{HistoryEntry}
use Rattle.law_order.specs.Below.fkv_opening.Opened.{IsStoreOf}
use Rattle.law_order.specs.Below.fkv_opening.TheOpened.{Opened}
use Rattle.law_order.specs.Below.fkv_pairs.Pairs.{log_of_store}
use Rattle.fkv_runs.specs.Below.fkv_playing.Groups.{IsGroup}
use Rattle.fkv_runs.specs.Below.fkv_playing.Players.{IsArmed, PlayerState}
use Rattle.fkv_runs.specs.Below.fkv_playing.Queues.{QueueState}
use Rattle.fkv_runs.specs.Below.fkv_playing.Texts.{phase_shown}
use Rattle.fkv_runs.specs.Below.fkv_playing.ActorCall.{ActorCall}
use Rattle.fkv_runs.specs.Crashes.{crash_text, kept_behind}
use Rattle.fkv_runs.specs.Openings.{Medium}
use Rattle.fkv_runs.specs.Runs.{IsCrashed, IsCrashedWhere, IsGroupPlayed, IsPiece, RunState}
use Rattle.fkv_runs.specs.declared.pieces.Piece.{Piece}
use Rattle.fkv_runs.specs.declared.pieces.Piece.TheVariants.{Group, Finish, Crash, CrashAt, FailAt}
use Rattle.fkv_runs.specs.declared.settings.Settings.{Settings}
use Rattle.fkv_texts.specs.Refusals.{last_refusal}
use Rattle.law_order.specs.Below.fkv_world.Runs.{World, run}
use Rattle.law_order.specs.Below.fkv_world.World.{Event}
use Rattle.law_order.specs.Below.law_opening.Lives.Laws.{CreatedReachesFar}
use Rattle.law_order.specs.Below.law_opening.Log.Maps.{opening_map}
use Rattle.law_order.specs.OneHistory.EachLife.{InEachLife, IsLife, Life}
use Rattle.law_order.specs.Prefix.Law.{AreLives, BeginsBehind, BeginsWithKept, HoldsPrefix, LivesFollow, LivesReachFar, MayBeFound, RecoversPrefix, calls_so_far, first_of, kept_of_all, map_of, points_of}
use Rattle.law_order.specs.Tickets.Few.{HasFewCalls, calls_in}
use Rattle.law_program.specs.PlayedCalls.AllLives.{AreShown, ArmsShown, CrashTaken, CrashesEndLives, EndsLife, EndsLifeWhere, IsPieceOverLives, NewStoresAreShown, PieceFits, ReportsAllKept, ReportsOverLives, RunInLives, RunsOverLives, Shows, SweepsNone, crash_in, struck_in, with_events}
use Rattle.law_program.specs.PlayedCalls.EachLine.{IsLifeOver}
use Rattle.law_program.specs.PlayedCalls.FewCalls.{ArmsKeepSeats, HasFewSeats, begun_in, left_in, most_of_finish}
use Rattle.law_program.specs.PlayedCalls.Interleaved.{AreAll, AreFitting, FittingCallsMakeQueues, HasNoTrim, IsNoTrim, QueuesAre, QueuesFit, QuietLivesAreShown}
use Rattle.law_program.specs.PlayedCalls.Noted.{AreIdle, AreNoted, ArmsKeepNotes, CallsMakeIdleQueues, FinishesAreNoted, GroupsAreNoted, HasNotedOn}
use Rattle.law_program.proofs.OfPlayedCalls.Checked.{agrees, kept_so, noted_armed, noted_first, noted_next, noted_on, still_agrees}
use Rattle.law_program.specs.PlayedCalls.Lives.{LivesBegin, fuse_may_leave, fuse_seen}
use Rattle.law_program.proofs.OfPlayedCalls.CrashReports.{only_device}
use Rattle.law_program.proofs.OfPlayedCalls.FewCalls.{calls_grow, finish_counted, queues_counted}
use Rattle.law_order.proofs.OfPrefix.Forgotten.{as_left}
use Rattle.law_program.proofs.OfPlayedCalls.FewSeats.{begin_seats, few_still, finish_seats, group_seats}
use Rattle.law_program.proofs.OfPlayedCalls.Interleaved.{queues_all}
use Rattle.law_program.proofs.OfPlayedCalls.Lives.{armed_leaves}
use Rattle.law_program.proofs.OfPlayedCalls.NewStores.{PairsAreMap}
use Rattle.law_program.proofs.OfPlayedCalls.Runs.{both_ways}

-- ---- a life that goes on begins as it did
begins_still : (its : Life) (events : List Event) (before : List Life) → BeginsBehind its before → BeginsBehind (with_events its events) before
begins_still its events [] begins = begins
begins_still its events (last ∷ before) begins = begins

-- what laws of others say, by which this one goes
pub record ByLaws {D : Type 0} (seen : D → List ℕ) (medium : Medium D) : Type 0 where
  pub groups : GroupsAreNoted seen medium.may_leave medium.engine
  pub finishes : FinishesAreNoted seen medium.may_leave medium.engine
  pub queues : FittingCallsMakeQueues
  pub idle : CallsMakeIdleQueues
  pub quiet : QuietLivesAreShown seen medium.may_leave
  pub begin : LivesBegin seen medium.may_leave medium.holds
  pub pairs : PairsAreMap
  pub recovers : InEachLife RecoversPrefix
  pub follow : LivesFollow
  pub reach : LivesReachFar
  pub past : (opening : World) (events : List Event) → (run opening events).past.opened ≡ opening.past.opened
  pub arms : ArmsShown seen medium.may_leave medium.armed
  pub seats : ArmsKeepSeats medium.armed
  pub arms_noted : ArmsKeepNotes medium.armed
  pub nothing : (shape : Shape) (image : List ℕ) (opened : Opened) → IsCreated shape image → IsStoreOf image opened → opening_map image opened ≡ empty

module _ {D : Type 0} (seen : D → List ℕ) (medium : Medium D) (settings : Settings) (laws : ByLaws seen medium) where
  -- ---- a crash
  abbrev Ends : Type 0 → RunInLives D → RunInLives D → Bool → CrashTaken D → Type 0
  Ends NoTrim before after over crash = EndsLife seen medium.may_leave medium settings NoTrim before after over crash

  life_of : (its : Life) (player : PlayerState D) → Shows seen medium.may_leave its player → HasFewCalls its.events → IsLife its
  life_of its player shown few = record { store = shown.store; begins = shown.opening; fits = shown.fits; few = few }

  left_of : (its : Life) (player : PlayerState D) (image : List ℕ) → Shows seen medium.may_leave its player → medium.may_leave player.world.device image → MayBeFound its.bytes (calls_so_far its.world its.bytes its.events) image
  left_of its player image shown left =
      let device = shown.device in
      as_left its.bytes (calls_so_far its.world its.bytes its.events) image
      (subst (λ (x : List ℕ). MayLeave x (calls_so_far its.world its.bytes its.events) image) (laws.past (beginning its.world its.bytes) its.events) (device.leaves image left))

  abbrev NotesAll : Life → List Life → PlayerState D → Type 0
  NotesAll its before player = AreNoted settings.checks its before player

  on_with : (its : Life) (events : List Event) (before : List Life) (old player : PlayerState D) → AreShown seen medium.may_leave settings.checks its before old → Shows seen medium.may_leave (with_events its events) player → HasFewCalls events → HasFewSeats player → NotesAll (with_events its events) before player
      → AreShown seen medium.may_leave settings.checks (with_events its events) before player
  on_with its events before old player were shown few seats noted = record { shown = shown; few = few; seats = seats; noted = noted; begins = begins_still its events before were.begins; lives = were.lives }

  lives_so_far : (last : Life) (before : List Life) (player : PlayerState D) → AreShown seen medium.may_leave settings.checks last before player → AreLives (last ∷ before)
  lives_so_far last before player are = (life_of last player are.shown are.few, are.begins, are.lives)

  prefix_of : (last : Life) (before : List Life) (player : PlayerState D) (image : List ℕ) → AreShown seen medium.may_leave settings.checks last before player → medium.may_leave player.world.device image
      → HoldsPrefix last.opened last.world last.bytes last.events image
  prefix_of last before player image are left =
      laws.recovers last (life_of last player are.shown are.few) (laws.reach last before (lives_so_far last before player are)) image (left_of last player image are.shown left)

  record CrashOn (last : Life) (before : List Life) (crash : CrashTaken D) (over : Bool) : Type 0 where
    next : Life
    report : over ≡ false → ReportsAllKept seen medium.may_leave medium settings last before next crash
    refusal : over ≡ true → crash.report ≡ last_refusal fault.Device
    begun : over ≡ false → calls_in next.events ≡ 0
    unswept : over ≡ false → (let behind = crash.behind in SweepsNone next behind.player)
    shown : over ≡ false → AreShown seen medium.may_leave settings.checks next (last ∷ before) crash.behind.player

  crash_on : (last : Life) (before : List Life) (struck behind : RunState D) (over : Bool) (text : List ℕ) → AreShown seen medium.may_leave settings.checks last before struck.player → IsCrashed medium settings struck behind over text
      → CrashOn last before (record { struck = struck; behind = behind; report = text }) over
  crash_on last before struck behind over text are crashed = by_over over refl
    where
      image : List ℕ
      image = medium.image struck.player.world.device settings.torn

      holds : HoldsPrefix last.opened last.world last.bytes last.events image
      holds = prefix_of last before struck.player image are crashed.left

      by_over : (c : Bool) → over ≡ c → CrashOn last before (record { struck = struck; behind = behind; report = text }) over
      by_over true e = record {
        next = last;
        report = λ goes. both_ways over goes e;
        refusal = λ stops. let its = crashed.refusal stops in only_device image text its.0 holds.faultless its.1 its.2 its.3;
        begun = λ goes. both_ways over goes e;
        unswept = λ goes. both_ways over goes e;
        shown = λ goes. both_ways over goes e;
      }
      by_over false e =
          let its = crashed.crash e in
          let crash = its.1 in
          let next : Life = record { bytes = image; opened = crash.opened; world = behind.player.world.now; events = [] } in
          let over_it : IsLifeOver seen medium.may_leave image crash.opened behind.player.world.now [] behind.player
          = laws.begin image crash.opened crash.device (kept_behind settings.checks struck.player.history crash.opened) settings.checks behind.player crash.recovered.store crash.reads crash.begins in
          let quiet = laws.quiet image crash.opened behind.player.world.now [] behind.player over_it in
          let left : MayBeFound last.bytes (calls_so_far last.world last.bytes last.events) image = left_of last struck.player image are.shown crashed.left in
          let shows = laws.pairs image crash.opened crash.recovered.store crash.pairs crash.recovered.are_pairs in
          record {
            next = next;
            report = λ goes.
                let kept_so_far = holds.each crash.opened crash.recovered.store in
                let all : BeginsWithKept next (last ∷ before) = laws.follow next (last ∷ before) (life_of next behind.player quiet.0 quiet.1, left, lives_so_far last before struck.player are) in
                let says : its.0 ≡ true
                = agrees (log_of_store image crash.opened crash.recovered.store) crash.pairs settings.checks its.0 (kept struck.player.history crash.opened.points.items) (map_of (first_of last before)) crash.recovered.are_pairs crash.checked
                are.noted.from_nothing
                (λ on. shows ∙ (all.pairs ∙ ap (content (map_of (first_of last before))) (sym (kept_so settings.checks image crash.opened crash.device last before struck.player are.noted on)))) in
                record {
                  report = record {
                    opened = crash.opened;
                    pairs = crash.pairs;
                    says = crash.says ∙ ap (crash_text settings.checks crash.opened crash.pairs) says;
                    commit = holds.commit;
                    current = holds.current;
                    kept = kept_so_far;
                    shows = shows ∙ kept_so_far.pairs;
                    begins = over_it;
                    reaches = holds.reaches;
                  };
                  counted = still_agrees struck.agrees its.0 behind.agrees its.2 says;
                  bytes = refl;
                  opened = refl;
                  shows = shows ∙ all.pairs;
                  all = all;
                };
            refusal = λ stops. both_ways over e stops;
            begun = λ goes. refl;
            unswept = λ goes. (tt, over_it.begins refl);
            shown = λ goes. record {
              shown = quiet.0;
              few = quiet.1;
              seats = begin_seats crash.opened crash.device (kept_behind settings.checks struck.player.history crash.opened) settings.checks behind.player crash.begins;
              noted = noted_next settings.checks image crash.opened crash.device last before struck.player behind.player are.noted crash.begins;
              begins = left;
              lives = lives_so_far last before struck.player are;
            };
          }

  -- so is the next life, however it goes on
  kept_on : (last : Life) (before : List Life) (next : Life) (crash : CrashTaken D) (events : List Event) → ReportsAllKept seen medium.may_leave medium settings last before next crash
      → ReportsAllKept seen medium.may_leave medium settings last before (with_events next events) crash
  kept_on last before next crash events its =
      let all = its.all in
      record { report = its.report; counted = its.counted; bytes = its.bytes; opened = its.opened; shows = its.shows; all = record { pairs = all.pairs; legal = all.legal; whole = all.whole } }

  -- ---- a piece
  record PieceOn (piece : Piece) (before : RunInLives D) (behind : RunState D) (over : Bool) (text : List ℕ) : Type 0 where
    its : Life
    lives : List Life
    agrees : over ≡ false → behind.agrees ≡ (let run = before.run in run.agrees)
    says : IsPieceOverLives seen medium.may_leave medium settings piece before (record { its = its; before = lives; run = behind }) over text
    counted : over ≡ false → calls_in its.events ≤ calls_in before.its.events + begun_in piece
    shown : over ≡ false → AreShown seen medium.may_leave settings.checks its lives behind.player

  -- few calls have begun with those of this piece
  abbrev HasFewBy : Piece → RunInLives D → Type 0
  HasFewBy piece before = calls_in before.its.events + begun_in piece < 2 ^ 64 - 1

  abbrev AreNow : RunInLives D → Type 0
  AreNow before = AreShown seen medium.may_leave settings.checks before.its before.before before.run.player

  -- these events go on from those of the life in hand
  abbrev GrowsTo : RunInLives D → List Event → Type 0
  GrowsTo before events = (since : List Event) × (events ≡ since ++ before.its.events)

  -- where no call is a trim it stays unswept
  abbrev StaysUnswept : Type 0 → RunInLives D → List Event → PlayerState D → Type 0
  StaysUnswept NoTrim before events player = NoTrim → (let run = before.run in SweepsNone before.its run.player) → SweepsNone (with_events before.its events) player

  stays : (piece : Piece) (before : RunInLives D) (behind : RunState D) (over : Bool) (text : List ℕ) (played : IsPiece medium settings piece before.run behind over text) → AreNow before
      → struck_in seen medium.may_leave medium settings piece before.run behind over text played ≡ false → (events : List Event) → GrowsTo before events → Shows seen medium.may_leave (with_events before.its events) behind.player
      → StaysUnswept (HasNoTrim piece) before events behind.player → calls_in events ≤ calls_in before.its.events + begun_in piece → HasFewBy piece before → HasFewSeats behind.player → NotesAll (with_events before.its events) before.before behind.player → behind.agrees ≡ before.run.agrees → PieceOn piece before behind over text
  stays piece before behind over text played were none events grows shown unswept counted few seats noted agree =
      let after : RunInLives D = record { its = with_events before.its events; before = before.before; run = behind } in
      record {
        its = with_events before.its events;
        lives = before.before;
        says = (
          played,
          subst (λ (x : Bool). EndsLifeWhere seen medium.may_leave medium settings x (HasNoTrim piece) before after over (crash_in seen medium.may_leave medium settings piece before.run behind over text played)) (sym none)
              (record { events = events; since = grows.0; grown = grows.1; same = refl; lives = refl; shown = shown; unswept = unswept }),
        );
        counted = λ goes. counted;
        agrees = λ goes. agree;
        shown = λ goes. on_with before.its events before.before before.run.player behind.player were shown (omega (arith, counted, few)) seats noted;
      }

  record Ended (NoTrim : Type 0) (before : RunInLives D) (behind : RunState D) (over : Bool) (crash : CrashTaken D) (begun : ℕ) : Type 0 where
    its : Life
    lives : List Life
    agrees : over ≡ false → behind.agrees ≡ (let struck = crash.struck in struck.agrees)
    ends : Ends NoTrim before (record { its = its; before = lives; run = behind }) over crash
    counted : over ≡ false → calls_in its.events ≤ begun
    shown : over ≡ false → AreShown seen medium.may_leave settings.checks its lives behind.player

  ended : (NoTrim : Type 0) (before : RunInLives D) (events : List Event) (struck behind : RunState D) (over : Bool) (text : List ℕ) → AreNow before → GrowsTo before events → Shows seen medium.may_leave (with_events before.its events) struck.player
      → StaysUnswept NoTrim before events struck.player → HasFewCalls events → HasFewSeats struck.player → NotesAll (with_events before.its events) before.before struck.player → IsCrashed medium settings struck behind over text → Ended NoTrim before behind over (record { struck = struck; behind = behind; report = text }) 0
  ended NoTrim before events struck behind over text were grows shown unswept few seats noted crashed =
      let on = crash_on (with_events before.its events) before.before struck behind over text (on_with before.its events before.before before.run.player struck.player were shown few seats noted) crashed in
      record {
        its = on.next;
        lives = with_events before.its events ∷ before.before;
        ends = record { events = events; since = grows.0; grown = grows.1; shown = shown; unswept = unswept; next_unswept = λ goes none. on.unswept goes; report = on.report; refusal = on.refusal; lives = λ goes. refl };
        counted = λ goes. let none = on.begun goes in omega (arith, none);
        agrees = λ goes. let report = on.report goes in report.counted;
        shown = on.shown;
      }

  of_ended : (piece : Piece) (before : RunInLives D) (behind : RunState D) (over : Bool) (text : List ℕ) (begun : ℕ) (played : IsPiece medium settings piece before.run behind over text)
      → struck_in seen medium.may_leave medium settings piece before.run behind over text played ≡ true → Ended (HasNoTrim piece) before behind over (crash_in seen medium.may_leave medium settings piece before.run behind over text played) begun
      → begun ≤ calls_in before.its.events + begun_in piece
      → (let crash = crash_in seen medium.may_leave medium settings piece before.run behind over text played in let was = crash.struck in was.agrees ≡ before.run.agrees) → PieceOn piece before behind over text
  of_ended piece before behind over text begun played struck end few same =
      let after : RunInLives D = record { its = end.its; before = end.lives; run = behind } in
      record {
        its = end.its;
        lives = end.lives;
        says =
            (played, subst (λ (x : Bool). EndsLifeWhere seen medium.may_leave medium settings x (HasNoTrim piece) before after over (crash_in seen medium.may_leave medium settings piece before.run behind over text played)) (sym struck) end.ends);
        counted = λ goes. let counted = end.counted goes in omega (arith, counted, few);
        agrees = λ goes. end.agrees goes ∙ same;
        shown = end.shown;
      }

  -- ---- a group
  abbrev NotesKept : Life → List Life → List HistoryEntry
  NotesKept its before = kept_of_all (points_of its) before

  abbrev HasNoted : Life → List Life → ℕ → PlayerState D → PlayerState D → List QueueState → List QueueState → Type 0
  HasNoted its before to_begin player after queues left = HasNotedOn seen medium.may_leave (NotesKept its before) its.bytes its.opened its.world its.events to_begin player after queues left

  group_gone : (its : Life) (lives : List Life) (before after : PlayerState D) (queues left : List QueueState) (struck : Bool) (text : List ℕ) → AreShown seen medium.may_leave settings.checks its lives before → QueuesFit queues → AreIdle queues
      → IsGroup medium.engine (record { player = before; queues = queues }) (record { player = after; queues = left }) struck text → HasNoted its lives (left_in queues) before after queues left
  group_gone its lives before after queues left struck text were fit idle group =
      laws.groups (NotesKept its lives) its.bytes its.opened its.world its.events before after queues left struck text were.shown were.noted.life fit idle group

  -- so the life that has gone on is shown
  gone_shown : (its : Life) (lives : List Life) (to_begin : ℕ) (before after : PlayerState D) (queues left : List QueueState) → AreShown seen medium.may_leave settings.checks its lives before → (on : HasNoted its lives to_begin before after queues left)
      → HasFewCalls on.gone.later → HasFewSeats after → AreShown seen medium.may_leave settings.checks (with_events its on.gone.later) lives after
  gone_shown its lives to_begin before after queues left were on few seats =
      let gone = on.gone in on_with its gone.later lives before after were gone.shown few seats (noted_on settings.checks its gone.later lives before after were.noted on.keeps on.noted)

  module _ (calls : List ActorCall) (before : RunInLives D) (behind : RunState D) (over : Bool) (text : List ℕ) (were : AreNow before) (fit : AreFitting calls) (few : calls_in before.its.events + length calls < 2 ^ 64 - 1) (played : IsGroupPlayed medium settings calls before.run behind over text) where
    on_so_far : HasNoted before.its before.before (left_in played.queues) before.run.player played.leg.player played.queues played.left
    on_so_far = group_gone before.its before.before before.run.player played.leg.player played.queues played.left played.leg.struck played.leg.said were (laws.queues calls played.queues fit played.are_queues)
        (laws.idle calls played.queues played.are_queues) played.leg.part

    abbrev struck_life : Life
    struck_life = let gone = on_so_far.gone in with_events before.its gone.later

    begun : left_in played.queues ≤ length calls
    begun = queues_counted calls played.queues played.are_queues

    few_gone : HasFewCalls struck_life.events
    few_gone = let gone = on_so_far.gone in let counted = gone.counted in let most = begun in omega (arith, counted, most, few)

    no_trims : AreAll IsNoTrim calls → QueuesAre IsNoTrim played.queues
    no_trims none = queues_all IsNoTrim calls played.queues none played.are_queues

    unswept_gone : AreAll IsNoTrim calls → SweepsNone before.its before.run.player → SweepsNone struck_life played.leg.player
    unswept_gone none = let gone = on_so_far.gone in gone.unswept (no_trims none)

    seats_gone : HasFewSeats played.leg.player
    seats_gone =
        few_still before.run.player played.leg.player
        (group_seats medium.engine (record { player = before.run.player; queues = played.queues }) (record { player = played.leg.player; queues = played.left }) played.leg.struck played.leg.said played.leg.part) were.seats

    are_so_far : AreShown seen medium.may_leave settings.checks struck_life before.before played.leg.player
    are_so_far = gone_shown before.its before.before (left_in played.queues) before.run.player played.leg.player played.queues played.left were on_so_far few_gone seats_gone

    -- where no crash strikes its rest is played in the life in hand
    record Stayed : Type 0 where
      events : List Event
      grows : GrowsTo before events
      shown : Shows seen medium.may_leave (with_events before.its events) behind.player
      unswept : StaysUnswept (AreAll IsNoTrim calls) before events behind.player
      counted : calls_in events ≤ calls_in before.its.events + length calls
      seats : HasFewSeats behind.player
      noted : NotesAll (with_events before.its events) before.before behind.player
      agrees : behind.agrees ≡ before.run.agrees

    group_stays : played.leg.struck ≡ false → Stayed
    group_stays none =
        let same : RunState D = record { player = played.leg.player; agrees = before.run.agrees } in
        let calm = subst (λ (x : Bool). IsCrashedWhere x medium settings same played.between over played.leg.reported) none played.leg.crashed in
        let rest = played.goes_on calm.1 in
        let gone = on_so_far.gone in
        let begun_so : AreShown seen medium.may_leave settings.checks struck_life before.before played.between.player
        = subst (λ (x : RunState D). AreShown seen medium.may_leave settings.checks struck_life before.before x.player) (sym calm.0) are_so_far in
        let noted = group_gone struck_life before.before played.between.player behind.player played.left rest.0 false played.rest begun_so gone.fit on_so_far.idle rest.1 in
        let on = noted.gone in
        let first_part = gone.counted in
        let rest_part = on.counted in
        let most = begun in
        record {
          events = on.later;
          grows = (on.since ++ gone.since, on.grown ∙ ap (λ (xs : List Event). on.since ++ xs) gone.grown ∙ sym (append_assoc on.since gone.since before.its.events));
          shown = on.shown;
          unswept = λ none was. on.unswept (gone.no_trims (no_trims none)) (subst (λ (x : RunState D). SweepsNone struck_life x.player) (sym calm.0) (unswept_gone none was));
          counted = omega (arith, first_part, rest_part, most);
          seats =
              few_still played.between.player behind.player
              (group_seats medium.engine (record { player = played.between.player; queues = played.left }) (record { player = behind.player; queues = rest.0 }) false played.rest rest.1)
              (subst (λ (x : RunState D). HasFewSeats x.player) (sym calm.0) seats_gone);
          noted = noted_on settings.checks struck_life on.later before.before played.between.player behind.player begun_so.noted noted.keeps noted.noted;
          agrees = rest.2 ∙ ap (λ (x : RunState D). x.agrees) calm.0;
        }

    -- where one strikes, in the next one
    abbrev its_crash : CrashTaken D
    its_crash = record { struck = record { player = played.leg.player; agrees = before.run.agrees }; behind = played.between; report = played.leg.reported }

    group_ends : played.leg.struck ≡ true → Ended (AreAll IsNoTrim calls) before behind over its_crash (length calls)
    group_ends struck = by_over over refl
      where
        same : RunState D
        same = record { player = played.leg.player; agrees = before.run.agrees }

        last : Life
        last = struck_life

        crashed : IsCrashed medium settings same played.between over played.leg.reported
        crashed = subst (λ (x : Bool). IsCrashedWhere x medium settings same played.between over played.leg.reported) struck played.leg.crashed

        on : CrashOn last before.before its_crash over
        on = crash_on last before.before same played.between over played.leg.reported are_so_far crashed

        by_over : (c : Bool) → over ≡ c → Ended (AreAll IsNoTrim calls) before behind over its_crash (length calls)
        by_over true e = record {
          its = on.next;
          lives = last ∷ before.before;
          ends = (let gone = on_so_far.gone in record { events = gone.later; since = gone.since; grown = gone.grown; shown = gone.shown; unswept = unswept_gone; next_unswept = λ goes. both_ways over goes e; report = on.report; refusal = on.refusal; lives = λ goes. refl });
          counted = λ goes. both_ways over goes e;
          agrees = λ goes. both_ways over goes e;
          shown = λ goes. both_ways over goes e;
        }
        by_over false e =
            let rest = played.goes_on e in
            let begins = on.shown e in
            let gone = on_so_far.gone in
            let noted = group_gone on.next (last ∷ before.before) played.between.player behind.player played.left rest.0 false played.rest begins gone.fit on_so_far.idle rest.1 in
            let later = noted.gone in
            let none = on.begun e in
            let first_part = gone.counted in
            let rest_part = later.counted in
            let grown = calls_grow gone.since before.its.events gone.later gone.grown in
            let most = begun in
            let counted : calls_in later.later ≤ length calls = omega (arith, none, first_part, rest_part, grown, most) in
            record {
              its = with_events on.next later.later;
              lives = last ∷ before.before;
              ends = record {
                events = gone.later;
                since = gone.since;
                grown = gone.grown;
                shown = gone.shown;
                unswept = unswept_gone;
                next_unswept = λ goes none. later.unswept (gone.no_trims (no_trims none)) (on.unswept e);
                report = λ goes. kept_on last before.before on.next its_crash later.later (on.report goes);
                refusal = on.refusal;
                lives = λ goes. refl;
              };
              counted = λ goes. counted;
              agrees = λ goes. rest.2 ∙ (let report = on.report e in report.counted);
              shown = λ goes. gone_shown on.next (last ∷ before.before) (left_in played.left) played.between.player behind.player played.left rest.0 begins noted (omega (arith, counted, few))
                  (few_still played.between.player behind.player
                  (group_seats medium.engine (record { player = played.between.player; queues = played.left }) (record { player = behind.player; queues = rest.0 }) false played.rest rest.1) begins.seats);
            }

  -- ---- each piece
  piece_on : (piece : Piece) (before : RunInLives D) (behind : RunState D) (over : Bool) (text : List ℕ) → AreNow before → PieceFits piece → HasFewBy piece before
      → IsPiece medium settings piece before.run behind over text → PieceOn piece before behind over text
  piece_on (Group calls) before behind over text were fit few played = by_struck played.leg.struck refl
    where
      by_struck : (c : Bool) → played.leg.struck ≡ c → PieceOn (Group calls) before behind over text
      by_struck false none =
          let on = group_stays calls.items before behind over text were fit few played none in
          stays (Group calls) before behind over text played were none on.events on.grows on.shown on.unswept on.counted few on.seats on.noted on.agrees
      by_struck true struck =
          of_ended (Group calls) before behind over text (length calls.items) played struck (group_ends calls.items before behind over text were fit few played struck) (omega arith) refl
  piece_on Finish before behind over text were fit few leg = by_struck leg.struck refl
    where
      same : RunState D
      same = record { player = leg.player; agrees = before.run.agrees }

      on_so_far : HasNoted before.its before.before (length (rounds most_rounds (round_of before.run.player.seats))) before.run.player leg.player [] []
      on_so_far = laws.finishes (NotesKept before.its before.before) before.its.bytes before.its.opened before.its.world before.its.events before.run.player leg.player leg.part.0 leg.said were.shown were.noted.life leg.part.1

      later : List Event
      later = let gone = on_so_far.gone in gone.later

      grows : GrowsTo before later
      grows = let gone = on_so_far.gone in (gone.since, gone.grown)

      unswept_gone : StaysUnswept ⊤ before later leg.player
      unswept_gone = let gone = on_so_far.gone in gone.unswept

      counted : calls_in later ≤ calls_in before.its.events + most_of_finish
      counted = let gone = on_so_far.gone in let so = gone.counted in let most = finish_counted before.run.player.seats were.seats in omega (arith, so, most)

      seats : HasFewSeats leg.player
      seats = few_still before.run.player leg.player (finish_seats medium.engine (phase_shown before.run.player.world.now).0 before.run.player leg.player leg.part.0 leg.said leg.part.1) were.seats

      are_so_far : AreShown seen medium.may_leave settings.checks (with_events before.its later) before.before leg.player
      are_so_far = gone_shown before.its before.before (length (rounds most_rounds (round_of before.run.player.seats))) before.run.player leg.player [] [] were on_so_far (omega (arith, counted, few)) seats

      by_struck : (c : Bool) → leg.struck ≡ c → PieceOn Finish before behind over text
      by_struck false none =
          let calm = subst (λ (x : Bool). IsCrashedWhere x medium settings same behind over leg.reported) none leg.crashed in
          let are = subst (λ (x : RunState D). AreShown seen medium.may_leave settings.checks (with_events before.its later) before.before x.player) (sym calm.0) are_so_far in
          stays Finish before behind over text leg were none later grows are.shown (λ no was. subst (λ (x : RunState D). SweepsNone (with_events before.its later) x.player) (sym calm.0) (unswept_gone no was)) counted few are.seats are.noted (ap (λ (x : RunState D). x.agrees) calm.0)
      by_struck true struck =
          let crashed = subst (λ (x : Bool). IsCrashedWhere x medium settings same behind over leg.reported) struck leg.crashed in
          of_ended Finish before behind over text 0 leg struck (ended ⊤ before later same behind over leg.reported were grows are_so_far.shown unswept_gone are_so_far.few are_so_far.seats are_so_far.noted crashed) (omega arith) refl
  piece_on Crash before behind over text were fit few crashed =
      of_ended Crash before behind over text 0 crashed refl (ended ⊤ before before.its.events before.run behind over text were ([], refl) were.shown (λ none was. was) were.few were.seats were.noted crashed) (omega arith) refl
  piece_on (CrashAt count) before behind over text were fit few line =
      stays (CrashAt count) before behind over text line were refl before.its.events ([], refl) (laws.arms _ _ before.its before.run.player behind.player line.armed were.shown)
      (λ none was. (was.0, (let same = laws.arms_noted _ _ before.run.player behind.player line.armed in same.sweeps) ∙ was.1)) (omega arith) few
      (few_still before.run.player behind.player (ap length (laws.seats _ _ before.run.player behind.player line.armed)) were.seats)
      (noted_armed settings.checks before.its before.before before.run.player behind.player were.noted (laws.arms_noted _ _ before.run.player behind.player line.armed)) line.keeps_agreeing
  piece_on (FailAt count) before behind over text were fit few line =
      stays (FailAt count) before behind over text line were refl before.its.events ([], refl) (laws.arms _ _ before.its before.run.player behind.player line.armed were.shown)
      (λ none was. (was.0, (let same = laws.arms_noted _ _ before.run.player behind.player line.armed in same.sweeps) ∙ was.1)) (omega arith) few
      (few_still before.run.player behind.player (ap length (laws.seats _ _ before.run.player behind.player line.armed)) were.seats)
      (noted_armed settings.checks before.its before.before before.run.player behind.player were.noted (laws.arms_noted _ _ before.run.player behind.player line.armed)) line.keeps_agreeing

  -- ---- one behind the other
  runs_over : RunsOverLives seen medium.may_leave medium settings
  runs_over [] before last over text were fit few played = record {
    its = before.its;
    lives = before.before;
    agrees = λ goes. ap (λ (x : RunState D). x.agrees) played.0;
    played = (ap (λ (x : RunState D). record { its = before.its; before = before.before; run = x }) played.0, played.1, played.2);
    shown = λ goes. subst (λ (x : RunState D). AreShown seen medium.may_leave settings.checks before.its before.before x.player) (sym played.0) were;
  }
  runs_over (piece ∷ []) before last over text were fit few played =
      let one = piece_on piece before last over text were fit.0 (omega (arith, few)) played in record { its = one.its; lives = one.lives; played = one.says; shown = one.shown; agrees = one.agrees }
  runs_over (piece ∷ other ∷ later) before last over text were fit few played =
      let one = piece_on piece before played.0 false played.1 were fit.0 (omega (arith, few)) played.3 in
      let mid : RunInLives D = record { its = one.its; before = one.lives; run = played.0 } in
      let counted = one.counted refl in
      let rest = runs_over (other ∷ later) mid last over played.2 (one.shown refl) fit.1 (omega (arith, few, counted)) played.4 in
      record { its = rest.its; lives = rest.lives; played = (mid, played.1, played.2, one.says, rest.played, played.5); shown = rest.shown; agrees = λ goes. rest.agrees goes ∙ one.agrees refl }

  crashes_end : CrashesEndLives seen medium.may_leave medium settings
  crashes_end before behind over text were crashed =
      let end = ended ⊤ before before.its.events before.run behind over text were ([], refl) were.shown (λ none was. was) were.few were.seats were.noted crashed in (end.its, end.lives, end.ends)

  begin_shown : CreatedReachesFar → NewStoresAreShown seen medium.may_leave medium settings
  begin_shown far shape image opened device player created store holds begins =
      let quiet = laws.quiet image opened player.world.now [] player (laws.begin image opened device [] settings.checks player store holds begins) in
      record {
        shown = quiet.0;
        few = quiet.1;
        seats = begin_seats opened device [] settings.checks player begins;
        noted = noted_first settings.checks image opened device player begins (laws.nothing shape image opened created store);
        begins = far shape image created;
        lives = tt;
      }

pub all_lives : {D : Type 0} (seen : D → List ℕ) (medium : Medium D) (settings : Settings) → ByLaws seen medium → CreatedReachesFar → ReportsOverLives seen medium.may_leave medium settings
all_lives seen medium settings laws far = record { begin = begin_shown seen medium settings laws far; runs = runs_over seen medium settings laws; crashes = crashes_end seen medium settings laws }

-- ---- a fuse that is armed
pub arming_shown : {D : Type 0} (seen : D → List ℕ) (may_leave : D → List ℕ → Type 0) → ArmsShown (fuse_seen seen) (fuse_may_leave may_leave) IsArmed
arming_shown {D} seen may_leave count waits its before after armed shown =
    let device = shown.device in
    record {
      store = shown.store;
      opening = shown.opening;
      fits = shown.fits;
      shows = shown.shows ∙ sym armed.now;
      begins = λ none. ap (λ (x : PlayerState (Fuse D)). x.sweeps) armed.same ∙ shown.begins none;
      device = record {
        reads = subst (λ (x : D). ReadsAs (run (beginning its.world its.bytes) its.events).past.opened (run (beginning its.world its.bytes) its.events).past.calls (seen x)) (sym armed.device) device.reads;
        leaves = λ image left. device.leaves image
            (armed_leaves count (fuse_state before.world.device) (may_leave (fuse_device before.world.device)) image
            (subst (λ (x : FuseState). FuseLeaves x (may_leave (fuse_device before.world.device)) image) armed.state
            (subst (λ (x : D). FuseLeaves (fuse_state after.world.device) (may_leave x) image) armed.device left)));
      };
    }
