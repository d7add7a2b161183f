-- A run goes on piece by piece, in the life in hand or behind a crash in the next one.
use Rattle.std.proofs.Common.{◌≡◌, ◌∙◌, ◌⊎◌, ◌+◌, ◌-◌, ◌^◌, ◌<◌, ◌≤◌, ℕ, zero, suc, List, [], ◌∷◌, ◌++◌, Bool, true, false, ap, arith, inl, inr, length, map, refl, sym, subst, take}
use Rattle.std.specs.Prelude.{⊤, Option, Some, None, slice_get}
use Rattle.std.proofs.lemmas.List.{append-nil}
use Rattle.fkv_epoch.proofs.Shown.{none_some, some_same}
use Rattle.fkv_runs.specs.Below.fkv_playing.Finishes.{most_rounds, round_of, rounds}
use Rattle.fkv_runs.specs.Below.fkv_playing.Groups.{GroupState, IsGroup, is_struck_by}
use Rattle.fkv_runs.specs.Below.fkv_playing.Players.{PlayerState}
use Rattle.fkv_runs.specs.Below.fkv_playing.Queues.{AreQueuesOf, NobodyHasSteps, QueueState, given_up, next_step, step_of}
use Rattle.fkv_runs.specs.Below.fkv_playing.ActorCall.{ActorCall}
use Rattle.fkv_runs.specs.Below.fkv_playing.ActorCall.TheVariants.{Session, Commit, Trim, Turn}
use Rattle.fkv_runs.specs.Below.fkv_playing.Outcome.{Outcome}
use Rattle.fkv_runs.specs.Below.fkv_playing.Outcome.TheVariants.{Answered, Closed, GoesOn, Struck}
use Rattle.fkv_runs.specs.Below.fkv_playing.Stage.TheVariants as stage
use Rattle.fkv_runs.specs.Below.fkv_playing.Telling.TheVariants.{Finished, Whole}
use Rattle.fkv_runs.specs.Crashes.{IsRefusal}
use Rattle.fkv_runs.specs.Openings.{Medium}
use Rattle.fkv_runs.specs.Runs.{IsCrashed, IsCrashedWhere, IsFinishStruck, IsGroupPlayed, IsLegOf, IsPiece, Prepares, RunState, is_struck_at}
use Rattle.fkv_runs.specs.declared.pieces.Piece.{Piece}
use Rattle.fkv_runs.specs.declared.pieces.Piece.TheVariants.{Group, Finish, Crash, CrashAt, FailAt}
use Rattle.fkv_runs.specs.declared.settings.Settings.{Settings}
use Rattle.fkv_runs.specs.Below.fkv_playing.Waits.{Waits}
use Rattle.law_order.specs.Below.fkv_world.World.{Event}
use Rattle.law_order.specs.Tickets.Few.{calls_in}
use Rattle.law_program.specs.PlayedCalls.EachLine.{EachLineGoesOn, IsFinishInLife, IsLineInLife, IsPlayedInLife, IsRefusedLine, IsUnswept, ItsNumbersFit}
use Rattle.law_program.specs.PlayedCalls.FewCalls.{ArmsKeepSeats, HasFewSeats, begun_in, left_in, most_of_finish}
use Rattle.law_program.specs.PlayedCalls.Lives.{CrashesGoOn}
use Rattle.law_program.specs.PlayedCalls.Interleaved.{AreAll, AreFitting, FinishesGoOn, FittingCallsMakeQueues, GroupsGoOn, HasGoneOn, IsLifeShown, IsNoTrim, QuietLivesAreShown}
use Rattle.law_program.specs.PlayedCalls.Runs.{ArmsInLife, DueIsReported, IsPieceInLives, IsPlain, IsReported, IsShown, LifeInHand, RunsGoOn}
use Rattle.law_program.proofs.OfPlayedCalls.Calm.{unstruck_group}
use Rattle.law_program.proofs.OfPlayedCalls.EachLine.{begun_counted, taken_few}
use Rattle.law_program.proofs.OfPlayedCalls.FewCalls.{all_counted, alone_counted, finish_counted}
use Rattle.law_program.proofs.OfPlayedCalls.FewSeats.{piece_seats}
use Rattle.law_program.proofs.OfPlayedCalls.Interleaved.{queues_all}
use Rattle.law_program.proofs.OfPlayedCalls.OneCall.{EndsSilently, HasOneCall, first_call, none_played, struck_silent}

-- ---- the queues that a crash gives up
step_given_up : (hand : Option ActorCall) (left : List ActorCall) → step_of hand left ≡ None → step_of None left ≡ None
step_given_up None left none = none
step_given_up (Some call) left none = none_some (call, stage.Moves) (sym none)

mapped : (queues : List QueueState) (at : ℕ) (queue : QueueState) → slice_get (map given_up queues) at ≡ Some queue → (was : QueueState) × (slice_get queues at ≡ Some was) × (queue ≡ given_up was)
mapped [] at queue found = cc
mapped (was ∷ later) zero queue found = (was, refl, sym (some_same _ _ found))
mapped (was ∷ later) (suc at) queue found = mapped later at queue found

none_given_up : (queues : List QueueState) → NobodyHasSteps queues → NobodyHasSteps (map given_up queues)
none_given_up queues nobody = λ at queue found. let was = mapped queues at queue found in ap next_step was.2 ∙ step_given_up was.0.hand was.0.left (nobody at was.0 was.1)

same_struck : (outcome : Outcome) → is_struck_at outcome ≡ is_struck_by outcome
same_struck Struck = refl
same_struck GoesOn = refl
same_struck Answered = refl
same_struck Closed = refl

-- a line that is refused leaves the player
refused_same : {D : Type 0} (one : ActorCall) (before after : PlayerState D) (text : List ℕ) → IsRefusedLine one before after text → after ≡ before
refused_same (Session number asked) before after text refused = refused.0
refused_same (Commit kind) before after text refused = absurd refused
refused_same Trim before after text refused = absurd refused
refused_same Turn before after text refused = absurd refused

pub both_ways : {X : Type 0} (over : Bool) → over ≡ false → over ≡ true → X
both_ways over goes stops = let never : false ≡ true = sym goes ∙ stops in cc

module _ {D : Type 0} (seen : D → List ℕ) (may_leave : D → List ℕ → Type 0) (medium : Medium D) (settings : Settings) (each : EachLineGoesOn seen may_leave medium.engine) (crashes : CrashesGoOn seen may_leave medium.holds)
    (arms : ArmsInLife seen may_leave medium.armed) (groups : GroupsGoOn seen may_leave medium.engine) (finishes : FinishesGoOn seen may_leave medium.engine) (quiet : QuietLivesAreShown seen may_leave)
    (fitting : FittingCallsMakeQueues) (leaves : (device : D) (image : List ℕ) → medium.may_leave device image → may_leave device image) (arms_seats : ArmsKeepSeats medium.armed) where
  -- ---- a crash is reported
  record IsCrashSeen (NoTrim : Type 0) (its : LifeInHand) (before after : PlayerState D) (over : Bool) (text : List ℕ) : Type 0 where
    next : LifeInHand
    begun : over ≡ false → calls_in next.events ≡ 0
    crash : IsReported seen may_leave medium settings NoTrim its next before after over text

  abbrev ShowsStruck : LifeInHand → List Event → PlayerState D → Type 0
  ShowsStruck its events player = IsLifeShown seen may_leave its.bytes its.opened its.first events player

  still_shown : (its : LifeInHand) (player : PlayerState D) → IsShown seen may_leave its player → ShowsStruck its its.events player
  still_shown its player shown = (quiet its.bytes its.opened its.first its.events player shown).0

  abbrev StaysUnswept : Type 0 → LifeInHand → PlayerState D → List Event → PlayerState D → Type 0
  StaysUnswept NoTrim its was events player = NoTrim → IsUnswept its.bytes its.first its.events was → IsUnswept its.bytes its.first events player

  crash_seen : (NoTrim : Type 0) (its : LifeInHand) (was : PlayerState D) (events since : List Event) (before after : RunState D) (over : Bool) (text : List ℕ) → events ≡ since ++ its.events → ShowsStruck its events before.player
      → StaysUnswept NoTrim its was events before.player → IsCrashed medium settings before after over text → IsCrashSeen NoTrim its was after.player over text
  crash_seen NoTrim its was events since before after over text grown shown unswept crashed = by_over over refl
    where
      left : may_leave before.player.world.device (medium.image before.player.world.device settings.torn)
      left = leaves before.player.world.device (medium.image before.player.world.device settings.torn) crashed.left

      by_over : (c : Bool) → over ≡ c → IsCrashSeen NoTrim its was after.player over text
      by_over true e = record {
        next = its;
        begun = λ goes. both_ways over goes e;
        crash = record { struck = before.player; events = events; since = since; grown = grown; shown = shown; unswept = unswept; left = left; goes_on = λ goes. both_ways over goes e; ends = λ stops. crashed.refusal stops };
      }
      by_over false e =
          let crash = crashed.crash e in
          let report = crashes (medium.image before.player.world.device settings.torn) settings.checks crash.0 before.player after.player text crash.1 in
          record {
            next = record { bytes = medium.image before.player.world.device settings.torn; opened = report.opened; first = after.player.world.now; events = [] };
            begun = λ goes. refl;
            crash = record { struck = before.player; events = events; since = since; grown = grown; shown = shown; unswept = unswept; left = left; goes_on = λ goes. (crash.0, report, refl); ends = λ stops. both_ways over e stops };
          }

  -- ---- a group of one call
  record GroupGoesOn (one : ActorCall) (its : LifeInHand) (before after : PlayerState D) (over : Bool) (text : List ℕ) : Type 0 where
    goes_on : over ≡ false
    events : List Event
    says : ((events ≡ its.events) × IsRefusedLine one before after text) ⊎ IsPlayedInLife seen may_leave Whole one its.bytes its.opened its.first its.events events before after text
    shown : IsShown seen may_leave (record { bytes = its.bytes; opened = its.opened; first = its.first; events = events }) after
    counted : calls_in events ≤ calls_in its.events + 1

  group_unstruck : (items : List ActorCall) (one : ActorCall) → items ≡ one ∷ [] → ItsNumbersFit one → (its : LifeInHand) (before after : RunState D) (over : Bool) (text : List ℕ) → IsShown seen may_leave its before.player
      → calls_in its.events + 1 < 2 ^ 64 - 1 → (played : IsGroupPlayed medium settings items before after over text) → played.leg.struck ≡ false → GroupGoesOn one its before.player after.player over text
  group_unstruck items one is fit its before after over text shown few played none =
      let group = unstruck_group medium settings items before after over text played none in
      let more = begun_counted one its.events in
      by_line group.goes_on
      (each.calls its.bytes its.opened its.first its.events one group.queues group.left before.player after.player text shown fit (omega (arith, few, more)) (subst (λ (x : List ActorCall). AreQueuesOf x group.queues) is group.are_queues) group.group)
    where
      by_line : over ≡ false → IsRefusedLine one before.player after.player text ⊎ IsLineInLife seen may_leave one its.bytes its.opened its.first its.events before.player after.player text → GroupGoesOn one its before.player after.player over text
      by_line goes (inl refused) =
          record { goes_on = goes; events = its.events; says = inl (refl, refused); shown = subst (IsShown seen may_leave its) (sym (refused_same one before.player after.player text refused)) shown; counted = omega arith }
      by_line goes (inr line) = record { goes_on = goes; events = line.later; says = inr line.played; shown = line.played.goes_on; counted = alone_counted one its.events line.later line.played.alone }

  group_struck : (items : List ActorCall) (one : ActorCall) → items ≡ one ∷ [] → ItsNumbersFit one → (its : LifeInHand) (before after : RunState D) (over : Bool) (text : List ℕ) → IsShown seen may_leave its before.player
      → (played : IsGroupPlayed medium settings items before after over text) → played.leg.struck ≡ true → IsCrashSeen (AreAll IsNoTrim items) its before.player after.player over text
  group_struck items one is fit its before after over text shown played struck = by_over over refl
    where
      part : IsGroup medium.engine (record { player = before.player; queues = played.queues }) (record { player = played.leg.player; queues = played.left }) true played.leg.said
      part = subst (λ (x : Bool). IsGroup medium.engine (record { player = before.player; queues = played.queues }) (record { player = played.leg.player; queues = played.left }) x played.leg.said) struck played.leg.part

      place : (at : ℕ) × HasOneCall stage.Begins one at played.queues
      place = first_call one played.queues (subst (λ (x : List ActorCall). AreQueuesOf x played.queues) is played.are_queues)

      ends : EndsSilently medium.engine one (record { player = played.leg.player; queues = part.last }) played.leg.said
      ends = struck_silent medium.engine one part.picks stage.Begins place.0 (record { player = before.player; queues = played.queues }) (record { player = played.leg.player; queues = part.last }) played.leg.said place.1 part.played

      nobody : NobodyHasSteps played.left
      nobody = subst NobodyHasSteps (sym part.queues) (none_given_up part.last ends.none_left)

      crashed : IsCrashed medium settings (record before { player = played.leg.player }) played.between over played.leg.reported
      crashed = subst (λ (x : Bool). IsCrashedWhere x medium settings (record before { player = played.leg.player }) played.between over played.leg.reported) struck played.leg.crashed

      -- the life goes on to the crash
      gone : HasGoneOn seen may_leave its.bytes its.opened its.first its.events (left_in played.queues) before.player played.leg.player played.queues played.left
      gone =
          groups its.bytes its.opened its.first its.events before.player played.leg.player played.queues played.left true played.leg.said (still_shown its before.player shown)
          (fitting items played.queues (subst AreFitting (sym is) (fit, tt)) played.are_queues) part

      unswept : StaysUnswept (AreAll IsNoTrim items) its before.player gone.later played.leg.player
      unswept none = gone.unswept (queues_all IsNoTrim items played.queues none played.are_queues)

      says : played.rest ≡ [] → text ≡ played.leg.reported
      says none =
          played.says ∙ (ap (λ (x : List ℕ). played.first ++ x) none ∙ (append-nil played.first ∙ (played.leg.says ∙ ap (λ (x : List ℕ). x ++ played.leg.reported) ends.silent)))

      by_over : (c : Bool) → over ≡ c → IsCrashSeen (AreAll IsNoTrim items) its before.player after.player over text
      by_over true e = record {
        next = its;
        begun = λ goes. both_ways over goes e;
        crash = record {
          struck = played.leg.player;
          events = gone.later;
          since = gone.since;
          grown = gone.grown;
          shown = gone.shown;
          unswept = unswept;
          left = leaves played.leg.player.world.device (medium.image played.leg.player.world.device settings.torn) crashed.left;
          goes_on = λ goes. both_ways over goes e;
          ends = λ stops. subst (IsRefusal (medium.image played.leg.player.world.device settings.torn)) (sym (says (played.ends e))) (crashed.refusal e);
        };
      }
      by_over false e =
          let behind = played.goes_on e in
          let stays = none_played medium.engine behind.1.picks (record { player = played.between.player; queues = played.left }) (record { player = after.player; queues = behind.1.last }) played.rest nobody behind.1.played in
          let there = crash_seen (AreAll IsNoTrim items) its before.player gone.later gone.since (record before { player = played.leg.player }) played.between over played.leg.reported gone.grown gone.shown unswept crashed in
          record {
            next = there.next;
            begun = there.begun;
            crash =
                subst (IsReported seen may_leave medium settings (AreAll IsNoTrim items) its there.next before.player after.player over) (sym (says stays.1))
                (subst (λ (x : PlayerState D). IsReported seen may_leave medium settings (AreAll IsNoTrim items) its there.next before.player x over played.leg.reported) (sym (ap (λ (x : GroupState D). x.player) stays.0)) there.crash);
          }

  -- ---- a piece
  -- where it goes, and what it says
  record PieceGoesOn (piece : Piece) (its : LifeInHand) (before after : RunState D) (over : Bool) (text : List ℕ) : Type 0 where
    next : LifeInHand
    says : IsPieceInLives seen may_leave medium settings piece its next before after over text
    counted : over ≡ false → calls_in next.events ≤ calls_in its.events + begun_in piece

  finish_few : (its : LifeInHand) (player : PlayerState D) → calls_in its.events + most_of_finish < 2 ^ 64 - 1 → HasFewSeats player → calls_in its.events + length (rounds most_rounds (round_of player.seats)) < 2 ^ 64 - 1
  finish_few its player few seats = let most = finish_counted player.seats seats in omega (arith, few, most)

  finish_unstruck : (its : LifeInHand) (before after : RunState D) (over : Bool) (text : List ℕ) → IsShown seen may_leave its before.player → calls_in its.events + most_of_finish < 2 ^ 64 - 1
      → HasFewSeats before.player
      → (leg : IsLegOf (IsFinishStruck medium) medium settings before after over text) → leg.struck ≡ false → PieceGoesOn Finish its before after over text
  finish_unstruck its before after over text shown little seats leg none =
      let few = finish_few its before.player little seats in
      let stays = subst (λ (x : Bool). IsCrashedWhere x medium settings (record before { player = leg.player }) after over leg.reported) none leg.crashed in
      let calm : is_struck_by leg.part.0 ≡ false = sym (same_struck leg.part.0) ∙ (sym leg.part.2 ∙ none) in
      let finish = each.finishes its.bytes its.opened its.first its.events before.player leg.player leg.part.0 leg.said shown few leg.part.1 calm in
      let text_so : leg.said ≡ text = sym (leg.says ∙ (ap (λ (x : List ℕ). leg.said ++ x) stays.2 ∙ append-nil leg.said)) in
      let here : IsFinishInLife seen may_leave its.bytes its.opened its.first its.events before.player after.player text
      = subst (IsFinishInLife seen may_leave its.bytes its.opened its.first its.events before.player after.player) text_so
      (subst (λ (x : PlayerState D). IsFinishInLife seen may_leave its.bytes its.opened its.first its.events before.player x leg.said) (ap (λ (x : RunState D). x.player) (sym stays.0)) finish) in
      record {
        next = record { bytes = its.bytes; opened = its.opened; first = its.first; events = here.later };
        says = inl (record { goes_on = stays.1; events = here.later; same_life = refl; says = (here, refl); shown = here.goes_on });
        counted = λ goes.
            let played = all_counted seen may_leave Finished (take here.count (rounds most_rounds (round_of before.player.seats))) its.bytes its.opened its.first its.events here.later before.player after.player here.said here.played in
            let taken = taken_few here.count (rounds most_rounds (round_of before.player.seats)) in
            let most = finish_counted before.player.seats seats in
            omega (arith, played, taken, most);
      }

  finish_struck : (its : LifeInHand) (before after : RunState D) (over : Bool) (text : List ℕ) → IsShown seen may_leave its before.player → calls_in its.events + most_of_finish < 2 ^ 64 - 1
      → HasFewSeats before.player
      → (leg : IsLegOf (IsFinishStruck medium) medium settings before after over text) → leg.struck ≡ true → PieceGoesOn Finish its before after over text
  finish_struck its before after over text shown little seats leg struck =
      let few = finish_few its before.player little seats in
      let crashed = subst (λ (x : Bool). IsCrashedWhere x medium settings (record before { player = leg.player }) after over leg.reported) struck leg.crashed in
      let strikes : is_struck_by leg.part.0 ≡ true = sym (same_struck leg.part.0) ∙ (sym leg.part.2 ∙ struck) in
      let gone = finishes its.bytes its.opened its.first its.events before.player leg.player leg.part.0 leg.said (still_shown its before.player shown) leg.part.1 in
      let there = crash_seen ⊤ its before.player gone.later gone.since (record before { player = leg.player }) after over leg.reported gone.grown gone.shown gone.unswept crashed in
      record {
        next = there.next;
        says =
            inr (record {
              said = leg.said;
              reported = leg.reported;
              up_to = each.struck_finishes its.bytes its.opened its.first its.events before.player leg.player leg.part.0 leg.said shown few leg.part.1 strikes;
              crash = there.crash;
              says = leg.says;
            });
        counted = λ goes. let none = there.begun goes in omega (arith, none);
      }

  prepared : (piece : Piece) (its : LifeInHand) (before after : RunState D) (count : ℕ) (waits : Waits) (over : Bool) (text : List ℕ) → IsShown seen may_leave its before.player → Prepares medium count waits before after over text
      → IsShown seen may_leave its after.player × (after.player.sweeps ≡ before.player.sweeps)
  prepared piece its before after count waits over text shown its_line = arms count waits its before.player after.player its_line.armed shown

  piece_goes_on : (piece : Piece) (its : LifeInHand) (before after : RunState D) (over : Bool) (text : List ℕ) → IsShown seen may_leave its before.player → IsPlain piece → calls_in its.events + begun_in piece < 2 ^ 64 - 1
      → HasFewSeats before.player → IsPiece medium settings piece before after over text → PieceGoesOn piece its before after over text
  piece_goes_on (Group calls) its before after over text shown plain few seats played = by_struck played.leg.struck refl
    where
      one : length calls.items ≡ 1
      one = ap length plain.1

      by_struck : (c : Bool) → played.leg.struck ≡ c → PieceGoesOn (Group calls) its before after over text
      by_struck false none =
          let group = group_unstruck calls.items plain.0 plain.1 plain.2 its before after over text shown (omega (arith, few, one)) played none in
          record {
            next = record { bytes = its.bytes; opened = its.opened; first = its.first; events = group.events };
            says = inl (record { goes_on = group.goes_on; events = group.events; same_life = refl; says = (plain.0, plain.1, group.says); shown = group.shown });
            counted = λ goes. let counted = group.counted in omega (arith, counted, one);
          }
      by_struck true struck =
          let there = group_struck calls.items plain.0 plain.1 plain.2 its before after over text shown played struck in
          record { next = there.next; says = inr (record { said = []; reported = text; up_to = refl; crash = there.crash; says = refl }); counted = λ goes. let none = there.begun goes in omega (arith, none) }
  piece_goes_on Finish its before after over text shown plain few seats leg = by_struck leg.struck refl
    where
      by_struck : (c : Bool) → leg.struck ≡ c → PieceGoesOn Finish its before after over text
      by_struck false none = finish_unstruck its before after over text shown few seats leg none
      by_struck true struck = finish_struck its before after over text shown few seats leg struck
  piece_goes_on Crash its before after over text shown plain few seats crashed =
      let there = crash_seen ⊤ its before.player its.events [] before after over text refl (still_shown its before.player shown) (λ none unswept. unswept) crashed in
      record { next = there.next; says = inr (record { said = []; reported = text; up_to = refl; crash = there.crash; says = refl }); counted = λ goes. let none = there.begun goes in omega (arith, none) }
  piece_goes_on (CrashAt count) its before after over text shown plain few seats line =
      let still = prepared (CrashAt count) its before after _ _ over text shown line in
      record {
        next = record { bytes = its.bytes; opened = its.opened; first = its.first; events = its.events };
        says = inl (record { goes_on = line.goes_on; events = its.events; same_life = refl; says = (refl, line.silent, still.1); shown = still.0 });
        counted = λ goes. omega arith;
      }
  piece_goes_on (FailAt count) its before after over text shown plain few seats line =
      let still = prepared (FailAt count) its before after _ _ over text shown line in
      record {
        next = record { bytes = its.bytes; opened = its.opened; first = its.first; events = its.events };
        says = inl (record { goes_on = line.goes_on; events = its.events; same_life = refl; says = (refl, line.silent, still.1); shown = still.0 });
        counted = λ goes. omega arith;
      }

  -- ---- one behind the other
  shown_behind : (piece : Piece) (its next : LifeInHand) (before after : RunState D) (text : List ℕ) → IsPieceInLives seen may_leave medium settings piece its next before after false text → IsShown seen may_leave next after.player
  shown_behind piece its next before after text (inl goes) = goes.shown
  shown_behind piece its next before after text (inr ends) =
      let crash = ends.crash.goes_on refl in subst (λ (x : LifeInHand). IsShown seen may_leave x after.player) (sym crash.2) crash.1.begins

  due_reported : (its : LifeInHand) (last : RunState D) → IsShown seen may_leave its last.player → DueIsReported seen may_leave medium settings its last
  due_reported its last shown after over text crashed = let there = crash_seen ⊤ its last.player its.events [] last after over text refl (still_shown its last.player shown) (λ none unswept. unswept) crashed in (there.next, there.crash)

  pub runs_go_on : RunsGoOn seen may_leave medium settings
  runs_go_on [] its before after over text shown plain seats few played =
      (played.0, played.1, played.2, due_reported its after (subst (λ (x : RunState D). IsShown seen may_leave its x.player) (sym played.0) shown))
  runs_go_on (piece ∷ []) its before after over text shown plain seats few played =
      let one = piece_goes_on piece its before after over text shown plain.0 (omega (arith, few)) seats played in (
        one.next,
        one.says,
        λ on. due_reported one.next after
            (shown_behind piece its one.next before after text (subst (λ (x : Bool). IsPieceInLives seen may_leave medium settings piece its one.next before after x text) on one.says)),
      )
  runs_go_on (piece ∷ other ∷ later) its before after over text shown plain seats few played =
      let one = piece_goes_on piece its before played.0 false played.1 shown plain.0 (omega (arith, few)) seats played.3 in
      let behind = shown_behind piece its one.next before played.0 played.1 one.says in
      let still = piece_seats medium settings arms_seats piece before played.0 played.1 played.3 seats in
      let counted = one.counted refl in
      (one.next, played.0, played.1, played.2, one.says, runs_go_on (other ∷ later) one.next played.0 after over played.2 behind plain.1 still (omega (arith, few, counted)) played.4, played.5)
