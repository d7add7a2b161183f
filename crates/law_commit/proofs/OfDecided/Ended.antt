-- Each commit that has begun in a life has come through its moments: its first address was the tail as it started, and its end before it was written.
use Rattle.std.proofs.Common.{◌≡◌, ◌⊎◌, inl, inr, ℕ, ◌∙◌, List, [], ◌∷◌, ◌++◌, append_assoc, refl, ap, sym, subst}
use Rattle.std.specs.Prelude.{Option, Some, None}
use Rattle.fkv_base.specs.declared.numbers.Addr.{Addr}
use Rattle.fkv_base.specs.declared.numbers.Serial.{Serial}
use Rattle.fkv_base.specs.declared.numbers.Version.{Version}
use Rattle.fkv_base.specs.declared.shapes.Shape.{Shape}
use Rattle.fkv_plane.specs.declared.actions.Action.{Action}
use Rattle.fkv_plane.specs.declared.asks.Ask.{Ask}
use Rattle.fkv_plane.specs.declared.asks.Ask.TheVariants.{Load, Put}
use Rattle.fkv_plane.specs.declared.places.Places.{Places}
use Rattle.fkv_plane.specs.declared.places.SharedWord.TheVariants as one
use Rattle.fkv_plane.specs.Asked.{reply_to}
use Rattle.fkv_plane.specs.Passing.{passed}
use Rattle.fkv_plane.specs.Places.{shared_place}
use Rattle.law_refine.specs.Below.fkv_commit.Commit.{Commit}
use Rattle.law_refine.specs.Below.fkv_commit.TheSeeking.TheVariants as seeking
use Rattle.law_refine.specs.Below.fkv_commit.TheStarting.TheVariants as starting
use Rattle.law_refine.specs.Below.fkv_commit.Seeking.{seeking_ask}
use Rattle.law_refine.specs.Below.fkv_commit.Starting.{starting_ask}
use Rattle.law_refine.specs.Below.fkv_keeper.KeeperTold.{KeeperTold}
use Rattle.law_refine.specs.Below.fkv_keeper.TheKeeping.TheVariants.{Seeks, Starts, Writes}
use Rattle.law_refine.specs.Below.fkv_keeper.Keeping.{KeeperState, keeper_ask, keeping_ask, triples_written}
use Rattle.law_refine.specs.Below.fkv_world.Moves.{keeper_gets}
use Rattle.law_refine.specs.Below.fkv_world.Runs.{World, run}
use Rattle.law_refine.specs.Below.fkv_world.World.{Event, Now}
use Rattle.law_refine.specs.Events.Reserved.{tail_at}
use Rattle.law_commit.specs.BegunCommits.{life_begun}
use Rattle.law_commit.specs.Decided.Ended.{CommitsHaveEnded, HadMoment, HasEnded, IsWrittenNow, LoadsEnd, LoadsFirst, Span, span_in, span_of, span_opened}
use Rattle.law_commit.specs.Phases.Staged.{Stage}
use Rattle.law_commit.specs.Quiet.{OpensQuiet}
use Rattle.law_commit.proofs.AllBegun.{AllBegun, event_begun, one_of, opened_begun, weaker}
use Rattle.law_commit.proofs.OfDecided.KeeperEnds.{EndsAt, KeeperEnds, KeepingEnds, SeeksSo, WritesSo, called_ends, commit_asked_ends, given_ends, keeping_map, opened_ends, replied_ends, turn_asked_ends}
use Rattle.law_commit.proofs.OfPhases.LifeStages.{event_on, life_staged}
use Rattle.law_commit.proofs.OfPhases.StageMoves.{LedOn, Quietly, QuietKeeper, RunBySession}

-- ---- moments
pub had_on : (P : Now → Type 0) (opening : World) (before : List Event) (event : Event) → HadMoment P opening before → HadMoment P opening (event ∷ before)
had_on P opening before event its = record { moment = its.moment; later = event ∷ its.later; split = ap (λ (x : List Event). event ∷ x) its.split; was = its.was }

pub had_then : (P : Now → Type 0) (opening : World) (before : List Event) (event : Event) → P (run opening before).now → HadMoment P opening (event ∷ before)
had_then P opening before event was = record { moment = before; later = event ∷ []; split = refl; was = was }

-- a moment of the life up to a moment
pub had_since : (P : Now → Type 0) (opening : World) (events later moment : List Event) → events ≡ later ++ moment → HadMoment P opening moment → HadMoment P opening events
had_since P opening events later moment split its = record {
  moment = its.moment;
  later = later ++ its.later;
  split = split ∙ (ap (λ (x : List Event). later ++ x) its.split ∙ sym (append_assoc later its.later its.moment));
  was = its.was;
}

-- ---- what the keeper loads
asks_end : (shape : Shape) (p : Places) (s : KeeperState) → s.step ≡ Seeks → s.seek.step ≡ seeking.LoadsTail → keeper_ask shape p s ≡ Load (shared_place one.Tail)
unfolding keeping_ask seeking_ask passed
asks_end shape p s at loads = rw (at, loads) refl

asks_first : (shape : Shape) (p : Places) (s : KeeperState) (number : Version) → s.step ≡ Starts → s.start.step ≡ starting.LoadsTail number → keeper_ask shape p s ≡ Load (shared_place one.Tail)
unfolding keeping_ask starting_ask passed
asks_first shape p s number at loads = rw (at, loads) refl

put_no_load : {X : Type 0} (ask : Ask KeeperTold) (slot : ℕ) (action : Action) (place : ℕ) → ask ≡ Put slot action → ask ≡ Load place → X
put_no_load ask slot action place puts loads = let clash : Put slot action ≡ Load place = sym puts ∙ loads in cc

-- ---- a life
module _ (opening : World) (start : ℕ) (opens : OpensQuiet opening start) where
  abbrev First : List Event → Version → Addr → Type 0
  First events number first = HadMoment (LoadsFirst number first) opening events

  abbrev End : List Event → Span → Type 0
  End events x = HadMoment (LoadsEnd x) opening events

  abbrev Knows : List Event → KeeperState → Type 0
  Knows events s = KeeperEnds (First events) (End events) s

  module _ (event : Event) (before : List Event) (was : Knows before (run opening before).now.keeper) where
    abbrev n : Now
    n = (run opening before).now

    abbrev after : Now
    after = (run opening (event ∷ before)).now

    abbrev Holds : KeeperState → Type 0
    Holds s = Knows (event ∷ before) s

    keeper_on : Holds n.keeper
    keeper_on =
        keeping_map (First before) (First (event ∷ before)) (End before) (End (event ∷ before)) (λ number first had. had_on (LoadsFirst number first) opening before event had)
        (λ x had. had_on (LoadsEnd x) opening before event had) n.keeper n.keeper.step was

    abbrev reply : ℕ
    reply = reply_to n.words (keeper_ask n.shape n.places n.keeper)

    is_tail : keeper_ask n.shape n.places n.keeper ≡ Load (shared_place one.Tail) → reply ≡ tail_at n
    is_tail asks = ap (λ (ask : Ask KeeperTold). reply_to n.words ask) asks

    first_then : (number : Version) → n.keeper.step ≡ Starts → n.keeper.start.step ≡ starting.LoadsTail number → First (event ∷ before) number (record { 0 = reply })
    first_then number at loads =
        had_then (LoadsFirst number (record { 0 = reply })) opening before event (record { starts = at; loads = loads; tail = is_tail (asks_first n.shape n.places n.keeper number at loads) })

    end_then : n.keeper.step ≡ Seeks → SeeksSo (First (event ∷ before)) (End (event ∷ before)) n.keeper n.keeper.seek.step → n.keeper.seek.step ≡ seeking.LoadsTail
        → EndsAt (First (event ∷ before)) (End (event ∷ before)) n.keeper.commit n.keeper.copy (record { 0 = reply })
    end_then at so loads c is =
        had_then (LoadsEnd (span_in c (record { 0 = reply }) (triples_written c.kind n.keeper.copy))) opening before event
        (record { seeks = at; loads = loads; works = so.works; commit = c; in_hand = is; copied = so.copied c is; its = refl; tail = is_tail (asks_end n.shape n.places n.keeper at loads); triples = refl })

    -- the keeper behind the event
    gets_ends : (led : KeeperState) (found : Option Action) → Holds led → Holds (keeper_gets n.shape n.places led found)
    gets_ends led None so = so
    gets_ends led (Some action) so = given_ends (First (event ∷ before)) (End (event ∷ before)) n.shape n.places led led.step action refl so

    quiet_ends : QuietKeeper n after.keeper → Holds after.keeper
    quiet_ends (inl same) = subst Holds (sym same) keeper_on
    quiet_ends (inr (inl called)) = subst Holds (sym called.2) (called_ends (First (event ∷ before)) (End (event ∷ before)) n.shape n.places n.keeper n.keeper.step called.0 called.1 refl keeper_on)
    quiet_ends (inr (inr (inl commit))) = subst Holds (sym commit.1) (commit_asked_ends (First (event ∷ before)) (End (event ∷ before)) n.keeper commit.0 keeper_on)
    quiet_ends (inr (inr (inr turn))) = subst Holds (sym turn) (turn_asked_ends (First (event ∷ before)) (End (event ∷ before)) n.keeper keeper_on)

    module _ (number next : Version) (stage there : Stage) where
      onto_ends : LedOn n after.keeper after.words number next stage there → Holds after.keeper
      onto_ends ledon =
          let onto = ledon.onto in
          let led : Holds onto.led =
          subst Holds (sym onto.is_led)
          (replied_ends (First (event ∷ before)) (End (event ∷ before)) n.shape n.places n.keeper n.keeper.step (reply_to n.words (keeper_ask n.shape n.places n.keeper)) ledon.granted refl keeper_on (λ number at loads. first_then number at loads)
          (λ at so loads. end_then at so loads)) in
          elim onto.settled [
            | inl plain ↦ elim plain.keeper [
              | inl same ↦ subst Holds (sym same) led
              | inr gets ↦ subst Holds (sym gets.1) (gets_ends onto.led gets.0 led)
            ]
            | inr puts ↦ subst Holds (sym puts.keeper)
                (replied_ends (First (event ∷ before)) (End (event ∷ before)) n.shape n.places onto.led onto.led.step 0 ledon.granted refl led
                (λ number at loads. put_no_load (keeper_ask n.shape n.places onto.led) puts.slot puts.action (shared_place one.Tail) puts.asks (asks_first n.shape n.places onto.led number at loads))
                (λ at so loads. put_no_load (keeper_ask n.shape n.places onto.led) puts.slot puts.action (shared_place one.Tail) puts.asks (asks_end n.shape n.places onto.led at loads)))
          ]

      how_ends : Quietly n after.keeper number next stage there ⊎ (RunBySession n after.keeper number next stage there ⊎ LedOn n after.keeper after.words number next stage there) → Holds after.keeper
      how_ends (inl quiet) = quiet_ends quiet.keeper
      how_ends (inr (inl session)) = subst Holds (sym session.keeper) keeper_on
      how_ends (inr (inr led)) = onto_ends led

    knows_on : Holds after.keeper
    knows_on =
        let lived = life_staged opening start before opens.guarded opens.opened opens.seen.rests in
        let on = event_on opening start opens.guarded opens.opened before event lived.number lived.stage lived.staged in
        how_ends lived.number on.on.its_number lived.stage on.on.its_stage on.how

  knows : (events : List Event) → Knows events (run opening events).now.keeper
  unfolding run
  knows [] = opened_ends (First []) (End []) opening.now.keeper opening.now.keeper.step refl opens.guarded.keeper.none_in_hand opens.guarded.keeper.no_commit opens.guarded.keeper.none_rest
  knows (event ∷ before) = knows_on event before (knows before)

  -- ---- each that has begun was written
  abbrev Written : List Event → Span → List Serial → Type 0
  Written events x points = HadMoment (IsWrittenNow x) opening events ⊎ (x ≡ span_opened opening)

  written_on : (before : List Event) (event : Event) (x : Span) (points : List Serial) → Written before x points → Written (event ∷ before) x points
  written_on before event x points (inl had) = inl (had_on (IsWrittenNow x) opening before event had)
  written_on before event x points (inr first) = inr first

  written_then : (before : List Event) (event : Event) → (run opening before).now.keeper.step ≡ Writes → (c : Commit) → (run opening before).now.keeper.commit ≡ Some c
      → Written (event ∷ before) (span_in c c.end (run opening before).now.keeper.writes.triples) (run opening before).now.keeper.seek.points
  written_then before event at c is =
      let x : Span = span_in c c.end (run opening before).now.keeper.writes.triples in
      inl (had_then (IsWrittenNow x) opening before event (record { writes = at; commit = c; in_hand = is; its = refl }))

  all_written : (events : List Event) → AllBegun (Written events) (life_begun opening events)
  all_written [] = opened_begun (Written []) opening (inr refl)
  all_written (event ∷ before) =
      event_begun (Written (event ∷ before)) opening before event (λ at c is. written_then before event at c is)
      (weaker (Written before) (Written (event ∷ before)) (life_begun opening before) (written_on before event) (all_written before))

  -- and then it has come through the moments before
  pub record WrittenSo (x : Span) (moment : List Event) : Type 0 where
    pub first : First moment x.number x.first
    pub end : End moment x

  pub written_so : (x : Span) (moment : List Event) → IsWrittenNow x (run opening moment).now → WrittenSo x moment
  written_so x moment now =
      let s : KeeperState = (run opening moment).now.keeper in
      let so : WritesSo (First moment) (End moment) s = (subst (KeepingEnds (First moment) (End moment) s) now.writes (knows moment)).0 in
      let y : Span = span_in now.commit now.commit.end s.writes.triples in
      subst (λ (z : Span). WrittenSo z moment) (sym now.its) (record { first = so.first now.commit now.in_hand; end = so.end now.commit now.in_hand })

  ended_so : (events : List Event) (x : Span) (points : List Serial) → Written events x points → HasEnded opening events x ⊎ (x ≡ span_opened opening)
  ended_so events x points (inr first) = inr first
  ended_so events x points (inl had) =
      let so = written_so x had.moment had.was in
      inl (record {
        first = had_since (LoadsFirst x.number x.first) opening events had.later had.moment had.split so.first;
        end = had_since (LoadsEnd x) opening events had.later had.moment had.split so.end;
        written = had;
      })

pub have_ended : CommitsHaveEnded
have_ended opening start events c opens there = ended_so opening start opens events (span_of c) c.points (one_of (Written opening start opens events) c (life_begun opening events) there (all_written opening start opens events))
