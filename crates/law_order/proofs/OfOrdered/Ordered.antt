-- Every life keeps order, by one induction over its events.
use Rattle.std.proofs.Common.{◌≡◌, ℕ, refl, sym, subst, Bool, true, false, List, [], ◌∷◌}
use Rattle.law_log.specs.Ghosts.{Ghosts}
use Rattle.law_log.specs.Enabled.{AreEnabled}
use Rattle.law_commit.specs.Below.fkv_world.Runs.{World, run}
use Rattle.law_commit.specs.Below.fkv_world.World.{Event}
use Rattle.law_commit.specs.Below.law_refine.Calls.Calls.{event_adds}
use Rattle.law_order.specs.Known.Answered.{EachAnswered, acted_ghosts}
use Rattle.law_order.specs.Known.Begins.{BeginStays, BegunLife, begin_in, home_of_world}
use Rattle.law_order.specs.Known.Floors.{AttemptsGoFrom}
use Rattle.law_order.specs.Known.Knows.{AllKnowBehind, AreKnown}
use Rattle.law_order.specs.Known.Told.{AreToldTruly, TicketsAreApart}
use Rattle.law_order.proofs.OfKnown.Begun.{begun_known}
use Rattle.law_commit.specs.Below.law_refine.Events.GhostEvents.{life_ghosts, mapped}
use Rattle.law_order.proofs.OfLooks.Looks.{TellsAbove}
use Rattle.law_order.proofs.OfLooks.Truth.{looks_true, tells_above, tells_upto}
use Rattle.law_order.proofs.OfEnabled.Changes.{changes_published}
use Rattle.law_order.proofs.OfEnabled.Own.{own_enabled}
use Rattle.law_order.proofs.OfReads.LifeReads.{answers_enabled, reads_begin_so, reads_go_on}
use Rattle.law_commit.specs.Below.law_refine.Records.Changes.{AreChangesPublished}
use Rattle.law_commit.specs.Below.law_refine.Seen.Floors.{TellsUpto}
use Rattle.law_order.specs.Apart.Given.{Given}
use Rattle.law_order.specs.Apart.Lives.{NoneHasShifted, OpensApart}
use Rattle.law_order.proofs.OfApart.Begins.{begins_apart}
use Rattle.law_order.proofs.OfApart.GoesOn.{apart_goes_on}
use Rattle.law_order.proofs.OfKnown.Newest.{known_now}
use Rattle.law_order.proofs.OfRows.Rows.{rows_go_on}
use Rattle.law_order.proofs.OfShifts.First.{none_first}
use Rattle.law_order.proofs.OfShifts.Life.{AllShiftSo, none_then, shifts_first, shifts_then}
use Rattle.law_order.specs.Served.Fits.{CallsFit, CellsFit}
use Rattle.law_order.specs.Served.Served.{ServedShow}
use Rattle.law_opening.proofs.OfChanges.OfDevice.There.{CallsLaw}
use Rattle.law_opening.proofs.OfChanges.OfDevice.Words.{WordsLaw}
use Rattle.law_order.proofs.OfServed.Served.{attempts_go, cells_fit, served_show}
use Rattle.law_order.proofs.OfSwept.Sound.{SweepsSo, sweeps_first, sweeps_fixed, sweeps_then}
use Rattle.law_order.proofs.OfSwept.Upto.{UptoSo, upto_first, upto_then}
use Rattle.law_order.proofs.OfTold.Enabled.{lines_enabled, mapped_crashed}
use Rattle.law_order.proofs.OfTruth.Truth.{words_true}
use Rattle.law_order.specs.Ordered.Keeps.{KeepsOrder}
use Rattle.law_order.specs.Ordered.Met.{AllReadsSeek, MeetsItsReads, PollsTryNoRead, PollsTryWhatIsGone, ReadsSeekOrWereTold}
use Rattle.law_order.proofs.OfOrdered.Floors.{begin_was, begins_first, begins_then}
use Rattle.law_order.proofs.OfOrdered.Met.{reads_met}
use Rattle.law_order.proofs.OfOrdered.Seeking.{AllSeekSo, seeking_all, seeking_first, seeking_polls, seeking_then, stays_seeking, stays_untried}

-- ---- at first nothing has happened
pub begins_ordered : (life : BegunLife) → KeepsOrder life.opening life.ghosts []
unfolding AreEnabled mapped
begins_ordered life = record {
  enabled = tt;
  published = tt;
  known = begun_known life;
  reads = reads_begin_so life;
  apart = begins_apart life;
  begin = begins_first life;
}

-- ---- what is known at each moment so far, and at the next one
known_on : (opening : World) (ghosts : Ghosts) (before : List Event) (event : Event) → AreKnown opening ghosts before → AllKnowBehind opening ghosts (event ∷ before) → AreKnown opening ghosts (event ∷ before)
unfolding AreKnown
known_on opening ghosts before event known behind = (known, behind)

apart_before : (opening : World) (before : List Event) (event : Event) → TicketsAreApart opening (event ∷ before) → TicketsAreApart opening before
unfolding TicketsAreApart
apart_before opening before event apart = apart.0

-- ---- by the next event
module _ (calls : CallsLaw) (words : WordsLaw) (given : Given) (life : BegunLife) (opens : OpensApart life) (cells : CellsFit life.ghosts.log) where
  abbrev H : ℕ → ℕ
  H = home_of_world life.opening

  served : (before : List Event) → CallsFit before → KeepsOrder life.opening life.ghosts before → ServedShow life.opening life.ghosts before
  served before fits its = served_show calls words life before cells fits its.enabled its.published

  go : (before : List Event) → CallsFit before → AttemptsGoFrom (begin_in life.opening) (run life.opening before).now
  go before fits = attempts_go calls words life before cells fits

  -- What the words of the store tell sessions is true: so is what they load from their mailboxes, which the device has given as the log has it.
  told_truly : (before : List Event) → CallsFit before → KeepsOrder life.opening life.ghosts before → AreToldTruly H (life_ghosts life.opening life.ghosts before).log (run life.opening before).now
  told_truly before fits its = words_true life before its.enabled its.published its.known (looks_true life before its.enabled its.known (go before fits) (served before fits its))

  -- who is told a begin there is told none above it
  told_upto : (before : List Event) → CallsFit before → KeepsOrder life.opening life.ghosts before → TellsUpto (begin_in (run life.opening before)) (run life.opening before).now
  told_upto before fits its = tells_upto life before its.enabled its.known (go before fits) (served before fits its)

  -- All that the event is to the log is enabled: what its session does there, and the lines that it tells. After a crash it is nothing.
  event_enabled : (before : List Event) (event : Event) → TicketsAreApart life.opening (event ∷ before) → KeepsOrder life.opening life.ghosts before
      → AreToldTruly H (life_ghosts life.opening life.ghosts before).log (run life.opening before).now
      → AreChangesPublished life.opening life.ghosts (event ∷ before) → AreEnabled H life.ghosts (mapped life.opening (event ∷ before))
  event_enabled before event apart its truly published = by_crash (run life.opening before).now.crashed refl
    where
      answered : EachAnswered H (acted_ghosts life.opening life.ghosts before event) (event_adds life.opening before event)
      answered = answers_enabled life before event its.enabled its.known its.begin apart truly its.reads

      by_crash : (crashed : Bool) → (run life.opening before).now.crashed ≡ crashed → AreEnabled H life.ghosts (mapped life.opening (event ∷ before))
      by_crash true over = subst (AreEnabled H life.ghosts) (sym (mapped_crashed life.opening before event over)) its.enabled
      by_crash false alive =
          lines_enabled life before event its.enabled published
          (own_enabled life before event given opens its.apart its.enabled its.published its.known truly alive)
          answered

  -- and no attempt has shifted for good, and the keeper's sweep is sound
  record Going (events : List Event) : Type 0 where
    order : KeepsOrder life.opening life.ghosts events
    sweeps : SweepsSo life events
    upto : UptoSo life events
    shifts : AllShiftSo life.opening events
    none : NoneHasShifted life.opening events

  ordered_on : (before : List Event) (event : Event) → CallsFit (event ∷ before) → TicketsAreApart life.opening (event ∷ before) → NoneHasShifted life.opening (event ∷ before) → KeepsOrder life.opening life.ghosts before → SweepsSo life before → UptoSo life before
      → KeepsOrder life.opening life.ghosts (event ∷ before) × SweepsSo life (event ∷ before) × UptoSo life (event ∷ before)
  ordered_on before event fits apart none its sweeps upto =
      let truly : AreToldTruly H (life_ghosts life.opening life.ghosts before).log (run life.opening before).now = told_truly before fits.1 its in
      let published : AreChangesPublished life.opening life.ghosts (event ∷ before) = (changes_published life before event its.known, its.published) in
      let enabled : AreEnabled H life.ghosts (mapped life.opening (event ∷ before)) = event_enabled before event apart its truly published in
      let swept : SweepsSo life (event ∷ before) = sweeps_then life calls before event its.enabled its.published cells (cells_fit calls words life before cells fits.1) sweeps enabled in
      let under : UptoSo life (event ∷ before) = upto_then life given.rest given.versions given.cells opens before event its.enabled sweeps its.begin.live upto enabled (begin_was life before event its.begin).fixed (sweeps_fixed life calls before event its.enabled its.published cells (cells_fit calls words life before cells fits.1) sweeps) in (
        record {
          enabled = enabled;
          published = published;
          known = known_on life.opening life.ghosts before event its.known (rows_go_on life before event given opens its.apart its.begin enabled its.known truly);
          reads = reads_go_on life before event its.enabled its.known its.begin apart truly its.reads enabled;
          apart = apart_goes_on given life opens before event enabled (λ session s found. known_now life.opening life.ghosts before its.known session s found) truly none its.apart its.begin;
          begin = begins_then life before event given.stays enabled (told_upto before fits.1 its) its.begin swept under;
        },
        swept,
        under,
      )

  goes_on : (before : List Event) (event : Event) → CallsFit (event ∷ before) → TicketsAreApart life.opening (event ∷ before) → Going before → Going (event ∷ before)
  goes_on before event fits apart its =
      let order : KeepsOrder life.opening life.ghosts before = its.order in
      let truly : AreToldTruly H (life_ghosts life.opening life.ghosts before).log (run life.opening before).now = told_truly before fits.1 order in
      let known : AllKnowBehind life.opening life.ghosts before = (λ session s found. known_now life.opening life.ghosts before order.known session s found) in
      let none : NoneHasShifted life.opening (event ∷ before) = none_then given life opens before event order.enabled known truly order.apart its.shifts its.none in
      let goes = ordered_on before event fits apart none order its.sweeps its.upto in
      record {
        order = goes.0;
        sweeps = goes.1;
        upto = goes.2;
        shifts = shifts_then given life opens before event order.enabled known truly order.apart its.shifts its.none;
        none = none;
      }

  through : (events : List Event) → CallsFit events → TicketsAreApart life.opening events → Going events
  through [] fits apart = record { order = begins_ordered life; sweeps = sweeps_first life; upto = upto_first life; shifts = shifts_first life; none = none_first life.opening }
  through (event ∷ before) fits apart = goes_on before event fits apart (through before fits.1 (apart_before life.opening before event apart))

  pub life_goes : (events : List Event) → CallsFit events → TicketsAreApart life.opening events → KeepsOrder life.opening life.ghosts events
  life_goes events fits apart = (through events fits apart).order

  -- and no try of a read is turned away
  pub life_meets : (events : List Event) → CallsFit events → TicketsAreApart life.opening events → MeetsItsReads life.opening events
  life_meets events fits apart =
      let its : Going events = through events fits apart in
      reads_met given life opens events its.order.enabled (λ session s found. known_now life.opening life.ghosts events its.order.known session s found) (told_truly events fits its.order) its.order.apart its.shifts

  -- so each that waits seeks a record, or was told that it is gone
  seek_through : (events : List Event) → CallsFit events → TicketsAreApart life.opening events → AllSeekSo life.opening events
  seek_through [] fits apart = seeking_first life
  seek_through (event ∷ before) fits apart =
      let earlier : TicketsAreApart life.opening before = apart_before life.opening before event apart in
      let its : KeepsOrder life.opening life.ghosts before = life_goes before fits.1 earlier in
      let above : TellsAbove (begin_in life.opening) (run life.opening before).now = tells_above life before its.enabled its.known (go before fits.1) (served before fits.1 its) in
      seeking_then life before event (life_meets before fits.1 earlier) above (told_upto before fits.1 its) (seek_through before fits.1 earlier)

  pub life_seek_or_told : (events : List Event) → CallsFit events → TicketsAreApart life.opening events → ReadsSeekOrWereTold life.opening events
  life_seek_or_told events fits apart = seeking_all life.opening events (seek_through events fits apart)

  pub life_polls_gone : (events : List Event) → CallsFit events → TicketsAreApart life.opening events → PollsTryWhatIsGone life.opening events
  life_polls_gone events fits apart = seeking_polls life events (seek_through events fits apart)

  -- while the log begins where it did at first none is
  pub life_seek : (events : List Event) → CallsFit events → TicketsAreApart life.opening events → BeginStays life.opening events → AllReadsSeek life.opening events
  life_seek events fits apart stays = stays_seeking life events stays (life_seek_or_told events fits apart)

  pub life_polls : (events : List Event) → CallsFit events → TicketsAreApart life.opening events → BeginStays life.opening events → PollsTryNoRead life.opening events
  life_polls events fits apart stays = stays_untried life events stays (life_polls_gone events fits apart)
