-- One event of a life leaves each session's record standing as far as it was stored, and each published record showing its cell.
use Rattle.std.proofs.Common.{◌≡◌, ◌≢◌, ◌⊎◌, ℕ, ◌≤◌, ◌<◌, ◌∙◌, inl, inr, refl, sym, ap, subst, arith, Bool, true, false, List, [], ◌∷◌, ◌++◌}
use Rattle.std.specs.Prelude.{map, Option, Some, None, slice_get, ◌==◌, if◌then◌else◌}
use Rattle.std.proofs.lemmas.Bool.{cases_lt}
use Rattle.std.proofs.lemmas.Bool.Decides.{nat_tests}
use Rattle.fkv_map.specs.declared.history.HistoryEntry.{HistoryEntry}
use Rattle.fkv_map.specs.declared.operations.Call.{Call}
use Rattle.fkv_map.specs.declared.operations.Call.TheVariants.{Refresh}
use Rattle.fkv_map.specs.Keys.{value_applied}
use Rattle.fkv_epoch.proofs.Shown.{none_some, same_or, some_same}
use Rattle.law_log.specs.Chains.{Cell, Logged, Unborn, Reserved, Published, Dropped}
use Rattle.law_log.specs.Ghosts.{Ghosts, GhostEvent, Tells, changed_by, ghosts_after, ghost_run}
use Rattle.law_log.specs.Trace.{TraceLine}
use Rattle.law_log.proofs.Shown.{run_on}
use Rattle.fkv_plane.specs.declared.asks.Ask.{Ask}
use Rattle.fkv_plane.specs.declared.asks.Ask.TheVariants.{Put, Take, Done}
use Rattle.fkv_plane.specs.declared.places.RecordWord.{RecordWord}
use Rattle.fkv_plane.specs.declared.places.RecordWord.TheVariants as rec
use Rattle.fkv_plane.specs.Asked.{asked, asked_place, reply_to}
use Rattle.law_world.specs.Below.fkv_ops.HeaderWords.{header_said}
use Rattle.law_world.specs.Below.fkv_ops.Values.{value_of, word_of}
use Rattle.law_world.specs.Below.fkv_session.Told.{Told}
use Rattle.law_world.specs.Below.fkv_session.Sessions.{SessionState, Seat, session_ask}
use Rattle.law_world.specs.GuardSessions.InPlace.{changed_in_place, SessionMayChange}
use Rattle.law_world.specs.Below.fkv_world.Actors.{is_of_session, session_goes}
use Rattle.law_world.specs.Below.fkv_world.Moves.{session_moved}
use Rattle.law_world.specs.Below.fkv_world.Runs.{World, happens, run}
use Rattle.law_world.specs.Below.fkv_world.World.{Event, Calls, Moves, Commits, Turns, KeeperMoves, Crashes, Now, seat_at, near, session_called}
use Rattle.law_world.proofs.Below.fkv_world.Shown.{is_over, session_apart, session_written}
use Rattle.law_world.proofs.OfRuns.Nothing.{no_session}
use Rattle.law_world.specs.Guarded.Shows.{IsOpened, ArePermitted, IsPermitted, SessionIsPermitted}
use Rattle.law_refine.specs.Events.Effects.{AreQuiet, TakesEffect, Quietly, Behind, InPlace, ByRecord, step_of}
use Rattle.law_refine.specs.Events.GhostEvents.{home_in, moved_ghosts, own_ghosts, safe_at, fixed_ghosts, traced_by, serials_in, ghost_events, mapped, life_ghosts}
use Rattle.law_refine.specs.Events.Lines.{lines_added}
use Rattle.law_refine.specs.Events.Reservations.{Reservation}
use Rattle.law_refine.specs.Events.Reserved.{reserved_by, tail_at, IsUnbornFrom, ReservesNothing}
use Rattle.law_refine.specs.Events.Sessions.{sitting_ghosts, step_ghosts}
use Rattle.law_refine.specs.Events.Published.{IsPublished}
use Rattle.law_refine.proofs.OfEvents.Unborn.{ghost_unborn}
use Rattle.law_refine.proofs.OfEvents.ReservedLife.{life_reserved}
use Rattle.law_refine.proofs.OfEvents.Fixed.{life_rises}
use Rattle.law_refine.proofs.OfEvents.SessionEffects.{life_takes}
use Rattle.law_refine.proofs.OfEvents.Apart.{reserved_apart, reserved_open}
use Rattle.law_refine.specs.Records.Cells.{ShowsCell, StandsShowLog}
use Rattle.law_refine.specs.Records.Changes.{SessionChangesPublished, ChangesPublished}
use Rattle.law_refine.proofs.OfRecords.AppendRows.{Standing}
use Rattle.law_refine.proofs.OfRecords.AttemptRows.{IsAllowed}
use Rattle.law_refine.proofs.OfRecords.FrameOwners.{IsOwner, ByChange, ByReservation}
use Rattle.law_refine.proofs.OfRecords.FrameSteps.{FrameWriter}
use Rattle.law_refine.proofs.OfRecords.FrameWords.{FrameWord, sitting_asks, sitting_word}
use Rattle.law_refine.proofs.OfRecords.GhostFits.{Fit, sitting_fit, sitting_quiet, sitting_value}
use Rattle.law_refine.specs.Records.Headers.{IsHeaderOf}
use Rattle.law_refine.proofs.OfEvents.SessionSteps.{life_on}
use Rattle.law_refine.proofs.OfRecords.LogHeaders.{AllFall, HeaderFits, HeadersFit, fall_before, fixed_still, moves_fit, still_behind, told_still}
use Rattle.law_refine.proofs.OfRecords.LogShows.{OthersShow, change_shows, publish_shows, quiet_behind, quiet_run, quiet_shows}
use Rattle.law_refine.proofs.OfRecords.Numbers.{value_back}
use Rattle.law_refine.proofs.OfRecords.RowsStay.{ReservedStays, Stores, asks_so, sitting_writes, so_stays}
use Rattle.law_refine.proofs.OfRecords.SessionRows.{IsSo, SittingWrites, called_now_so}
use Rattle.law_refine.proofs.OfRecords.Standing.{stands_in}
use Rattle.law_refine.proofs.OfRecords.Wrote.{AreSo, IsWritten, crashed_stays, stays_or, wrote}
use Rattle.law_refine.proofs.OfEvents.EventEffects.{fixed_quiet}
use Rattle.law_refine.proofs.OfEvents.RequestNames.{life_so}

-- ---- what is published is not reserved, and is born
published_free : (logged : Logged) (entry : HistoryEntry) (cell : Cell) → IsPublished logged → logged ≡ Reserved entry cell → ⊥
published_free (Published its) entry cell published e = cc
published_free logged entry cell published e = absurd published

is_published : (logged : Logged) (cell : Cell) → logged ≡ Published cell → IsPublished logged
is_published logged cell e = subst IsPublished (sym e) tt

published_born : (logged : Logged) (cell : Cell) → logged ≡ Published cell → logged ≡ Unborn → ⊥
published_born logged cell e none = cc

the_cell : (logged : Logged) → IsPublished logged → (cell : Cell) × (logged ≡ Published cell)
the_cell (Published cell) published = (cell, refl)
the_cell logged published = absurd published

same_number : (a b : ℕ) → Moves a ≡ Moves b → a ≡ b
same_number a b e = cc

own_number : (number : ℕ) → (number == number) ≡ true
own_number number = grind (arith, nat_tests)

found_or : (found : Option ℕ) (a : ℕ) → (found ≡ Some a) ⊎ (found ≢ Some a)
found_or None a = inr (λ e. none_some a e)
found_or (Some q) a = elim (same_or q a) [
  | inl same ↦ inl (ap Some same)
  | inr other ↦ inr (λ e. other (some_same q a e))
]

-- ---- what is told and fixed
pub told_quiet : (lines : List TraceLine) → AreQuiet (map Tells lines)
told_quiet [] = tt
told_quiet (line ∷ rest) = (tt, told_quiet rest)

-- the words of a record that stand as they stood show what they showed
pub same_shows : (one other : RecordWord → ℕ) (cell : Cell) → ((part : RecordWord) → other part ≡ one part) → ShowsCell one cell → ShowsCell other cell
same_shows one other cell same shows = record {
  header = ap header_said (same rec.Header) ∙ shows.header;
  key = same rec.Key ∙ shows.key;
  value = ap value_of (same rec.Value) ∙ shows.value;
}

module _ (opening : World) (start : ℕ) (ghosts : Ghosts) (opened : IsOpened opening.now start) (none : IsUnbornFrom (tail_at opening.now) ghosts) (free : ReservesNothing ghosts) (before : List Event) (event : Event)
    (permitted : ArePermitted opening (event ∷ before)) (so : AreSo (stands_in opening start before) (run opening before).now) (published : ChangesPublished (run opening before).now (life_ghosts opening ghosts before).log event) where
  abbrev W : World
  W = run opening before

  abbrev N : Now
  N = W.now

  abbrev S : Standing
  S = stands_in opening start before

  abbrev T : Standing
  T = stands_in opening start (event ∷ before)

  abbrev G : Ghosts
  G = life_ghosts opening ghosts before

  abbrev H : ℕ → ℕ
  H = home_in opening.now.shape.bucket_bits

  -- ---- whose the word is that is written
  changes_published : (writer : FrameWriter N event) (a : ℕ) → changed_in_place writer.state ≡ Some a → IsPublished (G.log.cells a)
  changes_published writer a e =
      let its : SessionChangesPublished G.log (slice_get N.sessions writer.number) = subst (λ (x : Event). ChangesPublished N G.log x) writer.moves published in
      subst (λ (found : Option SessionState). SessionChangesPublished G.log found) writer.found its a e

  reserved_cell : (number : ℕ) (s : SessionState) (its : Reservation) → slice_get N.sessions number ≡ Some s → reserved_by number s ≡ Some its → G.log.cells its.addr ≡ Reserved its.entry its.cell
  reserved_cell number s its found reserved = life_reserved opening start ghosts before opened none free number its (record { state = s; found = found; reserved = reserved })

  reserved_below : (number : ℕ) (s : SessionState) (its : Reservation) → slice_get N.sessions number ≡ Some s → reserved_by number s ≡ Some its → its.addr < tail_at N
  reserved_below number s its found reserved = (reserved_open opening start before opened number its (record { state = s; found = found; reserved = reserved })).1

  published_below : (a : ℕ) (cell : Cell) → G.log.cells a ≡ Published cell → a < tail_at N
  published_below a cell e = elim (cases_lt a (tail_at N)) [
    | inl low ↦ low
    | inr high ↦ absurd (published_born (G.log.cells a) cell e (ghost_unborn opening start ghosts before opened none a high))
  ]

  -- a record that a session has reserved is written by that session alone
  writes_own : (number : ℕ) (s : SessionState) (its : Reservation) (part : RecordWord) → slice_get N.sessions number ≡ Some s → reserved_by number s ≡ Some its → IsWritten N event S T its.addr part → event ≡ Moves number
  writes_own number s its part found reserved w = by_owner w.owner
    where
      by_owner : IsOwner (changed_in_place w.writer.state) (reserved_by w.writer.number w.writer.state) w.writer.word → event ≡ Moves number
      by_owner (ByChange changes word) =
          absurd (published_free (G.log.cells its.addr) its.entry its.cell (subst (λ (a : ℕ). IsPublished (G.log.cells a)) w.addr (changes_published w.writer w.writer.word.addr changes)) (reserved_cell number s its found reserved))
      by_owner (ByReservation other its_reserved same) =
          let apart = reserved_apart opening start before opened w.writer.number number other its (record { state = w.writer.state; found = w.writer.found; reserved = its_reserved }) (record { state = s; found = found; reserved = reserved }) (same ∙ w.addr) in
          w.writer.moves ∙ ap (λ (x : ℕ). Moves x) apart

  -- and a published one by the session that changes it in place
  writes_changed : (a : ℕ) (cell : Cell) (part : RecordWord) → G.log.cells a ≡ Published cell → (w : IsWritten N event S T a part) → (changed_in_place w.writer.state ≡ Some a) × (part ≡ rec.Value)
  writes_changed a cell part e w = by_owner w.owner
    where
      by_owner : IsOwner (changed_in_place w.writer.state) (reserved_by w.writer.number w.writer.state) w.writer.word → (changed_in_place w.writer.state ≡ Some a) × (part ≡ rec.Value)
      by_owner (ByChange changes word) = (changes ∙ ap (λ (x : ℕ). Some x) w.addr, sym w.its_part ∙ word)
      by_owner (ByReservation other reserved same) =
          let there : G.log.cells a ≡ Reserved other.entry other.cell = ap G.log.cells (sym (same ∙ w.addr)) ∙ reserved_cell w.writer.number w.writer.state other w.writer.found reserved in
          absurd (published_free (G.log.cells a) other.entry other.cell (is_published (G.log.cells a) cell e) there)

  same_state : (number : ℕ) (s : SessionState) (writer : FrameWriter N event) → event ≡ Moves number → slice_get N.sessions number ≡ Some s → (writer.number ≡ number) × (writer.state ≡ s)
  same_state number s writer moves found =
      let same : writer.number ≡ number = same_number writer.number number (sym writer.moves ∙ moves) in
      (same, some_same writer.state s (sym writer.found ∙ (ap (slice_get N.sessions) same ∙ found)))

  -- ---- rows
  others_stay : (number : ℕ) (s : SessionState) → slice_get N.sessions number ≡ Some s → (event ≡ Moves number → ⊥) → ReservedStays S T (reserved_by number s)
  others_stay number s found other = λ its reserved part. elim (stays_or opening start before event opened its.addr part permitted so (reserved_below number s its found reserved)) [
    | inl same ↦ same
    | inr w ↦ absurd (other (writes_own number s its part found reserved w))
  ]

  owes_of : (number : ℕ) (s : SessionState) → event ≡ Moves number → slice_get N.sessions number ≡ Some s → SessionMayChange N.words s
  owes_of number s moves found =
      let its : SessionIsPermitted N (slice_get N.sessions number) = subst (λ (x : Event). IsPermitted N x) moves permitted.0 in
      subst (λ (x : Option SessionState). SessionIsPermitted N x) found its

  own_stores : (number : ℕ) (s : SessionState) → event ≡ Moves number → slice_get N.sessions number ≡ Some s → N.crashed ≡ false → Stores S T (sitting_word s s.step) (asked (session_ask (seat_at N number) s))
  own_stores number s moves found alive = λ f e.
      let its = wrote opening start before event opened number s f moves found alive (owes_of number s moves found) (so number s found) e in
      record {
        its = its.written;
        others = λ part other. elim (stays_or opening start before event opened f.addr part permitted so its.frame.below) [
          | inl same ↦ same
          | inr w ↦
              let same = same_state number s w.writer moves found in
              let word : Some w.writer.word ≡ Some f = sym w.writer.its_word ∙ (ap (λ (x : SessionState). sitting_word x x.step) same.1 ∙ e) in
              absurd (other (sym w.its_part ∙ ap (λ (x : FrameWord). x.word) (some_same w.writer.word f word)))
        ];
      }

  -- where a session asks for no word, no word of a frame is written
  no_writer : (number : ℕ) (s : SessionState) (a : ℕ) (part : RecordWord) → event ≡ Moves number → slice_get N.sessions number ≡ Some s → asked_place (session_ask (seat_at N number) s) ≡ None → IsWritten N event S T a part → ⊥
  no_writer number s a part moves found nowhere w =
      let same = same_state number s w.writer moves found in
      let word : sitting_word s s.step ≡ Some w.writer.word = ap (λ (x : SessionState). sitting_word x x.step) (sym same.1) ∙ w.writer.its_word in
      none_some _ (sym nowhere ∙ sitting_asks (seat_at N number) s s.step w.writer.word word)

  own_so : (number : ℕ) (s : SessionState) → event ≡ Moves number → slice_get N.sessions number ≡ Some s → N.crashed ≡ false → IsSo T (session_moved (seat_at N number) (near N s)).machine
  own_so number s moves found alive =
      let k : Seat = seat_at N number in
      let ask : Ask Told = session_ask k s in
      let stays : asked_place ask ≡ None → ReservedStays S T (reserved_by number s) = λ nowhere its reserved part.
      elim (stays_or opening start before event opened its.addr part permitted so (reserved_below number s its found reserved)) [
        | inl same ↦ same
        | inr w ↦ absurd (no_writer number s its.addr part moves found nowhere w)
      ] in
      asks_so S T k (near N s) ask refl stays (sitting_writes S T k s s.step (own_stores number s moves found alive)) (so number s found)

  start_safe : start ≤ safe_at N
  unfolding run
  start_safe =
      let rises = (life_rises opening start [] before opened).safe_read_only in
      let first = opened.words.safe_read_only in
      omega (arith, rises, first)

  abbrev After : ℕ → SessionState → Type 0
  After number s = slice_get (happens W event).now.sessions number ≡ Some s

  crashed_so : N.crashed ≡ true → (number : ℕ) (s : SessionState) → After number s → IsSo T s
  crashed_so over number s after =
      let found : slice_get N.sessions number ≡ Some s = sym (ap (λ (w : World). slice_get w.now.sessions number) (is_over W event over)) ∙ after in
      so_stays S T number s (λ its reserved part. crashed_stays opening start before event opened its.addr part permitted over (reserved_below number s its found reserved)) (so number s found)

  -- what another call or another session's step leaves
  stayed_so : (number : ℕ) (s : SessionState) → slice_get N.sessions number ≡ Some s → (event ≡ Moves number → ⊥) → IsSo T s
  stayed_so number s found other = so_stays S T number s (others_stay number s found other) (so number s found)

  called_so : (number : ℕ) (call : Call) (s : SessionState) (found : Option SessionState) → N.crashed ≡ false → event ≡ Calls number call → slice_get N.sessions number ≡ found → After number s → IsSo T s
  unfolding session_goes
  called_so number call s None alive same e after =
      none_some s (sym e ∙ (sym (ap (λ (w : World). slice_get w.now.sessions number) (ap (happens W) same ∙ (no_session W number call e).0)) ∙ after))
  called_so number call s (Some was) alive same e after =
      let there : slice_get (happens W event).now.sessions number ≡ Some (session_called (seat_at N number) was call) =
      ap (λ (x : Event). slice_get (happens W x).now.sessions number) same ∙ session_written W (Calls number call) number was (own_number number) alive e in
      let its : session_called (seat_at N number) was call ≡ s = some_same _ s (sym there ∙ after) in
      subst (IsSo T) its (called_now_so T (seat_at N number) was call (stayed_so number was e (λ moves. let clash : Calls number call ≡ Moves number = sym same ∙ moves in cc)))

  moved_so : (number : ℕ) (s : SessionState) (found : Option SessionState) → N.crashed ≡ false → event ≡ Moves number → slice_get N.sessions number ≡ found → After number s → IsSo T s
  unfolding session_goes
  moved_so number s None alive same e after =
      none_some s (sym e ∙ (sym (ap (λ (w : World). slice_get w.now.sessions number) (ap (happens W) same ∙ (no_session W number Refresh e).1)) ∙ after))
  moved_so number s (Some was) alive same e after =
      let there : slice_get (happens W event).now.sessions number ≡ Some (session_moved (seat_at N number) (near N was)).machine =
      ap (λ (x : Event). slice_get (happens W x).now.sessions number) same ∙ session_written W (Moves number) number was (own_number number) alive e in
      let its : (session_moved (seat_at N number) (near N was)).machine ≡ s = some_same _ s (sym there ∙ after) in
      subst (IsSo T) its (own_so number was same e alive)

  mine_so : (x : Event) (number : ℕ) (s : SessionState) → event ≡ x → is_of_session number x ≡ true → N.crashed ≡ false → After number s → IsSo T s
  mine_so (Calls at call) number s same mine alive after =
      let its : at ≡ number = grind (arith, nat_tests, mine) in
      called_so number call s (slice_get N.sessions number) alive (same ∙ ap (λ (i : ℕ). Calls i call) its) refl after
  mine_so (Moves at) number s same mine alive after =
      let its : at ≡ number = grind (arith, nat_tests, mine) in
      moved_so number s (slice_get N.sessions number) alive (same ∙ ap (λ (i : ℕ). Moves i) its) refl after
  mine_so (Commits kind) number s same mine alive after = cc
  mine_so Turns number s same mine alive after = cc
  mine_so (KeeperMoves granted done) number s same mine alive after = cc
  mine_so Crashes number s same mine alive after = cc

  alive_so : N.crashed ≡ false → (number : ℕ) (s : SessionState) → After number s → IsSo T s
  alive_so alive number s after = by_mine (is_of_session number event) refl
    where
      by_mine : (b : Bool) → is_of_session number event ≡ b → IsSo T s
      by_mine true mine = mine_so event number s refl mine alive after
      by_mine false mine =
          stayed_so number s (sym (session_apart W event number mine) ∙ after)
          (λ moves. let clash : false ≡ true = sym mine ∙ (ap (is_of_session number) moves ∙ own_number number) in cc)

  pub rows_then : AreSo T (happens W event).now
  rows_then = by_crash N.crashed refl
    where
      by_crash : (b : Bool) → N.crashed ≡ b → AreSo T (happens W event).now
      by_crash true e = λ number s after. crashed_so e number s after
      by_crash false e = λ number s after. alive_so e number s after

  -- ---- the log, where it was shown
  module _ (low : ℕ) (small : low ≤ start) (shows : StandsShowLog low S G.log) where
    -- a published record that no session changes in place
    unchanged_shows : (a : ℕ) (cell : Cell) → low ≤ a → G.log.cells a ≡ Published cell → ((writer : FrameWriter N event) → changed_in_place writer.state ≡ Some a → ⊥) → ShowsCell (T a) cell
    unchanged_shows a cell above e other =
        same_shows (S a) (T a) cell (λ part. elim (stays_or opening start before event opened a part permitted so (published_below a cell e)) [
          | inl same ↦ same
          | inr w ↦ absurd (other w.writer (writes_changed a cell part e w).0)
        ]) (shows a cell above e)

    crashed_shows : N.crashed ≡ true → StandsShowLog low T G.log
    crashed_shows over = λ a cell above e. same_shows (S a) (T a) cell (λ part. crashed_stays opening start before event opened a part permitted over (published_below a cell e)) (shows a cell above e)

    -- no session moves
    still_shows : ((number : ℕ) → event ≡ Moves number → ⊥) → StandsShowLog low T G.log
    still_shows other = λ a cell above e. unchanged_shows a cell above e (λ writer changes. other writer.number writer.moves)

    -- ---- a session moves, by the log's events of its step
    module _ (number : ℕ) (s : SessionState) (moves : event ≡ Moves number) (found : slice_get N.sessions number ≡ Some s) (alive : N.crashed ≡ false) where
      abbrev K : Seat
      K = seat_at N number

      abbrev A : Ask Told
      A = session_ask K s

      abbrev R : ℕ
      R = reply_to N.words A

      the_writer : (writer : FrameWriter N event) (a : ℕ) → changed_in_place writer.state ≡ Some a → changed_in_place s ≡ Some a
      the_writer writer a changes = ap changed_in_place (sym (same_state number s writer moves found).1) ∙ changes

      others_show : (a : ℕ) → changed_in_place s ≡ Some a → OthersShow low T G.log a
      others_show a changes = λ b cell other above e. unchanged_shows b cell above e (λ writer its. other (some_same b a (sym (the_writer writer b its) ∙ changes)))

      none_changed : ((a : ℕ) → changed_in_place s ≡ Some a → ⊥) → StandsShowLog low T G.log
      none_changed other = λ b cell above e. unchanged_shows b cell above e (λ writer its. other b (the_writer writer b its))

      -- an ask that leaves its word as it is
      left_shows : (a : ℕ) (cell : Cell) → low ≤ a → G.log.cells a ≡ Published cell → asked A R ≡ R → ShowsCell (T a) cell
      left_shows a cell above e left =
          same_shows (S a) (T a) cell (λ part. elim (stays_or opening start before event opened a part permitted so (published_below a cell e)) [
            | inl same ↦ same
            | inr w ↦
                let same = same_state number s w.writer moves found in
                let ask : session_ask (seat_at N w.writer.number) w.writer.state ≡ A = ap (λ (i : ℕ). session_ask (seat_at N i) w.writer.state) same.0 ∙ ap (session_ask K) same.1 in
                let found_there : R ≡ S a part = ap (λ (x : Ask Told). reply_to N.words x) (sym ask) ∙ w.found in
                w.written ∙ (ap (λ (x : Ask Told). asked x (S a part)) ask ∙ (ap (asked A) (sym found_there) ∙ (left ∙ found_there)))
          ]) (shows a cell above e)

      quiet_now : (events : List GhostEvent) → AreQuiet events → ((a : ℕ) → changed_in_place s ≡ Some a → asked A R ≡ R) → StandsShowLog low T (ghost_run H G events).log
      quiet_now events quiet left = λ a cell above e.
          let was : G.log.cells a ≡ Published cell = quiet_run H G events a cell quiet e in
          elim (found_or (changed_in_place s) a) [
            | inl changes ↦ left_shows a cell above was (left a changes)
            | inr other ↦ unchanged_shows a cell above was (λ writer its. other (the_writer writer a its))
          ]

      -- the record that it changes in place
      changed_now : (a : ℕ) (entry : HistoryEntry) (cell : Cell) → low ≤ a → changed_in_place s ≡ Some a → IsAllowed entry.op → asked A R ≡ word_of (value_applied (value_of R) entry.op) → G.log.cells a ≡ Published cell → ShowsCell (T a) (changed_by entry cell)
      changed_now a entry cell above changes allowed value e =
          let was = shows a cell above e in
          let f : FrameWord = record { addr = a; word = rec.Value } in
          let its = wrote opening start before event opened number s f moves found alive (owes_of number s moves found) (so number s found) (sitting_value s s.step a changes) in
          let stored : T a rec.Value ≡ word_of (value_applied (value_of R) entry.op) = its.written ∙ (ap (asked A) (sym its.found) ∙ value) in
          let before_it : value_of R ≡ cell.value = ap value_of its.found ∙ was.value in
          record {
            header = ap header_said (kept a cell e rec.Header (λ same. cc)) ∙ was.header;
            key = kept a cell e rec.Key (λ same. cc) ∙ was.key;
            value = ap value_of stored ∙ (value_back R entry.op allowed ∙ ap (λ (v : Option ℕ). value_applied v entry.op) before_it);
          }
        where
          kept : (b : ℕ) (its : Cell) → G.log.cells b ≡ Published its → (part : RecordWord) → part ≢ rec.Value → T b part ≡ S b part
          kept b its published_there part other = elim (stays_or opening start before event opened b part permitted so (published_below b its published_there)) [
            | inl same ↦ same
            | inr w ↦ absurd (other (writes_changed b its part published_there w).1)
          ]

      -- the record that it publishes
      published_now : (its : Reservation) → reserved_by number s ≡ Some its → sitting_word s s.step ≡ None → ShowsCell (S its.addr) its.cell → ShowsCell (T its.addr) its.cell
      published_now its reserved nowhere was =
          same_shows (S its.addr) (T its.addr) its.cell (λ part. elim (stays_or opening start before event opened its.addr part permitted so (reserved_below number s its found reserved)) [
            | inl same ↦ same
            | inr w ↦
                let same = same_state number s w.writer moves found in
                absurd (none_some w.writer.word (sym nowhere ∙ (ap (λ (x : SessionState). sitting_word x x.step) (sym same.1) ∙ w.writer.its_word)))
          ]) was

      above_start : (a : ℕ) → changed_in_place s ≡ Some a → low ≤ a
      above_start a changes =
          let f : FrameWord = record { addr = a; word = rec.Value } in
          let safe = (wrote opening start before event opened number s f moves found alive (owes_of number s moves found) (so number s found) (sitting_value s s.step a changes)).frame.safe in
          let under = start_safe in
          omega (arith, safe, under, small)

      changed_published : (a : ℕ) → changed_in_place s ≡ Some a → IsPublished (G.log.cells a)
      changed_published a changes =
          let its : SessionChangesPublished G.log (slice_get N.sessions number) = subst (λ (x : Event). ChangesPublished N G.log x) moves published in
          subst (λ (x : Option SessionState). SessionChangesPublished G.log x) found its a changes

      takes_now : (events : List GhostEvent) (made : Option HistoryEntry) → TakesEffect (step_of K s R) events made → Fit S T (SittingWrites S T s s.step) (changed_in_place s) (reserved_by number s) (sitting_word s s.step) events
          → (AreQuiet events → (a : ℕ) → changed_in_place s ≡ Some a → asked A R ≡ R) → StandsShowLog low T (ghost_run H G events).log
      unfolding ghost_run ghosts_after
      takes_now events made (Quietly its quiet) fit left = quiet_now its quiet (left quiet)
      takes_now events made (Behind first quiet rest) fit left = quiet_shows H low T _ first quiet (takes_now _ made rest fit.1 (λ still. left (quiet, still)))
      takes_now events made (InPlace a entry at) fit left =
          let changes : changed_in_place s ≡ Some a = fit.0.0 in
          let there = the_cell (G.log.cells a) (changed_published a changes) in
          change_shows low T G.log a entry there.0 (G.log.cells a) there.1 (others_show a changes) (changed_now a entry there.0 (above_start a changes) changes fit.0.1 at.value there.1)
      takes_now events made (ByRecord its at) fit left =
          let nowhere : sitting_word s s.step ≡ None = fit.0.1 in
          let reserved : reserved_by number s ≡ Some its = at.reserved in
          publish_shows H low T G.log its.addr its.entry its.cell (G.log.cells its.addr) (reserved_cell number s its found reserved)
          (λ b cell other high e. none_changed (λ a changes. none_some _ (sym nowhere ∙ sitting_value s s.step a changes)) b cell high e)
          (published_now its reserved nowhere (let valid = fit.0.0 its reserved in valid.shows))

      -- where it asks for no word
      nowhere_shows : asked_place A ≡ None → StandsShowLog low T G.log
      nowhere_shows nowhere = λ a cell above e.
          same_shows (S a) (T a) cell (λ part. elim (stays_or opening start before event opened a part permitted so (published_below a cell e)) [
            | inl same ↦ same
            | inr w ↦ absurd (no_writer number s a part moves found nowhere w)
          ]) (shows a cell above e)

      word_shows : StandsShowLog low T (ghost_run H G (sitting_ghosts K W.past.trace s s.step R)).log
      word_shows =
          takes_now (sitting_ghosts K W.past.trace s s.step R) _ (life_takes opening start before number s R opened found) (sitting_fit S T (SittingWrites S T s s.step) K W.past.trace s s.step R (life_so opening start before number s opened found).sits (so number s found).sits (λ writes. writes))
          (λ quiet a changes. sitting_quiet K W.past.trace s s.step R a changes quiet)

      step_shows : (ask : Ask Told) → A ≡ ask → StandsShowLog low T (ghost_run H G (step_ghosts K W.past.trace s N.words ask)).log
      unfolding step_ghosts ghost_run
      step_shows (Done its) e = nowhere_shows (ap asked_place e)
      step_shows (Put slot action) e = nowhere_shows (ap asked_place e)
      step_shows (Take slot) e = nowhere_shows (ap asked_place e)
      step_shows ask e = subst (λ (x : Ask Told). StandsShowLog low T (ghost_run H G (sitting_ghosts K W.past.trace s s.step (reply_to N.words x))).log) e word_shows

    moved_shows : (number : ℕ) (found : Option SessionState) → event ≡ Moves number → slice_get N.sessions number ≡ found → N.crashed ≡ false → StandsShowLog low T (ghost_run H G (moved_ghosts W number found)).log
    unfolding ghost_run
    moved_shows number None moves e alive = λ a cell above is. unchanged_shows a cell above is
        (λ writer changes. none_some writer.state (sym e ∙ (ap (slice_get N.sessions) (sym (same_number writer.number number (sym writer.moves ∙ moves))) ∙ writer.found)))
    moved_shows number (Some s) moves e alive = step_shows number s moves e alive (session_ask (seat_at N number) s) refl

    own_shows : (x : Event) → event ≡ x → N.crashed ≡ false → StandsShowLog low T (ghost_run H G (own_ghosts W x)).log
    unfolding ghost_run
    own_shows (Moves number) same alive = moved_shows number (slice_get N.sessions number) same refl alive
    own_shows (Calls number call) same alive = still_shows (λ other moves. let clash : Calls number call ≡ Moves other = sym same ∙ moves in cc)
    own_shows (Commits kind) same alive = still_shows (λ other moves. let clash : Commits kind ≡ Moves other = sym same ∙ moves in cc)
    own_shows Turns same alive = still_shows (λ other moves. let clash : Turns ≡ Moves other = sym same ∙ moves in cc)
    own_shows (KeeperMoves granted done) same alive = still_shows (λ other moves. let clash : KeeperMoves granted done ≡ Moves other = sym same ∙ moves in cc)
    own_shows Crashes same alive = still_shows (λ other moves. let clash : Crashes ≡ Moves other = sym same ∙ moves in cc)

    event_shows : StandsShowLog low T (ghost_run H G (ghost_events (serials_in opening.now) W event)).log
    unfolding ghost_events ghost_run
    event_shows = by_test N.crashed refl
      where
        lines : List TraceLine
        lines = lines_added (serials_in opening.now) W.past.trace (traced_by W event)

        fresh : List GhostEvent
        fresh = fixed_ghosts (safe_at N) (safe_at (happens W event).now)

        by_test : (c : Bool) → N.crashed ≡ c → StandsShowLog low T (ghost_run H G (if c then [] else map Tells lines ++ (fresh ++ own_ghosts W event))).log
        by_test true e = crashed_shows e
        by_test false e =
            quiet_behind H low T G (map Tells lines) (fresh ++ own_ghosts W event) (told_quiet lines)
            (quiet_behind H low T G fresh (own_ghosts W event) (fixed_quiet (safe_at N) (safe_at (happens W event).now)) (own_shows event refl e))

    pub shows_then : StandsShowLog low T (life_ghosts opening ghosts (event ∷ before)).log
    unfolding mapped
    shows_then = subst (λ (g : Ghosts). StandsShowLog low T g.log) (sym (run_on H ghosts (ghost_events (serials_in opening.now) W event) (mapped opening before))) event_shows

  -- ---- headers, where they said what became of their records
  -- what is not reserved keeps its header
  header_stays : (a : ℕ) → a < tail_at N → ((entry : HistoryEntry) (cell : Cell) → G.log.cells a ≡ Reserved entry cell → ⊥) → T a rec.Header ≡ S a rec.Header
  header_stays a low other = elim (stays_or opening start before event opened a rec.Header permitted so low) [
    | inl same ↦ same
    | inr w ↦ absurd (by_owner w w.owner)
  ]
    where
      by_owner : (w : IsWritten N event S T a rec.Header) → IsOwner (changed_in_place w.writer.state) (reserved_by w.writer.number w.writer.state) w.writer.word → ⊥
      by_owner w (ByChange changes word) = let clash : ◌≡◌ {A = RecordWord} rec.Value rec.Header = sym word ∙ w.its_part in cc
      by_owner w (ByReservation its reserved same) = other its.entry its.cell (ap G.log.cells (sym (same ∙ w.addr)) ∙ reserved_cell w.writer.number w.writer.state its w.writer.found reserved)

  fits_still : (a : ℕ) (logged : Logged) → G.log.cells a ≡ logged → HeaderFits S a logged → HeaderFits T a logged
  fits_still a (Published cell) e was = subst (IsHeaderOf cell false) (sym (header_stays a (published_below a cell e) (λ entry other is. published_free (G.log.cells a) entry other (is_published (G.log.cells a) cell e) is))) was
  fits_still a (Dropped cell) e was =
      let low : a < tail_at N = elim (cases_lt a (tail_at N)) [
        | inl low ↦ low
        | inr high ↦ absurd (dropped_born (G.log.cells a) cell e (ghost_unborn opening start ghosts before opened none a high))
      ] in
      let same = header_stays a low (λ entry other is. dropped_free (G.log.cells a) entry other cell e is) in
      record { header = subst (IsHeaderOf cell true) (sym same) was.header; falls = was.falls }
    where
      dropped_born : (logged : Logged) (cell : Cell) → logged ≡ Dropped cell → logged ≡ Unborn → ⊥
      dropped_born logged cell e none = cc

      dropped_free : (logged : Logged) (entry : HistoryEntry) (other cell : Cell) → logged ≡ Dropped cell → logged ≡ Reserved entry other → ⊥
      dropped_free logged entry other cell e is = cc
  fits_still a Unborn e was = tt
  fits_still a (Reserved entry cell) e was = tt

  module _ (was_fit : HeadersFit start S G.log) where
    still_fit : HeadersFit start T G.log
    still_fit = λ a from low. fits_still a (G.log.cells a) refl (was_fit a from low)

    -- a session moves
    module _ (number : ℕ) (s : SessionState) (moves : event ≡ Moves number) (found : slice_get N.sessions number ≡ Some s) (alive : N.crashed ≡ false) where
      reserved_stays : (its : Reservation) → reserved_by number s ≡ Some its → sitting_word s s.step ≡ None → T its.addr rec.Header ≡ S its.addr rec.Header
      reserved_stays its reserved nowhere = elim (stays_or opening start before event opened its.addr rec.Header permitted so (reserved_below number s its found reserved)) [
        | inl same ↦ same
        | inr w ↦
            let same = same_state number s w.writer moves found in
            absurd (none_some w.writer.word (sym nowhere ∙ (ap (λ (x : SessionState). sitting_word x x.step) (sym same.1) ∙ w.writer.its_word)))
      ]

      word_fit : (reply : ℕ) → AllFall (sitting_ghosts (seat_at N number) W.past.trace s s.step reply) → HeadersFit start T (ghost_run H G (sitting_ghosts (seat_at N number) W.past.trace s s.step reply)).log
      word_fit reply falls =
          moves_fit H start S T (SittingWrites S T s s.step) (sitting_writes S T (seat_at N number) s s.step (own_stores number s moves found alive)) G _ _ reply (changed_in_place s) (sitting_word s s.step) (sitting_ghosts (seat_at N number) W.past.trace s s.step reply) (reserved_by number s) _ (life_on opening start before number s reply opened found)
          (sitting_fit S T (SittingWrites S T s s.step) (seat_at N number) W.past.trace s s.step reply (life_so opening start before number s opened found).sits (so number s found).sits (λ writes. writes)) falls
          (λ its reserved. reserved_cell number s its found reserved) reserved_stays still_fit

      step_fit : (ask : Ask Told) → AllFall (step_ghosts (seat_at N number) W.past.trace s N.words ask) → HeadersFit start T (ghost_run H G (step_ghosts (seat_at N number) W.past.trace s N.words ask)).log
      unfolding step_ghosts ghost_run
      step_fit (Done its) falls = still_fit
      step_fit (Put slot action) falls = still_fit
      step_fit (Take slot) falls = still_fit
      step_fit ask falls = word_fit (reply_to N.words ask) falls

    moved_fit : (number : ℕ) (found : Option SessionState) → event ≡ Moves number → slice_get N.sessions number ≡ found → N.crashed ≡ false → AllFall (moved_ghosts W number found) → HeadersFit start T (ghost_run H G (moved_ghosts W number found)).log
    unfolding ghost_run
    moved_fit number None moves e alive falls = still_fit
    moved_fit number (Some s) moves e alive falls = step_fit number s moves e alive (session_ask (seat_at N number) s) falls

    own_fit : (x : Event) → event ≡ x → N.crashed ≡ false → AllFall (own_ghosts W x) → HeadersFit start T (ghost_run H G (own_ghosts W x)).log
    unfolding ghost_run
    own_fit (Moves number) same alive falls = moved_fit number (slice_get N.sessions number) same refl alive falls
    own_fit (Calls number call) same alive falls = still_fit
    own_fit (Commits kind) same alive falls = still_fit
    own_fit Turns same alive falls = still_fit
    own_fit (KeeperMoves granted done) same alive falls = still_fit
    own_fit Crashes same alive falls = still_fit

    event_fit : AllFall (ghost_events (serials_in opening.now) W event) → HeadersFit start T (ghost_run H G (ghost_events (serials_in opening.now) W event)).log
    unfolding ghost_events ghost_run
    event_fit falls = by_test N.crashed refl falls
      where
        lines : List TraceLine
        lines = lines_added (serials_in opening.now) W.past.trace (traced_by W event)

        fresh : List GhostEvent
        fresh = fixed_ghosts (safe_at N) (safe_at (happens W event).now)

        by_test : (c : Bool) → N.crashed ≡ c → AllFall (if c then [] else map Tells lines ++ (fresh ++ own_ghosts W event)) → HeadersFit start T (ghost_run H G (if c then [] else map Tells lines ++ (fresh ++ own_ghosts W event))).log
        by_test true e falls = still_fit
        by_test false e falls =
            still_behind H start T G (map Tells lines) (fresh ++ own_ghosts W event) (told_still lines)
            (still_behind H start T G fresh (own_ghosts W event) (fixed_still (safe_at N) (safe_at (happens W event).now))
            (own_fit event refl e (fall_before fresh (own_ghosts W event) (fall_before (map Tells lines) (fresh ++ own_ghosts W event) falls))))

    pub headers_then : AllFall (ghost_events (serials_in opening.now) W event) → HeadersFit start T (life_ghosts opening ghosts (event ∷ before)).log
    unfolding mapped
    headers_then falls = subst (λ (g : Ghosts). HeadersFit start T g.log) (sym (run_on H ghosts (ghost_events (serials_in opening.now) W event) (mapped opening before))) (event_fit falls)
