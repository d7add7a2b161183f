-- So it is with the log beside a life.
use Rattle.std.proofs.Common.{◌≡◌, ℕ, ◌∙◌, refl, ap, subst, arith, Bool, true, false, List, [], ◌∷◌, ◌++◌}
use Rattle.std.specs.Prelude.{map, if◌then◌else◌, Option, Some, None, slice_get}
use Rattle.fkv_plane.specs.Asked.{asked, asked_place, reply_to, word_found}
use Rattle.fkv_plane.specs.declared.asks.Ask.{Ask}
use Rattle.fkv_plane.specs.declared.asks.Ask.TheVariants.{Put, Take, Done}
use Rattle.law_refine.specs.Below.fkv_session.Sessions.{SessionState, Seat, session_ask}
use Rattle.law_refine.specs.Below.fkv_session.Told.{Told}
use Rattle.law_refine.specs.Below.fkv_world.Past.{Traced}
use Rattle.law_refine.specs.Below.fkv_world.Runs.{World, happens, run}
use Rattle.law_refine.specs.Below.fkv_world.World.{Event, Moves, seat_at}
use Rattle.law_refine.specs.Below.law_world.Guarded.Shows.{IsOpened}
use Rattle.law_log.specs.Chains.{Logged, Unborn}
use Rattle.law_log.specs.Ghosts.{Ghosts, GhostEvent, Tells, ghost_run}
use Rattle.law_log.specs.Trace.{TraceLine}
use Rattle.law_refine.specs.Events.GhostEvents.{fixed_ghosts, ghost_events, home_in, life_ghosts, mapped, moved_ghosts, own_ghosts, safe_at, serials_in, traced_by}
use Rattle.law_refine.specs.Events.Lines.{lines_added}
use Rattle.law_refine.specs.Events.Published.{IsPublished}
use Rattle.law_refine.specs.Events.Reservations.{TakesTail}
use Rattle.law_refine.specs.Events.Reserved.{IsUnbornFrom, tail_at}
use Rattle.law_refine.specs.Events.Sessions.{sitting_ghosts, step_ghosts}
use Rattle.law_refine.proofs.OfEvents.SessionSteps.{life_on}
use Rattle.law_refine.proofs.OfEvents.Unborn.{ghost_unborn}
use Rattle.law_refine.proofs.OfHeads.LifeHeads.{life_meets}
use Rattle.law_refine.proofs.OfRecords.LogHeaders.{fixed_still, told_still}
use Rattle.law_opening.specs.Changes.Laws.{BeginsLinked}
use Rattle.law_opening.specs.Changes.Linked.{IsLinkedLog}
use Rattle.law_opening.proofs.OfChanges.Logs.{AllTakeFree, free_on, moves_free, run_linked, stays_behind, still_free}
use Rattle.law_opening.proofs.OfChanges.Rows.{Stays}

step_free : (home : ℕ → ℕ) (g : Ghosts) (k : Seat) (trace : List Traced) (s : SessionState) (words : List ℕ) (ask : Ask Told) → AllTakeFree home g (sitting_ghosts k trace s s.step (reply_to words ask)) → AllTakeFree home g (step_ghosts k trace s words ask)
unfolding step_ghosts AllTakeFree
step_free home g k trace s words (Done its) free = tt
step_free home g k trace s words (Put slot action) free = tt
step_free home g k trace s words (Take slot) free = tt
step_free home g k trace s words ask free = free

unborn_free : (logged : Logged) → logged ≡ Unborn → IsPublished logged → ⊥
unborn_free logged e there = subst IsPublished e there

module _ (opening : World) (start : ℕ) (ghosts : Ghosts) (opened : IsOpened opening.now start) (none : IsUnbornFrom (tail_at opening.now) ghosts) where
  abbrev H : ℕ → ℕ
  H = home_in opening.now.shape.bucket_bits

  moved_free : (before : List Event) (number : ℕ) (found : Option SessionState) → slice_get (run opening before).now.sessions number ≡ found → AllTakeFree H (life_ghosts opening ghosts before) (moved_ghosts (run opening before) number found)
  unfolding AllTakeFree
  moved_free before number None e = tt
  moved_free before number (Some s) e =
      let w : World = run opening before in
      let k : Seat = seat_at w.now number in
      let ask : Ask Told = session_ask k s in
      let free : (addr : ℕ) → TakesTail (asked_place ask) (asked ask) (reply_to w.now.words ask) addr → IsPublished ((life_ghosts opening ghosts before).log.cells addr) → ⊥ = λ addr takes.
      unborn_free ((life_ghosts opening ghosts before).log.cells addr) (ghost_unborn opening start ghosts before opened none addr (let tail : addr ≡ tail_at w.now = takes.found ∙ ap (word_found w.now.words) takes.at in omega (arith, tail))) in
      step_free H (life_ghosts opening ghosts before) k w.past.trace s w.now.words ask
      (moves_free H (life_ghosts opening ghosts before) (asked_place ask) (asked ask) (reply_to w.now.words ask) (sitting_ghosts k w.past.trace s s.step (reply_to w.now.words ask)) _ _ free (life_on opening start before number s (reply_to w.now.words ask) opened e))

  own_free : (before : List Event) (event : Event) → AllTakeFree H (life_ghosts opening ghosts before) (own_ghosts (run opening before) event)
  unfolding AllTakeFree
  own_free before (Moves number) = moved_free before number (slice_get (run opening before).now.sessions number) refl
  own_free before event = tt

  event_free : (before : List Event) (event : Event) → AllTakeFree H (life_ghosts opening ghosts before) (ghost_events (serials_in opening.now) (run opening before) event)
  unfolding ghost_events AllTakeFree
  event_free before event = by_test w.now.crashed
    where
      w : World
      w = run opening before

      g : Ghosts
      g = life_ghosts opening ghosts before

      lines : List TraceLine
      lines = lines_added (serials_in opening.now) w.past.trace (traced_by w event)

      fresh : List GhostEvent
      fresh = fixed_ghosts (safe_at w.now) (safe_at (happens w event).now)

      by_test : (c : Bool) → AllTakeFree H g (if c then [] else map Tells lines ++ (fresh ++ own_ghosts w event))
      by_test true = tt
      by_test false =
          free_on H g (map Tells lines) (fresh ++ own_ghosts w event) (still_free H (ghost_run H g (fresh ++ own_ghosts w event)) (map Tells lines) (told_still lines))
          (free_on H g fresh (own_ghosts w event) (still_free H (ghost_run H g (own_ghosts w event)) fresh (fixed_still (safe_at w.now) (safe_at (happens w event).now))) (own_free before event))

  life_free : (events : List Event) → AllTakeFree H ghosts (mapped opening events)
  unfolding mapped AllTakeFree
  life_free [] = tt
  life_free (event ∷ before) = free_on H ghosts (ghost_events (serials_in opening.now) (run opening before) event) (mapped opening before) (event_free before event) (life_free before)

  pub life_stays : (before : List Event) (event : Event) → Stays (life_ghosts opening ghosts before).log (life_ghosts opening ghosts (event ∷ before)).log
  unfolding mapped
  life_stays before event = stays_behind H ghosts (ghost_events (serials_in opening.now) (run opening before) event) (mapped opening before) (free_on H ghosts (ghost_events (serials_in opening.now) (run opening before) event) (mapped opening before) (event_free before event) (life_free before))

pub life_linked : (opening : World) (start : ℕ) (lists : ℕ → List ℕ) (ghosts : Ghosts) (events : List Event) → BeginsLinked opening start lists ghosts → IsLinkedLog (life_ghosts opening ghosts events).log
life_linked opening start lists ghosts events begins =
    run_linked (home_in opening.now.shape.bucket_bits) ghosts (mapped opening events) (life_free opening start ghosts begins.now begins.unborn events)
    (life_meets opening start lists ghosts events begins.now begins.index begins.unborn begins.reserves begins.heads) begins.linked
