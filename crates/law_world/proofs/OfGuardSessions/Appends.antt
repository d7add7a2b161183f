-- A step of an append is a list of the guard's events.
use Rattle.std.proofs.Common.{◌≡◌, ℕ, ◌<◌, ◌*◌, List, [], ◌∷◌, refl, ap, subst, arith, inl, inr, true, false}
use Rattle.std.specs.Prelude.{Option, Some, None, slice_get, slice_set, ◌==◌, if◌then◌else◌}
use Rattle.fkv_base.specs.declared.numbers.Addr.{Addr}
use Rattle.fkv_words.specs.declared.headers.Header.{Header}
use Rattle.fkv_plane.specs.declared.actions.Action.{Action}
use Rattle.fkv_plane.specs.declared.asks.Ask.{Ask}
use Rattle.fkv_plane.specs.declared.asks.Ask.TheVariants.{Done}
use Rattle.fkv_plane.specs.Asked.{words_after, reply_to, word_at}
use Rattle.fkv_plane.specs.Passing.{passed, is_done}
use Rattle.fkv_plane.proofs.Shown.{passed_words, passed_reply}
use Rattle.fkv_log.specs.declared.reserving.ReserveAnswer.{ReserveAnswer}
use Rattle.fkv_log.specs.declared.reserving.ReserveAnswer.TheVariants as answer
use Rattle.fkv_log.specs.declared.reserving.Reserving.{Reserving}
use Rattle.fkv_log.specs.declared.reserving.Reserving.TheVariants as reserving
use Rattle.fkv_log.specs.declared.filling.Filling.{Filling}
use Rattle.fkv_log.specs.declared.filling.Filling.TheVariants as filling
use Rattle.fkv_log.specs.declared.invalidating.Invalidating.{Invalidating}
use Rattle.fkv_log.specs.declared.invalidating.Invalidating.TheVariants as invalidating
use Rattle.fkv_log.specs.Reserving.{reserve_ask, reserve_next, reserve_next_ask, reserve_asks_left}
use Rattle.fkv_log.specs.Filling.{fill_ask, fill_next, fill_asks_left}
use Rattle.fkv_log.specs.Invalidating.{invalidate_ask, invalidate_next, invalidate_asks_left}
use Rattle.fkv_index.specs.declared.publishing.Publishing.{Publishing}
use Rattle.fkv_index.specs.declared.publishing.Publishing.TheVariants as publishing
use Rattle.fkv_index.specs.Publishing.{publish_ask, publish_next, publish_next_ask, publish_asks_left}
use Rattle.fkv_flush.specs.GuardSeen.{LastSeen}
use Rattle.fkv_flush.specs.GuardWorld as guard
use Rattle.fkv_flush.specs.GuardWorld.{Actor, Work, GuardNow, GuardEvent, Moves, ToInvalidate, near, put_near, work_step, is_guarded, is_idle, reserved_by, invalidated_by}
use Rattle.fkv_flush.proofs.Shown.{goes_on, put_there, moves_work, publishes, changes, FitsWork, Fits, Follows}
use Rattle.fkv_ops.specs.declared.appending.Appending.{Appending}
use Rattle.fkv_ops.specs.declared.appending.Appending.TheVariants.{Ended, Reserves, Fills, Publishes, Invalidates}
use Rattle.fkv_ops.specs.declared.appending.AppendAnswer.TheVariants as append
use Rattle.fkv_ops.specs.Appending.{AppendState, appending_ask, append_ask, appending_next, append_next, publish_ledto, invalidate_ledto}
use Rattle.fkv_ops.proofs.Shown.{IsAppendUnderWay}
use Rattle.law_world.specs.GuardSessions.Likenesses.{likeness, through, reserve_work, fill_work, invalidate_work, append_work, append_undecided, append_onward, append_likeness, invalidate_undecided}
use Rattle.law_world.specs.GuardSessions.Steps.{IsOuter}
use Rattle.law_world.specs.GuardSessions.Tries.{is_for_entry, reserved_events, publish_events, append_events, AppendWritesOuter}
use Rattle.law_world.proofs.OfGuardSessions.Onwards.{Leads, Keeps, Begins, Moved}
use Rattle.law_world.proofs.OfGuardSessions.Outer.{passed_owes}
use Rattle.law_world.proofs.OfGuardSessions.AppendsLed.{truth, reserved_then, reserve_ends, reserve_goes, reserve_led, fill_ends, fill_goes, fill_led}

-- the actor's work is the machine inside, while that has asks left
reserve_is : (r : Reserving) (work : Work) → 0 < reserve_asks_left r → FitsWork (reserve_work r) work → work ≡ guard.Reserves r
unfolding reserve_asks_left
reserve_is reserving.AtRest work some fits = absurd (omega (arith, some))
reserve_is (reserving.LoadsLimit bound) work some fits = fits
reserve_is (reserving.LoadsTail limit) work some fits = fits
reserve_is (reserving.TakesTail tail) work some fits = fits

reserve_busy : (r : Reserving) → 0 < reserve_asks_left r → is_idle (guard.Reserves r) ≡ false
unfolding reserve_asks_left
reserve_busy reserving.AtRest some = absurd (omega (arith, some))
reserve_busy r some = refl

reserve_fits : (r : Reserving) → FitsWork (reserve_work r) (guard.Reserves r)
reserve_fits reserving.AtRest = refl
reserve_fits r = refl

fill_is : (f : Filling) (work : Work) → 0 < fill_asks_left f → FitsWork (fill_work f) work → work ≡ guard.Fills f
unfolding fill_asks_left
fill_is filling.AtRest work some fits = absurd (omega (arith, some))
fill_is (filling.StoresValue addr its_words) work some fits = fits
fill_is (filling.StoresKey addr its_words) work some fits = fits
fill_is (filling.StoresHeader addr its_words) work some fits = fits

fill_busy : (f : Filling) → 0 < fill_asks_left f → is_idle (guard.Fills f) ≡ false
unfolding fill_asks_left
fill_busy filling.AtRest some = absurd (omega (arith, some))
fill_busy f some = refl

fill_fits : (f : Filling) → FitsWork (fill_work f) (guard.Fills f)
fill_fits filling.AtRest = refl
fill_fits f = refl

-- Each machine inside: what the actor has is the machine's own next state.
module _ (n : GuardNow) (a : ℕ) (x : Actor) (seen : LastSeen) (got : slice_get n.actors a ≡ Some x) where
  reserve_moves : (r : Reserving) → 0 < reserve_asks_left r → Fits (likeness None (reserve_work r) seen None) x
      → (let reply : ℕ = reply_to n.words (reserve_ask r) in
      Follows n a (Moves a ∷ []) (likeness None (reserve_work (reserve_next r reply)) seen (reserved_by None (reserve_next_ask (n.shape.disk_pages * n.shape.page) r reply))) (words_after n.words (reserve_ask r)) n.actions)
  reserve_moves r some fits =
      let reply : ℕ = reply_to n.words (reserve_ask r) in
      record {
        actor = (work_step n a x (guard.Reserves r)).actor;
        same = moves_work n a x got (guard.Reserves r) (reserve_is r x.work some fits.work) (reserve_busy r some);
        fits = record { machine = fits.machine; work = reserve_fits (reserve_next r reply); seen = fits.seen; undecided = ap (λ u. reserved_by u (reserve_next_ask (n.shape.disk_pages * n.shape.page) r reply)) fits.undecided };
      }

  -- an address for no entry is given up
  reserve_gives_up : (s : AppendState) (work : Option Work) (ask : Ask ReserveAnswer) (words : List ℕ) (actions : List (Option Action)) → (is_done ask ≡ true → work ≡ None)
      → Follows n a (Moves a ∷ []) (likeness None work seen (reserved_by None ask)) words actions → Follows n a (reserved_events a s ask) (likeness None work seen (reserved_then s ask)) words actions
  reserve_gives_up s work (Done (answer.Reserved addr)) words actions none f = elim (truth (is_for_entry s addr)) [
    | inl e ↦ rw e f
    | inr e ↦
        let idle : is_idle f.actor.work ≡ true = subst (λ w. FitsWork w f.actor.work) (none refl) f.fits.work in
        rw e (record {
          actor = record f.actor { undecided = None };
          same = goes_on n a (guard.Publishes a) (Moves a ∷ []) (near words actions f.actor) (near words actions (record f.actor { undecided = None })) f.same
              (publishes (put_near n a (near words actions f.actor)) a f.actor (put_there n a x (near words actions f.actor) got) idle);
          fits = record { machine = f.fits.machine; work = f.fits.work; seen = f.fits.seen; undecided = refl };
        })
  ]
  reserve_gives_up s work (Done answer.Full) words actions none f = f
  reserve_gives_up s work (Done answer.NoRoom) words actions none f = f
  reserve_gives_up s work (Done answer.Contended) words actions none f = f
  reserve_gives_up s work ask words actions none f = f

  fill_moves : (f : Filling) (undecided : Option ℕ) → 0 < fill_asks_left f → Fits (likeness None (fill_work f) seen undecided) x
      → Follows n a (Moves a ∷ []) (likeness None (fill_work (fill_next f)) seen undecided) (words_after n.words (fill_ask n.places f)) n.actions
  fill_moves f undecided some fits = record {
    actor = (work_step n a x (guard.Fills f)).actor;
    same = moves_work n a x got (guard.Fills f) (fill_is f x.work some fits.work) (fill_busy f some);
    fits = record { machine = fits.machine; work = fill_fits (fill_next f); seen = fits.seen; undecided = fits.undecided };
  }

  -- the Cas of the entry publishes the record where it is won
  publish_moves : (addr place word entry : ℕ) → is_guarded n.places place ≡ false → Fits (likeness None None seen (Some addr)) x
      → Follows n a (publish_events a n.words (publishing.SwapsEntry place word entry) (publish_ask (publishing.SwapsEntry place word entry))) (likeness None None seen (if word_at n.words place == word then None else Some addr))
      (words_after n.words (publish_ask (publishing.SwapsEntry place word entry))) n.actions
  unfolding publish_ask
  publish_moves addr place word entry outer fits = elim (truth (word_at n.words place == word)) [
    | inl e ↦
        let words' : List ℕ = slice_set n.words place entry in
        rw e (record {
          actor = record x { undecided = None };
          same = goes_on n a (guard.Publishes a) (guard.Changes a place entry ∷ []) (near words' n.actions x) (near words' n.actions (record x { undecided = None })) (changes n a x got place entry outer)
              (publishes (put_near n a (near words' n.actions x)) a x (put_there n a x (near words' n.actions x) got) fits.work);
          fits = record { machine = fits.machine; work = fits.work; seen = fits.seen; undecided = refl };
        })
    | inr e ↦ rw e (record { actor = x; same = changes n a x got place (word_at n.words place) outer; fits = fits })
  ]

  invalidate_moves : (addr : Addr) (header : Header) → Fits (likeness None (invalidate_work (invalidating.StoresHeader addr header)) seen (Some addr.0)) x
      → Follows n a (Moves a ∷ []) (likeness None None seen None) (words_after n.words (invalidate_ask n.places (invalidating.StoresHeader addr header))) n.actions
  unfolding invalidate_next
  invalidate_moves addr header fits = record {
    actor = (work_step n a x (guard.Invalidates (invalidating.StoresHeader addr header))).actor;
    same = moves_work n a x got (guard.Invalidates (invalidating.StoresHeader addr header)) fits.work refl;
    fits = record { machine = fits.machine; work = refl; seen = fits.seen; undecided = refl };
  }

  -- where a step of an append leads
  abbrev AppendMoved : AppendState → Appending → Type 0
  AppendMoved s step =
      (let room : ℕ = n.shape.disk_pages * n.shape.page in
      let after : AppendState = appending_next n.places room s step (reply_to n.words (appending_ask n.places s step)) in
      Moved true n a (append_events a room n.words s step (appending_ask n.places s step)) (append_onward after after.step) (append_likeness seen after) (words_after n.words (appending_ask n.places s step)) n.actions)

  reserves : (s : AppendState) → s.step ≡ Reserves → 0 < reserve_asks_left s.reserving → Fits (likeness None (reserve_work s.reserving) seen None) x → AppendMoved s Reserves
  unfolding appending_ask appending_next
  reserves s at some fits =
      let room : ℕ = n.shape.disk_pages * n.shape.page in
      let reply : ℕ = reply_to n.words (reserve_ask s.reserving) in
      let ask : Ask ReserveAnswer = reserve_next_ask room s.reserving reply in
      let after : AppendState = record s { reserving = reserve_next s.reserving reply } in
      rw (passed_words n.words (reserve_ask s.reserving) append.Contended, passed_reply n.words (reserve_ask s.reserving) append.Contended) (record {
        mid = likeness None (reserve_work (reserve_next s.reserving reply)) seen (reserved_then s ask);
        moved = reserve_gives_up s (reserve_work (reserve_next s.reserving reply)) ask _ n.actions (reserve_ends room s.reserving reply) (reserve_moves s.reserving some fits);
        leads = reserve_led after seen ask at (reserve_ends room s.reserving reply) (reserve_goes room s.reserving reply);
      })

  fills : (s : AppendState) (addr : Addr) → s.step ≡ Fills addr → 0 < fill_asks_left s.filling → Fits (likeness None (fill_work s.filling) seen (Some addr.0)) x → AppendMoved s (Fills addr)
  unfolding appending_ask appending_next
  fills s addr at some fits =
      let after : AppendState = record s { filling = fill_next s.filling } in
      rw (passed_words n.words (fill_ask n.places s.filling) append.Contended) (record {
        mid = likeness None (fill_work (fill_next s.filling)) seen (Some addr.0);
        moved = fill_moves s.filling (Some addr.0) some fits;
        leads = fill_led after seen addr (fill_ask n.places (fill_next s.filling)) at (fill_ends n.places s.filling) (fill_goes n.places s.filling);
      })

  publish_led : (s : AppendState) (addr : Addr) (place word entry reply : ℕ)
      → (let after : AppendState = publish_ledto (record s { publishing = publish_next (publishing.SwapsEntry place word entry) reply }) addr (publish_next_ask (publishing.SwapsEntry place word entry) reply) in
      Leads true (likeness None None seen (if reply == word then None else Some addr.0)) (append_onward after after.step) (append_likeness seen after))
  unfolding publish_next publish_next_ask publish_ledto
  publish_led s addr place word entry reply = elim (truth (reply == word)) [
    | inl e ↦ rw e (Keeps refl refl)
    | inr e ↦ rw e (Begins (ToInvalidate s.its_words.header) refl tt refl refl (addr.0, refl) refl)
  ]

  publishes_it : (s : AppendState) (addr : Addr) (its : Publishing) → s.publishing ≡ its → 0 < publish_asks_left its → IsOuter n.places (publish_ask its) → Fits (likeness None None seen (Some addr.0)) x → AppendMoved s (Publishes addr)
  unfolding publish_asks_left appending_ask appending_next publish_ask passed
  publishes_it s addr publishing.AtRest same some outer fits = absurd (omega (arith, some))
  publishes_it s addr (publishing.SwapsEntry place word entry) same some outer fits =
      rw (same) (record {
        mid = likeness None None seen (if word_at n.words place == word then None else Some addr.0);
        moved = publish_moves addr.0 place word entry outer fits;
        leads = publish_led s addr place word entry (word_at n.words place);
      })

  invalidates : (s : AppendState) (its : Invalidating) → s.invalidating ≡ its → 0 < invalidate_asks_left its → Fits (likeness None (invalidate_work its) seen (invalidate_undecided its)) x → AppendMoved s Invalidates
  unfolding invalidate_asks_left appending_ask appending_next invalidate_ask invalidate_next invalidate_ledto passed
  invalidates s invalidating.AtRest same some fits = absurd (omega (arith, some))
  invalidates s (invalidating.StoresHeader addr header) same some fits =
      rw (same) (record {
        mid = through seen;
        moved = invalidate_moves addr header fits;
        leads = Keeps refl refl;
      })

  append_moved : (s : AppendState) (step : Appending) → s.step ≡ step → IsAppendUnderWay (record s { step = step }) → AppendWritesOuter n.places step (appending_ask n.places s step) → Fits (likeness None (append_work s step) seen (append_undecided s step)) x → AppendMoved s step
  unfolding appending_ask
  append_moved s (Ended its) at busy owes fits = let goes = busy.goes_on in cc
  append_moved s Reserves at busy owes fits = reserves s at busy.asks fits
  append_moved s (Fills addr) at busy owes fits = fills s addr at busy.asks fits
  append_moved s (Publishes addr) at busy owes fits = publishes_it s addr s.publishing refl busy.asks (its_owes s.publishing owes) fits
    where
      its_owes : (its : Publishing) → IsOuter n.places (passed (publish_ask its) append.Contended) → IsOuter n.places (publish_ask its)
      its_owes its o = subst (λ (t : Type 0). t) (passed_owes n.places (publish_ask its) append.Contended) o
  append_moved s Invalidates at busy owes fits = invalidates s s.invalidating refl busy.asks fits

-- An append that is under way.
pub append_step : (n : GuardNow) (a : ℕ) (x : Actor) (seen : LastSeen) (s : AppendState) → slice_get n.actors a ≡ Some x → IsAppendUnderWay s → AppendWritesOuter n.places s.step (append_ask n.places s) → Fits (append_likeness seen s) x
    → (let room : ℕ = n.shape.disk_pages * n.shape.page in
    let after : AppendState = append_next n.places room s (reply_to n.words (append_ask n.places s)) in
    Moved true n a (append_events a room n.words s s.step (append_ask n.places s)) (append_onward after after.step) (append_likeness seen after) (words_after n.words (append_ask n.places s)) n.actions)
append_step n a x seen s got busy owes fits = append_moved n a x seen got s s.step refl busy owes fits
