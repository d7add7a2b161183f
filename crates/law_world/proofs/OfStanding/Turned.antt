-- What every turn does: only a flush writes, in the log alone, and it syncs before it ends.
use Rattle.std.proofs.Common.{◌≡◌, ◌⊎◌, inl, inr, ℕ, ◌≤◌, List, ◌∷◌, ◌++◌, Bool, true, false, refl, sym, subst, arith}
use Rattle.std.specs.Prelude.{⊤, ◌+◌, nat_lt, not, ◌&&◌, if◌then◌else◌}
use Rattle.fkv_base.specs.Limits.{is_specified}
use Rattle.fkv_base.specs.declared.shapes.Shape.{Shape}
use Rattle.fkv_record.specs.Places.{record_place}
use Rattle.fkv_disk.specs.Calls.{Call, Write, MayLeave}
use Rattle.fkv_plane.specs.declared.actions.Action.{Action}
use Rattle.fkv_plane.specs.declared.asks.Ask.{Ask}
use Rattle.fkv_plane.specs.declared.asks.Ask.TheVariants.{Done}
use Rattle.fkv_plane.specs.declared.places.Places.{Places}
use Rattle.fkv_plane.specs.declared.places.RecordWord.TheVariants as rec
use Rattle.fkv_plane.specs.Passing.{passed}
use Rattle.fkv_epoch.specs.Claiming.{claim_ask, claim_next, claim_given}
use Rattle.fkv_epoch.specs.Scanning.{scan_ask, scan_next}
use Rattle.fkv_log.specs.declared.moving.MoveAnswer.{MoveAnswer}
use Rattle.fkv_log.specs.declared.moving.MoveAnswer.TheVariants as moved
use Rattle.fkv_log.specs.declared.shifting.ShiftAnswer.{ShiftAnswer}
use Rattle.fkv_log.specs.declared.shifting.ShiftAnswer.TheVariants as shift
use Rattle.fkv_log.specs.Shifting.{shift_next, shift_next_ask}
use Rattle.fkv_log.specs.Turning.{turn_next, turn_next_ask}
use Rattle.fkv_flush.specs.declared.answers.DeviceAnswer.{DeviceAnswer}
use Rattle.fkv_flush.specs.declared.answers.DeviceAnswer.TheVariants as device
use Rattle.fkv_flush.specs.declared.flushing.Flushing.{Flushing}
use Rattle.fkv_flush.specs.declared.flushing.Flushing.TheVariants as flush
use Rattle.fkv_flush.specs.Serving.{mailbox_from, serve_ask, serve_next, serve_read}
use Rattle.fkv_flush.specs.Flushing.{flush_ask, flush_next, flush_done, flush_calls, part_begun, bytes_next, bytes_done}
use Rattle.fkv_maintain.specs.declared.maintaining.MaintainAnswer.{MaintainAnswer}
use Rattle.fkv_maintain.specs.declared.maintaining.MaintainAnswer.TheVariants as answer
use Rattle.fkv_maintain.specs.declared.maintaining.Maintaining.{Maintaining}
use Rattle.fkv_maintain.specs.declared.maintaining.Maintaining.TheVariants as part
use Rattle.fkv_maintain.specs.Maintaining.{MaintainState, is_sync_due, device_asked, maintaining_ask, maintain_ask, scan_ledto, claim_ledto, flush_ledto, shift_ledto, turn_ledto, serve_ledto, maintaining_next, maintaining_given, maintaining_called, maintaining_calls}
use Rattle.fkv_keeper.specs.Keeping.{Finality}
use Rattle.law_world.specs.Standing.Standing.{Standing}
use Rattle.law_world.proofs.OfStanding.Fronts.{Has}
use Rattle.law_world.proofs.OfStanding.Flushed.{IsCalm, flush_writes, flush_fails, flush_syncs, sync_fails}
use Rattle.law_world.proofs.OfStanding.Moments.{FlushKnows, RestKnows, MaintainKnows, calm_flush, calm_rest, due_rests, begun_flushes, flush_left, rest_left}

-- something is asked for, or the device is
abbrev pub IsOn : Ask MaintainAnswer → Type 0
IsOn (Done answer.Through) = ⊥
IsOn (Done answer.Spent) = ⊥
IsOn (Done answer.Broken) = ⊥
IsOn ask = ⊤

in_log : (shape : Shape) (n : ℕ) → record_place shape 0 ≤ record_place shape n
in_log shape n = omega arith

module _ (shape : Shape) (p : Places) (opened : List ℕ) (last : Finality) (its : Standing) where
  abbrev Calm : List Call → Type 0
  Calm calls = IsCalm shape opened last its calls

  abbrev FlushFits : List Call → Flushing → Type 0
  FlushFits calls step = FlushKnows shape p opened last its calls step

  abbrev Fits : List Call → MaintainState → Type 0
  Fits calls m = MaintainKnows shape p opened last its calls m.step m.flushing

  abbrev Rests : List Call → Flushing → Type 0
  Rests calls step = RestKnows shape p opened last its calls step

  at_fits : (calls : List Call) (m : MaintainState) (step : Maintaining) → m.step ≡ step → MaintainKnows shape p opened last its calls step m.flushing → Fits calls m
  at_fits calls m step e is = subst (λ (k : Maintaining). MaintainKnows shape p opened last its calls k m.flushing) (sym e) is

  -- a flush that isn't calm goes on
  flush_calm_or : (calls : List Call) (step : Flushing) → FlushFits calls step → Calm calls ⊎ IsOn (device_asked (flush_ask p step))
  unfolding flush_ask device_asked passed
  flush_calm_or calls (flush.LoadsWord its_part addr word) is = inr tt
  flush_calm_or calls (flush.WritesPart its_part) is = inr tt
  flush_calm_or calls (flush.Syncs end) is = inr tt
  flush_calm_or calls step is = inl is

  rests_or : (calls : List Call) (m : MaintainState) (step : Maintaining) → MaintainKnows shape p opened last its calls step m.flushing → Rests calls m.flushing ⊎ IsOn (maintaining_ask shape p m step)
  unfolding maintaining_ask
  rests_or calls m part.Flushes is = by_flush (flush_calm_or calls m.flushing is)
    where
      by_flush : Calm calls ⊎ IsOn (device_asked (flush_ask p m.flushing)) → Rests calls m.flushing ⊎ IsOn (device_asked (flush_ask p m.flushing))
      by_flush (inl calm) = inl (calm_rest shape p opened last its calls m.flushing calm)
      by_flush (inr on) = inr on
  rests_or calls m step is = inl is

  -- at the end of a turn's parts a flush may rest
  pub rests_at_end : (calls : List Call) (m : MaintainState) (ask : Ask MaintainAnswer) → Fits calls m → maintain_ask shape p m ≡ ask → (IsOn ask → ⊥) → Rests calls m.flushing
  rests_at_end calls m ask is asks ends = by_end (rests_or calls m m.step is)
    where
      by_end : Rests calls m.flushing ⊎ IsOn (maintaining_ask shape p m m.step) → Rests calls m.flushing
      by_end (inl rests) = rests
      by_end (inr on) = absurd (ends (subst (λ (a : Ask MaintainAnswer). IsOn a) asks on))

  -- a reply, and a call
  either_fits : (calls : List Call) (t : Bool) (a b : Flushing) → FlushFits calls a → FlushFits calls b → FlushFits calls (if t then a else b)
  either_fits calls true a b one other = one
  either_fits calls false a b one other = other

  flush_replied : (calls : List Call) (step : Flushing) (reply : ℕ) → FlushFits calls step → FlushFits calls (flush_next shape.page step reply)
  unfolding flush_next
  flush_replied calls flush.AtRest reply is = is
  flush_replied calls flush.LoadsFlushed reply is = is
  flush_replied calls (flush.LoadsEnd flushed) reply is = calm_flush shape p opened last its calls (flush_next shape.page (flush.LoadsEnd flushed) reply) is
  flush_replied calls (flush.LoadsWord its_part addr rec.Header) reply is = is
  flush_replied calls (flush.LoadsWord its_part addr rec.Key) reply is = is
  flush_replied calls (flush.LoadsWord its_part addr rec.Value) reply is = either_fits calls (nat_lt (addr + 1) its_part.stop) (flush.LoadsWord its_part (addr + 1) rec.Header) (flush.WritesPart its_part) is is
  flush_replied calls (flush.WritesPart its_part) reply is = is
  flush_replied calls (flush.Syncs end) reply is = is
  flush_replied calls (flush.RaisesFlushed end) reply is = is

  flush_called : (calls : List Call) (step : Flushing) (bytes : List ℕ) → FlushFits calls step → FlushFits (flush_calls shape bytes step true ++ calls) (flush_done shape.page step true)
  unfolding flush_done flush_calls
  flush_called calls (flush.WritesPart its_part) bytes is =
      let after = flush_writes shape opened last its calls (record_place shape its_part.from) bytes (in_log shape its_part.from) is in
      either_fits (Write (record_place shape its_part.from) bytes true ∷ calls) (nat_lt its_part.stop its_part.end) (part_begun shape.page its_part.stop its_part.end) (flush.Syncs its_part.end) after after
  flush_called calls (flush.Syncs end) bytes is = flush_syncs shape opened last its calls is
  flush_called calls flush.AtRest bytes is = is
  flush_called calls flush.LoadsFlushed bytes is = is
  flush_called calls (flush.LoadsEnd flushed) bytes is = is
  flush_called calls (flush.LoadsWord its_part addr word) bytes is = is
  flush_called calls (flush.RaisesFlushed end) bytes is = is

  flush_failed : (calls : List Call) (step : Flushing) (bytes image : List ℕ) → FlushFits calls step → MayLeave opened (flush_calls shape bytes step false ++ calls) image → Has shape last its image
  unfolding flush_calls
  flush_failed calls (flush.WritesPart its_part) bytes image is left = flush_fails shape opened last its calls (record_place shape its_part.from) bytes image (in_log shape its_part.from) is left
  flush_failed calls (flush.Syncs end) bytes image is left = sync_fails shape opened last its calls image is left
  flush_failed calls flush.AtRest bytes image is left = flush_left shape p opened last its calls flush.AtRest image is left
  flush_failed calls flush.LoadsFlushed bytes image is left = flush_left shape p opened last its calls flush.LoadsFlushed image is left
  flush_failed calls (flush.LoadsEnd flushed) bytes image is left = flush_left shape p opened last its calls (flush.LoadsEnd flushed) image is left
  flush_failed calls (flush.LoadsWord its_part addr word) bytes image is left = flush_left shape p opened last its calls (flush.LoadsWord its_part addr word) image is left
  flush_failed calls (flush.RaisesFlushed end) bytes image is left = flush_left shape p opened last its calls (flush.RaisesFlushed end) image is left

  -- where the flush has ended all is calm
  flush_over : (calls : List Call) (m : MaintainState) (ask : Ask DeviceAnswer) → m.step ≡ part.Flushes → flush_ask p m.flushing ≡ ask → FlushFits calls m.flushing → Fits calls (flush_ledto m ask)
  unfolding flush_ledto device_asked passed
  flush_over calls m (Done device.Through) e asks is = by_end (flush_calm_or calls m.flushing is)
    where
      by_end : Calm calls ⊎ IsOn (device_asked (flush_ask p m.flushing)) → Rests calls m.flushing
      by_end (inl calm) = calm_rest shape p opened last its calls m.flushing calm
      by_end (inr on) = absurd (ended (subst (λ (a : Ask DeviceAnswer). IsOn (device_asked a)) asks on))
        where
          ended : IsOn (device_asked (Done device.Through)) → ⊥
          ended is_on = is_on
  flush_over calls m ask e asks is = subst (λ (k : Maintaining). MaintainKnows shape p opened last its calls k m.flushing) (sym e) is

  -- behind a call it may rest
  called_over : (calls : List Call) (m : MaintainState) (rests : Bool) → m.step ≡ part.Flushes → (rests ≡ true → is_sync_due m.flushing ≡ true) → FlushFits calls m.flushing
      → Fits calls (flush_ledto m (if rests then Done device.Through else flush_ask p m.flushing))
  unfolding flush_ledto
  called_over calls m true e due is = due_rests shape p opened last its calls m.flushing (due refl) is
  called_over calls m false e due is = flush_over calls m (flush_ask p m.flushing) e refl is

  is_due : (a b : Bool) → (a && b) ≡ true → b ≡ true
  is_due true b e = e
  is_due false b e = cc

  -- the other parts leave it
  scan_fits : (calls : List Call) (m : MaintainState) (ask : Ask (Unit {0})) → m.step ≡ part.Scans → Rests calls m.flushing → Fits calls (scan_ledto m ask)
  unfolding scan_ledto
  scan_fits calls m (Done over) e is = is
  scan_fits calls m ask e is = at_fits calls m part.Scans e is

  claim_fits : (calls : List Call) (m : MaintainState) (ask : Ask (Unit {0})) → m.step ≡ part.Claims → Rests calls m.flushing → Fits calls (claim_ledto m ask)
  unfolding claim_ledto
  claim_fits calls m (Done over) e is = begun_flushes shape p opened last its calls m.flushing is
  claim_fits calls m ask e is = at_fits calls m part.Claims e is

  shift_fits : (calls : List Call) (m : MaintainState) (ask : Ask ShiftAnswer) → m.step ≡ part.Shifts → Rests calls m.flushing → Fits calls (shift_ledto m ask)
  unfolding shift_ledto
  shift_fits calls m (Done (shift.Through tail)) e is = is
  shift_fits calls m (Done (shift.NoSlot tail)) e is = is
  shift_fits calls m (Done (shift.Spent tail)) e is = is
  shift_fits calls m ask e is = at_fits calls m part.Shifts e is

  serve_fits : (calls : List Call) (m : MaintainState) (ask : Ask DeviceAnswer) → m.step ≡ part.Serves → Rests calls m.flushing → Fits calls (serve_ledto m ask)
  unfolding serve_ledto
  serve_fits calls m (Done device.Through) e is = is
  serve_fits calls m ask e is = at_fits calls m part.Serves e is

  page_fits : (calls : List Call) (m : MaintainState) (ask : Ask MoveAnswer) → m.step ≡ part.Turns → Rests calls m.flushing → Fits calls (turn_ledto shape m ask)
  unfolding turn_ledto
  page_fits calls m (Done moved.Through) e is = serve_fits calls (record m { serving = mailbox_from shape.sessions 0; step = part.Serves }) (serve_ask (mailbox_from shape.sessions 0)) refl is
  page_fits calls m (Done moved.NoSlot) e is = serve_fits calls (record m { serving = mailbox_from shape.sessions 0; is_drain_full = true; step = part.Serves }) (serve_ask (mailbox_from shape.sessions 0)) refl is
  page_fits calls m (Done moved.Spent) e is = is
  page_fits calls m ask e is = at_fits calls m part.Turns e is

  pub replied : (calls : List Call) (m : MaintainState) (step : Maintaining) (reply : ℕ) → m.step ≡ step → MaintainKnows shape p opened last its calls step m.flushing → Fits calls (maintaining_next shape p m step reply)
  unfolding maintaining_next
  replied calls m part.Flushes reply e is =
      flush_over calls (record m { bytes = bytes_next m.flushing m.bytes reply; flushing = flush_next shape.page m.flushing reply }) (flush_ask p (flush_next shape.page m.flushing reply)) e refl (flush_replied calls m.flushing reply is)
  replied calls m part.Scans reply e is = scan_fits calls (record m { scanning = scan_next shape.sessions m.scanning reply }) (scan_ask (scan_next shape.sessions m.scanning reply)) e is
  replied calls m part.Claims reply e is = claim_fits calls (record m { claiming = claim_next m.claiming reply }) (claim_ask (claim_next m.claiming reply)) e is
  replied calls m part.Shifts reply e is = shift_fits calls (record m { shift = shift_next shape m.shift reply }) (shift_next_ask shape m.shift reply) e is
  replied calls m part.Turns reply e is = page_fits calls (record m { turn = turn_next shape m.turn reply }) (turn_next_ask shape m.turn reply) e is
  replied calls m part.Serves reply e is = serve_fits calls (record m { serving = serve_next shape.sessions m.begin.0 m.serving reply }) (serve_ask (serve_next shape.sessions m.begin.0 m.serving reply)) e is
  replied calls m step reply e is = at_fits calls m step e is

  pub given : (calls : List Call) (m : MaintainState) (step : Maintaining) (action : Action) → m.step ≡ step → MaintainKnows shape p opened last its calls step m.flushing → Fits calls (maintaining_given m step action)
  unfolding maintaining_given
  given calls m part.Claims action e is = claim_fits calls (record m { claiming = claim_given m.claiming action }) (claim_ask (claim_given m.claiming action)) e is
  given calls m step action e is = at_fits calls m step e is

  pub called : (calls : List Call) (m : MaintainState) (step : Maintaining) (bytes : List ℕ) → m.step ≡ step → MaintainKnows shape p opened last its calls step m.flushing → Fits (maintaining_calls shape m step true ++ calls) (maintaining_called shape p m step true bytes)
  unfolding maintaining_called maintaining_calls
  called calls m part.Flushes bytes e is =
      called_over (flush_calls shape m.bytes m.flushing true ++ calls) (record m { bytes = bytes_done m.flushing m.bytes; flushing = flush_done shape.page m.flushing true })
      (not (is_specified shape.class) && is_sync_due (flush_done shape.page m.flushing true)) e (is_due (not (is_specified shape.class)) (is_sync_due (flush_done shape.page m.flushing true)))
      (flush_called calls m.flushing m.bytes is)
  called calls m part.Serves bytes e is = serve_fits calls (record m { serving = serve_read m.serving bytes }) (serve_ask (serve_read m.serving bytes)) e is
  called calls m step bytes e is = at_fits calls m step e is

  pub failed : (calls : List Call) (m : MaintainState) (step : Maintaining) (image : List ℕ) → MaintainKnows shape p opened last its calls step m.flushing → MayLeave opened (maintaining_calls shape m step false ++ calls) image → Has shape last its image
  unfolding maintaining_calls
  failed calls m part.Flushes image is left = flush_failed calls m.flushing m.bytes image is left
  failed calls m step image is left = rest_left shape p opened last its calls m.flushing image is left
