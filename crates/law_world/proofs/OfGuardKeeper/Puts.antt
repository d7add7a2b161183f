-- Where a turn gives an action to a slot, this is empty.
use Rattle.std.proofs.Common.{◌≡◌, ℕ, ◌<◌, ◌∙◌, List, sym, ap, subst, Bool, true, false}
use Rattle.std.specs.Prelude.{Option, Some, None, slice_get, if◌then◌else◌}
use Rattle.fkv_base.specs.Limits.{drain_slots}
use Rattle.fkv_base.specs.declared.shapes.Shape.{Shape}
use Rattle.fkv_plane.specs.declared.actions.Action.{Action}
use Rattle.fkv_plane.specs.declared.actions.Action.TheVariants as act
use Rattle.fkv_plane.specs.declared.asks.Ask.{Ask}
use Rattle.fkv_plane.specs.declared.asks.Ask.TheVariants.{Put, Take, Done}
use Rattle.fkv_plane.specs.declared.places.Places.{Places}
use Rattle.fkv_plane.specs.Asked.{reply_to}
use Rattle.fkv_plane.specs.Passing.{passed}
use Rattle.fkv_plane.specs.Plane.{action_at}
use Rattle.fkv_plane.proofs.Shown.{passed_reply}
use Rattle.fkv_epoch.specs.declared.claiming.Claiming.{Claiming}
use Rattle.fkv_epoch.specs.declared.claiming.Claiming.TheVariants as claim
use Rattle.fkv_epoch.specs.declared.scanning.Scanning.{Scanning}
use Rattle.fkv_epoch.specs.Claiming.{claim_ask, claim_next}
use Rattle.fkv_epoch.specs.Scanning.{scan_ask, scan_next}
use Rattle.fkv_log.specs.declared.moving.MoveAnswer.{MoveAnswer}
use Rattle.fkv_log.specs.declared.moving.MoveAnswer.TheVariants as moved
use Rattle.fkv_log.specs.declared.shifting.ShiftAnswer.{ShiftAnswer}
use Rattle.fkv_log.specs.declared.shifting.ShiftAnswer.TheVariants as shifted
use Rattle.fkv_log.specs.Shifting.{ShiftState, shift_ask, shift_next, shift_next_ask}
use Rattle.fkv_log.specs.Turning.{TurnState, turning_ask, turn_ask, turn_next, turn_next_ask}
use Rattle.fkv_flush.specs.Flushing.{flush_ask, flush_next, bytes_next}
use Rattle.fkv_flush.specs.Serving.{mailbox_from, serve_ask, serve_next}
use Rattle.fkv_flush.specs.declared.flushing.Flushing.{Flushing}
use Rattle.fkv_flush.specs.declared.serving.Serving.{Serving}
use Rattle.fkv_flush.specs.GuardSlots.{slot_put, work_puts, actor_puts, event_puts, FindsSlots}
use Rattle.fkv_flush.specs.GuardWorld.{Actor, Work, Shifts, Turns, GuardWorld, Moves, is_idle}
use Rattle.fkv_flush.proofs.Shown.{IsSound, FitsWork, finds_slots}
use Rattle.fkv_maintain.specs.declared.maintaining.MaintainAnswer.TheVariants as answer
use Rattle.fkv_maintain.specs.declared.maintaining.Maintaining.{Maintaining}
use Rattle.fkv_maintain.specs.declared.maintaining.Maintaining.TheVariants as maintain
use Rattle.fkv_maintain.specs.Maintaining.{MaintainState, device_asked, maintaining_ask, maintaining_next, maintain_ask, maintain_next, scan_ledto, claim_ledto, flush_ledto, shift_ledto, turn_ledto, serve_ledto, serve_begun, flush_begun}
use Rattle.law_world.specs.GuardKeeper.MaintainShown.{maintaining_machine, maintaining_work, IsUnderWay}
use Rattle.law_world.specs.GuardKeeper.Settled.{is_of_slot}
use Rattle.law_world.proofs.OfGuardKeeper.Flushed.{flush_slot, flush_behind}
use Rattle.law_world.proofs.OfGuardKeeper.TurnLed.{device_slot}
use Rattle.law_world.proofs.OfGuardKeeper.Scanned.{scan_behind}
use Rattle.law_world.proofs.OfGuardKeeper.Served.{serve_behind}

-- the slot is one that there is, and has no action
abbrev pub IsEmptySlot : List (Option Action) → ℕ → Type 0
IsEmptySlot actions slot = (slot < drain_slots) × (action_at actions slot ≡ None)

-- where an ask gives an action to a slot, this is empty
abbrev pub PutsIntoEmpty : {A : Type 0} → List (Option Action) → Ask A → Type 0
PutsIntoEmpty actions ask = (slot : ℕ) → slot_put ask ≡ Some slot → IsEmptySlot actions slot

pub puts_none : {A : Type 0} (actions : List (Option Action)) (ask : Ask A) → is_of_slot ask ≡ false → PutsIntoEmpty actions ask
puts_none actions (Put slot action) off other e = cc
puts_none actions (Take slot) off other e = cc
puts_none actions ask off other e = cc

pub passed_puts : {A B : Type 0} (actions : List (Option Action)) (ask : Ask A) (told : B) → PutsIntoEmpty actions ask → PutsIntoEmpty actions (passed ask told)
unfolding passed
passed_puts actions (Done its) told empty slot e = cc
passed_puts actions ask told empty slot e = empty slot e

pub claim_puts : (actions : List (Option Action)) (c : Claiming) → PutsIntoEmpty actions (claim_ask c)
unfolding claim_ask
claim_puts actions claim.AtRest slot e = cc
claim_puts actions (claim.Runs its epoch safe (act.SafeReadOnly addr)) slot e = cc
claim_puts actions (claim.Runs its epoch safe (act.Close addr)) slot e = cc
claim_puts actions (claim.Runs its epoch safe (act.Phase phase version)) slot e = cc
claim_puts actions c slot e = cc

-- what a shift or a page's turn gives to a slot
pub work_puts_empty : (w : GuardWorld) (a : ℕ) (x : Actor) (work : Work) → IsSound w → slice_get w.now.actors a ≡ Some x → x.work ≡ work → is_idle work ≡ false
    → (slot : ℕ) → work_puts w.now work ≡ Some slot → IsEmptySlot w.now.actions slot
work_puts_empty w a x work sound got its busy slot e =
    let finds : FindsSlots w (Moves a) = finds_slots w (Moves a) sound in
    let puts : event_puts w.now (Moves a) ≡ Some slot =
    ap (λ (found : Option Actor). actor_puts w.now found) got ∙ ap (λ (k : Work). if is_idle k then None else work_puts w.now k) its
    ∙ ap (λ (b : Bool). if b then None else work_puts w.now work) busy ∙ e in
    (finds.within slot puts, finds.puts slot puts)

-- by what the machine inside a turn asks next
claims_put : (actions : List (Option Action)) (shape : Shape) (p : Places) (s : MaintainState) (next : Claiming) (ask : Ask (Unit {0})) → PutsIntoEmpty actions (maintain_ask shape p (claim_ledto (record s { claiming = next; step = maintain.Claims }) ask))
unfolding claim_ledto maintaining_ask
claims_put actions shape p s next (Done its) slot e =
    puts_none actions (device_asked (flush_ask p (flush_begun s.flushing))) (device_slot (flush_ask p (flush_begun s.flushing)) ∙ flush_slot p (flush_begun s.flushing)) slot e
claims_put actions shape p s next ask slot e = passed_puts actions (claim_ask next) answer.Through (claim_puts actions next) slot e

shifts_put : (actions : List (Option Action)) (shape : Shape) (p : Places) (s : MaintainState) (t : ShiftState) (ask : Ask ShiftAnswer) → PutsIntoEmpty actions (shift_ask t)
    → PutsIntoEmpty actions (maintain_ask shape p (shift_ledto (record s { shift = t; step = maintain.Shifts }) ask))
unfolding shift_ledto maintaining_ask turning_ask passed
shifts_put actions shape p s t (Done (shifted.Through tail)) empty slot e = cc
shifts_put actions shape p s t (Done (shifted.NoSlot tail)) empty slot e = cc
shifts_put actions shape p s t (Done (shifted.Spent tail)) empty slot e = cc
shifts_put actions shape p s t ask empty slot e = passed_puts actions (shift_ask t) answer.Through empty slot e

turns_put : (actions : List (Option Action)) (shape : Shape) (p : Places) (s : MaintainState) (t : TurnState) (ask : Ask MoveAnswer) → PutsIntoEmpty actions (turn_ask shape t)
    → PutsIntoEmpty actions (maintain_ask shape p (turn_ledto shape (record s { turn = t; step = maintain.Turns }) ask))
unfolding turn_ledto maintaining_ask
turns_put actions shape p s t (Done moved.Through) empty slot e =
    let first : Serving = mailbox_from shape.sessions 0 in
    let here : MaintainState = record s { turn = t; step = maintain.Turns } in
    puts_none actions (maintain_ask shape p (serve_begun shape here)) (serve_behind shape p here first (serve_ask first)) slot e
turns_put actions shape p s t (Done moved.NoSlot) empty slot e =
    let first : Serving = mailbox_from shape.sessions 0 in
    let here : MaintainState = record s { turn = t; is_drain_full = true; step = maintain.Turns } in
    puts_none actions (maintain_ask shape p (serve_begun shape here)) (serve_behind shape p here first (serve_ask first)) slot e
turns_put actions shape p s t (Done moved.Spent) empty slot e = cc
turns_put actions shape p s t ask empty slot e = passed_puts actions (turn_ask shape t) answer.Through empty slot e

module _ (w : GuardWorld) (a : ℕ) (x : Actor) (sound : IsSound w) (got : slice_get w.now.actors a ≡ Some x) where
  turn_puts_at : (s : MaintainState) (step : Maintaining) (reply : ℕ) → FitsWork (maintaining_work s step) x.work → IsUnderWay (maintaining_machine s step) (maintaining_work s step)
      → reply ≡ reply_to w.now.words (maintaining_ask w.now.shape w.now.places s step) → PutsIntoEmpty w.now.actions (maintain_ask w.now.shape w.now.places (maintain_next w.now.shape w.now.places (record s { step = step }) reply))
  unfolding maintaining_next maintaining_ask
  turn_puts_at s maintain.Scans reply fits busy same slot e =
      let next : Scanning = scan_next w.now.shape.sessions s.scanning reply in
      puts_none w.now.actions (maintain_ask w.now.shape w.now.places (scan_ledto (record s { scanning = next; step = maintain.Scans }) (scan_ask next))) (scan_behind w.now.shape w.now.places s next (scan_ask next)) slot e
  turn_puts_at s maintain.Claims reply fits busy same slot e = claims_put w.now.actions w.now.shape w.now.places s (claim_next s.claiming reply) (claim_ask (claim_next s.claiming reply)) slot e
  turn_puts_at s maintain.Flushes reply fits busy same slot e =
      let next : Flushing = flush_next w.now.shape.page s.flushing reply in
      let bytes : List ℕ = bytes_next s.flushing s.bytes reply in
      puts_none w.now.actions (maintain_ask w.now.shape w.now.places (flush_ledto (record s { bytes = bytes; flushing = next; step = maintain.Flushes }) (flush_ask w.now.places next))) (flush_behind w.now.shape w.now.places s next bytes (flush_ask w.now.places next)) slot e
  turn_puts_at s maintain.Shifts reply fits busy same slot e =
      let its : reply ≡ reply_to w.now.words (shift_ask s.shift) = same ∙ passed_reply w.now.words (shift_ask s.shift) answer.Through in
      let empty : PutsIntoEmpty w.now.actions (shift_ask (shift_next w.now.shape s.shift reply)) =
      subst (λ (r : ℕ). PutsIntoEmpty w.now.actions (shift_ask (shift_next w.now.shape s.shift r))) (sym its) (work_puts_empty w a x (Shifts s.shift) sound got fits busy) in
      shifts_put w.now.actions w.now.shape w.now.places s (shift_next w.now.shape s.shift reply) (shift_next_ask w.now.shape s.shift reply) empty slot e
  turn_puts_at s maintain.Turns reply fits busy same slot e =
      let its : reply ≡ reply_to w.now.words (turn_ask w.now.shape s.turn) = same ∙ passed_reply w.now.words (turn_ask w.now.shape s.turn) answer.Through in
      let empty : PutsIntoEmpty w.now.actions (turn_ask w.now.shape (turn_next w.now.shape s.turn reply)) =
      subst (λ (r : ℕ). PutsIntoEmpty w.now.actions (turn_ask w.now.shape (turn_next w.now.shape s.turn r))) (sym its) (work_puts_empty w a x (Turns s.turn) sound got fits busy) in
      turns_put w.now.actions w.now.shape w.now.places s (turn_next w.now.shape s.turn reply) (turn_next_ask w.now.shape s.turn reply) empty slot e
  turn_puts_at s maintain.Serves reply fits busy same slot e =
      let next : Serving = serve_next w.now.shape.sessions s.begin.0 s.serving reply in
      puts_none w.now.actions (maintain_ask w.now.shape w.now.places (serve_ledto (record s { serving = next; step = maintain.Serves }) (serve_ask next))) (serve_behind w.now.shape w.now.places s next (serve_ask next)) slot e
  turn_puts_at s maintain.Through reply fits busy same slot e = cc
  turn_puts_at s maintain.Spent reply fits busy same slot e = cc
  turn_puts_at s maintain.Broken reply fits busy same slot e = cc

  pub turn_puts : (s : MaintainState) (reply : ℕ) → FitsWork (maintaining_work s s.step) x.work → IsUnderWay (maintaining_machine s s.step) (maintaining_work s s.step)
      → reply ≡ reply_to w.now.words (maintain_ask w.now.shape w.now.places s) → PutsIntoEmpty w.now.actions (maintain_ask w.now.shape w.now.places (maintain_next w.now.shape w.now.places s reply))
  turn_puts s reply fits busy same = turn_puts_at s s.step reply fits busy same
