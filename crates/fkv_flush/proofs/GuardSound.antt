-- What holds at every moment, and how a step of one actor keeps it.
use Rattle.std.proofs.Common.{◌≡◌, ◌≢◌, ℕ, ◌+◌, ◌/◌, ◌<◌, ◌≤◌, ◌⊎◌, List, length, map, refl, arith, sym, ap, inl, inr, ◌∙◌, true}
use Rattle.std.specs.Prelude.{Option, Some, None, ⊤, slice_get, slice_set, option_map}
use Rattle.std.proofs.lemmas.Option.{slice_get-map}
use Rattle.fkv_plane.specs.declared.actions.Action.{Action}
use Rattle.fkv_plane.specs.Plane.{action_at}
use Rattle.fkv_plane.specs.Places.{word_count}
use Rattle.fkv_log.specs.declared.reserving.Reserving.TheVariants as reserve
use Rattle.fkv_log.specs.declared.filling.Filling.TheVariants as fill
use Rattle.fkv_log.specs.declared.invalidating.Invalidating.TheVariants as invalidate
use Rattle.fkv_base.specs.declared.shapes.Shape.{Shape}
use Rattle.fkv_epoch.specs.declared.raising.Raising.{Raising}
use Rattle.fkv_epoch.specs.declared.raising.Raising.TheVariants as raise
use Rattle.fkv_epoch.specs.declared.arming.Arming.{Arming}
use Rattle.fkv_log.specs.declared.moving.Offset.{Offset}
use Rattle.fkv_log.specs.declared.moving.Offset.TheVariants.{ReadOnly, Head}
use Rattle.fkv_log.specs.declared.moving.Moving.{Moving}
use Rattle.fkv_log.specs.declared.moving.Moving.TheVariants as move
use Rattle.fkv_log.specs.declared.shifting.Shifting.{Shifting}
use Rattle.fkv_log.specs.declared.shifting.Shifting.TheVariants as shift
use Rattle.fkv_log.specs.declared.turning.Turning.{Turning}
use Rattle.fkv_log.specs.declared.turning.Turning.TheVariants as turn
use Rattle.fkv_flush.specs.declared.flushing.Flushing.TheVariants as flush
use Rattle.fkv_flush.specs.declared.serving.Serving.TheVariants as serve
use Rattle.fkv_log.specs.Moving.{Mover, action_awaited}
use Rattle.fkv_log.specs.Turning.{frame_end}
use Rattle.fkv_epoch.specs.declared.arming.Arming.TheVariants as arm
use Rattle.fkv_epoch.specs.EpochWorld.{EpochMachine, Protects, Refreshes, Leaves, Raises, Arms, is_at_rest, Sight, OfReadOnly, OfHead, Armed, Claimed, safe_of, own_epoch}
use Rattle.fkv_epoch.specs.EpochWorld as epochs
use Rattle.fkv_epoch.specs.Once.{Among, Counts}
use Rattle.fkv_epoch.proofs.Shown.{item_written, item_spared, same_or, some_same}
use Rattle.fkv_epoch.proofs.Shown as epochs_sound
use Rattle.fkv_flush.specs.GuardLevels.{Levels, levels_of, AreInOrder, Rises}
use Rattle.fkv_flush.specs.GuardSeen.{LastSeen, IsStored}
use Rattle.fkv_flush.specs.GuardWorld.{Actor, Work, Rests, Reserves, Fills, Invalidates, Shifts, Turns, Flushes, Serves, GuardNow, GuardWorld, epoch_now, epoch_world}
use Rattle.fkv_flush.specs.Guarded.{is_steady, seen_at, seen_of, undecided_at, undecided_of, GoesBy, ArePlacesOf}
use Rattle.fkv_flush.proofs.Guard.{Known, Fresh, Guard, SeesOn, knows_on, fresh_on, stepped}

-- a move that has not moved its offset yet moves it no further than this
abbrev pub IsAhead : Levels → Offset → ℕ → Type 0
IsAhead l ReadOnly to = to ≤ l.tail
IsAhead l Head to = to ≤ l.flushed

-- what a move knows while a slot is sought, and while the epoch is raised
abbrev pub RaiseKnows : Levels → Offset → ℕ → Raising → Type 0
RaiseKnows l offset to raise.LoadsEpoch = IsAhead l offset to
RaiseKnows l offset to (raise.MeetsSlot slot) = IsAhead l offset to
RaiseKnows l offset to (raise.HoldsSlot slot) = IsAhead l offset to
RaiseKnows l offset to (raise.RaisesEpoch slot) = IsStored l (action_awaited offset to)
RaiseKnows l offset to raising = ⊥

-- what a move knows: the actor's machine of the epochs is the one inside it
abbrev pub MoveKnows : Levels → EpochMachine → Moving → Raising → Arming → Type 0
MoveKnows l d move.AtRest raising arming = ⊥
MoveKnows l d (move.Raises target) raising arming = (d ≡ Raises raising) × RaiseKnows l target.offset target.to raising
MoveKnows l d (move.MovesOffset target) (raise.HasSlot slot) arming = (d ≡ Raises (raise.HasSlot slot)) × IsAhead l target.offset target.to
MoveKnows l d (move.MovesOffset target) raising arming = ⊥
MoveKnows l d (move.Puts target slot) raising arming = ⊥
MoveKnows l d move.Arms raising (arm.StoresEpoch slot c) = d ≡ Arms (arm.StoresEpoch slot c)
MoveKnows l d move.Arms raising arming = ⊥

-- a machine that has not begun its move
abbrev pub Waits : EpochMachine → Mover → Type 0
Waits d m = (m.step ≡ move.AtRest) × (is_at_rest d ≡ true)

-- what a shift of the read-only offset knows
abbrev pub ShiftKnows : Levels → EpochMachine → Shifting → Mover → Type 0
ShiftKnows l d shift.AtRest m = ⊤
ShiftKnows l d shift.LoadsTail m = Waits d m
ShiftKnows l d (shift.LoadsReadOnly tail) m = Waits d m × (tail ≤ l.tail)
ShiftKnows l d (shift.Moves tail) m = MoveKnows l d m.step m.raising m.arming

-- what a turn of a page knows
abbrev pub TurnKnows : Shape → Levels → EpochMachine → Turning → Mover → Type 0
TurnKnows shape l d turn.AtRest m = ⊤
TurnKnows shape l d (turn.LoadsLimit form tail) m = Waits d m
TurnKnows shape l d (turn.LoadsClosed form limit) m = Waits d m × (limit / shape.page < shape.disk_pages)
TurnKnows shape l d (turn.RaisesLimit limit) m = Waits d m × (frame_end shape limit ≤ l.closed) × (limit / shape.page < shape.disk_pages)
TurnKnows shape l d (turn.LoadsHead end) m = Waits d m
TurnKnows shape l d (turn.LoadsFlushed end) m = Waits d m
TurnKnows shape l d turn.Moves m = MoveKnows l d m.step m.raising m.arming

-- what an actor knows, by how far its machine has come; Awake says that it is a session which goes by a read-only offset
abbrev pub Knows : Shape → Levels → Type 0 → EpochMachine → Option ℕ → Work → Type 0
Knows shape l Awake d undecided Rests = ⊤
Knows shape l Awake d undecided (Reserves reserve.AtRest) = ⊤
Knows shape l Awake d undecided (Reserves (reserve.LoadsLimit bound)) = Awake × (undecided ≡ None)
Knows shape l Awake d undecided (Reserves (reserve.LoadsTail limit)) = Awake × (undecided ≡ None) × (limit ≤ l.limit)
Knows shape l Awake d undecided (Reserves (reserve.TakesTail tail)) = Awake × (undecided ≡ None) × (tail < l.limit)
Knows shape l Awake d undecided (Fills fill.AtRest) = ⊤
Knows shape l Awake d undecided (Fills (fill.StoresValue addr its_words)) = undecided ≡ Some addr.0
Knows shape l Awake d undecided (Fills (fill.StoresKey addr its_words)) = undecided ≡ Some addr.0
Knows shape l Awake d undecided (Fills (fill.StoresHeader addr its_words)) = undecided ≡ Some addr.0
Knows shape l Awake d undecided (Invalidates invalidate.AtRest) = ⊤
Knows shape l Awake d undecided (Invalidates (invalidate.StoresHeader addr header)) = undecided ≡ Some addr.0
Knows shape l Awake d undecided (Shifts s) = ShiftKnows l d s.step s.mover
Knows shape l Awake d undecided (Turns s) = TurnKnows shape l d s.step s.mover
Knows shape l Awake d undecided (Flushes flush.AtRest bytes) = ⊤
Knows shape l Awake d undecided (Flushes flush.LoadsFlushed bytes) = ⊤
Knows shape l Awake d undecided (Flushes (flush.LoadsEnd flushed) bytes) = ⊤
Knows shape l Awake d undecided (Flushes (flush.LoadsWord part addr word) bytes) = part.end ≤ l.safe_read_only
Knows shape l Awake d undecided (Flushes (flush.WritesPart part) bytes) = part.end ≤ l.safe_read_only
Knows shape l Awake d undecided (Flushes (flush.Syncs end) bytes) = end ≤ l.safe_read_only
Knows shape l Awake d undecided (Flushes (flush.RaisesFlushed end) bytes) = end ≤ l.safe_read_only
Knows shape l Awake d undecided (Serves begin serve.AtRest) = ⊤
Knows shape l Awake d undecided (Serves begin (serve.LoadsState session)) = session < shape.sessions
Knows shape l Awake d undecided (Serves begin (serve.LoadsAddress session)) = session < shape.sessions
Knows shape l Awake d undecided (Serves begin (serve.Reads session addr)) = session < shape.sessions
Knows shape l Awake d undecided (Serves begin (serve.StoresHeader session mail)) = session < shape.sessions
Knows shape l Awake d undecided (Serves begin (serve.StoresKey session mail)) = session < shape.sessions
Knows shape l Awake d undecided (Serves begin (serve.StoresValue session mail)) = session < shape.sessions
Knows shape l Awake d undecided (Serves begin (serve.StoresReady session)) = session < shape.sessions

ahead_more : (l l' : Levels) (offset : Offset) (to : ℕ) → Rises l l' → IsAhead l offset to → IsAhead l' offset to
ahead_more l l' ReadOnly to up h = let r = up.tail in omega (arith, h, r)
ahead_more l l' Head to up h = let r = up.flushed in omega (arith, h, r)

stored_more : (l l' : Levels) (offset : Offset) (to : ℕ) → Rises l l' → IsStored l (action_awaited offset to) → IsStored l' (action_awaited offset to)
stored_more l l' ReadOnly to up h = let r = up.read_only in omega (arith, h, r)
stored_more l l' Head to up h = let r = up.head in omega (arith, h, r)

raise_more : (l l' : Levels) (offset : Offset) (to : ℕ) (raising : Raising) → Rises l l' → RaiseKnows l offset to raising → RaiseKnows l' offset to raising
raise_more l l' offset to raise.AtRest up h = h
raise_more l l' offset to raise.LoadsEpoch up h = ahead_more l l' offset to up h
raise_more l l' offset to (raise.MeetsSlot slot) up h = ahead_more l l' offset to up h
raise_more l l' offset to (raise.HoldsSlot slot) up h = ahead_more l l' offset to up h
raise_more l l' offset to (raise.HasSlot slot) up h = h
raise_more l l' offset to (raise.RaisesEpoch slot) up h = stored_more l l' offset to up h

move_more : (l l' : Levels) (d : EpochMachine) (step : Moving) (raising : Raising) (arming : Arming) → Rises l l' → MoveKnows l d step raising arming → MoveKnows l' d step raising arming
move_more l l' d move.AtRest raising arming up h = h
move_more l l' d (move.Raises target) raising arming up h = (h.0, raise_more l l' target.offset target.to raising up h.1)
move_more l l' d (move.MovesOffset target) raise.AtRest arming up h = h
move_more l l' d (move.MovesOffset target) raise.LoadsEpoch arming up h = h
move_more l l' d (move.MovesOffset target) (raise.MeetsSlot slot) arming up h = h
move_more l l' d (move.MovesOffset target) (raise.HoldsSlot slot) arming up h = h
move_more l l' d (move.MovesOffset target) (raise.HasSlot slot) arming up h = (h.0, ahead_more l l' target.offset target.to up h.1)
move_more l l' d (move.MovesOffset target) (raise.RaisesEpoch slot) arming up h = h
move_more l l' d (move.Puts target slot) raising arming up h = h
move_more l l' d move.Arms raising arm.AtRest up h = h
move_more l l' d move.Arms raising (arm.PutsAction slot c) up h = h
move_more l l' d move.Arms raising (arm.StoresEpoch slot c) up h = h

shift_more : (l l' : Levels) (d : EpochMachine) (step : Shifting) (m : Mover) → Rises l l' → ShiftKnows l d step m → ShiftKnows l' d step m
shift_more l l' d shift.AtRest m up k = tt
shift_more l l' d shift.LoadsTail m up k = k
shift_more l l' d (shift.LoadsReadOnly tail) m up k = (k.0, let r = up.tail in omega (arith, k.1, r))
shift_more l l' d (shift.Moves tail) m up k = move_more l l' d m.step m.raising m.arming up k

turn_more : (shape : Shape) (l l' : Levels) (d : EpochMachine) (step : Turning) (m : Mover) → Rises l l' → TurnKnows shape l d step m → TurnKnows shape l' d step m
turn_more shape l l' d turn.AtRest m up k = tt
turn_more shape l l' d (turn.LoadsLimit form tail) m up k = k
turn_more shape l l' d (turn.LoadsClosed form limit) m up k = k
turn_more shape l l' d (turn.RaisesLimit limit) m up k = (k.0, let r = up.closed in omega (arith, k.1, r), k.2)
turn_more shape l l' d (turn.LoadsHead end) m up k = k
turn_more shape l l' d (turn.LoadsFlushed end) m up k = k
turn_more shape l l' d turn.Moves m up k = move_more l l' d m.step m.raising m.arming up k

-- offsets rise, and so what is known of them stays
pub knows_more : (shape : Shape) (l l' : Levels) (A A' : Type 0) (d : EpochMachine) (u : Option ℕ) (work : Work) → Rises l l' → (A → A') → Knows shape l A d u work → Knows shape l' A' d u work
knows_more shape l l' A A' d u Rests up on k = tt
knows_more shape l l' A A' d u (Reserves reserve.AtRest) up on k = tt
knows_more shape l l' A A' d u (Reserves (reserve.LoadsLimit bound)) up on k = (on k.0, k.1)
knows_more shape l l' A A' d u (Reserves (reserve.LoadsTail limit)) up on k = (on k.0, k.1, let r = up.limit in omega (arith, k.2, r))
knows_more shape l l' A A' d u (Reserves (reserve.TakesTail tail)) up on k = (on k.0, k.1, let r = up.limit in omega (arith, k.2, r))
knows_more shape l l' A A' d u (Fills fill.AtRest) up on k = tt
knows_more shape l l' A A' d u (Fills (fill.StoresValue addr its_words)) up on k = k
knows_more shape l l' A A' d u (Fills (fill.StoresKey addr its_words)) up on k = k
knows_more shape l l' A A' d u (Fills (fill.StoresHeader addr its_words)) up on k = k
knows_more shape l l' A A' d u (Invalidates invalidate.AtRest) up on k = tt
knows_more shape l l' A A' d u (Invalidates (invalidate.StoresHeader addr header)) up on k = k
knows_more shape l l' A A' d u (Shifts s) up on k = shift_more l l' d s.step s.mover up k
knows_more shape l l' A A' d u (Turns s) up on k = turn_more shape l l' d s.step s.mover up k
knows_more shape l l' A A' d u (Flushes flush.AtRest bytes) up on k = tt
knows_more shape l l' A A' d u (Flushes flush.LoadsFlushed bytes) up on k = tt
knows_more shape l l' A A' d u (Flushes (flush.LoadsEnd flushed) bytes) up on k = tt
knows_more shape l l' A A' d u (Flushes (flush.LoadsWord part addr word) bytes) up on k = let r = up.safe_read_only in omega (arith, k, r)
knows_more shape l l' A A' d u (Flushes (flush.WritesPart part) bytes) up on k = let r = up.safe_read_only in omega (arith, k, r)
knows_more shape l l' A A' d u (Flushes (flush.Syncs end) bytes) up on k = let r = up.safe_read_only in omega (arith, k, r)
knows_more shape l l' A A' d u (Flushes (flush.RaisesFlushed end) bytes) up on k = let r = up.safe_read_only in omega (arith, k, r)
knows_more shape l l' A A' d u (Serves begin serve.AtRest) up on k = tt
knows_more shape l l' A A' d u (Serves begin (serve.LoadsState session)) up on k = k
knows_more shape l l' A A' d u (Serves begin (serve.LoadsAddress session)) up on k = k
knows_more shape l l' A A' d u (Serves begin (serve.Reads session addr)) up on k = k
knows_more shape l l' A A' d u (Serves begin (serve.StoresHeader session mail)) up on k = k
knows_more shape l l' A A' d u (Serves begin (serve.StoresKey session mail)) up on k = k
knows_more shape l l' A A' d u (Serves begin (serve.StoresValue session mail)) up on k = k
knows_more shape l l' A A' d u (Serves begin (serve.StoresReady session)) up on k = k

-- a session that goes by a read-only offset, and will as long as it turns to nothing else
abbrev pub Awake : GuardNow → ℕ → EpochMachine → Type 0
Awake n session machine = GoesBy n session OfReadOnly × (is_steady machine ≡ true)

abbrev pub machine_of : Actor → EpochMachine
machine_of x = x.machine

pub record IsSound (w : GuardWorld) : Type 0 where
  pub fits : ArePlacesOf w.now.shape w.now.places
  pub enough_words : word_count w.now.places ≤ length w.now.words
  pub epochs : epochs_sound.IsSound (epoch_world w)
  pub guard : Guard w.now.places.ring (levels_of w.now.words) (GoesBy w.now) (seen_of w.now.actors) w.past.loads w.past.armed (undecided_of w.now.actors)
  -- who has taken a slot has done so when its epoch was safe
  pub claims_safe : (y : Claimed) → Among y w.past.claims → y.epoch ≤ safe_of w.now.words
  -- an action in a slot that is about to be armed
  pub arming : (a slot c : ℕ) (action : Action) → slice_get (map machine_of w.now.actors) a ≡ Some (Arms (arm.StoresEpoch slot c)) → action_at w.now.actions slot ≡ Some action
      → Known (levels_of w.now.words) (GoesBy w.now) (seen_of w.now.actors) w.past.loads c action
  -- who has an undecided record is not about to refresh or to leave
  pub steady : (a addr : ℕ) (x : Actor) → slice_get w.now.actors a ≡ Some x → x.undecided ≡ Some addr → is_steady x.machine ≡ true
  pub knows : (a : ℕ) (x : Actor) → slice_get w.now.actors a ≡ Some x → Knows w.now.shape (levels_of w.now.words) (Awake w.now a x.machine) x.machine x.undecided x.work

-- an actor's machine of the epochs
pub machine_at : (actors : List Actor) (s : ℕ) (x : Actor) → slice_get actors s ≡ Some x → slice_get (map machine_of actors) s ≡ Some x.machine
machine_at actors s x e = slice_get-map machine_of actors s ∙ ap (option_map machine_of) e

-- who goes by a value still does where neither its epoch word nor its machine changes
pub goes_on : (n n' : epochs.EpochNow) (s : ℕ) (sight : Sight) → n'.sessions ≡ n.sessions → (s < n.sessions → own_epoch n'.words s ≡ own_epoch n.words s) → slice_get n'.actors s ≡ slice_get n.actors s → Counts n s sight → Counts n' s sight
goes_on n n' s sight same_sessions same_word same_machine c = record {
  is_session = let h = c.is_session in omega (arith, h, same_sessions);
  is_protected = let h = c.is_protected in let e = same_word c.is_session in omega (arith, h, e);
  machine = c.machine;
  its_machine = same_machine ∙ c.its_machine;
  has_loaded = c.has_loaded;
}

-- the world after a step of the actor a
abbrev pub after : GuardWorld → ℕ → Actor → List ℕ → List (Option Action) → epochs.EpochPast → GuardWorld
after w a x' words' actions' past' = record { now = record w.now { words = words'; actions = actions'; actors = slice_set w.now.actors a x' }; past = past' }

-- The step of one actor: its epochs' part is sound; the offsets rise and keep their order; what it knows then is as said.
pub assembled : (w : GuardWorld) (a : ℕ) (x x' : Actor) (words' : List ℕ) (actions' : List (Option Action)) (past' : epochs.EpochPast) → IsSound w → slice_get w.now.actors a ≡ Some x
    → (let w' : GuardWorld = after w a x' words' actions' past' in let n' : GuardNow = w'.now in let l' : Levels = levels_of words' in
    length words' ≡ length w.now.words
    → epochs_sound.IsSound (epoch_world w')
    → Rises (levels_of w.now.words) l' → AreInOrder l' → l'.limit ≤ l'.closed + w.now.places.ring
    → ((s : ℕ) → s < w.now.places.sessions → s ≢ a → own_epoch words' s ≡ own_epoch w.now.words s)
    → ((s : ℕ) → s ≢ a → past'.loads s ≡ w.past.loads s)
    → SeesOn l' (GoesBy w.now) (GoesBy n') (seen_of w.now.actors) (seen_of n'.actors) w.past.loads past'.loads a
    → ((s : ℕ) → GoesBy w.now s OfReadOnly → l'.safe_read_only ≤ (seen_of w.now.actors s).read_only)
    → ((s : ℕ) → GoesBy w.now s OfHead → l'.closed ≤ (seen_of w.now.actors s).head)
    → safe_of w.now.words ≤ safe_of words'
    → ((y : Claimed) → Among y past'.claims → Among y w.past.claims ⊎ (y.epoch ≤ safe_of words'))
    → (((s : ℕ) → SeesOn l' (GoesBy w.now) (GoesBy n') (seen_of w.now.actors) (seen_of n'.actors) w.past.loads past'.loads s) → (y : Armed) → Among y past'.armed → Among y w.past.armed ⊎ Known l' (GoesBy n') (seen_of n'.actors) past'.loads y.epoch y.action)
    → ((b slot c : ℕ) → b ≢ a → slice_get (map machine_of w.now.actors) b ≡ Some (Arms (arm.StoresEpoch slot c)) → action_at actions' slot ≡ action_at w.now.actions slot)
    → (((s : ℕ) → SeesOn l' (GoesBy w.now) (GoesBy n') (seen_of w.now.actors) (seen_of n'.actors) w.past.loads past'.loads s) → (slot c : ℕ) (action : Action) → x'.machine ≡ Arms (arm.StoresEpoch slot c) → action_at actions' slot ≡ Some action → Known l' (GoesBy n') (seen_of n'.actors) past'.loads c action)
    → ((addr : ℕ) → x'.undecided ≡ Some addr → Fresh l' (GoesBy n') (seen_of n'.actors) a addr)
    → ((addr : ℕ) → x'.undecided ≡ Some addr → is_steady x'.machine ≡ true)
    → Knows w.now.shape l' (Awake n' a x'.machine) x'.machine x'.undecided x'.work
    → IsSound w')
assembled w a x x' words' actions' past' sound got same_length epochs' up order cover others loads on low_read_only low_head safer claims news homes arming fresh steady knows =
    let n : GuardNow = w.now in
    let w' : GuardWorld = after w a x' words' actions' past' in
    let n' : GuardNow = w'.now in
    let l : Levels = levels_of n.words in
    let l' : Levels = levels_of words' in
    let at_a : slice_get n'.actors a ≡ Some x' = item_written n.actors a x x' got in
    let elsewhere : (s : ℕ) → s ≢ a → slice_get n'.actors s ≡ slice_get n.actors s = λ s i. item_spared n.actors a s x' i in
    let machines : (s : ℕ) → s ≢ a → slice_get (map machine_of n'.actors) s ≡ slice_get (map machine_of n.actors) s = λ s i.
    slice_get-map machine_of n'.actors s ∙ (ap (option_map machine_of) (elsewhere s i) ∙ sym (slice_get-map machine_of n.actors s)) in
    let forth : (s : ℕ) (sight : Sight) → s ≢ a → GoesBy n s sight → GoesBy n' s sight = λ s sight i c. goes_on (epoch_now n) (epoch_now n') s sight refl (λ h. others s h i) (machines s i) c in
    let back : (s : ℕ) (sight : Sight) → s ≢ a → GoesBy n' s sight → GoesBy n s sight = λ s sight i c. goes_on (epoch_now n') (epoch_now n) s sight refl (λ h. sym (others s h i)) (sym (machines s i)) c in
    let seen_there : (s : ℕ) → s ≢ a → seen_of n'.actors s ≡ seen_of n.actors s = λ s i. ap seen_at (elsewhere s i) in
    let all_on : (s : ℕ) → SeesOn l' (GoesBy n) (GoesBy n') (seen_of n.actors) (seen_of n'.actors) w.past.loads past'.loads s = λ s. elim (same_or s a) [
      | inl e ↦ rw e on
      | inr i ↦ record {
        read_only = λ c. inl (back s OfReadOnly i c, ap (λ (y : LastSeen). y.read_only) (seen_there s i), ap (λ (y : epochs.Loads). y.read_only) (loads s i));
        head = λ c. inl (back s OfHead i c, ap (λ (y : LastSeen). y.head) (seen_there s i), ap (λ (y : epochs.Loads). y.head) (loads s i));
        read_only_below = let e = ap (λ (y : LastSeen). y.read_only) (seen_there s i) in let h = sound.guard.safe.read_only_below s in let u = up.read_only in omega (arith, e, h, u);
        head_below = let e = ap (λ (y : LastSeen). y.head) (seen_there s i) in let h = sound.guard.safe.head_below s in let u = up.head in omega (arith, e, h, u);
      }
    ] in
    record {
      fits = sound.fits;
      enough_words = let h = sound.enough_words in omega (arith, h, same_length);
      epochs = epochs';
      guard = stepped n.places.ring l l' (GoesBy n) (GoesBy n') (seen_of n.actors) (seen_of n'.actors) w.past.loads past'.loads w.past.armed past'.armed (undecided_of n.actors) (undecided_of n'.actors)
          sound.guard up order cover all_on low_read_only low_head (news all_on)
          (λ s addr e. elim (same_or s a) [
            | inl i ↦ rw i (fresh addr (sym (ap undecided_at at_a) ∙ (sym (ap (undecided_of n'.actors) i) ∙ e)))
            | inr i ↦
                let f = sound.guard.fresh s addr (sym (ap undecided_at (elsewhere s i)) ∙ e) in
                fresh_on l l' (GoesBy n) (GoesBy n') (seen_of n.actors) (seen_of n'.actors) s addr up (forth s OfReadOnly i f.counts) (ap (λ (y : LastSeen). y.read_only) (seen_there s i)) f
          ]);
      claims_safe = λ y among. elim (claims y among) [ inl o ↦ let h = sound.claims_safe y o in omega (arith, h, safer) | inr h ↦ h ];
      arming = λ b slot c action its home. elim (same_or b a) [
        | inl e ↦
            let same : x'.machine ≡ Arms (arm.StoresEpoch slot c) = some_same x'.machine (Arms (arm.StoresEpoch slot c)) (sym (machine_at n'.actors a x' at_a) ∙ (sym (ap (slice_get (map machine_of n'.actors)) e) ∙ its)) in
            arming all_on slot c action same home
        | inr i ↦
            let before : slice_get (map machine_of n.actors) b ≡ Some (Arms (arm.StoresEpoch slot c)) = sym (machines b i) ∙ its in
            knows_on l l' (GoesBy n) (GoesBy n') (seen_of n.actors) (seen_of n'.actors) w.past.loads past'.loads c action up all_on (sound.arming b slot c action before (sym (homes b slot c i before) ∙ home))
      ];
      steady = λ b addr y its undecided. elim (same_or b a) [
        | inl e ↦
            let same : y ≡ x' = some_same y x' (sym its ∙ (ap (slice_get n'.actors) e ∙ at_a)) in
            rw same (steady addr (sym (ap (λ (z : Actor). z.undecided) same) ∙ undecided))
        | inr i ↦ sound.steady b addr y (sym (elsewhere b i) ∙ its) undecided
      ];
      knows = λ b y its. elim (same_or b a) [
        | inl e ↦
            let same : y ≡ x' = some_same y x' (sym its ∙ (ap (slice_get n'.actors) e ∙ at_a)) in
            rw (e, same) knows
        | inr i ↦ knows_more n.shape l l' (Awake n b y.machine) (Awake n' b y.machine) y.machine y.undecided y.work up (λ k. (forth b OfReadOnly i k.0, k.1)) (sound.knows b y (sym (elsewhere b i) ∙ its))
      ];
    }
