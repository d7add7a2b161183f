-- A step of the keeper in the list of events, and a call of the device.
use Rattle.std.proofs.Common.{◌≡◌, ◌≢◌, ℕ, refl, sym, ap, subst, ◌∙◌, Bool, true, false, true≢false, List, [], ◌∷◌, ◌++◌, append_assoc, eq-zero-or-pos, inl, inr, map}
use Rattle.std.specs.Prelude.{Some, None}
use Rattle.atomic_table.specs.Table.{Me}
use Rattle.fkv_disk.specs.Calls.{AllDone, reads_as}
use Rattle.fkv_disk.specs.Calls as device
use Rattle.fkv_disk.specs.Device.{IsAfter}
use Rattle.fkv_disk.proofs.Shown.{reads_all}
use Rattle.fkv_flush.specs.Devices.{Adds}
use Rattle.fkv_plane.specs.declared.asks.Ask.{Ask}
use Rattle.fkv_plane.specs.declared.asks.Ask.TheVariants.{Load, Store, Swap, Cas, Add, Max, Put, Take, Done}
use Rattle.fkv_plane.specs.Asked.{asked_place}
use Rattle.fkv_keeper.specs.declared.answers.KeeperTold.{KeeperTold}
use Rattle.fkv_keeper.specs.declared.answers.KeeperTold.TheVariants.{Begun, CommitRefused, Device, Turned, TurnRefused}
use Rattle.fkv_keeper.specs.Answers.{is_busy}
use Rattle.fkv_keeper.specs.KeeperAsks.{keeper_asks_left, keeper_calls, keeper_read}
use Rattle.fkv_keeper.specs.KeeperRun.{is_in_hand}
use Rattle.fkv_keeper.proofs.Shown.{keeper_left}
use Rattle.fkv_keeper.specs.Keeping.{KeeperModel, KeeperState, keeper_ask, keeper_called}
use Rattle.law_world.specs.Below.fkv_world.Actors.{slot_asked}
use Rattle.law_world.specs.Below.fkv_world.Past.{Past, calls_after}
use Rattle.law_world.specs.Below.fkv_world.Runs.{World, happens, read_by_keeper, run}
use Rattle.law_world.specs.Below.fkv_world.World.{Now, life_goes}
use Rattle.law_world.proofs.Below.fkv_world.Shown.{added_calls, asks_while_done, calls_added, lived}
use Rattle.law_world.proofs.OfGuarded.Ends.{life_keeper_ended}
use Rattle.law_world.proofs.OfGuarded.Slots.{life_keeper_rests}
use Rattle.fkv_seats.proofs.Keeps.{no_some}
use Rattle.law_world.proofs.OfRuns.Starts.{device_called}
use Rattle.fkv_seats.specs.declared.views.Role.{Role}
use Rattle.fkv_seats.specs.declared.views.Role.TheVariants.{Rest}
use Rattle.fkv_seats.specs.Rule.{Quiet, led}
use Rattle.fkv_table.specs.declared.happenings.Happening.{Happening}
use Rattle.fkv_table.specs.declared.happenings.Happening.TheVariants.{Calls, Moves, Commits, Turns, KeeperMoves}
use Rattle.fkv_table.specs.Desks.{Slot, Knows}
use Rattle.fkv_table.specs.Events.{event_of}
use Rattle.fkv_table.specs.KeeperCalls.{AreSessions, BeginsNone, HasGoneOn, HasKept}
use Rattle.fkv_table.specs.Keeps.{IsAfterSeen, IsKeeping, IsNoted, LeavesDevice}
use Rattle.fkv_table.specs.Openings.{IsGuardedOpening}
use Rattle.fkv_table.specs.Planes.{plane}
use Rattle.fkv_table.specs.Turns.{asks_device}
use Rattle.fkv_table.proofs.Lives.{alive, led_run}
use Rattle.fkv_table.proofs.KeeperNotes.{ask_there, keeping_on, moves_calls, opened_so, places_so, quiet_calls, quiet_is, shape_so, there}

-- where no slot is asked for, and it is no end, a word is
asks_word : {A : Type 0} (ask : Ask A) → slot_asked ask ≡ None → ((its : A) → ask ≢ Done its) → (place : ℕ) × (asked_place ask ≡ Some place)
asks_word (Load i) free busy = (i, refl)
asks_word (Store i new) free busy = (i, refl)
asks_word (Swap i new) free busy = (i, refl)
asks_word (Cas i old new) free busy = (i, refl)
asks_word (Add i more) free busy = (i, refl)
asks_word (Max i more) free busy = (i, refl)
asks_word (Put slot action) free busy = no_some slot (sym free)
asks_word (Take slot) free busy = no_some slot (sym free)
asks_word (Done its) free busy = absurd (busy its refl)

-- what asks for the device stands at a call of it
pub device_asked : (ask : Ask KeeperTold) → asks_device ask ≡ true → ask ≡ Done Device
device_asked (Load i) is = cc
device_asked (Store i new) is = cc
device_asked (Swap i new) is = cc
device_asked (Cas i old new) is = cc
device_asked (Add i more) is = cc
device_asked (Max i more) is = cc
device_asked (Put slot action) is = cc
device_asked (Take slot) is = cc
device_asked (Done Device) is = refl
device_asked (Done (Turned finished full)) is = cc
device_asked (Done (TurnRefused why)) is = cc
device_asked (Done (Begun number)) is = cc
device_asked (Done (CommitRefused why)) is = cc

pub not_busy : (ask : Ask KeeperTold) (told : KeeperTold) → ask ≡ Done told → told ≢ Device → is_busy ask ≡ false
not_busy ask Device is other = absurd (other refl)
not_busy ask (Turned finished full) is other = ap is_busy is
not_busy ask (TurnRefused why) is other = ap is_busy is
not_busy ask (Begun number) is other = ap is_busy is
not_busy ask (CommitRefused why) is other = ap is_busy is

pub begins_none : (es : List Happening) → AreSessions es → BeginsNone es
begins_none [] are = tt
begins_none (Calls session call ∷ es) are = begins_none es are
begins_none (Moves session ∷ es) are = begins_none es are
begins_none (Commits kind ∷ es) are = absurd are
begins_none (Turns ∷ es) are = absurd are
begins_none (KeeperMoves granted done ∷ es) are = absurd are

pub begins_both : (es others : List Happening) → BeginsNone es → BeginsNone others → BeginsNone (es ++ others)
begins_both [] others a b = b
begins_both (Calls session call ∷ es) others a b = begins_both es others a b
begins_both (Moves session ∷ es) others a b = begins_both es others a b
begins_both (Commits kind ∷ es) others a b = absurd a
begins_both (Turns ∷ es) others a b = absurd a
begins_both (KeeperMoves granted done ∷ es) others a b = begins_both es others a b

module _ {K : Type 0} (at : K → World) where
  -- what isn't the keeper's is a session's
  pub are_sessions : (from : ℕ) (es : List Happening) → Quiet (plane at) (Rest from) es → AreSessions es
  are_sessions from [] q = tt
  are_sessions from (Calls session call ∷ es) q = are_sessions from es q.1
  are_sessions from (Moves session ∷ es) q = are_sessions from es q.1
  are_sessions from (Commits kind ∷ es) q = absurd (true≢false q.0)
  are_sessions from (Turns ∷ es) q = absurd (true≢false q.0)
  are_sessions from (KeeperMoves granted done ∷ es) q = absurd (true≢false q.0)

  pub gone_on : (from : ℕ) (granted done : Bool) (others seen seen' : List Happening) → Quiet (plane at) (Rest from) others → seen' ≡ KeeperMoves granted done ∷ (others ++ seen) → HasGoneOn seen seen'
  gone_on from granted done others seen seen' q is = record { steps = KeeperMoves granted done ∷ others; begins = begins_none others (are_sessions from others q); so = is }

  pub gone_both : (seen mid seen' : List Happening) → HasGoneOn seen mid → HasGoneOn mid seen' → HasGoneOn seen seen'
  gone_both seen mid seen' a b = record {
    steps = b.steps ++ a.steps;
    begins = begins_both b.steps a.steps b.begins a.begins;
    so = b.so ∙ (ap (λ (es : List Happening). b.steps ++ es) a.so ∙ sym (append_assoc b.steps a.steps seen));
  }

  -- behind a start that is noted the call is one of the keeper's
  pub kept_so : (key : K) (me me' : Me Slot (Knows K)) (k : KeeperModel) (start : Happening) (seen' : List Happening) → IsKeeping at key me k → IsNoted at key me start me' → HasGoneOn me'.0.seen seen' → HasKept start me.0.seen seen'
  kept_so key me me' k start seen' its noted gone = record {
    steps = gone.steps;
    begins = gone.begins;
    others = noted.others;
    quiet = are_sessions its.from noted.others (subst (λ (role : Role). Quiet (plane at) role noted.others) its.role noted.quiet);
    so = gone.so ∙ ap (λ (es : List Happening). gone.steps ++ es) noted.seen;
  }

  -- a turn's start makes no call of the device
  pub turn_calls : (key : K) (me me' : Me Slot (Knows K)) (k : KeeperModel) → IsGuardedOpening (at key) → IsKeeping at key me k → IsNoted at key me Turns me'
      → (led (plane at) (at key) me'.0.seen).past.calls ≡ (led (plane at) (at key) me.0.seen).past.calls
  unfolding led calls_added
  turn_calls key me me' k guard its noted =
      let x : World = led (plane at) (at key) (noted.others ++ me.0.seen) in
      let made : (happens x (event_of Turns)).past.calls ≡ x.past.calls =
      ap (λ (y : World). y.past.calls) (lived x (event_of Turns) (alive at (at key) (noted.others ++ me.0.seen) guard.opened.goes_on)) ∙ added_calls x (life_goes x.now (read_by_keeper x) (event_of Turns)) (event_of Turns) in
      ap (λ (es : List Happening). (led (plane at) (at key) es).past.calls) noted.seen
      ∙ (made ∙ quiet_calls at (at key) its.from noted.others me.0.seen (quiet_is at key me k guard its noted.others noted.quiet))

  -- where the device is left as it is, it is still what the list's calls give
  pub leaves_after : (key : K) (seen seen' : List Happening) (shown : List ℕ) (may_leave : List ℕ → Type 0) → LeavesDevice at key seen seen' → IsAfterSeen at key seen shown may_leave → IsAfterSeen at key seen' shown may_leave
  leaves_after key seen seen' shown may_leave leaves after = subst (λ (z : List ℕ × List device.Call). IsAfter z.0 z.1 shown may_leave) (λ i. (sym leaves.0 i, sym leaves.1 i)) after

  -- behind a call's start each step is the call's
  pub kept_on : (start : Happening) (seen mid seen' : List Happening) → HasKept start seen mid → HasGoneOn mid seen' → HasKept start seen seen'
  kept_on start seen mid seen' kept gone = record {
    steps = gone.steps ++ kept.steps;
    begins = begins_both gone.steps kept.steps gone.begins kept.begins;
    others = kept.others;
    quiet = kept.quiet;
    so = gone.so ∙ (ap (λ (es : List Happening). gone.steps ++ es) kept.so ∙ sym (append_assoc gone.steps kept.steps (start ∷ (kept.others ++ seen))));
  }

  -- between two events the keeper stands at no slot
  pub keeper_word : (key : K) (me : Me Slot (Knows K)) (k : KeeperModel) (ask : Ask KeeperTold) → IsGuardedOpening (at key) → IsKeeping at key me k → ask ≡ keeper_ask k.shape k.places k.state → ((told : KeeperTold) → ask ≢ Done told)
      → (place : ℕ) × (asked_place ask ≡ Some place)
  keeper_word key me k ask guard its is busy =
      let same : slot_asked (keeper_ask k.shape k.places k.state) ≡ None =
      ap slot_asked (sym (ask_there at key me k guard its [] tt))
      ∙ (ap (λ (z : World). slot_asked (keeper_ask z.now.shape z.now.places z.now.keeper)) (led_run at (at key) me.0.seen) ∙ life_keeper_rests (at key) guard.start (map event_of me.0.seen) guard.guarded) in
      asks_word ask (ap slot_asked is ∙ same) busy

  -- a keeper that asks for nothing has no call in hand
  pub over_idle : (key : K) (me : Me Slot (Knows K)) (k : KeeperModel) → IsGuardedOpening (at key) → IsKeeping at key me k → is_busy (keeper_ask k.shape k.places k.state) ≡ false → is_in_hand k.state.step ≡ false
  over_idle key me k guard its over =
      let w : World = run (at key) (map event_of me.0.seen) in
      let none_left : keeper_asks_left k.shape k.places k.state ≡ 0 =
      elim (eq-zero-or-pos (keeper_asks_left k.shape k.places k.state)) [
        | inl e ↦ e
        | inr some ↦ (let busy : is_busy (keeper_ask k.shape k.places k.state) ≡ true = (keeper_left k.shape k.places k.state).1 some in let clash : true ≡ false = sym busy ∙ over in cc)
      ] in
      let same : w.now.keeper ≡ k.state = ap (λ (z : World). z.now.keeper) (sym (led_run at (at key) me.0.seen)) ∙ sym its.state in
      let shape : w.now.shape ≡ k.shape = ap (λ (z : World). z.now.shape) (sym (led_run at (at key) me.0.seen)) ∙ (shape_so at (at key) me.0.seen ∙ sym its.shape) in
      let places : w.now.places ≡ k.places = ap (λ (z : World). z.now.places) (sym (led_run at (at key) me.0.seen)) ∙ (places_so at (at key) me.0.seen ∙ sym its.places) in
      ap (λ (s : KeeperState). is_in_hand s.step) (sym same)
      ∙ life_keeper_ended (at key) guard.start (map event_of me.0.seen) guard.guarded ((λ i. keeper_asks_left (shape i) (places i) (same i)) ∙ none_left)

  module _ (key : K) (me : Me Slot (Knows K)) (k : KeeperModel) (guard : IsGuardedOpening (at key)) (its : IsKeeping at key me k) (asks : keeper_ask k.shape k.places k.state ≡ Done Device)
      (done : Bool) (me' : Me Slot (Knows K)) (noted : IsNoted at key me (KeeperMoves true done) me') (shown : List ℕ) (may_leave : List ℕ → Type 0) (after : IsAfterSeen at key me.0.seen shown may_leave) where
    abbrev behind : List Happening
    behind = noted.others ++ me.0.seen

    abbrev x : World
    x = led (plane at) (at key) behind

    abbrev p : Past
    p = (led (plane at) (at key) me.0.seen).past

    opened_is : x.past.opened ≡ p.opened
    opened_is = opened_so at (at key) behind ∙ sym (opened_so at (at key) me.0.seen)

    calls_is : x.past.calls ≡ p.calls
    calls_is = quiet_calls at (at key) its.from noted.others me.0.seen (quiet_is at key me k guard its noted.others noted.quiet)

    asks_x : keeper_ask x.now.shape x.now.places x.now.keeper ≡ Done Device
    asks_x = ask_there at key me k guard its noted.others noted.quiet ∙ asks

    all : AllDone p.calls
    all =
        let w : World = run (at key) (map event_of me.0.seen) in
        let asks_w : keeper_ask w.now.shape w.now.places w.now.keeper ≡ Done Device =
        ap (λ (z : World). keeper_ask z.now.shape z.now.places z.now.keeper) (sym (led_run at (at key) me.0.seen)) ∙ (ask_there at key me k guard its [] tt ∙ asks) in
        subst (λ (z : World). AllDone z.past.calls) (sym (led_run at (at key) me.0.seen)) (asks_while_done (at key) (map event_of me.0.seen) guard.opened asks_w)

    read_is : keeper_read k shown ≡ read_by_keeper x
    read_is =
        let bytes : shown ≡ reads_as x.past.opened x.past.calls = reads_all p.opened p.calls shown all after.reads ∙ λ i. reads_as (sym opened_is i) (sym calls_is i) in
        λ i. keeper_read (record {
          shape = (its.shape ∙ sym (shape_so at (at key) behind)) i;
          places = (its.places ∙ sym (places_so at (at key) behind)) i;
          state = sym (there at key me k guard its noted.others noted.quiet) i;
        }) (bytes i)

    pub called_on : (k' : KeeperModel) → k' ≡ record k { state = keeper_called k.shape k.places k.state done (keeper_read k shown) } → IsKeeping at key me' k'
    unfolding led
    called_on k' goes =
        let now : (happens x (event_of (KeeperMoves true done))).now.keeper ≡ keeper_called x.now.shape x.now.places x.now.keeper done (read_by_keeper x) =
        ap (λ (n : Now). n.keeper) (device_called x true done (alive at (at key) behind guard.opened.goes_on) asks_x) in
        let same : keeper_called x.now.shape x.now.places x.now.keeper done (read_by_keeper x) ≡ keeper_called k.shape k.places k.state done (keeper_read k shown) =
        λ i. keeper_called ((shape_so at (at key) behind ∙ sym its.shape) i) ((places_so at (at key) behind ∙ sym its.places) i) (there at key me k guard its noted.others noted.quiet i) done (sym read_is i) in
        keeping_on at key me k guard its (KeeperMoves true done) me' k' noted refl (ap (λ (m : KeeperModel). m.shape) goes) (ap (λ (m : KeeperModel). m.places) goes) (ap (λ (m : KeeperModel). m.state) goes ∙ sym (now ∙ same))

    made_is : (led (plane at) (at key) me'.0.seen).past.calls ≡ keeper_calls k.shape k.state done ++ p.calls
    unfolding led
    made_is =
        ap (λ (es : List Happening). (led (plane at) (at key) es).past.calls) noted.seen
        ∙ (moves_calls x true done (alive at (at key) behind guard.opened.goes_on)
        ∙ (ap (λ (ask : Ask KeeperTold). calls_after ask (keeper_calls x.now.shape x.now.keeper done) x.past.calls) asks_x
        ∙ λ i. keeper_calls ((shape_so at (at key) behind ∙ sym its.shape) i) (there at key me k guard its noted.others noted.quiet i) done ++ calls_is i))

    pub after_on : (shown' : List ℕ) (may_leave' : List ℕ → Type 0) → Adds (keeper_calls k.shape k.state done) shown shown' may_leave may_leave' → IsAfterSeen at key me'.0.seen shown' may_leave'
    after_on shown' may_leave' adds =
        let opened : p.opened ≡ (led (plane at) (at key) me'.0.seen).past.opened = opened_so at (at key) me.0.seen ∙ sym (opened_so at (at key) me'.0.seen) in
        subst (λ (z : List ℕ × List device.Call). IsAfter z.0 z.1 shown' may_leave') (λ i. (opened i, sym made_is i)) (adds p.opened p.calls after)

    pub went_on : HasGoneOn me.0.seen me'.0.seen
    went_on = gone_on its.from true done noted.others me.0.seen me'.0.seen (quiet_is at key me k guard its noted.others noted.quiet) noted.seen
