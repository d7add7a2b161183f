-- What others do leaves the keeper as it was, and an event of its own that changes no word may be added to the list.
use Rattle.std.proofs.Common.{◌≡◌, ℕ, refl, sym, ap, subst, ◌∙◌, Bool, true, false, true≢false, List, [], ◌∷◌, ◌++◌, get_or, map}
use Rattle.std.specs.Prelude.{Option, Some, None}
use mathlib.Core.Option.{none}
use Rattle.atomic_table.specs.Table.{Me, step, Allows, carried_after}
use Rattle.fkv_base.specs.declared.commits.CommitKind.{CommitKind}
use Rattle.fkv_plane.specs.declared.asks.Ask.{Ask}
use Rattle.fkv_plane.specs.declared.asks.Ask.TheVariants.{Done}
use Rattle.fkv_keeper.specs.declared.answers.KeeperTold.{KeeperTold}
use Rattle.fkv_keeper.specs.declared.answers.KeeperTold.TheVariants.{Device}
use Rattle.fkv_keeper.specs.Keeping.{KeeperModel, KeeperState, commit_asked, keeper_ask, keeper_next, turn_asked}
use Rattle.fkv_keeper.specs.KeeperAsks.{keeper_calls}
use Rattle.fkv_keeper.specs.KeeperRun.{is_in_hand}
use Rattle.fkv_plane.specs.Asked.{reply_to}
use Rattle.law_world.specs.Below.fkv_world.Actors.{is_of_keeper, slot_of_step}
use Rattle.law_world.specs.Below.fkv_world.Past.{calls_after}
use Rattle.law_world.specs.Below.fkv_world.Runs.{World, happens, read_by_keeper}
use Rattle.law_world.specs.Below.fkv_world.World.{Event, Now, keeper_asked, life_goes}
use Rattle.law_world.proofs.Below.fkv_world.Shown.{added_calls, calls_added, keeper_apart, lived, places_stay, shape_stays}
use Rattle.law_world.proofs.OfKeeper.OwnCalls.{opened_stays}
use Rattle.law_world.proofs.OfRuns.Added.{calls_stay}
use Rattle.law_world.proofs.OfRuns.Starts.{commit_starts, device_called, turn_starts}
use Rattle.fkv_seats.specs.declared.views.Role.{Role}
use Rattle.fkv_seats.specs.declared.views.Role.TheVariants.{Rest}
use Rattle.fkv_seats.specs.Rule.{AreAllowed, Carries, Changes, HandFits, Quiet, Ruled, Stepped, base, led, speaks}
use Rattle.fkv_seats.proofs.Keeps.{allowed_both, allows}
use Rattle.fkv_table.specs.declared.happenings.Happening.{Happening}
use Rattle.fkv_table.specs.declared.happenings.Happening.TheVariants.{Calls, Moves, Commits, Turns, KeeperMoves}
use Rattle.fkv_table.specs.Desks.{Slot, Knows}
use Rattle.fkv_table.specs.Events.{actor_of, event_of, may_stand}
use Rattle.fkv_table.specs.Keeps.{IsKeeping, IsNoted, Spares, adding}
use Rattle.fkv_table.specs.Openings.{IsGuardedOpening}
use Rattle.fkv_table.specs.Planes.{plane}
use Rattle.fkv_table.specs.Positions.{laid}
use Rattle.fkv_table.proofs.Laid.{set_found}
use Rattle.fkv_table.proofs.Lives.{alive, led_run, slot_facts}

same_some : {X : Type 0} (i j : X) → ◌≡◌ {A = Option X} (Some i) (Some j) → i ≡ j
same_some i j e = cc

not_keepers : (from : ℕ) (its : Happening) → speaks (Rest from) (actor_of its) ≡ false → is_of_keeper (event_of its) ≡ false
not_keepers from (Calls session call) e = refl
not_keepers from (Moves session) e = refl
not_keepers from (Commits kind) e = absurd (true≢false e)
not_keepers from Turns e = absurd (true≢false e)
not_keepers from (KeeperMoves granted done) e = absurd (true≢false e)

-- what a step of the keeper adds to the calls of the device
pub moves_calls : (x : World) (granted done : Bool) → x.now.crashed ≡ false
    → (happens x (event_of (KeeperMoves granted done))).past.calls ≡ calls_after (keeper_ask x.now.shape x.now.places x.now.keeper) (keeper_calls x.now.shape x.now.keeper done) x.past.calls
unfolding calls_added
moves_calls x granted done going =
    let e : Event = event_of (KeeperMoves granted done) in
    ap (λ (y : World). y.past.calls) (lived x e going) ∙ added_calls x (life_goes x.now (read_by_keeper x) e) e

-- a call begins where none is in hand
begun_so : (s began : KeeperState) → is_in_hand s.step ≡ false → keeper_asked s began ≡ began
begun_so s began idle = rw idle refl

module _ {K : Type 0} (at : K → World) where
  pub quiet_keeper : (w : World) (from : ℕ) (later seen : List Happening) → Quiet (plane at) (Rest from) later
      → (led (plane at) w (later ++ seen)).now.keeper ≡ (led (plane at) w seen).now.keeper
  unfolding led
  quiet_keeper w from [] seen q = refl
  quiet_keeper w from (its ∷ later) seen q = keeper_apart (led (plane at) w (later ++ seen)) (event_of its) (not_keepers from its q.0) ∙ quiet_keeper w from later seen q.1

  -- nor do they call the device
  pub quiet_calls : (w : World) (from : ℕ) (later seen : List Happening) → Quiet (plane at) (Rest from) later
      → (led (plane at) w (later ++ seen)).past.calls ≡ (led (plane at) w seen).past.calls
  unfolding led
  quiet_calls w from [] seen q = refl
  quiet_calls w from (its ∷ later) seen q = calls_stay (led (plane at) w (later ++ seen)) (event_of its) (not_keepers from its q.0) ∙ quiet_calls w from later seen q.1

  pub opened_so : (w : World) (es : List Happening) → (led (plane at) w es).past.opened ≡ w.past.opened
  opened_so w es = ap (λ (x : World). x.past.opened) (led_run at w es) ∙ opened_stays w (map event_of es)

  pub shape_so : (w : World) (es : List Happening) → (led (plane at) w es).now.shape ≡ w.now.shape
  shape_so w es = ap (λ (x : World). x.now.shape) (led_run at w es) ∙ shape_stays w (map event_of es)

  pub places_so : (w : World) (es : List Happening) → (led (plane at) w es).now.places ≡ w.now.places
  places_so w es = ap (λ (x : World). x.now.places) (led_run at w es) ∙ places_stay w (map event_of es)

  pub may_note : (key : K) (slots id : ℕ) (me : Me Slot (Knows K)) (its : Happening) → IsGuardedOpening (at key) → me.0.about ≡ Some key → Spares at key me its
      → HandFits (plane at) (at key) me.0.seen me.0.hand me.1 → Allows (Ruled (plane at) key) slots id me 0 (λ n. n) (adding at its (step slots 0 0 0 none) me)
  may_note key slots id me its guard about spares hand s h l g b =
      let changes : Changes (plane at) key me.0 [] its 0 (λ n. n) = λ later q. ap laid (spares.words later q) ∙ sym (set_found (laid (led (plane at) (at key) (later ++ me.0.seen)).now.words) 0) in
      let t = allows (plane at) key slots id me.0 me.1 0 (λ n. n) [] its (slot_facts at (at key) guard) (spares.own, tt) (spares.allowed, tt) (record { words = λ es. refl; actions = λ es. refl }) hand changes s h l g b in
      (t.0, t.1, t.2, t.3, λ other is. subst (λ (x : K). Stepped (plane at) (at x) me.0 me.1 0 [] its (get_or s.words 0 0) (t.0, carried_after me.1 t.1)) (same_some key other (sym about ∙ is)) t.4)

  pub noted_so : (key : K) (slots : ℕ) (me me' : Me Slot (Knows K)) (its : Happening) (n : ℕ) → me.0.about ≡ Some key → Spares at key me its → adding at its (step slots 0 0 0 none) me n me' → IsNoted at key me its me'
  noted_so key slots me me' its n about spares told =
      let t = told key about in
      let none_out : me'.0.hand ≡ None = t.hand ∙ spares.slot t.others t.quiet in
      record {
        others = t.others;
        quiet = t.quiet;
        allowed = t.allowed;
        seen = t.seen;
        about = t.about;
        role = t.role;
        hand = none_out;
        held = subst (λ (hand : Option ℕ). Carries (plane at) (at key) (t.others ++ me.0.seen) hand (base (plane at) me.0.hand me.1) me'.1) none_out t.carries;
      }

  module _ (key : K) (me : Me Slot (Knows K)) (k : KeeperModel) (guard : IsGuardedOpening (at key)) (its : IsKeeping at key me k) where
    abbrev w : World
    w = at key

    pub quiet_is : (others : List Happening) → Quiet (plane at) me.0.role others → Quiet (plane at) (Rest its.from) others
    quiet_is others q = subst (λ (role : Role). Quiet (plane at) role others) its.role q

    -- where the keeper stands, whatever others have done
    pub there : (others : List Happening) → Quiet (plane at) me.0.role others → (led (plane at) w (others ++ me.0.seen)).now.keeper ≡ k.state
    there others q = quiet_keeper w its.from others me.0.seen (quiet_is others q) ∙ sym its.state

    pub ask_there : (others : List Happening) → Quiet (plane at) me.0.role others
        → (let n : Now = (led (plane at) w (others ++ me.0.seen)).now in keeper_ask n.shape n.places n.keeper) ≡ keeper_ask k.shape k.places k.state
    ask_there others q = λ i. keeper_ask ((shape_so w (others ++ me.0.seen) ∙ sym its.shape) i) ((places_so w (others ++ me.0.seen) ∙ sym its.places) i) (there others q i)

    pub own : (e : Happening) → actor_of e ≡ None → speaks me.0.role (actor_of e) ≡ true
    own e is = λ i. speaks (its.role i) (is i)

    pub spares_turn : Spares at key me Turns
    unfolding led
    spares_turn = record {
      own = own Turns refl;
      allowed = refl;
      words = λ others q. ap (λ (n : Now). n.words) (turn_starts (led (plane at) w (others ++ me.0.seen)) (alive at w (others ++ me.0.seen) guard.opened.goes_on));
      slot = λ others q. refl;
    }

    pub spares_commit : (kind : CommitKind) → Spares at key me (Commits kind)
    unfolding led
    spares_commit kind = record {
      own = own (Commits kind) refl;
      allowed = refl;
      words = λ others q. ap (λ (n : Now). n.words) (commit_starts (led (plane at) w (others ++ me.0.seen)) kind (alive at w (others ++ me.0.seen) guard.opened.goes_on));
      slot = λ others q. refl;
    }

    pub spares_call : (granted done : Bool) → keeper_ask k.shape k.places k.state ≡ Done Device → Spares at key me (KeeperMoves granted done)
    unfolding led
    spares_call granted done asks = record {
      own = own (KeeperMoves granted done) refl;
      allowed = refl;
      words = λ others q. ap (λ (n : Now). n.words) (device_called (led (plane at) w (others ++ me.0.seen)) granted done (alive at w (others ++ me.0.seen) guard.opened.goes_on) (ask_there others q ∙ asks));
      slot = λ others q.
          let n : Now = (led (plane at) w (others ++ me.0.seen)).now in
          ap (λ (ask : Ask KeeperTold). slot_of_step ask (keeper_ask n.shape n.places (keeper_next n.shape n.places n.keeper (reply_to n.words (keeper_ask n.shape n.places n.keeper)) granted))) (ask_there others q ∙ asks);
    }

    -- behind an event that is noted it is the keeper's seat still
    pub keeping_on : (e : Happening) (me' : Me Slot (Knows K)) (k' : KeeperModel) (noted : IsNoted at key me e me') → may_stand e ≡ true → k'.shape ≡ k.shape → k'.places ≡ k.places
        → k'.state ≡ (led (plane at) w (e ∷ (noted.others ++ me.0.seen))).now.keeper → IsKeeping at key me' k'
    keeping_on e me' k' noted may same also is = record {
      about = noted.about ∙ its.about;
      from = its.from;
      role = noted.role ∙ its.role;
      shape = same ∙ its.shape;
      places = also ∙ its.places;
      allowed = subst (AreAllowed (plane at)) (sym noted.seen) (may, allowed_both (plane at) noted.others me.0.seen noted.allowed its.allowed);
      state = is ∙ ap (λ (es : List Happening). (led (plane at) w es).now.keeper) (sym noted.seen);
      hand = subst (λ (hand : Option ℕ). HandFits (plane at) w me'.0.seen hand me'.1) (sym noted.hand) tt;
      alone = subst (λ (hand : Option ℕ). base (plane at) hand me'.1 ≡ []) (sym noted.hand) (noted.held ∙ its.alone);
    }

    pub turn_on : (me' : Me Slot (Knows K)) (k' : KeeperModel) → is_in_hand k.state.step ≡ false → IsNoted at key me Turns me' → k' ≡ record k { state = turn_asked k.state } → IsKeeping at key me' k'
    unfolding led
    turn_on me' k' idle noted goes =
        let x : World = led (plane at) w (noted.others ++ me.0.seen) in
        let now : (happens x (event_of Turns)).now.keeper ≡ keeper_asked x.now.keeper (turn_asked x.now.keeper) = ap (λ (n : Now). n.keeper) (turn_starts x (alive at w (noted.others ++ me.0.seen) guard.opened.goes_on)) in
        let same : keeper_asked x.now.keeper (turn_asked x.now.keeper) ≡ turn_asked k.state = ap (λ (s : KeeperState). keeper_asked s (turn_asked s)) (there noted.others noted.quiet) ∙ begun_so k.state (turn_asked k.state) idle in
        keeping_on Turns me' k' noted refl (ap (λ (m : KeeperModel). m.shape) goes) (ap (λ (m : KeeperModel). m.places) goes) (ap (λ (m : KeeperModel). m.state) goes ∙ sym (now ∙ same))

    pub commit_on : (kind : CommitKind) (me' : Me Slot (Knows K)) (k' : KeeperModel) → is_in_hand k.state.step ≡ false → IsNoted at key me (Commits kind) me' → k' ≡ record k { state = commit_asked k.state kind } → IsKeeping at key me' k'
    unfolding led
    commit_on kind me' k' idle noted goes =
        let x : World = led (plane at) w (noted.others ++ me.0.seen) in
        let now : (happens x (event_of (Commits kind))).now.keeper ≡ keeper_asked x.now.keeper (commit_asked x.now.keeper kind) = ap (λ (n : Now). n.keeper) (commit_starts x kind (alive at w (noted.others ++ me.0.seen) guard.opened.goes_on)) in
        let same : keeper_asked x.now.keeper (commit_asked x.now.keeper kind) ≡ commit_asked k.state kind = ap (λ (s : KeeperState). keeper_asked s (commit_asked s kind)) (there noted.others noted.quiet) ∙ begun_so k.state (commit_asked k.state kind) idle in
        keeping_on (Commits kind) me' k' noted refl (ap (λ (m : KeeperModel). m.shape) goes) (ap (λ (m : KeeperModel). m.places) goes) (ap (λ (m : KeeperModel). m.state) goes ∙ sym (now ∙ same))
