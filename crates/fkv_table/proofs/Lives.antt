-- What the engine's world has to say of a step of a session.
use Rattle.std.proofs.Common.{◌≡◌, ◌≢◌, ℕ, ◌<◌, refl, sym, ap, subst, ◌∙◌, true, false, List, [], ◌∷◌, ◌++◌, length, map, set, get_or, length-set, lt_of_lt_of_le, arith}
use Rattle.std.specs.Prelude.{Option, Some, None, slice_get, ◌==◌}
use Rattle.std.proofs.lemmas.Bool.Decides.{nat_tests}
use Rattle.fkv_base.specs.Limits.{drain_slots}
use Rattle.fkv_map.specs.declared.operations.Call.{Call}
use Rattle.fkv_map.specs.declared.operations.Call.TheVariants.{Refresh}
use Rattle.fkv_plane.specs.declared.actions.Action.{Action}
use Rattle.fkv_plane.specs.declared.asks.Ask.{Ask}
use Rattle.fkv_plane.specs.Asked.{asked, asked_place, words_after, words_changed, word_at}
use Rattle.fkv_plane.specs.Places.{word_count}
use Rattle.fkv_epoch.proofs.Shown.{item_written}
use Rattle.fkv_session.specs.Sessions.{Seat, SessionState, session_ask}
use Rattle.fkv_session.specs.declared.answers.Told.{Told}
use Rattle.fkv_keeper.specs.Keeping.{keeper_ask}
use Rattle.law_world.specs.Below.fkv_world.Actors.{NoneOfKeeper, NoneOfSession, is_of_keeper, is_of_session, slot_asked, slot_named}
use Rattle.law_world.specs.Below.fkv_world.Runs.{World, happens, run}
use Rattle.law_world.specs.Below.fkv_world.World.{Event, Now, seat_at, session_called}
use Rattle.law_world.proofs.Below.fkv_world.Shown.{session_apart, shape_stays, places_stay}
use Rattle.law_world.specs.Runs.Crashes.{NoneIsCrash}
use Rattle.law_world.proofs.OfRuns.Crashed.{goes_on}
use Rattle.law_world.proofs.OfRuns.Nothing.{no_session}
use Rattle.law_world.proofs.OfRuns.OneWord.{keeper_writes, one_slot, session_writes}
use Rattle.law_world.proofs.OfRuns.Starts.{call_starts, commit_starts, turn_starts}
use Rattle.law_world.specs.Guarded.SlotsApart.{AreOfOthers}
use Rattle.law_world.proofs.OfGuarded.Slots.{life_names_within, life_session_rests, life_slots_count}
use Rattle.law_world.proofs.OfGuarded.SlotsApart.{life_apart}
use Rattle.law_world.proofs.OfGuarded.WordsWithin.{life_session_within}
use Rattle.fkv_seats.specs.declared.views.Role.TheVariants.{Sits}
use Rattle.fkv_seats.specs.Rule.{AreOwn, AreStarts, NoneOf, Quiet, SlotFacts, action_in, led, speaks}
use Rattle.fkv_table.specs.declared.happenings.Happening.{Happening}
use Rattle.fkv_table.specs.declared.happenings.Happening.TheVariants.{Calls, Moves, Commits, Turns, KeeperMoves}
use Rattle.fkv_table.specs.Events.{actor_of, event_of}
use Rattle.fkv_table.specs.Openings.{IsGuardedOpening}
use Rattle.fkv_table.specs.Planes.{plane}
use Rattle.fkv_table.specs.Positions.{laid, position}
use Rattle.fkv_table.specs.Sits.{AreCalls, called_after}
use Rattle.fkv_table.proofs.Laid.{laid_found, laid_set}

mapped_both : (later before : List Happening) → map event_of (later ++ before) ≡ map event_of later ++ map event_of before
mapped_both [] before = refl
mapped_both (its ∷ later) before = ap (λ (es : List Event). event_of its ∷ es) (mapped_both later before)

no_crash : (es : List Happening) → NoneIsCrash (map event_of es)
no_crash [] = tt
no_crash (Calls session call ∷ es) = (refl, no_crash es)
no_crash (Moves session ∷ es) = (refl, no_crash es)
no_crash (Commits kind ∷ es) = (refl, no_crash es)
no_crash (Turns ∷ es) = (refl, no_crash es)
no_crash (KeeperMoves granted done ∷ es) = (refl, no_crash es)

differs : (i j : ℕ) → i ≢ j → (i == j) ≡ false
differs i j other = grind (arith, nat_tests)

pub same_number : (n : ℕ) → (n == n) ≡ true
same_number n = grind (arith, nat_tests)

not_of : (number : ℕ) (its : Happening) → speaks (Sits number) (actor_of its) ≡ false → is_of_session number (event_of its) ≡ false
not_of number (Calls session call) e = e
not_of number (Moves session) e = e
not_of number (Commits kind) e = refl
not_of number Turns e = refl
not_of number (KeeperMoves granted done) e = refl

other_session : (number : ℕ) (its : Happening) → actor_of its ≢ Some number → is_of_session number (event_of its) ≡ false
other_session number (Calls session call) other = differs session number (λ e. other (ap (λ (n : ℕ). Some n) e))
other_session number (Moves session) other = differs session number (λ e. other (ap (λ (n : ℕ). Some n) e))
other_session number (Commits kind) other = refl
other_session number Turns other = refl
other_session number (KeeperMoves granted done) other = refl

other_keeper : (its : Happening) → actor_of its ≢ None → is_of_keeper (event_of its) ≡ false
other_keeper (Calls session call) other = refl
other_keeper (Moves session) other = refl
other_keeper (Commits kind) other = absurd (other refl)
other_keeper Turns other = absurd (other refl)
other_keeper (KeeperMoves granted done) other = absurd (other refl)

pub changed_there : {A : Type 0} (words : List ℕ) (ask : Ask A) (place : ℕ) → asked_place ask ≡ Some place → words_after words ask ≡ set words place (asked ask (get_or words place 0))
changed_there words ask place e = ap (λ (at : Option ℕ). words_changed words at (asked ask)) e

changed_length : (words : List ℕ) (at : Option ℕ) (f : ℕ → ℕ) → length (words_changed words at f) ≡ length words
changed_length words None f = refl
changed_length words (Some place) f = length-set words place (f (word_at words place))

same_action : (actions : List (Option Action)) (more : List (Option Action)) (k : ℕ) → slice_get actions k ≡ slice_get more k → action_in actions k ≡ action_in more k
same_action actions more k e = rw e refl

module _ {K : Type 0} (at : K → World) where
  pub led_run : (w : World) (es : List Happening) → led (plane at) w es ≡ run w (map event_of es)
  unfolding led run
  led_run w [] = refl
  led_run w (e ∷ es) = ap (λ (x : World). happens x (event_of e)) (led_run w es)

  pub alive : (w : World) (es : List Happening) → w.now.crashed ≡ false → (led (plane at) w es).now.crashed ≡ false
  alive w es e = ap (λ (x : World). x.now.crashed) (led_run w es) ∙ goes_on w (map event_of es) e (no_crash es)

  pub quiet_session : (w : World) (number : ℕ) (later seen : List Happening) → Quiet (plane at) (Sits number) later
      → slice_get (led (plane at) w (later ++ seen)).now.sessions number ≡ slice_get (led (plane at) w seen).now.sessions number
  unfolding led
  quiet_session w number [] seen q = refl
  quiet_session w number (its ∷ later) seen q = session_apart (led (plane at) w (later ++ seen)) (event_of its) number (not_of number its q.0) ∙ quiet_session w number later seen q.1

  pub same_chair : (w : World) (es : List Happening) (number : ℕ) → seat_at (led (plane at) w es).now number ≡ seat_at w.now number
  same_chair w es number =
      let s = ap (λ (x : World). x.now.shape) (led_run w es) ∙ shape_stays w (map event_of es) in let p = ap (λ (x : World). x.now.places) (led_run w es) ∙ places_stay w (map event_of es) in
      λ i. record { places = p i; shape = s i; number = number }

  -- starts of calls
  starts_now : (w : World) (number : ℕ) (call : Call) (found : Option SessionState) → w.now.crashed ≡ false → slice_get w.now.sessions number ≡ found
      → ((happens w (event_of (Calls number call))).now.words ≡ w.now.words) × ((happens w (event_of (Calls number call))).now.actions ≡ w.now.actions)
  starts_now w number call None e got = let goes = (no_session w number call got).0 in (ap (λ (x : World). x.now.words) goes, ap (λ (x : World). x.now.actions) goes)
  starts_now w number call (Some x) e got = let goes = call_starts w number call x e got in (ap (λ (n : Now). n.words) goes, ap (λ (n : Now). n.actions) goes)

  start_spares : (w : World) (number : ℕ) (own es : List Happening) → w.now.crashed ≡ false → AreCalls number own
      → ((led (plane at) w (own ++ es)).now.words ≡ (led (plane at) w es).now.words) × ((led (plane at) w (own ++ es)).now.actions ≡ (led (plane at) w es).now.actions)
  unfolding led
  start_spares w number [] es e calls = (refl, refl)
  start_spares w number (its ∷ own) es e calls =
      let c = calls.0.0 in let x : World = led (plane at) w (own ++ es) in let rest = start_spares w number own es e calls.1 in
      let now = starts_now x number c (slice_get x.now.sessions number) (alive w (own ++ es) e) refl in
      let same : happens x (event_of its) ≡ happens x (event_of (Calls number c)) = ap (λ (h : Happening). happens x (event_of h)) calls.0.1 in
      (ap (λ (y : World). y.now.words) same ∙ (now.0 ∙ rest.0), ap (λ (y : World). y.now.actions) same ∙ (now.1 ∙ rest.1))

  pub start_words : (w : World) (number : ℕ) (own es : List Happening) → w.now.crashed ≡ false → AreCalls number own → (led (plane at) w (own ++ es)).now.words ≡ (led (plane at) w es).now.words
  start_words w number own es e calls = (start_spares w number own es e calls).0

  pub are_starts : (w : World) (number : ℕ) (own : List Happening) → w.now.crashed ≡ false → AreCalls number own → AreStarts (plane at) w own
  are_starts w number own e calls = record { words = λ es. ap laid (start_spares w number own es e calls).0; actions = λ es. (start_spares w number own es e calls).1 }

  -- the machine behind starts
  pub called_on : (w : World) (number : ℕ) (own es : List Happening) (first : SessionState) → w.now.crashed ≡ false → AreCalls number own → slice_get (led (plane at) w es).now.sessions number ≡ Some first
      → slice_get (led (plane at) w (own ++ es)).now.sessions number ≡ Some (called_after (seat_at w.now number) first own)
  unfolding led
  called_on w number [] es first e calls was = was
  called_on w number (its ∷ own) es first e calls was =
      let c = calls.0.0 in let x : World = led (plane at) w (own ++ es) in let k : Seat = seat_at w.now number in let s : SessionState = called_after k first own in
      let before : slice_get x.now.sessions number ≡ Some s = called_on w number own es first e calls.1 was in
      let now = ap (λ (n : Now). slice_get n.sessions number) (call_starts x number c s (alive w (own ++ es) e) before) ∙ item_written x.now.sessions number s (session_called (seat_at x.now number) s c) before in
      let same : happens x (event_of its) ≡ happens x (event_of (Calls number c)) = ap (λ (h : Happening). happens x (event_of h)) calls.0.1 in
      let last : session_called (seat_at x.now number) s c ≡ called_after k first (its ∷ own) =
      ap (λ (y : Seat). session_called y s c) (same_chair w (own ++ es) number) ∙ ap (λ (h : Happening). called_after k first (h ∷ own)) (sym calls.0.1) in
      ap (λ (y : World). slice_get y.now.sessions number) same ∙ (now ∙ ap (λ (y : SessionState). Some y) last)

  -- what others do is nothing to it
  pub stands : (w : World) (number : ℕ) (own later seen : List Happening) (first : SessionState) → w.now.crashed ≡ false → AreCalls number own → Quiet (plane at) (Sits number) later
      → slice_get (led (plane at) w seen).now.sessions number ≡ Some first → slice_get (led (plane at) w (own ++ (later ++ seen))).now.sessions number ≡ Some (called_after (seat_at w.now number) first own)
  stands w number own later seen first e calls q was = called_on w number own (later ++ seen) first e calls (quiet_session w number later seen q ∙ was)

  -- there are always as many words
  moved_count : (w : World) (number : ℕ) (found : Option SessionState) → w.now.crashed ≡ false → slice_get w.now.sessions number ≡ found → length (happens w (event_of (Moves number))).now.words ≡ length w.now.words
  moved_count w number None e got = ap (λ (x : World). length x.now.words) (no_session w number Refresh got).1
  moved_count w number (Some s) e got = ap length (session_writes w number s e got) ∙ changed_length w.now.words (asked_place (session_ask (seat_at w.now number) s)) (asked (session_ask (seat_at w.now number) s))

  event_count : (w : World) (its : Happening) → w.now.crashed ≡ false → length (happens w (event_of its)).now.words ≡ length w.now.words
  event_count w (Calls number call) e = ap length (starts_now w number call (slice_get w.now.sessions number) e refl).0
  event_count w (Moves number) e = moved_count w number (slice_get w.now.sessions number) e refl
  event_count w (Commits kind) e = ap (λ (n : Now). length n.words) (commit_starts w kind e)
  event_count w Turns e = ap (λ (n : Now). length n.words) (turn_starts w e)
  event_count w (KeeperMoves granted done) e =
      ap length (keeper_writes w granted done e)
      ∙ changed_length w.now.words (asked_place (keeper_ask w.now.shape w.now.places w.now.keeper)) (asked (keeper_ask w.now.shape w.now.places w.now.keeper))

  pub words_stay : (w : World) (es : List Happening) → w.now.crashed ≡ false → length (led (plane at) w es).now.words ≡ length w.now.words
  unfolding led
  words_stay w [] e = refl
  words_stay w (its ∷ es) e = event_count (led (plane at) w es) its (alive w es e) ∙ words_stay w es e

  module _ (w : World) (opens : IsGuardedOpening w) where
    abbrev going : w.now.crashed ≡ false
    going = opens.opened.goes_on

    -- each of its asks is of a word that there is
    pub place_within : (es : List Happening) (number place : ℕ) (s : SessionState) → slice_get (led (plane at) w es).now.sessions number ≡ Some s
        → asked_place (session_ask (seat_at w.now number) s) ≡ Some place → place < word_count w.now.places
    place_within es number place s there named =
        life_session_within w opens.start (map event_of es) number place s opens.guarded (ap (λ (x : World). slice_get x.now.sessions number) (sym (led_run w es)) ∙ there)
        (ap (λ (k : Seat). asked_place (session_ask k s)) (ap (λ (x : World). seat_at x.now number) (sym (led_run w es)) ∙ same_chair w es number) ∙ named)

    pub is_there : (es : List Happening) (place : ℕ) → place < word_count w.now.places → place < length (led (plane at) w es).now.words
    is_there es place low = subst (λ (count : ℕ). place < count) (sym (words_stay w es going)) (lt_of_lt_of_le low opens.guarded.words.enough_words)

    -- its step changes the word of its ask, as the ask does
    pub writes : (number : ℕ) (own later seen : List Happening) (first : SessionState) (place : ℕ) → AreCalls number own → Quiet (plane at) (Sits number) later
        → slice_get (led (plane at) w seen).now.sessions number ≡ Some first → asked_place (session_ask (seat_at w.now number) (called_after (seat_at w.now number) first own)) ≡ Some place
        → (led (plane at) w (Moves number ∷ (own ++ (later ++ seen)))).now.words
        ≡ set (led (plane at) w (later ++ seen)).now.words place (asked (session_ask (seat_at w.now number) (called_after (seat_at w.now number) first own)) (get_or (led (plane at) w (later ++ seen)).now.words place 0))
    unfolding led
    writes number own later seen first place calls q was named =
        let s : SessionState = called_after (seat_at w.now number) first own in let ask : Ask Told = session_ask (seat_at w.now number) s in
        let before : List Happening = own ++ (later ++ seen) in
        let x : World = led (plane at) w before in
        let moved : (happens x (event_of (Moves number))).now.words ≡ words_after x.now.words (session_ask (seat_at x.now number) s) =
        session_writes x number s (alive w before going) (stands w number own later seen first going calls q was) in
        let chair : words_after x.now.words (session_ask (seat_at x.now number) s) ≡ words_after x.now.words ask = ap (λ (k : Seat). words_after x.now.words (session_ask k s)) (same_chair w before number) in
        let there : words_after x.now.words ask ≡ set x.now.words place (asked ask (get_or x.now.words place 0)) = changed_there x.now.words ask place named in
        let words_so : set x.now.words place (asked ask (get_or x.now.words place 0)) ≡ set (led (plane at) w (later ++ seen)).now.words place (asked ask (get_or (led (plane at) w (later ++ seen)).now.words place 0)) =
        ap (λ (ws : List ℕ). set ws place (asked ask (get_or ws place 0))) (start_words w number own (later ++ seen) going calls) in
        moved ∙ (chair ∙ (there ∙ words_so))

    -- so it is at their positions
    pub writes_laid : (number : ℕ) (own later seen : List Happening) (first : SessionState) (place : ℕ) → AreCalls number own → Quiet (plane at) (Sits number) later
        → slice_get (led (plane at) w seen).now.sessions number ≡ Some first → asked_place (session_ask (seat_at w.now number) (called_after (seat_at w.now number) first own)) ≡ Some place
        → place < word_count w.now.places
        → laid (led (plane at) w (Moves number ∷ (own ++ (later ++ seen)))).now.words
        ≡ set (laid (led (plane at) w (later ++ seen)).now.words) (position place)
        (asked (session_ask (seat_at w.now number) (called_after (seat_at w.now number) first own)) (get_or (laid (led (plane at) w (later ++ seen)).now.words) (position place) 0))
    writes_laid number own later seen first place calls q was named low =
        let s : SessionState = called_after (seat_at w.now number) first own in let ask : Ask Told = session_ask (seat_at w.now number) s in
        let words : List ℕ = (led (plane at) w (later ++ seen)).now.words in
        let inside = is_there (later ++ seen) place low in
        ap laid (writes number own later seen first place calls q was named)
        ∙ (laid_set words place (asked ask (get_or words place 0)) inside ∙ ap (λ (n : ℕ). set (laid words) (position place) (asked ask n)) (sym (laid_found words place inside)))

    -- others' events
    none_session : (number : ℕ) (es : List Happening) → NoneOf (plane at) (Some number) es → NoneOfSession number (map event_of es)
    none_session number [] none = tt
    none_session number (its ∷ es) none = (other_session number its none.0, none_session number es none.1)

    none_keeper : (es : List Happening) → NoneOf (plane at) None es → NoneOfKeeper (map event_of es)
    none_keeper [] none = tt
    none_keeper (its ∷ es) none = (other_keeper its none.0, none_keeper es none.1)

    of_others : (e : Happening) (es : List Happening) → NoneOf (plane at) (actor_of e) es → AreOfOthers (event_of e) (map event_of es)
    of_others (Calls session call) es none = none_session session es none
    of_others (Moves session) es none = none_session session es none
    of_others (Commits kind) es none = none_keeper es none
    of_others Turns es none = none_keeper es none
    of_others (KeeperMoves granted done) es none = none_keeper es none

    -- the slots that events name
    pub named_within : (es : List Happening) (e : Happening) (k : ℕ) → slot_named (led (plane at) w es).now (event_of e) ≡ Some k → k < drain_slots
    named_within es e k named = life_names_within w opens.start (map event_of es) (event_of e) k opens.guarded (ap (λ (x : World). slot_named x.now (event_of e)) (sym (led_run w es)) ∙ named)

    pub slots_count : (es : List Happening) → length (led (plane at) w es).now.actions ≡ drain_slots
    slots_count es = ap (λ (x : World). length x.now.actions) (led_run w es) ∙ life_slots_count w opens.start (map event_of es) opens.guarded

    -- between two events no session stands at a slot
    pub rests_so : (es : List Happening) (number : ℕ) (s : SessionState) → slice_get (led (plane at) w es).now.sessions number ≡ Some s
        → slot_asked (session_ask (seat_at w.now number) s) ≡ None
    rests_so es number s there =
        ap (λ (k : Seat). slot_asked (session_ask k s)) (sym (ap (λ (x : World). seat_at x.now number) (sym (led_run w es)) ∙ same_chair w es number))
        ∙ life_session_rests w opens.start (map event_of es) number s opens.guarded (ap (λ (x : World). slice_get x.now.sessions number) (sym (led_run w es)) ∙ there)

    slots_apart : (later before : List Happening) (e its : Happening) (k : ℕ) → slot_named (led (plane at) w before).now (event_of e) ≡ Some k → NoneOf (plane at) (actor_of e) later → actor_of its ≢ actor_of e
        → slot_named (led (plane at) w (later ++ e ∷ before)).now (event_of its) ≢ Some k
    slots_apart later before e its k named none other again =
        let here : slot_named (run w (map event_of before)).now (event_of e) ≡ Some k = ap (λ (x : World). slot_named x.now (event_of e)) (sym (led_run w before)) ∙ named in
        let whole : led (plane at) w (later ++ e ∷ before) ≡ run w (map event_of later ++ (event_of e ∷ map event_of before)) = led_run w (later ++ e ∷ before) ∙ ap (run w) (mapped_both later (e ∷ before)) in
        life_apart w opens.start (map event_of later) (map event_of before) (event_of e) (event_of its) k opens.guarded (goes_on w (map event_of before) going (no_crash before)) here
        (of_others e (its ∷ later) (other, none)) (ap (λ (x : World). slot_named x.now (event_of its)) (sym whole) ∙ again)

    pub slot_facts : SlotFacts (plane at) w
    unfolding led
    slot_facts = record {
      within = named_within;
      others = λ es e k other. same_action _ _ k (one_slot (led (plane at) w es) (event_of e) k other);
      apart = slots_apart;
    }

  own_calls : (number : ℕ) (own : List Happening) → AreCalls number own → AreOwn (plane at) (Sits number) own
  own_calls number [] calls = tt
  own_calls number (its ∷ own) calls = (ap (λ (h : Happening). speaks (Sits number) (actor_of h)) calls.0.1 ∙ same_number number, own_calls number own calls.1)

  pub own_step : (number : ℕ) (own : List Happening) → AreCalls number own → AreOwn (plane at) (Sits number) (Moves number ∷ own)
  own_step number own calls = (same_number number, own_calls number own calls)
