-- A session's step keeps the rule of the table, and what it tells.
use Rattle.std.proofs.Common.{◌≡◌, ℕ, ◌<◌, refl, sym, ap, subst, ◌∙◌, List, [], ◌∷◌, ◌++◌, length, set, get_or, arith}
use Rattle.std.specs.Prelude.{Option, Some, slice_get, slice_index_or, ◌^◌}
use Rattle.atomic_table.specs.Seated.{TableId}
use Rattle.atomic_table.specs.Table.{Me, Step, Allows}
use Rattle.fkv_plane.specs.declared.asks.Ask.{Ask}
use Rattle.fkv_plane.specs.declared.asks.Ask.TheVariants.{Load, Store, Swap, Cas, Add, Max, Put, Take, Done}
use Rattle.fkv_plane.specs.declared.places.Places.{Places}
use Rattle.fkv_plane.specs.Asked.{asked, asked_place, reply_to, word_found}
use Rattle.fkv_plane.specs.Places.{word_count}
use Rattle.fkv_session.specs.declared.answers.Told.{Told}
use Rattle.fkv_session.specs.Sessions.{Seat, SessionState, Sitter, session_ask, session_next}
use Rattle.law_world.specs.Below.fkv_world.Actors.{slot_asked, slot_of_step, slot_named, session_slot_named}
use Rattle.law_world.specs.Below.fkv_world.Runs.{World}
use Rattle.law_world.specs.Below.fkv_world.World.{seat_at}
use Rattle.fkv_seats.specs.declared.views.Role.{Role}
use Rattle.fkv_seats.specs.declared.views.Role.TheVariants.{Sits}
use Rattle.fkv_seats.specs.Rule.{AreAllowed, AreOwn, Changes, Quiet, Ruled, Stepped, led, number_of}
use Rattle.fkv_seats.proofs.Keeps.{allowed_first, no_some, allows}
use Rattle.fkv_table.specs.declared.happenings.Happening.{Happening}
use Rattle.fkv_table.specs.declared.happenings.Happening.TheVariants.{Moves}
use Rattle.fkv_table.specs.Asks.{step_of}
use Rattle.fkv_table.specs.Desks.{Slot, Knows, turned}
use Rattle.fkv_table.specs.Events.{event_of}
use Rattle.fkv_table.specs.Openings.{IsGuardedOpening, IsTableOf}
use Rattle.fkv_table.specs.Planes.{plane}
use Rattle.fkv_table.specs.Positions.{laid, position}
use Rattle.fkv_table.specs.Sits.{IsSeated, Replied, called_after}
use Rattle.fkv_table.proofs.Laid.{below, laid_found}
use Rattle.fkv_table.proofs.Lives.{are_starts, is_there, own_step, place_within, same_chair, slot_facts, stands, start_words, writes_laid}

pub same_some : {X : Type 0} (i j : X) → ◌≡◌ {A = Option X} (Some i) (Some j) → i ≡ j
same_some i j e = cc

pub step_word : {A : Type 0} (slots : ℕ) (ask : Ask A) (place : ℕ) → asked_place ask ≡ Some place → let st : Step Slot = step_of slots ask in st.word ≡ position place
step_word slots (Load i) place e = ap position (same_some i place e)
step_word slots (Store i new) place e = ap position (same_some i place e)
step_word slots (Swap i new) place e = ap position (same_some i place e)
step_word slots (Cas i old new) place e = ap position (same_some i place e)
step_word slots (Add i k) place e = ap position (same_some i place e)
step_word slots (Max i k) place e = ap position (same_some i place e)
step_word slots (Put slot action) place e = no_some place e
step_word slots (Take slot) place e = no_some place e
step_word slots (Done its) place e = no_some place e

-- behind an ask of a word the slot is that of the ask that goes with it
pub slot_behind : {A : Type 0} (ask behind : Ask A) (place : ℕ) → asked_place ask ≡ Some place → slot_of_step ask behind ≡ slot_asked behind
slot_behind (Put slot action) behind place e = no_some place e
slot_behind (Take slot) behind place e = no_some place e
slot_behind (Done its) behind place e = no_some place e
slot_behind (Load i) behind place e = refl
slot_behind (Store i new) behind place e = refl
slot_behind (Swap i new) behind place e = refl
slot_behind (Cas i old new) behind place e = refl
slot_behind (Add i k) behind place e = refl
slot_behind (Max i k) behind place e = refl

-- a store has fewer words than an index has numbers
pub few_words : (p : Places) (place : ℕ) → place < word_count p → place < 2 ^ 62
few_words p place low = omega (arith, low, p.few_sessions, p.few_buckets, p.few_overflow, p.small_ring)

module _ {K : Type 0} (at : K → World) where
  pub weaken : (key : K) (slots id : ℕ) (me : Me Slot (Knows K)) (i : ℕ) (f : ℕ → ℕ) (then other : ℕ → Me Slot (Knows K) → Type 0) → ((n : ℕ) (m : Me Slot (Knows K)) → then n m → other n m)
      → Allows (Ruled (plane at) key) slots id me i f then → Allows (Ruled (plane at) key) slots id me i f other
  weaken key slots id me i f then other on allowed s h l g b = let t = allowed s h l g b in (t.0, t.1, t.2, t.3, on _ _ t.4)

  module _ (key : K) (me : Me Slot (Knows K)) (own : List Happening) (m : Sitter) (opens : IsGuardedOpening (at key)) (sits : IsSeated at key me own m) where
    abbrev w : World
    w = at key

    abbrev n : ℕ
    n = m.seat.number

    state_is : called_after (seat_at w.now n) sits.first own ≡ m.state
    state_is = ap (λ (k : Seat). called_after k sits.first own) (sym sits.chair) ∙ sym sits.state

    ask_is : session_ask (seat_at w.now n) (called_after (seat_at w.now n) sits.first own) ≡ session_ask m.seat m.state
    ask_is = λ i. session_ask (sym sits.chair i) (state_is i)

    quiet_is : (later : List Happening) → Quiet (plane at) me.0.role later → Quiet (plane at) (Sits n) later
    quiet_is later q = subst (λ (role : Role). Quiet (plane at) role later) sits.role q

    pub standing : (later : List Happening) → Quiet (plane at) me.0.role later → slice_get (led (plane at) w (own ++ (later ++ me.0.seen))).now.sessions n ≡ Some m.state
    standing later q = stands at w n own later me.0.seen sits.first opens.opened.goes_on sits.calls (quiet_is later q) sits.was ∙ ap (λ (s : SessionState). Some s) state_is

    mine : AreOwn (plane at) me.0.role (Moves n ∷ own)
    mine = subst (λ (role : Role). AreOwn (plane at) role (Moves n ∷ own)) (sym sits.role) (own_step at n own sits.calls)

    may : AreAllowed (plane at) (Moves n ∷ own)
    may = (refl, allowed_first (plane at) own me.0.seen sits.allowed)

    pub low : (place : ℕ) → asked_place (session_ask m.seat m.state) ≡ Some place → place < word_count w.now.places
    low place e = place_within at w opens (own ++ me.0.seen) n place m.state (standing [] tt) (ap (λ (k : Seat). asked_place (session_ask k m.state)) (sym sits.chair) ∙ e)

    changes : (place : ℕ) → asked_place (session_ask m.seat m.state) ≡ Some place → Changes (plane at) key me.0 own (Moves n) (position place) (asked (session_ask m.seat m.state))
    changes place e later q =
        writes_laid at w opens n own later me.0.seen sits.first place sits.calls (quiet_is later q) sits.was (ap asked_place ask_is ∙ e) (low place e)
        ∙ ap (λ (a : Ask Told). set (laid (led (plane at) w (later ++ me.0.seen)).now.words) (position place) (asked a (get_or (laid (led (plane at) w (later ++ me.0.seen)).now.words) (position place) 0))) ask_is

    pub chair_at : (es : List Happening) → seat_at (led (plane at) w es).now n ≡ m.seat
    chair_at es = same_chair at w es n ∙ sym sits.chair

    pub names_so : (later : List Happening) → Quiet (plane at) me.0.role later → (place : ℕ) → asked_place (session_ask m.seat m.state) ≡ Some place
        → slot_named (led (plane at) w (own ++ (later ++ me.0.seen))).now (event_of (Moves n))
        ≡ slot_asked (session_ask m.seat (session_next m.seat m.state (reply_to (led (plane at) w (own ++ (later ++ me.0.seen))).now.words (session_ask m.seat m.state))))
    names_so later q place e =
        let x : World = led (plane at) w (own ++ (later ++ me.0.seen)) in
        ap (session_slot_named x.now (seat_at x.now n)) (standing later q)
        ∙ (ap (λ (k : Seat). session_slot_named x.now k (Some m.state)) (chair_at (own ++ (later ++ me.0.seen)))
        ∙ slot_behind (session_ask m.seat m.state) (session_ask m.seat (session_next m.seat m.state (reply_to x.now.words (session_ask m.seat m.state)))) place e)

  pub allowed : (key : K) (slots id : ℕ) (me : Me Slot (Knows K)) (own : List (ℕ × Slot) → List Happening) (m : Sitter) (ask : Ask Told) → IsGuardedOpening (at key) → IsSeated at key me (own me.1) m → ask ≡ session_ask m.seat m.state
      → (place : ℕ) → asked_place ask ≡ Some place → Allows (Ruled (plane at) key) slots id me (position place) (asked ask) (turned at own (step_of slots ask) me)
  allowed key slots id me own m ask opens sits is place e =
      let named : asked_place (session_ask m.seat m.state) ≡ Some place = ap asked_place (sym is) ∙ e in
      let word_is = step_word slots ask place e in
      let number_is : m.seat.number ≡ number_of me.0.role = ap number_of (sym sits.role) in
      let done = allows (plane at) key slots id me.0 me.1 (position place) (asked (session_ask m.seat m.state)) (own me.1) (Moves m.seat.number) (slot_facts at (at key) opens) (mine key me (own me.1) m opens sits) (may key me (own me.1) m opens sits)
      (are_starts at (at key) m.seat.number (own me.1) opens.opened.goes_on sits.calls) sits.hand (changes key me (own me.1) m opens sits place named) in
      let same_ask : Allows (Ruled (plane at) key) slots id me (position place) (asked ask) (λ n m'. Stepped (plane at) (at key) me.0 me.1 (position place) (own me.1) (Moves m.seat.number) n m') =
      subst (λ (a : Ask Told). Allows (Ruled (plane at) key) slots id me (position place) (asked a) (λ n m'. Stepped (plane at) (at key) me.0 me.1 (position place) (own me.1) (Moves m.seat.number) n m')) (sym is) done in
      weaken key slots id me (position place) (asked ask) (λ n m'. Stepped (plane at) (at key) me.0 me.1 (position place) (own me.1) (Moves m.seat.number) n m') (turned at own (step_of slots ask) me)
      (λ n m' t other about.
      let same : key ≡ other = same_some key other (sym sits.about ∙ about) in
      subst (λ (x : K × ℕ × ℕ). Stepped (plane at) (at x.0) me.0 me.1 x.1 (own me.1) (Moves x.2) n m') (λ i. (same i, sym word_is i, number_is i)) t)
      same_ask

  pub within : (key : K) (id : TableId) (me : Me Slot (Knows K)) (own : List Happening) (m : Sitter) (ask : Ask Told) → IsTableOf (at key) id → IsSeated at key me own m → ask ≡ session_ask m.seat m.state
      → (place : ℕ) × (asked_place ask ≡ Some place) → (place : ℕ) × (asked_place ask ≡ Some place) × (position place < id.words) × (place < 2 ^ 62)
  unfolding led
  within key id me own m ask table sits is (place, e) =
      let its = low key me own m table.opening sits place (ap asked_place (sym is) ∙ e) in
      let inside : place < length (at key).now.words = is_there at (at key) table.opening [] place its in
      (place, e, subst (λ (count : ℕ). position place < count) (sym table.words) (below place (length (at key).now.words) inside), few_words (at key).now.places place its)

  pub replies : (key : K) (slots : ℕ) (me me' : Me Slot (Knows K)) (own : List (ℕ × Slot) → List Happening) (m m' : Sitter) (ask : Ask Told) (reply : ℕ) → IsGuardedOpening (at key) → IsSeated at key me (own me.1) m
      → ask ≡ session_ask m.seat m.state → (place : ℕ) × (asked_place ask ≡ Some place) → turned at own (step_of slots ask) me reply me' → m' ≡ record m { state = session_next m.seat m.state reply } → Replied at key me (own me.1) m me' m'
  replies key slots me me' own m m' ask reply opens sits is (place, e) told went =
      let t = told key sits.about in
      let named : asked_place (session_ask m.seat m.state) ≡ Some place = ap asked_place (sym is) ∙ e in
      let before : List Happening = own me.1 ++ (t.others ++ me.0.seen) in
      let x : World = led (plane at) (at key) before in
      let y : World = led (plane at) (at key) (t.others ++ me.0.seen) in
      let number_is : number_of me.0.role ≡ m.seat.number = ap number_of sits.role in
      let there = is_there at (at key) opens (t.others ++ me.0.seen) place (low key me (own me.1) m opens sits place named) in
      let reply_is : reply ≡ reply_to x.now.words (session_ask m.seat m.state) =
      t.found ∙ (ap (λ (i : ℕ). slice_index_or (laid y.now.words) i 0) (step_word slots ask place e)
      ∙ (laid_found y.now.words place there
      ∙ (ap (λ (ws : List ℕ). slice_index_or ws place 0) (sym (start_words at (at key) m.seat.number (own me.1) (t.others ++ me.0.seen) opens.opened.goes_on sits.calls)) ∙ ap (word_found x.now.words) (sym named)))) in
      let seat_is : m'.seat ≡ m.seat = ap (λ (z : Sitter). z.seat) went in
      let state_so : m'.state ≡ session_next m.seat m.state (reply_to x.now.words (session_ask m.seat m.state)) = ap (λ (z : Sitter). z.state) went ∙ ap (session_next m.seat m.state) reply_is in
      record {
        seat = seat_is;
        others = t.others;
        quiet = t.quiet;
        allowed = t.allowed;
        seen = t.seen ∙ ap (λ (n : ℕ). Moves n ∷ before) number_is;
        about = t.about;
        role = t.role;
        desk = t.desk;
        state = state_so;
        hand = t.hand ∙ (ap (λ (n : ℕ). slot_named x.now (event_of (Moves n))) number_is ∙ (names_so key me (own me.1) m opens sits t.others t.quiet place named ∙ λ i. slot_asked (session_ask (sym seat_is i) (sym state_so i))));
        carries = t.carries;
      }
