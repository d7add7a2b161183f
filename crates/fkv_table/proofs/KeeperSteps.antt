-- A step of the keeper keeps the rule of the table, and what it tells.
use Rattle.std.proofs.Common.{◌≡◌, ℕ, ◌<◌, refl, sym, ap, subst, ◌∙◌, Bool, true, List, [], ◌∷◌, ◌++◌, length, map, set, get_or}
use Rattle.std.specs.Prelude.{Option, Some, slice_index_or, ◌^◌}
use Rattle.atomic_table.specs.Seated.{TableId}
use Rattle.atomic_table.specs.Table.{Me, Allows}
use Rattle.fkv_plane.specs.declared.asks.Ask.{Ask}
use Rattle.fkv_plane.specs.Asked.{asked, asked_place, reply_to, word_found, words_after}
use Rattle.fkv_plane.specs.Places.{word_count}
use Rattle.fkv_plane.specs.declared.places.Places.{Places}
use Rattle.fkv_base.specs.declared.shapes.Shape.{Shape}
use Rattle.fkv_keeper.specs.declared.answers.KeeperTold.{KeeperTold}
use Rattle.fkv_keeper.specs.Keeping.{KeeperModel, KeeperState, keeper_ask, keeper_next}
use Rattle.law_world.specs.Below.fkv_world.Actors.{slot_asked, slot_of_step, slot_named}
use Rattle.law_world.specs.Below.fkv_world.Runs.{World, happens}
use Rattle.law_world.proofs.OfRuns.OneWord.{keeper_writes}
use Rattle.law_world.proofs.OfGuarded.WordsWithin.{life_keeper_within}
use Rattle.fkv_seats.specs.Rule.{Changes, Quiet, Ruled, Stepped, led}
use Rattle.fkv_seats.proofs.Keeps.{allows}
use Rattle.fkv_table.specs.declared.happenings.Happening.{Happening}
use Rattle.fkv_table.specs.declared.happenings.Happening.TheVariants.{KeeperMoves}
use Rattle.fkv_table.specs.Asks.{step_of}
use Rattle.fkv_table.specs.Desks.{Slot, Knows}
use Rattle.fkv_table.specs.Events.{event_of}
use Rattle.fkv_table.specs.Keeps.{IsKeeping, KeeperReplied, adding}
use Rattle.fkv_table.specs.Openings.{IsGuardedOpening, IsTableOf}
use Rattle.fkv_table.specs.Planes.{plane}
use Rattle.fkv_table.specs.Positions.{laid, position}
use Rattle.fkv_table.proofs.Laid.{below, laid_found, laid_set}
use Rattle.fkv_table.proofs.Lives.{alive, changed_there, is_there, led_run, slot_facts}
use Rattle.fkv_table.proofs.KeeperNotes.{ask_there, own, places_so, shape_so, there}
use Rattle.fkv_table.proofs.Steps.{few_words, same_some, slot_behind, step_word, weaken}

-- what the keeper's step turns to behind the reply
abbrev turned_to : List ℕ → Bool → Shape → Places → KeeperState → Option ℕ
turned_to words granted shape p s = slot_of_step (keeper_ask shape p s) (keeper_ask shape p (keeper_next shape p s (reply_to words (keeper_ask shape p s)) granted))

module _ {K : Type 0} (at : K → World) where
  module _ (key : K) (me : Me Slot (Knows K)) (k : KeeperModel) (guard : IsGuardedOpening (at key)) (its : IsKeeping at key me k) where
    abbrev w : World
    w = at key

    abbrev ask : Ask KeeperTold
    ask = keeper_ask k.shape k.places k.state

    pub low : (place : ℕ) → asked_place ask ≡ Some place → place < word_count w.now.places
    low place e =
        life_keeper_within w guard.start (map event_of me.0.seen) place guard.guarded guard.seeks
        (ap (λ (x : World). asked_place (keeper_ask x.now.shape x.now.places x.now.keeper)) (sym (led_run at w me.0.seen)) ∙ (ap asked_place (ask_there at key me k guard its [] tt) ∙ e))

    -- its step changes the word of its ask, as the ask does
    changes : (granted : Bool) (place : ℕ) → asked_place ask ≡ Some place → Changes (plane at) key me.0 [] (KeeperMoves granted true) (position place) (asked ask)
    unfolding led
    changes granted place e others q =
        let x : World = led (plane at) w (others ++ me.0.seen) in
        let words : List ℕ = x.now.words in
        let inside : place < length words = is_there at w guard (others ++ me.0.seen) place (low place e) in
        let moved : (happens x (event_of (KeeperMoves granted true))).now.words ≡ set words place (asked ask (get_or words place 0)) =
        keeper_writes x granted true (alive at w (others ++ me.0.seen) guard.opened.goes_on) ∙ (ap (words_after words) (ask_there at key me k guard its others q) ∙ changed_there words ask place e) in
        ap laid moved ∙ (laid_set words place (asked ask (get_or words place 0)) inside ∙ ap (λ (n : ℕ). set (laid words) (position place) (asked ask n)) (sym (laid_found words place inside)))

    pub names_so : (granted : Bool) (others : List Happening) → Quiet (plane at) me.0.role others → (place : ℕ) → asked_place ask ≡ Some place
        → slot_named (led (plane at) w (others ++ me.0.seen)).now (event_of (KeeperMoves granted true))
        ≡ slot_asked (keeper_ask k.shape k.places (keeper_next k.shape k.places k.state (reply_to (led (plane at) w (others ++ me.0.seen)).now.words ask) granted))
    names_so granted others q place e =
        let x : World = led (plane at) w (others ++ me.0.seen) in
        let shape : x.now.shape ≡ k.shape = shape_so at w (others ++ me.0.seen) ∙ sym its.shape in
        let places : x.now.places ≡ k.places = places_so at w (others ++ me.0.seen) ∙ sym its.places in
        let stood : x.now.keeper ≡ k.state = there at key me k guard its others q in
        (λ i. turned_to x.now.words granted (shape i) (places i) (stood i)) ∙ slot_behind ask (keeper_ask k.shape k.places (keeper_next k.shape k.places k.state (reply_to x.now.words ask) granted)) place e

  pub may_keep : (key : K) (slots id : ℕ) (me : Me Slot (Knows K)) (k : KeeperModel) (event : Happening) (granted : Bool) (asks : Ask KeeperTold) → IsGuardedOpening (at key) → IsKeeping at key me k → event ≡ KeeperMoves granted true
      → asks ≡ keeper_ask k.shape k.places k.state → (place : ℕ) → asked_place asks ≡ Some place → Allows (Ruled (plane at) key) slots id me (position place) (asked asks) (adding at event (step_of slots asks) me)
  may_keep key slots id me k event granted asks guard its is same place e =
      let named : asked_place (keeper_ask k.shape k.places k.state) ≡ Some place = ap asked_place (sym same) ∙ e in
      let word_is = step_word slots asks place e in
      let done = allows (plane at) key slots id me.0 me.1 (position place) (asked (keeper_ask k.shape k.places k.state)) [] (KeeperMoves granted true) (slot_facts at (at key) guard) (own at key me k guard its (KeeperMoves granted true) refl, tt) (refl, tt)
      (record { words = λ es. refl; actions = λ es. refl }) its.hand (changes key me k guard its granted place named) in
      let same_ask : Allows (Ruled (plane at) key) slots id me (position place) (asked asks) (λ n m'. Stepped (plane at) (at key) me.0 me.1 (position place) [] (KeeperMoves granted true) n m') =
      subst (λ (a : Ask KeeperTold). Allows (Ruled (plane at) key) slots id me (position place) (asked a) (λ n m'. Stepped (plane at) (at key) me.0 me.1 (position place) [] (KeeperMoves granted true) n m')) (sym same) done in
      weaken at key slots id me (position place) (asked asks) (λ n m'. Stepped (plane at) (at key) me.0 me.1 (position place) [] (KeeperMoves granted true) n m') (adding at event (step_of slots asks) me)
      (λ n m' t other about. subst (λ (x : K × ℕ × Happening). Stepped (plane at) (at x.0) me.0 me.1 x.1 [] x.2 n m') (λ i. (same_some key other (sym its.about ∙ about) i, sym word_is i, sym is i)) t)
      same_ask

  pub keeper_within : (key : K) (id : TableId) (me : Me Slot (Knows K)) (k : KeeperModel) (asks : Ask KeeperTold) → IsTableOf (at key) id → IsKeeping at key me k → asks ≡ keeper_ask k.shape k.places k.state
      → (place : ℕ) × (asked_place asks ≡ Some place) → (place : ℕ) × (asked_place asks ≡ Some place) × (position place < id.words) × (place < 2 ^ 62)
  unfolding led
  keeper_within key id me k asks table its same (place, e) =
      let few = low key me k table.opening its place (ap asked_place (sym same) ∙ e) in
      let inside : place < length (at key).now.words = is_there at (at key) table.opening [] place few in
      (place, e, subst (λ (count : ℕ). position place < count) (sym table.words) (below place (length (at key).now.words) inside), few_words (at key).now.places place few)

  pub keeper_replies : (key : K) (slots : ℕ) (me me' : Me Slot (Knows K)) (k k' : KeeperModel) (event : Happening) (granted : Bool) (asks : Ask KeeperTold) (reply : ℕ) → IsGuardedOpening (at key) → IsKeeping at key me k → event ≡ KeeperMoves granted true
      → asks ≡ keeper_ask k.shape k.places k.state → (place : ℕ) × (asked_place asks ≡ Some place) → adding at event (step_of slots asks) me reply me' → k' ≡ record k { state = keeper_next k.shape k.places k.state reply granted }
      → KeeperReplied at key me granted k me' k'
  keeper_replies key slots me me' k k' event granted asks reply guard its is same (place, e) told went =
      let t = told key its.about in
      let named : asked_place (keeper_ask k.shape k.places k.state) ≡ Some place = ap asked_place (sym same) ∙ e in
      let x : World = led (plane at) (at key) (t.others ++ me.0.seen) in
      let inside = is_there at (at key) guard (t.others ++ me.0.seen) place (low key me k guard its place named) in
      let reply_is : reply ≡ reply_to x.now.words (keeper_ask k.shape k.places k.state) =
      t.found ∙ (ap (λ (i : ℕ). slice_index_or (laid x.now.words) i 0) (step_word slots asks place e) ∙ (laid_found x.now.words place inside ∙ ap (word_found x.now.words) (sym named))) in
      let state_so : k'.state ≡ keeper_next k.shape k.places k.state (reply_to x.now.words (keeper_ask k.shape k.places k.state)) granted =
      ap (λ (z : KeeperModel). z.state) went ∙ ap (λ (n : ℕ). keeper_next k.shape k.places k.state n granted) reply_is in
      record {
        store = (ap (λ (z : KeeperModel). z.shape) went, ap (λ (z : KeeperModel). z.places) went);
        others = t.others;
        quiet = t.quiet;
        allowed = t.allowed;
        seen = t.seen ∙ ap (λ (h : Happening). h ∷ (t.others ++ me.0.seen)) is;
        about = t.about;
        role = t.role;
        state = state_so;
        hand = t.hand ∙ (ap (λ (h : Happening). slot_named x.now (event_of h)) is ∙ (names_so key me k guard its granted t.others t.quiet place named ∙ ap (λ (s : KeeperState). slot_asked (keeper_ask k.shape k.places s)) (sym state_so)));
        carries = t.carries;
      }
