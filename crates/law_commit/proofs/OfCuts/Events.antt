-- An event leaves the words as they were, or makes them what the ask of the session or of the keeper that moves makes of them.
use Rattle.std.proofs.Common.{◌≡◌, ℕ, ◌∙◌, List, [], ◌∷◌, length, refl, sym, subst, Bool, true, false, length-set}
use Rattle.std.specs.Prelude.{Option, Some, None, slice_get}
use Rattle.fkv_map.specs.declared.operations.Call.TheVariants.{Refresh}
use Rattle.fkv_plane.specs.Asked.{word_at, words_after, words_changed}
use Rattle.law_refine.specs.Below.fkv_keeper.Keeping.{keeper_ask}
use Rattle.law_refine.specs.Below.fkv_session.Sessions.{SessionState, session_ask}
use Rattle.law_refine.specs.Below.fkv_world.Runs.{World, happens, run}
use Rattle.law_refine.specs.Below.fkv_world.World.{Event, Calls, Moves, Commits, Turns, KeeperMoves, Crashes, Now, seat_at, session_calls, life_goes}
use Rattle.law_refine.proofs.Below.fkv_world.Shown.{is_over, lives}
use Rattle.law_refine.proofs.Below.law_world.OfRuns.OneWord.{keeper_writes, session_writes}
use Rattle.law_refine.proofs.Below.law_world.OfRuns.Nothing.{no_session}

-- what holds of the words
module _ (P : List ℕ → Type 0) (w : World) where
  -- holds behind the asks that may come
  pub record HoldsBehind (event : Event) : Type 0 where
    pub session : (number : ℕ) (s : SessionState) → event ≡ Moves number → slice_get w.now.sessions number ≡ Some s → P (words_after w.now.words (session_ask (seat_at w.now number) s))
    pub keeper : (granted done : Bool) → event ≡ KeeperMoves granted done → P (words_after w.now.words (keeper_ask w.now.shape w.now.places w.now.keeper))

  called : (number : ℕ) (call : _) (found : Option SessionState) → P w.now.words → P (session_calls w.now number call found).words
  called number call None holds = holds
  called number call (Some s) holds = holds

  moved : (number : ℕ) (found : Option SessionState) → slice_get w.now.sessions number ≡ found → w.now.crashed ≡ false → P w.now.words → HoldsBehind (Moves number) → P (happens w (Moves number)).now.words
  moved number None none alive holds behind = subst (λ (x : World). P x.now.words) (sym (no_session w number Refresh none).1) holds
  moved number (Some s) found alive holds behind = subst P (sym (session_writes w number s alive found)) (behind.session number s refl found)

  alive_words : (event : Event) → w.now.crashed ≡ false → P w.now.words → HoldsBehind event → P (happens w event).now.words
  unfolding life_goes
  alive_words (Calls number call) alive holds behind = subst (λ (n : Now). P n.words) (sym (lives w (Calls number call) alive)) (called number call (slice_get w.now.sessions number) holds)
  alive_words (Moves number) alive holds behind = moved number (slice_get w.now.sessions number) refl alive holds behind
  alive_words (Commits kind) alive holds behind = subst (λ (n : Now). P n.words) (sym (lives w (Commits kind) alive)) holds
  alive_words Turns alive holds behind = subst (λ (n : Now). P n.words) (sym (lives w Turns alive)) holds
  alive_words (KeeperMoves granted done) alive holds behind = subst P (sym (keeper_writes w granted done alive)) (behind.keeper granted done refl)
  alive_words Crashes alive holds behind = subst (λ (n : Now). P n.words) (sym (lives w Crashes alive)) holds

  by_life : (event : Event) (crashed : Bool) → w.now.crashed ≡ crashed → P w.now.words → HoldsBehind event → P (happens w event).now.words
  by_life event true over holds behind = subst (λ (x : World). P x.now.words) (sym (is_over w event over)) holds
  by_life event false alive holds behind = alive_words event alive holds behind

  -- holds behind the event
  pub event_words : (event : Event) → P w.now.words → HoldsBehind event → P (happens w event).now.words
  event_words event holds behind = by_life event w.now.crashed refl holds behind

-- their count stays
changed_length : (words : List ℕ) (at : Option ℕ) (f : ℕ → ℕ) → length (words_changed words at f) ≡ length words
changed_length words None f = refl
changed_length words (Some place) f = length-set words place (f (word_at words place))

pub length_stays : (opening : World) (events : List Event) → length (run opening events).now.words ≡ length opening.now.words
unfolding run
length_stays opening [] = refl
length_stays opening (event ∷ before) =
    event_words (λ words. length words ≡ length opening.now.words) (run opening before) event (length_stays opening before)
    (record {
      session = λ number s moves found. changed_length (run opening before).now.words _ _ ∙ length_stays opening before;
      keeper = λ granted done moves. changed_length (run opening before).now.words _ _ ∙ length_stays opening before;
    })
