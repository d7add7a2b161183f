-- At every moment of a run a session has counted the asks of words that were replied to since its call began.
use Rattle.std.proofs.Common.{◌≡◌, ℕ, ◌+◌, ◌∙◌, List, [], ◌∷◌, arith, Bool, true, false}
use Rattle.std.specs.Prelude.{◌^◌, ◌-◌, min, if◌then◌else◌}
use Rattle.fkv_map.specs.declared.operations.Call.{Call}
use Rattle.fkv_plane.specs.declared.asks.Ask.{Ask}
use Rattle.fkv_plane.specs.declared.asks.Ask.TheVariants.{Load, Store, Swap, Cas, Add, Max, Put, Take, Done}
use Rattle.fkv_session.specs.declared.answers.Told.{Told}
use Rattle.fkv_session.specs.Counted.{and_one_of_a_word, words_replied_by, words_replied, AreAsksCounted}
use Rattle.fkv_session.specs.Sessions.{SessionState, Seat, is_busy, session_ask, asks_after, is_word_ask, IsOpened}
use Rattle.fkv_session.specs.SessionRun.{SessionEvent, Begins, Replies, Gets, begins, session_happens, session_run}
use Rattle.fkv_session.proofs.RoomKept.{HasRoomNow, reply_keeps, action_keeps, begun_keeps, run_room}

one_more : (asks earlier : ℕ) → asks ≡ min earlier (2 ^ 64 - 1) → asks_after asks true ≡ min (earlier + 1) (2 ^ 64 - 1)
one_more asks earlier same = omega (arith, same)

word_counted : (ask : Ask Told) (asks earlier : ℕ) → asks ≡ min earlier (2 ^ 64 - 1) → asks_after asks (is_word_ask ask) ≡ min (and_one_of_a_word ask earlier) (2 ^ 64 - 1)
word_counted (Load place) asks earlier same = one_more asks earlier same
word_counted (Store place word) asks earlier same = one_more asks earlier same
word_counted (Swap place word) asks earlier same = one_more asks earlier same
word_counted (Cas place old new) asks earlier same = one_more asks earlier same
word_counted (Add place word) asks earlier same = one_more asks earlier same
word_counted (Max place word) asks earlier same = one_more asks earlier same
word_counted (Put slot action) asks earlier same = same
word_counted (Take slot) asks earlier same = same
word_counted (Done its) asks earlier same = same

begins_counted : (k : Seat) (s : SessionState) (busy : Bool) (its : Call) (earlier : ℕ) → HasRoomNow s → s.asks ≡ min earlier (2 ^ 64 - 1) → (begins k s busy its).asks ≡ min (if busy then earlier else 0) (2 ^ 64 - 1)
begins_counted k s true its earlier now same = same
begins_counted k s false its earlier now same = let none = (begun_keeps k s its now.few).counted in omega (arith, none)

event_counted : (k : Seat) (s : SessionState) (event : SessionEvent) (earlier : ℕ) → HasRoomNow s → s.asks ≡ min earlier (2 ^ 64 - 1) → (session_happens k s event).asks ≡ min (words_replied_by k s event earlier) (2 ^ 64 - 1)
unfolding session_happens
event_counted k s (Begins its) earlier now same = begins_counted k s (is_busy s.step) its earlier now same
event_counted k s (Replies reply) earlier now same = (reply_keeps k s reply now.few now.room).counted ∙ word_counted (session_ask k s) s.asks earlier same
event_counted k s (Gets action) earlier now same = (action_keeps k s action now.few now.room).counted ∙ same

pub run_counted : (k : Seat) (opening : SessionState) (events : List SessionEvent) → IsOpened opening → AreAsksCounted k opening events
unfolding session_run words_replied
run_counted k opening [] opened = opened.no_asks
run_counted k opening (event ∷ before) opened =
    event_counted k (session_run k opening before) event (words_replied k opening before) (run_room k opening before opened) (run_counted k opening before opened)
