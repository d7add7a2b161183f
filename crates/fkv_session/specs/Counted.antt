-- How many asks of words a session has had replied to since its last call began.
use Rattle.std.specs.Prelude.{◌≡◌, ℕ, ◌+◌, ◌-◌, ◌^◌, min, if◌then◌else◌, List, [], ◌∷◌}
use Rattle.fkv_plane.specs.declared.asks.Ask.{Ask}
use Rattle.fkv_plane.specs.declared.asks.Ask.TheVariants.{Load, Store, Swap, Cas, Add, Max}
use Rattle.fkv_session.specs.declared.answers.Told.{Told}
use Rattle.fkv_session.specs.Sessions.{SessionState, Seat, is_busy, session_ask}
use Rattle.fkv_session.specs.SessionRun.{SessionEvent, Begins, Replies, session_run}

-- one for an ask of a word; what goes with it, and an answer, is none
abbrev pub and_one_of_a_word : Ask Told → ℕ → ℕ
and_one_of_a_word (Load place) earlier = earlier + 1
and_one_of_a_word (Store place word) earlier = earlier + 1
and_one_of_a_word (Swap place word) earlier = earlier + 1
and_one_of_a_word (Cas place old new) earlier = earlier + 1
and_one_of_a_word (Add place word) earlier = earlier + 1
and_one_of_a_word (Max place word) earlier = earlier + 1
and_one_of_a_word ask earlier = earlier

-- a call begins where none is in hand, with none replied to
abbrev pub words_replied_by : Seat → SessionState → SessionEvent → ℕ → ℕ
words_replied_by k s (Begins its) earlier = if is_busy s.step then earlier else 0
words_replied_by k s (Replies reply) earlier = and_one_of_a_word (session_ask k s) earlier
words_replied_by k s event earlier = earlier

unfoldable pub words_replied : Seat → SessionState → List SessionEvent → ℕ
words_replied k opening [] = 0
words_replied k opening (event ∷ before) = words_replied_by k (session_run k opening before) event (words_replied k opening before)

-- The session counts them, as far as a word goes.
abbrev pub AreAsksCounted : Seat → SessionState → List SessionEvent → Type 0
AreAsksCounted k opening events = (session_run k opening events).asks ≡ min (words_replied k opening events) (2 ^ 64 - 1)
