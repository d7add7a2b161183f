-- What sessions are told by the words of the store where that is true of the log, and how their tickets stand apart.
use Rattle.std.specs.Prelude.{◌≡◌, ℕ, true, List, [], ◌∷◌, slice_get, Some}
use Rattle.law_log.specs.Ghosts.{Log}
use Rattle.law_commit.specs.Below.fkv_pending.TheAttempting.TheVariants.{Looks}
use Rattle.law_commit.specs.Below.fkv_pending.RequestName.{RequestName}
use Rattle.fkv_plane.specs.Asked.{reply_to}
use Rattle.law_commit.specs.Below.fkv_session.Accounts.{names_of}
use Rattle.law_commit.specs.Below.fkv_session.Sessions.{SessionState, session_ask}
use Rattle.law_commit.specs.Below.law_local.Sessions.Known.{is_attempting}
use Rattle.law_commit.specs.Below.law_local.Tries.AttemptRows.{IsTrueOfAttempt}
use Rattle.law_commit.specs.Below.law_local.Tries.MailRows.{IsTrueOfLook}
use Rattle.law_commit.specs.Below.law_local.Tries.TryRows.{floor_in}
use Rattle.law_commit.specs.Below.fkv_world.Runs.{World, run}
use Rattle.law_commit.specs.Below.fkv_world.World.{Event, Now, seat_at}

-- the reply that the words give to a session's ask
abbrev pub reply_in : Now → ℕ → SessionState → ℕ
reply_in n session s = reply_to n.words (session_ask (seat_at n session) s)

-- it is true of the log, for the attempt that is under way
abbrev pub IsToldTruly : (ℕ → ℕ) → Log → Now → ℕ → SessionState → Type 0
IsToldTruly home log n session s = is_attempting s.step ≡ true → IsTrueOfAttempt home log n.places s.attempt s.attempt.step (reply_in n session s)

abbrev pub AreToldTruly : (ℕ → ℕ) → Log → Now → Type 0
AreToldTruly home log n = (session : ℕ) (s : SessionState) → slice_get n.sessions session ≡ Some s → IsToldTruly home log n session s

-- so it is of what is loaded from the mailbox
abbrev pub LooksTruly : Log → Now → ℕ → SessionState → Type 0
LooksTruly log n session s = is_attempting s.step ≡ true → s.attempt.step ≡ Looks → IsTrueOfLook log (floor_in s.attempt.pending.request) s.attempt.pending.sought s.attempt.mailing (reply_in n session s)

abbrev pub LookTruly : Log → Now → Type 0
LookTruly log n = (session : ℕ) (s : SessionState) → slice_get n.sessions session ≡ Some s → LooksTruly log n session s

-- no two requests that wait have one name. Tickets come again when all have been given, so this may fail behind 2^64 - 1 reads that had to wait
abbrev pub AreApart : List RequestName → Type 0
AreApart names = (i j : ℕ) (name : RequestName) → slice_get names i ≡ Some name → slice_get names j ≡ Some name → i ≡ j

abbrev pub NamesAreApart : Now → Type 0
NamesAreApart n = (session : ℕ) (s : SessionState) → slice_get n.sessions session ≡ Some s → AreApart (names_of s.requests)

-- at each moment of a life
unfoldable pub TicketsAreApart : World → List Event → Type 0
TicketsAreApart opening [] = NamesAreApart (run opening []).now
TicketsAreApart opening (event ∷ before) = TicketsAreApart opening before × NamesAreApart (run opening (event ∷ before)).now
